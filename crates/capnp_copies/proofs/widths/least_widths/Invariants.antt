use Rattle.std.proofs.Common.{◌≡◌, ◌+◌, ◌*◌, ◌-◌, ◌≤◌, max}
use Rattle.capnp_format.specs.Bytes.{words_of}
use Rattle.capnp_copies.proofs.Scanning.{data_used, pointers_used}
use Rattle.capnp_copies.proofs.widths.least_widths.Given as goal

abbrev pub invariant-loop-i : goal.invariant-loop-i
invariant-loop-i l =
    record {
      reached : l.at ≡ l.start + l.i * (l.data_words + l.pointers);
      data_fits : l.least_data ≤ l.data_words;
      pointers_fit : l.least_pointers ≤ l.pointers;
      data_left :
          max l.least_data (data_used (words_of l.bytes) l.at l.data_words l.pointers (l.count - l.i)) ≡ data_used (words_of l.bytes) l.start l.data_words l.pointers l.count;
      pointers_left :
          max l.least_pointers (pointers_used (words_of l.bytes) l.at l.data_words l.pointers (l.count - l.i)) ≡ pointers_used (words_of l.bytes) l.start l.data_words l.pointers l.count;
    }
