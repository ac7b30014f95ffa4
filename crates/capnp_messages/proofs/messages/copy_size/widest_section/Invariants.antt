use Rattle.std.proofs.Common.{◌≡◌, ◌+◌, ◌*◌, ◌-◌, ◌≤◌, max}
use Rattle.capnp_format.specs.Bytes.{words_of}
use Rattle.capnp_copies.specs.Widths.{most_used}
use Rattle.capnp_messages.proofs.messages.copy_size.widest_section.Given as goal

abbrev pub invariant-loop : goal.invariant-loop
invariant-loop l =
    record {
      reached : l.at ≡ l.start.at + l.counter * l.stride;
      fits : l.widest ≤ l.words;
      left :
          max l.widest (most_used (words_of l.start.bytes.now) (l.at + l.after) l.words l.stride (l.count - l.counter)) ≡ most_used (words_of l.start.bytes.now) (l.start.at + l.after) l.words l.stride l.count;
    }
