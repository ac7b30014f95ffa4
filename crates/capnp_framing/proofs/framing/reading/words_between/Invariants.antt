use Rattle.std.proofs.Common.{◌≡◌, ◌+◌, ◌-◌, ◌*◌, ◌≤◌}
use Rattle.capnp_framing.specs.Reading.{max_length, words_told}
use Rattle.capnp_framing.proofs.framing.reading.words_between.Given as goal

abbrev pub invariant-loop-i : goal.invariant-loop-i
invariant-loop-i l = record { sum : words_told l.first l.table + l.words ≡ words_told l.i l.table; small : l.words ≤ max_length * (l.i - l.first) }
