use Rattle.std.proofs.Common.{◌≡◌}
use Rattle.capnp_words.specs.Meter.{raised}
use Rattle.capnp_messages.proofs.messages.canonical_copy.count_pointers.Given as goal

abbrev pub invariant-loop : goal.invariant-loop
invariant-loop l = record {
  left : l.lim.left ≡ l.initial.lim.left;
  counted : l.lim.followed ≡ raised l.initial.lim.followed l.counter;
}
