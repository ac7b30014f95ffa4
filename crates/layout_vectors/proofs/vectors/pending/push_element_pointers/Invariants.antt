use Rattle.std.proofs.Common.{◌≡◌, ◌+◌, ◌*◌, ◌++◌}
use Rattle.layout_vectors.specs.Spots.{element_spots}
use Rattle.layout_vectors.proofs.vectors.pending.push_element_pointers.Given as goal

abbrev pub invariant-loop-i : goal.invariant-loop-i
invariant-loop-i l = record {
  place : l.at ≡ l.start + l._i * (l.size.data_words + l.size.pointers);
  put : l.pending.items ≡ l.initial.pending.items ++ element_spots l.segment l.start l.size.data_words l.size.pointers l._i;
}
