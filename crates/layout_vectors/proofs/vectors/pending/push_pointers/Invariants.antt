use Rattle.std.proofs.Common.{◌≡◌, ◌++◌}
use Rattle.layout_vectors.specs.Spots.{spots}
use Rattle.layout_vectors.proofs.vectors.pending.push_pointers.Given as goal

abbrev pub invariant-loop-i : goal.invariant-loop-i
invariant-loop-i l = l.pending.items ≡ l.initial.pending.items ++ spots l.segment l.start l.i
