use Rattle.std.proofs.Common.{◌≡◌, ◌/◌, List, ℕ, length, map, take, replicate, vec_items}
use Rattle.std.specs.Borrow.{Bor}
use Rattle.layout_vectors.proofs.vectors.marks.Marks.new.Given as goal

abbrev pub invariant-loop-segment : goal.invariant-loop-segment
invariant-loop-segment l = map vec_items l.rows.items ≡ map (λ (s : Bor (List ℕ)). replicate (length s.now / 8) 0) (take l.segment-index l.segments)
