use Rattle.std.proofs.Common.{◌↔◌, ◌+◌, vec_len}
use Rattle.capnp_format.specs.Bytes.{message}
use Rattle.capnp_format.specs.Segments.{word_at}
use Rattle.layout_vectors.specs.Counts.{Counting, Counts, IsOnce}
use Rattle.layout_vectors.specs.Marks.{rows_of, free}
use Rattle.layout_vectors.specs.Spots.{spots}
use Rattle.layout_vectors.specs.Walks.{FitsRows}
use Rattle.layout_vectors.proofs.vectors.walk.walk_from_root.Given as goal

abbrev pub invariant-loop-spot : goal.invariant-loop-spot
invariant-loop-spot g l = record {
  fits : FitsRows (message (g.A.ReaderArena.segments l.arena)) (rows_of l.marks);
  marks : IsOnce (word_at (rows_of l.marks));
  same :
      (F : Counting) →
      Counts (message (g.A.ReaderArena.segments l.arena)) (word_at (rows_of l.initial.marks)) (spots 0 0 1) F ↔ Counts (message (g.A.ReaderArena.segments l.arena)) (word_at (rows_of l.marks)) l.pending.items F;
}

abbrev pub decreases-loop-spot : goal.decreases-loop-spot
decreases-loop-spot g l = free (rows_of l.marks) + vec_len l.pending
