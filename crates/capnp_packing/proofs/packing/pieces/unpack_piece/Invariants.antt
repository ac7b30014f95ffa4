use Rattle.std.proofs.Common.{◌-◌, length}
use Rattle.capnp_packing.proofs.PieceLemmas.{Reached}
use Rattle.capnp_packing.proofs.packing.pieces.unpack_piece.Given as goal

abbrev pub invariant-loop-to : goal.invariant-loop-to
invariant-loop-to l = Reached l.fn.zeros l.fn.place l.packed l.to l.done

abbrev pub decreases-loop-to : goal.decreases-loop-to
decreases-loop-to l = length l.packed - l.done.taken
