use Rattle.capnp_format.specs.Segments.{Segments}
use Rattle.capnp_allocation.proofs.Zeros.{pruned_again}
use Rattle.capnp_allocation.proofs.Memory.{limits_again}
use Rattle.capnp_in_place.proofs.MovedPointers.PadsZeroed.{unmoves_next}
use Rattle.capnp_in_place.proofs.moving.zero_pads_of_row.Goals as goal

pub loop-i-preserved : goal.loop-i-preserved
loop-i-preserved g c =
    let S : Segments = (g.A.BuilderArena.view c.args.arena.now).words in
    let M : Segments = (g.A.BuilderArena.view c.loop-i.arena).words in
    let R : Segments = (g.A.BuilderArena.view c.zero_pads_of_pointer.new.arena).words in
    record {
      zeroed = unmoves_next S M R c.args.from.segment c.args.from.at c.args.to.segment c.args.to.at c.loop-i.i c.loop-i.invariant.zeroed c.zero_pads_of_pointer.ensures.zeroed;
      pruned = pruned_again _ _ _ c.loop-i.invariant.pruned c.zero_pads_of_pointer.ensures.pruned;
      limits = limits_again (g.A.BuilderArena.view c.args.arena.now) (g.A.BuilderArena.view c.loop-i.arena)
          (g.A.BuilderArena.view c.zero_pads_of_pointer.new.arena) c.loop-i.invariant.limits
          c.zero_pads_of_pointer.ensures.limits;
    }
