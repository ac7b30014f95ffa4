use Rattle.capnp_pointers.specs.Wanted.{plain}
use Rattle.capnp_pointers.specs.Pointers.{reading}
use Rattle.capnp_copies.specs.Changes.{copy_call, CopiesChildren}
use Rattle.capnp_copies.specs.Originals.{children_original}
use Rattle.capnp_copies.proofs.ObjectsMade.{TakesForCopy}
use Rattle.capnp_builders.proofs.copy.each.copy_each.Given as goal
use Rattle.capnp_allocation.specs.Makes.{call_at}

abbrev pub invariant-loop-i : goal.invariant-loop-i
invariant-loop-i g l =
    CopiesChildren (reading g.B.ReaderArena l.from) l.i (copy_call plain (call_at l.to.segment l.to.at (g.A.BuilderArena.view l.fn.arena) (g.A.BuilderArena.view l.arena)) l.fn.lim l.lim)
    × TakesForCopy (children_original (reading g.B.ReaderArena l.from) l.i) (copy_call plain (call_at l.to.segment l.to.at (g.A.BuilderArena.view l.fn.arena) (g.A.BuilderArena.view l.arena)) l.fn.lim l.lim)
