use Rattle.std.proofs.Common.{arith}
use Rattle.capnp_arena_traits.specs.View.{View}
use Rattle.capnp_allocation.proofs.Outcomes.{if_ok_so}
use Rattle.capnp_in_place.specs.Opening.{existing_struct}
use Rattle.capnp_in_place.proofs.WiderObjects.WhichList.{if_err_both}
use Rattle.capnp_in_place.proofs.OpenedForWriting.StructsOpened.{known_opened, struct_unwidened}
use Rattle.capnp_in_place.proofs.opening.open_narrow_struct.Goals as goal

pub returns-clause-opened : goal.returns-clause-opened
returns-clause-opened g c = λ t stored found.
    (let e = c.widen_existing.ensures in
    known_opened (g.A.BuilderArena.view c.args.arena.now) (g.A.BuilderArena.view c.widen_existing.new.arena) c.args.place.segment c.args.place.at t (existing_struct c.args.start c.args.narrow) c.args.size c.widen_existing.result stored found c.requires.known
    c.requires.narrow e.wider e.size e.full e.few)

pub returns-clause-wide : goal.returns-clause-wide
returns-clause-wide g c = if_ok_so c.widen_existing.result _ _ c.widen_existing.ensures.size (λ e sizes. (omega (arith, sizes.0), omega (arith, sizes.1)))

pub returns-clause-named : goal.returns-clause-named
returns-clause-named g c =
    let a : View = g.A.BuilderArena.view c.args.arena.now in
    let b : View = g.A.BuilderArena.view c.widen_existing.new.arena in
    if_err_both c.widen_existing.result _ _ _ c.widen_existing.ensures.wider.memory c.widen_existing.ensures.full
    (λ k memory full. struct_unwidened a b c.args.place.segment c.args.place.at (existing_struct c.args.start c.args.narrow) c.args.size k c.requires.known memory full)

pub returns-clause-memory : goal.returns-clause-memory
returns-clause-memory g c = record {
  granted = (c.widen_existing.ensures.wider.granted);
  refused = (c.widen_existing.ensures.wider.memory);
}
