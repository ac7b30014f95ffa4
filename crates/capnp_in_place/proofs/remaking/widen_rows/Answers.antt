use Rattle.std.proofs.Common.{rules}
use Rattle.capnp_arena_traits.specs.View.{View}
use Rattle.capnp_in_place.proofs.WiderObjects.AnyRows.{rows_inside}
use Rattle.capnp_in_place.proofs.WiderObjects.WordsOfList.{none_made, rows_make}
use Rattle.capnp_in_place.proofs.Room.GrowthRefused.{outside_spent}
use Rattle.capnp_in_place.specs.RowsRemade.{StoresRows}
use Rattle.capnp_in_place.proofs.remaking.widen_rows.Goals as goal

pub returns-clause-makes : goal.returns-clause-makes
returns-clause-makes g c =
    let a : View = g.A.BuilderArena.view c.args.arena.now in
    let b : View = g.A.BuilderArena.view c.widen_rows_inside.new.arena in
    let e = c.widen_rows_inside.ensures in
    rows_make a b c.args.id c.args.at c.args.old c.args.size c.widen_rows_inside.result e.remakes e.full e.fits

-- What a place stores is inside its segment.
pub returns-then-not-are_inside-clause-makes : goal.returns-then-not-are_inside-clause-makes
returns-then-not-are_inside-clause-makes g c =
    let v : View = g.A.BuilderArena.view c.args.arena.now in
    none_made v c.args.id c.args.at (StoresRows v.words c.args.id c.args.at c.args.old) c.args.size _ (outside_spent v)
    (λ t h. search (rules, rows_inside _ c.args.id c.args.at t c.args.old h))
