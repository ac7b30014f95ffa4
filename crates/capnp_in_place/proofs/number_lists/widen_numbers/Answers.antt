use Rattle.std.proofs.Common.{rules}
use Rattle.capnp_arena_traits.specs.View.{View}
use Rattle.capnp_in_place.proofs.WiderObjects.WordsOfList.{none_made, numbers_make}
use Rattle.capnp_in_place.proofs.WiderObjects.NumberListBySteps.{numbers_inside}
use Rattle.capnp_in_place.proofs.Room.GrowthRefused.{outside_spent}
use Rattle.capnp_in_place.specs.RowsRemade.{IsList}
use Rattle.capnp_in_place.proofs.number_lists.widen_numbers.Goals as goal

pub returns-clause-makes : goal.returns-clause-makes
returns-clause-makes g c =
    let a : View = g.A.BuilderArena.view c.args.arena.now in
    let b : View = g.A.BuilderArena.view c.widen_numbers_inside.new.arena in
    let e = c.widen_numbers_inside.ensures in
    numbers_make a b c.args.id c.args.at c.args.old c.args.size c.widen_numbers_inside.result c.requires.kind.0 c.requires.kind.1 e.made e.refused e.full e.few e.fits

-- What a place stores is inside its segment.
pub returns-then-not-are_numbers_inside-clause-makes : goal.returns-then-not-are_numbers_inside-clause-makes
returns-then-not-are_numbers_inside-clause-makes g c =
    let v : View = g.A.BuilderArena.view c.args.arena.now in
    none_made v c.args.id c.args.at (IsList v.words c.args.id c.args.at c.args.old) c.args.size _ (outside_spent v)
    (λ t h. search (rules, numbers_inside _ c.args.id c.args.at t c.args.old c.requires.kind.1 h))
