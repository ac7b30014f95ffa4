use Rattle.std.proofs.lemmas.Result.{err_from_is_err_and}
use Rattle.std.proofs.Common.{◌+◌, false, refl}
use Rattle.capnp_arena_traits.specs.View.{View}
use Rattle.capnp_allocation.proofs.MadeWords.{word_put}
use Rattle.capnp_allocation.proofs.Taken.{leads_behind}
use Rattle.capnp_in_place.proofs.OpenedForWriting.StructsOpened.{struct_made, struct_unmade, no_truth}
use Rattle.capnp_in_place.proofs.Room.PlacesStay.{replaced_grows}
use Rattle.capnp_in_place.proofs.opening.new_struct.Goals as goal

pub returns-clause-behind : goal.returns-clause-behind
returns-clause-behind g c =
    leads_behind (g.A.BuilderArena.view c.args.arena.now) (g.A.BuilderArena.view c.make_struct.new.arena) c.args.id c.args.at (c.args.size.data_words + c.args.size.pointers) c.in_ok-start.start c.in_ok-start.ensures.start.leads c.in_ok-start.ensures.start.behind

pub returns-clause-opened : goal.returns-clause-opened
returns-clause-opened g c =
    let a : View = g.A.BuilderArena.view c.args.arena.now in
    let b : View = g.A.BuilderArena.view c.make_struct.new.arena in
    struct_made a b c.args.id c.args.at c.args.size c.in_ok-start.start c.in_ok-start.ensures.made c.in_ok-start.ensures.memory.granted
    c.in_ok-start.ensures.memory.taken (returns-clause-behind g c) c.in_ok-start.ensures.start.leads

-- The struct doesn't fit anywhere.
pub returns-in_err-start-clause-opened : goal.returns-in_err-start-clause-opened
returns-in_err-start-clause-opened g c =
    let p = err_from_is_err_and c.from_residual.result c.from_residual.ensures.1 in rw (p.1, p.2) (struct_unmade (g.A.BuilderArena.view c.args.arena.now) (g.A.BuilderArena.view c.make_struct.new.arena) c.args.id c.args.at c.args.size _ c.requires.place c.requires.null
    c.in_err-start.ensures.refused c.in_err-start.ensures.memory.named (λ room. no_truth false refl (c.in_err-start.ensures.memory.fits room)))

pub returns-clause-empty : goal.returns-clause-empty
returns-clause-empty g c = λ none.
    (word_put (g.A.BuilderArena.view c.args.arena.now).words (g.A.BuilderArena.view c.make_struct.new.arena).words c.args.id c.args.at _ c.requires.place (c.in_ok-start.ensures.empty none)).here

pub returns-clause-grows : goal.returns-clause-grows
returns-clause-grows g c = replaced_grows c.in_ok-start.ensures.made
