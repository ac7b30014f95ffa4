use Rattle.std.proofs.Common.{◌≡◌, ℕ, ◌+◌, ◌-◌, ◌++◌, length, OnOk, subst, arith}
use Rattle.capnp_arena_traits.specs.View.{View}
use Rattle.capnp_format.specs.Numbers.{words_for}
use Rattle.capnp_format.specs.Segments.{Segments}
use Rattle.capnp_format.specs.Tree.{Flat}
use Rattle.capnp_allocation.specs.Made.{words_of_zero}
use Rattle.capnp_allocation.specs.Makes.{MakesObject, call_at}
use Rattle.capnp_allocation.specs.Stored.{PutsOnceZeroed}
use Rattle.capnp_in_place.proofs.Room.PlacesStay.{object_grows}
use Rattle.capnp_in_place.proofs.bytes.set_text.Goals as goal

-- One byte more: a zero byte after the others.
pub returns-clause-object : goal.returns-clause-object
returns-clause-object g c =
    let old : View = g.A.BuilderArena.view c.args.arena.now in
    let new : View = g.A.BuilderArena.view c.set_bytes.new.arena in
    let n : ℕ = length c.args.from.now in
    let one : n + 1 - n ≡ 1 = omega arith in
    subst (λ k. MakesObject c.set_bytes.result (call_at c.args.id c.args.at old new) (Flat 2 (c.args.from.now ++ words_of_zero k)) (words_for 2 (n + 1))) one c.set_bytes.ensures.object

pub returns-clause-once_zeroed : goal.returns-clause-once_zeroed
returns-clause-once_zeroed g c =
    let S : Segments = (g.A.BuilderArena.view c.args.arena.now).words in
    let R : Segments = (g.A.BuilderArena.view c.set_bytes.new.arena).words in
    let n : ℕ = length c.args.from.now in
    let one : n + 1 - n ≡ 1 = omega arith in
    subst (λ k. OnOk c.set_bytes.result (PutsOnceZeroed S R c.args.id c.args.at (Flat 2 (c.args.from.now ++ words_of_zero k)))) one c.set_bytes.ensures.once_zeroed

pub returns-clause-grows : goal.returns-clause-grows
returns-clause-grows g c = object_grows c.set_bytes.result c.set_bytes.ensures.object
