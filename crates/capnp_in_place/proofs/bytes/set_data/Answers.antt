use Rattle.std.proofs.Common.{◌≡◌, ℕ, ◌-◌, List, ◌++◌, length, OnOk, subst, ap, ◌∙◌, arith}
use Rattle.std.proofs.lemmas.List.{append-nil}
use Rattle.capnp_arena_traits.specs.View.{View}
use Rattle.capnp_format.specs.Numbers.{words_for}
use Rattle.capnp_format.specs.Segments.{Segments}
use Rattle.capnp_format.specs.Tree.{Flat}
use Rattle.capnp_allocation.specs.Made.{words_of_zero}
use Rattle.capnp_allocation.specs.Makes.{MakesObject, call_at}
use Rattle.capnp_allocation.specs.Stored.{PutsOnceZeroed}
use Rattle.capnp_in_place.proofs.Room.PlacesStay.{object_grows}
use Rattle.capnp_in_place.proofs.bytes.set_data.Goals as goal

-- No zero bytes follow.
all_bytes : (xs : List ℕ) → xs ++ words_of_zero (length xs - length xs) ≡ xs
all_bytes xs =
    let none : length xs - length xs ≡ 0 = omega arith in
    ap (λ k. xs ++ words_of_zero k) none ∙ append-nil xs

pub returns-clause-object : goal.returns-clause-object
returns-clause-object g c =
    let old : View = g.A.BuilderArena.view c.args.arena.now in
    let new : View = g.A.BuilderArena.view c.set_bytes.new.arena in
    subst (λ ys. MakesObject c.set_bytes.result (call_at c.args.id c.args.at old new) (Flat 2 ys) (words_for 2 (length c.args.from.now))) (all_bytes c.args.from.now) c.set_bytes.ensures.object

pub returns-clause-once_zeroed : goal.returns-clause-once_zeroed
returns-clause-once_zeroed g c =
    let S : Segments = (g.A.BuilderArena.view c.args.arena.now).words in
    let R : Segments = (g.A.BuilderArena.view c.set_bytes.new.arena).words in
    subst (λ ys. OnOk c.set_bytes.result (PutsOnceZeroed S R c.args.id c.args.at (Flat 2 ys))) (all_bytes c.args.from.now) c.set_bytes.ensures.once_zeroed

pub returns-clause-grows : goal.returns-clause-grows
returns-clause-grows g c = object_grows c.set_bytes.result c.set_bytes.ensures.object
