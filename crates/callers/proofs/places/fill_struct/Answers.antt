use Rattle.std.proofs.Common.{ℕ, List, [], ◌∷◌, ◌++◌, cond, arith}
use Rattle.capnp_format.specs.Tree.{Flat, Trees}
use Rattle.capnp_format.specs.Fields.{put_field}
use Rattle.capnp_allocation.specs.Made.{words_of_zero}
use Rattle.capnp_format.specs.Path.{put_tree}
use Rattle.callers.proofs.places.fill_struct.Goals as goal

-- The clauses of the calls, one after another.
pub returns : goal.returns
returns g c = λ x ws ts h.
    (let first : List ℕ = put_field ws 0 32 c.args.id in
    let second : List ℕ = put_field first 32 1 (cond c.args.is_new 1 0) in
    let third : List ℕ = put_field second 48 16 c.args.score in
    let named : Trees = put_tree ts 0 (Flat 2 (c.args.name.now ++ 0 ∷ [])) in
    let texted = c.in_ok-set_text.ensures.child.sets x third ts (c.set_number-2.ensures.sets x second ts (c.set_bool.ensures.sets x first ts (c.set_number.ensures.sets x ws ts h))) in
    c.set_element.ensures.sets_child x c.args.place third named 1 3 (words_of_zero c.args.count) (omega (arith, c.requires.many)) (c.in_ok-scores.ensures.made x third named texted) (c.in_ok-scores.ensures.child.sets x third named texted))
