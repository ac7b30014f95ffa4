use Rattle.std.proofs.Common.{refl, ap, ℕ, ◌<◌, [], ◌∷◌, arith}
use Rattle.capnp_allocation.proofs.Memory.{words_in}
use Rattle.capnp_allocation.proofs.Zeros.{words_zeroed, in_row}
use Rattle.std.proofs.lemmas.Bool.{false≢true}
use Rattle.capnp_format.specs.Segments.{Segments}
use Rattle.capnp_allocation.specs.Zeroed.{row, IsZeroed}
use Rattle.capnp_allocation.proofs.zeroing.zero_if_inside.Goals as goal

pub returns-then-is_nonempty_inside-clause-pruned : goal.returns-then-is_nonempty_inside-clause-pruned
returns-then-is_nonempty_inside-clause-pruned g c =
    let (some, inside) = c.if-is_nonempty_inside.ensures.0 refl in
    (words_zeroed (g.A.BuilderArena.view c.args.arena.now).words _ c.args.id c.args.start c.args.n some inside (ap words_in c.zero_words.ensures)).1

pub returns-then-is_nonempty_inside-clause-zeroed : goal.returns-then-is_nonempty_inside-clause-zeroed
returns-then-is_nonempty_inside-clause-zeroed g c = λ _.
    (let (some, inside) = c.if-is_nonempty_inside.ensures.0 refl in
    (words_zeroed (g.A.BuilderArena.view c.args.arena.now).words _ c.args.id c.args.start c.args.n some inside (ap words_in c.zero_words.ensures)).0)

-- There are no words, so they are zero already.
none_zeroed : (S : Segments) (s p n : ℕ) → (0 < n → ⊥) → IsZeroed S S (row s p n ∷ [])
none_zeroed S s p n none = record {
  segments = refl;
  words = λ v. refl;
  zero = λ v r held. absurd (none (let found = in_row s p n v r held in omega (arith, found)));
  kept = λ v r _. refl;
}

pub returns-else-is_nonempty_inside-clause-zeroed : goal.returns-else-is_nonempty_inside-clause-zeroed
returns-else-is_nonempty_inside-clause-zeroed g c = λ inside.
    none_zeroed (g.A.BuilderArena.view c.args.arena.now).words c.args.id c.args.start c.args.n (λ some. false≢true (c.if-is_nonempty_inside.ensures.1 (some, inside)))

pub returns-then-is_nonempty_inside-clause-beyond : goal.returns-then-is_nonempty_inside-clause-beyond
returns-then-is_nonempty_inside-clause-beyond g c = λ out.
    (let (some, inside) = c.if-is_nonempty_inside.ensures.0 refl in absurd (omega (arith, out, inside)))
