-- Words written over others of a segment.
use Rattle.std.proofs.Common.{◌≡◌, ◌⊎◌, inl, inr, ℕ, zero, suc, ◌+◌, ◌<◌, ◌≤◌, List, [], ◌∷◌, ◌++◌, length, take, drop, refl, sym, ap, ◌∙◌, subst, arith, length-take, take-append-drop, drop_at}
use Rattle.std.proofs.lemmas.List.{length-set}
use Rattle.std.proofs.Math.Seq.{take-append_seam}
use Rattle.std.proofs.lemmas.Bool.{cases_eq, cases_lt}
use Rattle.capnp_format.specs.Segments.{Segments, segment, word_at, HasWords}
use Rattle.capnp_format.specs.Forest.{times}
use Rattle.capnp_arena_traits.specs.Written.{with_words, overwritten}
use Rattle.capnp_allocation.specs.Zeroed.{row}
use Rattle.capnp_allocation.proofs.Zeros.{there, segment_here, word_here, word_other, lengths_kept, length-over, over_beside, of_row}
use Rattle.capnp_allocation.proofs.Written.{SameLengths, SameBut}

-- From S to R the words ws are written at (s, p), and all other words stay.
pub record ArePut (S R : Segments) (s p : ℕ) (ws : List ℕ) : Type 0 where
  pub long : SameLengths S R
  pub here : HasWords R s p ws
  pub kept : SameBut S R (row s p (length ws))

pub none_over : (S : Segments) (s p : ℕ) → with_words S s p [] ≡ S
none_over [] s p = refl
none_over (xs ∷ S) zero p = ap (λ ys. ys ∷ S) (take-append-drop p xs)
none_over (xs ∷ S) (suc s) p = ap (λ T. xs ∷ T) (none_over S s p)

words_over : (xs : List ℕ) (p : ℕ) (ws : List ℕ) → p ≤ length xs → take (length ws) (drop p (overwritten xs p ws)) ≡ ws
words_over xs p ws l =
    ap (take (length ws)) (drop_at (take p xs) (ws ++ drop (length ws) (drop p xs)) p (omega (arith, length-take p xs))) ∙ take-append_seam ws (drop (length ws) (drop p xs))

beside : (s p n r : ℕ) → times (row s p n ∷ []) s r ≡ 0 → (r < p) ⊎ (p + n ≤ r)
beside s p n r none = elim (cases_lt r p) [
  | inl l ↦ inl l
  | inr l ↦ elim (cases_lt r (p + n)) [
    | inl m ↦ absurd (omega (arith, of_row s p n r l m))
    | inr m ↦ inr m
  ]
]

pub words_put : (S R : Segments) (s p : ℕ) (ws : List ℕ) → p + length ws ≤ length (segment S s) → R ≡ with_words S s p ws → ArePut S R s p ws
words_put S R s p [] l e =
    subst (λ T. ArePut S T s p []) (sym (e ∙ none_over S s p)) (record { long = record { segments = refl; words = λ v. refl }; here = refl; kept = λ v r h. refl })
words_put S R s p (x ∷ xs) l e =
    let ws : List ℕ = x ∷ xs in
    let W = segment S s in
    let made : List ℕ = overwritten W p ws in
    let ok : s < length S = there S s p (omega arith) in
    subst (λ T. ArePut S T s p ws) (sym e) (record {
      long = record { segments = length-set S s made; words = lengths_kept S s made (length-over W p ws l) };
      here = ap (λ ys. take (length ws) (drop p ys)) (segment_here S s made ok) ∙ words_over W p ws (omega arith);
      kept = λ v r h. elim (cases_eq v s) [
        | inl f ↦ ap (λ u. word_at (with_words S s p ws) u r) f ∙ word_here S s r made ok ∙ over_beside W p ws r l (beside s p (length ws) r (subst (λ u. times (row s p (length ws) ∷ []) u r ≡ 0) f h)) ∙ ap (λ u. word_at S u r) (sym f)
        | inr f ↦ word_other S s v r made f
      ];
    })
