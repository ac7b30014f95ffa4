-- Words overwritten with zeros.
use Rattle.std.proofs.Common.{cond, nat_eq, ◌≡◌, ◌≢◌, inl, inr, ◌⊎◌, ℕ, zero, suc, ◌+◌, ◌-◌, ◌*◌, ◌<◌, ◌≤◌, List, [], ◌∷◌, length, set, replicate, get_or, refl, sym, ap, ◌∙◌, subst, arith}
use Rattle.std.proofs.lemmas.List.{length-set, length-replicate, get_or-set_same, get_or-set_other}
use Rattle.std.proofs.lemmas.Bool.{cases_lt, cases_eq}
use Rattle.std.proofs.lemmas.Bool.Decides.{nat_tests}
use Rattle.capnp_format.specs.Segments.{Segments, segment, word_at}
use Rattle.capnp_format.specs.Forest.{Interval, times}
use Rattle.capnp_arena_traits.specs.Written.{with_segment, overwritten, with_words, with_word}
pub use Rattle.capnp_arena_traits.proofs.WordsOver.{segment_here, segment_other, word_here, word_other, lengths_kept, length-over, over_within, over_beside}
pub use Rattle.capnp_format.proofs.Frame.{in_row, of_row}
pub use Rattle.capnp_format.proofs.Slices.{there}
use Rattle.capnp_format.specs.Path.{word_interval}
use Rattle.capnp_allocation.specs.Zeroed.{row, IsZeroed, IsPruned}

-- The number of words that aren't zero.
abbrev pub nonzero_words : List ℕ → ℕ
nonzero_words [] = 0
nonzero_words (x ∷ xs) = cond (nat_eq x 0) 0 1 + nonzero_words xs

abbrev pub nonzeros : Segments → ℕ
nonzeros [] = 0
nonzeros (ws ∷ S) = nonzero_words ws + nonzeros S

-- If each of some words is unchanged or zero, there are no more nonzero words than before.
fewer_words : (xs ys : List ℕ) → length ys ≡ length xs → ((i : ℕ) → (get_or ys i 0 ≡ get_or xs i 0) ⊎ (get_or ys i 0 ≡ 0)) → nonzero_words ys ≤ nonzero_words xs
fewer_words xs [] long same = omega arith
fewer_words [] (y ∷ ys) long same = absurd (omega arith)
fewer_words (x ∷ xs) (y ∷ ys) long same =
    let more = fewer_words xs ys (omega arith) (λ i. same (suc i)) in
    elim (same zero) [
      | inl e ↦ omega (arith, more, ap {B = ℕ} (λ z. cond (nat_eq z 0) 0 1) e)
      | inr e ↦ omega (arith, more, ap {B = ℕ} (λ z. cond (nat_eq z 0) 0 1) e)
    ]

-- The same for a message after some words were zeroed.
pub fewer : (S R : Segments) → IsPruned S R → nonzeros R ≤ nonzeros S
fewer S R p = go S R p.segments p.words p.only
  where
    go : (S R : Segments) → length R ≡ length S → ((v : ℕ) → length (segment R v) ≡ length (segment S v)) → ((v r : ℕ) → (word_at R v r ≡ word_at S v r) ⊎ (word_at R v r ≡ 0)) → nonzeros R ≤ nonzeros S
    go S [] same words only = omega arith
    go [] (ys ∷ R) same words only = absurd (omega arith)
    go (xs ∷ S) (ys ∷ R) same words only =
        omega (arith, fewer_words xs ys (words zero) (only zero), go S R (omega arith) (λ v. words (suc v)) (λ v. only (suc v)))

-- If a segment is written, the count of nonzero words of the message changes by as much as that of
-- the segment.
pub fewer_in : (S : Segments) (s : ℕ) (ws : List ℕ) → s < length S → nonzeros (with_segment S s ws) + nonzero_words (segment S s) ≡ nonzeros S + nonzero_words ws
fewer_in [] s ws l = absurd (omega arith)
fewer_in (xs ∷ S) zero ws l = omega arith
fewer_in (xs ∷ S) (suc s) ws l = omega (arith, fewer_in S s ws (omega arith))

-- One nonzero word is zeroed.
pub set_zero : (xs : List ℕ) (p : ℕ) → get_or xs p 0 ≢ 0 → suc (nonzero_words (set xs p 0)) ≡ nonzero_words xs
set_zero [] p n = absurd (n refl)
set_zero (x ∷ xs) zero n = grind (arith, nat_tests)
set_zero (x ∷ xs) (suc p) n = omega (arith, set_zero xs p n)

pub here_once : (s p : ℕ) → 0 < times (word_interval s p ∷ []) s p
here_once s p = omega (arith, of_row s p 1 p (omega arith) (omega arith))

-- Each word is unchanged or zero.
only_zeros : (S R : Segments) (is : List Interval) → IsZeroed S R is → (v r : ℕ) → (word_at R v r ≡ word_at S v r) ⊎ (word_at R v r ≡ 0)
only_zeros S R is z v r = elim (cases_eq (times is v r) 0) [ inl e ↦ inl (z.kept v r e) | inr e ↦ inr (z.zero v r (omega arith)) ]

-- Zeros are written over n words of a segment.
pub words_zeroed : (S R : Segments) (s p n : ℕ) → 0 < n → p + n ≤ length (segment S s) → R ≡ with_words S s p (replicate n 0) → IsZeroed S R (row s p n ∷ []) × IsPruned S R
words_zeroed S R s p n some l e =
    let W = segment S s in
    let zs : List ℕ = replicate n 0 in
    let long : length zs ≡ n = length-replicate n 0 in
    let fits : p + length zs ≤ length W = omega (arith, long) in
    let here : s < length S = there S s p (omega arith) in
    let made : List ℕ = overwritten W p zs in
    let same : (v : ℕ) → length (segment (with_words S s p zs) v) ≡ length (segment S v) = lengths_kept S s made (length-over W p zs fits) in
    subst (λ T. IsZeroed S T (row s p n ∷ []) × IsPruned S T) (sym e) (
    let z : IsZeroed S (with_words S s p zs) (row s p n ∷ []) = record {
      segments = length-set S s made;
      words = same;
      zero = λ v r h. let i = in_row s p n v r h in
          ap (λ u. word_at (with_words S s p zs) u r) i.0 ∙ word_here S s r made here ∙ over_within W p zs r fits i.1 (omega (arith, i.2, long)) ∙ zeros_at n (r - p);
      kept = λ v r h. elim (cases_eq v s) [
        | inl f ↦ ap (λ u. word_at (with_words S s p zs) u r) f ∙ word_here S s r made here ∙ over_beside W p zs r fits (beside r long (rw f at h)) ∙ ap (λ u. word_at S u r) (sym f)
        | inr f ↦ word_other S s v r made f
      ];
    } in (
      z,
      record { segments = length-set S s made; words = same; only = only_zeros S _ _ z },
    ))
  where
    zeros_at : (k i : ℕ) → ◌≡◌ {A = ℕ} (get_or (replicate k 0) i 0) 0
    zeros_at zero i = refl
    zeros_at (suc k) zero = refl
    zeros_at (suc k) (suc i) = zeros_at k i

    beside : (r : ℕ) → length {A = ℕ} (replicate n 0) ≡ n → times (row s p n ∷ []) s r ≡ 0 → (r < p) ⊎ (p + length {A = ℕ} (replicate n 0) ≤ r)
    beside r long h = elim (cases_lt r p) [
      | inl l ↦ inl l
      | inr l ↦ elim (cases_lt r (p + n)) [
        | inl m ↦ absurd (omega (arith, of_row s p n r l m))
        | inr m ↦ inr (omega (arith, long))
      ]
    ]

-- One word is zeroed.
pub word_zeroed : (S R : Segments) (s p : ℕ) → p < length (segment S s) → R ≡ with_word S s p 0 → IsZeroed S R (word_interval s p ∷ []) × IsPruned S R × (word_at S s p ≢ 0 → suc (nonzeros R) ≡ nonzeros S)
word_zeroed S R s p l e =
    let W = segment S s in
    let here : s < length S = there S s p l in
    let made : List ℕ = set W p 0 in
    let long : length made ≡ length W = length-set W p 0 in
    let same : (v : ℕ) → length (segment (with_word S s p 0) v) ≡ length (segment S v) = lengths_kept S s made long in
    subst (λ T. IsZeroed S T (word_interval s p ∷ []) × IsPruned S T × (word_at S s p ≢ 0 → suc (nonzeros T) ≡ nonzeros S)) (sym e) (
    let z : IsZeroed S (with_word S s p 0) (word_interval s p ∷ []) = record {
      segments = length-set S s made;
      words = same;
      zero = λ v r h. let i = in_row s p 1 v r h in
          ap (λ u. word_at (with_word S s p 0) u r) i.0 ∙ word_here S s r made here ∙ ap (λ q. get_or made q 0) (let f : r ≡ p = omega (arith, i.1, i.2) in f) ∙ get_or-set_same W p 0 0 l;
      kept = λ v r h. elim (cases_eq v s) [
        | inl f ↦ ap (λ u. word_at (with_word S s p 0) u r) f ∙ word_here S s r made here ∙ get_or-set_other W p r 0 0 (λ g. omega (arith, of_row s p 1 r (omega arith) (omega arith), ap (λ u. times (word_interval s p ∷ []) u r) f)) ∙ ap (λ u. word_at S u r) (sym f)
        | inr f ↦ word_other S s v r made f
      ];
    } in (
      z,
      record { segments = length-set S s made; words = same; only = only_zeros S _ _ z },
      λ n. omega (arith, fewer_in S s made here, set_zero W p n),
    ))

-- A call is below one of a larger measure if there are no more nonzero words.
pub falls_below : {m n t : ℕ} (i k : ℕ) → m ≤ n → 5 * n + (i + suc k) ≡ t → 5 * m + i < t
falls_below i k fewer is = omega (arith, fewer, is)

pub falls_first : {m n t : ℕ} (k : ℕ) → m ≤ n → 5 * n + suc k ≡ t → 5 * m < t
falls_first k fewer is = omega (arith, fewer, is)

-- Nothing is zeroed.
pub pruned_itself : (S : Segments) → IsPruned S S
pruned_itself S = record { segments = refl; words = λ v. refl; only = λ v r. inl refl }

pub nothing_zeroed : (S : Segments) → IsZeroed S S []
nothing_zeroed S = record { segments = refl; words = λ v. refl; zero = λ v r h. absurd (omega arith); kept = λ v r h. refl }

pub pruned_again : (S R Q : Segments) → IsPruned S R → IsPruned R Q → IsPruned S Q
pruned_again S R Q a b = record {
  segments = b.segments ∙ a.segments;
  words = λ v. b.words v ∙ a.words v;
  only = λ v r. elim (b.only v r) [
    | inl e ↦ elim (a.only v r) [ inl f ↦ inl (e ∙ f) | inr f ↦ inr (e ∙ f) ]
    | inr e ↦ inr e
  ];
}

-- A word that is zero stays zero.
pub zero_stays : (S R : Segments) (v r : ℕ) → IsPruned S R → word_at S v r ≡ 0 → word_at R v r ≡ 0
zero_stays S R v r pruned null = elim (pruned.only v r) [ inl e ↦ e ∙ null | inr e ↦ e ]

-- Some words are zeroed, and then others.
pub zeroed_again : (S R Q : Segments) (is js ks : List Interval) → ((v r : ℕ) → (0 < times ks v r → 0 < times is v r + times js v r) × (times ks v r ≡ 0 → times is v r + times js v r ≡ 0)) →
    IsZeroed S R is → IsZeroed R Q js → IsZeroed S Q ks
zeroed_again S R Q is js ks e a b = record {
  segments = b.segments ∙ a.segments;
  words = λ v. b.words v ∙ a.words v;
  zero = λ v r h. let some = (e v r).0 h in elim (cases_eq (times js v r) 0) [
    | inl f ↦ b.kept v r f ∙ a.zero v r (omega arith)
    | inr f ↦ b.zero v r (omega arith)
  ];
  kept = λ v r h. let none = (e v r).1 h in b.kept v r (omega arith) ∙ a.kept v r (omega arith);
}
