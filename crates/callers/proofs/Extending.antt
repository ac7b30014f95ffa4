-- Words added after others.
use Rattle.std.proofs.Common.{◌≡◌, ℕ, zero, suc, ◌+◌, ◌<◌, List, [], ◌∷◌, ◌++◌, length, replicate, slice_set, refl, ap, ◌∙◌, arith}
use Rattle.std.proofs.lemmas.List.{append_assoc, length-append}
use Rattle.capnp_format.specs.Segments.{Segments, segment}
use Rattle.capnp_arena_traits.specs.Written.{extended, with_word}
use Rattle.capnp_arena_traits.proofs.MessageLemmas.{length-message}

set_last : (xs : List ℕ) (old x : ℕ) → slice_set (xs ++ old ∷ []) (length xs) x ≡ xs ++ x ∷ []
set_last [] old x = refl
set_last (y ∷ xs) old x = ap (λ zs. y ∷ zs) (set_last xs old x)

-- a word is allocated and then written
pub written_last : (S : Segments) (s p x : ℕ) → s < length S → p ≡ length (segment S s) → with_word (extended S s (replicate 1 0)) s p x ≡ extended S s (x ∷ [])
written_last [] s p x l e = absurd (omega arith)
written_last (t ∷ S) zero p x l e = ap (λ u. u ∷ S) (ap (λ i. slice_set (t ++ 0 ∷ []) i x) e ∙ set_last t 0 x)
written_last (t ∷ S) (suc s) p x l e = ap (λ T. t ∷ T) (written_last S s p x (omega arith) e)

-- words are added after others twice
pub extended_twice : (S : Segments) (s : ℕ) (xs ys : List ℕ) → extended (extended S s xs) s ys ≡ extended S s (xs ++ ys)
extended_twice [] s xs ys = refl
extended_twice (t ∷ S) zero xs ys = ap (λ u. u ∷ S) (append_assoc t xs ys)
extended_twice (t ∷ S) (suc s) xs ys = ap (λ T. t ∷ T) (extended_twice S s xs ys)

pub length_extended : (S : Segments) (s : ℕ) (xs : List ℕ) → length (extended S s xs) ≡ length S
length_extended [] s xs = refl
length_extended (t ∷ S) zero xs = refl
length_extended (t ∷ S) (suc s) xs = ap suc (length_extended S s xs)

-- one word more
pub segment_longer : (S : Segments) (s x : ℕ) → s < length S → length (segment (extended S s (x ∷ [])) s) ≡ length (segment S s) + 1
segment_longer [] s x l = absurd (omega arith)
segment_longer (t ∷ S) zero x l = length-append t (x ∷ [])
segment_longer (t ∷ S) (suc s) x l = segment_longer S s x (omega arith)

pub ruleset extending = (written_last, extended_twice, segment_longer, length_extended, length-message)
