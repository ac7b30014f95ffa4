-- The used part of a list of words, from its end.
use Rattle.std.proofs.Common.{◌≡◌, ◌≢◌, ℕ, suc, ◌+◌, ◌≤◌, List, [], ◌∷◌, ◌++◌, Bool, length, get_or, take, refl, ap, ◌∙◌, arith, nat_eq, true, false, length-take}
use Rattle.std.proofs.lemmas.List.{take_more}
use Rattle.std.proofs.lemmas.Bool.Decides.{nat_tests}
use Rattle.capnp_format.specs.Canonical.{used_from, used_words}

pub used-zero : (xs : List ℕ) → used_words (xs ++ 0 ∷ []) ≡ used_words xs
used-zero [] = refl
used-zero (x ∷ xs) = ap (used_from (nat_eq x 0)) (used-zero xs)

used_some : (b : Bool) (n : ℕ) → used_from b (suc n) ≡ suc (suc n)
used_some true n = refl
used_some false n = refl

not_zero : (y : ℕ) → y ≢ 0 → nat_eq y 0 ≡ false
not_zero y h = grind (arith, nat_tests)

pub used-word : (xs : List ℕ) (y : ℕ) → y ≢ 0 → used_words (xs ++ y ∷ []) ≡ suc (length xs)
used-word [] y h = ap (λ b. used_from b 0) (not_zero y h)
used-word (x ∷ xs) y h = ap (used_from (nat_eq x 0)) (used-word xs y h) ∙ used_some (nat_eq x 0) (length xs)

pub used_whole : (xs : List ℕ) (m n : ℕ) → n ≡ m + 1 → n ≤ length xs → get_or xs m 0 ≢ 0 → used_words (take n xs) ≡ n
used_whole xs m n e l h =
    ap (λ k. used_words (take k xs)) e ∙ ap used_words (take_more xs m 0 (omega arith)) ∙ used-word (take m xs) (get_or xs m 0) h ∙ omega (arith, length-take m xs)

pub used_before : (xs : List ℕ) (m n : ℕ) → n ≡ m + 1 → n ≤ length xs → get_or xs m 0 ≡ 0 → used_words (take n xs) ≡ used_words (take m xs)
used_before xs m n e l h =
    ap (λ k. used_words (take k xs)) e ∙ ap used_words (take_more xs m 0 (omega arith)) ∙ ap (λ y. used_words (take m xs ++ y ∷ [])) h ∙ used-zero (take m xs)
