-- A number is written digit by digit, the last one after those before it.
use Rattle.std.proofs.Common.{◌≡◌, ℕ, ◌+◌, ◌/◌, ◌%◌, ◌<◌, ◌≤◌, ◌^◌, List, [], ◌∷◌, ◌++◌, Option, Some, None, sym, ap, ◌∙◌, subst, arith}
use Rattle.std.specs.Fmt.{decimal}
use Rattle.std.specs.Io.KnownBytes.{Appends}
use Rattle.std.proofs.lemmas.Fmt.{decimal_step, decimal_digit}
use Rattle.std.proofs.lemmas.Grind.{common_steps}

-- Bytes are appended, and then more.
pub record AppendsBoth (a b c : Option (List ℕ)) (xs ys : List ℕ) : Type 0 where
  pub first : Appends a b xs
  pub more : Appends b c ys

both : {a b c : Option (List ℕ)} {xs ys : List ℕ} → AppendsBoth a b c xs ys → Appends a c (xs ++ ys)
both {a = None} w = tt
both {a = Some x} {b = None} w = absurd w.first
both {a = Some x} {b = Some y} {c = None} w = absurd w.more
both {a = Some x} {b = Some y} {c = Some z} w = grind (arith, common_steps)

-- a last digit after the others
pub last_digit : {a b c : Option (List ℕ)} (n : ℕ) → 10 ≤ n → n < 2 ^ 64 → AppendsBoth a b c (decimal (n / 10)) ((48 + n % 10) ∷ []) → Appends a c (decimal n)
last_digit {a = a} {c = c} n more fits w = subst (λ (ds : List ℕ). Appends a c ds) (sym (decimal_step n more fits)) (both w)

-- a single digit
pub only_digit : (n : ℕ) → n < 10 → (48 + n % 10) ∷ [] ≡ decimal n
only_digit n one = ap (λ (d : ℕ). (48 + d) ∷ []) (let small : n % 10 ≡ n = omega arith in small) ∙ sym (decimal_digit n one)
