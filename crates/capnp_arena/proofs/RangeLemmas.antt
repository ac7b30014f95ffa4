-- Ranges of rows and their bounds, only as numbers.
use Rattle.std.proofs.Common.{◌≡◌, ℕ, zero, suc, ◌+◌, ◌-◌, ◌*◌, ◌/◌, ◌%◌, ◌^◌, ◌<◌, ◌≤◌, inl, inr, List, [], ◌∷◌, ◌++◌, length, get_or, set, refl, sym, ap, ◌∙◌, arith, subst}
use Rattle.std.proofs.Math.Nat.{pow-suc}
use Rattle.std.proofs.Math.Bridge.{le_prop}
use Rattle.std.proofs.lemmas.Nat.{pow_pos}
use Rattle.std.proofs.lemmas.Bool.{cases_lt, cases_eq}
use Rattle.std.proofs.lemmas.List.{length-append, get_or_append_left, get_or_at, get_or-set_same, get_or-set_other}
use Rattle.capnp_arena.specs.Bounds.{IsRange, IsBoundAt, IsBounded}

-- ranges

abbrev pub IsPowerOfTwo : ℕ → Type 0
IsPowerOfTwo n = (e : ℕ) × (n ≡ 2 ^ e)

abbrev pub IsMultipleOf : ℕ → ℕ → Type 0
IsMultipleOf n m = (a : ℕ) × (m ≡ a * n)

pub power_one : IsPowerOfTwo 1
power_one = (0, refl)

pub power_twice : (n : ℕ) → IsPowerOfTwo n → IsPowerOfTwo (n * 2)
power_twice n p = (suc p.0, omega (arith, p.1, pow-suc 2 p.0))

-- a power of two above 1 is twice its half, which is also a power of two
pub power_half : (n : ℕ) → IsPowerOfTwo n → 1 < n → IsPowerOfTwo (n / 2) × (n ≡ n / 2 * 2)
power_half n p l = go p.0 p.1
  where
    go : (e : ℕ) → n ≡ 2 ^ e → IsPowerOfTwo (n / 2) × (n ≡ n / 2 * 2)
    go zero is = absurd (omega arith)
    go (suc e) is = let twice = pow-suc 2 e in ((e, omega arith), omega arith)

-- a multiple of a power of two above 1 begins a range half as wide
pub range_half : (at n : ℕ) → IsPowerOfTwo n → 1 < n → IsMultipleOf n at → IsRange at (n / 2)
range_half at n p l m =
    let half = power_half n p l in
    (half.0, (m.0, m.1 ∙ ap (λ k. m.0 * k) (let twice : n ≡ 2 * (n / 2) = omega (arith, half.1) in twice)))

pub multiple_half : (at n : ℕ) → n ≡ n / 2 * 2 → IsMultipleOf n at → IsMultipleOf (n / 2) at
multiple_half at n twice m = (2 * m.0, m.1 ∙ ap (λ k. m.0 * k) twice ∙ omega arith)

pub multiple_next : (at n : ℕ) → IsMultipleOf n at → IsMultipleOf n (at + n)
multiple_next at n m = (suc m.0, omega (arith, m.1))

-- A range that ends after the first rest * 2 ^ d rows has at most 2 ^ d rows, if `rest` is odd.
power_below : (e d a rest : ℕ) → (a * 2 + 1) * 2 ^ e ≡ rest * 2 ^ d → rest % 2 ≡ 1 → 2 ^ e ≤ 2 ^ d
power_below zero d a rest same odd = omega (arith, pow_pos d)
power_below (suc e) zero a rest same odd = absurd (omega (arith, pow-suc 2 e, same, odd))
power_below (suc e) (suc d) a rest same odd =
    let once : (a * 2 + 1) * 2 ^ e ≡ rest * 2 ^ d = omega (arith, same, ap (λ k. (a * 2 + 1) * k) (pow-suc 2 e), ap (λ k. rest * k) (pow-suc 2 d)) in
    omega (arith, pow-suc 2 e, pow-suc 2 d, power_below e d a rest once odd)

pub range_below : (from width n rest : ℕ) → IsRange from width → IsPowerOfTwo n → from + width ≡ rest * n → rest % 2 ≡ 1 → width ≤ n
range_below from width n rest r p same odd =
    let e = r.0.0 in
    let d = p.0 in
    let a = r.1.0 in
    let wide : width ≡ 2 ^ e = r.0.1 in
    let less : 2 ^ e ≤ 2 ^ d = power_below e d a rest (ends e d a wide p.1 r.1.1) odd in
    omega (arith, wide, p.1, less)
  where
    ends : (e d a : ℕ) → width ≡ 2 ^ e → n ≡ 2 ^ d → from ≡ a * (2 * width) → (a * 2 + 1) * 2 ^ e ≡ rest * 2 ^ d
    ends e d a wide is begins = subst (λ k. (a * 2 + 1) * k ≡ rest * 2 ^ d) wide (subst (λ k. (a * 2 + 1) * width ≡ rest * k) is (omega (arith, begins, same)))

-- The n rows before the last n of the first `end` are a range, if 2 * n divides `end`.
pub range_before : (end n rest : ℕ) → IsPowerOfTwo n → rest * n ≡ end → rest % 2 ≡ 0 → 0 < rest → IsRange (end - 2 * n) n
range_before end n rest p same even some =
    let a = rest / 2 - 1 in
    (p, (a, omega (arith, same, twice a (let two : rest ≡ a * 2 + 2 = omega arith in two))))
  where
    twice : (a : ℕ) → rest ≡ a * 2 + 2 → rest * n ≡ a * (2 * n) + 2 * n
    twice a two = ap (λ k. k * n) two ∙ omega arith

pub twice_inside : (end n rest : ℕ) → rest * n ≡ end → rest % 2 ≡ 0 → 0 < rest → 2 * n ≤ end
twice_inside end n rest same even some =
    let two : rest ≡ (rest / 2 - 1) * 2 + 2 = omega arith in
    omega (arith, same, ap (λ k. k * n) two)

pub rest_half : (end n rest : ℕ) → rest * n ≡ end → rest % 2 ≡ 0 → rest / 2 * (n * 2) ≡ end
rest_half end n rest same even =
    let two : rest ≡ rest / 2 * 2 = omega arith in
    (let once : rest / 2 * (n * 2) ≡ (rest / 2 * 2) * n = omega arith in once) ∙ ap (λ k. k * n) (sym two) ∙ same

-- bounds

-- rooms that shrink keep their bounds
pub bounded_less : (xs ys bs : List ℕ) → IsBounded xs bs → length ys ≡ length xs → ((k : ℕ) → get_or ys k 0 ≤ get_or xs k 0) → IsBounded ys bs
bounded_less xs ys bs h same less =
    record { within = λ from width k range begins ends inside. omega (arith, less k, h.within from width k range begins ends (omega (arith, inside, same))) }

-- one more room and its bound, after the others
pub bounded_more : (xs bs : List ℕ) (x b : ℕ) → IsBounded xs bs → length xs ≡ length bs → ((k : ℕ) → get_or (xs ++ x ∷ []) k 0 ≤ b) → IsBounded (xs ++ x ∷ []) (bs ++ b ∷ [])
bounded_more xs bs x b h same great = record { within = go }
  where
    go : (from width k : ℕ) → IsRange from width → from ≤ k → k < from + width → from + width ≤ length (xs ++ x ∷ []) → get_or (xs ++ x ∷ []) k 0 ≤ get_or (bs ++ b ∷ []) (from + width - 1) 0
    go from width k range begins ends inside =
        elim (cases_lt (length xs) (from + width)) [
          | inl last ↦
              let at : from + width - 1 ≡ length bs = omega (arith, inside, last, same, length-append xs (x ∷ [])) in
              subst (λ n. get_or (xs ++ x ∷ []) k 0 ≤ n) (sym (get_or_at bs b [] 0 (from + width - 1) (sym at))) (great k)
          | inr before ↦
              omega (
                arith,
                h.within from width k range begins ends before,
                get_or_append_left xs (x ∷ []) 0 k (omega (arith, ends, before)),
                get_or_append_left bs (b ∷ []) 0 (from + width - 1) (omega (arith, begins, ends, before, same)),
              )
        ]

-- a new bound for the ranges that end with row i
pub bounded_again : (xs bs : List ℕ) (i b : ℕ) → IsBounded xs bs → length xs ≡ length bs → i < length xs → IsBoundAt xs i b → IsBounded xs (set bs i b)
bounded_again xs bs i b h same there great = record { within = go }
  where
    go : (from width k : ℕ) → IsRange from width → from ≤ k → k < from + width → from + width ≤ length xs → get_or xs k 0 ≤ get_or (set bs i b) (from + width - 1) 0
    go from width k range begins ends inside =
        elim (cases_eq (from + width - 1) i) [
          | inl at ↦
              let new : get_or (set bs i b) (from + width - 1) 0 ≡ b = ap (λ j. get_or (set bs i b) j 0) at ∙ get_or-set_same bs i b 0 (omega (arith, same, there)) in
              omega (arith, new, great from width k range (omega (arith, at, begins, ends)) begins (omega (arith, at, ends)))
          | inr other ↦ omega (arith, h.within from width k range begins ends inside, get_or-set_other bs i (from + width - 1) b 0 other)
        ]

-- there is at most one proof that rooms are bounded
pub bounded_once : (xs bs : List ℕ) (h k : IsBounded xs bs) → h ≡ k
bounded_once xs bs h k = λ i. record { within = λ from width n range begins ends inside. le_prop (h.within from width n range begins ends inside) (k.within from width n range begins ends inside) i }
