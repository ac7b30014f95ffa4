-- Where words are, and that counts and positions fit their numbers: about plain numbers.
use Rattle.std.proofs.Common.{◌≡◌, ℕ, ◌+◌, ◌*◌, ◌<◌, ◌≤◌, ◌^◌, arith}
use Rattle.std.proofs.lemmas.Nat.{mul-le}
use Rattle.capnp_allocation.proofs.BelowElements.{element_within, next_place}

pub place_in : {a b e p n i l m : ℕ} → a ≡ p → b ≡ n → e ≡ l → a + b ≤ e → i < n → m ≡ l → p + i < m
place_in is_a is_b is_e inside less same = omega arith

pub start_fits : {a b e f p n i : ℕ} → a ≡ p → b ≡ n → e ≡ f → f < 2 ^ 32 → a + b ≤ e → i < n → p + i < 2 ^ 32
start_fits is_a is_b is_e small inside less = omega arith

pub too_many : {a b e p n l : ℕ} → a ≡ p → b ≡ n → e ≡ l → e < a + b → p + n ≤ l → ⊥
too_many is_a is_b is_e out inside = omega arith

pub too_short : {a b e f p d q l : ℕ} → a ≡ p → b ≡ d → e ≡ q → f ≡ l → f < a + b + e → p + (d + q) ≤ l → ⊥
too_short is_a is_b is_e is_f out inside = omega arith

-- Among n rows of d + q words, where row i starts, and where its pointers start and end.
pub row_place : (p q : ℕ) {at i n d l r f : ℕ} → at ≡ p + i * (d + q) → p + n * (d + q) ≤ l → i < n → l ≤ r → r < 2 ^ 29 → f ≡ d → at + f < 2 ^ 32
row_place p q {i = i} {n = n} {d = d} place inside less within small same = omega (arith, element_within (d + q) n i less, place, inside, within, small, same)

pub row_end : (p : ℕ) {at i n d q l r f h : ℕ} → at ≡ p + i * (d + q) → p + n * (d + q) ≤ l → i < n → l ≤ r → r < 2 ^ 29 → f ≡ d → h ≡ q → at + f + h < 2 ^ 32
row_end p {i = i} {n = n} {d = d} {q = q} place inside less within small same last = omega (arith, element_within (d + q) n i less, place, inside, within, small, same, last)

pub row_wide : (p d q : ℕ) {at i n l m : ℕ} → at ≡ p + i * (d + q) → p + n * (d + q) ≤ l → i < n → m ≡ l → at + d + q ≤ m
row_wide p d q {i = i} {n = n} place inside less same = omega (arith, element_within (d + q) n i less, place, inside, same)

pub row_after : (p i : ℕ) {at d q f g : ℕ} → at ≡ p + i * (d + q) → f ≡ d → g ≡ q → at + f + g ≡ p + (i + 1) * (d + q)
row_after p i {d = d} {q = q} place is_f is_g = omega (arith, next_place (d + q) i, place, is_f, is_g)

pub less_as : {i m n : ℕ} → m ≡ n → i < n → i < m
less_as same less = omega arith

pub none_above : {n : ℕ} → n ≤ 0 → n ≡ 0
none_above few = omega arith

pub first_place : (p w : ℕ) → p ≡ p + 0 * w
first_place p w = omega arith

pub none_before : (n : ℕ) → 0 + n ≡ n
none_before n = omega arith

-- The words of a list of structs, by its tag.
pub product_small : {a b n k : ℕ} → a ≡ n → n < 2 ^ 30 → b ≡ k → k < 2 ^ 32 → a * b ≤ 2 ^ 62
product_small {a} {b} is_a few is_b small = mul-le a b (2 ^ 30) (2 ^ 32) (omega arith) (omega arith)

pub product_fits : (w : ℕ) → w ≤ 2 ^ 62 → w < 2 ^ 64
product_fits w small = omega arith

pub tag_fits : (w : ℕ) → w ≤ 2 ^ 62 → 1 + w < 2 ^ 64
tag_fits w small = omega arith

pub end_fits : {a p : ℕ} (w : ℕ) → a ≡ p → p < 2 ^ 32 → w ≤ 2 ^ 62 → a + (1 + w) < 2 ^ 64
end_fits w is_a small fits = omega arith

pub behind_tag : {a e f p : ℕ} (w : ℕ) → a ≡ p → e ≡ f → f < 2 ^ 32 → a + (1 + w) ≤ e → p + 1 < 2 ^ 32
behind_tag w is_a is_e small inside = omega arith

pub list_inside : (v : ℕ) {a w e l p : ℕ} → a ≡ p → w ≡ 1 + v → e ≡ l → a + w ≤ e → p + 1 + v ≤ l
list_inside v is_a is_w is_e inside = omega arith

pub list_beyond : (w : ℕ) {a e l p : ℕ} → a ≡ p → e ≡ l → e < a + w → l < p + w
list_beyond w is_a is_e out = omega arith
