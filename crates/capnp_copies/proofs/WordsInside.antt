-- What is inside a row of words is inside the segment, and its positions fit 32 bits: about plain
-- numbers.
use Rattle.std.proofs.Common.{◌≡◌, ℕ, ◌+◌, ◌*◌, ◌<◌, ◌≤◌, ◌^◌, ap, arith}
use Rattle.capnp_pointers.proofs.WholeValue.WordsAdded.{row_within}

pub child_there : (p n i : ℕ) {l m : ℕ} → p + n ≤ l → i < n → l ≤ m → p + i < m
child_there p n i room less more = omega arith

pub part_inside : (p k d q : ℕ) {l : ℕ} → p + (d + q) ≤ l → k ≤ d → p + k ≤ l
part_inside p k d q room less = omega arith

pub behind_inside : (p d q : ℕ) {l : ℕ} → p + (d + q) ≤ l → p + d + q ≤ l
behind_inside p d q room = omega arith

pub kept_inside : (p d : ℕ) {q k l : ℕ} → p + (d + q) ≤ l → k ≤ q → p + d + k ≤ l
kept_inside p d room less = omega arith

pub rows_inside : (p n : ℕ) {l : ℕ} → p + (1 + n) ≤ l → p + 1 + n ≤ l
rows_inside p n room = omega arith

pub one_more : {m n : ℕ} → m ≤ n → 1 + m ≤ 1 + n
one_more less = omega arith

pub some_more : (n : ℕ) → 0 < 1 + n
some_more n = omega arith

pub fewer_words : {a b c d n : ℕ} → a ≤ c → b ≤ d → n ≡ c → a + b ≤ n + d
fewer_words less fewer long = omega arith

pub first_fits : (p d q : ℕ) {f l r : ℕ} → p + (d + q) ≤ l → l ≤ r → r < 2 ^ 29 → f ≡ d → p + f < 2 ^ 32
first_fits p d q room within small same = omega arith

-- Where each row of n rows of w words starts.
pub row_fits : (p w i n : ℕ) {t l b : ℕ} → p + n * w ≤ l → i < n → t ≡ w → b ≡ 8 * l → b < 8 * 2 ^ 32 →
    p + i * t < 2 ^ 32
row_fits p w i n {t} room less same bytes small =
    let whole : i * t ≡ i * w = ap (λ k. i * k) same in omega (arith, row_within i n w less, whole)

pub product_fits : (p i t : ℕ) → p + i * t < 2 ^ 32 → i * t < 2 ^ 32
product_fits p i t small = omega arith

pub kept_fits : (p w i n : ℕ) {t l r : ℕ} → p + n * w ≤ l → i < n → t ≡ w → l ≤ r → r < 2 ^ 29 → i * t < 2 ^ 32
kept_fits p w i n {t} room less same within small =
    let whole : i * t ≡ i * w = ap (λ k. i * k) same in omega (arith, row_within i n w less, whole)

pub child_fits : (p n i : ℕ) {l b : ℕ} → p + n ≤ l → i < n → b ≡ 8 * l → b < 8 * 2 ^ 32 → p + i < 2 ^ 32
child_fits p n i room less bytes small = omega arith

pub null_fits : (p n i : ℕ) {l r : ℕ} → p + n ≤ l → i < n → l ≤ r → r < 2 ^ 29 → p + i < 2 ^ 32
null_fits p n i room less within small = omega arith

pub children_fit : (p d q : ℕ) {f l b : ℕ} → p + (d + q) ≤ l → f ≡ d → b ≡ 8 * l → b < 8 * 2 ^ 32 → p + f < 2 ^ 32
children_fit p d q room same bytes small = omega arith

pub kept_starts : (p w i n : ℕ) {t l r : ℕ} → p + n * w ≤ l → i < n → t ≡ w → l ≤ r → r < 2 ^ 29 →
    p + i * t < 2 ^ 32
kept_starts p w i n {t} room less same within small =
    let whole : i * t ≡ i * w = ap (λ k. i * k) same in omega (arith, row_within i n w less, whole)
