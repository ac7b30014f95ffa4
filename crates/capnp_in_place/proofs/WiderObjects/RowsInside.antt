-- Where each of some rows starts that are `step` words apart, and that it is inside the words of
-- all rows.
use Rattle.std.proofs.Common.{◌≡◌, ◌⊎◌, inl, inr, ℕ, ◌+◌, ◌*◌, ◌^◌, ◌<◌, ◌≤◌, ap, ap₂, arith}
use Rattle.capnp_allocation.proofs.BelowElements.{element_within, next_place}

pub next_row : (at step i place : ℕ) → place ≡ at + i * step → place + step ≡ at + (i + 1) * step
next_row at step i place is = omega (arith, is, next_place step i)

-- n rows of k words, which start every `step` words; the last one may be followed by fewer words
-- than a step.
pub row_inside : (at step k n i place length now : ℕ) → at + n * step + k ≤ length + step → i < n →
    place ≡ at + i * step → length ≤ now → place + k ≤ now
row_inside at step k n i place length now inside less is more =
    omega (arith, element_within step n i less)

pub row_there : (at step k n i : ℕ) {length : ℕ} → at + n * step + k ≤ length + step → i < n → at + i * step + k ≤ length
row_there at step k n i inside less = omega (arith, element_within step n i less)

pub row_behind_fits : (at step k n i place length room : ℕ) → at + n * step + k ≤ length + step → i < n →
    place ≡ at + i * step → length ≤ room → room < 2 ^ 29 → step < 2 ^ 18 → place + step < 2 ^ 32
row_behind_fits at step k n i place length room inside less is within small narrow =
    omega (arith, element_within step n i less)

-- n rows of whole steps.
pub step_inside : (at step k n i place length now : ℕ) → at + n * step ≤ length → k ≤ step → i < n →
    place ≡ at + i * step → length ≤ now → place + k ≤ now
step_inside at step k n i place length now inside narrow less is more =
    omega (arith, element_within step n i less)

pub step_fits : (at step n i place length room : ℕ) → at + n * step ≤ length → i < n →
    place ≡ at + i * step → length ≤ room → room < 2 ^ 29 → place + step < 2 ^ 32
step_fits at step n i place length room inside less is within small =
    omega (arith, element_within step n i less)

-- Each of the n old rows ends before the first of the new ones.
pub steps_apart : (at step k n i place to wide other : ℕ) → at + n * step ≤ to → k ≤ step → i < n →
    place ≡ at + i * step → other ≡ to + i * wide → place + k ≤ other
steps_apart at step k n i place to wide other apart narrow less is beside =
    omega (arith, element_within step n i less)

pub start_inside : (at step n i place length now : ℕ) → at + n * step ≤ length → 0 < step → i < n →
    place ≡ at + i * step → now ≡ length → place < now
start_inside at step n i place length now inside some less is same =
    omega (arith, element_within step n i less)

-- New words of a list of structs, and of a landing pad before them.
pub tag_inside : (at pads n : ℕ) {t b now : ℕ} → at + (pads + (1 + n)) ≤ t → b ≡ t → b ≤ now → at + pads < now
tag_inside at pads n room same more = omega arith

pub tag_fits : (at pads n : ℕ) {t b most : ℕ} → at + (pads + (1 + n)) ≤ t → b ≡ t → b ≤ most → most < 2 ^ 29 →
    at + pads < 2 ^ 32
tag_fits at pads n room same within small = omega arith

pub first_fits : (at pads n : ℕ) {t b most : ℕ} → at + (pads + (1 + n)) ≤ t → b ≡ t → b ≤ most →
    most < 2 ^ 29 → at + pads + 1 < 2 ^ 32
first_fits at pads n room same within small = omega arith

-- The words after the tag are inside the segment.
pub rows_fit : (at pads : ℕ) {n t b m : ℕ} → at + (pads + (1 + n)) ≤ t → b ≡ t → m ≡ n → at + pads + 1 + m ≤ b
rows_fit at pads room same whole = omega arith

-- What was there before ends before them.
pub stands_before : {end s t at : ℕ} (pads : ℕ) → end ≤ s → s ≡ t → t ≤ at → end ≤ at + pads + 1
stands_before pads inside same behind = omega arith

pub near_or_behind : {pads : ℕ} {A : Type 0} → ((pads ≡ 0) × A) ⊎ (pads ≡ 1) →
    (pads ≡ 0 → A) × (pads ≤ 1)
near_or_behind (inl (none, here)) = ((λ e. here), omega arith)
near_or_behind (inr one) = ((λ e. absurd (omega arith)), omega arith)

pub product_fits : (n : ℕ) {total s : ℕ} → total ≡ s → n * s < 2 ^ 29 → n * total < 2 ^ 32
product_fits n {total} {s} same small =
    let whole : n * total ≡ n * s = ap (λ x. n * x) same in omega (arith, whole)

pub some_total : {d : ℕ} (q : ℕ) → 0 < d → 0 < d + q
some_total q some = omega arith

pub some_words : {d : ℕ} (q : ℕ) → 0 < d → d + q ≡ 0 → ⊥
some_words q some none = omega arith

-- The computed number of words of old rows.
pub rows_small : (at tag n w : ℕ) {length most : ℕ} → at + (tag + n * w) ≤ length → length ≤ most →
    most < 2 ^ 29 → tag + n * w < 2 ^ 29
rows_small at tag n w inside within small = omega arith

pub product_small : (tag : ℕ) {n w m k : ℕ} → tag + n * w < 2 ^ 29 → m ≡ n → k ≡ w → m * k < 2 ^ 64
product_small tag {n} {w} {m} {k} small e f =
    let whole : m * k ≡ n * w = ap₂ (λ x y. x * y) e f in omega (arith, small, whole)

pub sum_small : {tag n w t m k : ℕ} → tag + n * w < 2 ^ 29 → t ≡ tag → m ≡ n → k ≡ w → t + m * k < 2 ^ 63
sum_small {tag} {n} {w} {t} {m} {k} small d e f =
    let whole : m * k ≡ n * w = ap₂ (λ x y. x * y) e f in omega (arith, small, whole, d)

pub sum_fits : {tag n w t m k : ℕ} → tag + n * w < 2 ^ 29 → t ≡ tag → m ≡ n → k ≡ w → t + m * k < 2 ^ 64
sum_fits {tag} {n} {w} {t} {m} {k} small d e f =
    let whole : m * k ≡ n * w = ap₂ (λ x y. x * y) e f in omega (arith, small, whole, d)
