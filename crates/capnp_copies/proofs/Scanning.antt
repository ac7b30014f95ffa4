-- The widest of elements, one after another.
use Rattle.std.proofs.Common.{◌≡◌, ℕ, zero, suc, ◌+◌, ◌-◌, ◌*◌, ◌<◌, ◌≤◌, max, Bool, true, false, nat_eq, List, [], ◌∷◌, length, take, drop, refl, ap, subst, ◌∙◌, arith, length-take, length-drop, drop-drop}
use Rattle.std.proofs.lemmas.List.{drop-take}
use Rattle.capnp_format.specs.Canonical.{used_from, used_words}
use Rattle.capnp_pointers.proofs.WholeValue.WordsAdded.{row_within}
use Rattle.capnp_copies.specs.Widths.{most_used}
use Rattle.capnp_allocation.proofs.BelowElements.{next_place}

-- The words that are used, but at least n.
used_beyond : (n : ℕ) (xs : List ℕ) → n ≤ length xs → max n (used_words xs) ≡ n + used_words (drop n xs)
used_beyond zero xs l = omega arith
used_beyond (suc n) [] l = absurd (omega arith)
used_beyond (suc n) (x ∷ xs) l = step (nat_eq x 0) (used_words xs) ∙ ap suc (used_beyond n xs (omega arith)) ∙ omega arith
  where
    step : (b : Bool) (u : ℕ) → max (suc n) (used_from b u) ≡ suc (max n u)
    step true zero = omega arith
    step true (suc u) = omega arith
    step false u = omega arith

-- The words that are used of a section in a segment, but at least its first `least` words.
pub used_section : (ws : List ℕ) (at n least : ℕ) → least ≤ n → at + n ≤ length ws → max least (used_words (take n (drop at ws))) ≡ least + used_words (take (n - least) (drop (at + least) ws))
used_section ws at n least l fits =
    used_beyond least (take n (drop at ws)) (omega (arith, length-take n (drop at ws), length-drop at ws))
    ∙ ap (λ m. least + used_words (drop least (take m (drop at ws)))) (let e : n ≡ least + (n - least) = omega arith in e)
    ∙ ap (λ xs. least + used_words xs) (drop-take least (n - least) (drop at ws) ∙ ap (take (n - least)) (drop-drop least at ws))

-- The most that elements of d data words and q pointers from position p on use.

abbrev pub data_used : List ℕ → ℕ → ℕ → ℕ → ℕ → ℕ
data_used ws p d q n = most_used ws p d (d + q) n

abbrev pub pointers_used : List ℕ → ℕ → ℕ → ℕ → ℕ → ℕ
pointers_used ws p d q n = most_used ws (p + d) q (d + q) n

-- The pointers of the next element.
pub next_used : (ws : List ℕ) (p d q n : ℕ) → most_used ws (p + d + (d + q)) q (d + q) n ≡ pointers_used ws (p + (d + q)) d q n
next_used ws p d q n = ap (λ i. most_used ws i q (d + q) n) (let e : p + d + (d + q) ≡ p + (d + q) + d = omega arith in e)

-- A section without words uses none.

none_used : (ws : List ℕ) (p stride n : ℕ) → most_used ws p 0 stride n ≡ 0
none_used ws p stride zero = refl
none_used ws p stride (suc n) = ap (max 0) (none_used ws (p + stride) stride n)

pub no_data : (ws : List ℕ) (p q n : ℕ) → data_used ws p 0 q n ≡ 0
no_data ws p q n = none_used ws p (0 + q) n

pub no_pointers : (ws : List ℕ) (p d n : ℕ) → pointers_used ws p d 0 n ≡ 0
no_pointers ws p d n = none_used ws (p + d) (d + 0) n

-- One more element is counted.

pub one_left : (n i : ℕ) → i < n → n - i ≡ suc (n - (i + 1))
one_left n i l = omega arith

pub data_more : (ws : List ℕ) (p d q k least : ℕ) → max least (data_used ws p d q (suc k)) ≡ max (max least (used_words (take d (drop p ws)))) (data_used ws (p + (d + q)) d q k)
data_more ws p d q k least = omega arith

pub pointers_more : (ws : List ℕ) (p d q k least : ℕ) → max least (pointers_used ws p d q (suc k)) ≡ max (max least (used_words (take q (drop (p + d) ws)))) (pointers_used ws (p + (d + q)) d q k)
pointers_more ws p d q k least = omega (arith, next_used ws p d q k)

-- No element is counted yet; and all elements are.

pub none_yet : (ws : List ℕ) (p d stride n : ℕ) → max 0 (most_used ws p d stride (n - 0)) ≡ most_used ws p d stride n
none_yet ws p d stride n =
    let all : n - 0 ≡ n = omega arith in
    ap (λ k. max 0 (most_used ws p d stride k)) all ∙ omega arith

pub no_more : {n i : ℕ} → n ≤ i → i ≤ n → n - i ≡ 0
no_more less more = omega arith

pub none_left : (ws : List ℕ) (p d stride least : ℕ) {k all : ℕ} → k ≡ 0 → max least (most_used ws p d stride k) ≡ all → least ≡ all
none_left ws p d stride least {k} {all} none e =
    let f : max least (most_used ws p d stride 0) ≡ all = subst (λ j. max least (most_used ws p d stride j) ≡ all) none e in omega (arith, f)

-- The positions of the sections of the next element.

pub none_fits : (n : ℕ) → 0 ≤ n
none_fits n = omega arith

pub data_inside : (p d q : ℕ) {at i n l b : ℕ} → at ≡ p + i * (d + q) → p + n * (d + q) ≤ l → b ≡ 8 * l → i < n → 8 * (at + d) ≤ b
data_inside p d q {i = i} {n = n} place inside bytes less = omega (arith, row_within i n (d + q) less, place, inside, bytes)

pub pointers_inside : (p q : ℕ) {at i n d l b f : ℕ} → at ≡ p + i * (d + q) → p + n * (d + q) ≤ l → b ≡ 8 * l → i < n → f ≡ d → 8 * (at + f + q) ≤ b
pointers_inside p q {i = i} {n = n} {d = d} place inside bytes less same = omega (arith, row_within i n (d + q) less, place, inside, bytes, same)

pub next_at : (at : ℕ) {f g d q : ℕ} → f ≡ d → g ≡ q → at + f + g ≡ at + (d + q)
next_at at is_f is_g = omega arith

pub next_reached : (p i w : ℕ) {at e : ℕ} → at ≡ p + i * w → e ≡ at + w → e ≡ p + (i + 1) * w
next_reached p i w place next = omega (arith, place, next, next_place w i)
