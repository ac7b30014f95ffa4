-- Pointers moved one after the other.
use Rattle.std.proofs.Common.{◌≡◌, inl, inr, ℕ, zero, suc, ◌+◌, ◌-◌, ◌<◌, ◌≤◌, cond, nat_eq, List, [], ◌∷◌, ◌++◌, length, refl, sym, ap, ap₂, ◌∙◌, subst, le_trans, arith, eq-eqb, ne_eqb}
use Rattle.std.proofs.lemmas.Bool.{cases_eq, cases_lt}
use Rattle.std.proofs.lemmas.Bool.Decides.{nat_tests}
use Rattle.std.proofs.lemmas.List.{get_or_past}
use Rattle.capnp_format.specs.Word.{kind}
use Rattle.capnp_format.specs.Segments.{Segments, Grows, segment, word_at}
use Rattle.capnp_format.specs.Tree.{Trees, no_trees, tree, count}
use Rattle.capnp_format.specs.Means.{MeansAll}
use Rattle.capnp_format.specs.Forest.{times, pads_of, cover, cover_all}
use Rattle.capnp_format.proofs.Frame.{times-append}
use Rattle.capnp_format.specs.Path.{word_interval}
use Rattle.capnp_allocation.specs.Zeroed.{row}
use Rattle.capnp_allocation.proofs.Zeros.{in_row}
use Rattle.capnp_allocation.proofs.Extents.{once_held, times-first}
use Rattle.capnp_in_place.specs.Moved.{Move, new_places, fresh_pads, IsMoved, HasValueInside, CanMove, AreMoved, Moves, MovesSome}
use Rattle.capnp_in_place.proofs.MovedPointers.OneMoved.{moved_kept, old_pads_inside}
use Rattle.capnp_in_place.proofs.WiderObjects.RemadeElsewhere.{pads_from, old_pads, new_pads, own_pads}
use Rattle.capnp_in_place.proofs.WiderObjects.Statements.{old_places, Extends, HaveValuesInside, AllMoved, a_move, row_moves}

-- Consecutive lists of moves.

pub new_places-append : (ms ns : List Move) (x y : ℕ) → times (new_places (ms ++ ns)) x y ≡ times (new_places ms) x y + times (new_places ns) x y
new_places-append [] ns x y = omega arith
new_places-append (m ∷ ms) ns x y = omega (arith, new_places-append ms ns x y)

old_pads-append : (R : Segments) (ms ns : List Move) (x y : ℕ) → times (old_pads R (ms ++ ns)) x y ≡ times (old_pads R ms) x y + times (old_pads R ns) x y
old_pads-append R [] ns x y = omega arith
old_pads-append R (m ∷ ms) ns x y =
    let p = pads_of (word_at R m.from.segment m.from.at) in
    omega (arith, old_pads-append R ms ns x y, times-append p (old_pads R (ms ++ ns)) x y, times-append p (old_pads R ms) x y)

new_pads-append : (R : Segments) (ms ns : List Move) (x y : ℕ) → times (new_pads R (ms ++ ns)) x y ≡ times (new_pads R ms) x y + times (new_pads R ns) x y
new_pads-append R [] ns x y = omega arith
new_pads-append R (m ∷ ms) ns x y =
    let p = pads_of (word_at R m.to.segment m.to.at) in
    omega (arith, new_pads-append R ms ns x y, times-append p (new_pads R (ms ++ ns)) x y, times-append p (new_pads R ms) x y)

pub fresh_pads-append : (R : Segments) (ms ns : List Move) (x y : ℕ) → times (fresh_pads R (ms ++ ns)) x y ≡ times (fresh_pads R ms) x y + times (fresh_pads R ns) x y
fresh_pads-append R [] ns x y = omega arith
fresh_pads-append R (m ∷ ms) ns x y =
    let p = own_pads R m in
    omega (arith, fresh_pads-append R ms ns x y, times-append p (fresh_pads R (ms ++ ns)) x y, times-append p (fresh_pads R ms) x y)

stand_left : (B : Segments) (ms ns : List Move) → HaveValuesInside B (ms ++ ns) → HaveValuesInside B ms
stand_left B [] ns h = tt
stand_left B (m ∷ ms) ns h = (h.0, stand_left B ms ns h.1)

stand_right : (B : Segments) (ms ns : List Move) → HaveValuesInside B (ms ++ ns) → HaveValuesInside B ns
stand_right B [] ns h = h
stand_right B (m ∷ ms) ns h = stand_right B ms ns h.1

moved_append : (R : Segments) (ms ns : List Move) → AllMoved R ms → AllMoved R ns → AllMoved R (ms ++ ns)
moved_append R [] ns a b = b
moved_append R (m ∷ ms) ns a b = (a.0, moved_append R ms ns a.1 b)

-- The words of each move are the same.
abbrev pub SameMoves : Segments → Segments → List Move → Type 0
SameMoves M R [] = Unit {0}
SameMoves M R (m ∷ ms) = (word_at R m.from.segment m.from.at ≡ word_at M m.from.segment m.from.at) × (word_at R m.to.segment m.to.at ≡ word_at M m.to.segment m.to.at) × SameMoves M R ms

pub same_old : (M R : Segments) (ms : List Move) → SameMoves M R ms → old_pads R ms ≡ old_pads M ms
same_old M R [] h = refl
same_old M R (m ∷ ms) (e, f, rest) = ap₂ (λ x is. pads_of x ++ is) e (same_old M R ms rest)

pub same_new : (M R : Segments) (ms : List Move) → SameMoves M R ms → new_pads R ms ≡ new_pads M ms
same_new M R [] h = refl
same_new M R (m ∷ ms) (e, f, rest) = ap₂ (λ x is. pads_of x ++ is) f (same_new M R ms rest)

pub same_fresh : (M R : Segments) (ms : List Move) → SameMoves M R ms → fresh_pads R ms ≡ fresh_pads M ms
same_fresh M R [] h = refl
same_fresh M R (m ∷ ms) (e, f, rest) =
    ap₂ (λ is js. is ++ js) (ap₂ (λ x y. cond (nat_eq (kind x) 2) [] (pads_of y)) e f) (same_fresh M R ms rest)

-- What stays of moved pointers: all that B has, all places that were there, and their pads.
pub record StaysMoved (B M R : Segments) (ms : List Move) : Type 0 where
  pub grows : Grows M R
  pub extends : Extends B M
  pub in_base : (x y : ℕ) → y < length (segment B x) → word_at R x y ≡ word_at M x y
  pub places : (x y : ℕ) → 0 < times (new_places ms) x y → word_at R x y ≡ word_at M x y
  pub pads : (x y : ℕ) → 0 < times (new_pads M ms) x y → word_at R x y ≡ word_at M x y

stays_next : (B M R : Segments) (m : Move) (ms : List Move) → StaysMoved B M R (m ∷ ms) → StaysMoved B M R ms
stays_next B M R m ms h = record {
  grows = h.grows;
  extends = h.extends;
  in_base = h.in_base;
  places = λ x y l. h.places x y (omega arith);
  pads = λ x y l. h.pads x y (omega (arith, times-append (pads_of (word_at M m.to.segment m.to.at)) (new_pads M ms) x y));
}

old_word_in : (B : Segments) (s p : ℕ) → HasValueInside B s p → p < length (segment B s)
old_word_in B s p (t, n, c, m, inside) = inside s p (omega (arith, times-first (word_interval s p) (cover B s p t) s p, once_held s p))

pub same_moves : (B M R : Segments) (ms : List Move) → HaveValuesInside B ms → StaysMoved B M R ms → SameMoves M R ms
same_moves B M R [] a h = tt
same_moves B M R (m ∷ ms) a h = (
  h.in_base m.from.segment m.from.at (old_word_in B m.from.segment m.from.at a.0),
  h.places m.to.segment m.to.at (omega (arith, once_held m.to.segment m.to.at)),
  same_moves B M R ms a.1 (stays_next B M R m ms h),
)

pub moved_still : (B M R : Segments) (ms : List Move) → HaveValuesInside B ms → StaysMoved B M R ms → AllMoved M ms → AllMoved R ms
moved_still B M R [] a h d = tt
moved_still B M R (m ∷ ms) a h d = (
  moved_kept M R m.from.segment m.from.at m.to.segment m.to.at h.grows (h.in_base m.from.segment m.from.at (old_word_in B m.from.segment m.from.at a.0)) (h.places m.to.segment m.to.at (omega (arith, once_held m.to.segment m.to.at)))
      (λ x y l. h.in_base x y (old_pads_inside B M m.from.segment m.from.at h.extends a.0 x y l))
      (λ x y l. h.pads x y (omega (arith, times-append (pads_of (word_at M m.to.segment m.to.at)) (new_pads M ms) x y))) d.0,
  moved_still B M R ms a.1 (stays_next B M R m ms h) d.1,
)

-- The pads of old pointers are inside B.
pub all_old_inside : (B M : Segments) (ms : List Move) → Extends B M → HaveValuesInside B ms → (x y : ℕ) → 0 < times (old_pads M ms) x y → y < length (segment B x)
all_old_inside B M [] e a x y l = absurd (omega arith)
all_old_inside B M (m ∷ ms) e a x y l = elim (cases_eq (times (pads_of (word_at M m.from.segment m.from.at)) x y) 0) [
  | inl none ↦ all_old_inside B M ms e a.1 x y (omega (arith, times-append (pads_of (word_at M m.from.segment m.from.at)) (old_pads M ms) x y))
  | inr some ↦ old_pads_inside B M m.from.segment m.from.at e a.0 x y (omega arith)
]

-- No pointer is moved.
pub none_moved : (S : Segments) → Moves S S []
none_moved S = λ B c. record {
  grows = record { segments = omega arith; words = λ x. omega arith };
  moved = tt;
  kept = λ x y h l. refl;
  sums = λ x y. refl;
  fresh = λ x y l. absurd (omega arith);
  once = λ x y. omega arith;
  zero = λ x y h l. get_or_past (segment S x) y 0 l;
}

-- What CanMove states of the first moves.
pub can_left : (B S : Segments) (ms ns : List Move) → CanMove B S (ms ++ ns) → CanMove B S ms
can_left B S ms ns c = record {
  grows = c.grows;
  kept = c.kept;
  stand = stand_left B ms ns c.stand;
  behind = λ x y l. c.behind x y (omega (arith, new_places-append ms ns x y));
  once = λ x y. omega (arith, new_places-append ms ns x y, c.once x y);
}

-- What it states of the others, once the first are moved.

-- No new place is inside B.
no_place : (B S : Segments) (os : List Move) (x y : ℕ) → CanMove B S os → y < length (segment B x) → times (new_places os) x y ≡ 0
no_place B S os x y c l = elim (cases_eq (times (new_places os) x y) 0) [
  | inl e ↦ e
  | inr e ↦ absurd (omega (arith, l, (c.behind x y (omega arith)).0))
]

moved_extends : (B S M : Segments) (ms ns : List Move) → CanMove B S (ms ++ ns) → AreMoved S M ms → Extends B M
moved_extends B S M ms ns c a = record {
  grows = record { segments = le_trans c.grows.segments a.grows.segments; words = λ x. le_trans (c.grows.words x) (a.grows.words x) };
  kept = λ x y l. a.kept x y (omega (arith, no_place B S (ms ++ ns) x y c l, new_places-append ms ns x y)) (omega (arith, c.grows.words x)) ∙ c.kept x y l;
}

pub can_right : (B S M : Segments) (ms ns : List Move) → CanMove B S (ms ++ ns) → AreMoved S M ms → CanMove B M ns
can_right B S M ms ns c a =
    let split = new_places-append ms ns in
    let extends = moved_extends B S M ms ns c a in
    record {
      grows = extends.grows;
      kept = extends.kept;
      stand = stand_right B ms ns c.stand;
      behind = λ x y l. (let (low, high, none) = c.behind x y (omega (arith, split x y)) in
          (low, omega (arith, high, a.grows.words x), a.kept x y (omega (arith, split x y, c.once x y)) high ∙ none));
      once = λ x y. omega (arith, split x y, c.once x y);
    }

-- Some pointers are moved, and then others.
pub moves_both : (S M R : Segments) (ms ns : List Move) → Moves S M ms → Moves M R ns → Moves S R (ms ++ ns)
moves_both S M R ms ns f g = λ B c.
    (let split = new_places-append ms ns in
    let first : CanMove B S ms = can_left B S ms ns c in
    let a = f B first in
    let base_beside = λ (x y : ℕ) (l : y < length (segment B x)). (let e : times (new_places (ms ++ ns)) x y ≡ 0 = no_place B S (ms ++ ns) x y c l in e) in
    let extends : Extends B M = moved_extends B S M ms ns c a in
    let second : CanMove B M ns = can_right B S M ms ns c a in
    let b = g B second in
    let in_s = λ (x y : ℕ) (l : 0 < times (new_places ns) x y). (let e : y < length (segment S x) = (c.behind x y (omega (arith, split x y))).1 in e) in
    let stays : StaysMoved B M R ms = record {
      grows = b.grows;
      extends = extends;
      in_base = λ x y l. b.kept x y (omega (arith, base_beside x y l, split x y)) (omega (arith, extends.grows.words x));
      places = λ x y l. b.kept x y (omega (arith, split x y, c.once x y)) (omega (arith, (c.behind x y (omega (arith, split x y))).1, a.grows.words x));
      pads = λ x y l. elim (cases_eq (times (fresh_pads M ms) x y) 0) [
        | inl none ↦ (let low = all_old_inside B M ms extends first.stand x y (omega (arith, a.sums x y)) in b.kept x y (omega (arith, base_beside x y low, split x y)) (omega (arith, extends.grows.words x)))
        | inr some ↦ (let new = a.fresh x y (omega arith) in b.kept x y (not_held_by ns x y (λ l. omega (arith, in_s x y l, new.0))) new.1)
      ];
    } in
    let same = same_moves B M R ms first.stand stays in
    let fresh = same_fresh M R ms same in
    let all = λ (x y : ℕ). (let e : times (fresh_pads R (ms ++ ns)) x y ≡ times (fresh_pads M ms) x y + times (fresh_pads R ns) x y = fresh_pads-append R ms ns x y ∙ ap (λ is. times is x y + times (fresh_pads R ns) x y) fresh in e) in
    record {
      grows = record { segments = le_trans a.grows.segments b.grows.segments; words = λ x. le_trans (a.grows.words x) (b.grows.words x) };
      moved = moved_append R ms ns (moved_still B M R ms first.stand stays a.moved) b.moved;
      kept = λ x y h l. b.kept x y (omega (arith, h, split x y)) (omega (arith, a.grows.words x)) ∙ a.kept x y (omega (arith, h, split x y)) l;
      sums = λ x y. omega (
        arith,
        all x y,
        new_pads-append R ms ns x y,
        old_pads-append R ms ns x y,
        ap (λ is. times is x y) (same_new M R ms same),
        ap (λ is. times is x y) (same_old M R ms same),
        a.sums x y,
        b.sums x y,
      );
      fresh = λ x y l. elim (cases_eq (times (fresh_pads M ms) x y) 0) [
        | inl none ↦ (let new = b.fresh x y (omega (arith, all x y)) in (omega (arith, new.0, a.grows.words x), new.1))
        | inr some ↦ (let new = a.fresh x y (omega arith) in (new.0, omega (arith, new.1, b.grows.words x)))
      ];
      once = λ x y. elim (cases_eq (times (fresh_pads M ms) x y) 0) [
        | inl none ↦ omega (arith, all x y, b.once x y)
        | inr some ↦ (
            let new = a.fresh x y (omega arith) in
            let none : times (fresh_pads R ns) x y ≡ 0 = elim (cases_eq (times (fresh_pads R ns) x y) 0) [ inl e ↦ e | inr e ↦ absurd (omega (arith, new.1, (b.fresh x y (omega arith)).0)) ] in
            omega (arith, all x y, a.once x y, none)
            )
      ];
      zero = λ x y h l. elim (cases_lt y (length (segment M x))) [
        | inl old ↦ b.kept x y (not_held_by ns x y (λ m. omega (arith, in_s x y m, l))) old ∙ a.zero x y (omega (arith, h, all x y)) l
        | inr new ↦ b.zero x y (omega (arith, h, all x y)) new
      ];
    })
  where
    not_held_by : (os : List Move) (x y : ℕ) → (0 < times (new_places os) x y → ⊥) → times (new_places os) x y ≡ 0
    not_held_by os x y h = elim (cases_eq (times (new_places os) x y) 0) [ inl e ↦ e | inr e ↦ absurd (h (omega arith)) ]

-- Rows, from the front on.

pub row_next : (s p v r k : ℕ) → row_moves s p v r (suc k) ≡ row_moves s p v r k ++ a_move s (p + k) v (r + k) ∷ []
row_next s p v r zero = ap₂ (λ a b. a_move s a v b ∷ []) (let e : p ≡ p + 0 = omega arith in e) (let e : r ≡ r + 0 = omega arith in e)
row_next s p v r (suc k) =
    ap (λ ms. a_move s p v r ∷ ms) (row_next s (p + 1) v (r + 1) k ∙ ap₂ (λ a b. row_moves s (p + 1) v (r + 1) k ++ a_move s a v b ∷ [])
    (let e : p + 1 + k ≡ p + suc k = omega arith in e) (let e : r + 1 + k ≡ r + suc k = omega arith in e))

pub row_split : (s p v r i k n : ℕ) → n ≡ i + k → row_moves s p v r n ≡ row_moves s p v r i ++ row_moves s (p + i) v (r + i) k
row_split s p v r zero k n e =
    ap (row_moves s p v r) (let f : n ≡ k = omega arith in f) ∙ ap₂ (λ a b. row_moves s a v b k) (let f : p ≡ p + 0 = omega arith in f) (let f : r ≡ r + 0 = omega arith in f)
row_split s p v r (suc i) k zero e = absurd (omega arith)
row_split s p v r (suc i) k (suc n) e =
    ap (λ ms. a_move s p v r ∷ ms) (row_split s (p + 1) v (r + 1) i k n (omega arith) ∙ ap₂ (λ a b. row_moves s (p + 1) v (r + 1) i ++ row_moves s a v b k)
    (let f : p + 1 + i ≡ p + suc i = omega arith in f) (let f : r + 1 + i ≡ r + suc i = omega arith in f))

-- One more move.
pub moves_next : (S M R : Segments) (s p v r k : ℕ) → Moves S M (row_moves s p v r k) → Moves M R (a_move s (p + k) v (r + k) ∷ []) → Moves S R (row_moves s p v r (k + 1))
moves_next S M R s p v r k f g =
    subst (λ n. Moves S R (row_moves s p v r n)) (let e : suc k ≡ k + 1 = omega arith in e)
    (subst (λ ms. Moves S R ms) (sym (row_next s p v r k)) (moves_both S M R (row_moves s p v r k) (a_move s (p + k) v (r + k) ∷ []) f g))

-- Some of the first pointers of a row.
pub moves_some : (S M : Segments) (s p v r i k : ℕ) → i ≤ k → Moves S M (row_moves s p v r i) → MovesSome S M (row_moves s p v r k)
moves_some S M s p v r i k l f =
    let n = k - i in
    record {
      done = row_moves s p v r i;
      left = row_moves s (p + i) v (r + i) n;
      all = row_split s p v r i n k (omega arith);
      moves = f;
    }

-- Consecutive children that are inside B.
pub children_stand : (B : Segments) (n s p v r : ℕ) (ts : Trees) (c : ℕ) → MeansAll B n s p ts c → ((x y : ℕ) → 0 < times (row s p (count ts) ∷ cover_all B s p ts) x y → y < length (segment B x)) → HaveValuesInside B (row_moves s p v r (count ts))
children_stand B n s p v r no_trees c m inside = tt
children_stand B n s p v r (tree t ts) c (a, b, one, rest, g) inside =
    let parts = λ (x y : ℕ). (let e : times (row s p (suc (count ts)) ∷ []) x y ≡ times (word_interval s p ∷ []) x y + times (row s (p + 1) (count ts) ∷ []) x y = first_word s p (count ts) x y in e) in
    let whole = λ (x y : ℕ). times-append (cover B s p t) (cover_all B s (p + 1) ts) x y in (
      (t, n, a, one, λ x y l. inside x y (omega (arith, parts x y, whole x y, times-first (word_interval s p) (cover B s p t) x y, times-first (row s p (suc (count ts))) (cover_all B s p (tree t ts)) x y))),
      children_stand B n s (p + 1) v (r + 1) ts b rest
          (λ x y l. inside x y (omega (arith, parts x y, whole x y, times-first (row s (p + 1) (count ts)) (cover_all B s (p + 1) ts) x y, times-first (row s p (suc (count ts))) (cover_all B s p (tree t ts)) x y))),
    )
  where
    first_word : (s p n x y : ℕ) → times (row s p (suc n) ∷ []) x y ≡ times (word_interval s p ∷ []) x y + times (row s (p + 1) n ∷ []) x y
    first_word s p n x y = grind (arith, nat_tests)

-- What a row of moves states of each.

pub row_moved : (M : Segments) (s p v r k i : ℕ) → AllMoved M (row_moves s p v r k) → i < k → IsMoved M s (p + i) v (r + i)
row_moved M s p v r zero i h l = absurd (omega arith)
row_moved M s p v r (suc k) zero h l = subst (λ z. IsMoved M s z v (r + 0)) (let e : p ≡ p + 0 = omega arith in e) (subst (λ z. IsMoved M s p v z) (let e : r ≡ r + 0 = omega arith in e) h.0)
row_moved M s p v r (suc k) (suc i) h l =
    subst (λ z. IsMoved M s z v (r + suc i)) (let e : p + 1 + i ≡ p + suc i = omega arith in e)
    (subst (λ z. IsMoved M s (p + 1 + i) v z) (let e : r + 1 + i ≡ r + suc i = omega arith in e) (row_moved M s (p + 1) v (r + 1) k i h.1 (omega arith)))

pub row_old_pads : (M : Segments) (s p v r k : ℕ) → old_pads M (row_moves s p v r k) ≡ pads_from M s p k
row_old_pads M s p v r zero = refl
row_old_pads M s p v r (suc k) = ap (λ is. pads_of (word_at M s p) ++ is) (row_old_pads M s (p + 1) v (r + 1) k)

pub row_new_pads : (M : Segments) (s p v r k : ℕ) → new_pads M (row_moves s p v r k) ≡ pads_from M v r k
row_new_pads M s p v r zero = refl
row_new_pads M s p v r (suc k) = ap (λ is. pads_of (word_at M v r) ++ is) (row_new_pads M s (p + 1) v (r + 1) k)

pub row_new_places : (s p v r k x y : ℕ) → times (new_places (row_moves s p v r k)) x y ≡ times (row v r k ∷ []) x y
row_new_places s p v r zero x y = empty v r x y
  where
    empty : (v r x y : ℕ) → 0 ≡ times (row v r 0 ∷ []) x y
    empty v r x y = grind (arith, nat_tests)
row_new_places s p v r (suc k) x y = omega (arith, row_new_places s (p + 1) v (r + 1) k x y, first_word v r k x y)
  where
    first_word : (v r n x y : ℕ) → times (row v r (suc n) ∷ []) x y ≡ times (word_interval v r ∷ []) x y + times (row v (r + 1) n ∷ []) x y
    first_word v r n x y = grind (arith, nat_tests)

-- Old places are inside B.
pub old_place_inside : (B : Segments) (ms : List Move) → HaveValuesInside B ms → (x y : ℕ) → 0 < times (old_places ms) x y → y < length (segment B x)
old_place_inside B [] a x y l = absurd (omega arith)
old_place_inside B (m ∷ ms) a x y l = elim (cases_eq (times (word_interval m.from.segment m.from.at ∷ []) x y) 0) [
  | inl none ↦ old_place_inside B ms a.1 x y (omega arith)
  | inr some ↦ (let i = in_row m.from.segment m.from.at 1 x y (omega arith) in
      let e : y ≡ m.from.at = omega (arith, i.1, i.2) in
      omega (arith, old_word_in B m.from.segment m.from.at a.0, ap (λ z. length (segment B z)) i.0))
]

-- Pointers that aren't moved yet are null, and have no pads.
abbrev pub AllNull : Segments → List Move → Type 0
AllNull P [] = Unit {0}
AllNull P (m ∷ ms) = (word_at P m.to.segment m.to.at ≡ 0) × AllNull P ms

pub unwritten : (P : Segments) (ms : List Move) → AllNull P ms → (x y : ℕ) → times (fresh_pads P ms) x y ≡ 0
unwritten P [] h x y = omega arith
unwritten P (m ∷ ms) h x y = omega (arith, times-append (own_pads P m) (fresh_pads P ms) x y, unwritten P ms h.1 x y, none)
  where
    none : times (own_pads P m) x y ≡ 0
    none = elim (cases_eq (kind (word_at P m.from.segment m.from.at)) 2) [
      | inl e ↦ ap (λ b. times (cond b [] (pads_of (word_at P m.to.segment m.to.at))) x y) (eq-eqb (kind (word_at P m.from.segment m.from.at)) 2 e)
      | inr e ↦ ap (λ b. times (cond b [] (pads_of (word_at P m.to.segment m.to.at))) x y) (ne_eqb (kind (word_at P m.from.segment m.from.at)) 2 e) ∙ ap (λ w. times (pads_of w) x y) h.0
    ]

places_null : (P : Segments) (ms : List Move) → ((x y : ℕ) → 0 < times (new_places ms) x y → word_at P x y ≡ 0) → AllNull P ms
places_null P [] h = tt
places_null P (m ∷ ms) h = (h m.to.segment m.to.at (omega (arith, once_held m.to.segment m.to.at)), places_null P ms (λ x y l. h x y (omega arith)))

pub left_null : (B S P : Segments) (ms ns : List Move) → CanMove B S (ms ++ ns) → AreMoved S P ms → AllNull P ns
left_null B S P ms ns c a = places_null P ns (λ x y l.
    (let split = new_places-append ms ns x y in
    let (low, high, none) = c.behind x y (omega (arith, split)) in
    a.kept x y (omega (arith, split, c.once x y)) high ∙ none))
