-- Allocation for landing pads if pointers are moved into another segment.
use Rattle.std.proofs.Common.{◌≡◌, ◌≢◌, inl, inr, true, false, ℕ, zero, suc, ◌+◌, ◌-◌, ◌*◌, ◌<◌, ◌≤◌, cond, nat_eq, nat_lt, Result, Ok, Err, IsOk, OnOk, List, [], ◌∷◌, ◌++◌, length, refl, sym, ap, ap₂, ◌∙◌, subst, arith}
use Rattle.std.proofs.Common.{lt_of_lt_of_le}
use Rattle.std.proofs.lemmas.Bool.{cases_lt, cases_eq}
use Rattle.std.proofs.lemmas.Bool.Decides.{nat_tests}
use Rattle.capnp_words.specs.declared.error.ErrorKind.{ErrorKind}
use Rattle.capnp_format.specs.Word.{kind}
use Rattle.capnp_format.specs.Segments.{Segments, Grows, segment, word_at}
use Rattle.capnp_format.specs.Tree.{Tree, Struct, Pointers, Structs, count, element_count}
use Rattle.capnp_format.specs.Forest.{times}
use Rattle.capnp_arena_traits.specs.Taking.{SameRoomBelow}
use Rattle.capnp_arena_traits.specs.View.{View}
use Rattle.capnp_allocation.specs.Memory.{HasRoom, KeepsMemory, IsNextRoom, Lengthens, TakesWords}
use Rattle.capnp_allocation.specs.Zeroed.{row}
use Rattle.capnp_arena_traits.specs.declared.arena.WordPlace.{WordPlace}
use Rattle.capnp_in_place.specs.Anew.{MovesApart, OnlyWrites}
use Rattle.capnp_in_place.specs.Moved.{Move, moves_into, near_pointers}
use Rattle.capnp_in_place.specs.Rooms.{HasPadRoom, HasRoomAndPads, direct_pointers}
use Rattle.capnp_in_place.proofs.MovedPointers.MovedInTurn.{row_next}
use Rattle.capnp_in_place.proofs.Room.RoomLeft.{HasSomeRoom, not_true}
use Rattle.capnp_in_place.proofs.MovedPointers.MovedByRows.{rows_next}
use Rattle.capnp_in_place.proofs.WiderObjects.Statements.{a_move, row_moves, rows_moves}

-- The landing pads that a pointer needs in another segment.
abbrev near_word : ℕ → ℕ
near_word x = cond (nat_eq x 0) 0 (cond (nat_lt (kind x) 2) 1 0)

far_word : (x : ℕ) → x ≢ 0 → kind x < 2 → near_word x ≡ 1
far_word x some l = grind (arith, nat_tests)

one_word : (x : ℕ) → near_word x ≤ 1
one_word x = grind (arith, nat_tests)

near_one : (S : Segments) (s p v r n : ℕ) → near_word (word_at S s p) ≡ n → near_pointers S (a_move s p v r ∷ []) ≡ n
near_one S s p v r n e = omega (arith, e)

pub near_far : (S : Segments) (s p v r : ℕ) → word_at S s p ≢ 0 → kind (word_at S s p) < 2 → near_pointers S (a_move s p v r ∷ []) ≡ 1
near_far S s p v r some l = near_one S s p v r 1 (far_word (word_at S s p) some l)

-- The landing pads that consecutive pointers need.

near-append : (S : Segments) (ms ns : List Move) → near_pointers S (ms ++ ns) ≡ near_pointers S ms + near_pointers S ns
near-append S [] ns = omega arith
near-append S (m ∷ ms) ns = omega (arith, near-append S ms ns)

near_row_more : (S : Segments) (s p v r i n : ℕ) → i ≤ n → near_pointers S (row_moves s p v r i) ≤ near_pointers S (row_moves s p v r n)
near_row_more S s p v r zero n l = omega arith
near_row_more S s p v r (suc i) zero l = absurd (omega arith)
near_row_more S s p v r (suc i) (suc n) l = omega (arith, near_row_more S s (p + 1) v (r + 1) i n (omega arith))

near_rows_more : (S : Segments) (s p w v r z k i n : ℕ) → i ≤ n → near_pointers S (rows_moves s p w v r z k i) ≤ near_pointers S (rows_moves s p w v r z k n)
near_rows_more S s p w v r z k zero n l = omega arith
near_rows_more S s p w v r z k (suc i) zero l = absurd (omega arith)
near_rows_more S s p w v r z k (suc i) (suc n) l =
    let first = row_moves s p v r k in
    omega (arith, near-append S first (rows_moves s (p + w) w v (r + z) z k i), near-append S first (rows_moves s (p + w) w v (r + z) z k n), near_rows_more S s (p + w) w v (r + z) z k i n (omega arith))

-- There are at most as many landing pads as pointers.

pub near_row_few : (S : Segments) (s p v r k : ℕ) → near_pointers S (row_moves s p v r k) ≤ k
near_row_few S s p v r zero = omega arith
near_row_few S s p v r (suc k) = omega (arith, one_word (word_at S s p), near_row_few S s (p + 1) v (r + 1) k)

pub near_rows_few : (S : Segments) (s p w v r z k n : ℕ) → near_pointers S (rows_moves s p w v r z k n) ≤ n * k
near_rows_few S s p w v r z k zero = omega arith
near_rows_few S s p w v r z k (suc n) =
    omega (arith, near-append S (row_moves s p v r k) (rows_moves s (p + w) w v (r + z) z k n), near_row_few S s p v r k, near_rows_few S s (p + w) w v (r + z) z k n)

pub near_few : (S : Segments) (a b : WordPlace) (t u : Tree) → near_pointers S (moves_into a b t u) ≤ direct_pointers t
near_few S a b (Struct ws ts) (Struct vs us) = near_row_few S a.segment (a.at + length ws) b.segment (b.at + length vs) (count ts)
near_few S a b (Pointers ts) (Structs d q es) =
    omega (arith, near_rows_few S a.segment a.at 1 b.segment (b.at + 1 + d) (d + q) 1 (count ts))
near_few S a b (Structs e k es) (Structs d q fs) =
    near_rows_few S a.segment (a.at + 1 + e) (e + k) b.segment (b.at + 1 + d) (d + q) k (element_count es)
near_few S a b t u = omega arith

-- The number of landing pads that pointers need doesn't depend on where they go.

pub near_same_row : (S R : Segments) (s p v r v' r' k : ℕ) → ((y : ℕ) → y < p + k → word_at R s y ≡ word_at S s y) → near_pointers R (row_moves s p v r k) ≡ near_pointers S (row_moves s p v' r' k)
near_same_row S R s p v r v' r' zero same = refl
near_same_row S R s p v r v' r' (suc k) same =
    ap₂ (λ x n. near_word x + n) (same p (omega arith)) (near_same_row S R s (p + 1) v (r + 1) v' (r' + 1) k (λ y l. same y (omega arith)))

pub near_same_rows : (S R : Segments) (s p w v r z v' r' z' k n m : ℕ) → p + n * w + k ≤ m + w → ((y : ℕ) → y < m → word_at R s y ≡ word_at S s y) →
    near_pointers R (rows_moves s p w v r z k n) ≡ near_pointers S (rows_moves s p w v' r' z' k n)
near_same_rows S R s p w v r z v' r' z' k zero m inside same = refl
near_same_rows S R s p w v r z v' r' z' k (suc n) m inside same =
    near-append R (row_moves s p v r k) (rows_moves s (p + w) w v (r + z) z k n)
    ∙ ap₂ (λ a b. a + b) (near_same_row S R s p v r v' r' k (λ y l. same y (omega (arith, inside, l)))) (near_same_rows S R s (p + w) w v (r + z) z v' (r' + z') z' k n m (omega (arith, inside)) same)
    ∙ sym (near-append S (row_moves s p v' r' k) (rows_moves s (p + w) w v' (r' + z') z' k n))

pub none_elsewhere : (s p n x y : ℕ) → x ≢ s → times (row s p n ∷ []) x y ≡ 0
none_elsewhere s p n x y other = grind (arith, nat_tests)

-- Allocation for pads.

pub fewer_pads : (v : View) (k n m : ℕ) → n ≤ m → HasPadRoom v k m → HasPadRoom v k n
fewer_pads v k n m l (j, there, other, fits) = (j, there, other, omega (arith, fits))

pub pads_written : (a b : View) (k n : ℕ) → OnlyWrites a b → HasPadRoom a k n → HasPadRoom b k n
pads_written a b k n w (j, there, other, fits) =
    (j, omega (arith, there, w.segments), other, omega (arith, fits, w.words j, w.words k, ap (λ (v : View). v.room j) w.limits, ap (λ (v : View). v.room k) w.limits))

gains : (S R : Segments) (z x j : ℕ) → Lengthens S R z x → length (segment R j) ≤ length (segment S j) + x
gains S R z x j long = elim (cases_eq j z) [
  | inl e ↦ subst (λ i. length (segment R i) ≤ length (segment S i) + x) (sym e) (omega (arith, long.gained))
  | inr e ↦ omega (arith, long.others j e)
]

next_elsewhere : (v : View) (k z : ℕ) → k < length v.words → v.room k < length (segment v.words k) + 1 → IsNextRoom v 2 z → z ≢ k
next_elsewhere v k z there full (inl fit) = λ e. (let fits = subst (λ i. length (segment v.words i) + 2 ≤ v.room i) e fit.1 in omega (arith, full, fits))
next_elsewhere v k z there full (inr (all, last)) = λ e. omega (arith, there, last, e)

-- One pad is allocated: one word, or two elsewhere.
pub pad_taken : (a b : View) (k n : ℕ) → k < length a.words → KeepsMemory a b → TakesWords a b k 1 → HasPadRoom a k (1 + n) → HasPadRoom b k n
pad_taken a b k n exists kept taken (j, there, other, fits) = elim (cases_lt (a.room k) (length (segment a.words k) + 1)) [
  | inl full ↦ (let (z, next, long) = taken.far full in
      let same : length (segment b.words k) ≡ length (segment a.words k) = long.others k (λ e. next_elsewhere a k z exists full next (sym e)) in
      (j, omega (arith, there, long.segments), other, omega (arith, fits, full, kept.1 j there, kept.1 k exists, same, gains a.words b.words z 2 j long)))
  | inr room ↦ (let long = taken.near room in
      (j, omega (arith, there, long.segments), other, omega (arith, fits, room, kept.1 j there, kept.1 k exists, long.gained, long.others j other)))
]

-- x words are allocated for an object in segment z, and some segment had room for them and for
-- pads.
pub pads_left : (v w : View) (z x k n j : ℕ) → z ≢ k → k < length v.words → n ≤ x → Lengthens v.words w.words z x → SameRoomBelow (length v.words) v.room w.room → length (segment w.words z) ≤ w.room z → j < length v.words →
    length (segment v.words j) + (x + 2 * (n - (v.room k - length (segment v.words k)))) ≤ v.room j → HasPadRoom w k n
pads_left v w z x k n j apart exists few long room within there fits =
    let same : length (segment w.words k) ≡ length (segment v.words k) = long.others k (λ e. apart (sym e)) in
    elim (cases_eq j k) [
      | inl e ↦ (let own = subst (λ i. length (segment v.words i) + (x + 2 * (n - (v.room k - length (segment v.words k)))) ≤ v.room i) e fits in
          (z, omega (arith, long.segments), apart, omega (arith, own, few, within, room k exists, same)))
      | inr other ↦ (j, omega (arith, there, long.segments), other, omega (arith, fits, room j there, room k exists, same, gains v.words w.words z x j long))
    ]

-- If no pad is needed, room for the words is enough.
pub no_pads : (v : View) (s m k : ℕ) → HasRoom v s m → HasRoomAndPads v s m k 0
no_pads v s m k h = subst (λ i. HasRoom v s i) (let e : m ≡ m + 2 * (0 - (v.room k - length (segment v.words k))) = omega arith in e) h

-- If segment k is full, room for a pad is room for two words in some segment.
pub one_pad : (v : View) (k : ℕ) → v.room k < length (segment v.words k) + 1 → HasPadRoom v k 1 → HasSomeRoom v 2
one_pad v k full (j, there, other, fits) = (j, there, omega (arith, fits, full))

-- Pointers moved into another segment, one list after the other.

pub record Apart (a b : View) (k : ℕ) (ms : List Move) : Type 0 where
  pub left : (n : ℕ) → HasPadRoom a k (near_pointers a.words ms + n) → HasPadRoom b k n
  pub kept : (y : ℕ) → y < length (segment a.words k) → word_at b.words k y ≡ word_at a.words k y

pub apart_of : {A : Type 0} {x : A} {a b : View} {k : ℕ} {ms : List Move} → MovesApart (Ok x) a b k ms → Apart a b k ms
apart_of e = record { left = λ n h. (e.fits n h).1; kept = e.kept }

pub made_apart : {A : Type 0} (x : A) (a b : View) (k : ℕ) (ms : List Move) → Apart a b k ms → MovesApart (Ok x) a b k ms
made_apart x a b k ms e = record { fits = λ n h. (refl, e.left n h); kept = e.kept }

pub apart_none : (v : View) (k : ℕ) → Apart v v k []
apart_none v k = record { left = λ n h. fewer_pads v k n (0 + n) (omega arith) h; kept = λ y l. refl }

apart_both : (a m b : View) (k : ℕ) (ms ns : List Move) → Grows a.words m.words → near_pointers m.words ns ≡ near_pointers a.words ns → Apart a m k ms → Apart m b k ns → Apart a b k (ms ++ ns)
apart_both a m b k ms ns longer same f g = record {
  left = λ n h. (let e : near_pointers a.words (ms ++ ns) + n ≡ near_pointers a.words ms + (near_pointers m.words ns + n) = omega (arith, same, near-append a.words ms ns) in
      g.left n (f.left (near_pointers m.words ns + n) (subst (λ i. HasPadRoom a k i) e h)));
  kept = λ y l. g.kept y (lt_of_lt_of_le l (longer.words k)) ∙ f.kept y l;
}

-- One more pointer.
same_pointer : (a m : View) (s p v r n i : ℕ) → p + n ≤ length (segment a.words s) → i < n → Apart a m s (row_moves s p v r i) → near_pointers m.words (a_move s (p + i) v (r + i) ∷ []) ≡ near_pointers a.words (a_move s (p + i) v (r + i) ∷ [])
same_pointer a m s p v r n i inside less f = ap (λ x. near_word x + 0) (f.kept (p + i) (omega (arith, inside, less)))

pub apart_next : (a m b : View) (s p v r n i : ℕ) → p + n ≤ length (segment a.words s) → i < n → Grows a.words m.words → Apart a m s (row_moves s p v r i) → Apart m b s (a_move s (p + i) v (r + i) ∷ []) → Apart a b s (row_moves s p v r (i + 1))
apart_next a m b s p v r n i inside less longer f g =
    subst (λ j. Apart a b s (row_moves s p v r j)) (let e : suc i ≡ i + 1 = omega arith in e)
    (subst (λ ms. Apart a b s ms) (sym (row_next s p v r i)) (apart_both a m b s (row_moves s p v r i) (a_move s (p + i) v (r + i) ∷ []) longer (same_pointer a m s p v r n i inside less f) f g))

pub pads_at : (a m : View) (s p v r n i x : ℕ) → p + n ≤ length (segment a.words s) → i < n → Apart a m s (row_moves s p v r i) → HasPadRoom a s (near_pointers a.words (row_moves s p v r n) + x) → HasPadRoom m s (near_pointers m.words (a_move s (p + i) v (r + i) ∷ []) + x)
pads_at a m s p v r n i x inside less f h =
    let same = same_pointer a m s p v r n i inside less f in
    let more = near_row_more a.words s p v r (suc i) n (omega (arith, less)) in
    let whole = ap (near_pointers a.words) (row_next s p v r i) ∙ near-append a.words (row_moves s p v r i) (a_move s (p + i) v (r + i) ∷ []) in
    let next = near_pointers m.words (a_move s (p + i) v (r + i) ∷ []) in
    f.left (next + x) (fewer_pads a s (near_pointers a.words (row_moves s p v r i) + (next + x)) (near_pointers a.words (row_moves s p v r n) + x) (omega (arith, same, more, whole)) h)

-- One more row.
same_row : (a m : View) (s p w v r z k i : ℕ) → p + i * w + k ≤ length (segment a.words s) → Apart a m s (rows_moves s p w v r z k i) → near_pointers m.words (row_moves s (p + i * w) v (r + i * z) k) ≡ near_pointers a.words (row_moves s (p + i * w) v (r + i * z) k)
same_row a m s p w v r z k i inside f =
    near_same_row a.words m.words s (p + i * w) v (r + i * z) v (r + i * z) k (λ y l. f.kept y (lt_of_lt_of_le l inside))

pub apart_rows : (a m b : View) (s p w v r z k i : ℕ) → p + i * w + k ≤ length (segment a.words s) → Grows a.words m.words → Apart a m s (rows_moves s p w v r z k i) → Apart m b s (row_moves s (p + i * w) v (r + i * z) k) → Apart a b s (rows_moves s p w v r z k (i + 1))
apart_rows a m b s p w v r z k i inside longer f g =
    subst (λ j. Apart a b s (rows_moves s p w v r z k j)) (let e : suc i ≡ i + 1 = omega arith in e)
    (subst (λ ms. Apart a b s ms) (sym (rows_next s p w v r z k i)) (apart_both a m b s (rows_moves s p w v r z k i) (row_moves s (p + i * w) v (r + i * z) k) longer (same_row a m s p w v r z k i inside f) f g))

pub row_pads_at : (a m : View) (s p w v r z k n i x : ℕ) → p + i * w + k ≤ length (segment a.words s) → i < n → Apart a m s (rows_moves s p w v r z k i) → HasPadRoom a s (near_pointers a.words (rows_moves s p w v r z k n) + x) → HasPadRoom m s (near_pointers m.words (row_moves s (p + i * w) v (r + i * z) k) + x)
row_pads_at a m s p w v r z k n i x inside less f h =
    let same = same_row a m s p w v r z k i inside f in
    let more = near_rows_more a.words s p w v r z k (suc i) n (omega (arith, less)) in
    let whole = ap (near_pointers a.words) (rows_next s p w v r z k i) ∙ near-append a.words (rows_moves s p w v r z k i) (row_moves s (p + i * w) v (r + i * z) k) in
    let next = near_pointers m.words (row_moves s (p + i * w) v (r + i * z) k) in
    f.left (next + x) (fewer_pads a s (near_pointers a.words (rows_moves s p w v r z k i) + (next + x)) (near_pointers a.words (rows_moves s p w v r z k n) + x) (omega (arith, same, more, whole)) h)

-- What holds if a call isn't refused.
pub granted_so : {A E : Type 0} (r : Result A E) (P : Type 0) → IsOk r → OnOk r P → P
granted_so (Ok x) P e h = h
granted_so (Err k) P e h = absurd (not_true e)

-- A call that is refused had no room.
pub refused_apart : {A : Type 0} (a b : View) (k : ℕ) (ms : List Move) (e : ErrorKind) → ((n : ℕ) → HasPadRoom a k (near_pointers a.words ms + n) → false ≡ true) → MovesApart {A = A} (Err e) a b k ms
refused_apart a b k ms e none = record { fits = λ n h. absurd (not_true (none n h)); kept = tt }
