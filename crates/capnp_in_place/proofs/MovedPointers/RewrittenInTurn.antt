-- Pointers rewritten one after the other, and the words that their landing pads take.
use Rattle.std.proofs.Common.{List, [], ap, arith, inl, inr, length, max, refl, subst, suc, sym, ℕ, ◌*◌, ◌++◌, ◌+◌, ◌<◌, ◌∙◌, ◌∷◌, ◌≡◌, ◌≤◌}
use Rattle.capnp_format.specs.Segments.{Grows, Segments, segment, word_at}
use Rattle.capnp_format.specs.Forest.{times}
use Rattle.capnp_arena_traits.specs.View.{KeepsLimits, View}
use Rattle.capnp_arena_traits.specs.declared.arena.WordPlace.{WordPlace}
use Rattle.capnp_allocation.specs.declared.making.Shape.{Shape}
use Rattle.capnp_allocation.proofs.Written.{same_grows}
use Rattle.capnp_in_place.specs.declared.widening.Allocation.{Allocation}
use Rattle.capnp_in_place.specs.Housed.{Settles}
use Rattle.capnp_in_place.proofs.Room.RoomLeft.{all_words, same_words}
use Rattle.capnp_allocation.specs.Makes.{call_at}
use Rattle.capnp_allocation.specs.Memory.{IsNextRoom, KeepsMemory, Lengthens, TakesWords}
use Rattle.capnp_allocation.proofs.Extents.{once_held}
use Rattle.capnp_allocation.proofs.Memory.{keeps_both}
use Rattle.capnp_in_place.specs.Moved.{Move, Moves, new_places}
use Rattle.capnp_in_place.specs.Anew.{AreWrittenAnew, IsWrittenAnew, OnlyWrites, TakesPadsInTurn, WritesAnew, pad_words}
use Rattle.capnp_in_place.proofs.MovedPointers.MovedInTurn.{can_left, can_right, new_places-append, row_next}
use Rattle.capnp_in_place.proofs.MovedPointers.MovedByRows.{rows_next}
use Rattle.capnp_in_place.proofs.MovedPointers.OneMoved.{place_there}
use Rattle.capnp_in_place.proofs.WiderObjects.Statements.{WritesPointer, a_move, row_moves, rows_moves}

-- Nothing is written, and one write after another.

pub writes_nothing : (v : View) → OnlyWrites v v
writes_nothing v = record { limits = refl; segments = refl; words = λ x. refl }

pub writes_both : (a b c : View) → OnlyWrites a b → OnlyWrites b c → OnlyWrites a c
writes_both a b c x y = record {
  limits = y.limits ∙ ap (λ (v : View). record v { words = c.words }) x.limits;
  segments = y.segments ∙ x.segments;
  words = λ v. y.words v ∙ x.words v;
}

room_kept : (a b : View) → OnlyWrites a b → (j : ℕ) → b.room j ≡ a.room j
room_kept a b x j = ap (λ (v : View). v.room j) x.limits

pub keeps_writes : (a b : View) → OnlyWrites a b → KeepsMemory a b
keeps_writes a b x = subst (KeepsMemory a) (sym x.limits) (refl, λ k l. refl)

pub writes_grow : {a b : View} → OnlyWrites a b → Grows a.words b.words
writes_grow {a = a} {b = b} x = same_grows a.words b.words (record { segments = x.segments; words = x.words })

pub writes_few : {a b : View} → OnlyWrites a b → all_words b.words ≡ all_words a.words
writes_few {a = a} {b = b} x = same_words a.words b.words x.segments x.words

-- The pointer is set to a new object, and the old one and its pads are zeroed.
pub ended : (p r z q : View) {place : WordPlace} {h : Allocation} {shape : Shape} → Settles p.words r.words place h shape → KeepsLimits p r → OnlyWrites r z → OnlyWrites z q → OnlyWrites p q
ended p r z q s limits zeroed cleared = writes_both p r q (record { limits = limits; segments = s.segments; words = s.words }) (writes_both r z q zeroed cleared)

-- Words are allocated before a write, and after one.

lengthened_before : (a b c : View) (k n : ℕ) → OnlyWrites a b → Lengthens b.words c.words k n → Lengthens a.words c.words k n
lengthened_before a b c k n w x = record {
  segments = x.segments ∙ ap (λ m. max m (k + 1)) w.segments;
  gained = x.gained ∙ ap (λ m. m + n) (w.words k);
  others = λ v other. x.others v other ∙ w.words v;
}

lengthened_after : (a b c : View) (k n : ℕ) → Lengthens a.words b.words k n → OnlyWrites b c → Lengthens a.words c.words k n
lengthened_after a b c k n x w = record {
  segments = w.segments ∙ x.segments;
  gained = w.words k ∙ x.gained;
  others = λ v other. w.words v ∙ x.others v other;
}

next_before : (a b : View) (n k : ℕ) → OnlyWrites a b → IsNextRoom b n k → IsNextRoom a n k
next_before a b n k w (inl fit) =
    let same = room_kept a b w in
    inl (omega (arith, fit.0, w.segments), omega (arith, fit.1, w.words k, same k), λ j less. omega (arith, fit.2 j less, w.words j, same j))
next_before a b n k w (inr (full, last)) =
    let same = room_kept a b w in
    inr (λ j less. omega (arith, full j (omega (arith, w.segments)), w.words j, same j), last ∙ w.segments)

pub taken_before : (a b c : View) (id n : ℕ) → OnlyWrites a b → TakesWords b c id n → TakesWords a c id n
taken_before a b c id n w x =
    let same : b.room id ≡ a.room id = room_kept a b w id in
    record {
      near = λ fits. lengthened_before a b c id n w (x.near (omega (arith, same, w.words id)));
      far = λ full. (let (k, next, long) = x.far (omega (arith, same, w.words id)) in (k, next_before a b (n + 1) k w next, lengthened_before a b c k (n + 1) w long));
    }

pub taken_after : (a b c : View) (id n : ℕ) → TakesWords a b id n → OnlyWrites b c → TakesWords a c id n
taken_after a b c id n x w = record {
  near = λ fits. lengthened_after a b c id n (x.near fits) w;
  far = λ full. (let (k, next, long) = x.far full in (k, next, lengthened_after a b c k (n + 1) long w));
}

-- No words are allocated.
pub takes_none : (a b : View) (id : ℕ) → id < length a.words → length (segment a.words id) ≤ a.room id → OnlyWrites a b → TakesWords a b id 0
takes_none a b id there within w = record {
  near = λ fits. record { segments = omega (arith, w.segments); gained = omega (arith, w.words id); others = λ v other. w.words v };
  far = λ full. absurd (omega arith);
}

-- Pads of pointers in turn.

pub pads_after : (S : Segments) (a b c : View) (ms : List Move) → TakesPadsInTurn S a b ms → OnlyWrites b c → TakesPadsInTurn S a c ms
pads_after S a b c [] x w = writes_both a b c x w
pads_after S a b c (m ∷ ms) (next, kept, taken, rest) w = (next, kept, taken, pads_after S next b c ms rest w)

pub pads_before : (S : Segments) (a b c : View) (ms : List Move) → OnlyWrites a b → TakesPadsInTurn S b c ms → TakesPadsInTurn S a c ms
pads_before S a b c [] w x = writes_both a b c w x
pads_before S a b c (m ∷ ms) w (next, kept, taken, rest) = (
  next,
  keeps_both a b next (omega (arith, w.segments)) (keeps_writes a b w) kept,
  taken_before a b next m.from.segment (pad_words m.from.segment m.to.segment (word_at S m.from.segment m.from.at)) w taken,
  rest,
)

pads_both : (S : Segments) (a b c : View) (ms ns : List Move) → TakesPadsInTurn S a b ms → TakesPadsInTurn S b c ns → TakesPadsInTurn S a c (ms ++ ns)
pads_both S a b c [] ns w y = pads_before S a b c ns w y
pads_both S a b c (m ∷ ms) ns (next, kept, taken, rest) y = (next, kept, taken, pads_both S next b c ms ns rest y)

-- Words that stay the way they were written have the same forms.

pub written_later : (S M R : Segments) (ms : List Move) → ((x y : ℕ) → 0 < times (new_places ms) x y → word_at R x y ≡ word_at M x y) → AreWrittenAnew S M ms → AreWrittenAnew S R ms
written_later S M R [] same h = tt
written_later S M R (m ∷ ms) same (one, rest) = (
  subst (IsWrittenAnew m.from.segment m.to.segment (word_at S m.from.segment m.from.at)) (sym (same m.to.segment m.to.at (omega (arith, once_held m.to.segment m.to.at)))) one,
  written_later S M R ms (λ x y l. same x y (omega arith)) rest,
)

written_append : (S R : Segments) (ms ns : List Move) → AreWrittenAnew S R ms → AreWrittenAnew S R ns → AreWrittenAnew S R (ms ++ ns)
written_append S R [] ns a b = b
written_append S R (m ∷ ms) ns a b = (a.0, written_append S R ms ns a.1 b)

-- Some pointers are written, and then others.
pub writes_more : (a b c : View) (ms ns : List Move) → Moves a.words b.words ms → Moves b.words c.words ns → WritesAnew a b ms → WritesAnew b c ns → WritesAnew a c (ms ++ ns)
writes_more a b c ms ns f g v w = λ S k.
    (let first = can_left S a.words ms ns k in
    let one = f S first in
    let second = can_right S a.words b.words ms ns k one in
    let two = g S second in
    let x = v S first in
    let y = w S second in
    let split = new_places-append ms ns in (
      written_append S c.words ms ns
          (written_later S b.words c.words ms (λ u z l. two.kept u z (omega (arith, k.once u z, split u z)) (omega (arith, (first.behind u z l).1, one.grows.words u))) x.0) y.0,
      pads_both S a b c ms ns x.1 y.1,
    ))

pub writes_none : (v : View) → WritesAnew v v []
writes_none v = λ S k. (tt, writes_nothing v)

-- One pointer.
pub writes_one : (a b : View) (s p v r : ℕ) → KeepsMemory a b → (word_at a.words v r ≡ 0 → WritesPointer s (word_at a.words s p) (call_at v r a b)) → WritesAnew a b (a_move s p v r ∷ [])
writes_one a b s p v r kept w = λ S k.
    (let here = place_there S a.words s p v r k in
    let old : word_at a.words s p ≡ word_at S s p = k.kept s p here.0 in
    let one = subst (λ x. WritesPointer s x (call_at v r a b)) old (w here.2) in
    ((one.form, tt), (b, kept, one.taken, writes_nothing b)))

-- A row of pointers, and rows of them.

pub writes_next : (a b c : View) (s p v r k : ℕ) → Moves a.words b.words (row_moves s p v r k) → Moves b.words c.words (a_move s (p + k) v (r + k) ∷ []) → WritesAnew a b (row_moves s p v r k) →
    WritesAnew b c (a_move s (p + k) v (r + k) ∷ []) → WritesAnew a c (row_moves s p v r (k + 1))
writes_next a b c s p v r k f g x y =
    subst (λ n. WritesAnew a c (row_moves s p v r n)) (let e : suc k ≡ k + 1 = omega arith in e)
    (subst (λ ms. WritesAnew a c ms) (sym (row_next s p v r k)) (writes_more a b c (row_moves s p v r k) (a_move s (p + k) v (r + k) ∷ []) f g x y))

pub rows_writes_next : (a b c : View) (s p w v r z k n : ℕ) → Moves a.words b.words (rows_moves s p w v r z k n) → Moves b.words c.words (row_moves s (p + n * w) v (r + n * z) k) → WritesAnew a b (rows_moves s p w v r z k n) →
    WritesAnew b c (row_moves s (p + n * w) v (r + n * z) k) → WritesAnew a c (rows_moves s p w v r z k (n + 1))
rows_writes_next a b c s p w v r z k n f g x y =
    subst (λ i. WritesAnew a c (rows_moves s p w v r z k i)) (let e : suc n ≡ n + 1 = omega arith in e)
    (subst (λ ms. WritesAnew a c ms) (sym (rows_next s p w v r z k n)) (writes_more a b c (rows_moves s p w v r z k n) (row_moves s (p + n * w) v (r + n * z) k) f g x y))
