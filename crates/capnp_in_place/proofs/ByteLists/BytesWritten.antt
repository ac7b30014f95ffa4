-- Bytes written over those of a segment, and the list of bytes that its words are then.
use Rattle.std.proofs.Common.{◌≡◌, inl, inr, ℕ, zero, suc, ◌+◌, ◌-◌, ◌*◌, ◌^◌, ◌<◌, ◌≤◌, List, [], ◌∷◌, ◌++◌, length, take, drop, get_or, slice_get, slice_set, slice_index_or, Some, refl, sym, ap, ap₂, ◌∙◌, subst, arith, length-take, length-drop, append_assoc, take-append-drop}
use Rattle.std.proofs.lemmas.List.{length-append, length-replicate, drop-append-le, get_or_append_left, get_or-append_right}
use Rattle.std.proofs.lemmas.Bool.{cases_lt, cases_eq}
use borrow.Rule.Slice.PartMut.{put_mid}
use Rattle.capnp_format.specs.Bytes.{words_of, message}
use Rattle.capnp_format.specs.Numbers.{from_digits, digits, words_for, packed}
use Rattle.capnp_format.specs.Value.{AreBelow}
use Rattle.capnp_format.specs.Segments.{Segments, segment, word_at, words_at}
use Rattle.capnp_format.specs.Tree.{Tree, Flat}
use Rattle.capnp_format.specs.Means.{Means}
use Rattle.capnp_format.specs.Forest.{times, target, target_in}
use Rattle.capnp_format.proofs.Bounds.{below_each}
use Rattle.capnp_format.proofs.BytesLemmas.{words_are_bytes}
use Rattle.capnp_format.proofs.Digits.{digits_again}
use Rattle.capnp_format.proofs.WordsOf.{words, length-words_of, words_of-put_mid, words_of-part, small_word}
use Rattle.capnp_arena_traits.proofs.MessageLemmas.{segment-message}
use Rattle.capnp_arena_traits.specs.Written.{with_segment, with_words, overwritten}
use Rattle.capnp_arena_traits.specs.declared.arena.WordPlace.{WordPlace}
use Rattle.capnp_allocation.specs.Made.{words_of_zero, LeadsToStart}
use Rattle.capnp_allocation.specs.Zeroed.{row}
use Rattle.capnp_allocation.specs.Stored.{IsStored, IsReplaced}
use Rattle.capnp_allocation.proofs.PlacedLists.{from_zeros, packed_zeros}
use Rattle.capnp_allocation.proofs.Replaced.{replaced_again}
use Rattle.capnp_allocation.proofs.WordsPut.{words_put}
use Rattle.capnp_allocation.proofs.Written.{SameLengths, SameBut, flat_written, flat_target}
use Rattle.capnp_allocation.proofs.Zeros.{there, in_row}

-- A segment has at least the bytes of its words.
pub bytes_room : (S : Segments) (B : List (List ℕ)) (id : ℕ) (bs : List ℕ) → S ≡ message B → slice_get B id ≡ Some bs → 8 * length (segment S id) ≤ length bs
bytes_room S B id bs e h = omega (arith, ap (λ T. length (segment T id)) e, ap length (segment-message B id bs h), words bs)

pub found : (B : List (List ℕ)) (id : ℕ) (bs : List ℕ) → slice_get B id ≡ Some bs → slice_index_or B id [] ≡ bs
found [] id bs e = cc
found (b ∷ B) zero bs e = let same : b ≡ bs = cc in same
found (b ∷ B) (suc id) bs e = found B id bs e

-- The bytes xs written over those from byte a on, in the form that the code has.
pub put_over : (a k : ℕ) (bs ys xs : List ℕ) → ys ≡ xs → k ≡ length xs → put_mid a k bs ys ≡ overwritten bs a xs
put_over a k bs ys xs e f = rw (e, f) refl

message_set : (B : List (List ℕ)) (id : ℕ) (bs : List ℕ) → message (slice_set B id bs) ≡ with_segment (message B) id (words_of bs)
message_set [] id bs = refl
message_set (b ∷ B) zero bs = refl
message_set (b ∷ B) (suc id) bs = ap (λ S. words_of b ∷ S) (message_set B id bs)

pub segment_bytes : (B : List (List ℕ)) (id : ℕ) → segment (message B) id ≡ words_of (slice_index_or B id [])
segment_bytes [] id = refl
segment_bytes (b ∷ B) zero = refl
segment_bytes (b ∷ B) (suc id) = segment_bytes B id

-- The bytes of k words from word a on, with xs over the first ones.
abbrev pub over_front : List ℕ → ℕ → ℕ → List ℕ → List ℕ
over_front bs a k xs = xs ++ drop (length xs) (take (8 * k) (drop (8 * a) bs))

pub length-front : (bs : List ℕ) (a k : ℕ) (xs : List ℕ) → length xs ≤ 8 * k → 8 * (a + k) ≤ length bs → length (over_front bs a k xs) ≡ 8 * k
length-front bs a k xs l m =
    let D : List ℕ = drop (8 * a) bs in
    omega (arith, length-append xs (drop (length xs) (take (8 * k) D)), length-drop (length xs) (take (8 * k) D), length-take (8 * k) D, length-drop (8 * a) bs)

-- What is left after n elements is dropped: the elements up to m, and those from m on.
drop_part : (n m : ℕ) (xs : List ℕ) → n ≤ m → m ≤ length xs → drop n xs ≡ drop n (take m xs) ++ drop m xs
drop_part n m xs l h = ap (drop n) (sym (take-append-drop m xs)) ∙ drop-append-le n (take m xs) (drop m xs) (omega (arith, length-take m xs))

over_words : (bs : List ℕ) (a k : ℕ) (xs : List ℕ) → length xs ≤ 8 * k → 8 * (a + k) ≤ length bs → overwritten bs (8 * a) xs ≡ put_mid (8 * a) (8 * k) bs (over_front bs a k xs)
over_words bs a k xs l m =
    let D : List ℕ = drop (8 * a) bs in
    ap (λ ys. take (8 * a) bs ++ (xs ++ ys)) (drop_part (length xs) (8 * k) D l (omega (arith, length-drop (8 * a) bs)))
    ∙ ap (λ ys. take (8 * a) bs ++ ys) (sym (append_assoc xs (drop (length xs) (take (8 * k) D)) (drop (8 * k) D)))

-- The words of bytes that are partly overwritten.
words_over : (bs : List ℕ) (a k : ℕ) (xs : List ℕ) → length xs ≤ 8 * k → 8 * (a + k) ≤ length bs → words_of (overwritten bs (8 * a) xs) ≡ overwritten (words_of bs) a (words_of (over_front bs a k xs))
words_over bs a k xs l m =
    let N : List ℕ = over_front bs a k xs in
    let long : length N ≡ 8 * k = length-front bs a k xs l m in
    let count : k ≡ length (words_of N) = sym (length-words_of k N (omega (arith, long)) (omega (arith, long))) in
    ap words_of (over_words bs a k xs l m) ∙ words_of-put_mid a k bs N m long ∙ ap (λ j. take a (words_of bs) ++ (words_of N ++ drop j (drop a (words_of bs)))) count

-- n zero bytes as words: their number is zero.
pub zeros_packed : (n : ℕ) → from_digits (2 ^ 64) (packed 2 (words_of_zero n)) ≡ 0
zeros_packed n = ap (from_digits (2 ^ 64)) (packed_zeros 2 n) ∙ from_zeros (2 ^ 64) (words_for 2 n)

-- If the number of some bytes is zero, each of them is zero.
zero_byte : (xs : List ℕ) (i : ℕ) → from_digits 256 xs ≡ 0 → get_or xs i 0 ≡ 0
zero_byte [] i e = refl
zero_byte (x ∷ xs) zero e = omega arith
zero_byte (x ∷ xs) (suc i) e = zero_byte xs i (omega arith)

zero_rest : (n : ℕ) (xs : List ℕ) → from_digits 256 xs ≡ 0 → from_digits 256 (drop n xs) ≡ 0
zero_rest zero xs e = e
zero_rest (suc n) [] e = refl
zero_rest (suc n) (x ∷ xs) e = zero_rest n xs (omega arith)

-- Bytes ys after others don't change the number if theirs is zero.
pub same_number : (xs ys : List ℕ) → from_digits 256 ys ≡ 0 → from_digits 256 (xs ++ ys) ≡ from_digits 256 xs
same_number [] ys e = e
same_number (x ∷ xs) ys e = omega (arith, same_number xs ys e)

small_bytes : (xs ys : List ℕ) → ((i : ℕ) → get_or xs i 0 < 256) → from_digits 256 ys ≡ 0 → (i : ℕ) → get_or (xs ++ ys) i 0 < 256
small_bytes xs ys h e i = elim (cases_lt i (length xs)) [
  | inl l ↦ omega (arith, h i, get_or_append_left xs ys 0 i l)
  | inr l ↦ omega (arith, get_or-append_right xs ys (length xs) i 0 refl l, zero_byte ys (i - length xs) e)
]

-- From S to R, n words from position p of segment s on become ws, and all other words stay.
pub record AreWritten (S R : Segments) (s p n : ℕ) (ws : List ℕ) : Type 0 where
  pub long : SameLengths S R
  pub but : SameBut S R (row s p n)
  pub here : words_at R s p n ≡ ws

pub words_written : (S R : Segments) (s p n : ℕ) (ws : List ℕ) → length ws ≡ n → p + n ≤ length (segment S s) → R ≡ with_words S s p ws → AreWritten S R s p n ws
words_written S R s p n ws long l e =
    let put = words_put S R s p ws (omega arith) e in
    record { long = put.long; but = subst (λ m. SameBut S R (row s p m)) long put.kept; here = subst (λ m. words_at R s p m ≡ ws) long put.here }

-- The words that a list of numbers takes are inside their segment.
pub flat_claims : (S : Segments) (s p size : ℕ) (ns : List ℕ) → IsStored S s p (Flat size ns) → (target S s p).start + words_for size (length ns) ≤ length (segment S (target S s p).segment)
flat_claims S s p size ns x =
    let m = x.means in
    go m.0 m.1 m.2
  where
    go : (n c : ℕ) → Means S n s p (Flat size ns) c → (target S s p).start + words_for size (length ns) ≤ length (segment S (target S s p).segment)
    go n c (a, some, le, o, claim, e, g) = subst (λ b. b.start + words_for size (length ns) ≤ length (segment S b.segment)) (sym (ap target_in o.leads_to.1)) claim

-- Bytes xs over the first ones of n zero bytes: the words hold xs and the other zeros.
packed_over : (bs : List ℕ) (a k n : ℕ) (xs : List ℕ) → length xs ≤ n → words_for 2 n ≡ k → 8 * (a + k) ≤ length bs → ((i : ℕ) → get_or xs i 0 < 256) → take k (drop a (words_of bs)) ≡ packed 2 (words_of_zero n) →
    (length (words_of (over_front bs a k xs)) ≡ k) × (words_of (over_front bs a k xs) ≡ packed 2 (xs ++ words_of_zero (n - length xs)))
packed_over bs a k n xs few wide room small zero_words =
    let ms : List ℕ = xs ++ words_of_zero (n - length xs) in
    let old : List ℕ = take (8 * k) (drop (8 * a) bs) in
    let new : List ℕ = over_front bs a k xs in
    let long : length new ≡ 8 * k = length-front bs a k xs (omega (arith, wide)) room in
    let count : length (words_of new) ≡ k = length-words_of k new (omega (arith, long)) (omega (arith, long)) in
    let shows : words_of old ≡ packed 2 (words_of_zero n) = words_of-part a k (8 * a) (8 * k) bs refl refl room ∙ zero_words in
    let nothing : from_digits 256 old ≡ 0 = sym (words_are_bytes k old (omega (arith, length-take (8 * k) (drop (8 * a) bs), length-drop (8 * a) bs))) ∙ ap (from_digits (2 ^ 64)) shows ∙ zeros_packed n in
    let rest : from_digits 256 (drop (length xs) old) ≡ 0 = zero_rest (length xs) old nothing in
    let number : from_digits 256 ms ≡ from_digits (2 ^ 64) (words_of new) =
    same_number xs (words_of_zero (n - length xs)) (from_zeros 256 (n - length xs)) ∙ sym (same_number xs (drop (length xs) old) rest) ∙ sym (words_are_bytes k new long) in
    let below : AreBelow (2 ^ 64) (words_of new) = below_each (2 ^ 64) (words_of new) (small_word new (small_bytes xs (drop (length xs) old) small rest)) in
    let all : length ms ≡ n = omega (arith, few, length-append xs (words_of_zero (n - length xs)), length-replicate {A = ℕ} (n - length xs) 0) in
    (count, sym (ap₂ (λ j y. digits (2 ^ 64) j y) (ap (words_for 2) all ∙ wide) number ∙ digits_again (2 ^ 64) k (words_of new) below count))

-- From S to R the bytes xs are written from the word h on, if they are inside its segment. All
-- other bytes stay.
pub record WritesBytes (S R : Segments) (h : WordPlace) (xs : List ℕ) : Type 0 where
  pub old : List (List ℕ)
  pub new : List (List ℕ)
  pub old_read : S ≡ message old
  pub new_read : R ≡ message new
  pub small : (i : ℕ) → get_or xs i 0 < 256
  pub nothing : length xs ≡ 0 → R ≡ S
  pub written : 0 < length xs → 8 * h.at + length xs ≤ 8 * length (segment S h.segment) → new ≡ slice_set old h.segment (overwritten (slice_index_or old h.segment []) (8 * h.at) xs)

-- If bytes are written, so are the k words from word a on that hold them.
pub whole_words : (S R : Segments) (h : WordPlace) (xs : List ℕ) (u a k : ℕ) (w : WritesBytes S R h xs) → h.segment ≡ u → h.at ≡ a → 0 < length xs → length xs ≤ 8 * k → a + k ≤ length (segment S u) →
    (segment S u ≡ words_of (slice_index_or w.old u [])) × (8 * (a + k) ≤ length (slice_index_or w.old u [])) × (R ≡ with_words S u a (words_of (over_front (slice_index_or w.old u []) a k xs)))
whole_words S R h xs u a k w is_u is_a some enough claim =
    let B : List (List ℕ) = w.old in
    let bs : List ℕ = slice_index_or B u [] in
    let shown : segment S u ≡ words_of bs = ap (λ T. segment T u) w.old_read ∙ segment_bytes B u in
    let room : 8 * (a + k) ≤ length bs = omega (arith, claim, ap length shown, words bs) in
    let holds : 8 * h.at + length xs ≤ 8 * length (segment S h.segment) = omega (arith, claim, enough, is_a, ap (λ v. length (segment S v)) is_u) in (
      shown,
      room,
      w.new_read ∙ ap message (w.written some holds ∙ ap₂ (λ v q. slice_set B v (overwritten (slice_index_or B v []) (8 * q) xs)) is_u is_a)
          ∙ message_set B u (overwritten bs (8 * a) xs) ∙ ap₂ (λ T ws. with_segment T u ws) (sym w.old_read) (words_over bs a k xs enough room ∙ ap (λ ws. overwritten ws a (words_of (over_front bs a k xs))) (sym shown)),
    )

words_there : (S R : Segments) (h : WordPlace) (xs : List ℕ) (k : ℕ) (w : WritesBytes S R h xs) → 0 < length xs → length xs ≤ 8 * k → h.at + k ≤ length (segment S h.segment) →
    AreWritten S R h.segment h.at k (words_of (over_front (slice_index_or w.old h.segment []) h.at k xs))
words_there S R h xs k w some enough claim =
    let bs : List ℕ = slice_index_or w.old h.segment [] in
    let (shown, room, whole) = whole_words S R h xs h.segment h.at k w refl refl some enough claim in
    let new : List ℕ = over_front bs h.at k xs in
    let long : length new ≡ 8 * k = length-front bs h.at k xs enough room in
    words_written S R h.segment h.at k (words_of new) (length-words_of k new (omega (arith, long)) (omega (arith, long))) claim whole

-- No segment gets longer or shorter.
pub written_lengths : (S R : Segments) (h : WordPlace) (xs : List ℕ) (k : ℕ) → WritesBytes S R h xs → length xs ≤ 8 * k → h.at + k ≤ length (segment S h.segment) → SameLengths S R
written_lengths S R h xs k w enough claim = elim (cases_eq (length xs) 0) [
  | inl e ↦ record { segments = ap length (w.nothing e); words = λ v. ap (λ T. length (segment T v)) (w.nothing e) }
  | inr some ↦ (words_there S R h xs k w (omega (arith, some)) enough claim).long
]

-- No other segment changes, and no word before the first of these.
pub written_beside : (S R : Segments) (h : WordPlace) (xs : List ℕ) (k : ℕ) → WritesBytes S R h xs → length xs ≤ 8 * k → h.at + k ≤ length (segment S h.segment) →
    (v r : ℕ) → (v ≡ h.segment → 0 < length xs → r < h.at) → word_at R v r ≡ word_at S v r
written_beside S R h xs k w enough claim v r before = elim (cases_eq (length xs) 0) [
  | inl e ↦ ap (λ T. word_at T v r) (w.nothing e)
  | inr some ↦ (words_there S R h xs k w (omega (arith, some)) enough claim).but v r (none (omega (arith, some)))
]
  where
    none : 0 < length xs → times (row h.segment h.at k ∷ []) v r ≡ 0
    none some = elim (cases_eq (times (row h.segment h.at k ∷ []) v r) 0) [
      | inl z ↦ z
      | inr held ↦ (let (there, from, below) = in_row h.segment h.at k v r (omega (arith, held)) in absurd (omega (arith, from, before there some)))
    ]

-- Some bytes xs are written over the first ones of a list of n zero bytes.
some_bytes : (S R : Segments) (s p n : ℕ) (h : WordPlace) (xs : List ℕ) → WritesBytes S R h xs → IsStored S s p (Flat 2 (words_of_zero n)) → LeadsToStart S s p h → 0 < length xs → length xs ≤ n →
    IsReplaced S R s p (Flat 2 (words_of_zero n)) (Flat 2 (xs ++ words_of_zero (n - length xs)))
some_bytes S R s p n h xs w x lead some few =
    let u = (target S s p).segment in
    let a = (target S s p).start in
    let k = words_for 2 (length (words_of_zero n)) in
    let ms : List ℕ = xs ++ words_of_zero (n - length xs) in
    let ln : length (words_of_zero n) ≡ n = length-replicate {A = ℕ} n 0 in
    let same_length : length ms ≡ length (words_of_zero n) = omega (arith, ln, length-append xs (words_of_zero (n - length xs)), length-replicate {A = ℕ} (n - length xs) 0) in
    let claim : a + k ≤ length (segment S u) = flat_claims S s p 2 (words_of_zero n) x in
    let bs : List ℕ = slice_index_or w.old u [] in
    let (shown, room, whole) = whole_words S R h xs u a k w lead.0 lead.1 some (omega (arith, ln)) claim in
    let list = packed_over bs a k n xs few (ap (words_for 2) (sym ln)) room w.small (ap (λ ws. take k (drop a ws)) (sym shown) ∙ x.tidy) in
    let done = words_written S R u a k (words_of (over_front bs a k xs)) list.0 claim whole in
    flat_written S R s p 2 (words_of_zero n) ms done.long x same_length (below_each 256 ms (small_bytes xs (words_of_zero (n - length xs)) w.small (from_zeros 256 (n - length xs)))) done.but (done.here ∙ list.1)

-- No bytes are written over them.
no_bytes : (n : ℕ) (xs : List ℕ) → length xs ≡ 0 → Flat 2 (words_of_zero n) ≡ Flat 2 (xs ++ words_of_zero (n - length xs))
no_bytes n [] l = ap (λ m. Flat 2 (words_of_zero m)) (let e : n ≡ n - 0 = omega arith in e)
no_bytes n (y ∷ xs) l = absurd (omega arith)

-- A list of n zero bytes replaces a value, and then the bytes xs are written over its first ones.
pub bytes_written : (Q S R : Segments) (s p n : ℕ) (t : Tree) (h : WordPlace) (xs : List ℕ) → WritesBytes S R h xs → IsReplaced Q S s p t (Flat 2 (words_of_zero n)) → LeadsToStart S s p h → length xs ≤ n → IsReplaced Q R s p t (Flat 2 (xs ++ words_of_zero (n - length xs)))
bytes_written Q S R s p n t h xs w made lead few = elim (cases_eq (length xs) 0) [
  | inl e ↦ subst (λ y. IsReplaced Q R s p t y) (no_bytes n xs e) (subst (λ T. IsReplaced Q T s p t (Flat 2 (words_of_zero n))) (sym (w.nothing e)) made)
  | inr some ↦ replaced_again Q S R s p t (Flat 2 (words_of_zero n)) (Flat 2 (xs ++ words_of_zero (n - length xs))) made (some_bytes S R s p n h xs w made.stored lead (omega arith) few)
]

-- Then the pointer to the list still leads to its start.
pub bytes_target : (S R : Segments) (s p n : ℕ) (h : WordPlace) (xs : List ℕ) → WritesBytes S R h xs → IsStored S s p (Flat 2 (words_of_zero n)) → LeadsToStart S s p h → length xs ≤ n → LeadsToStart R s p h
bytes_target S R s p n h xs w x lead few = elim (cases_eq (length xs) 0) [
  | inl e ↦ subst (λ T. LeadsToStart T s p h) (sym (w.nothing e)) lead
  | inr some ↦ (
      let k = words_for 2 (length (words_of_zero n)) in
      let ln : length (words_of_zero n) ≡ n = length-replicate {A = ℕ} n 0 in
      let claim : h.at + k ≤ length (segment S h.segment) = omega (arith, flat_claims S s p 2 (words_of_zero n) x, lead.1, ap (λ u. length (segment S u)) lead.0) in
      let done = words_there S R h xs k w (omega (arith, some)) (omega (arith, few, ln)) claim in
      let but = subst (SameBut S R) (ap₂ (λ u b. row u b k) lead.0 lead.1) done.but in
      let same : target R s p ≡ target S s p = flat_target S R s p 2 (words_of_zero n) done.long x but in
      (lead.0 ∙ sym (ap (λ b. b.segment) same), lead.1 ∙ sym (ap (λ b. b.start) same))
      )
]
