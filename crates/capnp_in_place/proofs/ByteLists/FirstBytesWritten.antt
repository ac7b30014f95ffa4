-- Bytes written over the first ones of any list of bytes.
use Rattle.std.proofs.Common.{◌≡◌, inl, inr, ℕ, zero, suc, ◌+◌, ◌-◌, ◌*◌, ◌^◌, ◌<◌, ◌≤◌, List, [], ◌∷◌, ◌++◌, length, take, drop, get_or, slice_set, slice_index_or, refl, sym, ap, ap₂, subst, ◌∙◌, arith, length-take, length-drop, append_assoc, take-append-drop}
use Rattle.std.proofs.lemmas.List.{length-append, length-replicate, drop-append-le}
use Rattle.std.proofs.lemmas.Bool.{cases_eq}
use Rattle.capnp_format.specs.Bytes.{words_of, message}
use Rattle.capnp_format.specs.Forest.{target}
use Rattle.capnp_format.specs.Means.{Means}
use Rattle.capnp_format.specs.Numbers.{from_digits, digits, words_for, packed}
use Rattle.capnp_format.specs.Segments.{Segments, segment, words_at}
use Rattle.capnp_format.specs.Tree.{Flat}
use Rattle.capnp_format.specs.Value.{AreBelow}
use Rattle.capnp_format.proofs.Bounds.{digits_below, below_each, below_take}
use Rattle.capnp_format.proofs.BytesLemmas.{words_are_bytes}
use Rattle.capnp_format.proofs.Digits.{digits_again, from_digits-below, from_digits-digits}
use Rattle.capnp_format.proofs.Lies.{pow_pow}
use Rattle.capnp_format.proofs.WordsOf.{length-words_of, words_of-part, small_word}
use Rattle.capnp_arena_traits.specs.Written.{overwritten}
use Rattle.capnp_in_place.specs.InPlace.{segments_with, Overwrites}
use Rattle.capnp_allocation.specs.Made.{words_of_zero, LeadsToStart}
use Rattle.capnp_allocation.specs.Stored.{IsStored, IsReplaced}
use Rattle.capnp_in_place.specs.declared.existing.ExistingBytes.{ExistingBytes}
use Rattle.capnp_arena_traits.specs.declared.arena.WordPlace.{WordPlace}
use Rattle.capnp_in_place.proofs.ByteLists.BytesWritten.{WritesBytes, over_front, length-front, same_number, words_written, flat_claims, whole_words}
use Rattle.capnp_format.proofs.FieldBytes.{below_drop}
use Rattle.capnp_allocation.proofs.Filling.{unchanged}
use Rattle.capnp_allocation.proofs.PlacedLists.{from_zeros}
use Rattle.capnp_allocation.proofs.Written.{flat_written}

-- Each of some bytes is below 256.
each_small : (ws : List ℕ) → AreBelow 256 ws → (i : ℕ) → get_or ws i 0 < 256
each_small [] h i = omega arith
each_small (w ∷ ws) h zero = h.0
each_small (w ∷ ws) h (suc i) = each_small ws h.1 i

below_zeros : (n : ℕ) → AreBelow 256 (words_of_zero n)
below_zeros zero = tt
below_zeros (suc n) = (omega arith, below_zeros n)

below_both : (xs ys : List ℕ) → AreBelow 256 xs → AreBelow 256 ys → AreBelow 256 (xs ++ ys)
below_both [] ys h k = k
below_both (x ∷ xs) ys h k = (h.0, below_both xs ys h.1 k)

-- The elements of a stored list of bytes are below 256.
elements_below : (S : Segments) (s p : ℕ) (ns : List ℕ) → IsStored S s p (Flat 2 ns) → AreBelow 256 ns
elements_below S s p ns x =
    let m = x.means in
    go m.0 m.1 m.2
  where
    go : (n c : ℕ) → Means S n s p (Flat 2 ns) c → AreBelow 256 ns
    go n c (a, some, few, o, claim, is, g) = subst (AreBelow 256) (sym is) (digits_below 256 (length ns) (from_digits (2 ^ 64) (words_at S a.segment a.start (words_for 2 (length ns)))) (omega arith))

-- The bytes of the words that hold the elements ns: ns, and zeros after them.
bytes_of_packed : (k : ℕ) (ns old : List ℕ) → AreBelow 256 ns → AreBelow 256 old → length old ≡ 8 * k → words_for 2 (length ns) ≡ k → words_of old ≡ packed 2 ns → old ≡ ns ++ words_of_zero (8 * k - length ns)
bytes_of_packed k ns old small below long wide shows =
    let z : List ℕ = words_of_zero (8 * k - length ns) in
    let all : List ℕ = ns ++ z in
    let count : length all ≡ 8 * k = omega (arith, wide, length-append ns z, length-replicate {A = ℕ} (8 * k - length ns) 0) in
    let bytes : AreBelow 256 all = below_both ns z small (below_zeros (8 * k - length ns)) in
    let number : from_digits 256 all ≡ from_digits 256 ns = same_number ns z (from_zeros 256 (8 * k - length ns)) in
    let as_words : 256 ^ (8 * k) ≡ (2 ^ 64) ^ k = pow_pow 8 (8 * k) ∙ ap (λ e. 2 ^ e) (let e : 8 * (8 * k) ≡ 64 * k = omega arith in e) ∙ sym (pow_pow 64 k) in
    let fits : from_digits 256 ns < (2 ^ 64) ^ k = subst (λ m. m < (2 ^ 64) ^ k) number (subst (λ m. from_digits 256 all < m) (ap (λ j. 256 ^ j) count ∙ as_words) (from_digits-below 256 all bytes)) in
    let same : from_digits 256 old ≡ from_digits 256 all =
    sym (words_are_bytes k old long) ∙ ap (from_digits (2 ^ 64)) (shows ∙ ap (λ j. digits (2 ^ 64) j (from_digits 256 ns)) wide) ∙ from_digits-digits (2 ^ 64) k (from_digits 256 ns) (omega arith) fits ∙ sym number in
    sym (digits_again 256 (8 * k) old below long) ∙ ap (digits 256 (8 * k)) same ∙ digits_again 256 (8 * k) all bytes count

-- Bytes xs over the first ones of the list of bytes ns: the words hold xs and the rest of ns.
packed_front : (bs : List ℕ) (a k : ℕ) (ns xs : List ℕ) → length xs ≤ length ns → words_for 2 (length ns) ≡ k → 8 * (a + k) ≤ length bs → AreBelow 256 xs → AreBelow 256 bs → AreBelow 256 ns → take k (drop a (words_of bs)) ≡ packed 2 ns →
    (length (words_of (over_front bs a k xs)) ≡ k) × (words_of (over_front bs a k xs) ≡ packed 2 (xs ++ drop (length xs) ns))
packed_front bs a k ns xs few wide room small below elements shown =
    let ms : List ℕ = xs ++ drop (length xs) ns in
    let z : List ℕ = words_of_zero (8 * k - length ns) in
    let old : List ℕ = take (8 * k) (drop (8 * a) bs) in
    let new : List ℕ = over_front bs a k xs in
    let long : length new ≡ 8 * k = length-front bs a k xs (omega (arith, wide)) room in
    let count : length (words_of new) ≡ k = length-words_of k new (omega (arith, long)) (omega (arith, long)) in
    let shows : words_of old ≡ packed 2 ns = words_of-part a k (8 * a) (8 * k) bs refl refl room ∙ shown in
    let is : old ≡ ns ++ z = bytes_of_packed k ns old elements (below_take 256 (8 * k) (drop (8 * a) bs) (below_drop 256 (8 * a) bs below)) (omega (arith, room, length-take (8 * k) (drop (8 * a) bs), length-drop (8 * a) bs)) wide shows in
    let parts : new ≡ ms ++ z = ap (λ ys. xs ++ drop (length xs) ys) is ∙ ap (λ ys. xs ++ ys) (drop-append-le (length xs) ns z few) ∙ sym (append_assoc xs (drop (length xs) ns) z) in
    let number : from_digits 256 ms ≡ from_digits (2 ^ 64) (words_of new) = sym (same_number ms z (from_zeros 256 (8 * k - length ns))) ∙ ap (from_digits 256) (sym parts) ∙ sym (words_are_bytes k new long) in
    let bytes : AreBelow 256 (ms ++ z) = below_both ms z (below_both xs (drop (length xs) ns) small (below_drop 256 (length xs) ns elements)) (below_zeros (8 * k - length ns)) in
    let words_small : AreBelow (2 ^ 64) (words_of new) = below_each (2 ^ 64) (words_of new) (small_word new (each_small new (subst (AreBelow 256) (sym parts) bytes))) in
    let all : length ms ≡ length ns = omega (arith, few, length-append xs (drop (length xs) ns), length-drop (length xs) ns) in
    (count, sym (ap₂ (λ j y. digits (2 ^ 64) j y) (ap (words_for 2) all ∙ wide) number ∙ digits_again (2 ^ 64) k (words_of new) words_small count))

-- Some bytes xs are written over the first ones of the list of bytes ns.
some_over : (S R : Segments) (s p : ℕ) (ns : List ℕ) (h : WordPlace) (xs : List ℕ) (w : WritesBytes S R h xs) → AreBelow 256 xs → AreBelow 256 (slice_index_or w.old h.segment []) → IsStored S s p (Flat 2 ns) → LeadsToStart S s p h → 0 < length xs → length xs ≤ length ns →
    IsReplaced S R s p (Flat 2 ns) (Flat 2 (xs ++ drop (length xs) ns))
some_over S R s p ns h xs w small below x lead some few =
    let u = (target S s p).segment in
    let a = (target S s p).start in
    let k = words_for 2 (length ns) in
    let ms : List ℕ = xs ++ drop (length xs) ns in
    let bs : List ℕ = slice_index_or w.old u [] in
    let elements = elements_below S s p ns x in
    let same_length : length ms ≡ length ns = omega (arith, few, length-append xs (drop (length xs) ns), length-drop (length xs) ns) in
    let claim : a + k ≤ length (segment S u) = flat_claims S s p 2 ns x in
    let (shown, room, whole) = whole_words S R h xs u a k w lead.0 lead.1 some (omega arith) claim in
    let list = packed_front bs a k ns xs few refl room small (subst (λ v. AreBelow 256 (slice_index_or w.old v [])) lead.0 below) elements (ap (λ ws. take k (drop a ws)) (sym shown) ∙ x.tidy) in
    let done = words_written S R u a k (words_of (over_front bs a k xs)) list.0 claim whole in
    flat_written S R s p 2 ns ms done.long x same_length (below_both xs (drop (length xs) ns) small (below_drop 256 (length xs) ns elements)) done.but (done.here ∙ list.1)

-- If no bytes are written, the segment stays the same.
same_set : (B : List (List ℕ)) (id : ℕ) → slice_set B id (slice_index_or B id []) ≡ B
same_set [] id = refl
same_set (b ∷ B) zero = refl
same_set (b ∷ B) (suc id) = ap (λ C. b ∷ C) (same_set B id)

none_over : (a : ℕ) (bs ws : List ℕ) → length ws ≡ 0 → overwritten bs a ws ≡ bs
none_over a bs [] e = take-append-drop a bs
none_over a bs (w ∷ ws) e = absurd (omega arith)

no_bytes : (ns ws : List ℕ) → length ws ≡ 0 → Flat 2 ns ≡ Flat 2 (ws ++ drop (length ws) ns)
no_bytes ns [] e = refl
no_bytes ns (w ∷ ws) e = absurd (omega arith)

-- Bytes ws are written at the start of a list of bytes.
pub overwrites : (S R : Segments) (B C : List (List ℕ)) (b : ExistingBytes) (ws : List ℕ) → S ≡ message B → R ≡ message C → C ≡ segments_with B b ws → ((i : ℕ) → get_or (slice_index_or B b.segment []) i 0 < 256) → (length ws ≡ b.length) × AreBelow 256 ws → Overwrites S R b ws
overwrites S R B C b ws e f g below are s p ns stored is_segment is_start few =
    let h : WordPlace = record { segment = b.segment; at = b.start } in
    let none : length ws ≡ 0 → R ≡ S = λ z. f ∙ ap message (g ∙ ap (slice_set B b.segment) (none_over (8 * b.start) (slice_index_or B b.segment []) ws z) ∙ same_set B b.segment) ∙ sym e in
    let writes : WritesBytes S R h ws = record {
      old = B;
      new = C;
      old_read = e;
      new_read = f;
      small = each_small ws are.1;
      nothing = none;
      written = λ some holds. g;
    } in
    subst (λ k. IsReplaced S R s p (Flat 2 ns) (Flat 2 (ws ++ drop k ns))) are.0 (elim (cases_eq (length ws) 0) [
      | inl z ↦ subst (λ t. IsReplaced S R s p (Flat 2 ns) t) (no_bytes ns ws z) (subst (λ T. IsReplaced S T s p (Flat 2 ns) (Flat 2 ns)) (sym (none z)) (unchanged S s p (Flat 2 ns) stored))
      | inr some ↦ some_over S R s p ns h ws writes are.1 (below_each 256 (slice_index_or B b.segment []) below) stored (is_segment, is_start) (omega arith) (omega (arith, few, are.0))
    ])
