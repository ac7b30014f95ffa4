-- The bytes of a text in place are those of its words.
use Rattle.std.proofs.Common.{◌≡◌, Bool, true, false, Result, Ok, Err, MatchResult, ◌^◌, ℕ, zero, suc, ◌+◌, ◌*◌, ◌%◌, ◌/◌, ◌<◌, ◌≤◌, List, [], ◌∷◌, take, drop, length, get_or, refl, sym, ap, ap₂, ◌∙◌, subst, arith, length-take, length-drop}
use Rattle.std.proofs.lemmas.List.{take-take}
use Rattle.std.proofs.lemmas.Str.{IsUtf8-from_is_utf8, is_utf8-from_IsUtf8}
use Rattle.std.specs.Result.{is_ok}
use Rattle.std.specs.Str.{IsUtf8, is_utf8}
use Rattle.capnp_format.specs.Bytes.{words_of}
use Rattle.capnp_format.specs.Numbers.{from_digits, digits, words_for}
use Rattle.capnp_format.specs.Segments.{Segments, words_at}
use Rattle.capnp_format.specs.Value.{AreBelow}
use Rattle.capnp_format.proofs.BytesLemmas.{words_are_bytes}
use Rattle.capnp_format.proofs.Bounds.{below_each}
use Rattle.capnp_format.proofs.Digits.{low, high}
use Rattle.capnp_format.proofs.WordsOf.{words_of-part}
use Rattle.capnp_pointers.specs.Objects.{IsHeld}
use Rattle.capnp_pointers.specs.declared.object.Place.{Place}
use Rattle.typed_conforming.specs.Misfits.{list_bytes}

-- The lowest digits of a number, if they are known to be small.
low_digits : (n : ℕ) (ds : List ℕ) → n ≤ length ds → AreBelow 256 (take n ds) → digits 256 n (from_digits 256 ds) ≡ take n ds
low_digits zero ds l h = refl
low_digits (suc n) [] l h = absurd (omega arith)
low_digits (suc n) (d ∷ ds) l h =
    ap₂ (λ x xs. x ∷ xs) (low 256 d (from_digits 256 ds) h.0) (ap (digits 256 n) (high 256 d (from_digits 256 ds) h.0) ∙ low_digits n ds (omega arith) h.1)

pub take-digits : (n m x : ℕ) → n ≤ m → take n (digits 256 m x) ≡ digits 256 n x
take-digits zero m x l = refl
take-digits (suc n) zero x l = absurd (omega arith)
take-digits (suc n) (suc m) x l = ap (λ ds. x % 256 ∷ ds) (take-digits n m (x / 256) (omega arith))

-- The first n of `count` bytes at a place.
pub bytes_in_place : (S : Segments) (start : Place) (n count : ℕ) → n ≤ count → ((i : ℕ) → get_or (take n (drop (8 * start.at) start.bytes.now)) i 0 < 256) → 8 * (start.at + words_for 2 count) ≤ length start.bytes.now → IsHeld S start →
    take n (drop (8 * start.at) start.bytes.now) ≡ take n (list_bytes S start.segment start.at count)
bytes_in_place S start n count few small room held =
    let words : ℕ = words_for 2 count in
    let bytes : List ℕ = take n (drop (8 * start.at) start.bytes.now) in
    let all : List ℕ = take (8 * words) (drop (8 * start.at) start.bytes.now) in
    let shows : words_of all ≡ words_at S start.segment start.at words = words_of-part start.at words (8 * start.at) (8 * words) start.bytes.now refl refl room ∙ rw held.0 refl in
    let part : bytes ≡ take n all = sym (take-take n (8 * words) (drop (8 * start.at) start.bytes.now) (omega (arith, few))) in
    let long : length all ≡ 8 * words = omega (arith, length-take (8 * words) (drop (8 * start.at) start.bytes.now), length-drop (8 * start.at) start.bytes.now, room) in
    let below : AreBelow 256 (take n all) = subst (AreBelow 256) part (below_each 256 bytes small) in
    part ∙ sym (low_digits n all (omega (arith, few, long)) below)
    ∙ sym (take-digits n count (from_digits 256 all) few) ∙ ap (λ x. take n (digits 256 count x)) (sym (words_are_bytes words all long) ∙ ap (from_digits (2 ^ 64)) shows)

-- The result of a test of bytes for UTF-8.
pub utf8_result : {A E : Type 0} (bs : List ℕ) (P : A → Type 0) (Q : E → Type 0) (r : Result A E) → ((x : A) → P x → IsUtf8 bs) → ((e : E) → Q e → IsUtf8 bs → ⊥) → MatchResult r P Q → is_ok r ≡ is_utf8 bs
utf8_result bs P Q (Ok x) valid broken h = sym (is_utf8-from_IsUtf8 bs (valid x h))
utf8_result bs P Q (Err e) valid broken h = sym (go (is_utf8 bs) refl)
  where
    go : (b : Bool) → is_utf8 bs ≡ b → is_utf8 bs ≡ false
    go true is = absurd (broken e h (IsUtf8-from_is_utf8 bs is))
    go false is = is
