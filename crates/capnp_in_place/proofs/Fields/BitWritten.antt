-- One bit of a byte is written: its word has the new bit in place of the old one.
use Rattle.std.proofs.Common.{◌≡◌, ℕ, suc, ◌+◌, ◌*◌, ◌/◌, ◌%◌, ◌^◌, ◌<◌, List, [], ◌∷◌, ◌++◌, length, get_or, set, take, drop, Some, slice_get, refl, sym, ap, ◌∙◌, arith, drop-drop}
use Rattle.std.proofs.lemmas.List.{set_split}
use borrow.Rule.Slice.PartMut.{put_mid}
use Rattle.capnp_format.specs.Bytes.{words_of, message}
use Rattle.capnp_format.proofs.WordsOf.{words}
use Rattle.capnp_allocation.specs.Fields.{with_field}
use Rattle.capnp_format.specs.Fields.{with_bits, put_field}
use Rattle.capnp_allocation.proofs.FieldBytes.{message_written}
use Rattle.capnp_format.proofs.FieldBytes.{words_of-put_bytes, byte_of_word}
use Rattle.capnp_in_place.proofs.Fields.BitsReplaced.{within_part}

pub set_is_put : (bs : List ℕ) (b y : ℕ) → b < length bs → set bs b y ≡ put_mid b 1 bs (y ∷ [])
set_is_put bs b y l =
    set_split bs b y l ∙ ap (λ zs. take b bs ++ (y ∷ zs)) (ap (λ n. drop n bs) (let q : suc b ≡ b + 1 = omega arith in q) ∙ sym (drop-drop 1 b bs))

-- The byte y is written over byte k of word i.
byte_put : (i k y : ℕ) (bs : List ℕ) → ((j : ℕ) → get_or bs j 0 < 256) → k < 8 → i < length (words_of bs) → words_of (set bs (8 * i + k) y) ≡ set (words_of bs) i (with_bits (get_or (words_of bs) i 0) (8 * k) 8 y)
byte_put i k y bs small m l =
    ap words_of (set_is_put bs (8 * i + k) y (omega (arith, words bs)))
    ∙ words_of-put_bytes i k 1 bs (y ∷ []) small refl (omega arith) l
    ∙ ap (λ v. set (words_of bs) i (with_bits (get_or (words_of bs) i 0) (8 * k) 8 v)) (let q : y + 256 * 0 ≡ y = omega arith in q)

bit_put : (bit v y : ℕ) (bs : List ℕ) → ((j : ℕ) → get_or bs j 0 < 256) → v < 2 → bit / 64 < length (words_of bs) → y ≡ with_bits (get_or bs (bit / 8) 0) (bit % 8) 1 v →
    words_of (set bs (bit / 8) y) ≡ put_field (words_of bs) bit 1 v
bit_put bit v y bs small m l e =
    let i : ℕ = bit / 64 in
    let k : ℕ = bit / 8 % 8 in
    let p : ℕ = bit % 8 in
    let x : ℕ = get_or (words_of bs) i 0 in
    let at : bit / 8 ≡ 8 * i + k = omega arith in
    let fits : k < 8 = omega arith in
    let new : y ≡ with_bits (x / 2 ^ (8 * k) % 2 ^ 8) p 1 v = e ∙ ap (λ z. with_bits z p 1 v) (ap (λ j. get_or bs j 0) at ∙ byte_of_word i k bs small fits l) in
    ap (λ j. words_of (set bs j y)) at
    ∙ byte_put i k y bs small fits l
    ∙ ap (λ z. set (words_of bs) i (with_bits x (8 * k) 8 z)) new
    ∙ ap (set (words_of bs) i) (within_part x (8 * k) 8 p 1 v (omega arith) (omega arith))
    ∙ ap (λ o. set (words_of bs) i (with_bits x o 1 v)) (let q : 8 * k + p ≡ bit % 64 = omega arith in q)

-- The message after the byte that holds a bit was replaced: only that bit is different.
pub bit_written : (B : List (List ℕ)) (s bit v y : ℕ) (bs : List ℕ) → slice_get B s ≡ Some bs → ((j : ℕ) → get_or bs j 0 < 256) → v < 2 → bit < 64 * (length bs / 8) → y ≡ with_bits (get_or bs (bit / 8) 0) (bit % 8) 1 v →
    message (set B s (set bs (bit / 8) y)) ≡ with_field (message B) s bit 1 v
bit_written B s bit v y bs e small m l is =
    message_written B s bs (set bs (bit / 8) y) bit 1 v e (bit_put bit v y bs small m (omega (arith, words bs)) is)
