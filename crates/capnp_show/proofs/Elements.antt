-- The elements of a list of bits or numbers are parts of its words, and those of a list of bytes are
-- its bytes.
use Rattle.std.proofs.Common.{◌≡◌, ◌≢◌, ℕ, zero, suc, ◌+◌, ◌-◌, ◌*◌, ◌/◌, ◌%◌, ◌^◌, ◌<◌, ◌≤◌, List, [], ◌∷◌, ◌++◌, append_assoc, length, map, take, drop, get_or, refl, sym, ap, ap₂, ◌∙◌, subst, arith, length-take, length-drop, drop-cons, pow-add}
use Rattle.std.proofs.lemmas.List.{get_or-take, get_or-drop, take-take}
use Rattle.std.specs.Prelude.{codes}
use Rattle.std.specs.List.{join_with_byte}
use Rattle.std.proofs.lemmas.Nat.{shr-shr, pow_pos}
use Rattle.std.proofs.Math.Nat.{add-mul-div_left, add-mul-mod_self_left, mul_assoc}
use Rattle.capnp_words.specs.Sizes.{size_number}
use Rattle.capnp_words.specs.declared.wire_pointer.ElementSize.{ElementSize}
use Rattle.capnp_words.specs.declared.wire_pointer.ElementSize.TheVariants.{Void, Bit, Byte, TwoBytes, FourBytes, EightBytes, Pointer, InlineComposite}
use Rattle.capnp_format.specs.Bytes.{words_of}
use Rattle.capnp_format.specs.Numbers.{element_bits, digits, from_digits, unpacked, words_for}
use Rattle.capnp_format.specs.Value.{AreBelow}
use Rattle.capnp_format.proofs.Bounds.{below_each}
use Rattle.capnp_format.proofs.BytesLemmas.{words_are_bytes}
use Rattle.capnp_format.proofs.Digits.{length-digits, low, high}
use Rattle.capnp_format.proofs.FieldBytes.{cut}
use Rattle.capnp_format.proofs.LawLemmas.{element_is_bits}
use Rattle.capnp_format.proofs.Lies.{pow_pow}
use Rattle.capnp_format.proofs.WordsOf.{small_word, words, words_of-part}
use Rattle.capnp_format.specs.Segments.{segment, words_at}
use Rattle.capnp_framing.specs.Frames.{bytes_of_words}
use Rattle.capnp_framing.proofs.TableLemmas.{bytes-words, below_take}
use Rattle.capnp_pointers.specs.declared.object.Place.{Place}
use Rattle.capnp_pointers.specs.Objects.{IsHeld}
use Rattle.capnp_pointers.specs.Reading.{Reading}
use Rattle.capnp_show.specs.Line.{flat_member, numbers_member}
use Rattle.capnp_show.specs.Numbers.{flat_numbers, number_in, number_text, word_index}

-- Bits o to o + b of a word, with other words after it.
part_of_word : (w y o b : ℕ) → o + b ≤ 64 → (w + 2 ^ 64 * y) / 2 ^ o % 2 ^ b ≡ w / 2 ^ o % 2 ^ b
part_of_word w y o b fits =
    let rest : ℕ = 64 - o - b in
    let split : 2 ^ 64 ≡ 2 ^ o * (2 ^ b * 2 ^ rest) = ap (λ n. 2 ^ n) (let e : 64 ≡ o + (b + rest) = omega arith in e) ∙ pow-add 2 o (b + rest) ∙ ap (λ n. 2 ^ o * n) (pow-add 2 b rest) in
    let there : 2 ^ 64 * y ≡ 2 ^ o * (2 ^ b * (2 ^ rest * y)) = ap (λ n. n * y) split ∙ mul_assoc (2 ^ o) (2 ^ b * 2 ^ rest) y ∙ ap (λ n. 2 ^ o * n) (mul_assoc (2 ^ b) (2 ^ rest) y) in
    ap (λ n. (w + n) / 2 ^ o % 2 ^ b) there
    ∙ ap (λ n. n % 2 ^ b) (add-mul-div_left w (2 ^ b * (2 ^ rest * y)) {y = 2 ^ o} (pow_pos o))
    ∙ add-mul-mod_self_left (w / 2 ^ o) (2 ^ b) (2 ^ rest * y)

-- Bits of words that are read as one number.
bits_of_words : (ws : List ℕ) (x k o b : ℕ) → AreBelow (2 ^ 64) ws → x ≡ 64 * k + o → o + b ≤ 64 → k < length ws → from_digits (2 ^ 64) ws / 2 ^ x % 2 ^ b ≡ get_or ws k 0 / 2 ^ o % 2 ^ b
bits_of_words ws x k o b small at fits there =
    let y : ℕ = from_digits (2 ^ 64) (drop (suc k) ws) in
    let above : from_digits (2 ^ 64) ws / 2 ^ (64 * k) ≡ from_digits (2 ^ 64) (drop k ws) = ap (λ p. from_digits (2 ^ 64) ws / p) (sym (pow_pow 64 k)) ∙ (cut (2 ^ 64) k ws small (omega arith)).others in
    let first : from_digits (2 ^ 64) (drop k ws) ≡ get_or ws k 0 + 2 ^ 64 * y = ap (from_digits (2 ^ 64)) (drop-cons ws k 0 there) in
    ap (λ e. from_digits (2 ^ 64) ws / 2 ^ e % 2 ^ b) at
    ∙ ap (λ n. n % 2 ^ b) (sym (shr-shr (from_digits (2 ^ 64) ws) (64 * k) o) ∙ ap (λ n. n / 2 ^ o) (above ∙ first))
    ∙ part_of_word (get_or ws k 0) y o b fits

-- Element i of a list of n elements, in the word k of the list.
element_in : (size n i k o : ℕ) (ws : List ℕ) → AreBelow (2 ^ 64) ws → i < n → element_bits size * i ≡ 64 * k + o → o + element_bits size ≤ 64 → k < length ws →
    get_or (unpacked size n ws) i 0 ≡ get_or ws k 0 / 2 ^ o % 2 ^ element_bits size
element_in size n i k o ws small inside at fits there = element_is_bits size n i ws inside ∙ bits_of_words ws (element_bits size * i) k o (element_bits size) small at fits there

-- The words of a list at a place.
abbrev list_words : Place → ℕ → List ℕ
list_words start n = take n (drop start.at (words_of start.bytes.now))

record Room (start : Place) (n : ℕ) : Type 0 where
  long : length (list_words start n) ≡ n
  small : AreBelow (2 ^ 64) (list_words start n)

room : (start : Place) (n : ℕ) → ((i : ℕ) → get_or start.bytes.now i 0 < 256) → 8 * (start.at + n) ≤ length start.bytes.now → Room start n
room start n bytes there =
    let all : List ℕ = words_of start.bytes.now in
    record {
      long = omega (arith, length-take n (drop start.at all), length-drop start.at all, words start.bytes.now);
      small = below_each (2 ^ 64) (list_words start n) (λ i. small_words all start.at n (λ j. small_word start.bytes.now bytes j) i);
    }
  where
    small_take : (n : ℕ) (xs : List ℕ) → ((j : ℕ) → get_or xs j 0 < 2 ^ 64) → (i : ℕ) → get_or (take n xs) i 0 < 2 ^ 64
    small_take zero xs h i = omega arith
    small_take (suc n) [] h i = omega arith
    small_take (suc n) (x ∷ xs) h zero = h 0
    small_take (suc n) (x ∷ xs) h (suc i) = small_take n xs (λ j. h (suc j)) i

    small_words : (xs : List ℕ) (a n : ℕ) → ((j : ℕ) → get_or xs j 0 < 2 ^ 64) → (i : ℕ) → get_or (take n (drop a xs)) i 0 < 2 ^ 64
    small_words xs a n h i = small_take n (drop a xs) (λ j. rw (get_or-drop a xs j 0) (h (a + j))) i

-- The word of a list at this index is that of the segment.
word_there : (start : Place) (n k : ℕ) → k < n → get_or (list_words start n) k 0 ≡ get_or (words_of start.bytes.now) (start.at + k) 0
word_there start n k less = get_or-take n (drop start.at (words_of start.bytes.now)) k 0 less ∙ get_or-drop start.at (words_of start.bytes.now) k 0

-- Element i of a list is what the program reads of its word.
pub number_is : (start : Place) (size : ElementSize) (n i : ℕ) → ((j : ℕ) → get_or start.bytes.now j 0 < 256) → size ≢ Void → size_number size ≤ 5 → 8 * (start.at + words_for (size_number size) n) ≤ length start.bytes.now → i < n →
    number_in size i (get_or (words_of start.bytes.now) (start.at + word_index size i) 0) ≡ get_or (flat_numbers start size n) i 0
number_is start Bit n i bytes some five there inside =
    let r = room start (words_for 1 n) bytes there in
    sym (element_in 1 n i (i / 64) (i % 64) (list_words start (words_for 1 n)) r.small inside (omega arith) (omega arith) (let long = r.long in omega (arith, long)) ∙ ap (λ w. w / 2 ^ (i % 64) % 2) (word_there start (words_for 1 n) (i / 64) (omega arith)))
number_is start Byte n i bytes some five there inside =
    let r = room start (words_for 2 n) bytes there in
    sym (element_in 2 n i (i / 8) (i % 8 * 8) (list_words start (words_for 2 n)) r.small inside (omega arith) (omega arith) (let long = r.long in omega (arith, long)) ∙ ap (λ w. w / 2 ^ (i % 8 * 8) % 2 ^ 8) (word_there start (words_for 2 n) (i / 8) (omega arith)))
number_is start TwoBytes n i bytes some five there inside =
    let r = room start (words_for 3 n) bytes there in
    sym (element_in 3 n i (i / 4) (i % 4 * 16) (list_words start (words_for 3 n)) r.small inside (omega arith) (omega arith) (let long = r.long in omega (arith, long)) ∙ ap (λ w. w / 2 ^ (i % 4 * 16) % 2 ^ 16) (word_there start (words_for 3 n) (i / 4) (omega arith)))
number_is start FourBytes n i bytes some five there inside =
    let r = room start (words_for 4 n) bytes there in
    sym (element_in 4 n i (i / 2) (i % 2 * 32) (list_words start (words_for 4 n)) r.small inside (omega arith) (omega arith) (let long = r.long in omega (arith, long)) ∙ ap (λ w. w / 2 ^ (i % 2 * 32) % 2 ^ 32) (word_there start (words_for 4 n) (i / 2) (omega arith)))
number_is start EightBytes n i bytes some five there inside =
    let r = room start (words_for 5 n) bytes there in
    let w : ℕ = get_or (words_of start.bytes.now) (start.at + i) 0 in
    let small : w < 2 ^ 64 = small_word start.bytes.now bytes (start.at + i) in
    sym (element_in 5 n i i 0 (list_words start (words_for 5 n)) r.small inside (omega arith) (omega arith) (let long = r.long in omega (arith, long)) ∙ ap (λ v. v / 2 ^ 0 % 2 ^ 64) (word_there start (words_for 5 n) i (omega arith)) ∙ (let e : w / 2 ^ 0 % 2 ^ 64 ≡ w = omega (arith, small) in e))
number_is start Void n i bytes some five there inside = absurd (some refl)
number_is start Pointer n i bytes some five there inside = absurd (omega arith)
number_is start InlineComposite n i bytes some five there inside = absurd (omega arith)

-- ---- bytes

-- The lowest digits of a number, if these digits are known to be small.
low_digits : (n : ℕ) (ds : List ℕ) → n ≤ length ds → AreBelow 256 ds → digits 256 n (from_digits 256 ds) ≡ take n ds
low_digits zero ds l h = refl
low_digits (suc n) [] l h = absurd (omega arith)
low_digits (suc n) (d ∷ ds) l h =
    ap₂ (λ (x : ℕ) xs. x ∷ xs) (low 256 d (from_digits 256 ds) h.0) (ap (digits 256 n) (high 256 d (from_digits 256 ds) h.0) ∙ low_digits n ds (omega arith) h.1)

-- The bytes of whole words at a place.
abbrev part_bytes : Place → ℕ → List ℕ
part_bytes start n = take (8 * n) (drop (8 * start.at) start.bytes.now)

record BytePart (start : Place) (n : ℕ) : Type 0 where
  long : length (part_bytes start n) ≡ 8 * n
  each : (i : ℕ) → get_or (part_bytes start n) i 0 < 256
  of_words : words_of (part_bytes start n) ≡ list_words start n

byte_part : (start : Place) (n : ℕ) → ((i : ℕ) → get_or (part_bytes start n) i 0 < 256) → 8 * (start.at + n) ≤ length start.bytes.now → BytePart start n
byte_part start n bytes there = record {
  long = omega (arith, length-take (8 * n) (drop (8 * start.at) start.bytes.now), length-drop (8 * start.at) start.bytes.now);
  each = bytes;
  of_words = words_of-part start.at n (8 * start.at) (8 * n) start.bytes.now refl refl there;
}

small_part : (start : Place) (n : ℕ) → ((i : ℕ) → get_or start.bytes.now i 0 < 256) → (i : ℕ) → get_or (part_bytes start n) i 0 < 256
small_part start n bytes i = below_take (8 * n) (drop (8 * start.at) start.bytes.now) (λ j. rw (get_or-drop (8 * start.at) start.bytes.now j 0) (bytes (8 * start.at + j))) i

-- The bytes of the words at a place.
word_bytes_are : (start : Place) (n : ℕ) → ((i : ℕ) → get_or (part_bytes start n) i 0 < 256) → 8 * (start.at + n) ≤ length start.bytes.now → part_bytes start n ≡ bytes_of_words (list_words start n)
word_bytes_are start n bytes there =
    let part = byte_part start n bytes there in
    sym (bytes-words n (part_bytes start n) part.long part.each) ∙ ap bytes_of_words part.of_words

-- The bytes of the data section of a struct at the place r.
pub struct_data : (r : Reading) (start : Place) (d w : ℕ) (bytes : List ℕ) → IsHeld r.segments start → start.at + d ≤ length (segment r.segments start.segment) → w ≡ d → bytes ≡ part_bytes start w → ((i : ℕ) → get_or bytes i 0 < 256) →
    bytes ≡ bytes_of_words (words_at r.segments start.segment start.at d)
struct_data r start d w bytes held inside is taken small =
    let taken' : bytes ≡ part_bytes start d = taken ∙ ap (part_bytes start) is in
    taken' ∙ word_bytes_are start d (λ i. subst (λ (zs : List ℕ). get_or zs i 0 < 256) taken' (small i)) (omega (arith, inside, held.1))
    ∙ ap (λ ws. bytes_of_words (take d (drop start.at ws))) held.0

-- The bytes of a list of bytes.
pub bytes_are : (start : Place) (n : ℕ) → ((i : ℕ) → get_or start.bytes.now i 0 < 256) → 8 * (start.at + words_for 2 n) ≤ length start.bytes.now → take n (drop (8 * start.at) start.bytes.now) ≡ flat_numbers start Byte n
bytes_are start n bytes there =
    let k : ℕ = words_for 2 n in
    let part = byte_part start k (small_part start k bytes) there in
    let all : List ℕ = part_bytes start k in
    sym (take-take n (8 * k) (drop (8 * start.at) start.bytes.now) (omega arith))
    ∙ sym (low_digits n all (let long = part.long in omega (arith, long)) (below_each 256 all part.each))
    ∙ ap (digits 256 n) (sym (words_are_bytes k all part.long))
    ∙ ap (λ ws. unpacked 2 n ws) part.of_words

-- The words of a list's elements are below position 2^32.
pub index_small : (start : Place) (size : ElementSize) (n i : ℕ) → size ≢ Void → size_number size ≤ 5 → 8 * (start.at + words_for (size_number size) n) ≤ length start.bytes.now → length start.bytes.now < 8 * 2 ^ 32 → i < n → start.at + word_index size i < 2 ^ 32
index_small start Bit n i some five there small inside = omega arith
index_small start Byte n i some five there small inside = omega arith
index_small start TwoBytes n i some five there small inside = omega arith
index_small start FourBytes n i some five there small inside = omega arith
index_small start EightBytes n i some five there small inside = omega arith
index_small start Void n i some five there small inside = absurd (some refl)
index_small start Pointer n i some five there small inside = absurd (omega arith)
index_small start InlineComposite n i some five there small inside = absurd (omega arith)

-- Sizes other than void have an element's width.
pub some_width : (size : ElementSize) → size ≢ Void → 0 < size_number size
some_width Void some = absurd (some refl)
some_width Bit some = omega arith
some_width Byte some = omega arith
some_width TwoBytes some = omega arith
some_width FourBytes some = omega arith
some_width EightBytes some = omega arith
some_width Pointer some = omega arith
some_width InlineComposite some = omega arith

-- What is written of a list that isn't of bytes or of void.
pub numbers_alone : (size : ElementSize) (ns : List ℕ) → size ≢ Void → size ≢ Byte → flat_member (size_number size) ns ≡ numbers_member (size_number size) ns
numbers_alone Void ns some other = absurd (some refl)
numbers_alone Bit ns some other = refl
numbers_alone Byte ns some other = absurd (other refl)
numbers_alone TwoBytes ns some other = refl
numbers_alone FourBytes ns some other = refl
numbers_alone EightBytes ns some other = refl
numbers_alone Pointer ns some other = refl
numbers_alone InlineComposite ns some other = refl

pub length_numbers : (start : Place) (size : ElementSize) (n : ℕ) → length (flat_numbers start size n) ≡ n
length_numbers start size n = length-digits _ n _

-- The key of lists of numbers of eight bytes.
pub long_key : (size : ElementSize) (ns : List ℕ) → size ≢ Bit → size ≢ TwoBytes → size ≢ FourBytes → numbers_member (size_number size) ns ++ codes "}" ≡ codes "\"u64\":[" ++ (join_with_byte 44 (map (number_text size) ns) ++ codes "]}")
long_key Void ns a b c = ap (λ zs. codes "\"u64\":[" ++ zs) (append_assoc (join_with_byte 44 (map (number_text Void) ns)) (codes "]") (codes "}"))
long_key Bit ns a b c = absurd (a refl)
long_key Byte ns a b c = ap (λ zs. codes "\"u64\":[" ++ zs) (append_assoc (join_with_byte 44 (map (number_text Byte) ns)) (codes "]") (codes "}"))
long_key TwoBytes ns a b c = absurd (b refl)
long_key FourBytes ns a b c = absurd (c refl)
long_key EightBytes ns a b c = ap (λ zs. codes "\"u64\":[" ++ zs) (append_assoc (join_with_byte 44 (map (number_text EightBytes) ns)) (codes "]") (codes "}"))
long_key Pointer ns a b c = ap (λ zs. codes "\"u64\":[" ++ zs) (append_assoc (join_with_byte 44 (map (number_text Pointer) ns)) (codes "]") (codes "}"))
long_key InlineComposite ns a b c = ap (λ zs. codes "\"u64\":[" ++ zs) (append_assoc (join_with_byte 44 (map (number_text InlineComposite) ns)) (codes "]") (codes "}"))

-- What is read of element i.
pub element_read : (start : Place) (size : ElementSize) (n i x : ℕ) → ((j : ℕ) → get_or start.bytes.now j 0 < 256) → size ≢ Void → size_number size ≤ 5 → (0 < size_number size → 8 * (start.at + words_for (size_number size) n) ≤ length start.bytes.now) → length start.bytes.now < 8 * 2 ^ 32 → i < n →
    (start.at + word_index size i < 2 ^ 32 → x ≡ number_in size i (get_or (words_of start.bytes.now) (start.at + word_index size i) 0)) → x ≡ get_or (flat_numbers start size n) i 0
element_read start size n i x bytes some five inside small less is =
    let there = inside (some_width size some) in
    is (index_small start size n i some five there small less) ∙ number_is start size n i bytes some five there less
