-- Slices that a reader holds: a default's whole words, fields, elements.
use Rattle.std.proofs.Common.{◌≡◌, ◌≢◌, ℕ, ◌+◌, ◌-◌, ◌*◌, ◌/◌, ◌^◌, ◌<◌, ◌≤◌, List, length, take, drop, refl, sym, ap, ◌∙◌, arith, length-take, length-drop, mul_comm, mul-le-mul_left}
use Rattle.std.proofs.Math.Nat.{mod-add-div}
use Rattle.std.proofs.lemmas.List.{drop-take, take-take, drop-drop}
use Rattle.std.proofs.lemmas.Grind.{common_steps}
use Rattle.std.proofs.lemmas.Nat.{le-div, mul-add-lt, rows}
use Rattle.capnp_format.specs.Bytes.{words_of}
use Rattle.capnp_format.specs.Segments.{Segments, segment}
use Rattle.capnp_format.proofs.WordsOf.{words, words_of-take}
use Rattle.capnp_format.specs.Numbers.{words_for, element_bits}
use Rattle.capnp_words.specs.Sizes.{size_number}
use Rattle.capnp_words.specs.declared.wire_pointer.ElementSize.{ElementSize}
use Rattle.capnp_words.specs.declared.wire_pointer.ElementSize.TheVariants.{Void, Bit, Byte, TwoBytes, FourBytes, EightBytes, Pointer, InlineComposite}
use Rattle.capnp_words.specs.declared.wire_pointer.StructSize.{StructSize}
use Rattle.capnp_pointers.specs.Objects.{IsHeld}
use Rattle.capnp_pointers.specs.declared.object.Place.{Place}
use Rattle.capnp_readers.specs.Sections.{IsInside, IsPart, bytes_for, HoldsPointer, elements_words, pointers_offset}
use Rattle.capnp_pointers.specs.Source.{default_segments}
use Rattle.capnp_arena_traits.specs.declared.arena.reader_arena.ReaderArena.{Ghosts}
use Rattle.capnp_readers.specs.declared.readers.list_reader.ListReader.{ListReader}
use Rattle.capnp_pointers.proofs.Following.DefaultSegments.{default_at}

-- all bytes of a default's whole words
pub default_whole : (bytes : List ℕ) → words_of (take (8 * (length bytes / 8)) bytes) ≡ segment (default_segments bytes) (2 ^ 32)
default_whole bytes =
    words_of-take (length bytes / 8) bytes (omega arith) ∙ take-past (length bytes / 8) (words_of bytes) (omega (arith, words bytes)) ∙ sym (default_at bytes)
  where
    take-past : (k : ℕ) (xs : List ℕ) → length xs ≤ k → take k xs ≡ xs
    take-past k xs h = grind (arith, common_steps)

pub default_length : (bytes : List ℕ) → length (take (8 * (length bytes / 8)) bytes) ≡ 8 * length (segment (default_segments bytes) (2 ^ 32))
default_length bytes = omega (arith, length-take (8 * (length bytes / 8)) bytes, words bytes, ap length (default_at bytes))

-- a field inside its section, by its bytes
pub inside_bytes : (bits n offset : ℕ) → 0 < n → IsInside bits (8 * n) offset → offset < bits / 8 / n
inside_bytes bits n offset some h =
    let bytes : (offset + 1) * n * 8 ≤ bits = omega (arith, h) in
    omega (arith, le-div (offset + 1) (bits / 8) n some (le-div ((offset + 1) * n) bits 8 (omega arith) bytes))

-- a field whose bytes are there is inside its section
pub bytes_inside : (bits n offset : ℕ) → offset < bits / 8 / n → IsInside bits (8 * n) offset
bytes_inside bits n offset l =
    let few : offset + 1 ≤ bits / 8 / n = omega arith in omega (arith, mul-le-mul_left n few, mod-add-div (bits / 8) n)

-- the pointers of an element are among the elements' words
pub pointers_within : (size : ElementSize) (sections : StructSize) (count i : ℕ) → HoldsPointer size sections → i < count → pointers_offset size sections i < elements_words size count (sections.data_words + sections.pointers)
pointers_within Pointer sections count i h l = l
pointers_within InlineComposite sections count i h l =
    omega (arith, mul-add-lt i (sections.data_words + sections.pointers) sections.data_words count l (omega arith), mul_comm count (sections.data_words + sections.pointers))
pointers_within Void sections count i h l = absurd h
pointers_within Bit sections count i h l = absurd h
pointers_within Byte sections count i h l = absurd h
pointers_within TwoBytes sections count i h l = absurd h
pointers_within FourBytes sections count i h l = absurd h
pointers_within EightBytes sections count i h l = absurd h

-- the number of words of a held segment has 32 bits
pub held_words : (S : Segments) (start : Place) → IsHeld S start → length (segment S start.segment) < 2 ^ 32
held_words S start (words_are, whole, small) = omega (arith, whole, small)

-- an element of `width` words is among all words
pub words_within : (width count i : ℕ) → i < count → i * width + width ≤ count * width
words_within width count i h = grind (arith, rows)

pub struct_within : (size : ElementSize) (width count i : ℕ) → size ≡ InlineComposite → i < count → i * width + width ≤ elements_words size count width
struct_within size width count i e h = rw e (words_within width count i h)

pub flat_words : (size : ElementSize) (n width : ℕ) → size_number size ≤ 5 → elements_words size n width ≡ words_for (size_number size) n
flat_words Pointer n width h = absurd (omega arith)
flat_words InlineComposite n width h = absurd (omega arith)
flat_words Void n width h = refl
flat_words Bit n width h = refl
flat_words Byte n width h = refl
flat_words TwoBytes n width h = refl
flat_words FourBytes n width h = refl
flat_words EightBytes n width h = refl

-- a number is among the words of its list
pub number_within : (size : ElementSize) (n i : ℕ) → size_number size ≤ 5 → i < n → i * (element_bits (size_number size) / 8) + element_bits (size_number size) / 8 ≤ 8 * words_for (size_number size) n
number_within Pointer n i h l = absurd (omega arith)
number_within InlineComposite n i h l = absurd (omega arith)
number_within Void n i h l = omega arith
number_within Bit n i h l = omega arith
number_within Byte n i h l = omega arith
number_within TwoBytes n i h l = omega arith
number_within FourBytes n i h l = omega arith
number_within EightBytes n i h l = omega arith

-- numbers of whole bytes
pub number_bytes : (size : ElementSize) → size_number size ≢ 1 → bytes_for (element_bits (size_number size)) ≡ element_bits (size_number size) / 8
number_bytes Bit h = absurd (h refl)
number_bytes Void h = refl
number_bytes Byte h = refl
number_bytes TwoBytes h = refl
number_bytes FourBytes h = refl
number_bytes EightBytes h = refl
number_bytes Pointer h = refl
number_bytes InlineComposite h = refl

part_of_part : (bs : List ℕ) (a L f n : ℕ) → f + n ≤ L → take n (drop f (take L (drop a bs))) ≡ take n (drop (a + f) bs)
part_of_part bs a L f n h =
    let m = L - f in
    let split : L ≡ f + m = omega arith in
    ap (λ k. take n (drop f (take k (drop a bs)))) split
    ∙ ap (take n) (drop-take f m (drop a bs))
    ∙ take-take n m (drop f (drop a bs)) (omega arith)
    ∙ ap (take n) (drop-drop f a bs)

module _ {A : Type 0} (g : Ghosts A) where
  -- the bytes of a number of a list are bytes of its segment
  pub number_part : (list : ListReader A g) (i : ℕ) {bits : ℕ} → size_number list.element_size ≤ 5 → size_number list.element_size ≢ 1 → i < list.count → bits ≡ element_bits (size_number list.element_size) →
      IsPart list.start (8 * list.start.at + i * (bits / 8)) bits (take (i * (bits / 8) + bits / 8 - i * (bits / 8)) (drop (i * (bits / 8)) list.content.now))
  number_part list i flat whole l e =
      rw e (
      let size = list.element_size in
      let width = list.struct_size.data_words + list.struct_size.pointers in
      let all = bytes_for (64 * elements_words size list.count width) in
      let b = element_bits (size_number size) / 8 in
      let n : i * b + b - i * b ≡ b = omega arith in
      let words : all ≡ 8 * words_for (size_number size) list.count = omega (arith, flat_words size list.count width flat) in
      let room : i * b + b ≤ all = omega (arith, words, number_within size list.count i flat l) in
      let xs = list.content.now in
      let ys = list.start.bytes.now in
      let first = 8 * list.start.at in
      let same : take b (drop (i * b) xs) ≡ take b (drop (first + i * b) ys) = ap (λ c. take b (drop (i * b) c)) list.content_is.0 ∙ part_of_part ys first all (i * b) b room in
      rw (n, number_bytes size whole) (same, omega (arith, length-take b (drop (i * b) xs), length-drop (i * b) xs, list.content_is.1, room))
      )

pub ruleset elements = (pointers_within, words_within, struct_within)
