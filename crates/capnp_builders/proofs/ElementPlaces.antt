-- Elements of a list that is inside a message are inside it.
use Rattle.std.proofs.Common.{◌≡◌, ◌≢◌, ℕ, ◌+◌, ◌*◌, ◌/◌, ◌<◌, ◌≤◌, length, refl, ap, ◌∙◌, arith}
use Rattle.capnp_format.specs.Numbers.{words_for, element_bits}
use Rattle.capnp_format.specs.Segments.{Segments, segment, IsPlace}
use Rattle.capnp_words.specs.Sizes.{size_number}
use Rattle.capnp_words.specs.declared.wire_pointer.ElementSize.{ElementSize}
use Rattle.capnp_words.specs.declared.wire_pointer.ElementSize.TheVariants.{Void, Bit, Byte, TwoBytes, FourBytes, EightBytes, Pointer, InlineComposite}
use Rattle.capnp_readers.specs.Readers.{IsStructPlace, IsListPlace}
use Rattle.capnp_readers.specs.Sections.{bytes_for, elements_words, HoldsPointer, pointers_offset}
use Rattle.capnp_readers.specs.declared.readers.struct_reader.StructPlace.{StructPlace}
use Rattle.capnp_readers.specs.declared.readers.list_reader.ListPlace.{ListPlace}
use Rattle.capnp_readers.proofs.Sections.{words_within, pointers_within, flat_words, number_within, number_bytes}
use Rattle.capnp_builders.specs.Places.{element_place}
use Rattle.capnp_builders.proofs.StructPlaces.{StructStartsAt, place_parts, struct_starts}

-- a struct of whole words that is inside a segment
whole_inside : (S : Segments) (place : StructPlace) (s p d q : ℕ) → s < length S → StructStartsAt place s p d q → p + (d + q) ≤ length (segment S s) → IsStructPlace S place
whole_inside S place s p d q there (is_s, is_byte, is_bits, is_pointers, is_count) fits =
    let same : length (segment S place.segment) ≡ length (segment S s) = ap (λ u. length (segment S u)) is_s in
    (omega (arith, there, is_s), omega (arith, same, is_byte, is_bits, fits), omega (arith, same, is_pointers, is_count, fits))

-- a number as a struct is inside its segment
number_inside : (S : Segments) (list : ListPlace) (i : ℕ) (size : ElementSize) (place : StructPlace) → list.size ≡ size → size_number size ≤ 5 → size_number size ≢ 1 → IsListPlace S list → i < list.count →
    (place.segment ≡ list.segment) × (place.byte ≡ list.byte + i * (element_bits (size_number size) / 8)) × (place.bits ≡ element_bits (size_number size)) × (place.pointers_at ≡ list.byte / 8) × (place.pointers ≡ 0) → IsStructPlace S place
number_inside S list i size place is_size flat whole (there, aligned, fits) l (is_s, is_byte, is_bits, is_pointers, is_count) =
    let same : length (segment S place.segment) ≡ length (segment S list.segment) = ap (λ u. length (segment S u)) is_s in
    let width = list.struct_size.data_words + list.struct_size.pointers in
    let words : elements_words list.size list.count width ≡ words_for (size_number size) list.count = ap (λ e. elements_words e list.count width) is_size ∙ flat_words size list.count width flat in
    let inner = number_within size list.count i flat l in
    let bytes : bytes_for place.bits ≡ element_bits (size_number size) / 8 = ap bytes_for is_bits ∙ number_bytes size whole in
    (omega (arith, there, is_s), omega (arith, same, is_byte, bytes, inner, words, fits), omega (arith, same, is_pointers, is_count, fits))

at_size : (S : Segments) (list : ListPlace) (i : ℕ) (size : ElementSize) (place : StructPlace) → list.size ≡ size → size_number size ≢ 1 → IsListPlace S list → i < list.count → place ≡ element_place size list i → IsStructPlace S place
at_size S list i InlineComposite place is_size whole (there, aligned, fits) l e =
    let w = list.struct_size.data_words + list.struct_size.pointers in
    let words : elements_words list.size list.count w ≡ list.count * w = ap (λ z. elements_words z list.count w) is_size in
    whole_inside S place list.segment (list.byte / 8 + i * w) list.struct_size.data_words list.struct_size.pointers there (struct_starts place (record { segment = list.segment; start = list.byte / 8 + i * w; size = list.struct_size }) e) (omega (arith, words, fits, words_within w list.count i l))
at_size S list i Pointer place is_size whole (there, aligned, fits) l e =
    let w = list.struct_size.data_words + list.struct_size.pointers in
    let words : elements_words list.size list.count w ≡ list.count = ap (λ z. elements_words z list.count w) is_size in
    whole_inside S place list.segment (list.byte / 8 + i) 0 1 there (struct_starts place (record { segment = list.segment; start = list.byte / 8 + i; size = record { data_words = 0; pointers = 1 } }) e) (omega (arith, words, fits, l))
at_size S list i Void place is_size whole inside l e = number_inside S list i Void place is_size (omega arith) whole inside l (place_parts place (element_place Void list i) e)
at_size S list i Bit place is_size whole inside l e = absurd (whole refl)
at_size S list i Byte place is_size whole inside l e = number_inside S list i Byte place is_size (omega arith) whole inside l (place_parts place (element_place Byte list i) e)
at_size S list i TwoBytes place is_size whole inside l e = number_inside S list i TwoBytes place is_size (omega arith) whole inside l (place_parts place (element_place TwoBytes list i) e)
at_size S list i FourBytes place is_size whole inside l e = number_inside S list i FourBytes place is_size (omega arith) whole inside l (place_parts place (element_place FourBytes list i) e)
at_size S list i EightBytes place is_size whole inside l e = number_inside S list i EightBytes place is_size (omega arith) whole inside l (place_parts place (element_place EightBytes list i) e)

-- an element as a struct is inside its segment
pub element_inside : (S : Segments) (list : ListPlace) (i : ℕ) (place : StructPlace) → size_number list.size ≢ 1 → IsListPlace S list → i < list.count → place ≡ element_place list.size list i → IsStructPlace S place
element_inside S list i place whole inside l e = at_size S list i list.size place refl whole inside l e

-- the pointer of an element is inside its segment
pub pointer_inside : (S : Segments) (list : ListPlace) (i : ℕ) → IsListPlace S list → i < list.count → HoldsPointer list.size list.struct_size → IsPlace S list.segment (list.byte / 8 + pointers_offset list.size list.struct_size i)
pointer_inside S list i (there, aligned, fits) l holds = omega (arith, fits, pointers_within list.size list.struct_size list.count i holds l)
