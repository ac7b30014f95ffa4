-- Where a near pointer leads, by its word.
use Rattle.std.proofs.Common.{◌≡◌, ℕ, ◌≤◌, arith}
use Rattle.capnp_format.specs.Word.{kind, data_words, pointer_count, element_size, list_count}
use Rattle.capnp_words.specs.Meter.{Meter}
use Rattle.capnp_words.specs.Sizes.{size_number}
use Rattle.capnp_words.specs.declared.wire_pointer.ElementSize.{ElementSize}
use Rattle.capnp_words.specs.declared.wire_pointer.StructSize.{StructSize}
use Rattle.capnp_pointers.specs.declared.object.Place.{Place}
use Rattle.capnp_pointers.specs.declared.object.Object.TheVariants.{Struct as ObjectStruct, Flat as ObjectFlat}
use Rattle.capnp_pointers.specs.Objects.{near_at, IsObject, IsHeld}
use Rattle.capnp_pointers.specs.Outcomes.{Entered}
use Rattle.capnp_pointers.specs.Reading.{Reading, word_of}
use Rattle.capnp_pointers.specs.declared.object.Purpose.TheVariants.{Value}

pub struct_by_word : {r : Reading} {m m' : Meter} (start : Place) (size : StructSize) → kind (word_of r) ≡ 0 → IsHeld r.segments start → start.segment ≡ r.segment → Entered Value r m m' (near_at r start.at) →
    size.data_words ≡ data_words (word_of r) → size.pointers ≡ pointer_count (word_of r) → IsObject Value r m m' (ObjectStruct start size)
struct_by_word {r} start size is_struct held there o wide many = (near_at r start.at, o, is_struct, (held, there, omega arith), wide, many)

pub flat_by_word : {r : Reading} {m m' : Meter} (start : Place) (size : ElementSize) (count : ℕ) → (kind (word_of r) ≡ 1) × (element_size (word_of r) ≤ 5) → IsHeld r.segments start → start.segment ≡ r.segment → Entered Value r m m' (near_at r start.at) →
    size_number size ≡ element_size (word_of r) → count ≡ list_count (word_of r) → IsObject Value r m m' (ObjectFlat start size count)
flat_by_word {r} start size count (is_list, small) held there o width many = (near_at r start.at, o, is_list, small, (held, there, omega arith), width, many)
