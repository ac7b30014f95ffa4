-- The parts of the place of a struct.
use Rattle.std.proofs.Common.{◌≡◌, ℕ, ◌+◌, ◌*◌, ap}
use Rattle.capnp_in_place.specs.declared.existing.ExistingStruct.{ExistingStruct}
use Rattle.capnp_readers.specs.declared.readers.struct_reader.StructPlace.{StructPlace}
use Rattle.capnp_builders.specs.Places.{struct_place}

-- A struct of d data words and q pointers starts at position p of segment s.
abbrev pub StructStartsAt : StructPlace → ℕ → ℕ → ℕ → ℕ → Type 0
StructStartsAt place s p d q =
    (place.segment ≡ s) × (place.byte ≡ 8 * p) × (place.bits ≡ 64 * d) × (place.pointers_at ≡ p + d) × (place.pointers ≡ q)

pub place_parts : (place q : StructPlace) → place ≡ q →
    (place.segment ≡ q.segment) × (place.byte ≡ q.byte) × (place.bits ≡ q.bits) × (place.pointers_at ≡ q.pointers_at) × (place.pointers ≡ q.pointers)
place_parts place q is = (
  ap (λ (x : StructPlace). x.segment) is,
  ap (λ (x : StructPlace). x.byte) is,
  ap (λ (x : StructPlace). x.bits) is,
  ap (λ (x : StructPlace). x.pointers_at) is,
  ap (λ (x : StructPlace). x.pointers) is,
)

pub struct_starts : (place : StructPlace) (e : ExistingStruct) → place ≡ struct_place e → StructStartsAt place e.segment e.start e.size.data_words e.size.pointers
struct_starts place e is = place_parts place (struct_place e) is
