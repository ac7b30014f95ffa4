-- What a fault of a message that isn't in canonical form says, and its text ("Canonicalization").
use Rattle.std.specs.Prelude.{◌≡◌, ℕ, List, codes, if◌then◌else◌, nat_eq}
use Rattle.capnp_format.specs.Word.{kind, lower_half}
use Rattle.capnp_pointers.specs.declared.pointers.canonical_fault.CanonicalFault.{CanonicalFault}
use Rattle.capnp_pointers.specs.declared.pointers.canonical_fault.CanonicalFaultReason.{CanonicalFaultReason}
use Rattle.capnp_pointers.specs.declared.pointers.canonical_fault.CanonicalFaultReason.TheVariants.{SegmentCount}
use Rattle.capnp_pointers.specs.declared.pointers.canonical_fault.CanonicalFaultReason.TheVariants.{NoPointer}
use Rattle.capnp_pointers.specs.declared.pointers.canonical_fault.CanonicalFaultReason.TheVariants.{FarPointer}
use Rattle.capnp_pointers.specs.declared.pointers.canonical_fault.CanonicalFaultReason.TheVariants.{Capability}
use Rattle.capnp_pointers.specs.declared.pointers.canonical_fault.CanonicalFaultReason.TheVariants.{UnknownPointer}
use Rattle.capnp_pointers.specs.declared.pointers.canonical_fault.CanonicalFaultReason.TheVariants.{EmptyStructPlace}
use Rattle.capnp_pointers.specs.declared.pointers.canonical_fault.CanonicalFaultReason.TheVariants.{ObjectPlace}
use Rattle.capnp_pointers.specs.declared.pointers.canonical_fault.CanonicalFaultReason.TheVariants.{Padding}
use Rattle.capnp_pointers.specs.declared.pointers.canonical_fault.CanonicalFaultReason.TheVariants.{DataSection}
use Rattle.capnp_pointers.specs.declared.pointers.canonical_fault.CanonicalFaultReason.TheVariants.{PointerSection}
use Rattle.capnp_pointers.specs.declared.pointers.canonical_fault.CanonicalFaultReason.TheVariants.{ElementWords}
use Rattle.capnp_pointers.specs.declared.pointers.canonical_fault.CanonicalFaultReason.TheVariants.{ElementData}
use Rattle.capnp_pointers.specs.declared.pointers.canonical_fault.CanonicalFaultReason.TheVariants.{ElementPointers}
use Rattle.capnp_pointers.specs.declared.pointers.canonical_fault.CanonicalFaultReason.TheVariants.{WordsBehind}

-- The text of a reason.
abbrev pub fault_reason_text : CanonicalFaultReason → List ℕ
fault_reason_text SegmentCount = codes "a number of segments other than one"
fault_reason_text NoPointer = codes "no word where a pointer should be"
fault_reason_text FarPointer = codes "a far pointer"
fault_reason_text Capability = codes "a capability"
fault_reason_text UnknownPointer = codes "a pointer of an unknown kind"
fault_reason_text EmptyStructPlace = codes "a pointer to an empty struct with an offset other than -1"
fault_reason_text ObjectPlace = codes "a pointer to an object that isn't directly next in order"
fault_reason_text Padding = codes "a list whose padding isn't zero"
fault_reason_text DataSection = codes "a data section whose last word is zero"
fault_reason_text PointerSection = codes "a pointer section whose last pointer is null"
fault_reason_text ElementWords = codes "a list of structs whose pointer claims more words than its elements take"
fault_reason_text ElementData = codes "a list of structs with more data words than any element needs"
fault_reason_text ElementPointers = codes "a list of structs with more pointers than any element needs"
fault_reason_text WordsBehind = codes "words after the value"

-- The fault f names the word at (s, p), for this reason.
abbrev pub FaultIs : CanonicalFault → CanonicalFaultReason → ℕ → ℕ → Type 0
FaultIs f reason s p = (f.reason ≡ reason) × (f.segment ≡ s) × (f.word ≡ p)

-- Why a pointer that is neither to a struct nor to a list isn't canonical, by its word.
abbrev pub other_reason : ℕ → CanonicalFaultReason
other_reason w = if nat_eq (kind w) 2 then FarPointer else if nat_eq (lower_half w) 3 then
    Capability else UnknownPointer
