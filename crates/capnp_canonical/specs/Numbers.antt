-- What C sees of a refusal and of a fault: numbers and texts. The meaning of a number never
-- changes.
use Rattle.std.specs.Prelude.{ℕ, List, codes}
use Rattle.capnp_words.specs.Names.{name_of}
use Rattle.capnp_framing.specs.Names.{frame_error_name}
use Rattle.capnp_numbers.specs.Numbers.{error_number, frame_error_number, no_message_number, no_room_number}
use Rattle.capnp_pointers.specs.declared.pointers.canonical_fault.CanonicalFaultReason.{CanonicalFaultReason}
use Rattle.capnp_pointers.specs.declared.pointers.canonical_fault.CanonicalFaultReason.TheVariants.{SegmentCount}
use Rattle.capnp_pointers.specs.declared.pointers.canonical_fault.CanonicalFaultReason.TheVariants.{NoPointer}
use Rattle.capnp_pointers.specs.declared.pointers.canonical_fault.CanonicalFaultReason.TheVariants.{FarPointer}
use Rattle.capnp_pointers.specs.declared.pointers.canonical_fault.CanonicalFaultReason.TheVariants.{Capability}
use Rattle.capnp_pointers.specs.declared.pointers.canonical_fault.CanonicalFaultReason.TheVariants.{UnknownPointer}
use Rattle.capnp_pointers.specs.declared.pointers.canonical_fault.CanonicalFaultReason.TheVariants.{EmptyStructPlace}
use Rattle.capnp_pointers.specs.declared.pointers.canonical_fault.CanonicalFaultReason.TheVariants.{ObjectPlace}
use Rattle.capnp_pointers.specs.declared.pointers.canonical_fault.CanonicalFaultReason.TheVariants.{Padding}
use Rattle.capnp_pointers.specs.declared.pointers.canonical_fault.CanonicalFaultReason.TheVariants.{DataSection}
use Rattle.capnp_pointers.specs.declared.pointers.canonical_fault.CanonicalFaultReason.TheVariants.{PointerSection}
use Rattle.capnp_pointers.specs.declared.pointers.canonical_fault.CanonicalFaultReason.TheVariants.{ElementWords}
use Rattle.capnp_pointers.specs.declared.pointers.canonical_fault.CanonicalFaultReason.TheVariants.{ElementData}
use Rattle.capnp_pointers.specs.declared.pointers.canonical_fault.CanonicalFaultReason.TheVariants.{ElementPointers}
use Rattle.capnp_pointers.specs.declared.pointers.canonical_fault.CanonicalFaultReason.TheVariants.{WordsBehind}
use Rattle.capnp_canonical.specs.declared.refusal.Refusal.{Refusal}
use Rattle.capnp_canonical.specs.declared.refusal.Refusal.TheVariants.{NoRoom, NoMessage}
use Rattle.capnp_canonical.specs.declared.refusal.Refusal.TheVariants.{SegmentIsNotWholeWords}
use Rattle.capnp_canonical.specs.declared.refusal.Refusal.TheVariants.{Frame, Layout}

-- The number of a refusal; 0 means no refusal.
abbrev pub answer_number : Refusal → ℕ
answer_number (NoRoom _) = no_room_number
answer_number NoMessage = no_message_number
answer_number SegmentIsNotWholeWords = 3
answer_number (Frame e) = frame_error_number e
answer_number (Layout k) = error_number k

-- The name of a refusal.
abbrev pub answer_name : Refusal → List ℕ
answer_name (NoRoom _) = codes "NoRoom"
answer_name NoMessage = codes "NoMessage"
answer_name SegmentIsNotWholeWords = codes "SegmentIsNotWholeWords"
answer_name (Frame e) = frame_error_name e
answer_name (Layout k) = name_of k

-- The number of bytes that are needed, if there is too little room.
abbrev pub wanted_room : Refusal → ℕ
wanted_room (NoRoom size) = size
wanted_room _ = 0

-- The number of a reason; 0 means no reason.
abbrev pub reason_number : CanonicalFaultReason → ℕ
reason_number SegmentCount = 1
reason_number NoPointer = 2
reason_number FarPointer = 3
reason_number Capability = 4
reason_number UnknownPointer = 5
reason_number EmptyStructPlace = 6
reason_number ObjectPlace = 7
reason_number Padding = 8
reason_number DataSection = 9
reason_number PointerSection = 10
reason_number ElementWords = 11
reason_number ElementData = 12
reason_number ElementPointers = 13
reason_number WordsBehind = 14
