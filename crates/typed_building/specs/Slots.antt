-- What a struct has once parts of it are zero.
use Rattle.std.specs.Prelude.{ℕ, ◌<◌, List, [], ◌∷◌, ⊤}
use Rattle.capnp_format.specs.Path.{put_tree}
use Rattle.capnp_format.specs.Tree.{Null, Trees}
use Rattle.capnp_allocation.specs.Stored.{IsReplaced}
use Rattle.capnp_readers.specs.Sections.{IsInside}
use Rattle.capnp_readers.specs.declared.readers.struct_reader.StructPlace.{StructPlace}
use Rattle.capnp_builders.specs.Held.{CallIn, HasStruct, Holder, held_tree}
use Rattle.capnp_builders.specs.Places.{field, number_field}
use Rattle.typed_building.specs.Members.{tag_field, with_data}
use Rattle.typed_building.specs.declared.slots.Slot.{Slot}
use Rattle.typed_building.specs.declared.tag.UnionTag.{UnionTag}
use Rattle.typed_building.specs.declared.slots.Slot.TheVariants.{Bit, Byte, TwoBytes, FourBytes, EightBytes, Pointer}

-- The part is inside a struct of this place.
abbrev pub HoldsSlot : StructPlace → Slot → Type 0
HoldsSlot place (Bit i) = i < place.bits
HoldsSlot place (Byte i) = IsInside place.bits 8 i
HoldsSlot place (TwoBytes i) = IsInside place.bits 16 i
HoldsSlot place (FourBytes i) = IsInside place.bits 32 i
HoldsSlot place (EightBytes i) = IsInside place.bits 64 i
HoldsSlot place (Pointer i) = i < place.pointers

-- Each of these parts is inside a struct of this place.
abbrev pub HoldsSlots : StructPlace → List Slot → Type 0
HoldsSlots place [] = ⊤
HoldsSlots place (slot ∷ slots) = HoldsSlot place slot × HoldsSlots place slots

-- The data words ws, once a part is zero.
abbrev pub zero_data : List ℕ → Slot → List ℕ
zero_data ws (Bit i) = with_data ws (field i 1 0)
zero_data ws (Byte i) = with_data ws (number_field 1 i 0)
zero_data ws (TwoBytes i) = with_data ws (number_field 2 i 0)
zero_data ws (FourBytes i) = with_data ws (number_field 4 i 0)
zero_data ws (EightBytes i) = with_data ws (number_field 8 i 0)
zero_data ws (Pointer i) = ws

-- The children ts, once a part is null.
abbrev pub null_child : Trees → Slot → Trees
null_child ts (Pointer i) = put_tree ts i Null
null_child ts slot = ts

-- The same for several parts, in their order.
abbrev pub zero_all_data : List ℕ → List Slot → List ℕ
zero_all_data ws [] = ws
zero_all_data ws (slot ∷ slots) = zero_all_data (zero_data ws slot) slots

abbrev pub null_children : Trees → List Slot → Trees
null_children ts [] = ts
null_children ts (slot ∷ slots) = null_children (null_child ts slot) slots

-- The call makes these parts of the struct zero or null. This holds for each struct that the place
-- may have before.
abbrev pub ZeroesSlots : CallIn → List Slot → Type 0
ZeroesSlots c slots =
    (x : Holder) (ws : List ℕ) (ts : Trees) → HasStruct c.old x c.place ws ts →
    HasStruct c.new x c.place (zero_all_data ws slots) (null_children ts slots)

-- The call makes these parts of the struct zero or null, and changes nothing else of the message.
abbrev pub ReplacesSlots : CallIn → List Slot → Type 0
ReplacesSlots c slots =
    (x : Holder) (ws : List ℕ) (ts : Trees) → HasStruct c.old x c.place ws ts →
    IsReplaced c.old c.new x.segment x.at (held_tree x.lead ws ts)
    (held_tree x.lead (zero_all_data ws slots) (null_children ts slots))

-- The call writes the tag of a union, and makes these parts of the struct zero or null.
abbrev pub BeginsGroup : CallIn → UnionTag → List Slot → Type 0
BeginsGroup c tag slots =
    (x : Holder) (ws : List ℕ) (ts : Trees) → HasStruct c.old x c.place ws ts →
    HasStruct c.new x c.place (zero_all_data (with_data ws (tag_field tag)) slots)
    (null_children ts slots)

-- The call writes the tag, makes these parts zero or null, and changes nothing else of the message.
abbrev pub ReplacesGroup : CallIn → UnionTag → List Slot → Type 0
ReplacesGroup c tag slots =
    (x : Holder) (ws : List ℕ) (ts : Trees) → HasStruct c.old x c.place ws ts →
    IsReplaced c.old c.new x.segment x.at (held_tree x.lead ws ts)
    (held_tree x.lead (zero_all_data (with_data ws (tag_field tag)) slots) (null_children ts slots))
