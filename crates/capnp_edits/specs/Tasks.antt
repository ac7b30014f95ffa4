-- Operations, sorted by what they do.
use Rattle.std.specs.Prelude.{ℕ, ◌+◌, ◌*◌, ◌/◌, ◌^◌, Bool, true, if◌then◌else◌, ◌&&◌, nat_le}
use Rattle.std.specs.Prelude.{nat_lt, List, length, Option, Some, None}
use Rattle.std.specs.Borrow.{Bor}
use Rattle.capnp_words.specs.Sizes.{size_number}
use Rattle.capnp_words.specs.declared.wire_pointer.ElementSize.{ElementSize}
use Rattle.capnp_words.specs.declared.wire_pointer.ElementSize.TheVariants.{Bit, Byte}
use Rattle.capnp_format.specs.Numbers.{element_bits}
use Rattle.capnp_edits.specs.declared.edit.Op.{Op}
use Rattle.capnp_edits.specs.declared.edit.Op.TheVariants.{InitStruct, InitList, InitStructList}
use Rattle.capnp_edits.specs.declared.edit.Op.TheVariants.{InitText, InitData, SetText, SetData}
use Rattle.capnp_edits.specs.declared.edit.Op.TheVariants.{SetCapability, Clear, SetField, SetBool}
use Rattle.capnp_edits.specs.declared.edit.Op.TheVariants.{SetElement, WriteText, WriteData}
use Rattle.capnp_edits.specs.declared.edit.Op.TheVariants.{GetStruct, GetList, GetStructList}
use Rattle.capnp_edits.specs.declared.edit.Op.TheVariants.{GetText, GetData, CopyFrom, SetStruct}
use Rattle.capnp_edits.specs.declared.edit.Op.TheVariants.{SetList, CopyContent}
use Rattle.capnp_edits.specs.declared.edit.copying.Wanted.TheVariants.{Value, Struct as AStruct}
use Rattle.capnp_edits.specs.declared.edit.copying.Wanted.TheVariants.{List as AList}
use Rattle.capnp_edits.specs.declared.edit.tasks.Task.{Task}
use Rattle.capnp_edits.specs.declared.edit.tasks.Task.TheVariants.{Make, Point, InStruct, Write}
use Rattle.capnp_edits.specs.declared.edit.tasks.Task.TheVariants.{Search, CopyRoot}
use Rattle.capnp_edits.specs.declared.edit.tasks.NewObject.TheVariants.{ZeroStruct, ZeroList}
use Rattle.capnp_edits.specs.declared.edit.tasks.NewObject.TheVariants.{ZeroStructs, ZeroText, Text}
use Rattle.capnp_edits.specs.declared.edit.tasks.NewObject.TheVariants.{Data}
use Rattle.capnp_edits.specs.declared.edit.tasks.StructChange.TheVariants.{Bits, Content}
use Rattle.capnp_edits.specs.declared.edit.tasks.Part.TheVariants.{ListElement, TextByte, DataByte}
use Rattle.capnp_edits.specs.declared.edit.tasks.Sought.TheVariants.{Struct as ForStruct}
use Rattle.capnp_edits.specs.declared.edit.tasks.Sought.TheVariants.{List as ForList}
use Rattle.capnp_edits.specs.declared.edit.tasks.Sought.TheVariants.{StructList as ForStructs}
use Rattle.capnp_edits.specs.declared.edit.tasks.Sought.TheVariants.{Text as ForText}
use Rattle.capnp_edits.specs.declared.edit.tasks.Sought.TheVariants.{Data as ForData}

-- The number v of this size is a bit, or a number of 1, 2, 4 or 8 bytes, and has no more bits than
-- the size.
abbrev pub is_number : ElementSize → ℕ → Bool
is_number size v =
    let n = size_number size in nat_le 1 n && nat_le n 5 && nat_lt v (2 ^ element_bits n)

-- A default has fewer than 2^32 words.
abbrev pub is_small_default : Option (Bor (List ℕ)) → Bool
is_small_default (Some default) = nat_lt (length default.now / 8) (2 ^ 32)
is_small_default None = true

-- The numbers of a task are in range: a pointer can lead to such an object, or a field or element
-- can hold such a number; and its default is small.
abbrev pub is_in_range : Task → Bool
is_in_range (Make (ZeroList size n)) = nat_le (size_number size) 6 && nat_lt n (2 ^ 29)
is_in_range (Make (ZeroStructs n size)) =
    nat_lt n (2 ^ 30) && nat_lt (n * (size.data_words + size.pointers)) (2 ^ 29)
is_in_range (Make (ZeroText n)) = nat_lt (n + 1) (2 ^ 29)
is_in_range (Make (Text bytes)) = nat_lt (length bytes.now + 1) (2 ^ 29)
is_in_range (Make (Data bytes)) = nat_lt (length bytes.now) (2 ^ 29)
is_in_range (InStruct (Bits n)) = is_number n.size n.value
is_in_range (Write (ListElement n)) = is_number n.size n.value
is_in_range (Search (ForList size) default) = nat_le (size_number size) 6 && is_small_default default
is_in_range (Search sought default) = is_small_default default
is_in_range task = true

-- What an operation does.
abbrev pub as_task : Op → Task
as_task (InitStruct size) = Make (ZeroStruct size)
as_task (InitList size n) = Make (ZeroList size n)
as_task (InitStructList n size) = Make (ZeroStructs n size)
as_task (InitText n) = Make (ZeroText n)
as_task (InitData n) = Make (ZeroList Byte n)
as_task (SetText bytes) = Make (Text bytes)
as_task (SetData bytes) = Make (Data bytes)
as_task (SetCapability i) = Point (Some i)
as_task Clear = Point None
as_task (SetField size i v) = InStruct (Bits (record { size = size; index = i; value = v }))
as_task (SetBool i b) = InStruct (Bits (record { size = Bit; index = i; value = if b then 1 else 0 }))
as_task (SetElement size i v) = Write (ListElement (record { size = size; index = i; value = v }))
as_task (WriteText i b) = Write (TextByte i b)
as_task (WriteData i b) = Write (DataByte i b)
as_task (GetStruct size default) = Search (ForStruct size) default
as_task (GetList size default) = Search (ForList size) default
as_task (GetStructList size default) = Search (ForStructs size) default
as_task (GetText default) = Search ForText default
as_task (GetData default) = Search ForData default
as_task (CopyFrom source canonicalize) =
    CopyRoot (record { source = source; wanted = Value; canonicalize = canonicalize })
as_task (SetStruct source canonicalize) =
    CopyRoot (record { source = source; wanted = AStruct; canonicalize = canonicalize })
as_task (SetList source canonicalize) =
    CopyRoot (record { source = source; wanted = AList; canonicalize = canonicalize })
as_task (CopyContent source) = InStruct (Content source)

-- What an operation does, if its numbers are in range. `SetField` has no task for a bit, which has
-- an operation of its own.
abbrev pub task_of : Op → Option Task
task_of (SetField Bit i v) = None
task_of op = if is_in_range (as_task op) then Some (as_task op) else None
