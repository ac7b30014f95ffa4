-- The task of an operation is in range.
use Rattle.std.proofs.Common.{◌≡◌, Bool, true, false, cond, if◌then◌else◌, Option, Some, None, refl, subst}
use Rattle.capnp_words.specs.declared.wire_pointer.ElementSize.TheVariants.{Bit, Byte}
use Rattle.capnp_edits.specs.declared.edit.Op.{Op}
use Rattle.capnp_edits.specs.declared.edit.Op.TheVariants.{InitStruct, InitList, InitStructList, InitText, InitData, SetText, SetData, SetCapability, Clear, SetField, SetBool, SetElement, WriteText, WriteData, GetStruct, GetList, GetStructList, GetText, GetData, CopyFrom, SetStruct, SetList, CopyContent}
use Rattle.capnp_edits.specs.declared.edit.copying.Wanted.TheVariants.{Value, Struct as AStruct, List as AList}
use Rattle.capnp_edits.specs.declared.edit.tasks.Task.{Task}
use Rattle.capnp_edits.specs.declared.edit.tasks.Task.TheVariants.{Make, Point, InStruct, Write, Search, CopyRoot}
use Rattle.capnp_edits.specs.declared.edit.tasks.NewObject.TheVariants.{ZeroStruct, ZeroList, ZeroStructs, ZeroText, Text, Data}
use Rattle.capnp_edits.specs.declared.edit.tasks.StructChange.TheVariants.{Bits, Content}
use Rattle.capnp_edits.specs.declared.edit.tasks.Part.TheVariants.{ListElement, TextByte, DataByte}
use Rattle.capnp_edits.specs.declared.edit.tasks.Sought.TheVariants.{Struct as ForStruct, List as ForList, StructList as ForStructs, Text as ForText, Data as ForData}
use Rattle.capnp_edits.specs.Tasks.{is_in_range, task_of}
use Rattle.capnp_edits.proofs.Steps.{same_some}

-- A task, if its numbers are in range.
abbrev pub if_in_range : Task → Option Task
if_in_range task = if is_in_range task then Some task else None

picked : (task t : Task) → if_in_range task ≡ Some t → is_in_range t ≡ true
picked task t e = go (is_in_range task) refl e
  where
    go : (b : Bool) → is_in_range task ≡ b → cond b (Some task) None ≡ Some t → is_in_range t ≡ true
    go true is e = subst (λ x. is_in_range x ≡ true) (same_some task t e) is
    go false is e = absurd (cc)

pub task_in_range : (op : Op) (t : Task) → task_of op ≡ Some t → is_in_range t ≡ true
task_in_range (InitStruct size) t e = picked (Make (ZeroStruct size)) t e
task_in_range (InitList size n) t e = picked (Make (ZeroList size n)) t e
task_in_range (InitStructList n size) t e = picked (Make (ZeroStructs n size)) t e
task_in_range (InitText n) t e = picked (Make (ZeroText n)) t e
task_in_range (InitData n) t e = picked (Make (ZeroList Byte n)) t e
task_in_range (SetText bytes) t e = picked (Make (Text bytes)) t e
task_in_range (SetData bytes) t e = picked (Make (Data bytes)) t e
task_in_range (SetCapability i) t e = picked (Point (Some i)) t e
task_in_range Clear t e = picked (Point None) t e
task_in_range (SetField Bit i v) t e = absurd (cc)
task_in_range (SetField size i v) t e = picked (InStruct (Bits (record { size = size; index = i; value = v }))) t e
task_in_range (SetBool i b) t e = picked (InStruct (Bits (record { size = Bit; index = i; value = cond b 1 0 }))) t e
task_in_range (SetElement size i v) t e = picked (Write (ListElement (record { size = size; index = i; value = v }))) t e
task_in_range (WriteText i b) t e = picked (Write (TextByte i b)) t e
task_in_range (WriteData i b) t e = picked (Write (DataByte i b)) t e
task_in_range (GetStruct size default) t e = picked (Search (ForStruct size) default) t e
task_in_range (GetList size default) t e = picked (Search (ForList size) default) t e
task_in_range (GetStructList size default) t e = picked (Search (ForStructs size) default) t e
task_in_range (GetText default) t e = picked (Search ForText default) t e
task_in_range (GetData default) t e = picked (Search ForData default) t e
task_in_range (CopyFrom source b) t e = picked (CopyRoot (record { source = source; wanted = Value; canonicalize = b })) t e
task_in_range (SetStruct source b) t e = picked (CopyRoot (record { source = source; wanted = AStruct; canonicalize = b })) t e
task_in_range (SetList source b) t e = picked (CopyRoot (record { source = source; wanted = AList; canonicalize = b })) t e
task_in_range (CopyContent source) t e = picked (InStruct (Content source)) t e
