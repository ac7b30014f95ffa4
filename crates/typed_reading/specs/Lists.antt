-- What reading the list that a pointer of a struct leads to returns and charges.
use Rattle.std.specs.Prelude.{◌≡◌, ◌≢◌, ℕ, ◌-◌, List, IfOk, IsOk, Result}
use Rattle.std.specs.Result.{result_err}
use Rattle.capnp_format.specs.Tree.{Tree, Null}
use Rattle.capnp_words.specs.Meter.{Meter, Affords}
use Rattle.capnp_words.specs.declared.error.ErrorKind.{ErrorKind}
use Rattle.capnp_words.specs.declared.wire_pointer.ElementSize.{ElementSize}
use Rattle.capnp_arena_traits.specs.declared.arena.reader_arena.ReaderArena.{Ghosts}
use Rattle.capnp_pointers.specs.Expected.{list_expected}
use Rattle.capnp_pointers.specs.Reading.{source_start}
use Rattle.capnp_pointers.specs.Spending.{Paid}
use Rattle.capnp_readers.specs.Values.{FitsSize, ShowsListOf, ShowsStructOf, StaysIn, child_cost}
use Rattle.capnp_readers.specs.declared.readers.list_reader.ListReader.{ListReader}
use Rattle.capnp_readers.specs.declared.readers.struct_reader.StructReader.{StructReader}
use Rattle.typed_reading.specs.Outcomes.{default_outcome, reading_outcome}
use Rattle.typed_reading.specs.Sections.{pointer_field}
use Rattle.typed_reading.specs.Values.{IsDefault, child}

module _ {A : Type 0} (g : Ghosts A) where
  -- A call that follows a pointer of a struct: the struct, the number of the pointer, and the
  -- limiter before and after the call.
  pub record FieldCall : Type 0 where
    pub reader : StructReader A g
    pub index : ℕ
    pub old : Meter
    pub new : Meter

  abbrev pub field_call : StructReader A g → ℕ → Meter → Meter → FieldCall
  field_call reader index old new =
      record { reader = reader; index = index; old = old; new = new }

  -- The call, with this result, reads the list that the pointer leads to; a list without elements
  -- if the pointer is null. `size` is the size that is expected of the elements, and `list_of` says
  -- which part of what is returned is the list.
  pub record GetsList {R : Type 0} (c : FieldCall) (size : ElementSize)
      (result : Result R ErrorKind) (list_of : R → ListReader A g) : Type 0 where
    pub value : (t : Tree) → ShowsStructOf g c.reader t
        → IfOk result (λ r. ShowsListOf g (list_of r) (child c.index t))
    pub answered : (t : Tree) (shows : ShowsStructOf g c.reader t)
        → FitsSize size (child c.index t)
        → Affords (source_start g c.reader.source).charging c.old (child_cost g shows c.index)
        → IsOk result
    pub spent : (t : Tree) (shows : ShowsStructOf g c.reader t) → child c.index t ≢ Null
        → IfOk result (λ r. (inner : ShowsListOf g (list_of r) (child c.index t))
        → Paid (source_start g c.reader.source).charging c.old c.new
        (child_cost g shows c.index - inner.cost) 1)
    pub stays : IfOk result (λ r. StaysIn (source_start g c.reader.source)
        (source_start g (list_of r).source))
    pub left : (t : Tree) (shows : ShowsStructOf g c.reader t)
        → Affords (source_start g c.reader.source).charging c.old (child_cost g shows c.index)
        → IfOk result (λ r. (inner : ShowsListOf g (list_of r) (child c.index t))
        → Affords (source_start g (list_of r).source).charging c.new inner.cost)
    pub exactly : reading_outcome (list_expected size) (pointer_field g c.reader c.index) c.old
        ≡ (result_err result, c.new)

  -- Likewise for a field with a default: if the pointer is null, the call reads the list in
  -- `bytes`. Reading that charges nothing.
  pub record GetsListOr {R : Type 0} (c : FieldCall) (bytes : List ℕ) (size : ElementSize)
      (result : Result R ErrorKind) (list_of : R → ListReader A g) : Type 0 where
    pub value : (t : Tree) → ShowsStructOf g c.reader t → child c.index t ≢ Null
        → IfOk result (λ r. ShowsListOf g (list_of r) (child c.index t))
    pub default : (t d : Tree) → ShowsStructOf g c.reader t → child c.index t ≡ Null
        → IsDefault bytes d → IfOk result (λ r. ShowsListOf g (list_of r) d)
    pub answered : (t : Tree) (shows : ShowsStructOf g c.reader t) → child c.index t ≢ Null
        → FitsSize size (child c.index t)
        → Affords (source_start g c.reader.source).charging c.old (child_cost g shows c.index)
        → IsOk result
    pub default_answered : (t d : Tree) → ShowsStructOf g c.reader t → child c.index t ≡ Null
        → IsDefault bytes d → FitsSize size d → IsOk result
    pub exactly : default_outcome (list_expected size) bytes (pointer_field g c.reader c.index)
        c.old ≡ (result_err result, c.new)
