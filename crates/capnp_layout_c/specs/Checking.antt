-- What a message that is checked against a schema has, and the pointer for which one is refused.
use Rattle.std.specs.Prelude.{◌≡◌, ℕ, ℤ, ◌+◌, List, Option, Some, None, Ok, Err, Result}
use Rattle.std.specs.Borrow.{Bor}
use Rattle.capnp_words.specs.Meter.{FitsIn, Meter, unused}
use Rattle.capnp_words.specs.declared.error.ErrorKind.{ErrorKind}
use Rattle.capnp_format.specs.Means.{Means}
use Rattle.capnp_format.specs.Segments.{Segments}
use Rattle.capnp_format.specs.Tree.{Tree}
use Rattle.capnp_arena.specs.declared.arena.reader_arena_impl.ReaderOptions.{ReaderOptions}
use Rattle.capnp_pointers.specs.declared.object.Expected.{Expected}
use Rattle.capnp_pointers.specs.declared.object.Expected.TheVariants.{Struct as ExpectsStruct, List as ExpectsList}
use Rattle.capnp_pointers.specs.declared.object.Expected.TheVariants.{Text as ExpectsText, Data as ExpectsData}
use Rattle.capnp_pointers.specs.Reading.{Reading}
use Rattle.capnp_pointers.specs.Source.{levels}
use Rattle.capnp_messages.specs.Roots.{CoversRoot, read_message_root}
use Rattle.capnp_numbers.specs.Numbers.{error_number}
use Rattle.typed_conforming.specs.Conforms.{Conforms}
use Rattle.typed_conforming.specs.Walk.{TestOutcome, check_place, rowless_pointer}
use Rattle.typed_conforming.specs.declared.schema.Misfit.{Misfit}
use Rattle.typed_conforming.specs.declared.schema.Kind.{Kind}
use Rattle.typed_conforming.specs.declared.schema.Kind.TheVariants.{Struct, Text, Utf8, Data, List as ListKind}
use Rattle.capnp_layout_c.specs.Lent.{left_over, lent}
use Rattle.capnp_layout_c.specs.declared.checking.FoundMisfit.{FoundMisfit}

-- The root of S means a value within the nesting limit that conforms to a row of the table T. The
-- traversal limit covers what reading the value costs, and one word for the root pointer.
pub record ConformsWithin (T : List ℕ) (row : ℕ) (S : Segments) (limits : ReaderOptions) : Type 0 where
  pub root : CoversRoot S limits.traversal_limit_in_words
  pub value : Tree
  pub cost : ℕ
  pub means : Means S (levels limits.nesting_limit) 0 0 value cost
  pub conforms : Conforms T (Struct row) value
  pub covered : FitsIn limits.traversal_limit_in_words (1 + cost)

-- The test of the value of a message, once its root pointer was read. One that isn't read is at word 0.
abbrev pub check_from : List ℕ → ℕ → Result Reading ErrorKind × Meter → TestOutcome
check_from T row (Ok r, m) = check_place T (rowless_pointer (Struct row)) r m
check_from T row (Err e, m) =
    (Err (record { error = e; segment = 0; word = 0; row = 0; index = 0 }), m)

-- The test of the message S against a row of the table T, within n levels.
abbrev pub check_message : List ℕ → ℕ → Segments → ℕ → Meter → TestOutcome
check_message T row S n m = check_from T row (read_message_root S n m)

-- The message doesn't conform to this row of the table, for the error of this number, which is that of
-- the pointer that `found` names. The words left go from `old` to `new`.
pub record IsMessageMisfit (T : List ℕ) (row : ℕ) (list : List (Bor (List ℕ))) (nesting : ℤ)
    (old new : ℕ) (found : FoundMisfit) (number : ℕ) : Type 0 where
  pub misfit : Misfit
  pub left : Meter
  pub refused : check_message T row (lent list) (levels nesting) (unused (Some old)) ≡ (Err misfit, left)
  pub numbered : number ≡ error_number misfit.error
  pub leaves : new ≡ left_over old left.left
  pub segment_is : found.segment ≡ misfit.segment
  pub word_is : found.word ≡ misfit.word
  pub row_is : found.row ≡ misfit.row
  pub index_is : found.index ≡ misfit.index

-- No pointer is named.
abbrev pub IsNowhere : FoundMisfit → Type 0
IsNowhere m = (m.segment ≡ 0) × (m.word ≡ 0) × (m.row ≡ 0) × (m.index ≡ 0)

-- What the call expects that reads a pointer of this kind; none if there is no one such call.
abbrev pub call_for : Kind → Option Expected
call_for (Struct row) = Some ExpectsStruct
call_for (ListKind size row) = Some (ExpectsList size)
call_for Text = Some ExpectsText
call_for Utf8 = Some ExpectsText
call_for Data = Some ExpectsData
call_for kind = None
