-- The table of a schema: what each of its words says. A word past the end of the table is 0.
use Rattle.std.specs.Prelude.{ℕ, zero, suc, ◌+◌, ◌-◌, ◌*◌, ◌/◌, ◌%◌, Bool, true, false, ◌&&◌, nat_eq}
use Rattle.std.specs.Prelude.{nat_le, nat_lt, if◌then◌else◌, List, [], ◌∷◌, length, slice_index, Option, Some, None}
use Rattle.capnp_format.specs.Fields.{field_in}
use Rattle.capnp_words.specs.declared.wire_pointer.ElementSize.{ElementSize}
use Rattle.capnp_words.specs.declared.wire_pointer.ElementSize.TheVariants.{Void, Bit, Byte, TwoBytes}
use Rattle.capnp_words.specs.declared.wire_pointer.ElementSize.TheVariants.{FourBytes, EightBytes, Pointer}
use Rattle.capnp_words.specs.declared.wire_pointer.ElementSize.TheVariants.{InlineComposite}
use Rattle.typed_conforming.specs.declared.schema.Kind.{Kind}
use Rattle.typed_conforming.specs.declared.schema.Kind.TheVariants.{Any, AnyList, Capability, Text, Utf8}
use Rattle.typed_conforming.specs.declared.schema.Kind.TheVariants.{Data, Struct, List as ListKind}

-- The element size with this number ("Lists").
abbrev pub size_of_number : ℕ → ElementSize
size_of_number n =
    if nat_eq n 0 then Void else if nat_eq n 1 then Bit else if nat_eq n 2 then Byte
    else if nat_eq n 3 then TwoBytes else if nat_eq n 4 then FourBytes
    else if nat_eq n 5 then EightBytes else if nat_eq n 6 then Pointer else InlineComposite

-- The kind that a kind word with the tag t and the argument a says: any, if it names a test.
abbrev pub tagged_kind : ℕ → ℕ → Kind
tagged_kind t a =
    if nat_eq t 1 then Capability else if nat_eq t 2 then Text else if nat_eq t 3 then Utf8
    else if nat_eq t 4 then Data else if nat_eq t 5 then Struct a else if nat_eq t 6 then AnyList
    else if nat_le 8 t then ListKind (size_of_number (t - 8)) a else Any

-- The same by the word: its tag is its low four bits.
abbrev pub word_kind : ℕ → Kind
word_kind w = tagged_kind (w % 16) (w / 16)

-- Whether the kind word w names a test at position p or after it.
abbrev pub names_test : ℕ → ℕ → Bool
names_test p w = nat_eq (w % 16) 7 && nat_le p (w / 16)

-- Whether the test at position v of the table T says yes for the data words ws: the 16 bits that it
-- reads are its number.
abbrev pub is_set : List ℕ → List ℕ → ℕ → Bool
is_set T ws v = nat_eq (field_in ws (16 * slice_index T v) 16) (slice_index T (v + 1))

-- The kind word that the test at position v leads to.
abbrev pub next_word : List ℕ → List ℕ → ℕ → ℕ
next_word T ws v =
    if is_set T ws v then slice_index T (v + 2) else slice_index T (v + 3)

-- The kind that the kind word w says in a struct with the data words ws. Tests are followed from
-- position p on, each after the one that names it, and at most n of them.
abbrev pub tested_kind : List ℕ → List ℕ → ℕ → ℕ → ℕ → Kind
tested_kind T ws zero p w = word_kind w
tested_kind T ws (suc n) p w =
    elim (names_test p w) [
      | false ↦ word_kind w
      | true ↦
          elim (is_set T ws (w / 16)) [
            | true ↦ tested_kind T ws n (suc (w / 16)) (slice_index T (w / 16 + 2))
            | false ↦ tested_kind T ws n (suc (w / 16)) (slice_index T (w / 16 + 3))
          ]
    ]

-- The kind word of pointer i of a row; 0 if the row doesn't have that pointer.
abbrev pub kind_word : List ℕ → ℕ → ℕ → ℕ
kind_word T row i = if nat_lt i (slice_index T row) then slice_index T (row + 1 + i) else 0

-- What pointer i of a struct with the data words ws may lead to, if the struct has this row of a
-- table: anything, if the table is empty. There are no more tests to follow than words.
abbrev pub wanted : List ℕ → ℕ → List ℕ → ℕ → Kind
wanted [] row ws i = Any
wanted (w ∷ T) row ws i =
    tested_kind (w ∷ T) ws (length (w ∷ T)) 0 (kind_word (w ∷ T) row i)

-- The row of what a pointer of this kind leads to: of a struct, or of each element of a list; 0 for
-- other kinds.
abbrev pub row_below : Kind → ℕ
row_below (Struct row) = row
row_below (ListKind size row) = row
row_below k = 0

-- The table of what a pointer of this kind leads to: T, or an empty one if the kind has no row.
abbrev pub table_below : List ℕ → Kind → List ℕ
table_below T (Struct row) = T
table_below T (ListKind size row) = T
table_below T k = []

-- The size that the elements of a list of this kind have to have, if it is one.
abbrev pub elements_wanted : Kind → Option ElementSize
elements_wanted (ListKind size row) = Some size
elements_wanted k = None

-- Whether a pointer of this kind leads to a text.
abbrev pub is_text_kind : Kind → Bool
is_text_kind Text = true
is_text_kind Utf8 = true
is_text_kind k = false
