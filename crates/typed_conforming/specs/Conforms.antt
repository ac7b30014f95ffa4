-- Whether a value conforms to a schema.
use Rattle.std.specs.Prelude.{◌≡◌, ℕ, suc, true, List, [], ⊤}
use Rattle.std.specs.Str.{is_utf8}
use Rattle.capnp_format.specs.Tree.{Tree, Null, Capability, Struct, Flat, Pointers, Structs, Trees}
use Rattle.capnp_format.specs.Tree.{no_trees, tree, Elements, no_elements, element}
use Rattle.capnp_readers.specs.Values.{FitsSize, IsBytes, IsStructOrNull, IsText, text_bytes}
use Rattle.typed_conforming.specs.declared.schema.Kind.{Kind}
use Rattle.typed_conforming.specs.declared.schema.Kind.TheVariants.{Any, AnyList, Text, Utf8, Data}
use Rattle.typed_conforming.specs.declared.schema.Kind.TheVariants.{Capability as CapabilityKind}
use Rattle.typed_conforming.specs.declared.schema.Kind.TheVariants.{Struct as StructKind, List as ListKind}
use Rattle.typed_conforming.specs.Tables.{row_below, table_below, wanted}

-- The value is a capability, or null.
abbrev pub IsCapabilityOrNull : Tree → Type 0
IsCapabilityOrNull Null = ⊤
IsCapabilityOrNull (Capability i) = ⊤
IsCapabilityOrNull t = ⊥

-- The value is a list of any elements, or null.
abbrev pub IsListOrNull : Tree → Type 0
IsListOrNull Null = ⊤
IsListOrNull (Flat size ns) = ⊤
IsListOrNull (Pointers ts) = ⊤
IsListOrNull (Structs d q es) = ⊤
IsListOrNull t = ⊥

-- The value itself is what a pointer of this kind may lead to: what the getter of the kind accepts.
abbrev pub IsOfKind : Kind → Tree → Type 0
IsOfKind Any t = ⊤
IsOfKind CapabilityKind t = IsCapabilityOrNull t
IsOfKind Text t = IsText t
IsOfKind Utf8 t = IsText t × (is_utf8 (text_bytes t) ≡ true)
IsOfKind Data t = IsBytes t
IsOfKind (StructKind row) t = IsStructOrNull t
IsOfKind AnyList t = IsListOrNull t
IsOfKind (ListKind size row) t = FitsSize size t

-- The value conforms to the schema with the table T: it is what a pointer of kind k may lead to, and
-- so are all of its parts. Null always conforms. A struct, and an element of a list of structs, may
-- have shorter and longer sections than the schema's. A pointer of a list is read as a struct with
-- one pointer.
abbrev mutual
  pub Conforms : List ℕ → Kind → Tree → Type 0
  Conforms T k (Struct ws ts) =
      IsOfKind k (Struct ws ts) × ConformAll (table_below T k) (row_below k) ws 0 ts
  Conforms T k (Pointers ts) =
      IsOfKind k (Pointers ts) × ConformEach (table_below T k) (row_below k) ts
  Conforms T k (Structs d q es) =
      IsOfKind k (Structs d q es) × ConformElements (table_below T k) (row_below k) es
  Conforms T k t = IsOfKind k t

  -- The children of a struct of this row with the data words ws, from index i on.
  pub ConformAll : List ℕ → ℕ → List ℕ → ℕ → Trees → Type 0
  ConformAll T row ws i no_trees = ⊤
  ConformAll T row ws i (tree t ts) =
      Conforms T (wanted T row ws i) t × ConformAll T row ws (suc i) ts

  -- The children of a list of pointers, whose elements have this row.
  pub ConformEach : List ℕ → ℕ → Trees → Type 0
  ConformEach T row no_trees = ⊤
  ConformEach T row (tree t ts) = Conforms T (wanted T row [] 0) t × ConformEach T row ts

  -- The elements of a list of structs, which have this row.
  pub ConformElements : List ℕ → ℕ → Elements → Type 0
  ConformElements T row no_elements = ⊤
  ConformElements T row (element ws ts es) =
      ConformAll T row ws 0 ts × ConformElements T row es
