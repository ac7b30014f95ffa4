-- The structs and lists of a message being built, by the pointers that lead to them, and what calls
-- at their places do to their values ("Structs", "Lists").
use Rattle.std.specs.Prelude.{◌≡◌, ℕ, ◌+◌, ◌*◌, ◌<◌, List, length, ⊤, OnErr, OnOk, Result}
use Rattle.capnp_format.specs.Forest.{target}
use Rattle.capnp_format.specs.Segments.{Segments}
use Rattle.capnp_format.specs.Tree.{Tree, Null, Struct, Flat, Pointers, Structs, Trees, Elements, count, element_count}
use Rattle.capnp_format.specs.Fields.{put_field}
use Rattle.capnp_format.specs.Path.{put_tree, put_struct}
use Rattle.capnp_allocation.specs.Stored.{IsStored, IsReplaced}
use Rattle.capnp_words.specs.Sizes.{size_number, sized}
use Rattle.capnp_words.specs.declared.error.ErrorKind.{ErrorKind}
use Rattle.capnp_words.specs.declared.wire_pointer.StructSize.{StructSize}
use Rattle.capnp_in_place.specs.Existing.{plain_list}
use Rattle.capnp_in_place.specs.declared.existing.ExistingStruct.{ExistingStruct}
use Rattle.capnp_readers.specs.declared.readers.list_reader.ListPlace.{ListPlace}
use Rattle.capnp_readers.specs.declared.readers.struct_reader.StructPlace.{StructPlace}
use Rattle.capnp_builders.specs.Places.{Field, list_place, struct_place}

-- How a pointer leads to a struct: directly, or through a list of structs that has the struct as
-- its element i. The elements of that list have d data words and q pointers; all but element i are
-- those of es.
pub data Lead : Type 0 where
  directly : Lead
  as_element : ℕ → ℕ → Elements → ℕ → Lead

-- A pointer that leads to a struct: its segment and word, and how it leads there.
pub record Holder : Type 0 where
  pub segment : ℕ
  pub at : ℕ
  pub lead : Lead

-- The holder of a struct that the pointer at (s, p) leads to directly.
abbrev pub pointer_to : ℕ → ℕ → Holder
pointer_to s p = record { segment = s; at = p; lead = directly }

-- The holder of element i of the list of structs that the pointer at (s, p) leads to.
abbrev pub element_of : ℕ → ℕ → StructSize → Elements → ℕ → Holder
element_of s p size es i =
    record { segment = s; at = p; lead = as_element size.data_words size.pointers es i }

-- The value of the pointer, if the struct has these data words and children.
abbrev pub held_tree : Lead → List ℕ → Trees → Tree
held_tree directly ws ts = Struct ws ts
held_tree (as_element d q es i) ws ts = Structs d q (put_struct es i (Struct ws ts))

-- The word where the struct starts, if p is where the object starts that the pointer leads to.
abbrev pub held_start : Lead → ℕ → ℕ
held_start directly p = p
held_start (as_element d q es i) p = p + 1 + i * (d + q)

-- A struct of n data words and k pointers can be there: element i exists, and elements have these
-- sections.
abbrev pub LeadsToSections : Lead → ℕ → ℕ → Type 0
LeadsToSections directly n k = ⊤
LeadsToSections (as_element d q es i) n k = (i < element_count es) × (n ≡ d) × (k ≡ q)

-- Where the struct is in S, if it has n data words and k pointers.
abbrev pub struct_held : Segments → Holder → ℕ → ℕ → ExistingStruct
struct_held S x n k =
    let a = target S x.segment x.at in
    record { segment = a.segment; start = held_start x.lead a.start; size = sized n k }

-- In S the holder x has the struct of the data words ws and the children ts, at this place.
pub record HasStruct (S : Segments) (x : Holder) (place : StructPlace) (ws : List ℕ) (ts : Trees)
    : Type 0 where
  pub stored : IsStored S x.segment x.at (held_tree x.lead ws ts)
  pub sizes : LeadsToSections x.lead (length ws) (count ts)
  pub is_place : place ≡ struct_place (struct_held S x (length ws) (count ts))

-- t is a list whose elements aren't structs, with the element size and the count of `list`.
abbrev pub IsPlainList : ListPlace → Tree → Type 0
IsPlainList list (Flat size ns) = (size_number list.size ≡ size) × (list.count ≡ length ns)
IsPlainList list (Pointers ts) = (size_number list.size ≡ 6) × (list.count ≡ count ts)
IsPlainList list t = ⊥

-- In S the pointer at (s, p) leads to the list t, whose elements aren't structs, at this place.
pub record HasList (S : Segments) (s p : ℕ) (list : ListPlace) (t : Tree) : Type 0 where
  pub stored : IsStored S s p t
  pub plain : IsPlainList list t
  pub is_place : list ≡ list_place (plain_list (target S s p) list.size list.count)

-- A call at the place of a struct: the place, and the message before and after the call.
pub record CallIn : Type 0 where
  pub place : StructPlace
  pub old : Segments
  pub new : Segments

abbrev pub call_in : StructPlace → Segments → Segments → CallIn
call_in place old new = record { place = place; old = old; new = new }

-- The call writes a field. This holds for each struct that the place may have before.
abbrev pub SetsField : CallIn → Field → Type 0
SetsField c f =
    (x : Holder) (ws : List ℕ) (ts : Trees) → HasStruct c.old x c.place ws ts →
    HasStruct c.new x c.place (put_field ws f.start f.bits f.value) ts

-- The call writes a field, and changes nothing else of the message.
abbrev pub ReplacesField : CallIn → Field → Type 0
ReplacesField c f =
    (x : Holder) (ws : List ℕ) (ts : Trees) → HasStruct c.old x c.place ws ts →
    IsReplaced c.old c.new x.segment x.at (held_tree x.lead ws ts)
    (held_tree x.lead (put_field ws f.start f.bits f.value) ts)

-- The call makes u child i of the struct. This holds for each struct that the place may have
-- before, and for the results that `On` names: `OnOk result`, or `OnErr result`.
abbrev pub SetsChild : (Type 0 → Type 0) → CallIn → ℕ → Tree → Type 0
SetsChild On c i u =
    (x : Holder) (ws : List ℕ) (ts : Trees) → HasStruct c.old x c.place ws ts →
    On (HasStruct c.new x c.place ws (put_tree ts i u))

-- The call makes u child i of the struct, and changes nothing else of the message.
abbrev pub ReplacesChild : (Type 0 → Type 0) → CallIn → ℕ → Tree → Type 0
ReplacesChild On c i u =
    (x : Holder) (ws : List ℕ) (ts : Trees) → HasStruct c.old x c.place ws ts →
    On (IsReplaced c.old c.new x.segment x.at (held_tree x.lead ws ts)
    (held_tree x.lead ws (put_tree ts i u)))

-- The call, with the result r, makes u child i of the struct, and changes nothing else of the
-- message. If it is refused, the child is Null afterwards.
pub record MakesChild {V : Type 0} (r : Result V ErrorKind) (c : CallIn) (i : ℕ) (u : Tree)
    : Type 0 where
  pub sets : SetsChild (OnOk r) c i u
  pub replaces : ReplacesChild (OnOk r) c i u
  pub refused : SetsChild (OnErr r) c i Null
  pub emptied : ReplacesChild (OnErr r) c i Null
