-- Where the paths of edits lead, in a value and in a message that holds it.
use Rattle.std.specs.Prelude.{◌≡◌, ℕ, ◌+◌, ◌*◌, ◌<◌, if◌then◌else◌, nat_eq, nat_lt, ◌&&◌, List, []}
use Rattle.std.specs.Prelude.{◌∷◌, ◌++◌, Option, Some, None, IfSome}
use Rattle.capnp_format.specs.Segments.{Segments, IsPlace}
use Rattle.capnp_words.specs.Sizes.{size_number}
use Rattle.capnp_format.specs.Tree.{Tree, Struct, Pointers, Structs, Elements, count, element_count}
use Rattle.capnp_format.specs.Forest.{target}
use Rattle.capnp_in_place.specs.Existing.{IsStructInside}
use Rattle.capnp_allocation.specs.Stored.{IsStored}
use Rattle.capnp_format.specs.Path.{Step, Child, Element, tree_at, struct_at, next, node, PathLeads}
use Rattle.capnp_in_place.specs.declared.existing.ExistingList.{ExistingList}
use Rattle.capnp_in_place.specs.declared.existing.ExistingStruct.{ExistingStruct}
use Rattle.capnp_edits.specs.declared.edit.Step.{Step as EditStep}
use Rattle.capnp_edits.specs.declared.edit.Step.TheVariants.{Child as ToChild, Element as ToElement}
use Rattle.capnp_edits.specs.declared.edit.path.PathEnd.{PathEnd}
use Rattle.capnp_edits.specs.declared.edit.path.PathEnd.TheVariants.{Pointer as AtPointer}
use Rattle.capnp_edits.specs.declared.edit.path.PathEnd.TheVariants.{Element as AtElement}
use Rattle.capnp_readers.specs.declared.readers.PointerPlace.{PointerPlace}

-- The steps of an edit's path.
abbrev pub step_of : EditStep → Step
step_of (ToChild i) = Child i
step_of (ToElement i) = Element i

-- The value at the end of a path: that of a pointer, or an element of a list of structs, which is a
-- struct.
pub data EndValue : Type 0 where
  PointerTo : Tree → EndValue
  ElementOf : Tree → EndValue

-- What a path leads to from a pointer that means t, if anything.
abbrev pub found : Tree → List Step → Option EndValue
found t [] = Some (PointerTo t)
found (Struct ws ts) (Child i ∷ path) = if nat_lt i (count ts) then found (tree_at ts i) path else None
found (Pointers ts) (Element i ∷ path) = if nat_lt i (count ts) then found (tree_at ts i) path else None
found (Structs d q es) (Element i ∷ []) =
    if nat_lt i (element_count es) then Some (ElementOf (struct_at es i)) else None
found (Structs d q es) (Element i ∷ Child j ∷ path) =
    if nat_lt i (element_count es) && nat_lt j q then found (next (struct_at es i) (Child j)) path else None
found t path = None

-- From (s, p), which means t, a path leads to the struct e, an element of a list of structs. A path
-- one step shorter leads to the pointer that means the list.
pub record IsElementFound (S : Segments) (s p : ℕ) (t : Tree) (path : List Step)
    (e : ExistingStruct) : Type 0 where
  pub front : List Step
  pub index : ℕ
  pub path_is : path ≡ front ++ Element index ∷ []
  pub list_segment : ℕ
  pub list_at : ℕ
  pub elements : Elements
  pub leads : PathLeads S (node s p t) front
      (node list_segment list_at (Structs e.size.data_words e.size.pointers elements))
  pub counts : index < element_count elements
  pub segment_is : e.segment ≡ (target S list_segment list_at).segment
  pub start_is : e.start ≡ (target S list_segment list_at).start + 1 + index
      * (e.size.data_words + e.size.pointers)

-- From a pointer that means t, a path leads to this end: a pointer, and what it means; an element;
-- or nowhere, and then no longer path leads anywhere either.
abbrev pub IsPathFound : Segments → PointerPlace → Tree → List Step → Option PathEnd → Type 0
IsPathFound S from t path (Some (AtPointer place)) = (x : Tree) ×
    PathLeads S (node from.segment from.word t) path (node place.segment place.word x)
IsPathFound S from t path (Some (AtElement e)) = IsElementFound S from.segment from.word t path e
IsPathFound S from t path None = (more : List Step) → found t (path ++ more) ≡ None

-- The end of a path is inside the message.
abbrev pub IsEndInside : Segments → PathEnd → Type 0
IsEndInside S (AtPointer place) = IsPlace S place.segment place.word
IsEndInside S (AtElement e) = IsStructInside S e

-- The end r that was found is inside the message. It is `there`, if that is inside the message.
pub record IsEndFound (S : Segments) (there r : Option PathEnd) : Type 0 where
  pub exactly : IfSome there (IsEndInside S) → r ≡ there
  pub inside : IfSome r (IsEndInside S)

-- Pointer i of the struct e, if there is one.
abbrev pub child_in : ExistingStruct → ℕ → Option PathEnd
child_in e i = if nat_lt i e.size.pointers then
    Some (AtPointer (record { segment = e.segment; word = e.start + e.size.data_words + i }))
    else None

-- Element i of the list l, if it is a pointer or a struct.
abbrev pub element_in : ExistingList → ℕ → Option PathEnd
element_in l i =
    if nat_eq (size_number l.size) 6 then
    Some (AtPointer (record { segment = l.segment; word = l.start + i }))
    else if nat_eq (size_number l.size) 7 then
    Some (AtElement (record {
      segment = l.segment;
      start = l.start + i * (l.struct_size.data_words + l.struct_size.pointers);
      size = l.struct_size;
    }))
    else None

-- A step from the end of a path leads to r.
abbrev pub Steps : Segments → PathEnd → Step → Option PathEnd → Type 0
Steps S (AtPointer place) step r =
    (t : Tree) → IsStored S place.segment place.word t →
    IsPathFound S place t (step ∷ []) r
Steps S (AtElement e) (Child i) r = IfSome (child_in e i) (IsEndInside S) → r ≡ child_in e i
Steps S (AtElement e) (Element i) r = r ≡ None
