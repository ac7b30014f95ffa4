-- A part of a message: the value at the end of a path of indexes. From a struct, an index leads to
-- a pointer of the struct; from a list of pointers, to an element; from a list of structs, to an
-- element, which is a struct.
use Rattle.std.specs.Prelude.{ℕ, pred, ◌+◌, ◌*◌, if◌then◌else◌, nat_lt, List, [], ◌∷◌}
use Rattle.std.specs.Prelude.{Option, Some, None, Result, Ok, Err}
use Rattle.capnp_words.specs.declared.error.ErrorKind.{ErrorKind}
use Rattle.capnp_words.specs.declared.error.ErrorKind.TheVariants.{NoSuchPlace}
use Rattle.capnp_format.specs.Path.{struct_at, tree_at}
use Rattle.capnp_format.specs.Segments.{Segments}
use Rattle.capnp_format.specs.Tree.{Tree, Struct, Pointers, Structs, count, element_count}
use Rattle.capnp_pointers.specs.declared.object.Purpose.TheVariants.{Value}
use Rattle.capnp_pointers.specs.Enter.{Shape, struct, pointers, structs, read}
use Rattle.capnp_pointers.specs.Metered.{Metered, answer, outcome, ◌>>>◌}
use Rattle.capnp_pointers.specs.Reading.{Reading, place_past}
use Rattle.capnp_messages.specs.Roots.{read_message_root}

-- The value that a path leads to in the value t, if it leads anywhere.
abbrev pub part_of : Tree → List ℕ → Option Tree
part_of t [] = Some t
part_of (Struct ws ts) (i ∷ path) = if nat_lt i (count ts) then part_of (tree_at ts i) path else None
part_of (Pointers ts) (i ∷ path) = if nat_lt i (count ts) then part_of (tree_at ts i) path else None
part_of (Structs d q es) (i ∷ path) =
    if nat_lt i (element_count es) then part_of (struct_at es i) path else None
part_of t path = None

-- Where a path leads: to a pointer; or to an element of a list of structs, by the place of its
-- first word, and its numbers of data words and of pointers.
pub data PathEnd : Type 0 where
  to_pointer : Reading → PathEnd
  to_element : Reading → ℕ → ℕ → PathEnd

-- Pointer i of n consecutive pointers, which begin at the place r.
abbrev pub pointer_in : Reading → ℕ → ℕ → Result Reading ErrorKind
pointer_in r n i = if nat_lt i n then Ok (place_past r i) else Err NoSuchPlace

-- The end of a path at a pointer that was found, or the refusal.
abbrev pub end_at : Result Reading ErrorKind → Result PathEnd ErrorKind
end_at (Ok r) = Ok (to_pointer r)
end_at (Err k) = Err k

-- The place at position `at` of segment s, with one level less than r.
abbrev pub inside : Reading → ℕ → ℕ → Reading
inside r s at = record r { levels = pred r.levels; segment = s; at = at }

-- Where index i leads from the object to which the pointer at the place r leads.
abbrev pub end_in : Reading → Shape → ℕ → Result PathEnd ErrorKind
end_in r (struct s p d q) i = end_at (pointer_in (inside r s (p + d)) q i)
end_in r (pointers s p n) i = end_at (pointer_in (inside r s p) n i)
end_in r (structs s p d q n) i =
    if nat_lt i n then Ok (to_element (inside r s (p + i * (d + q))) d q) else Err NoSuchPlace
end_in r o i = Err NoSuchPlace

-- Where index i leads from the end of a path. A pointer is read as for its value: it is counted as
-- followed, and the words of its object are charged. The object's pointers have one level less. The
-- words of an element were charged with its list.
abbrev pub step : PathEnd → ℕ → Metered PathEnd
step (to_pointer r) i = read Value r >>> λ o. outcome (end_in r o i)
step (to_element r d q) i = outcome (end_at (pointer_in (place_past r d) q i))

-- Where a path leads from the end of another.
abbrev pub follow_path : PathEnd → List ℕ → Metered PathEnd
follow_path e [] = answer e
follow_path e (i ∷ path) = step e i >>> λ f. follow_path f path

-- Where a path leads from the root pointer of S, which is read within n levels.
abbrev pub part : Segments → ℕ → List ℕ → Metered PathEnd
part S n path = read_message_root S n >>> λ r. follow_path (to_pointer r) path
