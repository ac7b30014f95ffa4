-- What edits make of the value of a message.
use Rattle.std.specs.Option.{option_map_or}
use Rattle.std.specs.Prelude.{MatchOption, ◌≡◌, ◌⊎◌, ℕ, min, ◌+◌, ◌*◌, ◌<◌, ◌≤◌, Bool, true, false}
use Rattle.std.specs.Prelude.{if◌then◌else◌, ◌-◌, nat_eq, nat_le, nat_lt, List, ◌++◌, [], ◌∷◌, length, get_or, map}
use Rattle.std.specs.Prelude.{slice_set, Option, Some, None, IsSomeAnd, unwrap_or, Result, Ok, Err}
use Rattle.std.specs.Prelude.{OnErr, ⊤}
use Rattle.std.specs.Borrow.{Bor}
use Rattle.capnp_words.specs.declared.error.ErrorKind.{ErrorKind}
use Rattle.capnp_words.specs.declared.error.ErrorKind.TheVariants.{ExistingPointerIsNotAList}
use Rattle.capnp_words.specs.declared.error.ErrorKind.TheVariants.{ExistingListPointerIsNotByteSized}
use Rattle.capnp_words.specs.declared.error.ErrorKind.TheVariants.{TextBlobMissingNULTerminator}
use Rattle.capnp_words.specs.declared.error.ErrorKind.TheVariants.{FoundBitListWhereStructListWasExpected}
use Rattle.capnp_words.specs.declared.error.ErrorKind.TheVariants.{ExistingListValueIsIncompatibleWithExpectedType}
use Rattle.capnp_words.specs.declared.error.ErrorKind.TheVariants.{FoundStructListWhereBitListWasExpected}
use Rattle.capnp_words.specs.declared.error.ErrorKind.TheVariants.{MessageContainsOutOfBoundsPointer}
use Rattle.capnp_words.specs.declared.error.ErrorKind.TheVariants.{MessageContainsNonStructPointerWhereStructPointerWasExpected}
use Rattle.capnp_words.specs.declared.error.ErrorKind.TheVariants.{NoSuchPlace}
use Rattle.capnp_words.specs.declared.error.ErrorKind.TheVariants.{UnknownPointerType}
use Rattle.capnp_words.specs.declared.wire_pointer.ElementSize.{ElementSize}
use Rattle.capnp_words.specs.declared.wire_pointer.ElementSize.TheVariants.{Pointer}
use Rattle.capnp_words.specs.Sizes.{size_number}
use Rattle.capnp_format.specs.Numbers.{element_bits}
use Rattle.capnp_format.specs.Segments.{Segments}
use Rattle.capnp_format.specs.Tree.{Tree, Null, Capability, Struct, Flat, Pointers, Structs, count}
use Rattle.capnp_format.specs.Tree.{element_count, capabilities}
use Rattle.capnp_format.specs.Forest.{IsForest}
use Rattle.capnp_in_place.specs.Existing.{size_of, plain_misfit, structs_misfit, ends_in_zero}
use Rattle.capnp_in_place.specs.Existing.{AreBytesInside}
use Rattle.capnp_allocation.specs.Fields.{with_field}
use Rattle.capnp_format.specs.Fields.{with_bits, put_field}
use Rattle.capnp_allocation.specs.Memory.{refusals_for}
use Rattle.capnp_allocation.specs.Made.{zero_struct, zero_structs, zero_list}
use Rattle.capnp_format.specs.Path.{struct_at, put_struct, update}
use Rattle.capnp_in_place.specs.declared.existing.ExistingBytes.{ExistingBytes}
use Rattle.capnp_in_place.specs.declared.existing.ExistingList.{ExistingList}
use Rattle.capnp_in_place.specs.declared.existing.ExistingStruct.{ExistingStruct}
use Rattle.capnp_pointers.specs.Faults.{HasFault}
use Rattle.capnp_pointers.specs.Follow.{◌>=>◌}
use Rattle.capnp_pointers.specs.Outcomes.{MeansThere}
use Rattle.capnp_pointers.specs.Wanted.{of_default}
use Rattle.capnp_readers.specs.Readers.{IsListPlace}
use Rattle.capnp_words.specs.Names.{is_allocation_name}
use Rattle.capnp_in_place.specs.Widened.{list_widened}
use Rattle.capnp_builders.specs.Defaults.{DefaultUse, ignored, denied as is_denied_by}
use Rattle.capnp_builders.specs.Defaults.{copied as is_copied_from, default_use}
use Rattle.capnp_builders.specs.Defaults.{default_root}
use Rattle.capnp_in_place.specs.Opening.{struct_opened}
use Rattle.capnp_builders.specs.Content.{HoldContent, up_to}
use Rattle.capnp_edits.specs.declared.edit.Source.{Source}
use Rattle.capnp_readers.specs.Sections.{step_bits, data_bits}
use Rattle.capnp_pointers.specs.declared.pointers.PointerPlace.{PointerPlace}
use Rattle.capnp_builders.specs.declared.builders.PointerBuilder.{PointerBuilder}
use Rattle.capnp_builders.specs.Places.{Field, field, list_place}
use Rattle.capnp_edits.specs.declared.edit.Edit.{Edit}
use Rattle.capnp_edits.specs.declared.edit.copying.Copying.{Copying}
use Rattle.capnp_edits.specs.declared.edit.copying.Wanted.TheVariants.{Struct as AStruct}
use Rattle.capnp_edits.specs.declared.edit.tasks.Task.{Task}
use Rattle.capnp_edits.specs.declared.edit.tasks.Task.TheVariants.{Make, Point, InStruct, Write}
use Rattle.capnp_edits.specs.declared.edit.tasks.Task.TheVariants.{Search, CopyRoot}
use Rattle.capnp_edits.specs.declared.edit.tasks.NewObject.{NewObject}
use Rattle.capnp_edits.specs.declared.edit.tasks.NewObject.TheVariants.{ZeroStruct, ZeroList}
use Rattle.capnp_edits.specs.declared.edit.tasks.NewObject.TheVariants.{ZeroStructs, ZeroText, Text}
use Rattle.capnp_edits.specs.declared.edit.tasks.NewObject.TheVariants.{Data}
use Rattle.capnp_edits.specs.declared.edit.tasks.Number.{Number}
use Rattle.capnp_edits.specs.declared.edit.tasks.StructChange.{StructChange}
use Rattle.capnp_edits.specs.declared.edit.tasks.StructChange.TheVariants.{Bits, Content}
use Rattle.capnp_edits.specs.declared.edit.tasks.Part.TheVariants.{ListElement, TextByte, DataByte}
use Rattle.capnp_edits.specs.declared.edit.tasks.Sought.{Sought}
use Rattle.capnp_edits.specs.declared.edit.tasks.Sought.TheVariants.{Struct as ForStruct}
use Rattle.capnp_edits.specs.declared.edit.tasks.Sought.TheVariants.{List as ForList}
use Rattle.capnp_edits.specs.declared.edit.tasks.Sought.TheVariants.{StructList as ForStructs}
use Rattle.capnp_edits.specs.declared.edit.tasks.Sought.TheVariants.{Text as ForText}
use Rattle.capnp_edits.specs.declared.edit.tasks.Sought.TheVariants.{Data as ForData}
use Rattle.capnp_edits.specs.Tasks.{task_of}
use Rattle.capnp_edits.specs.Sources.{Copies, ContentRead, IsNextUnreadable}
use Rattle.capnp_edits.specs.Sources.{HasNothingToCopy, IsUnreadable}
use Rattle.capnp_edits.specs.Paths.{EndValue, PointerTo, ElementOf, step_of, found}
use Rattle.capnp_arena_traits.specs.View.{View, KeepsLimits}

-- The error with which a call is refused, if it is.
abbrev pub refusal_of : {A : Type 0} → Result A ErrorKind → Option ErrorKind
refusal_of (Ok x) = None
refusal_of (Err k) = Some k

-- The bits of a data section that the number n has, and their new value.
abbrev pub bits_of : Number → Field
bits_of n =
    let bits = element_bits (size_number n.size) in field (n.index * bits) bits n.value

-- What an operation makes of the value at the end of a path:
-- - `gives`: a value; or it is refused with this error, and changes nothing. If words are allocated
--   for the value first, there is another value, which is left if memory for them is refused.
-- - `defaults`: what it makes of a value; or, by its use of a default, it is refused, or makes that
--   of the default's value, which first replaces null.
-- - `copies`: what is copied from another message.
-- - `fills`: a struct of this many data words and pointers gets the content of a struct of another
--   message.
pub data Effect : Type 0 where
  gives : Option Tree → Result Tree ErrorKind → Effect
  defaults : DefaultUse → (Tree → Effect) → Tree → Effect
  copies : Copying → Effect
  fills : Source → ℕ → ℕ → Effect

-- The struct t with bits of its data section written.
abbrev pub struct_with : Field → Tree → Tree
struct_with f (Struct ws ts) = Struct (put_field ws f.start f.bits f.value) ts
struct_with f t = t

-- The list t with the lowest w bits of element i written.
abbrev pub with_lowest : ℕ → ℕ → ℕ → Tree → Tree
with_lowest i w v (Flat size ns) = Flat size (slice_set ns i (with_bits (get_or ns i 0) 0 w v))
with_lowest i w v (Structs d q es) =
    Structs d q (put_struct es i (struct_with (field 0 w v) (struct_at es i)))
with_lowest i w v t = t

-- How many elements the list t has if elements of this size are expected, or with which error that
-- is refused. Null has none.
abbrev pub elements_of : ElementSize → Tree → Result ℕ ErrorKind
elements_of size Null = Ok 0
elements_of size (Flat found ns) =
    option_map_or Err (plain_misfit size (size_of found)) (Ok (length ns))
elements_of size (Pointers ts) = option_map_or Err (plain_misfit size Pointer) (Ok (count ts))
elements_of size (Structs d q es) =
    option_map_or Err (structs_misfit size d q) (Ok (element_count es))
elements_of size t = Err ExistingPointerIsNotAList

-- The result of `count_of` for the bytes of the list t; or with which error looking for data or a
-- text is refused. Null has none.
abbrev pub count_in : (List ℕ → Result ℕ ErrorKind) → Tree → Result ℕ ErrorKind
count_in count_of Null = Ok 0
count_in count_of (Flat size ns) =
    if nat_eq size 2 then count_of ns else Err ExistingListPointerIsNotByteSized
count_in count_of (Pointers ts) = Err ExistingListPointerIsNotByteSized
count_in count_of (Structs d q es) = Err ExistingListPointerIsNotByteSized
count_in count_of t = Err ExistingPointerIsNotAList

-- How many bytes the data t has, and the text t without the zero byte at its end.
abbrev pub data_length : Tree → Result ℕ ErrorKind
data_length t = count_in (λ ns. Ok (length ns)) t

abbrev pub text_length : Tree → Result ℕ ErrorKind
text_length t = count_in (λ ns. if ends_in_zero ns then Ok (length ns - 1)
    else Err TextBlobMissingNULTerminator) t

-- The result of writing element or byte i of those that a search found. It is u if i is below their
-- number; otherwise it is refused with NoSuchPlace. If the search was refused, it is refused with
-- the same error.
abbrev pub if_reached : ℕ → Tree → Result ℕ ErrorKind → Effect
if_reached i u found = gives None (found >=> (λ n. if nat_lt i n then Ok u else Err NoSuchPlace))

-- The result of a search where t is. A struct or a list of structs becomes at least as large as
-- requested, but null isn't a list of structs; a list, a text or data is only found, and t stays.
abbrev pub looked_for : Sought → Tree → Effect
looked_for (ForStruct size) t = gives (Some t) (struct_opened size t)
looked_for (ForStructs size) Null = gives None (Ok Null)
looked_for (ForStructs size) t = gives (Some t) (list_widened size.data_words size.pointers t)
looked_for (ForList size) t = gives None (elements_of size t >=> (λ n. Ok t))
looked_for ForText t = gives None (text_length t >=> (λ n. Ok t))
looked_for ForData t = gives None (data_length t >=> (λ n. Ok t))

-- The value of a new object.
abbrev pub value_of : NewObject → Tree
value_of (ZeroStruct size) = zero_struct size
value_of (ZeroList size n) = zero_list (size_number size) n
value_of (ZeroStructs n size) = zero_structs n size
value_of (ZeroText n) = zero_list 2 (n + 1)
value_of (Text bytes) = Flat 2 (bytes.now ++ 0 ∷ [])
value_of (Data bytes) = Flat 2 bytes.now

-- What a search does with its default where t is. In a search for a struct or a list, a default
-- whose first word is null counts as none; in one for a text or data, it isn't a list.
abbrev pub default_for : Sought → Option (Bor (List ℕ)) → Tree → DefaultUse
default_for ForText default t = default_use (is_denied_by ExistingPointerIsNotAList) default t
default_for ForData default t = default_use (is_denied_by ExistingPointerIsNotAList) default t
default_for sought default t = default_use ignored default t

-- Whether k is an error for what a path leads to, or that it leads nowhere.
abbrev pub is_of_path : ErrorKind → Bool
is_of_path ExistingListPointerIsNotByteSized = true
is_of_path ExistingListValueIsIncompatibleWithExpectedType = true
is_of_path ExistingPointerIsNotAList = true
is_of_path FoundBitListWhereStructListWasExpected = true
is_of_path FoundStructListWhereBitListWasExpected = true
is_of_path MessageContainsNonStructPointerWhereStructPointerWasExpected = true
is_of_path MessageContainsOutOfBoundsPointer = true
is_of_path NoSuchPlace = true
is_of_path TextBlobMissingNULTerminator = true
is_of_path UnknownPointerType = true
is_of_path k = false

-- The count of refused memory requests after an outcome: one more if that is AllocationFailed.
abbrev pub refusals_after : Option ErrorKind → ℕ → ℕ
refusals_after r n = option_map_or (λ k. refusals_for k n) r n

-- The place of a builder's pointer.
abbrev pub place_of : {A : Type 0} → PointerBuilder A → PointerPlace
place_of b = record { segment = b.segment; word = b.at }

-- The result of a change of a struct. A number is written to the data section, by its index among
-- numbers of the same width, if the section has it; or content is copied over the struct.
abbrev pub struct_changed : StructChange → Tree → Effect
struct_changed (Bits n) (Struct ws ts) =
    let f = bits_of n in
    gives None (if nat_le (f.start + f.bits) (64 * length ws) then Ok (struct_with f (Struct ws ts))
    else Err NoSuchPlace)
struct_changed (Content source) (Struct ws ts) = fills source (length ws) (count ts)
struct_changed change t = gives None (Err NoSuchPlace)

-- What a task makes at the end of a path, or with which error it is refused, which changes nothing.
-- Changes of a struct apply to an element of a list, too; all other tasks require a pointer.
abbrev pub effect_of_task : Task → EndValue → Effect
effect_of_task (InStruct change) (ElementOf t) = struct_changed change t
effect_of_task task (ElementOf t) = gives None (Err NoSuchPlace)
effect_of_task (InStruct change) (PointerTo t) = struct_changed change t
effect_of_task (Make object) (PointerTo t) = gives (Some Null) (Ok (value_of object))
effect_of_task (Point (Some i)) (PointerTo t) = gives None (Ok (Capability i))
effect_of_task (Point None) (PointerTo t) = gives None (Ok Null)
effect_of_task (Write (ListElement n)) (PointerTo t) =
    if_reached n.index (with_lowest n.index (element_bits (size_number n.size)) n.value t)
    (elements_of n.size t)
effect_of_task (Write (TextByte i b)) (PointerTo t) =
    if_reached i (with_lowest i 8 b t) (text_length t)
effect_of_task (Write (DataByte i b)) (PointerTo t) =
    if_reached i (with_lowest i 8 b t) (data_length t)
effect_of_task (Search sought default) (PointerTo t) =
    defaults (default_for sought default t) (looked_for sought) t
effect_of_task (CopyRoot c) (PointerTo t) = copies c

-- The outcome r of an operation that makes this, and what it leaves: o is the value that replaces
-- the old one, if anything is changed.
-- - `copies`: what is copied; null, if there is something to copy, but the copy is refused for
--   memory or for what it reads; or nothing is changed, if there is nothing to copy.
-- - `fills`: a struct u. It has the data that both structs have, followed by zeros, and the
--   pointers that were read, followed by nulls. These are as many as both have, or the ones before
--   a pointer that is refused. Nothing is changed if there is no struct to copy.
-- - `defaults`: if a default is copied, what the operation leaves after that: the default, if that
--   isn't changed; or null, if the copy of the default is refused for memory or for what it reads.
unfoldable pub HasEffect : Effect → Option ErrorKind → Option Tree → Type 0
HasEffect (gives left (Err k)) r o = (r ≡ Some k) × (o ≡ None)
HasEffect (gives left (Ok u)) None o = o ≡ Some u
HasEffect (gives (Some t) (Ok u)) (Some k) o = (is_allocation_name k ≡ true) × (o ≡ Some t)
HasEffect (copies c) None o = (u : Tree) × Copies c u × (o ≡ Some u)
HasEffect (copies c) (Some k) None = HasNothingToCopy c.source c.wanted k
HasEffect (copies c) (Some k) (Some u) = (u ≡ Null)
    × ((j : ErrorKind) → HasNothingToCopy c.source c.wanted j → ⊥)
    × ((is_allocation_name k ≡ true) ⊎ IsUnreadable c k)
HasEffect (fills source d q) (Some k) None = HasNothingToCopy source AStruct k
HasEffect (fills source d q) r (Some u) =
    (c : ContentRead source) × (section : List ℕ)
    × HoldContent section d (64 * length c.from.words) c.bytes
    × (u ≡ Struct section (up_to q c.children))
    × MatchOption r (count c.children ≡ min q c.from.pointers)
    (λ k. (count c.children < min q c.from.pointers)
    × ((is_allocation_name k ≡ true) ⊎ IsNextUnreadable source c k))
HasEffect (defaults ignored made_of t) r o = HasEffect (made_of t) r o
HasEffect (defaults (is_denied_by k) made_of t) r o = (r ≡ Some k) × (o ≡ None)
HasEffect (defaults (is_copied_from bytes) made_of t) r o =
    ((d : Tree) × (n : ℕ) × (left : Option Tree) × MeansThere (default_root bytes) d n
    × (capabilities d ≡ 0) × HasEffect (made_of d) r left × (o ≡ Some (unwrap_or left d)))
    ⊎ (IsSomeAnd r (λ k. (is_allocation_name k ≡ true) ⊎ HasFault of_default (default_root bytes) k)
    × (o ≡ Some Null))
HasEffect making r o = ⊥

-- A call changes only words, and nothing if it is refused.
pub record WritesWords (result : Result ⊤ ErrorKind) (old new : View) : Type 0 where
  pub limits : KeepsLimits old new
  pub kept : OnErr result (new ≡ old)

-- From S to R bits of the data section of the struct e are written, with outcome r; or e doesn't
-- have them, and nothing changes.
pub data PutsBits (S R : Segments) (e : ExistingStruct) (f : Field) (r : Option ErrorKind) : Type 0 where
  are_written : f.start < 64 * e.size.data_words → f.start + f.bits ≤ 64 * e.size.data_words →
      r ≡ None → R ≡ with_field S e.segment (64 * e.start + f.start) f.bits f.value →
      PutsBits S R e f r
  are_outside : 64 * e.size.data_words < f.start + f.bits → r ≡ Some NoSuchPlace → R ≡ S →
      PutsBits S R e f r

-- From S to R an element is written, with outcome r, after a search for a list. Either the list has
-- the element, and its lowest bits are written; or the list doesn't have it, provided that the list
-- is inside the message and its elements are wide enough; or there is no list; or the search was
-- refused.
pub data PutsElement (S R : Segments) (looked : Result (Option ExistingList) ErrorKind) (n : Number)
    (r : Option ErrorKind) : Type 0 where
  element_put : (l : ExistingList) → looked ≡ Ok (Some l) → n.index < l.count → r ≡ None →
      R ≡ with_field S l.segment (8 * (8 * l.start) + n.index * step_bits l.size l.struct_size)
      (element_bits (size_number n.size)) n.value → PutsElement S R looked n r
  element_past : (l : ExistingList) → looked ≡ Ok (Some l) →
      (IsListPlace S (list_place l) → element_bits (size_number n.size)
      ≤ data_bits l.size l.struct_size → l.count ≤ n.index) → r ≡ Some NoSuchPlace → R ≡ S →
      PutsElement S R looked n r
  no_list : looked ≡ Ok None → r ≡ Some NoSuchPlace → R ≡ S → PutsElement S R looked n r
  list_denied : (k : ErrorKind) → looked ≡ Err k → r ≡ Some k → R ≡ S → PutsElement S R looked n r

-- From S to R a byte of a text or data is written, with outcome r, after a search for the bytes.
-- Either the byte is there, and is written; or it isn't there, provided that the bytes are inside
-- the message; or there are no bytes; or the search was refused.
pub data PutsByte (S R : Segments) (looked : Result (Option ExistingBytes) ErrorKind) (n : Number)
    (r : Option ErrorKind) : Type 0 where
  byte_put : (b : ExistingBytes) → looked ≡ Ok (Some b) → n.index < b.length → r ≡ None →
      R ≡ with_field S b.segment (8 * (8 * b.start + n.index)) 8 n.value → PutsByte S R looked n r
  byte_past : (b : ExistingBytes) → looked ≡ Ok (Some b)
      → (AreBytesInside S b → b.length ≤ n.index) →
      r ≡ Some NoSuchPlace → R ≡ S → PutsByte S R looked n r
  no_bytes_there : looked ≡ Ok None → r ≡ Some NoSuchPlace → R ≡ S → PutsByte S R looked n r
  bytes_denied : (k : ErrorKind) → looked ≡ Err k → r ≡ Some k → R ≡ S → PutsByte S R looked n r

-- The edit e, with outcome r, takes the value t of a message to u. Either its path leads nowhere,
-- and it is refused with NoSuchPlace; or its path leads to a value, and what the operation leaves
-- replaces that, if anything is changed. If its numbers are out of range, it has no task, and is
-- refused with NoSuchPlace, too.
unfoldable pub EditTakes : Edit → Option ErrorKind → Tree → Tree → Type 0
EditTakes e r t u =
    MatchOption (found t (map step_of e.path.now)) ((r ≡ Some NoSuchPlace) × (u ≡ t))
    (λ there. (o : Option Tree) × HasEffect
    (option_map_or (λ x. effect_of_task x there) (task_of e.op) (gives None (Err NoSuchPlace))) r o
    × (u ≡ option_map_or (update t (map step_of e.path.now)) o t))

-- If S is a forest of a value t, R is a forest of a value u with P t u: P says what an edit makes
-- of a value, or what several make.
abbrev pub IsApplied : (Tree → Tree → Type 0) → Segments → Segments → Type 0
IsApplied P S R = (t : Tree) → IsForest S t → (u : Tree) × IsForest R u × P t u

-- The edits, in order and each with its outcome, lead from x to y. `One` says what one edit with its
-- outcome leads from, and to.
abbrev pub InTurn : {A : Type 0} → (Edit → Option ErrorKind → A → A → Type 0) → List Edit →
    List (Option ErrorKind) → A → A → Type 0
InTurn One [] [] x y = y ≡ x
InTurn {A} One (e ∷ es) (r ∷ rs) x y = (z : A) × One e r x z × InTurn One es rs z y
InTurn One es rs x y = ⊥
