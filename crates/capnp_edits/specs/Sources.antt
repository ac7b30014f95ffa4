-- What is copied from another message.
use Rattle.std.specs.Prelude.{ℕ, pred, ◌+◌, ◌≡◌, ◌≢◌, ◌⊎◌, true, false}
use Rattle.std.specs.Prelude.{if◌then◌else◌, nat_eq, List, [], map, Option, Some, None, IsSomeAnd}
use Rattle.capnp_words.specs.Meter.{Meter, Affords, less, unused}
use Rattle.capnp_words.specs.declared.error.ErrorKind.{ErrorKind}
use Rattle.capnp_words.specs.declared.error.ErrorKind.TheVariants.{FoundBitListWhereStructListWasExpected}
use Rattle.capnp_words.specs.declared.error.ErrorKind.TheVariants.{InvalidSegmentId, NestingLimitExceeded}
use Rattle.capnp_words.specs.declared.error.ErrorKind.TheVariants.{MessageContainsNonListPointerWhereListPointerWasExpected}
use Rattle.capnp_words.specs.declared.error.ErrorKind.TheVariants.{ReadLimitExceeded}
use Rattle.capnp_words.specs.declared.wire_pointer.ElementSize.TheVariants.{Void}
use Rattle.capnp_format.specs.Bytes.{message, words_of}
use Rattle.capnp_format.specs.Segments.{Target, words_at}
use Rattle.capnp_format.specs.Tree.{Tree, Null, Struct, Flat, Pointers, Structs, Trees, no_trees}
use Rattle.capnp_format.specs.Tree.{count}
use Rattle.capnp_format.specs.Word.{kind, offset_bits, data_words, pointer_count, element_size, list_count}
use Rattle.capnp_arena_traits.specs.Checks.{Holds, misplaced}
use Rattle.capnp_arena_traits.specs.Limits.{whole}
use Rattle.capnp_pointers.specs.Demands.{tag}
use Rattle.capnp_pointers.specs.Expected.{Expectation, struct_expected, RefusesExpected}
use Rattle.capnp_pointers.specs.Faults.{child_at}
use Rattle.capnp_pointers.specs.Outcomes.{Reads, ReadsAll, Entered}
use Rattle.capnp_pointers.specs.Reading.{Reading, word_of, place_past, tag_size}
use Rattle.capnp_pointers.specs.Refusals.{Refused}
use Rattle.capnp_pointers.specs.Source.{levels}
use Rattle.capnp_pointers.specs.Wanted.{plain}
use Rattle.capnp_in_place.specs.Existing.{size_of}
use Rattle.capnp_copies.specs.Changes.{CopyCall}
use Rattle.capnp_copies.specs.Forms.{form_of, kept}
use Rattle.capnp_copies.specs.Originals.{Original, value_original, sections_original}
use Rattle.capnp_copies.specs.Originals.{list_original, numbers_original}
use Rattle.capnp_edits.specs.declared.edit.Source.{Source}
use Rattle.capnp_edits.specs.declared.edit.copying.Copying.{Copying}
use Rattle.capnp_edits.specs.declared.edit.copying.Wanted.{Wanted}
use Rattle.capnp_edits.specs.declared.edit.copying.Wanted.TheVariants.{Value, Struct as AStruct}
use Rattle.capnp_edits.specs.declared.edit.copying.Wanted.TheVariants.{List as AList}
use Rattle.capnp_pointers.specs.declared.object.Purpose.TheVariants.{Value as ForValue}

-- The root of a source, read within its nesting limit.
abbrev pub root_of : Source → Reading
root_of source =
    let S = message (map whole (map (λ s. s.now) source.arena.now.segments.segments.now)) in
    let n = levels source.arena.now.nesting_limit in
    record { segments = S; charging = true; of_default = false; levels = n; segment = 0; at = 0 }

-- The limiter of a source once the root's word is charged.
abbrev pub once_at_root : Source → Meter
once_at_root source = unused (less source.budget 1)

-- The source has a root, and the limiter has enough left for its word.
abbrev pub HasRoot : Source → Type 0
HasRoot source = Holds (root_of source).segments 0 0 1 × Affords true (unused source.budget) 1

-- The value that is copied if a root means t, if there is one.
-- - `Value`: t.
-- - `AStruct`: t, if it is a struct; an empty struct, if it is null.
-- - `AList`: t, if it is a list but not of bits; an empty list of void, if it is null.
abbrev pub as_wanted : Wanted → Tree → Option Tree
as_wanted Value t = Some t
as_wanted AStruct Null = Some (Struct [] no_trees)
as_wanted AStruct (Struct ws ts) = Some (Struct ws ts)
as_wanted AList Null = Some (Flat 0 [])
as_wanted AList (Flat size ns) = if nat_eq size 1 then None else Some (Flat size ns)
as_wanted AList (Pointers ts) = Some (Pointers ts)
as_wanted AList (Structs d q es) = Some (Structs d q es)
as_wanted wanted t = None

-- The root isn't reached, which is refused with k.
abbrev pub IsRootless : Source → ErrorKind → Type 0
IsRootless source k =
    (HasRoot source → ⊥) × ((Holds (root_of source).segments 0 0 1 → ⊥) →
    k ≡ misplaced (root_of source).segments 0 (InvalidSegmentId 0))
    × (Holds (root_of source).segments 0 0 1 → k ≡ ReadLimitExceeded)

-- A list, but not of bits: what `get_list` with the size `Void` expects.
abbrev pub any_list : Expectation
any_list = record {
  too_deep = λ n. if nat_eq n 0 then Some NestingLimitExceeded else None;
  null_default = None;
  another_kind = λ w. if nat_eq (kind w) 1 then None
      else Some MessageContainsNonListPointerWhereListPointerWasExpected;
  misfit = λ S a. if nat_eq (element_size a.word) 1 then Some FoundBitListWhereStructListWasExpected
      else None;
}

-- What is wanted isn't found at r, which `get_struct` or `get_list` refuses with k.
abbrev pub RefusesWanted : Wanted → Reading → Meter → Meter → ErrorKind → Type 0
RefusesWanted Value r m m' k = ⊥
RefusesWanted AStruct r m m' k = RefusesExpected struct_expected r m m' k
RefusesWanted AList r m m' k = RefusesExpected any_list r m m' k

-- There is nothing to copy, which is refused with k: the root isn't reached, or what is wanted
-- isn't found there.
abbrev pub HasNothingToCopy : Source → Wanted → ErrorKind → Type 0
HasNothingToCopy source wanted k = IsRootless source k ⊎
    (HasRoot source
    × ((m : Meter) × RefusesWanted wanted (root_of source) (once_at_root source) m k))

-- The root means a value within the limits, which is as wanted, and u is what a copy keeps of it.
pub record Copies (c : Copying) (u : Tree) : Type 0 where
  pub root : HasRoot c.source
  pub value : Tree
  pub after : Meter
  pub is_read : Reads (form_of c.canonicalize) (root_of c.source) (once_at_root c.source) after value
  pub is_kept : IsSomeAnd (as_wanted c.wanted value) (λ x. u ≡ kept (form_of c.canonicalize) x)

-- The root is reached, and reading what it means is refused with k.
abbrev pub IsUnreadable : Copying → ErrorKind → Type 0
IsUnreadable c k = HasRoot c.source ×
    ((m : Meter) × Refused (form_of c.canonicalize) (root_of c.source) (once_at_root c.source) m k)

-- The struct that a place leads to: its data words, its first pointer and the number of its
-- pointers, and the limiter once the struct's own words are charged.
pub record Sections : Type 0 where
  pub words : List ℕ
  pub first : Reading
  pub pointers : ℕ
  pub limiter : Meter

-- r leads to a struct with the sections s, whose limiter is what is left of m. Null has empty
-- sections.
pub data LeadsToStruct (r : Reading) (m : Meter) (s : Sections) : Type 0 where
  no_struct : word_of r ≡ 0 → s.words ≡ [] → s.pointers ≡ 0 → s.limiter ≡ m → LeadsToStruct r m s
  a_struct :
      (a : Target) →
      Entered ForValue r m s.limiter a →
      kind a.word ≡ 0 →
      s.words ≡ words_at r.segments a.segment a.start (data_words a.word) →
      s.first ≡ child_at r a (pred r.levels) (a.start + data_words a.word) →
      s.pointers ≡ pointer_count a.word →
      LeadsToStruct r m s

-- What is read of a source's struct to copy its content: its sections, the values of its first
-- pointers, and its data section as bytes.
pub record ContentRead (source : Source) : Type 0 where
  pub root : HasRoot source
  pub from : Sections
  pub leads : LeadsToStruct (root_of source) (once_at_root source) from
  pub after : Meter
  pub children : Trees
  pub are_read : ReadsAll plain from.first from.limiter after children
  pub bytes : List ℕ
  pub are_words : words_of bytes ≡ from.words

-- The pointer after those that were read can't be read, which is refused with k.
abbrev pub IsNextUnreadable : (source : Source) → ContentRead source → ErrorKind → Type 0
IsNextUnreadable source c k =
    (m : Meter) × Refused plain (place_past c.from.first (count c.children)) c.after m k

-- The list at the target a, to which the pointer of r leads.
abbrev pub list_at : Reading → Target → Original Tree
list_at r a =
    let structs = nat_eq (element_size a.word) 7 in
    list_original (size_of (element_size a.word)) (tag_size r.segments a)
    (if structs then offset_bits (tag r.segments a) else list_count a.word)
    (child_at r a (pred r.levels) (if structs then a.start + 1 else a.start))

-- `Says` holds for the original that is wanted at r and the call that copies it: for the original
-- of a whole value; or for that of a struct or a list, once what leads to it is charged. Null is an
-- empty struct, or an empty list of void.
abbrev pub OfWanted : Wanted → Reading → CopyCall → (Original Tree → CopyCall → Type 0) → Type 0
OfWanted Value r c Says = Says (value_original r) c
OfWanted AStruct r c Says = (s : Sections) × LeadsToStruct r c.before s ×
    Says (sections_original s.words s.first s.pointers) (record c { before = s.limiter })
OfWanted AList r c Says =
    ((word_of r ≡ 0) × ((first : Reading) × Says (numbers_original Void 0 first) c)) ⊎
    ((a : Target) × (m : Meter) × Entered ForValue r c.before m a × (kind a.word ≡ 1) ×
    (element_size a.word ≢ 1) × Says (list_at r a) (record c { before = m }))
