-- Steps: what one edit does with a message and the arena that holds it, and edits in order.
use Rattle.std.specs.Prelude.{IsTrue, MatchOption, is_some, ◌≡◌, ◌⊎◌, ⊤, ℕ, min, ◌<◌, ◌≤◌, ◌+◌, ◌-◌, ◌*◌, ◌^◌, true, List, []}
use Rattle.std.specs.Prelude.{length, map, Option, Some, None, IfSome, IsSomeAnd, Result, Ok, Err}
use Rattle.std.specs.Option.{option_map_or}
use Rattle.capnp_words.specs.Meter.{Meter}
use Rattle.capnp_words.specs.declared.error.ErrorKind.{ErrorKind}
use Rattle.capnp_words.specs.declared.error.ErrorKind.TheVariants.{NoSuchPlace}
use Rattle.capnp_arena_traits.specs.Taking.{IsAllocationRefusal}
use Rattle.capnp_arena_traits.specs.View.{View, KeepsLimits}
use Rattle.capnp_format.specs.Bytes.{words_of}
use Rattle.capnp_format.specs.Canonical.{word_count, word_count_all}
use Rattle.capnp_format.specs.Forest.{target}
use Rattle.capnp_format.specs.Segments.{Segments, segment, word_at}
use Rattle.capnp_format.specs.Word.{struct_word}
use Rattle.capnp_format.specs.Tree.{Tree, Null, Struct, Trees, count}
use Rattle.capnp_words.specs.declared.wire_pointer.StructSize.{StructSize}
use Rattle.capnp_words.specs.Sizes.{sized}
use Rattle.capnp_allocation.specs.Fields.{with_field}
use Rattle.capnp_allocation.specs.Makes.{CallAt, call_at}
use Rattle.capnp_allocation.specs.Memory.{HasRoom, SpendsMemory, refusals_for}
use Rattle.capnp_allocation.specs.Near.{HasOwnRoom}
use Rattle.capnp_allocation.specs.Stored.{IsReplaced, IsStored}
use Rattle.capnp_allocation.specs.Zeroed.{IsPruned}
use Rattle.capnp_in_place.specs.declared.existing.ExistingStruct.{ExistingStruct}
use Rattle.capnp_pointers.specs.Wanted.{plain}
use Rattle.capnp_copies.specs.Changes.{CopiesChildren, CopiesFirst, RefusesToCopy, copy_call}
use Rattle.capnp_copies.specs.Forms.{form_of}
use Rattle.capnp_copies.specs.Growth.{TakesAtMost}
use Rattle.capnp_copies.specs.Originals.{children_original}
use Rattle.capnp_in_place.specs.Anew.{OnlyWrites, StandsAnew}
use Rattle.capnp_in_place.specs.Opening.{Opens, struct_opened}
use Rattle.capnp_in_place.specs.Rooms.{HasRoomFor}
use Rattle.capnp_words.specs.Names.{is_allocation_name}
use Rattle.capnp_in_place.specs.Widened.{list_widened}
use Rattle.capnp_builders.specs.Defaults.{DefaultCopyFits, FitsWithDefault, WithDefault}
use Rattle.capnp_builders.specs.Defaults.{default_use, ignored}
use Rattle.capnp_builders.specs.Kept.{PutsCopy}
use Rattle.capnp_builders.specs.Content.{AreCleared, content_byte, fields_from, with_fields}
use Rattle.capnp_edits.specs.declared.edit.Edit.{Edit}
use Rattle.capnp_edits.specs.declared.edit.Source.{Source}
use Rattle.capnp_edits.specs.declared.edit.copying.Copying.{Copying}
use Rattle.capnp_edits.specs.declared.edit.copying.Wanted.TheVariants.{Struct as AStruct}
use Rattle.capnp_edits.specs.declared.edit.copying.Wanted.TheVariants.{List as AList}
use Rattle.capnp_edits.specs.declared.edit.tasks.Task.{Task}
use Rattle.capnp_edits.specs.declared.edit.tasks.Task.TheVariants.{Make, InStruct, Search, CopyRoot}
use Rattle.capnp_edits.specs.declared.edit.tasks.NewObject.{NewObject}
use Rattle.capnp_edits.specs.declared.edit.tasks.NewObject.TheVariants.{ZeroStruct}
use Rattle.capnp_edits.specs.declared.edit.tasks.StructChange.TheVariants.{Bits, Content}
use Rattle.capnp_edits.specs.declared.edit.tasks.Sought.{Sought}
use Rattle.capnp_edits.specs.declared.edit.tasks.Sought.TheVariants.{Struct as ForStruct}
use Rattle.capnp_edits.specs.declared.edit.tasks.Sought.TheVariants.{StructList as ForStructs}
use Rattle.capnp_edits.specs.Tasks.{task_of}
use Rattle.capnp_edits.specs.declared.edit.path.PathEnd.{PathEnd}
use Rattle.capnp_edits.specs.declared.edit.path.PathEnd.TheVariants.{Pointer as AtPointer}
use Rattle.capnp_edits.specs.declared.edit.path.PathEnd.TheVariants.{Element as AtElement}
use Rattle.capnp_edits.specs.Paths.{PointerTo, step_of, IsPathFound}
use Rattle.capnp_edits.specs.Sources.{root_of, once_at_root, Sections, LeadsToStruct}
use Rattle.capnp_edits.specs.Sources.{ContentRead, Copies, HasNothingToCopy, HasRoot}
use Rattle.capnp_edits.specs.Sources.{OfWanted}
use Rattle.capnp_edits.specs.Edits.{is_of_path, refusals_after, value_of, looked_for, HasEffect, place_of}
use Rattle.capnp_edits.specs.Edits.{bits_of, default_for, effect_of_task, IsApplied, EditTakes}
use Rattle.capnp_builders.specs.declared.builders.PointerBuilder.{PointerBuilder}

-- Where a new object without words is: a pointer to a struct has offset -1, and one to a list leads
-- to the end of its segment's words, unless these are more than the segment has room for.
abbrev pub LeadsThere : CallAt → NewObject → Type 0
LeadsThere c (ZeroStruct size) = word_at c.new.words c.segment c.at ≡ struct_word (2 ^ 30 - 1) 0 0
LeadsThere c object = let a = target c.new.words c.segment c.at in HasOwnRoom c.old c.segment 0 →
    (a.segment ≡ c.segment) × (a.start ≡ length (segment c.old.words c.segment))

-- e is the struct at the end of a path, if there is one: an element of a list, or what a pointer
-- leads to, if it holds a value.
abbrev pub IsStructAt : Segments → PathEnd → ExistingStruct → Type 0
IsStructAt S (AtPointer place) e = (t : Tree) → IsStored S place.segment place.word t →
    let a = target S place.segment place.word in (ws : List ℕ) × (ts : Trees) × (t ≡ Struct ws ts) ×
    (e ≡ record { segment = a.segment; start = a.start; size = sized (length ws) (count ts) })
IsStructAt S (AtElement x) e = e ≡ x

-- An outcome as the result of a call.
abbrev pub result_of : Option ErrorKind → Result ⊤ ErrorKind
result_of None = Ok tt
result_of (Some k) = Err k

-- The root of a source is copied as c wants it, with outcome r. Either there is nothing to copy,
-- and nothing is changed. Or the copy takes at most as many words as reading costs (all of it, or
-- up to the refusal), plus its own words that cost nothing and the landing pads; and either it is
-- where the builder's call puts it, or it is refused as the copy of what was read is: an object
-- finds no room, or reading is refused.
abbrev pub CopiesWhole : CallAt → Copying → Option ErrorKind → Type 0
CopiesWhole call c r =
    (IsSomeAnd r (HasNothingToCopy c.source c.wanted) × (call.new ≡ call.old)) ⊎
    ((m : Meter) × OfWanted c.wanted (root_of c.source)
    (copy_call (form_of c.canonicalize) call (once_at_root c.source) m)
    (λ o d. TakesAtMost (result_of r) o d × MatchOption r (PutsCopy o d) (RefusesToCopy o d)))

-- From old to new the content of a source's struct is copied over the struct e, with outcome r. The
-- struct takes the data, byte by byte, and its pointers become null (until `taken`). Then the
-- pointers that both structs have are copied; or only the first ones, because the copy of one is
-- refused. The copies take at most as many words as reading costs, and their landing pads.
pub record Filling (old new : View) (e : ExistingStruct) (source : Source) (r : Option ErrorKind)
    : Type 0 where
  pub root : HasRoot source
  pub from : Sections
  pub leads : LeadsToStruct (root_of source) (once_at_root source) from
  pub bytes : List ℕ
  pub are_words : words_of bytes ≡ from.words
  pub taken : View
  pub limits : KeepsLimits old taken
  pub takes : AreCleared (with_fields old.words e.segment (fields_from (64 * e.start) 8
      (content_byte (64 * length from.words) bytes)) (8 * e.size.data_words))
      taken.words e.segment (e.start + e.size.data_words) e.size.pointers
  pub after : Meter
  pub copies :
      let place = call_at e.segment (e.start + e.size.data_words) taken new in
      let call = copy_call plain place from.limiter after in
      MatchOption r (CopiesChildren from.first (min e.size.pointers from.pointers) call)
      (CopiesFirst from.first (min e.size.pointers from.pointers) call)
  pub few : TakesAtMost (result_of r)
      (children_original from.first (min e.size.pointers from.pointers))
      (copy_call plain (call_at e.segment (e.start + e.size.data_words) old new) from.limiter after)

-- From old to new the content of a source's struct is copied over the struct e, with outcome r; or
-- there is no struct to copy, and nothing is changed.
abbrev pub FillsAt : View → View → ExistingStruct → Source → Option ErrorKind → Type 0
FillsAt old new e source r =
    (IsSomeAnd r (HasNothingToCopy source AStruct) × (new ≡ old)) ⊎ Filling old new e source r

-- Room.

-- What becomes of a value that a search opens, a struct or a list of structs; None if the search
-- only looks for a list, a text or data.
abbrev pub opening : Sought → Option (Tree → Result Tree ErrorKind)
opening (ForStruct size) = Some (struct_opened size)
opening (ForStructs size) = Some (list_widened size.data_words size.pointers)
opening sought = None

-- There is room for what a task makes at its place, like the builder's call requires:
-- - `Make`: for the words of the object.
-- - `Content`: for what the pointers mean that are copied over the struct.
-- - `Search`: for the default's value, if there is one. If the search opens what is there, its
--   place also stores some value, and there is room for what becomes of that, or of the default's.
-- - `CopyRoot`: for what the copy keeps. For a list, the words of the source are also below 2^64,
--   as the words of bytes are.
-- - A task that takes no words requires no room.
abbrev pub FitsAt : View → Task → PathEnd → Type 0
FitsAt old (Make object) (AtPointer place) = HasRoom old place.segment (word_count (value_of object))
FitsAt old (InStruct (Content source)) there = (e : ExistingStruct) → IsStructAt old.words there e →
    (all : ContentRead source) × (count all.children ≡ min e.size.pointers all.from.pointers) ×
    HasOwnRoom old e.segment (word_count_all all.children)
FitsAt old (Search sought default) (AtPointer place) = MatchOption (opening sought)
    (IfSome default (λ d. (8 ≤ length d.now) × DefaultCopyFits d.now old place.segment))
    (λ opened. (t : Tree) × IsStored old.words place.segment place.word t ×
    FitsWithDefault (default_use ignored default t) old place.segment place.word
    (λ v. (x : Tree) × (u : Tree) × IsStored v.words place.segment place.word x ×
    (opened x ≡ Ok u) × HasRoomFor v place.segment place.word x u))
FitsAt old (CopyRoot c) (AtPointer place) =
    (u : Tree) × Copies c u ×
    (c.wanted ≡ AList → (s p : ℕ) → word_at (root_of c.source).segments s p < 2 ^ 64) ×
    HasOwnRoom old place.segment (word_count u)
FitsAt old task there = ⊤

-- Words that are allocated, and refusals.

-- What is looked for is found where t is, with outcome r. A struct or a list of structs is opened,
-- but null isn't a list of structs; a list, a text or data is only found, and nothing is changed.
abbrev pub FindsSought : Sought → Option ErrorKind → CallAt → Tree → Type 0
FindsSought (ForStruct size) r c t = Opens size (λ S s p u b. ⊤) c t (struct_opened size t) (result_of r)
FindsSought (ForStructs size) r c Null = (r ≡ None) × (c.new ≡ c.old)
FindsSought (ForStructs size) r c t =
    Opens size (λ S s p u b. ⊤) c t (list_widened size.data_words size.pointers t) (result_of r)
FindsSought sought r c t = (o : Option Tree) × HasEffect (looked_for sought t) r o × (c.new ≡ c.old)

-- From old to new a task ends with outcome r: it takes the words that the contract of the builder's
-- call states for its place, or is refused as that call is.
-- - `Make`: takes exactly the words of the object, which come after all words that were there; or
--   it is refused, only because there is no memory or no room for them, and takes none.
-- - `Search`: if the place stores a value, finds what is looked for in it or in its default. If the
--   place doesn't store null, a refusal changes nothing; or it is for memory, if the search opens
--   what is there. If a struct without words replaces null, its pointer has offset -1.
-- - A task that makes nothing and reads no other message takes no words. It is refused only for
--   what its path leads to, and changes nothing then.
abbrev pub EndsAt : View → View → Task → Option ErrorKind → PathEnd → Type 0
EndsAt old new (Make object) None (AtPointer place) =
    let c = call_at place.segment place.word old new in
    let n = word_count (value_of object) in StandsAnew c n [] × (n ≡ 0 → LeadsThere c object)
EndsAt old new (Make object) (Some k) (AtPointer place) =
    IsAllocationRefusal old new (length old.words) (word_count (value_of object) + 1) k ×
    (new ≡ record old { words = new.words; refusals = new.refusals }) × IsPruned old.words new.words
EndsAt old new (InStruct (Content source)) r there =
    (e : ExistingStruct) × IsStructAt old.words there e × FillsAt old new e source r
EndsAt old new (Search sought default) r (AtPointer place) =
    let c = call_at place.segment place.word old new in
    ((t : Tree) → IsStored old.words c.segment c.at t →
    WithDefault (default_for sought default t) c t (FindsSought sought r) (result_of r)) ×
    ((IsStored old.words c.segment c.at Null → ⊥) → IfSome r (λ k. (new ≡ old) ⊎
    (IsTrue (is_some (opening sought)) × IsTrue (is_allocation_name k) × SpendsMemory old new k))) ×
    ((size : StructSize) → sought ≡ ForStruct size → word_at old.words c.segment c.at ≡ 0 →
    default_use ignored default Null ≡ ignored → r ≡ None → size.data_words + size.pointers ≡ 0 →
    LeadsThere c (ZeroStruct size))
EndsAt old new (CopyRoot c) r (AtPointer place) =
    CopiesWhole (call_at place.segment place.word old new) c r
EndsAt old new task None there = OnlyWrites old new
EndsAt old new task (Some k) there = (is_of_path k ≡ true) × (new ≡ old)

-- Calls at a place.

-- From old to new a task is done at the end of a path, with outcome r: what it leaves replaces the
-- value of the pointer there, if anything is changed; or the bits or the content of the element
-- there are written. A number is refused if the data section doesn't have its bits. Words that the
-- value there doesn't hold stay unchanged.
abbrev pub DoesThere : View → View → PathEnd → Task → Option ErrorKind → Type 0
DoesThere old new (AtPointer place) task r =
    (t : Tree) → IsStored old.words place.segment place.word t → (left : Option Tree) ×
    HasEffect (effect_of_task task (PointerTo t)) r left × MatchOption left
    (new.words ≡ old.words) (IsReplaced old.words new.words place.segment place.word t)
DoesThere old new (AtElement e) (InStruct (Bits n)) r =
    let f = bits_of n in let bits = 64 * e.size.data_words in
    ((f.start < bits) × (f.start + f.bits ≤ bits) × (r ≡ None) ×
    (new.words ≡ with_field old.words e.segment (64 * e.start + f.start) f.bits f.value))
    ⊎ ((bits < f.start + f.bits) × (r ≡ Some NoSuchPlace) × (new.words ≡ old.words))
DoesThere old new (AtElement e) (InStruct (Content source)) r = FillsAt old new e source r
DoesThere old new (AtElement e) task r = new.words ≡ old.words

-- From old to new a call does a task that is in range, at the end of a path, with outcome r. It
-- states what the task leaves; the count of refused memory requests; that if there is room, it is
-- refused only for what is at the end of the path; and how it ends.
pub record IsDoneAt (old new : View) (there : PathEnd) (task : Task) (r : Option ErrorKind)
    : Type 0 where
  pub done : DoesThere old new there task r
  pub counted : new.refusals ≡ refusals_after r old.refusals
  pub fits : FitsAt old task there → (k : ErrorKind) → r ≡ Some k → is_of_path k ≡ true
  pub nowhere : r ≡ Some NoSuchPlace → new ≡ old
  pub ends : (r ≡ Some NoSuchPlace → ⊥) → EndsAt old new task r there

-- A call on a builder does a task at its pointer, and leaves the builder over the same arena.
pub record IsDoneBy {A : Type 0} (view : A → View) (old new : PointerBuilder A) (task : Task)
    (r : Option ErrorKind) : Type 0 where
  pub done : IsDoneAt (view old.arena.now) (view new.arena.now) (AtPointer (place_of old)) task r
  pub same : new.arena.ghost_name ≡ old.arena.ghost_name

-- Steps.

-- From old to new an edit is done, with outcome r. If old is a forest of a value, new is a forest
-- of what the edit makes of that value. Each AllocationFailed is counted. The edit is refused with
-- NoSuchPlace, and changes nothing, if its path leads nowhere, its numbers are out of range, or the
-- message has no root word. Otherwise it ends as the builder's call at the end of its path does,
-- and isn't refused for memory if that has room.
pub record IsStep (edit : Edit) (r : Option ErrorKind) (old new : View) : Type 0 where
  pub applied : IsApplied (EditTakes edit r) old.words new.words
  pub counted : new.refusals ≡ option_map_or (λ k. refusals_for k old.refusals) r old.refusals
  pub path_end : Option PathEnd
  pub done : IfSome path_end (λ there. IfSome (task_of edit.op)
      (λ task. DoesThere old new there task r))
  pub leads : (t : Tree) → IsStored old.words 0 0 t →
      IsPathFound old.words (record { segment = 0; word = 0 }) t (map step_of edit.path.now) path_end
  pub missing : path_end ≡ None → r ≡ Some NoSuchPlace
  pub out_of_range : task_of edit.op ≡ None → r ≡ Some NoSuchPlace
  pub rootless : length (segment old.words 0) ≡ 0 → r ≡ Some NoSuchPlace
  pub nowhere : r ≡ Some NoSuchPlace → new ≡ old
  pub fits : IfSome path_end (λ there. IfSome (task_of edit.op) (λ task. FitsAt old task there)) →
      (k : ErrorKind) → r ≡ Some k → is_of_path k ≡ true
  pub ends : (r ≡ Some NoSuchPlace → ⊥) →
      IfSome path_end (λ there. IfSome (task_of edit.op) (λ task. EndsAt old new task r there))
