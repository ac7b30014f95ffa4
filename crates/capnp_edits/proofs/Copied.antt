-- What a copy from another message leaves, and what it is refused for.
use Rattle.std.proofs.Common.{◌≡◌, inl, inr, ◌⊎◌, ℕ, ◌+◌, ◌≤◌, Bool, true, false, cond, nat_eq, nat_lt, length, Option, Some, None, Result, Ok, Err, IfOk, IfErr, OnOk, OnErr, refl, sym, ap, ◌∙◌, subst, arith, IsOk}
use Rattle.std.specs.Prelude.{IsSomeAnd, MatchOption}
use Rattle.std.proofs.lemmas.Bool.{cases_lt, false≢true}
use Rattle.capnp_words.specs.Meter.{Meter}
use Rattle.capnp_words.specs.declared.error.ErrorKind.{ErrorKind}
use Rattle.capnp_words.specs.declared.error.ErrorKind.TheVariants.{AllocationFailed, FoundBitListWhereStructListWasExpected, InvalidSegmentId, MessageContainsNonListPointerWhereListPointerWasExpected, MessageContainsNonStructPointerWhereStructPointerWasExpected, MessageContainsOutOfBoundsPointer, MessageIsTooDeeplyNestedOrContainsCycles, NestingLimitExceeded, NoSuchPlace, ReadLimitExceeded}
use Rattle.capnp_words.specs.declared.wire_pointer.ElementSize.TheVariants.{Void}
use Rattle.capnp_arena_traits.specs.View.{View}
use Rattle.capnp_arena_traits.specs.Checks.{misplaced}
use Rattle.capnp_arena_traits.specs.declared.arena.reader_arena.ReaderArena.{Ghosts}
use Rattle.capnp_format.specs.Canonical.{word_count}
use Rattle.capnp_format.specs.Segments.{Segments, Target, segment, AreWords}
use Rattle.capnp_format.specs.Word.{kind, element_size}
use Rattle.capnp_format.specs.Tree.{Tree, Null}
use Rattle.capnp_allocation.specs.Memory.{KeepsMemory, SpendsMemory}
use Rattle.capnp_allocation.proofs.Memory.{not_the_allocator}
use Rattle.capnp_allocation.specs.Stored.{Puts}
use Rattle.capnp_pointers.specs.Expected.{Expectation, struct_expected, list_expected, HasExpected, RefusesExpected, no_level, unfollowed, of_another_kind, stopped, misfits}
use Rattle.capnp_pointers.specs.Outcomes.{Reads}
use Rattle.capnp_pointers.specs.Reading.{Reading}
use Rattle.capnp_pointers.specs.Refusals.{Refused, here as stops_here, Unfollowed, no_target}
use Rattle.capnp_pointers.specs.Wanted.{plain}
use Rattle.capnp_pointers.proofs.OneObject.ExpectedAsStated.{not_withheld}
use Rattle.capnp_pointers.proofs.OneObject.ExpectedBySteps.{one_level}
use Rattle.capnp_pointers.proofs.WholeValue.RefusalsNamed.{not_for_memory, not_for_place}
use Rattle.capnp_pointers.proofs.WholeValue.UnreadableIfRefused.{unreadable}
use Rattle.capnp_readers.specs.Calls.{IsRead, of_pointer, of_default, short_default, of_null_default, WhereRead, IsRefused, IsStructRead, IsListRead}
use Rattle.capnp_readers.specs.Readers.{read_by}
use Rattle.capnp_readers.specs.Sections.{bytes_for}
use Rattle.capnp_readers.specs.Sizes.{pointers_read}
use Rattle.capnp_readers.specs.declared.readers.PointerReader.{PointerReader}
use Rattle.capnp_readers.specs.declared.readers.struct_reader.StructReader.{StructReader}
use Rattle.capnp_readers.specs.declared.readers.list_reader.ListReader.{ListReader}
use Rattle.capnp_pointers.specs.declared.pointers.PointerPlace.{PointerPlace}
use Rattle.capnp_copies.specs.Changes.{CopyCall, RefusesToCopy, copy_call}
use Rattle.capnp_copies.specs.Forms.{form_of, kept}
use Rattle.capnp_copies.specs.Growth.{TakesAtMost}
use Rattle.capnp_copies.specs.Originals.{Original, value_original, sections_original, list_original}
use Rattle.capnp_copies.proofs.Originals.{value_beyond, refused_words}
use Rattle.capnp_allocation.specs.Makes.{CallAt, call_at}
use Rattle.capnp_builders.specs.ListValues.{list_read}
use Rattle.capnp_builders.specs.StructValues.{data_of, struct_read}
use Rattle.capnp_builders.specs.Kept.{PutsCopy, LeavesCleared}
use Rattle.capnp_edits.specs.declared.edit.path.PathEnd.TheVariants.{Pointer as AtPointer}
use Rattle.capnp_edits.specs.declared.edit.Source.{Source}
use Rattle.capnp_edits.specs.declared.edit.copying.Copying.{Copying}
use Rattle.capnp_edits.specs.declared.edit.copying.Wanted.{Wanted}
use Rattle.capnp_edits.specs.declared.edit.copying.Wanted.TheVariants.{Value, Struct as AStruct, List as AList}
use Rattle.capnp_edits.specs.declared.edit.tasks.Task.TheVariants.{CopyRoot}
use Rattle.capnp_edits.specs.Sources.{any_list, root_of, once_at_root, as_wanted, HasRoot, Copies, IsRootless, IsUnreadable, RefusesWanted, HasNothingToCopy, Sections, LeadsToStruct, OfWanted}
use Rattle.capnp_edits.specs.Edits.{refusal_of, is_of_path, refusals_after}
use Rattle.capnp_edits.specs.Steps.{result_of, CopiesWhole, IsDoneAt}
use Rattle.capnp_edits.proofs.Applied.{Does, of_allocation, of_no_place, named_refusal, never_refused}
use Rattle.capnp_edits.proofs.CopiedStruct.{CanBeCopiedAs, struct_there_given, struct_at, struct_reads, struct_refused, struct_given, struct_fits}
use Rattle.capnp_edits.proofs.CopiedList.{as_any, as_list, elements_read, list_there_given, list_at, list_reads, list_refused, list_given, list_small, list_fits}
use Rattle.capnp_edits.proofs.ListReads.{ListElements, LeadsToList, OfElements, of_elements, to_elements, list_read_as}
use Rattle.capnp_edits.proofs.Steps.{same_some}
use Rattle.capnp_edits.proofs.Ways.{yielded, is_copied, is_not_copied, is_unread}
use Rattle.capnp_allocation.specs.Near.{HasOwnRoom}
use Rattle.capnp_words.specs.Names.{is_allocation_name}

-- The reader is at the source's root, and the root's word is charged.
abbrev pub IsRootReader : {A : Type 0} (g : Ghosts A) → Source → PointerReader A g → Meter → Type 0
IsRootReader g source from m = HasRoot source × (read_by g from ≡ root_of source) × (m ≡ once_at_root source)

-- What a copy from another message leaves at a place: the copy; null, if it is refused; or the
-- place unchanged, if there is nothing to copy.
root_copied : {S R : Segments} {place : PointerPlace} {c : Copying} {r : Option ErrorKind} (u : Tree) → Copies c u → r ≡ None → Puts S R place.segment place.word u → Does S R place (CopyRoot c) r
root_copied {c = c} u copied done puts t stored = (Some u, yielded (is_copied c u refl copied done refl), puts t stored)

root_not_copied : {S R : Segments} {place : PointerPlace} {r : Option ErrorKind} (c : Copying) (k : ErrorKind) → ((j : ErrorKind) → HasNothingToCopy c.source c.wanted j → ⊥) → (is_allocation_name k ≡ true) ⊎ IsUnreadable c k → r ≡ Some k → Puts S R place.segment place.word Null → Does S R place (CopyRoot c) r
root_not_copied c k some why named puts t stored = (Some Null, yielded (is_not_copied c k refl some why named refl), puts t stored)

pub root_unread : {S R : Segments} {place : PointerPlace} {r : Option ErrorKind} (c : Copying) (k : ErrorKind) → HasNothingToCopy c.source c.wanted k → r ≡ Some k → R ≡ S → Does S R place (CopyRoot c) r
root_unread c k why named same t stored = (None, yielded (is_unread c k refl why named refl), same)

-- The root means a value whose copy fits after the words of segment id.
abbrev pub FitsBehind : View → ℕ → Copying → Type 0
FitsBehind v id c = (u : Tree) × Copies c u × (c.wanted ≡ AList → AreWords (root_of c.source).segments) × HasOwnRoom v id (word_count u)

-- what is wanted of a value that is copied
kept_of : (o : Option Tree) (P : Tree → Type 0) → IsSomeAnd o P → (x : Tree) × (o ≡ Some x) × P x
kept_of (Some x) P h = (x, refl, h)
kept_of None P h = absurd h

can_be_copied : (v : View) (id : ℕ) (c : Copying) → FitsBehind v id c → CanBeCopiedAs c (root_of c.source) (once_at_root c.source) (length (segment v.words id)) (v.room id)
can_be_copied v id c (u, copies, words, room) =
    let x = copies.is_read in
    let (copied, is_wanted, is_kept) = kept_of (as_wanted c.wanted copies.value) (λ y. u ≡ kept (form_of c.canonicalize) y) copies.is_kept in
    record {
      value = copies.value;
      cost = x.cost;
      means = x.means;
      takes = x.takes;
      covers = x.covers;
      copied = copied;
      is_wanted = is_wanted;
      fits = subst (λ t. length (segment v.words id) + word_count t ≤ v.room id) is_kept room;
    }

-- What a copy that is done leaves.
abbrev IsDone : Copying → Meter → Segments → Segments → PointerPlace → Type 0
IsDone c after S R place =
    (t : Tree) × (w : Tree) × Reads (form_of c.canonicalize) (root_of c.source) (once_at_root c.source) after t × (as_wanted c.wanted t ≡ Some w)
    × Puts S R place.segment place.word (kept (form_of c.canonicalize) w)

-- A copy is refused for lack of memory, or because its value can't be read; and never with
-- NoSuchPlace.

value_refused : (b : Bool) (id at : ℕ) (old new : View) (r : Reading) (m m' : Meter) (k : ErrorKind) → RefusesToCopy (value_original r) (copy_call (form_of b) (call_at id at old new) m m') k → (is_allocation_name k ≡ true) ⊎ Refused (form_of b) r m m' k
value_refused b id at old new r m m' k (inl (lacks, large)) =
    let x = refused_words (value_original r) (copy_call (form_of b) (call_at id at old new) m m') k lacks in
    inl (of_allocation old new (length new.words) (x.0 + 1) k x.1.0)
value_refused b id at old new r m m' k (inr (inl refused)) = inr refused
value_refused b id at old new r m m' k (inr (inr none)) = absurd none

-- P holds for the original of what is wanted, and the call that copies it.
abbrev Wants : Wanted → Reading → CopyCall → (Original Tree → CopyCall → Type 0) → Type 0
Wants Value r c P = P (value_original r) c
Wants AStruct r c P = OfWanted AStruct r c P
Wants AList r c P = OfElements r c P

wants_of : (w : Wanted) (r : Reading) (c : CopyCall) (P : Original Tree → CopyCall → Type 0) → OfWanted w r c P → Wants w r c P
wants_of Value r c P h = h
wants_of AStruct r c P h = h
wants_of AList r c P h = to_elements r c P h

of_wants : (w : Wanted) (r : Reading) (c : CopyCall) (P : Original Tree → CopyCall → Type 0) → Wants w r c P → OfWanted w r c P
of_wants Value r c P h = h
of_wants AStruct r c P h = h
of_wants AList r c P h = of_elements r c P h

copy_refused_as : (w : Wanted) (b : Bool) (id at : ℕ) (old new : View) (r : Reading) (m m' : Meter) (k : ErrorKind) → Wants w r (copy_call (form_of b) (call_at id at old new) m m') (λ o d. RefusesToCopy o d k) →
    (is_allocation_name k ≡ true) ⊎ Refused (form_of b) r m m' k
copy_refused_as Value b id at old new r m m' k refuses = value_refused b id at old new r m m' k refuses
copy_refused_as AStruct b id at old new r m m' k (s, leads, refuses) = struct_refused b id at old new r m m' s k leads refuses
copy_refused_as AList b id at old new r m m' k (l, n, leads, refuses) = list_refused b id at old new r m n m' l k leads refuses

copy_nowhere_as : (w : Wanted) (b : Bool) (id at : ℕ) (old new : View) (r : Reading) (m m' : Meter) (k : ErrorKind) → Wants w r (copy_call (form_of b) (call_at id at old new) m m') (λ o d. RefusesToCopy o d k) → k ≡ NoSuchPlace → ⊥
copy_nowhere_as w b id at old new r m m' k refuses e = elim (copy_refused_as w b id at old new r m m' k refuses) [
  | inl memory ↦ of_no_place k memory e
  | inr refused ↦ not_for_place (subst (λ y. Refused (form_of b) r m m' y) e refused)
]

copy_fits_as : (w : Wanted) (c : Copying) (id at : ℕ) (old new : View) (r : Reading) (m m' : Meter) (k : ErrorKind) → c.wanted ≡ w → (c.wanted ≡ AList → AreWords r.segments) →
    CanBeCopiedAs c r m (length (segment old.words id)) (old.room id) → Wants w r (copy_call (form_of c.canonicalize) (call_at id at old new) m m') (λ o d. RefusesToCopy o d k) → ⊥
copy_fits_as Value c id at old new r m m' k is small can (inl (lacks, large)) =
    let same : can.value ≡ can.copied = same_some can.value can.copied (subst (λ w. as_wanted w can.value ≡ Some can.copied) is can.is_wanted) in
    omega (arith, can.fits, value_beyond (form_of c.canonicalize) r (length (segment old.words id)) (old.room id) large can.value can.cost can.means, ap (λ t. word_count (kept (form_of c.canonicalize) t)) same)
copy_fits_as Value c id at old new r m m' k is small can (inr (inl refused)) = (unreadable refused).only can.value can.cost can.means can.takes can.covers
copy_fits_as Value c id at old new r m m' k is small can (inr (inr none)) = none
copy_fits_as AStruct c id at old new r m m' k is small can (s, leads, refuses) = struct_fits c r m m' s id at old new k is leads can refuses
copy_fits_as AList c id at old new r m m' k is small can (l, n, leads, refuses) = list_fits c r m n m' l id at old new k is leads (list_small r m n l (small is) leads) can refuses

-- What a copy takes, and why it is refused, by its outcome r.
abbrev pub Says : Option ErrorKind → Original Tree → CopyCall → Type 0
Says r o d = TakesAtMost (result_of r) o d × MatchOption r (PutsCopy o d) (RefusesToCopy o d)

says : {A : Type 0} (result : Result A ErrorKind) (o : Original Tree) (d : CopyCall) → IfOk result (λ x. PutsCopy o d) → TakesAtMost result o d → IfErr result (LeavesCleared o d) → Says (refusal_of result) o d
says (Ok x) o d done taken refused = (taken, done)
says (Err k) o d done taken refused = (taken, refused.why)

-- A copy that was tried: what it leaves if the result is Ok, and why it is refused otherwise.
pub record Tried {A : Type 0} (result : Result A ErrorKind) (c : Copying) (old new : View) (place : PointerPlace) : Type 0 where
  pub root : HasRoot c.source
  pub after : Meter
  pub done : IfOk result (λ x. IsDone c after old.words new.words place)
  pub copies : Wants c.wanted (root_of c.source) (copy_call (form_of c.canonicalize) (call_at place.segment place.word old new) (once_at_root c.source) after) (Says (refusal_of result))

-- if Q follows from P for each original and call, it does so for what is wanted at a place
wanted_so : (w : Wanted) (r : Reading) (c : CopyCall) (P Q : Original Tree → CopyCall → Type 0) → ((o : Original Tree) (d : CopyCall) → P o d → Q o d) → Wants w r c P → Wants w r c Q
wanted_so Value r c P Q so h = so _ _ h
wanted_so AStruct r c P Q so (s, leads, h) = (s, leads, so _ _ h)
wanted_so AList r c P Q so (l, m, leads, h) = (l, m, leads, so _ _ h)

tried_refused : {A : Type 0} (k : ErrorKind) (c : Copying) (old new : View) (place : PointerPlace) (tried : Tried {A = A} (Err k) c old new place) →
    Wants c.wanted (root_of c.source) (copy_call (form_of c.canonicalize) (call_at place.segment place.word old new) (once_at_root c.source) tried.after) (λ o d. RefusesToCopy o d k)
tried_refused k c old new place tried = wanted_so c.wanted (root_of c.source) _ (Says (Some k)) (λ o d. RefusesToCopy o d k) (λ o d h. h.1) tried.copies

-- if what is wanted was found, there is something to copy
found_wanted : (w : Wanted) (r : Reading) (d : CopyCall) (So : Original Tree → CopyCall → Type 0) → Wants w r d So → (m : Meter) (k : ErrorKind) → RefusesWanted w r d.before m k → ⊥
found_wanted Value r d So h m k withheld = withheld
found_wanted AStruct r d So (s, leads, h) m k withheld = not_withheld struct_expected r d.before m k (struct_there_given leads) withheld
found_wanted AList r d So (l, n, leads, h) m k withheld = not_withheld (list_expected Void) r d.before m k (list_there_given leads) (as_list withheld)

something_to_copy : (c : Copying) (call : CallAt) (after : Meter) (So : Original Tree → CopyCall → Type 0) → HasRoot c.source →
    Wants c.wanted (root_of c.source) (copy_call (form_of c.canonicalize) call (once_at_root c.source) after) So → (k : ErrorKind) → HasNothingToCopy c.source c.wanted k → ⊥
something_to_copy c call after So has found k (inl rootless) = rootless.0 has
something_to_copy c call after So has found k (inr (root, (m, withheld))) = found_wanted c.wanted (root_of c.source) (copy_call (form_of c.canonicalize) call (once_at_root c.source) after) So found m k withheld

pub tried_done : {A : Type 0} (result : Result A ErrorKind) (c : Copying) (old new : View) (place : PointerPlace) → Tried result c old new place → OnErr result (Puts old.words new.words place.segment place.word Null) →
    Does old.words new.words place (CopyRoot c) (refusal_of result)
tried_done (Ok x) c old new place tried cleared =
    let (t, w, reads, is, puts) = tried.done in
    root_copied (kept (form_of c.canonicalize) w) (record { root = tried.root; value = t; after = tried.after; is_read = reads; is_kept = subst (λ o. IsSomeAnd o (λ x. kept (form_of c.canonicalize) w ≡ kept (form_of c.canonicalize) x)) (sym is) refl }) refl puts
tried_done (Err k) c old new place tried cleared =
    root_not_copied c k (something_to_copy c (call_at place.segment place.word old new) tried.after (λ o d. Says (Some k) o d) tried.root tried.copies) (elim (copy_refused_as c.wanted c.canonicalize place.segment place.word old new (root_of c.source) (once_at_root c.source) tried.after k (tried_refused k c old new place tried)) [
      | inl memory ↦ inl memory
      | inr refused ↦ inr (tried.root, (tried.after, refused))
    ]) refl cleared

pub copy_counted : {A : Type 0} (result : Result A ErrorKind) (old new : View) → OnOk result (KeepsMemory old new) → IfErr result (SpendsMemory old new) → new.refusals ≡ refusals_after (refusal_of result) old.refusals
copy_counted (Ok x) old new keeps spends = ap (λ (v : View). v.refusals) keeps.0
copy_counted (Err k) old new keeps spends = spends.2

pub tried_taken : {A : Type 0} (result : Result A ErrorKind) (c : Copying) (old new : View) (place : PointerPlace) → Tried result c old new place → CopiesWhole (call_at place.segment place.word old new) c (refusal_of result)
tried_taken result c old new place tried = inr (tried.after, of_wants c.wanted (root_of c.source) _ (Says (refusal_of result)) tried.copies)

pub tried_fits : {A : Type 0} (result : Result A ErrorKind) (c : Copying) (old new : View) (place : PointerPlace) → Tried result c old new place → FitsBehind old place.segment c → IsOk result
tried_fits (Ok x) c old new place tried fits = refl
tried_fits (Err k) c old new place tried fits = absurd (copy_fits_as c.wanted c place.segment place.word old new (root_of c.source) (once_at_root c.source) tried.after k refl fits.2 (can_be_copied old place.segment c fits) (tried_refused k c old new place tried))

-- the copy of what the root means
pub value_tried : {A : Type 0} (result : Result A ErrorKind) (c : Copying) (r : Reading) (m m' : Meter) (old new : View) (place : PointerPlace) → c.wanted ≡ Value → r ≡ root_of c.source → m ≡ once_at_root c.source → HasRoot c.source →
    IfOk result (λ x. PutsCopy (value_original r) (copy_call (form_of c.canonicalize) (call_at place.segment place.word old new) m m')) → IfErr result (LeavesCleared (value_original r) (copy_call (form_of c.canonicalize) (call_at place.segment place.word old new) m m')) →
    TakesAtMost result (value_original r) (copy_call (form_of c.canonicalize) (call_at place.segment place.word old new) m m') → Tried result c old new place
value_tried result c r m m' old new place is is_r is_m has done refused taken = record { root = has; after = m'; done = good result done; copies = copies }
  where
    good : {A : Type 0} (q : Result A ErrorKind) → IfOk q (λ x. PutsCopy (value_original r) (copy_call (form_of c.canonicalize) (call_at place.segment place.word old new) m m')) → IfOk q (λ x. IsDone c m' old.words new.words place)
    good (Ok x) h =
        (h.value, h.value, subst (λ y. Reads (form_of c.canonicalize) (root_of c.source) y m' h.value) is_m (subst (λ y. Reads (form_of c.canonicalize) y m m' h.value) is_r h.is_read), ap (λ w. as_wanted w h.value) is, h.put)
    good (Err k) h = tt

    copies : Wants c.wanted (root_of c.source) (copy_call (form_of c.canonicalize) (call_at place.segment place.word old new) (once_at_root c.source) m') (Says (refusal_of result))
    copies =
        let ch : Meter → CopyCall = λ y. copy_call (form_of c.canonicalize) (call_at place.segment place.word old new) y m' in
        subst (λ w. Wants w (root_of c.source) (ch (once_at_root c.source)) (Says (refusal_of result))) (sym is)
        (subst (λ y. Says (refusal_of result) (value_original (root_of c.source)) (ch y)) is_m (subst (λ y. Says (refusal_of result) (value_original y) (ch m)) is_r (says result (value_original r) (ch m) done taken refused)))

-- the copy of the struct that the root leads to
struct_tried : {A : Type 0} (result : Result A ErrorKind) (c : Copying) (s : Sections) (m' : Meter) (old new : View) (place : PointerPlace) → c.wanted ≡ AStruct → HasRoot c.source → LeadsToStruct (root_of c.source) (once_at_root c.source) s →
    IfOk result (λ x. PutsCopy (sections_original s.words s.first s.pointers) (copy_call (form_of c.canonicalize) (call_at place.segment place.word old new) s.limiter m')) →
    IfErr result (LeavesCleared (sections_original s.words s.first s.pointers) (copy_call (form_of c.canonicalize) (call_at place.segment place.word old new) s.limiter m')) →
    TakesAtMost result (sections_original s.words s.first s.pointers) (copy_call (form_of c.canonicalize) (call_at place.segment place.word old new) s.limiter m') → Tried result c old new place
struct_tried result c s m' old new place is has leads done refused taken = record { root = has; after = m'; done = good result done; copies = copies }
  where
    good : {A : Type 0} (q : Result A ErrorKind) → IfOk q (λ x. PutsCopy (sections_original s.words s.first s.pointers) (copy_call (form_of c.canonicalize) (call_at place.segment place.word old new) s.limiter m')) → IfOk q (λ x. IsDone c m' old.words new.words place)
    good (Ok x) h =
        let (ts, same, counts, all) = h.is_read in
        let (t, reads, wanted) = struct_reads (form_of c.canonicalize) (root_of c.source) (once_at_root c.source) m' s ts leads counts all in
        (t, h.value, reads, ap (λ w. as_wanted w t) is ∙ wanted ∙ ap Some (sym same), h.put)
    good (Err k) h = tt

    copies : Wants c.wanted (root_of c.source) (copy_call (form_of c.canonicalize) (call_at place.segment place.word old new) (once_at_root c.source) m') (Says (refusal_of result))
    copies = subst (λ w. Wants w (root_of c.source) (copy_call (form_of c.canonicalize) (call_at place.segment place.word old new) (once_at_root c.source) m') (Says (refusal_of result))) (sym is) (s, leads, says result (sections_original s.words s.first s.pointers) (copy_call (form_of c.canonicalize) (call_at place.segment place.word old new) s.limiter m') done taken refused)

-- the copy of the list that the root leads to
list_tried : {A : Type 0} (result : Result A ErrorKind) (c : Copying) (l : ListElements) (m m' : Meter) (old new : View) (place : PointerPlace) → c.wanted ≡ AList → HasRoot c.source →
    LeadsToList (root_of c.source) (once_at_root c.source) m l → IfOk result (λ x. PutsCopy (list_original l.size l.sections l.count l.first) (copy_call (form_of c.canonicalize) (call_at place.segment place.word old new) m m')) →
    IfErr result (LeavesCleared (list_original l.size l.sections l.count l.first) (copy_call (form_of c.canonicalize) (call_at place.segment place.word old new) m m')) → TakesAtMost result (list_original l.size l.sections l.count l.first) (copy_call (form_of c.canonicalize) (call_at place.segment place.word old new) m m') → Tried result c old new place
list_tried result c l m m' old new place is has leads done refused taken = record { root = has; after = m'; done = good result done; copies = copies }
  where
    good : {A : Type 0} (q : Result A ErrorKind) → IfOk q (λ x. PutsCopy (list_original l.size l.sections l.count l.first) (copy_call (form_of c.canonicalize) (call_at place.segment place.word old new) m m')) → IfOk q (λ x. IsDone c m' old.words new.words place)
    good (Ok x) h =
        let all = list_read_as (form_of c.canonicalize) l l.size m m' h.value refl h.is_read in
        let (u, reads, wanted) = list_reads (form_of c.canonicalize) (root_of c.source) (once_at_root c.source) m m' l h.value leads all in
        (u, h.value, reads, ap (λ w. as_wanted w u) is ∙ wanted, h.put)
    good (Err k) h = tt

    copies : Wants c.wanted (root_of c.source) (copy_call (form_of c.canonicalize) (call_at place.segment place.word old new) (once_at_root c.source) m') (Says (refusal_of result))
    copies = subst (λ w. Wants w (root_of c.source) (copy_call (form_of c.canonicalize) (call_at place.segment place.word old new) (once_at_root c.source) m') (Says (refusal_of result))) (sym is) (l, m, leads, says result (list_original l.size l.sections l.count l.first) (copy_call (form_of c.canonicalize) (call_at place.segment place.word old new) m m') done taken refused)

-- A call without a default reads the pointer itself.
own_pointer : {A : Type 0} (g : Ghosts A) (expected : Expectation) (from p : PointerReader A g) → IsRead g (record { from = from; expected = expected; default = None }) (Ok p) → p ≡ from
own_pointer g expected from p (of_pointer w e) = cc (e)
own_pointer g expected from p (of_default null has whole source segment first nesting may e) = absurd (cc (has))
own_pointer g expected from p (short_default null has less e) = absurd (cc (has))
own_pointer g expected from p (of_null_default null has whole none named e) = absurd (cc (has))

never_unread : {A : Type 0} (g : Ghosts A) (expected : Expectation) (from : PointerReader A g) (k : ErrorKind) → IsRead g (record { from = from; expected = expected; default = None }) (Err k) → ⊥
never_unread g expected from k (of_pointer w e) = absurd (cc (e))
never_unread g expected from k (of_default null has whole source segment first nesting may e) = absurd (cc (has))
never_unread g expected from k (short_default null has less e) = absurd (cc (has))
never_unread g expected from k (of_null_default null has whole none named e) = absurd (cc (has))

pub where_read : {A : Type 0} (g : Ghosts A) (expected : Expectation) (from : PointerReader A g) (P : PointerReader A g → Type 0) → WhereRead g (record { from = from; expected = expected; default = None }) P → P from
where_read g expected from P (p, is, h) = subst P (own_pointer g expected from p is) h

answered : {A : Type 0} (g : Ghosts A) (expected : Expectation) (from : PointerReader A g) (m : Meter) → HasExpected expected (read_by g from) m →
    WhereRead g (record { from = from; expected = expected; default = None }) (λ p. HasExpected expected (read_by g p) m)
answered g expected from m given = (from, of_pointer (inl refl) refl, given)

withheld_at : {A : Type 0} (g : Ghosts A) (expected : Expectation) (from : PointerReader A g) (m m' : Meter) (k : ErrorKind) → IsRefused g (record { from = from; expected = expected; default = None }) m m' k → RefusesExpected expected (read_by g from) m m' k
withheld_at g expected from m m' k (inl (unread, same)) = absurd (never_unread g expected from k unread)
withheld_at g expected from m m' k (inr h) = where_read g expected from (λ p. RefusesExpected expected (read_by g p) m m' k) h

-- The calls on a root's reader.
pub struct_copied : {A B : Type 0} (result : Result B ErrorKind) (c : Copying) (g : Ghosts A) (from : PointerReader A g) (v : StructReader A g) (m n m' : Meter) (old new : View) (place : PointerPlace) → c.wanted ≡ AStruct → IsRootReader g c.source from m →
    length v.content.now ≡ bytes_for v.bits → WhereRead g (record { from = from; expected = struct_expected; default = None }) (λ p. IsStructRead g p m n v) → IfOk result (λ x. PutsCopy (struct_read g v) (copy_call (form_of c.canonicalize) (call_at place.segment place.word old new) n m')) →
    IfErr result (LeavesCleared (struct_read g v) (copy_call (form_of c.canonicalize) (call_at place.segment place.word old new) n m')) → TakesAtMost result (struct_read g v) (copy_call (form_of c.canonicalize) (call_at place.segment place.word old new) n m') → Tried result c old new place
struct_copied result c g from v m n m' old new place is here long read done refused taken =
    let s : Sections = record { words = data_of g v; first = pointers_read g v; pointers = v.pointer_count; limiter = n } in
    let there : IsStructRead g from m n v = where_read g struct_expected from (λ p. IsStructRead g p m n v) read in
    let leads : LeadsToStruct (read_by g from) m s = struct_at g from m n v long there in
    struct_tried result c s m' old new place is here.0 (subst (λ y. LeadsToStruct (root_of c.source) y s) here.2 (subst (λ r. LeadsToStruct r m s) here.1 leads)) done refused taken

pub list_copied : {A B : Type 0} (result : Result B ErrorKind) (c : Copying) (g : Ghosts A) (from : PointerReader A g) (v : ListReader A g) (m n m' : Meter) (old new : View) (place : PointerPlace) → c.wanted ≡ AList → IsRootReader g c.source from m →
    WhereRead g (record { from = from; expected = list_expected Void; default = None }) (λ p. IsListRead g Void p m n v) → IfOk result (λ x. PutsCopy (list_read g v) (copy_call (form_of c.canonicalize) (call_at place.segment place.word old new) n m')) →
    IfErr result (LeavesCleared (list_read g v) (copy_call (form_of c.canonicalize) (call_at place.segment place.word old new) n m')) → TakesAtMost result (list_read g v) (copy_call (form_of c.canonicalize) (call_at place.segment place.word old new) n m') → Tried result c old new place
list_copied result c g from v m n m' old new place is here read done refused taken =
    let l : ListElements = elements_read g v in
    let leads : LeadsToList (read_by g from) m n l = list_at g from m n v (where_read g (list_expected Void) from (λ p. IsListRead g Void p m n v) read) in
    list_tried result c l n m' old new place is here.0 (subst (λ y. LeadsToList (root_of c.source) y n l) here.2 (subst (λ r. LeadsToList r m n l) here.1 leads)) done refused taken

unread_as : {A : Type 0} (g : Ghosts A) (c : Copying) (expected : Expectation) (from : PointerReader A g) (m m' : Meter) (k : ErrorKind) → ((r : Reading) (i j : Meter) → RefusesExpected expected r i j k → RefusesWanted c.wanted r i j k) → IsRootReader g c.source from m →
    IsRefused g (record { from = from; expected = expected; default = None }) m m' k → HasNothingToCopy c.source c.wanted k
unread_as g c expected from m m' k wanted here refused =
    let h = wanted (read_by g from) m m' (withheld_at g expected from m m' k refused) in
    inr (here.0, (m', subst (λ y. RefusesWanted c.wanted (root_of c.source) y m' k) here.2 (subst (λ r. RefusesWanted c.wanted r m m' k) here.1 h)))

pub struct_unread : {A : Type 0} (g : Ghosts A) (c : Copying) (from : PointerReader A g) (m m' : Meter) (k : ErrorKind) → c.wanted ≡ AStruct → IsRootReader g c.source from m → IsRefused g (record { from = from; expected = struct_expected; default = None }) m m' k → HasNothingToCopy c.source c.wanted k
struct_unread g c from m m' k is here refused = unread_as g c struct_expected from m m' k (λ r i j h. subst (λ w. RefusesWanted w r i j k) (sym is) h) here refused

pub list_unread : {A : Type 0} (g : Ghosts A) (c : Copying) (from : PointerReader A g) (m m' : Meter) (k : ErrorKind) → c.wanted ≡ AList → IsRootReader g c.source from m → IsRefused g (record { from = from; expected = list_expected Void; default = None }) m m' k → HasNothingToCopy c.source c.wanted k
list_unread g c from m m' k is here refused = unread_as g c (list_expected Void) from m m' k (λ r i j h. subst (λ w. RefusesWanted w r i j k) (sym is) (as_any h)) here refused

pub struct_found : {A : Type 0} (g : Ghosts A) (c : Copying) (from : PointerReader A g) (m : Meter) (v : View) (id : ℕ) → c.wanted ≡ AStruct → IsRootReader g c.source from m → FitsBehind v id c → WhereRead g (record { from = from; expected = struct_expected; default = None }) (λ p. HasExpected struct_expected (read_by g p) m)
struct_found g c from m v id is here fits =
    let given = struct_given c (root_of c.source) (once_at_root c.source) (length (segment v.words id)) (v.room id) is (can_be_copied v id c fits) in
    answered g struct_expected from m (subst (λ y. HasExpected struct_expected (read_by g from) y) (sym here.2) (subst (λ r. HasExpected struct_expected r (once_at_root c.source)) (sym here.1) given))

pub list_found : {A : Type 0} (g : Ghosts A) (c : Copying) (from : PointerReader A g) (m : Meter) (v : View) (id : ℕ) → c.wanted ≡ AList → IsRootReader g c.source from m → FitsBehind v id c → WhereRead g (record { from = from; expected = list_expected Void; default = None }) (λ p. HasExpected (list_expected Void) (read_by g p) m)
list_found g c from m v id is here fits =
    let given = list_given c (root_of c.source) (once_at_root c.source) (length (segment v.words id)) (v.room id) is (can_be_copied v id c fits) in
    answered g (list_expected Void) from m (subst (λ y. HasExpected (list_expected Void) (read_by g from) y) (sym here.2) (subst (λ r. HasExpected (list_expected Void) r (once_at_root c.source)) (sym here.1) given))

-- The errors of a call itself, with which a source is never refused.
abbrev is_of_call : ErrorKind → Bool
is_of_call AllocationFailed = true
is_of_call NoSuchPlace = true
is_of_call k = false

abbrev IsOther : Option ErrorKind → Type 0
IsOther None = Unit {0}
IsOther (Some k) = is_of_call k ≡ false

other_of : (b : Bool) (x y : Option ErrorKind) → IsOther x → IsOther y → IsOther (cond b x y)
other_of true x y h g = h
other_of false x y h g = g

other_name : (k : ErrorKind) → (k ≡ AllocationFailed → ⊥) → (k ≡ NoSuchPlace → ⊥) → is_of_call k ≡ false
other_name AllocationFailed h g = absurd (h refl)
other_name NoSuchPlace h g = absurd (g refl)
other_name k h g = refl

other_refused : (r : Reading) (m m' : Meter) (k : ErrorKind) → Refused plain r m m' k → is_of_call k ≡ false
other_refused r m m' k refused = other_name k (λ e. not_for_memory (subst (λ y. Refused plain r m m' y) e refused)) (λ e. not_for_place (subst (λ y. Refused plain r m m' y) e refused))

other_unfollowed : (r : Reading) (m m' : Meter) (k : ErrorKind) → Unfollowed r m m' k → is_of_call k ≡ false
other_unfollowed r m m' k h = other_refused r m m' k (stops_here (no_target h))

other_withheld : (expected : Expectation) (r : Reading) (m m' : Meter) (k : ErrorKind) → ((n : ℕ) → IsOther (expected.too_deep n)) → ((w : ℕ) → IsOther (expected.another_kind w)) → ((S : Segments) (a : Target) → IsOther (expected.misfit S a)) → RefusesExpected expected r m m' k → is_of_call k ≡ false
other_withheld expected r m m' k levels kinds fits (no_level some deep same) = subst IsOther deep (levels r.levels)
other_withheld expected r m m' k levels kinds fits (unfollowed level h) = other_unfollowed r m m' k h
other_withheld expected r m m' k levels kinds fits (of_another_kind a level follows other paid) = subst IsOther other (kinds a.word)
other_withheld expected r m m' k levels kinds fits (stopped level kind h) = other_refused (one_level r) m m' k (stops_here h)
other_withheld expected r m m' k levels kinds fits (misfits a level kind o other) = subst IsOther other (fits r.segments a)

other_kind : (w : ℕ) → IsOther (struct_expected.another_kind w)
other_kind w = other_of (nat_eq (kind w) 0) None (Some MessageContainsNonStructPointerWhereStructPointerWasExpected) tt refl

other_list : (w : ℕ) → IsOther (any_list.another_kind w)
other_list w = other_of (nat_eq (kind w) 1) None (Some MessageContainsNonListPointerWhereListPointerWasExpected) tt refl

other_unwanted : (w : Wanted) (r : Reading) (m m' : Meter) (k : ErrorKind) → RefusesWanted w r m m' k → is_of_call k ≡ false
other_unwanted Value r m m' k h = absurd h
other_unwanted AStruct r m m' k h = other_withheld struct_expected r m m' k (λ n. other_of (nat_eq n 0) (Some MessageIsTooDeeplyNestedOrContainsCycles) None refl tt) other_kind (λ S a. tt) h
other_unwanted AList r m m' k h =
    other_withheld any_list r m m' k (λ n. other_of (nat_eq n 0) (Some NestingLimitExceeded) None refl tt) other_list (λ S a. other_of (nat_eq (element_size a.word) 1) (Some FoundBitListWhereStructListWasExpected) None refl tt) h

-- what can be copied is neither missing nor unreadable
wanted_there : (w : Wanted) (c : Copying) (r : Reading) (m m' : Meter) (used room : ℕ) (k : ErrorKind) → c.wanted ≡ w → CanBeCopiedAs c r m used room → RefusesWanted w r m m' k → ⊥
wanted_there Value c r m m' used room k is can h = h
wanted_there AStruct c r m m' used room k is can h = not_withheld struct_expected r m m' k (struct_given c r m used room is can) h
wanted_there AList c r m m' used room k is can h = not_withheld (list_expected Void) r m m' k (list_given c r m used room is can) (as_list h)

pub copied_or_refused : (c : Copying) (u : Tree) (k : ErrorKind) → Copies c u → HasNothingToCopy c.source c.wanted k ⊎ IsUnreadable c k → ⊥
copied_or_refused c u k good (inl (inl rootless)) = rootless.0 good.root
copied_or_refused c u k good (inl (inr (has, (m, withheld)))) =
    let x = good.is_read in
    let (copied, is_wanted, is_kept) = kept_of (as_wanted c.wanted good.value) (λ y. u ≡ kept (form_of c.canonicalize) y) good.is_kept in
    let n : ℕ = word_count (kept (form_of c.canonicalize) copied) in
    let can : CanBeCopiedAs c (root_of c.source) (once_at_root c.source) 0 n = record {
      value = good.value;
      cost = x.cost;
      means = x.means;
      takes = x.takes;
      covers = x.covers;
      copied = copied;
      is_wanted = is_wanted;
      fits = omega arith;
    } in wanted_there c.wanted c (root_of c.source) (once_at_root c.source) m 0 n k refl can withheld
copied_or_refused c u k good (inr (has, (m, refused))) = let x = good.is_read in (unreadable refused).only good.value x.cost x.means x.takes x.covers

misplaced_named : (x : Bool) (absent : ErrorKind) → (cond x MessageContainsOutOfBoundsPointer absent ≡ MessageContainsOutOfBoundsPointer) ⊎ (cond x MessageContainsOutOfBoundsPointer absent ≡ absent)
misplaced_named true absent = inl refl
misplaced_named false absent = inr refl

rootless_named : (source : Source) (k : ErrorKind) → IsRootless source k → (k ≡ ReadLimitExceeded) ⊎ (k ≡ MessageContainsOutOfBoundsPointer) ⊎ (k ≡ InvalidSegmentId 0)
rootless_named source k (none, outside, budget) =
    let S : Segments = (root_of source).segments in
    elim (cases_lt 0 (length S)) [
      | inl l ↦ elim (cases_lt 0 (length (segment S 0))) [
        | inl h ↦ inl (budget (l, omega (arith, h)))
        | inr h ↦ by_name (outside (λ holds. omega (arith, h, holds.1)))
      ]
      | inr l ↦ by_name (outside (λ holds. omega (arith, l, holds.0)))
    ]
  where
    by_name : k ≡ misplaced (root_of source).segments 0 (InvalidSegmentId 0) → (k ≡ ReadLimitExceeded) ⊎ (k ≡ MessageContainsOutOfBoundsPointer) ⊎ (k ≡ InvalidSegmentId 0)
    by_name e = elim (misplaced_named (nat_lt 0 (length (root_of source).segments)) (InvalidSegmentId 0)) [ inl f ↦ inr (inl (e ∙ f)) | inr f ↦ inr (inr (e ∙ f)) ]

other_rootless : (k : ErrorKind) → (k ≡ ReadLimitExceeded) ⊎ (k ≡ MessageContainsOutOfBoundsPointer) ⊎ (k ≡ InvalidSegmentId 0) → is_of_call k ≡ false
other_rootless k (inl e) = ap is_of_call e
other_rootless k (inr (inl e)) = ap is_of_call e
other_rootless k (inr (inr e)) = ap is_of_call e

other_unread : (source : Source) (wanted : Wanted) (k : ErrorKind) → HasNothingToCopy source wanted k → is_of_call k ≡ false
other_unread source wanted k (inl rootless) = other_rootless k (rootless_named source k rootless)
other_unread source wanted k (inr (has, (m, withheld))) = other_unwanted wanted (root_of source) (once_at_root source) m k withheld

pub unread_counted : (source : Source) (wanted : Wanted) (k : ErrorKind) (n : ℕ) → HasNothingToCopy source wanted k → n ≡ refusals_after (Some k) n
unread_counted source wanted k n unread = sym (not_the_allocator k (λ e. false≢true (sym (other_unread source wanted k unread) ∙ ap is_of_call e)) n)

-- a copy that is refused with NoSuchPlace changes nothing
pub copy_nowhere : (r : Option ErrorKind) (call : CallAt) (c : Copying) → CopiesWhole call c r → r ≡ Some NoSuchPlace → call.new ≡ call.old
copy_nowhere None call c copies e = absurd (cc)
copy_nowhere (Some k) call c (inl h) e = h.1
copy_nowhere (Some k) call c (inr (m, h)) e =
    absurd (copy_nowhere_as c.wanted c.canonicalize call.segment call.at call.old call.new (root_of c.source) (once_at_root c.source) m k
    (wanted_so c.wanted (root_of c.source) _ (Says (Some k)) (λ o d. RefusesToCopy o d k) (λ o d x. x.1) (wants_of c.wanted (root_of c.source) _ (Says (Some k)) h)) (same_some k NoSuchPlace e))

-- a call that copies what a root leads to
pub root_done : {A : Type 0} (result : Result A ErrorKind) (old new : View) (place : PointerPlace) (c : Copying) → Does old.words new.words place (CopyRoot c) (refusal_of result) → new.refusals ≡ refusals_after (refusal_of result) old.refusals →
    CopiesWhole (call_at place.segment place.word old new) c (refusal_of result) → (FitsBehind old place.segment c → IsOk result) → IsDoneAt old new (AtPointer place) (CopyRoot c) (refusal_of result)
root_done result old new place c copies counts taken fits = record {
  done = copies;
  counted = counts;
  fits = λ room k e. named_refusal result (λ j. is_of_path j ≡ true) k (never_refused result (fits room)) e;
  nowhere = copy_nowhere (refusal_of result) (call_at place.segment place.word old new) c taken;
  ends = λ some. taken;
}
