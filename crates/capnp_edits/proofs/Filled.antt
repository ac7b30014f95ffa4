-- Content of another message's struct, copied over a struct that a pointer leads to or that is an
-- element of a list.
use Rattle.std.proofs.Common.{◌≡◌, ◌⊎◌, inl, inr, ℕ, zero, suc, pred, min, ◌+◌, ◌*◌, ◌/◌, ◌%◌, ◌^◌, ◌<◌, List, [], ◌∷◌, length, Option, Some, None, IsSomeAnd, Result, Ok, Err, IsOk, IfOk, IfErr, OnErr, true, refl, sym, ap, ap₂, ◌∙◌, subst, arith, map}
use Rattle.std.specs.Prelude.{MatchOption}
use Rattle.capnp_words.specs.Meter.{Meter}
use Rattle.capnp_words.specs.declared.error.ErrorKind.{ErrorKind}
use Rattle.capnp_words.specs.declared.error.ErrorKind.TheVariants.{NoSuchPlace}
use Rattle.capnp_arena_traits.specs.View.{View, KeepsLimits}
use Rattle.capnp_arena_traits.specs.declared.arena.reader_arena.ReaderArena.{Ghosts}
use Rattle.capnp_format.specs.Bytes.{words_of}
use Rattle.capnp_format.specs.Forest.{IsForest, target}
use Rattle.capnp_format.specs.Segments.{Segments, Target}
use Rattle.capnp_format.specs.Tree.{Tree, Null, Capability, Struct, Flat, Pointers, Structs, Trees, no_trees, count}
use Rattle.capnp_format.specs.Word.{data_words, pointer_count}
use Rattle.capnp_allocation.specs.Memory.{refusals_for}
use Rattle.capnp_in_place.specs.declared.existing.ExistingStruct.{ExistingStruct}
use Rattle.capnp_in_place.specs.Existing.{struct_in}
use Rattle.capnp_format.specs.Path.{Element, update, put_struct, struct_at}
use Rattle.capnp_allocation.specs.Stored.{IsStored}
use Rattle.capnp_allocation.proofs.Replaced.{forest_stored, forest_updated, stored_within}
use Rattle.capnp_pointers.specs.Outcomes.{ReadsAll}
use Rattle.capnp_pointers.specs.Reading.{Reading, place_past}
use Rattle.capnp_pointers.specs.Refusals.{Refused}
use Rattle.capnp_pointers.proofs.WholeValue.RefusalsNamed.{not_for_place}
use Rattle.capnp_pointers.specs.Demands.{own_charge}
use Rattle.capnp_pointers.specs.Expected.{struct_expected}
use Rattle.capnp_pointers.specs.Faults.{child_at}
use Rattle.capnp_pointers.specs.Spending.{after_charge}
use Rattle.capnp_pointers.specs.Wanted.{plain}
use Rattle.capnp_pointers.specs.declared.object.Purpose.TheVariants.{Value}
use Rattle.capnp_pointers.proofs.WholeValue.ChildrenRead.{read_none, read_stop}
use Rattle.capnp_pointers.proofs.OneObject.ExpectedAsStated.{not_withheld}
use Rattle.capnp_pointers.proofs.Following.FaultlessWhereMeant.{same_target}
use Rattle.capnp_pointers.proofs.WholeValue.UnreadableIfRefused.{unreadable}
use Rattle.capnp_readers.specs.Calls.{WhereRead, IsStructRead}
use Rattle.capnp_readers.specs.Readers.{read_by}
use Rattle.capnp_readers.specs.Sections.{bytes_for}
use Rattle.capnp_readers.specs.Sizes.{pointers_read}
use Rattle.capnp_pointers.specs.declared.pointers.PointerPlace.{PointerPlace}
use Rattle.capnp_readers.specs.declared.readers.PointerReader.{PointerReader}
use Rattle.capnp_readers.specs.declared.readers.struct_reader.StructPlace.{StructPlace}
use Rattle.capnp_readers.specs.declared.readers.struct_reader.StructReader.{StructReader}
use Rattle.capnp_copies.specs.Growth.{TakesAtMost}
use Rattle.capnp_copies.specs.Originals.{children_original}
use Rattle.capnp_builders.specs.StructValues.{data_of}
use Rattle.capnp_copies.proofs.Growth.{none_taken, all_taken}
use Rattle.capnp_copies.proofs.FilledChildren.{no_child}
use Rattle.capnp_copies.specs.Changes.{CopiesChildren, CopiesFirst}
use Rattle.capnp_words.specs.Names.{is_allocation_name}
use Rattle.capnp_builders.specs.Content.{AreCleared, ContentFits, StopsAtContent, TakesBytes, TakesContent, content_byte, fields_from, pointers_copied, up_to, with_content, with_fields}
use Rattle.capnp_builders.specs.Places.{struct_place}
use Rattle.capnp_builders.proofs.ContentTaken.{content_taken, content_stopped}
use Rattle.capnp_builders.proofs.ElementContent.{element_content_taken, element_content_stopped, element_long}
use Rattle.capnp_format.specs.Canonical.{word_count_all}
use Rattle.capnp_allocation.specs.Near.{HasOwnRoom}
use Rattle.capnp_edits.specs.declared.edit.Edit.{Edit}
use Rattle.capnp_edits.specs.declared.edit.Source.{Source}
use Rattle.capnp_edits.specs.declared.edit.copying.Wanted.TheVariants.{Struct as AStruct}
use Rattle.capnp_edits.specs.declared.edit.tasks.Task.TheVariants.{InStruct}
use Rattle.capnp_edits.specs.declared.edit.tasks.Number.{Number}
use Rattle.capnp_edits.specs.declared.edit.tasks.StructChange.{StructChange}
use Rattle.capnp_edits.specs.declared.edit.tasks.StructChange.TheVariants.{Bits, Content}
use Rattle.capnp_edits.specs.Tasks.{task_of}
use Rattle.capnp_edits.specs.Paths.{found, IsElementFound, ElementOf, step_of}
use Rattle.capnp_edits.specs.Sources.{HasRoot, root_of, once_at_root, Sections, LeadsToStruct, no_struct, a_struct, ContentRead, HasNothingToCopy, IsNextUnreadable}
use Rattle.capnp_edits.specs.Edits.{struct_changed, refusal_of, bits_of, fills, is_of_path, PutsBits, are_written, are_outside, refusals_after, IsApplied, EditTakes}
use Rattle.capnp_edits.specs.Steps.{DoesThere, FillsAt, IsStructAt, FitsAt, EndsAt, IsDoneAt, result_of}
use Rattle.capnp_edits.specs.declared.edit.path.PathEnd.TheVariants.{Pointer as AtPointer, Element as AtElement}
use Rattle.capnp_edits.proofs.Taken.{bits_end, bits_ended, bits_lengths, plain_end, writes}
use Rattle.capnp_edits.proofs.Applied.{made, of_allocation, of_no_place, of_place, named_refusal, none_counted, kept_nowhere, never_refused, denied_at, no_struct as is_none, written_at, element_struct, element_end, applied_bits}
use Rattle.capnp_edits.proofs.Copied.{IsRootReader, where_read}
use Rattle.capnp_edits.proofs.CopiedStruct.{struct_at as source_at, struct_there_given, whole_words, whole_bits}
use Rattle.capnp_edits.proofs.Steps.{same_some, first, struct_of}
use Rattle.capnp_edits.proofs.Walks.{list_end, update-append}
use Rattle.capnp_edits.proofs.Ways.{DoesAt, yielded, is_filled, is_half_filled, is_not_filled, leads_to, takes}
use Rattle.capnp_pointers.proofs.Following.LeadsWhereFollowed.{entered_leads}

-- The pointers that the source's struct and a struct of q pointers in segment id both have can be
-- read, and the words of what they mean fit after those of that segment.
abbrev pub ContentFitsBehind : View → ℕ → Source → ℕ → Type 0
ContentFitsBehind v id source q = (all : ContentRead source) × (count all.children ≡ min q all.from.pointers) × HasOwnRoom v id (word_count_all all.children)

-- the reader v has the sections of the source's struct
abbrev sections_read : {A : Type 0} (g : Ghosts A) → StructReader A g → Meter → Sections
sections_read g v n = record { words = words_of v.content.now; first = pointers_read g v; pointers = v.pointer_count; limiter = n }

record SourceStruct {A : Type 0} (g : Ghosts A) (source : Source) (v : StructReader A g) (n : Meter) : Type 0 where
  leads : LeadsToStruct (root_of source) (once_at_root source) (sections_read g v n)
  bits : v.bits ≡ 64 * length (words_of v.content.now)

source_struct : {A : Type 0} (g : Ghosts A) (source : Source) (from : PointerReader A g) (v : StructReader A g) (m n : Meter) → IsRootReader g source from m → length v.content.now ≡ bytes_for v.bits →
    WhereRead g (record { from = from; expected = struct_expected; default = None }) (λ p. IsStructRead g p m n v) → SourceStruct g source v n
source_struct g source from v m n opened long read =
    let there : IsStructRead g from m n v = where_read g struct_expected from (λ p. IsStructRead g p m n v) read in
    let all = whole_words v.content.now v.bits long (whole_bits g from m n v there) in
    let leads : LeadsToStruct (read_by g from) m (record { words = data_of g v; first = pointers_read g v; pointers = v.pointer_count; limiter = n }) = source_at g from m n v long there in
    let of_words : LeadsToStruct (read_by g from) m (sections_read g v n) =
    subst (λ w. LeadsToStruct (read_by g from) m (record { words = w; first = pointers_read g v; pointers = v.pointer_count; limiter = n })) all.0 leads in
    record {
      leads =
          subst (λ y. LeadsToStruct (root_of source) y (sections_read g v n)) opened.2
          (subst (λ r. LeadsToStruct r m (sections_read g v n)) opened.1 of_words);
      bits = all.1;
    }

-- From old to new the content of a source's struct is copied over the struct at a place, with
-- outcome r; then the same, or there is no struct to copy.
pub record FillingAt (old new : View) (place : StructPlace) (source : Source) (r : Option ErrorKind) : Type 0 where
  pub root : HasRoot source
  pub from : Sections
  pub leads : LeadsToStruct (root_of source) (once_at_root source) from
  pub bytes : List ℕ
  pub are_words : words_of bytes ≡ from.words
  pub taken : View
  pub limits : KeepsLimits old taken
  pub takes : TakesBytes old.words taken.words place (64 * length from.words) bytes
  pub after : Meter
  pub copies : let call = pointers_copied place taken new from.limiter after in MatchOption r (CopiesChildren from.first (min place.pointers from.pointers) call) (CopiesFirst from.first (min place.pointers from.pointers) call)
  pub few : TakesAtMost (result_of r) (children_original from.first (min place.pointers from.pointers)) (pointers_copied place old new from.limiter after)

abbrev pub FillsPlace : View → View → StructPlace → Source → Option ErrorKind → Type 0
FillsPlace old new place source r = (IsSomeAnd r (HasNothingToCopy source AStruct) × (new ≡ old)) ⊎ FillingAt old new place source r

-- the data section of a struct has whole bytes
content_bytes : (S : Segments) (e : ExistingStruct) (bits : ℕ) (bytes : List ℕ) → with_content S (struct_place e) bits bytes ≡ with_fields S e.segment (fields_from (64 * e.start) 8 (content_byte bits bytes)) (8 * e.size.data_words)
content_bytes S e bits bytes =
    let f : ℕ → ℕ = content_byte bits bytes in
    let d : ℕ = e.size.data_words in
    let s : ℕ = e.segment in
    ap (λ k. with_fields (with_fields S s (fields_from (8 * (8 * e.start)) 8 f) (64 * d / 8)) s (fields_from (8 * (8 * e.start) + 64 * d / 8 * 8) 1 (λ j. f (64 * d / 8) / 2 ^ j % 2)) k) (let z : 64 * d % 8 ≡ 0 = omega arith in z)
    ∙ ap₂ (λ b k. with_fields S s (fields_from b 8 f) k) (let z : 8 * (8 * e.start) ≡ 64 * e.start = omega arith in z) (let z : 64 * d / 8 ≡ 8 * d = omega arith in z)

pub fills_struct : {old new : View} {e : ExistingStruct} {source : Source} {r : Option ErrorKind} → FillsPlace old new (struct_place e) source r → FillsAt old new e source r
fills_struct (inl h) = inl h
fills_struct {old = old} {e = e} (inr f) = inr (record {
  root = f.root;
  from = f.from;
  leads = f.leads;
  bytes = f.bytes;
  are_words = f.are_words;
  taken = f.taken;
  limits = f.limits;
  takes = subst (λ S. AreCleared S f.taken.words e.segment (e.start + e.size.data_words) e.size.pointers) (content_bytes old.words e (64 * length f.from.words) f.bytes) f.takes;
  after = f.after;
  copies = f.copies;
  few = f.few;
})

struct_filled : {old new : View} {e : ExistingStruct} {source : Source} {r : Option ErrorKind} → FillsAt old new e source r → FillsPlace old new (struct_place e) source r
struct_filled (inl h) = inl h
struct_filled {old = old} {e = e} (inr f) = inr (record {
  root = f.root;
  from = f.from;
  leads = f.leads;
  bytes = f.bytes;
  are_words = f.are_words;
  taken = f.taken;
  limits = f.limits;
  takes = subst (λ S. AreCleared S f.taken.words e.segment (e.start + e.size.data_words) e.size.pointers) (sym (content_bytes old.words e (64 * length f.from.words) f.bytes)) f.takes;
  after = f.after;
  copies = f.copies;
  few = f.few;
})

-- what was read of the source's struct: the values ts of the first pointers
abbrev content_read : {old new : View} {place : StructPlace} {source : Source} {r : Option ErrorKind} (f : FillingAt old new place source r) (m : Meter) (ts : Trees) → ReadsAll plain f.from.first f.from.limiter m ts → ContentRead source
content_read f m ts are_read = record {
  root = f.root;
  from = f.from;
  leads = f.leads;
  after = m;
  children = ts;
  are_read = are_read;
  bytes = f.bytes;
  are_words = f.are_words;
}

abbrev all_read : {old new : View} {place : StructPlace} {source : Source} → FillingAt old new place source None → ContentRead source
all_read f = content_read f f.after f.copies.children f.copies.are_read

abbrev first_read : {old new : View} {place : StructPlace} {source : Source} {k : ErrorKind} → FillingAt old new place source (Some k) → ContentRead source
first_read f = content_read f f.copies.between f.copies.first f.copies.are_read

-- why not all pointers are copied
why_stopped : {old new : View} {place : StructPlace} {source : Source} {k : ErrorKind} (f : FillingAt old new place source (Some k)) → (is_allocation_name k ≡ true) ⊎ IsNextUnreadable source (first_read f) k
why_stopped {old} {new} {place} {source} {k} f = elim f.copies.why [
  | inl h ↦ inl (of_allocation f.taken new (length new.words) (h.0.0 + 1) k h.0.2.0.0)
  | inr h ↦ inr (f.after, h)
]

-- what copying over a struct leaves
pub fill_done : {A B : Type 0} (result : Result B ErrorKind) (g : Ghosts A) (source : Source) (from : PointerReader A g) (v : StructReader A g) (m n m' : Meter) (old new : View) (place : StructPlace) → IsRootReader g source from m →
    length v.content.now ≡ bytes_for v.bits → WhereRead g (record { from = from; expected = struct_expected; default = None }) (λ p. IsStructRead g p m n v) → IfOk result (λ x. TakesContent g v place (pointers_copied place old new n m')) →
    IfErr result (StopsAtContent g v place (pointers_copied place old new n m')) → TakesAtMost result (children_original (pointers_read g v) (min place.pointers v.pointer_count)) (pointers_copied place old new n m') → FillsPlace old new place source (refusal_of result)
fill_done (Ok x) g source from v m n m' old new place opened long read (mid, taking, copies) refused few =
    let s = source_struct g source from v m n opened long read in
    inr (record { root = opened.0; from = sections_read g v n; leads = s.leads; bytes = v.content.now; are_words = refl; taken = mid; limits = taking.limits; takes = rw (← s.bits) taking.cleared; after = m'; copies = copies; few = few })
fill_done (Err k) g source from v m n m' old new place opened long read copied (mid, taking, stops) few =
    let s = source_struct g source from v m n opened long read in
    inr (record { root = opened.0; from = sections_read g v n; leads = s.leads; bytes = v.content.now; are_words = refl; taken = mid; limits = taking.limits; takes = rw (← s.bits) taking.cleared; after = m'; copies = stops; few = few })

pub fill_counted : {A B : Type 0} (result : Result B ErrorKind) (g : Ghosts A) (v : StructReader A g) (n m' : Meter) (old new : View) (place : StructPlace) → IfOk result (λ x. TakesContent g v place (pointers_copied place old new n m')) →
    IfErr result (StopsAtContent g v place (pointers_copied place old new n m')) → new.refusals ≡ refusals_after (refusal_of result) old.refusals
fill_counted (Ok x) g v n m' old new place (mid, taking, copies) refused = ap (λ (y : View). y.refusals) copies.memory.0 ∙ ap (λ (y : View). y.refusals) taking.limits
fill_counted (Err k) g v n m' old new place copied (mid, taking, stops) = stops.memory.2 ∙ ap (refusals_for k) (ap (λ (y : View). y.refusals) taking.limits)

-- a refusal with NoSuchPlace changes nothing
pub fill_nowhere : (r : Option ErrorKind) (old new : View) (place : StructPlace) (source : Source) → FillsPlace old new place source r → r ≡ Some NoSuchPlace → new ≡ old
fill_nowhere None old new place source filled n = absurd (cc)
fill_nowhere (Some k) old new place source (inl h) n = h.1
fill_nowhere (Some k) old new place source (inr f) n =
    let nowhere : k ≡ NoSuchPlace = same_some k NoSuchPlace n in
    absurd (elim (why_stopped f) [
      | inl memory ↦ of_no_place k memory nowhere
      | inr (m, refused) ↦ not_for_place (subst (λ y. Refused plain (place_past f.from.first (count f.copies.first)) f.copies.between m y) nowhere refused)
    ])

-- copying content over a struct without words changes nothing
pub fill_nothing : {A : Type 0} (g : Ghosts A) (source : Source) (from : PointerReader A g) (v : StructReader A g) (m n : Meter) (old : View) (e : ExistingStruct) → IsRootReader g source from m → length v.content.now ≡ bytes_for v.bits →
    WhereRead g (record { from = from; expected = struct_expected; default = None }) (λ p. IsStructRead g p m n v) → e.size.data_words + e.size.pointers ≡ 0 → FillsPlace old old (struct_place e) source None
fill_nothing g source from v m n old e opened long read empty =
    let s = source_struct g source from v m n opened long read in
    let no_data : e.size.data_words ≡ 0 = omega (arith, empty) in
    let no_pointers : e.size.pointers ≡ 0 = omega (arith, empty) in
    let none : 0 ≡ min e.size.pointers v.pointer_count = omega (arith, no_pointers) in
    inr (record {
      root = opened.0;
      from = sections_read g v n;
      leads = s.leads;
      bytes = v.content.now;
      are_words = refl;
      taken = old;
      limits = refl;
      takes = rw (no_data, no_pointers) refl;
      after = n;
      copies = subst (λ i. CopiesChildren (pointers_read g v) i (pointers_copied (struct_place e) old old n n)) none (no_child (pointers_read g v) plain (struct_place e).segment (struct_place e).pointers_at old n);
      few = all_taken none (none_taken (pointers_read g v) plain (struct_place e).segment old n);
    })

-- bits that are written, or that the struct doesn't have
bits_put : (old new : View) (e : ExistingStruct) (n : Number) (r : Option ErrorKind) → PutsBits old.words new.words e (bits_of n) r → DoesThere old new (AtElement e) (InStruct (Bits n)) r
bits_put old new e n r (are_written starts ends done written) = inl (starts, ends, done, written)
bits_put old new e n r (are_outside past named same) = inr (past, named, same)

puts_bits : (old new : View) (e : ExistingStruct) (n : Number) (r : Option ErrorKind) → DoesThere old new (AtElement e) (InStruct (Bits n)) r → PutsBits old.words new.words e (bits_of n) r
puts_bits old new e n r (inl (starts, ends, done, written)) = are_written starts ends done written
puts_bits old new e n r (inr (past, named, same)) = are_outside past named same

-- how a call changes a struct
pub bits_changed : {A : Type 0} (result : Result A ErrorKind) (old new : View) (e : ExistingStruct) (n : Number) → PutsBits old.words new.words e (bits_of n) (refusal_of result) → KeepsLimits old new → IfErr result (λ k. k ≡ NoSuchPlace) →
    OnErr result (new ≡ old) → IsDoneAt old new (AtElement e) (InStruct (Bits n)) (refusal_of result)
bits_changed result old new e n puts limits named kept = record {
  done = bits_put old new e n (refusal_of result) puts;
  counted = none_counted result old.refusals new.refusals (ap (λ (v : View). v.refusals) limits) (of_place result named);
  fits = λ room k e. named_refusal result (λ j. is_of_path j ≡ true) k (of_place result named) e;
  nowhere = kept_nowhere result old new kept;
  ends = λ some. bits_end old new n (refusal_of result) (AtElement e)
      (plain_end result old new (writes old new limits (bits_lengths old.words new.words e (bits_of n) (refusal_of result) puts)) (of_place result named) kept);
}

pub content_changed : {A : Type 0} (result : Result A ErrorKind) (old new : View) (e : ExistingStruct) (source : Source) → FillsAt old new e source (refusal_of result) → new.refusals ≡ refusals_after (refusal_of result) old.refusals →
    (FitsAt old (InStruct (Content source)) (AtElement e) → IsOk result) → IsDoneAt old new (AtElement e) (InStruct (Content source)) (refusal_of result)
content_changed result old new e source filled counted fits = record {
  done = filled;
  counted = counted;
  fits = λ room k is. named_refusal result (λ j. is_of_path j ≡ true) k (never_refused result (fits room)) is;
  nowhere = fill_nowhere (refusal_of result) old new (struct_place e) source (struct_filled filled);
  ends = λ some. (e, refl, filled);
}

-- at a struct that a pointer leads to
filled_struct : (old new : View) (place : PointerPlace) (source : Source) (r : Option ErrorKind) (ws : List ℕ) (ts : Trees) → IsStored old.words place.segment place.word (Struct ws ts) →
    FillsPlace old new (struct_place (struct_of (target old.words place.segment place.word).segment (target old.words place.segment place.word).start (length ws) (count ts))) source r →
    DoesAt old.words new.words place (struct_changed (Content source) (Struct ws ts)) (Struct ws ts) r
filled_struct old new place source r ws ts stored (inl (unread, same)) = filled_none r unread
  where
    filled_none : (q : Option ErrorKind) → IsSomeAnd q (HasNothingToCopy source AStruct) → DoesAt old.words new.words place (struct_changed (Content source) (Struct ws ts)) (Struct ws ts) q
    filled_none (Some k) why = (None, yielded (is_not_filled source (length ws) (count ts) k refl why refl refl), ap (λ (v : View). v.words) same)
    filled_none None why = absurd why
filled_struct old new place source None ws ts stored (inr f) =
    let (vs, holds, replaced, leads) =
    content_taken old.words f.taken.words new.words place.segment place.word ws ts f.copies.children (struct_place (struct_of (target old.words place.segment place.word).segment (target old.words place.segment place.word).start (length ws) (count ts))) (64 * length f.from.words) f.bytes stored refl f.takes f.copies.made (omega (arith, f.copies.counts)) in
    let u : Tree = Struct vs (up_to (count ts) f.copies.children) in
    (Some u, yielded (is_filled source (length ws) (count ts) u refl (all_read f, (vs, holds, refl), f.copies.counts) refl refl), replaced)
filled_struct old new place source (Some k) ws ts stored (inr f) =
    let (vs, holds, replaced, leads) =
    content_stopped old.words f.taken.words f.copies.filled new.words place.segment place.word ws ts f.copies.first (struct_place (struct_of (target old.words place.segment place.word).segment (target old.words place.segment place.word).start (length ws) (count ts))) (64 * length f.from.words) f.bytes stored refl f.takes f.copies.made (omega (arith, f.copies.fewer)) f.copies.cleared in
    let u : Tree = Struct vs (up_to (count ts) f.copies.first) in
    (Some u, yielded (is_half_filled source (length ws) (count ts) k u refl (first_read f, (vs, holds, refl), f.copies.fewer, why_stopped f) refl refl), replaced)

filled_value : (old new : View) (place : PointerPlace) (source : Source) (r : Option ErrorKind) (e : ExistingStruct) (t : Tree) → Some e ≡ struct_in (target old.words place.segment place.word) t → FillsAt old new e source r → IsStored old.words place.segment place.word t →
    DoesAt old.words new.words place (struct_changed (Content source) t) t r
filled_value old new place source r e (Struct ws ts) is_e h stored =
    let a = target old.words place.segment place.word in
    filled_struct old new place source r ws ts stored (subst (λ x. FillsPlace old new (struct_place x) source r) (same_some e (struct_of a.segment a.start (length ws) (count ts)) is_e) (struct_filled h))
filled_value old new place source r e Null is_e h stored = absurd (cc)
filled_value old new place source r e (Capability j) is_e h stored = absurd (cc)
filled_value old new place source r e (Flat size ns) is_e h stored = absurd (cc)
filled_value old new place source r e (Pointers ts) is_e h stored = absurd (cc)
filled_value old new place source r e (Structs d q es) is_e h stored = absurd (cc)

-- a change of the struct that a pointer leads to
changed_at : (old new : View) (place : PointerPlace) (change : StructChange) (r : Option ErrorKind) (e : ExistingStruct) (t : Tree) → Some e ≡ struct_in (target old.words place.segment place.word) t → DoesThere old new (AtElement e) (InStruct change) r → IsStored old.words place.segment place.word t →
    DoesAt old.words new.words place (struct_changed change t) t r
changed_at old new place (Bits n) r e t is_e h stored = written_at old.words new.words place n r e t is_e (puts_bits old new e n r h) stored
changed_at old new place (Content source) r e t is_e h stored = filled_value old new place source r e t is_e h stored

-- how a change of that struct ends, and the room for it
fits_at : (old : View) (place : PointerPlace) (change : StructChange) (e : ExistingStruct) → IsStructAt old.words (AtPointer place) e → FitsAt old (InStruct change) (AtPointer place) → FitsAt old (InStruct change) (AtElement e)
fits_at old place (Bits n) e there room = tt
fits_at old place (Content source) e there room = λ x is. subst (λ (y : ExistingStruct). ContentFitsBehind old y.segment source y.size.pointers) (sym is) (room e there)

ends_at : (old new : View) (place : PointerPlace) (change : StructChange) (r : Option ErrorKind) (e : ExistingStruct) → IsStructAt old.words (AtPointer place) e → EndsAt old new (InStruct change) r (AtElement e) → EndsAt old new (InStruct change) r (AtPointer place)
ends_at old new place (Bits n) r e there h = bits_end old new n r (AtPointer place) (bits_ended old new n r (AtElement e) h)
ends_at old new place (Content source) r e there (x, is, h) = (e, there, subst (λ (y : ExistingStruct). FillsAt old new y source r) is h)

found_struct : (a : Target) (t : Tree) (e : ExistingStruct) → Some e ≡ struct_in a t → (ws : List ℕ) × (ts : Trees) × (t ≡ Struct ws ts) × (e ≡ struct_of a.segment a.start (length ws) (count ts))
found_struct a (Struct ws ts) e is_e = (ws, ts, refl, same_some e (struct_of a.segment a.start (length ws) (count ts)) is_e)
found_struct a Null e is_e = absurd (cc)
found_struct a (Capability j) e is_e = absurd (cc)
found_struct a (Flat size ns) e is_e = absurd (cc)
found_struct a (Pointers ts) e is_e = absurd (cc)
found_struct a (Structs d q es) e is_e = absurd (cc)

pub change_done : (old new : View) (place : PointerPlace) (change : StructChange) (r : Option ErrorKind) (e : ExistingStruct) → ((t : Tree) → IsStored old.words place.segment place.word t → Some e ≡ struct_in (target old.words place.segment place.word) t) →
    IsDoneAt old new (AtElement e) (InStruct change) r → IsDoneAt old new (AtPointer place) (InStruct change) r
change_done old new place change r e found changed =
    let there : IsStructAt old.words (AtPointer place) e = λ t stored. found_struct (target old.words place.segment place.word) t e (found t stored) in
    record {
      done = λ t stored. changed_at old new place change r e t (found t stored) changed.done stored;
      counted = changed.counted;
      fits = λ room. changed.fits (fits_at old place change e there room);
      nowhere = changed.nowhere;
      ends = λ some. ends_at old new place change r e there (changed.ends some);
    }

-- a change of a struct that isn't there
pub nothing_changed : (v : View) (place : PointerPlace) (change : StructChange) → ((t : Tree) → IsStored v.words place.segment place.word t → None ≡ struct_in (target v.words place.segment place.word) t) → IsDoneAt v v (AtPointer place) (InStruct change) (Some NoSuchPlace)
nothing_changed v place change none = record {
  done = λ t stored. denied_at NoSuchPlace (is_none (target v.words place.segment place.word) change t (none t stored)) refl refl;
  counted = refl;
  fits = λ room k e. ap is_of_path (sym (same_some NoSuchPlace k e));
  nowhere = λ e. refl;
  ends = λ some. absurd (some refl);
}

-- at an element of a list
filled_element : (old new : View) (e : Edit) (s : ExistingStruct) (source : Source) (r : Option ErrorKind) → task_of e.op ≡ Some (InStruct (Content source)) → ((t : Tree) → IsStored old.words 0 0 t → IsElementFound old.words 0 0 t (map step_of e.path.now) s) →
    FillsAt old new s source r → IsApplied (EditTakes e r) old.words new.words
filled_element old new e s source r is leads h t forest =
    let S = old.words in
    let stored = forest_stored S t forest in
    let f = leads t stored in
    let d : ℕ = s.size.data_words in
    let q : ℕ = s.size.pointers in
    let list : Tree = Structs d q f.elements in
    let (ws, ts, at) = element_struct f.elements f.index f.counts in
    let there = stored_within S 0 0 t f.front f.list_segment f.list_at list f.leads stored in
    let long = element_long S f.list_segment f.list_at d q f.elements f.index ws ts there f.counts at in
    let end_value = element_end S e s t f ws ts at in
    let makes : made (task_of e.op) (ElementOf (Struct ws ts)) ≡ fills source d q = ap (λ o. made o (ElementOf (Struct ws ts))) is ∙ ap₂ (fills source) long.0 long.1 in
    done_there r f ws ts at there end_value makes (struct_filled h)
  where
    done_there : (z : Option ErrorKind) (f : IsElementFound old.words 0 0 t (map step_of e.path.now) s) (ws : List ℕ) (ts : Trees) → struct_at f.elements f.index ≡ Struct ws ts →
        IsStored old.words f.list_segment f.list_at (Structs s.size.data_words s.size.pointers f.elements) → found t (map step_of e.path.now) ≡ Some (ElementOf (Struct ws ts)) →
        made (task_of e.op) (ElementOf (Struct ws ts)) ≡ fills source s.size.data_words s.size.pointers → FillsPlace old new (struct_place s) source z → (u : Tree) × IsForest new.words u × EditTakes e z t u
    done_there None f ws ts at there end_value makes (inr h) =
        let d : ℕ = s.size.data_words in
        let q : ℕ = s.size.pointers in
        let list : Tree = Structs d q f.elements in
        let (vs, holds, replaced) =
        element_content_taken old.words h.taken.words new.words f.list_segment f.list_at d q f.elements f.index ws ts h.copies.children (struct_place s) (64 * length h.from.words) h.bytes there f.counts at
        (ap₂ (λ (u b : ℕ). struct_place (record { segment = u; start = b; size = s.size })) f.segment_is f.start_is) h.takes h.copies.made (omega (arith, h.copies.counts)) in
        let y : Tree = Struct vs (up_to q h.copies.children) in
        let path : update t (map step_of e.path.now) y ≡ update t f.front (Structs d q (put_struct f.elements f.index y)) =
        ap (λ p. update t p y) f.path_is ∙ update-append t f.front (Element f.index ∷ []) list y (list_end f) in (
          update t f.front (Structs d q (put_struct f.elements f.index y)),
          forest_updated old.words new.words t f.front f.list_segment f.list_at list (Structs d q (put_struct f.elements f.index y)) forest f.leads replaced,
          takes e None t (leads_to (ElementOf (Struct ws ts)) (Some y) end_value
              (yielded (is_filled source d q y makes
              (all_read h, (vs, holds, refl), h.copies.counts) refl refl)) (sym path)),
        )
    done_there (Some k) f ws ts at there end_value makes (inr h) =
        let d : ℕ = s.size.data_words in
        let q : ℕ = s.size.pointers in
        let list : Tree = Structs d q f.elements in
        let (vs, holds, replaced) =
        element_content_stopped old.words h.taken.words h.copies.filled new.words f.list_segment f.list_at d q f.elements f.index ws ts h.copies.first (struct_place s) (64 * length h.from.words) h.bytes there f.counts at
        (ap₂ (λ (u b : ℕ). struct_place (record { segment = u; start = b; size = s.size })) f.segment_is f.start_is) h.takes h.copies.made (omega (arith, h.copies.fewer)) h.copies.cleared in
        let y : Tree = Struct vs (up_to q h.copies.first) in
        let path : update t (map step_of e.path.now) y ≡ update t f.front (Structs d q (put_struct f.elements f.index y)) =
        ap (λ p. update t p y) f.path_is ∙ update-append t f.front (Element f.index ∷ []) list y (list_end f) in (
          update t f.front (Structs d q (put_struct f.elements f.index y)),
          forest_updated old.words new.words t f.front f.list_segment f.list_at list (Structs d q (put_struct f.elements f.index y)) forest f.leads replaced,
          takes e (Some k) t (leads_to (ElementOf (Struct ws ts)) (Some y) end_value
              (yielded (is_half_filled source d q k y makes
              (first_read h, (vs, holds, refl), h.copies.fewer, why_stopped h) refl refl)) (sym path)),
        )
    done_there (Some k) f ws ts at there end_value makes (inl (unread, same)) =
        (t, subst (λ (v : View). IsForest v.words t) (sym same) forest, takes e (Some k) t (leads_to (ElementOf (Struct ws ts)) None end_value (yielded (is_not_filled source s.size.data_words s.size.pointers k makes unread refl refl)) refl))
    done_there None f ws ts at there end_value makes (inl (unread, same)) = absurd unread

-- a change of an element
pub element_applied : (old new : View) (e : Edit) (s : ExistingStruct) (change : StructChange) (r : Option ErrorKind) → task_of e.op ≡ Some (InStruct change) → ((t : Tree) → IsStored old.words 0 0 t → IsElementFound old.words 0 0 t (map step_of e.path.now) s) →
    DoesThere old new (AtElement s) (InStruct change) r → IsApplied (EditTakes e r) old.words new.words
element_applied old new e s (Bits n) r is leads h = applied_bits old.words new.words e s n r is leads (puts_bits old new s n r h)
element_applied old new e s (Content source) r is leads h = filled_element old new e s source r is leads h

-- a place leads to at most one struct
same_struct : {r : Reading} {m : Meter} {s z : Sections} → LeadsToStruct r m s → LeadsToStruct r m z → 0 < s.pointers → (s.first ≡ z.first) × (s.limiter ≡ z.limiter) × (s.pointers ≡ z.pointers)
same_struct (no_struct null ws none same) other some = absurd (omega (arith, none, some))
same_struct (a_struct a o k ws start n) (no_struct null us none same) some = absurd (o.follows.0 null)
same_struct {r} {m} (a_struct a o k ws start n) (a_struct b i l us at c) some =
    let e : a ≡ b = same_target r.segments r.segment r.at (entered_leads o).1 (entered_leads i).1 in (
      start ∙ ap (λ (x : Target). child_at r x (pred r.levels) (x.start + data_words x.word)) e ∙ sym at,
      o.spent ∙ ap (λ x. after_charge r.charging m (own_charge Value r.segments x) 1) e ∙ sym i.spent,
      n ∙ ap (λ (x : Target). pointer_count x.word) e ∙ sym c,
    )

-- content whose pointers can be read isn't refused for what is read
pub filled_or_refused : (source : Source) (q : ℕ) (k : ErrorKind) (all : ContentRead source) → count all.children ≡ min q all.from.pointers →
    HasNothingToCopy source AStruct k ⊎ ((some : ContentRead source) × (count some.children < min q some.from.pointers) × IsNextUnreadable source some k) → ⊥
filled_or_refused source q k whole counts (inl (inl rootless)) = rootless.0 whole.root
filled_or_refused source q k whole counts (inl (inr (has, (m, withheld)))) = not_withheld struct_expected (root_of source) (once_at_root source) m k (struct_there_given whole.leads) withheld
filled_or_refused source q k whole counts (inr (part, fewer, (m, refused))) =
    let (place, limiter, pointers) = same_struct part.leads whole.leads (omega (arith, fewer)) in
    let x = whole.are_read in
    let moved : ReadsAll plain part.from.first part.from.limiter whole.after whole.children =
    subst (λ y. ReadsAll plain part.from.first y whole.after whole.children) (sym limiter) (subst (λ f. ReadsAll plain f whole.from.limiter whole.after whole.children) (sym place) x) in
    (read_stop (min q part.from.pointers) part.are_read fewer (unreadable refused)).only whole.children moved.cost (counts ∙ ap (min q) (sym pointers)) moved.means moved.takes moved.covers

-- content that can be read, and has room, isn't refused
pub fill_unread : (v : View) (id : ℕ) (source : Source) (q : ℕ) (k : ErrorKind) → HasNothingToCopy source AStruct k → ContentFitsBehind v id source q → ⊥
fill_unread v id source q k unread (all, counts, room) = filled_or_refused source q k all counts (inl unread)

pub fill_fits : {A : Type 0} (g : Ghosts A) (source : Source) (from : PointerReader A g) (v : StructReader A g) (m n m' : Meter) (old new : View) (place : StructPlace) → IsRootReader g source from m → length v.content.now ≡ bytes_for v.bits →
    WhereRead g (record { from = from; expected = struct_expected; default = None }) (λ p. IsStructRead g p m n v) → ContentFitsBehind old place.segment source place.pointers → ContentFits g v place (pointers_copied place old new n m')
fill_fits g source from v m n m' old new place opened long read (all, counts, room) = go all.from.pointers v.pointer_count refl refl
  where
    s : SourceStruct g source v n
    s = source_struct g source from v m n opened long read

    given : 0 < all.from.pointers → ContentFits g v place (pointers_copied place old new n m')
    given some =
        let (first, limiter, pointers) = same_struct all.leads s.leads some in
        record {
          small = λ k none. absurd none;
          value = all.children;
          after = all.after;
          is_read = (
            counts ∙ ap (min place.pointers) pointers,
            subst (λ y. ReadsAll plain (pointers_read g v) y all.after all.children) limiter (subst (λ f. ReadsAll plain f all.from.limiter all.after all.children) first all.are_read),
          );
          room = room;
        }

    go : (i j : ℕ) → all.from.pointers ≡ i → v.pointer_count ≡ j → ContentFits g v place (pointers_copied place old new n m')
    go (suc i) j some is = given (omega (arith, some))
    go zero (suc j) none some =
        let (first, limiter, pointers) = same_struct s.leads all.leads (omega (arith, some)) in
        absurd (omega (arith, none, some, pointers))
    go zero zero none empty = record { small = λ k none. absurd none; value = no_trees; after = n; is_read = (omega (arith, empty), read_none plain (pointers_read g v) n); room = omega (arith, room) }
