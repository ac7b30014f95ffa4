-- What a child is once a value that was read is copied there.
use Rattle.std.proofs.Common.{◌≡◌, inl, inr, ℕ, ◌+◌, ◌<◌, ◌≤◌, length, Result, Ok, Err, IfOk, IfErr, refl, sym, ap, ap₂, ◌∙◌, subst, arith}
use Rattle.capnp_words.specs.Meter.{Meter}
use Rattle.capnp_words.specs.Sizes.{size_number}
use Rattle.capnp_words.specs.declared.error.ErrorKind.{ErrorKind}
use Rattle.capnp_words.specs.declared.wire_pointer.ElementSize.{ElementSize}
use Rattle.capnp_words.specs.declared.wire_pointer.ElementSize.TheVariants.{Void, Bit, Byte, TwoBytes, FourBytes, EightBytes, Pointer, InlineComposite}
use Rattle.capnp_words.specs.declared.wire_pointer.StructSize.{StructSize}
use Rattle.capnp_format.specs.Bytes.{words_of}
use Rattle.capnp_format.specs.Numbers.{words_for, unpacked}
use Rattle.capnp_format.specs.Tree.{Tree, Null, Capability, Struct, Flat, Pointers, Structs, Trees, no_trees, tree, Elements, no_elements, element, count, element_count}
use Rattle.capnp_format.proofs.Levels.{one_value}
use Rattle.capnp_arena_traits.specs.View.{View}
use Rattle.capnp_arena_traits.specs.declared.arena.reader_arena.ReaderArena.{Ghosts}
use Rattle.capnp_format.specs.Path.{tree_at}
use Rattle.capnp_format.specs.Segments.{segment}
use Rattle.capnp_allocation.specs.Stored.{Puts}
use Rattle.capnp_allocation.proofs.Memory.{keeps_both, keeps_then_spends}
use Rattle.capnp_in_place.specs.Anew.{OnlyWrites}
use Rattle.capnp_in_place.proofs.MovedPointers.RewrittenInTurn.{keeps_writes}
use Rattle.capnp_pointers.specs.Reading.{Reading, words_from}
use Rattle.capnp_pointers.specs.Wanted.{plain}
use Rattle.capnp_readers.specs.Readers.{read_by}
use Rattle.capnp_readers.specs.Sizes.{pointers_read}
use Rattle.capnp_readers.specs.Values.{HasValue, ShowsListOf, ShowsStructOf, first_element, struct_children, struct_data}
use Rattle.capnp_readers.specs.declared.readers.PointerReader.{PointerReader}
use Rattle.capnp_readers.specs.declared.readers.list_reader.ListReader.{ListReader}
use Rattle.capnp_readers.specs.declared.readers.struct_reader.StructPlace.{StructPlace}
use Rattle.capnp_readers.specs.declared.readers.struct_reader.StructReader.{StructReader}
use Rattle.capnp_copies.specs.Changes.{copy_call}
use Rattle.capnp_copies.specs.Growth.{TakesAtMost, TakesNone}
use Rattle.capnp_copies.specs.Originals.{Original, list_original, value_original}
use Rattle.capnp_copies.specs.Rooms.{CanBeCopied}
use Rattle.capnp_copies.proofs.Growth.{list_until_within, list_within, none_itself, sections_until_within, sections_within, taken_so, until_within, value_within}
use Rattle.capnp_copies.proofs.Originals.{lacks_before}
use Rattle.capnp_builders.specs.ListValues.{list_read}
use Rattle.capnp_builders.specs.StructValues.{data_of, section_words, struct_read}
use Rattle.capnp_builders.proofs.DataSections.{whole_section}
use Rattle.capnp_builders.proofs.ListValues.{first_read, numbers_held}
use Rattle.capnp_builders.specs.Held.{MakesChild, call_in}
use Rattle.capnp_builders.specs.Kept.{LeavesCleared, PutsCopy}
use Rattle.capnp_builders.proofs.CopiesHeld.{words_refused_later}
use Rattle.capnp_builders.proofs.HeldStructs.{child_replaced, child_set, child_stored}
use Rattle.typed_building.specs.Copied.{IsNotCopied, ReadsToCopy, copied_list, copied_struct, empty_list}
use Rattle.typed_building.specs.There.{call_on}
use Rattle.typed_building.proofs.Means.{one_list, one_row}

-- the copy, or null after a refusal
pub child_copied : {X : Type 0} (r : Result X ErrorKind) (o : Original Tree) (old new : View) (before after : Meter) (place : StructPlace) (i : ℕ) (u : Tree) → i < place.pointers → ((v : Tree) → o.reads plain before after v → v ≡ u) →
    IfOk r (λ _. PutsCopy o (copy_call plain (call_on place i old new) before after)) → IfErr r (LeavesCleared o (copy_call plain (call_on place i old new) before after)) → MakesChild r (call_in place old.words new.words) i u
child_copied (Ok x) o old new before after place i u inside same copied refused =
    let puts : Puts old.words new.words place.segment (place.pointers_at + i) u = subst (Puts old.words new.words place.segment (place.pointers_at + i)) (same copied.value copied.is_read) copied.put in
    record {
      sets = λ y ws ts h. child_set old.words new.words y place ws ts i u inside (puts (tree_at ts i) (child_stored old.words y place ws ts i inside h)) h;
      replaces = λ y ws ts h. child_replaced old.words new.words y place ws ts i u inside (puts (tree_at ts i) (child_stored old.words y place ws ts i inside h)) h;
      refused = λ y ws ts h. tt;
      emptied = λ y ws ts h. tt;
    }
child_copied (Err k) o old new before after place i u inside same copied refused =
    record {
      sets = λ y ws ts h. tt;
      replaces = λ y ws ts h. tt;
      refused = λ y ws ts h. child_set old.words new.words y place ws ts i Null inside (refused.cleared (tree_at ts i) (child_stored old.words y place ws ts i inside h)) h;
      emptied = λ y ws ts h. child_replaced old.words new.words y place ws ts i Null inside (refused.cleared (tree_at ts i) (child_stored old.words y place ws ts i inside h)) h;
    }

-- the value that a pointer means is the one that was read
pub pointer_read : {B : Type 0} (g : Ghosts B) (r : PointerReader B g) (t v : Tree) (m m' : Meter) → HasValue (read_by g r) t → (value_original (read_by g r)).reads plain m m' v → v ≡ t
pointer_read g r t v m m' has read =
    let x : Reading = read_by g r in
    (one_value x.segments x.levels x.levels x.segment x.at v t read.cost has.cost read.means has.means).0

-- the struct that a reader shows is the one that was read

pub struct_shown : {B : Type 0} (g : Ghosts B) (r : StructReader B g) (t v : Tree) (m m' : Meter) → ShowsStructOf g r t → (struct_read g r).reads plain m m' v → v ≡ copied_struct t
struct_shown g r t v m m' shows (ts, is, counts, read) =
    let x : Reading = pointers_read g r in
    let words : data_of g r ≡ struct_data t = ap (λ n. section_words n r.content.now) shows.bits_are ∙ whole_section (length (struct_data t)) r.content.now (omega (arith, r.content_is.1, shows.bits_are)) ∙ shows.words_are in
    let children : ts ≡ struct_children t = one_row x.segments x.levels x.levels x.segment x.at ts (struct_children t) read.cost shows.cost (counts ∙ shows.pointers_are) read.means shows.children_are in
    is ∙ ap₂ Struct words children

-- the list that a reader shows is the one that was read

flat_read : (size : ElementSize) (sections : StructSize) (n : ℕ) (first : Reading) (m m' : Meter) (v : Tree) → size_number size ≤ 5 → (list_original size sections n first).reads plain m m' v → v ≡ Flat (size_number size) (unpacked (size_number size) n (words_from first (words_for (size_number size) n)))
flat_read Void sections n first m m' v small read = read.0
flat_read Bit sections n first m m' v small read = read.0
flat_read Byte sections n first m m' v small read = read.0
flat_read TwoBytes sections n first m m' v small read = read.0
flat_read FourBytes sections n first m m' v small read = read.0
flat_read EightBytes sections n first m m' v small read = read.0
flat_read Pointer sections n first m m' v small read = absurd (omega arith)
flat_read InlineComposite sections n first m m' v small read = absurd (omega arith)

no_tree : (ts : Trees) → count ts ≡ 0 → ts ≡ no_trees
no_tree no_trees none = refl
no_tree (tree t ts) none = absurd (omega arith)

no_element : (es : Elements) → element_count es ≡ 0 → es ≡ no_elements
no_element no_elements none = refl
no_element (element ws ts es) none = absurd (omega arith)

empty_read : (size : ElementSize) (sections : StructSize) (n : ℕ) (first : Reading) (m m' : Meter) (v : Tree) → n ≡ 0 → (list_original size sections n first).reads plain m m' v → v ≡ empty_list size sections
empty_read Void sections n first m m' v none read = read.0 ∙ ap (λ i. Flat 0 (unpacked 0 i (words_from first (words_for 0 i)))) none
empty_read Bit sections n first m m' v none read = read.0 ∙ ap (λ i. Flat 1 (unpacked 1 i (words_from first (words_for 1 i)))) none
empty_read Byte sections n first m m' v none read = read.0 ∙ ap (λ i. Flat 2 (unpacked 2 i (words_from first (words_for 2 i)))) none
empty_read TwoBytes sections n first m m' v none read = read.0 ∙ ap (λ i. Flat 3 (unpacked 3 i (words_from first (words_for 3 i)))) none
empty_read FourBytes sections n first m m' v none read = read.0 ∙ ap (λ i. Flat 4 (unpacked 4 i (words_from first (words_for 4 i)))) none
empty_read EightBytes sections n first m m' v none read = read.0 ∙ ap (λ i. Flat 5 (unpacked 5 i (words_from first (words_for 5 i)))) none
empty_read Pointer sections n first m m' v none (ts, is, counts, read) = is ∙ ap Pointers (no_tree ts (counts ∙ none))
empty_read InlineComposite sections n first m m' v none (es, is, counts, read) = is ∙ ap (Structs sections.data_words sections.pointers) (no_element es (counts ∙ none))

pub list_shown : {B : Type 0} (g : Ghosts B) (r : ListReader B g) (t v : Tree) (m m' : Meter) → ShowsListOf g r t → (list_read g r).reads plain m m' v → v ≡ copied_list r.element_size r.struct_size t
list_shown g r Null v m m' shows read = empty_read r.element_size r.struct_size r.count (first_element g r) m m' v shows.shown.0 read
list_shown g r (Flat size ns) v m m' shows read =
    let (is, counts, numbers, none, small) = shows.shown in
    let first : Reading = first_element g r in
    let held = numbers_held first.segments r.start r.element_size r.count (r.struct_size.data_words + r.struct_size.pointers) r.content.now (omega (arith, is, small)) r.held r.content_is r.inside in
    let stand : words_of r.content.now ≡ words_from first (words_for (size_number r.element_size) r.count) = held.stand in
    let flat = flat_read r.element_size r.struct_size r.count first m m' v (omega (arith, is, small)) read in
    flat ∙ ap (λ ws. Flat (size_number r.element_size) (unpacked (size_number r.element_size) r.count ws)) (sym stand)
    ∙ ap₂ (λ k n. Flat k (unpacked k n (words_of r.content.now))) is counts ∙ ap (Flat size) (sym numbers)
list_shown g r (Pointers ts) v m m' shows read =
    let (is, counts, means) = shows.shown in
    let first : Reading = first_element g r in
    let (us, same, many, all) = subst (λ z. (list_original z r.struct_size r.count first).reads plain m m' v) is read in
    same ∙ ap Pointers (one_row first.segments first.levels first.levels first.segment first.at us ts all.cost shows.cost (many ∙ counts) all.means means)
list_shown g r (Structs d q es) v m m' shows read =
    let (is, wide, counts, means) = shows.shown in
    let first : Reading = first_element g r in
    let (fs, same, many, all) = subst (λ (z : StructSize). (list_original InlineComposite z r.count first).reads plain m m' v) wide (subst (λ z. (list_original z r.struct_size r.count first).reads plain m m' v) is read) in
    same ∙ ap (Structs d q) (one_list first.segments first.levels first.levels first.segment first.at d q fs es all.cost shows.cost (many ∙ counts) all.means means)
list_shown g r (Struct ws ts) v m m' shows read = absurd shows.shown
list_shown g r (Capability i) v m m' shows read = absurd shows.shown

-- a copy for a member of a union, whose tag is written before

pub can_written : {V : Type 0} (o : Original V) (m : Meter) (a b : View) (s : ℕ) → OnlyWrites a b → CanBeCopied o plain m a s → CanBeCopied o plain m b s
can_written o m a b s w can =
    record { small = can.small; value = can.value; after = can.after; is_read = can.is_read; room = omega (arith, can.room, w.words s, ap (λ (v : View). v.room s) w.limits) }

pub member_read : {X : Type 0} (r : Result X ErrorKind) (o : Original Tree) (old mid new : View) (before after : Meter) (place : StructPlace) (i : ℕ) → OnlyWrites old mid → IfOk r (λ _. PutsCopy o (copy_call plain (call_on place i mid new) before after)) →
    IfOk r (λ _. ReadsToCopy o (copy_call plain (call_on place i old new) before after))
member_read (Ok x) o old mid new before after place i w copied = record {
  value = copied.value;
  is_read = copied.is_read;
  memory = keeps_both old mid new (omega (arith, w.segments)) (keeps_writes old mid w) copied.memory;
}
member_read (Err k) o old mid new before after place i w copied = tt

pub member_refused : {X : Type 0} (r : Result X ErrorKind) (o : Original Tree) (old mid new : View) (before after : Meter) (place : StructPlace) (i : ℕ) → OnlyWrites old mid → IfErr r (LeavesCleared o (copy_call plain (call_on place i mid new) before after)) →
    IfErr r (IsNotCopied o (copy_call plain (call_on place i old new) before after))
member_refused (Ok x) o old mid new before after place i w refused = tt
member_refused (Err k) o old mid new before after place i w refused =
    let later : (n : ℕ) → mid.room place.segment < length (segment mid.words place.segment) + n → old.room place.segment < length (segment old.words place.segment) + n = λ n beyond. omega (arith, beyond, w.words place.segment, ap (λ (v : View). v.room place.segment) w.limits) in
    record {
      why = elim refused.why [
        | inl x ↦ inl (
          lacks_before o (copy_call plain (call_on place i mid new) before after) old k (λ n all found. (words_refused_later old mid new n k w.limits found.0, later all found.1)) x.0,
          λ any m m' t read. later _ (x.1 any m m' t read),
        )
        | inr x ↦ inr x
      ];
      memory = keeps_then_spends old mid new k (omega (arith, w.segments)) (keeps_writes old mid w) refused.memory;
    }

-- what such a copy takes

none_before : (old mid : View) → OnlyWrites old mid → TakesNone old mid
none_before old mid w = record { segments = w.segments; words = w.words; room = λ k l. ap (λ (v : View). v.room k) w.limits }

pub struct_taken : {X B : Type 0} (g : Ghosts B) (from : StructReader B g) (r : Result X ErrorKind) (old mid new : View) (before after : Meter) (place : StructPlace) (i : ℕ) → OnlyWrites old mid → TakesAtMost r (struct_read g from) (copy_call plain (call_on place i mid new) before after) →
    TakesAtMost r (struct_read g from) (copy_call plain (call_on place i old new) before after)
struct_taken g from r old mid new before after place i w taken =
    let c = copy_call plain (call_on place i mid new) before after in
    let d = copy_call plain (call_on place i old new) before after in
    taken_so r _ _ _ _
    (λ x. sections_within (data_of g from) (pointers_read g from) from.pointer_count c d (none_before old mid w) (none_itself new) refl x)
    (λ x. sections_until_within (data_of g from) (pointers_read g from) from.pointer_count c d (none_before old mid w) (none_itself new) refl x) taken

pub list_taken : {X B : Type 0} (g : Ghosts B) (from : ListReader B g) (r : Result X ErrorKind) (old mid new : View) (before after : Meter) (place : StructPlace) (i : ℕ) → OnlyWrites old mid → TakesAtMost r (list_read g from) (copy_call plain (call_on place i mid new) before after) →
    TakesAtMost r (list_read g from) (copy_call plain (call_on place i old new) before after)
list_taken g from r old mid new before after place i w taken =
    let c = copy_call plain (call_on place i mid new) before after in
    let d = copy_call plain (call_on place i old new) before after in
    taken_so r _ _ _ _
    (λ x. list_within from.element_size from.struct_size from.count (first_read g from) c d (none_before old mid w) (none_itself new) refl x)
    (λ x. list_until_within from.element_size from.struct_size from.count (first_read g from) c d (none_before old mid w) (none_itself new) refl x) taken

pub pointer_taken : {X : Type 0} (from : Reading) (r : Result X ErrorKind) (old mid new : View) (before after : Meter) (place : StructPlace) (i : ℕ) → OnlyWrites old mid → TakesAtMost r (value_original from) (copy_call plain (call_on place i mid new) before after) →
    TakesAtMost r (value_original from) (copy_call plain (call_on place i old new) before after)
pointer_taken from r old mid new before after place i w taken =
    let c = copy_call plain (call_on place i mid new) before after in
    let d = copy_call plain (call_on place i old new) before after in
    taken_so r _ _ _ _
    (λ x. value_within from c d (none_before old mid w) (none_itself new) refl x)
    (λ x. until_within from c d (none_before old mid w) (none_itself new) refl x) taken
