-- What an edit leaves of a forest.
use Rattle.std.proofs.Common.{◌≡◌, inl, inr, Bool, ℕ, zero, suc, pred, ◌+◌, ◌-◌, ◌*◌, ◌^◌, ◌<◌, ◌≤◌, true, false, cond, nat_eq, nat_le, List, [], ◌∷◌, length, Option, Some, None, Result, Ok, Err, IsOk, IfErr, OnOk, OnErr, refl, sym, ap, ◌∙◌, subst, arith, map}
use Rattle.std.specs.Option.{option_map_or}
use Rattle.std.specs.Prelude.{MatchOption}
use Rattle.std.proofs.lemmas.Bool.Decides.{nat_tests}
use Rattle.std.proofs.lemmas.List.{append-nil, length-replicate}
use Rattle.capnp_words.specs.declared.error.ErrorKind.{ErrorKind}
use Rattle.capnp_words.specs.declared.error.ErrorKind.TheVariants.{AllocationFailed, NoSuchPlace}
use Rattle.capnp_arena_traits.specs.Taking.{IsAllocationRefusal}
use Rattle.capnp_arena_traits.specs.View.{View, KeepsLimits}
use Rattle.capnp_format.specs.Segments.{Segments, Target, segment, word_at}
use Rattle.capnp_format.specs.Word.{struct_word}
use Rattle.capnp_format.specs.Tree.{Tree, Null, Capability, Struct, Flat, Pointers, Structs, Trees, Elements, no_elements, element, count, element_count}
use Rattle.capnp_format.specs.Means.{Means}
use Rattle.capnp_format.specs.Canonical.{word_count, word_count_all, word_count_elements}
use Rattle.capnp_format.specs.Numbers.{words_for}
use Rattle.capnp_format.specs.Forest.{IsForest, target, cover}
use Rattle.capnp_in_place.specs.declared.existing.ExistingStruct.{ExistingStruct}
use Rattle.capnp_in_place.specs.Existing.{struct_in}
use Rattle.capnp_format.specs.Fields.{put_field}
use Rattle.capnp_allocation.specs.Made.{words_of_zero, nulls, zero_elements, zero_struct, zero_structs, zero_list, list_words}
use Rattle.capnp_allocation.specs.Makes.{CallAt, MakesObject, call_at}
use Rattle.capnp_allocation.specs.Memory.{IsRefusedFor, ComesAfter, start_of}
use Rattle.capnp_allocation.specs.Near.{LeadsToEnd}
use Rattle.capnp_format.specs.Path.{Element, struct_at, put_struct, update, node, PathLeads, word_interval}
use Rattle.capnp_allocation.specs.Stored.{IsStored, IsReplaced, Puts}
use Rattle.capnp_allocation.proofs.Extents.{once_held, times-first}
use Rattle.capnp_in_place.proofs.Fields.FieldWritten.{data_field_written, element_has_words, element_field_written}
use Rattle.capnp_allocation.proofs.Placed.{count-nulls}
use Rattle.capnp_allocation.proofs.PlacedStructs.{count-zero_elements}
use Rattle.capnp_allocation.proofs.Replaced.{forest_stored, forest_updated, stored_within}
use Rattle.capnp_pointers.specs.declared.pointers.PointerPlace.{PointerPlace}
use Rattle.capnp_words.specs.Names.{is_allocation_name}
use Rattle.capnp_words.specs.declared.wire_pointer.StructSize.{StructSize}
use Rattle.capnp_edits.specs.declared.edit.Edit.{Edit}
use Rattle.capnp_edits.specs.Paths.{EndValue, PointerTo, ElementOf, found, IsElementFound, IsPathFound, step_of}
use Rattle.capnp_edits.specs.declared.edit.tasks.Task.{Task}
use Rattle.capnp_edits.specs.declared.edit.tasks.Task.TheVariants.{Make, Point, InStruct, Write, Search, CopyRoot}
use Rattle.capnp_edits.specs.declared.edit.tasks.NewObject.{NewObject}
use Rattle.capnp_edits.specs.declared.edit.tasks.NewObject.TheVariants.{ZeroStruct, ZeroList, ZeroStructs, ZeroText, Text, Data}
use Rattle.capnp_edits.specs.declared.edit.tasks.Number.{Number}
use Rattle.capnp_edits.specs.declared.edit.tasks.Part.{Part}
use Rattle.capnp_edits.specs.declared.edit.tasks.Part.TheVariants.{ListElement, TextByte, DataByte}
use Rattle.capnp_edits.specs.declared.edit.tasks.StructChange.{StructChange}
use Rattle.capnp_edits.specs.declared.edit.tasks.StructChange.TheVariants.{Bits, Content}
use Rattle.capnp_edits.specs.declared.edit.path.PathEnd.TheVariants.{Pointer as AtPointer, Element as AtElement}
use Rattle.capnp_edits.specs.Tasks.{task_of}
use Rattle.capnp_edits.specs.Edits.{struct_changed, refusal_of, bits_of, value_of, Effect, gives, struct_with, effect_of_task, is_of_path, HasEffect, are_written, are_outside, PutsBits, EditTakes, IsApplied, refusals_after}
use Rattle.capnp_edits.specs.Steps.{DoesThere, IsDoneAt, LeadsThere}
use Rattle.capnp_edits.proofs.Steps.{first, same_some, struct_of}
use Rattle.capnp_edits.proofs.Taken.{KeepsLengths, part_ends, plain_end, writes}
use Rattle.capnp_edits.proofs.Ways.{DoesAt, becomes, denied, yielded, is_denied, is_done, is_not_allocated, leads_nowhere, leads_to, takes}
use Rattle.capnp_edits.proofs.Walks.{found-append, leads_value, list_end, update-append}

-- From S to R the task is done at a pointer, with outcome r, for each value t that the pointer
-- means; then what an edit's task makes, if its numbers are in range.
abbrev pub Does : Segments → Segments → PointerPlace → Task → Option ErrorKind → Type 0
Does S R place task r = (t : Tree) → IsStored S place.segment place.word t → DoesAt S R place (effect_of_task task (PointerTo t)) t r

abbrev pub made : Option Task → EndValue → Effect
made task end_value = option_map_or (λ (x : Task). effect_of_task x end_value) task (denied NoSuchPlace)

-- the error of a refused allocation is that of memory or of room
pub of_allocation : (old new : View) (segments amount : ℕ) (k : ErrorKind) → IsAllocationRefusal old new segments amount k → is_allocation_name k ≡ true
of_allocation old new segments amount k why = elim why [
  | inl h ↦ ap is_allocation_name h.0
  | inr (inl h) ↦ ap is_allocation_name h.0
  | inr (inr h) ↦ ap is_allocation_name h.0
]

pub of_memory : (old new : View) (n : ℕ) (k : ErrorKind) → IsRefusedFor old new n k → is_allocation_name k ≡ true
of_memory old new n k (why, same) = of_allocation old new (length old.words) (n + 1) k why

-- the error of a refused allocation isn't NoSuchPlace
pub of_no_place : (k : ErrorKind) → is_allocation_name k ≡ true → k ≡ NoSuchPlace → ⊥
of_no_place k h e = absurd (let f : false ≡ true = sym (ap is_allocation_name e) ∙ h in cc)

-- a refusal with NoSuchPlace is one for what a path leads to
pub of_place : {A : Type 0} (result : Result A ErrorKind) → IfErr result (λ k. k ≡ NoSuchPlace) → IfErr result (λ k. is_of_path k ≡ true)
of_place (Ok x) named = tt
of_place (Err k) named = ap is_of_path named

not_counted : (k : ErrorKind) (n : ℕ) → is_of_path k ≡ true → refusals_after (Some k) n ≡ n
not_counted AllocationFailed n e = absurd (cc)
not_counted k n e = refl

pub none_counted : {A : Type 0} (result : Result A ErrorKind) (n m : ℕ) → m ≡ n → IfErr result (λ k. is_of_path k ≡ true) → m ≡ refusals_after (refusal_of result) n
none_counted (Ok x) n m same named = same
none_counted (Err k) n m same named = same ∙ sym (not_counted k n named)

pub never_refused : {A : Type 0} (result : Result A ErrorKind) → IsOk result → IfErr result (λ k. is_of_path k ≡ true)
never_refused (Ok x) done = tt
never_refused (Err k) done = absurd (cc)

-- a call that changes nothing if it is refused
pub kept_nowhere : {A : Type 0} (result : Result A ErrorKind) (old new : View) → OnErr result (new ≡ old) → refusal_of result ≡ Some NoSuchPlace → new ≡ old
kept_nowhere (Ok x) old new kept e = absurd (cc)
kept_nowhere (Err k) old new kept e = kept

-- a refusal of the allocator is counted
pub counted : (old new : View) (n : ℕ) (k : ErrorKind) → IsRefusedFor old new n k → new.refusals ≡ refusals_after (Some k) old.refusals
counted old new n k (why, same) = elim why [
  | inl h ↦ h.3 ∙ sym (ap (λ x. refusals_after (Some x) old.refusals) h.0)
  | inr (inl h) ↦ h.3 ∙ sym (ap (λ x. refusals_after (Some x) old.refusals) h.0)
  | inr (inr h) ↦ h.2 ∙ sym (ap (λ x. refusals_after (Some x) old.refusals) h.0)
]

-- what holds for the error of a refusal holds for k
pub named_refusal : {A : Type 0} (result : Result A ErrorKind) (P : ErrorKind → Type 0) (k : ErrorKind) → IfErr result P → refusal_of result ≡ Some k → P k
named_refusal (Ok x) P k why e = absurd (cc)
named_refusal (Err j) P k why e = subst P (same_some j k e) why

-- the words of a new object are those of its value
none_below : (n : ℕ) → word_count_all (nulls n) ≡ 0
none_below zero = refl
none_below (suc n) = omega (arith, none_below n)

none_in : (d q n : ℕ) → word_count_elements (zero_elements d q n) ≡ 0
none_in d q zero = refl
none_in d q (suc n) = omega (arith, none_below q, none_in d q n)

pub struct_words : (size : StructSize) → size.data_words + size.pointers ≡ word_count (zero_struct size)
struct_words size = omega (arith, length-replicate {A = ℕ} size.data_words 0, count-nulls size.pointers, none_below size.pointers)

pub list_words_are : (size n : ℕ) → list_words size n ≡ word_count (zero_list size n)
list_words_are size n = by_size (nat_eq size 6)
  where
    by_size : (b : Bool) → cond b n (words_for size n) ≡ word_count (cond b (Pointers (nulls n)) (Flat size (words_of_zero n)))
    by_size true = omega (arith, count-nulls n, none_below n)
    by_size false = ap (words_for size) (sym (length-replicate {A = ℕ} n 0))

pub structs_words_are : (n : ℕ) (size : StructSize) → 1 + n * (size.data_words + size.pointers) ≡ word_count (zero_structs n size)
structs_words_are n size =
    let d = size.data_words in
    let q = size.pointers in
    ap (λ m. 1 + m * (d + q)) (sym (count-zero_elements d q n)) ∙ (let e : 1 + element_count (zero_elements d q n) * (d + q) ≡ 1 + element_count (zero_elements d q n) * (d + q) + word_count_elements (zero_elements d q n) = omega (arith, none_in d q n) in e)

-- where a new object leads
abbrev pub Leads : CallAt → NewObject → Type 0
Leads c (ZeroStruct size) = size.data_words + size.pointers ≡ 0 → word_at c.new.words c.segment c.at ≡ struct_word (2 ^ 30 - 1) 0 0
Leads c object = LeadsToEnd c (word_count (value_of object))

empty_leads : (c : CallAt) (object : NewObject) → Leads c object → word_count (value_of object) ≡ 0 → LeadsThere c object
empty_leads c (ZeroStruct size) h none = h (struct_words size ∙ none)
empty_leads c (ZeroList size n) h none = λ room. h (omega (arith, room, none))
empty_leads c (ZeroStructs n size) h none = λ room. h (omega (arith, room, none))
empty_leads c (ZeroText n) h none = λ room. h (omega (arith, room, none))
empty_leads c (Text bytes) h none = λ room. h (omega (arith, room, none))
empty_leads c (Data bytes) h none = λ room. h (omega (arith, room, none))

pub struct_leads : {A : Type 0} (result : Result A ErrorKind) (c : CallAt) (size : StructSize) → (size.data_words + size.pointers ≡ 0 → OnOk result (word_at c.new.words c.segment c.at ≡ struct_word (2 ^ 30 - 1) 0 0)) → OnOk result (Leads c (ZeroStruct size))
struct_leads (Ok x) c size h = h
struct_leads (Err k) c size h = tt

-- where a new object with words leads
pub leads_behind : {A : Type 0} (result : Result A ErrorKind) (c : CallAt) (n : ℕ) → 0 < n → OnOk result (ComesAfter c.old c.segment n (start_of (target c.new.words c.segment c.at))) → OnOk result (LeadsToEnd c n)
leads_behind (Ok x) c n some h = λ room. h.near some room
leads_behind (Err k) c n some h = tt

-- a call that makes an object
pub object_made : {A : Type 0} (result : Result A ErrorKind) (old new : View) (place : PointerPlace) (object : NewObject) (n : ℕ) → n ≡ word_count (value_of object) →
    MakesObject result (call_at place.segment place.word old new) (value_of object) n → OnOk result (Leads (call_at place.segment place.word old new) object) → IsDoneAt old new (AtPointer place) (Make object) (refusal_of result)
object_made result old new place object n is made leads =
    value_made result old new place object (subst (MakesObject result (call_at place.segment place.word old new) (value_of object)) is made) leads
  where
    value_made : {A : Type 0} (result : Result A ErrorKind) (old new : View) (place : PointerPlace) (object : NewObject) → MakesObject result (call_at place.segment place.word old new) (value_of object) (word_count (value_of object)) →
        OnOk result (Leads (call_at place.segment place.word old new) object) → IsDoneAt old new (AtPointer place) (Make object) (refusal_of result)
    value_made (Ok x) old new place object made leads = record {
      done = λ t stored. (Some (value_of object), yielded (is_done (value_of object) refl refl refl), made.made t stored);
      counted = ap (λ (v : View). v.refusals) made.memory.granted.0;
      fits = λ room k e. absurd (cc);
      nowhere = λ e. absurd (cc);
      ends = λ some. (
        record { behind = made.behind; forms = tt; begun = new; kept = made.memory.granted; object = made.memory.taken; pads = writes new new refl (refl, λ v. refl) },
        empty_leads (call_at place.segment place.word old new) object leads,
      );
    }
    value_made (Err k) old new place object made leads =
        let n : ℕ = word_count (value_of object) in
        let why : IsRefusedFor old new n k = made.memory.named in
        record {
          done = λ t stored. (Some Null, yielded (is_not_allocated Null (value_of object) k refl (of_memory old new n k why) refl refl), made.refused t stored);
          counted = counted old new n k why;
          fits = λ room j e. absurd (let h = made.memory.fits room in cc);
          nowhere = λ e. absurd (of_no_place k (of_memory old new n k why) (same_some k NoSuchPlace e));
          ends = λ some. (why.0, why.1, made.only);
        }

-- a call that makes no object
pub pointed : (old new : View) (place : PointerPlace) (i : Option ℕ) (u : Tree) → ((t : Tree) → effect_of_task (Point i) (PointerTo t) ≡ becomes u) → Puts old.words new.words place.segment place.word u → KeepsLimits old new → KeepsLengths old.words new.words →
    IsDoneAt old new (AtPointer place) (Point i) None
pointed old new place i u makes puts limits lengths = record {
  done = λ t stored. (Some u, yielded (is_done u (makes t) refl refl), puts t stored);
  counted = ap (λ (v : View). v.refusals) limits;
  fits = λ room k e. absurd (cc);
  nowhere = λ e. absurd (cc);
  ends = λ some. writes old new limits lengths;
}

-- a call that writes a part
pub part_done : {A : Type 0} (result : Result A ErrorKind) (old new : View) (place : PointerPlace) (part : Part) → Does old.words new.words place (Write part) (refusal_of result) → KeepsLengths old.words new.words → KeepsLimits old new →
    IfErr result (λ k. is_of_path k ≡ true) → OnErr result (new ≡ old) → IsDoneAt old new (AtPointer place) (Write part) (refusal_of result)
part_done result old new place part does lengths limits named kept = record {
  done = does;
  counted = none_counted result old.refusals new.refusals (ap (λ (v : View). v.refusals) limits) named;
  fits = λ room k e. named_refusal result (λ j. is_of_path j ≡ true) k named e;
  nowhere = kept_nowhere result old new kept;
  ends = λ some. part_ends old new part (refusal_of result) (AtPointer place) (plain_end result old new (writes old new limits lengths) named kept);
}

-- what is made replaces the value at its place
pub done_at : {S R : Segments} {place : PointerPlace} {making : Effect} {t : Tree} {r : Option ErrorKind} (u : Tree) → making ≡ becomes u → r ≡ None → IsReplaced S R place.segment place.word t u → DoesAt S R place making t r
done_at u makes done stands = (Some u, yielded (is_done u makes done refl), stands)

pub denied_at : {S R : Segments} {place : PointerPlace} {making : Effect} {t : Tree} {r : Option ErrorKind} (k : ErrorKind) → making ≡ denied k → r ≡ Some k → R ≡ S → DoesAt S R place making t r
denied_at k denies named same = (None, yielded (is_denied k denies named refl), same)

-- a field that the struct has, or doesn't have
field_there : (n : Number) (ws : List ℕ) (ts : Trees) → (bits_of n).start + (bits_of n).bits ≤ 64 * length ws → struct_changed (Bits n) (Struct ws ts) ≡ becomes (struct_with (bits_of n) (Struct ws ts))
field_there n ws ts l = ap (λ b. gives None (cond b (Ok (struct_with (bits_of n) (Struct ws ts))) (Err NoSuchPlace))) (within ((bits_of n).start + (bits_of n).bits) (64 * length ws) l)
  where
    within : (a b : ℕ) → a ≤ b → nat_le a b ≡ true
    within a b l = grind (arith, nat_tests)

field_past : (n : Number) (ws : List ℕ) (ts : Trees) → 64 * length ws < (bits_of n).start + (bits_of n).bits → struct_changed (Bits n) (Struct ws ts) ≡ denied NoSuchPlace
field_past n ws ts l = ap (λ b. gives None (cond b (Ok (struct_with (bits_of n) (Struct ws ts))) (Err NoSuchPlace))) (past ((bits_of n).start + (bits_of n).bits) (64 * length ws) l)
  where
    past : (a b : ℕ) → b < a → nat_le a b ≡ false
    past a b l = grind (arith, nat_tests)

-- a field of a struct that a pointer leads to
written_there : (S R : Segments) (place : PointerPlace) (n : Number) (r : Option ErrorKind) (ws : List ℕ) (ts : Trees) → IsStored S place.segment place.word (Struct ws ts) →
    PutsBits S R (struct_of (target S place.segment place.word).segment (target S place.segment place.word).start (length ws) (count ts)) (bits_of n) r → DoesAt S R place (struct_changed (Bits n) (Struct ws ts)) (Struct ws ts) r
written_there S R place n r ws ts stored (are_written starts ends done written) =
    let f = bits_of n in
    done_at (struct_with f (Struct ws ts)) (field_there n ws ts ends) done (data_field_written S R place.segment place.word ws ts f.start f.bits f.value stored starts written)
written_there S R place n r ws ts stored (are_outside past named same) = denied_at NoSuchPlace (field_past n ws ts past) named same

pub written_at : (S R : Segments) (place : PointerPlace) (n : Number) (r : Option ErrorKind) (e : ExistingStruct) (t : Tree) → Some e ≡ struct_in (target S place.segment place.word) t → PutsBits S R e (bits_of n) r → IsStored S place.segment place.word t →
    DoesAt S R place (struct_changed (Bits n) t) t r
written_at S R place n r e (Struct ws ts) is_e w stored =
    let a = target S place.segment place.word in
    written_there S R place n r ws ts stored (subst (λ x. PutsBits S R x (bits_of n) r) (same_some e (struct_of a.segment a.start (length ws) (count ts)) is_e) w)
written_at S R place n r e Null is_e w stored = absurd (cc)
written_at S R place n r e (Capability j) is_e w stored = absurd (cc)
written_at S R place n r e (Flat size ns) is_e w stored = absurd (cc)
written_at S R place n r e (Pointers ts) is_e w stored = absurd (cc)
written_at S R place n r e (Structs d q es) is_e w stored = absurd (cc)

-- a value that isn't a struct isn't changed
pub no_struct : (a : Target) (change : StructChange) (t : Tree) → None ≡ struct_in a t → struct_changed change t ≡ denied NoSuchPlace
no_struct a change (Struct ws ts) none = absurd (cc)
no_struct a (Bits n) Null none = refl
no_struct a (Bits n) (Capability j) none = refl
no_struct a (Bits n) (Flat size ns) none = refl
no_struct a (Bits n) (Pointers ts) none = refl
no_struct a (Bits n) (Structs d q es) none = refl
no_struct a (Content source) Null none = refl
no_struct a (Content source) (Capability j) none = refl
no_struct a (Content source) (Flat size ns) none = refl
no_struct a (Content source) (Pointers ts) none = refl
no_struct a (Content source) (Structs d q es) none = refl

-- an edit at a pointer
at_pointer : (S R : Segments) (e : Edit) (place : PointerPlace) (making : Effect) (r : Option ErrorKind) (t x : Tree) → made (task_of e.op) (PointerTo x) ≡ making → PathLeads S (node 0 0 t) (map step_of e.path.now) (node place.segment place.word x) →
    found t (map step_of e.path.now) ≡ Some (PointerTo x) → IsForest S t → DoesAt S R place making x r → (u : Tree) × IsForest R u × EditTakes e r t u
at_pointer S R e place making r t x makes leads end_value forest does = stands does.0 (subst (λ m. HasEffect m r does.0) (sym makes) does.1) does.2
  where
    stands : (o : Option Tree) → HasEffect (made (task_of e.op) (PointerTo x)) r o → MatchOption o (R ≡ S) (IsReplaced S R place.segment place.word x) → (u : Tree) × IsForest R u × EditTakes e r t u
    stands (Some y) left replaced = (update t (map step_of e.path.now) y, forest_updated S R t (map step_of e.path.now) place.segment place.word x y forest leads replaced, takes e r t (leads_to (PointerTo x) (Some y) end_value left refl))
    stands None left same = (t, subst (λ Q. IsForest Q t) (sym same) forest, takes e r t (leads_to (PointerTo x) None end_value left refl))

pub applied_pointer : (S R : Segments) (e : Edit) (place : PointerPlace) (task : Task) (r : Option ErrorKind) → task_of e.op ≡ Some task →
    ((t : Tree) → IsStored S 0 0 t → IsPathFound S (record { segment = 0; word = 0 }) t (map step_of e.path.now) (Some (AtPointer place))) → Does S R place task r → IsApplied (EditTakes e r) S R
applied_pointer S R e place task r is leads does t forest =
    let stored = forest_stored S t forest in
    let f = leads t stored in
    at_pointer S R e place (effect_of_task task (PointerTo f.0)) r t f.0 (ap (λ o. made o (PointerTo f.0)) is) f.1 (leads_value S 0 0 t (map step_of e.path.now) place.segment place.word f.0 f.1) forest
    (does f.0 (stored_within S 0 0 t (map step_of e.path.now) place.segment place.word f.0 f.1 stored))

-- an element of a list of structs is a struct
pub element_struct : (es : Elements) (i : ℕ) → i < element_count es → (ws : List ℕ) × (ts : Trees) × (struct_at es i ≡ Struct ws ts)
element_struct no_elements i l = absurd (omega arith)
element_struct (element ws ts es) zero l = (ws, ts, refl)
element_struct (element ws ts es) (suc i) l = element_struct es i (omega arith)

-- the element has as many data words as the list says
element_width : (S : Segments) (n s p d q : ℕ) (es : Elements) (c i : ℕ) (ws : List ℕ) (ts : Trees) → Means S n s p (Structs d q es) c → i < element_count es → struct_at es i ≡ Struct ws ts → length ws ≡ d
element_width S n s p d q es c i ws ts (b, m, k, some, o, claim, tag, fits, all, g) l is = (element_has_words S (pred n) b.segment (b.start + 1) d q es k i ws ts all l is).0

pub element_width_stored : (S : Segments) (s p d q : ℕ) (es : Elements) (i : ℕ) (ws : List ℕ) (ts : Trees) → IsStored S s p (Structs d q es) → i < element_count es → struct_at es i ≡ Struct ws ts → length ws ≡ d
element_width_stored S s p d q es i ws ts stored l is = let m = stored.means in element_width S m.0 s p d q es m.1 i ws ts m.2 l is

at_element : (S R : Segments) (e : Edit) (s : ExistingStruct) (n : Number) (r : Option ErrorKind) (t : Tree) (f : IsElementFound S 0 0 t (map step_of e.path.now) s) (ws : List ℕ) (ts : Trees) → struct_at f.elements f.index ≡ Struct ws ts →
    length ws ≡ s.size.data_words → IsStored S f.list_segment f.list_at (Structs s.size.data_words s.size.pointers f.elements) → found t (map step_of e.path.now) ≡ Some (ElementOf (Struct ws ts)) → IsForest S t →
    made (task_of e.op) (ElementOf (Struct ws ts)) ≡ struct_changed (Bits n) (Struct ws ts) → PutsBits S R s (bits_of n) r → (u : Tree) × IsForest R u × EditTakes e r t u
at_element S R e s n r t f ws ts is wide stored end_value forest makes (are_written starts ends done written) =
    let g = bits_of n in
    let d = s.size.data_words in
    let q = s.size.pointers in
    let list = Structs d q f.elements in
    let y = Struct (put_field ws g.start g.bits g.value) ts in
    let there : g.start < 64 * length ws = rw wide starts in
    let within : g.start + g.bits ≤ 64 * length ws = rw wide ends in
    let placed = rw (f.segment_is, f.start_is) at written in
    let replaced = element_field_written S R f.list_segment f.list_at d q f.elements f.index ws ts g.start g.bits g.value stored f.counts is there placed in
    let same : update t (map step_of e.path.now) y ≡ update t f.front (Structs d q (put_struct f.elements f.index y)) =
    ap (λ p. update t p y) f.path_is ∙ update-append t f.front (Element f.index ∷ []) list y (list_end f) in (
      update t f.front (Structs d q (put_struct f.elements f.index y)),
      forest_updated S R t f.front f.list_segment f.list_at list (Structs d q (put_struct f.elements f.index y)) forest f.leads replaced,
      takes e r t (leads_to (ElementOf (Struct ws ts)) (Some y) end_value (yielded (is_done y (makes ∙ field_there n ws ts within) done refl)) (sym same)),
    )
at_element S R e s n r t f ws ts is wide stored end_value forest makes (are_outside far named same) =
    let g = bits_of n in
    let past : 64 * length ws < g.start + g.bits = rw wide far in
    (t, subst (λ Q. IsForest Q t) (sym same) forest, takes e r t (leads_to (ElementOf (Struct ws ts)) None end_value (yielded (is_denied NoSuchPlace (makes ∙ field_past n ws ts past) named refl)) refl))

-- what is at the end of a path that leads to an element
pub element_end : (S : Segments) (e : Edit) (s : ExistingStruct) (t : Tree) (f : IsElementFound S 0 0 t (map step_of e.path.now) s) (ws : List ℕ) (ts : Trees) → struct_at f.elements f.index ≡ Struct ws ts → found t (map step_of e.path.now) ≡ Some (ElementOf (Struct ws ts))
element_end S e s t f ws ts is =
    ap (found t) f.path_is ∙ found-append t f.front (Element f.index ∷ []) (Structs s.size.data_words s.size.pointers f.elements) (list_end f) ∙ first f.index (element_count f.elements) _ _ f.counts ∙ ap (λ x. Some (ElementOf x)) is

-- bits of an element are written
pub applied_bits : (S R : Segments) (e : Edit) (s : ExistingStruct) (n : Number) (r : Option ErrorKind) → task_of e.op ≡ Some (InStruct (Bits n)) → ((t : Tree) → IsStored S 0 0 t → IsElementFound S 0 0 t (map step_of e.path.now) s) → PutsBits S R s (bits_of n) r →
    IsApplied (EditTakes e r) S R
applied_bits S R e s n r is_task leads w t forest =
    let stored = forest_stored S t forest in
    let f = leads t stored in
    let list = Structs s.size.data_words s.size.pointers f.elements in
    let (ws, ts, is) = element_struct f.elements f.index f.counts in
    let there = stored_within S 0 0 t f.front f.list_segment f.list_at list f.leads stored in
    let means = there.means in
    let wide = element_width S means.0 f.list_segment f.list_at s.size.data_words s.size.pointers f.elements means.1 f.index ws ts means.2 f.counts is in
    at_element S R e s n r t f ws ts is wide there (element_end S e s t f ws ts is) forest (ap (λ o. made o (ElementOf (Struct ws ts))) is_task) w

-- any other task makes nothing of an element
none_made : (task : Task) (t : Tree) → ((change : StructChange) → task ≡ InStruct change → ⊥) → effect_of_task task (ElementOf t) ≡ denied NoSuchPlace
none_made (InStruct change) t other = absurd (other change refl)
none_made (Make object) t other = refl
none_made (Point (Some i)) t other = refl
none_made (Point None) t other = refl
none_made (Write (ListElement n)) t other = refl
none_made (Write (TextByte i b)) t other = refl
none_made (Write (DataByte i b)) t other = refl
none_made (Search sought default) t other = refl
none_made (CopyRoot c) t other = refl

-- a task that changes no struct leaves an element of a list unchanged
pub element_kept : (v : View) (s : ExistingStruct) (task : Task) (r : Option ErrorKind) → ((change : StructChange) → task ≡ InStruct change → ⊥) → DoesThere v v (AtElement s) task r
element_kept v s (InStruct change) r other = absurd (other change refl)
element_kept v s (Make object) r other = refl
element_kept v s (Point i) r other = refl
element_kept v s (Write part) r other = refl
element_kept v s (Search sought default) r other = refl
element_kept v s (CopyRoot c) r other = refl

pub none_applied : (S : Segments) (e : Edit) (s : ExistingStruct) (task : Task) → task_of e.op ≡ Some task → ((change : StructChange) → task ≡ InStruct change → ⊥) → ((t : Tree) → IsStored S 0 0 t → IsElementFound S 0 0 t (map step_of e.path.now) s) →
    IsApplied (EditTakes e (Some NoSuchPlace)) S S
none_applied S e s task is_task other leads t forest =
    let f = leads t (forest_stored S t forest) in
    let (ws, ts, is) = element_struct f.elements f.index f.counts in
    let x : Tree = Struct ws ts in
    (t, forest, takes e (Some NoSuchPlace) t (leads_to (ElementOf x) None (element_end S e s t f ws ts is) (yielded (is_denied NoSuchPlace (ap (λ o. made o (ElementOf x)) is_task ∙ none_made task x other) refl refl)) refl))

-- an edit whose numbers are out of range
pub out_applied : (S : Segments) (e : Edit) → task_of e.op ≡ None → IsApplied (EditTakes e (Some NoSuchPlace)) S S
out_applied S e out t forest = (t, forest, end (found t (map step_of e.path.now)) refl)
  where
    end : (o : Option EndValue) → found t (map step_of e.path.now) ≡ o → EditTakes e (Some NoSuchPlace) t t
    end (Some end_value) is = takes e (Some NoSuchPlace) t (leads_to end_value None is (yielded (is_denied NoSuchPlace (ap (λ x. made x end_value) out) refl refl)) refl)
    end None is = takes e (Some NoSuchPlace) t (leads_nowhere is refl refl)

-- an edit whose path leads nowhere
pub applied_nowhere : (S : Segments) (e : Edit) → ((t : Tree) → IsStored S 0 0 t → IsPathFound S (record { segment = 0; word = 0 }) t (map step_of e.path.now) None) → IsApplied (EditTakes e (Some NoSuchPlace)) S S
applied_nowhere S e none t forest =
    (t, forest, takes e (Some NoSuchPlace) t (leads_nowhere (ap (found t) (sym (append-nil (map step_of e.path.now))) ∙ none t (forest_stored S t forest) []) refl refl))

-- a forest has a root
pub no_forest : (S : Segments) (e : Edit) (r : Option ErrorKind) → (1 ≤ length (segment S 0) → ⊥) → IsApplied (EditTakes e r) S S
no_forest S e r empty t forest = absurd (empty (omega (arith, (forest_stored S t forest).inside 0 0 (omega (arith, times-first (word_interval 0 0) (cover S 0 0 t) 0 0, once_held 0 0)))))
