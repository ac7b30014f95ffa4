-- The copy of the list that a root leads to.
use Rattle.std.proofs.Common.{◌≡◌, inl, inr, ◌⊎◌, ℕ, zero, suc, pred, ◌+◌, ◌*◌, ◌^◌, ◌<◌, ◌≤◌, Bool, true, false, nat_eq, cond, List, [], length, Some, None, refl, sym, ap, ap₂, ◌∙◌, subst, arith}
use Rattle.std.proofs.lemmas.Bool.{ne_eqb}
use lib.IntN.{pos, ◌-ℤ◌}
use Rattle.capnp_words.specs.Meter.{Meter, Affords}
use Rattle.capnp_words.specs.declared.error.ErrorKind.{ErrorKind}
use Rattle.capnp_words.specs.declared.error.ErrorKind.TheVariants.{FoundBitListWhereStructListWasExpected, MessageContainsNonListPointerWhereListPointerWasExpected, NestingLimitExceeded}
use Rattle.capnp_words.specs.declared.wire_pointer.ElementSize.{ElementSize}
use Rattle.capnp_words.specs.declared.wire_pointer.ElementSize.TheVariants.{Void, Bit, Byte, TwoBytes, FourBytes, EightBytes, Pointer, InlineComposite}
use Rattle.capnp_words.specs.declared.wire_pointer.StructSize.{StructSize}
use Rattle.capnp_words.specs.Sizes.{size_number, sized}
use Rattle.capnp_arena_traits.specs.View.{View}
use Rattle.capnp_arena_traits.specs.declared.arena.reader_arena.ReaderArena.{Ghosts}
use Rattle.capnp_format.specs.Means.{IsTag, Claims, count_cost}
use Rattle.capnp_format.specs.Numbers.{words_for, unpacked}
use Rattle.capnp_format.specs.Segments.{Segments, Target, segment, leads, AreWords}
use Rattle.capnp_format.specs.Tree.{Tree, Null, Capability, Struct, Flat, Pointers, Structs, Trees, Elements, count, element_count, capabilities}
use Rattle.capnp_format.specs.Word.{kind, offset_bits, data_words, pointer_count, element_size, list_count}
use Rattle.capnp_format.proofs.Bounds.{leads_word}
use Rattle.capnp_format.proofs.Sound.{at_some}
use Rattle.capnp_pointers.specs.Demands.{tag, own_charge, Meets}
use Rattle.capnp_pointers.specs.Expected.{list_expected, HasExpected, null_pointer, fitting, narrow_elements, RefusesExpected, no_level, unfollowed, of_another_kind, stopped, misfits}
use Rattle.capnp_pointers.specs.Faults.{LeadsTo, child_at}
use Rattle.capnp_pointers.specs.Outcomes.{Reads, ReadsAll, ReadsElements, Entered, MeansThere}
use Rattle.capnp_pointers.specs.Reading.{Reading, word_of, words_from, tag_size}
use Rattle.capnp_pointers.specs.Refusals.{Refused}
use Rattle.capnp_pointers.specs.Source.{levels}
use Rattle.capnp_pointers.specs.Spending.{after_charge, pointers_in_all, pointers_in_elements}
use Rattle.capnp_pointers.specs.Wanted.{Form, AllowsCapabilities}
use Rattle.capnp_pointers.specs.declared.object.Purpose.TheVariants.{Value}
use Rattle.capnp_pointers.proofs.Budget.PaidAndLeft.{affords_rest, paid_own}
use Rattle.capnp_pointers.proofs.Following.FaultlessWhereMeant.{same_target}
use Rattle.capnp_pointers.proofs.WholeValue.ObjectsRead.{read_null, read_flat, read_pointers, read_structs, own_flat, own_pointers, own_structs}
use Rattle.capnp_pointers.proofs.OneObject.PartsMeant.{claim_list, claim_flat}
use Rattle.capnp_pointers.proofs.WholeValue.UnreadableIfRefused.{stops_pointers, stops_structs, unreadable, affords_less}
use Rattle.capnp_readers.specs.Calls.{IsListRead}
use Rattle.capnp_pointers.specs.Rows.{rows_sized}
use Rattle.capnp_readers.specs.Readers.{read_by, IsTargetList, ShowsList}
use Rattle.capnp_readers.specs.declared.readers.PointerReader.{PointerReader}
use Rattle.capnp_readers.specs.declared.readers.list_reader.ListReader.{ListReader}
use Rattle.capnp_copies.specs.Changes.{RefusesToCopy, copy_call}
use Rattle.capnp_copies.specs.Forms.{form_of}
use Rattle.capnp_builders.proofs.ListValues.{first_read}
use Rattle.capnp_copies.specs.Originals.{FitsListPointer, list_original}
use Rattle.capnp_copies.proofs.Originals.{exceeding, list_words, refused_words}
use Rattle.capnp_edits.specs.declared.edit.copying.Copying.{Copying}
use Rattle.capnp_edits.specs.declared.edit.copying.Wanted.TheVariants.{List as AList}
use Rattle.capnp_words.specs.Names.{is_allocation_name}
use Rattle.capnp_edits.specs.Sources.{any_list, as_wanted}
use Rattle.capnp_edits.proofs.Applied.{of_allocation}
use Rattle.capnp_edits.proofs.CopiedStruct.{CanBeCopiedAs}
use Rattle.capnp_pointers.proofs.Budget.LevelsLeft.{level_less}
use Rattle.capnp_edits.proofs.ListReads.{ListElements, LeadsToList, no_list, a_plain_list, a_struct_list, ReadsList, RefusedList, as_list_read, list_refused_as}
use Rattle.capnp_edits.proofs.Steps.{same_some}
use Rattle.capnp_pointers.proofs.Following.LeadsWhereFollowed.{leads_to, entered_leads}
use Rattle.capnp_pointers.proofs.WholeValue.Shorthands.{RefusedAll, RefusedElements}
use Rattle.capnp_allocation.specs.Makes.{call_at}

-- the elements of a list that is read
abbrev pub elements_read : {A : Type 0} (g : Ghosts A) → ListReader A g → ListElements
elements_read g v = record { size = v.element_size; sections = v.struct_size; count = v.count; first = first_read g v }

-- what a list reader shows is the list that the place leads to
plain_there : {A : Type 0} (g : Ghosts A) (p : PointerReader A g) (m m' : Meter) (v : ListReader A g) (a : Target) → Entered Value (read_by g p) m m' a → kind a.word ≡ 1 → v.source ≡ p.source →
    v.nesting_limit ≡ (p.nesting_limit -ℤ pos 1) →
    (size : ElementSize) → v.element_size ≡ size → size_number size ≤ 6 → nat_eq (size_number size) 1 ≡ false →
    (element_size a.word ≡ size_number size) × ShowsList g (read_by g p).segments v a.segment a.start (rows_sized (sized 0 0) (list_count a.word)) → LeadsToList (read_by g p) m m' (elements_read g v)
plain_there g p m m' v a o z source nesting size e small no_bits (is, shows) =
    let level : levels v.nesting_limit ≡ pred (levels p.nesting_limit) = ap levels nesting ∙ level_less p.nesting_limit o.meets.levels in
    let number : size_number size ≡ size_number v.element_size = ap size_number (sym e) in
    a_plain_list a o z (is ∙ number) (subst (λ i. i ≤ 6) number small) (subst (λ i. nat_eq i 1 ≡ false) number no_bits) (rw (source, shows.segment_is, shows.elements_start, level) refl) shows.counts

list_there : {A : Type 0} (g : Ghosts A) (p : PointerReader A g) (m m' : Meter) (v : ListReader A g) (a : Target) → Entered Value (read_by g p) m m' a → kind a.word ≡ 1 → v.source ≡ p.source →
    v.nesting_limit ≡ (p.nesting_limit -ℤ pos 1) →
    (size : ElementSize) → v.element_size ≡ size → (size_number size ≡ 1 → ⊥) → IsTargetList g size (read_by g p).segments v a → LeadsToList (read_by g p) m m' (elements_read g v)
list_there g p m m' v a o z source nesting InlineComposite e no_bits (seven, shows) =
    let level : levels v.nesting_limit ≡ pred (levels p.nesting_limit) = ap levels nesting ∙ level_less p.nesting_limit o.meets.levels in
    a_struct_list a o (z, seven) e (ap₂ sized shows.data_of shows.pointers_of) (rw (source, shows.segment_is, shows.elements_start, level) refl) shows.counts
list_there g p m m' v a o z source nesting Bit e no_bits h = absurd (no_bits refl)
list_there g p m m' v a o z source nesting Void e no_bits h = plain_there g p m m' v a o z source nesting Void e (omega arith) refl h
list_there g p m m' v a o z source nesting Byte e no_bits h = plain_there g p m m' v a o z source nesting Byte e (omega arith) refl h
list_there g p m m' v a o z source nesting TwoBytes e no_bits h = plain_there g p m m' v a o z source nesting TwoBytes e (omega arith) refl h
list_there g p m m' v a o z source nesting FourBytes e no_bits h = plain_there g p m m' v a o z source nesting FourBytes e (omega arith) refl h
list_there g p m m' v a o z source nesting EightBytes e no_bits h = plain_there g p m m' v a o z source nesting EightBytes e (omega arith) refl h
list_there g p m m' v a o z source nesting Pointer e no_bits h = plain_there g p m m' v a o z source nesting Pointer e (omega arith) refl h

pub list_at : {A : Type 0} (g : Ghosts A) (p : PointerReader A g) (m m' : Meter) (v : ListReader A g) → IsListRead g Void p m m' v → LeadsToList (read_by g p) m m' (elements_read g v)
list_at g p m m' v (inl (null, same, nothing, void, none, nesting)) = no_list null void none same
list_at g p m m' v (inr ((a, o, z, is, source, nesting), wide)) = list_there g p m m' v a o z source nesting v.element_size refl (λ bits. absurd (omega (arith, wide.2 bits))) is

-- reading the list, and then what its elements lead to, is reading the value
abbrev Numbers : Reading → ℕ → ℕ → Tree
Numbers x size n = Flat size (unpacked size n (words_from x (words_for size n)))

list_reads_flat : (form : Form) (r : Reading) (m n m' : Meter) (l : ListElements) (size : ℕ) (ns : List ℕ) → LeadsToList r m n l → ReadsList form l n m' (Flat size ns) →
    (u : Tree) × Reads form r m m' u × (as_wanted AList u ≡ Some (Flat size ns))
list_reads_flat form r m n m' l size ns (no_list null void none same) (flat, is, values, still) =
    let zeros : size ≡ 0 = is ∙ ap size_number void in
    let empty : ns ≡ [] = values ∙ ap (λ i. unpacked size i (words_from l.first (words_for size i))) none in
    let stays : m ≡ m' = sym (still ∙ same) in
    (Null, subst (λ y. Reads form r m y Null) stays (read_null m null), ap₂ (λ i xs. Some (Flat i xs)) (sym zeros) (sym empty))
list_reads_flat form r m n m' l size ns (a_plain_list a o z s few no_bits first counts) (flat, is, values, still) =
    let w : ℕ = element_size a.word in
    let x : Reading = child_at r a (pred r.levels) a.start in
    let same : Numbers x w (list_count a.word) ≡ Flat size ns =
    ap₂ (λ y i. Numbers y w i) (sym first) (sym counts) ∙ ap (λ i. Numbers l.first i l.count) (s ∙ sym is) ∙ ap (Flat size) (sym values) in
    let whole : nat_eq w 1 ≡ false = ap (λ i. nat_eq i 1) s ∙ no_bits in
    let u : Tree = Numbers x w (list_count a.word) in
    (u, subst (λ y. Reads form r m y u) (sym still) (read_flat o z (omega (arith, s, flat))), ap (λ b. cond b None (Some u)) whole ∙ ap Some same)
list_reads_flat form r m n m' l size ns (a_struct_list a o z s sections first counts) (flat, is, values, still) = absurd (omega (arith, flat, ap size_number s))

pub list_reads : (form : Form) (r : Reading) (m n m' : Meter) (l : ListElements) (t : Tree) → LeadsToList r m n l → ReadsList form l n m' t →
    (u : Tree) × Reads form r m m' u × (as_wanted AList u ≡ Some t)
list_reads form r m n m' l Null leads h = absurd h
list_reads form r m n m' l (Capability i) leads h = absurd h
list_reads form r m n m' l (Struct ws ts) leads h = absurd h
list_reads form r m n m' l (Flat size ns) leads h = list_reads_flat form r m n m' l size ns leads h
list_reads form r m n m' l (Pointers ts) (no_list null void none same) (is, len, all) = absurd (omega (arith, ap size_number (sym void ∙ is)))
list_reads form r m n m' l (Pointers ts) (a_plain_list a o z s few no_bits first counts) (is, len, all) =
    (Pointers ts, read_pointers o z (s ∙ ap size_number is) (len ∙ counts) (subst (λ x. ReadsAll form x n m' ts) first all), refl)
list_reads form r m n m' l (Pointers ts) (a_struct_list a o z s sections first counts) (is, len, all) = absurd (omega (arith, ap size_number (sym s ∙ is)))
list_reads form r m n m' l (Structs d q es) (no_list null void none same) (is, words, slots, len, all) = absurd (omega (arith, ap size_number (sym void ∙ is)))
list_reads form r m n m' l (Structs d q es) (a_plain_list a o z s few no_bits first counts) (is, words, slots, len, all) = absurd (omega (arith, few, ap size_number is))
list_reads form r m n m' l (Structs d q es) (a_struct_list a o z s sections first counts) (is, words, slots, len, all) =
    let g : ℕ = tag r.segments a in
    let there : ReadsElements form (child_at r a (pred r.levels) (a.start + 1)) (tag_size r.segments a) n m' es =
    subst (λ y. ReadsElements form (child_at r a (pred r.levels) (a.start + 1)) y n m' es) sections (subst (λ x. ReadsElements form x l.sections n m' es) first all) in (
      Structs (data_words g) (pointer_count g) es,
      read_structs o z.0 z.1 (len ∙ counts) there,
      ap₂ (λ i j. Some (Structs i j es)) (sym (words ∙ ap (λ (y : StructSize). y.data_words) sections)) (sym (slots ∙ ap (λ (y : StructSize). y.pointers) sections)),
    )

-- if that is refused, so is reading the value
list_stops : (form : Form) (r : Reading) (m n m' : Meter) (l : ListElements) (k : ErrorKind) → LeadsToList r m n l → RefusedList form l n m' k → Refused form r m m' k
list_stops form r m n m' l k (no_list null void none same) (inl (is, refused)) = absurd (omega (arith, ap size_number (sym void ∙ is)))
list_stops form r m n m' l k (no_list null void none same) (inr (is, refused)) = absurd (omega (arith, ap size_number (sym void ∙ is)))
list_stops form r m n m' l k (a_plain_list a o z s few no_bits first counts) (inl (is, refused)) =
    stops_pointers o z (s ∙ ap size_number is) (subst (λ i. RefusedAll form (child_at r a (pred r.levels) a.start) i n m' k) counts (subst (λ x. RefusedAll form x l.count n m' k) first refused))
list_stops form r m n m' l k (a_plain_list a o z s few no_bits first counts) (inr (is, refused)) = absurd (omega (arith, few, ap size_number is))
list_stops form r m n m' l k (a_struct_list a o z s sections first counts) (inl (is, refused)) = absurd (omega (arith, ap size_number (sym s ∙ is)))
list_stops form r m n m' l k (a_struct_list a o z s sections first counts) (inr (is, refused)) =
    let x : Reading = child_at r a (pred r.levels) (a.start + 1) in
    let there : RefusedElements form x l.sections l.count n m' k = subst (λ y. RefusedElements form y l.sections l.count n m' k) first refused in
    stops_structs o z.0 z.1 (subst (λ i. RefusedElements form x (tag_size r.segments a) i n m' k) counts (subst (λ y. RefusedElements form x y l.count n m' k) sections there))

-- the copy of a list is refused for room, or because its value can't be read
pub list_refused : (b : Bool) (id at : ℕ) (old new : View) (r : Reading) (m n m' : Meter) (l : ListElements) (k : ErrorKind) → LeadsToList r m n l →
    RefusesToCopy (list_original l.size l.sections l.count l.first) (copy_call (form_of b) (call_at id at old new) n m') k → (is_allocation_name k ≡ true) ⊎ Refused (form_of b) r m m' k
list_refused b id at old new r m n m' l k leads (inl (lacks, exceeds)) =
    let x = refused_words (list_original l.size l.sections l.count l.first) (copy_call (form_of b) (call_at id at old new) n m') k lacks in
    inl (of_allocation old new (length new.words) (x.0 + 1) k x.1.0)
list_refused b id at old new r m n m' l k leads (inr (inl refused)) = inr (list_stops (form_of b) r m n m' l k leads (list_refused_as (form_of b) l l.size n m' k refl refused))
list_refused b id at old new r m n m' l k leads (inr (inr large)) = inl (ap is_allocation_name (exceeding l.size l.sections l.count l.first (form_of b) k large).1)

-- a list that can be copied is found
record ListMeets (r : Reading) (c : ℕ) : Type 0 where
  target : Target
  leads_to : LeadsTo r target
  is_list : kind target.word ≡ 1
  wide : (list_expected Void).misfit r.segments target ≡ None
  some : 0 < r.levels
  meets : Meets Value r.segments 1 target
  cost : own_charge Value r.segments target ≤ c

wide_enough : (size : ℕ) → size ≤ 7 → nat_eq size 1 ≡ false → cond (nat_eq size 7) None (narrow_elements Void size) ≡ None
wide_enough zero le other = refl
wide_enough (suc zero) le other = absurd (cc)
wide_enough (suc (suc zero)) le other = refl
wide_enough (suc (suc (suc zero))) le other = refl
wide_enough (suc (suc (suc (suc zero)))) le other = refl
wide_enough (suc (suc (suc (suc (suc zero))))) le other = refl
wide_enough (suc (suc (suc (suc (suc (suc zero)))))) le other = refl
wide_enough (suc (suc (suc (suc (suc (suc (suc zero))))))) le other = refl
wide_enough (suc (suc (suc (suc (suc (suc (suc (suc n)))))))) le other = absurd (omega arith)

-- a list of bits isn't as wanted
not_bits : (b : Bool) (t copied : Tree) → cond b None (Some t) ≡ Some copied → (b ≡ false) × (copied ≡ t)
not_bits true t copied e = absurd (cc)
not_bits false t copied e = (refl, cc)

flat_meets : (r : Reading) (size : ℕ) (ns : List ℕ) (c : ℕ) → MeansThere r (Flat size ns) c → nat_eq size 1 ≡ false → ListMeets r c
flat_meets r size ns c (a, some, small, o, claims, values, g) no_bits =
    let S : Segments = r.segments in
    let is : element_size a.word ≡ size = o.is_size in
    record {
      target = a;
      leads_to = o.leads_to;
      is_list = o.is_list;
      wide = wide_enough (element_size a.word) (omega (arith, is, small)) (ap (λ i. nat_eq i 1) is ∙ no_bits);
      some = some;
      meets = record {
        levels = omega arith;
        is_object = omega (arith, o.is_list);
        claims = subst (Claims S a) (ap (words_for size) (sym o.counts) ∙ sym (claim_flat size (list_count a.word) small) ∙ sym (claim_list a.word size o.is_list is)) claims;
        tagged = λ l. absurd (omega (arith, l.1, is, small));
      };
      cost =
          let same : own_charge Value S a ≡ a.pads + words_for size (length ns) + count_cost size (length ns) =
          own_flat S a o.is_list (omega (arith, is, small)) ∙ ap₂ (λ i n. a.pads + words_for i n + count_cost i n) is o.counts in
          omega (arith, same, g);
    }

pointers_meet : (r : Reading) (ts : Trees) (c : ℕ) → MeansThere r (Pointers ts) c → ListMeets r c
pointers_meet r ts c (a, k, some, o, claims, all, g) =
    let S : Segments = r.segments in
    record {
      target = a;
      leads_to = o.leads_to;
      is_list = o.is_list;
      wide = wide_enough (element_size a.word) (omega (arith, o.is_size)) (ap (λ i. nat_eq i 1) o.is_size);
      some = some;
      meets = record {
        levels = omega arith;
        is_object = omega (arith, o.is_list);
        claims = omega (arith, claim_list a.word 6 o.is_list o.is_size, o.counts, claims);
        tagged = λ l. absurd (omega (arith, l.1, o.is_size));
      };
      cost = omega (arith, own_pointers S a o.is_list o.is_size, o.counts, g);
    }

own_structs_there : (S : Segments) (a : Target) (m n d q : ℕ) → kind a.word ≡ 1 → element_size a.word ≡ 7 → list_count a.word ≡ m → IsTag (tag S a) n d q →
    own_charge Value S a ≡ a.pads + (m + 1) + count_cost (d + q) n
own_structs_there S a m n d q z seven counts t =
    own_structs S a z seven ∙ ap₂ (λ i j. a.pads + (i + 1) + j) counts (ap₂ count_cost (ap₂ (λ i j. i + j) t.data_of t.pointers) t.counts)

structs_meet : (r : Reading) (d q : ℕ) (es : Elements) (c : ℕ) → MeansThere r (Structs d q es) c → ListMeets r c
structs_meet r d q es c (a, m, k, some, o, claims, t, fits, all, g) =
    let S : Segments = r.segments in
    record {
      target = a;
      leads_to = o.leads_to;
      is_list = o.is_list;
      wide = wide_enough (element_size a.word) (omega (arith, o.is_size)) (ap (λ i. nat_eq i 1) o.is_size);
      some = some;
      meets = record {
        levels = omega arith;
        is_object = omega (arith, o.is_list);
        claims = omega (arith, claim_list a.word 7 o.is_list o.is_size, o.counts, claims);
        tagged = λ l. (t.is_struct, rw (t.counts, t.data_of, t.pointers, o.counts) fits);
      };
      cost = omega (arith, own_structs_there S a m (element_count es) d q o.is_list o.is_size o.counts t, g);
    }

-- what isn't a list for `get_list` of Void isn't a list, or is one of bits
list_or_bits : (w : ℕ) → w ≤ 7 → cond (nat_eq w 7) None (narrow_elements Void w) ≡ cond (nat_eq w 1) (Some FoundBitListWhereStructListWasExpected) None
list_or_bits zero l = refl
list_or_bits (suc zero) l = refl
list_or_bits (suc (suc zero)) l = refl
list_or_bits (suc (suc (suc zero))) l = refl
list_or_bits (suc (suc (suc (suc zero)))) l = refl
list_or_bits (suc (suc (suc (suc (suc zero))))) l = refl
list_or_bits (suc (suc (suc (suc (suc (suc zero)))))) l = refl
list_or_bits (suc (suc (suc (suc (suc (suc (suc zero))))))) l = refl
list_or_bits (suc (suc (suc (suc (suc (suc (suc (suc n)))))))) l = absurd (omega arith)

pub as_any : {r : Reading} {m m' : Meter} {k : ErrorKind} → RefusesExpected (list_expected Void) r m m' k → RefusesExpected any_list r m m' k
as_any (no_level some deep same) = no_level some deep same
as_any (unfollowed level h) = unfollowed level h
as_any (of_another_kind a level follows other paid) = of_another_kind a level follows other paid
as_any (stopped level kind h) = stopped level kind h
as_any (misfits a level kind o other) = misfits a level kind o (sym (list_or_bits (element_size a.word) (omega arith)) ∙ other)

pub as_list : {r : Reading} {m m' : Meter} {k : ErrorKind} → RefusesExpected any_list r m m' k → RefusesExpected (list_expected Void) r m m' k
as_list (no_level some deep same) = no_level some deep same
as_list (unfollowed level h) = unfollowed level h
as_list (of_another_kind a level follows other paid) = of_another_kind a level follows other paid
as_list (stopped level kind h) = stopped level kind h
as_list (misfits a level kind o other) = misfits a level kind o (list_or_bits (element_size a.word) (omega arith) ∙ other)

level_there : (n : ℕ) → 0 < n → (list_expected Void).too_deep n ≡ None
level_there n l = ap (λ b. cond b (Some NestingLimitExceeded) None) (ne_eqb n 0 (λ e. omega (arith, e, l)))

given_there : (r : Reading) (m : Meter) (c : ℕ) → ListMeets r c → Affords r.charging m c → HasExpected (list_expected Void) r m
given_there r m c x covers =
    fitting {m' = after_charge r.charging m (own_charge Value r.segments x.target) 1} x.target (level_there r.levels x.some)
    (ap (λ i. cond (nat_eq i 1) None (Some MessageContainsNonListPointerWhereListPointerWasExpected)) x.is_list)
    (record {
      follows = leads_to r x.target x.leads_to;
      meets = x.meets;
      covers = affords_less r.charging m (own_charge Value r.segments x.target) c x.cost covers;
      spent = refl;
    })
    x.wide

list_suited : (r : Reading) (m : Meter) (t : Tree) (c : ℕ) (copied : Tree) → MeansThere r t c → Affords r.charging m c → as_wanted AList t ≡ Some copied → HasExpected (list_expected Void) r m
list_suited r m Null c copied means covers e = null_pointer means.0
list_suited r m (Capability i) c copied means covers e = absurd (cc)
list_suited r m (Struct ws ts) c copied means covers e = absurd (cc)
list_suited r m (Flat size ns) c copied means covers e = given_there r m c (flat_meets r size ns c means (not_bits (nat_eq size 1) (Flat size ns) copied e).0) covers
list_suited r m (Pointers ts) c copied means covers e = given_there r m c (pointers_meet r ts c means) covers
list_suited r m (Structs d q es) c copied means covers e = given_there r m c (structs_meet r d q es c means) covers

pub list_given : (c : Copying) (r : Reading) (m : Meter) (used room : ℕ) → c.wanted ≡ AList → CanBeCopiedAs c r m used room → HasExpected (list_expected Void) r m
list_given c r m used room is can = list_suited r m can.value can.cost can.copied can.means can.covers (subst (λ w. as_wanted w can.value ≡ Some can.copied) is can.is_wanted)

-- what leads to a list has an answer
level_read : (r : Reading) (m m' : Meter) (a : Target) → Entered Value r m m' a → kind a.word ≡ 1 → element_size a.word ≤ 7 → nat_eq (element_size a.word) 1 ≡ false → HasExpected (list_expected Void) r m
level_read r m m' a o z size other =
    fitting {m' = m'} a (level_there r.levels o.meets.levels)
    (ap (λ i. cond (nat_eq i 1) None (Some MessageContainsNonListPointerWhereListPointerWasExpected)) z)
    (record {
      follows = leads_to r a (entered_leads o);
      meets = record { levels = omega arith; is_object = o.meets.is_object; claims = o.meets.claims; tagged = o.meets.tagged };
      covers = o.covers;
      spent = o.spent;
    })
    (wide_enough (element_size a.word) size other)

pub list_there_given : {r : Reading} {m m' : Meter} {l : ListElements} → LeadsToList r m m' l → HasExpected (list_expected Void) r m
list_there_given (no_list null void none same) = null_pointer null
list_there_given {r} {m} {m'} (a_plain_list a o z size few other first counts) = level_read r m m' a o z (omega (arith, size, few)) (ap (λ i. nat_eq i 1) size ∙ other)
list_there_given {r} {m} {m'} (a_struct_list a o is_list size sections first counts) = level_read r m m' a o is_list.0 (omega (arith, is_list.1)) (ap (λ i. nat_eq i 1) is_list.1)

-- then what its elements lead to can be read, too
abbrev ListMatches : Form → ListElements → Meter → Tree → Type 0
ListMatches form l n copied = (end : Meter) × ReadsList form l n end copied

pointer_size : (size : ElementSize) → size_number size ≡ 6 → size ≡ Pointer
pointer_size Void e = absurd (omega arith)
pointer_size Bit e = absurd (omega arith)
pointer_size Byte e = absurd (omega arith)
pointer_size TwoBytes e = absurd (omega arith)
pointer_size FourBytes e = absurd (omega arith)
pointer_size EightBytes e = absurd (omega arith)
pointer_size Pointer e = refl
pointer_size InlineComposite e = absurd (omega arith)

null_matches : (form : Form) (r : Reading) (m n : Meter) (l : ListElements) → LeadsToList r m n l → word_of r ≡ 0 → ListMatches form l n (Flat 0 [])
null_matches form r m n l (no_list null void none same) z =
    let zeros : size_number l.size ≡ 0 = ap size_number void in
    (n, (omega (arith, zeros), sym zeros, ap (λ i. unpacked 0 i (words_from l.first (words_for 0 i))) (sym none), refl))
null_matches form r m n l (a_plain_list a o k s few no_bits first counts) z = absurd (o.follows.0 z)
null_matches form r m n l (a_struct_list a o k s sections first counts) z = absurd (o.follows.0 z)

flat_matches : (form : Form) (r : Reading) (m n : Meter) (l : ListElements) (size : ℕ) (ns : List ℕ) (c : ℕ) → LeadsToList r m n l → MeansThere r (Flat size ns) c → ListMatches form l n (Flat size ns)
flat_matches form r m n l size ns c (no_list null void none same) (a, some, small, o, claims, values, g) = absurd (o.leads_to.0 null)
flat_matches form r m n l size ns c (a_plain_list b at k s few no_bits first counts) (a, some, small, o, claims, values, g) =
    let S : Segments = r.segments in
    let same : b ≡ a = same_target S r.segment r.at (entered_leads at).1 o.leads_to.1 in
    let number : size ≡ size_number l.size = sym o.is_size ∙ ap (λ (x : Target). element_size x.word) (sym same) ∙ s in
    let many : l.count ≡ length ns = counts ∙ ap (λ (x : Target). list_count x.word) same ∙ o.counts in
    let place : l.first ≡ child_at r a (pred r.levels) a.start = first ∙ ap (λ (x : Target). child_at r x (pred r.levels) x.start) same in
    (n, (omega (arith, number, small), number, values ∙ ap₂ (λ x i. unpacked size i (words_from x (words_for size i))) (sym place) (sym many), refl))
flat_matches form r m n l size ns c (a_struct_list b at k s sections first counts) (a, some, small, o, claims, values, g) =
    let same : b ≡ a = same_target r.segments r.segment r.at (entered_leads at).1 o.leads_to.1 in
    absurd (omega (arith, k.1, ap (λ (x : Target). element_size x.word) same, o.is_size, small))

pointers_match : (form : Form) (r : Reading) (m n : Meter) (l : ListElements) (ts : Trees) (c : ℕ) → LeadsToList r m n l → MeansThere r (Pointers ts) c → AllowsCapabilities form (capabilities (Pointers ts)) →
    Affords r.charging m c → ListMatches form l n (Pointers ts)
pointers_match form r m n l ts c (no_list null void none same) (a, k, some, o, claims, all, g) takes covers = absurd (o.leads_to.0 null)
pointers_match form r m n l ts c (a_plain_list b at z s few no_bits first counts) (a, k, some, o, claims, all, g) takes covers =
    let S : Segments = r.segments in
    let same : b ≡ a = same_target S r.segment r.at (entered_leads at).1 o.leads_to.1 in
    let six : element_size b.word ≡ 6 = ap (λ (x : Target). element_size x.word) same ∙ o.is_size in
    let many : list_count b.word ≡ count ts = ap (λ (x : Target). list_count x.word) same ∙ o.counts in
    let place : l.first ≡ child_at r a (pred r.levels) a.start = first ∙ ap (λ (x : Target). child_at r x (pred r.levels) x.start) same in
    let enters : own_charge Value S b + k ≤ c = omega (arith, own_pointers S b z six, many, ap (λ (x : Target). x.pads) same, g) in
    let end : Meter = after_charge r.charging n k (pointers_in_all ts) in
    let there : ReadsAll form (child_at r a (pred r.levels) a.start) n end ts = record { cost = k; means = all; takes = takes; covers = affords_rest k c (paid_own at) enters covers; spent = refl } in
    (end, (pointer_size l.size (sym s ∙ six), sym (counts ∙ many), subst (λ x. ReadsAll form x n end ts) (sym place) there))
pointers_match form r m n l ts c (a_struct_list b at z s sections first counts) (a, k, some, o, claims, all, g) takes covers =
    let same : b ≡ a = same_target r.segments r.segment r.at (entered_leads at).1 o.leads_to.1 in
    absurd (omega (arith, z.1, ap (λ (x : Target). element_size x.word) same, o.is_size))

structs_match : (form : Form) (r : Reading) (m n : Meter) (l : ListElements) (d q : ℕ) (es : Elements) (c : ℕ) → LeadsToList r m n l → MeansThere r (Structs d q es) c →
    AllowsCapabilities form (capabilities (Structs d q es)) → Affords r.charging m c → ListMatches form l n (Structs d q es)
structs_match form r m n l d q es c (no_list null void none same) (a, i, k, some, o, claims, t, fits, all, g) takes covers = absurd (o.leads_to.0 null)
structs_match form r m n l d q es c (a_plain_list b at z s few no_bits first counts) (a, i, k, some, o, claims, t, fits, all, g) takes covers =
    let same : b ≡ a = same_target r.segments r.segment r.at (entered_leads at).1 o.leads_to.1 in
    absurd (omega (arith, s, few, ap (λ (x : Target). element_size x.word) same, o.is_size))
structs_match form r m n l d q es c (a_struct_list b at z s sections first counts) (a, i, k, some, o, claims, t, fits, all, g) takes covers =
    let S : Segments = r.segments in
    let same : b ≡ a = same_target S r.segment r.at (entered_leads at).1 o.leads_to.1 in
    let there : l.first ≡ child_at r a (pred r.levels) (a.start + 1) = first ∙ ap (λ (x : Target). child_at r x (pred r.levels) (x.start + 1)) same in
    let rows : l.sections ≡ sized d q = sections ∙ ap (tag_size S) same ∙ ap₂ sized t.data_of t.pointers in
    let many : l.count ≡ element_count es = counts ∙ ap (λ x. offset_bits (tag S x)) same ∙ t.counts in
    let enters : own_charge Value S b + k ≤ c = omega (arith, ap (own_charge Value S) same, own_structs_there S a i (element_count es) d q o.is_list o.is_size o.counts t, g) in
    let end : Meter = after_charge r.charging n k (pointers_in_elements es) in
    let row : ReadsElements form (child_at r a (pred r.levels) (a.start + 1)) (sized d q) n end es =
    record { cost = k; means = all; takes = takes; covers = affords_rest k c (paid_own at) enters covers; spent = refl } in
    let sized_so : ReadsElements form (child_at r a (pred r.levels) (a.start + 1)) l.sections n end es =
    subst (λ x. ReadsElements form (child_at r a (pred r.levels) (a.start + 1)) x n end es) (sym rows) row in
    let data_of : d ≡ l.sections.data_words = sym (ap (λ (x : StructSize). x.data_words) rows) in
    let pointers_of : q ≡ l.sections.pointers = sym (ap (λ (x : StructSize). x.pointers) rows) in
    (end, (s, data_of, pointers_of, sym many, subst (λ x. ReadsElements form x l.sections n end es) (sym there) sized_so))

list_matches : (form : Form) (r : Reading) (m n : Meter) (l : ListElements) (t : Tree) (c : ℕ) (copied : Tree) → LeadsToList r m n l → MeansThere r t c → AllowsCapabilities form (capabilities t) →
    Affords r.charging m c → as_wanted AList t ≡ Some copied →
    ListMatches form l n copied
list_matches form r m n l Null c copied leads means takes covers e = subst (ListMatches form l n) (same_some (Flat 0 []) copied e) (null_matches form r m n l leads means.0)
list_matches form r m n l (Capability i) c copied leads means takes covers e = absurd (cc)
list_matches form r m n l (Struct ws ts) c copied leads means takes covers e = absurd (cc)
list_matches form r m n l (Flat size ns) c copied leads means takes covers e =
    subst (ListMatches form l n) (sym (not_bits (nat_eq size 1) (Flat size ns) copied e).1) (flat_matches form r m n l size ns c leads means)
list_matches form r m n l (Pointers ts) c copied leads means takes covers e =
    subst (ListMatches form l n) (same_some (Pointers ts) copied e) (pointers_match form r m n l ts c leads means takes covers)
list_matches form r m n l (Structs d q es) c copied leads means takes covers e =
    subst (ListMatches form l n) (same_some (Structs d q es) copied e) (structs_match form r m n l d q es c leads means takes covers)

-- a list pointer can hold the number n of elements
few_elements : (size : ElementSize) (n width : ℕ) → size_number size ≤ 6 → n < 2 ^ 29 → FitsListPointer size n width
few_elements Void n width le few = few
few_elements Bit n width le few = few
few_elements Byte n width le few = few
few_elements TwoBytes n width le few = few
few_elements FourBytes n width le few = few
few_elements EightBytes n width le few = few
few_elements Pointer n width le few = few
few_elements InlineComposite n width le few = absurd (omega arith)

word_below : (r : Reading) (a : Target) → AreWords r.segments → LeadsTo r a → a.word < 2 ^ 64
word_below r a words to = at_some (λ (x : Target). x.word < 2 ^ 64) (leads r.segments r.segment r.at) a to.1 (leads_word r.segments r.segment r.at words)

pub list_small : (r : Reading) (m n : Meter) (l : ListElements) → AreWords r.segments → LeadsToList r m n l → FitsListPointer l.size l.count (l.sections.data_words + l.sections.pointers)
list_small r m n l words (no_list null void none same) =
    few_elements l.size l.count (l.sections.data_words + l.sections.pointers) (omega (arith, ap size_number void)) (omega (arith, none))
list_small r m n l words (a_plain_list a o z s few no_bits first counts) =
    few_elements l.size l.count (l.sections.data_words + l.sections.pointers) few (omega (arith, counts, word_below r a words (entered_leads o)))
list_small r m n l words (a_struct_list a o z s sections first counts) =
    let fits : offset_bits (tag r.segments a) * (data_words (tag r.segments a) + pointer_count (tag r.segments a)) ≤ list_count a.word = (o.meets.tagged z).1 in
    let small : list_count a.word < 2 ^ 29 = omega (arith, word_below r a words (entered_leads o)) in
    let few : offset_bits (tag r.segments a) < 2 ^ 30 = omega arith in
    let wide : l.sections.data_words + l.sections.pointers ≡ data_words (tag r.segments a) + pointer_count (tag r.segments a) = ap (λ (x : StructSize). x.data_words + x.pointers) sections in
    rw (s, counts, wide) (few, omega (arith, fits, small))

-- the copy of a list isn't refused if it can be made
pub list_fits : (c : Copying) (r : Reading) (m n m' : Meter) (l : ListElements) (id at : ℕ) (old new : View) (k : ErrorKind) → c.wanted ≡ AList → LeadsToList r m n l →
    FitsListPointer l.size l.count (l.sections.data_words + l.sections.pointers) → CanBeCopiedAs c r m (length (segment old.words id)) (old.room id) →
    RefusesToCopy (list_original l.size l.sections l.count l.first) (copy_call (form_of c.canonicalize) (call_at id at old new) n m') k → ⊥
list_fits c r m n m' l id at old new k is leads small can refuses =
    let x = list_matches (form_of c.canonicalize) r m n l can.value can.cost can.copied leads can.means can.takes can.covers (subst (λ w. as_wanted w can.value ≡ Some can.copied) is can.is_wanted) in
    elim refuses [
      | inl (lacks, exceeds) ↦ omega (arith, can.fits, exceeds (form_of c.canonicalize) n x.0 can.copied (as_list_read (form_of c.canonicalize) l l.size n x.0 can.copied refl x.1), list_words l.size l.sections l.count l.first (form_of c.canonicalize) can.copied)
      | inr (inl refused) ↦ (unreadable (list_stops (form_of c.canonicalize) r m n m' l k leads (list_refused_as (form_of c.canonicalize) l l.size n m' k refl refused))).only can.value can.cost can.means can.takes can.covers
      | inr (inr large) ↦ (exceeding l.size l.sections l.count l.first (form_of c.canonicalize) k large).0 small
    ]
