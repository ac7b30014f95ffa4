-- How many words a message gains if objects are made, and if they are copied one after another.
use Rattle.std.proofs.Common.{◌≡◌, ◌≢◌, inl, inr, ℕ, zero, suc, pred, ◌+◌, ◌*◌, ◌<◌, ◌≤◌, Bool, true, Some, Result, Ok, Err, MatchResult, List, [], ◌∷◌, length, sum_by, length-take, drop, set, refl, sym, ap, ◌∙◌, subst, arith, mul-le-mul_left}
use Rattle.std.specs.Prelude.{⊤}
use Rattle.std.proofs.lemmas.Bool.{cases_lt}
use Rattle.std.proofs.lemmas.List.{length-set}
use Rattle.std.proofs.lemmas.List.Sums.{sum_by-cons}
use Rattle.capnp_words.specs.declared.error.ErrorKind.{ErrorKind}
use Rattle.capnp_words.specs.declared.error.ErrorKind.TheVariants.{CannotCreateACanonicalMessageWithACapability, UnknownPointerType}
use Rattle.capnp_words.specs.Meter.{Meter, Affords}
use Rattle.capnp_format.specs.Segments.{Segments, Target, segment, words_at}
use Rattle.capnp_format.specs.Tree.{Null, Capability, Struct, Flat, Pointers, Structs, no_trees, no_elements, count, element_count}
use Rattle.capnp_format.specs.Word.{capability_word, offset_bits, data_words, pointer_count, element_size, list_count}
use Rattle.capnp_format.proofs.Children.{with_last, count-with_last}
use Rattle.capnp_arena_traits.specs.View.{View, KeepsLimits}
use Rattle.capnp_arena_traits.specs.Written.{with_words, with_word}
use Rattle.capnp_arena_traits.proofs.WordsOver.{lengths_kept}
use Rattle.capnp_words.specs.declared.wire_pointer.StructSize.{StructSize}
use Rattle.capnp_words.specs.declared.wire_pointer.ElementSize.{ElementSize}
use Rattle.capnp_words.specs.declared.wire_pointer.ElementSize.TheVariants.{Void, Bit, Byte, TwoBytes, FourBytes, EightBytes, Pointer, InlineComposite}
use Rattle.capnp_words.specs.Sizes.{size_number}
use Rattle.capnp_format.specs.Numbers.{words_for, unpacked}
use Rattle.capnp_allocation.specs.Made.{structs_words}
use Rattle.capnp_allocation.specs.Memory.{Lengthens, IsNextRoom, IsRefusedFor}
use Rattle.capnp_allocation.specs.Near.{HasOwnRoom}
use Rattle.capnp_allocation.specs.Zeroed.{IsPruned}
use Rattle.capnp_allocation.proofs.WordsPut.{words_put}
use Rattle.capnp_pointers.specs.Demands.{own_charge, tag}
use Rattle.capnp_pointers.specs.Faults.{child_at}
use Rattle.capnp_pointers.specs.Objects.{IsObject}
use Rattle.capnp_pointers.specs.Outcomes.{Reads, ReadsAll, ReadsElements, Entered}
use Rattle.capnp_pointers.specs.Reading.{Reading, place_past, segment_read, words_from, pointers_of, tag_size}
use Rattle.capnp_pointers.specs.Refusals.{Stopped, in_struct, in_pointers, in_element, StopsWithin, StopsAmong, StopsAmongElements, here, below, IsTried}
use Rattle.capnp_pointers.specs.Spending.{pointers_in, pointers_in_all, pointers_in_elements}
use Rattle.capnp_pointers.specs.Wanted.{Form, plain, canonical, of_default}
use Rattle.capnp_pointers.specs.declared.object.Place.{Place}
use Rattle.capnp_pointers.specs.declared.object.Object.TheVariants.{Null as ObjectNull, Capability as ObjectCapability, Struct as ObjectStruct, Flat as ObjectFlat, Pointers as ObjectPointers, Structs as ObjectStructs}
use Rattle.capnp_pointers.specs.declared.object.Purpose.TheVariants.{Value}
use Rattle.capnp_pointers.proofs.Budget.PaidAndLeft.{affords_none, affords_both, fewer_than_words, one_element_more, paid_own, paid_all, paid_elements, pointers_within, pointers_within_all, pointers_within_elements}
use Rattle.capnp_pointers.proofs.WholeValue.ChildrenRead.{read_none, read_more, read_no_element, pointers_in-with_last}
use Rattle.capnp_pointers.proofs.WholeValue.ObjectsRead.{own_struct, own_flat, own_pointers, own_structs, read_null, read_flat, read_struct, read_pointers, read_structs}
use Rattle.capnp_pointers.proofs.WholeValue.UnreadableIfRefused.{breaks_off_spends, stops_struct, stops_pointers, stops_structs}
use Rattle.capnp_pointers.proofs.WholeValue.OutcomesAreTrue.{few_followed, reading_spends}
use Rattle.capnp_copies.specs.Changes.{CopyCall, copy_call, StayInSegment}
use Rattle.capnp_copies.specs.Costs.{spent_before, spent_until, spent_among, spent_among_elements}
use Rattle.capnp_copies.specs.Originals.{value_original, children_original, elements_original, sections_original, numbers_original, pointers_original, structs_original, list_original, kept_count}
use Rattle.capnp_copies.specs.Growth.{TakesNone, Makes, no_object, near, far, both, MakesAtMost, TakesAtMost}
use Rattle.capnp_copies.specs.declared.widths.ElementSizes.{ElementSizes}
use Rattle.capnp_copies.proofs.Copying.{there}
use Rattle.capnp_copies.proofs.FilledSections.{sections_kept}
use Rattle.capnp_copies.proofs.FilledValues.{capability_read, CapabilityCopied}
use Rattle.capnp_copies.proofs.KeptForms.{SourceKept, one_more as one_row_more, stops_sooner, blank_elements}
use Rattle.capnp_copies.proofs.ObjectsMade.{TakesForCopy, TakesUntilStop, Begins, no_pad}
use Rattle.capnp_copies.proofs.ObjectsRead.{inside, capability_stopped, default_stopped}
use Rattle.capnp_pointers.proofs.WholeValue.ValueAgrees.{stopped_form}
use Rattle.capnp_copies.proofs.StayingNear.{stay_fewer}
use Rattle.capnp_pointers.proofs.WholeValue.Unreadable.{Spends}
use Rattle.capnp_pointers.proofs.WholeValue.Shorthands.{ReadsBefore}
use Rattle.capnp_allocation.specs.Makes.{call_at}

-- The words of all segments.

-- The number of words of all segments of a message.
abbrev message_words : Segments → ℕ
message_words S = sum_by length S

one_more : (s : List ℕ) (S : Segments) → message_words (s ∷ S) ≡ length s + message_words S
one_more s S = sum_by-cons length s S

-- If no segment gets longer, the message doesn't get more words.
no_longer : (S R : Segments) → ((v : ℕ) → length (segment R v) ≤ length (segment S v)) → message_words R ≤ message_words S
no_longer S [] h = omega arith
no_longer [] (r ∷ R) h = omega (arith, one_more r R, h 0, no_longer [] R (λ v. h (suc v)))
no_longer (s ∷ S) (r ∷ R) h = omega (arith, one_more r R, one_more s S, h 0, no_longer S R (λ v. h (suc v)))

-- One segment gets longer by at most n words, or by at least n.
at_most : (S R : Segments) (k n : ℕ) → length (segment R k) ≤ length (segment S k) + n → ((v : ℕ) → v ≢ k → length (segment R v) ≤ length (segment S v)) → message_words R ≤ message_words S + n
at_most S [] k n g h = omega arith
at_most [] (r ∷ R) zero n g h = omega (arith, one_more r R, g, no_longer [] R (λ v. h (suc v) (λ e. omega (arith, e))))
at_most [] (r ∷ R) (suc k) n g h = omega (arith, one_more r R, h 0 (λ e. omega (arith, e)), at_most [] R k n g (λ v o. h (suc v) (λ e. o (omega (arith, e)))))
at_most (s ∷ S) (r ∷ R) zero n g h = omega (arith, one_more r R, one_more s S, g, no_longer S R (λ v. h (suc v) (λ e. omega (arith, e))))
at_most (s ∷ S) (r ∷ R) (suc k) n g h = omega (arith, one_more r R, one_more s S, h 0 (λ e. omega (arith, e)), at_most S R k n g (λ v o. h (suc v) (λ e. o (omega (arith, e)))))

at_least : (S R : Segments) (k n : ℕ) → length (segment S k) + n ≤ length (segment R k) → ((v : ℕ) → v ≢ k → length (segment S v) ≤ length (segment R v)) → message_words S + n ≤ message_words R
at_least [] [] k n g h = omega (arith, g)
at_least (s ∷ S) [] zero n g h = omega (arith, one_more s S, g, no_longer [] S (λ v. h (suc v) (λ e. omega (arith, e))))
at_least (s ∷ S) [] (suc k) n g h = omega (arith, one_more s S, h 0 (λ e. omega (arith, e)), at_least S [] k n g (λ v o. h (suc v) (λ e. o (omega (arith, e)))))
at_least [] (r ∷ R) zero n g h = omega (arith, one_more r R, g)
at_least [] (r ∷ R) (suc k) n g h = omega (arith, one_more r R, at_least [] R k n g (λ v o. h (suc v) (λ e. o (omega (arith, e)))))
at_least (s ∷ S) (r ∷ R) zero n g h = omega (arith, one_more r R, one_more s S, g, no_longer R S (λ v. h (suc v) (λ e. omega (arith, e))))
at_least (s ∷ S) (r ∷ R) (suc k) n g h = omega (arith, one_more r R, one_more s S, h 0 (λ e. omega (arith, e)), at_least S R k n g (λ v o. h (suc v) (λ e. o (omega (arith, e)))))

lengthened : (S R : Segments) (k n : ℕ) → Lengthens S R k n → message_words R ≡ message_words S + n
lengthened S R k n x =
    omega (arith, at_most S R k n (omega (arith, x.gained)) (λ v other. omega (arith, x.others v other)), at_least S R k n (omega (arith, x.gained)) (λ v other. omega (arith, x.others v other)))

same_words : (S R : Segments) → ((v : ℕ) → length (segment R v) ≡ length (segment S v)) → message_words R ≡ message_words S
same_words S R e = omega (arith, no_longer S R (λ v. omega (arith, e v)), no_longer R S (λ v. omega (arith, e v)))

-- No words are allocated: nothing is done, words are overwritten, objects are zeroed, or memory is
-- refused.

pub none_itself : (v : View) → TakesNone v v
none_itself v = record { segments = refl; words = λ k. refl; room = λ k l. refl }

pub none_both : {a b c : View} → TakesNone a b → TakesNone b c → TakesNone a c
none_both {a} {b} {c} x y = record { segments = y.segments ∙ x.segments; words = λ v. y.words v ∙ x.words v; room = λ k l. y.room k (omega (arith, x.segments, l)) ∙ x.room k l }

pub none_written : (old new : View) (s p : ℕ) (ws : List ℕ) → p + length ws ≤ length (segment old.words s) → new ≡ record old { words = with_words old.words s p ws } → TakesNone old new
none_written old new s p ws inside writes =
    let put = words_put old.words new.words s p ws inside (ap (λ (v : View). v.words) writes) in
    record { segments = put.long.segments; words = put.long.words; room = λ k l. ap (λ (v : View). v.room k) writes }

pub none_word : (old new : View) (s p x : ℕ) → new ≡ record old { words = with_word old.words s p x } → TakesNone old new
none_word old new s p x writes = record {
  segments = ap (λ (v : View). length v.words) writes ∙ length-set old.words s (set (segment old.words s) p x);
  words = λ v. ap (λ (w : View). length (segment w.words v)) writes ∙ lengths_kept old.words s (set (segment old.words s) p x) (length-set (segment old.words s) p x) v;
  room = λ k l. ap (λ (v : View). v.room k) writes;
}

pub none_pruned : (old new : View) → KeepsLimits old new → IsPruned old.words new.words → TakesNone old new
none_pruned old new limits pruned = record { segments = pruned.segments; words = pruned.words; room = λ k l. ap (λ (v : View). v.room k) limits }

pub none_refused : (old new : View) (n : ℕ) (k : ErrorKind) → IsRefusedFor old new n k → new.words ≡ old.words → TakesNone old new
none_refused old new n k refused same = record { segments = ap length same; words = λ v. ap (λ (S : Segments). length (segment S v)) same; room = λ j l. ap (λ (v : View). v.room j) refused.1 }

-- What is made, at most.

pub made_none : {id : ℕ} {old new : View} → TakesNone old new → MakesAtMost id old new 0 0
made_none none = record { words = 0; pads = 0; made = no_object none; less = omega arith; few = omega arith }

pub made_more : {id n p m q : ℕ} {old new : View} → n ≤ m → p ≤ q → MakesAtMost id old new n p → MakesAtMost id old new m q
made_more less few x = record { words = x.words; pads = x.pads; made = x.made; less = omega (arith, x.less, less); few = omega (arith, x.few, few) }

pub made_both : {id n p m q : ℕ} {old mid new : View} → MakesAtMost id old mid n p → MakesAtMost id mid new m q → MakesAtMost id old new (n + m) (p + q)
made_both {mid = mid} x y = record { words = x.words + y.words; pads = x.pads + y.pads; made = both mid x.made y.made; less = omega (arith, x.less, y.less); few = omega (arith, x.few, y.few) }

pub made_within : {id n p : ℕ} {old mid last new : View} → TakesNone old mid → TakesNone last new → MakesAtMost id mid last n p → MakesAtMost id old new n p
made_within before after x = made_more (omega arith) (omega arith) (made_both (made_none before) (made_both x (made_none after)))

pub made_elsewhere : {n p : ℕ} (c d : CopyCall) → TakesNone d.old c.old → TakesNone c.new d.new → d.segment ≡ c.segment → MakesAtMost c.segment c.old c.new n p → MakesAtMost d.segment d.old d.new n p
made_elsewhere {n} {p} c d before after same made = subst (λ id. MakesAtMost id d.old d.new n p) (sym same) (made_within before after made)

-- There is only one next room.
next_room_is : (v : View) (n j k : ℕ) → IsNextRoom v n j → IsNextRoom v n k → j ≡ k
next_room_is v n j k (inl f) (inl g) = elim (cases_lt j k) [
  | inl less ↦ absurd (omega (arith, f.1, g.2 j less))
  | inr no_less ↦ elim (cases_lt k j) [ inl less ↦ absurd (omega (arith, g.1, f.2 k less)) | inr no_more ↦ omega (arith, no_less, no_more) ]
]
next_room_is v n j k (inl f) (inr (full, last)) = absurd (omega (arith, f.1, full j f.0))
next_room_is v n j k (inr (full, last)) (inl g) = absurd (omega (arith, g.1, full k g.0))
next_room_is v n j k (inr (full, last)) (inr (full', last')) = last ∙ sym last'

-- The next room isn't in a segment without room.
next_room_elsewhere : (v : View) (id n k : ℕ) → id < length v.words → v.room id < length (segment v.words id) + n → IsNextRoom v (n + 1) k → k ≢ id
next_room_elsewhere v id n k there full (inl fit) = λ same.
    (let room : length (segment v.words id) + (n + 1) ≤ v.room id = subst (λ j. length (segment v.words j) + (n + 1) ≤ v.room j) same fit.1 in
    absurd (omega (arith, room, full)))
next_room_elsewhere v id n k there full (inr (none, another)) = λ same. absurd (omega (arith, another, same, there))

pub made_object : {id k n m p : ℕ} {old mid new : View} → Begins id k n old mid → MakesAtMost k mid new m p → MakesAtMost id old new (n + m) (1 + p)
made_object {id} {k} {n} {m} {p} {old} {mid} {new} o x = elim (cases_lt (old.room id) (length (segment old.words id) + n)) [
  | inl full ↦ (
      let (j, next, long) = o.taken.far full in
      let same : j ≡ k = next_room_is old (n + 1) j k next (o.far full) in
      let there : Lengthens old.words mid.words k (n + 1) = subst (λ i. Lengthens old.words mid.words i (n + 1)) same long in
      record { words = n + x.words; pads = 1 + x.pads; made = far n k mid (next_room_elsewhere old id n k o.there full (o.far full)) full (o.far full) (there, o.memory.1) x.made; less = omega (arith, x.less); few = omega (arith, x.few) }
      )
  | inr fits ↦ (
      let room : HasOwnRoom old id n = omega (arith, fits) in
      let rest : Makes id mid new x.words x.pads = subst (λ i. Makes i mid new x.words x.pads) (o.near room) x.made in
      record { words = n + x.words; pads = x.pads; made = near n mid room (o.taken.near room, o.memory.1) rest; less = omega (arith, x.less); few = omega (arith, x.few) }
      )
]

-- What is allocated, by the result of a call.
pub taken_so : {A E : Type 0} (result : Result A E) (P P' Q Q' : Type 0) → (P → P') → (Q → Q') → MatchResult result (λ _. P) (λ _. Q) → MatchResult result (λ _. P') (λ _. Q')
taken_so (Ok x) P P' Q Q' f h taken = f taken
taken_so (Err k) P P' Q Q' f h taken = h taken

-- Consecutive pointers: none yet, one more, and one that is refused.

pub none_taken : (r : Reading) (b : Form) (s : ℕ) (v : View) (m : Meter) → TakesForCopy (children_original r 0) (copy_call b (call_at s 0 v v) m m)
unfolding read_none
none_taken r b s v m = (no_trees, refl, read_none b r m, made_more (omega arith) (omega arith) (made_none (none_itself v)))

pub one_taken : {r : Reading} {b : Form} {s i : ℕ} {old mid new : View} {m m' m'' : Meter} → TakesForCopy (children_original r i) (copy_call b (call_at s 0 old mid) m m') → TakesForCopy (value_original (place_past r i)) (copy_call b (call_at s 0 mid new) m' m'') →
    TakesForCopy (children_original r (i + 1)) (copy_call b (call_at s 0 old new) m m'')
unfolding read_more
one_taken {r} {b} {s} {mid = mid} {new} {m' = m'} {m''} (ts, counts, are_read, made) next =
    let t = next.0 in
    let here : (one : Reads b (place_past r (count ts)) m' m'' t) × MakesAtMost s mid new one.cost (pointers_in t) = rw counts (next.1, next.2) in
    (with_last ts t, count-with_last ts t ∙ omega (arith, counts), read_more are_read here.0, made_more (omega arith) (omega (arith, pointers_in-with_last ts t)) (made_both made here.1))

pub stop_taken : {r : Reading} {b : Form} {s i n : ℕ} {old mid new : View} {m m' m'' : Meter} → i < n → TakesForCopy (children_original r i) (copy_call b (call_at s 0 old mid) m m') → TakesUntilStop (value_original (place_past r i)) (copy_call b (call_at s 0 mid new) m' m'') →
    TakesUntilStop (children_original r n) (copy_call b (call_at s 0 old new) m m'')
stop_taken {r} {b} {s} {mid = mid} {new} {m' = m'} {m''} less (ts, counts, are_read, made) stop =
    let here : (one : StopsWithin b (IsTried b) (place_past r (count ts)) m' m'') × MakesAtMost s mid new (spent_until one).words (spent_until one).pointers = rw counts (stop.0, stop.1) in
    (record { first = ts; fewer = omega (arith, counts, less); mid = m'; are_read = are_read; stops = here.0 }, made_more (omega arith) (omega arith) (made_both made here.1))

pub all_taken : {r : Reading} {b : Form} {s i j : ℕ} {old new : View} {m m' : Meter} → i ≡ j → TakesForCopy (children_original r i) (copy_call b (call_at s 0 old new) m m') → TakesForCopy (children_original r j) (copy_call b (call_at s 0 old new) m m')
all_taken same (ts, counts, are_read, made) = (ts, counts ∙ same, are_read, made)

-- The pointers of elements: none yet, those of one more element, and one that is refused.

pub no_row_taken : (r : Reading) (sizes : ElementSizes) (b : Form) (s : ℕ) (v : View) (m : Meter) → TakesForCopy (elements_original r sizes 0) (copy_call b (call_at s 0 v v) m m)
unfolding read_no_element
no_row_taken r sizes b s v m = (no_elements, refl, read_no_element b r sizes.source m, made_more (omega arith) (omega arith) (made_none (none_itself v)))

pub blank_taken : (r : Reading) (sizes : ElementSizes) (n : ℕ) (b : Form) (s : ℕ) (v : View) (m : Meter) → SourceKept b r sizes n → sizes.kept.data_words + sizes.kept.pointers ≡ 0 → TakesForCopy (elements_original r sizes n) (copy_call b (call_at s 0 v v) m m)
blank_taken r sizes n b s v m fits none =
    let x = blank_elements b r sizes n m n (omega arith) fits (omega (arith, none)) in
    (x.all, x.counts, x.are_read, made_more (omega arith) (omega arith) (made_none (none_itself v)))

pub row_taken : {r : Reading} {sizes : ElementSizes} {b : Form} {s i n : ℕ} {old mid new : View} {m m' m'' : Meter} → SourceKept b r sizes n → i < n → TakesForCopy (elements_original r sizes i) (copy_call b (call_at s 0 old mid) m m') →
    TakesForCopy (children_original (pointers_of r sizes.source i) sizes.kept.pointers) (copy_call b (call_at s 0 mid new) m' m'') → TakesForCopy (elements_original r sizes (i + 1)) (copy_call b (call_at s 0 old new) m m'')
row_taken {r} {sizes} {b} {s} {n = n} {mid = mid} {new} {m} {m'} {m''} fits less (es, counts, are_read, made) (ts, all, next, more) =
    let here : (one : ReadsAll b (pointers_of r sizes.source (element_count es)) m' m'' ts) × MakesAtMost s mid new one.cost (pointers_in_all ts) = rw counts (next, more) in
    let a = one_row_more b r sizes n m m' m'' es ts fits are_read (omega (arith, counts, less)) all here.0 in
    (a.all, a.counts ∙ omega (arith, counts), a.are_read, made_more (omega (arith, a.costs)) (omega (arith, a.follows)) (made_both made here.1))

pub row_stop_taken : {r : Reading} {sizes : ElementSizes} {b : Form} {s i n : ℕ} {old mid new : View} {m m' m'' : Meter} → SourceKept b r sizes n → i < n → TakesForCopy (elements_original r sizes i) (copy_call b (call_at s 0 old mid) m m') →
    TakesUntilStop (children_original (pointers_of r sizes.source i) sizes.kept.pointers) (copy_call b (call_at s 0 mid new) m' m'') → TakesUntilStop (elements_original r sizes n) (copy_call b (call_at s 0 old new) m m'')
unfolding stops_sooner
row_stop_taken {r} {sizes} {b} {s} {mid = mid} {new} {m' = m'} {m''} fits less (es, counts, are_read, made) stop =
    let here : (one : StopsAmong b (IsTried b) (pointers_of r sizes.source (element_count es)) sizes.kept.pointers m' m'') × MakesAtMost s mid new (spent_among one).words (spent_among one).pointers = rw counts (stop.0, stop.1) in
    (record { first = es; fewer = omega (arith, counts, less); mid = m'; are_read = are_read; stops = stops_sooner fits.less_pointers here.0 }, made_more (omega arith) (omega arith) (made_both made here.1))

pub rows_taken : {r : Reading} {b : Form} {s i j : ℕ} {old new : View} {m m' : Meter} (sizes : ElementSizes) → i ≡ j → TakesForCopy (elements_original r sizes i) (copy_call b (call_at s 0 old new) m m') → TakesForCopy (elements_original r sizes j) (copy_call b (call_at s 0 old new) m m')
rows_taken sizes same (es, counts, are_read, made) = (es, counts ∙ same, are_read, made)

-- No words are allocated before something is copied, and none afterwards.

pub all_within : {r : Reading} {b : Form} {s i : ℕ} {old mid last new : View} {m m' : Meter} → TakesNone old mid → TakesNone last new → TakesForCopy (children_original r i) (copy_call b (call_at s 0 mid last) m m') → TakesForCopy (children_original r i) (copy_call b (call_at s 0 old new) m m')
all_within before after (ts, counts, are_read, made) = (ts, counts, are_read, made_within before after made)

pub among_within : {r : Reading} {b : Form} {s i j : ℕ} {old mid last new : View} {m m' : Meter} → i ≤ j → TakesNone old mid → TakesNone last new → TakesUntilStop (children_original r i) (copy_call b (call_at s 0 mid last) m m') → TakesUntilStop (children_original r j) (copy_call b (call_at s 0 old new) m m')
unfolding stops_sooner
among_within fewer before after (off, made) = (stops_sooner fewer off, made_within before after made)

-- The same for what a place means, for a struct, and for a list.

pub value_within : (r : Reading) (c d : CopyCall) → TakesNone d.old c.old → TakesNone c.new d.new → d.segment ≡ c.segment → (value_original r).takes c.form c.before c.after (MakesAtMost c.segment c.old c.new) → (value_original r).takes c.form c.before c.after (MakesAtMost d.segment d.old d.new)
value_within r c d before after same (t, x, made) = (t, x, made_elsewhere c d before after same made)

pub until_within : (r : Reading) (c d : CopyCall) → TakesNone d.old c.old → TakesNone c.new d.new → d.segment ≡ c.segment → (value_original r).takes_until c.form c.before c.after (MakesAtMost c.segment c.old c.new) → (value_original r).takes_until c.form c.before c.after (MakesAtMost d.segment d.old d.new)
until_within r c d before after same (x, made) = (x, made_elsewhere c d before after same made)

pub sections_within : (ws : List ℕ) (r : Reading) (q : ℕ) (c d : CopyCall) → TakesNone d.old c.old → TakesNone c.new d.new → d.segment ≡ c.segment → (sections_original ws r q).takes c.form c.before c.after (MakesAtMost c.segment c.old c.new) →
    (sections_original ws r q).takes c.form c.before c.after (MakesAtMost d.segment d.old d.new)
sections_within ws r q c d before after same (ts, counts, x, made) = (ts, counts, x, made_elsewhere c d before after same made)

pub sections_until_more : (ws : List ℕ) (r : Reading) (q : ℕ) (b : Form) (m m' : Meter) (P Q : ℕ → ℕ → Type 0) → ((i j : ℕ) → P i j → Q i j) → (sections_original ws r q).takes_until b m m' P → (sections_original ws r q).takes_until b m m' Q
sections_until_more ws r q b m m' P Q f tried = elim tried [ inl x ↦ inl (x.0, f _ _ x.1) | inr x ↦ inr (x.0, f _ _ x.1) ]

pub sections_until_within : (ws : List ℕ) (r : Reading) (q : ℕ) (c d : CopyCall) → TakesNone d.old c.old → TakesNone c.new d.new → d.segment ≡ c.segment → (sections_original ws r q).takes_until c.form c.before c.after (MakesAtMost c.segment c.old c.new) →
    (sections_original ws r q).takes_until c.form c.before c.after (MakesAtMost d.segment d.old d.new)
sections_until_within ws r q c d before after same tried = sections_until_more ws r q c.form c.before c.after (MakesAtMost c.segment c.old c.new) (MakesAtMost d.segment d.old d.new) (λ i j made. made_elsewhere c d before after same made) tried

list_more : (size : ElementSize) (sections : StructSize) (n : ℕ) (r : Reading) (b : Form) (m m' : Meter) (P Q : ℕ → ℕ → Type 0) → ((i j : ℕ) → P i j → Q i j) → (list_original size sections n r).takes b m m' P → (list_original size sections n r).takes b m m' Q
list_more Pointer sections n r b m m' P Q f (ts, counts, x, made) = (ts, counts, x, f _ _ made)
list_more InlineComposite sections n r b m m' P Q f (es, counts, x, made) = (es, counts, x, f _ _ made)
list_more Void sections n r b m m' P Q f (same, made) = (same, f _ _ made)
list_more Bit sections n r b m m' P Q f (same, made) = (same, f _ _ made)
list_more Byte sections n r b m m' P Q f (same, made) = (same, f _ _ made)
list_more TwoBytes sections n r b m m' P Q f (same, made) = (same, f _ _ made)
list_more FourBytes sections n r b m m' P Q f (same, made) = (same, f _ _ made)
list_more EightBytes sections n r b m m' P Q f (same, made) = (same, f _ _ made)

pub list_until_more : (size : ElementSize) (sections : StructSize) (n : ℕ) (r : Reading) (b : Form) (m m' : Meter) (P Q : ℕ → ℕ → Type 0) → ((i j : ℕ) → P i j → Q i j) → (list_original size sections n r).takes_until b m m' P → (list_original size sections n r).takes_until b m m' Q
list_until_more Pointer sections n r b m m' P Q f tried = elim tried [ inl x ↦ inl (x.0, f _ _ x.1) | inr x ↦ inr (x.0, f _ _ x.1) ]
list_until_more InlineComposite sections n r b m m' P Q f tried = elim tried [ inl x ↦ inl (x.0, f _ _ x.1) | inr x ↦ inr (x.0, f _ _ x.1) ]
list_until_more Void sections n r b m m' P Q f (same, made) = (same, f _ _ made)
list_until_more Bit sections n r b m m' P Q f (same, made) = (same, f _ _ made)
list_until_more Byte sections n r b m m' P Q f (same, made) = (same, f _ _ made)
list_until_more TwoBytes sections n r b m m' P Q f (same, made) = (same, f _ _ made)
list_until_more FourBytes sections n r b m m' P Q f (same, made) = (same, f _ _ made)
list_until_more EightBytes sections n r b m m' P Q f (same, made) = (same, f _ _ made)

pub list_within : (size : ElementSize) (sections : StructSize) (n : ℕ) (r : Reading) (c d : CopyCall) → TakesNone d.old c.old → TakesNone c.new d.new → d.segment ≡ c.segment → (list_original size sections n r).takes c.form c.before c.after (MakesAtMost c.segment c.old c.new) →
    (list_original size sections n r).takes c.form c.before c.after (MakesAtMost d.segment d.old d.new)
list_within size sections n r c d before after same x = list_more size sections n r c.form c.before c.after (MakesAtMost c.segment c.old c.new) (MakesAtMost d.segment d.old d.new) (λ i j made. made_elsewhere c d before after same made) x

pub list_until_within : (size : ElementSize) (sections : StructSize) (n : ℕ) (r : Reading) (c d : CopyCall) → TakesNone d.old c.old → TakesNone c.new d.new → d.segment ≡ c.segment → (list_original size sections n r).takes_until c.form c.before c.after (MakesAtMost c.segment c.old c.new) →
    (list_original size sections n r).takes_until c.form c.before c.after (MakesAtMost d.segment d.old d.new)
list_until_within size sections n r c d before after same x = list_until_more size sections n r c.form c.before c.after (MakesAtMost c.segment c.old c.new) (MakesAtMost d.segment d.old d.new) (λ i j made. made_elsewhere c d before after same made) x

-- An object is made before pointers are copied to it.

pub pointers_behind : (r : Reading) (i : ℕ) (b : Form) (s k : ℕ) (old mid new : View) (m m' : Meter) → Begins s k i old mid → TakesForCopy (children_original r i) (copy_call b (call_at k 0 mid new) m m') → TakesForCopy (pointers_original i r) (copy_call b (call_at s 0 old new) m m')
pointers_behind r i b s k old mid new m m' begun (ts, counts, are_read, made) = (ts, counts, are_read, made_object begun made)

pub pointers_stop_behind : (r : Reading) (i : ℕ) (b : Form) (s k : ℕ) (old mid new : View) (m m' : Meter) → Begins s k i old mid → TakesUntilStop (children_original r i) (copy_call b (call_at k 0 mid new) m m') → TakesUntilStop (pointers_original i r) (copy_call b (call_at s 0 old new) m m')
pointers_stop_behind r i b s k old mid new m m' begun (off, made) = inr (off, made_object begun made)

pub structs_behind : (r : Reading) (sizes : ElementSizes) (i n : ℕ) (b : Form) (s k : ℕ) (old mid new : View) (m m' : Meter) → Begins s k n old mid → n ≤ structs_words i sizes.source → TakesForCopy (elements_original r sizes i) (copy_call b (call_at k 0 mid new) m m') →
    TakesForCopy (structs_original sizes.source i r) (copy_call b (call_at s 0 old new) m m')
structs_behind r sizes i n b s k old mid new m m' begun less (es, counts, are_read, made) = (es, counts, are_read, made_more (omega (arith, less)) (omega arith) (made_object begun made))

pub structs_stop_behind : (r : Reading) (sizes : ElementSizes) (i n : ℕ) (b : Form) (s k : ℕ) (old mid new : View) (m m' : Meter) → Begins s k n old mid → n ≤ structs_words i sizes.source → TakesUntilStop (elements_original r sizes i) (copy_call b (call_at k 0 mid new) m m') →
    TakesUntilStop (structs_original sizes.source i r) (copy_call b (call_at s 0 old new) m m')
structs_stop_behind r sizes i n b s k old mid new m m' begun less (off, made) = inr (off, made_more (omega (arith, less)) (omega arith) (made_object begun made))

-- A struct is made of the pointers that are kept, and all its pointers are read.

pub sections_behind : (ws : List ℕ) (r : Reading) (q used n : ℕ) (b : Form) (s k : ℕ) (old mid new : View) (m m' : Meter) → r.at + q ≤ length (segment_read r) → used ≡ kept_count b (words_from r q) → Begins s k n old mid → n ≤ length ws + q →
    TakesForCopy (children_original r used) (copy_call b (call_at k 0 mid new) m m') → TakesForCopy (sections_original ws r q) (copy_call b (call_at s 0 old new) m m')
sections_behind ws r q used n b s k old mid new m m' room cut begun less (ts, counts, are_read, made) =
    let f = sections_kept b [] r q m m' ts room (counts ∙ cut) are_read in
    (f.all, f.counts, f.are_read, made_more (omega (arith, less, f.costs)) (omega (arith, f.follows)) (made_object begun made))

pub sections_stop_behind : (ws : List ℕ) (r : Reading) (q used n : ℕ) (b : Form) (s k : ℕ) (old mid new : View) (m m' : Meter) → used ≤ q → Begins s k n old mid → n ≤ length ws + q → TakesUntilStop (children_original r used) (copy_call b (call_at k 0 mid new) m m') →
    TakesUntilStop (sections_original ws r q) (copy_call b (call_at s 0 old new) m m')
unfolding stops_sooner
sections_stop_behind ws r q used n b s k old mid new m m' fewer begun less (off, made) = inr (stops_sooner fewer off, made_more (omega (arith, less)) (omega arith) (made_object begun made))

-- Elements whose sections aren't wider don't take more words.
pub no_wider : (n a b c d : ℕ) → a ≤ c → b ≤ d → n * (a + b) ≤ n * (c + d)
no_wider n a b c d l m = mul-le-mul_left n (omega (arith, l, m))

-- What a pointer leads to.

pub read_stop_taken : {r : Reading} {b : Form} {s : ℕ} {v : View} {m m' : Meter} {k : ErrorKind} → Stopped Value plain r m m' k → TakesUntilStop (value_original r) (copy_call b (call_at s 0 v v) m m')
read_stop_taken {b = b} {v = v} {k = k} stopped = (here (inl (k, stopped_form b stopped)), made_none (none_itself v))

pub null_takes : {r : Reading} {b : Form} {s : ℕ} {v : View} {m m' : Meter} → IsObject Value r m m' ObjectNull → TakesForCopy (value_original r) (copy_call b (call_at s 0 v v) m m')
unfolding read_null
null_takes {r} {b} {s} {v} {m} object = subst (λ n. TakesForCopy (value_original r) (copy_call b (call_at s 0 v v) m n)) (sym object.1) (Null, read_null m object.0, made_more (omega arith) (omega arith) (made_none (none_itself v)))

pub capability_takes : {r : Reading} {s i : ℕ} {old new : View} {m m' : Meter} → IsObject Value r m m' (ObjectCapability i) → TakesNone old new → TakesForCopy (value_original r) (copy_call plain (call_at s 0 old new) m m')
unfolding capability_read
capability_takes {i = i} {m = m} {m'} object none = (Capability i, capability_read m m' i object, made_more (omega arith) (omega arith) (made_none none))

pub capability_stop_takes : {r : Reading} {s i : ℕ} {v : View} {m m' : Meter} → IsObject Value r m m' (ObjectCapability i) → TakesUntilStop (value_original r) (copy_call canonical (call_at s 0 v v) m m')
capability_stop_takes {i = i} {v} {m} {m'} object = (here (inl (CannotCreateACanonicalMessageWithACapability, capability_stopped m m' i object)), made_none (none_itself v))

pub default_stop_takes : {r : Reading} {s i : ℕ} {v : View} {m m' : Meter} → IsObject Value r m m' (ObjectCapability i) → TakesUntilStop (value_original r) (copy_call of_default (call_at s 0 v v) m m')
default_stop_takes {i = i} {v} {m} {m'} object = (here (inl (UnknownPointerType, default_stopped m m' i object)), made_none (none_itself v))

pub capability_value_takes : {b : Form} {s p i : ℕ} {old new : View} (r : Reading) (m m' : Meter) (result : Result (Unit {0}) ErrorKind) → IsObject Value r m m' (ObjectCapability i) → CapabilityCopied result b s p i old new → TakesAtMost result (value_original r) (copy_call b (call_at s p old new) m m')
capability_value_takes {b} {s} {p} {i} {old} {new} r m m' (Ok x) object o =
    subst (λ f. TakesForCopy (value_original r) (copy_call f (call_at s 0 old new) m m')) (sym o.as_it_stands) (capability_takes object (none_word old new s p (capability_word i) o.copied))
capability_value_takes {b} {s} {p} {i} {old} {new} r m m' (Err k) object o = elim o.refused [
  | inl x ↦ rw (x.0, o.unchanged) (capability_stop_takes object)
  | inr x ↦ rw (x.0, o.unchanged) (default_stop_takes object)
]

-- An object is read, and there is no room for it.
entered_takes : (r : Reading) (b : Form) (s : ℕ) (old new : View) (m m' m'' : Meter) {a : Target} → Entered Value r m m' a → m'' ≡ m' → MakesAtMost s old new 0 0 → TakesUntilStop (value_original r) (copy_call b (call_at s 0 old new) m m'')
entered_takes r b s old new m m' m'' {a} o same none =
    subst (λ n. TakesUntilStop (value_original r) (copy_call b (call_at s 0 old new) m n)) (sym same) (here (inr (a, o)), none)

pub struct_takes : {r : Reading} {b : Form} {s levels : ℕ} {old new : View} {m m' m'' : Meter} {size : StructSize} (start : Place) → (0 < r.levels → levels ≡ pred r.levels) → IsObject Value r m m' (ObjectStruct start size) →
    TakesForCopy (sections_original (words_from (inside r levels start) size.data_words) (place_past (inside r levels start) size.data_words) size.pointers) (copy_call b (call_at s 0 old new) m' m'') → TakesForCopy (value_original r) (copy_call b (call_at s 0 old new) m m'')
unfolding read_struct
struct_takes {r} {b} {s} {levels = levels} {old} {new} {m' = m'} {m''} {size} start less (a, o, z, (held, es, eb), ed, eq) (ts, counts, read, made) =
    let en = less o.meets.levels in
    let e : start.at ≡ a.start = omega arith in
    let fewer = length-take size.data_words (drop start.at (segment r.segments start.segment)) in
    let given : (all : ReadsAll b (place_past (inside r levels start) size.data_words) m' m'' ts) × MakesAtMost s old new (size.data_words + size.pointers + all.cost) (1 + pointers_in_all ts) = (read, made_more (omega (arith, fewer)) (omega arith) made) in
    let all = rw (en, es, e, ed, eq) at given in
    (Struct (words_at r.segments a.segment a.start (data_words a.word)) ts, read_struct o z (counts ∙ eq) all.0, made_more (omega (arith, own_struct r.segments a z)) (omega arith) all.1)

pub struct_stop_takes : {r : Reading} {b : Form} {s levels : ℕ} {old new : View} {m m' m'' : Meter} {size : StructSize} (start : Place) → (0 < r.levels → levels ≡ pred r.levels) → IsObject Value r m m' (ObjectStruct start size) →
    TakesUntilStop (sections_original (words_from (inside r levels start) size.data_words) (place_past (inside r levels start) size.data_words) size.pointers) (copy_call b (call_at s 0 old new) m' m'') → TakesUntilStop (value_original r) (copy_call b (call_at s 0 old new) m m'')
unfolding stops_struct
struct_stop_takes {r} {b} {s} {levels} {old} {new} {m} {m'} {m''} {size} start less (a, o, z, (held, es, eb), ed, eq) tried =
    let en = less o.meets.levels in
    let e : start.at ≡ a.start = omega arith in
    elim tried [
      | inl nothing ↦ entered_takes r b s old new m m' m'' o nothing.0 nothing.1
      | inr x ↦
          (let given : (off : StopsAmong b (IsTried b) (place_past (inside r levels start) size.data_words) size.pointers m' m'') × MakesAtMost s old new (size.data_words + size.pointers + (spent_among off).words) (1 + (spent_among off).pointers) = (x.0, made_more (omega (arith, length-take size.data_words (drop start.at (segment r.segments start.segment)))) (omega arith) x.1) in
          let off = rw (en, es, e, ed, eq) at given in
          (stops_struct o z off.0, made_more (omega (arith, own_struct r.segments a z)) (omega arith) off.1))
    ]

pub pointers_take : {r : Reading} {b : Form} {s levels i : ℕ} {old new : View} {m m' m'' : Meter} (start : Place) → (0 < r.levels → levels ≡ pred r.levels) → IsObject Value r m m' (ObjectPointers start i) → TakesForCopy (pointers_original i (inside r levels start)) (copy_call b (call_at s 0 old new) m' m'') →
    TakesForCopy (value_original r) (copy_call b (call_at s 0 old new) m m'')
unfolding read_pointers
pointers_take {r} {b} {s} {levels = levels} {i} {old} {new} {m' = m'} {m''} start less (a, o, z, six, (held, es, eb), ei) (ts, counts, read, made) =
    let en = less o.meets.levels in
    let e : start.at ≡ a.start = omega arith in
    let given : (all : ReadsAll b (inside r levels start) m' m'' ts) × MakesAtMost s old new (i + all.cost) (1 + pointers_in_all ts) = (read, made) in
    let all = rw (en, es, e) at given in
    (Pointers ts, read_pointers o z six (counts ∙ ei) all.0, made_more (omega (arith, own_pointers r.segments a z six, ei)) (omega arith) all.1)

pub pointers_stop_take : {r : Reading} {b : Form} {s levels i : ℕ} {old new : View} {m m' m'' : Meter} (start : Place) → (0 < r.levels → levels ≡ pred r.levels) → IsObject Value r m m' (ObjectPointers start i) →
    TakesUntilStop (pointers_original i (inside r levels start)) (copy_call b (call_at s 0 old new) m' m'') → TakesUntilStop (value_original r) (copy_call b (call_at s 0 old new) m m'')
unfolding stops_pointers
pointers_stop_take {r} {b} {s} {levels} {i} {old} {new} {m} {m'} {m''} start less (a, o, z, six, (held, es, eb), ei) tried =
    let en = less o.meets.levels in
    let e : start.at ≡ a.start = omega arith in
    elim tried [
      | inl nothing ↦ entered_takes r b s old new m m' m'' o nothing.0 nothing.1
      | inr x ↦
          (let given : (off : StopsAmong b (IsTried b) (inside r levels start) i m' m'') × MakesAtMost s old new (i + (spent_among off).words) (1 + (spent_among off).pointers) = (x.0, x.1) in
          let off = rw (en, es, e, ei) at given in
          (stops_pointers o z six off.0, made_more (omega (arith, own_pointers r.segments a z six)) (omega arith) off.1))
    ]

pub structs_take : {r : Reading} {b : Form} {s levels i : ℕ} {old new : View} {m m' m'' : Meter} {size : StructSize} (start : Place) → (0 < r.levels → levels ≡ pred r.levels) → IsObject Value r m m' (ObjectStructs start size i) →
    TakesForCopy (structs_original size i (inside r levels start)) (copy_call b (call_at s 0 old new) m' m'') → TakesForCopy (value_original r) (copy_call b (call_at s 0 old new) m m'')
unfolding read_structs
structs_take {r} {b} {s} {levels = levels} {i} {old} {new} {m' = m'} {m''} {size} start less (a, o, z, seven, (held, eu, eb), ei, ed, eq) (es, counts, read, made) =
    let en = less o.meets.levels in
    let e : start.at ≡ a.start + 1 = omega arith in
    let given : (all : ReadsElements b (inside r levels start) size m' m'' es) × MakesAtMost s old new (1 + i * (size.data_words + size.pointers) + all.cost) (1 + pointers_in_elements es) = (read, made) in
    let all = rw (en, eu, e, ed, eq, ei) at given in
    (Structs (data_words (tag r.segments a)) (pointer_count (tag r.segments a)) es, read_structs o z seven (counts ∙ ei) all.0, made_more (omega (arith, own_structs r.segments a z seven, (o.meets.tagged (z, seven)).1)) (omega arith) all.1)

pub structs_stop_take : {r : Reading} {b : Form} {s levels i : ℕ} {old new : View} {m m' m'' : Meter} {size : StructSize} (start : Place) → (0 < r.levels → levels ≡ pred r.levels) → IsObject Value r m m' (ObjectStructs start size i) →
    TakesUntilStop (structs_original size i (inside r levels start)) (copy_call b (call_at s 0 old new) m' m'') → TakesUntilStop (value_original r) (copy_call b (call_at s 0 old new) m m'')
unfolding stops_structs
structs_stop_take {r} {b} {s} {levels} {i} {old} {new} {m} {m'} {m''} {size} start less (a, o, z, seven, (held, eu, eb), ei, ed, eq) tried =
    let en = less o.meets.levels in
    let e : start.at ≡ a.start + 1 = omega arith in
    elim tried [
      | inl nothing ↦ entered_takes r b s old new m m' m'' o nothing.0 nothing.1
      | inr x ↦
          (let given : (off : StopsAmongElements b (IsTried b) (inside r levels start) size i m' m'') × MakesAtMost s old new (1 + i * (size.data_words + size.pointers) + (spent_among_elements off).words) (1 + (spent_among_elements off).pointers) = (x.0, x.1) in
          let off = rw (en, eu, e, ed, eq, ei) at given in
          (stops_structs o z seven off.0, made_more (omega (arith, own_structs r.segments a z seven, (o.meets.tagged (z, seven)).1)) (omega arith) off.1))
    ]

pub flat_takes : {r : Reading} {b : Form} {s i : ℕ} {old new : View} {m m' : Meter} (size : ElementSize) (start : Place) → IsObject Value r m m' (ObjectFlat start size i) → MakesAtMost s old new (words_for (size_number size) i) 1 → TakesForCopy (value_original r) (copy_call b (call_at s 0 old new) m m')
unfolding read_flat
flat_takes {r} size start (a, o, z, small, at, es, ec) made =
    let given = rw (es, ec) at made in
    (Flat (element_size a.word) (unpacked (element_size a.word) (list_count a.word) (words_at r.segments a.segment a.start (words_for (element_size a.word) (list_count a.word)))), read_flat o z small, made_more (omega (arith, own_flat r.segments a z small)) (omega arith) given)

pub flat_stop_takes : {r : Reading} {b : Form} {s i : ℕ} {old new : View} {m m' : Meter} (size : ElementSize) (start : Place) → IsObject Value r m m' (ObjectFlat start size i) → TakesNone old new → TakesUntilStop (value_original r) (copy_call b (call_at s 0 old new) m m')
flat_stop_takes {r} {b} {s} {old = old} {new} {m} {m'} size start (a, o, z, small, at, es, ec) none = entered_takes r b s old new m m' m' o refl (made_none none)

-- Nothing is allocated for a list that was read, such as one that is too long; and a list of
-- numbers.

pub nothing_for_list : (size : ElementSize) (sections : StructSize) (n : ℕ) (r : Reading) (b : Form) (m : Meter) (P : ℕ → ℕ → Type 0) → P 0 0 → (list_original size sections n r).takes_until b m m P
nothing_for_list Pointer sections n r b m P none = inl (refl, none)
nothing_for_list InlineComposite sections n r b m P none = inl (refl, none)
nothing_for_list Void sections n r b m P none = (refl, none)
nothing_for_list Bit sections n r b m P none = (refl, none)
nothing_for_list Byte sections n r b m P none = (refl, none)
nothing_for_list TwoBytes sections n r b m P none = (refl, none)
nothing_for_list FourBytes sections n r b m P none = (refl, none)
nothing_for_list EightBytes sections n r b m P none = (refl, none)

pub numbers_take : {A E : Type 0} (result : Result A E) (size : ElementSize) (n : ℕ) (r : Reading) (b : Form) (s p : ℕ) (old new : View) (m : Meter) → MatchResult result (λ _. MakesAtMost s old new (words_for (size_number size) n) 1) (λ _. TakesNone old new) →
    TakesAtMost result (numbers_original size n r) (copy_call b (call_at s p old new) m m)
numbers_take (Ok x) size n r b s p old new m made = (refl, made)
numbers_take (Err k) size n r b s p old new m none = (refl, made_none none)

-- The law of what is made: only its words and its pads are allocated, and there is no pad if all of
-- it stays in one segment.

made_words : {id words pads : ℕ} {old new : View} → Makes id old new words pads → message_words new.words ≡ message_words old.words + (words + pads)
made_words {old = old} {new} (no_object none) = omega (arith, same_words old.words new.words none.words)
made_words {id = id} {old = old} (near n mid room takes rest) = omega (arith, lengthened old.words mid.words id n takes.0, made_words rest)
made_words {old = old} (far n k mid elsewhere full next takes rest) = omega (arith, lengthened old.words mid.words k (n + 1) takes.0, made_words rest)
made_words (both mid first rest) = omega (arith, made_words first, made_words rest)

pub pads_apart : (id words pads : ℕ) (old new : View) → Makes id old new words pads →
    (message_words new.words ≡ message_words old.words + (words + pads)) × (id < length old.words → StayInSegment old new id words → pads ≡ 0)
pads_apart id words pads old new made = (made_words made, λ there stays. no_pad made there stays)

-- The law of what a budget covers. Before the object at which reading breaks off, at most one
-- pointer more is followed than words were granted.

abbrev pub Covered : Bool → Meter → ℕ → ℕ → Type 0
Covered charging m g f = Affords charging m g × (f ≤ g + 1)

pub covered_below : {form : Form} {r : Reading} {m first mid : Meter} {q : ℕ} {a : Target} (g f : ℕ) → Entered Value r m first a → (before : ReadsBefore form r a q first mid) → Covered r.charging mid g f →
    Covered r.charging m (own_charge Value r.segments a + ((spent_before before).words + g)) (1 + ((spent_before before).pointers + f))
covered_below {r = r} {a = a} g f o (in_struct ts z fewer e all) (covers, few) =
    let own_words = own_struct r.segments a z in
    let within = pointers_within_all (child_at r a (pred r.levels) (a.start + data_words a.word)) ts all.cost all.means in
    (affords_both (all.cost + g) (paid_own o) (affords_both g (paid_all all) covers), omega (arith, few, fewer, own_words, within))
covered_below {r = r} {a = a} g f o (in_pointers ts z six fewer e all) (covers, few) =
    let own_words = own_pointers r.segments a z six in
    let within = pointers_within_all (child_at r a (pred r.levels) a.start) ts all.cost all.means in
    (affords_both (all.cost + g) (paid_own o) (affords_both g (paid_all all) covers), omega (arith, few, fewer, own_words, within))
covered_below {r = r} {m = m} {a = a} g f o (in_element es ts between (z, seven) fewer less e rows all) (covers, few) =
    let S : Segments = r.segments in
    let n : ℕ = offset_bits (tag S a) in
    let q : ℕ = pointer_count (tag S a) in
    let own_words = own_structs S a z seven in
    let fits = (o.meets.tagged (z, seven)).1 in
    let in_rows = pointers_within_elements (child_at r a (pred r.levels) (a.start + 1)) (tag_size S a) es rows.cost rows.means in
    let within = pointers_within_all (pointers_of (child_at r a (pred r.levels) (a.start + 1)) (tag_size S a) (element_count es)) ts all.cost all.means in
    let sum : own_charge Value S a + (rows.cost + (all.cost + g)) ≡ own_charge Value S a + (rows.cost + all.cost + g) = omega arith in (
      subst (Affords r.charging m) sum (affords_both (rows.cost + (all.cost + g)) (paid_own o) (affords_both (all.cost + g) (paid_elements rows) (affords_both g (paid_all all) covers))),
      omega (arith, few, less, own_words, fits, in_rows, within, one_element_more (element_count es) n q fewer, fewer_than_words n (data_words (tag S a)) q),
    )

covered_until : {form : Form} {P : Reading → Meter → Meter → Type 0} {r : Reading} {m m' : Meter} (off : StopsWithin form P r m m') → Covered r.charging m (spent_until off).words ((spent_until off).pointers)
covered_until {r = r} {m} (here stops) = (affords_none r.charging m, omega arith)
covered_until (below a q o before rest) = covered_below (spent_until rest).words (spent_until rest).pointers o before (covered_until rest)

-- If the reading is charged, the words granted are within a budget of x words.
pub covered_by : (charging : Bool) (m : Meter) (g x : ℕ) → charging ≡ true → m.left ≡ Some x → Affords charging m g → g ≤ x
covered_by charging m g x charged budget covers = let all : Affords true m g = subst (λ b. Affords b m g) charged covers in rw budget at all

-- The call takes at most x words and x + 1 pads, and follows at most x + 1 pointers. It takes no
-- pad if x words stay in the segment of the pointer.
abbrev pub TakesFew : CopyCall → ℕ → Type 0
TakesFew c x = (made : MakesAtMost c.segment c.old c.new x (x + 1)) × (message_words c.new.words ≤ message_words c.old.words + x + made.pads) ×
    (c.segment < length c.old.words → StayInSegment c.old c.new c.segment x → made.pads ≡ 0) × (c.after.followed ≤ c.before.followed + (x + 1))

few_of : (c : CopyCall) (x : ℕ) → MakesAtMost c.segment c.old c.new x (x + 1) → c.after.followed ≤ c.before.followed + (x + 1) → TakesFew c x
few_of c x made followed =
    let apart = pads_apart c.segment made.words made.pads c.old c.new made.made in
    (made, omega (arith, apart.0, made.less), λ there fits. apart.1 there (stay_fewer c.old c.new c.segment x made.words made.less fits), followed)

pub few_taken : (r : Reading) (c : CopyCall) (x : ℕ) (result : Result ⊤ ErrorKind) → r.charging ≡ true → c.before.left ≡ Some x → TakesAtMost result (value_original r) c → TakesFew c x
few_taken r c x (Ok done) charged budget whole =
    let paid = covered_by r.charging c.before whole.1.cost x charged budget whole.1.covers in
    let few = pointers_within r.segments r.levels r.segment r.at whole.0 (whole.1.cost, whole.1.means) in
    few_of c x (made_more paid (omega (arith, paid, few)) whole.2) (few_followed c.before c.after x budget (subst (λ b. Spends b c.before c.after 1) charged (reading_spends whole.1)))
few_taken r c x (Err k) charged budget until =
    let covered = covered_until until.0 in
    let paid = covered_by r.charging c.before (spent_until until.0).words x charged budget covered.0 in
    few_of c x (made_more paid (omega (arith, paid, covered.1)) until.1) (few_followed c.before c.after x budget (subst (λ b. Spends b c.before c.after 1) charged (breaks_off_spends until.0)))
