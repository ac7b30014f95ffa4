-- If part of a copy comes to an object without room, so does the whole: with the words spent
-- before, the object is more than the segment of the place has room for.
use Rattle.std.proofs.Common.{◌≡◌, inl, inr, ℕ, pred, ◌+◌, ◌*◌, ◌<◌, ◌≤◌, List, length, sym, ◌∙◌, subst, arith, length-take, drop}
use Rattle.capnp_words.specs.declared.error.ErrorKind.{ErrorKind}
use Rattle.capnp_words.specs.declared.wire_pointer.StructSize.{StructSize}
use Rattle.capnp_words.specs.Meter.{Meter}
use Rattle.capnp_format.specs.Segments.{Target, segment}
use Rattle.capnp_format.specs.Tree.{count, element_count}
use Rattle.capnp_arena_traits.specs.View.{View}
use Rattle.capnp_allocation.specs.Made.{structs_words}
use Rattle.capnp_allocation.specs.Memory.{KeepsMemory}
use Rattle.capnp_allocation.proofs.Memory.{words_refused_after}
use Rattle.capnp_pointers.specs.Objects.{IsObject}
use Rattle.capnp_pointers.specs.Outcomes.{Entered}
use Rattle.capnp_pointers.specs.Reading.{Reading, place_past, words_from, pointers_of}
use Rattle.capnp_pointers.specs.Refusals.{StopsWithin, StopsAmong, StopsAmongElements, here}
use Rattle.capnp_pointers.specs.Wanted.{Form}
use Rattle.capnp_pointers.specs.declared.object.Place.{Place}
use Rattle.capnp_pointers.specs.declared.object.Object.TheVariants.{Struct as ObjectStruct, Pointers as ObjectPointers, Structs as ObjectStructs}
use Rattle.capnp_pointers.specs.declared.object.Purpose.TheVariants.{Value}
use Rattle.capnp_pointers.proofs.WholeValue.ObjectsRead.{own_struct, own_pointers, own_structs}
use Rattle.capnp_pointers.proofs.WholeValue.UnreadableIfRefused.{stops_struct, stops_pointers, stops_structs}
use Rattle.capnp_copies.specs.Changes.{CopyCall, copy_call, IsMadeOf, as_struct, as_pointers, as_structs, ComesToObject, FindsNoRoom, LacksRoom}
use Rattle.capnp_copies.specs.Costs.{spent_until, spent_among, spent_among_elements}
use Rattle.capnp_copies.specs.Originals.{value_original, children_original, elements_original, sections_original, pointers_original, structs_original}
use Rattle.capnp_copies.specs.declared.widths.ElementSizes.{ElementSizes}
use Rattle.capnp_copies.proofs.KeptForms.{SourceKept, stops_sooner}
use Rattle.capnp_copies.proofs.ObjectsMade.{TakesForCopy, Begins, full_before, full_behind}
use Rattle.capnp_copies.proofs.ObjectsRead.{inside}
use Rattle.capnp_allocation.specs.Makes.{call_at}

-- An object was read, and n words have to be made of it.
abbrev pub WantsWords : Form → ℕ → Reading → Meter → Meter → Type 0
WantsWords form n r m m' = (a : Target) × Entered Value r m m' a × IsMadeOf form r a n

-- A child, after those before it are copied.
pub child_comes : {r : Reading} {b : Form} {s i n : ℕ} {old mid : View} (new : View) {m m' m'' : Meter} {k : ErrorKind} → s < length old.words → i < n → KeepsMemory old mid → TakesForCopy (children_original r i) (copy_call b (call_at s 0 old mid) m m') →
    LacksRoom (value_original (place_past r i)) (copy_call b (call_at s 0 mid new) m' m'') k → ComesToObject (children_original r n) b m m'' (FindsNoRoom (copy_call b (call_at s 0 old new) m m'') k)
child_comes new inside less memory taken (inl none) = absurd none.2
child_comes {r} {b} {s} {i} {old = old} {mid} new {m' = m'} {m''} {k} inside less memory (ts, counts, are_read, made) (inr (w, stops, (refused, full))) =
    let here : (one : StopsWithin b (WantsWords b w) (place_past r (count ts)) m' m'') × (mid.room s < length (segment mid.words s) + ((spent_until one).words + w)) = rw counts (stops, full) in (
      w,
      record { first = ts; fewer = omega (arith, counts, less); mid = m'; are_read = are_read; stops = here.0 },
      (words_refused_after old mid new w k memory refused, omega (arith, full_before old mid ((spent_until here.0).words + w) inside made here.1)),
    )

-- An element, after those before it are copied.
pub row_comes : {r : Reading} {sizes : ElementSizes} {b : Form} {s i n : ℕ} {old mid : View} (new : View) {m m' m'' : Meter} {k : ErrorKind} → SourceKept b r sizes n → s < length old.words → i < n → KeepsMemory old mid →
    TakesForCopy (elements_original r sizes i) (copy_call b (call_at s 0 old mid) m m') → ComesToObject (children_original (pointers_of r sizes.source i) sizes.kept.pointers) b m' m'' (FindsNoRoom (copy_call b (call_at s 0 mid new) m' m'') k) →
    ComesToObject (elements_original r sizes n) b m m'' (FindsNoRoom (copy_call b (call_at s 0 old new) m m'') k)
unfolding stops_sooner
row_comes {r} {sizes} {b} {s} {old = old} {mid} new {m' = m'} {m''} {k} fits inside less memory (es, counts, are_read, made) (w, stops, (refused, full)) =
    let here : (one : StopsAmong b (WantsWords b w) (pointers_of r sizes.source (element_count es)) sizes.kept.pointers m' m'') × (mid.room s < length (segment mid.words s) + ((spent_among one).words + w)) = rw counts (stops, full) in (
      w,
      record { first = es; fewer = omega (arith, counts, less); mid = m'; are_read = are_read; stops = stops_sooner fits.less_pointers here.0 },
      (words_refused_after old mid new w k memory refused, omega (arith, full_before old mid ((spent_among here.0).words + w) inside made here.1)),
    )

-- The kept pointers of a struct, after its words.
pub sections_come : (ws : List ℕ) {r : Reading} {q used n : ℕ} {b : Form} {s h : ℕ} {old made : View} (new : View) {m m' : Meter} {k : ErrorKind} → used ≤ q → n ≤ length ws + q → Begins s h n old made →
    ComesToObject (children_original r used) b m m' (FindsNoRoom (copy_call b (call_at h 0 made new) m m') k) → ComesToObject (sections_original ws r q) b m m' (FindsNoRoom (copy_call b (call_at s 0 old new) m m') k)
unfolding stops_sooner
sections_come ws {old = old} {made} new {k = k} fewer less begun (w, stops, (refused, full)) =
    (w, stops_sooner fewer stops, (words_refused_after old made new w k begun.memory refused, omega (arith, full_behind old made ((spent_among stops).words + w) begun full, less)))

-- The pointers of a list, and the pointers of the elements of a list of structs.
pub pointers_come : {r : Reading} {i : ℕ} {b : Form} {s h : ℕ} {old mid : View} (new : View) {m m' : Meter} {k : ErrorKind} → Begins s h i old mid → ComesToObject (children_original r i) b m m' (FindsNoRoom (copy_call b (call_at h 0 mid new) m m') k) →
    ComesToObject (pointers_original i r) b m m' (FindsNoRoom (copy_call b (call_at s 0 old new) m m') k)
pointers_come {old = old} {mid} new {k = k} begun (w, stops, (refused, full)) =
    (w, stops, (words_refused_after old mid new w k begun.memory refused, omega (arith, full_behind old mid ((spent_among stops).words + w) begun full)))

pub structs_come : {r : Reading} (sizes : ElementSizes) {i n : ℕ} {b : Form} {s h : ℕ} {old mid : View} (new : View) {m m' : Meter} {k : ErrorKind} → n ≤ structs_words i sizes.source → Begins s h n old mid →
    ComesToObject (elements_original r sizes i) b m m' (FindsNoRoom (copy_call b (call_at h 0 mid new) m m') k) → ComesToObject (structs_original sizes.source i r) b m m' (FindsNoRoom (copy_call b (call_at s 0 old new) m m') k)
structs_come sizes {old = old} {mid} new {k = k} less begun (w, stops, (refused, full)) =
    (w, stops, (words_refused_after old mid new w k begun.memory refused, omega (arith, full_behind old mid ((spent_among_elements stops).words + w) begun full, less)))

-- An object that was read, without room for the n words that have to be made of it.
pub entered_comes : {r : Reading} {m m' m'' : Meter} {a : Target} {n : ℕ} (c : CopyCall) (k : ErrorKind) → Entered Value r m m' a → IsMadeOf c.form r a n → m'' ≡ m' → FindsNoRoom c k n n → ComesToObject (value_original r) c.form m m'' (FindsNoRoom c k)
entered_comes {r} {m} {a = a} {n} c k o made same (refused, full) =
    subst (λ x. ComesToObject (value_original r) c.form m x (FindsNoRoom c k)) (sym same) (n, here (a, o, made), (refused, omega (arith, full)))

-- What a pointer leads to.

pub struct_value_comes : {r : Reading} {b : Form} {s levels : ℕ} (old new : View) {m m' m'' : Meter} {size : StructSize} {k : ErrorKind} (start : Place) → (0 < r.levels → levels ≡ pred r.levels) → IsObject Value r m m' (ObjectStruct start size) →
    LacksRoom (sections_original (words_from (inside r levels start) size.data_words) (place_past (inside r levels start) size.data_words) size.pointers) (copy_call b (call_at s 0 old new) m' m'') k → LacksRoom (value_original r) (copy_call b (call_at s 0 old new) m m'') k
unfolding stops_struct
struct_value_comes {r} {b} {s} {levels} old new {m} {m'} {m''} {size} {k} start less (a, o, z, (held, es, eb), ed, eq) lacks =
    let en = less o.meets.levels in
    let e : start.at ≡ a.start = omega arith in
    elim lacks [
      | inl y ↦ inr (entered_comes (copy_call b (call_at s 0 old new) m m'') k o (as_struct z (rw (es, e, ed, eq) at y.2)) y.1 y.3)
      | inr y ↦
          (let given : (off : StopsAmong b (WantsWords b y.0) (place_past (inside r levels start) size.data_words) size.pointers m' m'') × (old.room s < length (segment old.words s) + (size.data_words + size.pointers + (spent_among off).words + y.0)) = (y.1, omega (arith, y.2.1, length-take size.data_words (drop start.at (segment r.segments start.segment)))) in
          let off = rw (en, es, e, ed, eq) at given in
          inr (y.0, stops_struct o z off.0, (y.2.0, omega (arith, off.1, own_struct r.segments a z))))
    ]

pub pointers_value_comes : {r : Reading} {b : Form} {s levels i : ℕ} (old new : View) {m m' m'' : Meter} {k : ErrorKind} (start : Place) → (0 < r.levels → levels ≡ pred r.levels) → IsObject Value r m m' (ObjectPointers start i) → LacksRoom (pointers_original i (inside r levels start)) (copy_call b (call_at s 0 old new) m' m'') k →
    LacksRoom (value_original r) (copy_call b (call_at s 0 old new) m m'') k
unfolding stops_pointers
pointers_value_comes {r} {b} {s} {levels} {i} old new {m} {m'} {m''} {k} start less (a, o, z, six, (held, es, eb), ei) lacks =
    let en = less o.meets.levels in
    let e : start.at ≡ a.start = omega arith in
    elim lacks [
      | inl y ↦ inr (entered_comes (copy_call b (call_at s 0 old new) m m'') k o (as_pointers z six (y.2 ∙ ei)) y.1 y.3)
      | inr y ↦
          (let given : (off : StopsAmong b (WantsWords b y.0) (inside r levels start) i m' m'') × (old.room s < length (segment old.words s) + (i + (spent_among off).words + y.0)) = (y.1, omega (arith, y.2.1)) in
          let off = rw (en, es, e, ei) at given in
          inr (y.0, stops_pointers o z six off.0, (y.2.0, omega (arith, off.1, own_pointers r.segments a z six))))
    ]

pub structs_value_comes : {r : Reading} {b : Form} {s levels i : ℕ} (old new : View) {m m' m'' : Meter} {size : StructSize} {k : ErrorKind} (start : Place) → (0 < r.levels → levels ≡ pred r.levels) → IsObject Value r m m' (ObjectStructs start size i) →
    LacksRoom (structs_original size i (inside r levels start)) (copy_call b (call_at s 0 old new) m' m'') k → LacksRoom (value_original r) (copy_call b (call_at s 0 old new) m m'') k
unfolding stops_structs
structs_value_comes {r} {b} {s} {levels} {i} old new {m} {m'} {m''} {size} {k} start less (a, o, z, seven, (held, eu, eb), ei, ed, eq) lacks =
    let en = less o.meets.levels in
    let e : start.at ≡ a.start + 1 = omega arith in
    elim lacks [
      | inl y ↦ inr (entered_comes (copy_call b (call_at s 0 old new) m m'') k o (as_structs (z, seven) (rw (en, eu, e, ed, eq, ei) at y.2)) y.1 y.3)
      | inr y ↦
          (let given : (off : StopsAmongElements b (WantsWords b y.0) (inside r levels start) size i m' m'') × (old.room s < length (segment old.words s) + (1 + i * (size.data_words + size.pointers) + (spent_among_elements off).words + y.0)) = (y.1, omega (arith, y.2.1)) in
          let off = rw (en, eu, e, ed, eq, ei) at given in
          inr (y.0, stops_structs o z seven off.0, (y.2.0, omega (arith, off.1, own_structs r.segments a z seven, (o.meets.tagged (z, seven)).1))))
    ]
