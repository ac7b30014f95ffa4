-- From the steps of a reading that expects an object of some kind to its outcome.
use Rattle.std.proofs.Common.{◌≡◌, ◌≢◌, inl, inr, ℕ, zero, suc, ◌-◌, ◌<◌, ◌≤◌, Bool, true, false, ◌||◌, cond, nat_eq, Option, Some, None, Result, Ok, Err, IfOk, refl, sym, ap, ap₂, ◌⊎◌, ◌∙◌, arith, eqb-true}
use Rattle.std.proofs.lemmas.Bool.{ne_eqb}
use Rattle.capnp_words.specs.declared.error.ErrorKind.{ErrorKind}
use Rattle.capnp_words.specs.Meter.{Meter}
use Rattle.capnp_format.specs.Word.{kind, data_words, pointer_count, element_size, list_count}
use Rattle.capnp_format.specs.Segments.{Segments, Target, segment}
use Rattle.capnp_words.specs.declared.wire_pointer.ElementSize.{ElementSize}
use Rattle.capnp_words.specs.declared.wire_pointer.ElementSize.TheVariants.{Void, Bit, Byte, TwoBytes, FourBytes, EightBytes, Pointer, InlineComposite}
use Rattle.capnp_words.specs.declared.wire_pointer.StructSize.{StructSize}
use Rattle.capnp_words.specs.Sizes.{size_number}
use Rattle.capnp_pointers.specs.declared.object.Expected.{Expected}
use Rattle.capnp_pointers.specs.declared.object.Expected.TheVariants.{Struct, List, Text, Data}
use Rattle.capnp_pointers.specs.declared.object.Object.{Object}
use Rattle.capnp_pointers.specs.declared.object.Object.TheVariants.{Null as ObjectNull, Capability as ObjectCapability, Struct as ObjectStruct, Flat as ObjectFlat, Pointers as ObjectPointers, Structs as ObjectStructs}
use Rattle.capnp_pointers.specs.declared.object.Place.{Place}
use Rattle.capnp_pointers.specs.Demands.{tag}
use Rattle.capnp_pointers.specs.Enter.{Shape, nothing, follow, enter, object_shape, result_shape}
use Rattle.capnp_pointers.specs.Entering.{object_misfit, last_byte, IsObjectHeld}
use Rattle.capnp_pointers.specs.Expected.{Expectation, struct_expected, list_expected, text_expected, data_expected, expectation, narrow_elements, narrow_structs, HasExpected, null_pointer, fitting, IsExpected}
use Rattle.capnp_pointers.specs.Metered.{Metered, answer, onward, ◌>>>◌, refuse_if}
use Rattle.capnp_pointers.specs.Faults.{LeadsTo}
use Rattle.capnp_pointers.specs.Objects.{IsObject}
use Rattle.capnp_pointers.specs.Outcomes.{Entered}
use Rattle.capnp_pointers.specs.Reading.{Reading, list_byte, word_of, tag_size}
use Rattle.capnp_pointers.specs.Refusals.{Unfollowed, exceeding, leading_nowhere}
use Rattle.capnp_pointers.specs.Values.{enter_expected, expect}
use Rattle.capnp_pointers.specs.declared.object.Purpose.TheVariants.{Value}
use Rattle.capnp_pointers.proofs.OneObject.ReadAsStated.{null_is}
use Rattle.capnp_pointers.proofs.Decided.{same_or_not}
use Rattle.capnp_pointers.proofs.OneObject.EnteredBySteps.{object_enters}
use Rattle.capnp_pointers.proofs.Following.FaultlessWhereMeant.{same_target}
use Rattle.capnp_pointers.proofs.Following.LeadsWhereFollowed.{entered_leads}
use Rattle.capnp_pointers.proofs.OneObject.ReadInOneWay.{not_both}
use Rattle.capnp_pointers.proofs.OneObject.ShapeOfWord.{answered, entered_shape, Seen, seen, shape_is, part, object_read}

-- the place with one level, because the level is checked separately
abbrev pub one_level : Reading → Reading
one_level r = record r { levels = 1 }

-- if no error is named for another kind, the kind is the expected one
not_another : (k : ErrorKind) (b : Bool) → cond b None (Some k) ≡ None → b ≡ true
not_another k true e = refl
not_another k false e = absurd (cc e)

both_kinds : (k j : ErrorKind) (b c : Bool) → cond b (cond c None (Some k)) (Some j) ≡ None → (b ≡ true) × (c ≡ true)
both_kinds k j true true e = (refl, refl)
both_kinds k j true false e = absurd (cc e)
both_kinds k j false c e = absurd (cc e)

kind_of_struct : (w : ℕ) → struct_expected.another_kind w ≡ None → kind w ≡ 0
kind_of_struct w e = eqb-true (kind w) 0 (not_another _ (nat_eq (kind w) 0) e)

kind_of_list : (size : ElementSize) (w : ℕ) → (list_expected size).another_kind w ≡ None → kind w ≡ 1
kind_of_list size w e = eqb-true (kind w) 1 (not_another _ (nat_eq (kind w) 1) e)

kind_of_text : (w : ℕ) → text_expected.another_kind w ≡ None → (kind w ≡ 1) × (element_size w ≡ 2)
kind_of_text w e = let both = both_kinds _ _ (nat_eq (kind w) 1) (nat_eq (element_size w) 2) e in (eqb-true (kind w) 1 both.0, eqb-true (element_size w) 2 both.1)

kind_of_data : (w : ℕ) → data_expected.another_kind w ≡ None → (kind w ≡ 1) × (element_size w ≡ 2)
kind_of_data w e = let both = both_kinds _ _ (nat_eq (kind w) 1) (nat_eq (element_size w) 2) e in (eqb-true (kind w) 1 both.0, eqb-true (element_size w) 2 both.1)

pub kind_below_two : (expected : Expected) (w : ℕ) → (expectation expected).another_kind w ≡ None → kind w < 2
kind_below_two Struct w e = let k = kind_of_struct w e in omega arith
kind_below_two (List size) w e = let k = kind_of_list size w e in omega arith
kind_below_two Text w e = let k = (kind_of_text w e).0 in omega arith
kind_below_two Data w e = let k = (kind_of_data w e).0 in omega arith

is_byte : (size : ElementSize) → size_number size ≡ 2 → size ≡ Byte
is_byte Byte e = refl
is_byte Void e = absurd (omega arith)
is_byte Bit e = absurd (omega arith)
is_byte TwoBytes e = absurd (omega arith)
is_byte FourBytes e = absurd (omega arith)
is_byte EightBytes e = absurd (omega arith)
is_byte Pointer e = absurd (omega arith)
is_byte InlineComposite e = absurd (omega arith)

-- The object x was read at the target a, which has the expected kind.
pub record IsSeenAs (expected : Expected) (S : Segments) (a : Target) (x : Object) : Type 0 where
  pub of_kind : (expectation expected).another_kind a.word ≡ None
  pub seen : Seen S a x
  pub held : IsObjectHeld S x

-- why the object isn't what was expected, by its words
same_sections : (S : Segments) (a : Target) (sections : StructSize) → sections.data_words ≡ data_words (tag S a) → sections.pointers ≡ pointer_count (tag S a) → sections ≡ tag_size S a
same_sections S a sections d q = ap₂ (λ x y. record { data_words = x; pointers = y }) d q

narrow_list : (size : ElementSize) (sections : StructSize) (found : ℕ) → found ≤ 6 → narrow_elements size found ≡ cond (nat_eq found 7) (narrow_structs size sections) (narrow_elements size found)
narrow_list size sections zero h = refl
narrow_list size sections (suc zero) h = refl
narrow_list size sections (suc (suc zero)) h = refl
narrow_list size sections (suc (suc (suc zero))) h = refl
narrow_list size sections (suc (suc (suc (suc zero)))) h = refl
narrow_list size sections (suc (suc (suc (suc (suc zero))))) h = refl
narrow_list size sections (suc (suc (suc (suc (suc (suc zero)))))) h = refl
narrow_list size sections (suc (suc (suc (suc (suc (suc (suc i))))))) h = absurd (omega arith)

misfit_of_list : {size : ElementSize} {S : Segments} {a : Target} (x : Object) → kind a.word ≡ 1 → IsSeenAs (List size) S a x → object_misfit (List size) x ≡ (list_expected size).misfit S a
misfit_of_list ObjectNull k h = absurd h.seen
misfit_of_list (ObjectCapability i) k h = absurd h.seen
misfit_of_list (ObjectStruct start size) k h = absurd (let z = h.seen.0 in omega (arith, z, k))
misfit_of_list {size} {S} {a} (ObjectFlat start found count) k h =
    let small = h.seen.1 in
    let wide = h.seen.4 in
    rw wide (narrow_list size (tag_size S a) (element_size a.word) (omega (arith, small)))
misfit_of_list (ObjectPointers start count) k h = let six = h.seen.1 in rw six refl
misfit_of_list {size} {S} {a} (ObjectStructs start sections count) k h =
    let seven = h.seen.1 in
    rw (seven, same_sections S a sections h.seen.5 h.seen.6) refl

misfit_of_text : {S : Segments} {a : Target} (x : Object) → (kind a.word ≡ 1) × (element_size a.word ≡ 2) → IsSeenAs Text S a x → object_misfit Text x ≡ text_expected.misfit S a
misfit_of_text ObjectNull k h = absurd h.seen
misfit_of_text (ObjectCapability i) k h = absurd h.seen
misfit_of_text (ObjectStruct start size) k h = absurd (let z = h.seen.0 in omega (arith, z, k.0))
misfit_of_text {S} {a} (ObjectFlat start size count) k h =
    let wide = h.seen.4 in
    let byte : size ≡ Byte = is_byte size (omega (arith, wide, k.1)) in
    let last : (n : ℕ) → last_byte start n ≡ list_byte (segment S a.segment) a.start n (n - 1) = λ n. rw (h.held.0, h.seen.2, h.seen.3) refl in
    rw (byte, h.seen.5, last (list_count a.word)) refl
misfit_of_text (ObjectPointers start count) k h = absurd (let six = h.seen.1 in omega (arith, six, k.1))
misfit_of_text (ObjectStructs start sections count) k h = absurd (let seven = h.seen.1 in omega (arith, seven, k.1))

pub misfit_of : {expected : Expected} {S : Segments} {a : Target} (x : Object) → IsSeenAs expected S a x → object_misfit expected x ≡ (expectation expected).misfit S a
misfit_of {expected = Struct} x h = refl
misfit_of {expected = List size} {a = a} x h = misfit_of_list x (kind_of_list size a.word h.of_kind) h
misfit_of {expected = Text} {a = a} x h = misfit_of_text x (kind_of_text a.word h.of_kind) h
misfit_of {expected = Data} x h = refl

-- an object that was entered for its value
pub entered_as : {expected : Expected} (r : Reading) (a : Target) (m m' : Meter) (x : Object) → (expectation expected).another_kind a.word ≡ None → enter Value r a m ≡ (Ok (object_shape x), m') → IsObjectHeld r.segments x → IsSeenAs expected r.segments a x
entered_as {expected} r a m m' x kind e held =
    let near = kind_below_two expected a.word kind in
    record { of_kind = kind; seen = seen x (shape_is r.segments a near) (sym (entered_shape Value r a m m' (object_shape x) (sym (object_enters Value r a m near) ∙ e))); held = held }

-- an object of the expected kind that was entered
pub entered_expected : (expected : Expected) (r : Reading) (a : Target) (m m' : Meter) (x : Object) → (expectation expected).another_kind a.word ≡ None → enter Value r a m ≡ (Ok (object_shape x), m') → IsObjectHeld r.segments x →
    enter_expected (expectation expected) r a m ≡ onward (λ _. answer (object_shape x)) (refuse_if (object_misfit expected x) m')
entered_expected expected r a m m' x kind e held =
    rw kind (ap (onward (λ o. refuse_if ((expectation expected).misfit r.segments a) >>> λ _. answer o)) e)
    ∙ ap (λ o. onward (λ _. answer (object_shape x)) (refuse_if o m')) (sym (misfit_of x (entered_as r a m m' x kind e held)))

-- the object is as expected
some_level : (expected : Expected) (k : ErrorKind) (n : ℕ) → (expectation expected).too_deep zero ≡ Some k → (expectation expected).too_deep n ≡ None → 0 < n
some_level expected k zero e none = absurd (cc (e, none))
some_level expected k (suc n) e none = omega arith

given_struct : {S : Segments} {a : Target} (x : Object) {n : ℕ} → 0 < n → IsSeenAs Struct S a x → IsExpected Struct n x
given_struct ObjectNull level h = tt
given_struct (ObjectCapability i) level h = absurd h.seen
given_struct (ObjectStruct start size) level h = level
given_struct {a = a} (ObjectFlat start size count) level h = absurd (let k = kind_of_struct a.word h.of_kind in let z = h.seen.0 in omega (arith, z, k))
given_struct {a = a} (ObjectPointers start count) level h = absurd (let k = kind_of_struct a.word h.of_kind in let z = h.seen.0 in omega (arith, z, k))
given_struct {a = a} (ObjectStructs start size count) level h = absurd (let k = kind_of_struct a.word h.of_kind in let z = h.seen.0 in omega (arith, z, k))

given_list : {size : ElementSize} {S : Segments} {a : Target} (x : Object) {n : ℕ} → 0 < n → object_misfit (List size) x ≡ None → IsSeenAs (List size) S a x → IsExpected (List size) n x
given_list ObjectNull level fits h = tt
given_list (ObjectCapability i) level fits h = absurd h.seen
given_list {size} {a = a} (ObjectStruct start sections) level fits h = absurd (let k = kind_of_list size a.word h.of_kind in let z = h.seen.0 in omega (arith, z, k))
given_list (ObjectFlat start found count) level fits h = (level, fits)
given_list (ObjectPointers start count) level fits h = (level, fits)
given_list (ObjectStructs start sections count) level fits h = (level, fits)

no_bytes : (k : ErrorKind) (b : Bool) (count : ℕ) → cond (nat_eq count 0 || b) (Some k) None ≡ None → 0 < count
no_bytes k b zero e = absurd (cc e)
no_bytes k b (suc count) e = omega arith

-- a list of bytes
abbrev IsBytes : Object → Type 0
IsBytes x = (x ≡ ObjectNull) ⊎ ((start : Place) × (count : ℕ) × (x ≡ ObjectFlat start Byte count))

given_bytes : (S : Segments) (a : Target) (x : Object) → (kind a.word ≡ 1) × (element_size a.word ≡ 2) → Seen S a x → IsBytes x
given_bytes S a ObjectNull k h = absurd h
given_bytes S a (ObjectCapability i) k h = absurd h
given_bytes S a (ObjectStruct start size) k h = absurd (let z = h.0 in omega (arith, z, k.0))
given_bytes S a (ObjectFlat start size count) k h =
    let wide = h.4 in
    let byte : size ≡ Byte = is_byte size (omega (arith, wide, k.1)) in
    inr (start, count, ap (λ i. ObjectFlat start i count) byte)
given_bytes S a (ObjectPointers start count) k h = absurd (let six = h.1 in omega (arith, six, k.1))
given_bytes S a (ObjectStructs start size count) k h = absurd (let seven = h.1 in omega (arith, seven, k.1))

given_text : (n : ℕ) (x : Object) → IsBytes x → object_misfit Text x ≡ None → IsExpected Text n x
given_text n x (inl e) fits = rw e tt
given_text n x (inr (start, count, e)) fits = rw e (refl, no_bytes _ _ count (rw e at fits))

given_data : (n : ℕ) (x : Object) → IsBytes x → IsExpected Data n x
given_data n x (inl e) = rw e tt
given_data n x (inr (start, count, e)) = rw e refl

given : {expected : Expected} {S : Segments} {a : Target} (x : Object) (n : ℕ) → (expectation expected).too_deep n ≡ None → (expectation expected).misfit S a ≡ None → IsSeenAs expected S a x → IsExpected expected n x
given {expected = Struct} x n level fits h = given_struct x (some_level Struct _ n refl level) h
given {expected = List size} x n level fits h = given_list x (some_level (List size) _ n refl level) (misfit_of x h ∙ fits) h
given {expected = Text} {S = S} {a = a} x n level fits h = given_text n x (given_bytes S a x (kind_of_text a.word h.of_kind) h.seen) (misfit_of x h ∙ fits)
given {expected = Data} {S = S} {a = a} x n level fits h = given_data n x (given_bytes S a x (kind_of_data a.word h.of_kind) h.seen)

pub level_unfollowed : {r : Reading} {m m' : Meter} {k : ErrorKind} → Unfollowed r m m' k → Unfollowed (one_level r) m m' k
level_unfollowed (exceeding some short paid named) = exceeding some short paid named
level_unfollowed (leading_nowhere some h paid) = leading_nowhere some h paid

-- what a call that computes `expect` returned
refused_then : {A : Type 0} (o : Option ErrorKind) (f : Unit {0} → Metered A) (m : Meter) {m' : Meter} {y : A} → onward f (refuse_if o m) ≡ (Ok y, m') → (o ≡ None) × (f tt m ≡ (Ok y, m'))
refused_then None f m e = (refl, e)
refused_then (Some k) f m e = absurd (not_both e refl)

given_null : (expected : Expected) (n : ℕ) (x : Object) → nothing ≡ object_shape x → IsExpected expected n x
given_null expected n ObjectNull e = tt
given_null expected n (ObjectCapability i) e = absurd (cc e)
given_null expected n (ObjectStruct start size) e = absurd (cc e)
given_null expected n (ObjectFlat start size i) e = absurd (cc e)
given_null expected n (ObjectPointers start i) e = absurd (cc e)
given_null expected n (ObjectStructs start size i) e = absurd (cc e)

-- The object x was returned from the target a.
record IsReturned (expected : Expected) (r : Reading) (m m' : Meter) (x : Object) : Type 0 where
  level : (expectation expected).too_deep r.levels ≡ None
  target : Target
  of_kind : (expectation expected).another_kind target.word ≡ None
  fits : (expectation expected).misfit r.segments target ≡ None
  middle : Meter
  follows : follow r m ≡ (Ok target, middle)
  enters : enter Value (one_level r) target middle ≡ (Ok (object_shape x), m')

returned : (expected : Expected) (r : Reading) (m m' : Meter) (x : Object) → word_of r ≢ 0 → expect (expectation expected) r m ≡ (Ok (object_shape x), m') → IsReturned expected r m m' x
returned expected r m m' x some e =
    let there : nat_eq (word_of r) 0 ≡ false = ne_eqb _ _ some in
    let k = expectation expected in
    let fit = λ (a : Target) (o : Shape). refuse_if (k.misfit r.segments a) >>> λ _. answer o in
    let level = refused_then (k.too_deep r.levels) (λ _. follow r >>> λ a. enter_expected k (one_level r) a) m (rw there at e) in
    let follows = answered {f = λ a. enter_expected k (one_level r) a} {x = follow r m} level.1 in
    let kind = refused_then (k.another_kind follows.0.word) (λ _. enter Value (one_level r) follows.0 >>> fit follows.0) follows.1 follows.3 in
    let enters = answered {f = fit follows.0} {x = enter Value (one_level r) follows.0 follows.1} kind.1 in
    let fits = refused_then (k.misfit r.segments follows.0) (λ _. answer enters.0) enters.1 enters.3 in
    record { level = level.0; target = follows.0; of_kind = kind.0; fits = fits.0; middle = follows.1; follows = follows.2; enters = enters.2 ∙ fits.1 }

pub expect_given : (expected : Expected) (r : Reading) (m m' : Meter) (result : Result Object ErrorKind) → expect (expectation expected) r m ≡ (result_shape result, m') → IfOk result (IsObjectHeld r.segments) → IfOk result (IsExpected expected r.levels)
expect_given expected r m m' (Err k) e held = tt
expect_given expected r m m' (Ok x) e held = elim (same_or_not (word_of r) 0) [
  | inl z ↦ let null : expect (expectation expected) r m ≡ (Ok nothing, m) = rw z refl in given_null expected r.levels x (part (sym null ∙ e)).0
  | inr some ↦ let o = returned expected r m m' x some e in given x r.levels o.level o.fits (entered_as (one_level r) o.target o.middle m' x o.of_kind o.enters held)
]

pub expect_read : (expected : Expected) (r : Reading) (m m' : Meter) (result : Result Object ErrorKind) → expect (expectation expected) r m ≡ (result_shape result, m') → IfOk result (IsObjectHeld r.segments) → IfOk result (IsObject Value (one_level r) m m')
expect_read expected r m m' (Err k) e held = tt
expect_read expected r m m' (Ok x) e held = object_read Value (one_level r) m m' (Ok x) (elim (same_or_not (word_of r) 0) [
  | inl z ↦ let null : expect (expectation expected) r m ≡ (Ok nothing, m) = rw z refl in null_is Value (one_level r) m z ∙ sym null ∙ e
  | inr some ↦
      let o = returned expected r m m' x some e in
      let there : nat_eq (word_of r) 0 ≡ false = ne_eqb _ _ some in
      rw there (ap (onward (enter Value (one_level r))) o.follows ∙ o.enters)
]) held

-- a reading with one level is one with r's own levels, if r has any
own_level : {r : Reading} {m m' : Meter} {a : Target} → 0 < r.levels → Entered Value (one_level r) m m' a → Entered Value r m m' a
own_level level o = record {
  follows = o.follows;
  meets = record { levels = level; is_object = o.meets.is_object; claims = o.meets.claims; tagged = o.meets.tagged };
  covers = o.covers;
  spent = o.spent;
}

-- The object x was read with one level, from m to m'.
pub record IsReadAt (r : Reading) (m m' : Meter) (x : Object) : Type 0 where
  pub object : IsObject Value (one_level r) m m' x

-- a struct or a list that was returned was read within the levels of its place
pub struct_given : {r : Reading} {m m' : Meter} (x : Object) → IsExpected Struct r.levels x → IsReadAt r m m' x → IsObject Value r m m' x
struct_given ObjectNull level h = h.object
struct_given (ObjectCapability i) level h = absurd level
struct_given (ObjectStruct start size) level h = let o = h.object in (o.0, own_level level o.1, o.2, o.3, o.4, o.5)
struct_given (ObjectFlat start size count) level h = absurd level
struct_given (ObjectPointers start count) level h = absurd level
struct_given (ObjectStructs start size count) level h = absurd level

pub list_given : (size : ElementSize) {r : Reading} {m m' : Meter} (x : Object) → IsExpected (List size) r.levels x → IsReadAt r m m' x → IsObject Value r m m' x
list_given size ObjectNull level h = h.object
list_given size (ObjectCapability i) level h = absurd level
list_given size (ObjectStruct start sections) level h = absurd level
list_given size (ObjectFlat start found count) level h = let o = h.object in (o.0, own_level level.0 o.1, o.2, o.3, o.4, o.5, o.6)
list_given size (ObjectPointers start count) level h = let o = h.object in (o.0, own_level level.0 o.1, o.2, o.3, o.4, o.5)
list_given size (ObjectStructs start sections count) level h = let o = h.object in (o.0, own_level level.0 o.1, o.2, o.3, o.4, o.5, o.6, o.7)

-- the answer is null, or the place leads to an object of kind k
abbrev LeadsToKind : Reading → Meter → Meter → ℕ → Type 0
LeadsToKind r m m' k = ((word_of r ≡ 0) × (m' ≡ m)) ⊎ ((a : Target) × LeadsTo r a × (kind a.word ≡ k))

pub struct_or_null : {r : Reading} {m m' : Meter} (x : Object) → IsExpected Struct r.levels x → IsReadAt r m m' x → LeadsToKind r m m' 0
struct_or_null ObjectNull level h = inl h.object
struct_or_null (ObjectCapability i) level h = absurd level
struct_or_null (ObjectStruct start size) level h = let o = h.object in inr (o.0, entered_leads o.1, o.2)
struct_or_null (ObjectFlat start size count) level h = absurd level
struct_or_null (ObjectPointers start count) level h = absurd level
struct_or_null (ObjectStructs start size count) level h = absurd level

pub list_or_null : (size : ElementSize) {r : Reading} {m m' : Meter} (x : Object) → IsExpected (List size) r.levels x → IsReadAt r m m' x → LeadsToKind r m m' 1
list_or_null size ObjectNull level h = inl h.object
list_or_null size (ObjectCapability i) level h = absurd level
list_or_null size (ObjectStruct start sections) level h = absurd level
list_or_null size (ObjectFlat start found count) level h = let o = h.object in inr (o.0, entered_leads o.1, o.2)
list_or_null size (ObjectPointers start count) level h = let o = h.object in inr (o.0, entered_leads o.1, o.2)
list_or_null size (ObjectStructs start sections count) level h = let o = h.object in inr (o.0, entered_leads o.1, o.2)

-- if the answer for a text or data isn't a list of bytes, it is null
pub no_text : (n : ℕ) {r : Reading} {m m' : Meter} (x : Object) → IsExpected Text n x → IsReadAt r m m' x → ((start : Place) (size : ElementSize) (count : ℕ) → x ≡ ObjectFlat start size count → ⊥) → (word_of r ≡ 0) × (m' ≡ m)
no_text n ObjectNull given h other = h.object
no_text n (ObjectCapability i) given h other = absurd given
no_text n (ObjectStruct start size) given h other = absurd given
no_text n (ObjectFlat start size count) given h other = absurd (other start size count refl)
no_text n (ObjectPointers start count) given h other = absurd given
no_text n (ObjectStructs start size count) given h other = absurd given

pub no_data : (n : ℕ) {r : Reading} {m m' : Meter} (x : Object) → IsExpected Data n x → IsReadAt r m m' x → ((start : Place) (size : ElementSize) (count : ℕ) → x ≡ ObjectFlat start size count → ⊥) → (word_of r ≡ 0) × (m' ≡ m)
no_data n ObjectNull given h other = h.object
no_data n (ObjectCapability i) given h other = absurd given
no_data n (ObjectStruct start size) given h other = absurd given
no_data n (ObjectFlat start size count) given h other = absurd (other start size count refl)
no_data n (ObjectPointers start count) given h other = absurd given
no_data n (ObjectStructs start size count) given h other = absurd given

-- what was returned fits
pub given_fits : (expected : Expectation) (r : Reading) (m : Meter) (a : Target) → HasExpected expected r m → LeadsTo r a → expected.misfit r.segments a ≡ None
given_fits expected r m a (null_pointer null) l = absurd (l.0 null)
given_fits expected r m a (fitting b level of_kind o fits) l = (let same : b ≡ a = same_target r.segments r.segment r.at (entered_leads o).1 l.1 in rw (← same) fits)
