-- Entering an object, by the steps of `src/source/landing.rt`.
use Rattle.std.proofs.Common.{◌≡◌, ℕ, ◌+◌, ◌<◌, Bool, true, false, not, ◌&&◌, ◌||◌, cond, nat_eq, nat_lt, nat_le, Result, Ok, Err, length, refl, ap, ap₂, ◌∙◌, arith, eq-eqb, lt-ltb, eqb-true}
use Rattle.std.proofs.lemmas.Bool.{ne_eqb}
use Rattle.capnp_words.specs.declared.error.ErrorKind.{ErrorKind}
use Rattle.capnp_words.specs.declared.error.ErrorKind.TheVariants.{InlineCompositeListsElementsOverrunItsWordCount, MessageContainsOutOfBoundsPointer, MessageIsTooDeeplyNestedOrContainsCycles, ReadLimitExceeded}
use Rattle.capnp_words.specs.Meter.{Meter, charged}
use Rattle.capnp_words.specs.declared.wire_pointer.ElementSize.{ElementSize}
use Rattle.capnp_words.specs.declared.wire_pointer.ElementSize.TheVariants.{Void, Bit, Byte, TwoBytes, FourBytes, EightBytes, Pointer, InlineComposite}
use Rattle.capnp_words.specs.Sizes.{size_number}
use Rattle.capnp_format.specs.Segments.{Segments, segment, Target}
use Rattle.capnp_format.specs.Word.{kind, offset_bits, data_words, pointer_count, element_size, list_count}
use Rattle.capnp_pointers.specs.declared.object.Object.{Object}
use Rattle.capnp_pointers.specs.declared.object.Purpose.{Purpose}
use Rattle.capnp_pointers.specs.declared.object.Purpose.TheVariants.{Value, Size}
use Rattle.capnp_pointers.specs.Demands.{claimed_words, tag, element_words, count_charge, amplified_charge, IsStructList, IsVoidList}
use Rattle.capnp_pointers.specs.Enter.{Shape, is_struct_list, shape, is_in_segment, no_tag_name, enter_object, enter}
use Rattle.capnp_pointers.specs.Entering.{claim_words, enter_plain, enter_void, enter_structs, ReadsAs}
use Rattle.capnp_pointers.specs.Metered.{Metered, onward, answer, ◌>>>◌, demand, covers, charge_words}
use Rattle.capnp_pointers.specs.Reading.{Reading}
use Rattle.capnp_pointers.proofs.Budget.ChargedAsStated.{free}
use Rattle.capnp_pointers.proofs.OneObject.PartsMeant.{claim_list, charge_near}

-- two checks and a charge, and what follows them
after_claim : {A : Type 0} (b c : Bool) (k l : ErrorKind) (charging : Bool) (n : ℕ) (f g : Unit {0} → Metered A) (m : Meter) → ((m' : Meter) → f tt m' ≡ g tt m') →
    (demand b k >>> λ _. demand c l >>> λ _. charge_words charging n >>> f) m ≡ ((demand b k >>> λ _. demand c l >>> λ _. charge_words charging n) >>> g) m
after_claim false c k l charging n f g m e = refl
after_claim true false k l charging n f g m e = refl
after_claim true true k l charging n f g m e = go (covers charging m n)
  where
    go : (b : Bool) → onward f (cond b (Ok tt, charged charging m n) (Err ReadLimitExceeded, m)) ≡ onward g (cond b (Ok tt, charged charging m n) (Err ReadLimitExceeded, m))
    go true = e (charged charging m n)
    go false = refl

no_list : (w size : ℕ) → ((kind w ≡ 1) × (element_size w ≡ size) → ⊥) → (nat_eq (kind w) 1 && nat_eq (element_size w) size) ≡ false
no_list w size h = go (nat_eq (kind w) 1) (nat_eq (element_size w) size) refl refl
  where
    go : (b c : Bool) → nat_eq (kind w) 1 ≡ b → nat_eq (element_size w) size ≡ c → (b && c) ≡ false
    go true true e f = absurd (h (eqb-true _ _ e, eqb-true _ _ f))
    go true false e f = refl
    go false c e f = refl

yes_list : (w size : ℕ) → kind w ≡ 1 → element_size w ≡ size → (nat_eq (kind w) 1 && nat_eq (element_size w) size) ≡ true
yes_list w size list wide = ap₂ (λ b c. b && c) (eq-eqb _ _ list) (eq-eqb _ _ wide)

-- what follows the claim
abbrev pub after_words : Purpose → Reading → Target → Metered Shape
after_words purpose r a =
    let g = tag r.segments a in
    let untagged = not (is_struct_list a.word) in
    demand (untagged || nat_eq (kind g) 0) (no_tag_name purpose) >>> λ _.
    demand (untagged || nat_le (element_words g) (list_count a.word)) InlineCompositeListsElementsOverrunItsWordCount >>> λ _.
    charge_words r.charging (amplified_charge purpose r.segments a) >>> λ _. answer (shape r.segments a)

claimed : (purpose : Purpose) (r : Reading) (a : Target) (m : Meter) (g : Metered Shape) → is_in_segment purpose r.segments a ≡ nat_le (a.start + claimed_words a.word) (length (segment r.segments a.segment)) →
    ((m' : Meter) → after_words purpose r a m' ≡ g m') → enter_object purpose r a m ≡ (claim_words r a >>> λ _. g) m
claimed purpose r a m g inside e =
    ap (λ b. (
    demand (nat_lt 0 r.levels) MessageIsTooDeeplyNestedOrContainsCycles >>> λ _. demand b MessageContainsOutOfBoundsPointer >>> λ _. charge_words r.charging (claimed_words a.word) >>> λ _. after_words purpose r a
    ) m) inside
    ∙ after_claim (nat_lt 0 r.levels) (nat_le (a.start + claimed_words a.word) (length (segment r.segments a.segment))) MessageIsTooDeeplyNestedOrContainsCycles MessageContainsOutOfBoundsPointer r.charging (claimed_words a.word) (λ _. after_words purpose r a) (λ _. g) m e

in_bounds : (purpose : Purpose) (S : Segments) (a : Target) → (IsVoidList a.word → ⊥) → is_in_segment purpose S a ≡ nat_le (a.start + claimed_words a.word) (length (segment S a.segment))
in_bounds Value S a some = refl
in_bounds Size S a some = rw (no_list a.word 0 some) refl

-- an object that charges only what it claims
pub plain_is : (purpose : Purpose) (r : Reading) (a : Target) (m : Meter) → kind a.word < 2 → (IsVoidList a.word → ⊥) → (IsStructList a.word → ⊥) → enter_object purpose r a m ≡ enter_plain r a m
plain_is purpose r a m near some untagged = claimed purpose r a m (answer (shape r.segments a)) (in_bounds purpose r.segments a some)
    (λ m'. rw (no_list a.word 7 untagged, charge_near purpose r.segments a near some untagged) (ap (onward (λ _. answer (shape r.segments a))) (free r.charging m')))

-- a struct or a list
pub object_enters : (purpose : Purpose) (r : Reading) (a : Target) (m : Meter) → kind a.word < 2 → enter purpose r a m ≡ enter_object purpose r a m
object_enters purpose r a m near =
    let not_far : nat_eq (kind a.word) 2 ≡ false = ne_eqb _ _ (λ e. omega (arith, e, near)) in
    let is_object : nat_eq (kind a.word) 3 ≡ false = ne_eqb _ _ (λ e. omega (arith, e, near)) in
    rw (not_far, is_object) refl

-- only void has the number 0, and only structs have 7
pub is_void : (size : ElementSize) → size_number size ≡ 0 → size ≡ Void
is_void Void e = refl
is_void Bit e = absurd (omega arith)
is_void Byte e = absurd (omega arith)
is_void TwoBytes e = absurd (omega arith)
is_void FourBytes e = absurd (omega arith)
is_void EightBytes e = absurd (omega arith)
is_void Pointer e = absurd (omega arith)
is_void InlineComposite e = absurd (omega arith)

pub is_composite : (size : ElementSize) → size_number size ≡ 7 → size ≡ InlineComposite
is_composite InlineComposite e = refl
is_composite Void e = absurd (omega arith)
is_composite Bit e = absurd (omega arith)
is_composite Byte e = absurd (omega arith)
is_composite TwoBytes e = absurd (omega arith)
is_composite FourBytes e = absurd (omega arith)
is_composite EightBytes e = absurd (omega arith)
is_composite Pointer e = absurd (omega arith)

-- a list of void, with a level left if only the size is wanted
void_cost : (S : Segments) (a : Target) → IsVoidList a.word → amplified_charge Value S a ≡ list_count a.word
void_cost S a (list, void) =
    let there : nat_eq (kind a.word) 0 ≡ false = ne_eqb _ _ (λ e. omega (arith, e, list)) in
    let untagged : nat_eq (element_size a.word) 7 ≡ false = ne_eqb _ _ (λ e. omega (arith, e, void)) in
    rw (there, untagged, eq-eqb _ _ void) refl

pub void_is : (purpose : Purpose) (r : Reading) (a : Target) (m : Meter) → IsVoidList a.word → (purpose ≡ Size → 0 < r.levels) → enter_object purpose r a m ≡ enter_void purpose r a m
void_is Value r a m (list, void) level = claimed Value r a m (charge_words r.charging (list_count a.word) >>> λ _. answer (shape r.segments a)) refl
    (λ m'. rw (no_list a.word 7 (λ t. omega (arith, t.1, void)), void_cost r.segments a (list, void)) refl)
void_is Size r a m (list, void) level =
    let free_of_charge : claimed_words a.word ≡ 0 = omega (arith, claim_list a.word 0 list void) in
    rw (lt-ltb _ _ (level refl), yes_list a.word 0 list void, no_list a.word 7 (λ t. omega (arith, t.1, void)), free_of_charge)
    (ap (onward (λ _. charge_words r.charging 0 >>> λ _. answer (shape r.segments a))) (free r.charging m) ∙ ap (onward (λ _. answer (shape r.segments a))) (free r.charging m))

-- a list of structs
structs_cost : (purpose : Purpose) (S : Segments) (a : Target) → IsStructList a.word → amplified_charge purpose S a ≡ count_charge purpose (data_words (tag S a) + pointer_count (tag S a)) (offset_bits (tag S a))
structs_cost Size S a t = refl
structs_cost Value S a (list, tagged) =
    let there : nat_eq (kind a.word) 0 ≡ false = ne_eqb _ _ (λ e. omega (arith, e, list)) in
    rw (there, eq-eqb _ _ tagged) refl

pub structs_is : (purpose : Purpose) (r : Reading) (a : Target) (m : Meter) → IsStructList a.word → enter_object purpose r a m ≡ enter_structs purpose r a m
structs_is purpose r a m (list, tagged) =
    let g = tag r.segments a in
    claimed purpose r a m (
    demand (nat_eq (kind g) 0) (no_tag_name purpose) >>> λ _. demand (nat_le (element_words g) (list_count a.word)) InlineCompositeListsElementsOverrunItsWordCount >>> λ _.
    charge_words r.charging (count_charge purpose (data_words g + pointer_count g) (offset_bits g)) >>> λ _. answer (shape r.segments a)
    ) (in_bounds purpose r.segments a (λ v. omega (arith, v.1, tagged))) (λ m'. rw (yes_list a.word 7 list tagged, structs_cost purpose r.segments a (list, tagged)) refl)

-- a call that computes g computes f, if these agree
pub reads_as : {f g : Metered Shape} {S : Segments} {m m' : Meter} {result : Result Object ErrorKind} → f m ≡ g m → ReadsAs g S m m' result → ReadsAs f S m m' result
reads_as e h = record { computed = e ∙ h.computed; held = h.held; few = h.few; at_hand = h.at_hand }
