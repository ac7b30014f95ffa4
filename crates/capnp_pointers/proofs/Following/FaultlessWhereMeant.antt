-- If a place means a value that a copy takes, no place that is reached breaks a demand; otherwise
-- some place that is reached does.
use Rattle.std.proofs.Common.{◌≡◌, ◌≢◌, inl, inr, ℕ, pred, ◌%◌, ◌^◌, Some, sym, ap, ◌∙◌, arith}
use Rattle.capnp_words.specs.declared.error.ErrorKind.{ErrorKind}
use Rattle.capnp_words.specs.declared.error.ErrorKind.TheVariants.{CannotCreateACanonicalMessageWithACapability, InlineCompositeListsElementsOverrunItsWordCount, InlineCompositeListsOfNonStructTypeAreNotSupported, MalformedDoubleFarPointer, MessageContainsOutOfBoundsPointer, MessageIsTooDeeplyNestedOrContainsCycles, UnknownPointerType}
use Rattle.capnp_format.specs.Segments.{Segments, Target, leads}
use Rattle.capnp_format.specs.Tree.{capabilities}
use Rattle.capnp_pointers.specs.Demands.{Meets}
use Rattle.capnp_pointers.specs.Faults.{IsPointer, Somewhere, here, below, LeadsTo, child_at}
use Rattle.capnp_pointers.specs.Wanted.{BreaksObject, BreaksAt, AllowsCapabilities}
use Rattle.capnp_pointers.specs.Wanted.{Form, plain, canonical, of_default}
use Rattle.capnp_pointers.specs.Reading.{Reading}
use Rattle.capnp_pointers.specs.declared.object.Purpose.TheVariants.{Value}
use Rattle.capnp_pointers.proofs.Following.LeadsWhereFollowed.{leads_to}
use Rattle.capnp_pointers.proofs.OneObject.PartsMeant.{Meant, Parts, is_null, is_capability, is_inner, means_parts}

-- forms that refuse a capability: canonical form, and the form of a default

canonical_refuses : (form : Form) → form ≡ canonical → form ≢ plain
canonical_refuses form e other = cc (e, other)

default_refuses : (form : Form) → form ≡ of_default → form ≢ plain
default_refuses form e other = cc (e, other)

-- a capability that the form takes, or an object that meets its demands
data Sound (form : Form) (r : Reading) (a : Target) : Type 0 where
  sound_capability : a.word % 2 ^ 32 ≡ 3 → (form ≢ plain → ⊥) → Sound form r a
  sound_object : Meets Value r.segments r.levels a → Sound form r a

not_refused : {form : Form} {r : Reading} {a : Target} (k : ErrorKind) → Sound form r a → BreaksObject Value form r.segments r.levels a k → ⊥
not_refused MalformedDoubleFarPointer (sound_capability low other) h = omega arith
not_refused MalformedDoubleFarPointer (sound_object o) h = omega (arith, h, o.is_object)
not_refused {form} UnknownPointerType (sound_capability low other) h = elim h.1 [ inl unlike ↦ unlike low | inr default ↦ other (default_refuses form default) ]
not_refused UnknownPointerType (sound_object o) h = omega (arith, h.0, o.is_object)
not_refused {form} CannotCreateACanonicalMessageWithACapability (sound_capability low other) h = other (canonical_refuses form h.0)
not_refused CannotCreateACanonicalMessageWithACapability (sound_object o) h = omega (arith, h.1, o.is_object)
not_refused MessageIsTooDeeplyNestedOrContainsCycles (sound_capability low other) h = omega (arith, h.0, low)
not_refused MessageIsTooDeeplyNestedOrContainsCycles (sound_object o) h = omega (arith, h.1, o.levels)
not_refused MessageContainsOutOfBoundsPointer (sound_capability low other) h = omega (arith, h.0, low)
not_refused MessageContainsOutOfBoundsPointer (sound_object o) h = h.2 o.claims
not_refused InlineCompositeListsOfNonStructTypeAreNotSupported (sound_capability low other) h = omega (arith, h.1.0, low)
not_refused InlineCompositeListsOfNonStructTypeAreNotSupported (sound_object o) h = h.3 (o.tagged h.1).0
not_refused InlineCompositeListsElementsOverrunItsWordCount (sound_capability low other) h = omega (arith, h.1.0, low)
not_refused InlineCompositeListsElementsOverrunItsWordCount (sound_object o) h = omega (arith, h.4, (o.tagged h.1).1)
not_refused _ sound h = absurd h

pub same_target : (S : Segments) (s p : ℕ) {a b : Target} → leads S s p ≡ Some a → leads S s p ≡ Some b → a ≡ b
same_target S s p l m = let e = sym l ∙ m in cc e

pub one_target : (r : Reading) (a b : Target) → LeadsTo r a → LeadsTo r b → a ≡ b
one_target r a b l m = same_target r.segments r.segment r.at l.1 m.1

target_sound : {r : Reading} {a : Target} (form : Form) (k : ErrorKind) → LeadsTo r a → Sound form r a → BreaksAt form k r → ⊥
target_sound {r} {a} form k l s (some, inl refused) = let f = (leads_to r a l).1 in absurd (cc (f, refused))
target_sound {r} {a} form k l s (some, inr (b, f, h)) =
    let e = sym (leads_to r a l).1 ∙ f in
    let q : a ≡ b = cc e in
    not_refused k s (rw q h)

not_broken : {r : Reading} {m c : ℕ} (form : Form) (k : ErrorKind) → AllowsCapabilities form m → Parts r m c → BreaksAt form k r → ⊥
not_broken form k takes (is_null z) b = b.0 z
not_broken {r} form k takes (is_capability a l low one g) b = target_sound {r = r} form k l (sound_capability low (λ e. omega (arith, takes e, one))) b
not_broken {r} form k takes (is_inner a l i) b = target_sound {r = r} form k l (sound_object i.meets) b

inner_child : {r : Reading} {m c : ℕ} {b : Target} {q : ℕ} → Parts r m c → LeadsTo r b → Meets Value r.segments r.levels b → IsPointer r.segments b q → Meant (child_at r b (pred r.levels) q) m
inner_child (is_null z) l o i = absurd (l.0 z)
inner_child {r} {m} {c} {b} {q} (is_capability a la low one g) l o i =
    absurd (let e = same_target r.segments r.segment r.at la.1 l.1 in let w : a.word % 2 ^ 32 ≡ b.word % 2 ^ 32 = ap (λ x. x.word % 2 ^ 32) e in omega (arith, w, low, o.is_object))
inner_child {r} {m} {c} {b} {q} (is_inner a la h) l o i = let e : b ≡ a = sym (same_target r.segments r.segment r.at la.1 l.1) in rw e (h.children q (rw (sym e) i))

pub no_fault : (form : Form) (k : ErrorKind) {r : Reading} → Somewhere (BreaksAt form k) r → (m : ℕ) → AllowsCapabilities form m → Meant r m → ⊥
no_fault form k {r} (here b) m takes (t, c, h, le) = not_broken form k (λ e. omega (arith, takes e, le)) (means_parts r t c h) b
no_fault form k {r} (below a q l o i rest) m takes (t, c, h, le) =
    no_fault form k rest (capabilities t) (λ e. omega (arith, takes e, le)) (inner_child (means_parts r t c h) l o i)
