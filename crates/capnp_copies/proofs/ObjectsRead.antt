-- What a pointer means, once its object was read.
use Rattle.std.proofs.Common.{◌≡◌, inr, ℕ, Bool, pred, ◌+◌, refl, sym, ap, ◌∙◌, subst, arith}
use Rattle.capnp_words.specs.declared.error.ErrorKind.TheVariants.{CannotCreateACanonicalMessageWithACapability, UnknownPointerType}
use Rattle.capnp_words.specs.declared.wire_pointer.ElementSize.{ElementSize}
use Rattle.capnp_format.specs.Word.{kind, offset_bits, data_words, pointer_count, element_size, list_count}
use Rattle.capnp_format.specs.Bytes.{words_of}
use Rattle.capnp_format.specs.Segments.{Segments, segment, words_at, Target}
use Rattle.capnp_format.specs.Tree.{Tree, Null, Capability, Struct, Flat, Structs, Pointers, Trees, Elements, count, element_count}
use Rattle.capnp_format.specs.Means.{MeansAll, MeansElements}
use Rattle.capnp_words.specs.Meter.{Meter, Affords}
use Rattle.capnp_pointers.specs.declared.object.Place.{Place}
use Rattle.capnp_pointers.specs.declared.object.Object.TheVariants.{Capability as ObjectCapability, Flat as ObjectFlat}
use Rattle.capnp_pointers.specs.declared.object.Object.{Object}
use Rattle.capnp_pointers.specs.Objects.{IsObject, IsFew}
use Rattle.capnp_pointers.proofs.Following.FaultlessWhereMeant.{same_target}
use Rattle.capnp_pointers.specs.Demands.{tag}
use Rattle.capnp_pointers.specs.Faults.{LeadsTo}
use Rattle.capnp_pointers.specs.Outcomes.{MeansThere}
use Rattle.capnp_pointers.specs.Refusals.{Stopped, broken}
use Rattle.capnp_pointers.specs.Reading.{Reading}
use Rattle.capnp_pointers.specs.Spending.{after_charge, Paid}
use Rattle.capnp_pointers.specs.Wanted.{canonical, of_default}
use Rattle.capnp_pointers.specs.declared.object.Purpose.TheVariants.{Value}
use Rattle.capnp_pointers.proofs.WholeValue.ObjectsRefused.{same_word}

-- An object by its form, and by another name for the levels of its place: for plain readings, since
-- an object without a known form takes long to write out.

pub object_read : (r : Reading) (m m' : Meter) {o x : Object} {l : ℕ} → o ≡ x → l ≡ r.levels → IsObject Value (record r { levels = l }) m m' o → IsObject Value r m m' x
object_read r m m' {o} {x} {l} is same object = subst (λ y. IsObject Value r m m' y) is (subst (λ k. IsObject Value (record r { levels = k }) m m' o) same object)

pub few_read : {o x : Object} → o ≡ x → IsFew o → IsFew x
few_read is few = subst IsFew is few

-- The start of an object, with these levels.
abbrev pub inside : Reading → ℕ → Place → Reading
inside r levels start = record r { levels = levels; segment = start.segment; at = start.at }

-- What breaks a plain reading breaks one in any form.

-- A capability is refused in canonical form, and in a default.

pads_paid : (charging : Bool) (m m' : Meter) (g : ℕ) → Affords charging m g → m' ≡ after_charge charging m g 1 → Paid charging m m' (g + 0) 1
pads_paid charging m m' g covers spent =
    let none : g ≡ g + 0 = omega arith in
    record { covers = subst (Affords charging m) none covers; spent = spent ∙ ap (λ i. after_charge charging m i 1) none }

pub capability_stopped : {r : Reading} (m m' : Meter) (i : ℕ) → IsObject Value r m m' (ObjectCapability i) → Stopped Value canonical r m m' CannotCreateACanonicalMessageWithACapability
capability_stopped {r} m m' i (a, l, low, e, covers, spent) = broken a l (refl, low) (pads_paid r.charging m m' a.pads covers spent)

pub default_stopped : {r : Reading} (m m' : Meter) (i : ℕ) → IsObject Value r m m' (ObjectCapability i) → Stopped Value of_default r m m' UnknownPointerType
default_stopped {r} m m' i (a, l, low, e, covers, spent) = broken a l (omega (arith, low), inr refl) (pads_paid r.charging m m' a.pads covers spent)

-- What is meant, once an object was read.

abbrev pub MeansStruct : Segments → ℕ → Target → Tree → Type 0
MeansStruct S n a t =
    (ts : Trees) × (k : ℕ) × (count ts ≡ pointer_count a.word) × MeansAll S (pred n) a.segment (a.start + data_words a.word) ts k × (t ≡ Struct (words_at S a.segment a.start (data_words a.word)) ts)

pub means_struct : (r : Reading) (t : Tree) (a : Target) → (c : ℕ) × MeansThere r t c → LeadsTo r a → kind a.word ≡ 0 → MeansStruct r.segments r.levels a t
means_struct r Null a (c, h) l z = absurd (l.0 h.0)
means_struct r (Capability i) a (c, (b, lb, e, g)) l z = absurd (omega (arith, same_word r b a lb l, e, z))
means_struct r (Struct ws ts) a (c, (b, k, some, o, claims, e, all, g)) l z =
    subst (λ x. MeansStruct r.segments r.levels x (Struct ws ts)) (same_target r.segments r.segment r.at o.leads_to.1 l.1)
    (ts, k, sym o.pointers, subst (λ d. MeansAll r.segments (pred r.levels) b.segment (b.start + d) ts k) (sym o.data_of) all, ap (λ vs. Struct vs ts) (sym e ∙ ap (words_at r.segments b.segment b.start) (sym o.data_of)))
means_struct r (Flat size ns) a (c, (b, some, small, o, claims, e, g)) l z = absurd (omega (arith, same_word r b a o.leads_to l, o.is_list, z))
means_struct r (Pointers ts) a (c, (b, k, some, o, claims, all, g)) l z = absurd (omega (arith, same_word r b a o.leads_to l, o.is_list, z))
means_struct r (Structs d q es) a (c, (b, m, k, some, o, claims, t, fits, all, g)) l z = absurd (omega (arith, same_word r b a o.leads_to l, o.is_list, z))

abbrev pub MeansPointers : Segments → ℕ → Target → Tree → Type 0
MeansPointers S n a t = (ts : Trees) × (k : ℕ) × (count ts ≡ list_count a.word) × MeansAll S (pred n) a.segment a.start ts k × (t ≡ Pointers ts)

pub means_pointers : (r : Reading) (t : Tree) (a : Target) → (c : ℕ) × MeansThere r t c → LeadsTo r a → (kind a.word ≡ 1) × (element_size a.word ≡ 6) → MeansPointers r.segments r.levels a t
means_pointers r Null a (c, h) l (z, six) = absurd (l.0 h.0)
means_pointers r (Capability i) a (c, (b, lb, e, g)) l (z, six) = absurd (omega (arith, same_word r b a lb l, e, z))
means_pointers r (Struct ws ts) a (c, (b, k, some, o, claims, e, all, g)) l (z, six) = absurd (omega (arith, same_word r b a o.leads_to l, o.is_struct, z))
means_pointers r (Flat size ns) a (c, (b, some, small, o, claims, e, g)) l (z, six) = absurd (omega (arith, same_word r b a o.leads_to l, o.is_size, small, six))
means_pointers r (Pointers ts) a (c, (b, k, some, o, claims, all, g)) l (z, six) =
    subst (λ x. MeansPointers r.segments r.levels x (Pointers ts)) (same_target r.segments r.segment r.at o.leads_to.1 l.1) (ts, k, sym o.counts, all, refl)
means_pointers r (Structs d q es) a (c, (b, m, k, some, o, claims, t, fits, all, g)) l (z, six) = absurd (omega (arith, same_word r b a o.leads_to l, o.is_size, six))

abbrev pub MeansStructs : Segments → ℕ → Target → Tree → Type 0
MeansStructs S n a t =
    (es : Elements) × (k : ℕ) × (element_count es ≡ offset_bits (tag S a)) × MeansElements S (pred n) a.segment (a.start + 1) (data_words (tag S a)) (pointer_count (tag S a)) es k
    × (t ≡ Structs (data_words (tag S a)) (pointer_count (tag S a)) es)

pub means_structs : (r : Reading) (t : Tree) (a : Target) → (c : ℕ) × MeansThere r t c → LeadsTo r a → (kind a.word ≡ 1) × (element_size a.word ≡ 7) → MeansStructs r.segments r.levels a t
means_structs r Null a (c, h) l (z, seven) = absurd (l.0 h.0)
means_structs r (Capability i) a (c, (b, lb, e, g)) l (z, seven) = absurd (omega (arith, same_word r b a lb l, e, z))
means_structs r (Struct ws ts) a (c, (b, k, some, o, claims, e, all, g)) l (z, seven) = absurd (omega (arith, same_word r b a o.leads_to l, o.is_struct, z))
means_structs r (Flat size ns) a (c, (b, some, small, o, claims, e, g)) l (z, seven) = absurd (omega (arith, same_word r b a o.leads_to l, o.is_size, small, seven))
means_structs r (Pointers ts) a (c, (b, k, some, o, claims, all, g)) l (z, seven) = absurd (omega (arith, same_word r b a o.leads_to l, o.is_size, seven))
means_structs r (Structs d q es) a (c, (b, m, k, some, o, claims, t, fits, all, g)) l (z, seven) =
    subst (λ x. MeansStructs r.segments r.levels x (Structs d q es)) (same_target r.segments r.segment r.at o.leads_to.1 l.1) (
      es,
      k,
      sym t.counts,
      rw (t.data_of, t.pointers) all,
      rw (t.data_of, t.pointers) refl,
    )

-- A list of numbers.

pub flat_held : {r : Reading} (m m' : Meter) (start : Place) (size : ElementSize) (i : ℕ) → IsObject Value r m m' (ObjectFlat start size i) → words_of start.bytes.now ≡ segment r.segments start.segment
flat_held m m' start size i (a, o, z, small, (held, es, eb), ez, ei) = held.0
