-- The segment of pointers for which objects are made: what it has afterwards. If it has no room for
-- what comes after them, it had no room for all.
use Rattle.std.proofs.Common.{◌≡◌, inl, inr, ℕ, ◌+◌, ◌-◌, ◌^◌, ◌<◌, ◌≤◌, length, refl, ap, ◌∙◌, subst, arith}
use Rattle.std.proofs.lemmas.Bool.{cases_lt}
use Rattle.capnp_words.specs.declared.wire_pointer.StructSize.{StructSize}
use Rattle.capnp_format.specs.Forest.{target_in}
use Rattle.capnp_format.specs.Segments.{Segments, segment, IsPlace}
use Rattle.capnp_format.specs.Word.{struct_word}
use Rattle.capnp_arena_traits.specs.View.{View}
use Rattle.capnp_arena_traits.specs.Written.{with_word}
use Rattle.capnp_allocation.specs.Made.{LeadsToStart}
use Rattle.capnp_allocation.specs.Memory.{HasRoom, IsNextRoom, TakesWords, ComesAfter, KeepsMemory}
use Rattle.capnp_allocation.specs.Near.{HasOwnRoom}
use Rattle.capnp_arena_traits.specs.declared.arena.WordPlace.{WordPlace}
use Rattle.capnp_allocation.proofs.MadeWords.{word_put}
use Rattle.capnp_allocation.proofs.Placed.{empty_made}
use Rattle.capnp_copies.specs.Changes.{CopyCall, StayInSegment}
use Rattle.capnp_copies.specs.Growth.{Makes, no_object, near, far, both, MakesAtMost}
use Rattle.capnp_copies.specs.Originals.{Original}
use Rattle.capnp_copies.proofs.Copying.{there}

-- What a copy takes if all is read, and if it is refused.

abbrev pub TakesForCopy : {V : Type 0} → Original V → CopyCall → Type 0
TakesForCopy o c = o.takes c.form c.before c.after (MakesAtMost c.segment c.old c.new)

abbrev pub TakesUntilStop : {V : Type 0} → Original V → CopyCall → Type 0
TakesUntilStop o c = o.takes_until c.form c.before c.after (MakesAtMost c.segment c.old c.new)

-- An object that is made.

-- An object of n words is made for a pointer of segment id, and its own pointers are in segment k.
pub record Begins (id k n : ℕ) (old mid : View) : Type 0 where
  pub there : id < length old.words
  pub taken : TakesWords old mid id n
  pub memory : KeepsMemory old mid
  pub near : HasOwnRoom old id n → k ≡ id
  pub far : old.room id < length (segment old.words id) + n → IsNextRoom old (n + 1) k

-- A struct without words starts in the segment of its pointer.
empty_start : (S R : Segments) (s p : ℕ) (h : WordPlace) → IsPlace S s p → R ≡ with_word S s p (struct_word (2 ^ 30 - 1) 0 0) → LeadsToStart R s p h → h.segment ≡ s
empty_start S R s p h place writes lead =
    let x : ℕ = struct_word (2 ^ 30 - 1) 0 0 in
    let made = empty_made S R s p x place (word_put S R s p x place writes) refl in
    lead.0 ∙ ap (λ o. (target_in o).segment) made.leads_there.1

pub struct_begins : (s p : ℕ) (least : StructSize) (old made : View) (h : WordPlace) → IsPlace old.words s p → TakesWords old made s (least.data_words + least.pointers) → KeepsMemory old made → ComesAfter old s (least.data_words + least.pointers) h →
    LeadsToStart made.words s p h → (least.data_words + least.pointers ≡ 0 → made.words ≡ with_word old.words s p (struct_word (2 ^ 30 - 1) 0 0)) → Begins s h.segment (least.data_words + least.pointers) old made
struct_begins s p least old made h place taken memory behind lead empty = record {
  there = there old.words s p place;
  taken = taken;
  memory = memory;
  near = λ room. elim (cases_lt 0 (least.data_words + least.pointers)) [ inl some ↦ (behind.near some room).0 | inr none ↦ empty_start old.words made.words s p h place (empty (omega (arith, none))) lead ];
  far = λ full. (behind.far full).0;
}

-- The segments afterwards.

pub made_segments : {id words pads : ℕ} {old new : View} → Makes id old new words pads → length old.words ≤ length new.words
made_segments (no_object none) = omega (arith, none.segments)
made_segments (near n mid room takes rest) = omega (arith, takes.0.segments, made_segments rest)
made_segments (far n k mid elsewhere full next takes rest) = omega (arith, takes.0.segments, made_segments rest)
made_segments (both mid first rest) = omega (arith, made_segments first, made_segments rest)

-- The segment of the pointers has all the words if there is no pad.
pub record HasAll (id words : ℕ) (old new : View) : Type 0 where
  pub long : length (segment new.words id) ≡ length (segment old.words id) + words
  pub room : new.room id ≡ old.room id

pub has_all : {id words pads : ℕ} {old new : View} → Makes id old new words pads → pads ≡ 0 → id < length old.words → HasAll id words old new
has_all {id = id} (no_object none) e there = record { long = omega (arith, none.words id); room = none.room id there }
has_all {id = id} (near n mid room takes rest) e there =
    let x = has_all rest e (omega (arith, there, takes.0.segments)) in
    record { long = omega (arith, x.long, takes.0.gained); room = x.room ∙ takes.1 id there }
has_all (far n k mid elsewhere full next takes rest) e there = absurd (omega (arith, e))
has_all {id = id} (both mid first rest) e there =
    let x = has_all first (omega (arith, e)) there in
    let y = has_all rest (omega (arith, e)) (omega (arith, there, made_segments first)) in
    record { long = omega (arith, x.long, y.long); room = y.room ∙ x.room }

pub no_pad : {id words pads : ℕ} {old new : View} → Makes id old new words pads → id < length old.words → StayInSegment old new id words → pads ≡ 0
no_pad (no_object none) there stays = refl
no_pad {id = id} (near n mid room takes rest) there (inl fits) = no_pad rest (omega (arith, there, takes.0.segments)) (inl (omega (arith, fits, takes.0.gained, takes.1 id there)))
no_pad (near n mid room takes rest) there (inr one) = no_pad rest (omega (arith, there, takes.0.segments)) (inr one)
no_pad (far n k mid elsewhere full next takes rest) there (inl fits) = absurd (omega (arith, full, fits))
no_pad (far n k mid elsewhere full next takes rest) there (inr one) =
    absurd (elsewhere (omega (arith, takes.0.segments, made_segments rest, one, there)))
no_pad {id = id} (both mid first rest) there (inl fits) =
    let e = no_pad first there (inl (omega (arith, fits))) in
    let x = has_all first e there in
    omega (arith, e, no_pad rest (omega (arith, there, made_segments first)) (inl (omega (arith, fits, x.long, x.room))))
no_pad (both mid first rest) there (inr one) = omega (
  arith,
  no_pad first there (inr (omega (arith, one, there, made_segments first, made_segments rest))),
  no_pad rest (omega (arith, there, made_segments first)) (inr one),
)

-- If no room is left for w words after objects of n words were made, there was none for n + w
-- words.
pub full_before : {id n p : ℕ} (old mid : View) (w : ℕ) → id < length old.words → MakesAtMost id old mid n p → mid.room id < length (segment mid.words id) + w →
    old.room id < length (segment old.words id) + (n + w)
full_before {id} {n} old mid w there x full = elim (cases_lt (old.room id) (length (segment old.words id) + (n + w))) [
  | inl beyond ↦ beyond
  | inr fits ↦ (
      let none = no_pad x.made there (inl (omega (arith, fits, x.less))) in
      let all = has_all x.made none there in
      absurd (omega (arith, fits, full, all.long, all.room, x.less))
      )
]

-- If no room is left for w words after an object of n words, the segment of its pointer had none
-- for n + w words.
pub full_behind : {id k n : ℕ} (old mid : View) (w : ℕ) → Begins id k n old mid → mid.room k < length (segment mid.words k) + w →
    old.room id < length (segment old.words id) + (n + w)
full_behind {id} {k} {n} old mid w o full = elim (cases_lt (old.room id) (length (segment old.words id) + (n + w))) [
  | inl beyond ↦ beyond
  | inr fits ↦ (
      let room : HasOwnRoom old id n = omega (arith, fits) in
      let here : mid.room id < length (segment mid.words id) + w = subst (λ j. mid.room j < length (segment mid.words j) + w) (o.near room) full in
      absurd (omega (arith, fits, here, (o.taken.near room).gained, o.memory.1 id o.there))
      )
]

-- If an object has no room, its segment has none for it.
pub no_own_room : (v : View) (id n : ℕ) → (HasRoom v id n → ⊥) → v.room id < length (segment v.words id) + n
no_own_room v id n full = let none : HasOwnRoom v id n → ⊥ = λ room. full (inl room) in omega (arith, none)
