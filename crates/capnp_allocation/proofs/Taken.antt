-- Words allocated for an object: how long the segments are then, and where the object is.
use Rattle.std.proofs.Common.{◌≡◌, ◌⊎◌, inl, inr, ℕ, zero, suc, ◌+◌, ◌-◌, ◌<◌, ◌≤◌, max, [], ◌∷◌, ◌++◌, List, length, replicate, refl, sym, ap, ap₂, ◌∙◌, subst, arith}
use Rattle.std.proofs.lemmas.List.{length-set, length-append, length-replicate, get_or_append_left, get_or-append_right, get_or_past}
use Rattle.std.proofs.lemmas.Bool.{cases_lt, cases_eq}
use Rattle.capnp_format.specs.Segments.{Segments, segment}
use Rattle.capnp_arena_traits.specs.Taking.{IsFirstFit, IsFull, GrowsSegment, GainsSegment, with_another}
use Rattle.capnp_arena_traits.specs.View.{View, KeepsLimits}
use Rattle.capnp_arena_traits.specs.Written.{extended}
use Rattle.capnp_format.specs.Forest.{target}
use Rattle.capnp_allocation.specs.Made.{LeadsToStart}
use Rattle.capnp_allocation.specs.Makes.{call_at}
use Rattle.capnp_allocation.specs.Memory.{Lengthens, IsNextRoom, TakesWords, ComesAfter, start_of}
use Rattle.capnp_allocation.specs.Near.{HasOwnRoom, StartsAtEnd, LeadsToEnd}
use Rattle.capnp_allocation.specs.Zeroed.{IsPruned}
use Rattle.capnp_arena_traits.specs.declared.arena.WordPlace.{WordPlace}
use Rattle.capnp_allocation.proofs.Zeros.{segment_here, segment_other}

-- n words more at the end of a segment.
pub extended_lengthens : (S : Segments) (s n : ℕ) → s < length S → Lengthens S (extended S s (replicate n 0)) s n
extended_lengthens S s n l =
    let W = segment S s in
    let zs : List ℕ = replicate n 0 in
    record {
      segments = omega (arith, length-set S s (W ++ zs));
      gained = ap length (segment_here S s (W ++ zs) l) ∙ length-append W zs ∙ ap (λ k. length W + k) (length-replicate n 0);
      others = λ v other. ap length (segment_other S s v (W ++ zs) other);
    }

-- A new segment after the others.
pub another_lengthens : (S : Segments) (n : ℕ) → Lengthens S (with_another S n) (length S) n
another_lengthens S n =
    let zs : List ℕ = replicate n 0 in
    let long : length (with_another S n) ≡ length S + 1 = length-append S (zs ∷ []) in
    let new : segment (with_another S n) (length S) ≡ zs = get_or-append_right S (zs ∷ []) (length S) (length S) [] refl (omega arith) ∙ ap (λ i. segment (zs ∷ []) i) (let e : length S - length S ≡ 0 = omega arith in e) in
    let none : length (segment S (length S)) ≡ 0 = ap length (get_or_past S (length S) [] (omega arith)) in
    record {
      segments = omega (arith, long);
      gained = omega (arith, ap length new, length-replicate {A = ℕ} n 0, none);
      others = λ v other. elim (cases_lt v (length S)) [
        | inl l ↦ ap length (get_or_append_left S (zs ∷ []) [] v l)
        | inr l ↦ ap length (get_or_past (with_another S n) v [] (omega (arith, long, other))) ∙ sym (ap length (get_or_past S v [] l))
      ];
    }

-- Either some segment is the first with room for n words, or none of the first m has it.
pub first_below : (v : View) (n m : ℕ) → m ≤ length v.words → ((k : ℕ) × IsFirstFit v n k) ⊎ ((k : ℕ) → k < m → v.room k < length (segment v.words k) + n)
first_below v n zero l = inr (λ k less. absurd (omega arith))
first_below v n (suc m) l = elim (first_below v n m (omega arith)) [
  | inl found ↦ inl found
  | inr none ↦ elim (cases_lt (v.room m) (length (segment v.words m) + n)) [
    | inl full ↦ inr (λ k less. elim (cases_eq k m) [
      | inl e ↦ subst (λ j. v.room j < length (segment v.words j) + n) (sym e) full
      | inr e ↦ none k (omega (arith, e))
    ])
    | inr fits ↦ inl (m, (omega arith, omega arith, none))
  ]
]

pub first_or_full : (v : View) (n : ℕ) → ((k : ℕ) × IsFirstFit v n k) ⊎ IsFull v n
first_or_full v n = first_below v n (length v.words) (omega arith)

-- The arena grants n words: in the first segment with room or, if there is none, in a new one.
pub anywhere_lengthens : (old new : View) (n k p : ℕ) → ((j : ℕ) → IsFirstFit old n j → (k ≡ j) × GrowsSegment old new n j p) → (IsFull old n → GainsSegment old new n k p) →
    IsNextRoom old n k × Lengthens old.words new.words k n × (p ≡ length (segment old.words k))
anywhere_lengthens old new n k p first another = elim (first_or_full old n) [
  | inl (j, fit) ↦ (
      let (same, (start, grown)) = first j fit in
      subst (λ i. IsNextRoom old n i × Lengthens old.words new.words i n × (p ≡ length (segment old.words i))) (sym same)
      (inl fit, subst (λ T. Lengthens old.words T j n) (sym (ap (λ (v : View). v.words) grown)) (extended_lengthens old.words j n fit.0), start)
      )
  | inr full ↦ (
      let (last, start, grown, enough, offered) = another full in
      let none : length (segment old.words (length old.words)) ≡ 0 = ap length (get_or_past old.words (length old.words) [] (omega arith)) in
      subst (λ i. IsNextRoom old n i × Lengthens old.words new.words i n × (p ≡ length (segment old.words i))) (sym last)
      (inr (full, refl), subst (λ T. Lengthens old.words T (length old.words) n) (sym grown) (another_lengthens old.words n), start ∙ sym none)
      )
]

-- No segment is shorter than before.
pub lengthens_more : (S R : Segments) (k n v : ℕ) → Lengthens S R k n → length (segment S v) ≤ length (segment R v)
lengthens_more S R k n v x = elim (cases_eq v k) [
  | inl e ↦ subst (λ u. length (segment S u) ≤ length (segment R u)) (sym e) (omega (arith, x.gained))
  | inr e ↦ omega (arith, x.others v e)
]

-- Segments get longer by the same words if words are then written over others.
pub lengthens_written : (S T R : Segments) (k n : ℕ) → Lengthens S T k n → length R ≡ length T → ((v : ℕ) → length (segment R v) ≡ length (segment T v)) → Lengthens S R k n
lengthens_written S T R k n x segments words = record {
  segments = segments ∙ x.segments;
  gained = words k ∙ x.gained;
  others = λ v other. words v ∙ x.others v other;
}

-- The same if words were zeroed before.
lengthens_after : (S T R : Segments) (k n : ℕ) → IsPruned S T → Lengthens T R k n → Lengthens S R k n
lengthens_after S T R k n pruned x = record {
  segments = x.segments ∙ ap (λ m. max m (k + 1)) pruned.segments;
  gained = x.gained ∙ ap (λ m. m + n) (pruned.words k);
  others = λ v other. x.others v other ∙ pruned.words v;
}

next_room_before : (old mid : View) (n k : ℕ) → KeepsLimits old mid → IsPruned old.words mid.words → IsNextRoom mid n k → IsNextRoom old n k
next_room_before old mid n k limits pruned next =
    let same : (j : ℕ) → mid.room j ≡ old.room j = λ j. ap (λ (v : View). v.room j) limits in
    elim next [
      | inl fit ↦ inl (omega (arith, fit.0, pruned.segments), omega (arith, fit.1, pruned.words k, same k), λ j less. omega (arith, fit.2 j less, pruned.words j, same j))
      | inr (full, last) ↦ inr (λ j less. omega (arith, full j (omega (arith, pruned.segments)), pruned.words j, same j), last ∙ pruned.segments)
    ]

pub takes_written : (old mid new : View) (id n : ℕ) → TakesWords old mid id n → length new.words ≡ length mid.words → ((v : ℕ) → length (segment new.words v) ≡ length (segment mid.words v)) → TakesWords old new id n
takes_written old mid new id n x segments words = record {
  near = λ fits. lengthens_written old.words mid.words new.words id n (x.near fits) segments words;
  far = λ full. (let (k, next, long) = x.far full in (k, next, lengthens_written old.words mid.words new.words k (n + 1) long segments words));
}

pub takes_after : (old mid new : View) (id n : ℕ) → KeepsLimits old mid → IsPruned old.words mid.words → TakesWords mid new id n → TakesWords old new id n
takes_after old mid new id n limits pruned x =
    let same : mid.room id ≡ old.room id = ap (λ (v : View). v.room id) limits in
    record {
      near = λ fits. lengthens_after old.words mid.words new.words id n pruned (x.near (omega (arith, same, pruned.words id)));
      far = λ full. (let (k, next, long) = x.far (omega (arith, same, pruned.words id)) in (k, next_room_before old mid (n + 1) k limits pruned next, lengthens_after old.words mid.words new.words k (n + 1) pruned long));
    }

pub stands_after : (old mid : View) (id n : ℕ) (h : WordPlace) → KeepsLimits old mid → IsPruned old.words mid.words → ComesAfter mid id n h → ComesAfter old id n h
stands_after old mid id n h limits pruned x =
    let same : mid.room id ≡ old.room id = ap (λ (v : View). v.room id) limits in
    record {
      near = λ some fits. (let (there, start) = x.near some (omega (arith, same, pruned.words id)) in (there, start ∙ pruned.words id));
      far = λ full. (let (next, start) = x.far (omega (arith, same, pruned.words id)) in (next_room_before old mid (n + 1) h.segment limits pruned next, start ∙ ap (λ m. m + 1) (pruned.words h.segment)));
    }

pub ends_after : (old mid : View) (id n : ℕ) → KeepsLimits old mid → IsPruned old.words mid.words → HasOwnRoom old id n → HasOwnRoom mid id n
ends_after old mid id n limits pruned fits =
    let same : mid.room id ≡ old.room id = ap (λ (v : View). v.room id) limits in
    omega (arith, fits, same, pruned.words id)

pub starts_after : (S M : Segments) (id : ℕ) (h : WordPlace) → IsPruned S M → StartsAtEnd M id h → StartsAtEnd S id h
starts_after S M id h pruned x = (x.0, x.1 ∙ pruned.words id)

-- An object starts where the pointer to it leads.
start_led : (S : Segments) (s p : ℕ) (h : WordPlace) → LeadsToStart S s p h → h ≡ start_of (target S s p)
start_led S s p h lead = ap₂ (λ (u b : ℕ). let x : WordPlace = record { segment = u; at = b } in x) lead.0 lead.1

pub leads_behind : (old new : View) (id at n : ℕ) (h : WordPlace) → LeadsToStart new.words id at h → ComesAfter old id n h → ComesAfter old id n (start_of (target new.words id at))
leads_behind old new id at n h lead x = subst (ComesAfter old id n) (start_led new.words id at h lead) x

pub leads_to_end : (old new : View) (id at n : ℕ) (h : WordPlace) → LeadsToStart new.words id at h → (HasOwnRoom old id n → StartsAtEnd old.words id h) → LeadsToEnd (call_at id at old new) n
leads_to_end old new id at n h lead x = λ fits. subst (StartsAtEnd old.words id) (start_led new.words id at h lead) (x fits)
