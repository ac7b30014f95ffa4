-- A part of a message is never refused with AllocationFailed for what the message holds.
use Rattle.std.proofs.Common.{◌≡◌, ℕ, ◌+◌, List, [], ◌∷◌, length, Bool, true, false, nat_lt, if◌then◌else◌, Result, Ok, Err, IfErr, ap, refl, sym, ◌∙◌, inl, inr}
use Rattle.capnp_words.specs.declared.error.ErrorKind.{ErrorKind}
use Rattle.capnp_words.specs.declared.error.ErrorKind.TheVariants.{AllocationFailed, InvalidSegmentId, MessageContainsOutOfBoundsPointer, NoSuchPlace, ReadLimitExceeded}
use Rattle.capnp_words.specs.Meter.{Meter, charged, unused}
use Rattle.capnp_format.specs.Segments.{Segments, segment}
use Rattle.capnp_arena.specs.declared.arena.reader_arena_impl.ReaderOptions.{ReaderOptions}
use Rattle.capnp_arena_traits.specs.Allocations.{max_segment_words}
use Rattle.capnp_arena_traits.specs.Checks.{misplaced}
use Rattle.capnp_pointers.specs.declared.object.Purpose.TheVariants.{Value}
use Rattle.capnp_pointers.specs.Enter.{Shape, capability, flat, nothing, pointers, read, struct, structs}
use Rattle.capnp_pointers.specs.Metered.{Metered, answer, charge_words, covers, demand, onward, outcome, ◌>>>◌}
use Rattle.capnp_pointers.specs.Reading.{Reading, place_past}
use Rattle.capnp_pointers.specs.Refusals.{here}
use Rattle.capnp_pointers.specs.Source.{levels}
use Rattle.capnp_pointers.specs.Wanted.{plain}
use Rattle.capnp_pointers.proofs.OneObject.ReadInOneWay.{not_read_if}
use Rattle.capnp_pointers.proofs.WholeValue.RefusalsNamed.{not_for_memory}
use Rattle.capnp_messages.specs.Copies.{RefusesCopy}
use Rattle.capnp_messages.specs.MessageParts.{RefusesPart, part_within}
use Rattle.capnp_messages.specs.Parts.{PathEnd, end_at, end_in, follow_path, inside, pointer_in, step, to_element, to_pointer}
use Rattle.capnp_messages.specs.Roots.{message_root, read_message_root}
use Rattle.capnp_messages.proofs.EndRefusals.{exceed, never_unread, unmade, unread}

-- AllocationFailed isn't the error of a place that isn't there
not_misplaced : (b : Bool) (id : ℕ) →
    AllocationFailed ≡ (if b then MessageContainsOutOfBoundsPointer else InvalidSegmentId id) → ⊥
not_misplaced true id same = cc
not_misplaced false id same = cc

-- A reading that is never refused with AllocationFailed.
abbrev NeverLacks : {A : Type 0} → Metered A → Type 0
NeverLacks f = (m m' : Meter) → f m ≡ (Err AllocationFailed, m') → ⊥

same_error : {A : Type 0} {k l : ErrorKind} {m n : Meter} → ◌≡◌ {A = Result A ErrorKind × Meter} (Err k, m) (Err l, n) → k ≡ l
same_error e = let x = ap (λ o. o.0) e in cc

no_answer_lacks : {A : Type 0} {x : A} {m n : Meter} → ◌≡◌ {A = Result A ErrorKind × Meter} (Ok x, m) (Err AllocationFailed, n) → ⊥
no_answer_lacks e = let x = ap (λ o. o.0) e in cc

never_both : {A B : Type 0} (f : Metered A) (g : A → Metered B) → NeverLacks f → ((x : A) → NeverLacks (g x)) → NeverLacks (f >>> g)
never_both {A} f g first next m m' = go (f m) refl
  where
    go : (o : Result A ErrorKind × Meter) → f m ≡ o → onward g o ≡ (Err AllocationFailed, m') → ⊥
    go (Ok x, n) is lacks = next x n m' lacks
    go (Err k, n) is lacks = first m n (is ∙ ap (λ (e : ErrorKind). (Err e, n)) (same_error lacks))

never_demand : (b : Bool) (k : ErrorKind) → (k ≡ AllocationFailed → ⊥) → NeverLacks (demand b k)
never_demand true k other m m' lacks = no_answer_lacks lacks
never_demand false k other m m' lacks = other (same_error lacks)

never_charge : (n : ℕ) → NeverLacks (charge_words true n)
never_charge n m m' lacks = go (covers true m n) lacks
  where
    go : (b : Bool) → ◌≡◌ {A = Result (Unit {0}) ErrorKind × Meter} (if b then (Ok tt, charged true m n) else (Err ReadLimitExceeded, m)) (Err AllocationFailed, m') → ⊥
    go true e = no_answer_lacks e
    go false e = let x = same_error e in cc

never_answer : {A : Type 0} (x : A) → NeverLacks (answer x)
never_answer x m m' lacks = no_answer_lacks lacks

never_root : (S : Segments) (n : ℕ) → NeverLacks (read_message_root S n)
never_root S n =
    never_both _ _ (never_demand (nat_lt 0 (length (segment S 0))) (misplaced S 0 (InvalidSegmentId 0)) (λ e. not_misplaced (nat_lt 0 (length S)) 0 (sym e)))
    (λ _. never_both _ _ (never_charge 1) (λ _. never_answer (message_root S n)))

never_read : (r : Reading) → NeverLacks (read Value r)
never_read r m m' lacks = not_for_memory {form = plain} (here (not_read_if r m m' AllocationFailed lacks))

-- The next end of a path is refused only with NoSuchPlace.
abbrev OnlyNowhere : {A : Type 0} → Result A ErrorKind → Type 0
OnlyNowhere result = IfErr result (λ k. k ≡ NoSuchPlace)

never_nowhere : {A : Type 0} (result : Result A ErrorKind) → OnlyNowhere result → NeverLacks (outcome result)
never_nowhere (Ok x) named m m' lacks = no_answer_lacks lacks
never_nowhere (Err k) named m m' lacks = let x = same_error lacks in cc

nowhere_if : {A : Type 0} (b : Bool) (x : A) → OnlyNowhere (if b then Ok x else Err NoSuchPlace)
nowhere_if true x = tt
nowhere_if false x = refl

nowhere_end : (result : Result Reading ErrorKind) → OnlyNowhere result → OnlyNowhere (end_at result)
nowhere_end (Ok r) named = tt
nowhere_end (Err k) named = named

nowhere_in : (r : Reading) (n i : ℕ) → OnlyNowhere (end_at (pointer_in r n i))
nowhere_in r n i = nowhere_end (pointer_in r n i) (nowhere_if (nat_lt i n) (place_past r i))

nowhere_in_object : (r : Reading) (o : Shape) (i : ℕ) → OnlyNowhere (end_in r o i)
nowhere_in_object r (struct s p d q) i = nowhere_in (inside r s (p + d)) q i
nowhere_in_object r (pointers s p n) i = nowhere_in (inside r s p) n i
nowhere_in_object r (structs s p d q n) i = nowhere_if (nat_lt i n) _
nowhere_in_object r nothing i = refl
nowhere_in_object r (capability c) i = refl
nowhere_in_object r (flat s p z n) i = refl

never_step : (e : PathEnd) (i : ℕ) → NeverLacks (step e i)
never_step (to_pointer r) i = never_both (read Value r) _ (never_read r) (λ o. never_nowhere (end_in r o i) (nowhere_in_object r o i))
never_step (to_element r d q) i = never_nowhere (end_at (pointer_in (place_past r d) q i)) (nowhere_in (place_past r d) q i)

never_follow : (e : PathEnd) (path : List ℕ) → NeverLacks (follow_path e path)
never_follow e [] = never_answer e
never_follow e (i ∷ path) = never_both (step e i) _ (never_step e i) (λ f. never_follow f path)

pub never_part : (S : Segments) (limits : ReaderOptions) (path : List ℕ) → RefusesPart S limits path AllocationFailed → ⊥
never_part S limits path why = go (part_within S limits path) refl why
  where
    go : (found : Result PathEnd ErrorKind × Meter) → part_within S limits path ≡ found → RefusesCopy found max_segment_words AllocationFailed → ⊥
    go (Err l, m) is named =
        never_both (read_message_root S (levels limits.nesting_limit)) (λ r. follow_path (to_pointer r) path) (never_root S (levels limits.nesting_limit))
        (λ r. never_follow (to_pointer r) path) (unused limits.traversal_limit_in_words) m (is ∙ ap (λ k. (Err k, m)) named)
    go (Ok e, m) is (inr (named, out)) = cc
    go (Ok e, m) is (inl refused) = elim (unmade max_segment_words e (unused m.left) AllocationFailed refused) [
      | unread stops ↦ never_unread e (unused m.left) AllocationFailed refl stops
      | exceed t read more named ↦ absurd (cc named)
    ]
