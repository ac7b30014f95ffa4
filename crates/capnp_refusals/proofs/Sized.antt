-- A search for the size ends where measuring the value is refused, unless the sums grow too large.
use Rattle.std.proofs.Common.{◌≡◌, ℕ, zero, suc, ◌+◌, ◌-◌, ◌^◌, Bool, true, false, cond, nat_lt, Some, None, Result, Ok, Err, refl, ap, ◌∙◌}
use Rattle.capnp_words.specs.declared.error.ErrorKind.{ErrorKind}
use Rattle.capnp_words.specs.declared.error.ErrorKind.TheVariants.{MessageTooLarge}
use Rattle.capnp_words.specs.Meter.{Meter}
use Rattle.capnp_pointers.specs.declared.object.Purpose.TheVariants.{Size}
use Rattle.capnp_pointers.specs.Enter.{Shape, nothing, capability, struct, flat, pointers, structs, read}
use Rattle.capnp_pointers.specs.Metered.{Metered, answer, onward, outcome, ◌>>>◌}
use Rattle.capnp_pointers.specs.Reading.{Reading, place_past}
use Rattle.capnp_pointers.specs.Measure.{add_size, fold_children, fold_elements, fold_pointers, measure_within, shape_size}
use Rattle.capnp_pointers.specs.declared.pointers.sizes.MessageSize.{MessageSize}
use Rattle.capnp_messages.specs.declared.messages.command.Command.TheVariants.{Size as SizeCommand}
use Rattle.capnp_refusals.specs.RefusedPointers.{demands_of, has_pointer}
use Rattle.capnp_refusals.specs.Search.{Finding, permitted, refused_at, search_on, search_within, unless_found}
use Rattle.capnp_refusals.specs.declared.refusals.search.RefusedPointer.{RefusedPointer}
use Rattle.capnp_refusals.proofs.Searched.{elements_stay, pointers_stay}

-- How a search ends, by how measuring ends.
abbrev pub Sized : Result Finding ErrorKind × Meter → Result MessageSize ErrorKind × Meter → Type 0
Sized x (Ok z, m) = x ≡ (Ok None, m)
Sized x (Err k, m) = has_pointer k ≡ true → (p : RefusedPointer) × (p.refusal ≡ k) × (x ≡ (Ok (Some p), m))

after_step : (go : Finding → Metered Finding) (on : MessageSize → Metered MessageSize) (x : Result Finding ErrorKind × Meter) (y : Result MessageSize ErrorKind × Meter) →
    ((p : RefusedPointer) (m : Meter) → go (Some p) m ≡ (Ok (Some p), m)) → ((z : MessageSize) (m : Meter) → Sized (go None m) (on z m)) → Sized x y → Sized (onward go x) (onward on y)
after_step go on x (Ok z, m) stays next s = rw s (next z m)
after_step go on x (Err k, m) stays next s = λ h. let (p, named, e) = s h in (p, named, ap (onward go) e ∙ stays p m)

module _ (f : Reading → Metered Finding) (g : Reading → MessageSize → Metered MessageSize) (same : (r : Reading) (z : MessageSize) (m : Meter) → Sized (f r m) (g r z m)) where
  pointers_sized : (i : ℕ) (r : Reading) (z : MessageSize) (m : Meter) → Sized (fold_pointers (unless_found f) i r None m) (fold_pointers g i r z m)
  pointers_sized zero r z m = refl
  pointers_sized (suc i) r z m =
      after_step (fold_pointers (unless_found f) i (place_past r 1)) (fold_pointers g i (place_past r 1)) (f r m) (g r z m) (pointers_stay f i (place_past r 1)) (pointers_sized i (place_past r 1)) (same r z m)

  elements_sized : (d q n : ℕ) (r : Reading) (z : MessageSize) (m : Meter) → Sized (fold_elements (unless_found f) d q n r None m) (fold_elements g d q n r z m)
  elements_sized d q zero r z m = refl
  elements_sized d q (suc n) r z m =
      after_step (fold_elements (unless_found f) d q n (place_past r (d + q))) (fold_elements g d q n (place_past r (d + q))) _ _ (elements_stay f d q n (place_past r (d + q))) (elements_sized d q n (place_past r (d + q))) (pointers_sized q (place_past r d) z m)

  pub children_sized : (r : Reading) (o : Shape) (z : MessageSize) (m : Meter) → Sized (fold_children (unless_found f) r o None m) (fold_children g r o z m)
  children_sized r nothing z m = refl
  children_sized r (capability i) z m = refl
  children_sized r (struct s p d q) z m = pointers_sized q (record r { segment = s; at = p + d }) z m
  children_sized r (flat s p size n) z m = refl
  children_sized r (pointers s p n) z m = pointers_sized n (record r { segment = s; at = p }) z m
  children_sized r (structs s p d q n) z m = elements_sized d q n (record r { segment = s; at = p }) z m

-- A sum that is too large is no pointer's refusal.
too_large : {x : Result Finding ErrorKind × Meter} {m : Meter} (n : ℕ) → Sized x (Err (MessageTooLarge n), m)
too_large n = λ h. absurd (cc h)

added : (x : Result Finding ErrorKind × Meter) (y z : MessageSize) (on : MessageSize → Metered MessageSize) (m : Meter) → ((s : MessageSize) → Sized x (on s m)) → Sized x ((add_size y z >>> on) m)
added x y z on m next = go (nat_lt (z.word_count + y.word_count) (2 ^ 64)) (nat_lt (z.cap_count + y.cap_count) (2 ^ 32))
  where
    go : (a b : Bool) → Sized x (onward on (onward (λ _ m'. onward (λ _. answer (record { word_count = z.word_count + y.word_count; cap_count = z.cap_count + y.cap_count })) (cond b (Ok (tt {0}), m') (Err (MessageTooLarge (2 ^ 64 - 1)), m'))) (cond a (Ok (tt {0}), m) (Err (MessageTooLarge (2 ^ 64 - 1)), m))))
    go true true = next (record { word_count = z.word_count + y.word_count; cap_count = z.cap_count + y.cap_count })
    go true false = too_large (2 ^ 64 - 1)
    go false b = too_large (2 ^ 64 - 1)

read_sized : (r : Reading) (f : Shape → Metered Finding) (on : Shape → Metered MessageSize) (x : Result Shape ErrorKind × Meter) → ((o : Shape) (m : Meter) → Sized (f o m) (on o m)) →
    Sized (search_on r f (onward (λ o. outcome (permitted true o) >>> λ _. answer o) x)) (onward on x)
read_sized r f on (Ok o, m) next = next o m
read_sized r f on (Err k, m) next = λ h. (refused_at r k, refl, refl)

pub sized : (n : ℕ) (r : Reading) (z : MessageSize) (m : Meter) → Sized (search_within (demands_of SizeCommand) n r m) (measure_within n r z m)
unfolding search_within measure_within
sized zero r z m = read_sized r _ _ (read Size (record r { levels = zero }) m) (λ o m'. refl)
sized (suc n) r z m =
    read_sized r _ _ (read Size (record r { levels = suc n }) m)
    (λ o m'. added _ (shape_size o) z _ m' (λ s. children_sized (search_within (demands_of SizeCommand) n) (measure_within n) (sized n) (record r { levels = n }) o s m'))
