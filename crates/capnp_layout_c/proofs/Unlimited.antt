-- What calls leave of a traversal limit, and of none; and a place that means a value is refused for its kind only.
use Rattle.std.proofs.Common.{◌≡◌, ℕ, ◌+◌, ◌-◌, ◌<◌, ◌≤◌, Bool, true, false, nat_lt, Option, Some, None, refl, arith, lt-ltb}
use Rattle.std.proofs.lemmas.Bool.{ltb-false, ltb-true}
use Rattle.capnp_words.specs.declared.error.ErrorKind.{ErrorKind}
use Rattle.capnp_words.specs.Meter.{Affords, FitsIn, less, unused}
use Rattle.capnp_format.specs.Tree.{Tree}
use Rattle.capnp_pointers.specs.declared.object.Expected.{Expected}
use Rattle.capnp_pointers.specs.Expected.{expectation}
use Rattle.capnp_pointers.specs.Outcomes.{MeansThere}
use Rattle.capnp_pointers.specs.Reading.{Reading}
use Rattle.capnp_pointers.specs.Unexpected.{LeadsToOther}
use Rattle.capnp_pointers.proofs.OneObject.ExpectedAsStated.{withheld_is}
use Rattle.capnp_pointers.proofs.Budget.TraversalAffordable.{leads_to_other}
use Rattle.capnp_numbers.specs.Numbers.{error_number}
use Rattle.capnp_layout_c.specs.Found.{RefusesNumber}
use Rattle.capnp_layout_c.specs.Lent.{Leaves, LeavesIf, left_over, no_limit, root_left, words_left}

-- what the call leaves, by what its limiter has left
pub stays : (old new c : ℕ) (left : Option ℕ) → new ≡ left_over old left → words_left left + c ≡ old → Leaves old new c
stays old new c left e rest = go (nat_lt old no_limit) refl
  where
    go : (b : Bool) → nat_lt old no_limit ≡ b → Leaves old new c
    go true limited = let is : new ≡ words_left left = rw limited at e in rw limited (omega (arith, is, rest))
    go false free = let is : new ≡ old = rw free at e in rw free is

-- a word more was taken before
pub leaves_more : (old new c : ℕ) → 1 ≤ old → Leaves (root_left old) new c → Leaves old new (1 + c)
leaves_more old new c some left = go (nat_lt old no_limit) refl left
  where
    go : (b : Bool) → nat_lt old no_limit ≡ b → Leaves (root_left old) new c → Leaves old new (1 + c)
    go true limited h =
        let fewer : nat_lt (old - 1) no_limit ≡ true = lt-ltb (old - 1) no_limit (omega (arith, ltb-true old no_limit limited)) in
        let one : root_left old ≡ old - 1 = rw limited refl in
        let k : LeavesIf true (old - 1) new c = rw (one, fewer) at h in
        rw limited (omega (arith, k, some))
    go false free h =
        let same : root_left old ≡ old = rw free refl in
        let k : LeavesIf false old new c = rw (same, free) at h in
        rw free k

pub fits_more : (old c : ℕ) → 1 + c ≤ old → c ≤ root_left old
fits_more old c fits = go (nat_lt old no_limit) refl
  where
    go : (b : Bool) → nat_lt old no_limit ≡ b → c ≤ root_left old
    go true limited = rw limited (omega (arith, fits))
    go false free = rw free (omega (arith, fits))

-- A place that means a value is refused for its kind only.
pub for_its_kind : (e : Expected) (r : Reading) (old new number : ℕ) (t : Tree) (c : ℕ) → MeansThere r t c → 0 < r.levels → c ≤ old → RefusesNumber (expectation e) r old new number →
    (k : ErrorKind) × (number ≡ error_number k) × LeadsToOther (expectation e) r k
for_its_kind e r old new number t c means some covers (k, m, numbered, leaves, refused) =
    (k, numbered, leads_to_other e r (unused (Some old)) m t c k means some (afforded r.charging) (withheld_is (expectation e) r (unused (Some old)) m k refused))
  where
    afforded : (charging : Bool) → Affords charging (unused (Some old)) c
    afforded true = covers
    afforded false = tt
