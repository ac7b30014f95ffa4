-- The walk that validates a value: a function of the place, the tally and the limiter. It reads the
-- objects of the value in order.
use Rattle.std.specs.Prelude.{◌≡◌, ℕ, zero, suc, ◌+◌, ◌*◌, min, Result, Ok, Err}
use Rattle.capnp_words.specs.declared.error.ErrorKind.{ErrorKind}
use Rattle.capnp_format.specs.Numbers.{words_for}
use Rattle.capnp_pointers.specs.declared.object.Purpose.TheVariants.{Value}
use Rattle.capnp_pointers.specs.Enter.{Shape, nothing, capability, struct, flat, pointers, structs, read}
use Rattle.capnp_pointers.specs.Metered.{Metered, answer, ◌>>>◌}
use Rattle.capnp_pointers.specs.Reading.{Reading}
use Rattle.capnp_pointers.specs.Extents.{capped}
use Rattle.capnp_pointers.specs.Measure.{fold_children, fold_elements, fold_pointers}
use Rattle.capnp_pointers.specs.declared.pointers.validate.Tally.{Tally}
use Rattle.capnp_pointers.specs.declared.pointers.validate.Validation.{Validation}

-- The tally z, after an object of this number of words was entered; n levels are left inside of it.
abbrev pub tally_words : ℕ → ℕ → Tally → Tally
tally_words n words z = record z { lowest = min z.lowest n; words = capped (z.words + words) }

-- The same for an object. Null changes nothing, and a capability isn't entered.
abbrev pub tally_shape : ℕ → Shape → Tally → Tally
tally_shape n nothing z = z
tally_shape n (capability i) z = record z { capabilities = capped (z.capabilities + 1) }
tally_shape n (struct s p d q) z = tally_words n (d + q) z
tally_shape n (flat s p size i) z = tally_words n (words_for size i) z
tally_shape n (pointers s p i) z = tally_words n i z
tally_shape n (structs s p d q i) z = tally_words n (1 + i * (d + q)) z

-- Adds the objects of the value at r to the tally z. The value is read with n levels; without a
-- level, it is null or a capability.
unfoldable pub validate_within : ℕ → Reading → Tally → Metered Tally
validate_within zero r z =
    read Value (record r { levels = zero }) >>> λ o. answer (tally_shape zero o z)
validate_within (suc n) r z =
    read Value (record r { levels = suc n }) >>> λ o.
    fold_children (validate_within n) (record r { levels = n }) o (tally_shape n o z)

-- The same with the levels of r; then for i consecutive pointers from r on, and for the pointers of
-- n consecutive elements of d data words and q pointers.
abbrev pub validate_place : Reading → Tally → Metered Tally
validate_place r = validate_within r.levels r

abbrev pub validate_pointers : ℕ → Reading → Tally → Metered Tally
validate_pointers i r = fold_pointers (validate_within r.levels) i r

abbrev pub validate_elements : ℕ → ℕ → ℕ → Reading → Tally → Metered Tally
validate_elements d q n r = fold_elements (validate_within r.levels) d q n r

-- What a call of the walk returns: the tally that it has left, or the error of its refusal.
abbrev pub validation_result : {A E : Type 0} → Result A E → Validation → Result Tally ErrorKind
validation_result (Ok x) new = Ok new.tally
validation_result (Err k) new = Err new.refusal

-- A call of the walk does what f does: from its tally and its limiter to what it returns and leaves.
abbrev pub Validates :
    {A E : Type 0} → (Tally → Metered Tally) → Validation → Validation → Result A E → Type 0
Validates f old new result = f old.tally old.lim ≡ (validation_result result new, new.lim)
