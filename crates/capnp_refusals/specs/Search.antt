-- The search for the first pointer whose object is refused, as a function of the place and the
-- limiter. It reads the objects of a value in the order of their pointers, like the functions that
-- read the value, and ends at that pointer.
use Rattle.std.specs.Prelude.{ℕ, zero, suc, Bool, true, false, Option, Some, None, Result, Ok, Err}
use Rattle.capnp_words.specs.declared.error.ErrorKind.{ErrorKind}
use Rattle.capnp_words.specs.declared.error.ErrorKind.TheVariants.{CannotCreateACanonicalMessageWithACapability}
use Rattle.capnp_words.specs.Meter.{Meter}
use Rattle.capnp_pointers.specs.declared.object.Purpose.TheVariants.{Value}
use Rattle.capnp_pointers.specs.Enter.{Shape, nothing, capability, struct, flat, pointers, structs, read}
use Rattle.capnp_pointers.specs.Metered.{Metered, answer, outcome, ◌>>>◌}
use Rattle.capnp_pointers.specs.Reading.{Reading}
use Rattle.capnp_pointers.specs.Wanted.{Form, canonical, plain}
use Rattle.capnp_pointers.specs.Measure.{fold_children, fold_elements, fold_pointers}
use Rattle.capnp_refusals.specs.declared.refusals.search.Demands.{Demands}
use Rattle.capnp_refusals.specs.declared.refusals.search.RefusedPointer.{RefusedPointer}

-- What a search finds: the pointer at which it ends, or None at the end of the value.
abbrev pub Finding : Type 0
Finding = Option RefusedPointer

-- Whether an object is permitted: a capability isn't if there may be none.
abbrev pub permitted : Bool → Shape → Result (Unit {0}) ErrorKind
permitted false (capability i) = Err CannotCreateACanonicalMessageWithACapability
permitted b o = Ok tt

-- The form of the values that may have capabilities, or may not.
abbrev pub form_for : Bool → Form
form_for true = plain
form_for false = canonical

-- What is demanded of the objects of such a value.
abbrev pub of_values : Bool → Demands
of_values c = record { purpose = Value; capabilities = c }

-- Reads the object at the place r, and refuses it unless it meets the demands d.
abbrev pub demanded : Demands → Reading → Metered Shape
demanded d r =
    read d.purpose r >>> λ o. outcome (permitted d.capabilities o) >>> λ _. answer o

-- The pointer at the place r, whose object is refused with k.
abbrev pub refused_at : Reading → ErrorKind → RefusedPointer
refused_at r k = record { segment = r.segment; word = r.at; refusal = k }

-- f of what was read at the place r. If that is refused, the search ends with the pointer at r.
abbrev pub search_on : {A : Type 0} → Reading → (A → Metered Finding) →
    Result A ErrorKind × Meter → Result Finding ErrorKind × Meter
search_on r f (Ok x, m) = f x m
search_on r f (Err k, m) = (Ok (Some (refused_at r k)), m)

-- The search f of a place, unless a pointer was found before.
abbrev pub unless_found : (Reading → Metered Finding) → Reading → Finding → Metered Finding
unless_found f r None = f r
unless_found f r (Some p) = answer (Some p)

-- Searches the value at the place r, which is read with n levels; without a level, it is null or a
-- capability.
unfoldable pub search_within : Demands → ℕ → Reading → Metered Finding
search_within d zero r m =
    search_on r (λ o. answer None) (demanded d (record r { levels = zero }) m)
search_within d (suc n) r m =
    search_on r
    (λ o. fold_children (unless_found (search_within d n)) (record r { levels = n }) o None)
    (demanded d (record r { levels = suc n }) m)

-- The same with the levels of r; then for i consecutive pointers from r on, and for the pointers of
-- n consecutive elements of w data words and q pointers.
abbrev pub search_place : Demands → Reading → Metered Finding
search_place d r = search_within d r.levels r

abbrev pub search_pointers : Demands → ℕ → Reading → Metered Finding
search_pointers d i r = fold_pointers (unless_found (search_within d r.levels)) i r None

abbrev pub search_elements : Demands → ℕ → ℕ → ℕ → Reading → Metered Finding
search_elements d w q n r = fold_elements (unless_found (search_within d r.levels)) w q n r None
