-- A traversal of a message from a place: a reader follows pointers in any order, each at most once.
use Rattle.std.specs.Prelude.{◌≡◌, ◌⊎◌, ℕ, zero, suc, pred, ◌+◌, ◌%◌, ◌^◌, List, [], ◌∷◌, ◌++◌}
use Rattle.std.specs.Prelude.{Some, Ok, Err}
use Rattle.capnp_words.specs.declared.error.ErrorKind.{ErrorKind}
use Rattle.capnp_words.specs.Meter.{Meter}
use Rattle.capnp_format.specs.Segments.{Target}
use Rattle.capnp_pointers.specs.declared.object.Expected.{Expected}
use Rattle.capnp_pointers.specs.Enter.{Shape, struct, pointers, structs}
use Rattle.capnp_pointers.specs.Expected.{expectation}
use Rattle.capnp_pointers.specs.Faults.{LeadsTo}
use Rattle.capnp_pointers.specs.Reading.{Reading, place_past}
use Rattle.capnp_pointers.specs.Values.{expect}
use Rattle.capnp_pointers.specs.Unexpected.{LeadsToOther}

-- The places of n consecutive pointers, from the place r on; and those of n elements, each of d data
-- words and q pointers.
abbrev pub places : ℕ → Reading → List Reading
places zero r = []
places (suc n) r = r ∷ places n (place_past r 1)

abbrev pub element_places : ℕ → ℕ → ℕ → Reading → List Reading
element_places d q zero r = []
element_places d q (suc n) r =
    places q (place_past r d) ++ element_places d q n (place_past (place_past r d) q)

-- The pointers of an object to which the pointer at the place r leads. They have a level less.
abbrev pub places_below : Reading → Shape → List Reading
places_below r (struct s p d q) =
    places q (record r { levels = pred r.levels; segment = s; at = p + d })
places_below r (pointers s p n) = places n (record r { levels = pred r.levels; segment = s; at = p })
places_below r (structs s p d q n) =
    element_places d q n (record r { levels = pred r.levels; segment = s; at = p })
places_below r o = []

-- A traversal that began at the place r with the limiter m may follow the pointers at these places
-- next, and has this limiter left. It follows any of them, by a call that expects an object of some
-- kind. If the call returns an object, the object's pointers take the place of the one that was
-- followed; if the call is refused, nothing does.
pub data Traverses (r : Reading) (m : Meter) : List Reading → Meter → Type 0 where
  begins : Traverses r m (r ∷ []) m
  reads :
      (before later : List Reading) (s : Reading) {now next : Meter} {o : Shape} (e : Expected) →
      Traverses r m (before ++ (s ∷ later)) now → expect (expectation e) s now ≡ (Ok o, next) →
      Traverses r m (before ++ (places_below s o ++ later)) next
  passes :
      (before later : List Reading) (s : Reading) {now next : Meter} {k : ErrorKind} (e : Expected) →
      Traverses r m (before ++ (s ∷ later)) now → expect (expectation e) s now ≡ (Err k, next) →
      Traverses r m (before ++ later) next

-- A call that expects an object of some kind at the place r is refused with k for what it found: an
-- object of another kind, or unfit words (`LeadsToOther`); or a capability, where no level is left.
abbrev pub IsUnexpected : Expected → Reading → ErrorKind → Type 0
IsUnexpected e r k =
    LeadsToOther (expectation e) r k
    ⊎ ((a : Target) × LeadsTo r a × (a.word % 2 ^ 32 ≡ 3) × (r.levels ≡ 0)
    × ((expectation e).too_deep 0 ≡ Some k))
