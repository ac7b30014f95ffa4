-- What a call finds that expects an object of some kind, and finds another one.
use Rattle.std.specs.Prelude.{◌≡◌, ◌⊎◌, Some}
use Rattle.capnp_words.specs.declared.error.ErrorKind.{ErrorKind}
use Rattle.capnp_format.specs.Segments.{Target}
use Rattle.capnp_pointers.specs.Expected.{Expectation}
use Rattle.capnp_pointers.specs.Reading.{Reading}
use Rattle.capnp_pointers.specs.Wanted.{FollowsTo}

-- The pointer at the place r leads to an object that isn't as expected, which is refused with k:
-- the object is of another kind, or its words are unfit.
abbrev pub LeadsToOther : Expectation → Reading → ErrorKind → Type 0
LeadsToOther expected r k =
    (a : Target) × FollowsTo r a
    × ((expected.another_kind a.word ≡ Some k) ⊎ (expected.misfit r.segments a ≡ Some k))
