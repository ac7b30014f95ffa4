-- The kind of object that a pointer leads to, only by the word that describes it.
use Rattle.std.specs.Prelude.{◌≡◌, ◌⊎◌, ℕ, if◌then◌else◌, nat_eq, Result, Ok, Err}
use Rattle.capnp_words.specs.declared.error.ErrorKind.{ErrorKind}
use Rattle.capnp_words.specs.declared.error.ErrorKind.TheVariants.{UnexpectedFarPointer}
use Rattle.capnp_words.specs.declared.error.ErrorKind.TheVariants.{UnknownPointerType}
use Rattle.capnp_words.specs.Meter.{Meter}
use Rattle.capnp_format.specs.Word.{kind, lower_half}
use Rattle.capnp_format.specs.Segments.{Target}
use Rattle.capnp_words.specs.declared.wire_pointer.PointerType.{PointerType}
use Rattle.capnp_words.specs.declared.wire_pointer.PointerType.TheVariants.{Null, Struct, List, Capability}
use Rattle.capnp_pointers.specs.Reading.{Reading, word_of}
use Rattle.capnp_pointers.specs.Refusals.{Unfollowed}
use Rattle.capnp_pointers.specs.Spending.{Paid}
use Rattle.capnp_pointers.specs.Wanted.{FollowsTo}

-- What a word describes, or the error if it describes nothing.
abbrev pub type_of : ℕ → Result PointerType ErrorKind
type_of w =
    if nat_eq (kind w) 0 then Ok Struct
    else if nat_eq (kind w) 1 then Ok List else if nat_eq (kind w) 2 then Err UnexpectedFarPointer
    else if nat_eq (lower_half w) 3 then Ok Capability else Err UnknownPointerType

-- What the pointer is: null, at no cost; or it leads to a word that describes this, and its landing
-- pads are granted, from m to m'.
abbrev pub IsOfType : Reading → Meter → Meter → PointerType → Type 0
IsOfType r m m' t = ((word_of r ≡ 0) × (t ≡ Null) × (m' ≡ m)) ⊎
    ((a : Target) × FollowsTo r a × (type_of a.word ≡ Ok t) × Paid r.charging m m' a.pads 1)

-- The call is refused with k, and takes the limiter from m to m': the pointer isn't followed, or
-- leads to a word that describes nothing.
pub data HasNoType (r : Reading) (m m' : Meter) (k : ErrorKind) : Type 0 where
  not_followed : Unfollowed r m m' k → HasNoType r m m' k
  of_no_type : (a : Target) → FollowsTo r a → type_of a.word ≡ Err k →
      Paid r.charging m m' a.pads 1 → HasNoType r m m' k
