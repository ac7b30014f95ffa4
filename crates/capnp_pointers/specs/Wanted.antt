-- What a reading requires of the object at a place: its demands, and the error for each demand that
-- is broken ("Structs", "Lists", "Capabilities (Interfaces)"). `Expected.antt` has the calls that
-- require an object of some kind.
use Rattle.std.specs.Prelude.{◌≡◌, ◌≢◌, ◌⊎◌, ℕ, ◌%◌, ◌^◌, ◌<◌, if◌then◌else◌, nat_eq, ok_or, Result}
use Rattle.std.specs.Prelude.{Ok, Err}
use Rattle.std.specs.Result.{result_ok}
use Rattle.capnp_words.specs.declared.error.ErrorKind.{ErrorKind}
use Rattle.capnp_words.specs.declared.error.ErrorKind.TheVariants.{CannotCreateACanonicalMessageWithACapability}
use Rattle.capnp_words.specs.declared.error.ErrorKind.TheVariants.{CantHandleNonStructInlineComposite}
use Rattle.capnp_words.specs.declared.error.ErrorKind.TheVariants.{InlineCompositeListsElementsOverrunItsWordCount}
use Rattle.capnp_words.specs.declared.error.ErrorKind.TheVariants.{InlineCompositeListsOfNonStructTypeAreNotSupported}
use Rattle.capnp_words.specs.declared.error.ErrorKind.TheVariants.{MalformedDoubleFarPointer}
use Rattle.capnp_words.specs.declared.error.ErrorKind.TheVariants.{MessageContainsOutOfBoundsPointer}
use Rattle.capnp_words.specs.declared.error.ErrorKind.TheVariants.{MessageIsTooDeeplyNestedOrContainsCycles}
use Rattle.capnp_words.specs.declared.error.ErrorKind.TheVariants.{TriedToReadFromNullArena}
use Rattle.capnp_words.specs.declared.error.ErrorKind.TheVariants.{UnknownPointerType}
use Rattle.capnp_format.specs.Word.{kind, list_count, is_double}
use Rattle.capnp_format.specs.Segments.{Segments, Target, near}
use Rattle.capnp_format.specs.Means.{Claims}
use Rattle.capnp_pointers.specs.Follow.{follow_far}
use Rattle.capnp_pointers.specs.declared.object.Purpose.{Purpose}
use Rattle.capnp_pointers.specs.declared.object.Purpose.TheVariants.{Value, Size}
use Rattle.capnp_pointers.specs.Demands.{claimed_words, tag, element_words, IsStructList, IsInSegment}
use Rattle.capnp_pointers.specs.Reading.{Reading, word_of}

-- A plain value; one for canonical form; or one of a default, which is also plain. The last two
-- have no capability.
pub data Form : Type 0 where
  plain : Form
  canonical : Form
  of_default : Form

-- The target a of a pointer, with n levels, breaks the demand that is refused with the given error.
-- This is for any object. A demand is checked only if those before it hold, so that an object
-- breaks at most one.
abbrev pub BreaksObject : Purpose → Form → Segments → ℕ → Target → ErrorKind → Type 0
BreaksObject purpose form S n a MalformedDoubleFarPointer = kind a.word ≡ 2
BreaksObject purpose form S n a UnknownPointerType =
    (kind a.word ≡ 3) × ((a.word % 2 ^ 32 ≢ 3) ⊎ (form ≡ of_default))
BreaksObject purpose form S n a CannotCreateACanonicalMessageWithACapability =
    (form ≡ canonical) × (a.word % 2 ^ 32 ≡ 3)
BreaksObject purpose form S n a MessageIsTooDeeplyNestedOrContainsCycles = (kind a.word < 2) × (n ≡ 0)
BreaksObject purpose form S n a MessageContainsOutOfBoundsPointer =
    (kind a.word < 2) × (0 < n) × (IsInSegment purpose S a → ⊥)
BreaksObject Value form S n a InlineCompositeListsOfNonStructTypeAreNotSupported =
    (0 < n) × IsStructList a.word × Claims S a (claimed_words a.word) × (kind (tag S a) ≢ 0)
BreaksObject Size form S n a CantHandleNonStructInlineComposite =
    (0 < n) × IsStructList a.word × Claims S a (claimed_words a.word) × (kind (tag S a) ≢ 0)
BreaksObject purpose form S n a InlineCompositeListsElementsOverrunItsWordCount =
    (0 < n) × IsStructList a.word × Claims S a (claimed_words a.word) × (kind (tag S a) ≡ 0) ×
    (list_count a.word < element_words (tag S a))
BreaksObject purpose form S n a _ = ⊥

-- What following the pointer at a place returns: the target, whose describing word may be of any
-- kind; or the error for the first thing that is wrong. A far pointer of a default, which leads
-- nowhere, is refused with an error of its own.
abbrev pub follow_at : Reading → Result Target ErrorKind
follow_at r =
    let x = word_of r in
    let far = follow_far r.segments x (is_double x) in
    if nat_eq (kind x) 2 then
    if r.of_default then ok_or (result_ok far) TriedToReadFromNullArena else far
    else ok_or (near r.segments r.segment r.at x 0) MessageContainsOutOfBoundsPointer

-- The pointer at the place r isn't null, and is followed to the target a.
abbrev pub FollowsTo : Reading → Target → Type 0
FollowsTo r a = (word_of r ≢ 0) × (follow_at r ≡ Ok a)

-- The pointer at the place r is followed to the target a by a reading for this purpose. A reading
-- for the size takes a level for anything that the pointer leads to, even for a capability.
abbrev pub FollowsFor : Purpose → Reading → Target → Type 0
FollowsFor Value r a = FollowsTo r a
FollowsFor Size r a = FollowsTo r a × (0 < r.levels)

-- The place r breaks a demand that is refused with k: its pointer can't be followed, or what that
-- leads to breaks the demand. A null pointer breaks none.
abbrev pub BreaksAt : Form → ErrorKind → Reading → Type 0
BreaksAt form k r = (word_of r ≢ 0) ×
    ((follow_at r ≡ Err k) ⊎ ((a : Target) × (follow_at r ≡ Ok a) ×
    BreaksObject Value form r.segments r.levels a k))

-- Which values a reading of a whole value accepts: every value, or in the other forms those without
-- capabilities.
abbrev pub AllowsCapabilities : Form → ℕ → Type 0
AllowsCapabilities form capabilities = form ≢ plain → capabilities ≡ 0
