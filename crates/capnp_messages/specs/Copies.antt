-- What a canonical copy leaves in a fresh message, and why it is refused.
use Rattle.std.specs.Prelude.{◌≡◌, ◌⊎◌, ℕ, ◌<◌, [], ◌∷◌, Bool, true, false, None, Ok, Err, Option, Result, length}
use Rattle.capnp_words.specs.declared.error.ErrorKind.{ErrorKind}
use Rattle.capnp_words.specs.declared.error.ErrorKind.TheVariants.{AllocationFailed}
use Rattle.capnp_words.specs.declared.error.ErrorKind.TheVariants.{MessageTooLarge}
use Rattle.capnp_words.specs.Meter.{Meter, unused}
use Rattle.capnp_words.specs.Names.{is_allocation_name}
use Rattle.capnp_format.specs.Canonical.{trim, encoding}
use Rattle.capnp_format.specs.Tree.{Tree}
use Rattle.capnp_arena_traits.specs.Allocations.{one_more}
use Rattle.capnp_arena_traits.specs.View.{View}
use Rattle.capnp_pointers.specs.Wanted.{canonical, plain}
use Rattle.capnp_messages.specs.Canonicalize.{canonical_words, end_value}
use Rattle.capnp_messages.specs.Fitting.{fit_end}
use Rattle.capnp_messages.specs.Parts.{PathEnd}

-- Whether a refusal says that something would be too large.
abbrev pub is_message_too_large : ErrorKind → Bool
is_message_too_large (MessageTooLarge w) = true
is_message_too_large _ = false

-- If the end of a path has a value, without a traversal limit, its canonical words are more than
-- `room`.
abbrev pub NeedsMoreRoom : PathEnd → ℕ → Type 0
NeedsMoreRoom e room =
    (t : Tree) → (end_value plain e (unused None)).0 ≡ Ok t → room < length (encoding (trim t))

-- The canonical copy of the end of a path outgrows `room` words: reading it within the limit comes
-- to an object that doesn't fit, maybe before it would be refused; and its value needs more.
pub record OutgrowsRoom (e : PathEnd) (limit : Option ℕ) (room : ℕ) : Type 0 where
  pub outgrown : (fit_end room e 1 (unused limit)).0 ≡ Err (MessageTooLarge room)
  pub large : NeedsMoreRoom e room

-- The canonical copy of the end of a path, as it was found and within what the limit has left, into
-- one segment of `room` words, is refused with k: the path is; or the canonical words are; or the
-- copy outgrows the room.
abbrev pub RefusesCopy : Result PathEnd ErrorKind × Meter → ℕ → ErrorKind → Type 0
RefusesCopy (Err l, m) room k = l ≡ k
RefusesCopy (Ok e, m) room k =
    ((canonical_words room e (unused m.left)).0 ≡ Err k)
    ⊎ ((k ≡ MessageTooLarge room) × OutgrowsRoom e m.left room)

-- The same, into a segment of `room` words and then into further ones if they are granted: reading
-- the value is refused; or k says that there is no room or no memory, and the copy outgrows the
-- first segment.
abbrev pub RefusesCopyAnywhere : PathEnd → Option ℕ → ℕ → ErrorKind → Type 0
RefusesCopyAnywhere e limit room k =
    ((end_value canonical e (unused limit)).0 ≡ Err k)
    ⊎ ((is_allocation_name k ≡ true) × OutgrowsRoom e limit room)

-- Either k is `AllocationFailed`, and new counts one more refused request than old; or P holds, and
-- new is old.
abbrev pub LacksMemoryOr : ℕ → ℕ → ErrorKind → Type 0 → Type 0
LacksMemoryOr old new k P = ((k ≡ AllocationFailed) × (new ≡ one_more old)) ⊎ (P × (new ≡ old))

-- The message `made` has one segment, which holds the canonical words of t.
abbrev pub HoldsCanonicalWords : View → Tree → Type 0
HoldsCanonicalWords made t = made.words ≡ encoding (trim t) ∷ []
