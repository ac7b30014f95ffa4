-- What a whole message has within the limits of a reader's options, and why it is refused.
use Rattle.std.specs.Prelude.{◌≡◌, ◌⊎◌, ℕ, ℤ, ◌+◌, ◌≤◌, Option, Some, Result, Ok, Err, IsOk}
use Rattle.capnp_words.specs.declared.error.ErrorKind.{ErrorKind}
use Rattle.capnp_words.specs.Meter.{FitsIn, less, unused}
use Rattle.capnp_format.specs.Canonical.{HasNoCapabilities, trim, word_count}
use Rattle.capnp_format.specs.Segments.{Segments}
use Rattle.capnp_format.specs.Tree.{Tree, capabilities}
use Rattle.capnp_format.specs.Means.{Means}
use Rattle.capnp_arena_traits.specs.Allocations.{max_segment_words}
use Rattle.capnp_arena.specs.declared.arena.reader_arena_impl.ReaderOptions.{ReaderOptions}
use Rattle.capnp_pointers.specs.Metered.{◌>>>◌}
use Rattle.capnp_pointers.specs.Reading.{Reading}
use Rattle.capnp_pointers.specs.Source.{levels}
use Rattle.capnp_pointers.specs.declared.pointers.canonical_fault.CanonicalFault.{CanonicalFault}
use Rattle.capnp_pointers.specs.declared.pointers.sizes.MessageSize.{MessageSize}
use Rattle.capnp_pointers.specs.Measure.{measure, only_words}
use Rattle.capnp_messages.specs.Roots.{CoversRoot, RefusesRoot, message_root, read_message_root}
use Rattle.capnp_messages.specs.Canonicalize.{root_end}
use Rattle.capnp_messages.specs.Copies.{RefusesCopy}
use Rattle.capnp_messages.specs.CanonicalMessages.{CanBeTested}
use Rattle.capnp_messages.specs.Check.{check}

-- The limits within which a call reads an arena: the arena's nesting limit, and a traversal limit in
-- words.
abbrev pub arena_limits : ℤ → Option ℕ → ReaderOptions
arena_limits nesting words = record { nesting_limit = nesting; traversal_limit_in_words = words }

-- The root of S means a value, with or without capabilities, within the nesting limit. The
-- traversal limit covers what reading it costs, and one word for the root pointer ("Messages",
-- "Security Considerations").
pub record IsReadable (S : Segments) (limits : ReaderOptions) : Type 0 where
  pub root : CoversRoot S limits.traversal_limit_in_words
  pub value : Tree
  pub cost : ℕ
  pub means : Means S (levels limits.nesting_limit) 0 0 value cost
  pub covered : FitsIn limits.traversal_limit_in_words (1 + cost)

-- The root of S means t within the limits, and t has no capabilities ("Messages", "Security
-- Considerations").
pub record IsValueOf (S : Segments) (limits : ReaderOptions) (t : Tree) : Type 0 where
  pub root : CoversRoot S limits.traversal_limit_in_words
  pub cost : ℕ
  pub means : Means S (levels limits.nesting_limit) 0 0 t cost
  pub free : HasNoCapabilities t
  pub covered : FitsIn limits.traversal_limit_in_words (1 + cost)

-- S has a canonical copy: it means a value without capabilities within the limits, and its
-- canonical words, a pointer and a body, fit a segment ("Canonicalization").
abbrev pub HasCanonicalCopy : Segments → ReaderOptions → Type 0
HasCanonicalCopy S limits =
    (t : Tree) × IsValueOf S limits t × (1 + word_count (trim t) ≤ max_segment_words)

-- S is the canonical message of a value within the limits of a reader's options, which cover one word more
-- for the root pointer ("Canonicalization", "Security Considerations").
abbrev pub IsCanonicalWithin : Segments → ReaderOptions → Type 0
IsCanonicalWithin S limits = CanBeTested S (levels limits.nesting_limit) (unused limits.traversal_limit_in_words)

-- The test of S for canonical form finds the fault f.
abbrev pub IsFaultOf : Segments → ReaderOptions → CanonicalFault → Type 0
IsFaultOf S limits f = check S limits ≡ Ok (Some f)

-- The reading of the root of S, within the nesting limit.
abbrev pub root_within : Segments → ReaderOptions → Reading
root_within S limits = message_root S (levels limits.nesting_limit)

-- The words that the traversal limit leaves after the root's word is charged.
abbrev pub left_of : ReaderOptions → Option ℕ
left_of limits = less limits.traversal_limit_in_words 1

-- The size of S within the limits, or its refusal: the root pointer is read, and then the size of
-- what it leads to.
abbrev pub message_size : Segments → ReaderOptions → Result MessageSize ErrorKind
message_size S limits =
    ((read_message_root S (levels limits.nesting_limit) >>> λ r. measure r (only_words 0))
    (unused limits.traversal_limit_in_words)).0

-- S has this many words and capabilities within the limits. If the root means a value, they are the
-- value's.
pub record HasSizeOf (S : Segments) (limits : ReaderOptions) (words caps : ℕ) : Type 0 where
  pub counted : message_size S limits ≡ Ok (record { word_count = words; cap_count = caps })
  pub of_value : (t : Tree) (m cost : ℕ) → Means S m 0 0 t cost → (words ≡ word_count t) ×
      (caps ≡ capabilities t)

-- S has a size within the limits.
abbrev pub HasSizeWithin : Segments → ReaderOptions → Type 0
HasSizeWithin S limits = IsOk (message_size S limits)

-- The size of S is refused with k.
abbrev pub RefusesSize : Segments → ReaderOptions → ErrorKind → Type 0
RefusesSize S limits k = message_size S limits ≡ Err k

-- The root pointer of S is refused with k, or the limit covers it and P holds.
abbrev pub RefusesAt : Segments → ReaderOptions → ErrorKind → Type 0 → Type 0
RefusesAt S limits k P =
    RefusesRoot S limits.traversal_limit_in_words k ⊎ (CoversRoot S limits.traversal_limit_in_words × P)

-- The canonical copy of S is refused with k.
abbrev pub RefusesCanon : Segments → ReaderOptions → ErrorKind → Type 0
RefusesCanon S limits k = RefusesCopy (root_end S limits) max_segment_words k

-- The test of S is refused with k.
abbrev pub RefusesCheck : Segments → ReaderOptions → ErrorKind → Type 0
RefusesCheck S limits k = check S limits ≡ Err k
