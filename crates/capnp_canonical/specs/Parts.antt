-- What a call returns for a part of a message, and why it is refused.
use Rattle.std.specs.Prelude.{◌≡◌, ◌⊎◌, ℕ, ◌+◌, ◌<◌, ◌≤◌, List, Ok, Err, IsOk, length}
use Rattle.capnp_words.specs.declared.error.ErrorKind.{ErrorKind}
use Rattle.capnp_words.specs.declared.error.ErrorKind.TheVariants.{AllocationFailed}
use Rattle.capnp_format.specs.Canonical.{encoding, trim, word_count}
use Rattle.capnp_format.specs.Segments.{Segments}
use Rattle.capnp_format.specs.Tree.{Tree}
use Rattle.capnp_arena_traits.specs.Allocations.{max_segment_words}
use Rattle.capnp_arena.specs.declared.arena.reader_arena_impl.ReaderOptions.{ReaderOptions}
use Rattle.capnp_framing.specs.Frames.{bytes_of_words}
use Rattle.capnp_messages.specs.MessageParts.{IsPartOf, RefusesPart, part_size}
use Rattle.capnp_canonical.specs.declared.refusal.Refusal.{Refusal}
use Rattle.capnp_canonical.specs.declared.refusal.Refusal.TheVariants.{NoRoom, Layout}

-- The canonical bytes of the part of a message to which a path leads, without a frame: of at most
-- as many words as a segment of a copy can have.
abbrev pub IsCopyOfPart : ReaderOptions → List ℕ → Segments → List ℕ → Type 0
IsCopyOfPart limits path S bytes =
    (t : Tree) × IsPartOf S limits path t × (length (encoding (trim t)) ≤ max_segment_words)
    × (bytes ≡ bytes_of_words (encoding (trim t)))

-- The part has a canonical copy: it means a value without capabilities within the limits, and its
-- canonical words, a pointer and a body, fit a segment.
abbrev pub HasPart : ReaderOptions → List ℕ → Segments → Type 0
HasPart limits path S =
    (t : Tree) × IsPartOf S limits path t × (1 + word_count (trim t) ≤ max_segment_words)

-- The copy or the digest of a part is refused for what the message means, or memory ran out.
abbrev pub RefusesPartOf : ReaderOptions → List ℕ → Segments → Refusal → Type 0
RefusesPartOf limits path S r =
    (k : ErrorKind) × (r ≡ Layout k) × ((k ≡ AllocationFailed) ⊎ RefusesPart S limits path k)

-- The copy of a part is refused so; or there is a copy, of more bytes than there is room for.
abbrev pub RefusesPartRoom : ReaderOptions → List ℕ → ℕ → Segments → Refusal → Type 0
RefusesPartRoom limits path room S r =
    RefusesPartOf limits path S r
    ⊎ ((bytes : List ℕ) × IsCopyOfPart limits path S bytes
    × (r ≡ NoRoom (length bytes)) × (room < length bytes))

-- The part has this many words and capabilities.
abbrev pub HasPartSize : ReaderOptions → List ℕ → Segments → ℕ → ℕ → Type 0
HasPartSize limits path S words caps =
    part_size S limits path ≡ Ok (record { word_count = words; cap_count = caps })

-- The part has a size within the limits.
abbrev pub HasPartSizeWithin : ReaderOptions → List ℕ → Segments → Type 0
HasPartSizeWithin limits path S = IsOk (part_size S limits path)

-- The size of a part is refused.
abbrev pub RefusesPartSize : ReaderOptions → List ℕ → Segments → Refusal → Type 0
RefusesPartSize limits path S r =
    (k : ErrorKind) × (r ≡ Layout k) × (part_size S limits path ≡ Err k)
