-- A part of a whole message within the limits of a reader's options, and why it is refused.
use Rattle.std.specs.Prelude.{◌≡◌, ℕ, ◌≤◌, List, Result, Ok, length}
use Rattle.sha2.specs.Sha256.{sha256}
use Rattle.capnp_words.specs.declared.error.ErrorKind.{ErrorKind}
use Rattle.capnp_words.specs.Meter.{Affords, Meter, unused}
use Rattle.capnp_format.specs.Canonical.{HasNoCapabilities, encoding, trim}
use Rattle.capnp_format.specs.Segments.{Segments}
use Rattle.capnp_format.specs.Tree.{Tree}
use Rattle.capnp_arena_traits.specs.Allocations.{max_segment_words}
use Rattle.capnp_arena.specs.declared.arena.reader_arena_impl.ReaderOptions.{ReaderOptions}
use Rattle.capnp_framing.specs.Frames.{bytes_of_words}
use Rattle.capnp_pointers.specs.Metered.{◌>>>◌}
use Rattle.capnp_pointers.specs.Source.{levels}
use Rattle.capnp_pointers.specs.declared.pointers.sizes.MessageSize.{MessageSize}
use Rattle.capnp_messages.specs.Copies.{RefusesCopy}
use Rattle.capnp_messages.specs.EndValues.{EndMeans, IsEndThere, end_place, measure_end}
use Rattle.capnp_messages.specs.Parts.{PathEnd, part}

-- Where a path leads from the root pointer of S, within the limits; or the refusal.
abbrev pub part_within : Segments → ReaderOptions → List ℕ → Result PathEnd ErrorKind × Meter
part_within S limits path =
    part S (levels limits.nesting_limit) path (unused limits.traversal_limit_in_words)

-- The path leads from the root pointer of S to a pointer or an element that means t, which has no
-- capabilities. What the traversal limit has left there covers what reading t costs.
pub record IsPartOf (S : Segments) (limits : ReaderOptions) (path : List ℕ) (t : Tree)
    : Type 0 where
  pub path_end : PathEnd
  pub left : Meter
  pub leads : part_within S limits path ≡ (Ok path_end, left)
  pub there : IsEndThere path_end
  pub cost : ℕ
  pub means : EndMeans path_end t cost
  pub free : HasNoCapabilities t
  pub covered : Affords (end_place path_end).charging left cost

-- The canonical copy of a part is refused with k.
abbrev pub RefusesPart : Segments → ReaderOptions → List ℕ → ErrorKind → Type 0
RefusesPart S limits path k = RefusesCopy (part_within S limits path) max_segment_words k

-- The size of a part, or its refusal: the path is followed, and what is at its end is measured.
abbrev pub part_size : Segments → ReaderOptions → List ℕ → Result MessageSize ErrorKind
part_size S limits path =
    ((part S (levels limits.nesting_limit) path >>> measure_end)
    (unused limits.traversal_limit_in_words)).0

-- The digest is the SHA-256 of the canonical words of a part, without a frame. They are at most as
-- many as a segment of a copy can have.
abbrev pub IsDigestOfPart : Segments → ReaderOptions → List ℕ → List ℕ → Type 0
IsDigestOfPart S limits path digest =
    (t : Tree) × IsPartOf S limits path t × (length (encoding (trim t)) ≤ max_segment_words)
    × (digest ≡ sha256 (bytes_of_words (encoding (trim t))))
