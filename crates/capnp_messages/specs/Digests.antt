-- The name of a message's value: a digest of its canonical words.
use Rattle.std.specs.Prelude.{◌≡◌, ℕ, ◌≤◌, List, length}
use Rattle.sha2.specs.Sha256.{sha256}
use Rattle.capnp_format.specs.Canonical.{encoding, trim}
use Rattle.capnp_format.specs.Segments.{Segments}
use Rattle.capnp_format.specs.Tree.{Tree}
use Rattle.capnp_arena_traits.specs.Allocations.{max_segment_words}
use Rattle.capnp_arena.specs.declared.arena.reader_arena_impl.ReaderOptions.{ReaderOptions}
use Rattle.capnp_framing.specs.Frames.{bytes_of_words}
use Rattle.capnp_messages.specs.Messages.{IsValueOf}

-- The digest is the SHA-256 of the canonical words of S, without a frame. They are at most as many
-- as a segment of a copy can have.
abbrev pub IsDigestOf : Segments → ReaderOptions → List ℕ → Type 0
IsDigestOf S limits digest =
    (t : Tree) × IsValueOf S limits t × (length (encoding (trim t)) ≤ max_segment_words)
    × (digest ≡ sha256 (bytes_of_words (encoding (trim t))))
