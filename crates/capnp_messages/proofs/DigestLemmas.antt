-- The SHA-256 of the bytes of canonical words is the digest of their message.
use Rattle.std.proofs.Common.{◌≡◌, ◌*◌, ◌≤◌, ◌∙◌, ℕ, List, length, ap, arith}
use Rattle.sha2.specs.Sha256.{sha256}
use Rattle.capnp_format.specs.Canonical.{encoding, trim}
use Rattle.capnp_format.specs.Segments.{Segments}
use Rattle.capnp_format.specs.Tree.{Tree}
use Rattle.capnp_arena_traits.specs.Allocations.{max_segment_words}
use Rattle.capnp_arena.specs.declared.arena.reader_arena_impl.ReaderOptions.{ReaderOptions}
use Rattle.capnp_framing.specs.Frames.{bytes_of_words}
use Rattle.capnp_framing.proofs.ReadingLemmas.{bytes-length}
use Rattle.capnp_messages.specs.Digests.{IsDigestOf}
use Rattle.capnp_messages.specs.MessageParts.{IsDigestOfPart, IsPartOf}
use Rattle.capnp_messages.specs.Messages.{IsValueOf}

pub digest_is : {S : Segments} {limits : ReaderOptions} {bytes digest : List ℕ} (t : Tree) → IsValueOf S limits t →
    length bytes ≤ 8 * max_segment_words → bytes ≡ bytes_of_words (encoding (trim t)) → digest ≡ sha256 bytes → IsDigestOf S limits digest
digest_is t value short is named = (t, value, omega (arith, ap length is, bytes-length (encoding (trim t)), short), named ∙ ap sha256 is)

pub part_digest_is : {S : Segments} {limits : ReaderOptions} {path bytes digest : List ℕ} (t : Tree) → IsPartOf S limits path t →
    length bytes ≤ 8 * max_segment_words → bytes ≡ bytes_of_words (encoding (trim t)) → digest ≡ sha256 bytes → IsDigestOfPart S limits path digest
part_digest_is t value short is named = (t, value, omega (arith, ap length is, bytes-length (encoding (trim t)), short), named ∙ ap sha256 is)
