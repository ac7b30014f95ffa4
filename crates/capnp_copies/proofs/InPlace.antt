-- Where the words of a value, and of children, are after a copy to the end of a segment.
use Rattle.std.proofs.Common.{◌≡◌, ℕ}
use Rattle.capnp_format.specs.Segments.{Segments, segment}
use Rattle.capnp_format.specs.Tree.{Tree, Trees}
use Rattle.capnp_arena_traits.specs.Written.{with_segment}
use Rattle.capnp_copies.specs.Copied.{with_children}
use Rattle.capnp_copies.proofs.Copied.{copied}

abbrev pub IsCopied : Segments → Segments → ℕ → ℕ → Tree → Type 0
IsCopied M M' id at t = M' ≡ with_segment M id (copied (segment M id) at t)

abbrev pub AreCopied : Segments → Segments → ℕ → ℕ → Trees → Type 0
AreCopied M M' id at ts = M' ≡ with_segment M id (with_children (segment M id) at ts)
