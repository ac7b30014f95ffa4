-- Two messages of the same meaning.
use Rattle.std.specs.Prelude.{ℕ}
use Rattle.capnp_format.specs.Segments.{Segments}
use Rattle.capnp_format.specs.Tree.{Tree}
use Rattle.capnp_format.specs.Means.{Means}

-- What a place of S means, that place of R means, within as many levels and at the same cost.
abbrev pub MeansTheSame : Segments → Segments → Type 0
MeansTheSame S R = (n s p c : ℕ) (t : Tree) → Means S n s p t c → Means R n s p t c
