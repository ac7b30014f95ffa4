-- If `decode` reads nothing, the place means nothing.
use Rattle.std.proofs.Common.{◌≡◌, ℕ, None}
use Rattle.capnp_format.specs.Segments.{Segments}
use Rattle.capnp_format.specs.Tree.{Tree}
use Rattle.capnp_format.specs.Decode.{decode}
use Rattle.capnp_format.proofs.Meant.{Meant}
use Rattle.capnp_format.proofs.Reading.{decode_finds}

pub decode_none : {S : Segments} {n s p c : ℕ} {t : Tree} → decode S n s p ≡ None → Meant S n s p t c → ⊥
decode_none {S = S} {n = n} {s = s} {p = p} {t = t} e h = let f = decode_finds S n s p t h.means in cc (e, f)
