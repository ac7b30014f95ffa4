-- What a copy leaves: how long its segment is, what stays, and when there is a copy.
use Rattle.std.proofs.Common.{◌≡◌, ℕ, zero, suc, ◌<◌, [], ◌∷◌, length, ap, ap₂, ◌∙◌, arith}
use Rattle.capnp_format.specs.Segments.{Segments, segment, IsPlace}
use Rattle.capnp_format.specs.Tree.{Tree}
use Rattle.capnp_format.specs.Canonical.{encoding}
use Rattle.capnp_arena_traits.proofs.WordsOver.{segment_here}
use Rattle.capnp_words.specs.declared.error.ErrorKind.{ErrorKind}
use Rattle.capnp_copies.specs.Changes.{CopyCall, StopsCopy}
use Rattle.capnp_copies.proofs.Copied.{copied}
use Rattle.capnp_copies.specs.Originals.{Original}
use Rattle.capnp_copies.proofs.InPlace.{IsCopied}

-- Segments.

pub there : (S : Segments) (s p : ℕ) → IsPlace S s p → s < length S
there [] s p l = absurd (omega arith)
there (xs ∷ S) zero p l = omega arith
there (xs ∷ S) (suc s) p l = omega (arith, there S s p l)

-- Copies.

-- A copy is refused, and leaves some value.
abbrev pub StopsHalfway : Original Tree → CopyCall → ErrorKind → Type 0
StopsHalfway o c k = (t : Tree) × StopsCopy o c t k

-- After a copy into a segment of one zero word, the segment is the encoding of the value.
pub fresh_made : {M' : Segments} (M : Segments) (id at : ℕ) (t : Tree) → IsPlace M id at × (segment M id ≡ 0 ∷ []) → IsCopied M M' id at t → segment M' id ≡ encoding t
fresh_made M id at t (l, one) e =
    let first : at ≡ 0 = omega (arith, ap length one) in
    ap (λ S. segment S id) e ∙ segment_here M id (copied (segment M id) at t) (there M id at l) ∙ ap₂ (λ ws p. copied ws p t) one first
