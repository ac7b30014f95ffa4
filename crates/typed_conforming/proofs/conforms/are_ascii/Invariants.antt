use Rattle.std.proofs.Common.{ℕ, ◌+◌, ◌<◌, get_or}
use Rattle.capnp_format.specs.Bytes.{words_of}
use Rattle.typed_conforming.specs.Misfits.{IsAsciiWord}
use Rattle.typed_conforming.proofs.conforms.are_ascii.Given as goal

abbrev pub invariant-loop-i : goal.invariant-loop-i
invariant-loop-i l = (k : ℕ) → k < l.i → IsAsciiWord (get_or (words_of l.bytes) (l.start + k) 0)
