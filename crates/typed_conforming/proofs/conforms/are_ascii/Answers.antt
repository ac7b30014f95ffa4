use Rattle.std.proofs.Common.{◌+◌, ◌^◌, ◌<◌, get_or, subst, arith, below_more}
use Rattle.capnp_format.specs.Bytes.{words_of}
use Rattle.typed_conforming.specs.Misfits.{IsAsciiWord}
use Rattle.typed_conforming.proofs.conforms.are_ascii.Goals as goal

pub loop-i-preserved : goal.loop-i-preserved
loop-i-preserved c =
    below_more (λ k. IsAsciiWord (get_or (words_of c.args.bytes.now) (c.args.start + k) 0)) c.loop-i.i c.loop-i.invariant
    (let small : c.word_at-word.result < 2 ^ 64 = omega arith in subst IsAsciiWord c.word_at-word.ensures (small, omega arith))
