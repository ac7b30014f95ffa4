use Rattle.std.proofs.Common.{arith}
use Rattle.capnp_format.proofs.WordsOf.{words}
use Rattle.layout_vectors.proofs.vectors.walk.are_unmarked_words_zero.Goals as goal

pub word_at-requires : goal.word_at-requires
word_at-requires c = omega (arith, words c.args.bytes.now, c.requires)
