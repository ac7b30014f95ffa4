use Rattle.std.proofs.Common.{arith}
use Rattle.capnp_format.specs.Bytes.{words_of}
use Rattle.capnp_format.proofs.Trimming.{used_words-le}
use Rattle.capnp_format.proofs.WordsOf.{words}
use Rattle.capnp_words.proofs.lanes.trailing_zero_words.Goals as goal

pub returns : goal.returns
returns c = omega (arith, words c.args.bytes.now, c.used_words.ensures, used_words-le (words_of c.args.bytes.now))

pub overflow_sub-result : goal.overflow_sub-result
overflow_sub-result c = omega (arith, words c.args.bytes.now, c.used_words.ensures, used_words-le (words_of c.args.bytes.now))
