use Rattle.std.proofs.Common.{◌+◌, arith}
use Rattle.capnp_words.proofs.WordsPut.{words_of-put_chunk}
use Rattle.capnp_words.proofs.words.put_word.Goals as goal

pub returns : goal.returns
returns c = words_of-put_chunk c.args.at c.args.word {x = c.args.word + 0} c.args.bytes.now (omega arith) c.requires c.ranges.word.fits
