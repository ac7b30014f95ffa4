use Rattle.std.proofs.Common.{arith}
use Rattle.capnp_format.proofs.WordsOf.{words}
use Rattle.typed_conforming.proofs.table.tag_at.Goals as goal

pub word_at-requires : goal.word_at-requires
word_at-requires c = omega (arith, words c.args.section.bytes.now, c.requires.inside)
