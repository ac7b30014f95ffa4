use Rattle.std.proofs.Common.{sym, arith}
use Rattle.capnp_format.proofs.WordsOf.{words, small_word}
use Rattle.capnp_pointers.proofs.pointers.canonical.whole_words.Goals as goal

pub returns-clause-count : goal.returns-clause-count
returns-clause-count c =
    sym (words c.args.bytes.now)

pub returns-clause-small : goal.returns-clause-small
returns-clause-small c =
    small_word c.args.bytes.now (λ i. omega (arith, c.type_inv.bytes i))
