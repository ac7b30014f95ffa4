use Rattle.std.proofs.Common.{rules}
use Rattle.capnp_packing.proofs.PackingLemmas.{zeros_packed}
use Rattle.capnp_packing.proofs.packing.words.pack_zeros.Goals as goal

pub returns : goal.returns
returns c = record { some = search rules; words = search rules; taken = search rules; within = search rules; packed = zeros_packed c.args.to.now c.args.from.now c.leading_zero_words-n.result (search rules) c.requires.ready.word c.requires.zero c.leading_zero_words-n.ensures.zeros }
