use Rattle.std.proofs.Common.{arith, rules}
use Rattle.capnp_packing.proofs.PackingLemmas.{kept_both, kept_front}
use Rattle.capnp_packing.proofs.packing.words.write_nonzero_bytes_of_word.Goals as goal

pub returns-then-tag-lt32-clause-kept : goal.returns-then-tag-lt32-clause-kept
returns-then-tag-lt32-clause-kept c = kept_front c.write_nonzero_bytes-n.new.to c.args.word.now c.write_nonzero_bytes-n.result c.args.tag (omega (arith, c.requires.word)) c.requires.tag c.if-tag-lt32.true c.write_nonzero_bytes-n.ensures.kept

pub returns-clause-kept : goal.returns-clause-kept
returns-clause-kept c = kept_both c.write_nonzero_bytes-n.new.to c.write_nonzero_bytes.new.to c.args.word.now c.write_nonzero_bytes-n.result c.write_nonzero_bytes.result _ (search rules) (search rules) c.write_nonzero_bytes-n.ensures.kept c.write_nonzero_bytes.ensures.kept
