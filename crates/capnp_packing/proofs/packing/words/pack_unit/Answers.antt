use Rattle.std.proofs.Common.{rules}
use Rattle.capnp_packing.proofs.PackingLemmas.{word_packed}
use Rattle.capnp_packing.proofs.packing.words.pack_unit.Goals as goal

pub returns : goal.returns
returns c = record { some = search rules; words = search rules; taken = search rules; within = search rules; packed = word_packed c.args.to.now c.args.from.now c.write_nonzero_bytes_of_word-n.new.to c.write_nonzero_bytes_of_word-n.result c.tag_of-tag.result 8 (search rules) c.requires.word c.tag_of-tag.ensures c.if-tag-eq0.false c.if-tag.false (search rules) c.write_nonzero_bytes_of_word-n.ensures.kept }
