use Rattle.std.proofs.Common.{take, rules}
use Rattle.capnp_packing.proofs.packing.in_memory.pack_more.Goals as goal

pub returns-clause-packed : goal.returns-clause-packed
returns-clause-packed c = (take c.pack_words-done.result.given c.pack_words-done.new.to, search rules, c.pack_words-done.ensures.packed)
