use Rattle.std.proofs.Common.{rules}
use Rattle.capnp_packing.proofs.MemoryLemmas.{all_packed, part_packed}
use Rattle.capnp_packing.proofs.PackingLemmas.{packs_none}
use Rattle.capnp_packing.proofs.packing.in_memory.pack.Goals as goal

pub loop-taken-init : goal.loop-taken-init
loop-taken-init c = record {
  packed = rw c.new-packed.ensures.items packs_none;
  words = search rules;
  within = search rules;
}

pub loop-taken-preserved : goal.loop-taken-preserved
loop-taken-preserved c = record {
  packed = part_packed c.loop-taken.packed.items _ c.in_ok-taken.ensures.packed.0 c.args.words.now c.loop-taken.taken c.in_ok-taken.field-0 c.in_ok-taken.ensures.packed.1 c.loop-taken.invariant.packed c.in_ok-taken.ensures.packed.2;
  words = search rules;
  within = search rules;
}

pub returns-clause-packed : goal.returns-clause-packed
returns-clause-packed c = all_packed c.loop-taken.packed.items c.args.words.now c.loop-taken.taken c.loop-taken-test.false c.loop-taken.invariant.packed
