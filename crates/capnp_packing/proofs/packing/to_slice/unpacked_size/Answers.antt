use Rattle.std.proofs.Common.{◌∙◌, refl, arith, rules}
use Rattle.capnp_packing.specs.Packing.{place_at_end, unpacked_bytes}
use Rattle.capnp_packing.proofs.SliceLemmas.{beyond, counted, led}
use Rattle.capnp_packing.proofs.packing.to_slice.unpacked_size.Goals as goal

pub loop-byte-init : goal.loop-byte-init
unfolding unpacked_bytes place_at_end
loop-byte-init c = record { size = refl; place = refl }

pub loop-byte-preserved : goal.loop-byte-preserved
loop-byte-preserved c = record {
  size = c.in-Some.ensures.1 ∙ counted c.args.packed.now c.loop-byte.byte-index c.loop-byte.size _ c.loop-byte.place (search rules) c.loop-byte.invariant.size c.loop-byte.invariant.place c.count_unpacked-given.ensures.count;
  place = led c.args.packed.now c.loop-byte.byte-index c.loop-byte.place _ (search rules) c.loop-byte.invariant.place c.count_unpacked-given.ensures.next;
}

pub returns-in_default-clause-none : goal.returns-in_default-clause-none
returns-in_default-clause-none c = λ _.
    let size = counted c.args.packed.now c.loop-byte.byte-index c.loop-byte.size _ c.loop-byte.place (search rules) c.loop-byte.invariant.size c.loop-byte.invariant.place c.count_unpacked-given.ensures.count in
    beyond c.args.packed.now _ _ _ size (omega (arith, c.in_default.ensures))
