use Rattle.std.proofs.Common.{rules, arith}
use Rattle.capnp_packing.proofs.SliceLemmas.{byte_more, filled, room_more}
use Rattle.capnp_packing.proofs.UnitLemmas.{written}
use Rattle.capnp_packing.proofs.packing.to_slice.unpack_bytes.Goals as goal

pub unpack_to_front-more-requires : goal.unpack_to_front-more-requires
unpack_to_front-more-requires c = omega (arith, room_more c.loop-byte.place c.args.packed.now c.loop-byte.to _ c.loop-byte.byte-index c.loop-byte.given (search rules) c.loop-byte.invariant.within (search rules) c.loop-byte.invariant.bytes)

pub loop-byte-preserved : goal.loop-byte-preserved
loop-byte-preserved c = record {
  bytes = rw (written c.loop-byte.given c.unpack_to_front-more.result.count _ c.loop-byte.to c.unpack_to_front-more.new.to c.loop-byte.invariant.within c.unpack_to_front-more.ensures.within)
      (byte_more c.loop-byte.place c.unpack_to_front-more.result.next c.args.packed.now _ _ _ c.loop-byte.byte-index (search rules) c.unpack_to_front-more.ensures.next c.unpack_to_front-more.ensures.bytes c.loop-byte.invariant.bytes);
  within = search rules;
}

pub returns : goal.returns
returns c = filled c.loop-byte.place c.args.packed.now c.loop-byte.to _ c.loop-byte.byte-index c.loop-byte.given (search rules) c.loop-byte.invariant.within (search rules) c.loop-byte.invariant.bytes
