use Rattle.capnp_canonical.proofs.StoringLemmas.{answer_zero, filled_of, room_of}
use Rattle.capnp_canonical.proofs.capnp_canonical_unpack.Goals as goal

pub returns-clause-done : goal.returns-clause-done
returns-clause-done c = filled_of c.store_written.ensures c.unpack-unpacked.ensures.unpacked

pub returns-clause-refused : goal.returns-clause-refused
returns-clause-refused c = room_of c.store_written.ensures c.unpack-unpacked.ensures.refused

pub returns-clause-granted : goal.returns-clause-granted
returns-clause-granted c = λ whole room. answer_zero c.store_written.ensures (c.unpack-unpacked.ensures.granted whole room)
