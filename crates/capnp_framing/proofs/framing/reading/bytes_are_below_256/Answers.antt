use Rattle.capnp_framing.proofs.framing.reading.bytes_are_below_256.Goals as goal

pub returns : goal.returns
returns c = λ i. (c.type_inv.bytes i).fits
