use Rattle.capnp_layout.proofs.framing.writing.write_canonical.Goals as goal

pub returns-clause-layout : goal.returns-clause-layout
returns-clause-layout g c = rw (c.pointer.ensures.source, c.pointer.ensures.place, c.pointer.ensures.nesting) at c.write_canonical.ensures.layout
