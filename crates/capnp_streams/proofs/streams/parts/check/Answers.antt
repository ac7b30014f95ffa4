use Rattle.capnp_streams.proofs.streams.parts.check.Goals as goal

pub returns-clause-exactly : goal.returns-clause-exactly
returns-clause-exactly g c = rw c.new-source.ensures.words at c.check.ensures.exactly

pub returns-clause-within : goal.returns-clause-within
returns-clause-within g c = rw (c.new-source.ensures.words, c.new-source.ensures.nesting) at c.check.ensures.within

pub returns-clause-fault : goal.returns-clause-fault
returns-clause-fault g c = rw (c.new-source.ensures.words, c.new-source.ensures.nesting) at c.check.ensures.fault

pub returns-clause-refused : goal.returns-clause-refused
returns-clause-refused g c = rw (c.new-source.ensures.words, c.new-source.ensures.nesting) at c.check.ensures.refused
