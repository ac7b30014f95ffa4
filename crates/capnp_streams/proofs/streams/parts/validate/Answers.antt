use Rattle.capnp_streams.proofs.streams.parts.validate.Goals as goal

pub returns-clause-computed : goal.returns-clause-computed
returns-clause-computed g c = rw (c.new-source.ensures.words, c.new-source.ensures.nesting) at c.validate.ensures.computed

pub returns-clause-exactly : goal.returns-clause-exactly
returns-clause-exactly g c = rw (c.new-source.ensures.words, c.new-source.ensures.nesting) at c.validate.ensures.exactly

pub returns-clause-extent : goal.returns-clause-extent
returns-clause-extent g c = rw (c.new-source.ensures.words, c.new-source.ensures.nesting) at c.validate.ensures.extent
