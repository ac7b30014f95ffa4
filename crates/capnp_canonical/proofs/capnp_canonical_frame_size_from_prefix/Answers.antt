use Rattle.capnp_canonical.proofs.StoringLemmas.{done_of, none_of, refused_of}
use Rattle.capnp_canonical.proofs.capnp_canonical_frame_size_from_prefix.Goals as goal

pub returns-clause-done : goal.returns-clause-done
returns-clause-done c = done_of _ c.store.ensures c.frame_size_from_prefix-size.ensures.size

pub returns-clause-refused : goal.returns-clause-refused
returns-clause-refused c = λ some.
    (none_of c.store.ensures some, refused_of c.store.ensures c.frame_size_from_prefix-size.ensures.refused some)
