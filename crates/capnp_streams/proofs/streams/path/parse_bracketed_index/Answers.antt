use Rattle.capnp_streams.proofs.PathLemmas.{index_same}
use Rattle.capnp_streams.proofs.streams.path.parse_bracketed_index.Goals as goal

pub returns : goal.returns
returns c = rw (← c.without_brackets.ensures) (index_same _ _ c.parse_index.ensures.read c.parse_index.ensures.none)
