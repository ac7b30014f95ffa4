use Rattle.capnp_streams.proofs.PathLemmas.{path_is_parsed}
use Rattle.capnp_streams.proofs.streams.path.paths_parsed.Goals as goal

pub returns : goal.returns
returns c = path_is_parsed
