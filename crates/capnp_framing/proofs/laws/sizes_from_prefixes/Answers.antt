use Rattle.capnp_framing.proofs.PrefixLemmas.{sizes_from_prefixes}
use Rattle.capnp_framing.proofs.laws.sizes_from_prefixes.Goals as goal

pub returns : goal.returns
returns c = sizes_from_prefixes
