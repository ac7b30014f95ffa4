use Rattle.capnp_streams.proofs.ArgumentLemmas.{nesting_same}
use Rattle.capnp_streams.proofs.streams.arguments.parse_i32.Goals as goal

pub returns : goal.returns
returns c = nesting_same c.args.text.now _ c.parse_nesting_limit.ensures.read c.parse_nesting_limit.ensures.none
