use Rattle.capnp_streams.proofs.ArgumentLemmas.{budget_same}
use Rattle.capnp_streams.proofs.streams.arguments.parse_number_or_none.Goals as goal

pub returns : goal.returns
returns c = budget_same c.args.text.now _ c.parse_traversal_limit.ensures.read c.parse_traversal_limit.ensures.none
