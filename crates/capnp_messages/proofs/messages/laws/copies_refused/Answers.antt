use Rattle.capnp_messages.proofs.CanonicalizeLemmas.{refusals_are, refusals_within}
use Rattle.capnp_messages.proofs.OutgrownEnds.{end_refusals_within}
use Rattle.capnp_messages.proofs.messages.laws.copies_refused.Goals as goal

pub returns : goal.returns
returns c = record { exactly = refusals_are; within = refusals_within; at_end = end_refusals_within }
