use Rattle.capnp_messages.proofs.ChecksComputed.{answered_check, canonical_check, fault_check, refused_check}
use Rattle.capnp_messages.proofs.messages.laws.checks_computed.Goals as goal

pub returns : goal.returns
returns c = record {
  canonical = canonical_check;
  fault = fault_check;
  answered = answered_check;
  refused = refused_check;
}
