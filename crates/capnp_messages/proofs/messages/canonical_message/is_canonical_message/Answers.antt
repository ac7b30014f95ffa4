use Rattle.std.proofs.Common.{ap, ◌∙◌}
use Rattle.capnp_pointers.specs.Metered.{answer, onward}
use Rattle.capnp_messages.specs.Check.{is_whole}
use Rattle.capnp_messages.proofs.CheckedLemmas.{whole_is}
use Rattle.capnp_messages.proofs.messages.canonical_message.is_canonical_message.Goals as goal

pub returns-clause-computed : goal.returns-clause-computed
returns-clause-computed g c = ap (onward (λ o. answer (is_whole o))) c.in_ok-canonical_fault.ensures.computed ∙ whole_is c.in_ok-canonical_fault.field-0 c.is_none.result c.canonical_fault.new.lim c.is_none.ensures
