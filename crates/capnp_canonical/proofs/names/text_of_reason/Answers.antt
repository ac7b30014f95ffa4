use Rattle.std.proofs.Common.{sym, subst, arith}
use Rattle.capnp_canonical.specs.Texts.{IsTextOf}
use Rattle.capnp_pointers.specs.CanonicalFaults.{fault_reason_text}
use Rattle.capnp_canonical.specs.Numbers.{reason_number}
use Rattle.capnp_canonical.proofs.NumberLemmas.{reason_found}
use Rattle.capnp_canonical.proofs.names.text_of_reason.Goals as goal

pub returns-in-1-to-14 : goal.returns-in-1-to-14
returns-in-1-to-14 c =
    subst (IsTextOf reason_number fault_reason_text c.args.number) (sym c.text.ensures)
    (reason_found c.args.number _ (omega (arith, c.in-1-to-14)) (omega (arith, c.in-1-to-14)))
