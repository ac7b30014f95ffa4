use Rattle.std.proofs.Common.{rules}
use Rattle.std.proofs.lemmas.Result.{on_ok_weaker}
use Rattle.capnp_pointers.specs.Wanted.{canonical}
use Rattle.capnp_pointers.proofs.WholeValue.ValueAsStated.{reads_if}
use Rattle.example_framed.proofs.write_canonical_message.Goals as goal

pub returns-in-Ok : goal.returns-in-Ok
returns-in-Ok g c =
    on_ok_weaker c.write_canonical.result
    (λ (t, is, prints). let read = reads_if canonical _ _ _ t is in (t, read.cost, search (rules, read.means), prints))
    c.write_canonical.ensures.written
