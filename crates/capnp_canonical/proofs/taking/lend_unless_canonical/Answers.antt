use Rattle.std.proofs.Common.{◌∙◌, ap}
use Rattle.capnp_format.specs.Canonical.{encoding, trim}
use Rattle.capnp_framing.specs.Frames.{bytes_of_words}
use Rattle.capnp_canonical.proofs.CallLemmas.{fit_segment}
use Rattle.capnp_canonical.proofs.taking.lend_unless_canonical.Goals as goal

pub returns-in-Some-clause-taken : goal.returns-in-Some-clause-taken
returns-in-Some-clause-taken g c =
    let (t, value, is) = c.in-Some.ensures.words in
    let bytes = c.in-Some.ensures.whole ∙ ap bytes_of_words is in
    let few = fit_segment (encoding (trim t)) bytes c.in-Some.ensures.short in
    (t, value, few, rw bytes at c.take.ensures)
