use Rattle.std.proofs.lemmas.Bool.Decides.{Decides-eqb}
use Rattle.std.proofs.lemmas.Slice.Eq.{slice_eq-Decides}
use Rattle.callers.proofs.AgreedLemmas.{same_there}
use Rattle.callers.proofs.theorem.have_same_bytes.Goals as goal

pub returns : goal.returns
returns g c =
    let a = c.canonical_bytes.result.now in
    let b = c.canonical_bytes-2.result.now in
    let is = same_there _ _ a b c.canonical_bytes.ensures.words c.canonical_bytes-2.ensures.words c.canonical_bytes.ensures.bytes c.canonical_bytes-2.ensures.bytes in
    let equal = slice_eq-Decides Decides-eqb a b c.eq.result c.eq.ensures in
    (λ holds. is.0 (equal.0 holds), λ same. equal.1 (is.1 same))
