use Rattle.std.proofs.Common.{rules}
use Rattle.std.proofs.lemmas.List.{length-map}
use Rattle.example_canonical.proofs.canonicalize.Goals as goal

-- The copy is the whole message, which had one word and still has one segment.
pub returns : goal.returns
returns c =
    let whole = c.in_ok-copy_from.ensures.alone (search rules) in
    let words = whole.2 (search (rules, length-map)) in
    (whole.0, whole.1.cost, search rules, search rules)
