use Rattle.example_typed.proofs.first.name_of_root.Goals as goal

pub returns-in-Ok-clause-answered : goal.returns-in-Ok-clause-answered
returns-in-Ok-clause-answered g c = λ t cost there is text means covers.
    let root = c.in-Ok.ensures in
    let shows = root.value t cost means in
    c.get_name.ensures.answered t shows text (root.left t cost means covers shows 0)
