use Rattle.callers.proofs.Pointers.{answered_there, exactly_there, found_there, tested_there}
use Rattle.callers.proofs.theorem.is_canonical_at.Goals as goal

pub returns-clause-exactly : goal.returns-clause-exactly
returns-clause-exactly g c =
    exactly_there c.args.head.now c.is_canonical.new.head c.args.lim.now c.is_canonical.new.lim c.is_canonical.result
    (rw (← c.from_pointer.ensures.source, ← c.from_pointer.ensures.place, ← c.from_pointer.ensures.nesting) at c.pointer_at.ensures)
    c.is_canonical.ensures.small c.is_canonical.ensures.computed

pub returns-clause-answered : goal.returns-clause-answered
returns-clause-answered g c = λ t stands inside deep cheap.
    answered_there c.args.head.now c.is_canonical.new.head c.args.lim.now c.is_canonical.new.lim c.is_canonical.result
    (rw (← c.from_pointer.ensures.source, ← c.from_pointer.ensures.place, ← c.from_pointer.ensures.nesting) at c.pointer_at.ensures)
    (t, stands, inside, deep, cheap) c.is_canonical.ensures.computed

pub returns-clause-found : goal.returns-clause-found
returns-clause-found g c =
    found_there c.args.head.now c.is_canonical.new.head c.args.lim.now c.is_canonical.new.lim c.is_canonical.result
    (rw (← c.from_pointer.ensures.source, ← c.from_pointer.ensures.place, ← c.from_pointer.ensures.nesting) at c.pointer_at.ensures)
    c.is_canonical.ensures.small c.is_canonical.ensures.computed

pub returns-clause-computed : goal.returns-clause-computed
returns-clause-computed g c =
    tested_there c.args.head.now c.is_canonical.new.head c.args.lim.now c.is_canonical.new.lim c.is_canonical.result
    (rw (← c.from_pointer.ensures.source, ← c.from_pointer.ensures.place, ← c.from_pointer.ensures.nesting) at c.pointer_at.ensures)
    c.is_canonical.ensures.computed
