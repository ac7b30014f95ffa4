use Rattle.std.proofs.Common.{◌+◌, ◌≤◌, length, ap, sym, ◌∙◌, subst, arith}
use Rattle.capnp_pointers.specs.Reading.{Reading, place_past, segment_read}
use Rattle.capnp_pointers.specs.Pointers.{reading}
use Rattle.capnp_messages.proofs.messages.pointer_run.PointerRun.from_element.Goals as goal

pub invariant_of-result : goal.invariant_of-result
invariant_of-result g c =
    let element = c.args.element in
    let r : Reading = reading g.A.ReaderArena element.first in
    let first = c.past.ensures (omega (arith, c.from.ensures, element.there.inside, element.first.held.1, element.first.held.2)) in
    let room : r.at + c.from.result + c.from-2.result ≤ length (segment_read r) = omega (arith, c.from.ensures, c.from-2.ensures, element.there.inside) in
    record { inside = subst (λ (z : Reading). z.at + c.from-2.result ≤ length (segment_read z)) (sym first) room }

pub returns-clause-first : goal.returns-clause-first
returns-clause-first g c =
    let element = c.args.element in
    c.past.ensures (omega (arith, c.from.ensures, element.there.inside, element.first.held.1, element.first.held.2)) ∙ ap (place_past (reading g.A.ReaderArena element.first)) c.from.ensures
