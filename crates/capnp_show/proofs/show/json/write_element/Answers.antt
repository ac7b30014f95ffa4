use Rattle.std.proofs.Common.{refl, ap}
use Rattle.std.specs.Prelude.{codes}
use Rattle.capnp_pointers.specs.Reading.{Reading}
use Rattle.capnp_pointers.specs.Pointers.{reading}
use Rattle.capnp_show.specs.Shown.{add, array_within, show_struct, shown_json}
use Rattle.capnp_show.proofs.Grows.{struct_longer, within_longer}
use Rattle.capnp_show.proofs.Steps.{push_shows, push_stops, shows_after, shows_as}
use Rattle.capnp_show.proofs.show.json.write_element.Goals as goal

pub returns-in_err-push : goal.returns-in_err-push
returns-in_err-push g c =
    let r : Reading = reading g.A.ReaderArena c.args.element.first in
    λ plain.
    push_stops c.args.json.now _ _ _ c.from_residual.ensures.1 c.in_err-push.ensures
    (struct_longer (array_within c.args.depth) (within_longer c.args.depth) c.args.element.size.data_words c.args.element.size.pointers r (add (codes "{") (shown_json c.args.json.now)))

pub returns-in_err-write_start : goal.returns-in_err-write_start
returns-in_err-write_start g c =
    λ plain.
    let begun = push_shows c.args.json.now c.push.new.self plain c.in_ok-push.ensures in
    absurd (cc ((c.in_err-write_start.ensures begun.plain).0))

pub write_sections-requires : goal.write_sections-requires
write_sections-requires g c = record { inside = c.args.element.there.inside }

pub returns : goal.returns
returns g c =
    let r : Reading = reading g.A.ReaderArena c.args.element.first in
    let f = show_struct (array_within c.args.depth) c.args.element.size.data_words c.args.element.size.pointers in
    λ plain.
    let begun = push_shows c.args.json.now c.push.new.self plain c.in_ok-push.ensures in
    let same = (c.in_ok-write_start.ensures begun.plain).1 in
    shows_as (ap (f r) begun.written) (shows_after f r r (record c.args.json.now { text = c.push.new.self }) c.write_start.new.self refl same begun.plain c.write_sections.ensures)
