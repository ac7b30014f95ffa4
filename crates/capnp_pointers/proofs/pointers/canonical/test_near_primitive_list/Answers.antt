use Rattle.std.proofs.Common.{ap, ◌∙◌, sym}
use Rattle.std.proofs.lemmas.Int.{to_z-of_z}
use mir.Syntax.{w32}
use Rattle.capnp_pointers.specs.Reading.{Reading}
use Rattle.capnp_pointers.specs.Pointers.{reading_on}
use Rattle.capnp_pointers.proofs.CanonicalTest.TestedBySteps.{flat_elsewhere, flat_ends, flat_is, flat_there, refused_here, stopped}
use Rattle.capnp_pointers.proofs.pointers.canonical.test_near_primitive_list.Goals as goal

pub returns-in-Err : goal.returns-in-Err
returns-in-Err g c =
    let r : Reading = reading_on g.A.ReaderArena c.args.from.now c.args.at c.args.nesting_limit in
    let nl = to_z-of_z w32 c.args.nesting_limit c.ranges.nesting_limit in
    refused_here {r = r} c.args.head c.requires.tested (rw nl at c.in-Err.ensures.refused) c.stop_with_refusal.ensures

pub returns-then-start-head : goal.returns-then-start-head
returns-then-start-head g c =
    let r : Reading = reading_on g.A.ReaderArena c.args.from.now c.args.at c.args.nesting_limit in
    let nl = to_z-of_z w32 c.args.nesting_limit c.ranges.nesting_limit in
    flat_is {r = r} c.args.head c.requires.tested c.requires.is_list c.requires.of_bits.1 (rw nl at c.in-Ok.ensures.object) c.list_element_size-size.ensures c.list_element_count-count.ensures.value
    ∙ flat_elsewhere r r.segment c.in-Ok.start _ _ c.args.head c.read_near_primitive_list.new.lim c.if-start-head.true
    ∙ ap (λ a. stopped a c.read_near_primitive_list.new.lim) (sym c.stop_with_fault.ensures)

pub returns : goal.returns
returns g c =
    let r : Reading = reading_on g.A.ReaderArena c.args.from.now c.args.at c.args.nesting_limit in
    let nl = to_z-of_z w32 c.args.nesting_limit c.ranges.nesting_limit in
    let size = c.list_element_size-size.result in
    let count = c.list_element_count-count.result in
    flat_is {r = r} c.args.head c.requires.tested c.requires.is_list c.requires.of_bits.1 (rw nl at c.in-Ok.ensures.object) c.list_element_size-size.ensures c.list_element_count-count.ensures.value
    ∙ flat_there r r.segment c.in-Ok.start _ _ c.args.head c.read_near_primitive_list.new.lim c.if-start-head.false
    ∙ flat_ends c.test_primitive_list.result (record r { at = c.in-Ok.start }) c.test_primitive_list.new.answer c.read_near_primitive_list.new.lim _ size count c.args.from.now.held.0 c.test_primitive_list.ensures.tells c.test_primitive_list.ensures.never c.test_primitive_list.ensures.failed
