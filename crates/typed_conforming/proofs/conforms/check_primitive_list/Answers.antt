use Rattle.std.proofs.Common.{sym, rules}
use Rattle.std.proofs.lemmas.Int.{to_z-of_z}
use mir.Syntax.{w32}
use Rattle.capnp_pointers.specs.declared.object.Purpose.TheVariants.{Value}
use Rattle.capnp_pointers.specs.Objects.{EntersNear}
use Rattle.capnp_pointers.specs.Reading.{Reading}
use Rattle.capnp_pointers.specs.Pointers.{reading_on}
use Rattle.typed_conforming.proofs.Steps.{flat_at_hand, flat_ends, flat_unfit, not_read}
use Rattle.typed_conforming.proofs.conforms.check_primitive_list.Goals as goal

pub returns-in-Err : goal.returns-in-Err
returns-in-Err g c =
    let r : Reading = reading_on g.A.ReaderArena c.args.from.now c.args.at c.args.from.now.nesting_limit in
    let nl = to_z-of_z w32 c.args.from.now.nesting_limit (search rules) in
    λ T. rw c.misfit_of-walk.ensures (not_read T c.args.pointer r _ _ _ (rw nl at c.in-Err.ensures.refused))

pub misfit_error-requires : goal.misfit_error-requires
misfit_error-requires g c =
    let r : Reading = reading_on g.A.ReaderArena c.args.from.now c.args.at c.args.from.now.nesting_limit in
    let nl = to_z-of_z w32 c.args.from.now.nesting_limit (search rules) in
    let entered : EntersNear Value r c.args.walk.now.lim c.read_near_primitive_list.new.lim c.in-Ok.first = rw nl at c.in-Ok.ensures.object in
    flat_at_hand c.args.from.now.place.bytes.now _ _ c.requires.word c.requires.is_list c.requires.of_bits.1 entered c.requires.of_size c.list_element_count-count.ensures.value c.args.from.now.held.1

pub returns-in-Some : goal.returns-in-Some
returns-in-Some g c =
    let r : Reading = reading_on g.A.ReaderArena c.args.from.now c.args.at c.args.from.now.nesting_limit in
    let nl = to_z-of_z w32 c.args.from.now.nesting_limit (search rules) in
    let entered : EntersNear Value r c.args.walk.now.lim c.read_near_primitive_list.new.lim c.in-Ok.first = rw nl at c.in-Ok.ensures.object in
    λ T. rw c.misfit_of-walk-in-Some.ensures (flat_unfit T c.args.pointer c.in-Some.error _ _ c.requires.word c.requires.is_list c.requires.of_bits.1 entered c.requires.of_size c.list_element_count-count.ensures.value (sym (c.in-Some.ensures r.segments c.args.from.now.held)))

pub returns-in-None : goal.returns-in-None
returns-in-None g c =
    let r : Reading = reading_on g.A.ReaderArena c.args.from.now c.args.at c.args.from.now.nesting_limit in
    let nl = to_z-of_z w32 c.args.from.now.nesting_limit (search rules) in
    let entered : EntersNear Value r c.args.walk.now.lim c.read_near_primitive_list.new.lim c.in-Ok.first = rw nl at c.in-Ok.ensures.object in
    λ T. flat_ends T c.args.pointer _ _ c.requires.word c.requires.is_list c.requires.of_bits.1 entered c.requires.of_size c.list_element_count-count.ensures.value (sym (c.in-None.ensures r.segments c.args.from.now.held))
