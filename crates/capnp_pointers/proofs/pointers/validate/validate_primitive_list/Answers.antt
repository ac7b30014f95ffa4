use Rattle.std.proofs.Common.{◌≡◌, ap₂, ◌∙◌}
use Rattle.std.proofs.lemmas.Int.{to_z-of_z}
use mir.Syntax.{w32}
use Rattle.capnp_format.specs.Numbers.{words_for}
use Rattle.capnp_format.specs.Word.{element_size, list_count}
use Rattle.capnp_pointers.specs.declared.object.Purpose.TheVariants.{Value}
use Rattle.capnp_pointers.specs.Objects.{EntersNear}
use Rattle.capnp_pointers.specs.Reading.{Reading}
use Rattle.capnp_pointers.specs.Pointers.{reading_on}
use Rattle.capnp_pointers.proofs.CanonicalTest.ResultFromParts.{inner_levels}
use Rattle.capnp_pointers.proofs.Validation.ValidatedBySteps.{flat_ends, unread}
use Rattle.capnp_pointers.proofs.pointers.validate.validate_primitive_list.Goals as goal

pub returns-in-Err : goal.returns-in-Err
returns-in-Err g c =
    let nl = to_z-of_z w32 c.args.nesting_limit c.ranges.nesting_limit in
    unread c.args.walk.now.tally (rw nl at c.in-Err.ensures.refused)

pub returns-in-Ok : goal.returns-in-Ok
returns-in-Ok g c =
    let r : Reading = reading_on g.A.ReaderArena c.args.from.now c.args.at c.args.nesting_limit in
    let nl = to_z-of_z w32 c.args.nesting_limit c.ranges.nesting_limit in
    let entered : EntersNear Value r c.args.walk.now.lim c.read_near_primitive_list.new.lim c.in-Ok.field-0 = rw nl at c.in-Ok.ensures.object in
    let words : c.words_for_elements-words.result ≡ words_for (element_size c.args.word.0) (list_count c.args.word.0) = c.words_for_elements-words.ensures ∙ ap₂ words_for c.list_element_size.ensures c.list_element_count.ensures.value in
    let inner = inner_levels c.args.nesting_limit c.one_level_less.result c.ranges.nesting_limit (record { sfits = c.one_level_less.type_inv }) c.one_level_less.ensures in
    flat_ends c.args.walk.now.tally c.add_words.new.self _ _ c.requires.word c.requires.is_list c.requires.of_bits.1 entered words (c.levels_left.ensures ∙ inner) c.add_words.ensures
