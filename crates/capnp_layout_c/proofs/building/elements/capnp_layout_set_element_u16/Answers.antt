use Rattle.std.proofs.Common.{arith, refl, rules, ◌∙◌}
use Rattle.capnp_words.specs.declared.wire_pointer.ElementSize.TheVariants.{TwoBytes}
use Rattle.capnp_layout_c.proofs.BuildingCalls.{Tie, element_written, elements_there, used_kept}
use Rattle.capnp_layout_c.proofs.building.elements.capnp_layout_set_element_u16.Goals as goal

pub set_element-requires-clause-inside : goal.set_element-requires-clause-inside
set_element-requires-clause-inside c =
    elements_there c.new-arena.result c.args.used TwoBytes c.args.list c.list_place-elements.result c.new-arena.ensures.used
    (omega (arith, (c.has_element.ensures.0 (search rules)).1, c.from.ensures)) c.list_place-elements.ensures

pub returns-clause-sets : goal.returns-clause-sets
returns-clause-sets c _ =
    let a = c.new-arena.result in
    let b = c.set_element.new.arena in
    let memory = c.set_element.ensures.memory in
    let tie : Tie a b c.args.bytes.now _ c.args.used c.args.used = record {
      lent = _;
      is = c.new-arena.ensures.bytes;
      was = refl;
      from_is = c.new-arena.ensures.used;
      fresh = c.new-arena.ensures.refused;
      used_is = used_kept a b memory ∙ c.new-arena.ensures.used;
      back = c.bytes-1.given.1.1;
    } in
    let e = c.set_element.ensures in
    element_written tie TwoBytes c.args.list c.list_place-elements.result c.args.index c.args.value c.list_place-elements.ensures memory e.sets e.sets_child e.grows
