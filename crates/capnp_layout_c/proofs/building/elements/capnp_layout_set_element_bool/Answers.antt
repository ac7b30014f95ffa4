use Rattle.std.proofs.Common.{ap, arith, cond, refl, rules, ◌∙◌}
use Rattle.capnp_readers.specs.declared.readers.list_reader.ListPlace.{ListPlace}
use Rattle.capnp_words.specs.declared.wire_pointer.ElementSize.TheVariants.{Bit}
use Rattle.capnp_layout_c.proofs.BuildingCalls.{Tie, element_written, elements_there, used_kept}
use Rattle.capnp_layout_c.proofs.building.elements.capnp_layout_set_element_bool.Goals as goal

pub set_bool-requires-clause-there : goal.set_bool-requires-clause-there
set_bool-requires-clause-there c = record {
  inside =
      elements_there c.new-arena.result c.args.used Bit c.args.list c.list_place-elements.result c.new-arena.ensures.used
      (omega (arith, (c.has_element.ensures.0 (search rules)).1, c.from.ensures)) c.list_place-elements.ensures;
  is_size = ap (λ (l : ListPlace). l.size) c.list_place-elements.ensures;
}

pub returns-clause-sets : goal.returns-clause-sets
returns-clause-sets c _ =
    let a = c.new-arena.result in
    let b = c.set_bool.new.arena in
    let memory = c.set_bool.ensures.memory in
    let tie : Tie a b c.args.bytes.now _ c.args.used c.args.used = record {
      lent = _;
      is = c.new-arena.ensures.bytes;
      was = refl;
      from_is = c.new-arena.ensures.used;
      fresh = c.new-arena.ensures.refused;
      used_is = used_kept a b memory ∙ c.new-arena.ensures.used;
      back = c.bytes-1.given.1.1;
    } in
    let e = c.set_bool.ensures in
    element_written tie Bit c.args.list c.list_place-elements.result c.args.index (cond c.args.value 1 0) c.list_place-elements.ensures memory e.sets e.sets_child e.grows
