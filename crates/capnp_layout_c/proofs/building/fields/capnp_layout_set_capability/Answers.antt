use Rattle.std.proofs.Common.{refl, rules, ◌∙◌}
use Rattle.capnp_format.specs.Tree.{Capability}
use Rattle.capnp_layout_c.proofs.BuildingCalls.{Tie, place_there, put_in, used_kept}
use Rattle.capnp_layout_c.proofs.building.fields.capnp_layout_set_capability.Goals as goal

pub set_capability-requires-clause-inside : goal.set_capability-requires-clause-inside
set_capability-requires-clause-inside c =
    place_there c.new-arena.result c.args.used c.args.place c.place.result c.new-arena.ensures.used
    (c.has_pointer.ensures.0 (search rules)).0.1 c.place.ensures

pub returns-clause-sets : goal.returns-clause-sets
returns-clause-sets c _ =
    let a = c.new-arena.result in
    let b = c.set_capability.new.arena in
    let memory = c.set_capability.ensures.memory in
    let tie : Tie a b c.args.bytes.now _ c.args.used c.args.used = record {
      lent = _;
      is = c.new-arena.ensures.bytes;
      was = refl;
      from_is = c.new-arena.ensures.used;
      fresh = c.new-arena.ensures.refused;
      used_is = used_kept a b memory ∙ c.new-arena.ensures.used;
      back = c.bytes-1.given.1.1;
    } in
    let e = c.set_capability.ensures in
    put_in tie c.place.result c.args.place c.args.index (Capability c.args.capability) c.place.ensures memory e.sets e.replaces e.grows
