use Rattle.std.proofs.Common.{◌≡◌, ◌+◌, ◌/◌, arith}
use Rattle.typed_building.proofs.Elements.{element_made, object_at}
use Rattle.typed_building.proofs.Outcomes.{list_made_there}
use Rattle.typed_building.proofs.list.init_list.Goals as goal

pub returns : goal.returns
returns g c =
    let place = c.pointer_place-place.result in
    let at : place.pointers_at + 0 ≡ c.args.list.byte / 8 + c.args.index = omega (arith, c.pointer_place-place.ensures.at) in
    let object = object_at c.init_list.result _ _ c.args.list c.args.index place.segment (place.pointers_at + 0) _ _ c.init_list.ensures.object c.pointer_place-place.ensures.segment at in
    record {
      object = object;
      grows = c.init_list.ensures.grows;
      there = list_made_there c.init_list.result (g.A.BuilderArena.view c.init_list.new.arena).words c.args.size c.init_list.ensures.inside c.init_list.ensures.size;
      count = c.init_list.ensures.count;
      element = element_made c.init_list.result _ _ c.args.list c.args.index _ _ object c.requires.range;
    }
