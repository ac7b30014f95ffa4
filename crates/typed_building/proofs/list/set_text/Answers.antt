use Rattle.std.proofs.Common.{◌≡◌, ◌+◌, ◌/◌, arith}
use Rattle.typed_building.proofs.Elements.{element_made, object_at}
use Rattle.typed_building.proofs.list.set_text.Goals as goal

pub returns : goal.returns
returns g c =
    let place = c.pointer_place-place.result in
    let at : place.pointers_at + 0 ≡ c.args.list.byte / 8 + c.args.index = omega (arith, c.pointer_place-place.ensures.at) in
    let object = object_at c.set_text.result _ _ c.args.list c.args.index place.segment (place.pointers_at + 0) _ _ c.set_text.ensures.object c.pointer_place-place.ensures.segment at in
    record {
      object = object;
      grows = c.set_text.ensures.grows;
      element = element_made c.set_text.result _ _ c.args.list c.args.index _ _ object c.requires.range;
    }
