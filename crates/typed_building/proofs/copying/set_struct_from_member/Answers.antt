use Rattle.capnp_builders.specs.StructValues.{struct_read}
use Rattle.capnp_in_place.proofs.Room.PlacesStay.{grows_again}
use Rattle.typed_building.proofs.Copied.{can_written, member_read, member_refused, struct_taken}
use Rattle.typed_building.proofs.Sets.{makes_member}
use Rattle.typed_building.proofs.Outcomes.{place_grown}
use Rattle.typed_building.proofs.copying.set_struct_from_member.Goals as goal

pub returns : goal.returns
returns g c = record {
  copied = member_read c.set_struct_from.result (struct_read g.B.ReaderArena c.args.from.now) _ _ _ _ _ c.args.place c.args.index c.set_tag.ensures.memory c.set_struct_from.ensures.copied;
  fits = λ can. c.set_struct_from.ensures.fits (can_written (struct_read g.B.ReaderArena c.args.from.now) _ _ _ _ c.set_tag.ensures.memory can);
  refused = member_refused c.set_struct_from.result (struct_read g.B.ReaderArena c.args.from.now) _ _ _ _ _ c.args.place c.args.index c.set_tag.ensures.memory c.set_struct_from.ensures.refused;
  taken = struct_taken g.B.ReaderArena c.args.from.now c.set_struct_from.result _ _ _ _ _ c.args.place c.args.index c.set_tag.ensures.memory c.set_struct_from.ensures.taken;
  wide = c.set_struct_from.ensures.wide;
  grows = grows_again _ _ _ c.set_tag.ensures.grows c.set_struct_from.ensures.grows;
  member = λ t shows. makes_member c.set_struct_from.result (g.A.BuilderArena.view c.args.arena.now).words (g.A.BuilderArena.view c.set_tag.new.arena).words (g.A.BuilderArena.view c.set_struct_from.new.arena).words c.args.place c.args.tag c.args.index _ c.set_tag.ensures.sets c.set_tag.ensures.replaces (c.set_struct_from.ensures.child t shows);
}

pub set_struct_from-requires : goal.set_struct_from-requires
set_struct_from-requires g c = record { inside = place_grown _ _ c.args.place c.set_tag.ensures.grows c.requires.inside; field = c.requires.field }
