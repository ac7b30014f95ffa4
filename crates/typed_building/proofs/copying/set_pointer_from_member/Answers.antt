use Rattle.capnp_readers.specs.Readers.{read_by}
use Rattle.capnp_copies.specs.Originals.{value_original}
use Rattle.capnp_in_place.proofs.Room.PlacesStay.{grows_again}
use Rattle.typed_building.proofs.Copied.{can_written, member_read, member_refused, pointer_taken}
use Rattle.typed_building.proofs.Sets.{makes_member}
use Rattle.typed_building.proofs.Outcomes.{place_grown}
use Rattle.typed_building.proofs.copying.set_pointer_from_member.Goals as goal

pub returns : goal.returns
returns g c = record {
  copied = member_read c.set_pointer_from.result (value_original (read_by g.B.ReaderArena c.args.from)) _ _ _ _ _ c.args.place c.args.index c.set_tag.ensures.memory c.set_pointer_from.ensures.copied;
  fits = λ can. c.set_pointer_from.ensures.fits (can_written (value_original (read_by g.B.ReaderArena c.args.from)) _ _ _ _ c.set_tag.ensures.memory can);
  refused = member_refused c.set_pointer_from.result (value_original (read_by g.B.ReaderArena c.args.from)) _ _ _ _ _ c.args.place c.args.index c.set_tag.ensures.memory c.set_pointer_from.ensures.refused;
  taken = pointer_taken (read_by g.B.ReaderArena c.args.from) c.set_pointer_from.result _ _ _ _ _ c.args.place c.args.index c.set_tag.ensures.memory c.set_pointer_from.ensures.taken;
  grows = grows_again _ _ _ c.set_tag.ensures.grows c.set_pointer_from.ensures.grows;
  member = λ t shows. makes_member c.set_pointer_from.result (g.A.BuilderArena.view c.args.arena.now).words (g.A.BuilderArena.view c.set_tag.new.arena).words (g.A.BuilderArena.view c.set_pointer_from.new.arena).words c.args.place c.args.tag c.args.index _ c.set_tag.ensures.sets c.set_tag.ensures.replaces (c.set_pointer_from.ensures.child t shows);
}

pub set_pointer_from-requires : goal.set_pointer_from-requires
set_pointer_from-requires g c = record { inside = place_grown _ _ c.args.place c.set_tag.ensures.grows c.requires.inside; field = c.requires.field }
