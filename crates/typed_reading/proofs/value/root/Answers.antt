use Rattle.capnp_pointers.specs.Reading.{source_start}
use Rattle.capnp_pointers.specs.declared.source.Source.TheVariants.{Arena}
use Rattle.std.proofs.Common.{refl, ◌∙◌}
use Rattle.capnp_readers.specs.Readers.{read_by}
use Rattle.typed_reading.specs.Outcomes.{root_place}
use Rattle.typed_reading.proofs.Left.{stays_itself, struct_left}
use Rattle.typed_reading.proofs.Outcomes.{root_granted, root_read, root_refused, struct_outcome}
use Rattle.typed_reading.proofs.Sections.{sections_if}
use Rattle.typed_reading.proofs.Root.{root_affords, stays_in_source}
use Rattle.typed_reading.proofs.value.root.Goals as goal

pub get_struct-requires : goal.get_struct-requires
get_struct-requires g c = record { small = tt }

pub returns-in-Err : goal.returns-in-Err
returns-in-Err g c = record {
  value = λ t k means. tt;
  answered = λ t k there is means covers. c.in-Err.ensures.exactly.1 (there, (root_affords (g.A.ReaderArena.charging c.args.arena.now) c.args.lim.now k covers).0);
  spent = λ t k other means. tt;
  stays = tt;
  left = λ t k means covers. tt;
  sections = λ t leads. tt;
  exactly = root_refused g.A.ReaderArena c.args.arena c.args.lim.now c.get_root_from_arena.new.lim c.in-Err.kind (λ there covered. let yes = c.in-Err.ensures.exactly.1 (there, covered) in absurd (cc yes)) c.in-Err.ensures.refused c.in-Err.ensures.outside c.in-Err.ensures.budget;
}

pub returns-in-Ok : goal.returns-in-Ok
returns-in-Ok g c =
    let root = c.in-Ok.ensures in
    let read = c.get_struct.ensures in
    let source = Arena c.args.arena in
    let place = root_read g.A.ReaderArena c.args.arena c.in-Ok.root root.source root.place root.nesting in
    let here = root_place g.A.ReaderArena c.args.arena in
    let m = c.get_root_from_arena.new.lim in
    record {
      value = λ t k means. read.value t (root.value t k means);
      answered = λ t k there is means covers. read.answered t k tt is (rw (root.source, root.place.0, root.place.1, root.nesting) means) (rw (root.source, root.granted) (root_affords (g.A.ReaderArena.charging c.args.arena.now) c.args.lim.now k covers).1);
      spent = λ t k other means. rw (root.source, root.granted) at (read.spent t k other (rw (root.source, root.place.0, root.place.1, root.nesting) means));
      left = λ t k means covers.
          let from = read_by g.A.ReaderArena c.in-Ok.root in
          let rest = (root_affords (g.A.ReaderArena.charging c.args.arena.now) c.args.lim.now k covers).1 in
          struct_left g.A.ReaderArena c.in-Ok.root m c.get_struct.new.lim c.get_struct.result read.read (read.stays from (stays_itself from)) t k (rw (root.source, root.place.0, root.place.1, root.nesting) means) (rw (root.source, root.granted) rest);
      sections = sections_if g.A.ReaderArena c.in-Ok.root here place m c.get_struct.new.lim c.get_struct.result read.read;
      exactly = root_granted g.A.ReaderArena c.args.arena c.args.lim.now (root.exactly.0 refl).0 (root.exactly.0 refl).1
          ∙ rw root.granted at (struct_outcome g.A.ReaderArena c.in-Ok.root here place m c.get_struct.new.lim c.get_struct.result read.exactly read.read read.refused);
      stays = read.stays (source_start g.A.ReaderArena source) (stays_in_source g.A.ReaderArena c.in-Ok.root source root.source);
    }
