use Rattle.std.proofs.Common.{rules, subst}
use Rattle.capnp_readers.specs.Readers.{read_by}
use Rattle.capnp_copies.specs.Originals.{value_original}
use Rattle.capnp_builders.specs.Held.{MakesChild, call_in}
use Rattle.typed_building.proofs.Copied.{child_copied, pointer_read}
use Rattle.typed_building.proofs.copying.set_pointer_from.Goals as goal

pub returns-clause-child : goal.returns-clause-child
returns-clause-child g c = λ t shows.
    subst (λ (a : g.row.A.Denot). MakesChild c.copy_from.result (call_in c.args.place (g.A.BuilderArena.view c.args.arena.now).words (g.A.BuilderArena.view a).words) c.args.index t) (search rules)
    (child_copied c.copy_from.result (value_original (read_by g.B.ReaderArena c.args.from)) (g.A.BuilderArena.view c.args.arena.now) (g.A.BuilderArena.view c.copy_from.new.self.arena.now) _ _ c.args.place c.args.index t c.requires.field (λ v read. pointer_read g.B.ReaderArena c.args.from t v _ _ shows read) c.copy_from.ensures.copied c.copy_from.ensures.refused)
