use Rattle.std.proofs.Common.{rules, subst}
use Rattle.capnp_builders.specs.StructValues.{struct_read}
use Rattle.capnp_builders.specs.Held.{MakesChild, call_in}
use Rattle.typed_building.specs.Copied.{copied_struct}
use Rattle.typed_building.proofs.Copied.{child_copied, struct_shown}
use Rattle.typed_building.proofs.copying.set_struct_from.Goals as goal

pub returns-clause-child : goal.returns-clause-child
returns-clause-child g c = λ t shows.
    subst (λ (a : g.row.A.Denot). MakesChild c.set_struct.result (call_in c.args.place (g.A.BuilderArena.view c.args.arena.now).words (g.A.BuilderArena.view a).words) c.args.index (copied_struct t)) (search rules)
    (child_copied c.set_struct.result (struct_read g.B.ReaderArena c.args.from.now) (g.A.BuilderArena.view c.args.arena.now) (g.A.BuilderArena.view c.set_struct.new.self.arena.now) _ _ c.args.place c.args.index (copied_struct t) c.requires.field (λ v read. struct_shown g.B.ReaderArena c.args.from.now t v _ _ shows read) c.set_struct.ensures.copied c.set_struct.ensures.refused)
