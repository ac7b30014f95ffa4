use Rattle.std.proofs.Common.{rules, subst, IfOk}
use Rattle.capnp_format.specs.Canonical.{trim}
use Rattle.capnp_readers.specs.Readers.{read_by}
use Rattle.capnp_pointers.specs.Wanted.{canonical}
use Rattle.capnp_copies.specs.Changes.{copy_call}
use Rattle.capnp_builders.specs.Held.{MakesChild, call_in}
use Rattle.capnp_builders.specs.Kept.{FillsMessage}
use Rattle.typed_building.specs.There.{call_on}
use Rattle.capnp_layout_c.proofs.BuildingCopies.{trimmed_child}
use Rattle.capnp_layout_c.proofs.building.copies.set_canonically.Goals as goal

pub returns-clause-child : goal.returns-clause-child
returns-clause-child g c = λ t shows.
    subst (λ (a : g.row.A.Denot). MakesChild c.copy_from.result (call_in c.args.place (g.A.BuilderArena.view c.args.arena.now).words (g.A.BuilderArena.view a).words) c.args.index (trim t)) (search rules)
    (trimmed_child c.copy_from.result (read_by g.B.ReaderArena c.args.from) (g.A.BuilderArena.view c.args.arena.now) (g.A.BuilderArena.view c.copy_from.new.self.arena.now) _ _ c.args.place c.args.index t c.requires.field shows c.copy_from.ensures.copied c.copy_from.ensures.refused)

pub returns-clause-alone : goal.returns-clause-alone
returns-clause-alone g c = λ fresh.
    subst (λ (a : g.row.A.Denot). IfOk c.copy_from.result (λ _. FillsMessage (read_by g.B.ReaderArena c.args.from) (copy_call canonical (call_on c.args.place c.args.index (g.A.BuilderArena.view c.args.arena.now) (g.A.BuilderArena.view a)) c.args.lim.now c.copy_from.new.lim))) (search rules)
    (c.copy_from.ensures.alone fresh)
