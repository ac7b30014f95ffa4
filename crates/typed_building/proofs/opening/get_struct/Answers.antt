use Rattle.std.proofs.Common.{rules, ◌+◌, IfOk, subst, arith}
use Rattle.capnp_format.specs.Path.{tree_at}
use Rattle.capnp_format.specs.Segments.{Grows}
use Rattle.capnp_format.specs.Tree.{Tree}
use Rattle.capnp_allocation.specs.Stored.{IsStored}
use Rattle.capnp_in_place.specs.Opening.{OpensStruct, struct_opened}
use Rattle.capnp_readers.specs.Values.{struct_children, struct_data}
use Rattle.capnp_builders.specs.Held.{HasStruct, call_in, pointer_to}
use Rattle.capnp_builders.specs.Opening.{IsStructGiven}
use Rattle.capnp_builders.proofs.HeldStructs.{child_stored}
use Rattle.typed_building.specs.Opened.{OpensChild, opened_struct}
use Rattle.typed_building.specs.There.{HasStructPlace, call_on}
use Rattle.typed_building.proofs.Opened.{child_opened, opened_turns, struct_fits, struct_inside, struct_made}
use Rattle.typed_building.proofs.opening.get_struct.Goals as goal

-- The struct is opened, or the call is refused.
opens : (g : _) (c : goal.After-arena-1 g) (t : Tree) → IsStored (g.A.BuilderArena.view c.args.arena.now).words c.args.place.segment (c.args.place.pointers_at + c.args.index) t → OpensStruct IsStructGiven c.args.size c.get_struct_place.result (call_on c.args.place c.args.index (g.A.BuilderArena.view c.args.arena.now) (g.A.BuilderArena.view c.get_struct_place.new.self.arena.now)) t
opens g c t stored = c.get_struct_place.ensures.found.found t stored

pub returns-clause-opens : goal.returns-clause-opens
returns-clause-opens g c = λ t stored.
    subst (λ (a : g.row.A.Denot). OpensStruct IsStructGiven c.args.size c.get_struct_place.result (call_on c.args.place c.args.index (g.A.BuilderArena.view c.args.arena.now) (g.A.BuilderArena.view a)) t) (search rules)
    (opens g c t stored)

pub returns-clause-fits : goal.returns-clause-fits
returns-clause-fits g c = λ fits. c.get_struct_place.ensures.fits (struct_fits (g.A.BuilderArena.view c.args.arena.now) c.args.place.segment (c.args.place.pointers_at + c.args.index) c.args.size (omega (arith, c.requires.inside, c.requires.field)) fits)

pub returns-clause-child : goal.returns-clause-child
returns-clause-child g c =
    subst (λ (a : g.row.A.Denot). OpensChild c.get_struct_place.result (call_in c.args.place (g.A.BuilderArena.view c.args.arena.now).words (g.A.BuilderArena.view a).words) c.args.index (opened_struct c.args.size)) (search rules)
    (child_opened c.get_struct_place.result (g.A.BuilderArena.view c.args.arena.now) (g.A.BuilderArena.view c.get_struct_place.new.self.arena.now) c.args.place c.args.index (opened_struct c.args.size) c.requires.field (λ t stored. opened_turns c.args.size IsStructGiven (call_on c.args.place c.args.index (g.A.BuilderArena.view c.args.arena.now) (g.A.BuilderArena.view c.get_struct_place.new.self.arena.now)) t (struct_opened c.args.size t) c.get_struct_place.result stored (opens g c t stored)))

pub returns-clause-there : goal.returns-clause-there
returns-clause-there g c = λ x ws ts h.
    subst (λ (a : g.row.A.Denot). IfOk c.get_struct_place.result (HasStructPlace (g.A.BuilderArena.view a).words c.args.size)) (search rules)
    (struct_inside c.get_struct_place.result c.args.size (call_on c.args.place c.args.index (g.A.BuilderArena.view c.args.arena.now) (g.A.BuilderArena.view c.get_struct_place.new.self.arena.now)) (tree_at ts c.args.index) (opens g c (tree_at ts c.args.index) (child_stored (g.A.BuilderArena.view c.args.arena.now).words x c.args.place ws ts c.args.index c.requires.field h)) c.get_struct_place.ensures.aligned c.get_struct_place.ensures.wide)

pub returns-clause-made : goal.returns-clause-made
returns-clause-made g c = λ x ws ts h.
    subst (λ (a : g.row.A.Denot). IfOk c.get_struct_place.result (λ inner. HasStruct (g.A.BuilderArena.view a).words (pointer_to c.args.place.segment (c.args.place.pointers_at + c.args.index)) inner (struct_data (opened_struct c.args.size (tree_at ts c.args.index))) (struct_children (opened_struct c.args.size (tree_at ts c.args.index))))) (search rules)
    (struct_made c.get_struct_place.result c.args.size (call_on c.args.place c.args.index (g.A.BuilderArena.view c.args.arena.now) (g.A.BuilderArena.view c.get_struct_place.new.self.arena.now)) (tree_at ts c.args.index) (opens g c (tree_at ts c.args.index) (child_stored (g.A.BuilderArena.view c.args.arena.now).words x c.args.place ws ts c.args.index c.requires.field h)))

pub returns-clause-grows : goal.returns-clause-grows
returns-clause-grows g c =
    subst (λ (a : g.row.A.Denot). Grows (g.A.BuilderArena.view c.args.arena.now).words (g.A.BuilderArena.view a).words) (search rules)
    c.get_struct_place.ensures.grows
