use Rattle.std.proofs.Common.{rules, ◌+◌, IfOk, subst, arith}
use Rattle.capnp_words.specs.Sizes.{sized}
use Rattle.capnp_format.specs.Path.{tree_at}
use Rattle.capnp_format.specs.Segments.{Grows}
use Rattle.capnp_format.specs.Tree.{Tree}
use Rattle.capnp_allocation.specs.Stored.{IsStored}
use Rattle.capnp_builders.specs.Held.{HasStruct, call_in, element_of}
use Rattle.capnp_builders.specs.Opening.{OpensList}
use Rattle.capnp_builders.specs.Places.{element_place}
use Rattle.capnp_builders.proofs.HeldStructs.{child_stored}
use Rattle.typed_building.specs.Opened.{OpensChild, opened_list}
use Rattle.typed_building.specs.There.{HasStructsPlace, call_on}
use Rattle.typed_building.proofs.Opened.{child_opened, element_opened, list_fits, list_inside, list_turns}
use Rattle.typed_building.proofs.opening.get_struct_list.Goals as goal

-- The list is opened, or the call is refused.
opens : (g : _) (c : goal.After-arena-1 g) (t : Tree) → IsStored (g.A.BuilderArena.view c.args.arena.now).words c.args.place.segment (c.args.place.pointers_at + c.args.index) t → OpensList c.args.size c.get_struct_list_place.result (call_on c.args.place c.args.index (g.A.BuilderArena.view c.args.arena.now) (g.A.BuilderArena.view c.get_struct_list_place.new.self.arena.now)) t
opens g c t stored = c.get_struct_list_place.ensures.found.found t stored

pub returns-clause-opens : goal.returns-clause-opens
returns-clause-opens g c = λ t stored.
    subst (λ (a : g.row.A.Denot). OpensList c.args.size c.get_struct_list_place.result (call_on c.args.place c.args.index (g.A.BuilderArena.view c.args.arena.now) (g.A.BuilderArena.view a)) t) (search rules)
    (opens g c t stored)

pub returns-clause-fits : goal.returns-clause-fits
returns-clause-fits g c = λ fits. c.get_struct_list_place.ensures.fits (list_fits (g.A.BuilderArena.view c.args.arena.now) c.args.place.segment (c.args.place.pointers_at + c.args.index) c.args.size fits)

pub returns-clause-child : goal.returns-clause-child
returns-clause-child g c =
    subst (λ (a : g.row.A.Denot). OpensChild c.get_struct_list_place.result (call_in c.args.place (g.A.BuilderArena.view c.args.arena.now).words (g.A.BuilderArena.view a).words) c.args.index (opened_list c.args.size)) (search rules)
    (child_opened c.get_struct_list_place.result (g.A.BuilderArena.view c.args.arena.now) (g.A.BuilderArena.view c.get_struct_list_place.new.self.arena.now) c.args.place c.args.index (opened_list c.args.size) c.requires.field (λ t stored. list_turns c.get_struct_list_place.result c.args.size (call_on c.args.place c.args.index (g.A.BuilderArena.view c.args.arena.now) (g.A.BuilderArena.view c.get_struct_list_place.new.self.arena.now)) t stored (opens g c t stored)))

pub returns-clause-there : goal.returns-clause-there
returns-clause-there g c = λ x ws ts h.
    subst (λ (a : g.row.A.Denot). IfOk c.get_struct_list_place.result (HasStructsPlace (g.A.BuilderArena.view a).words c.args.size)) (search rules)
    (list_inside c.get_struct_list_place.result c.args.size (call_on c.args.place c.args.index (g.A.BuilderArena.view c.args.arena.now) (g.A.BuilderArena.view c.get_struct_list_place.new.self.arena.now)) (tree_at ts c.args.index) (omega (arith, c.requires.inside)) (child_stored (g.A.BuilderArena.view c.args.arena.now).words x c.args.place ws ts c.args.index c.requires.field h) (opens g c (tree_at ts c.args.index) (child_stored (g.A.BuilderArena.view c.args.arena.now).words x c.args.place ws ts c.args.index c.requires.field h)))

pub returns-clause-made : goal.returns-clause-made
returns-clause-made g c = λ x ws ts d q es i vs us h is less here.
    subst (λ (a : g.row.A.Denot). IfOk c.get_struct_list_place.result (λ list. HasStruct (g.A.BuilderArena.view a).words (element_of c.args.place.segment (c.args.place.pointers_at + c.args.index) (sized d q) es i) (element_place list.size list i) vs us)) (search rules)
    (element_opened c.get_struct_list_place.result c.args.size (call_on c.args.place c.args.index (g.A.BuilderArena.view c.args.arena.now) (g.A.BuilderArena.view c.get_struct_list_place.new.self.arena.now)) (tree_at ts c.args.index) d q es i vs us (omega (arith, c.requires.inside)) (child_stored (g.A.BuilderArena.view c.args.arena.now).words x c.args.place ws ts c.args.index c.requires.field h) (opens g c (tree_at ts c.args.index) (child_stored (g.A.BuilderArena.view c.args.arena.now).words x c.args.place ws ts c.args.index c.requires.field h)) is less here)

pub returns-clause-grows : goal.returns-clause-grows
returns-clause-grows g c =
    subst (λ (a : g.row.A.Denot). Grows (g.A.BuilderArena.view c.args.arena.now).words (g.A.BuilderArena.view a).words) (search rules)
    c.get_struct_list_place.ensures.grows
