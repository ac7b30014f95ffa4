use Rattle.std.proofs.Common.{◌+◌}
use Rattle.capnp_format.specs.Forest.{target}
use Rattle.capnp_format.specs.Path.{tree_at}
use Rattle.capnp_builders.proofs.HeldStructs.{child_stored}
use Rattle.typed_building.proofs.Opened.{list_found, list_there, none_found}
use Rattle.typed_building.proofs.opening.get_list.Goals as goal

pub returns : goal.returns
returns g c = record {
  found = c.get_list.ensures.found;
  there = λ x ws ts h same.
      (let stored = (child_stored (g.A.BuilderArena.view c.args.arena.now).words x c.args.place ws ts c.args.index c.requires.field h) in
      list_there (g.A.BuilderArena.view c.args.arena.now).words c.args.place.segment (c.args.place.pointers_at + c.args.index) c.args.size (tree_at ts c.args.index) c.get_list.result c.requires.plain (c.get_list.ensures.found (tree_at ts c.args.index) stored) same (c.get_list.ensures.inside (tree_at ts c.args.index) stored));
  made = λ x ws ts h same.
      (let stored = (child_stored (g.A.BuilderArena.view c.args.arena.now).words x c.args.place ws ts c.args.index c.requires.field h) in
      list_found (g.A.BuilderArena.view c.args.arena.now).words c.args.place.segment (c.args.place.pointers_at + c.args.index) c.args.size (tree_at ts c.args.index) c.get_list.result c.requires.plain stored (c.get_list.ensures.found (tree_at ts c.args.index) stored) same);
  empty = λ x ws ts h null.
      none_found c.args.place.segment (target (g.A.BuilderArena.view c.args.arena.now).words c.args.place.segment (c.args.place.pointers_at + c.args.index)) c.args.size (tree_at ts c.args.index) c.get_list.result (c.get_list.ensures.found (tree_at ts c.args.index) (child_stored (g.A.BuilderArena.view c.args.arena.now).words x c.args.place ws ts c.args.index c.requires.field h)) null;
}
