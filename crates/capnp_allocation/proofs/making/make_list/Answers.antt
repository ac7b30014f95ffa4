use Rattle.capnp_format.specs.Segments.{Segments}
use Rattle.capnp_words.specs.Sizes.{size_number}
use Rattle.capnp_allocation.proofs.PlacedLists.{list_made}
use Rattle.capnp_allocation.proofs.Outcomes.{on_ok_so}
use Rattle.capnp_allocation.proofs.making.make_list.Goals as goal

pub returns-clause-made : goal.returns-clause-made
returns-clause-made g c =
    let S : Segments = (g.A.BuilderArena.view c.args.arena.now).words in
    let R : Segments = (g.A.BuilderArena.view c.make_object.new.arena).words in
    on_ok_so c.make_object.result _ _ c.make_object.ensures.made (λ h made.
    (let (a, m, shape, is_segment, is_start) = made in list_made S R c.args.id c.args.at (size_number c.args.size) c.args.count a c.requires.place c.requires.plain (rw c.words_of_list-words.ensures.value at m) shape.0 shape.1 shape.2))
