use Rattle.std.proofs.Common.{ap, sym, ◌∙◌}
use Rattle.capnp_format.specs.Segments.{Segments}
use Rattle.capnp_format.specs.Tree.{Null}
use Rattle.capnp_arena_traits.specs.Written.{with_word}
use Rattle.capnp_allocation.proofs.MadeWords.{word_put, pruned_but}
use Rattle.capnp_allocation.proofs.Memory.{words_in}
use Rattle.capnp_allocation.proofs.Replaced.{replaced_again}
use Rattle.capnp_allocation.proofs.Placed.{zeroed_replaced}
use Rattle.capnp_allocation.proofs.PlacedStructs.{capability_made}
use Rattle.capnp_in_place.proofs.Room.PlacesStay.{pruned_but_grows}
use Rattle.capnp_in_place.proofs.initializing.set_capability.Goals as goal

-- The old object is zeroed, and then the pointer is set.
pub returns-clause-made : goal.returns-clause-made
returns-clause-made g c =
    let S : Segments = (g.A.BuilderArena.view c.args.arena.now).words in
    let M : Segments = (g.A.BuilderArena.view c.zero_object.new.arena).words in
    let R : Segments = (g.A.BuilderArena.view c.set_word.new.arena).words in
    let place = rw (sym (c.zero_object.ensures.zeroes.pruned.words c.args.id)) at c.requires.place in
    let set = ap words_in c.set_word.ensures ∙ ap (with_word M c.args.id c.args.at) c.new_capability.ensures.word in
    λ x stored. replaced_again S M R c.args.id c.args.at x Null _ (zeroed_replaced S M c.args.id c.args.at x c.zero_object.ensures.zeroes.zeroed stored)
    (capability_made M R c.args.id c.args.at c.args.index place set)

pub returns-clause-only : goal.returns-clause-only
returns-clause-only g c =
    let S : Segments = (g.A.BuilderArena.view c.args.arena.now).words in
    let M : Segments = (g.A.BuilderArena.view c.zero_object.new.arena).words in
    let R : Segments = (g.A.BuilderArena.view c.set_word.new.arena).words in
    let place = rw (sym (c.zero_object.ensures.zeroes.pruned.words c.args.id)) at c.requires.place in
    let set = ap words_in c.set_word.ensures ∙ ap (with_word M c.args.id c.args.at) c.new_capability.ensures.word in
    pruned_but S M R c.args.id c.args.at _ c.zero_object.ensures.zeroes.pruned (word_put M R c.args.id c.args.at _ place set)

pub returns-clause-grows : goal.returns-clause-grows
returns-clause-grows g c = pruned_but_grows (returns-clause-only g c)
