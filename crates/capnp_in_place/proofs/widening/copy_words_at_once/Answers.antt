use Rattle.std.proofs.Common.{ap, rules}
use Rattle.capnp_format.specs.Segments.{Segments}
use Rattle.capnp_allocation.proofs.Memory.{words_in}
use Rattle.capnp_in_place.proofs.Room.CopiedAtOnce.{copied_at_once}
use Rattle.capnp_in_place.proofs.widening.copy_words_at_once.Goals as goal

pub returns : goal.returns
returns g c = record {
  copied = (let S : Segments = (g.A.BuilderArena.view c.args.arena.now).words in
      let R : Segments = (g.A.BuilderArena.view c.move_words.new.self).words in
      copied_at_once S R c.args.from.segment c.args.from.at c.args.to.segment c.args.to.at c.args.count c.requires.from c.requires.to (ap words_in c.move_words.ensures));
  limits = search rules;
}
