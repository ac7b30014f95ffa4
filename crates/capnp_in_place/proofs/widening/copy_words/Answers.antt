use Rattle.std.proofs.Common.{ap, rules}
use Rattle.capnp_format.specs.Segments.{Segments}
use Rattle.capnp_allocation.proofs.Memory.{words_in}
use Rattle.capnp_in_place.proofs.Room.CopiedAtOnce.{word_copied}
use Rattle.capnp_in_place.proofs.widening.copy_words.Goals as goal

pub returns-then-count-eq1 : goal.returns-then-count-eq1
returns-then-count-eq1 g c = record {
  copied = (let S : Segments = (g.A.BuilderArena.view c.args.arena.now).words in
      let R : Segments = (g.A.BuilderArena.view c.set_word.new.arena).words in
      word_copied S R c.args.from.segment c.args.from.at c.args.to.segment c.args.to.at c.pointer_word-word.result.0 c.args.count c.if-count-eq1.true c.requires.inside.to c.pointer_word-word.ensures (ap words_in c.set_word.ensures));
  limits = search rules;
}
