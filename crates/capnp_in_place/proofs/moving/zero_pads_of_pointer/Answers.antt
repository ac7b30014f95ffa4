use Rattle.std.proofs.Common.{◌≢◌, rules}
use Rattle.capnp_format.specs.Segments.{Segments, word_at}
use Rattle.capnp_format.specs.Word.{kind}
use Rattle.capnp_in_place.proofs.MovedPointers.PadsZeroed.{near_unmoved}
use Rattle.capnp_in_place.proofs.moving.zero_pads_of_pointer.Goals as goal

pub returns-then-ne : goal.returns-then-ne
returns-then-ne g c = record {
  zeroed = (let S : Segments = (g.A.BuilderArena.view c.args.arena.now).words in
      let near : kind (word_at S c.args.id c.args.at) ≢ 2 = λ e. search rules in
      near_unmoved S (g.A.BuilderArena.view c.zero_pads.new.arena).words c.args.id c.args.at c.args.to_id c.args.to_at near (rw c.pointer_word-word.ensures at c.zero_pads.ensures.zeroed));
  pruned = search rules;
  limits = search rules;
}
