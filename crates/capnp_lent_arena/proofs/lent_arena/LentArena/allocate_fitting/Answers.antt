use Rattle.std.proofs.Common.{ap, length, ◌∙◌, arith, replicate}
use borrow.Rule.Slice.PartMut.{put_mid}
use Rattle.capnp_format.specs.Bytes.{words_of}
use Rattle.capnp_lent_arena.proofs.LentArenaSteps.{inside_more, zeroed}
use Rattle.capnp_lent_arena.proofs.lent_arena.LentArena.allocate_fitting.Goals as goal

pub invariant_of-self : goal.invariant_of-self
invariant_of-self g c =
    let a = c.args.self.now in record {
      inside = inside_more g.B.Segment a c.args.amount c.zero_words.new.bytes c.requires (c.zero_words.auto.bytes ∙ ap length c.bytes_mut.ensures.now);
      small = omega (arith, c.requires);
    }

pub returns-clause-words : goal.returns-clause-words
returns-clause-words g c =
    let a = c.args.self.now in
    let long = c.zero_words.auto.bytes ∙ ap length c.bytes_mut.ensures.now in
    zeroed a.used c.args.amount (g.B.Segment.ready a.bytes) c.zero_words.new.bytes _ (omega (arith, c.requires)) long
    (c.zero_words.ensures ∙ ap (λ bs. put_mid a.used c.args.amount (words_of bs) (replicate c.args.amount 0)) c.bytes_mut.ensures.now)
    (g.B.Segment.holds a.bytes c.zero_words.new.bytes long)
