use Rattle.std.proofs.Common.{refl, ap, ◌∙◌, length, take, drop, arith}
use Rattle.capnp_arena_traits.specs.Written.{overwritten}
use Rattle.capnp_format.specs.Bytes.{words_of}
use Rattle.capnp_arena.specs.Row.{allocated}
use Rattle.capnp_arena.specs.LendingLemmas.{allocated_whole, over, same_capacity}
use Rattle.capnp_arena.proofs.arena.row.Row.copy_from.Goals as goal

pub copy_words-requires-clause-room : goal.copy_words-requires-clause-room
copy_words-requires-clause-room g c =
    omega (arith, c.requires.inside, c.word_range-copied.ensures.count, ap length c.allocated_mut.ensures.now, allocated_whole g.S.Segment c.args.self.now)

pub returns : goal.returns
returns g c =
    let r = c.args.self.now in
    let ws = c.copy_words.new.bytes in
    let same = c.allocated_mut.ensures.now in
    record {
      words =
          ap words_of (over g.S.Segment r ws (c.copy_words.auto.bytes ∙ ap length same))
          ∙ c.copy_words.ensures
          ∙ ap (λ bs. overwritten (words_of bs) c.args.at (words_of c.word_range-copied.result.now)) same
          ∙ ap (overwritten (words_of (allocated g.S.Segment r)) c.args.at) (c.word_range-copied.ensures.words ∙ ap (λ bs. take c.args.n (drop c.args.from (words_of bs))) c.allocated.ensures);
      used = refl;
      bound = refl;
      capacity = same_capacity g.S.Segment r ws;
    }
