use Rattle.std.proofs.Common.{ap, length, arith}
use Rattle.capnp_lent_arena.specs.LentArenaLemmas.{lent_whole}
use Rattle.capnp_lent_arena.proofs.LentArenaSteps.{lent_is, place_inside, put}
use Rattle.capnp_lent_arena.proofs.lent_arena.LentArenaBuilderArena.put_word.Goals as goal

pub put_word-requires : goal.put_word-requires
put_word-requires g c =
    let seg = g.B.Segment in
    let a = c.args.self.now in
    omega (
      arith,
      place_inside seg g.B.LentBytes.name a c.args.id c.args.at c.requires,
      ap length (lent_is seg a c.args.id _ c.segment_mut-bytes.ensures.bytes),
      lent_whole seg a,
    )

pub returns : goal.returns
returns g c =
    put g.B.Segment g.B.LentBytes.name g.met.B.LentBytes.name_kept c.args.self.now c.args.id c.args.at c.args.word
    c.segment_mut-bytes.result.now c.put_word.new.bytes c.requires c.segment_mut-bytes.ensures.bytes c.put_word.auto.bytes c.put_word.ensures
