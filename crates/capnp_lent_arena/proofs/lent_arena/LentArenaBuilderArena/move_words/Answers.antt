use Rattle.std.proofs.Common.{ap, length, arith}
use Rattle.capnp_lent_arena.specs.LentArenaLemmas.{lent_whole}
use Rattle.capnp_lent_arena.proofs.LentArenaSteps.{inside_words, lent_is, moved}
use Rattle.capnp_lent_arena.proofs.lent_arena.LentArenaBuilderArena.move_words.Goals as goal

pub move_words-requires-clause-there : goal.move_words-requires-clause-there
move_words-requires-clause-there g c =
    let seg = g.B.Segment in
    let a = c.args.self.now in
    omega (
      arith,
      inside_words seg g.B.LentBytes.name a c.args.from.segment c.args.from.at c.args.n c.if-n-eq0.false c.requires.there,
      ap length (lent_is seg a c.args.to.segment _ c.segment_mut-bytes.ensures.bytes),
      lent_whole seg a,
    )

pub move_words-requires-clause-room : goal.move_words-requires-clause-room
move_words-requires-clause-room g c =
    let seg = g.B.Segment in
    let a = c.args.self.now in
    omega (
      arith,
      inside_words seg g.B.LentBytes.name a c.args.to.segment c.args.to.at c.args.n c.if-n-eq0.false c.requires.inside,
      ap length (lent_is seg a c.args.to.segment _ c.segment_mut-bytes.ensures.bytes),
      lent_whole seg a,
    )

pub returns : goal.returns
returns g c =
    moved g.B.Segment g.B.LentBytes.name g.met.B.LentBytes.name_kept c.args.self.now c.args.from.segment c.args.from.at c.args.to.segment c.args.to.at c.args.n
    c.segment_mut-bytes.result.now c.move_words.new.bytes c.if-n-eq0.false c.requires.there c.requires.inside
    c.segment_mut-bytes.ensures.bytes c.move_words.auto.bytes c.move_words.ensures
