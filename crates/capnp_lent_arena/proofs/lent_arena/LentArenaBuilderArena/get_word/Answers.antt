use Rattle.std.proofs.Common.{ap, length, arith}
use Rattle.capnp_lent_arena.specs.LentArenaLemmas.{lent_whole}
use Rattle.capnp_lent_arena.proofs.LentArenaSteps.{place_inside}
use Rattle.capnp_lent_arena.proofs.lent_arena.LentArenaBuilderArena.get_word.Goals as goal

pub word_at-requires : goal.word_at-requires
word_at-requires g c =
    let a = c.args.self.now in
    omega (arith, place_inside g.B.Segment g.B.LentBytes.name a c.args.id c.args.at c.requires, ap length c.allocated.ensures, lent_whole g.B.Segment a)
