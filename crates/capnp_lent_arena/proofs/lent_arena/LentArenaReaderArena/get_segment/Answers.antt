use Rattle.std.proofs.Common.{ap, length, arith}
use Rattle.capnp_lent_arena.specs.LentArenaLemmas.{allocated_words, lent_whole}
use Rattle.capnp_lent_arena.proofs.lent_arena.LentArenaReaderArena.get_segment.Goals as goal

pub returns-then-id-eq0-clause-whole : goal.returns-then-id-eq0-clause-whole
returns-then-id-eq0-clause-whole g c =
    let a = c.args.self.now in
    rw c.if-id-eq0.true
    (omega (arith, ap length c.allocated.ensures, lent_whole g.B.Segment a, allocated_words g.B.Segment a))
