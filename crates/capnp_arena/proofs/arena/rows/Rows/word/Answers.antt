use Rattle.std.proofs.Common.{arith}
use Rattle.capnp_arena.proofs.ListedLemmas.{first_there, first_used}
use Rattle.capnp_arena.proofs.arena.rows.Rows.word.Goals as goal

pub word-requires : goal.word-requires
word-requires g c =
    let seg = g.S.Segment in
    let b = c.args.self.now in
    omega (arith, c.requires, first_used seg b.there b.first b.others.items c.args.id c.if-id-eq0.true (first_there seg b.there b.first b.others.items c.args.id c.args.at c.requires))
