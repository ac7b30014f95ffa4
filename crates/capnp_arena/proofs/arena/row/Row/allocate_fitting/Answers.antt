use Rattle.capnp_arena.proofs.RowLemmas.{more_row, more_words}
use Rattle.capnp_arena.proofs.arena.row.Row.allocate_fitting.Goals as goal

pub invariant_of-self : goal.invariant_of-self
invariant_of-self g c =
    record { clear = more_row g.S.Segment c.args.self.now.segment c.make_ready.new.self c.args.self.now.used c.args.amount c.args.self.now.clear c.make_ready.ensures.content c.make_ready.ensures.ready }

pub returns-clause-taken : goal.returns-clause-taken
returns-clause-taken g c =
    more_words g.S.Segment c.args.self.now.segment c.make_ready.new.self c.args.self.now.used c.args.amount c.args.self.now.clear c.make_ready.ensures.content c.make_ready.ensures.ready
