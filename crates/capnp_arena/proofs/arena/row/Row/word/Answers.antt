use Rattle.std.proofs.Common.{◌∙◌}
use Rattle.capnp_arena.proofs.RowPut.{word_ready}
use Rattle.capnp_arena.proofs.arena.row.Row.word.Goals as goal

pub returns : goal.returns
returns g c = c.word_at.ensures ∙ word_ready g.S.Segment c.args.self.now c.args.at c.bytes.result.now c.bytes.ensures c.requires
