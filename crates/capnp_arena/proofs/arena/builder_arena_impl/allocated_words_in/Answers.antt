use Rattle.std.proofs.Common.{◌<◌, length, arith}
use Rattle.capnp_arena.proofs.RowsLemmas.{total_rows}
use Rattle.capnp_arena.proofs.arena.builder_arena_impl.allocated_words_in.Goals as goal

pub loop-row-preserved : goal.loop-row-preserved
loop-row-preserved g c =
    let rows = c.args.rows.now in
    let there : c.loop-row.row-index < length rows = omega arith in
    let more = total_rows g.S.Segment rows c.loop-row.row-index c.row-item.result there c.row-item.is in
    let clear = c.row-item.result.clear in
    record { counted = omega (arith, more, c.loop-row.invariant.counted); bounded = omega (arith, clear.0, clear.1, clear.2, c.loop-row.invariant.bounded) }
