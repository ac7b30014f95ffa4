use Rattle.std.proofs.Common.{◌<◌, [], length, arith}
use Rattle.capnp_layout_c.proofs.LentWords.{one_more}
use Rattle.capnp_layout_c.proofs.segments.SegmentsReaderArena.size_in_words.Goals as goal

pub overflow_add-words : goal.overflow_add-words
overflow_add-words c =
    let there : c.loop-segment.segment-index < length c.args.self.now.list.now = omega arith in
    let more = one_more c.args.self.now.list.now c.loop-segment.segment-index c.loop-segment.words (record { ref_ptr = (0, 0); now = [] }) there c.args.self.now.small c.loop-segment.invariant.counted c.loop-segment.invariant.bounded in
    omega (arith, more.fits)

pub loop-segment-preserved : goal.loop-segment-preserved
loop-segment-preserved c =
    let there : c.loop-segment.segment-index < length c.args.self.now.list.now = omega arith in
    let more = one_more c.args.self.now.list.now c.loop-segment.segment-index c.loop-segment.words (record { ref_ptr = (0, 0); now = [] }) there c.args.self.now.small c.loop-segment.invariant.counted c.loop-segment.invariant.bounded in
    record { counted = more.counted; bounded = more.bounded }
