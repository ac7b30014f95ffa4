use Rattle.std.proofs.Common.{◌≡◌, ◌+◌, ◌-◌, ◌*◌, arith, take, drop, ap, ◌∙◌}
use Rattle.std.proofs.lemmas.List.{drop-set-lt, length-set}
use Rattle.capnp_layout_c.proofs.Cuts.{cut_inside, cut_more}
use Rattle.capnp_layout_c.proofs.frames.cut.Goals as goal

pub overflow_add-room : goal.overflow_add-room
overflow_add-room c =
    omega (arith, cut_inside c.args.frame.now c.args.count c.loop-i.i c.loop-i.at c.number_in.result c.loop-i-test.true c.requires.whole c.loop-i.invariant.place c.number_in.ensures)

pub slice_bounds-room-end : goal.slice_bounds-room-end
slice_bounds-room-end c =
    omega (arith, cut_inside c.args.frame.now c.args.count c.loop-i.i c.loop-i.at c.number_in.result c.loop-i-test.true c.requires.whole c.loop-i.invariant.place c.number_in.ensures)

pub loop-i-preserved : goal.loop-i-preserved
loop-i-preserved c =
    let frame = c.args.frame.now in
    let at = c.loop-i.at in
    let size = 8 * c.number_in.result in
    let next = cut_inside frame c.args.count c.loop-i.i at c.number_in.result c.loop-i-test.true c.requires.whole c.loop-i.invariant.place c.number_in.ensures in
    let same : at + size - at ≡ size = omega arith in
    record {
      place = next.0;
      segments = cut_more frame c.loop-i.room c.args.count c.loop-i.i at size _ (omega arith) c.loop-i.invariant.place (ap (λ n. 8 * n) c.number_in.ensures) (ap (λ n. take n (drop at frame)) same) c.loop-i.invariant.segments;
      behind = drop-set-lt c.args.count c.loop-i.room c.loop-i.i _ c.loop-i-test.true ∙ c.loop-i.invariant.behind;
      long = length-set c.loop-i.room c.loop-i.i _ ∙ c.loop-i.invariant.long;
    }
