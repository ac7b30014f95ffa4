use Rattle.std.proofs.Common.{rules, inr, ◌<◌, length, sym}
use Rattle.capnp_framing.specs.declared.framing.frame_error.FrameError.TheVariants.{Truncated}
use Rattle.capnp_layout_c.proofs.FrameCases.{cut_short}
use Rattle.capnp_layout_c.proofs.frames.whole_frame.Goals as goal

pub returns-then-frame-size-clause-refused : goal.returns-then-frame-size-clause-refused
returns-then-frame-size-clause-refused c =
    let some : 0 < length c.args.frame.now = search rules in
    inr (Truncated, c.frame_number.ensures.number, cut_short c.args.frame.now c.args.words c.in-Ok.size (sym c.in-Ok.ensures) some c.if-frame-size.true)
