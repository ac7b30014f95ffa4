use Rattle.std.proofs.Common.{inr, refl, ap, drop}
use Rattle.capnp_format.specs.Bytes.{message}
use Rattle.capnp_framing.specs.Flat.{parts}
use Rattle.capnp_framing.specs.Reading.{table_size}
use Rattle.capnp_layout_c.proofs.Cuts.{frame_at}
use Rattle.capnp_layout_c.proofs.capnp_layout_open_frame.Goals as goal

pub returns-then-room-found-clause-refused : goal.returns-then-room-found-clause-refused
returns-then-room-found-clause-refused c = λ _.
    inr (refl, c.if-room-found.true, (_, frame_at c.args.frame.now c.args.words c.in-Ok.found c.in-Ok.size (λ i. (c.type_inv.frame i).fits) c.in-Ok.ensures.whole))

pub returns-else-room-found-clause-opened : goal.returns-else-room-found-clause-opened
returns-else-room-found-clause-opened c = λ _. record {
  of = message (parts c.in-Ok.found (drop 4 c.args.frame.now) (drop (table_size c.in-Ok.found) c.args.frame.now));
  frame_at = frame_at c.args.frame.now c.args.words c.in-Ok.found c.in-Ok.size (λ i. (c.type_inv.frame i).fits) c.in-Ok.ensures.whole;
  segments = ap message c.cut.ensures.segments;
  behind = c.cut.ensures.behind;
  long = c.cut.ensures.long;
}
