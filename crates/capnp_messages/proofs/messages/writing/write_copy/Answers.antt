use Rattle.std.proofs.Common.{sym, subst}
use Rattle.capnp_format.specs.Segments.{Segments}
use Rattle.capnp_framing.specs.Frames.{frame}
use Rattle.capnp_framing.specs.Writing.{Prints}
use Rattle.capnp_messages.proofs.messages.writing.write_copy.Goals as goal

pub returns-in-Ok-clause-written : goal.returns-in-Ok-clause-written
returns-in-Ok-clause-written g c =
    subst (λ (S : Segments). Prints g.W.Output c.args.output.now c.write_framed.new.output (frame S))
    (sym c.canonical_bytes.ensures.words) c.in-Ok.ensures.written
