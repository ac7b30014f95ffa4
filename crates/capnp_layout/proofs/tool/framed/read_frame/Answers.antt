use Rattle.std.proofs.Common.{◌∙◌, ◌∷◌, [], List, ℕ, Ok, ap, refl}
use Rattle.capnp_layout.specs.Commands.{empty_line, no_frame}
use Rattle.capnp_layout.specs.Messages.{segments_in}
use Rattle.capnp_layout.proofs.FrameCommands.{only_line}
use Rattle.capnp_layout.proofs.tool.framed.read_frame.Goals as goal

pub returns-in-Ok-Some-clause-holds : goal.returns-in-Ok-Some-clause-holds
returns-in-Ok-Some-clause-holds c = record {
  line = c.in-Some.line.now;
  only = only_line (segments_in c.args.lines.now) c.in-Some.line.now c.requires c.in-Some.ensures.bytes;
  begins = rw c.in-Ok-Some.field-0-is at c.in-Ok-Some.ensures.read;
}

pub returns-in-Ok-None-clause-refused : goal.returns-in-Ok-None-clause-refused
returns-in-Ok-None-clause-refused c =
    let none = c.in-Ok-None.ensures.end (ap Ok c.in-Ok-None.field-0-is) in
    empty_line refl (only_line (segments_in c.args.lines.now) c.in-Some.line.now c.requires c.in-Some.ensures.bytes ∙ ap (λ (line : List ℕ). line ∷ []) none)

pub returns-in-Err-clause-refused : goal.returns-in-Err-clause-refused
returns-in-Err-clause-refused c =
    no_frame c.in-Some.line.now c.in-Err.error refl (only_line (segments_in c.args.lines.now) c.in-Some.line.now c.requires c.in-Some.ensures.bytes) c.in-Err.ensures.refused
