use Rattle.std.proofs.Common.{ℕ, ◌<◌, ◌+◌, ◌||◌, length, drop, get_or, sym, ap, ◌∙◌, arith}
use Rattle.capnp_show.specs.Line.{has_control_after}
use Rattle.capnp_show.proofs.Adds.{control_next}
use Rattle.capnp_show.proofs.show.text.has_control.Goals as goal

pub returns-then-ends_control : goal.returns-then-ends_control
returns-then-ends_control c =
    let i : ℕ = c.loop-byte.byte-index in
    let e = sym c.ends_control.ensures ∙ c.if-ends_control.true in
    let there : i < length c.args.bytes.now = omega arith in
    sym (sym c.loop-byte.invariant ∙ control_next c.loop-byte.before c.args.bytes.now i there ∙ ap (λ x. x || has_control_after (get_or c.args.bytes.now i 0) (drop (i + 1) c.args.bytes.now)) e)

pub loop-byte-preserved : goal.loop-byte-preserved
loop-byte-preserved c =
    let i : ℕ = c.loop-byte.byte-index in
    let e = sym c.ends_control.ensures ∙ c.if-ends_control.false in
    let there : i < length c.args.bytes.now = omega arith in
    sym (ap (λ x. x || has_control_after (get_or c.args.bytes.now i 0) (drop (i + 1) c.args.bytes.now)) e) ∙ sym (control_next c.loop-byte.before c.args.bytes.now i there) ∙ c.loop-byte.invariant
