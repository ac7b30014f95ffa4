use Rattle.std.proofs.Common.{◌≡◌, List, ℕ, true, false, refl, sym, ◌∙◌}
use Rattle.std.specs.Str.{is_utf8}
use Rattle.std.proofs.lemmas.Str.{is_utf8-from_IsUtf8}
use Rattle.capnp_show.specs.Line.{has_control_after, is_plain_text}
use Rattle.capnp_show.proofs.Adds.{not_utf8}
use Rattle.capnp_show.proofs.show.text.plain_text.Goals as goal

pub returns-else-has_control : goal.returns-else-has_control
returns-else-has_control c =
    let bytes : List ℕ = c.args.bytes.now in
    let text : is_utf8 bytes ≡ true = is_utf8-from_IsUtf8 bytes c.in-Ok.ensures.cases.1 in
    let none : has_control_after 0 bytes ≡ false = sym c.has_control.ensures ∙ c.if-has_control.false in
    let whole : is_plain_text bytes ≡ true = rw (text, none) refl in
    (whole, c.in-Ok.ensures.cases.0)

pub returns-in-Err : goal.returns-in-Err
returns-in-Err c = not_utf8 c.args.bytes.now c.in-Err.ensures.cases.0
