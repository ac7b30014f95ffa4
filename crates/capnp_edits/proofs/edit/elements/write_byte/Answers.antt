use Rattle.std.proofs.Common.{◌≡◌, true, false, refl, sym, ap, ◌∙◌}
use Rattle.std.proofs.lemmas.Result.{err_from_is_err_and}
use Rattle.capnp_arena_traits.specs.View.{View}
use Rattle.capnp_edits.specs.Edits.{byte_put, byte_past, bytes_denied}
use Rattle.capnp_edits.proofs.Contents.{is_found}
use Rattle.capnp_edits.proofs.edit.elements.write_byte.Goals as goal

pub returns-in-Some-clause-put : goal.returns-in-Some-clause-put
returns-in-Some-clause-put g c =
    byte_put c.in-Some.bytes (is_found c.args.found c.in_ok-bytes.field-0 c.in-Some.bytes c.in_ok-bytes.was c.in-Some.is) c.if-index-bytes.true refl
    (rw (c.from.ensures, c.from-in-Some.ensures) at (ap (λ (v : View). v.words) c.set_number.ensures.written))

-- The bytes of a value are inside the message.
pub returns-in_default-clause-put : goal.returns-in_default-clause-put
returns-in_default-clause-put g c =
    byte_past c.in-Some.bytes (is_found c.args.found c.in_ok-bytes.field-0 c.in-Some.bytes c.in_ok-bytes.was c.in-Some.is)
    (λ lies. absurd (let e : false ≡ true = sym c.if-are_inside.false ∙ c.are_inside.ensures.1 lies in cc)) refl refl

pub returns-in_default-2-clause-put : goal.returns-in_default-2-clause-put
returns-in_default-2-clause-put g c = byte_past c.in-Some.bytes (is_found c.args.found c.in_ok-bytes.field-0 c.in-Some.bytes c.in_ok-bytes.was c.in-Some.is) (λ lies. c.if-index-bytes.false) refl refl

pub returns-in_err-bytes-clause-put : goal.returns-in_err-bytes-clause-put
returns-in_err-bytes-clause-put g c =
    let p = err_from_is_err_and c.from_residual.result c.from_residual.ensures.1 in
    rw (p.1, p.2) (bytes_denied _ c.in_err-bytes.was refl refl)
