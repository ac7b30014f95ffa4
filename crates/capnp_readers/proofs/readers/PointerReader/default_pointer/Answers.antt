use Rattle.std.proofs.Common.{inl, inr, Err, ap, ◌∙◌, sym, refl, ◌≤◌, length, w32, arith, rules}
use Rattle.std.proofs.lemmas.Bool.{false≢true}
use Rattle.std.proofs.lemmas.Int.{to_z-of_z}
use Rattle.std.proofs.lemmas.Result.{err_from_is_err_and}
use Rattle.capnp_readers.specs.Calls.{of_default, short_default, of_null_default}
use Rattle.capnp_readers.proofs.readers.PointerReader.default_pointer.Goals as goal

pub returns-in_err-default : goal.returns-in_err-default
returns-in_err-default g c =
    let short : 8 ≤ length c.args.bytes.now → ⊥ = λ h. false≢true (c.in_err-default.ensures.exactly.1 h) in
    let p = err_from_is_err_and c.from_residual.result c.from_residual.ensures.1 in
    rw (p.1, p.2) (short_default c.requires.null refl (omega (arith, short)) (ap Err c.in_err-default.ensures.named))

pub returns-then-not-is_null : goal.returns-then-not-is_null
returns-then-not-is_null g c =
    let made = c.in_ok-default.ensures in
    let level = to_z-of_z w32 c.args.self.nesting_limit (search rules) in
    of_default c.requires.null refl (made.exactly.0 refl) made.source made.place.0 made.place.1 level
    (inr (λ e. false≢true (c.if-not-is_null.ensures.1 e))) refl

pub returns-in-Some : goal.returns-in-Some
returns-in-Some g c =
    let made = c.in_ok-default.ensures in
    let whole : 8 ≤ length c.args.bytes.now = made.exactly.0 refl in
    of_null_default c.requires.null refl whole (rw (made.source, made.place.0, made.place.1) at (c.if-not-is_null.ensures.0 refl)) (sym c.null_default_error.ensures ∙ c.in-Some.is) refl

pub returns-in-None : goal.returns-in-None
returns-in-None g c =
    let made = c.in_ok-default.ensures in
    let level = to_z-of_z w32 c.args.self.nesting_limit (search rules) in
    of_default c.requires.null refl (made.exactly.0 refl) made.source made.place.0 made.place.1 level
    (inl (sym c.null_default_error.ensures ∙ c.in-None.is)) refl
