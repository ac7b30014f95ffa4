use Rattle.std.proofs.Common.{ap, refl, sym, ◌∙◌, subst}
use Rattle.std.specs.Prelude.{is_some}
use Rattle.capnp_show.specs.Line.{value_line}
use Rattle.capnp_show.specs.ShownParts.{HasShortLine}
use Rattle.capnp_show.proofs.ComparedLines.{lacks_memory, not_long, shown_in, values_alike}
use Rattle.capnp_show.proofs.show.compare.compare_messages.Goals as goal

pub returns-in_err-found-clause-granted : goal.returns-in_err-found-clause-granted
returns-in_err-found-clause-granted g c =
    λ l r same short.
    let refused = c.in_err-found.ensures.lines l.value r.value c.new-left.ensures.nesting c.new-right.ensures.nesting (shown_in l c.new-left.ensures.words) (shown_in r c.new-right.ensures.words) in
    lacks_memory c.from_residual.result c.from_residual.ensures.1 (λ is. refused is short (subst HasShortLine same short)) c.in_err-found.ensures.refused

pub returns-in-None-clause-exactly : goal.returns-in-None-clause-exactly
returns-in-None-clause-exactly g c =
    λ l r first second.
    let lines = c.in_ok-found.ensures.lines l.value r.value c.new-left.ensures.nesting c.new-right.ensures.nesting (shown_in l c.new-left.ensures.words) (shown_in r c.new-right.ensures.words) in
    (λ is. values_alike l r first second (lines.0 (ap is_some c.in-None.is)), λ e. refl)

pub returns-clause-exactly : goal.returns-clause-exactly
returns-clause-exactly g c =
    λ l r first second.
    let lines = c.in_ok-found.ensures.lines l.value r.value c.new-left.ensures.nesting c.new-right.ensures.nesting (shown_in l c.new-left.ensures.words) (shown_in r c.new-right.ensures.words) in
    (λ is. absurd (cc is), λ e. absurd (cc (sym (ap is_some c.in-Some.is) ∙ lines.1 (ap value_line e))))

pub returns-in_err-text-in-Some-clause-granted : goal.returns-in_err-text-in-Some-clause-granted
returns-in_err-text-in-Some-clause-granted g c =
    λ l r same short.
    let lines = c.in_ok-found.ensures.lines l.value r.value c.new-left.ensures.nesting c.new-right.ensures.nesting (shown_in l c.new-left.ensures.words) (shown_in r c.new-right.ensures.words) in
    absurd (cc (sym (ap is_some c.in-Some.is) ∙ lines.1 (ap value_line same)))

pub returns-in_err-write-in-Some-clause-granted : goal.returns-in_err-write-in-Some-clause-granted
returns-in_err-write-in-Some-clause-granted g c =
    λ l r same short.
    let lines = c.in_ok-found.ensures.lines l.value r.value c.new-left.ensures.nesting c.new-right.ensures.nesting (shown_in l c.new-left.ensures.words) (shown_in r c.new-right.ensures.words) in
    absurd (cc (sym (ap is_some c.in-Some.is) ∙ lines.1 (ap value_line same)))

pub returns-in_err-found-clause-short : goal.returns-in_err-found-clause-short
returns-in_err-found-clause-short g c =
    λ l r one other.
    let refused = c.in_err-found.ensures.lines l.value r.value c.new-left.ensures.nesting c.new-right.ensures.nesting (shown_in l c.new-left.ensures.words) (shown_in r c.new-right.ensures.words) in
    not_long c.from_residual.result c.from_residual.ensures.1 (λ is. refused is one other)

pub returns-in_err-text-in-Some-clause-short : goal.returns-in_err-text-in-Some-clause-short
returns-in_err-text-in-Some-clause-short g c =
    λ l r one other.
    not_long c.from_residual-in_err-text-in-Some.result c.from_residual-in_err-text-in-Some.ensures.1
    (c.in_err-text-in-Some.ensures.short l.value r.value c.new-left.ensures.nesting c.new-right.ensures.nesting (shown_in l c.new-left.ensures.words) (shown_in r c.new-right.ensures.words) one other)
