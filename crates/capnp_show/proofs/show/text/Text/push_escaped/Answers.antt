use Rattle.std.proofs.Common.{◌+◌, ◌++◌, ◌∷◌, [], ap, sym, ◌∙◌, drop}
use Rattle.capnp_show.specs.Line.{escaped}
use Rattle.capnp_show.proofs.Adds.{last_added, part_added, part_stops, rest_of}
use Rattle.capnp_show.proofs.show.text.Text.push_escaped.Goals as goal

pub returns-in_err-push : goal.returns-in_err-push
returns-in_err-push c =
    let rest = c.loop-at.rest.now in
    part_stops c.from_residual.result _ _ _ ((92 ∷ c.in-Some.letter ∷ []) ++ escaped (drop (c.in-Some.at + 1) rest)) c.from_residual.ensures.1
    (ap (λ zs. c.loop-at.self.bytes.items ++ zs) (sym c.in-Some.ensures.1) ∙ c.loop-at.invariant) c.in_err-push.ensures

pub returns-in_err-push-2 : goal.returns-in_err-push-2
returns-in_err-push-2 c =
    let rest = c.loop-at.rest.now in
    let whole = part_added ((92 ∷ c.in-Some.letter ∷ []) ++ escaped (drop (c.in-Some.at + 1) rest)) _ (ap (λ zs. c.loop-at.self.bytes.items ++ zs) (sym c.in-Some.ensures.1) ∙ c.loop-at.invariant) c.in_ok-push.ensures in
    part_stops c.from_residual-in_err-push-2.result _ _ _ (escaped (drop (c.in-Some.at + 1) rest)) c.from_residual-in_err-push-2.ensures.1 whole c.in_err-push-2.ensures

pub loop-at-preserved : goal.loop-at-preserved
loop-at-preserved c =
    let rest = c.loop-at.rest.now in
    let whole = part_added ((92 ∷ c.in-Some.letter ∷ []) ++ escaped (drop (c.in-Some.at + 1) rest)) _ (ap (λ zs. c.loop-at.self.bytes.items ++ zs) (sym c.in-Some.ensures.1) ∙ c.loop-at.invariant) c.in_ok-push.ensures in
    ap (λ zs. c.push-in-Some.new.self.bytes.items ++ escaped zs) (rest_of (c.in-Some.at + 1) rest)
    ∙ part_added (escaped (drop (c.in-Some.at + 1) rest)) _ whole c.in_ok-push-2.ensures

pub returns : goal.returns
returns c = last_added c.push-2.result (ap (λ zs. c.loop-at.self.bytes.items ++ zs) (sym c.in_default.ensures) ∙ c.loop-at.invariant) c.push-2.ensures
