use Rattle.std.proofs.Common.{◌≡◌, ℕ, List, [], ◌∷◌, ◌++◌, sym, ap, append_assoc}
use Rattle.std.specs.Prelude.{codes}
use Rattle.capnp_show.specs.Line.{in_quotes, member}
use Rattle.capnp_show.proofs.Adds.{adds_as, adds_stops, adds_then, adds_three}
use Rattle.capnp_show.proofs.show.text.Text.push_refusal.Goals as goal

whole : (name : List ℕ) → codes "\"refused\":\"" ++ (name ++ codes "\"}") ≡ member (codes "refused") (in_quotes name) ++ codes "}"
whole name = ap (λ zs. codes "\"refused\":\"" ++ zs) (sym (append_assoc name (34 ∷ []) (125 ∷ [])))

pub returns-in_err-push : goal.returns-in_err-push
returns-in_err-push c = adds_as (whole c.args.name.now) (adds_stops c.from_residual.result _ (c.args.name.now ++ codes "\"}") c.from_residual.ensures.1 c.in_err-push.ensures)

pub returns-in_err-push-2 : goal.returns-in_err-push-2
returns-in_err-push-2 c = adds_as (whole c.args.name.now) (adds_then c.in_ok-push.ensures (adds_stops c.from_residual-in_err-push-2.result _ (codes "\"}") c.from_residual-in_err-push-2.ensures.1 c.in_err-push-2.ensures))

pub returns : goal.returns
returns c = adds_as (whole c.args.name.now) (adds_three c.in_ok-push.ensures c.in_ok-push-2.ensures c.push-3.ensures)
