use Rattle.std.proofs.Common.{◌≡◌, ℕ, List, [], ◌∷◌, ◌++◌, sym, ap, append_assoc}
use Rattle.std.specs.Prelude.{codes}
use Rattle.hex.specs.Hex.{encode_lower}
use Rattle.capnp_show.specs.Line.{in_quotes, member}
use Rattle.capnp_show.proofs.Adds.{adds_as, adds_stops, adds_then, adds_three}
use Rattle.capnp_show.proofs.show.text.Text.push_data_member.Goals as goal

whole : (hex : List ℕ) → codes "\"data\":\"" ++ (hex ++ codes "\",") ≡ member (codes "data") (in_quotes hex) ++ codes ","
whole hex = ap (λ zs. codes "\"data\":\"" ++ zs) (sym (append_assoc hex (34 ∷ []) (44 ∷ [])))

pub returns-in_err-push : goal.returns-in_err-push
returns-in_err-push c = adds_as (whole (encode_lower c.args.bytes.now)) (adds_stops c.from_residual.result _ (encode_lower c.args.bytes.now ++ codes "\",") c.from_residual.ensures.1 c.in_err-push.ensures)

pub returns-in_err-push_hex : goal.returns-in_err-push_hex
returns-in_err-push_hex c = adds_as (whole (encode_lower c.args.bytes.now)) (adds_then c.in_ok-push.ensures (adds_stops c.from_residual-in_err-push_hex.result _ (codes "\",") c.from_residual-in_err-push_hex.ensures.1 c.in_err-push_hex.ensures))

pub returns : goal.returns
returns c = adds_as (whole (encode_lower c.args.bytes.now)) (adds_three c.in_ok-push.ensures c.in_ok-push_hex.ensures c.push-2.ensures)
