use Rattle.std.proofs.Common.{◌≡◌, ◌++◌, ap, ◌∙◌, drop, length, arith}
use Rattle.std.proofs.lemmas.List.{nil_from_length}
use Rattle.hex.specs.Hex.{encode_lower}
use Rattle.capnp_show.proofs.Adds.{all_added, encode-nil, encode-parts, part_added, part_stops, rest_of}
use Rattle.capnp_show.proofs.show.text.Text.push_hex.Goals as goal

pub returns-in_err-push_digits : goal.returns-in_err-push_digits
returns-in_err-push_digits c =
    let rest = c.loop-rest.rest.now in
    let n = c.min-n.result in
    part_stops c.from_residual.result _ _ _ (encode_lower (drop n rest)) c.from_residual.ensures.1
    (ap (λ zs. c.loop-rest.self.bytes.items ++ zs) (encode-parts n rest) ∙ c.loop-rest.invariant) c.in_err-push_digits.ensures

pub loop-rest-preserved : goal.loop-rest-preserved
loop-rest-preserved c =
    let rest = c.loop-rest.rest.now in
    let n = c.min-n.result in
    ap (λ zs. c.push_digits.new.self.bytes.items ++ encode_lower zs) (rest_of n rest)
    ∙ part_added (encode_lower (drop n rest)) _ (ap (λ zs. c.loop-rest.self.bytes.items ++ zs) (encode-parts n rest) ∙ c.loop-rest.invariant) c.in_ok-push_digits.ensures

pub returns : goal.returns
returns c =
    let none : length c.loop-rest.rest.now ≡ 0 = grind arith in
    all_added _ c.loop-rest.self.bytes.items _ _ (encode_lower c.loop-rest.rest.now) c.loop-rest.invariant (ap encode_lower (nil_from_length c.loop-rest.rest.now none) ∙ encode-nil)
