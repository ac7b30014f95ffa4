use Rattle.std.proofs.Common.{◌∙◌, ap, bit_xor}
use Rattle.typed_building.proofs.reading.get_number_or.Goals as goal

pub returns : goal.returns
returns g c = λ x ws ts h. c.mask.ensures.bits ∙ ap (λ n. bit_xor n (g.T.Mask.mask_bits c.args.default)) (c.get_number.ensures x ws ts h)
