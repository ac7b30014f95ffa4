use Rattle.std.proofs.Common.{refl, ap, ◌<◌, arith}
use Rattle.capnp_words.specs.Sizes.{size_number}
use Rattle.capnp_format.specs.Numbers.{element_bits}
use Rattle.capnp_edits.proofs.Fields.{number_put, number_small, eight_bytes}
use Rattle.capnp_edits.proofs.edit.fields.put_field.Goals as goal

pub returns-in-Byte-clause-put : goal.returns-in-Byte-clause-put
returns-in-Byte-clause-put g c =
    let wide = ap (λ s. element_bits (size_number s)) c.in-Byte.is in
    let small : c.args.number.value < 256 = number_small c.args.number.size c.args.number.value 8 wide c.requires.range in
    number_put _ _ c.args.parent c.args.number 1 _ _ wide (omega (arith, small)) c.put_number.ensures.put

pub returns-in-TwoBytes-clause-put : goal.returns-in-TwoBytes-clause-put
returns-in-TwoBytes-clause-put g c =
    let wide = ap (λ s. element_bits (size_number s)) c.in-TwoBytes.is in
    let small : c.args.number.value < 65536 = number_small c.args.number.size c.args.number.value 16 wide c.requires.range in
    number_put _ _ c.args.parent c.args.number 2 _ _ wide (omega (arith, small)) c.put_number-in-TwoBytes.ensures.put

pub returns-in-FourBytes-clause-put : goal.returns-in-FourBytes-clause-put
returns-in-FourBytes-clause-put g c =
    let wide = ap (λ s. element_bits (size_number s)) c.in-FourBytes.is in
    let small : c.args.number.value < 4294967296 = number_small c.args.number.size c.args.number.value 32 wide c.requires.range in
    number_put _ _ c.args.parent c.args.number 4 _ _ wide (omega (arith, small)) c.put_number-in-FourBytes.ensures.put

-- The only other size of a number is 8 bytes.
pub returns-in_default : goal.returns-in_default
returns-in_default g c =
    let wide = eight_bytes c.args.number.size c.args.number.value c.requires.range c.in_default.not-Bit c.in_default.not-Byte c.in_default.not-TwoBytes c.in_default.not-FourBytes in
    record {
      put = number_put _ _ c.args.parent c.args.number 8 _ _ wide refl c.put_number-in_default.ensures.put;
      only = c.put_number-in_default.ensures.only;
      named = c.put_number-in_default.ensures.named;
    }
