use Rattle.std.proofs.Common.{◌≡◌, ◌/◌, ◌%◌, ◌^◌, get_or, bit_and, sym, ◌∙◌, arith}
use Rattle.std.proofs.lemmas.Grind.{common_steps}
use Rattle.capnp_format.specs.Bytes.{words_of}
use Rattle.capnp_format.proofs.WordsOf.{words}
use Rattle.capnp_format.specs.Fields.{field_in}
use Rattle.capnp_in_place.proofs.Fields.BitsRead.{bit_read}
use Rattle.capnp_in_place.proofs.numbers.bit_in.Goals as goal

pub bounds-bytes-bit : goal.bounds-bytes-bit
bounds-bytes-bit c = omega (arith, words c.args.bytes.now)

pub returns : goal.returns
returns c =
    let bs = c.args.bytes.now in
    let bit = c.args.bit in
    let is : bit_and (get_or bs (bit / 8) 0 / 2 ^ (bit % 8)) 1 ≡ field_in (words_of bs) bit 1 = bit_read bit bs (λ j. omega (arith, c.type_inv.bytes j)) (omega arith) in
    (λ h. sym is ∙ grind (arith, common_steps), λ h. grind (arith, common_steps))
