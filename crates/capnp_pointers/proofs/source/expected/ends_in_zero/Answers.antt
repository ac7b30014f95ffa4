use Rattle.std.proofs.Common.{◌≡◌, ◌+◌, ◌-◌, ◌*◌, ◌/◌, ◌%◌, ◌^◌, ◌<◌, bit_and, sym, ap, ◌∙◌, arith, eq-eqb, eqb-true}
use Rattle.std.proofs.lemmas.Nat.{and_mask}
use Rattle.capnp_format.specs.Bytes.{words_of}
use Rattle.capnp_pointers.specs.Reading.{list_byte}
use Rattle.capnp_pointers.proofs.OneObject.LastByteOfText.{last_of_bytes}
use Rattle.capnp_pointers.proofs.source.expected.ends_in_zero.Goals as goal

pub returns : goal.returns
returns c =
    let n = c.args.count in
    let o = 8 * ((n - 1) % 8) in
    let some : 0 < n = omega (arith, c.if-count-eq0.false) in
    let last : bit_and (c.word_at-word.result / 2 ^ o) 255 ≡ list_byte (words_of c.args.bytes.now) c.args.start n (n - 1) =
    and_mask (c.word_at-word.result / 2 ^ o) 8 ∙ ap (λ w. w / 2 ^ o % 2 ^ 8) c.word_at-word.ensures ∙ sym (last_of_bytes c.args.bytes.now c.args.start n (λ i. omega (arith, c.type_inv.bytes i)) c.requires some) in
    (λ is. (some, sym last ∙ eqb-true _ _ is), λ zero. eq-eqb _ _ (last ∙ zero.1))
