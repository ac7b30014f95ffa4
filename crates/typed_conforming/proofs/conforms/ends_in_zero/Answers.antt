use Rattle.std.proofs.Common.{◌≡◌, ℕ, ◌-◌, ◌*◌, ◌/◌, ◌%◌, ◌^◌, ◌<◌, true, nat_eq, nat_lt, bit_and, sym, ap, ◌∙◌, arith, lt-ltb}
use Rattle.std.proofs.lemmas.Nat.{and_mask}
use Rattle.capnp_format.specs.Bytes.{words_of}
use Rattle.capnp_pointers.specs.Reading.{list_byte}
use Rattle.capnp_pointers.proofs.OneObject.LastByteOfText.{last_of_bytes}
use Rattle.typed_conforming.proofs.conforms.ends_in_zero.Goals as goal

pub returns : goal.returns
returns c = λ S s held.
    let n : ℕ = c.args.count in
    let o : ℕ = 8 * ((n - 1) % 8) in
    let some : 0 < n = omega (arith, c.if-count-eq0.false) in
    let more : nat_lt 0 n ≡ true = lt-ltb _ _ some in
    let last : bit_and (c.word_at-word.result / 2 ^ o) 255 ≡ list_byte (words_of c.args.bytes.now) c.args.start n (n - 1) =
    and_mask (c.word_at-word.result / 2 ^ o) 8 ∙ ap (λ w. w / 2 ^ o % 2 ^ 8) c.word_at-word.ensures ∙ sym (last_of_bytes c.args.bytes.now c.args.start n (λ i. omega (arith, c.type_inv.bytes i)) c.requires some) in
    rw more (ap (λ x. nat_eq x 0) (last ∙ ap (λ ws. list_byte ws c.args.start n (n - 1)) held))
