use Rattle.std.proofs.Common.{◌++◌, sym, ap, ◌∙◌, arith}
use Rattle.std.specs.Prelude.{codes}
use Rattle.std.specs.Fmt.{decimal}
use Rattle.capnp_words.specs.declared.wire_pointer.ElementSize.TheVariants.{Void}
use Rattle.capnp_show.specs.Line.{bytes_member, member}
use Rattle.capnp_show.specs.Numbers.{flat_numbers}
use Rattle.capnp_show.proofs.Adds.{adds_as}
use Rattle.capnp_show.proofs.Elements.{bytes_are, length_numbers, numbers_alone}
use Rattle.capnp_show.proofs.show.text.Text.push_primitive_list.Goals as goal

pub returns-in-Void : goal.returns-in-Void
returns-in-Void c =
    rw c.in-Void.is (adds_as (ap (λ n. member (codes "void") (decimal n) ++ codes "}") (c.from.ensures ∙ sym (length_numbers c.args.start Void c.args.count))) c.push_last_number.ensures)

pub returns-in-Byte : goal.returns-in-Byte
returns-in-Byte c =
    let at_hand = rw c.in-Byte.is at c.requires.at_hand in
    rw c.in-Byte.is (adds_as (ap (λ bs. bytes_member bs ++ codes "}") (c.bytes_at.ensures ∙ bytes_are c.args.start c.args.count c.bytes_are_below_256.ensures (at_hand.1 (omega arith)))) c.push_bytes_member.ensures)

pub returns-in_default : goal.returns-in_default
returns-in_default c =
    adds_as (ap (λ ms. ms ++ codes "}") (sym (numbers_alone c.args.size (flat_numbers c.args.start c.args.size c.args.count) c.in_default.not-Void c.in_default.not-Byte))) c.push_numbers_member.ensures
