use Rattle.std.proofs.Common.{arith, ap, ◌∙◌, ◌*◌}
use Rattle.capnp_readers.specs.Sections.{IsInside}
use Rattle.capnp_readers.proofs.Fields.{field_value}
use Rattle.capnp_readers.proofs.NumberValues.{field_alone}
use Rattle.capnp_readers.proofs.Sections.{inside_bytes, bytes_inside}
use Rattle.capnp_readers.proofs.readers.struct_reader.StructReader.get_data_field.Goals as goal

pub returns-else-offset-self-clause-inside : goal.returns-else-offset-self-clause-inside
returns-else-offset-self-clause-inside g c h =
    let there = inside_bytes c.args.self.now.bits g.T.Primitive.BYTES c.args.offset g.T.Primitive.positive h in
    let never : ⊥ = omega (arith, there, rw c.BYTES-n.ensures at c.if-offset-self.false) in
    absurd never

pub returns-then-offset-self-clause-value : goal.returns-then-offset-self-clause-value
returns-then-offset-self-clause-value g c = λ t shows.
    let self = c.args.self.now in
    let n = g.T.Primitive.BYTES in
    let inside = bytes_inside self.bits n c.args.offset (rw c.BYTES-n.ensures at c.if-offset-self.true) in
    field_value g.A.ReaderArena n c.args.offset self t g.T.Primitive.positive g.T.Primitive.small g.T.Primitive.divides c.bytes_are_below_256.ensures
    (λ within. rw c.BYTES-n.ensures at c.load.ensures.little_endian) (λ beyond. absurd (beyond inside)) shows

pub returns-else-offset-self-clause-value : goal.returns-else-offset-self-clause-value
returns-else-offset-self-clause-value g c = λ t shows.
    let self = c.args.self.now in
    let n = g.T.Primitive.BYTES in
    let never = λ (h : IsInside self.bits (8 * n) c.args.offset). (let there = inside_bytes self.bits n c.args.offset g.T.Primitive.positive h in let no : ⊥ = omega (arith, there, rw c.BYTES-n.ensures at c.if-offset-self.false) in no) in
    field_value g.A.ReaderArena n c.args.offset self t g.T.Primitive.positive g.T.Primitive.small g.T.Primitive.divides c.bytes_are_below_256.ensures
    (λ within. absurd (never within)) (λ beyond. ap g.T.Primitive.bits_of c.zero.ensures ∙ g.met.T.Zero.no_bits) shows

pub returns-then-offset-self-clause-number : goal.returns-then-offset-self-clause-number
returns-then-offset-self-clause-number g c =
    let self = c.args.self.now in
    let n = g.T.Primitive.BYTES in
    let inside = bytes_inside self.bits n c.args.offset (rw c.BYTES-n.ensures at c.if-offset-self.true) in
    field_alone g.A.ReaderArena n c.args.offset self g.T.Primitive.positive c.bytes_are_below_256.ensures (λ within. rw c.BYTES-n.ensures at c.load.ensures.little_endian) (λ beyond. absurd (beyond inside))

pub returns-else-offset-self-clause-number : goal.returns-else-offset-self-clause-number
returns-else-offset-self-clause-number g c =
    let self = c.args.self.now in
    let n = g.T.Primitive.BYTES in
    let never = λ (h : IsInside self.bits (8 * n) c.args.offset). (let there = inside_bytes self.bits n c.args.offset g.T.Primitive.positive h in let no : ⊥ = omega (arith, there, rw c.BYTES-n.ensures at c.if-offset-self.false) in no) in
    field_alone g.A.ReaderArena n c.args.offset self g.T.Primitive.positive c.bytes_are_below_256.ensures (λ within. absurd (never within)) (λ beyond. ap g.T.Primitive.bits_of c.zero.ensures ∙ g.met.T.Zero.no_bits)
