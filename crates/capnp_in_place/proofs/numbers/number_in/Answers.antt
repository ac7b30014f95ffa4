use Rattle.std.proofs.Common.{◌+◌, ◌-◌, ◌/◌, ◌%◌, ◌<◌, ◌≤◌, ℕ, length, get_or, ◌∙◌, arith}
use Rattle.capnp_format.specs.Bytes.{words_of}
use Rattle.capnp_format.proofs.WordsOf.{words}
use Rattle.capnp_format.proofs.FieldBytes.{in_one_word, bytes_read}
use Rattle.capnp_in_place.proofs.numbers.number_in.Goals as goal

pub overflow_add-start : goal.overflow_add-start
overflow_add-start g c = record { fits = omega (arith, words c.args.bytes.now, c.requires.inside, c.requires.small, c.BYTES.ensures) }

pub slice_bounds-load-end : goal.slice_bounds-load-end
slice_bounds-load-end g c = omega (arith, words c.args.bytes.now, c.requires.inside, c.BYTES.ensures)

pub returns : goal.returns
returns g c =
    let b = c.args.byte in
    let n = g.T.Primitive.BYTES in
    let m : ℕ = b + c.BYTES.result - b in
    let bs = c.args.bytes.now in
    let small : (j : ℕ) → get_or bs j 0 < 256 = λ j. omega (arith, c.type_inv.bytes j) in
    let alone : b % 8 + n ≤ 8 = in_one_word n b g.T.Primitive.positive g.T.Primitive.small g.T.Primitive.divides c.requires.aligned in
    let inside : b / 8 < length (words_of bs) = omega (arith, c.requires.inside, g.T.Primitive.positive) in
    c.load.ensures.little_endian ∙ bytes_read b n m bs (omega (arith, c.BYTES.ensures)) small alone inside
