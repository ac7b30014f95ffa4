use Rattle.std.proofs.Common.{◌≡◌, ℕ, ◌-◌, ◌*◌, ◌/◌, ◌%◌, ◌^◌, List, drop, ap, ◌∙◌, arith}
use Rattle.capnp_format.specs.Numbers.{from_digits}
use Rattle.capnp_format.specs.Value.{AreBelow}
use Rattle.capnp_builders.proofs.DataSections.{each_below, digit_ahead, digits_small}
use Rattle.capnp_copies.proofs.Padding.{mask_is}
use Rattle.capnp_builders.proofs.section.last_partial_word.Goals as goal

pub overflow_mul-word : goal.overflow_mul-word
overflow_mul-word c =
    let bs : List ℕ = c.args.bytes.now in
    let i : ℕ = c.loop-i.i - 1 in
    let below : AreBelow 256 bs = each_below bs (λ k. omega (arith, c.type_inv.bytes k)) in
    let next = digit_ahead i c.loop-i.i bs (omega (arith, c.loop-i.invariant.within, c.loop-i-test.true)) (omega (arith, c.loop-i-test.true)) in
    let small = digits_small i bs below (omega (arith, c.requires.long, c.loop-i.invariant.above, c.loop-i-test.true)) in
    omega (arith, next, small, c.loop-i.invariant.value)

pub overflow_add-word : goal.overflow_add-word
overflow_add-word c =
    let bs : List ℕ = c.args.bytes.now in
    let i : ℕ = c.loop-i.i - 1 in
    let below : AreBelow 256 bs = each_below bs (λ k. omega (arith, c.type_inv.bytes k)) in
    let next = digit_ahead i c.loop-i.i bs (omega (arith, c.loop-i.invariant.within, c.loop-i-test.true)) (omega (arith, c.loop-i-test.true)) in
    let small = digits_small i bs below (omega (arith, c.requires.long, c.loop-i.invariant.above, c.loop-i-test.true)) in
    omega (arith, next, small, c.loop-i.invariant.value, c.from.ensures)

pub loop-i-preserved : goal.loop-i-preserved
loop-i-preserved c =
    let bs : List ℕ = c.args.bytes.now in
    let i : ℕ = c.loop-i.i - 1 in
    let next = digit_ahead i c.loop-i.i bs (omega (arith, c.loop-i.invariant.within, c.loop-i-test.true)) (omega (arith, c.loop-i-test.true)) in
    record { above = omega (arith, c.loop-i-test.true); within = omega (arith, c.loop-i.invariant.within); value = omega (arith, next, c.loop-i.invariant.value, c.from.ensures) }

pub returns : goal.returns
returns c =
    mask_is c.loop-i.word (c.args.bits % 64) (omega arith)
    ∙ ap (λ x. x % 2 ^ (c.args.bits % 64)) (c.loop-i.invariant.value ∙ ap (λ k. from_digits 256 (drop k c.args.bytes.now)) (let e : c.loop-i.i ≡ 8 * (c.args.bits / 64) = omega (arith, c.loop-i.invariant.above, c.loop-i-test.false) in e))
