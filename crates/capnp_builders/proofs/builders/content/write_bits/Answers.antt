use Rattle.std.proofs.Common.{◌≡◌, ℕ, suc, ◌+◌, ◌*◌, ◌/◌, ◌%◌, ◌^◌, length, ap, ◌∙◌, arith}
use Rattle.capnp_arena_traits.specs.View.{View}
use Rattle.capnp_format.specs.Segments.{Segments, segment}
use Rattle.capnp_allocation.specs.Fields.{with_field}
use Rattle.capnp_builders.specs.Content.{with_fields, fields_from}
use Rattle.capnp_builders.proofs.ContentWritten.{fields_long, bit_is}
use Rattle.capnp_builders.proofs.builders.content.write_bits.Goals as goal

pub set_bit-requires : goal.set_bit-requires
set_bit-requires g c =
    let M : Segments = (g.A.BuilderArena.view c.args.arena.now).words in
    let long : length (segment (g.A.BuilderArena.view c.loop-j.arena).words c.args.id) ≡ length (segment M c.args.id) =
    ap (λ (v : View). length (segment v.words c.args.id)) c.loop-j.invariant ∙ fields_long M c.args.id c.args.start 1 (λ j. c.args.byte / 2 ^ j % 2) c.loop-j.j c.args.id in
    record { inside = omega (arith, long, c.requires.inside, c.loop-j-test.true, c.from.ensures) }

pub loop-j-preserved : goal.loop-j-preserved
loop-j-preserved g c =
    let old : View = g.A.BuilderArena.view c.args.arena.now in
    let V : View = g.A.BuilderArena.view c.loop-j.arena in
    let id : ℕ = c.args.id in
    let start : ℕ = c.args.start in
    let j : ℕ = c.loop-j.j in
    let T : Segments = with_fields old.words id (fields_from start 1 (λ i. c.args.byte / 2 ^ i % 2)) j in
    let x : ℕ = c.args.byte / 2 ^ j % 2 in
    c.set_bit.ensures.written
    ∙ ap (λ (y : ℕ). record V { words = with_field V.words id (start + c.from.result) 1 y }) (bit_is (c.args.byte / 2 ^ j))
    ∙ ap (λ (v : View). record v { words = with_field v.words id (start + c.from.result) 1 x }) c.loop-j.invariant
    ∙ ap (λ (k : ℕ). record old { words = with_field T id k 1 x }) (let e : start + c.from.result ≡ start + j * 1 = omega (arith, c.from.ensures) in e)
    ∙ ap (λ (n : ℕ). record old { words = with_fields old.words id (fields_from start 1 (λ i. c.args.byte / 2 ^ i % 2)) n }) (let e : suc j ≡ j + 1 = omega arith in e)
