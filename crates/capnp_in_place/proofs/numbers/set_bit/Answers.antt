use Rattle.std.proofs.Common.{rules, ◌-◌, ◌*◌, ◌/◌, ◌%◌, ◌^◌, ◌<◌, ℕ, Bool, cond, List, get_or, set, bit_or, bit_and, Fits, w8, sym, ap, ◌∙◌, arith}
use Rattle.std.proofs.lemmas.List.{length-set}
use Rattle.capnp_format.specs.Bytes.{message}
use Rattle.capnp_format.specs.Segments.{Segments}
use Rattle.capnp_allocation.specs.Fields.{with_field}
use Rattle.capnp_in_place.proofs.Fields.BitWritten.{bit_written}
use Rattle.capnp_arena_traits.proofs.WordsLent.{words_lent}
use Rattle.capnp_in_place.proofs.Fields.BitsReplaced.{bit_set, bit_cleared}
use Rattle.capnp_in_place.proofs.Room.PlacesStay.{field_grows}
use Rattle.capnp_in_place.proofs.numbers.set_bit.Goals as goal

pub bounds-bytes-bit : goal.bounds-bytes-bit
bounds-bytes-bit g c = omega (arith, words_lent (g.A.BuilderArena.view c.args.arena.now).words (g.A.ReaderArena.segments c.args.arena.now) c.args.id c.segment_mut-bytes.result.now (g.met.A.BuilderArena.read c.args.arena.now) c.segment_mut-bytes.ensures.bytes, c.requires.inside)

pub returns-then-value-clause-written : goal.returns-then-value-clause-written
returns-then-value-clause-written g c =
    let a = c.args.arena.now in
    let id = c.args.id in
    let bit = c.args.bit in
    let bs = c.segment_mut-bytes.result.now in
    let there = c.segment_mut-bytes.ensures.bytes in
    let y : ℕ = bit_or (get_or bs (bit / 8) 0) (1 * 2 ^ (bit % 8) % 256) in
    let ws : List ℕ = set bs (bit / 8) y in
    let small : (j : ℕ) → get_or bs j 0 < 256 = λ j. (let h : Fits w8 (get_or bs j 0) = search rules in h.fits) in
    g.met.A.BuilderArena.with_bytes_view a id ws
    ∙ ap (λ (W : Segments). record (g.A.BuilderArena.view a) { words = W }) (
    g.met.A.BuilderArena.read (g.A.BuilderArena.with_bytes a id ws)
    ∙ ap message (g.met.A.BuilderArena.with_bytes_segments a id bs ws there (length-set bs (bit / 8) y))
    ∙ bit_written (g.A.ReaderArena.segments a) id bit 1 y bs there small (omega arith) (omega (arith, words_lent (g.A.BuilderArena.view a).words (g.A.ReaderArena.segments a) id bs (g.met.A.BuilderArena.read a) there, c.requires.inside)) (bit_set (get_or bs (bit / 8) 0) (bit % 8) (omega arith))
    ∙ ap (λ (M : Segments). with_field M id bit 1 1) (sym (g.met.A.BuilderArena.read a))
    ∙ ap (λ (b : Bool). with_field (g.A.BuilderArena.view a).words id bit 1 (cond b 1 0)) (sym c.if-value.true)
    )

pub returns-else-value-clause-written : goal.returns-else-value-clause-written
returns-else-value-clause-written g c =
    let a = c.args.arena.now in
    let id = c.args.id in
    let bit = c.args.bit in
    let bs = c.segment_mut-bytes.result.now in
    let there = c.segment_mut-bytes.ensures.bytes in
    let y : ℕ = bit_and (get_or bs (bit / 8) 0) (255 - 1 * 2 ^ (bit % 8) % 256) in
    let ws : List ℕ = set bs (bit / 8) y in
    let small : (j : ℕ) → get_or bs j 0 < 256 = λ j. (let h : Fits w8 (get_or bs j 0) = search rules in h.fits) in
    g.met.A.BuilderArena.with_bytes_view a id ws
    ∙ ap (λ (W : Segments). record (g.A.BuilderArena.view a) { words = W }) (
    g.met.A.BuilderArena.read (g.A.BuilderArena.with_bytes a id ws)
    ∙ ap message (g.met.A.BuilderArena.with_bytes_segments a id bs ws there (length-set bs (bit / 8) y))
    ∙ bit_written (g.A.ReaderArena.segments a) id bit 0 y bs there small (omega arith) (omega (arith, words_lent (g.A.BuilderArena.view a).words (g.A.ReaderArena.segments a) id bs (g.met.A.BuilderArena.read a) there, c.requires.inside)) (bit_cleared (get_or bs (bit / 8) 0) (bit % 8) (small (bit / 8)) (omega arith))
    ∙ ap (λ (M : Segments). with_field M id bit 1 0) (sym (g.met.A.BuilderArena.read a))
    ∙ ap (λ (b : Bool). with_field (g.A.BuilderArena.view a).words id bit 1 (cond b 1 0)) (sym c.if-value.false)
    )

pub returns-then-value-clause-grows : goal.returns-then-value-clause-grows
returns-then-value-clause-grows g c = field_grows (g.A.BuilderArena.view c.args.arena.now) _ c.args.id c.args.bit 1 (cond c.args.value 1 0) (returns-then-value-clause-written g c)

pub returns-else-value-clause-grows : goal.returns-else-value-clause-grows
returns-else-value-clause-grows g c = field_grows (g.A.BuilderArena.view c.args.arena.now) _ c.args.id c.args.bit 1 (cond c.args.value 1 0) (returns-else-value-clause-written g c)
