use Rattle.std.proofs.Common.{rules, ◌≡◌, ℕ, ◌+◌, ◌-◌, ◌*◌, ◌/◌, ◌<◌, ◌≤◌, List, length, get_or, Fits, w8, sym, ap, ◌∙◌, arith}
use Rattle.capnp_arena_traits.specs.Written.{overwritten}
use Rattle.capnp_format.specs.Bytes.{message}
use Rattle.capnp_format.specs.Segments.{Segments}
use Rattle.capnp_in_place.proofs.ByteLists.BytesWritten.{put_over}
use Rattle.capnp_arena_traits.proofs.WordsLent.{words_lent}
use Rattle.capnp_allocation.proofs.Zeros.{length-over}
use Rattle.capnp_builders.specs.Content.{with_fields, fields_from}
use Rattle.capnp_builders.proofs.BytesAsFields.{bytes_as_fields}
use Rattle.capnp_builders.proofs.builders.content.copy_bytes.Goals as goal

pub slice_bounds-copy-end : goal.slice_bounds-copy-end
slice_bounds-copy-end g c =
    omega (arith, words_lent (g.A.BuilderArena.view c.args.arena.now).words (g.A.ReaderArena.segments c.args.arena.now) c.args.id c.segment_mut-bytes.result.now (g.met.A.BuilderArena.read c.args.arena.now) c.segment_mut-bytes.ensures.bytes, c.requires.inside)

pub returns-then-not-is_empty : goal.returns-then-not-is_empty
returns-then-not-is_empty g c =
    let a = c.args.arena.now in
    let id = c.args.id in
    let b = c.args.start in
    let bs : List ℕ = c.segment_mut-bytes.result.now in
    let xs : List ℕ = c.args.from.now in
    let there = c.segment_mut-bytes.ensures.bytes in
    let small : (j : ℕ) → get_or bs j 0 < 256 = λ j. (let h : Fits w8 (get_or bs j 0) = search rules in h.fits) in
    let below : (j : ℕ) → get_or xs j 0 < 256 = λ j. omega (arith, c.type_inv.from j) in
    let inside : b + length xs ≤ 8 * (length bs / 8) = omega (arith, words_lent (g.A.BuilderArena.view a).words (g.A.ReaderArena.segments a) id bs (g.met.A.BuilderArena.read a) there, c.requires.inside) in
    let over = put_over b (b + length xs - b) bs c.copy.new.to xs c.copy.ensures (omega arith) in
    let long : length (overwritten bs b xs) ≡ length bs = length-over bs b xs (omega (arith, inside)) in
    ap (λ (ys : List ℕ). g.A.BuilderArena.view (g.A.BuilderArena.with_bytes a id ys)) over
    ∙ g.met.A.BuilderArena.with_bytes_view a id (overwritten bs b xs)
    ∙ ap (λ (W : Segments). record (g.A.BuilderArena.view a) { words = W }) (
    g.met.A.BuilderArena.read (g.A.BuilderArena.with_bytes a id (overwritten bs b xs))
    ∙ ap message (g.met.A.BuilderArena.with_bytes_segments a id bs (overwritten bs b xs) there long)
    ∙ bytes_as_fields xs (g.A.ReaderArena.segments a) id b bs there small below inside
    ∙ ap (λ (M : Segments). with_fields M id (fields_from (8 * b) 8 (λ i. get_or xs i 0)) (length xs)) (sym (g.met.A.BuilderArena.read a))
    )
