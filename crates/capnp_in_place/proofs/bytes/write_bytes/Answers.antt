use Rattle.std.proofs.Common.{◌≡◌, ℕ, ◌+◌, ◌-◌, ◌*◌, List, length, slice_set, sym, ap, ◌∙◌, arith}
use Rattle.capnp_arena_traits.specs.Written.{overwritten}
use Rattle.capnp_in_place.proofs.ByteLists.BytesWritten.{bytes_room, found, put_over}
use Rattle.capnp_allocation.proofs.Zeros.{length-over}
use Rattle.capnp_in_place.proofs.bytes.write_bytes.Goals as goal

pub slice_bounds-copy-end : goal.slice_bounds-copy-end
slice_bounds-copy-end g c =
    omega (arith, bytes_room (g.A.BuilderArena.view c.args.arena.now).words (g.A.ReaderArena.segments c.args.arena.now) c.args.start.segment c.segment_mut.result.now (g.met.A.BuilderArena.read c.args.arena.now) c.segment_mut.ensures.bytes)

pub returns-then-not-is_empty-clause-written : goal.returns-then-not-is_empty-clause-written
returns-then-not-is_empty-clause-written g c =
    let B : List (List ℕ) = g.A.ReaderArena.segments c.args.arena.now in
    let id : ℕ = c.args.start.segment in
    let a : ℕ = 8 * c.args.start.at in
    let bs : List ℕ = c.segment_mut.result.now in
    let xs : List ℕ = c.args.from.now in
    let over = put_over a (a + length xs - a) bs c.copy.new.to xs c.copy.ensures (omega arith) in
    let room = bytes_room (g.A.BuilderArena.view c.args.arena.now).words B id bs (g.met.A.BuilderArena.read c.args.arena.now) c.segment_mut.ensures.bytes in
    let long : length (overwritten bs a xs) ≡ length bs = length-over bs a xs (omega (arith, room)) in
    λ some. g.met.A.BuilderArena.with_bytes_segments c.args.arena.now id bs _ c.segment_mut.ensures.bytes (ap length over ∙ long)
    ∙ ap (slice_set B id) (over ∙ ap (λ ys. overwritten ys a xs) (sym (found B id bs c.segment_mut.ensures.bytes)))
