use Rattle.std.proofs.Common.{◌≡◌, ℕ, ◌+◌, ◌-◌, ◌*◌, List, [], length, drop, take, slice_index_or, refl, ap, ◌∙◌, arith}
use Rattle.capnp_format.specs.Segments.{Segments}
use Rattle.capnp_arena_traits.specs.Written.{overwritten}
use Rattle.capnp_in_place.specs.InPlace.{bytes_there, rewritten, segments_with}
use Rattle.capnp_in_place.proofs.ByteLists.WrittenInPlace.{there_got, inside_bytes, count_bytes}
use Rattle.capnp_in_place.proofs.ByteLists.FirstBytesWritten.{overwrites}
use Rattle.capnp_allocation.proofs.Zeros.{length-over}
use Rattle.capnp_in_place.proofs.lent.bytes_mut.Goals as goal

pub bytes_between_mut-requires-clause-inside : goal.bytes_between_mut-requires-clause-inside
bytes_between_mut-requires-clause-inside g c =
    inside_bytes (g.A.BuilderArena.view c.args.arena.now).words (g.A.ReaderArena.segments c.args.arena.now) c.args.bytes (g.met.A.BuilderArena.read c.args.arena.now) c.requires.inside

pub returns : goal.returns
returns g c =
    let S : Segments = (g.A.BuilderArena.view c.args.arena.now).words in
    let B : List (List ℕ) = g.A.ReaderArena.segments c.args.arena.now in
    let bs : List ℕ = slice_index_or B c.args.bytes.segment [] in
    let a : ℕ = 8 * c.args.bytes.start in
    let n : ℕ = c.args.bytes.length in
    let then = rewritten g.A.BuilderArena.with_bytes g.A.ReaderArena.segments c.args.arena.now c.args.bytes in
    let same = g.met.A.BuilderArena.read c.args.arena.now in
    let now : c.bytes_between_mut.result.now ≡ bytes_there B c.args.bytes = c.bytes_between_mut.ensures.now ∙ ap (λ k. take k (drop a bs)) (let e : a + n - a ≡ n = omega arith in e) in
    let room = inside_bytes S B c.args.bytes same c.requires.inside in
    let segments : (ws : List ℕ) → length ws ≡ n → g.A.ReaderArena.segments (then ws) ≡ segments_with B c.args.bytes ws = λ ws l.
    g.met.A.BuilderArena.with_bytes_segments c.args.arena.now c.args.bytes.segment bs (overwritten (slice_index_or B c.args.bytes.segment []) (8 * c.args.bytes.start) ws)
    (there_got S B c.args.bytes.segment same c.requires.there) (length-over bs a ws (omega (arith, room, l))) in (
      (refl {a = c.bytes_between_mut.result.ghost_name}, λ w. refl {a = then w}),
      record {
        lends = tt;
        now = now;
        count = ap length now ∙ count_bytes S B c.args.bytes same c.requires.inside;
        segments = segments;
        written = λ ws are. overwrites S (g.A.BuilderArena.view (then ws)).words B (g.A.ReaderArena.segments (then ws)) c.args.bytes ws same (g.met.A.BuilderArena.read (then ws)) (segments ws are.0) c.bytes_between_mut.ensures.small are;
      },
    )
