use Rattle.std.proofs.Common.{rules, ◌≡◌, ◌+◌, ◌-◌, ◌*◌, ◌/◌, ◌%◌, ◌<◌, ◌≤◌, ℕ, List, length, get_or, drop, length-take, length-drop, Fits, w8, sym, ap, ◌∙◌, arith}
use borrow.Rule.Slice.PartMut.{put_mid}
use Rattle.capnp_format.specs.Bytes.{words_of, message}
use Rattle.capnp_format.proofs.WordsOf.{words}
use Rattle.capnp_format.specs.Segments.{Segments}
use Rattle.capnp_allocation.specs.Fields.{with_field}
use Rattle.capnp_format.specs.Fields.{put_field}
use Rattle.capnp_arena_traits.proofs.WordsLent.{words_lent}
use Rattle.capnp_allocation.proofs.FieldBytes.{message_written}
use Rattle.capnp_format.proofs.FieldBytes.{in_one_word, length-put, words_of-put_field}
use Rattle.capnp_in_place.proofs.Room.PlacesStay.{field_grows}
use Rattle.capnp_in_place.proofs.numbers.set_number.Goals as goal

pub slice_bounds-store-end : goal.slice_bounds-store-end
slice_bounds-store-end g c =
    omega (arith, words_lent (g.A.BuilderArena.view c.args.arena.now).words (g.A.ReaderArena.segments c.args.arena.now) c.args.id c.segment_mut-bytes.result.now (g.met.A.BuilderArena.read c.args.arena.now) c.segment_mut-bytes.ensures.bytes, c.requires.inside, c.BYTES.ensures)

pub returns-clause-written : goal.returns-clause-written
returns-clause-written g c =
    let a = c.args.arena.now in
    let id = c.args.id in
    let b = c.args.byte in
    let n = g.T.Primitive.BYTES in
    let v = g.T.Primitive.bits_of c.args.value in
    let m : ℕ = b + c.BYTES.result - b in
    let ys = c.store.new.bytes in
    let bs = c.segment_mut-bytes.result.now in
    let there = c.segment_mut-bytes.ensures.bytes in
    let ws : List ℕ = put_mid b m bs ys in
    let small : (j : ℕ) → get_or bs j 0 < 256 = λ j. (let h : Fits w8 (get_or bs j 0) = search rules in h.fits) in
    let inside : b + n ≤ 8 * (length bs / 8) = omega (arith, words_lent (g.A.BuilderArena.view a).words (g.A.ReaderArena.segments a) id bs (g.met.A.BuilderArena.read a) there, c.requires.inside) in
    let width : m ≡ n = omega (arith, c.BYTES.ensures) in
    let many : length ys ≡ n = omega (arith, c.store.auto.bytes, length-take m (drop b bs), length-drop b bs, width, inside) in
    let alone : b % 8 + n ≤ 8 = in_one_word n b g.T.Primitive.positive g.T.Primitive.small g.T.Primitive.divides c.requires.aligned in
    let words_now : words_of ws ≡ put_field (words_of bs) (8 * b) (8 * n) v = words_of-put_field b n m v bs ys width c.store.ensures.little_endian small many alone (omega (arith, words bs, inside, g.T.Primitive.positive)) in
    g.met.A.BuilderArena.with_bytes_view a id ws
    ∙ ap (λ (W : Segments). record (g.A.BuilderArena.view a) { words = W }) (
    g.met.A.BuilderArena.read (g.A.BuilderArena.with_bytes a id ws)
    ∙ ap message (g.met.A.BuilderArena.with_bytes_segments a id bs ws there (length-put b m bs ys (omega (arith, width, inside)) (many ∙ sym width)))
    ∙ message_written (g.A.ReaderArena.segments a) id bs ws (8 * b) (8 * n) v there words_now
    ∙ ap (λ (M : Segments). with_field M id (8 * b) (8 * n) v) (sym (g.met.A.BuilderArena.read a))
    )

pub returns-clause-grows : goal.returns-clause-grows
returns-clause-grows g c =
    field_grows (g.A.BuilderArena.view c.args.arena.now) (g.A.BuilderArena.view (g.A.BuilderArena.with_bytes c.args.arena.now c.args.id (put_mid c.args.byte (c.args.byte + c.BYTES.result - c.args.byte) c.segment_mut-bytes.result.now c.store.new.bytes))) c.args.id (8 * c.args.byte) (8 * g.T.Primitive.BYTES) (g.T.Primitive.bits_of c.args.value) (returns-clause-written g c)
