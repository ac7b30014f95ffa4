use Rattle.std.proofs.Common.{◌≡◌, ◌+◌, ◌<◌, ◌∙◌, ℕ, Ok, Err, length, refl, sym, ap, arith}
use Rattle.std.proofs.lemmas.Result.{err_from_is_err_and}
use Rattle.capnp_format.specs.Bytes.{message}
use Rattle.capnp_format.specs.Word.{is_double, far_position, upper_half}
use Rattle.capnp_format.specs.Segments.{Segments, segment}
use Rattle.capnp_arena_traits.proofs.MessageLemmas.{length-message}
use Rattle.capnp_pointers.proofs.Budget.ChargedAsStated.{charges}
use Rattle.capnp_pointers.proofs.Following.FollowedBySteps.{beyond, known, pad_absent, pad_beyond, pad_charged}
use Rattle.capnp_pointers.proofs.source.landing_pad.Goals as goal

pub returns-in_err-bytes-clause-computed : goal.returns-in_err-bytes-clause-computed
returns-in_err-bytes-clause-computed g c =
    let gone = c.in_err-bytes.ensures in
    let named = gone.named ∙ known c.requires.some (g.A.ReaderArena.absent_named c.args.arena.now c.far_segment_id-id.result) in
    let p = err_from_is_err_and c.from_residual.result c.from_residual.ensures.1 in
    rw (p.1, p.2) (
    pad_absent (message (g.A.ReaderArena.segments c.args.arena.now)) (g.A.ReaderArena.charging c.args.arena.now) c.args.far.0 c.far_segment_id-id.result c.args.lim.now c.far_segment_id-id.ensures (beyond (g.A.ReaderArena.segments c.args.arena.now) c.far_segment_id-id.result gone.there.1)
    ∙ ap (λ k. (Err k, c.args.lim.now)) (sym named))

pub returns-then-at-words-clause-computed : goal.returns-then-at-words-clause-computed
returns-then-at-words-clause-computed g c =
    let some = c.in_ok-bytes.ensures in
    let whole = rw c.far_segment_id-id.ensures at some.whole in
    pad_beyond (message (g.A.ReaderArena.segments c.args.arena.now)) (g.A.ReaderArena.charging c.args.arena.now) c.args.far.0 c.args.lim.now
    (omega (arith, some.there.0 refl, c.far_segment_id-id.ensures, length-message (g.A.ReaderArena.segments c.args.arena.now))) (omega (arith, whole))

pub returns-in_err-amplified_read-clause-computed : goal.returns-in_err-amplified_read-clause-computed
returns-in_err-amplified_read-clause-computed g c =
    let S : Segments = message (g.A.ReaderArena.segments c.args.arena.now) in
    let x : ℕ = c.args.far.0 in
    let whole = rw c.far_segment_id-id.ensures at c.in_ok-bytes.ensures.whole in
    let inside : far_position x + is_double x < length (segment S (upper_half x)) = omega (arith, whole) in
    let words : c.from.result ≡ 1 + is_double x = c.from.ensures ∙ c.landing_pad_words-words.ensures in
    let charge = c.in_err-amplified_read.ensures in
    let p = err_from_is_err_and c.from_residual-in_err-amplified_read.result c.from_residual-in_err-amplified_read.ensures.1 in
    rw (p.1, p.2) (pad_charged S (g.A.ReaderArena.charging c.args.arena.now) x c.args.lim.now c.amplified_read.new.lim _ c.requires.is_far inside (rw words at (charges (g.A.ReaderArena.charging c.args.arena.now) c.args.lim.now c.amplified_read.new.lim c.from.result (Err _) charge.exactly charge.granted charge.refused charge.named)))

pub returns : goal.returns
returns g c =
    let S : Segments = message (g.A.ReaderArena.segments c.args.arena.now) in
    let x : ℕ = c.args.far.0 in
    let some = c.in_ok-bytes.ensures in
    let whole = rw c.far_segment_id-id.ensures at some.whole in
    let inside : far_position x + is_double x < length (segment S (upper_half x)) = omega (arith, whole) in
    let there : c.from-2.result ≡ upper_half x = c.from-2.ensures ∙ c.far_segment_id-id.ensures in
    let words : c.from.result ≡ 1 + is_double x = c.from.ensures ∙ c.landing_pad_words-words.ensures in
    let charge = c.in_ok-amplified_read.ensures in
    record {
      pad = record {
        held = rw c.from-2.ensures (some.words, some.whole, some.small);
        exists = omega (arith, some.there.0 refl, c.far_segment_id-id.ensures, length-message (g.A.ReaderArena.segments c.args.arena.now));
        segment_of = there;
        position_of = c.far_position_in_segment-at.ensures.value;
        inside = rw (there, c.far_position_in_segment-at.ensures.value) inside;
      };
      computed = pad_charged S (g.A.ReaderArena.charging c.args.arena.now) x c.args.lim.now c.amplified_read.new.lim (Ok tt) c.requires.is_far inside (rw words at (charges (g.A.ReaderArena.charging c.args.arena.now) c.args.lim.now c.amplified_read.new.lim c.from.result (Ok tt) charge.exactly charge.granted charge.refused charge.named));
    }
