use Rattle.std.proofs.Common.{◌≡◌, ◌≢◌, ◌<◌, ◌∙◌, length, refl, sym, ap, arith, lt-ltb}
use Rattle.std.proofs.lemmas.Bool.{false≢true}
use Rattle.std.proofs.lemmas.Result.{err_from_is_err_and}
use Rattle.capnp_format.specs.Bytes.{message}
use Rattle.capnp_format.specs.Word.{is_double, upper_half}
use Rattle.capnp_arena_traits.proofs.MessageLemmas.{length-message}
use Rattle.capnp_pointers.proofs.Following.FollowedBySteps.{absent, beyond, known, single, double}
use Rattle.capnp_pointers.proofs.source.follow_far.Goals as goal

pub returns-in_ok-bytes-clause-computed : goal.returns-in_ok-bytes-clause-computed
returns-in_ok-bytes-clause-computed g c =
    let number : c.from.result ≡ upper_half c.word-word.result.0 = c.from.ensures ∙ c.far_segment_id-id.ensures in
    let there : upper_half c.word-word.result.0 < length (message (g.A.ReaderArena.segments c.args.arena.now)) = omega (arith, length-message (g.A.ReaderArena.segments c.args.arena.now), c.in_ok-bytes.ensures.there.0 refl, c.far_segment_id-id.ensures) in
    c.in_ok-pad.ensures.computed
    ∙ ap (λ o. (o, c.landing_pad.new.lim)) (double c.in_ok-pad.ensures.pad (c.if-is_double_far.ensures.0 refl) c.word-word.ensures.value ∙ rw (lt-ltb _ _ there, c.word.ensures.value, number, c.far_position_in_segment.ensures.value) refl)

pub returns-in_err-bytes-clause-computed : goal.returns-in_err-bytes-clause-computed
returns-in_err-bytes-clause-computed g c =
    let arena = c.args.arena.now in
    let gone = c.in_err-bytes.ensures in
    let named = gone.named ∙ known c.requires.some (g.A.ReaderArena.absent_named arena c.far_segment_id-id.result) in
    let p = err_from_is_err_and c.from_residual-in_err-bytes.result c.from_residual-in_err-bytes.ensures.1 in
    let out = absent _ _ (rw c.far_segment_id-id.ensures at (beyond (g.A.ReaderArena.segments arena) c.far_segment_id-id.result gone.there.1)) in
    rw (p.1, p.2, named, c.far_segment_id-id.ensures) (
    c.in_ok-pad.ensures.computed
    ∙ ap (λ o. (o, c.landing_pad.new.lim)) (double c.in_ok-pad.ensures.pad (c.if-is_double_far.ensures.0 refl) c.word-word.ensures.value ∙ rw out refl))

pub returns-in-Some-clause-computed : goal.returns-in-Some-clause-computed
returns-in-Some-clause-computed g c =
    let other : is_double c.args.far.0 ≢ 1 = λ e. false≢true (c.if-is_double_far.ensures.1 e) in
    let leads = rw (c.length.ensures, c.in_ok-pad.ensures.pad.held.0) at (sym c.in-Some.ensures) in
    c.in_ok-pad.ensures.computed
    ∙ ap (λ o. (o, c.landing_pad.new.lim)) (single c.in_ok-pad.ensures.pad (omega (arith, other)) c.word-word.ensures.value ∙ rw leads refl)

pub returns-in-None-clause-computed : goal.returns-in-None-clause-computed
returns-in-None-clause-computed g c =
    let other : is_double c.args.far.0 ≢ 1 = λ e. false≢true (c.if-is_double_far.ensures.1 e) in
    let leads = rw (c.length.ensures, c.in_ok-pad.ensures.pad.held.0) at (sym c.in-None.ensures) in
    c.in_ok-pad.ensures.computed
    ∙ ap (λ o. (o, c.landing_pad.new.lim)) (single c.in_ok-pad.ensures.pad (omega (arith, other)) c.word-word.ensures.value ∙ rw leads refl)
