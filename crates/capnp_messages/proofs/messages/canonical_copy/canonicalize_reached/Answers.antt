use Rattle.std.proofs.Common.{◌≡◌, ◌∙◌, true, false, inl, inr, refl, rules, subst, sym, ap, Ok, IfErr}
use Rattle.std.proofs.lemmas.Result.{IfErr-weaker, IfOk-weaker}
use Rattle.capnp_words.specs.Meter.{Meter}
use Rattle.capnp_arena_traits.specs.Allocations.{max_segment_words}
use Rattle.capnp_messages.specs.Copies.{LacksMemoryOr, RefusesCopy, is_message_too_large}
use Rattle.capnp_messages.specs.EndValues.{EndReads}
use Rattle.capnp_messages.specs.PathEnds.{end_read}
use Rattle.capnp_messages.specs.Tries.{first_room}
use Rattle.capnp_messages.proofs.TryLemmas.{last_try, made_measured, ok_three, try_is_granted, try_too_small}
use Rattle.capnp_messages.proofs.messages.canonical_copy.canonicalize_reached.Goals as goal

pub returns-else-not-is_too_large-clause-tries : goal.returns-else-not-is_too_large-clause-tries
returns-else-not-is_too_large-clause-tries g c =
    let e = end_read g.B.ReaderArena c.args.from in
    let large : is_message_too_large c.in-Err.kind ≡ true = search rules in
    let little = try_too_small e c.args.lim.now large c.in-Err.ensures.refused in
    let yet = try_is_granted large c.in-Err.ensures.refused in
    let first = c.first_room-room.ensures.first ∙ ap first_room c.arena_words_of_reached.ensures in
    ok_three c.canonicalize_measured.result
    (λ made asked granted copied. made_measured e c.canonicalize_to_message.new.lim c.canonicalize_measured.new.lim first little c.in-Err.ensures.given_back yet asked granted copied)
    c.canonicalize_measured.ensures.asked c.canonicalize_measured.ensures.granted c.canonicalize_measured.ensures.copied
