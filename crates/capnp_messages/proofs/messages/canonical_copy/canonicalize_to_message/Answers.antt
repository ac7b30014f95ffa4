use Rattle.std.proofs.Common.{◌∙◌, ◌≤◌, ℕ, Ok, Option, inr, ap, sym, subst}
use Rattle.capnp_words.specs.Meter.{unused}
use Rattle.capnp_format.specs.Bytes.{message}
use Rattle.capnp_messages.specs.Copies.{RefusesCopy}
use Rattle.capnp_messages.specs.PathEnds.{end_read}
use Rattle.capnp_messages.specs.CanonicalErrors.{IsLeftOf}
use Rattle.capnp_messages.proofs.CanonLemmas.{moved_offer}
use Rattle.capnp_messages.proofs.CanonicalFrameLemmas.{copy_left, copy_settled}
use Rattle.capnp_messages.proofs.messages.canonical_copy.canonicalize_to_message.Goals as goal

pub canonicalize_to_segment-copied-requires-clause-room : goal.canonicalize_to_segment-copied-requires-clause-room
canonicalize_to_segment-copied-requires-clause-room g c =
    subst (λ (rooms : ℕ → ℕ). c.args.room ≤ rooms 0) (sym c.without_allocator-segments.ensures.room) c.in_default.ensures.room

pub charge_copy-requires : goal.charge_copy-requires
charge_copy-requires g c = subst (λ (l : Option ℕ). IsLeftOf c.in-Ok.own.left l) c.left.ensures (copy_left (end_read g.B.ReaderArena c.args.from) c.left.result c.in-Ok.own c.in-Ok.ensures.copied.0 c.in-Ok.ensures.copied.1)

pub returns-in-Ok-clause-copied : goal.returns-in-Ok-clause-copied
returns-in-Ok-clause-copied g c =
    copy_settled (end_read g.B.ReaderArena c.args.from) c.args.lim.now c.in-Ok.own c.charge_copy.new.lim c.left.ensures c.charge_copy.ensures.left c.charge_copy.ensures.counted (ap message c.with_allocator-made.ensures.segments) c.in-Ok.ensures.copied

pub returns-in-Ok-clause-asked : goal.returns-in-Ok-clause-asked
returns-in-Ok-clause-asked g c =
    let first = λ (rooms : ℕ → ℕ). rooms 0 in
    let kept = ap first c.with_allocator-made.ensures.room ∙ c.in-Ok.ensures.room ∙ ap first c.without_allocator-segments.ensures.room in
    moved_offer c.args.room c.new-made.ensures.offers kept c.in_default.ensures.asked

pub returns-in-Err-copied-clause-refused : goal.returns-in-Err-copied-clause-refused
returns-in-Err-copied-clause-refused g c =
    let refused = subst (λ (l : Option ℕ). RefusesCopy (Ok (end_read g.B.ReaderArena c.args.from), unused l) c.args.room c.in-Err-copied.kind) c.left.ensures c.in-Err-copied.ensures.refused in
    let same = c.into_allocator-in-Err-copied.ensures.refusals ∙ c.with_allocator-made.ensures.refusals ∙ ap g.A.Allocator.refusals c.without_allocator-segments.ensures.allocator ∙ c.in_default.ensures.granted ∙ c.new-made.ensures.refusals in
    inr (refused, same)
