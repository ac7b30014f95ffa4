use Rattle.std.proofs.Common.{inl, inr, refl, Ok, Err, subst, ◌≡◌, Option, ℕ, IfErr}
use Rattle.std.proofs.lemmas.Result.{IfErr-weaker}
use Rattle.capnp_words.specs.Meter.{unused}
use Rattle.capnp_arena_traits.specs.Allocations.{max_segment_words}
use Rattle.capnp_pointers.specs.Wanted.{canonical}
use Rattle.capnp_messages.specs.Canonicalize.{end_value}
use Rattle.capnp_messages.specs.PathEnds.{end_read}
use Rattle.capnp_messages.proofs.EndRefusals.{words_unread}
use Rattle.capnp_messages.proofs.TryLemmas.{measured_last, ok_both, requested}
use Rattle.capnp_messages.proofs.messages.canonical_copy.canonicalize_measured.Goals as goal

pub returns-in-Ok-clause-asked : goal.returns-in-Ok-clause-asked
returns-in-Ok-clause-asked g c =
    ok_both c.canonicalize_to_message.result
    (λ made asked copied. requested (end_read g.B.ReaderArena c.args.from) c.args.lim.now c.canonicalize_to_message.new.lim (g.A.Allocator.offers c.args.allocator) _ _ c.left.ensures c.in-Ok.ensures.measured asked copied)
    c.canonicalize_to_message.ensures.asked c.canonicalize_to_message.ensures.copied

pub returns-in-Ok-clause-refused : goal.returns-in-Ok-clause-refused
returns-in-Ok-clause-refused g c =
    IfErr-weaker c.canonicalize_to_message.result _ _ (λ e. measured_last (end_read g.B.ReaderArena c.args.from) c.args.lim.now c.left.ensures c.in-Ok.ensures.measured) c.canonicalize_to_message.ensures.refused

pub returns-in-Err-clause-refused : goal.returns-in-Err-clause-refused
returns-in-Err-clause-refused g c =
    let refused = subst (λ (l : Option ℕ). (end_value canonical (end_read g.B.ReaderArena c.args.from) (unused l)).0 ≡ Err c.in-Err.kind) c.left.ensures c.in-Err.ensures.refused in
    inr (inl (words_unread max_segment_words (end_read g.B.ReaderArena c.args.from) (unused c.args.lim.now.left) c.in-Err.kind refused), refl)
