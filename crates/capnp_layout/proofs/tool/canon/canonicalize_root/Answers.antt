use Rattle.std.proofs.Common.{rules, inl, inr, refl, IsOk}
use Rattle.std.proofs.lemmas.Result.{IfErr-weaker, IfOk-weaker}
use Rattle.capnp_messages.proofs.CanonicalizeLemmas.{value_if}
use Rattle.capnp_layout.specs.Messages.{segments_in}
use Rattle.capnp_layout.proofs.RunLemmas.{refuses_segments}
use Rattle.capnp_layout.proofs.tool.canon.canonicalize_root.Goals as goal

pub returns-in-Err-clause-refused : goal.returns-in-Err-clause-refused
returns-in-Err-clause-refused g c =
    inr (inl (c.in-Err.ensures.named, λ small. (let within : IsOk c.ensure_small.result = c.ensure_small.ensures.small.1 small in absurd (search rules))), refl)

pub returns-in-Ok-clause-refused : goal.returns-in-Ok-clause-refused
returns-in-Ok-clause-refused g c =
    IfErr-weaker c.canonicalize.result _ _ (λ e no. refuses_segments c.args.options (segments_in c.args.source) no) (rw (c.new-arena.ensures.words, c.new-arena.ensures.nesting) at c.canonicalize.ensures.refused)

pub returns-in-Ok-clause-value : goal.returns-in-Ok-clause-value
returns-in-Ok-clause-value g c =
    IfOk-weaker c.canonicalize.result _ _ (λ made (t, is, words). (t, value_if is, words)) (rw (c.new-arena.ensures.words, c.new-arena.ensures.nesting) at c.canonicalize.ensures.copied)

pub returns-in-Ok-clause-tries : goal.returns-in-Ok-clause-tries
returns-in-Ok-clause-tries g c =
    rw c.new-arena.ensures.words at c.canonicalize.ensures.tries
