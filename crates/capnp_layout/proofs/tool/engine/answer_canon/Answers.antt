use Rattle.std.proofs.Common.{◌≡◌, rules}
use Rattle.capnp_format.specs.Bytes.{words_of}
use Rattle.capnp_format.specs.Canonical.{encoding, trim}
use Rattle.capnp_layout.specs.Messages.{segments_in}
use Rattle.capnp_layout.specs.declared.tool.refusal.Refusal.TheVariants.{Layout}
use Rattle.capnp_layout.proofs.RunLemmas.{answered_run, canonical_answer, canonical_memory, canonical_refusal, canonical_within, refused_run}
use Rattle.capnp_layout.proofs.tool.engine.answer_canon.Goals as goal

pub returns-in-Err : goal.returns-in-Err
returns-in-Err g c =
    refused_run _ _ _ (Layout c.in-Err.kind) c.answer_refusal.ensures.either c.answer_refusal.ensures.written c.answer_refusal.ensures.works c.answer_refusal.ensures.failed
    (canonical_refusal c.args.form c.args.options (segments_in c.args.source) c.in-Err.ensures.refused)
    (canonical_memory c.args.form c.args.options (segments_in c.args.source) c.in-Err.ensures.refused)

pub returns-in-Ok : goal.returns-in-Ok
returns-in-Ok g c =
    let (t, value, is_made) = c.in-Ok.ensures.value in
    let same : words_of c.canonical_bytes.result.now ≡ encoding (trim t) = search rules in
    answered_run _ _ _ _ _ c.write_words_in_form-written.ensures c.outcome_of.ensures.written c.outcome_of.ensures.failed
    (canonical_within c.args.form c.args.options (segments_in c.args.source) c.in-Ok.ensures.small) (search rules)
    (canonical_answer c.args.form c.args.options (segments_in c.args.source) t value same)
