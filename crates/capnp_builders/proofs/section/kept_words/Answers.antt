use Rattle.std.proofs.Common.{◌∙◌, sym, ap}
use Rattle.capnp_copies.specs.Forms.{form_of}
use Rattle.capnp_builders.specs.StructValues.{section_words}
use Rattle.capnp_copies.specs.Originals.{kept_count}
use Rattle.capnp_builders.proofs.DataSections.{section_long, last_used, last_unused}
use Rattle.capnp_builders.proofs.section.kept_words.Goals as goal

pub returns-then-not-canonicalize : goal.returns-then-not-canonicalize
returns-then-not-canonicalize c =
    sym (section_long c.args.bits c.args.bytes.now c.requires.long) ∙ sym (ap (λ b. kept_count (form_of b) (section_words c.args.bits c.args.bytes.now)) c.if-not-canonicalize.true)

pub returns-then-last_partial_word-ne0 : goal.returns-then-last_partial_word-ne0
returns-then-last_partial_word-ne0 c =
    sym (last_used c.args.bits c.args.bytes.now c.requires.long (λ e. c.if-last_partial_word-ne0.true (c.last_partial_word.ensures ∙ e)))
    ∙ sym (ap (λ b. kept_count (form_of b) (section_words c.args.bits c.args.bytes.now)) c.if-not-canonicalize.false)

pub returns : goal.returns
returns c =
    c.used_words_in.ensures.value ∙ sym (last_unused c.args.bits c.args.bytes.now (sym c.last_partial_word.ensures ∙ c.if-last_partial_word-ne0.false))
    ∙ sym (ap (λ b. kept_count (form_of b) (section_words c.args.bits c.args.bytes.now)) c.if-not-canonicalize.false)
