use Rattle.std.proofs.Common.{◌∙◌, ap, arith}
use Rattle.std.proofs.lemmas.List.{take_rest}
use Rattle.capnp_canonical.specs.PackedWords.{run}
use Rattle.capnp_canonical.proofs.PackedLemmas.{first_within, run_of_full, run_of_others, run_of_zeros}
use Rattle.capnp_canonical.proofs.packing.first_words.Goals as goal

pub returns-then-tag-eq0-clause-more : goal.returns-then-tag-eq0-clause-more
returns-then-tag-eq0-clause-more c =
    c.leading_words-more.ensures ∙ ap (run 0 0 255) (take_rest c.args.words.now 8)
    ∙ run_of_zeros c.tag_of-tag.result c.args.words.now c.tag_of-tag.ensures c.if-tag-eq0.true

pub returns-then-tag-eq0-clause-within : goal.returns-then-tag-eq0-clause-within
returns-then-tag-eq0-clause-within c =
    omega (arith, first_within c.args.words.now c.requires, returns-then-tag-eq0-clause-more c)

pub returns-then-tag-clause-more : goal.returns-then-tag-clause-more
returns-then-tag-clause-more c =
    c.leading_words.ensures ∙ ap (run 7 8 255) (take_rest c.args.words.now 8)
    ∙ run_of_full c.tag_of-tag.result c.args.words.now c.tag_of-tag.ensures c.if-tag.true

pub returns-then-tag-clause-within : goal.returns-then-tag-clause-within
returns-then-tag-clause-within c =
    omega (arith, first_within c.args.words.now c.requires, returns-then-tag-clause-more c)

pub returns-else-tag-clause-more : goal.returns-else-tag-clause-more
returns-else-tag-clause-more c =
    run_of_others c.tag_of-tag.result c.args.words.now c.tag_of-tag.ensures c.if-tag-eq0.false c.if-tag.false
