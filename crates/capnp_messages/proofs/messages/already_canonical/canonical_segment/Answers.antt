use Rattle.std.proofs.Common.{◌∙◌, ap, sym, arith}
use Rattle.capnp_framing.specs.Frames.{bytes_of_words}
use Rattle.capnp_messages.specs.Messages.{arena_limits}
use Rattle.capnp_messages.proofs.AsItStandsLemmas.{few_words, own_message, own_words, segment_stands}
use Rattle.capnp_messages.proofs.CheckedLemmas.{only_none}
use Rattle.capnp_messages.proofs.messages.already_canonical.canonical_segment.Goals as goal

pub returns-in-Ok-clause-words : goal.returns-in-Ok-clause-words
returns-in-Ok-clause-words g c =
    let within = rw c.in-Ok-None.field-0-is at c.in-Ok-None.ensures.within in
    let paid = rw c.in-Ok-None.field-0-is at c.in-Ok-None.ensures.paid in
    own_words _ (segment_stands (arena_limits c.args.source.now.nesting_limit c.args.traversal_limit_in_words) c.in-Ok.ensures.bytes c.new-lim.ensures within paid) c.whole_words.ensures.words

pub returns-in-Ok-clause-own : goal.returns-in-Ok-clause-own
returns-in-Ok-clause-own g c =
    let within = rw c.in-Ok-None.field-0-is at c.in-Ok-None.ensures.within in
    let paid = rw c.in-Ok-None.field-0-is at c.in-Ok-None.ensures.paid in
    own_message _ (segment_stands (arena_limits c.args.source.now.nesting_limit c.args.traversal_limit_in_words) c.in-Ok.ensures.bytes c.new-lim.ensures within paid) c.whole_words.ensures.words

pub returns-in-Ok-clause-whole : goal.returns-in-Ok-clause-whole
returns-in-Ok-clause-whole g c = c.whole_words.ensures.bytes ∙ ap bytes_of_words (sym c.whole_words.ensures.words)

pub returns-in-Ok-clause-short : goal.returns-in-Ok-clause-short
returns-in-Ok-clause-short g c =
    let within = rw c.in-Ok-None.field-0-is at c.in-Ok-None.ensures.within in
    let paid = rw c.in-Ok-None.field-0-is at c.in-Ok-None.ensures.paid in
    let all = few_words (segment_stands (arena_limits c.args.source.now.nesting_limit c.args.traversal_limit_in_words) c.in-Ok.ensures.bytes c.new-lim.ensures within paid) in
    omega (arith, all, c.size_in_words.ensures, c.whole_words.ensures.shorter)

-- No other result is possible for a canonical message within the limits.
pub returns-in-Ok-Some-clause-none : goal.returns-in-Ok-Some-clause-none
returns-in-Ok-Some-clause-none g c = λ none canonical.
    let is = only_none _ _ c.canonical_fault.result c.canonical_fault.ensures.exactly c.canonical_fault.ensures.computed (rw c.new-lim.ensures canonical) in
    let some = c.in-Ok-Some.field-0-is in
    let whole = c.in-Ok-Some.is in
    absurd (cc (is, some, whole))

pub returns-in-Err-clause-none : goal.returns-in-Err-clause-none
returns-in-Err-clause-none g c = λ none canonical.
    let is = only_none _ _ c.canonical_fault.result c.canonical_fault.ensures.exactly c.canonical_fault.ensures.computed (rw c.new-lim.ensures canonical) in
    let refused = c.in-Err.is in
    absurd (cc (is, refused))
