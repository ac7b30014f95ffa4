use Rattle.std.proofs.Common.{sym, ◌∙◌}
use Rattle.capnp_words.proofs.LaneLemmas.{used_all}
use Rattle.capnp_words.proofs.lanes.used_words.Goals as goal

pub returns-then-words-lt32 : goal.returns-then-words-lt32
returns-then-words-lt32 c = c.used_words_before.ensures.value ∙ sym (used_all c.args.bytes.now)
