use Rattle.std.proofs.Common.{◌-◌, ◌/◌, ℕ, List, length, sym, ◌∙◌, arith}
use Rattle.capnp_format.specs.Bytes.{words_of}
use Rattle.capnp_format.proofs.WordsOf.{words}
use Rattle.capnp_format.proofs.UsedUp.{used_whole}
use Rattle.capnp_words.proofs.LaneLemmas.{used_all}
use Rattle.capnp_words.proofs.lanes.used_words_of_many.Goals as goal

pub returns-then-word_at-ne0 : goal.returns-then-word_at-ne0
returns-then-word_at-ne0 c =
    let bs : List ℕ = c.args.bytes.now in
    let n : ℕ = length bs / 8 in
    sym (used_all bs ∙ used_whole (words_of bs) (n - 1) n (omega arith) (omega (arith, words bs)) (λ e. c.if-word_at-ne0.true (c.word_at.ensures ∙ e)))

pub returns : goal.returns
returns c = c.used_words_before.ensures.value ∙ sym c.used_words_bound.ensures.used
