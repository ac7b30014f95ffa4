use Rattle.std.proofs.Common.{◌-◌, ℕ, List, sym, ◌∙◌, arith}
use Rattle.capnp_format.specs.Bytes.{words_of}
use Rattle.capnp_format.proofs.WordsOf.{words}
use Rattle.capnp_format.proofs.UsedUp.{used_whole, used_before}
use Rattle.capnp_words.proofs.lanes.used_words_before.Goals as goal

pub returns-then-word_at-ne0-clause-value : goal.returns-then-word_at-ne0-clause-value
returns-then-word_at-ne0-clause-value c =
    let bs : List ℕ = c.args.bytes.now in
    sym (c.loop-n.invariant.used ∙ used_whole (words_of bs) (c.loop-n.n - 1) c.loop-n.n (omega arith) (omega (arith, words bs, c.loop-n.invariant.within)) (λ e. c.if-word_at-ne0.true (c.word_at.ensures ∙ e)))

pub loop-n-preserved : goal.loop-n-preserved
loop-n-preserved c =
    let bs : List ℕ = c.args.bytes.now in
    record {
      within = (omega (arith, c.loop-n.invariant.within), omega (arith, c.loop-n.invariant.within));
      used = c.loop-n.invariant.used ∙ used_before (words_of bs) (c.loop-n.n - 1) c.loop-n.n (omega arith) (omega (arith, words bs, c.loop-n.invariant.within)) (sym c.word_at.ensures ∙ c.if-word_at-ne0.false);
    }
