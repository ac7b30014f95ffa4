use Rattle.std.proofs.Common.{sym, ◌∙◌}
use Rattle.typed_conforming.proofs.Tests.{at_start, backward, follow, no_test, outside}
use Rattle.typed_conforming.proofs.table.tested_word.Goals as goal
use Rattle.typed_conforming.proofs.table.tested_word.Goals.{then-test-first-via-then-test-first, then-test-first-via-else-test-first+then-test-table}

pub loop-word-init : goal.loop-word-init
loop-word-init c = at_start c.args.table.now _ c.args.word

pub loop-word-preserved : goal.loop-word-preserved
loop-word-preserved c = rw c.next_word-word.ensures (follow c.args.table.now _ c.args.word c.loop-word.first c.loop-word.word c.loop-word-test.true c.if-test-first.false c.if-test-table.false c.loop-word.invariant)

pub returns-then-test-first : goal.returns-then-test-first
returns-then-test-first c =
    let n = c.loop-word.invariant.tests in
    (elim c.then-test-first.branch [
      | then-test-first-via-then-test-first w ↦ backward c.args.table.now _ n c.loop-word.first c.loop-word.word c.loop-word-test.true w.if-test-first.true
      | then-test-first-via-else-test-first+then-test-table w ↦ outside c.args.table.now _ n c.loop-word.first c.loop-word.word c.loop-word-test.true w.if-test-table.true
    ])
    ∙ sym c.loop-word.invariant.same

pub returns : goal.returns
returns c = no_test c.args.table.now _ c.loop-word.invariant.tests c.loop-word.first c.loop-word.word c.loop-word-test.false ∙ sym c.loop-word.invariant.same
