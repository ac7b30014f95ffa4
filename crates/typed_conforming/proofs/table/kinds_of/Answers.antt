use Rattle.std.proofs.Common.{◌≡◌, ◌+◌, ◌-◌, length, take, drop, ap, ◌∙◌, arith, length-drop}
use Rattle.std.proofs.lemmas.List.{take_all}
use Rattle.std.specs.Prelude.{slice_index}
use Rattle.typed_conforming.proofs.Tests.{kinds_are, no_kinds}
use Rattle.typed_conforming.proofs.table.kinds_of.Goals as goal

pub returns-then-row-table : goal.returns-then-row-table
returns-then-row-table c = no_kinds c.args.table.now c.args.row c.if-row-table.true

pub returns : goal.returns
returns c =
    let T = c.args.table.now in
    let after = drop (c.args.row + 1) T in
    let whole : take (length T - (c.args.row + 1)) after ≡ after = take_all (length T - (c.args.row + 1)) after (omega (arith, length-drop (c.args.row + 1) T)) in
    let long : length (take (length T - (c.args.row + 1)) after) ≡ length T - (c.args.row + 1) = ap length whole ∙ length-drop (c.args.row + 1) T in
    λ i. ap (λ xs. slice_index (take c.min.result xs) i) whole ∙ kinds_are T c.args.row c.min.result (omega (arith, c.min.ensures)) (λ few. omega (arith, c.min.ensures, long)) i
