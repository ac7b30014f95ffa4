use Rattle.std.proofs.Common.{ap, ◌∙◌, length, take, drop}
use Rattle.capnp_format.specs.Bytes.{words_of}
use Rattle.typed_conforming.specs.Tables.{tested_kind}
use Rattle.typed_conforming.proofs.Tests.{no_test, wanted_is}
use Rattle.typed_conforming.proofs.table.wanted_word.Goals as goal

pub returns : goal.returns
returns c =
    let ws = take c.args.count (drop c.args.section.at (words_of c.args.section.bytes.now)) in
    let T = c.args.row.table.now in
    no_test T ws (length T) 0 c.table_word-word.result c.if-word-eq-TEST.false
    ∙ ap (tested_kind T ws (length T) 0) (c.table_word-word.ensures ∙ c.args.row.kinds_of_row c.args.index)
    ∙ wanted_is T c.args.row.row ws c.args.index
