use Rattle.std.proofs.Common.{◌-◌, take, drop, length}
use Rattle.capnp_format.specs.Bytes.{words_of}
use Rattle.typed_conforming.proofs.Tests.{IsFollowed}
use Rattle.typed_conforming.proofs.table.tested_word.Given as goal

abbrev pub invariant-loop-word : goal.invariant-loop-word
invariant-loop-word l =
    IsFollowed l.table (take l.count (drop l.section.at (words_of l.section.bytes.now))) l.fn.word l.first l.word

abbrev pub decreases-loop-word : goal.decreases-loop-word
decreases-loop-word l = length l.table - l.first
