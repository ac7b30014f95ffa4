use Rattle.std.proofs.Common.{◌≡◌, false, rules}
use Rattle.capnp_streams.proofs.PackedLemmas.{cut_behind, cut_not_failed, ends_packed, fails_behind, read_failed}
use Rattle.capnp_streams.proofs.streams.packed.run_packed.Goals as goal

pub returns-in-Ok-false-clause-refused : goal.returns-in-Ok-false-clause-refused
returns-in-Ok-false-clause-refused g c =
    let no : c.in-Ok-false.field-0 ≡ false = search rules in
    let ended = rw c.in-Ok.is at c.run-answered.ensures.ended in
    let done = rw c.in-Ok.is at c.run-answered.ensures.done in
    let cut = rw no at (c.in-Ok-false.ensures.whole ended.end) in
    cut_behind _ _ _ _ _ _ c.in-Ok.summary c.stop_after.result c.new-input.ensures.remaining
    c.new-input.ensures.whole ended.whole cut done c.stop_after.ensures.answered c.stop_after.ensures.byte c.stop_after.ensures.fault

pub returns-in-Ok-false-clause-failed : goal.returns-in-Ok-false-clause-failed
returns-in-Ok-false-clause-failed g c = λ is. absurd (cut_not_failed c.stop_after.ensures.fault is)

pub returns-clause-failed : goal.returns-clause-failed
returns-clause-failed g c = λ is.
    read_failed g.R.Input.has_failed c.run-answered.new.input.told c.run-answered.new.input.packed.input _ _ _ _ _ _
    c.new-input.ensures.remaining (rw c.in-Err.is at c.run-answered.ensures.refused) is

pub returns-clause-refused : goal.returns-clause-refused
returns-clause-refused g c =
    ends_packed _ _ _ _ _ _ c.in-Err.stop c.new-input.ensures.remaining (rw c.in-Err.is at c.run-answered.ensures.refused)

pub returns-in-Ok-clause-refused : goal.returns-in-Ok-clause-refused
returns-in-Ok-clause-refused g c =
    let done = rw c.in-Ok.is at c.run-answered.ensures.done in
    fails_behind _ _ _ _ c.in-Ok.summary c.stop_after-in-Err-is_whole_at_end.result c.new-input.ensures.remaining done
    c.stop_after-in-Err-is_whole_at_end.ensures.answered c.stop_after-in-Err-is_whole_at_end.ensures.byte c.stop_after-in-Err-is_whole_at_end.ensures.fault
