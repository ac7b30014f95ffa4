use Rattle.std.proofs.Common.{◌≡◌, false, rules}
use Rattle.typed_streams.proofs.PackedLemmas.{cut_after, cut_is_no_failure, ends_packed, fails_after, read_failed}
use Rattle.typed_streams.proofs.conforming.test_packed_stream.Goals as goal

pub returns-in-Ok-false-clause-refused : goal.returns-in-Ok-false-clause-refused
returns-in-Ok-false-clause-refused g c =
    let no : c.in-Ok-false.field-0 ≡ false = search rules in
    let ended = c.in-Ok.ensures.ended in
    let cut = rw no at (c.in-Ok-false.ensures.whole ended.end) in
    cut_after _ _ _ c.new-input.ensures.remaining _ _ _ _ _ c.stop_after.result c.new-input.ensures.whole ended.whole cut c.in-Ok.ensures.done
    (c.stop_after.ensures.tested, c.stop_after.ensures.byte, c.stop_after.ensures.fault)

pub returns-in-Ok-clause-refused : goal.returns-in-Ok-clause-refused
returns-in-Ok-clause-refused g c =
    let stop = c.stop_after-in-Err-is_whole_at_end in
    fails_after _ _ _ c.new-input.ensures.remaining _ _ _ stop.result c.in-Ok.ensures.done
    (stop.ensures.tested, stop.ensures.byte, stop.ensures.fault)

pub returns-clause-refused : goal.returns-clause-refused
returns-clause-refused g c =
    ends_packed _ _ _ c.new-input.ensures.remaining _ _ _ c.in-Err.stop c.in-Err.ensures.refused

pub returns-clause-failed : goal.returns-clause-failed
returns-clause-failed g c = λ is.
    read_failed g.R.Input.has_failed c.test_stream.new.input.told c.test_stream.new.input.packed.input _ _ _ _ _ _
    c.new-input.ensures.remaining c.in-Err.ensures.refused is

pub returns-in-Ok-false-clause-failed : goal.returns-in-Ok-false-clause-failed
returns-in-Ok-false-clause-failed g c = λ is. absurd (cut_is_no_failure c.stop_after.ensures.fault is)
