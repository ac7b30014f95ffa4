use Rattle.std.proofs.Common.{◌≡◌, ◌+◌, ap, sym, arith}
use Rattle.capnp_framing.proofs.WholenessLemmas.{keeps_whole, keeps_whole_both}
use Rattle.capnp_streams.specs.declared.streams.diffs.Compared.{Compared}
use Rattle.capnp_streams.proofs.DiffLemmas.{all_compared, all_same, on_ok, pairs_kept, pairs_none, pairs_more}
use Rattle.capnp_streams.proofs.streams.diffs.run_diff.Goals as goal

pub loop-number-init : goal.loop-number-init
loop-number-init g c =
    let many : c.none-counts.result.messages ≡ 0 = ap (λ (x : Compared). x.messages) c.none-counts.ensures in
    record {
      done = rw c.none-counts.ensures (pairs_none c.args.task.limits _);
      number = omega (arith, many);
      works = (c.requires.left, c.requires.right, c.requires.works);
      whole_left = keeps_whole _;
      whole_right = keeps_whole _;
    }

pub loop-number-preserved : goal.loop-number-preserved
loop-number-preserved g c =
    let done = pairs_kept _ c.loop-number.invariant.done c.flush_before_reading.ensures.bytes in
    let all = pairs_more done (rw c.in-Ok-Pair.field-0-is at c.in-Ok-Pair.ensures.step) in
    let many : c.with_pair-counts.result.messages ≡ c.loop-number.counts.messages + 1 = ap (λ (x : Compared). x.messages) c.with_pair-counts.ensures in
    record {
      done = rw c.with_pair-counts.ensures all;
      number = omega (arith, many, c.loop-number.invariant.number);
      works = c.in-Ok-Pair.ensures.works;
      whole_left = keeps_whole_both _ _ _ c.loop-number.invariant.whole_left c.in-Ok-Pair.ensures.whole_left;
      whole_right = keeps_whole_both _ _ _ c.loop-number.invariant.whole_right c.in-Ok-Pair.ensures.whole_right;
    }

pub returns-in-Ok-Ended-clause-done : goal.returns-in-Ok-Ended-clause-done
returns-in-Ok-Ended-clause-done g c =
    let (ends, kept) = rw c.in-Ok-Ended.field-0-is at c.in-Ok-Ended.ensures.step in
    let written = on_ok c.write_end.result (sym c.if-is_err-2.ensures.value) c.write_end.ensures.written in
    all_compared c.in-Ok-Ended.longer _ _ c.loop-number.number c.ended.result
    (pairs_kept _ c.loop-number.invariant.done c.flush_before_reading.ensures.bytes) ends kept written
    (sym c.loop-number.invariant.number) c.ended.ensures

pub returns-in-Ok-Ended-clause-same : goal.returns-in-Ok-Ended-clause-same
returns-in-Ok-Ended-clause-same g c = all_same (returns-in-Ok-Ended-clause-done g c)
