use Rattle.std.proofs.Common.{◌≡◌, ◌∙◌, ◌-◌, ◌^◌, inr, refl, rules}
use Rattle.capnp_framing.proofs.WholenessLemmas.{keeps_whole, keeps_whole_both}
use Rattle.capnp_streams.proofs.StreamLemmas.{keeps_same}
use Rattle.typed_streams.proofs.ConformingLemmas.{all_tested, ends_test, more_tested, none_tested, step_conforming}
use Rattle.typed_streams.proofs.conforming.test_stream.Goals as goal

pub loop-messages-init : goal.loop-messages-init
loop-messages-init g c = record {
  done = none_tested _ _;
  whole = keeps_whole _;
  work = c.requires;
  kept = refl;
}

pub loop-messages-preserved : goal.loop-messages-preserved
loop-messages-preserved g c =
    let all = more_tested c.loop-messages.invariant.done (rw c.in-Ok-Some.field-0-is at c.in-Ok-Some.ensures.tested) in
    record {
      done = rw c.saturating_add-bytes.ensures all;
      whole = keeps_whole_both _ _ _ c.loop-messages.invariant.whole c.in-Ok-Some.ensures.whole;
      work = c.in-Ok-Some.ensures.work;
      kept = c.in-Ok-Some.ensures.kept ∙ c.loop-messages.invariant.kept;
    }

pub returns-in-Ok-None-clause-done : goal.returns-in-Ok-None-clause-done
returns-in-Ok-None-clause-done g c =
    let (at_end, after, kept) = c.in-Ok-None.ensures.end (search rules) in
    all_tested _ _ _ at_end kept c.loop-messages.invariant.done

pub returns-in-Ok-None-clause-ended : goal.returns-in-Ok-None-clause-ended
returns-in-Ok-None-clause-ended g c =
    let (at_end, after, kept) = c.in-Ok-None.ensures.end (search rules) in
    record {
      end = after;
      whole = keeps_whole_both _ _ _ c.loop-messages.invariant.whole c.in-Ok-None.ensures.whole;
      work = c.in-Ok-None.ensures.work;
    }

pub returns-in-Err-clause-exactly : goal.returns-in-Err-clause-exactly
returns-in-Err-clause-exactly g c =
    step_conforming _ _ _ _ _ c.in-Err.fault c.loop-messages.invariant.done c.in-Err.ensures.refused

pub returns-in-Err-clause-refused : goal.returns-in-Err-clause-refused
returns-in-Err-clause-refused g c =
    (_, c.loop-messages.invariant.done, ends_test c.in-Err.ensures.refused)

pub returns-clause-refused : goal.returns-clause-refused
returns-clause-refused g c =
    let every : c.loop-messages.messages ≡ 2 ^ 64 - 1 = search rules in
    (_, rw every at c.loop-messages.invariant.done, inr (keeps_same _, inr (refl, refl)))
