use Rattle.std.proofs.Common.{◌≡◌, ◌∙◌, ◌-◌, ◌^◌, inr, refl, rules}
use Rattle.capnp_framing.proofs.WholenessLemmas.{keeps_whole, keeps_whole_both}
use Rattle.capnp_streams.proofs.AnsweredLemmas.{ends_behind, step_answerable}
use Rattle.capnp_streams.proofs.StreamLemmas.{all_done, keeps_same, more_done, none_done}
use Rattle.capnp_streams.proofs.streams.runs.run.Goals as goal

pub loop-number-init : goal.loop-number-init
loop-number-init g c = record {
  done = none_done c.args.job _;
  whole = keeps_whole _;
  work = c.requires;
  there = search rules;
  kept = search rules;
}

pub loop-number-preserved : goal.loop-number-preserved
loop-number-preserved g c =
    let all = more_done c.loop-number.invariant.done (rw c.in-Ok-Some.field-0-is at c.in-Ok-Some.ensures.answered) in
    record {
      done = rw c.saturating_add-bytes.ensures all;
      whole = keeps_whole_both _ _ _ c.loop-number.invariant.whole c.in-Ok-Some.ensures.whole;
      work = c.in-Ok-Some.ensures.work;
      there = c.in-Ok-Some.ensures.memory.there;
      kept = c.in-Ok-Some.ensures.memory.kept ∙ c.loop-number.invariant.kept;
    }

pub returns-in-Ok-None-clause-done : goal.returns-in-Ok-None-clause-done
returns-in-Ok-None-clause-done g c =
    let (at_end, after, kept) = c.in-Ok-None.ensures.end (search rules) in
    all_done _ _ _ at_end kept c.loop-number.invariant.done

pub returns-in-Ok-None-clause-ended : goal.returns-in-Ok-None-clause-ended
returns-in-Ok-None-clause-ended g c =
    let (at_end, after, kept) = c.in-Ok-None.ensures.end (search rules) in
    record {
      end = after;
      whole = keeps_whole_both _ _ _ c.loop-number.invariant.whole c.in-Ok-None.ensures.whole;
      work = c.in-Ok-None.ensures.work;
    }

pub returns-in-Err-clause-refused : goal.returns-in-Err-clause-refused
returns-in-Err-clause-refused g c =
    (_, (c.loop-number.holds, c.loop-number.invariant.done), ends_behind c.args.job _ _ _ (record { answered = c.loop-number.number; byte = c.loop-number.bytes; fault = c.in-Err.fault }) c.in-Err.ensures.refused)

pub returns-in-Err-clause-exactly : goal.returns-in-Err-clause-exactly
returns-in-Err-clause-exactly g c =
    step_answerable _ _ _ _ _ c.in-Err.fault c.loop-number.invariant.done c.in-Err.ensures.refused

pub returns-clause-refused : goal.returns-clause-refused
returns-clause-refused g c =
    let every : c.loop-number.number ≡ 2 ^ 64 - 1 = search rules in
    (_, (c.loop-number.holds, rw every at c.loop-number.invariant.done), inr (keeps_same _, inr (refl, refl)))
