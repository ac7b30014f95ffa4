use Rattle.std.proofs.Common.{refl, arith, rules}
use Rattle.capnp_packing.proofs.UnitLemmas.{kept_below, written}
use Rattle.capnp_packing.proofs.UnpackingLemmas.{at_end, then_none, then_takes, unpacks_none}
use Rattle.capnp_packing.proofs.packing.unpacking_input.UnpackingInput.unpack.Goals as goal

pub returns-in-Ok-eq0-clause-bytes : goal.returns-in-Ok-eq0-clause-bytes
returns-in-Ok-eq0-clause-bytes g c =
    let none = rw c.in-Ok-eq0.field-0-test at c.in-Ok-eq0.ensures.bytes in
    let end = c.in-Ok-eq0.ensures.end c.in-Ok-eq0.field-0-test in (
      rw (kept_below c.loop-given.given _ c.loop-given.to c.unpack_some.new.to c.loop-given.invariant.within)
          (then_none _ _ _ _ _ _ _ _ _ _ c.loop-given.invariant.bytes (none, c.in-Ok-eq0.ensures.place)).0,
      λ _ _. at_end _ _ _ end.0 end.1,
    )

pub loop-given-preserved : goal.loop-given-preserved
loop-given-preserved g c = record {
  bytes = rw (written c.loop-given.given c.in-Ok.n _ c.loop-given.to c.unpack_some.new.to c.loop-given.invariant.within c.in-Ok.ensures.bound) (then_takes _ _ _ _ _ _ _ _ _ _ _ c.loop-given.invariant.bytes
      (c.in-Ok.ensures.bytes, c.in-Ok.ensures.place));
  within = search rules;
  works = search rules;
  told = search rules;
}

pub loop-given-init : goal.loop-given-init
loop-given-init g c = record { bytes = unpacks_none _ _ _; within = omega arith; works = refl; told = refl }

pub returns-in-Ok-eq0-clause-place : goal.returns-in-Ok-eq0-clause-place
returns-in-Ok-eq0-clause-place g c =
    let none = rw c.in-Ok-eq0.field-0-test at c.in-Ok-eq0.ensures.bytes in
    (then_none _ _ _ _ _ _ _ _ _ _ c.loop-given.invariant.bytes (none, c.in-Ok-eq0.ensures.place)).1

pub returns-else-self-clause-place : goal.returns-else-self-clause-place
returns-else-self-clause-place g c = (then_none _ _ _ _ _ _ _ _ _ _ c.loop-given.invariant.bytes (c.in-Err.ensures.kept, c.in-Err.ensures.place)).1

pub returns-then-self-clause-place : goal.returns-then-self-clause-place
returns-then-self-clause-place g c = (then_none _ _ _ _ _ _ _ _ _ _ c.loop-given.invariant.bytes (c.in-Err.ensures.kept, c.in-Err.ensures.place)).1

pub returns-clause-bytes : goal.returns-clause-bytes
returns-clause-bytes g c = (c.loop-given.invariant.bytes.0, λ none some. absurd (omega (arith, none, some, c.loop-given-test.false)))

pub returns-clause-place : goal.returns-clause-place
returns-clause-place g c = c.loop-given.invariant.bytes.1

pub returns-clause-end : goal.returns-clause-end
returns-clause-end g c = λ none some. absurd (omega (arith, none, some, c.loop-given-test.false))
