use Rattle.std.proofs.Common.{◌<◌, ◌≤◌, length, inl, inr, refl, ◌∙◌, arith, sym, subst}
use Rattle.capnp_arena_traits.specs.Allocations.{max_segments}
use Rattle.capnp_arena.proofs.ItemsLemmas.{as_many_shown}
use Rattle.std.proofs.lemmas.Bool.{cases_lt, false≢true}
use Rattle.capnp_arena.specs.Row.{shown}
use Rattle.capnp_arena_traits.proofs.MessageLemmas.{length-message}
use Rattle.capnp_arena.proofs.RowsLemmas.{length_shown}
use Rattle.capnp_arena.proofs.BoundsLemmas.{passed_on, room_as_before, too_full}
use Rattle.capnp_arena.proofs.arena.bounds.first_fit_by_bounds.Goals as goal

pub returns-clause-found : goal.returns-clause-found
returns-clause-found g c =
    let seg = g.S.Segment in
    let rows = c.args.rows.now in
    let h = c.loop-at.invariant in
    record {
      fit = tt;
      full = λ _ k l.
          passed_on seg c.loop-at.rows rows c.loop-at.from (length c.loop-at.rows) c.args.amount h.segments h.capacity h.passed (c.in_default.ensures.none refl) k
          (omega (arith, l, length-message (shown seg rows), length_shown seg rows));
      segments = h.segments;
      capacity = h.capacity;
    }

pub returns-then-has_room-clause-found : goal.returns-then-has_room-clause-found
returns-then-has_room-clause-found g c =
    let seg = g.S.Segment in
    let rows = c.args.rows.now in
    let at = c.in-Some.at in
    let h = c.loop-at.invariant in
    let there : at < length c.loop-at.rows = c.in-Some.ensures.there.1 in
    let as_before = room_as_before seg c.loop-at.rows rows at c.index-rows-at.result h.segments h.capacity there in
    record {
      fit = (
        omega (arith, length-message (shown seg rows), length_shown seg rows),
        omega (arith, as_before.0, as_before.1, c.has_room.ensures.0 c.if-has_room.true),
        passed_on seg c.loop-at.rows rows c.loop-at.from at c.args.amount h.segments h.capacity h.passed c.in-Some.ensures.passed,
      );
      full = λ none. absurd (false≢true (sym none));
      segments = h.segments;
      capacity = h.capacity;
    }

-- The row that was checked has no room either.
pub loop-at-preserved : goal.loop-at-preserved
loop-at-preserved g c =
    let seg = g.S.Segment in
    let rows = c.args.rows.now in
    let at = c.in-Some.at in
    let there : at < length c.loop-at.rows = c.in-Some.ensures.there.1 in
    let as_before = room_as_before seg c.loop-at.rows rows at c.index-rows-at.result c.loop-at.invariant.segments c.loop-at.invariant.capacity there in
    record {
      inside = omega arith;
      bounded = c.tighten_bound.ensures.bounded;
      segments = c.tighten_bound.ensures.segments ∙ c.loop-at.invariant.segments;
      capacity = c.tighten_bound.ensures.capacity ∙ c.loop-at.invariant.capacity;
      passed = λ k below.
          elim (cases_lt k at) [
            | inl before ↦
                passed_on seg c.loop-at.rows rows c.loop-at.from at c.args.amount c.loop-at.invariant.segments c.loop-at.invariant.capacity c.loop-at.invariant.passed c.in-Some.ensures.passed k before
            | inr last ↦ too_full seg rows at k c.args.amount _ _ _ as_before.0 as_before.1 c.has_room.ensures.1 c.if-has_room.false (omega (arith, below, last))
          ];
    }

pub loop-at-init : goal.loop-at-init
loop-at-init g c = record {
  inside = omega arith;
  bounded = c.requires.bounded;
  segments = refl;
  capacity = refl;
  passed = λ k below. absurd (omega (arith, below));
}

-- There are as many rows as before.
pub skip_full_ranges-requires-clause-few : goal.skip_full_ranges-requires-clause-few
skip_full_ranges-requires-clause-few g c =
    subst (λ n. n ≤ max_segments) (sym (as_many_shown g.S.Segment c.args.rows.now c.loop-at.rows c.loop-at.invariant.segments)) c.requires.few

pub overflow_cast-result : goal.overflow_cast-result
overflow_cast-result g c =
    omega (arith, c.in-Some.ensures.there.1, as_many_shown g.S.Segment c.args.rows.now c.loop-at.rows c.loop-at.invariant.segments, c.requires.few)

pub overflow_add-from : goal.overflow_add-from
overflow_add-from g c =
    omega (arith, c.in-Some.ensures.there.1, as_many_shown g.S.Segment c.args.rows.now c.loop-at.rows c.loop-at.invariant.segments, c.requires.few)

pub loop-at-smaller : goal.loop-at-smaller
loop-at-smaller g c =
    omega (arith, c.in-Some.ensures.there.0, c.in-Some.ensures.there.1, as_many_shown g.S.Segment c.loop-at.rows c.tighten_bound.new.rows c.tighten_bound.ensures.segments)
