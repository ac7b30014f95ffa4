use Rattle.std.proofs.Common.{◌≡◌, refl, subst, le_antisymm, le_of_eq, sym, rules}
use Rattle.capnp_format.specs.Segments.{Segments}
use Rattle.capnp_allocation.proofs.Zeros.{nothing_zeroed, pruned_again, pruned_itself}
use Rattle.capnp_in_place.specs.Moved.{Unmoves}
use Rattle.capnp_allocation.proofs.Memory.{limits_again}
use Rattle.capnp_in_place.proofs.WiderObjects.RowsInside.{next_row, row_inside, row_behind_fits}
use Rattle.capnp_allocation.proofs.WordsInside.{first_place}
use Rattle.capnp_in_place.proofs.MovedPointers.MovedByRows.{rows_unmoves_next}
use Rattle.capnp_in_place.proofs.WiderObjects.Statements.{rows_moves}
use Rattle.capnp_in_place.proofs.moving.zero_pads_of_rows.Goals as goal

-- A row starts within the words of its segment, and the next one a step after it.
pub overflow_add-source : goal.overflow_add-source
overflow_add-source g c =
    let now = c.args.arena.now in
    record {
      fits = row_behind_fits c.args.from.at c.args.from.step c.args.pointers c.args.count c.loop-i.i
          c.loop-i.source _ _ c.requires.from c.loop-i-test.true c.loop-i.invariant.source_at
          (g.met.A.BuilderArena.within now c.args.from.segment)
          (g.met.A.BuilderArena.small now c.args.from.segment)
          c.requires.small.0;
    }

pub overflow_add-place : goal.overflow_add-place
overflow_add-place g c =
    let now = c.args.arena.now in
    record {
      fits = row_behind_fits c.args.to.at c.args.to.step c.args.pointers c.args.count c.loop-i.i
          c.loop-i.place _ _ c.requires.to c.loop-i-test.true c.loop-i.invariant.place_at
          (g.met.A.BuilderArena.within now c.args.to.segment)
          (g.met.A.BuilderArena.small now c.args.to.segment)
          c.requires.small.1;
    }

-- One of the rows is inside the words of all.
pub zero_pads_of_row-requires : goal.zero_pads_of_row-requires
zero_pads_of_row-requires g c = record {
  from = (row_inside c.args.from.at c.args.from.step c.args.pointers c.args.count c.loop-i.i c.loop-i.source _ _
      c.requires.from c.loop-i-test.true c.loop-i.invariant.source_at
      (le_of_eq (sym (c.loop-i.invariant.pruned.words c.args.from.segment))));
  to = (row_inside c.args.to.at c.args.to.step c.args.pointers c.args.count c.loop-i.i c.loop-i.place _ _
      c.requires.to c.loop-i-test.true c.loop-i.invariant.place_at
      (le_of_eq (sym (c.loop-i.invariant.pruned.words c.args.to.segment))));
}

-- No row is done.
pub loop-i-init : goal.loop-i-init
loop-i-init g c =
    let S : Segments = (g.A.BuilderArena.view c.args.arena.now).words in
    record {
      zeroed = λ inside old_apart new_apart. nothing_zeroed S;
      source_at = first_place c.args.from.at c.args.from.step;
      place_at = first_place c.args.to.at c.args.to.step;
      pruned = pruned_itself S;
      limits = refl;
    }

-- One more row.
pub loop-i-preserved : goal.loop-i-preserved
loop-i-preserved g c =
    let S : Segments = (g.A.BuilderArena.view c.args.arena.now).words in
    let M : Segments = (g.A.BuilderArena.view c.loop-i.arena).words in
    let R : Segments = (g.A.BuilderArena.view c.zero_pads_of_row.new.arena).words in
    record {
      zeroed = rows_unmoves_next S M R c.args.from.segment c.args.from.at c.args.from.step c.args.to.segment c.args.to.at c.args.to.step c.args.pointers c.loop-i.i c.loop-i.invariant.zeroed
          (rw (c.loop-i.invariant.source_at, c.loop-i.invariant.place_at) at c.zero_pads_of_row.ensures.zeroed);
      source_at = next_row c.args.from.at c.args.from.step c.loop-i.i c.loop-i.source
          c.loop-i.invariant.source_at;
      place_at = next_row c.args.to.at c.args.to.step c.loop-i.i c.loop-i.place c.loop-i.invariant.place_at;
      pruned = pruned_again S M R c.loop-i.invariant.pruned c.zero_pads_of_row.ensures.pruned;
      limits = limits_again (g.A.BuilderArena.view c.args.arena.now) (g.A.BuilderArena.view c.loop-i.arena)
          (g.A.BuilderArena.view c.zero_pads_of_row.new.arena) c.loop-i.invariant.limits
          c.zero_pads_of_row.ensures.limits;
    }

-- All rows are done.
pub returns : goal.returns
returns g c = record {
  zeroed = (let all : c.loop-i.i ≡ c.args.count = le_antisymm c.loop-i.auto.i-end c.loop-i-test.false in
      subst (λ n. Unmoves (g.A.BuilderArena.view c.args.arena.now).words
      (g.A.BuilderArena.view c.loop-i.arena).words
      (rows_moves c.args.from.segment c.args.from.at c.args.from.step c.args.to.segment c.args.to.at
      c.args.to.step
      c.args.pointers n)) all c.loop-i.invariant.zeroed);
  pruned = search rules;
  limits = search rules;
}
