use Rattle.std.proofs.lemmas.Result.{err_from_is_err_and}
use Rattle.std.proofs.Common.{List, le-add_right, le_antisymm, refl, rules, subst, ℕ, ◌*◌, ◌+◌, ◌≡◌}
use Rattle.capnp_arena_traits.specs.View.{View}
use Rattle.capnp_allocation.proofs.Memory.{keeps_both, keeps_itself, keeps_then_spends, words_refused_after}
use Rattle.capnp_in_place.specs.Anew.{WritesAnew}
use Rattle.capnp_in_place.specs.Moved.{Move, Moves}
use Rattle.capnp_in_place.specs.Rooms.{GrowsByAtMost}
use Rattle.capnp_in_place.proofs.Room.KeptByCalls.{lt_next, no_growth, rows_few, some_in_rows}
use Rattle.capnp_in_place.proofs.MovedPointers.MovedInTurn.{none_moved}
use Rattle.capnp_in_place.proofs.MovedPointers.RoomForPads.{Apart, apart_none, apart_of, apart_rows, made_apart, refused_apart, row_pads_at}
use Rattle.capnp_in_place.proofs.WiderObjects.RowsInside.{next_row, row_behind_fits, row_inside, row_there}
use Rattle.capnp_allocation.proofs.WordsInside.{first_place}
use Rattle.capnp_in_place.proofs.MovedPointers.MovedByRows.{rows_moves_next, rows_some}
use Rattle.capnp_in_place.proofs.MovedPointers.RewrittenInTurn.{rows_writes_next, writes_none}
use Rattle.capnp_in_place.proofs.WiderObjects.Statements.{rows_moves}
use Rattle.capnp_in_place.proofs.Room.PlacesStay.{grows_again}
use Rattle.capnp_in_place.proofs.moving.transfer_rows.Goals as goal

-- A row starts within the words of its segment, and the next one a step after it.
pub overflow_add-source : goal.overflow_add-source
overflow_add-source g c =
    let now = c.args.arena.now in
    record {
      fits = row_behind_fits c.args.from.at c.args.from.step c.args.pointers c.args.count c.loop-i.i
          c.loop-i.source _ _ c.requires.from c.loop-i-test.true c.loop-i.invariant.source_at
          (g.met.A.BuilderArena.within now c.args.from.segment)
          (g.met.A.BuilderArena.small now c.args.from.segment)
          c.requires.small.0;
    }

pub overflow_add-place : goal.overflow_add-place
overflow_add-place g c =
    let now = c.args.arena.now in
    record {
      fits = row_behind_fits c.args.to.at c.args.to.step c.args.pointers c.args.count c.loop-i.i
          c.loop-i.place _ _ c.requires.to c.loop-i-test.true c.loop-i.invariant.place_at
          (g.met.A.BuilderArena.within now c.args.to.segment)
          (g.met.A.BuilderArena.small now c.args.to.segment)
          c.requires.small.1;
    }

-- One of the rows is inside the words of all.
pub transfer_row-requires : goal.transfer_row-requires
transfer_row-requires g c = record {
  from = (row_inside c.args.from.at c.args.from.step c.args.pointers c.args.count c.loop-i.i c.loop-i.source _ _
      c.requires.from c.loop-i-test.true c.loop-i.invariant.source_at
      (c.loop-i.invariant.longer.words c.args.from.segment));
  to = (row_inside c.args.to.at c.args.to.step c.args.pointers c.args.count c.loop-i.i c.loop-i.place _ _
      c.requires.to c.loop-i-test.true c.loop-i.invariant.place_at
      (c.loop-i.invariant.longer.words c.args.to.segment));
}

pub loop-i-init : goal.loop-i-init
loop-i-init g c =
    let v : View = g.A.BuilderArena.view c.args.arena.now in
    record {
      moves = none_moved v.words;
      written = writes_none v;
      source_at = first_place c.args.from.at c.args.from.step;
      place_at = first_place c.args.to.at c.args.to.step;
      longer = no_growth v.words;
      few = le-add_right _ _;
      memory = keeps_itself v;
      apart = λ other. apart_none v c.args.from.segment;
    }

-- One more row.
pub loop-i-preserved : goal.loop-i-preserved
loop-i-preserved g c =
    let a : View = g.A.BuilderArena.view c.args.arena.now in
    let m : View = g.A.BuilderArena.view c.loop-i.arena in
    let b : View = g.A.BuilderArena.view c.transfer_row.new.arena in
    let from = c.args.from in
    let to = c.args.to in
    let k = c.args.pointers in
    let i = c.loop-i.i in
    let before = c.loop-i.invariant in
    let e = c.in_ok-transfer_row.ensures in
    let moved = rw (before.source_at, before.place_at) at e.moves.moved in
    record {
      moves = rows_moves_next a.words m.words b.words from.segment from.at from.step to.segment to.at to.step k i before.moves moved;
      written = rows_writes_next a m b from.segment from.at from.step to.segment to.at to.step k i before.moves moved before.written (rw (before.source_at, before.place_at) at e.moves.written);
      source_at = next_row from.at from.step i c.loop-i.source before.source_at;
      place_at = next_row to.at to.step i c.loop-i.place before.place_at;
      longer = grows_again a.words m.words b.words before.longer e.moves.longer;
      few = rows_few _ _ _ k i (i + 1) before.few e.moves.few (lt_next i);
      memory = keeps_both a m b before.longer.segments before.memory e.moves.granted;
      apart = λ other. apart_rows a m b from.segment from.at from.step to.segment to.at to.step k i (row_there from.at from.step k c.args.count i c.requires.from c.loop-i-test.true) before.longer (before.apart other)
          (apart_of (rw (before.source_at, before.place_at) at (e.apart other)));
    }

pub returns : goal.returns
returns g c =
    let a : View = g.A.BuilderArena.view c.args.arena.now in
    let b : View = g.A.BuilderArena.view c.loop-i.arena in
    let from = c.args.from in
    let to = c.args.to in
    let all : c.loop-i.i ≡ c.args.count = le_antisymm c.loop-i.auto.i-end c.loop-i-test.false in
    let moves : ℕ → List Move = λ n. rows_moves from.segment from.at from.step to.segment to.at to.step c.args.pointers n in
    let before = c.loop-i.invariant in
    record {
      moves = record {
        moved = subst (λ n. Moves a.words b.words (moves n)) all before.moves;
        written = subst (λ n. WritesAnew a b (moves n)) all before.written;
        some = tt;
        longer = before.longer;
        granted = before.memory;
        memory = tt;
        full = tt;
        few = subst (λ n. GrowsByAtMost a.words b.words (2 * (n * c.args.pointers))) all before.few;
      };
      near = λ e. refl;
      apart = λ other. made_apart _ a b from.segment _ (subst (λ n. Apart a b from.segment (moves n)) all (before.apart other));
    }

-- Each row before has taken at most two words for a pointer. If there is room for all pads, there
-- is room for those of the next row.
pub returns-in_err-transfer_row : goal.returns-in_err-transfer_row
returns-in_err-transfer_row g c =
    let p = err_from_is_err_and c.from_residual.result c.from_residual.ensures.1 in
    let a : View = g.A.BuilderArena.view c.args.arena.now in
    let m : View = g.A.BuilderArena.view c.loop-i.arena in
    let b : View = g.A.BuilderArena.view c.transfer_row.new.arena in
    let from = c.args.from in
    let to = c.args.to in
    let k = c.args.pointers in
    let n = c.args.count in
    let i = c.loop-i.i in
    let before = c.loop-i.invariant in
    let e = c.in_err-transfer_row.ensures in
    let less = c.loop-i-test.true in
    record {
      moves = rw (p.1, p.2) (record {
        moved = tt;
        written = tt;
        some = rows_some a.words m.words b.words from.segment from.at from.step to.segment to.at to.step k i n less before.moves (rw (before.source_at, before.place_at) at e.moves.some);
        longer = grows_again a.words m.words b.words before.longer e.moves.longer;
        granted = tt;
        memory = keeps_then_spends a m b _ before.longer.segments before.memory e.moves.memory;
        full = (some_in_rows k i n less e.moves.full.0, words_refused_after a m b 1 _ before.memory e.moves.full.1);
        few = rows_few _ _ _ k i n before.few e.moves.few less;
      });
      near = search rules;
      apart = rw (p.1, p.2) (λ other. refused_apart a b from.segment _ _
          (λ x h. (let left = rw (before.source_at, before.place_at) at (e.apart other) in
          (left.fits x (row_pads_at a m from.segment from.at from.step to.segment to.at to.step k n i x (row_there from.at from.step k n i c.requires.from less) less (before.apart other) h)).0)));
    }
