use Rattle.std.proofs.lemmas.Result.{err_from_is_err_and}
use Rattle.std.proofs.Common.{List, ap, arith, le_antisymm, refl, rules, subst, sym, ℕ, ◌≡◌}
use Rattle.capnp_allocation.proofs.Memory.{keeps_both, keeps_itself, keeps_then_spends, words_refused_after}
use Rattle.capnp_in_place.specs.Anew.{WritesAnew}
use Rattle.capnp_in_place.specs.Moved.{Move, Moves}
use Rattle.capnp_in_place.proofs.MovedPointers.MovedInTurn.{moves_next, moves_some, none_moved}
use Rattle.capnp_in_place.proofs.MovedPointers.RoomForPads.{Apart, apart_next, apart_none, apart_of, made_apart, pads_at, refused_apart}
use Rattle.capnp_in_place.proofs.Room.RoomLeft.{all_words}
use Rattle.capnp_in_place.proofs.MovedPointers.RewrittenInTurn.{writes_next, writes_none}
use Rattle.capnp_in_place.proofs.WiderObjects.Statements.{row_moves}
use Rattle.capnp_arena_traits.specs.View.{View}
use Rattle.capnp_in_place.proofs.Room.PlacesStay.{grows_again}
use Rattle.capnp_in_place.proofs.Room.KeptByCalls.{no_growth}
use Rattle.capnp_in_place.proofs.moving.transfer_each.Goals as goal

pub loop-i-init : goal.loop-i-init
loop-i-init g c =
    let v : View = g.A.BuilderArena.view c.args.arena.now in
    record {
      moves = none_moved v.words;
      written = writes_none v;
      longer = no_growth v.words;
      few = omega arith;
      memory = keeps_itself v;
      apart = λ other. apart_none v c.args.from.segment;
    }

-- One more pointer.
pub loop-i-preserved : goal.loop-i-preserved
loop-i-preserved g c =
    let a : View = g.A.BuilderArena.view c.args.arena.now in
    let m : View = g.A.BuilderArena.view c.loop-i.arena in
    let b : View = g.A.BuilderArena.view c.transfer_pointer.new.arena in
    let from = c.args.from in
    let to = c.args.to in
    let i = c.loop-i.i in
    let before = c.loop-i.invariant in
    let e = c.in_ok-transfer_pointer.ensures in
    record {
      moves = moves_next a.words m.words b.words from.segment from.at to.segment to.at i before.moves e.moved;
      written = writes_next a m b from.segment from.at to.segment to.at i before.moves e.moved before.written e.written;
      longer = grows_again a.words m.words b.words before.longer e.memory.longer;
      few = omega (arith, before.few, e.memory.few);
      memory = keeps_both a m b before.longer.segments before.memory e.memory.granted;
      apart = λ other. apart_next a m b from.segment from.at to.segment to.at c.args.count i c.requires.from c.loop-i-test.true before.longer (before.apart other) (apart_of (e.apart other));
    }

-- The refused move changes nothing, and each pointer before has taken two words at most.
pub returns-in_err-transfer_pointer : goal.returns-in_err-transfer_pointer
returns-in_err-transfer_pointer g c =
    let p = err_from_is_err_and c.from_residual.result c.from_residual.ensures.1 in
    let a : View = g.A.BuilderArena.view c.args.arena.now in
    let m : View = g.A.BuilderArena.view c.loop-i.arena in
    let b : View = g.A.BuilderArena.view c.transfer_pointer.new.arena in
    let from = c.args.from in
    let to = c.args.to in
    let i = c.loop-i.i in
    let n = c.args.count in
    let before = c.loop-i.invariant in
    let e = c.in_err-transfer_pointer.ensures in
    let less = c.loop-i-test.true in
    record {
      moves = rw (p.1, p.2) (record {
        moved = tt;
        written = tt;
        some = moves_some a.words b.words from.segment from.at to.segment to.at i n (omega (arith, less)) (subst (λ T. Moves a.words T (row_moves from.segment from.at to.segment to.at i)) (sym e.memory.refused) before.moves);
        longer = grows_again a.words m.words b.words before.longer e.memory.longer;
        granted = tt;
        memory = keeps_then_spends a m b _ before.longer.segments before.memory e.memory.memory;
        full = (omega (arith, less), words_refused_after a m b 1 _ before.memory e.memory.full);
        few = omega (arith, before.few, less, ap all_words e.memory.refused);
      });
      near = search rules;
      apart = rw (p.1, p.2) (λ other. refused_apart a b from.segment _ _
          (λ k h. ((e.apart other).fits k (pads_at a m from.segment from.at to.segment to.at n i k c.requires.from less (before.apart other) h)).0));
    }

pub returns : goal.returns
returns g c =
    let a : View = g.A.BuilderArena.view c.args.arena.now in
    let b : View = g.A.BuilderArena.view c.loop-i.arena in
    let all : c.loop-i.i ≡ c.args.count = le_antisymm c.loop-i.auto.i-end c.loop-i-test.false in
    let moves : ℕ → List Move = λ n. row_moves c.args.from.segment c.args.from.at c.args.to.segment c.args.to.at n in
    let before = c.loop-i.invariant in
    record {
      moves = record {
        moved = subst (λ n. Moves a.words b.words (moves n)) all before.moves;
        written = subst (λ n. WritesAnew a b (moves n)) all before.written;
        some = tt;
        longer = before.longer;
        granted = before.memory;
        memory = tt;
        full = tt;
        few = omega (arith, before.few, all);
      };
      near = λ e. refl;
      apart = λ other. made_apart _ a b c.args.from.segment _ (subst (λ n. Apart a b c.args.from.segment (moves n)) all (before.apart other));
    }
