use Rattle.std.proofs.Common.{◌≡◌, ◌+◌, ◌*◌, ◌∙◌, ℕ, sym, subst, arith}
use Rattle.capnp_arena_traits.specs.View.{View}
use Rattle.capnp_format.specs.Segments.{Segments}
use Rattle.capnp_allocation.proofs.Memory.{keeps_written, words_refused_after, words_refused_before}
use Rattle.capnp_in_place.proofs.Room.KeptByCalls.{few_after, few_before, few_none, grown_between}
use Rattle.capnp_in_place.proofs.MovedPointers.MovedInTurn.{none_moved}
use Rattle.capnp_in_place.specs.Moved.{near_pointers}
use Rattle.capnp_in_place.specs.Rooms.{HasPadRoom}
use Rattle.capnp_in_place.specs.RowsRemade.{element_moves}
use Rattle.capnp_in_place.proofs.MovedPointers.RoomForPads.{near_same_rows, none_elsewhere, pads_written}
use Rattle.capnp_in_place.proofs.Room.RoomLeft.{same_words}
use Rattle.capnp_in_place.proofs.MovedPointers.MovedByRows.{no_moves}
use Rattle.capnp_in_place.proofs.MovedPointers.RewrittenInTurn.{writes_none}
use Rattle.capnp_in_place.proofs.remaking.move_elements.Goals as goal

-- There are no pointers.
pub returns-then-pointers-eq0-clause-filled : goal.returns-then-pointers-eq0-clause-filled
returns-then-pointers-eq0-clause-filled g c =
    let D : View = g.A.BuilderArena.view c.copy_rows.new.arena in
    let none : c.args.old.size.pointers ≡ 0 = sym c.from-pointers.ensures ∙ c.if-pointers-eq0.true in
    record {
      between = D;
      copied = rw (c.total.ensures, c.total-2.ensures, c.from.ensures) at c.copy_rows.ensures.copied;
      only = record { limits = c.copy_rows.ensures.limits; segments = c.copy_rows.ensures.copied.segments; words = c.copy_rows.ensures.copied.words };
      moved = rw none (rw no_moves (none_moved D.words));
      written = rw none (rw no_moves (writes_none D));
    }

pub returns-in-Ok-clause-filled : goal.returns-in-Ok-clause-filled
returns-in-Ok-clause-filled g c = record {
  between = g.A.BuilderArena.view c.copy_rows.new.arena;
  copied = rw (c.total.ensures, c.total-2.ensures, c.from.ensures) at c.copy_rows.ensures.copied;
  only = record { limits = c.copy_rows.ensures.limits; segments = c.copy_rows.ensures.copied.segments; words = c.copy_rows.ensures.copied.words };
  moved = rw (c.total.ensures, c.total-2.ensures, c.from-pointers.ensures, c.from-2.ensures, c.from-3.ensures) at c.in-Ok.ensures.moves.moved;
  written = rw (c.total.ensures, c.total-2.ensures, c.from-pointers.ensures, c.from-2.ensures, c.from-3.ensures) at c.in-Ok.ensures.moves.written;
}

pub returns-in-Err-clause-undone : goal.returns-in-Err-clause-undone
returns-in-Err-clause-undone g c =
    let D : Segments = (g.A.BuilderArena.view c.copy_rows.new.arena).words in
    let P : Segments = (g.A.BuilderArena.view c.transfer_rows.new.arena).words in (
      D,
      P,
      rw (c.total.ensures, c.total-2.ensures, c.from.ensures) at c.copy_rows.ensures.copied,
      rw (c.total.ensures, c.total-2.ensures, c.from-pointers.ensures, c.from-2.ensures, c.from-3.ensures) at c.in-Err.ensures.moves.some,
      rw (c.total.ensures, c.total-2.ensures, c.from-pointers.ensures, c.from-2.ensures, c.from-3.ensures) at c.zero_pads_of_rows.ensures.zeroed,
    )

pub returns-in-Err-clause-full : goal.returns-in-Err-clause-full
returns-in-Err-clause-full g c =
    let S : View = g.A.BuilderArena.view c.args.arena.now in
    let D : View = g.A.BuilderArena.view c.copy_rows.new.arena in
    let P : View = g.A.BuilderArena.view c.transfer_rows.new.arena in
    let R : View = g.A.BuilderArena.view c.zero_pads_of_rows.new.arena in
    let k = c.in-Err.k in
    let (some, refused) = c.in-Err.ensures.moves.full in
    let moved = words_refused_after S D P 1 k (keeps_written S D D.words c.copy_rows.ensures.limits) refused in
    (rw c.from-pointers.ensures at some, words_refused_before S P R 1 k moved c.zero_pads_of_rows.ensures.limits c.zero_pads_of_rows.ensures.pruned)

-- At most two words are allocated for a pointer.
pub returns-then-pointers-eq0-clause-few : goal.returns-then-pointers-eq0-clause-few
returns-then-pointers-eq0-clause-few g c =
    few_none _
    (same_words (g.A.BuilderArena.view c.args.arena.now).words
    (g.A.BuilderArena.view c.copy_rows.new.arena).words
    c.copy_rows.ensures.copied.segments c.copy_rows.ensures.copied.words)

pub returns-in-Ok-clause-few : goal.returns-in-Ok-clause-few
returns-in-Ok-clause-few g c =
    let copied = same_words (g.A.BuilderArena.view c.args.arena.now).words (g.A.BuilderArena.view c.copy_rows.new.arena).words c.copy_rows.ensures.copied.segments c.copy_rows.ensures.copied.words in
    let moved = rw c.from-pointers.ensures at c.transfer_rows.ensures.moves.few in
    few_before _ copied moved

pub returns-in-Err-clause-few : goal.returns-in-Err-clause-few
returns-in-Err-clause-few g c =
    let copied = same_words (g.A.BuilderArena.view c.args.arena.now).words (g.A.BuilderArena.view c.copy_rows.new.arena).words c.copy_rows.ensures.copied.segments c.copy_rows.ensures.copied.words in
    let moved = rw c.from-pointers.ensures at c.transfer_rows.ensures.moves.few in
    let undone = same_words (g.A.BuilderArena.view c.transfer_rows.new.arena).words (g.A.BuilderArena.view c.zero_pads_of_rows.new.arena).words c.zero_pads_of_rows.ensures.pruned.segments c.zero_pads_of_rows.ensures.pruned.words in
    few_after _ _ _ _ (few_before _ copied moved) undone

-- The pointers in another segment are the same as before.
pub returns-in-Err-clause-fits : goal.returns-in-Err-clause-fits
returns-in-Err-clause-fits g c = λ other h.
    (let S : View = g.A.BuilderArena.view c.args.arena.now in
    let D : View = g.A.BuilderArena.view c.copy_rows.new.arena in
    let copied = c.copy_rows.ensures.copied in
    let old = c.args.old in
    let first = c.args.first in
    let size = c.args.size in
    let k : ℕ = old.segment in
    let w : ℕ = old.size.data_words + old.size.pointers in
    let z : ℕ = size.data_words + size.pointers in
    let p : ℕ = old.at + old.tag + old.size.data_words in
    let r : ℕ = first.at + size.data_words in
    let moved = rw (c.total.ensures, c.total-2.ensures, c.from-pointers.ensures, c.from-2.ensures, c.from-3.ensures) at (c.in-Err.ensures.apart other) in
    let same = near_same_rows S.words D.words k p w first.segment r z first.segment r z old.size.pointers old.count (p + old.count * w + old.size.pointers) (omega arith) (λ y l. copied.kept k y (none_elsewhere _ _ _ k y other)) in
    let left = pads_written S D k _ (record { limits = c.copy_rows.ensures.limits; segments = copied.segments; words = copied.words }) h in
    let e : near_pointers S.words (element_moves old first size) ≡ near_pointers D.words (element_moves old first size) + 0 = omega (arith, same) in
    (moved.fits 0 (subst (λ n. HasPadRoom D k n) e left)).0)

pub returns-in-Err-clause-longer : goal.returns-in-Err-clause-longer
returns-in-Err-clause-longer g c = record {
  segments = grown_between c.copy_rows.ensures.copied.segments c.in-Err.ensures.moves.longer.segments
      c.zero_pads_of_rows.ensures.pruned.segments;
  words = λ x. grown_between (c.copy_rows.ensures.copied.words x) (c.in-Err.ensures.moves.longer.words x)
      (c.zero_pads_of_rows.ensures.pruned.words x);
}
