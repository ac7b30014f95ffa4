use Rattle.std.proofs.lemmas.Result.{err_from_is_err_and}
use Rattle.std.proofs.Common.{[], ap, arith, inl, inr, le_of_eq, le_trans, length, lt_of_lt_of_le, refl, subst, sym, ℕ, ◌*◌, ◌+◌, ◌<◌, ◌^◌, ◌∙◌, ◌∷◌, ◌≡◌, ◌≤◌}
use Rattle.std.proofs.lemmas.Bool.{cases_eq}
use Rattle.capnp_format.specs.Segments.{Grows, Segments, segment}
use Rattle.capnp_format.proofs.Slices.{there}
use Rattle.capnp_arena_traits.specs.declared.arena.WordPlace.{WordPlace}
use Rattle.capnp_allocation.proofs.Memory.{keeps_both, keeps_then_spends, spends_then_limits, words_refused_after, words_refused_before}
use Rattle.capnp_in_place.specs.Moved.{Moves, MovesSome, Unmoves, near_pointers}
use Rattle.capnp_in_place.specs.Rooms.{HasPadRoom, HasRoomAndPads}
use Rattle.capnp_in_place.proofs.Room.KeptByCalls.{few_after, few_again, few_at_most, few_before}
use Rattle.capnp_in_place.proofs.WiderObjects.RowsInside.{near_or_behind}
use Rattle.capnp_in_place.proofs.MovedPointers.RoomForPads.{near_row_few, near_same_row, none_elsewhere, pads_written}
use Rattle.capnp_in_place.proofs.WiderObjects.StructBySteps.{by_struct, nothing_grown, row_words, struct_becomes, struct_copied, struct_filled, struct_is, struct_moves, struct_row}
use Rattle.capnp_in_place.specs.Anew.{OnlyWrites, WritesAnew}
use Rattle.capnp_in_place.proofs.Room.WordsTaken.{pruned_writes}
use Rattle.capnp_in_place.proofs.MovedPointers.RewrittenInTurn.{ended, keeps_writes, writes_both, writes_few, writes_grow}
use Rattle.capnp_in_place.proofs.WiderObjects.Statements.{row_moves}
use Rattle.capnp_in_place.proofs.Room.PlacesStay.{grows_again}
use Rattle.capnp_in_place.proofs.WiderObjects.RowsWidened.{RowSteps, RowsTaken, RowsUndone, rows_anew, rows_left}
use Rattle.capnp_in_place.specs.Housed.{object_start}
use Rattle.capnp_in_place.specs.Widened.{GrowsByZeros}
use Rattle.capnp_allocation.specs.Memory.{ComesAfter, TakesWords}
use Rattle.capnp_allocation.specs.Zeroed.{IsZeroed, row}
use Rattle.capnp_allocation.specs.declared.making.Shape.TheVariants.{Struct as StructShape}
use Rattle.capnp_arena_traits.specs.View.{View}
use Rattle.capnp_in_place.proofs.widening.widen_struct.Goals as goal

data_inside : (start d q : ℕ) {length : ℕ} → start + d + q ≤ length → start + d ≤ length
data_inside start d q inside = omega arith

data_fits : (start d q : ℕ) {length most : ℕ} → start + d + q ≤ length → length ≤ most → most < 2 ^ 29 →
    start + d < 2 ^ 32
data_fits start d q inside within small = omega arith

sections_fit : (start d q : ℕ) {length most : ℕ} → start + d + q ≤ length → length ≤ most → most < 2 ^ 29 →
    d + q < 2 ^ 63
sections_fit start d q inside within small = omega arith

-- A room for n words holds sections of n words, and smaller ones.
start_inside : (at pads d q : ℕ) {n t : ℕ} → at + (pads + n) ≤ t → n ≡ d + q → 0 < d + q → at + pads < t
start_inside at pads d q room same some = omega arith

new_data_fits : (at pads d q : ℕ) {n t most : ℕ} → at + (pads + n) ≤ t → n ≡ d + q → t ≤ most →
    most < 2 ^ 29 → at + pads + d < 2 ^ 32
new_data_fits at pads d q room same within small = omega arith

new_data : (at pads d q : ℕ) {n t e : ℕ} → at + (pads + n) ≤ t → n ≡ d + q → e ≤ d → at + pads + e ≤ t
new_data at pads d q room same less = omega arith

new_pointers : (at pads d q : ℕ) {n t r : ℕ} → at + (pads + n) ≤ t → n ≡ d + q → r ≤ q → at + pads + d + r ≤ t
new_pointers at pads d q room same less = omega arith

old_before_new : (start d q pads : ℕ) {s t at : ℕ} → start + d + q ≤ s → s ≡ t → t ≤ at →
    start + d ≤ at + pads
old_before_new start d q pads inside same behind = omega arith

-- Old words stay in their places, and the new ones come after them.
pub allocate_object-requires-clause-there : goal.allocate_object-requires-clause-there
allocate_object-requires-clause-there g c =
    there (g.A.BuilderArena.view c.args.arena.now).words c.args.id c.args.at c.requires.place

pub pointers_place-from-requires : goal.pointers_place-from-requires
pointers_place-from-requires g c =
    data_fits c.args.old.start c.args.old.size.data_words c.args.old.size.pointers
    c.requires.inside (g.met.A.BuilderArena.within c.args.arena.now c.args.old.segment)
    (g.met.A.BuilderArena.small c.args.arena.now c.args.old.segment)

pub pointers_place-to-requires : goal.pointers_place-to-requires
pointers_place-to-requires g c =
    let (grown, near) = c.in_ok-room.ensures.taken in
    new_data_fits c.in_ok-room.room.at c.in_ok-room.room.pads c.args.size.data_words c.args.size.pointers
    grown.room c.total.ensures
    (g.met.A.BuilderArena.within c.allocate_object.new.arena c.in_ok-room.room.segment)
    (g.met.A.BuilderArena.small c.allocate_object.new.arena c.in_ok-room.room.segment)

pub copy_words-requires-clause-inside : goal.copy_words-requires-clause-inside
copy_words-requires-clause-inside g c = record {
  from = (let (grown, near) = c.in_ok-room.ensures.taken in
      rw (c.data_place.ensures, c.from.ensures)
      (le_trans (data_inside c.args.old.start c.args.old.size.data_words c.args.old.size.pointers
      c.requires.inside) (grown.grows.words c.args.old.segment)));
  to = (let (grown, near) = c.in_ok-room.ensures.taken in
      rw (c.data_place-2.ensures, c.from.ensures)
      (new_data c.in_ok-room.room.at c.in_ok-room.room.pads c.args.size.data_words c.args.size.pointers
      grown.room c.total.ensures c.requires.data));
}

pub copy_words-requires-clause-apart : goal.copy_words-requires-clause-apart
copy_words-requires-clause-apart g c =
    let (grown, near) = c.in_ok-room.ensures.taken in
    let S : Segments = (g.A.BuilderArena.view c.args.arena.now).words in
    rw (c.data_place.ensures, c.data_place-2.ensures, c.from.ensures)
    (λ e. old_before_new c.args.old.start c.args.old.size.data_words c.args.old.size.pointers
    c.in_ok-room.room.pads
    c.requires.inside (ap (λ s. length (segment S s)) e) grown.behind)

pub transfer_row-requires : goal.transfer_row-requires
transfer_row-requires g c = record {
  from = (let (grown, near) = c.in_ok-room.ensures.taken in
      let s : ℕ = c.args.old.segment in
      rw (c.pointers_place-from.ensures, c.from-count.ensures) (le_trans c.requires.inside
      (le_trans (grown.grows.words s) (le_of_eq (sym (c.copy_words.ensures.copied.words s))))));
  to = (let (grown, near) = c.in_ok-room.ensures.taken in
      rw (c.pointers_place-to.ensures, c.from-count.ensures)
      (le_trans
      (new_pointers c.in_ok-room.room.at c.in_ok-room.room.pads c.args.size.data_words c.args.size.pointers
      grown.room c.total.ensures c.requires.pointers)
      (le_of_eq (sym (c.copy_words.ensures.copied.words c.in_ok-room.room.segment)))));
}

pub point_to_object-requires-clause-place : goal.point_to_object-requires-clause-place
point_to_object-requires-clause-place g c =
    let (grown, near) = c.in_ok-room.ensures.taken in
    let id : ℕ = c.args.id in
    lt_of_lt_of_le c.requires.place (le_trans (grown.grows.words id)
    (le_trans (le_of_eq (sym (c.copy_words.ensures.copied.words id)))
    (c.in-Ok.ensures.moves.longer.words id)))

pub point_to_object-requires-clause-inside : goal.point_to_object-requires-clause-inside
point_to_object-requires-clause-inside g c =
    let (grown, near) = c.in_ok-room.ensures.taken in
    let v : ℕ = c.in_ok-room.room.segment in
    lt_of_lt_of_le
    (start_inside c.in_ok-room.room.at c.in_ok-room.room.pads c.args.size.data_words c.args.size.pointers
    grown.room c.total.ensures c.requires.some)
    (le_trans (le_of_eq (sym (c.copy_words.ensures.copied.words v))) (c.in-Ok.ensures.moves.longer.words v))

pub point_to_object-requires-clause-apart : goal.point_to_object-requires-clause-apart
point_to_object-requires-clause-apart g c = λ e.
    (let (grown, near) = c.in_ok-room.ensures.taken in
    let S : Segments = (g.A.BuilderArena.view c.args.arena.now).words in
    lt_of_lt_of_le c.requires.place (subst (λ s. length (segment S s) ≤ c.in_ok-room.room.at) e grown.behind))

pub point_to_object-requires-clause-near : goal.point_to_object-requires-clause-near
point_to_object-requires-clause-near g c = near_or_behind c.in_ok-room.ensures.taken.1

pub zero_pads_of_row-requires : goal.zero_pads_of_row-requires
zero_pads_of_row-requires g c = record {
  from = (let (grown, near) = c.in_ok-room.ensures.taken in
      let s : ℕ = c.args.old.segment in
      rw (c.pointers_place-from.ensures, c.from-count.ensures) (le_trans c.requires.inside
      (le_trans (grown.grows.words s) (le_trans (le_of_eq (sym (c.copy_words.ensures.copied.words s)))
      (c.in-Err.ensures.moves.longer.words s)))));
  to = (let (grown, near) = c.in_ok-room.ensures.taken in
      let v : ℕ = c.in_ok-room.room.segment in
      rw (c.pointers_place-to.ensures, c.from-count.ensures)
      (le_trans
      (new_pointers c.in_ok-room.room.at c.in_ok-room.room.pads c.args.size.data_words c.args.size.pointers
      grown.room c.total.ensures c.requires.pointers)
      (le_trans (le_of_eq (sym (c.copy_words.ensures.copied.words v))) (c.in-Err.ensures.moves.longer.words v))));
}

pub zero_if_inside-requires : goal.zero_if_inside-requires
zero_if_inside-requires g c =
    rw (c.from-in-Ok.ensures ∙ c.total-in-Ok.ensures)
    (sections_fit c.args.old.start c.args.old.size.data_words c.args.old.size.pointers
    c.requires.inside
    (g.met.A.BuilderArena.within c.args.arena.now c.args.old.segment)
    (g.met.A.BuilderArena.small c.args.arena.now c.args.old.segment))

pub returns-in-Ok : goal.returns-in-Ok
returns-in-Ok g c =
    let s : View = g.A.BuilderArena.view c.args.arena.now in
    let t : View = g.A.BuilderArena.view c.allocate_object.new.arena in
    let d : View = g.A.BuilderArena.view c.copy_words.new.arena in
    let p : View = g.A.BuilderArena.view c.transfer_row.new.arena in
    let r : View = g.A.BuilderArena.view c.point_to_object.new.arena in
    let z : View = g.A.BuilderArena.view c.zero_if_inside.new.arena in
    let q : View = g.A.BuilderArena.view c.zero_pads.new.arena in
    let old = c.args.old in
    let size = c.args.size in
    let h = c.in_ok-room.room in
    let moves = c.in-Ok.ensures.moves in
    let allocated = rw c.total.ensures at c.in_ok-room.ensures.taken in
    let copied = rw (c.data_place.ensures, c.data_place-2.ensures, c.from.ensures) at c.copy_words.ensures.copied in
    let first : OnlyWrites t d = record { limits = c.copy_words.ensures.limits; segments = copied.segments; words = copied.words } in
    let last : OnlyWrites p q = ended p r z q c.point_to_object.ensures.settled c.point_to_object.ensures.limits (pruned_writes r z c.zero_if_inside.ensures.limits c.zero_if_inside.ensures.pruned)
    (pruned_writes z q c.zero_pads.ensures.limits c.zero_pads.ensures.pruned) in
    let begun : Grows s.words d.words = grows_again s.words t.words d.words allocated.0.grows (writes_grow first) in
    let steps : RowSteps s.words t.words d.words p.words r.words z.words q.words c.args.id c.args.at (struct_row old) (old.size.data_words + old.size.pointers) 0 size h (StructShape size) = record {
      place = c.requires.place;
      filled = struct_filled s.words t.words d.words c.args.id old size h c.requires.inside allocated copied c.requires.data;
      narrow = c.requires.pointers;
      moves = subst (λ ms. Moves d.words p.words ms) (struct_moves old size h) (rw (c.pointers_place-from.ensures, c.pointers_place-to.ensures, c.from-count.ensures) at moves.moved);
      settled = c.point_to_object.ensures.settled;
      object_zeroed = rw (c.from-in-Ok.ensures ∙ c.total-in-Ok.ensures) at c.zero_if_inside.ensures.zeroed;
      pads_zeroed = rw c.pointer_word-pointer.ensures at c.zero_pads.ensures.zeroed;
    } in
    let taken : RowsTaken s t d p q c.args.id (struct_row old) 0 size h = record {
      kept = c.in_ok-room.ensures.room.granted;
      taken = subst (λ n. TakesWords s t c.args.id n) (row_words size) (rw c.total.ensures at c.in_ok-room.ensures.room.words);
      behind = subst (λ n. ComesAfter s c.args.id n (object_start h)) (row_words size) (rw c.total.ensures at c.in_ok-room.ensures.room.behind);
      first = first;
      written = subst (λ ms. WritesAnew d p ms) (struct_moves old size h) (rw (c.pointers_place-from.ensures, c.pointers_place-to.ensures, c.from-count.ensures) at moves.written);
      last = last;
    } in
    let wide = struct_becomes old size c.requires.data c.requires.pointers steps (struct_copied s.words t.words d.words c.args.id old size h c.requires.inside allocated copied c.requires.data) in
    record {
      wider = record {
        replaced = λ ws ts i. (wide ws ts i).replaced;
        leads = λ ws ts i. (let w = wide ws ts i in (w.segment_of, w.start_of, w.inside));
        anew = λ ws ts i. rows_anew (struct_is old size c.requires.data c.requires.pointers ws ts i) steps taken;
        granted = keeps_both s p q (le_trans begun.segments moves.longer.segments)
            (keeps_both s d p begun.segments (keeps_both s t d allocated.0.grows.segments c.in_ok-room.ensures.room.granted (keeps_writes t d first)) moves.granted) (keeps_writes p q last);
        memory = tt;
        refused = tt;
      };
      size = refl;
      full = tt;
      few = few_after _ _ _ _ (few_again _ _ _ (size.data_words + size.pointers + 1) (2 * old.size.pointers) (rw c.total.ensures at c.allocate_object.ensures.room.few)
          (few_before _ (writes_few first) (rw c.from-count.ensures at c.transfer_row.ensures.moves.few))) (writes_few last);
      grows = grows_again s.words d.words q.words begun (grows_again d.words p.words q.words moves.longer (writes_grow last));
      fits = λ to room. refl;
    }

pub returns-in-Err : goal.returns-in-Err
returns-in-Err g c =
    let s : View = g.A.BuilderArena.view c.args.arena.now in
    let t : View = g.A.BuilderArena.view c.allocate_object.new.arena in
    let d : View = g.A.BuilderArena.view c.copy_words.new.arena in
    let p : View = g.A.BuilderArena.view c.transfer_row.new.arena in
    let u : View = g.A.BuilderArena.view c.zero_pads_of_row.new.arena in
    let z : View = g.A.BuilderArena.view c.zero_if_inside-in-Err.new.arena in
    let k = c.in-Err.k in
    let old = c.args.old in
    let size = c.args.size in
    let h = c.in_ok-room.room in
    let moves = c.in-Err.ensures.moves in
    let (more, refused) = moves.full in
    let allocated = rw c.total.ensures at c.in_ok-room.ensures.taken in
    let copied = rw (c.data_place.ensures, c.data_place-2.ensures, c.from.ensures) at c.copy_words.ensures.copied in
    let first : OnlyWrites t d = record { limits = c.copy_words.ensures.limits; segments = copied.segments; words = copied.words } in
    let back : OnlyWrites p z = writes_both p u z (pruned_writes p u c.zero_pads_of_row.ensures.limits c.zero_pads_of_row.ensures.pruned)
    (pruned_writes u z c.zero_if_inside-in-Err.ensures.limits c.zero_if_inside-in-Err.ensures.pruned) in
    let begun : Grows s.words d.words = grows_again s.words t.words d.words allocated.0.grows (writes_grow first) in
    let kept = keeps_both s t d allocated.0.grows.segments c.in_ok-room.ensures.room.granted (keeps_writes t d first) in
    let undone = words_refused_before s p u 1 k (words_refused_after s d p 1 k kept refused) c.zero_pads_of_row.ensures.limits c.zero_pads_of_row.ensures.pruned in
    let steps : RowsUndone s.words t.words d.words p.words u.words z.words (struct_row old) 0 size h = record {
      filled = struct_filled s.words t.words d.words c.args.id old size h c.requires.inside allocated copied c.requires.data;
      narrow = c.requires.pointers;
      some = subst (λ ms. MovesSome d.words p.words ms) (struct_moves old size h) (rw (c.pointers_place-from.ensures, c.pointers_place-to.ensures, c.from-count.ensures) at moves.some);
      unmoves = subst (λ ms. Unmoves p.words u.words ms) (struct_moves old size h) (rw (c.pointers_place-from.ensures, c.pointers_place-to.ensures, c.from-count.ensures) at c.zero_pads_of_row.ensures.zeroed);
      zeroed = subst (λ n. h.at + h.pads + n ≤ length (segment u.words h.segment) → IsZeroed u.words z.words (row h.segment (h.at + h.pads) n ∷ [])) (row_words size)
          (rw (c.from-in-Err.ensures ∙ c.total-in-Err.ensures) at c.zero_if_inside-in-Err.ensures.zeroed);
    } in
    record {
      wider = record {
        replaced = tt;
        leads = tt;
        anew = tt;
        granted = tt;
        memory = spends_then_limits s u z k (spends_then_limits s p u k (keeps_then_spends s d p k begun.segments kept moves.memory) c.zero_pads_of_row.ensures.limits) c.zero_if_inside-in-Err.ensures.limits;
        refused = by_struct s.words c.args.id c.args.at old (λ t. GrowsByZeros s.words z.words) (λ ws ts i. rows_left (struct_is old size c.requires.data c.requires.pointers ws ts i) steps);
      };
      size = tt;
      full = inr (rw c.from-count.ensures at more, words_refused_before s u z 1 k undone c.zero_if_inside-in-Err.ensures.limits c.zero_if_inside-in-Err.ensures.pruned);
      few = few_after _ _ _ _ (few_again _ _ _ (size.data_words + size.pointers + 1) (2 * old.size.pointers) (rw c.total.ensures at c.allocate_object.ensures.room.few)
          (few_before _ (writes_few first) (rw c.from-count.ensures at c.transfer_row.ensures.moves.few))) (writes_few back);
      grows = grows_again s.words d.words z.words begun (grows_again d.words p.words z.words moves.longer (writes_grow back));
      fits = λ to room.
          (let k : ℕ = old.segment in
          let v : ℕ = h.segment in
          let p : ℕ = old.start + old.size.data_words in
          let r : ℕ = h.at + h.pads + size.data_words in
          let n : ℕ = near_pointers s.words (row_moves k p to.segment to.at old.size.pointers) in
          let some : 0 < old.size.pointers = rw c.from-count.ensures at more in
          let exists = there s.words k p (omega (arith, some, c.requires.inside)) in
          let few : n ≤ c.total.result = omega (arith, near_row_few s.words k p to.segment to.at old.size.pointers, c.requires.pointers, c.total.ensures) in
          elim (cases_eq k v) [
            | inl here ↦ c.in-Err.ensures.near (ap (λ (x : WordPlace). x.segment) c.pointers_place-from.ensures ∙ (here ∙ sym (ap (λ (x : WordPlace). x.segment) c.pointers_place-to.ensures)))
            | inr other ↦ (let moved = rw (c.pointers_place-from.ensures, c.pointers_place-to.ensures, c.from-count.ensures) at c.in-Err.ensures.apart in
                let left = (c.in_ok-room.ensures.room.fits k n (subst (λ m. HasRoomAndPads s c.args.id m k n) (sym c.total.ensures) room)).1 exists (λ e. other (sym e)) few in
                let pads = pads_written t d k n first left in
                let same = near_same_row s.words d.words k p v r to.segment to.at old.size.pointers
                (λ y l. copied.kept k y (none_elsewhere v _ _ k y other) ∙ allocated.0.kept k y (lt_of_lt_of_le l c.requires.inside)) in
                let e : n ≡ near_pointers d.words (row_moves k p v r old.size.pointers) + 0 = omega (arith, same) in
                ((moved other).fits 0 (subst (λ i. HasPadRoom d k i) e pads)).0)
          ]);
    }

pub returns-in_err-room-clause-wider : goal.returns-in_err-room-clause-wider
returns-in_err-room-clause-wider g c =
    let p = err_from_is_err_and c.from_residual.result c.from_residual.ensures.1 in
    let e = c.in_err-room.ensures.room in
    rw (p.1, p.2) (record {
      replaced = tt;
      leads = tt;
      anew = tt;
      granted = tt;
      memory = e.memory;
      refused = λ t i. nothing_grown (g.A.BuilderArena.view c.args.arena.now).words (g.A.BuilderArena.view c.allocate_object.new.arena).words e.refused;
    })

pub returns-in_err-room-clause-full : goal.returns-in_err-room-clause-full
returns-in_err-room-clause-full g c =
    let p = err_from_is_err_and c.from_residual.result c.from_residual.ensures.1 in rw (p.1, p.2) (inl (rw c.total.ensures at c.in_err-room.ensures.room.full, c.in_err-room.ensures.room.refused))

pub returns-in_err-room-clause-few : goal.returns-in_err-room-clause-few
returns-in_err-room-clause-few g c = let taken = rw c.total.ensures at c.allocate_object.ensures.room.few in few_at_most _ _
    (c.args.size.data_words + c.args.size.pointers + 1) _ taken

-- If there is room for the struct and for the landing pads that its pointers need, neither is
-- refused.
pub returns-in_err-room-clause-fits : goal.returns-in_err-room-clause-fits
returns-in_err-room-clause-fits g c =
    let v : View = g.A.BuilderArena.view c.args.arena.now in
    let p = err_from_is_err_and c.from_residual.result c.from_residual.ensures.1 in rw p.1 (λ to h.
    (let old = c.args.old in
    let n : ℕ = near_pointers v.words (row_moves old.segment (old.start + old.size.data_words) to.segment to.at old.size.pointers) in
    (c.in_err-room.ensures.room.fits old.segment n (subst (λ m. HasRoomAndPads v c.args.id m old.segment n) (sym c.total.ensures) h)).0))
