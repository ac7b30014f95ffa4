use Rattle.std.proofs.lemmas.Result.{err_from_is_err_and}
use Rattle.std.proofs.Common.{ap, arith, inl, inr, le_of_eq, le_trans, length, lt_of_lt_of_le, refl, subst, sym, ℕ, ◌*◌, ◌+◌, ◌<◌, ◌^◌, ◌∙◌, ◌≤◌}
use Rattle.std.proofs.Math.Nat.{mul-le-mul_left}
use Rattle.std.proofs.lemmas.Bool.{cases_eq}
use Rattle.capnp_format.specs.Segments.{Grows, Segments, segment}
use Rattle.capnp_format.proofs.Slices.{there}
use Rattle.capnp_allocation.specs.Made.{structs_words}
use Rattle.capnp_allocation.proofs.Memory.{keeps_both, keeps_then_spends, spends_then_limits, words_refused_after, words_refused_before}
use Rattle.capnp_in_place.proofs.WiderObjects.AnyRows.{are_rows, rows_become}
use Rattle.capnp_in_place.proofs.WiderObjects.RowListBySteps.{ListSteps, old_words}
use Rattle.capnp_in_place.proofs.Room.KeptByCalls.{few_after, few_again, few_at_most}
use Rattle.capnp_in_place.specs.Moved.{near_pointers}
use Rattle.capnp_in_place.specs.Rooms.{HasPadRoom}
use Rattle.capnp_in_place.specs.RowsRemade.{element_moves}
use Rattle.capnp_in_place.proofs.MovedPointers.RoomForPads.{near_rows_few, near_same_rows, none_elsewhere}
use Rattle.capnp_in_place.proofs.WiderObjects.RowsInside.{first_fits, near_or_behind, product_fits, product_small, rows_fit, rows_small, stands_before, sum_fits, sum_small, tag_fits, tag_inside}
use Rattle.capnp_in_place.proofs.WiderObjects.StructBySteps.{nothing_grown}
use Rattle.capnp_in_place.specs.Anew.{OnlyWrites}
use Rattle.capnp_in_place.proofs.Room.WordsTaken.{pruned_writes}
use Rattle.capnp_in_place.proofs.MovedPointers.RewrittenInTurn.{ended, keeps_writes, writes_few, writes_grow}
use Rattle.capnp_in_place.proofs.Room.PlacesStay.{grows_again}
use Rattle.capnp_allocation.proofs.Written.{same_grows}
use Rattle.capnp_in_place.proofs.WiderObjects.RowsWidened.{RowsTaken, RowsUndone, rows_anew, rows_left}
use Rattle.capnp_in_place.proofs.WiderObjects.RowsCopied.{rows_copied, rows_filled, tag_copied, tag_head}
use Rattle.capnp_arena_traits.specs.View.{View}
use Rattle.capnp_in_place.proofs.remaking.widen_rows_inside.Goals as goal

-- The room is inside its segment, which has fewer than 2^29 words.
pub overflow_add-tag : goal.overflow_add-tag
overflow_add-tag g c =
    let (T, room, tagged) = c.in_ok-room.ensures.begun in
    let v : ℕ = c.in_ok-room.room.segment in
    let now = c.allocate_struct_list.new.arena in
    record {
      fits = tag_fits c.in_ok-room.room.at c.in_ok-room.room.pads
          (c.args.old.count * (c.args.size.data_words + c.args.size.pointers))
          room.0.room (tagged.words v) (g.met.A.BuilderArena.within now v)
          (g.met.A.BuilderArena.small now v);
    }

pub overflow_add-first : goal.overflow_add-first
overflow_add-first g c =
    let (T, room, tagged) = c.in_ok-room.ensures.begun in
    let v : ℕ = c.in_ok-room.room.segment in
    let now = c.allocate_struct_list.new.arena in
    record {
      fits = first_fits c.in_ok-room.room.at c.in_ok-room.room.pads
          (c.args.old.count * (c.args.size.data_words + c.args.size.pointers))
          room.0.room (tagged.words v) (g.met.A.BuilderArena.within now v)
          (g.met.A.BuilderArena.small now v);
    }

-- No segment has become shorter.
pub point_to_object-requires-clause-place : goal.point_to_object-requires-clause-place
point_to_object-requires-clause-place g c =
    let (T, room, tagged) = c.in_ok-room.ensures.begun in
    let id : ℕ = c.args.id in
    lt_of_lt_of_le c.requires.place (le_trans (room.0.grows.words id)
    (le_trans (le_of_eq (sym (tagged.words id))) (c.move_elements.ensures.longer.words id)))

pub point_to_object-requires-clause-inside : goal.point_to_object-requires-clause-inside
point_to_object-requires-clause-inside g c =
    let (T, room, tagged) = c.in_ok-room.ensures.begun in
    let v : ℕ = c.in_ok-room.room.segment in
    tag_inside c.in_ok-room.room.at c.in_ok-room.room.pads
    (c.args.old.count * (c.args.size.data_words + c.args.size.pointers))
    room.0.room (tagged.words v) (c.move_elements.ensures.longer.words v)

-- The new words are fewer than a segment has.
pub overflow_mul-words : goal.overflow_mul-words
overflow_mul-words g c = record { fits = product_fits c.args.old.count c.total.ensures c.requires.small }

pub allocate_struct_list-requires-clause-there : goal.allocate_struct_list-requires-clause-there
allocate_struct_list-requires-clause-there g c =
    there (g.A.BuilderArena.view c.args.arena.now).words c.args.id c.args.at c.requires.place

-- The old rows are unchanged, before the new ones.
pub move_elements-requires-clause-from : goal.move_elements-requires-clause-from
move_elements-requires-clause-from g c =
    let (T, room, tagged) = c.in_ok-room.ensures.begun in
    let s : ℕ = c.args.old.segment in
    le_trans c.requires.inside (le_trans (room.0.grows.words s) (le_of_eq (sym (tagged.words s))))

pub move_elements-requires-clause-to : goal.move_elements-requires-clause-to
move_elements-requires-clause-to g c =
    let (T, room, tagged) = c.in_ok-room.ensures.begun in
    rows_fit c.in_ok-room.room.at c.in_ok-room.room.pads room.0.room (tagged.words c.in_ok-room.room.segment)
    refl

pub move_elements-requires-clause-apart : goal.move_elements-requires-clause-apart
move_elements-requires-clause-apart g c = λ e.
    (let (T, room, tagged) = c.in_ok-room.ensures.begun in
    let S : Segments = (g.A.BuilderArena.view c.args.arena.now).words in
    stands_before c.in_ok-room.room.pads c.requires.inside (ap (λ s. length (segment S s)) e) room.0.behind)

-- The new words come after the pointer, if they are in its segment.
pub point_to_object-requires-clause-apart : goal.point_to_object-requires-clause-apart
point_to_object-requires-clause-apart g c = λ e.
    (let (T, room, tagged) = c.in_ok-room.ensures.begun in
    let S : Segments = (g.A.BuilderArena.view c.args.arena.now).words in
    lt_of_lt_of_le c.requires.place
    (subst (λ s. length (segment S s) ≤ c.in_ok-room.room.at) e room.0.behind))

pub point_to_object-requires-clause-near : goal.point_to_object-requires-clause-near
point_to_object-requires-clause-near g c = let (T, room, tagged) = c.in_ok-room.ensures.begun in near_or_behind room.1

pub point_to_object-requires-clause-few : goal.point_to_object-requires-clause-few
point_to_object-requires-clause-few g c =
    subst (λ n. c.args.old.count * n < 2 ^ 29) (sym c.total.ensures) c.requires.small

-- The old rows have fewer words than a segment.
pub overflow_mul-length : goal.overflow_mul-length
overflow_mul-length g c = record {
  fits = product_small c.args.old.tag (rows_small c.args.old.at c.args.old.tag c.args.old.count
      (c.args.old.size.data_words + c.args.old.size.pointers) c.requires.inside
      (g.met.A.BuilderArena.within c.args.arena.now c.args.old.segment)
      (g.met.A.BuilderArena.small c.args.arena.now c.args.old.segment))
      c.from-in-Ok.ensures (c.from-step.ensures ∙ c.total-in-Ok.ensures);
}

pub overflow_add-length : goal.overflow_add-length
overflow_add-length g c = record {
  fits = sum_fits (rows_small c.args.old.at c.args.old.tag c.args.old.count
      (c.args.old.size.data_words + c.args.old.size.pointers) c.requires.inside
      (g.met.A.BuilderArena.within c.args.arena.now c.args.old.segment)
      (g.met.A.BuilderArena.small c.args.arena.now c.args.old.segment))
      c.from.ensures c.from-in-Ok.ensures (c.from-step.ensures ∙ c.total-in-Ok.ensures);
}

pub zero_if_inside-requires : goal.zero_if_inside-requires
zero_if_inside-requires g c = sum_small (rows_small c.args.old.at c.args.old.tag c.args.old.count
    (c.args.old.size.data_words + c.args.old.size.pointers) c.requires.inside
    (g.met.A.BuilderArena.within c.args.arena.now c.args.old.segment)
    (g.met.A.BuilderArena.small c.args.arena.now c.args.old.segment))
    c.from.ensures c.from-in-Ok.ensures (c.from-step.ensures ∙ c.total-in-Ok.ensures)

pub returns-in-Ok : goal.returns-in-Ok
returns-in-Ok g c =
    let s : View = g.A.BuilderArena.view c.args.arena.now in
    let b : View = g.A.BuilderArena.view c.allocate_struct_list.new.arena in
    let p : View = g.A.BuilderArena.view c.move_elements.new.arena in
    let r : View = g.A.BuilderArena.view c.point_to_object.new.arena in
    let z : View = g.A.BuilderArena.view c.zero_if_inside.new.arena in
    let q : View = g.A.BuilderArena.view c.zero_pads.new.arena in
    let old = c.args.old in
    let size = c.args.size in
    let h = c.in_ok-room.room in
    let (T, room, tagged) = c.in_ok-room.ensures.begun in
    let filled = c.in-Ok.ensures.filled in
    let d : View = filled.between in
    let head = tag_head T b.words old.count size h tagged in
    let last : OnlyWrites p q = ended p r z q c.point_to_object.ensures.settled c.point_to_object.ensures.limits (pruned_writes r z c.zero_if_inside.ensures.limits c.zero_if_inside.ensures.pruned)
    (pruned_writes z q c.zero_pads.ensures.limits c.zero_pads.ensures.pruned) in
    let begun : Grows s.words b.words = grows_again s.words T b.words room.0.grows (same_grows T b.words (record { segments = tagged.segments; words = tagged.words })) in
    let steps : ListSteps s.words T d.words p.words r.words z.words q.words c.args.id c.args.at old (old_words old) size h = record {
      steps = record {
        place = c.requires.place;
        filled = rows_filled s.words T b.words d.words old 1 size h c.requires.inside room.0 head filled.copied c.requires.wider.data_words;
        narrow = c.requires.wider.pointers;
        moves = filled.moved;
        settled = rw c.total.ensures at c.point_to_object.ensures.settled;
        object_zeroed = rw (c.from.ensures, c.from-in-Ok.ensures, c.from-step.ensures, c.total-in-Ok.ensures) at c.zero_if_inside.ensures.zeroed;
        pads_zeroed = rw c.pointer_word-pointer.ensures at c.zero_pads.ensures.zeroed;
      };
      tag = tag_copied T b.words d.words old size h tagged filled.copied;
    } in
    let copied = rows_copied s.words T b.words d.words old 1 size h c.requires.inside room.0 head filled.copied in
    let taken : RowsTaken s b d p q c.args.id old 1 size h = record {
      kept = c.in_ok-room.ensures.room.granted;
      taken = c.in_ok-room.ensures.room.words;
      behind = c.in_ok-room.ensures.room.behind;
      first = filled.only;
      written = filled.written;
      last = last;
    } in
    record {
      remakes = record {
        made = record {
          remade = λ t x. rows_become t old size h x steps copied c.requires.wider.data_words;
          anew = λ t x. rows_anew (are_rows s.words c.args.id c.args.at t old size x) steps.steps taken;
          granted = keeps_both s p q (le_trans begun.segments c.move_elements.ensures.longer.segments)
              (keeps_both s b p begun.segments c.in_ok-room.ensures.room.granted c.in-Ok.ensures.memory.granted) (keeps_writes p q last);
          memory = tt;
          refused = tt;
        };
        few = few_after _ _ _ _ (few_again _ _ _ (structs_words old.count size + 1) (2 * (old.count * old.size.pointers)) c.allocate_struct_list.ensures.room.few c.move_elements.ensures.few) (writes_few last);
      };
      full = tt;
      grows = grows_again s.words b.words q.words begun (grows_again b.words p.words q.words c.move_elements.ensures.longer (writes_grow last));
      fits = λ to room. refl;
    }

pub returns-in-Err : goal.returns-in-Err
returns-in-Err g c =
    let s : View = g.A.BuilderArena.view c.args.arena.now in
    let b : View = g.A.BuilderArena.view c.allocate_struct_list.new.arena in
    let u : View = g.A.BuilderArena.view c.move_elements.new.arena in
    let z : View = g.A.BuilderArena.view c.zero_if_inside-in-Err.new.arena in
    let k = c.in-Err.k in
    let old = c.args.old in
    let size = c.args.size in
    let h = c.in_ok-room.room in
    let (T, room, tagged) = c.in_ok-room.ensures.begun in
    let (D, P, copied, part, unmoves) = c.in-Err.ensures.undone in
    let (some, refused) = c.in-Err.ensures.full in
    let back : OnlyWrites u z = pruned_writes u z c.zero_if_inside-in-Err.ensures.limits c.zero_if_inside-in-Err.ensures.pruned in
    let begun : Grows s.words b.words = grows_again s.words T b.words room.0.grows (same_grows T b.words (record { segments = tagged.segments; words = tagged.words })) in
    let steps : RowsUndone s.words T D P u.words z.words old 1 size h = record {
      filled = rows_filled s.words T b.words D old 1 size h c.requires.inside room.0 (tag_head T b.words old.count size h tagged) copied c.requires.wider.data_words;
      narrow = c.requires.wider.pointers;
      some = part;
      unmoves = unmoves;
      zeroed = rw (c.from-in-Err.ensures, c.total.ensures) at c.zero_if_inside-in-Err.ensures.zeroed;
    } in
    record {
      remakes = record {
        made = record {
          remade = tt;
          anew = tt;
          granted = tt;
          memory = spends_then_limits s u z k (keeps_then_spends s b u k begun.segments c.in_ok-room.ensures.room.granted c.in-Err.ensures.memory.refused) c.zero_if_inside-in-Err.ensures.limits;
          refused = λ t x. rows_left (are_rows s.words c.args.id c.args.at t old size x) steps;
        };
        few = few_after _ _ _ _ (few_again _ _ _ (structs_words old.count size + 1) (2 * (old.count * old.size.pointers)) c.allocate_struct_list.ensures.room.few c.move_elements.ensures.few) (writes_few back);
      };
      full = inr (some, words_refused_before s u z 1 k (words_refused_after s b u 1 k c.in_ok-room.ensures.room.granted refused) c.zero_if_inside-in-Err.ensures.limits c.zero_if_inside-in-Err.ensures.pruned);
      grows = grows_again s.words b.words z.words begun (grows_again b.words u.words z.words c.move_elements.ensures.longer (writes_grow back));
      fits = λ to enough.
          (let k : ℕ = old.segment in
          let v : ℕ = h.segment in
          let w : ℕ = old.size.data_words + old.size.pointers in
          let y : ℕ = size.data_words + size.pointers in
          let p : ℕ = old.at + old.tag + old.size.data_words in
          let r : ℕ = h.at + h.pads + 1 + size.data_words in
          let n : ℕ = near_pointers s.words (element_moves old to size) in
          let exists = there s.words k 0 (omega (arith, some, c.requires.inside)) in
          let few : n ≤ structs_words old.count size = omega (
            arith,
            near_rows_few s.words k p w to.segment (to.at + size.data_words) y old.size.pointers old.count,
            mul-le-mul_left old.count c.requires.wider.pointers,
          ) in
          elim (cases_eq k v) [
            | inl here ↦ c.in-Err.ensures.near here
            | inr other ↦ (let left = (c.in_ok-room.ensures.room.fits k n enough).1 exists (λ e. other (sym e)) few in
                let same = near_same_rows s.words b.words k p w v r y to.segment (to.at + size.data_words) y old.size.pointers old.count (length (segment s.words k)) (omega (arith, c.requires.inside))
                (λ x l. tagged.kept k x (none_elsewhere _ _ _ k x other) ∙ room.0.kept k x l) in
                c.in-Err.ensures.fits other (subst (λ i. HasPadRoom b k i) (sym same) left))
          ]);
    }

pub returns-in_err-room-clause-remakes : goal.returns-in_err-room-clause-remakes
returns-in_err-room-clause-remakes g c = record {
  made = (let p = err_from_is_err_and c.from_residual.result c.from_residual.ensures.1 in
      let e = c.in_err-room.ensures.room in
      rw (p.1, p.2) (record {
        remade = tt;
        anew = tt;
        granted = tt;
        memory = e.memory;
        refused = λ t i. nothing_grown (g.A.BuilderArena.view c.args.arena.now).words (g.A.BuilderArena.view c.allocate_struct_list.new.arena).words e.refused;
      }));
  few = (few_at_most _ _ (structs_words c.args.old.count c.args.size + 1) _
      c.allocate_struct_list.ensures.room.few);
}

pub returns-in_err-room-clause-full : goal.returns-in_err-room-clause-full
returns-in_err-room-clause-full g c =
    let p = err_from_is_err_and c.from_residual.result c.from_residual.ensures.1 in rw (p.1, p.2) (inl (c.in_err-room.ensures.room.full, c.in_err-room.ensures.room.refused))

-- If there is room for the list and for the landing pads that its pointers need, nothing is
-- refused.
pub returns-in_err-room-clause-fits : goal.returns-in_err-room-clause-fits
returns-in_err-room-clause-fits g c =
    let p = err_from_is_err_and c.from_residual.result c.from_residual.ensures.1 in
    rw p.1 (λ to h. (c.in_err-room.ensures.room.fits c.args.old.segment _ h).0)
