use Rattle.std.proofs.lemmas.Result.{err_from_is_err_and}
use Rattle.std.proofs.Common.{ap, arith, le_of_eq, le_trans, length, lt_of_lt_of_le, refl, subst, sym, ℕ, ◌*◌, ◌+◌, ◌<◌, ◌^◌, ◌∙◌, ◌≤◌}
use Rattle.capnp_format.specs.Segments.{Grows, Segments, segment}
use Rattle.capnp_format.proofs.Slices.{there}
use Rattle.capnp_allocation.proofs.Memory.{keeps_both}
use Rattle.capnp_in_place.proofs.Room.KeptByCalls.{few_after}
use Rattle.capnp_in_place.proofs.WiderObjects.RowsInside.{first_fits, near_or_behind, product_fits, rows_fit, some_total, some_words, stands_before, tag_fits, tag_inside}
use Rattle.capnp_in_place.specs.Anew.{OnlyWrites, WritesAnew}
use Rattle.capnp_in_place.proofs.WiderObjects.StructBySteps.{nothing_grown}
use Rattle.capnp_in_place.proofs.Room.WordsTaken.{pruned_writes}
use Rattle.capnp_in_place.proofs.MovedPointers.RewrittenInTurn.{ended, keeps_writes, writes_both, writes_few, writes_grow, writes_none}
use Rattle.capnp_in_place.proofs.Room.PlacesStay.{grows_again}
use Rattle.capnp_allocation.proofs.Written.{same_grows}
use Rattle.capnp_in_place.proofs.WiderObjects.RowListBySteps.{ListSteps}
use Rattle.capnp_in_place.proofs.MovedPointers.MovedInTurn.{none_moved}
use Rattle.capnp_in_place.proofs.WiderObjects.NumberListBySteps.{NumbersCopied, number_moves, number_rows, number_words, numbers_are, numbers_become, numbers_filled, numbers_tag}
use Rattle.capnp_in_place.proofs.WiderObjects.RowsWidened.{RowsTaken, rows_anew}
use Rattle.capnp_in_place.specs.Moved.{Moves}
use Rattle.capnp_arena_traits.specs.View.{View}
use Rattle.capnp_in_place.proofs.MovedPointers.RoomForPads.{no_pads}
use Rattle.capnp_in_place.proofs.number_lists.widen_numbers_inside.Goals as goal

-- The room is inside its segment, which has fewer than 2^29 words.
pub overflow_add-first : goal.overflow_add-first
overflow_add-first g c =
    let (T, room, tagged) = c.in_ok-room.ensures.begun in
    let v : ℕ = c.in_ok-room.room.segment in
    let now = c.allocate_struct_list.new.arena in
    record {
      fits = tag_fits c.in_ok-room.room.at c.in_ok-room.room.pads
          (c.args.old.count * (c.args.size.data_words + c.args.size.pointers))
          room.0.room (tagged.words v) (g.met.A.BuilderArena.within now v)
          (g.met.A.BuilderArena.small now v);
    }

pub overflow_add-first-2 : goal.overflow_add-first-2
overflow_add-first-2 g c =
    let (T, room, tagged) = c.in_ok-room.ensures.begun in
    let v : ℕ = c.in_ok-room.room.segment in
    let now = c.allocate_struct_list.new.arena in
    record {
      fits = first_fits c.in_ok-room.room.at c.in_ok-room.room.pads
          (c.args.old.count * (c.args.size.data_words + c.args.size.pointers))
          room.0.room (tagged.words v) (g.met.A.BuilderArena.within now v)
          (g.met.A.BuilderArena.small now v);
    }

-- The old segments have no fewer words than before.
pub allocate_struct_list-requires-clause-there : goal.allocate_struct_list-requires-clause-there
allocate_struct_list-requires-clause-there g c =
    there (g.A.BuilderArena.view c.args.arena.now).words c.args.id c.args.at c.requires.place

pub allocate_struct_list-requires-clause-few : goal.allocate_struct_list-requires-clause-few
allocate_struct_list-requires-clause-few g c = λ none. absurd (some_words c.args.size.pointers c.requires.data none)

-- The new words are fewer than a segment has.
pub overflow_mul-shape : goal.overflow_mul-shape
overflow_mul-shape g c = record { fits = product_fits c.args.old.count c.total-2.ensures c.requires.small }

pub copy_numbers-requires-clause-inside : goal.copy_numbers-requires-clause-inside
copy_numbers-requires-clause-inside g c =
    let (T, room, tagged) = c.in_ok-room.ensures.begun in
    let s : ℕ = c.args.old.segment in
    le_trans c.requires.inside (le_trans (room.0.grows.words s) (le_of_eq (sym (tagged.words s))))

pub copy_numbers-requires-clause-to : goal.copy_numbers-requires-clause-to
copy_numbers-requires-clause-to g c =
    let (T, room, tagged) = c.in_ok-room.ensures.begun in
    rows_fit c.in_ok-room.room.at c.in_ok-room.room.pads room.0.room (tagged.words c.in_ok-room.room.segment)
    (ap (λ n. c.args.old.count * n) c.total.ensures)

pub copy_numbers-requires-clause-apart : goal.copy_numbers-requires-clause-apart
copy_numbers-requires-clause-apart g c = λ e.
    (let (T, room, tagged) = c.in_ok-room.ensures.begun in
    let S : Segments = (g.A.BuilderArena.view c.args.arena.now).words in
    stands_before c.in_ok-room.room.pads c.requires.inside (ap (λ s. length (segment S s)) e) room.0.behind)

pub copy_numbers-requires-clause-some : goal.copy_numbers-requires-clause-some
copy_numbers-requires-clause-some g c = subst (λ n. 0 < n) (sym c.total.ensures)
    (some_total c.args.size.pointers c.requires.data)

-- The new words come after the pointer, if they are in its segment.
pub point_to_object-requires-clause-place : goal.point_to_object-requires-clause-place
point_to_object-requires-clause-place g c =
    let (T, room, tagged) = c.in_ok-room.ensures.begun in
    let id : ℕ = c.args.id in
    lt_of_lt_of_le c.requires.place (le_trans (room.0.grows.words id)
    (le_of_eq (sym (c.copy_numbers.ensures.copied.words id ∙ tagged.words id))))

pub point_to_object-requires-clause-inside : goal.point_to_object-requires-clause-inside
point_to_object-requires-clause-inside g c =
    let (T, room, tagged) = c.in_ok-room.ensures.begun in
    let v : ℕ = c.in_ok-room.room.segment in
    tag_inside c.in_ok-room.room.at c.in_ok-room.room.pads
    (c.args.old.count * (c.args.size.data_words + c.args.size.pointers))
    room.0.room (tagged.words v) (le_of_eq (sym (c.copy_numbers.ensures.copied.words v)))

pub point_to_object-requires-clause-apart : goal.point_to_object-requires-clause-apart
point_to_object-requires-clause-apart g c = λ e.
    (let (T, room, tagged) = c.in_ok-room.ensures.begun in
    let S : Segments = (g.A.BuilderArena.view c.args.arena.now).words in
    lt_of_lt_of_le c.requires.place
    (subst (λ s. length (segment S s) ≤ c.in_ok-room.room.at) e room.0.behind))

pub point_to_object-requires-clause-near : goal.point_to_object-requires-clause-near
point_to_object-requires-clause-near g c = let (T, room, tagged) = c.in_ok-room.ensures.begun in near_or_behind room.1

pub point_to_object-requires-clause-few : goal.point_to_object-requires-clause-few
point_to_object-requires-clause-few g c =
    subst (λ n. c.args.old.count * n < 2 ^ 29) (sym c.total-2.ensures) c.requires.small

-- The refusal is that of the allocation.
pub returns-in_err-room-clause-refused : goal.returns-in_err-room-clause-refused
returns-in_err-room-clause-refused g c =
    let p = err_from_is_err_and c.from_residual.result c.from_residual.ensures.1 in rw p.1
    c.in_err-room.ensures.room.refused

pub returns-in_err-room-clause-full : goal.returns-in_err-room-clause-full
returns-in_err-room-clause-full g c =
    let p = err_from_is_err_and c.from_residual.result c.from_residual.ensures.1 in
    rw (p.1, p.2) c.in_err-room.ensures.room.full

pub returns-in_err-room-clause-few : goal.returns-in_err-room-clause-few
returns-in_err-room-clause-few g c = c.allocate_struct_list.ensures.room.few

pub returns : goal.returns
returns g c =
    let s : View = g.A.BuilderArena.view c.args.arena.now in
    let b : View = g.A.BuilderArena.view c.allocate_struct_list.new.arena in
    let d : View = g.A.BuilderArena.view c.copy_numbers.new.arena in
    let r : View = g.A.BuilderArena.view c.point_to_object.new.arena in
    let z : View = g.A.BuilderArena.view c.zero_if_inside.new.arena in
    let q : View = g.A.BuilderArena.view c.zero_pads.new.arena in
    let old = c.args.old in
    let size = c.args.size in
    let h = c.in_ok-room.room in
    let (two, five) = c.requires.kind in
    let (T, room, tagged) = c.in_ok-room.ensures.begun in
    let first : OnlyWrites b d = record { limits = c.copy_numbers.ensures.limits; segments = c.copy_numbers.ensures.copied.segments; words = c.copy_numbers.ensures.copied.words } in
    let last : OnlyWrites d q = ended d r z q c.point_to_object.ensures.settled c.point_to_object.ensures.limits (pruned_writes r z c.zero_if_inside.ensures.limits c.zero_if_inside.ensures.pruned)
    (pruned_writes z q c.zero_pads.ensures.limits c.zero_pads.ensures.pruned) in
    let written : OnlyWrites b q = writes_both b d q first last in
    let begun : Grows s.words b.words = grows_again s.words T b.words room.0.grows (same_grows T b.words (record { segments = tagged.segments; words = tagged.words })) in
    let copied : NumbersCopied s.words T b.words d.words old size h = record {
      grown = room.0;
      tagged = tagged;
      copied = rw c.total.ensures at c.copy_numbers.ensures.copied;
      some = c.requires.data;
    } in
    let none = number_moves old size h in
    let steps : ListSteps s.words T d.words d.words r.words z.words q.words c.args.id c.args.at (number_rows old) (number_words old) size h = record {
      steps = record {
        place = c.requires.place;
        filled = numbers_filled copied;
        narrow = omega arith;
        moves = subst (λ ms. Moves d.words d.words ms) none (none_moved d.words);
        settled = rw c.total-2.ensures at c.point_to_object.ensures.settled;
        object_zeroed = rw c.words_of_numbers.ensures.value at c.zero_if_inside.ensures.zeroed;
        pads_zeroed = rw c.pointer_word-pointer.ensures at c.zero_pads.ensures.zeroed;
      };
      tag = numbers_tag copied;
    } in
    let taken : RowsTaken s b d d q c.args.id (number_rows old) 1 size h = record {
      kept = c.in_ok-room.ensures.room.granted;
      taken = c.in_ok-room.ensures.room.words;
      behind = c.in_ok-room.ensures.room.behind;
      first = first;
      written = subst (λ ms. WritesAnew d d ms) none (writes_none d);
      last = last;
    } in
    record {
      made = record {
        remade = λ t x. numbers_become old size h t two five x copied steps;
        anew = λ t x. rows_anew (numbers_are s.words c.args.id c.args.at old size t two five x) steps.steps taken;
        granted = keeps_both s b q begun.segments c.in_ok-room.ensures.room.granted (keeps_writes b q written);
        memory = tt;
        refused = tt;
      };
      refused = tt;
      full = tt;
      few = few_after _ _ _ _ c.allocate_struct_list.ensures.room.few (writes_few written);
      grows = grows_again s.words b.words q.words begun (writes_grow written);
      fits = λ room. refl;
    }

pub returns-in_err-room-clause-made : goal.returns-in_err-room-clause-made
returns-in_err-room-clause-made g c =
    let p = err_from_is_err_and c.from_residual.result c.from_residual.ensures.1 in
    let e = c.in_err-room.ensures.room in
    rw (p.1, p.2) (record {
      remade = tt;
      anew = tt;
      granted = tt;
      memory = e.memory;
      refused = λ t i. nothing_grown (g.A.BuilderArena.view c.args.arena.now).words (g.A.BuilderArena.view c.allocate_struct_list.new.arena).words e.refused;
    })

pub returns-in_err-room-clause-fits : goal.returns-in_err-room-clause-fits
returns-in_err-room-clause-fits g c =
    let p = err_from_is_err_and c.from_residual.result c.from_residual.ensures.1 in rw p.1 (λ h.
    (let v : View = g.A.BuilderArena.view c.args.arena.now in
    let n : ℕ = 1 + c.args.old.count * (c.args.size.data_words + c.args.size.pointers) in
    (c.in_err-room.ensures.room.fits c.args.id 0 (no_pads v c.args.id n c.args.id h)).0))
