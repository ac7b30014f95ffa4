use Rattle.std.proofs.lemmas.Result.{err_from_is_err_and}
use Rattle.std.proofs.Common.{ap, arith, length, refl, rules, subst, sym, ℕ, ◌*◌, ◌+◌, ◌<◌, ◌≤◌}
use Rattle.capnp_arena_traits.specs.View.{View}
use Rattle.capnp_format.specs.Segments.{segment}
use Rattle.capnp_format.specs.Means.{IsTag}
use Rattle.capnp_allocation.proofs.MadeWords.{word_put}
use Rattle.capnp_allocation.proofs.Memory.{keeps_both, words_in}
use Rattle.capnp_in_place.specs.Rooms.{HasRoomAndPads}
use Rattle.capnp_in_place.proofs.MovedPointers.RoomForPads.{pads_written}
use Rattle.capnp_in_place.proofs.Room.RoomLeft.{not_true}
use Rattle.capnp_in_place.proofs.Room.WordsTaken.{put_writes}
use Rattle.capnp_in_place.proofs.MovedPointers.RewrittenInTurn.{keeps_writes, taken_after, writes_few}
use Rattle.capnp_in_place.proofs.remaking.allocate_struct_list.Goals as goal

-- The words of the list are allocated, and at most one pad; then the tag is written.
pub returns : goal.returns
returns g c =
    let a : View = g.A.BuilderArena.view c.args.arena.now in
    let t : View = g.A.BuilderArena.view c.allocate_object.new.arena in
    let b : View = g.A.BuilderArena.view c.set_word.new.arena in
    let size = c.args.size in
    let count = c.args.count in
    let h = c.in_ok-room.room in
    let x : ℕ = c.new_tag-tag.result.0 in
    let written = c.new_tag-tag.ensures in
    let e = c.in_ok-room.ensures.room in
    let room = rw c.total.ensures at c.in_ok-room.ensures.taken in
    let tag : IsTag x count size.data_words size.pointers = record { is_struct = written.kind_of; counts = written.bits_of; data_of = written.data_of; pointers = written.pointers_of } in
    let inside : h.at + h.pads < length (segment t.words h.segment) = omega (arith, room.0.room) in
    let put = word_put t.words b.words h.segment (h.at + h.pads) x inside (ap words_in c.set_word.ensures) in
    let only = put_writes t b h.segment (h.at + h.pads) x inside c.set_word.ensures in
    record {
      begun = (
        t.words,
        room,
        record { segments = put.segments; words = put.words; tag = subst (λ y. IsTag y count size.data_words size.pointers) (sym put.here) tag; kept = put.kept },
      );
      room = record {
        words = taken_after a t b c.args.id _ (rw c.total.ensures at e.words) only;
        behind = rw c.total.ensures at e.behind;
        granted = keeps_both a t b room.0.grows.segments e.granted (keeps_writes t b only);
        memory = tt;
        full = tt;
        refused = tt;
        few = omega (arith, rw c.total.ensures at c.allocate_object.ensures.room.few, writes_few only);
        fits = λ k n enough.
            (let left = (e.fits k n (subst (λ m. HasRoomAndPads a c.args.id (1 + count * m) k n) (sym c.total.ensures) enough)).1 in
            (refl, λ exists apart few. pads_written t b k n only (left exists apart (subst (λ m. n ≤ 1 + count * m) (sym c.total.ensures) few))));
      };
    }

pub returns-in_err-room-clause-room : goal.returns-in_err-room-clause-room
returns-in_err-room-clause-room g c = record {
  words = search rules;
  behind = search rules;
  granted = search rules;
  memory = search rules;
  full = (let p = err_from_is_err_and c.from_residual.result c.from_residual.ensures.1 in rw (p.1, p.2) (rw c.total.ensures at c.in_err-room.ensures.room.full));
  refused = search rules;
  few = (let taken = rw c.total.ensures at c.allocate_object.ensures.room.few in omega (arith, taken));
  fits = (λ k n h.
      absurd (not_true (c.in_err-room.ensures.room.fits k n (subst (λ m. HasRoomAndPads (g.A.BuilderArena.view c.args.arena.now) c.args.id (1 + c.args.count * m) k n) (sym c.total.ensures) h)).0));
}
