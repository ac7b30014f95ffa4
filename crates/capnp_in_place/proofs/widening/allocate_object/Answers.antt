use Rattle.std.proofs.lemmas.Result.{err_from_is_err_and}
use Rattle.std.proofs.Common.{ap, arith, inl, inr, length, refl, replicate, rules, subst, ℕ, ◌*◌, ◌+◌, ◌-◌, ◌<◌, ◌∙◌, ◌≡◌, ◌≢◌, ◌≤◌}
use Rattle.capnp_format.specs.Segments.{segment}
use Rattle.capnp_allocation.specs.Made.{IsGrown}
use Rattle.capnp_allocation.proofs.MadeWords.{taken_grown}
use Rattle.std.proofs.lemmas.List.{length-replicate}
use Rattle.capnp_arena_traits.specs.View.{View}
use Rattle.capnp_allocation.specs.Memory.{ComesAfter, Lengthens, TakesWords}
use Rattle.capnp_allocation.proofs.Taken.{anywhere_lengthens}
use Rattle.capnp_in_place.proofs.Room.GrowthRefused.{anywhere_refused}
use Rattle.capnp_in_place.proofs.MovedPointers.RoomForPads.{pads_left}
use Rattle.capnp_in_place.proofs.Room.RoomLeft.{all_words, less_room, none_refused, not_true, not_within, room_elsewhere, room_still, words_extended, words_taken}
use Rattle.capnp_allocation.proofs.Memory.{words_in}
use Rattle.capnp_in_place.proofs.Room.WordsTaken.{stands_near, took_far, took_near}
use Rattle.capnp_in_place.proofs.widening.allocate_object.Goals as goal

-- Words are allocated in the segment of the pointer.
pub returns-in-Some-clause-room : goal.returns-in-Some-clause-room
returns-in-Some-clause-room g c =
    let a : View = g.A.BuilderArena.view c.args.arena.now in
    let b : View = g.A.BuilderArena.view c.allocate.new.self in
    let id : ℕ = c.args.id in
    let m : ℕ = c.args.amount in
    let at : ℕ = c.in-Some.at in
    let enough = c.in-Some.ensures.exactly.0 refl in
    let made = c.in-Some.ensures.taken.1 in
    let taken : TakesWords a b id m = took_near a b id m at c.requires.there enough c.in-Some.ensures.taken in
    record {
      words = taken;
      behind = subst (λ p. ComesAfter a id m (record { segment = id; at = p })) (let e : at ≡ at + 0 = omega arith in e) (stands_near a b id m at enough c.in-Some.ensures.taken);
      granted = search rules;
      memory = tt;
      full = tt;
      refused = tt;
      few = omega (arith, ap all_words (ap words_in made), words_extended a.words id (replicate m 0) c.requires.there, length-replicate {A = ℕ} m 0);
      fits = λ k n h.
          (let left = λ (j : ℕ) (apart : id ≢ k) (exists : k < length a.words) (few : n ≤ m). pads_left a b id m k n j apart exists few (taken.near enough) (λ i l. ap (λ (v : View). v.room i) made) (g.met.A.BuilderArena.within c.allocate.new.self id) in
          (refl, λ exists apart few. elim h [ inl fits ↦ left id apart exists few c.requires.there fits | inr (j, fit) ↦ left j apart exists few fit.0 (omega (arith, fit.1)) ]));
    }

-- Words and a pad are allocated elsewhere.
pub returns-in_ok-segment-in-None : goal.returns-in_ok-segment-in-None
returns-in_ok-segment-in-None g c =
    let a : View = g.A.BuilderArena.view c.args.arena.now in
    let mid : View = g.A.BuilderArena.view c.allocate.new.self in
    let b : View = g.A.BuilderArena.view c.allocate_anywhere.new.self in
    let id : ℕ = c.args.id in
    let m : ℕ = c.args.amount in
    let z : ℕ = c.in_ok-segment-in-None.segment in
    let at : ℕ = c.in_ok-segment-in-None.at in
    let granted = c.in_ok-segment-in-None.ensures in
    let before : mid ≡ a = c.in-None.ensures.none refl in
    let taken = rw before at granted.taken in
    let grown : IsGrown a.words b.words z at (m + 1) = taken_grown a.words b.words (m + 1) z at taken in
    let no_room = λ (l : length (segment a.words id) + m ≤ a.room id). not_true (c.in-None.ensures.exactly.1 l) in
    let took = took_far a mid b id m z at before no_room granted.first granted.another in
    let (next, more, start) = anywhere_lengthens mid b (m + 1) z at granted.first granted.another in
    let long : Lengthens a.words b.words z (m + 1) = subst (λ (v : View). Lengthens v.words b.words z (m + 1)) before more in
    record {
      taken = (subst (λ n. IsGrown a.words b.words z at n) (let e : m + 1 ≡ 1 + m = omega arith in e) grown, inr refl);
      room = record {
        words = took.0;
        behind = took.1;
        granted = search rules;
        memory = tt;
        full = tt;
        refused = tt;
        few = omega (arith, words_taken a.words b.words (m + 1) z at taken);
        fits = λ k n h.
            (let (j, there, fits) = room_elsewhere a id m _ (not_within _ _ no_room) h in
            (refl, λ exists apart few. pads_left a b z (m + 1) k n j apart exists (omega (arith, few)) long (rw before at granted.room) (g.met.A.BuilderArena.within c.allocate_anywhere.new.self z) there fits));
      };
    }

-- No segment has room for the words and a pad.
pub returns-in_err-segment-in-None-clause-room : goal.returns-in_err-segment-in-None-clause-room
returns-in_err-segment-in-None-clause-room g c =
    let a : View = g.A.BuilderArena.view c.args.arena.now in
    let b : View = g.A.BuilderArena.view c.allocate_anywhere.new.self in
    let m : ℕ = c.args.amount in
    let e = c.in_err-segment-in-None.ensures in
    let p = err_from_is_err_and c.from_residual.result c.from_residual.ensures.1 in
    let before = c.in-None.ensures.none refl in
    let words : b.words ≡ a.words = ap words_in e.refused ∙ ap words_in before in
    let room : b.room ≡ a.room = ap (λ (v : View). v.room) e.refused ∙ ap (λ (v : View). v.room) before in
    let no_room = λ (l : length (segment a.words c.args.id) + m ≤ a.room c.args.id). not_true (c.in-None.ensures.exactly.1 l) in
    let refused = anywhere_refused a (g.A.BuilderArena.view c.allocate.new.self) b c.args.id m _ before no_room e.named e.refused (λ j fit. e.first j fit) in
    record {
      words = search rules;
      behind = search rules;
      granted = search rules;
      memory = search rules;
      full = rw (p.1, p.2) refused;
      refused = search rules;
      few = omega (arith, ap all_words words);
      fits = λ k n h.
          (let pads : ℕ = 2 * (n - (a.room k - length (segment a.words k))) in
          let some = room_elsewhere a c.args.id m pads (not_within _ _ no_room) h in
          absurd (none_refused a b m _ refused (room_still a b (m + 1) words room (less_room a (m + 1 + pads) (m + 1) (omega arith) some))));
    }
