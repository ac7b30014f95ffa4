use Rattle.std.proofs.lemmas.Result.{err_from_is_err_and}
use Rattle.std.proofs.Common.{ap, arith, inl, inr, length, refl, replicate, rules, subst, sym, ℕ, ◌+◌, ◌<◌, ◌^◌, ◌∙◌, ◌≡◌, ◌≢◌, ◌≤◌}
use Rattle.capnp_format.specs.Segments.{Segments, segment}
use Rattle.capnp_format.specs.Word.{kind, offset_bits}
use Rattle.capnp_format.proofs.Lies.{reaches_offset}
use Rattle.capnp_format.proofs.Following.{IsOffsetTo}
use Rattle.capnp_allocation.specs.Made.{IsGrown, IsShape}
use Rattle.capnp_allocation.proofs.MadeWords.{extended_grown, taken_grown, word_put}
use Rattle.capnp_arena_traits.specs.View.{View}
use Rattle.capnp_arena_traits.specs.Written.{extended, with_word}
use Rattle.capnp_in_place.proofs.Room.GrowthRefused.{anywhere_refused}
use Rattle.capnp_in_place.proofs.MovedPointers.RoomForPads.{one_pad}
use Rattle.capnp_in_place.proofs.Room.RoomLeft.{all_words, none_refused, not_true, not_within, room_still, words_extended, words_taken}
use Rattle.capnp_allocation.specs.Memory.{KeepsMemory}
use Rattle.capnp_allocation.proofs.Memory.{keeps_both, keeps_written, words_in}
use Rattle.capnp_allocation.proofs.Shapes.{shape_near}
use Rattle.capnp_in_place.proofs.MovedPointers.PointerWritten.{far_written, near_written, no_two_pads, pads_stand, pointed_double, pointed_near, pointed_single, two_pads}
use Rattle.capnp_in_place.proofs.MovedPointers.OneMoved.{same_shape}
use Rattle.capnp_in_place.proofs.Room.WordsTaken.{put_writes, took_far, took_near}
use Rattle.capnp_in_place.proofs.MovedPointers.RewrittenInTurn.{keeps_writes, writes_both, writes_few, writes_grow}
use Rattle.capnp_in_place.proofs.WiderObjects.Statements.{points_to}
use Rattle.capnp_in_place.proofs.Room.PlacesStay.{grows_again}
use Rattle.capnp_in_place.proofs.moving.set_pointer_to.Goals as goal

-- A near pointer.
pub returns-then-object-to : goal.returns-then-object-to
returns-then-object-to g c =
    let a : View = g.A.BuilderArena.view c.args.arena.now in
    let b : View = g.A.BuilderArena.view c.set_word.new.arena in
    let shape = c.args.shape in
    let v : ℕ = c.args.to.segment in
    let q : ℕ = c.args.to.at in
    let start : ℕ = c.args.object.at in
    let x : ℕ = c.near_word-word.result.0 in
    let word = c.near_word-word.ensures in
    let here : c.args.object.segment ≡ v = search rules in
    let inside : start ≤ length (segment a.words v) = subst (λ s. start ≤ length (segment a.words s)) here c.requires.inside in
    let small : length (segment a.words v) < 2 ^ 29 = omega (arith, g.met.A.BuilderArena.within c.args.arena.now v, g.met.A.BuilderArena.small c.args.arena.now v) in
    let near : kind x ≢ 2 = shape_near shape x word.shape in
    let set : b.words ≡ with_word a.words v q x = ap words_in c.set_word.ensures in
    let only = put_writes a b v q x c.requires.to c.set_word.ensures in
    let put = word_put a.words b.words v q x c.requires.to set in
    let written = λ (y : ℕ) (its : IsShape shape y) (some : y ≢ 0). near_written a b shape c.args.object.segment v q x here c.requires.there (g.met.A.BuilderArena.within c.args.arena.now c.args.object.segment)
    c.requires.to c.set_word.ensures word.shape word.empty y its some in
    record {
      points = elim word.lands [
        | inl off ↦ points_to a.words b.words shape c.args.object c.args.to (record { word = x; segment = v; start = start; pads = 0 })
            (pointed_near a.words b.words v q start x c.requires.to inside set word.some near
            (subst (λ o. IsOffsetTo q o start) (sym off) (reaches_offset q start (omega (arith, inside, small), omega (arith, c.requires.to, small))))) word.shape (inl (sym here, refl))
        | inr (struct, empty, off) ↦ points_to a.words b.words shape c.args.object c.args.to (record { word = x; segment = v; start = q; pads = 0 })
            (pointed_near a.words b.words v q q x c.requires.to (omega (arith, c.requires.to)) set word.some near (inr (omega (arith, off), omega (arith, off)))) word.shape (inr (struct, empty))
      ];
      written = λ y its some. (written y its some).form;
      taken = λ y its some. (written y its some).taken;
      memory = record {
        granted = keeps_writes a b only;
        memory = tt;
        full = tt;
        refused = tt;
        longer = writes_grow only;
        few = omega (arith, writes_few only);
      };
      near = λ e. refl;
      fits = λ room. refl;
      pads = no_two_pads b.words x _ put.here (λ far double. near far);
    }

-- A far pointer to a pad at the end of the object's segment.
pub returns-in-Some : goal.returns-in-Some
returns-in-Some g c =
    let a : View = g.A.BuilderArena.view c.args.arena.now in
    let t : View = g.A.BuilderArena.view c.allocate.new.self in
    let u : View = g.A.BuilderArena.view c.set_word-in-Some.new.arena in
    let b : View = g.A.BuilderArena.view c.set_word-in-Some-2.new.arena in
    let shape = c.args.shape in
    let v : ℕ = c.args.object.segment in
    let start : ℕ = c.args.object.at in
    let w : ℕ = c.args.to.segment in
    let p : ℕ = c.args.to.at in
    let q : ℕ = c.in-Some.pad in
    let x : ℕ = c.pointer_to-word.result.0 in
    let f : ℕ = c.new_far-far.result.0 in
    let far = c.new_far-far.ensures in
    let shaped : IsShape shape x = c.pointer_to-word.ensures.shape in
    let other : v ≢ w = λ e. search rules in
    let (at, made) = c.in-Some.ensures.taken in
    let first : IsGrown a.words t.words v (length (segment a.words v)) 1 = rw made (extended_grown a.words v 1 c.requires.there) in
    let grown : IsGrown a.words t.words v q 1 = subst (λ z. IsGrown a.words t.words v z 1) (sym at) first in
    let small : length (segment a.words v) + 1 < 2 ^ 29 = omega (arith, c.in-Some.ensures.exactly.0 refl, g.met.A.BuilderArena.small c.args.arena.now v) in
    let offset : IsOffsetTo q (offset_bits x) start = subst (λ o. IsOffsetTo q o start) (sym c.pointer_to-word.ensures.offset) (reaches_offset q start (omega (arith, at, small, c.requires.inside), omega (arith, at, small))) in
    let pad = put_writes t u v q x (omega (arith, grown.room)) c.set_word-in-Some.ensures in
    let place : p < length (segment u.words w) = omega (arith, c.requires.to, grown.grows.words w, pad.words w) in
    let set : b.words ≡ with_word u.words w p f = ap words_in c.set_word-in-Some-2.ensures in
    let only = writes_both t u b pad (put_writes u b w p f place c.set_word-in-Some-2.ensures) in
    let put = word_put u.words b.words w p f place set in
    let took = took_near a t v 1 q c.requires.there (c.in-Some.ensures.exactly.0 refl) c.in-Some.ensures.taken in
    let written = λ (y : ℕ) (its : IsShape shape y) (some : y ≢ 0). far_written a t b v w p f y other took only put.here far.kind_of (inl (far.pads, far.segment_of)) some (same_shape shape y y its its).2 in
    record {
      points = points_to a.words b.words shape c.args.object c.args.to (record { word = x; segment = v; start = start; pads = 1 })
          (pointed_single a.words t.words u.words b.words w p v q start x f c.requires.to c.requires.inside grown (ap words_in c.set_word-in-Some.ensures) set (shape_near shape x shaped) offset far.kind_of far.pads far.position_of far.segment_of) shaped (inl (refl, refl));
      written = λ y its some. (written y its some).form;
      taken = λ y its some. (written y its some).taken;
      memory = record {
        granted = keeps_both a t b grown.grows.segments (keeps_written a t (extended a.words v (replicate 1 0)) made) (keeps_writes t b only);
        memory = tt;
        full = tt;
        refused = tt;
        longer = grows_again a.words t.words b.words grown.grows (writes_grow only);
        few = omega (arith, ap all_words (ap words_in made), words_extended a.words v (replicate 1 0) c.requires.there, writes_few only);
      };
      near = λ e. refl;
      fits = λ room. refl;
      pads = no_two_pads b.words f _ put.here (λ kind double. omega (arith, double, far.pads));
    }

-- A far pointer to two pads, in words that the arena granted.
pub set_word-requires-in-None : goal.set_word-requires-in-None
set_word-requires-in-None g c =
    let S : Segments = (g.A.BuilderArena.view c.args.arena.now).words in
    let T : Segments = (g.A.BuilderArena.view c.allocate_anywhere.new.self).words in
    let same : (g.A.BuilderArena.view c.allocate.new.self).words ≡ S = ap words_in (c.in-None.ensures.none refl) in
    let grown : IsGrown S T c.in_ok-segment-in-None.segment c.in_ok-segment-in-None.pad 2 = taken_grown S T 2 c.in_ok-segment-in-None.segment c.in_ok-segment-in-None.pad (rw same at c.in_ok-segment-in-None.ensures.taken) in
    omega (arith, grown.room)

pub set_word-requires-in-None-2 : goal.set_word-requires-in-None-2
set_word-requires-in-None-2 g c =
    let S : Segments = (g.A.BuilderArena.view c.args.arena.now).words in
    let T : Segments = (g.A.BuilderArena.view c.allocate_anywhere.new.self).words in
    let same : (g.A.BuilderArena.view c.allocate.new.self).words ≡ S = ap words_in (c.in-None.ensures.none refl) in
    let grown : IsGrown S T c.in_ok-segment-in-None.segment c.in_ok-segment-in-None.pad 2 = taken_grown S T 2 c.in_ok-segment-in-None.segment c.in_ok-segment-in-None.pad (rw same at c.in_ok-segment-in-None.ensures.taken) in
    let first = word_put T _ c.in_ok-segment-in-None.segment c.in_ok-segment-in-None.pad c.new_far-start.result.0 (omega (arith, grown.room)) (ap words_in c.set_word-in-None.ensures) in
    omega (arith, grown.room, first.words c.in_ok-segment-in-None.segment)

pub set_word-requires-in-None-3 : goal.set_word-requires-in-None-3
set_word-requires-in-None-3 g c =
    let S : Segments = (g.A.BuilderArena.view c.args.arena.now).words in
    let T : Segments = (g.A.BuilderArena.view c.allocate_anywhere.new.self).words in
    let U : Segments = (g.A.BuilderArena.view c.set_word-in-None.new.arena).words in
    let k : ℕ = c.in_ok-segment-in-None.segment in
    let q : ℕ = c.in_ok-segment-in-None.pad in
    let same : (g.A.BuilderArena.view c.allocate.new.self).words ≡ S = ap words_in (c.in-None.ensures.none refl) in
    let grown : IsGrown S T k q 2 = taken_grown S T 2 k q (rw same at c.in_ok-segment-in-None.ensures.taken) in
    let first = word_put T U k q c.new_far-start.result.0 (omega (arith, grown.room)) (ap words_in c.set_word-in-None.ensures) in
    let second = word_put U _ k (q + 1) c.tag_of-tag.result.0 (omega (arith, grown.room, first.words k)) (ap words_in c.set_word-in-None-2.ensures) in
    omega (arith, c.requires.to, grown.grows.words c.args.to.segment, first.words c.args.to.segment, second.words c.args.to.segment)

pub returns-in_ok-segment-in-None : goal.returns-in_ok-segment-in-None
returns-in_ok-segment-in-None g c =
    let a : View = g.A.BuilderArena.view c.args.arena.now in
    let mid : View = g.A.BuilderArena.view c.allocate.new.self in
    let t : View = g.A.BuilderArena.view c.allocate_anywhere.new.self in
    let u : View = g.A.BuilderArena.view c.set_word-in-None.new.arena in
    let w : View = g.A.BuilderArena.view c.set_word-in-None-2.new.arena in
    let b : View = g.A.BuilderArena.view c.set_word-in-None-3.new.arena in
    let shape = c.args.shape in
    let v : ℕ = c.args.object.segment in
    let s : ℕ = c.args.to.segment in
    let p : ℕ = c.args.to.at in
    let k : ℕ = c.in_ok-segment-in-None.segment in
    let q : ℕ = c.in_ok-segment-in-None.pad in
    let f : ℕ = c.new_far-start.result.0 in
    let x : ℕ = c.tag_of-tag.result.0 in
    let h : ℕ = c.new_double_far-far.result.0 in
    let start = c.new_far-start.ensures in
    let far = c.new_double_far-far.ensures in
    let granted = c.in_ok-segment-in-None.ensures in
    let shaped : IsShape shape x = c.tag_of-tag.ensures.shape in
    let other : v ≢ s = λ e. search rules in
    let before : mid ≡ a = c.in-None.ensures.none refl in
    let taken = rw before at granted.taken in
    let grown : IsGrown a.words t.words k q 2 = taken_grown a.words t.words 2 k q taken in
    let kept : KeepsMemory a t = subst (λ (y : View). KeepsMemory y t) before (granted.granted, granted.room) in
    let first_set : u.words ≡ with_word t.words k q f = ap words_in c.set_word-in-None.ensures in
    let second_set : w.words ≡ with_word u.words k (q + 1) x = ap words_in c.set_word-in-None-2.ensures in
    let third_set : b.words ≡ with_word w.words s p h = ap words_in c.set_word-in-None-3.ensures in
    let first = put_writes t u k q f (omega (arith, grown.room)) c.set_word-in-None.ensures in
    let second = put_writes u w k (q + 1) x (omega (arith, grown.room, first.words k)) c.set_word-in-None-2.ensures in
    let place : p < length (segment w.words s) = omega (arith, c.requires.to, grown.grows.words s, first.words s, second.words s) in
    let third = put_writes w b s p h place c.set_word-in-None-3.ensures in
    let only = writes_both t w b (writes_both t u w first second) third in
    let put = word_put w.words b.words s p h place third_set in
    let took = took_far a mid t v 1 k q before (λ l. not_true (c.in-None.ensures.exactly.1 l)) granted.first granted.another in
    let written = λ (y : ℕ) (its : IsShape shape y) (some : y ≢ 0). far_written a t b v s p h y other took.0 only put.here far.kind_of (inr far.pads) some (same_shape shape y y its its).2 in
    let stand = pads_stand a.words t.words u.words w.words b.words s p k q f x h c.requires.to grown first_set second_set third_set in
    record {
      points = points_to a.words b.words shape c.args.object c.args.to (record { word = x; segment = v; start = c.args.object.at; pads = 2 })
          (pointed_double a.words t.words u.words w.words b.words s p v c.args.object.at k q f x h c.requires.to c.requires.there c.requires.inside grown first_set second_set third_set start.segment_of start.position_of (shape_near shape x shaped) far.kind_of far.pads
          far.position_of far.segment_of) shaped (inl (refl, refl));
      written = λ y its some. (written y its some).form;
      taken = λ y its some. (written y its some).taken;
      memory = record {
        granted = keeps_both a t b grown.grows.segments kept (keeps_writes t b only);
        memory = tt;
        full = tt;
        refused = tt;
        longer = grows_again a.words t.words b.words grown.grows (writes_grow only);
        few = omega (arith, words_taken a.words t.words 2 k q taken, writes_few only);
      };
      near = λ e. refl;
      fits = λ room. refl;
      pads = two_pads b.words _ h k q f x stand.0 far.segment_of far.position_of stand.1 stand.2 (start.kind_of, start.pads, c.tag_of-tag.ensures.offset);
    }

-- No segment has room for two more words.
pub returns-in_err-segment-in-None-clause-memory : goal.returns-in_err-segment-in-None-clause-memory
returns-in_err-segment-in-None-clause-memory g c = record {
  granted = search rules;
  memory = search rules;
  full = (let mid : View = g.A.BuilderArena.view c.allocate.new.self in
      let b : View = g.A.BuilderArena.view c.allocate_anywhere.new.self in
      let e = c.in_err-segment-in-None.ensures in
      let p = err_from_is_err_and c.from_residual.result c.from_residual.ensures.1 in
      rw (p.1, p.2) (anywhere_refused (g.A.BuilderArena.view c.args.arena.now) mid b c.args.object.segment 1 _ (c.in-None.ensures.none refl) (λ l. not_true (c.in-None.ensures.exactly.1 l)) e.named e.refused (λ j fit. e.first j fit)));
  refused = (let p = err_from_is_err_and c.from_residual.result c.from_residual.ensures.1 in
      rw p.1 (ap words_in c.in_err-segment-in-None.ensures.refused ∙ ap words_in (c.in-None.ensures.none refl)));
  longer = search rules;
  few = (omega (arith, ap all_words (ap words_in c.in_err-segment-in-None.ensures.refused ∙ ap words_in (c.in-None.ensures.none refl))));
}

-- If words are refused, no segment has room for two.
pub returns-in_err-segment-in-None-clause-fits : goal.returns-in_err-segment-in-None-clause-fits
returns-in_err-segment-in-None-clause-fits g c = λ h.
    (let a : View = g.A.BuilderArena.view c.args.arena.now in
    let b : View = g.A.BuilderArena.view c.allocate_anywhere.new.self in
    let words : b.words ≡ a.words = ap words_in c.in_err-segment-in-None.ensures.refused ∙ ap words_in (c.in-None.ensures.none refl) in
    let room : b.room ≡ a.room = ap (λ (v : View). v.room) c.in_err-segment-in-None.ensures.refused ∙ ap (λ (v : View). v.room) (c.in-None.ensures.none refl) in
    let e = c.in_err-segment-in-None.ensures in
    let refused = anywhere_refused a (g.A.BuilderArena.view c.allocate.new.self) b c.args.object.segment 1 _ (c.in-None.ensures.none refl) (λ l. not_true (c.in-None.ensures.exactly.1 l)) e.named e.refused (λ j fit. e.first j fit) in
    let full = not_within _ _ (λ l. not_true (c.in-None.ensures.exactly.1 l)) in
    absurd (none_refused a b 1 _ refused (room_still a b 2 words room (one_pad a c.args.object.segment full h))))
