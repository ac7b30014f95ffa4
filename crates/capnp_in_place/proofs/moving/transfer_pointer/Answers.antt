use Rattle.std.proofs.Common.{[], ap, arith, inl, inr, refl, rules, subst, sym, ℕ, ◌+◌, ◌<◌, ◌∙◌, ◌∷◌, ◌≡◌, ◌≢◌, ◌≤◌}
use Rattle.capnp_format.specs.Segments.{Segments, word_at}
use Rattle.capnp_format.specs.Word.{kind}
use Rattle.std.proofs.lemmas.Bool.{cases_lt}
use Rattle.capnp_arena_traits.specs.View.{View}
use Rattle.capnp_arena_traits.specs.Written.{with_word}
use Rattle.capnp_allocation.specs.Made.{IsShape}
use Rattle.capnp_allocation.specs.Makes.{call_at}
use Rattle.capnp_allocation.proofs.Outcomes.{on_made_so}
use Rattle.capnp_allocation.proofs.MadeWords.{word_put}
use Rattle.capnp_allocation.proofs.Memory.{words_in}
use Rattle.capnp_allocation.proofs.Zeros.{there}
use Rattle.capnp_allocation.specs.Memory.{TakesWords}
use Rattle.capnp_in_place.specs.Moved.{CanMove, near_pointers}
use Rattle.capnp_in_place.specs.Rooms.{HasPadRoom}
use Rattle.capnp_in_place.proofs.MovedPointers.SingleIntervals.{on_both_so}
use Rattle.capnp_in_place.proofs.MovedPointers.RoomForPads.{fewer_pads, granted_so, made_apart, near_far, none_elsewhere, pad_taken, pads_written}
use Rattle.capnp_in_place.proofs.MovedPointers.PointerWritten.{copied_written, null_written, pad_far}
use Rattle.capnp_in_place.proofs.Room.WordsTaken.{put_writes}
use Rattle.capnp_in_place.proofs.MovedPointers.RewrittenInTurn.{keeps_writes, writes_few, writes_grow, writes_one}
use Rattle.capnp_in_place.proofs.MovedPointers.OneMoved.{copied_moves, means_nothing, near_moves}
use Rattle.capnp_in_place.proofs.WiderObjects.Statements.{WritesPointer, a_move}
use Rattle.capnp_in_place.proofs.moving.transfer_pointer.Goals as goal

-- A far pointer or a capability is copied unchanged.
pub returns-then-not-is_positional : goal.returns-then-not-is_positional
returns-then-not-is_positional g c =
    let a : View = g.A.BuilderArena.view c.args.arena.now in
    let b : View = g.A.BuilderArena.view c.set_word.new.arena in
    let s : ℕ = c.args.from.segment in
    let p : ℕ = c.args.from.at in
    let v : ℕ = c.args.to.segment in
    let q : ℕ = c.args.to.at in
    let x : ℕ = c.pointer_word-word.result.0 in
    let is : x ≡ word_at a.words s p = c.pointer_word-word.ensures in
    let some : x ≢ 0 = λ e. search rules in
    let other : (kind x < 2 → ⊥) = λ e. search rules in
    let far : 2 ≤ kind (word_at a.words s p) = omega (arith, ap kind is, not_less (kind x) 2 other) in
    let set : b.words ≡ with_word a.words v q x = ap words_in c.set_word.ensures in
    let put = word_put a.words b.words v q x c.requires.to set in
    let only = put_writes a b v q x c.requires.to c.set_word.ensures in
    record {
      moved = λ B k. copied_moves B a.words b.words s p v q (λ e. some (is ∙ e)) far (set ∙ ap (with_word a.words v q) is) k;
      written = copied_written a b s p v q (there a.words s p c.requires.from) (g.met.A.BuilderArena.within c.args.arena.now s) c.requires.to far (c.set_word.ensures ∙ ap (λ w. record a { words = with_word a.words v q w }) is);
      memory = record {
        granted = keeps_writes a b only;
        memory = tt;
        full = tt;
        refused = tt;
        longer = writes_grow only;
        few = omega (arith, writes_few only);
      };
      only = λ y z e l. put.kept y z e;
      near = λ e. refl;
      apart = λ elsewhere. made_apart _ a b s (a_move s p v q ∷ []) (record {
        left = λ n h. pads_written a b s n only (fewer_pads a s n (near_pointers a.words (a_move s p v q ∷ []) + n) (omega arith) h);
        kept = λ y l. put.kept s y (none_elsewhere v q 1 s y elsewhere);
      });
    }
  where
    not_less : (a b : ℕ) → (a < b → ⊥) → b ≤ a
    not_less a b h = elim (cases_lt a b) [ inl l ↦ absurd (h l) | inr l ↦ l ]

-- A near pointer is rewritten to where it leads.
pub returns-in-Some-clause-moved : goal.returns-in-Some-clause-moved
returns-in-Some-clause-moved g c =
    let S : Segments = (g.A.BuilderArena.view c.args.arena.now).words in
    let R : Segments = (g.A.BuilderArena.view c.set_pointer_to.new.arena).words in
    let x : ℕ = c.pointer_word-word.result.0 in
    let is : x ≡ word_at S c.args.from.segment c.args.from.at = c.pointer_word-word.ensures in
    let some : x ≢ 0 = λ e. search rules in
    let near : kind x < 2 = search rules in
    let shaped = subst (λ w. IsShape c.shape_of.result w) is (c.shape_of.ensures.shape near) in
    let goes = rw (is, c.segment_length.ensures) at (sym c.target.ensures ∙ c.in-Some.is) in
    on_made_so c.set_pointer_to.result _ _ c.set_pointer_to.ensures.points
    (λ w. λ B k. near_moves B S R c.args.from.segment c.args.from.at c.args.to.segment c.args.to.at c.in-Some.start c.shape_of.result (record { segment = c.args.from.segment; at = c.in-Some.start }) c.args.to (λ e. some (is ∙ e)) shaped goes refl refl refl refl w k)

pub returns-in-Some-clause-only : goal.returns-in-Some-clause-only
returns-in-Some-clause-only g c = on_made_so c.set_pointer_to.result _ _ c.set_pointer_to.ensures.points (λ w. λ x y e l. w.kept x y e l)

-- A near pointer is rewritten as its object's segment requires.
pub returns-in-Some-clause-written : goal.returns-in-Some-clause-written
returns-in-Some-clause-written g c =
    let a : View = g.A.BuilderArena.view c.args.arena.now in
    let b : View = g.A.BuilderArena.view c.set_pointer_to.new.arena in
    let x : ℕ = c.pointer_word-word.result.0 in
    let is : x ≡ word_at a.words c.args.from.segment c.args.from.at = c.pointer_word-word.ensures in
    let some : x ≢ 0 = λ e. search rules in
    let near : kind x < 2 = search rules in
    on_both_so c.set_pointer_to.result ((y : ℕ) → IsShape c.shape_of.result y → y ≢ 0 → WritesPointer c.args.from.segment y (call_at c.args.to.segment c.args.to.at a b)) _ _
    (on_both_so c.set_pointer_to.result _ _ _ c.set_pointer_to.ensures.written c.set_pointer_to.ensures.taken (λ form taken. λ y its none. record { form = form y its none; taken = taken y its none })) c.set_pointer_to.ensures.memory.granted
    (λ w kept. writes_one a b c.args.from.segment c.args.from.at c.args.to.segment c.args.to.at kept (λ none. subst (λ y. WritesPointer c.args.from.segment y (call_at c.args.to.segment c.args.to.at a b)) is (w x (c.shape_of.ensures.shape near) some)))

pub returns-in-Some-clause-apart : goal.returns-in-Some-clause-apart
returns-in-Some-clause-apart g c =
    let a : View = g.A.BuilderArena.view c.args.arena.now in
    let b : View = g.A.BuilderArena.view c.set_pointer_to.new.arena in
    let k : ℕ = c.args.from.segment in
    let x : ℕ = c.pointer_word-word.result.0 in
    let is : x ≡ word_at a.words k c.args.from.at = c.pointer_word-word.ensures in
    let some : x ≢ 0 = λ e. search rules in
    let near : kind x < 2 = search rules in
    let shaped = c.shape_of.ensures.shape near in
    let one : near_pointers a.words (a_move k c.args.from.at c.args.to.segment c.args.to.at ∷ []) ≡ 1 =
    near_far a.words k c.args.from.at c.args.to.segment c.args.to.at (λ e. some (is ∙ e)) (omega (arith, near, ap kind is)) in
    λ other. record {
      fits = λ n h.
          (let room : HasPadRoom a k (1 + n) = subst (λ i. HasPadRoom a k (i + n)) one h in
          let goes = c.set_pointer_to.ensures.fits (fewer_pads a k 1 (1 + n) (omega arith) room) in (
            goes,
            granted_so c.set_pointer_to.result (HasPadRoom b k n) goes (on_both_so c.set_pointer_to.result _ _ _ c.set_pointer_to.ensures.taken c.set_pointer_to.ensures.memory.granted
                (λ w kept. pad_taken a b k n (there a.words k c.args.from.at c.requires.from) kept
                (subst (λ i. TakesWords a b k i) (pad_far k c.args.to.segment x other some near) (w x shaped some)) room)),
          ));
      kept = on_made_so c.set_pointer_to.result _ _ c.set_pointer_to.ensures.points
          (λ w. λ y l. w.kept k y (none_elsewhere c.args.to.segment c.args.to.at 1 k y other) l);
    }

-- Null stays null.
pub returns-then-is_null-clause-written : goal.returns-then-is_null-clause-written
returns-then-is_null-clause-written g c =
    let v : View = g.A.BuilderArena.view c.args.arena.now in
    let null : c.pointer_word-word.result.0 ≡ 0 = search rules in
    null_written v c.args.from.segment c.args.from.at c.args.to.segment c.args.to.at (there v.words c.args.from.segment c.args.from.at c.requires.from) (g.met.A.BuilderArena.within c.args.arena.now c.args.from.segment) (sym c.pointer_word-word.ensures ∙ null)

-- Allocation for the landing pad of a near pointer is enough in another segment, and then at most one pad
-- is allocated.
pub returns-then-is_null-clause-apart : goal.returns-then-is_null-clause-apart
returns-then-is_null-clause-apart g c =
    let v : View = g.A.BuilderArena.view c.args.arena.now in
    λ other. made_apart _ v v c.args.from.segment (a_move c.args.from.segment c.args.from.at c.args.to.segment c.args.to.at ∷ [])
    (record { left = λ n h. fewer_pads v c.args.from.segment n (near_pointers v.words (a_move c.args.from.segment c.args.from.at c.args.to.segment c.args.to.at ∷ []) + n) (omega arith) h; kept = λ y l. refl })

-- A pointer that leads nowhere means nothing.
pub returns-in-None : goal.returns-in-None
returns-in-None g c =
    let v : View = g.A.BuilderArena.view c.args.arena.now in
    let from = c.args.from in
    let to = c.args.to in
    let x : ℕ = c.pointer_word-word.result.0 in
    let is : x ≡ word_at v.words from.segment from.at = c.pointer_word-word.ensures in
    let some : x ≢ 0 = λ e. search rules in
    let near : kind x < 2 = search rules in
    let goes = rw (is, c.segment_length.ensures) at (sym c.target.ensures ∙ c.in-None.is) in
    let nothing = λ (B : Segments) (k : CanMove B v.words (a_move from.segment from.at to.segment to.at ∷ [])).
    means_nothing B v.words from.segment from.at to.segment to.at (λ e. some (is ∙ e)) (λ e. omega (arith, near, ap kind is)) goes k in
    record {
      moved = λ B k. absurd (nothing B k);
      written = λ B k. absurd (nothing B k);
      memory = search rules;
      only = λ y z e l. refl;
      near = λ e. refl;
      apart = λ other. made_apart _ v v from.segment (a_move from.segment from.at to.segment to.at ∷ [])
          (record { left = λ n h. fewer_pads v from.segment n (near_pointers v.words (a_move from.segment from.at to.segment to.at ∷ []) + n) (omega arith) h; kept = λ y l. refl });
    }
