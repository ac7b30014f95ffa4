use Rattle.std.proofs.Common.{◌+◌, ◌≤◌, length, ◌∙◌, ℕ, refl, ap, arith, ◌≡◌, sym, ◌<◌, ◌^◌}
use Rattle.capnp_format.specs.Canonical.{Reaches}
use Rattle.capnp_format.specs.Segments.{Segments, segment}
use Rattle.capnp_arena_traits.specs.View.{View}
use Rattle.capnp_arena_traits.specs.Taking.{IsTaken}
use Rattle.capnp_allocation.specs.Made.{IsGrown, IsShape}
use Rattle.capnp_allocation.proofs.Memory.{words_in, keeps_both, keeps_written}
use Rattle.capnp_allocation.proofs.MadeWords.{made_far, taken_grown, word_put}
use Rattle.capnp_allocation.proofs.Shapes.{shape_near}
use Rattle.capnp_allocation.proofs.Taken.{anywhere_lengthens, lengthens_more, lengthens_written}
use Rattle.capnp_arena_traits.specs.Written.{with_word}
use Rattle.capnp_allocation.proofs.making.make_far_object.Goals as goal

-- The word after a pointer is in its reach.
next_reached : (p : ℕ) → Reaches p (p + 1)
next_reached p = (omega arith, omega arith)

-- The pointer's segment has no fewer words than before.
pub set_word-requires-in-Ok : goal.set_word-requires-in-Ok
set_word-requires-in-Ok g c =
    let S : Segments = (g.A.BuilderArena.view c.args.arena.now).words in
    let T : Segments = (g.A.BuilderArena.view c.allocate_anywhere.new.self).words in
    let grown : IsGrown S T c.in-Ok.segment c.in-Ok.pad (c.args.amount + 1) = taken_grown S T (c.args.amount + 1) c.in-Ok.segment c.in-Ok.pad c.in-Ok.ensures.taken in
    let put = word_put T _ c.in-Ok.segment c.in-Ok.pad c.pointer_to-word.result.0 (omega (arith, grown.room)) (ap words_in c.set_word.ensures) in
    omega (arith, c.requires.place, grown.grows.words c.args.id, put.words c.args.id)

-- A far pointer to a landing pad, which is before the words. One word more than the object has is
-- allocated: in the next segment with room, or in a new one.
pub returns-in-Ok : goal.returns-in-Ok
returns-in-Ok g c =
    let old : View = g.A.BuilderArena.view c.args.arena.now in
    let mid : View = g.A.BuilderArena.view c.allocate_anywhere.new.self in
    let new : View = g.A.BuilderArena.view c.set_word-in-Ok.new.arena in
    let S : Segments = old.words in
    let T : Segments = mid.words in
    let U : Segments = (g.A.BuilderArena.view c.set_word.new.arena).words in
    let R : Segments = new.words in
    let k : ℕ = c.in-Ok.segment in
    let q : ℕ = c.in-Ok.pad in
    let n : ℕ = c.args.amount in
    let x : ℕ = c.pointer_to-word.result.0 in
    let shaped : IsShape c.args.shape x = c.pointer_to-word.ensures.shape in
    let grown : IsGrown S T k q (n + 1) = taken_grown S T (n + 1) k q c.in-Ok.ensures.taken in
    let whole = made_far S T U R c.args.id c.args.at k q n x c.new_far.result.0 c.requires.place grown (ap words_in c.set_word.ensures) (ap words_in c.set_word-in-Ok.ensures) (shape_near c.args.shape x shaped) (next_reached q)
    c.pointer_to-word.ensures.offset c.new_far.ensures.kind_of c.new_far.ensures.pads c.new_far.ensures.position_of c.new_far.ensures.segment_of in
    let (next, long, start) = anywhere_lengthens old mid (n + 1) k q c.in-Ok.ensures.first c.in-Ok.ensures.another in
    let pad = word_put T U k q x (omega (arith, start, long.gained)) (ap words_in c.set_word.ensures) in
    let put = word_put U R c.args.id c.args.at c.new_far.result.0 (omega (arith, c.requires.place, lengthens_more S T k (n + 1) c.args.id long, pad.words c.args.id)) (ap words_in c.set_word-in-Ok.ensures) in
    let all = lengthens_written S T R k (n + 1) long (put.segments ∙ pad.segments) (λ v. put.words v ∙ pad.words v) in
    record {
      made = (record { word = x; segment = k; start = q + 1; pads = 1 }, whole, shaped, refl, refl);
      fits = λ _ _. refl;
      granted = keeps_both old mid new grown.grows.segments (c.in-Ok.ensures.granted, c.in-Ok.ensures.room)
          (keeps_written mid new _ (c.set_word-in-Ok.ensures ∙ ap (λ (v : View). record v { words = with_word v.words c.args.id c.args.at c.new_far.result.0 }) c.set_word.ensures));
      taken = (next, all, ap (λ m. m + 1) start);
      named = tt;
      refused = tt;
    }

-- A refusal is that of the arena.
pub returns-in-Err : goal.returns-in-Err
returns-in-Err g c =
    let old : View = g.A.BuilderArena.view c.args.arena.now in
    let new : View = g.A.BuilderArena.view c.allocate_anywhere.new.self in
    let same : new ≡ record old { refusals = new.refusals } = c.in-Err.ensures.refused in
    record {
      made = tt;
      fits = λ k first. absurd (c.in-Err.ensures.first k first);
      granted = tt;
      taken = tt;
      named = (c.in-Err.ensures.named, same ∙ ap (λ (S : Segments). record old { words = S; refusals = new.refusals }) (sym (ap words_in same)));
      refused = ap words_in same;
    }

-- The words that are allocated are fewer than a segment can hold.
next_fits : (S T : Segments) (n s p room : ℕ) → IsTaken S T (n + 1) s p → length (segment T s) ≤ room → room < 2 ^ 29 → p + 1 < 2 ^ 32
next_fits S T n s p room taken within small = omega (arith, (taken_grown S T (n + 1) s p taken).room)

pad_there : (S T : Segments) (n s p : ℕ) → IsTaken S T (n + 1) s p → p < length (segment T s)
pad_there S T n s p taken = omega (arith, (taken_grown S T (n + 1) s p taken).room)

pub overflow_add-pad : goal.overflow_add-pad
overflow_add-pad g c =
    let now = c.allocate_anywhere.new.self in
    record { fits = next_fits _ _ c.args.amount c.in-Ok.segment c.in-Ok.pad _ c.in-Ok.ensures.taken (g.met.A.BuilderArena.within now _) (g.met.A.BuilderArena.small now _) }

pub overflow_add-result : goal.overflow_add-result
overflow_add-result g c =
    let now = c.allocate_anywhere.new.self in
    record { fits = next_fits _ _ c.args.amount c.in-Ok.segment c.in-Ok.pad _ c.in-Ok.ensures.taken (g.met.A.BuilderArena.within now _) (g.met.A.BuilderArena.small now _) }

pub pointer_to-word-requires-clause-reaches : goal.pointer_to-word-requires-clause-reaches
pointer_to-word-requires-clause-reaches g c = next_reached c.in-Ok.pad

pub set_word-requires : goal.set_word-requires
set_word-requires g c = pad_there _ _ c.args.amount c.in-Ok.segment c.in-Ok.pad c.in-Ok.ensures.taken
