use Rattle.std.proofs.Common.{◌≡◌, ◌↔◌, ◌≤◌, ◌+◌, ℕ, max, [], ◌∷◌, ◌++◌, length, replicate, false, IsTrue, IsSome, IsNone, IfSome, Option, Some, None, inl, inr, refl, ◌∙◌, ap, subst, sym, arith}
use Rattle.std.specs.Prelude.{◌==◌}
use Rattle.std.proofs.lemmas.Grind.{common_steps}
use Rattle.capnp_format.specs.Bytes.{message}
use Rattle.capnp_format.specs.Segments.{IsPlace, Segments, segment}
use Rattle.capnp_format.specs.Tree.{Null}
use Rattle.capnp_arena_traits.specs.Taking.{GrowsSegment}
use Rattle.capnp_arena_traits.specs.View.{View}
use Rattle.capnp_arena_traits.specs.Written.{extended}
use Rattle.capnp_allocation.specs.Stored.{IsStored}
use Rattle.capnp_allocation.proofs.FillingMade.{null_stored}
use Rattle.typed_messages.proofs.message.MessageBuilder.new.Goals as goal

-- Allocating in a segment leaves its capacity.
kept_room : (result : Option ℕ) (old new : View) → IfSome result (GrowsSegment old new 1 0) → (IsNone result → new ≡ old) → new.room 0 ≡ old.room 0
kept_room None old new taken none = ap (λ (v : View). v.room 0) (none refl)
kept_room (Some at) old new taken none = ap (λ (v : View). v.room 0) taken.1

-- A capacity that an allocator offers is at least its own size of segments.
least_room : (words own room : ℕ) → own ≡ words → IsTrue (room == max own 1) → words ≤ room
least_room words own room same offered = grind (arith, common_steps)

-- A segment with room for a word gets one.
rooted : (result : Option ℕ) (old new : View) → old.words ≡ [] ∷ [] → 1 ≤ old.room 0 → (IsSome result ↔ (length (segment old.words 0) + 1 ≤ old.room 0)) → IfSome result (GrowsSegment old new 1 0) → new.words ≡ (0 ∷ []) ∷ []
rooted None old new words room exactly taken =
    absurd (let wrong : IsTrue false = exactly.1 (omega (arith, room, ap (λ S. length (segment S 0)) words)) in cc)
rooted (Some at) old new words room exactly taken = ap (λ (v : View). v.words) taken.1 ∙ ap (λ S. extended S 0 (replicate 1 0)) words

place_there : (S : Segments) → S ≡ (0 ∷ []) ∷ [] → IsPlace S 0 0
place_there S is = subst (λ T. IsPlace T 0 0) (sym is) (omega arith)

null_there : (S : Segments) → S ≡ (0 ∷ []) ∷ [] → IsStored S 0 0 Null
null_there S is = subst (λ T. IsStored T 0 0 Null) (sym is) (null_stored ((0 ∷ []) ∷ []) 0 0 (omega arith) refl)

pub new-requires : goal.new-requires
new-requires c = c.requires

pub allocate-root-requires : goal.allocate-root-requires
allocate-root-requires c =
    let first = c.in-Ok.ensures.made ∙ ap (λ S. S ++ [] ∷ []) c.new-arena.ensures.segments in
    omega (arith, ap (λ S. length (message S)) first)

pub returns-in-Ok : goal.returns-in-Ok
returns-in-Ok c =
    let kept = kept_room _ _ _ c.allocate-root.ensures.taken c.allocate-root.ensures.none in
    let own = ap (λ a. a.words) c.new-arena.ensures.allocator ∙ c.new.ensures.words in
    let there = rw c.new-arena.ensures.segments at c.in-Ok.ensures.size in
    let first = ap message (c.in-Ok.ensures.made ∙ ap (λ S. S ++ [] ∷ []) c.new-arena.ensures.segments) in
    let words = rooted _ _ _ first (rw c.new-arena.ensures.segments at c.in-Ok.ensures.least) c.allocate-root.ensures.exactly c.allocate-root.ensures.taken in
    record {
      words = words;
      room = omega (arith, kept, least_room _ _ _ own there);
      root = place_there _ words;
      null = null_there _ words;
      refused = tt;
    }

-- The first segment, of one word, is refused only if there is no memory.
pub returns-in-Err : goal.returns-in-Err
returns-in-Err c = record {
  words = tt;
  room = tt;
  root = tt;
  null = tt;
  refused = elim c.in-Err.ensures.named [
    | inl refused ↦ refused.0
    | inr (inl refused) ↦ absurd (omega (arith, refused.1))
    | inr (inr refused) ↦ absurd (omega (arith, refused.1, ap length c.new-arena.ensures.segments))
  ];
}
