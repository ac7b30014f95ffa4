-- Segments that are small as slices are small as bytes.
use Rattle.std.proofs.Common.{◌≡◌, ℕ, zero, suc, ◌/◌, ◌^◌, ◌<◌, List, [], ◌∷◌, length, map, slice_get, Some, arith}
use Rattle.std.proofs.lemmas.List.{length-map}
use Rattle.std.specs.Borrow.{Bor}
use Rattle.std.specs.List.{All}
use Rattle.capnp_arena_traits.specs.Limits.{AreSmall, IsSmall}

each : (B : List (Bor (List ℕ))) → All (λ s. length s.now / 8 < 2 ^ 32) B → (k : ℕ) (s : List ℕ) → slice_get (map (λ b. b.now) B) k ≡ Some s → length s / 8 < 2 ^ 32
each [] h k s e = absurd (cc e)
each (b ∷ B) h zero s e = let same : b.now ≡ s = cc e in rw (← same) (h zero b (omega arith))
each (b ∷ B) h (suc k) s e = each B (λ j d l. h (suc j) d (omega arith)) k s e

pub small_segments : (B : List (Bor (List ℕ))) → AreSmall B → IsSmall (map (λ b. b.now) B)
small_segments B (few, h) = (rw (length-map B (λ (b : Bor (List ℕ)). b.now)) few, each B h)
