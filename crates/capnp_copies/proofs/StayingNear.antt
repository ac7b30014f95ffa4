-- Words that stay in the segment of their pointer: those that fit there, and all if the message has
-- only one segment afterwards.
use Rattle.std.proofs.Common.{◌≡◌, inl, inr, ℕ, ◌+◌, ◌<◌, ◌≤◌, max, length, subst, arith}
use Rattle.capnp_format.specs.Segments.{segment, IsPlace}
use Rattle.capnp_arena_traits.specs.View.{View}
use Rattle.capnp_allocation.specs.Memory.{TakesWords}
use Rattle.capnp_allocation.specs.Near.{HasOwnRoom}
use Rattle.capnp_copies.specs.Changes.{StayInSegment}
use Rattle.capnp_copies.proofs.Copying.{there}

-- Fewer words stay too.
pub stay_fewer : (old new : View) (s n k : ℕ) → k ≤ n → StayInSegment old new s n → StayInSegment old new s k
stay_fewer old new s n k less (inl room) = inl (omega arith)
stay_fewer old new s n k less (inr one) = inr one

-- Words that are written later.
pub stay_later : (old mid new : View) (s u n k : ℕ) → (HasOwnRoom old s n → HasOwnRoom mid u k) → StayInSegment old new s n → StayInSegment mid new u k
stay_later old mid new s u n k still (inl room) = inl (still room)
stay_later old mid new s u n k still (inr one) = inr one

-- Words that are written first.
pub stay_first : (old mid new : View) (s p n k : ℕ) → k ≤ n → IsPlace old.words s p → length old.words ≤ length mid.words → length mid.words ≤ length new.words → StayInSegment old new s n → StayInSegment old mid s k
stay_first old mid new s p n k less place grows more (inl room) = inl (omega arith)
stay_first old mid new s p n k less place grows more (inr one) = inr (omega (arith, there old.words s p place))

-- If its words stay, an object is made in the segment of its pointer, which has room for it.
pub own_room : (old made new : View) (s p n : ℕ) → IsPlace old.words s p → TakesWords old made s n → length made.words ≤ length new.words → StayInSegment old new s n → HasOwnRoom old s n
own_room old made new s p n place taken longer (inl room) = room
own_room old made new s p n place taken longer (inr one) =
    let here : s < length old.words = there old.words s p place in
    let no : (old.room s < length (segment old.words s) + n) → ⊥ = λ full.
    (let (k, next, more) = taken.far full in
    let segments : length made.words ≡ max (length old.words) (k + 1) = more.segments in
    let first : k ≡ s = omega (arith, segments, longer, one, here) in
    elim next [
      | inl fit ↦ (let room : length (segment old.words s) + (n + 1) ≤ old.room s = subst (λ j. length (segment old.words j) + (n + 1) ≤ old.room j) first fit.1 in omega (arith, room, full))
      | inr (none, another) ↦ omega (arith, another, first, here)
    ]) in
    omega (arith, no)
