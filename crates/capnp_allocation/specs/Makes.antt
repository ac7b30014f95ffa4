-- A call that makes an object at the place of a pointer.
use Rattle.std.specs.Prelude.{◌≡◌, ◌+◌, ◌<◌, ◌≤◌, ℕ, length, Result, Err, IsOk, IsOkAnd, IfOk, IfErr, OnOk}
use Rattle.std.specs.Prelude.{OnErr, MatchResult}
use Rattle.capnp_words.specs.declared.error.ErrorKind.{ErrorKind}
use Rattle.capnp_format.specs.Forest.{cover, target, times}
use Rattle.capnp_format.specs.Segments.{segment, word_at, Target}
use Rattle.capnp_format.specs.Tree.{Tree, Null}
use Rattle.capnp_arena_traits.specs.View.{View}
use Rattle.capnp_allocation.specs.Made.{LeadsToStart, IsMade, IsShape}
use Rattle.capnp_arena_traits.specs.Taking.{IsFirstFit}
use Rattle.capnp_allocation.specs.Memory.{HasRoom, KeepsMemory, TakesWords, ComesAfter, start_of, IsRefusedFor}
use Rattle.capnp_allocation.specs.Memory.{IsNextRoom, Lengthens}
use Rattle.capnp_allocation.specs.Stored.{IsStored, Puts}
use Rattle.capnp_allocation.specs.Zeroed.{IsPruned}
use Rattle.capnp_allocation.specs.declared.making.Shape.{Shape}
use Rattle.capnp_arena_traits.specs.declared.arena.WordPlace.{WordPlace}

-- A call at a place of a message: the place, and the message before and after the call.
pub record CallAt : Type 0 where
  pub segment : ℕ
  pub at : ℕ
  pub old : View
  pub new : View

abbrev pub call_at : ℕ → ℕ → View → View → CallAt
call_at s p old new = record { segment = s; at = p; old = old; new = new }

-- The call allocates n words for an object, and one more for a landing pad if the segment of its
-- pointer has no room for them; or it is refused, which never happens if there is room.
pub record Allocates {A : Type 0} (result : Result A ErrorKind) (c : CallAt) (n : ℕ) : Type 0 where
  pub fits : HasRoom c.old c.segment n → IsOk result
  pub granted : OnOk result (KeepsMemory c.old c.new)
  pub taken : OnOk result (TakesWords c.old c.new c.segment n)
  pub named : IfErr result (IsRefusedFor c.old c.new n)

-- The call makes the pointer lead to an object of n words, whose value is t, after all words that
-- were there, and zeroes all that the pointer held before. Or it is refused: then the pointer is
-- null, and words are only zeroed.
pub record MakesObject {A : Type 0} (result : Result A ErrorKind) (c : CallAt) (t : Tree) (n : ℕ)
    : Type 0 where
  pub made : OnOk result (Puts c.old.words c.new.words c.segment c.at t)
  pub behind :
      OnOk result (ComesAfter c.old c.segment n (start_of (target c.new.words c.segment c.at)))
  pub zeroed :
      OnOk result
      ((old : Tree) → IsStored c.old.words c.segment c.at old → (v r : ℕ) →
      0 < times (cover c.old.words c.segment c.at old) v r → word_at c.new.words v r ≡ 0)
  pub memory : Allocates result c n
  pub refused : OnErr result (Puts c.old.words c.new.words c.segment c.at Null)
  pub only : OnErr result (IsPruned c.old.words c.new.words)

-- The call writes the pointer, which leads to a new object of n words of this shape, starting at h.
abbrev pub IsMadeAt : CallAt → Shape → ℕ → WordPlace → Type 0
IsMadeAt c shape n h = (a : Target) × IsMade c.old.words c.new.words c.segment c.at a n ×
    IsShape shape a.word × (h.segment ≡ a.segment) × (h.at ≡ a.start)

-- The call makes an object of n words behind a landing pad, in the next segment that has room for
-- both; or it is refused, and no word is written.
pub record MakesFar (result : Result WordPlace ErrorKind) (c : CallAt) (shape : Shape) (n : ℕ) : Type 0 where
  pub made : IfOk result (IsMadeAt c shape n)
  pub fits : (k : ℕ) → IsFirstFit c.old (n + 1) k → IsOk result
  pub granted : OnOk result (KeepsMemory c.old c.new)
  pub taken :
      IfOk result
      (λ h. IsNextRoom c.old (n + 1) h.segment × Lengthens c.old.words c.new.words h.segment (n + 1) ×
      (h.at ≡ length (segment c.old.words h.segment) + 1))
  pub named : IfErr result (IsRefusedFor c.old c.new n)
  pub refused : OnErr result (c.new.words ≡ c.old.words)

-- The object of n words that the call made starts at h: its pointer leads there, its words are
-- there, and they come after all that were there.
pub record ObjectStartsAt (c : CallAt) (n : ℕ) (h : WordPlace) : Type 0 where
  pub leads : LeadsToStart c.new.words c.segment c.at h
  pub inside : (h.segment < length c.new.words) ×
      (h.at + n ≤ length (segment c.new.words h.segment))
  pub behind : ComesAfter c.old c.segment n h

-- A call that doesn't keep its arena is described by an arena that it reached (`now`): there it
-- found what `Does` states, and its result matches that by `Gives`; or it is refused with the same
-- error.
pub record ReachesArena {A B C : Type 0} (Gives : A → C → B → Type 0)
    (Does : A → Result C ErrorKind → Type 0) (result : Result B ErrorKind) : Type 0 where
  pub now : A
  pub found : Result C ErrorKind
  pub does : Does now found
  pub gives : MatchResult found (λ x. IsOkAnd result (Gives now x)) (λ k. result ≡ Err k)
