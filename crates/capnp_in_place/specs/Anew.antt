-- How pointers are rewritten at other places, and the words that this takes ("Inter-Segment
-- Pointers").
use Rattle.std.specs.Prelude.{◌≡◌, ◌≢◌, ◌⊎◌, ℕ, ◌+◌, ◌-◌, ◌^◌, ◌<◌, ◌≤◌, if◌then◌else◌, nat_eq, nat_lt}
use Rattle.std.specs.Prelude.{◌*◌, IfErr, IfOk, IsOk, List, [], ◌∷◌, length, OnErr, OnOk, Result, ⊤}
use Rattle.capnp_words.specs.declared.error.ErrorKind.{ErrorKind}
use Rattle.capnp_format.specs.Forest.{target}
use Rattle.capnp_format.specs.Segments.{Segments, Grows, segment, word_at}
use Rattle.capnp_format.specs.Tree.{Tree, Struct, Trees}
use Rattle.capnp_words.specs.declared.wire_pointer.StructSize.{StructSize}
use Rattle.capnp_format.specs.Word.{kind, is_double, struct_word, upper_half}
use Rattle.capnp_arena_traits.specs.View.{View, KeepsLimits}
use Rattle.capnp_in_place.specs.declared.existing.ExistingStruct.{ExistingStruct}
use Rattle.capnp_in_place.specs.Existing.{IsStructInside}
use Rattle.capnp_allocation.specs.Makes.{CallAt}
use Rattle.capnp_allocation.specs.Memory.{KeepsMemory, SpendsMemory, RefusesWords}
use Rattle.capnp_allocation.specs.Memory.{ComesAfter, TakesWords, start_of}
use Rattle.capnp_allocation.specs.Stored.{IsReplaced}
use Rattle.capnp_allocation.specs.Zeroed.{IsPruned}
use Rattle.capnp_arena_traits.specs.declared.arena.WordPlace.{WordPlace}
use Rattle.capnp_in_place.specs.Moved.{CanMove, Move, Moves, MovesSome, Unmoves, moves_into, near_pointers}
use Rattle.capnp_in_place.specs.Moved.{row_of_moves}
use Rattle.capnp_in_place.specs.Rooms.{GrowsByAtMost, HasPadRoom, widened_words}
use Rattle.capnp_in_place.specs.Widened.{GrowsByZeros, widened}

-- The pointer x, whose object is in segment s if x is near, is rewritten in segment v as y. Null, a
-- far pointer and a capability are copied. A near one stays near in its object's segment, where a
-- struct without sections has offset -1; in another segment it becomes far, to a pad in the
-- object's segment or to two.
pub record IsWrittenAnew (s v x y : ℕ) : Type 0 where
  pub copied : (x ≡ 0) ⊎ (2 ≤ kind x) → y ≡ x
  pub near : x ≢ 0 → kind x < 2 → s ≡ v → kind y < 2
  pub empty : x ≢ 0 → kind x ≡ 0 → upper_half x ≡ 0 → s ≡ v → y ≡ struct_word (2 ^ 30 - 1) 0 0
  pub far : x ≢ 0 → kind x < 2 → s ≢ v → (kind y ≡ 2) ×
      (((is_double y ≡ 0) × (upper_half y ≡ s)) ⊎ (is_double y ≡ 1))

-- The words for a landing pad that this requires in segment s: one if x becomes far, otherwise
-- none.
abbrev pub pad_words : ℕ → ℕ → ℕ → ℕ
pad_words s v x =
    if nat_eq s v then 0 else if nat_eq x 0 then 0 else if nat_lt (kind x) 2 then 1 else 0

-- From old to new words are overwritten, and nothing else changes.
pub record OnlyWrites (old new : View) : Type 0 where
  pub limits : KeepsLimits old new
  pub segments : length new.words ≡ length old.words
  pub words : (x : ℕ) → length (segment new.words x) ≡ length (segment old.words x)

-- The pointers of S are rewritten to these words of R.
abbrev pub AreWrittenAnew : Segments → Segments → List Move → Type 0
AreWrittenAnew S R [] = ⊤
AreWrittenAnew S R (m ∷ ms) =
    IsWrittenAnew m.from.segment m.to.segment (word_at S m.from.segment m.from.at)
    (word_at R m.to.segment m.to.at)
    × AreWrittenAnew S R ms

-- From old to new words are allocated for the landing pads of the pointers of S, one pointer after
-- the other.
abbrev pub TakesPadsInTurn : Segments → View → View → List Move → Type 0
TakesPadsInTurn S old new [] = OnlyWrites old new
TakesPadsInTurn S old new (m ∷ ms) =
    (next : View) × KeepsMemory old next
    × TakesWords old next m.from.segment
    (pad_words m.from.segment m.to.segment (word_at S m.from.segment m.from.at))
    × TakesPadsInTurn S next new ms

-- From old to new the pointers are rewritten in turn, in words that are there, if they mean values.
abbrev pub WritesAnew : View → View → List Move → Type 0
WritesAnew old new ms =
    (S : Segments) → CanMove S old.words ms →
    AreWrittenAnew S new.words ms × TakesPadsInTurn S old new ms

-- The place of a call.
abbrev pub call_place : CallAt → WordPlace
call_place c = record { segment = c.segment; at = c.at }

-- A call moves n pointers in turn, and takes at most two words for each. Or it is refused two
-- words: then some of the first pointers are moved.
pub record MovesInTurn {A : Type 0} (result : Result A ErrorKind) (old new : View) (ms : List Move)
    (n : ℕ) : Type 0 where
  pub moved : OnOk result (Moves old.words new.words ms)
  pub written : OnOk result (WritesAnew old new ms)
  pub some : OnErr result (MovesSome old.words new.words ms)
  pub longer : Grows old.words new.words
  pub granted : OnOk result (KeepsMemory old new)
  pub memory : IfErr result (SpendsMemory old new)
  pub full : IfErr result (λ k. (0 < n) × RefusesWords old new 1 k)
  pub few : GrowsByAtMost old.words new.words (2 * n)

-- A call moves these pointers out of segment k into another one. It succeeds if there is room for
-- their landing pads; if there was room for n more pads, that is left. The old words of segment k
-- stay.
pub record MovesApart {A : Type 0} (result : Result A ErrorKind) (old new : View) (k : ℕ)
    (ms : List Move) : Type 0 where
  pub fits : (n : ℕ) → HasPadRoom old k (near_pointers old.words ms + n) → IsOk result ×
      HasPadRoom new k n
  pub kept : OnOk result ((y : ℕ) → y < length (segment old.words k) →
      word_at new.words k y ≡ word_at old.words k y)

-- The call moves n consecutive pointers, from its place on, to consecutive places from h on, in
-- turn. Within a segment it succeeds.
pub record MovesRow {A : Type 0} (result : Result A ErrorKind) (c : CallAt) (h : WordPlace) (n : ℕ)
    : Type 0 where
  pub moves : MovesInTurn result c.old c.new (row_of_moves (call_place c) h n) n
  pub near : c.segment ≡ h.segment → IsOk result
  pub apart : c.segment ≢ h.segment →
      MovesApart result c.old c.new c.segment (row_of_moves (call_place c) h n)

-- A call zeroes the pads that were written for these pointers, and changes nothing else.
pub record TakesBack (old new : View) (ms : List Move) : Type 0 where
  pub zeroed : Unmoves old.words new.words ms
  pub pruned : IsPruned old.words new.words
  pub limits : KeepsLimits old new

-- The call makes a new object of n words, to which its place leads, after all words that were
-- there, and rewrites these pointers into it. It takes first the words of the object, then those of
-- the landing pads of these pointers in turn, and no others.
pub record StandsAnew (c : CallAt) (n : ℕ) (ms : List Move) : Type 0 where
  pub behind : ComesAfter c.old c.segment n (start_of (target c.new.words c.segment c.at))
  pub forms : AreWrittenAnew c.old.words c.new.words ms
  pub begun : View
  pub kept : KeepsMemory c.old begun
  pub object : TakesWords c.old begun c.segment n
  pub pads : TakesPadsInTurn c.old.words begun c.new ms

-- The call makes a new object u of the object t.
abbrev pub BecomesAnew : CallAt → Tree → Tree → Type 0
BecomesAnew c t u =
    StandsAnew c (widened_words u)
    (moves_into (start_of (target c.old.words c.segment c.at))
    (start_of (target c.new.words c.segment c.at)) t u)

-- The call makes a new struct of the one at its place, with sections of at least this size, and
-- returns where it is; or memory is refused, and only zeros are new. `Stands` states what is at the
-- place, here and below: for example, that it is stored.
pub record MakesStructWider (result : Result ExistingStruct ErrorKind) (Stands : Tree → Type 0)
    (size : StructSize) (c : CallAt) : Type 0 where
  pub replaced :
      OnOk result
      ((ws : List ℕ) (ts : Trees) → Stands (Struct ws ts) →
      IsReplaced c.old.words c.new.words c.segment c.at (Struct ws ts) (widened size ws ts))
  pub leads :
      IfOk result
      (λ e. (ws : List ℕ) (ts : Trees) → Stands (Struct ws ts) →
      (e.segment ≡ (target c.new.words c.segment c.at).segment) ×
      (e.start ≡ (target c.new.words c.segment c.at).start) × IsStructInside c.new.words e)
  pub anew :
      OnOk result
      ((ws : List ℕ) (ts : Trees) → Stands (Struct ws ts) →
      BecomesAnew c (Struct ws ts) (widened size ws ts))
  pub granted : OnOk result (KeepsMemory c.old c.new)
  pub memory : IfErr result (SpendsMemory c.old c.new)
  pub refused : OnErr result ((t : Tree) → Stands t → GrowsByZeros c.old.words c.new.words)
