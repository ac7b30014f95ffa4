-- How many words of a message a copy takes, whether it ends or is refused: those of its objects,
-- and its landing pads.
use Rattle.std.specs.Prelude.{◌≡◌, ◌≢◌, ℕ, ◌+◌, ◌<◌, ◌≤◌, length}
use Rattle.std.specs.Prelude.{Result, IfOk, IfErr, MatchResult}
use Rattle.capnp_words.specs.declared.error.ErrorKind.{ErrorKind}
use Rattle.capnp_format.specs.Segments.{segment}
use Rattle.capnp_format.specs.Tree.{Tree}
use Rattle.capnp_arena_traits.specs.Taking.{SameRoomBelow}
use Rattle.capnp_arena_traits.specs.View.{View}
use Rattle.capnp_allocation.specs.Memory.{Lengthens, IsNextRoom}
use Rattle.capnp_allocation.specs.Near.{HasOwnRoom}
use Rattle.capnp_pointers.specs.Reading.{Reading}
use Rattle.capnp_copies.specs.Changes.{CopyCall, MakesCopy, StopsCopy, CopiesChildren, StopsAtChildren}
use Rattle.capnp_copies.specs.Originals.{Original, children_original}

-- No words are allocated: each segment has as many words and as much room as before.
pub record TakesNone (old new : View) : Type 0 where
  pub segments : length new.words ≡ length old.words
  pub words : (v : ℕ) → length (segment new.words v) ≡ length (segment old.words v)
  pub room : SameRoomBelow (length old.words) old.room new.room

-- From old to new objects of `words` words in all are made for pointers of segment id, with `pads`
-- landing pads. If the segment of an object's pointer has room for it, the object is there, and has
-- no pad. Otherwise it is behind a pad in another segment k, the next one with room for both. The
-- objects below an object are made for pointers of its own segment. No other words are allocated,
-- and each segment keeps its room ("Inter-Segment Pointers").
pub data Makes : ℕ → View → View → ℕ → ℕ → Type 0 where
  no_object : {id : ℕ} {old new : View} → TakesNone old new → Makes id old new 0 0
  near :
      {id words pads : ℕ} {old new : View} (n : ℕ) (mid : View) →
      HasOwnRoom old id n →
      Lengthens old.words mid.words id n × SameRoomBelow (length old.words) old.room mid.room →
      Makes id mid new words pads →
      Makes id old new (n + words) pads
  far :
      {id words pads : ℕ} {old new : View} (n k : ℕ) (mid : View) →
      k ≢ id →
      old.room id < length (segment old.words id) + n →
      IsNextRoom old (n + 1) k →
      Lengthens old.words mid.words k (n + 1) × SameRoomBelow (length old.words) old.room mid.room →
      Makes k mid new words pads →
      Makes id old new (n + words) (1 + pads)
  both :
      {id words pads more_words more_pads : ℕ} {old new : View} (mid : View) →
      Makes id old mid words pads →
      Makes id mid new more_words more_pads →
      Makes id old new (words + more_words) (pads + more_pads)

-- From old to new objects of at most n words in all are made for pointers of segment id, with at
-- most p landing pads.
pub record MakesAtMost (id : ℕ) (old new : View) (n p : ℕ) : Type 0 where
  pub words : ℕ
  pub pads : ℕ
  pub made : Makes id old new words pads
  pub less : words ≤ n
  pub few : pads ≤ p

-- What a copy takes: if all is read, by what that costs; if it is refused, by what was read before
-- the object where it breaks off.
abbrev pub TakesAtMost : {A E V : Type 0} → Result A E → Original V → CopyCall → Type 0
TakesAtMost result o c =
    MatchResult result (λ _. o.takes c.form c.before c.after (MakesAtMost c.segment c.old c.new))
    (λ _. o.takes_until c.form c.before c.after (MakesAtMost c.segment c.old c.new))

-- A call copies, or is refused and leaves some value; and what it takes of the message.
pub record CopiesOrLeaves {A : Type 0} (result : Result A ErrorKind) (o : Original Tree)
    (c : CopyCall)
    : Type 0 where
  pub copied : IfOk result (λ _. MakesCopy o c)
  pub refused : IfErr result (λ k. (t : Tree) × StopsCopy o c t k)
  pub taken : TakesAtMost result o c

-- A call copies what n pointers from a place on mean, or is refused; and what it takes of the
-- message.
pub record CopiesOrStops {A : Type 0} (result : Result A ErrorKind) (r : Reading) (n : ℕ)
    (c : CopyCall)
    : Type 0 where
  pub copied : IfOk result (λ _. CopiesChildren r n c)
  pub refused : IfErr result (StopsAtChildren r n c)
  pub taken : TakesAtMost result (children_original r n) c
