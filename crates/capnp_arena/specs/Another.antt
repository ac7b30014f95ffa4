-- Words allocated in a segment of their own, after the others of a message being built.
use Rattle.std.specs.Prelude.{ℕ, ◌≡◌, ◌<◌, ◌-◌, ◌^◌, length, Result, Err, IfOk, OnOk, IfErr, OnErr}
use Rattle.capnp_words.specs.declared.error.ErrorKind.{ErrorKind}
use Rattle.capnp_words.specs.declared.error.ErrorKind.TheVariants.{MessageTooLarge}
use Rattle.capnp_arena_traits.specs.Allocations.{max_segments, max_segment_words}
use Rattle.capnp_arena_traits.specs.Taking.{GainsSegment, IsAllocationRefusal, SameRoomBelow}
use Rattle.capnp_arena_traits.specs.View.{View}

-- From old to new `amount` words are allocated at the start of a new segment after the others, and
-- r is its number. A refusal has its exact reason, and changes only the count of refused requests.
pub record TakesAnother (old new : View) (amount : ℕ) (r : Result ℕ ErrorKind) : Type 0 where
  pub taken : IfOk r (λ k. GainsSegment old new amount k 0)
  pub room : SameRoomBelow (length old.words) old.room new.room
  pub granted : OnOk r (new ≡ record old { words = new.words; room = new.room })
  pub many : length old.words ≡ max_segments → r ≡ Err (MessageTooLarge (2 ^ 64 - 1))
  pub large : max_segment_words < amount → length old.words < max_segments →
      r ≡ Err (MessageTooLarge amount)
  pub named : IfErr r (λ e. IsAllocationRefusal old new (length old.words) amount e)
  pub refused : OnErr r (new ≡ record old { refusals = new.refusals })
