-- The messages of a stream, one after another.
use Rattle.std.specs.Prelude.{◌≡◌, ℕ, ◌-◌, ◌<◌, Option, Some, None, Result, Ok, Err}
use Rattle.std.specs.Io.KnownBytes.{IsAtEnd}
use Rattle.capnp_arena.specs.declared.arena.reader_arena_impl.ReaderOptions.{ReaderOptions}
use Rattle.capnp_arena.specs.declared.arena.reader_segments.ReaderSegments as segments
use Rattle.capnp_framing.specs.Limits.{most_words}
use Rattle.capnp_framing.specs.Reading.{NoFrameRead}
use Rattle.capnp_framing.specs.declared.devices.Input as input
use Rattle.capnp_framing.specs.declared.framing.frame_error.FrameError.{FrameError}
use Rattle.typed_messages.specs.Reading.{IsMessageRead}
use Rattle.typed_messages.specs.declared.message.MessageReader.{MessageReader}
use Rattle.typed_messages.specs.declared.serialize.stream.Messages.{Messages}

-- How many more items there may be after this one: one fewer after a message, and otherwise none.
abbrev pub left_after : {M E : Type 0} → ℕ → Option (Result M E) → ℕ
left_after left (Some (Ok m)) = left - 1
left_after left _ = 0

module _ {R S : Type 0} (g : input.Ghosts R) (s : segments.Ghosts S) where
  -- What reading the next message of an input returns: none at its end; a message whose frame was
  -- read; or why there is no frame.
  abbrev pub ReadsNext : ReaderOptions → R → R → Option (Result (MessageReader S s) FrameError) → Type 0
  ReadsNext options from to None = IsAtEnd (g.remaining from) × IsAtEnd (g.remaining to)
  ReadsNext options from to (Some (Ok m)) = IsMessageRead g s from to options m
  ReadsNext options from to (Some (Err e)) =
      NoFrameRead g from to (most_words options) e

  -- A step of the iterator: it reads the next message. After an error or the end of the input it is
  -- done: it has no item left, and no longer reads.
  pub record TakesNext (from : Messages R) (item : Option (Result (MessageReader S s) FrameError))
      (to : Messages R) : Type 0 where
    pub reads : 0 < from.left → ReadsNext from.options from.input to.input item
    pub left : to.left ≡ left_after from.left item
    pub done : from.left ≡ 0 → (item ≡ None) × (to.input ≡ from.input)
    pub options : to.options ≡ from.options
