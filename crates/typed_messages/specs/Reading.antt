-- Messages that are read with limits, from a frame at the front of an input.
use Rattle.std.specs.Prelude.{◌≡◌, ◌≤◌, map, false}
use Rattle.std.specs.Io.KnownBytes.{IsAtEnd}
use Rattle.capnp_format.specs.Bytes.{message}
use Rattle.capnp_format.specs.Segments.{Segments}
use Rattle.capnp_words.specs.Meter.{unused}
use Rattle.capnp_arena_traits.specs.Limits.{whole}
use Rattle.capnp_arena.specs.declared.arena.reader_arena_impl.ReaderOptions.{ReaderOptions}
use Rattle.capnp_arena.specs.declared.arena.reader_segments.ReaderSegments as segments
use Rattle.capnp_framing.specs.Limits.{most_words}
use Rattle.capnp_framing.specs.Reading.{IsFrameRead, total}
use Rattle.capnp_framing.specs.declared.devices.Input as input
use Rattle.capnp_framing.specs.declared.framing.frame_error.FrameError.{FrameError}
use Rattle.capnp_framing.specs.declared.framing.frame_error.FrameError.TheVariants.{Truncated}
use Rattle.typed_messages.specs.declared.message.MessageReader.{MessageReader}

module _ {S : Type 0} (s : segments.Ghosts S) where
  -- The words of each segment that readers see.
  abbrev pub words_of_message : MessageReader S s → Segments
  words_of_message m = message (map whole (s.segments m.arena.segments))

  -- The message is read with the limits of these options, and nothing is charged yet.
  pub record HasLimits (m : MessageReader S s) (options : ReaderOptions) : Type 0 where
    pub nesting : m.arena.nesting_limit ≡ options.nesting_limit
    pub traversal : m.limiter ≡ unused options.traversal_limit_in_words

module _ {R : Type 0} (g : input.Ghosts R) where
  -- The input is at its end, where a message was expected.
  pub record EndsBefore (from to : R) (e : FrameError) : Type 0 where
    pub named : e ≡ Truncated
    pub started : IsAtEnd (g.remaining from)
    pub ended : IsAtEnd (g.remaining to)
    pub works : g.has_failed to ≡ false

module _ {R S : Type 0} (g : input.Ghosts R) (s : segments.Ghosts S) where
  -- A frame of m was read from the front of an input, and what comes after it is left. m has at most
  -- as many words as the traversal limit of the options, and is read with these options.
  pub record IsMessageRead (from to : R) (options : ReaderOptions) (m : MessageReader S s) : Type 0 where
    pub frame : IsFrameRead g from to (words_of_message s m)
    pub short : total (words_of_message s m) ≤ most_words options
    pub limits : HasLimits s m options
