-- What the bytes at the front of a frame tell of its size.
use Rattle.std.specs.Prelude.{◌≡◌, ℕ, ◌+◌, ◌*◌, ◌≤◌, nat_lt, if◌then◌else◌, List, length, drop, Result, Ok, Err}
use Rattle.capnp_framing.specs.Frames.{max_frame_segments}
use Rattle.capnp_framing.specs.Reading.{segments_told, table_size, words_in_table}
use Rattle.capnp_framing.specs.declared.framing.frame_error.FrameError.{FrameError}
use Rattle.capnp_framing.specs.declared.framing.frame_error.FrameError.TheVariants.{MessageTooLong}
use Rattle.capnp_framing.specs.declared.framing.frame_error.FrameError.TheVariants.{TooManySegments}

-- What these bytes tell of the size in bytes of a frame of at most `most` words that begins with
-- them: the size of the frame if its table is there; the size of the table if only the number of
-- segments is; and otherwise the size of the smallest table.
abbrev pub size_from_prefix : List ℕ → ℕ → Result ℕ FrameError
size_from_prefix prefix most =
    if nat_lt (length prefix) 4 then Ok (table_size 1) else
    if nat_lt max_frame_segments (segments_told prefix) then
    Err (TooManySegments (segments_told prefix)) else
    if nat_lt (length prefix) (table_size (segments_told prefix)) then
    Ok (table_size (segments_told prefix)) else
    if nat_lt most (words_in_table prefix) then Err (MessageTooLong (words_in_table prefix)) else
    Ok (table_size (segments_told prefix) + 8 * words_in_table prefix)

-- What the bytes tell of a frame of `size` bytes: at most this size, and exactly this size if they
-- are at least as many as they tell.
pub record TellsSize (prefix : List ℕ) (most size : ℕ) : Type 0 where
  pub told : ℕ
  pub is : size_from_prefix prefix most ≡ Ok told
  pub least : told ≤ size
  pub whole : told ≤ length prefix → told ≡ size
