-- What opening a frame finds, and why it is refused.
use Rattle.std.specs.Prelude.{◌≡◌, ◌⊎◌, ℕ, ◌+◌, ◌*◌, ◌<◌, ◌≤◌, List, [], length, map, take, drop}
use Rattle.std.specs.Borrow.{Bor}
use Rattle.capnp_format.specs.Bytes.{message}
use Rattle.capnp_format.specs.Segments.{Segments}
use Rattle.capnp_framing.specs.Flat.{BeginsWithFrame}
use Rattle.capnp_framing.specs.Frames.{frame}
use Rattle.capnp_framing.specs.Reading.{HasTable, NoFrame, segments_told, table_size, words_in_table}
use Rattle.capnp_framing.specs.declared.framing.frame_error.FrameError.{FrameError}
use Rattle.capnp_numbers.specs.Numbers.{frame_error_number, no_message_number, no_room_number}

-- The bytes have a whole frame of at most `most` words at the front, of n segments and `size` bytes.
pub record IsWholeFrame (bytes : List ℕ) (most n size : ℕ) : Type 0 where
  pub table : HasTable bytes
  pub short : words_in_table bytes ≤ most
  pub counts : n ≡ segments_told bytes
  pub sized : size ≡ table_size n + 8 * words_in_table bytes
  pub whole : size ≤ length bytes

-- The bytes don't begin with a frame, and the call answers with this number: there are none, or for
-- the first reason that applies.
abbrev pub IsNoFrameNumber : List ℕ → ℕ → ℕ → Type 0
IsNoFrameNumber bytes most number =
    ((number ≡ no_message_number) × (bytes ≡ []))
    ⊎ ((e : FrameError) × (number ≡ frame_error_number e) × NoFrame bytes most e)

-- The frame of S at the front of the bytes, with the number of its segments and bytes.
pub record IsFrameAt (bytes : List ℕ) (most n size : ℕ) (S : Segments) : Type 0 where
  pub begins : BeginsWithFrame bytes most S
  pub counts : n ≡ length S
  pub sized : size ≡ length (frame S)

-- A frame of n segments and `size` bytes is opened: the first n entries of `new` are the segments of
-- the message in it, and those after them stay as in `old`.
pub record IsOpened (bytes : List ℕ) (most n size : ℕ) (old new : List (Bor (List ℕ))) : Type 0 where
  pub of : Segments
  pub frame_at : IsFrameAt bytes most n size of
  pub segments : message (map (λ s. s.now) (take n new)) ≡ of
  pub behind : drop n new ≡ drop n old
  pub long : length new ≡ length old

-- The frame isn't opened, and the call answers with this number: there is none, and it has counted
-- nothing; or there is one, of more segments than there is room for.
abbrev pub RefusesOpening : List ℕ → ℕ → ℕ → ℕ → ℕ → ℕ → Type 0
RefusesOpening bytes most room n size number =
    (IsNoFrameNumber bytes most number × (n ≡ 0) × (size ≡ 0))
    ⊎ ((number ≡ no_room_number) × (room < n) × ((S : Segments) × IsFrameAt bytes most n size S))
