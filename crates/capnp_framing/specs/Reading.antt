-- Why bytes, or segments, aren't a frame.
use Rattle.std.specs.Prelude.{◌≡◌, ◌⊎◌, ℕ, ◌+◌, ◌*◌, ◌<◌, ◌≤◌, List, [], ◌∷◌, length, take, drop}
use Rattle.std.specs.Prelude.{zero, suc, false, true, Result, IfSome, OnOk, ⊤}
use Rattle.std.specs.Int.{from_le_bytes, w32}
use Rattle.std.specs.Io.KnownBytes.{Consumes, IsAtEnd}
use Rattle.capnp_format.specs.Segments.{Segments}
use Rattle.capnp_framing.specs.Frames.{IsFrameOf, max_frame_segments, padding_size}
use Rattle.capnp_framing.specs.Wholeness.{KeepsWhole}
use Rattle.capnp_framing.specs.declared.devices.Input.{Ghosts}
use Rattle.capnp_framing.specs.declared.framing.frame_error.FrameError.{FrameError}
use Rattle.capnp_framing.specs.declared.framing.frame_error.FrameError.TheVariants.{NoSegments}
use Rattle.capnp_framing.specs.declared.framing.frame_error.FrameError.TheVariants.{TooManySegments}
use Rattle.capnp_framing.specs.declared.framing.frame_error.FrameError.TheVariants.{MessageTooLong}
use Rattle.capnp_framing.specs.declared.framing.frame_error.FrameError.TheVariants.{Truncated}
use Rattle.capnp_framing.specs.declared.framing.frame_error.FrameError.TheVariants.{ReadFailed}
use Rattle.capnp_framing.specs.declared.framing.frame_error.FrameError.TheVariants.{AllocationFailed}

-- Why n segments don't make a frame: e says that there are none, or too many.
abbrev pub IsRefusedNumber : ℕ → FrameError → Type 0
IsRefusedNumber n e = ((e ≡ NoSegments) × (n ≡ 0)) ⊎ ((e ≡ TooManySegments n) × (max_frame_segments < n))

-- The number of segments that the first bytes state.
abbrev pub segments_told : List ℕ → ℕ
segments_told bytes = from_le_bytes w32 (take 4 bytes) + 1

-- The number of bytes before the words of n segments.
abbrev pub table_size : ℕ → ℕ
table_size n = 4 + 4 * n + padding_size n

-- The greatest length in words that four bytes can state.
abbrev pub max_length : ℕ
max_length = 4294967295

-- The sum of the n lengths that the bytes state.
abbrev pub words_told : ℕ → List ℕ → ℕ
words_told zero bytes = 0
words_told (suc n) bytes = from_le_bytes w32 (take 4 bytes) + words_told n (drop 4 bytes)

-- The number of words of a message.
abbrev pub total : Segments → ℕ
total [] = 0
total (ws ∷ S) = length ws + total S

-- The whole table is there.
pub record HasTable (bytes : List ℕ) : Type 0 where
  pub count : 4 ≤ length bytes
  pub few : segments_told bytes ≤ max_frame_segments
  pub table : table_size (segments_told bytes) ≤ length bytes

-- The number of words that the table states.
abbrev pub words_in_table : List ℕ → ℕ
words_in_table bytes = words_told (segments_told bytes) (drop 4 bytes)

-- These bytes, at least one, don't begin with a frame of at most `most` words. The reason e is the
-- first that applies, in this order.
pub data NoFrame (bytes : List ℕ) (most : ℕ) (e : FrameError) : Type 0 where
  count_cut : 0 < length bytes → length bytes < 4 → e ≡ Truncated → NoFrame bytes most e
  too_many : 4 ≤ length bytes → max_frame_segments < segments_told bytes →
      e ≡ TooManySegments (segments_told bytes) → NoFrame bytes most e
  table_cut : 4 ≤ length bytes → segments_told bytes ≤ max_frame_segments →
      length bytes < table_size (segments_told bytes) → e ≡ Truncated → NoFrame bytes most e
  too_long : HasTable bytes → most < words_in_table bytes →
      e ≡ MessageTooLong (words_in_table bytes) → NoFrame bytes most e
  words_cut : HasTable bytes → words_in_table bytes ≤ most →
      length bytes < table_size (segments_told bytes) + 8 * words_in_table bytes → e ≡ Truncated →
      NoFrame bytes most e

module _ {R : Type 0} (g : Ghosts R) where
  -- What a successful read leaves of an input: it works, and if it was known whether the input ends
  -- whole, that is still known and the same.
  pub record KeepsInput {A E : Type 0} (result : Result A E) (from to : R) : Type 0 where
    pub whole : OnOk result (KeepsWhole (g.ends_whole from) (g.ends_whole to))
    pub works : OnOk result (g.has_failed to ≡ false)

  -- Not all of the n bytes were read, for the reason e: there was no memory for them; or the input
  -- ended before; or it failed, which excludes every other reason.
  pub record WhyUnread (from to : R) (n : ℕ) (e : FrameError) : Type 0 where
    pub why : (e ≡ AllocationFailed) ⊎
        ((e ≡ Truncated) × IfSome (g.remaining from) (λ bytes. length bytes < n)) ⊎
        ((e ≡ ReadFailed) × (g.has_failed to ≡ true))
    pub failed : g.has_failed to ≡ true → e ≡ ReadFailed
    pub cut : e ≡ Truncated → IsAtEnd (g.remaining to)

  -- A frame of S was read from the front of an input, and what comes after it is left.
  pub record IsFrameRead (from to : R) (S : Segments) : Type 0 where
    pub bytes : List ℕ
    pub consumed : Consumes (g.remaining from) (g.remaining to) bytes
    pub framed : IsFrameOf S bytes

  -- What a refusal has taken from the front of the input: the number of segments if there are too
  -- many; the whole table if it states too many words; all that was there if it was cut short.
  abbrev pub HasTaken : R → R → FrameError → Type 0
  HasTaken from to (TooManySegments n) =
      (bytes : List ℕ) × (length bytes ≡ 4) × Consumes (g.remaining from) (g.remaining to) bytes
  HasTaken from to (MessageTooLong n) =
      (bytes : List ℕ) × (length bytes ≡ table_size (segments_told bytes)) ×
      Consumes (g.remaining from) (g.remaining to) bytes
  HasTaken from to Truncated = IsAtEnd (g.remaining to)
  HasTaken from to _ = ⊤

  -- No frame of at most `most` words was read, for the reason e: there was no memory for it; or the
  -- input failed, which excludes every other reason; or it doesn't begin with a frame. Also states
  -- what was read of the input.
  pub record NoFrameRead (from to : R) (most : ℕ) (e : FrameError) : Type 0 where
    pub why : (e ≡ AllocationFailed) ⊎ ((e ≡ ReadFailed) × (g.has_failed to ≡ true)) ⊎
        IfSome (g.remaining from) (λ bytes. NoFrame bytes most e)
    pub failed : g.has_failed to ≡ true → e ≡ ReadFailed
    pub taken : HasTaken from to e
