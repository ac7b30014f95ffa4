-- The raw words of a message of one segment: bytes without a frame, which end where the input
-- ends.
use Rattle.std.specs.Prelude.{◌≡◌, ℕ, ◌+◌, ◌*◌, ◌%◌, ◌<◌, ◌≤◌, List, [], ◌∷◌, length, min, true, ◌⊎◌, IfSome, ⊤}
use Rattle.std.specs.Io.KnownBytes.{Consumes, IsAtEnd}
use Rattle.capnp_framing.specs.Reading.{max_length}
use Rattle.capnp_framing.specs.declared.devices.Input.{Ghosts}
use Rattle.capnp_framing.specs.declared.framing.frame_error.FrameError.{FrameError}
use Rattle.capnp_framing.specs.declared.framing.frame_error.FrameError.TheVariants.{MessageTooLong}
use Rattle.capnp_framing.specs.declared.framing.frame_error.FrameError.TheVariants.{Truncated}
use Rattle.capnp_framing.specs.declared.framing.frame_error.FrameError.TheVariants.{ReadFailed}
use Rattle.capnp_framing.specs.declared.framing.frame_error.FrameError.TheVariants.{AllocationFailed}

-- How many words are read if `most` are allowed: at most as many as a segment has room for.
abbrev pub most_bare : ℕ → ℕ
most_bare most = min most max_length

-- The bytes are whole words, and at most as many as are allowed.
pub record AreBareWords (bytes : List ℕ) (most : ℕ) : Type 0 where
  pub whole : length bytes % 8 ≡ 0
  pub short : length bytes ≤ 8 * most_bare most

-- The bytes are refused with e: there is a word too many, or they end within a word.
pub data NoBareWords (bytes : List ℕ) (most : ℕ) (e : FrameError) : Type 0 where
  words_beyond : 8 * most_bare most + 8 ≤ length bytes → e ≡ MessageTooLong (most_bare most + 1) →
      NoBareWords bytes most e
  word_cut : length bytes < 8 * most_bare most + 8 → (length bytes % 8 ≡ 0 → ⊥) → e ≡ Truncated →
      NoBareWords bytes most e

module _ {R : Type 0} (g : Ghosts R) where
  -- All that the input had was read: it is the only one of these segments, in whole words, and at
  -- most as many as are allowed.
  pub record IsSegmentRead (from to : R) (most : ℕ) (segments : List (List ℕ)) : Type 0 where
    pub bytes : List ℕ
    pub consumed : Consumes (g.remaining from) (g.remaining to) bytes
    pub bare : AreBareWords bytes most
    pub only : segments ≡ bytes ∷ []

  -- What a refusal has taken from the front of the input: the words up to the first one too many,
  -- or all that was there if it was cut short.
  abbrev pub HasTakenBare : R → R → FrameError → Type 0
  HasTakenBare from to (MessageTooLong n) =
      (bytes : List ℕ) × (length bytes ≡ 8 * n) × Consumes (g.remaining from) (g.remaining to) bytes
  HasTakenBare from to Truncated = IsAtEnd (g.remaining to)
  HasTakenBare from to _ = ⊤

  -- No segment of at most `most` words was read, for the reason e: there was no memory for it; or
  -- the input failed, which excludes every other reason; or its bytes aren't raw words. Also
  -- states what it has read of the input.
  pub record NoSegmentRead (from to : R) (most : ℕ) (e : FrameError) : Type 0 where
    pub why : (e ≡ AllocationFailed) ⊎ ((e ≡ ReadFailed) × (g.has_failed to ≡ true)) ⊎
        IfSome (g.remaining from) (λ bytes. NoBareWords bytes most e)
    pub failed : g.has_failed to ≡ true → e ≡ ReadFailed
    pub taken : HasTakenBare from to e
