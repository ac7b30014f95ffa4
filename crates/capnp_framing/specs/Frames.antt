-- A message as a stream of bytes ("Serialization Over a Stream"). First the number of segments less
-- one and the length of each segment in words, four bytes each, the lowest first. After an even
-- number of lengths follow four bytes of padding, so that the words start at a multiple of eight
-- bytes. Then come the words of the segments in order, eight bytes each.
use Rattle.std.specs.Prelude.{◌≡◌, ℕ, ◌+◌, ◌-◌, ◌*◌, ◌%◌, ◌^◌, ◌<◌, ◌≤◌, List, [], ◌∷◌, ◌++◌, All}
use Rattle.std.specs.Prelude.{length, replicate}
use Rattle.std.specs.Int.{to_le_bytes, w32, w64}
use Rattle.capnp_format.specs.Segments.{Segments}

-- The bytes of consecutive words.
abbrev pub bytes_of_words : List ℕ → List ℕ
bytes_of_words [] = []
bytes_of_words (w ∷ ws) = to_le_bytes w64 w ++ bytes_of_words ws

-- The length of each segment.
abbrev pub lengths : Segments → List ℕ
lengths [] = []
lengths (ws ∷ S) = to_le_bytes w32 (length ws) ++ lengths S

-- The words of all segments.
abbrev pub contents : Segments → List ℕ
contents [] = []
contents (ws ∷ S) = bytes_of_words ws ++ contents S

-- The number of bytes of padding after n lengths.
abbrev pub padding_size : ℕ → ℕ
padding_size n = 4 * ((n + 1) % 2)

-- The greatest number of segments of a frame, which is this project's limit.
abbrev pub max_frame_segments : ℕ
max_frame_segments = 512

-- Each word has 64 bits.
abbrev pub AreSegmentWords : List ℕ → Type 0
AreSegmentWords ws = All (λ w. w < 2 ^ 64) ws

-- A frame holds 1 to 512 segments, each of fewer than 2^32 words of 64 bits.
pub record CanBeFramed (S : Segments) : Type 0 where
  pub some : 1 ≤ length S
  pub few : length S ≤ max_frame_segments
  pub short : All (λ ws. length ws < 2 ^ 32) S
  pub words : All AreSegmentWords S

-- The bytes of a message, with this padding.
abbrev pub frame_with : List ℕ → Segments → List ℕ
frame_with padding S = to_le_bytes w32 (length S - 1) ++ (lengths S ++ (padding ++ contents S))

-- The bytes are those of S. The padding may hold any bytes.
pub record IsFrameOf (S : Segments) (bytes : List ℕ) : Type 0 where
  pub message : CanBeFramed S
  pub padding : List ℕ
  pub padded : length padding ≡ padding_size (length S)
  pub is : bytes ≡ frame_with padding S

-- The frame that is written: its padding is zero.
abbrev pub frame : Segments → List ℕ
frame S = frame_with (replicate (padding_size (length S)) 0) S
