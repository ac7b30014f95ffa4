-- The segments of a default: all segments that a far pointer can name are empty.
use Rattle.std.proofs.Common.{◌≡◌, ℕ, zero, suc, ◌^◌, ◌<◌, List, [], ◌∷◌, ◌++◌, replicate, length, refl, ap, ◌∙◌, arith}
use Rattle.capnp_format.specs.Bytes.{words_of}
use Rattle.capnp_format.specs.Segments.{Segments, segment}
use Rattle.capnp_pointers.specs.Source.{default_segment, default_segments}

-- n empty segments, and after them one with these bytes
unfoldable behind_empty : ℕ → List ℕ → Segments
behind_empty n bytes = replicate n [] ++ words_of bytes ∷ []

default_behind : (bytes : List ℕ) → default_segments bytes ≡ behind_empty default_segment bytes
unfolding default_segments behind_empty
default_behind bytes = refl

behind_empty_at : (n : ℕ) (bytes : List ℕ) → segment (behind_empty n bytes) n ≡ words_of bytes
unfolding behind_empty
behind_empty_at zero bytes = refl
behind_empty_at (suc n) bytes = behind_empty_at n bytes

behind_empty_before : (n : ℕ) (bytes : List ℕ) (u : ℕ) → u < n → segment (behind_empty n bytes) u ≡ []
unfolding behind_empty
behind_empty_before zero bytes u h = absurd (omega arith)
behind_empty_before (suc n) bytes zero h = refl
behind_empty_before (suc n) bytes (suc u) h = behind_empty_before n bytes u (omega arith)

length-behind_empty : (n : ℕ) (bytes : List ℕ) → length (behind_empty n bytes) ≡ suc n
unfolding behind_empty
length-behind_empty zero bytes = refl
length-behind_empty (suc n) bytes = ap suc (length-behind_empty n bytes)

-- the segment that has the default's words
pub default_at : (bytes : List ℕ) → segment (default_segments bytes) default_segment ≡ words_of bytes
default_at bytes = ap (λ S. segment S default_segment) (default_behind bytes) ∙ behind_empty_at default_segment bytes

pub default_before : (bytes : List ℕ) (u : ℕ) → u < 2 ^ 32 → segment (default_segments bytes) u ≡ []
default_before bytes u h = ap (λ S. segment S u) (default_behind bytes) ∙ behind_empty_before default_segment bytes u h

pub length-default : (bytes : List ℕ) → length (default_segments bytes) ≡ suc default_segment
length-default bytes = ap length (default_behind bytes) ∙ length-behind_empty default_segment bytes
