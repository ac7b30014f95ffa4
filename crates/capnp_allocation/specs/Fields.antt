-- Numbers and bits of a message, replaced in place.
use Rattle.std.specs.Prelude.{ℕ}
use Rattle.capnp_format.specs.Fields.{put_field}
use Rattle.capnp_format.specs.Segments.{Segments, segment}
use Rattle.capnp_arena_traits.specs.Written.{with_segment}

-- The message S with v in place of the w bits from bit b of segment s on, which are in one word.
abbrev pub with_field : Segments → ℕ → ℕ → ℕ → ℕ → Segments
with_field S s b w v = with_segment S s (put_field (segment S s) b w v)
