-- The room that a canonical copy requests.
use Rattle.std.specs.Prelude.{◌≡◌, ◌⊎◌, ℕ, ◌+◌, ◌<◌, ◌≤◌, min, if◌then◌else◌, Bool, IsTrue, length}
use Rattle.capnp_arena_traits.specs.Allocations.{max_segment_words}
use Rattle.capnp_arena_traits.specs.View.{View}
use Rattle.capnp_format.specs.Segments.{segment}
use Rattle.capnp_framing.specs.Reading.{total}
use Rattle.capnp_pointers.specs.Reading.{Reading}

-- The words that the first try requests for a source of `words` words: one more than these, and
-- none more than a segment can have.
abbrev pub first_room : ℕ → ℕ
first_room words = min (words + 1) max_segment_words

-- The words that are requested for a copy of `made` words of such a source: those of the first try;
-- or, if the copy has more, exactly as many as it has.
abbrev pub IsRoomFor : ℕ → ℕ → ℕ → Type 0
IsRoomFor words made room =
    (room ≡ first_room words)
    ⊎ ((first_room words < made) × (room ≡ min made max_segment_words))

-- The words of the message that r reads; 0 if r reads a default value.
abbrev pub words_read : Reading → ℕ
words_read r = if r.of_default then 0 else total r.segments

-- The canonical words of a source of `size` words were made: the room of their segment is one
-- offered for what was requested, and memory was refused `refusals` times.
pub record IsFirstTry (size : ℕ) (offers : ℕ → ℕ → Bool) (refusals : ℕ) (made : View) : Type 0 where
  pub room : ℕ
  pub asked : IsTrue (offers room (made.room 0))
  pub least : IsRoomFor size (length (segment made.words 0)) room
  pub granted : made.refusals ≡ refusals

-- A segment of `room` words can be requested.
pub record IsSegmentRoom (room : ℕ) : Type 0 where
  pub some : 1 ≤ room
  pub most : room ≤ max_segment_words
