-- What is written if an object is made in the segment of its pointer.
use Rattle.std.specs.Prelude.{◌≡◌, ℕ, ◌+◌, ◌≤◌, List, length}
use Rattle.capnp_format.specs.Canonical.{offset_to}
use Rattle.capnp_format.specs.Forest.{target}
use Rattle.capnp_format.specs.Segments.{Segments, segment}
use Rattle.capnp_format.specs.Word.{struct_word, list_word}
use Rattle.capnp_arena_traits.specs.View.{View}
use Rattle.capnp_arena_traits.specs.Written.{with_word, extended}
use Rattle.capnp_words.specs.Sizes.{size_number}
use Rattle.capnp_allocation.specs.Makes.{CallAt}
use Rattle.capnp_allocation.specs.Memory.{start_of}
use Rattle.capnp_allocation.specs.declared.making.Shape.{Shape}
use Rattle.capnp_allocation.specs.declared.making.Shape.TheVariants.{Struct as StructShape, List as ListShape}
use Rattle.capnp_arena_traits.specs.declared.arena.WordPlace.{WordPlace}

-- Segment id has room for n more words.
abbrev pub HasOwnRoom : View → ℕ → ℕ → Type 0
HasOwnRoom v id n = length (segment v.words id) + n ≤ v.room id

-- An object starts at the end of segment id in S.
abbrev pub StartsAtEnd : Segments → ℕ → WordPlace → Type 0
StartsAtEnd S id h = (h.segment ≡ id) × (h.at ≡ length (segment S id))

-- The call makes an object of n words, perhaps 0, for the pointer. If the pointer's segment has
-- room for them, the object starts at the end of that segment's old words.
abbrev pub LeadsToEnd : CallAt → ℕ → Type 0
LeadsToEnd c n = HasOwnRoom c.old c.segment n →
    StartsAtEnd c.old.words c.segment (start_of (target c.new.words c.segment c.at))

-- The offset from a pointer at position p to the end of segment id.
abbrev pub offset_to_end : Segments → ℕ → ℕ → ℕ
offset_to_end S id p = offset_to p (length (segment S id))

-- S with the word x at position p of segment id, and ws appended to that segment.
abbrev pub with_object : Segments → ℕ → ℕ → ℕ → List ℕ → Segments
with_object S id p x ws = extended (with_word S id p x) id ws

-- The pointer to an object of this shape, with this offset.
abbrev pub shape_word : Shape → ℕ → ℕ
shape_word (StructShape size) offset = struct_word offset size.data_words size.pointers
shape_word (ListShape size n) offset = list_word offset (size_number size) n
