-- A message of one segment that is built in a buffer.
use Rattle.std.specs.Prelude.{◌≡◌, ℕ, List, [], ◌∷◌, ◌+◌, ◌*◌, ◌/◌, ◌<◌, ◌≤◌, length, take, min}
use Rattle.std.specs.Prelude.{slice_index_or, Result}
use Rattle.capnp_words.specs.declared.error.ErrorKind.{ErrorKind}
use Rattle.capnp_words.specs.declared.wire_pointer.ElementSize.{ElementSize}
use Rattle.capnp_format.specs.Bytes.{message}
use Rattle.capnp_format.specs.Segments.{Segments}
use Rattle.capnp_arena_traits.specs.Allocations.{max_segment_words}
use Rattle.capnp_arena_traits.specs.View.{View, view_of}
use Rattle.capnp_lent_arena.specs.Lent.{names}
use Rattle.capnp_readers.specs.Sections.{elements_words}
use Rattle.capnp_readers.specs.declared.readers.list_reader.ListPlace.{ListPlace}
use Rattle.capnp_readers.specs.declared.readers.struct_reader.StructPlace.{StructPlace}
use Rattle.capnp_layout_c.specs.BuildingNumbers.{number_of_result}
use Rattle.capnp_layout_c.specs.declared.building.places.ListAt.{ListAt}
use Rattle.capnp_layout_c.specs.declared.building.places.StructAt.{StructAt}

-- A buffer before and after a call, each with the number of words of it that are the message.
pub record Buffer : Type 0 where
  pub old : List ℕ
  pub from : ℕ
  pub new : List ℕ
  pub used : ℕ

abbrev pub buffer : List ℕ → ℕ → List ℕ → ℕ → Buffer
buffer old from new used = record { old = old; from = from; new = new; used = used }

-- The first `used` words of the bytes can be a message being built.
abbrev pub IsMessage : List ℕ → ℕ → Type 0
IsMessage bytes used = (8 * used ≤ length bytes) × (used ≤ max_segment_words)

-- The message: its segment is the first `used` words.
abbrev pub words_in : List ℕ → ℕ → Segments
words_in bytes used = message (take (8 * used) bytes ∷ [])

-- The message, with how many words the buffer can hold, how often memory was refused in the call,
-- and the name of the reference to the buffer.
abbrev pub view_in : ℕ → ℕ → List ℕ → ℕ → View
view_in name refusals bytes used =
    view_of (words_in bytes used)
    (λ k. slice_index_or (min (length bytes / 8) max_segment_words ∷ []) k 0) refusals (names name)

-- The place that C has as `p`.
abbrev pub placed_struct : StructAt → StructPlace
placed_struct p = record {
  segment = 0;
  byte = 8 * p.at;
  bits = 64 * p.data_words;
  pointers_at = p.at + p.data_words;
  pointers = p.pointers;
}

-- The place that C has as `l`, of a list of elements of this size that aren't structs.
abbrev pub placed_list : ElementSize → ListAt → ListPlace
placed_list size l = record {
  segment = 0;
  byte = 8 * l.at;
  size = size;
  struct_size = record { data_words = 0; pointers = 0 };
  count = l.count;
}

-- The place of a struct, by its parts.
abbrev pub sized_at : ℕ → ℕ → ℕ → StructAt
sized_at at data_words pointers =
    record { at = at; data_words = data_words; pointers = pointers }

-- The struct is inside of the message.
abbrev pub IsStructIn : List ℕ → ℕ → StructAt → Type 0
IsStructIn bytes used p = IsMessage bytes used × (p.at + p.data_words + p.pointers ≤ used)

-- Pointer i of the struct is inside of the message.
abbrev pub IsPointerIn : List ℕ → ℕ → StructAt → ℕ → Type 0
IsPointerIn bytes used p i = IsStructIn bytes used p × (i < p.pointers)

-- Word `at` is inside of the message.
abbrev pub IsWordIn : List ℕ → ℕ → ℕ → Type 0
IsWordIn bytes used at = IsMessage bytes used × (at < used)

-- Element i of the list is inside of the message, and so is the list.
abbrev pub IsElementIn : List ℕ → ℕ → ElementSize → ListAt → ℕ → Type 0
IsElementIn bytes used size l i =
    IsMessage bytes used × (l.at + elements_words size l.count 0 ≤ used) × (i < l.count)

-- The word of pointer i of a struct.
abbrev pub pointer_of : StructAt → ℕ → ℕ
pointer_of p i = p.at + p.data_words + i

-- A call is refused with a number, and changes nothing.
pub record Refuses (number n : ℕ) (b : Buffer) : Type 0 where
  pub is : number ≡ n
  pub kept : b.new ≡ b.old
  pub used : b.used ≡ b.from

-- What a call returns that returns nothing.
abbrev pub Done : Type 0
Done = Unit {0}

-- A call answers with the number of a result for which this holds, with the message and the room
-- before and after it. The message has a name of the reference to the buffer, and the number of
-- refused requests, which C doesn't see.
pub record Gives (A : Type 0) (number : ℕ) (b : Buffer)
    (Does : Result A ErrorKind → View → View → Type 0) : Type 0 where
  pub found : Result A ErrorKind
  pub name : ℕ
  pub refusals : ℕ
  pub is : number ≡ number_of_result found
  pub does : Does found (view_in name 0 b.old b.from) (view_in name refusals b.new b.used)
