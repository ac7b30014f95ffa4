-- A place that is read, and the place at which a source is read.
use Rattle.std.specs.Prelude.{ℕ, ℤ, Bool, true, false, List, [], ◌+◌, ◌*◌, get_or, take, drop}
use Rattle.capnp_format.specs.Bytes.{message}
use Rattle.capnp_format.specs.Numbers.{unpacked, words_for}
use Rattle.capnp_format.specs.Segments.{Segments, Target, segment, word_at, words_at}
use Rattle.capnp_format.specs.Word.{data_words, pointer_count}
use Rattle.capnp_arena_traits.specs.declared.arena.reader_arena.ReaderArena.{Ghosts}
use Rattle.capnp_words.specs.declared.wire_pointer.StructSize.{StructSize}
use Rattle.capnp_pointers.specs.declared.object.Place.{Place}
use Rattle.capnp_pointers.specs.declared.object.PointerWord.{PointerWord}
use Rattle.capnp_pointers.specs.declared.source.Source.{Source}
use Rattle.capnp_pointers.specs.declared.source.Source.TheVariants.{Arena, Default, Nothing}
use Rattle.capnp_pointers.specs.Source.{default_segment, default_segments, levels}

-- A place that is read: its message, whether reading there is charged, whether it is a default's,
-- how many levels of structs and lists may be entered from it, and its segment and word position.
pub record Reading : Type 0 where
  pub segments : Segments
  pub charging : Bool
  pub of_default : Bool
  pub levels : ℕ
  pub segment : ℕ
  pub at : ℕ

-- A place in no message, with no level.
abbrev pub unset : Reading
unset =
    record { segments = []; charging = false; of_default = false; levels = 0; segment = 0; at = 0 }

-- The first word of a source, with no level: of a message, of a default, which is free of charge,
-- or of nothing.
abbrev pub source_start : {A : Type 0} (g : Ghosts A) → Source A → Reading
source_start g (Arena a) =
    record unset { segments = message (g.segments a.now); charging = g.charging a.now }
source_start g (Default d) =
    record unset { segments = default_segments d.now; of_default = true; segment = default_segment }
source_start g Nothing = unset

-- The place of a source that is read within a nesting limit.
abbrev pub reading_at : {A : Type 0} (g : Ghosts A) → Source A → Place → ℤ → Reading
reading_at g source place nesting =
    record (source_start g source) {
      levels = levels nesting;
      segment = place.segment;
      at = place.at;
    }

-- The place of a pointer word that was read in a source.
abbrev pub pointer_at : {A : Type 0} (g : Ghosts A) → Source A → PointerWord → Reading
pointer_at g source pointer = reading_at g source pointer.place pointer.nesting_limit

-- The word at the place r.
abbrev pub word_of : Reading → ℕ
word_of r = word_at r.segments r.segment r.at

-- The place n words after r.
abbrev pub place_past : Reading → ℕ → Reading
place_past r n = record r { at = r.at + n }

-- The words of the segment of r, and the n words from r on.
abbrev pub segment_read : Reading → List ℕ
segment_read r = segment r.segments r.segment

abbrev pub words_from : Reading → ℕ → List ℕ
words_from r n = words_at r.segments r.segment r.at n

-- Byte i of the n bytes from word p of these words on ("Lists").
abbrev pub list_byte : List ℕ → ℕ → ℕ → ℕ → ℕ
list_byte ws p n i = get_or (unpacked 2 n (take (words_for 2 n) (drop p ws))) i 0

-- The pointers of element j of a list of structs of this size, whose elements start at the place r.
abbrev pub pointers_of : Reading → StructSize → ℕ → Reading
pointers_of r size j = record r { at = r.at + j * (size.data_words + size.pointers) + size.data_words }

-- The size of the elements of the list of structs at the target a, by its tag.
abbrev pub tag_size : Segments → Target → StructSize
tag_size S a =
    record {
      data_words = data_words (word_at S a.segment a.start);
      pointers = pointer_count (word_at S a.segment a.start);
    }
