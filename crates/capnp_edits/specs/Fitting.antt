-- Edits whose words fit the first segment together: none is refused for memory.
use Rattle.std.specs.Prelude.{◌≡◌, ◌≢◌, ⊤, ℕ, true, length, Option, Some, None}
use Rattle.capnp_words.specs.declared.error.ErrorKind.{ErrorKind}
use Rattle.capnp_format.specs.Canonical.{word_count}
use Rattle.capnp_format.specs.Segments.{Segments, segment}
use Rattle.capnp_edits.specs.declared.edit.tasks.Task.{Task}
use Rattle.capnp_edits.specs.declared.edit.tasks.Task.TheVariants.{Make, Point, InStruct, Write}
use Rattle.capnp_edits.specs.declared.edit.tasks.StructChange.TheVariants.{Bits}
use Rattle.capnp_edits.specs.Edits.{is_of_path, value_of}

-- The number of words that an edit's task requests: those of the object that it makes.
abbrev pub words_asked : Option Task → ℕ
words_asked (Some (Make object)) = word_count (value_of object)
words_asked task = 0

-- The task requests only these words: it makes an object, or writes a pointer, a field, an element
-- or a byte.
abbrev pub AsksNoMore : Option Task → Type 0
AsksNoMore None = ⊤
AsksNoMore (Some (Make object)) = ⊤
AsksNoMore (Some (Point i)) = ⊤
AsksNoMore (Some (Write part)) = ⊤
AsksNoMore (Some (InStruct (Bits n))) = ⊤
AsksNoMore task = ⊥

-- All words are in the first segment.
abbrev pub AreInFirst : Segments → Type 0
AreInFirst S = (k : ℕ) → k ≢ 0 → length (segment S k) ≡ 0

-- The outcome isn't a refusal of memory: the edit is done, or refused for what its path leads to.
abbrev pub IsNoneOfMemory : Option ErrorKind → Type 0
IsNoneOfMemory r = (k : ErrorKind) → r ≡ Some k → is_of_path k ≡ true
