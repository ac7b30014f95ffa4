-- What a struct of a message being built gets of another struct's content ("Structs").
use Rattle.std.specs.Prelude.{◌≡◌, ℕ, zero, suc, ◌+◌, ◌-◌, ◌*◌, ◌/◌, ◌%◌, ◌^◌, ◌<◌, List}
use Rattle.std.specs.Prelude.{slice_index, min, pred, length}
use Rattle.capnp_words.specs.Meter.{Meter}
use Rattle.capnp_format.specs.Segments.{Segments, word_at}
use Rattle.capnp_format.specs.Tree.{Null, Trees, no_trees, tree}
use Rattle.capnp_arena_traits.specs.declared.arena.reader_arena.ReaderArena.{Ghosts}
use Rattle.capnp_arena_traits.specs.View.{View, KeepsLimits}
use Rattle.capnp_allocation.specs.Fields.{with_field}
use Rattle.capnp_format.specs.Fields.{field_in}
use Rattle.capnp_allocation.specs.Made.{nulls}
use Rattle.capnp_allocation.specs.Stored.{Puts}
use Rattle.capnp_readers.specs.declared.readers.struct_reader.StructPlace.{StructPlace}
use Rattle.capnp_readers.specs.declared.readers.struct_reader.StructReader.{StructReader}
use Rattle.capnp_words.specs.declared.error.ErrorKind.{ErrorKind}
use Rattle.capnp_pointers.specs.Wanted.{plain}
use Rattle.capnp_readers.specs.Sizes.{pointers_read}
use Rattle.capnp_copies.specs.Changes.{CopyCall, CopiesChildren, copy_call, CopiesFirst}
use Rattle.capnp_copies.specs.Rooms.{CanBeCopied}
use Rattle.capnp_copies.specs.Originals.{children_original}
use Rattle.capnp_allocation.specs.Makes.{call_at}
use Rattle.capnp_builders.specs.Places.{Field}

-- Byte i of content that is `bits` bits long, with zeros for the bits after its end.
abbrev pub content_byte : ℕ → List ℕ → ℕ → ℕ
content_byte bits bytes i = slice_index bytes i % 2 ^ min 8 (bits - 8 * i)

-- Consecutive fields of w bits each, from bit b on, with the numbers of f.
abbrev pub fields_from : ℕ → ℕ → (ℕ → ℕ) → ℕ → Field
fields_from b w f i = record { start = b + i * w; bits = w; value = f i }

-- S with the first n of the fields F written in segment s.
abbrev pub with_fields : Segments → ℕ → (ℕ → Field) → ℕ → Segments
with_fields S s F zero = S
with_fields S s F (suc n) = with_field (with_fields S s F n) s (F n).start (F n).bits (F n).value

-- S with content in the data section of a struct: first its whole bytes, then the bits after these.
abbrev pub with_content : Segments → StructPlace → ℕ → List ℕ → Segments
with_content S place bits bytes =
    let start = 8 * place.byte in
    let whole = place.bits / 8 in
    let written = with_fields S place.segment (fields_from start 8 (content_byte bits bytes)) whole in
    with_fields written place.segment
    (fields_from (start + whole * 8) 1 (λ j. content_byte bits bytes whole / 2 ^ j % 2)) (place.bits % 8)

-- From S to R n consecutive pointers from (s, p) on become null, one after the other.
abbrev pub AreCleared : Segments → Segments → ℕ → ℕ → ℕ → Type 0
AreCleared S R s p zero = R ≡ S
AreCleared S R s p (suc n) = (M : Segments) × AreCleared S M s p n × Puts M R s (p + n) Null

-- A call that copies pointers as plain values, to the pointers of a struct from the first on.
abbrev pub pointers_copied : StructPlace → View → View → Meter → Meter → CopyCall
pointers_copied place old new before after =
    copy_call plain (call_at place.segment place.pointers_at old new) before after

-- From S to M content is written in the data section of a struct, and then all its pointers become
-- null.
abbrev pub TakesBytes : Segments → Segments → StructPlace → ℕ → List ℕ → Type 0
TakesBytes S M place bits bytes =
    AreCleared (with_content S place bits bytes) M place.segment place.pointers_at place.pointers

-- ws are d data words. Each byte of them is that of the content.
abbrev pub HoldContent : List ℕ → ℕ → ℕ → List ℕ → Type 0
HoldContent ws d bits bytes =
    (length ws ≡ d) × ((i : ℕ) → i < 8 * d → field_in ws (8 * i) 8 ≡ content_byte bits bytes i)

-- The children, followed by nulls, n in all.
abbrev pub up_to : ℕ → Trees → Trees
up_to n no_trees = nulls n
up_to n (tree t ts) = tree t (up_to (pred n) ts)

module _ {A : Type 0} (g : Ghosts A) where
  -- From old to new the data of the struct that `value` reads is copied to the data section of a
  -- struct, up to the end of the shorter one, followed by zeros. Then the pointers of that struct
  -- become null.
  pub record TakesData (value : StructReader A g) (place : StructPlace) (old new : View) : Type 0 where
    pub cleared : TakesBytes old.words new.words place value.bits value.content.now
    pub null : (i : ℕ) → i < place.pointers → word_at new.words place.segment (place.pointers_at + i) ≡ 0
    pub limits : KeepsLimits old new

  -- The data is copied, and then as many pointers as both structs have; or copying these is refused
  -- with k.
  abbrev pub TakesContent : StructReader A g → StructPlace → CopyCall → Type 0
  TakesContent value place c = (mid : View) × TakesData value place c.old mid ×
      CopiesChildren (pointers_read g value) (min place.pointers value.pointer_count)
      (record c { old = mid })

  abbrev pub StopsAtContent : StructReader A g → StructPlace → CopyCall → ErrorKind → Type 0
  StopsAtContent value place c k =
      (mid : View) × TakesData value place c.old mid ×
      CopiesFirst (pointers_read g value) (min place.pointers value.pointer_count)
      (record c { old = mid }) k

  -- The pointers that both structs have can be read, and the words of what they mean fit after
  -- those of the struct's segment.
  abbrev pub ContentFits : StructReader A g → StructPlace → CopyCall → Type 0
  ContentFits value place c =
      CanBeCopied (children_original (pointers_read g value)
      (min place.pointers value.pointer_count)) c.form c.before c.old c.segment
