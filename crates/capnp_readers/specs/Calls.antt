-- What the calls of a pointer reader return that expect an object of some kind, and where they
-- read: at the pointer's own place, or at a default's.
use Rattle.std.specs.Prelude.{◌≡◌, ◌≢◌, ◌⊎◌, ℕ, pos, ◌-◌, ◌<◌, ◌≤◌, ◌^◌, List, [], take, length}
use Rattle.std.specs.Prelude.{Option, Some, None, Result, Ok, Err}
use Rattle.std.specs.Borrow.{Bor}
use Rattle.capnp_words.specs.declared.error.ErrorKind.{ErrorKind}
use Rattle.capnp_words.specs.declared.error.ErrorKind.TheVariants.{MessageContainsOutOfBoundsPointer}
use Rattle.capnp_words.specs.Meter.{Meter}
use Rattle.capnp_format.specs.Numbers.{words_for, element_bits, unpacked}
use Rattle.capnp_words.specs.Sizes.{size_number}
use Rattle.capnp_format.specs.Segments.{Target, word_at, words_at}
use Rattle.capnp_format.specs.Word.{kind, element_size, list_count}
use Rattle.capnp_words.specs.declared.wire_pointer.ElementSize.{ElementSize}
use Rattle.capnp_words.specs.declared.wire_pointer.ElementSize.TheVariants.{Void}
use Rattle.capnp_arena_traits.specs.declared.arena.reader_arena.ReaderArena.{Ghosts}
use Rattle.capnp_pointers.specs.declared.source.Source.TheVariants.{Default, Nothing}
use Rattle.capnp_pointers.specs.Expected.{Expectation, RefusesExpected}
use Rattle.capnp_pointers.specs.Outcomes.{Entered}
use Rattle.capnp_pointers.specs.Reading.{word_of}
use Rattle.capnp_pointers.specs.Source.{default_segment, default_segments}
use Rattle.capnp_pointers.specs.declared.object.Purpose.TheVariants.{Value}
use Rattle.capnp_readers.specs.Readers.{read_by, IsStructThere, IsListThere}
use Rattle.capnp_readers.specs.Sections.{HoldsPointer, data_bits}
use Rattle.capnp_readers.specs.declared.readers.PointerReader.{PointerReader}
use Rattle.capnp_readers.specs.declared.readers.struct_reader.StructReader.{StructReader}
use Rattle.capnp_readers.specs.declared.readers.list_reader.ListReader.{ListReader}

module _ {A : Type 0} (g : Ghosts A) where
  -- A call on a pointer: what it expects there, and the default that it gets.
  pub record Call : Type 0 where
    pub from : PointerReader A g
    pub expected : Expectation
    pub default : Option (Bor (List ℕ))

  -- The pointer x that a call reads. It is the call's own, if that isn't null or there is no
  -- default; otherwise the one in the default's first word, within as many levels. Or x is the
  -- error that there is none: the default has no whole word, or its pointer is null where it must
  -- not be.
  pub data IsRead (c : Call) (x : Result (PointerReader A g) ErrorKind) : Type 0 where
    of_pointer : (c.default ≡ None) ⊎ (word_of (read_by g c.from) ≢ 0) → x ≡ Ok c.from → IsRead c x
    of_default :
        {bytes : Bor (List ℕ)} {p : PointerReader A g} →
        word_of (read_by g c.from) ≡ 0 →
        c.default ≡ Some bytes →
        8 ≤ length bytes.now →
        p.source ≡ Default bytes →
        p.place.segment ≡ default_segment →
        p.place.at ≡ 0 →
        p.nesting_limit ≡ c.from.nesting_limit →
        (c.expected.null_default ≡ None) ⊎ (word_of (read_by g p) ≢ 0) →
        x ≡ Ok p →
        IsRead c x
    short_default :
        {bytes : Bor (List ℕ)} → word_of (read_by g c.from) ≡ 0 → c.default ≡ Some bytes →
        length bytes.now < 8 → x ≡ Err MessageContainsOutOfBoundsPointer → IsRead c x
    of_null_default :
        {bytes : Bor (List ℕ)} {k : ErrorKind} →
        word_of (read_by g c.from) ≡ 0 →
        c.default ≡ Some bytes →
        8 ≤ length bytes.now →
        word_at (default_segments bytes.now) default_segment 0 ≡ 0 →
        c.expected.null_default ≡ Some k →
        x ≡ Err k →
        IsRead c x

  -- P holds for the pointer that a call reads.
  abbrev pub WhereRead : Call → (PointerReader A g → Type 0) → Type 0
  WhereRead c P = (p : PointerReader A g) × IsRead c (Ok p) × P p

  -- A call is refused with k, and takes the limiter from m to m': there is no pointer to read, and
  -- nothing is counted or charged; or what the call expects is withheld there.
  abbrev pub IsRefused : Call → Meter → Meter → ErrorKind → Type 0
  IsRefused c m m' k =
      (IsRead c (Err k) × (m' ≡ m))
      ⊎ WhereRead c (λ p. RefusesExpected c.expected (read_by g p) m m' k)

  -- The pointer p leads to the struct r, whose words are checked, and charged from m to m'. If p is
  -- null, r is the struct from nothing.
  abbrev pub IsStructRead : PointerReader A g → Meter → Meter → StructReader A g → Type 0
  IsStructRead p m m' r =
      ((word_of (read_by g p) ≡ 0) × (m' ≡ m) × (r.source ≡ Nothing) × (r.bits ≡ 0) ×
      (r.pointer_count ≡ 0) × (r.nesting_limit ≡ pos (2 ^ 31 - 1)))
      ⊎ IsStructThere g p m m' r

  -- The pointer p leads to the list r, whose words are checked, and charged from m to m'. Its
  -- elements fit the expected size: they have at least its bits of data, and a pointer if it is
  -- one, and are bits only if bits are expected. If p is null, r is the list from nothing.
  abbrev pub IsListRead : ElementSize → PointerReader A g → Meter → Meter → ListReader A g → Type 0
  IsListRead expected p m m' r =
      ((word_of (read_by g p) ≡ 0) × (m' ≡ m) × (r.source ≡ Nothing) × (r.element_size ≡ Void) ×
      (r.count ≡ 0) × (r.nesting_limit ≡ pos (2 ^ 31 - 1)))
      ⊎ (IsListThere g p m m' r ×
      ((element_bits (size_number expected) ≤ data_bits r.element_size r.struct_size) ×
      (size_number expected ≡ 6 → HoldsPointer r.element_size r.struct_size) ×
      (size_number r.element_size ≡ 1 → size_number expected ≡ 1)))

  -- The bytes that p leads to, in place, without the last `but` of them: the elements of a list of
  -- bytes. There are none if p is null. They are charged from m to m'.
  abbrev pub AreBytesRead : ℕ → PointerReader A g → Meter → Meter → List ℕ → Type 0
  AreBytesRead but p m m' bytes =
      ((word_of (read_by g p) ≡ 0) × (m' ≡ m) × (bytes ≡ []))
      ⊎ ((a : Target) × Entered Value (record (read_by g p) { levels = 1 }) m m' a
      × (kind a.word ≡ 1) × (element_size a.word ≡ 2)
      × (bytes ≡ take (list_count a.word - but) (unpacked 2 (list_count a.word)
      (words_at (read_by g p).segments a.segment a.start (words_for 2 (list_count a.word))))))
