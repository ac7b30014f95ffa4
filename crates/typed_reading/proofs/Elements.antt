-- Elements of lists: which hold pointers, and what they are as elements of an expected size.
use Rattle.std.proofs.Common.{◌≡◌, ◌≢◌, ℕ, ◌<◌, refl, arith}
use Rattle.capnp_words.specs.Sizes.{size_number}
use Rattle.capnp_words.specs.declared.wire_pointer.ElementSize.{ElementSize}
use Rattle.capnp_words.specs.declared.wire_pointer.ElementSize.TheVariants.{Void, Bit, Byte, TwoBytes, FourBytes, EightBytes, Pointer, InlineComposite}
use Rattle.capnp_words.specs.declared.wire_pointer.StructSize.{StructSize}
use Rattle.capnp_arena_traits.specs.declared.arena.reader_arena.ReaderArena.{Ghosts}
use Rattle.capnp_readers.specs.Sections.{HoldsPointer}
use Rattle.capnp_readers.specs.Values.{FitsElements}
use Rattle.capnp_readers.specs.declared.readers.list_reader.ListReader.{ListReader}

-- there is an element if there is element i
some_element : (i n : ℕ) → i < n → 0 < n
some_element i n h = omega arith

-- elements that are pointers, or structs with pointers, hold a pointer
holds : (size : ElementSize) (sections : StructSize) → (size_number size < 7 → (sections.data_words ≡ 0) × (sections.pointers ≡ 0)) → (size_number size ≢ 6 → 0 < sections.pointers) → HoldsPointer size sections
holds Pointer sections none some = tt
holds InlineComposite sections none some = some (λ e. omega (arith, e))
holds Void sections none some = absurd (omega (arith, some (λ e. omega (arith, e)), (none (omega arith)).1))
holds Bit sections none some = absurd (omega (arith, some (λ e. omega (arith, e)), (none (omega arith)).1))
holds Byte sections none some = absurd (omega (arith, some (λ e. omega (arith, e)), (none (omega arith)).1))
holds TwoBytes sections none some = absurd (omega (arith, some (λ e. omega (arith, e)), (none (omega arith)).1))
holds FourBytes sections none some = absurd (omega (arith, some (λ e. omega (arith, e)), (none (omega arith)).1))
holds EightBytes sections none some = absurd (omega (arith, some (λ e. omega (arith, e)), (none (omega arith)).1))

-- so does element i of a list of them
pub element_holds : (size : ElementSize) (sections : StructSize) (i n : ℕ) → (size_number size < 7 → (sections.data_words ≡ 0) × (sections.pointers ≡ 0)) → (0 < n → size_number size ≢ 6 → 0 < sections.pointers) → i < n → HoldsPointer size sections
element_holds size sections i n none some h = holds size sections none (some (some_element i n h))

-- elements that hold a pointer are pointers, or structs with pointers
held : (size : ElementSize) (sections : StructSize) → HoldsPointer size sections → size_number size ≢ 6 → 0 < sections.pointers
held Pointer sections h other = absurd (other refl)
held InlineComposite sections h other = h
held Void sections h other = absurd h
held Bit sections h other = absurd h
held Byte sections h other = absurd h
held TwoBytes sections h other = absurd h
held FourBytes sections h other = absurd h
held EightBytes sections h other = absurd h

module _ {A : Type 0} (g : Ghosts A) where
  -- elements that can be read as structs, or as pointers, aren't bits
  pub structs_whole : (list : ListReader A g) → FitsElements g InlineComposite list → size_number list.element_size ≢ 1
  structs_whole list fits one = omega (arith, fits.whole one)

  pub pointers_whole : (list : ListReader A g) → FitsElements g Pointer list → size_number list.element_size ≢ 1
  pointers_whole list fits one = omega (arith, fits.whole one)

  -- elements that can be read as pointers are pointers, or structs with pointers
  pub pointers_held : (list : ListReader A g) → FitsElements g Pointer list → 0 < list.count → size_number list.element_size ≢ 6 → 0 < list.struct_size.pointers
  pointers_held list fits some = held list.element_size list.struct_size (fits.pointers some refl)
