-- Where the elements of a list are among its bits.
use Rattle.std.proofs.Common.{◌≡◌, ℕ, ◌+◌, ◌*◌, ◌/◌, ◌<◌, ◌≤◌, length, refl, arith}
use Rattle.capnp_words.specs.declared.wire_pointer.ElementSize.{ElementSize}
use Rattle.capnp_words.specs.declared.wire_pointer.ElementSize.TheVariants.{Void, Bit, Byte, TwoBytes, FourBytes, EightBytes, Pointer, InlineComposite}
use Rattle.capnp_words.specs.declared.wire_pointer.StructSize.{StructSize}
use Rattle.capnp_arena_traits.specs.declared.arena.reader_arena.ReaderArena.{Ghosts}
use Rattle.capnp_readers.specs.Sections.{elements_words, step_bits, data_bits}
use Rattle.capnp_readers.specs.declared.readers.list_reader.ListReader.{ListReader}
use Rattle.capnp_readers.proofs.Sections.{words_within}

-- the data of an element is among the bits of all elements
pub data_among : (size : ElementSize) (sections : StructSize) (n i : ℕ) → i < n → i * step_bits size sections + data_bits size sections ≤ 64 * elements_words size n (sections.data_words + sections.pointers)
data_among InlineComposite sections n i l = omega (arith, words_within (sections.data_words + sections.pointers) n i l)
data_among Pointer sections n i l = omega arith
data_among Void sections n i l = omega arith
data_among Bit sections n i l = omega arith
data_among Byte sections n i l = omega arith
data_among TwoBytes sections n i l = omega arith
data_among FourBytes sections n i l = omega arith
data_among EightBytes sections n i l = omega arith

-- elements that have a byte of data start at whole bytes
pub whole_step : (size : ElementSize) (sections : StructSize) → 8 ≤ data_bits size sections → step_bits size sections ≡ 8 * (step_bits size sections / 8)
whole_step InlineComposite sections h = omega arith
whole_step Pointer sections h = refl
whole_step Void sections h = refl
whole_step Bit sections h = absurd (omega arith)
whole_step Byte sections h = refl
whole_step TwoBytes sections h = refl
whole_step FourBytes sections h = refl
whole_step EightBytes sections h = refl

module _ {A : Type 0} (g : Ghosts A) where
  -- the data of an element is inside the words of its list
  pub data_within : (list : ListReader A g) (i : ℕ) → i < list.count → i * step_bits list.element_size list.struct_size + data_bits list.element_size list.struct_size ≤ 8 * length list.content.now
  data_within list i l = omega (arith, data_among list.element_size list.struct_size list.count i l, list.content_is.1)

  -- the lowest bit of an element, which is found by the step, is inside the words of its list
  pub bit_within : (list : ListReader A g) {i step : ℕ} → i < list.count → 1 ≤ data_bits list.element_size list.struct_size → step ≡ step_bits list.element_size list.struct_size → i * step / 8 < length list.content.now
  bit_within list {i} l some e = rw e (omega (arith, data_within list i l))

  -- a number of n bytes, which is found by the step in whole bytes, is inside the words of its list
  pub number_within : (list : ListReader A g) {i n step : ℕ} → i < list.count → 0 < n → 8 * n ≤ data_bits list.element_size list.struct_size → step ≡ step_bits list.element_size list.struct_size →
      (i * (step / 8) + n ≤ length list.content.now) × (i * step_bits list.element_size list.struct_size / 8 ≡ i * (step / 8))
  number_within list {i} {n} l some wide e =
      let b = step_bits list.element_size list.struct_size / 8 in
      let whole : step_bits list.element_size list.struct_size ≡ 8 * b = whole_step list.element_size list.struct_size (omega arith) in
      let starts : i * step_bits list.element_size list.struct_size ≡ 8 * (i * b) = rw whole (grind arith) in
      rw e (omega (arith, starts, data_within list i l), omega (arith, starts))
