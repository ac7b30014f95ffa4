-- What C sees of a reader is inside of the message.
use Rattle.std.proofs.Common.{◌≡◌, inl, inr, ℕ, ◌+◌, ◌*◌, ◌≤◌, ◌<◌, length, ap, ◌∙◌, subst, arith}
use Rattle.capnp_words.specs.Meter.{Meter}
use Rattle.capnp_words.specs.Sizes.{size_number, pointers_per_element}
use Rattle.capnp_words.specs.declared.wire_pointer.ElementSize.{ElementSize}
use Rattle.capnp_words.specs.declared.wire_pointer.ElementSize.TheVariants.{Void, Bit, Byte, TwoBytes, FourBytes, EightBytes, Pointer, InlineComposite}
use Rattle.capnp_words.specs.declared.wire_pointer.StructSize.{StructSize}
use Rattle.capnp_arena_traits.specs.declared.arena.reader_arena.ReaderArena.{Ghosts}
use Rattle.capnp_format.specs.Segments.{Segments, segment}
use Rattle.capnp_pointers.specs.Expected.{struct_expected, list_expected}
use Rattle.capnp_pointers.specs.Reading.{source_start}
use Rattle.capnp_readers.specs.Calls.{IsStructRead, IsListRead, WhereRead}
use Rattle.capnp_readers.specs.Readers.{read_by}
use Rattle.capnp_readers.specs.Sections.{data_bits, elements_words}
use Rattle.capnp_readers.specs.declared.readers.PointerReader.{PointerReader}
use Rattle.capnp_readers.specs.declared.readers.struct_reader.StructReader.{StructReader}
use Rattle.capnp_readers.specs.declared.readers.list_reader.ListReader.{ListReader}
use Rattle.capnp_layout_c.specs.Found.{HasPointersInside, HasElementsInside}
use Rattle.capnp_layout_c.specs.declared.found.FoundStruct.{FoundStruct}
use Rattle.capnp_layout_c.specs.declared.found.FoundList.{FoundList}
use Rattle.capnp_layout_c.proofs.OwnPlace.{own, own_call}
use Rattle.capnp_layout_c.proofs.Shown.{SeesStruct, SeesList}

-- the elements of a list take at most its words
elements_fit : (size : ElementSize) (sections : StructSize) (n : ℕ) → (size_number size < 7 → (sections.data_words ≡ 0) × (sections.pointers ≡ 0)) →
    n * (data_bits size sections + 64 * (pointers_per_element size + sections.pointers)) ≤ 64 * elements_words size n (sections.data_words + sections.pointers)
elements_fit Void sections n none = let e : sections.pointers ≡ 0 = (none (omega arith)).1 in rw e (omega arith)
elements_fit Bit sections n none = let e : sections.pointers ≡ 0 = (none (omega arith)).1 in rw e (omega arith)
elements_fit Byte sections n none = let e : sections.pointers ≡ 0 = (none (omega arith)).1 in rw e (omega arith)
elements_fit TwoBytes sections n none = let e : sections.pointers ≡ 0 = (none (omega arith)).1 in rw e (omega arith)
elements_fit FourBytes sections n none = let e : sections.pointers ≡ 0 = (none (omega arith)).1 in rw e (omega arith)
elements_fit EightBytes sections n none = let e : sections.pointers ≡ 0 = (none (omega arith)).1 in rw e (omega arith)
elements_fit Pointer sections n none = let e : sections.pointers ≡ 0 = (none (omega arith)).1 in rw e (omega arith)
elements_fit InlineComposite sections n none = omega arith

module _ {A : Type 0} (g : Ghosts A) where
  pub struct_inside : (S : Segments) (s : FoundStruct) (from : PointerReader A g) (r : StructReader A g) (n m : Meter) →
      (read_by g from).segments ≡ S → SeesStruct g s r → WhereRead g (own_call g from struct_expected) (λ p. IsStructRead g p n m r) → HasPointersInside S s
  struct_inside S s from r n m here sees (p, is, read) = go (subst (λ q. IsStructRead g q n m r) (own g is) read)
    where
      go : IsStructRead g from n m r → HasPointersInside S s
      go (inl null) = λ some. absurd (omega (arith, some, sees.pointers_are, null.4))
      go (inr there) = λ some.
          let same : (source_start g r.source).segments ≡ S = ap (λ x. (source_start g x).segments) there.4 ∙ here in
          let inside : r.pointers.at + r.pointer_count ≤ length (segment S r.pointers.segment) = subst (λ (T : Segments). r.pointers.at + r.pointer_count ≤ length (segment T r.pointers.segment)) same r.inside in
          let long : length (segment S s.segment) ≡ length (segment S r.pointers.segment) = ap (λ k. length (segment S k)) sees.segment_is in
          omega (arith, inside, long, sees.start_is, sees.pointers_are)

  pub list_inside : (S : Segments) (size : ElementSize) (l : FoundList) (from : PointerReader A g) (r : ListReader A g) (n m : Meter) →
      (read_by g from).segments ≡ S → SeesList g l r → WhereRead g (own_call g from (list_expected size)) (λ p. IsListRead g size p n m r) → HasElementsInside S l
  list_inside S size l from r n m here sees (p, is, read) = record {
    data_inside = omega (arith, fits, ap length sees.data_is, r.content_is.1);
    pointers_inside = go (subst (λ q. IsListRead g size q n m r) (own g is) read);
  }
    where
      fits : l.count * (l.data_bits + 64 * l.pointers) ≤ 64 * elements_words r.element_size r.count (r.struct_size.data_words + r.struct_size.pointers)
      fits = rw (sees.counts, sees.bits_are, sees.pointers_are) (elements_fit r.element_size r.struct_size r.count r.sized)

      go : IsListRead g size from n m r → 0 < l.pointers → 64 * l.at + l.count * (l.data_bits + 64 * l.pointers) ≤ 64 * length (segment S l.segment)
      go (inl null) some =
          let void : r.element_size ≡ Void = null.3 in
          let none : r.struct_size.pointers ≡ 0 = (r.sized (rw void (omega arith))).1 in
          let no : pointers_per_element r.element_size ≡ 0 = ap pointers_per_element void in
          absurd (omega (arith, some, sees.pointers_are, none, no))
      go (inr there) some =
          let same : (source_start g r.source).segments ≡ S = ap (λ x. (source_start g x).segments) there.0.4 ∙ here in
          let width = r.struct_size.data_words + r.struct_size.pointers in
          let inside : r.start.at + elements_words r.element_size r.count width ≤ length (segment S r.start.segment) = subst (λ (T : Segments). r.start.at + elements_words r.element_size r.count width ≤ length (segment T r.start.segment)) same r.inside in
          let long : length (segment S l.segment) ≡ length (segment S r.start.segment) = ap (λ k. length (segment S k)) sees.segment_is in
          omega (arith, fits, inside, long, sees.start_is)
