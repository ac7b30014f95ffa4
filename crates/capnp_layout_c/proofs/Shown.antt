-- What C sees of readers.
use Rattle.std.proofs.Common.{◌≡◌, ◌≢◌, inl, inr, ℕ, ◌+◌, ◌-◌, ◌*◌, ◌≤◌, ◌<◌, true, List, Option, Some, None, length, take, drop, refl, sym, ap, ap₂, ◌∙◌, subst, arith}
use Rattle.capnp_words.specs.Meter.{Meter, unused}
use Rattle.capnp_words.specs.Sizes.{size_number, pointers_per_element, sized}
use Rattle.capnp_words.specs.declared.wire_pointer.ElementSize.{ElementSize}
use Rattle.capnp_words.specs.declared.wire_pointer.ElementSize.TheVariants.{Void, Bit, Byte, TwoBytes, FourBytes, EightBytes, Pointer, InlineComposite}
use Rattle.capnp_words.specs.declared.wire_pointer.StructSize.{StructSize}
use Rattle.capnp_arena_traits.specs.declared.arena.reader_arena.ReaderArena.{Ghosts}
use Rattle.capnp_format.specs.Bytes.{words_of}
use Rattle.capnp_format.specs.Numbers.{element_bits, unpacked, words_for}
use Rattle.capnp_format.specs.Segments.{Segments, words_at}
use Rattle.capnp_format.specs.Tree.{Tree, Null, Capability, Struct, Flat, Pointers, Structs, element_count}
use Rattle.capnp_pointers.specs.Outcomes.{MeansThere}
use Rattle.capnp_pointers.specs.Reading.{Reading, source_start}
use Rattle.capnp_pointers.specs.Spending.{Paid}
use Rattle.capnp_pointers.proofs.Following.LeadsWhereFollowed.{entered_leads}
use Rattle.capnp_pointers.specs.Expected.{struct_expected, list_expected, Expectation}
use Rattle.capnp_readers.specs.Calls.{IsStructRead, IsListRead, AreBytesRead, WhereRead}
use Rattle.capnp_readers.specs.Readers.{read_by}
use Rattle.capnp_readers.specs.Sections.{IsPart, HasWordsFrom, bytes_for, data_bits, elements_words}
use Rattle.capnp_readers.specs.Values.{HasValue, ShowsStructOf, ShowsListOf}
use Rattle.capnp_readers.specs.declared.readers.PointerReader.{PointerReader}
use Rattle.capnp_readers.specs.declared.readers.struct_reader.StructReader.{StructReader}
use Rattle.capnp_readers.specs.declared.readers.list_reader.ListReader.{ListReader}
use Rattle.capnp_format.proofs.WordsOf.{words_of-part}
use Rattle.capnp_pointers.specs.Objects.{IsHeld}
use Rattle.capnp_pointers.specs.declared.object.Place.{Place}
use Rattle.capnp_readers.proofs.Given.{not_null}
use Rattle.capnp_readers.proofs.Sections.{flat_words}
use Rattle.capnp_layout_c.specs.Found.{IsFoundStruct, IsFoundList}
use Rattle.capnp_layout_c.specs.Lent.{words_left}
use Rattle.capnp_layout_c.specs.declared.found.FoundStruct.{FoundStruct}
use Rattle.capnp_layout_c.specs.declared.found.FoundList.{FoundList}
use Rattle.capnp_layout_c.proofs.OwnPlace.{Rest, own, own_call, paid_left}

-- nothing was granted
pub none_paid : (old : Option ℕ) (new c : ℕ) (m : Meter) → m ≡ unused old → new ≡ words_left m.left → c ≡ 0 → Rest old new c
none_paid None new c m same e none = tt
none_paid (Some old) new c m same e none =
    let left : words_left m.left ≡ old = ap (λ (x : Meter). words_left x.left) same in
    omega (arith, left, e, none)

-- the elements of a list of numbers have the bits of their size, and no pointers
flat_bits : (size : ElementSize) (sections : StructSize) (n : ℕ) → size_number size ≡ n → n ≤ 5 → (size_number size < 7 → (sections.data_words ≡ 0) × (sections.pointers ≡ 0)) →
    (data_bits size sections ≡ element_bits n) × (pointers_per_element size + sections.pointers ≡ 0)
flat_bits Void sections n e l none = (ap element_bits e, omega (arith, (none (omega arith)).1))
flat_bits Bit sections n e l none = (ap element_bits e, omega (arith, (none (omega arith)).1))
flat_bits Byte sections n e l none = (ap element_bits e, omega (arith, (none (omega arith)).1))
flat_bits TwoBytes sections n e l none = (ap element_bits e, omega (arith, (none (omega arith)).1))
flat_bits FourBytes sections n e l none = (ap element_bits e, omega (arith, (none (omega arith)).1))
flat_bits EightBytes sections n e l none = (ap element_bits e, omega (arith, (none (omega arith)).1))
flat_bits Pointer sections n e l none = absurd (omega (arith, e, l))
flat_bits InlineComposite sections n e l none = absurd (omega (arith, e, l))

-- the words of a part of a segment
held_words : (S : Segments) (start : Place) (n : ℕ) (bytes : List ℕ) → IsHeld S start → IsPart start (8 * start.at) (64 * n) bytes → HasWordsFrom S start n →
    (length bytes ≡ 8 * n) × (words_of bytes ≡ words_at S start.segment start.at n)
held_words S start n bytes held part room =
    let size : bytes_for (64 * n) ≡ 8 * n = omega arith in
    let inside : 8 * (start.at + n) ≤ length start.bytes.now = omega (arith, held.1, room) in
    (part.1 ∙ size, ap words_of part.0 ∙ words_of-part start.at n (8 * start.at) (bytes_for (64 * n)) start.bytes.now refl size inside ∙ ap (λ ws. take n (drop start.at ws)) held.0)

module _ {A : Type 0} (g : Ghosts A) where
  -- C sees this struct reader
  pub record SeesStruct (s : FoundStruct) (r : StructReader A g) : Type 0 where
    pub data_is : s.data.now ≡ r.content.now
    pub segment_is : s.segment ≡ r.pointers.segment
    pub start_is : s.pointers_at ≡ r.pointers.at
    pub pointers_are : s.pointers ≡ r.pointer_count
    pub nesting_is : s.nesting ≡ r.nesting_limit

  -- C sees this list reader
  pub record SeesList (l : FoundList) (r : ListReader A g) : Type 0 where
    pub data_is : l.data.now ≡ r.content.now
    pub segment_is : l.segment ≡ r.start.segment
    pub start_is : l.at ≡ r.start.at
    pub counts : l.count ≡ r.count
    pub bits_are : l.data_bits ≡ data_bits r.element_size r.struct_size
    pub pointers_are : l.pointers ≡ pointers_per_element r.element_size + r.struct_size.pointers
    pub nesting_is : l.nesting ≡ r.nesting_limit

  pub struct_found : (S : Segments) (s : FoundStruct) (p : PointerReader A g) (r : StructReader A g) (t : Tree) (c : ℕ) (old : Option ℕ) (new : ℕ) (m : Meter) →
      (read_by g p).segments ≡ S → (read_by g p).charging ≡ true → SeesStruct s r → IsStructRead g p (unused old) m r → MeansThere (read_by g p) t c → (shows : ShowsStructOf g r t) →
      (t ≢ Null → Paid (read_by g p).charging (unused old) m (c - shows.cost) 1) → new ≡ words_left m.left →
      (k : ℕ) × IsFoundStruct S s t k × Rest old new (c - k)
  struct_found S s p r Null c old new m here charging sees (inl read) means shows paid e = (
    0,
    record {
      is_struct = tt;
      size_is = omega (arith, ap length sees.data_is, r.content_is.1, shows.bits_are);
      words_are = ap words_of sees.data_is ∙ shows.words_are;
      pointers_are = sees.pointers_are ∙ shows.pointers_are;
      children_are = refl;
    },
    none_paid old new (c - 0) m read.1 e (omega (arith, means.1)),
  )
  struct_found S s p r Null c old new m here charging sees (inr read) means shows paid e = absurd ((entered_leads read.1).0 means.0)
  struct_found S s p r (Struct ws ts) c old new m here charging sees (inl read) means shows paid e = absurd (not_null (read_by g p) (Struct ws ts) c means (λ x. cc x) read.0)
  struct_found S s p r (Struct ws ts) c old new m here charging sees (inr read) means shows paid e =
      let same : (source_start g r.source).segments ≡ S = ap (λ x. (source_start g x).segments) read.4 ∙ here in (
        shows.cost,
        record {
          is_struct = tt;
          size_is = omega (arith, ap length sees.data_is, r.content_is.1, shows.bits_are);
          words_are = ap words_of sees.data_is ∙ shows.words_are;
          pointers_are = sees.pointers_are ∙ shows.pointers_are;
          children_are = rw (sees.segment_is, sees.start_is, sees.nesting_is, ← same) shows.children_are;
        },
        paid_left old new (c - shows.cost) (read_by g p).charging m charging (paid (λ x. cc x)) e,
      )
  struct_found S s p r (Capability i) c old new m here charging sees read means shows paid e = absurd shows.is_struct
  struct_found S s p r (Flat size ns) c old new m here charging sees read means shows paid e = absurd shows.is_struct
  struct_found S s p r (Pointers ts) c old new m here charging sees read means shows paid e = absurd shows.is_struct
  struct_found S s p r (Structs d q es) c old new m here charging sees read means shows paid e = absurd shows.is_struct

  pub list_found : (S : Segments) (size : ElementSize) (l : FoundList) (p : PointerReader A g) (r : ListReader A g) (t : Tree) (c : ℕ) (old : Option ℕ) (new : ℕ) (m : Meter) →
      (read_by g p).segments ≡ S → (read_by g p).charging ≡ true → SeesList l r → IsListRead g size p (unused old) m r → MeansThere (read_by g p) t c → (shows : ShowsListOf g r t) →
      (t ≢ Null → Paid (read_by g p).charging (unused old) m (c - shows.cost) 1) → new ≡ words_left m.left →
      (k : ℕ) × IsFoundList S l t k × Rest old new (c - k)
  list_found S size l p r Null c old new m here charging sees (inl read) means shows paid e = (0, (sees.counts ∙ shows.shown.0, refl), none_paid old new (c - 0) m read.1 e (omega (arith, means.1)))
  list_found S size l p r Null c old new m here charging sees (inr read) means shows paid e = absurd ((entered_leads read.0.1).0 means.0)
  list_found S size l p r (Capability i) c old new m here charging sees read means shows paid e = absurd shows.shown
  list_found S size l p r (Struct ws ts) c old new m here charging sees read means shows paid e = absurd shows.shown
  list_found S size l p r (Flat n ns) c old new m here charging sees read means shows paid e =
      let flat = flat_bits r.element_size r.struct_size n shows.shown.0 shows.shown.4 r.sized in
      let numbers : ns ≡ unpacked n (length ns) (words_of l.data.now) = shows.shown.2 ∙ ap (λ bs. unpacked n (length ns) (words_of bs)) (sym sees.data_is) in
      let width = r.struct_size.data_words + r.struct_size.pointers in
      let words : elements_words r.element_size r.count width ≡ words_for n (length ns) = flat_words r.element_size r.count width (omega (arith, shows.shown.0, shows.shown.4)) ∙ ap₂ words_for shows.shown.0 shows.shown.1 in
      let long : length l.data.now ≡ 8 * words_for n (length ns) = omega (arith, ap length sees.data_is, r.content_is.1, words) in
      (shows.cost, (sees.bits_are ∙ flat.0, sees.pointers_are ∙ flat.1, sees.counts ∙ shows.shown.1, numbers, shows.shown.3, long), paid_left old new (c - shows.cost) (read_by g p).charging m charging (paid (λ x. cc x)) e)
  list_found S size l p r (Pointers ts) c old new m here charging sees (inl read) means shows paid e = absurd (not_null (read_by g p) (Pointers ts) c means (λ x. cc x) read.0)
  list_found S size l p r (Pointers ts) c old new m here charging sees (inr read) means shows paid e =
      let same : (source_start g r.source).segments ≡ S = ap (λ x. (source_start g x).segments) read.0.4 ∙ here in
      let size_is : r.element_size ≡ Pointer = shows.shown.0 in
      let none : r.struct_size.pointers ≡ 0 = (r.sized (rw size_is (omega arith))).1 in
      let bits : l.data_bits ≡ 0 = sees.bits_are ∙ ap (λ x. data_bits x r.struct_size) size_is in
      let one : l.pointers ≡ 1 = sees.pointers_are ∙ ap (λ x. pointers_per_element x + r.struct_size.pointers) size_is ∙ ap (λ n. 1 + n) none in
      (shows.cost, (bits, one, sees.counts ∙ shows.shown.1, rw (sees.segment_is, sees.start_is, sees.nesting_is, ← same) shows.shown.2), paid_left old new (c - shows.cost) (read_by g p).charging m charging (paid (λ x. cc x)) e)
  list_found S size l p r (Structs d q es) c old new m here charging sees (inl read) means shows paid e = absurd (not_null (read_by g p) (Structs d q es) c means (λ x. cc x) read.0)
  list_found S size l p r (Structs d q es) c old new m here charging sees (inr read) means shows paid e =
      let same : (source_start g r.source).segments ≡ S = ap (λ x. (source_start g x).segments) read.0.4 ∙ here in
      let size_is : r.element_size ≡ InlineComposite = shows.shown.0 in
      let sections : r.struct_size ≡ sized d q = shows.shown.1 in
      let bits : l.data_bits ≡ 64 * d = sees.bits_are ∙ ap₂ (λ x y. data_bits x y) size_is sections in
      let many : l.pointers ≡ q = sees.pointers_are ∙ ap₂ (λ x (y : StructSize). pointers_per_element x + y.pointers) size_is sections ∙ (let z : 0 + q ≡ q = omega arith in z) in
      let n : ℕ = elements_words r.element_size r.count (r.struct_size.data_words + r.struct_size.pointers) in
      let words : n ≡ element_count es * (d + q) = rw (size_is, sections, shows.shown.2) refl in
      let held = held_words (source_start g r.source).segments r.start n r.content.now r.held r.content_is r.inside in
      let long : length l.data.now ≡ 8 * (element_count es * (d + q)) = omega (arith, ap length sees.data_is, held.0, words) in
      let stand : words_of l.data.now ≡ words_at S l.segment l.at (element_count es * (d + q)) =
      ap words_of sees.data_is ∙ held.1 ∙ ap (λ (T : Segments). words_at T r.start.segment r.start.at n) same
      ∙ ap₂ (λ u v. words_at S u v n) (sym sees.segment_is) (sym sees.start_is) ∙ ap (words_at S l.segment l.at) words in
      (shows.cost, (bits, many, sees.counts ∙ shows.shown.2, rw (sees.segment_is, sees.start_is, sees.nesting_is, ← same) shows.shown.3, long, stand), paid_left old new (c - shows.cost) (read_by g p).charging m charging (paid (λ x. cc x)) e)

  -- What a call that found a struct answers.
  pub struct_answer : (x : Reading) (s : FoundStruct) (from : PointerReader A g) (r : StructReader A g) (t : Tree) (c : ℕ) (old : Option ℕ) (new : ℕ) (n m : Meter) →
      read_by g from ≡ x → x.charging ≡ true → n ≡ unused old → SeesStruct s r →
      WhereRead g (own_call g from struct_expected) (λ p. IsStructRead g p n m r) →
      ((t : Tree) → HasValue (read_by g from) t → ShowsStructOf g r t) →
      ((t : Tree) (c : ℕ) → t ≢ Null → MeansThere (read_by g from) t c → (shows : ShowsStructOf g r t) → Paid (read_by g from).charging n m (c - shows.cost) 1) →
      new ≡ words_left m.left → MeansThere x t c → (k : ℕ) × IsFoundStruct x.segments s t k × Rest old new (c - k)
  struct_answer x s from r t c old new n m place charging same sees (p, is, read) value spent e means =
      let there : MeansThere (read_by g from) t c = subst (λ y. MeansThere y t c) (sym place) means in
      let shows : ShowsStructOf g r t = value t (record { cost = c; means = there }) in
      let here : IsStructRead g from (unused old) m r = subst (λ q. IsStructRead g q (unused old) m r) (own g is) (subst (λ i. IsStructRead g p i m r) same read) in
      struct_found x.segments s from r t c old new m (ap (λ (y : Reading). y.segments) place) (ap (λ (y : Reading). y.charging) place ∙ charging) sees here there shows
      (λ some. subst (λ i. Paid (read_by g from).charging i m (c - shows.cost) 1) same (spent t c some there shows)) e

  -- What a call that found a list answers.
  pub list_answer : (x : Reading) (size : ElementSize) (l : FoundList) (from : PointerReader A g) (r : ListReader A g) (t : Tree) (c : ℕ) (old : Option ℕ) (new : ℕ) (n m : Meter) →
      read_by g from ≡ x → x.charging ≡ true → n ≡ unused old → SeesList l r →
      WhereRead g (own_call g from (list_expected size)) (λ p. IsListRead g size p n m r) →
      ((t : Tree) → HasValue (read_by g from) t → ShowsListOf g r t) →
      ((t : Tree) (c : ℕ) → t ≢ Null → MeansThere (read_by g from) t c → (shows : ShowsListOf g r t) → Paid (read_by g from).charging n m (c - shows.cost) 1) →
      new ≡ words_left m.left → MeansThere x t c → (k : ℕ) × IsFoundList x.segments l t k × Rest old new (c - k)
  list_answer x size l from r t c old new n m place charging same sees (p, is, read) value spent e means =
      let there : MeansThere (read_by g from) t c = subst (λ y. MeansThere y t c) (sym place) means in
      let shows : ShowsListOf g r t = value t (record { cost = c; means = there }) in
      let here : IsListRead g size from (unused old) m r = subst (λ q. IsListRead g size q (unused old) m r) (own g is) (subst (λ i. IsListRead g size p i m r) same read) in
      list_found x.segments size l from r t c old new m (ap (λ (y : Reading). y.segments) place) (ap (λ (y : Reading). y.charging) place ∙ charging) sees here there shows
      (λ some. subst (λ i. Paid (read_by g from).charging i m (c - shows.cost) 1) same (spent t c some there shows)) e

  -- What a call that found bytes spends.
  pub bytes_left : (x : Reading) (expected : Expectation) (but : ℕ) (bytes : List ℕ) (from : PointerReader A g) (t : Tree) (c : ℕ) (old : Option ℕ) (new : ℕ) (n m : Meter) →
      read_by g from ≡ x → x.charging ≡ true → n ≡ unused old →
      WhereRead g (own_call g from expected) (λ p. AreBytesRead g but p n m bytes) →
      ((t : Tree) (c : ℕ) → t ≢ Null → MeansThere (read_by g from) t c → Paid (read_by g from).charging n m c 1) →
      new ≡ words_left m.left → MeansThere x t c → Rest old new c
  bytes_left x expected but bytes from t c old new n m place charging same (p, is, read) spent e means =
      let there : MeansThere (read_by g from) t c = subst (λ y. MeansThere y t c) (sym place) means in
      let here : AreBytesRead g but from n m bytes = subst (λ q. AreBytesRead g but q n m bytes) (own g is) read in
      go t there here (λ some. subst (λ i. Paid (read_by g from).charging i m c 1) same (spent t c some there))
    where
      go : (t : Tree) → MeansThere (read_by g from) t c → AreBytesRead g but from n m bytes → (t ≢ Null → Paid (read_by g from).charging (unused old) m c 1) → Rest old new c
      go Null there (inl null) paid = none_paid old new c m (null.1 ∙ same) e there.1
      go Null there (inr some) paid = absurd ((entered_leads some.1).0 there.0)
      go (Capability i) there read paid = paid_left old new c (read_by g from).charging m (ap (λ (y : Reading). y.charging) place ∙ charging) (paid (λ z. cc z)) e
      go (Struct ws ts) there read paid = paid_left old new c (read_by g from).charging m (ap (λ (y : Reading). y.charging) place ∙ charging) (paid (λ z. cc z)) e
      go (Flat size ns) there read paid = paid_left old new c (read_by g from).charging m (ap (λ (y : Reading). y.charging) place ∙ charging) (paid (λ z. cc z)) e
      go (Pointers ts) there read paid = paid_left old new c (read_by g from).charging m (ap (λ (y : Reading). y.charging) place ∙ charging) (paid (λ z. cc z)) e
      go (Structs d q es) there read paid = paid_left old new c (read_by g from).charging m (ap (λ (y : Reading). y.charging) place ∙ charging) (paid (λ z. cc z)) e
