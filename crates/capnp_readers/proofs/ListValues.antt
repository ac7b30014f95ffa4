-- The lists that readers show, and their elements.
use Rattle.std.proofs.Common.{◌≡◌, inl, inr, ℕ, zero, suc, pred, ◌+◌, ◌*◌, ◌<◌, ◌≤◌, List, [], length, refl, sym, ap, ap₂, ◌∙◌, subst, arith}
use lib.IntN.{pos, ◌-ℤ◌}
use Rattle.capnp_words.specs.Meter.{Meter}
use Rattle.capnp_words.specs.Sizes.{size_number, sized}
use Rattle.capnp_words.specs.declared.wire_pointer.ElementSize.{ElementSize}
use Rattle.capnp_words.specs.declared.wire_pointer.ElementSize.TheVariants.{Void, Bit, Byte, TwoBytes, FourBytes, EightBytes, Pointer, InlineComposite}
use Rattle.capnp_words.specs.declared.wire_pointer.StructSize.{StructSize}
use Rattle.capnp_arena_traits.specs.declared.arena.reader_arena.ReaderArena.{Ghosts}
use Rattle.capnp_format.specs.Bytes.{words_of}
use Rattle.capnp_format.specs.Means.{MeansAll, MeansElements, ListAt}
use Rattle.capnp_format.specs.Numbers.{unpacked, words_for}
use Rattle.capnp_format.specs.Segments.{Segments, Target, words_at, HasWords}
use Rattle.capnp_format.specs.Tree.{Tree, Null, Capability, Struct, Flat, Pointers, Structs, Trees, no_trees, tree, Elements, no_elements, element, count, element_count}
use Rattle.capnp_format.specs.Word.{kind, element_size, offset_bits, list_count}
use Rattle.capnp_format.specs.Path.{tree_at, struct_at, next, Child}
use Rattle.capnp_format.proofs.Children.{means_child, means_element_child}
use Rattle.capnp_pointers.specs.Demands.{tag}
use Rattle.capnp_pointers.specs.Faults.{LeadsTo, child_at}
use Rattle.capnp_pointers.specs.Outcomes.{MeansThere}
use Rattle.capnp_pointers.specs.Reading.{Reading, place_past, tag_size}
use Rattle.capnp_pointers.specs.Rows.{rows_sized}
use Rattle.capnp_pointers.specs.Source.{levels}
use Rattle.capnp_pointers.proofs.Following.FaultlessWhereMeant.{same_target}
use Rattle.capnp_pointers.proofs.Following.LeadsWhereFollowed.{entered_leads}
use Rattle.capnp_pointers.proofs.WholeValue.Shorthands.{MeanThere}
use Rattle.capnp_readers.specs.Calls.{Call, WhereRead, IsListRead}
use Rattle.capnp_readers.specs.Readers.{read_by, IsTargetList, ShowsList, ShowsElement}
use Rattle.capnp_readers.specs.Sections.{HoldsPointer, pointers_offset, elements_words}
use Rattle.capnp_readers.specs.Sizes.{pointers_read}
use Rattle.capnp_readers.specs.Values.{HasValue, HasStructs, list_length, struct_element, place_read, first_element, tree_cost, first_cost, pointer_cost, ShowsStructOf, ShowsListOf}
use Rattle.capnp_readers.specs.declared.readers.PointerReader.{PointerReader}
use Rattle.capnp_readers.specs.declared.readers.struct_reader.StructReader.{StructReader}
use Rattle.capnp_readers.specs.declared.readers.list_reader.ListReader.{ListReader}
use Rattle.capnp_readers.proofs.Answering.{read_at}
use Rattle.capnp_readers.proofs.Sections.{flat_words}
use Rattle.capnp_readers.proofs.Values.{tree_means}
use Rattle.capnp_pointers.proofs.Budget.LevelsLeft.{level_less}

-- Element i of a list of structs is at its place.
pub record ElementThere (r : Reading) (d q : ℕ) (es : Elements) (i : ℕ) : Type 0 where
  pub words : List ℕ
  pub children : Trees
  pub cost : ℕ
  pub is : struct_at es i ≡ Struct words children
  pub long : length words ≡ d
  pub many : count children ≡ q
  pub has : HasWords r.segments r.segment (r.at + i * (d + q)) words
  pub means : MeanThere (place_past r (i * (d + q) + d)) children cost

pub element_there : (r : Reading) (d q : ℕ) (es : Elements) (c i : ℕ) → i < element_count es → MeansElements r.segments r.levels r.segment r.at d q es c → ElementThere r d q es i
element_there r d q no_elements c i l h = absurd (omega arith)
element_there r d q (element ws ts es) c zero l (a, b, long, many, here, all, rest, cost) = record {
  words = ws;
  children = ts;
  cost = a;
  is = refl;
  long = long;
  many = many;
  has = subst (λ z. HasWords r.segments r.segment z ws) (let e : r.at ≡ r.at + 0 * (d + q) = omega arith in e) here;
  means = subst (λ z. MeansAll r.segments r.levels r.segment z ts a) (let e : r.at + d ≡ r.at + (0 * (d + q) + d) = omega arith in e) all;
}
element_there r d q (element ws ts es) c (suc i) l (a, b, long, many, here, all, rest, cost) =
    let x = element_there (place_past r (d + q)) d q es b i (omega arith) (subst (λ z. MeansElements r.segments r.levels r.segment z d q es b) (let e : r.at + d + q ≡ r.at + (d + q) = omega arith in e) rest) in
    record {
      words = x.words;
      children = x.children;
      cost = x.cost;
      is = x.is;
      long = x.long;
      many = x.many;
      has = subst (λ z. HasWords r.segments r.segment z x.words) (let e : r.at + (d + q) + i * (d + q) ≡ r.at + suc i * (d + q) = omega arith in e) x.has;
      means = subst (λ z. MeansAll r.segments r.levels r.segment z x.children x.cost) (let e : r.at + (d + q) + (i * (d + q) + d) ≡ r.at + (suc i * (d + q) + d) = omega arith in e) x.means;
    }

-- the first child of element i, at its cost
first_means : (r : Reading) (d q : ℕ) (es : Elements) (c i : ℕ) → i < element_count es → 0 < q → (all : MeansElements r.segments r.levels r.segment r.at d q es c) → MeansThere (place_past r (i * (d + q) + d)) (next (struct_at es i) (Child 0)) (first_cost r d q es c all i)
first_means r d q no_elements c i l some all = absurd (omega arith)
first_means r d q (element ws ts es) c zero l some all =
    subst (λ z. MeansThere (record r { at = z }) (tree_at ts 0) (tree_cost (place_past r d) ts all.0 all.5 0)) (let e : r.at + d + 0 ≡ r.at + (0 * (d + q) + d) = omega arith in e) (tree_means ts (place_past r d) all.0 0 (omega (arith, some, all.3)) all.5)
first_means r d q (element ws ts es) c (suc i) l some all =
    subst (λ z. MeansThere (record r { at = z }) (next (struct_at es i) (Child 0)) (first_cost (place_past (place_past r d) q) d q es all.1 all.6 i)) (let e : r.at + d + q + (i * (d + q) + d) ≡ r.at + (suc i * (d + q) + d) = omega arith in e)
    (first_means (place_past (place_past r d) q) d q es all.1 i (omega arith) some all.6)

module _ {A : Type 0} (g : Ghosts A) where
  -- a list with a tag is one of structs
  tagged_list : (size : ElementSize) (S : Segments) (r : ListReader A g) (a : Target) → element_size a.word ≡ 7 → IsTargetList g size S r a →
      (size ≡ InlineComposite) × ShowsList g S r a.segment (a.start + 1) (rows_sized (tag_size S a) (offset_bits (tag S a)))
  tagged_list InlineComposite S r a seven (e, shows) = (refl, shows)
  tagged_list Void S r a seven (e, shows) = absurd (omega (arith, e, seven))
  tagged_list Bit S r a seven (e, shows) = absurd (omega (arith, e, seven))
  tagged_list Byte S r a seven (e, shows) = absurd (omega (arith, e, seven))
  tagged_list TwoBytes S r a seven (e, shows) = absurd (omega (arith, e, seven))
  tagged_list FourBytes S r a seven (e, shows) = absurd (omega (arith, e, seven))
  tagged_list EightBytes S r a seven (e, shows) = absurd (omega (arith, e, seven))
  tagged_list Pointer S r a seven (e, shows) = absurd (omega (arith, e, seven))

  -- other lists start without one
  plain_list : (size : ElementSize) (S : Segments) (r : ListReader A g) (a : Target) (n : ℕ) → element_size a.word ≡ n → n ≤ 6 → IsTargetList g size S r a →
      (size_number size ≡ n) × ShowsList g S r a.segment a.start (rows_sized (sized 0 0) (list_count a.word))
  plain_list InlineComposite S r a n is small (e, shows) = absurd (omega (arith, e, is, small))
  plain_list Void S r a n is small (e, shows) = (sym e ∙ is, shows)
  plain_list Bit S r a n is small (e, shows) = (sym e ∙ is, shows)
  plain_list Byte S r a n is small (e, shows) = (sym e ∙ is, shows)
  plain_list TwoBytes S r a n is small (e, shows) = (sym e ∙ is, shows)
  plain_list FourBytes S r a n is small (e, shows) = (sym e ∙ is, shows)
  plain_list EightBytes S r a n is small (e, shows) = (sym e ∙ is, shows)
  plain_list Pointer S r a n is small (e, shows) = (sym e ∙ is, shows)

  -- the size of pointers
  is_pointer : (size : ElementSize) → size_number size ≡ 6 → size ≡ Pointer
  is_pointer Pointer e = refl
  is_pointer InlineComposite e = absurd (omega arith)
  is_pointer Void e = absurd (omega arith)
  is_pointer Bit e = absurd (omega arith)
  is_pointer Byte e = absurd (omega arith)
  is_pointer TwoBytes e = absurd (omega arith)
  is_pointer FourBytes e = absurd (omega arith)
  is_pointer EightBytes e = absurd (omega arith)

  -- The list r was read from the pointer p, and is at the target a.
  pub record IsListFrom (p : PointerReader A g) (r : ListReader A g) (a : Target) : Type 0 where
    pub is_list : kind a.word ≡ 1
    pub shows : IsTargetList g r.element_size (read_by g p).segments r a
    pub source : r.source ≡ p.source
    pub nesting : r.nesting_limit ≡ p.nesting_limit -ℤ pos 1

  -- a pointer that was read as a list, or is null, leads to no other object
  pub list_from : (p : PointerReader A g) (expected : ElementSize) {m m' : Meter} {r : ListReader A g} (a : Target) → IsListRead g expected p m m' r → LeadsTo (read_by g p) a → IsListFrom p r a
  list_from p expected a (inl h) leads = absurd (leads.0 h.0)
  list_from p expected {r = r} a (inr ((b, o, one, shows, source, nesting), wide)) leads =
      let same : b ≡ a = same_target (read_by g p).segments (read_by g p).segment (read_by g p).at (entered_leads o).1 leads.1 in
      record {
        is_list = subst (λ (x : Target). kind x.word ≡ 1) same one;
        shows = subst (λ (x : Target). IsTargetList g r.element_size (read_by g p).segments r x) same shows;
        source = source;
        nesting = nesting;
      }

  -- the first element of the list is at this position of the target
  first_at : (p : PointerReader A g) (r : ListReader A g) (a : Target) (n : ℕ) → 0 < (read_by g p).levels → IsListFrom p r a → r.start.segment ≡ a.segment → r.start.at ≡ a.start + n →
      first_element g r ≡ child_at (read_by g p) a (pred (read_by g p).levels) (a.start + n)
  first_at p r a n some from segment start = rw (from.source, segment, start, ap levels from.nesting ∙ level_less p.nesting_limit some) refl

  -- where the elements of a list of pointers, or of structs, are
  pub pointers_at : (p : PointerReader A g) (expected : ElementSize) {m m' : Meter} (r : ListReader A g) (a : Target) {n : ℕ} → 0 < (read_by g p).levels → IsListRead g expected p m m' r → ListAt (read_by g p).segments (read_by g p).segment (read_by g p).at a 6 n →
      first_element g r ≡ child_at (read_by g p) a (pred (read_by g p).levels) a.start
  pointers_at p expected r a some read at =
      let from = list_from p expected a read at.leads_to in
      let list = plain_list r.element_size (read_by g p).segments r a 6 at.is_size (omega arith) from.shows in
      let there : a.start + 0 ≡ a.start = omega arith in
      first_at p r a 0 some from list.1.segment_is (omega (arith, list.1.elements_start)) ∙ ap (child_at (read_by g p) a (pred (read_by g p).levels)) there

  pub structs_at : (p : PointerReader A g) (expected : ElementSize) {m m' : Meter} (r : ListReader A g) (a : Target) {n : ℕ} → 0 < (read_by g p).levels → IsListRead g expected p m m' r → ListAt (read_by g p).segments (read_by g p).segment (read_by g p).at a 7 n →
      first_element g r ≡ child_at (read_by g p) a (pred (read_by g p).levels) (a.start + 1)
  structs_at p expected r a some read at =
      let from = list_from p expected a read at.leads_to in
      let list = tagged_list r.element_size (read_by g p).segments r a at.is_size from.shows in
      first_at p r a 1 some from list.1.segment_is list.1.elements_start

  -- the list that was read is the value that the pointer means
  list_shown : (p : PointerReader A g) (expected : ElementSize) (m m' : Meter) (r : ListReader A g) (t : Tree) (c : ℕ) → IsListRead g expected p m m' r → MeansThere (read_by g p) t c → ShowsListOf g r t
  list_shown p expected m m' r Null c (inl (null, same, nothing, size, none, nesting)) means = record { cost = 0; shown = (none, refl) }
  list_shown p expected m m' r Null c (inr ((b, o, one, shows, source, nesting), wide)) means = absurd ((entered_leads o).0 means.0)
  list_shown p expected m m' r (Flat size ns) c read (a, some, small, at, claims, numbers, cost) =
      let S : Segments = (read_by g p).segments in
      let list = plain_list r.element_size S r a size at.is_size (omega (arith, small)) (list_from p expected a read at.leads_to).shows in
      let many : elements_words r.element_size (list_count a.word) 0 ≡ words_for size (length ns) =
      flat_words r.element_size (list_count a.word) 0 (omega (arith, small, list.0)) ∙ ap₂ words_for list.0 at.counts in
      let words : words_of r.content.now ≡ words_at S a.segment a.start (words_for size (length ns)) = list.1.words_are ∙ ap (words_at S a.segment a.start) many in
      record { cost = 0; shown = (list.0, list.1.counts ∙ at.counts, numbers ∙ ap (unpacked size (length ns)) (sym words), refl, small) }
  list_shown p expected m m' r (Pointers ts) c read (a, k, some, at, claims, all, cost) =
      let from = list_from p expected a read at.leads_to in
      let list = plain_list r.element_size (read_by g p).segments r a 6 at.is_size (omega arith) from.shows in
      record {
        cost = k;
        shown = (
          is_pointer r.element_size list.0,
          list.1.counts ∙ at.counts,
          subst (λ x. MeanThere x ts k) (sym (pointers_at p expected r a some read at)) all,
        );
      }
  list_shown p expected m m' r (Structs d q es) c read (a, n, k, some, at, claims, is_tag, fits, all, cost) =
      let from = list_from p expected a read at.leads_to in
      let list = tagged_list r.element_size (read_by g p).segments r a at.is_size from.shows in
      record {
        cost = k;
        shown = (
          list.0,
          ap₂ (λ i j. sized i j) (list.1.data_of ∙ is_tag.data_of) (list.1.pointers_of ∙ is_tag.pointers),
          list.1.counts ∙ is_tag.counts,
          subst (λ x. MeansElements x.segments x.levels x.segment x.at d q es k) (sym (structs_at p expected r a some read at)) all,
        );
      }
  list_shown p expected m m' r (Capability i) c read (a, leads, is, cost) = (let one : kind a.word ≡ 1 = (list_from p expected a read leads).is_list in absurd (omega (arith, one, is)))
  list_shown p expected m m' r (Struct ws ts) c read (a, k, some, at, claim, has, all, cost) = (let one : kind a.word ≡ 1 = (list_from p expected a read at.leads_to).is_list in absurd (omega (arith, one, at.is_struct)))

  pub list_value : {c : Call g} (expected : ElementSize) {m m' : Meter} (r : ListReader A g) → WhereRead g c (λ p. IsListRead g expected p m m' r) → (t : Tree) → HasValue (place_read g c.from c.default) t → ShowsListOf g r t
  list_value {c} expected {m} {m'} r (p, is, read) t has = list_shown p expected m m' r t has.cost read (subst (λ x. MeansThere x t has.cost) (sym (read_at g is)) has.means)

  -- the number of elements
  pub shown_length : (r : ListReader A g) (t : Tree) → ShowsListOf g r t → r.count ≡ list_length t
  shown_length r Null is = is.shown.0
  shown_length r (Flat size ns) is = is.shown.1
  shown_length r (Pointers ts) is = is.shown.1
  shown_length r (Structs d q es) is = is.shown.2
  shown_length r (Capability i) is = absurd is.shown
  shown_length r (Struct ws ts) is = absurd is.shown

  -- the struct r is element i of a list of structs
  struct_of_structs : (list : ListReader A g) (i : ℕ) (r : StructReader A g) (d q : ℕ) (es : Elements) (k : ℕ) → i < element_count es → list.struct_size ≡ sized d q →
      MeansElements (first_element g list).segments (first_element g list).levels (first_element g list).segment (first_element g list).at d q es k →
      ShowsElement g InlineComposite list i r → r.source ≡ list.source → r.nesting_limit ≡ list.nesting_limit → ShowsStructOf g r (struct_at es i)
  struct_of_structs list i r d q es k inside sections all shows source nesting =
      let x : Reading = first_element g list in
      let e = element_there x d q es k i inside all in
      let wide : list.struct_size.data_words ≡ d = ap (λ (y : StructSize). y.data_words) sections in
      let many : list.struct_size.pointers ≡ q = ap (λ (y : StructSize). y.pointers) sections in
      let at : list.start.at + i * (list.struct_size.data_words + list.struct_size.pointers) ≡ x.at + i * (d + q) = rw (wide, many) refl in
      let starts : r.pointers.at ≡ x.at + (i * (d + q) + d) = (shows.pointers_start ∙ ap₂ (λ (y z : ℕ). y + z) at wide) ∙ omega arith in
      let first : pointers_read g r ≡ place_past x (i * (d + q) + d) = rw (source, shows.segment_is, starts, nesting) refl in
      subst (ShowsStructOf g r) (sym e.is) (record {
        is_struct = tt;
        bits_are = shows.bits_are ∙ ap (λ j. 64 * j) (wide ∙ sym e.long);
        words_are = shows.words_are ∙ ap₂ (λ (z : ℕ) (j : ℕ). words_at x.segments x.segment z j) at (wide ∙ sym e.long) ∙ e.has;
        pointers_are = shows.pointers_are ∙ many ∙ sym e.many;
        cost = e.cost;
        children_are = subst (λ y. MeanThere y e.children e.cost) (sym first) e.means;
      })

  -- the struct r has one pointer, which is element i of a list of pointers
  struct_of_pointers : (list : ListReader A g) (i : ℕ) (r : StructReader A g) (ts : Trees) (k : ℕ) → i < count ts → MeanThere (first_element g list) ts k →
      ShowsElement g Pointer list i r → r.source ≡ list.source → r.nesting_limit ≡ list.nesting_limit → ShowsStructOf g r (Struct [] (tree (tree_at ts i) no_trees))
  struct_of_pointers list i r ts k inside all shows source nesting =
      let x : Reading = first_element g list in
      let one = means_child x.segments x.levels x.segment x.at ts k i inside all in
      let starts : r.pointers.at ≡ x.at + i = shows.pointers_start ∙ omega arith in
      let first : pointers_read g r ≡ place_past x i = rw (source, shows.segment_is, starts, nesting) refl in
      record {
        is_struct = tt;
        bits_are = shows.bits_are;
        words_are = shows.words_are;
        pointers_are = shows.pointers_are;
        cost = one.0;
        children_are = subst (λ y. MeanThere y (tree (tree_at ts i) no_trees) one.0) (sym first) (one.0, 0, one.1, refl, omega arith);
      }

  pub element_value : (list : ListReader A g) (i : ℕ) (r : StructReader A g) → i < list.count → ShowsElement g list.element_size list i r → r.source ≡ list.source → r.nesting_limit ≡ list.nesting_limit →
      (t : Tree) → ShowsListOf g list t → HasStructs t → ShowsStructOf g r (struct_element t i)
  element_value list i r inside shows source nesting Null is has = (let none = is.shown.0 in absurd (omega (arith, inside, none)))
  element_value list i r inside shows source nesting (Pointers ts) is has =
      let (wide, counts, all) = is.shown in
      struct_of_pointers list i r ts is.cost (omega (arith, inside, counts)) all (subst (λ size. ShowsElement g size list i r) wide shows) source nesting
  element_value list i r inside shows source nesting (Structs d q es) is has =
      let (wide, sections, counts, all) = is.shown in
      struct_of_structs list i r d q es is.cost (omega (arith, inside, counts)) sections all (subst (λ size. ShowsElement g size list i r) wide shows) source nesting
  element_value list i r inside shows source nesting (Flat size ns) is has = absurd has
  element_value list i r inside shows source nesting (Capability j) is has = absurd has
  element_value list i r inside shows source nesting (Struct ws ts) is has = absurd has

  -- the place of element i, or of the first pointer of a struct, means that element or child
  pub pointer_element_means : (list : ListReader A g) (i : ℕ) (y : Reading) → i < list.count → HoldsPointer list.element_size list.struct_size →
      y ≡ place_past (first_element g list) (pointers_offset list.element_size list.struct_size i) → (t : Tree) (is : ShowsListOf g list t) → HasStructs t → MeansThere y (next (struct_element t i) (Child 0)) (pointer_cost g is i)
  pointer_element_means list i y inside holds there Null is has = (let none = is.shown.0 in absurd (omega (arith, inside, none)))
  pointer_element_means list i y inside holds there (Pointers ts) is has =
      let (wide, counts, all) = is.shown in
      let x : Reading = first_element g list in
      let at : y ≡ place_past x i = there ∙ ap (λ (size : ElementSize). place_past x (pointers_offset size list.struct_size i)) wide in
      subst (λ z. MeansThere z (tree_at ts i) (pointer_cost g is i)) (sym at) (tree_means ts x is.cost i (omega (arith, inside, counts)) is.shown.2)
  pointer_element_means list i y inside holds there (Structs d q es) is has =
      let (wide, sections, counts, all) = is.shown in
      let x : Reading = first_element g list in
      let some : 0 < q = subst (λ (size : StructSize). 0 < size.pointers) sections (subst (λ size. HoldsPointer size list.struct_size) wide holds) in
      let at : y ≡ place_past x (i * (d + q) + d) = there ∙ ap₂ (λ (size : ElementSize) (sections : StructSize). place_past x (pointers_offset size sections i)) wide sections in
      subst (λ z. MeansThere z (next (struct_at es i) (Child 0)) (pointer_cost g is i)) (sym at) (first_means x d q es is.cost i (omega (arith, inside, counts)) some is.shown.3)
  pointer_element_means list i y inside holds there (Flat size ns) is has = absurd has
  pointer_element_means list i y inside holds there (Capability j) is has = absurd has
  pointer_element_means list i y inside holds there (Struct ws ts) is has = absurd has
