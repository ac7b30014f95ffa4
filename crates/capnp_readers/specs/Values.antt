-- The values that readers show. What a struct doesn't have reads as zero bits or as null pointers.
-- Null reads as a struct without sections, as a list without elements, or as no bytes.
use Rattle.std.specs.Prelude.{◌≡◌, ℕ, zero, suc, ◌-◌, ◌*◌, ◌<◌, ◌≤◌, List, [], length, get_or, take, Option, Some, None}
use Rattle.std.specs.Prelude.{◌+◌, ◌/◌, ◌%◌, ◌^◌, if◌then◌else◌, nat_eq, nat_le, ⊤}
use Rattle.std.specs.Borrow.{Bor}
use Rattle.capnp_format.specs.Bytes.{words_of}
use Rattle.capnp_format.specs.Means.{MeansAll, MeansElements}
use Rattle.capnp_format.specs.Numbers.{element_bits, from_digits, unpacked}
use Rattle.capnp_format.specs.Segments.{AreWords}
use Rattle.capnp_format.specs.Tree.{Tree, Null, Struct, Flat, Pointers, Structs, Trees, no_trees, tree}
use Rattle.capnp_format.specs.Tree.{Elements, no_elements, element, count, element_count}
use Rattle.capnp_words.specs.Meter.{Meter, Affords}
use Rattle.capnp_words.specs.Sizes.{size_number, sized}
use Rattle.capnp_words.specs.declared.wire_pointer.ElementSize.{ElementSize}
use Rattle.capnp_words.specs.declared.wire_pointer.ElementSize.TheVariants.{Pointer, InlineComposite}
use Rattle.capnp_arena_traits.specs.declared.arena.reader_arena.ReaderArena.{Ghosts}
use Rattle.capnp_format.specs.Path.{tree_at, struct_at}
use Rattle.capnp_pointers.specs.Expected.{narrow_elements, narrow_structs}
use Rattle.capnp_pointers.specs.Outcomes.{MeansThere}
use Rattle.capnp_pointers.specs.Reading.{Reading, place_past, reading_at, source_start, word_of}
use Rattle.capnp_pointers.specs.Source.{levels}
use Rattle.capnp_pointers.specs.declared.source.Source.TheVariants.{Default}
use Rattle.capnp_readers.specs.Readers.{read_by}
use Rattle.capnp_readers.specs.Sections.{HoldsPointer, data_bits}
use Rattle.capnp_readers.specs.Sizes.{pointers_read}
use Rattle.capnp_readers.specs.declared.readers.PointerReader.{PointerReader}
use Rattle.capnp_readers.specs.declared.readers.struct_reader.StructReader.{StructReader}
use Rattle.capnp_readers.specs.declared.readers.list_reader.ListReader.{ListReader}

-- The place r means t within its levels, at some cost.
pub record HasValue (r : Reading) (t : Tree) : Type 0 where
  pub cost : ℕ
  pub means : MeansThere r t cost

-- The value is a struct, or null.
abbrev pub IsStructOrNull : Tree → Type 0
IsStructOrNull Null = ⊤
IsStructOrNull (Struct ws ts) = ⊤
IsStructOrNull t = ⊥

-- The words of a struct's data section; none if t isn't a struct.
abbrev pub struct_data : Tree → List ℕ
struct_data (Struct ws ts) = ws
struct_data t = []

-- The children of a struct; none if t isn't a struct.
abbrev pub struct_children : Tree → Trees
struct_children (Struct ws ts) = ts
struct_children t = no_trees

-- The number of elements of a list; 0 if t isn't a list.
abbrev pub list_length : Tree → ℕ
list_length (Flat size ns) = length ns
list_length (Pointers ts) = count ts
list_length (Structs d q es) = element_count es
list_length t = 0

-- The value is a list of structs or of pointers, or null.
abbrev pub HasStructs : Tree → Type 0
HasStructs Null = ⊤
HasStructs (Pointers ts) = ⊤
HasStructs (Structs d q es) = ⊤
HasStructs t = ⊥

-- Element i of a list of structs; a pointer of a list of pointers, as a struct with one pointer.
abbrev pub struct_element : Tree → ℕ → Tree
struct_element (Pointers ts) i = Struct [] (tree (tree_at ts i) no_trees)
struct_element (Structs d q es) i = struct_at es i
struct_element t i = Null

-- The numbers of a list of numbers; none if t isn't one.
abbrev pub list_numbers : Tree → List ℕ
list_numbers (Flat size ns) = ns
list_numbers t = []

-- Element i of a list as a number: a number itself, or the first data word of a struct; 0 if the
-- element has no data.
abbrev pub element_number : Tree → ℕ → ℕ
element_number (Structs d q es) i = get_or (struct_data (struct_at es i)) 0 0
element_number t i = get_or (list_numbers t) i 0

-- The bytes of a text, without the zero byte at its end.
abbrev pub text_bytes : Tree → List ℕ
text_bytes t = take (length (list_numbers t) - 1) (list_numbers t)

-- The value is a list whose elements a call accepts that expects this element size; or null.
abbrev pub FitsSize : ElementSize → Tree → Type 0
FitsSize expected Null = ⊤
FitsSize expected (Flat size ns) = narrow_elements expected size ≡ None
FitsSize expected (Pointers ts) = narrow_elements expected 6 ≡ None
FitsSize expected (Structs d q es) = narrow_structs expected (sized d q) ≡ None
FitsSize expected t = ⊥

-- The value is a list of bytes, or null.
abbrev pub IsBytes : Tree → Type 0
IsBytes Null = ⊤
IsBytes (Flat size ns) = size ≡ 2
IsBytes t = ⊥

-- The value is a list of bytes that ends in a zero byte, or null.
abbrev pub IsText : Tree → Type 0
IsText Null = ⊤
IsText (Flat size ns) = (size ≡ 2) × (0 < length ns) × (get_or ns (length ns - 1) 0 ≡ 0)
IsText t = ⊥

-- The w bits from bit b on of the number x, which has `bits` bits; 0 if they aren't all inside.
abbrev pub field_of_number : ℕ → ℕ → ℕ → ℕ → ℕ
field_of_number bits x b w = if nat_le (b + w) bits then x / 2 ^ b % 2 ^ w else 0

-- The place y is in the message of x, or in none: what x can be charged, y can be charged.
pub record StaysIn (x y : Reading) : Type 0 where
  pub words : AreWords x.segments → AreWords y.segments
  pub affords : (m : Meter) (c : ℕ) → Affords x.charging m c → Affords y.charging m c

-- What tree i of these costs, which consecutive pointers from the place r on mean; 0 if there is none.
abbrev pub tree_cost : (r : Reading) (ts : Trees) (c : ℕ) → MeansAll r.segments r.levels r.segment r.at ts c → ℕ → ℕ
tree_cost r no_trees c all i = 0
tree_cost r (tree t ts) c all zero = all.0
tree_cost r (tree t ts) c all (suc i) = tree_cost (place_past r 1) ts all.1 all.3 i

-- What the first child of element i of these costs, which consecutive elements of d data words and q
-- pointers from the place r on mean; 0 if there is none.
abbrev pub first_cost : (r : Reading) (d q : ℕ) (es : Elements) (c : ℕ) → MeansElements r.segments r.levels r.segment r.at d q es c → ℕ → ℕ
first_cost r d q no_elements c all i = 0
first_cost r d q (element ws ts es) c all zero = tree_cost (place_past r d) ts all.0 all.5 0
first_cost r d q (element ws ts es) c all (suc i) = first_cost
    (place_past (place_past r d) q) d q es all.1 all.6 i

module _ {A : Type 0} (g : Ghosts A) where
  -- The place that a call reads: the pointer's own, or the first word of the default if the pointer
  -- is null.
  abbrev pub place_read : PointerReader A g → Option (Bor (List ℕ)) → Reading
  place_read from None = read_by g from
  place_read from (Some bytes) =
      if nat_eq (word_of (read_by g from)) 0 then
      (record (source_start g (Default bytes)) { levels = levels from.nesting_limit })
      else read_by g from

  -- The elements of the list r can be read as elements of this size: they have at least its bits of
  -- data, and a pointer if it is one, and are bits only if bits are expected. No elements can be read
  -- as anything.
  pub record FitsElements (expected : ElementSize) (r : ListReader A g) : Type 0 where
    pub wide : 0 < r.count → element_bits (size_number expected) ≤ data_bits r.element_size r.struct_size
    pub pointers : 0 < r.count → size_number expected ≡ 6 → HoldsPointer r.element_size r.struct_size
    pub whole : size_number r.element_size ≡ 1 → size_number expected ≡ 1

  -- The first element of a list, as a place that is read.
  abbrev pub first_element : ListReader A g → Reading
  first_element r = reading_at g r.source r.start r.nesting_limit

  -- The reader r shows the struct t: its data section has the words of t, and its pointers mean the
  -- children of t. Reading the children has this cost. Null is shown as a struct without sections.
  pub record ShowsStructOf (r : StructReader A g) (t : Tree) : Type 0 where
    pub is_struct : IsStructOrNull t
    pub bits_are : r.bits ≡ 64 * length (struct_data t)
    pub words_are : words_of r.content.now ≡ struct_data t
    pub pointers_are : r.pointer_count ≡ count (struct_children t)
    pub cost : ℕ
    pub children_are : MeansAll (pointers_read g r).segments (pointers_read g r).levels
        (pointers_read g r).segment (pointers_read g r).at (struct_children t) cost

  -- The reader r shows the number x of a list, which has `bits` bits, as a struct without pointers.
  pub record ShowsNumber (r : StructReader A g) (bits x : ℕ) : Type 0 where
    pub bits_are : r.bits ≡ bits
    pub number_is : from_digits 256 r.content.now ≡ x
    pub no_pointers : r.pointer_count ≡ 0

  -- What reading child i of the struct that r shows costs; 0 if there is none.
  abbrev pub child_cost : {r : StructReader A g} {t : Tree} → ShowsStructOf r t → ℕ → ℕ
  child_cost {r} {t} shows i = tree_cost (pointers_read g r) (struct_children t) shows.cost shows.children_are i

  -- The reader r has the element size, the number of elements and the elements of the list t. Reading
  -- what the pointers of the elements mean costs c. If t is null, there are no elements.
  abbrev pub IsListShown : ListReader A g → Tree → ℕ → Type 0
  IsListShown r Null c = (r.count ≡ 0) × (c ≡ 0)
  IsListShown r (Flat size ns) c =
      (size_number r.element_size ≡ size) × (r.count ≡ length ns)
      × (ns ≡ unpacked size (length ns) (words_of r.content.now)) × (c ≡ 0) × (size ≤ 5)
  IsListShown r (Pointers ts) c =
      let first = first_element r in
      (r.element_size ≡ Pointer) × (r.count ≡ count ts)
      × MeansAll first.segments first.levels first.segment first.at ts c
  IsListShown r (Structs d q es) c =
      let first = first_element r in
      (r.element_size ≡ InlineComposite) × (r.struct_size ≡ sized d q)
      × (r.count ≡ element_count es)
      × MeansElements first.segments first.levels first.segment first.at d q es c
  IsListShown r t c = ⊥

  -- The reader r shows the list t. Reading what its pointers mean has this cost.
  pub record ShowsListOf (r : ListReader A g) (t : Tree) : Type 0 where
    pub cost : ℕ
    pub shown : IsListShown r t cost

  -- What reading the pointer of element i of the list that r shows costs: of a pointer, or of a
  -- struct's first pointer; 0 if there is none.
  abbrev pub pointer_cost : {r : ListReader A g} {t : Tree} → ShowsListOf r t → ℕ → ℕ
  pointer_cost {r = r} {t = Pointers ts} shows i = tree_cost (first_element r) ts shows.cost shows.shown.2 i
  pointer_cost {r = r} {t = Structs d q es} shows i = first_cost (first_element r) d q es shows.cost shows.shown.3 i
  pointer_cost {r = r} {t = t} shows i = 0
