-- What C sees of an object that a call finds.
use Rattle.std.specs.Prelude.{◌≡◌, ℕ, ℤ, ◌+◌, ◌*◌, ◌<◌, ◌≤◌, ◌/◌, List, length, take, drop, Some}
use Rattle.std.specs.Borrow.{Bor}
use Rattle.capnp_words.specs.Meter.{Meter, unused}
use Rattle.capnp_words.specs.declared.error.ErrorKind.{ErrorKind}
use Rattle.capnp_words.specs.declared.error.ErrorKind.TheVariants.{InvalidSegmentId, ReadLimitExceeded}
use Rattle.capnp_words.specs.declared.wire_pointer.PointerType.{PointerType}
use Rattle.capnp_words.specs.declared.wire_pointer.PointerType.TheVariants.{Null as NullType, Struct as StructType}
use Rattle.capnp_words.specs.declared.wire_pointer.PointerType.TheVariants.{List as ListType, Capability as CapabilityType}
use Rattle.capnp_arena_traits.specs.Checks.{Holds, misplaced}
use Rattle.capnp_format.specs.Bytes.{words_of}
use Rattle.capnp_format.specs.Means.{MeansAll, MeansElements}
use Rattle.capnp_format.specs.Numbers.{element_bits, unpacked, words_for}
use Rattle.capnp_format.specs.Segments.{Segments, segment, words_at}
use Rattle.capnp_format.specs.Tree.{Tree, Null, Flat, Pointers, Structs, count, element_count}
use Rattle.capnp_pointers.specs.Expected.{Expectation, RefusesExpected, struct_expected}
use Rattle.capnp_pointers.specs.Types.{HasNoType, IsOfType}
use Rattle.capnp_pointers.specs.Reading.{Reading}
use Rattle.capnp_pointers.specs.Source.{levels}
use Rattle.capnp_readers.specs.Values.{IsStructOrNull, struct_data, struct_children}
use Rattle.capnp_layout_c.specs.Lent.{left_over, lent, lent_pointer, root_left}
use Rattle.capnp_numbers.specs.Numbers.{error_number}
use Rattle.capnp_layout_c.specs.declared.found.FoundStruct.{FoundStruct}
use Rattle.capnp_layout_c.specs.declared.found.FoundList.{FoundList}

-- The struct t was found: `data` has the words of its data section, and its pointers, from word
-- `pointers_at` of `segment` on, mean its children within the levels of `nesting`, at cost k. Null is
-- a struct without data and pointers.
pub record IsFoundStruct (S : Segments) (s : FoundStruct) (t : Tree) (k : ℕ) : Type 0 where
  pub is_struct : IsStructOrNull t
  pub size_is : length s.data.now ≡ 8 * length (struct_data t)
  pub words_are : words_of s.data.now ≡ struct_data t
  pub pointers_are : s.pointers ≡ count (struct_children t)
  pub children_are : MeansAll S (levels s.nesting) s.segment s.pointers_at (struct_children t) k

-- The list t was found: it has `count` elements, each of `data_bits` bits of data and of `pointers`
-- pointers. Their words are `data`, and start at word `at` of `segment`. What their pointers mean
-- within the levels of `nesting` costs k.
abbrev pub IsFoundList : Segments → FoundList → Tree → ℕ → Type 0
IsFoundList S l Null k = (l.count ≡ 0) × (k ≡ 0)
IsFoundList S l (Flat size ns) k =
    (l.data_bits ≡ element_bits size) × (l.pointers ≡ 0) × (l.count ≡ length ns)
    × (ns ≡ unpacked size (length ns) (words_of l.data.now)) × (k ≡ 0)
    × (length l.data.now ≡ 8 * words_for size (length ns))
IsFoundList S l (Pointers ts) k =
    (l.data_bits ≡ 0) × (l.pointers ≡ 1) × (l.count ≡ count ts)
    × MeansAll S (levels l.nesting) l.segment l.at ts k
IsFoundList S l (Structs d q es) k =
    (l.data_bits ≡ 64 * d) × (l.pointers ≡ q) × (l.count ≡ element_count es)
    × MeansElements S (levels l.nesting) l.segment l.at d q es k
    × (length l.data.now ≡ 8 * (element_count es * (d + q)))
    × (words_of l.data.now ≡ words_at S l.segment l.at (element_count es * (d + q)))
IsFoundList S l t k = ⊥

-- Where element i of the list starts, in bytes.
abbrev pub element_byte : FoundList → ℕ → ℕ
element_byte l i = i * (l.data_bits / 8 + 8 * l.pointers)

-- C makes the struct s of element i of the list l: it has the data section and the pointers of a struct,
-- the bytes of a number, or one pointer.
pub record IsElementOf (l : FoundList) (i : ℕ) (s : FoundStruct) : Type 0 where
  pub data_is : s.data.now ≡ take (l.data_bits / 8) (drop (element_byte l i) l.data.now)
  pub segment_is : s.segment ≡ l.segment
  pub start_is : s.pointers_at ≡ l.at + (element_byte l i + l.data_bits / 8) / 8
  pub pointers_are : s.pointers ≡ l.pointers
  pub nesting_is : s.nesting ≡ l.nesting

-- The pointers of a struct that was found are words of its segment. They may be broken.
abbrev pub HasPointersInside : Segments → FoundStruct → Type 0
HasPointersInside S s = 0 < s.pointers → s.pointers_at + s.pointers ≤ length (segment S s.segment)

-- The elements of a list that was found are in its bytes, and words of its segment if they have
-- pointers. The pointers may be broken.
pub record HasElementsInside (S : Segments) (l : FoundList) : Type 0 where
  pub data_inside : l.count * (l.data_bits + 64 * l.pointers) ≤ 8 * length l.data.now
  pub pointers_inside : 0 < l.pointers →
      64 * l.at + l.count * (l.data_bits + 64 * l.pointers) ≤ 64 * length (segment S l.segment)

-- A call at the place r is refused with the error of this number, and takes the words left from
-- `old` to `new`.
abbrev pub RefusesNumber : Expectation → Reading → ℕ → ℕ → ℕ → Type 0
RefusesNumber expected r old new number =
    (k : ErrorKind) × (m : Meter) × (number ≡ error_number k) × (new ≡ left_over old m.left)
    × RefusesExpected expected r (unused (Some old)) m k

-- The root isn't read with this number, and the words left go from `old` to `new`: segment 0 has no
-- word; or no word is left for the root pointer; or one is charged, and the struct is refused.
pub data RefusesRootNumber (list : List (Bor (List ℕ))) (nesting : ℤ) (old new number : ℕ) : Type 0 where
  no_root : (Holds (lent list) 0 0 1 → ⊥)
      → number ≡ error_number (misplaced (lent list) 0 (InvalidSegmentId 0)) → new ≡ old
      → RefusesRootNumber list nesting old new number
  no_words : Holds (lent list) 0 0 1 → old ≡ 0 → number ≡ error_number ReadLimitExceeded
      → new ≡ old → RefusesRootNumber list nesting old new number
  no_struct : Holds (lent list) 0 0 1 → 1 ≤ old
      → RefusesNumber struct_expected (lent_pointer list 0 0 nesting) (root_left old) new number
      → RefusesRootNumber list nesting old new number

-- The number of what a pointer leads to.
abbrev pub type_number : PointerType → ℕ
type_number NullType = 0
type_number StructType = 1
type_number ListType = 2
type_number CapabilityType = 3

-- The pointer at the place r leads to what has this number, and finding that out takes the words
-- left from `old` to `new`.
abbrev pub IsFoundType : Reading → ℕ → ℕ → ℕ → Type 0
IsFoundType r old new number =
    (t : PointerType) × (m : Meter) × (number ≡ type_number t) × (new ≡ left_over old m.left)
    × IsOfType r (unused (Some old)) m t

-- What the pointer at the place r leads to isn't told, with the error of this number, and the words
-- left go from `old` to `new`.
abbrev pub RefusesType : Reading → ℕ → ℕ → ℕ → Type 0
RefusesType r old new number =
    (k : ErrorKind) × (m : Meter) × (number ≡ error_number k) × (new ≡ left_over old m.left)
    × HasNoType r (unused (Some old)) m k
