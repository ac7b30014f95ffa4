-- Lists of structs made of the elements of other lists: rows of words ("Lists").
use Rattle.std.specs.Prelude.{◌≡◌, ◌≢◌, ◌⊎◌, ℕ, zero, suc, ◌+◌, ◌-◌, ◌*◌, ◌^◌, ◌<◌, ◌≤◌, Option, Some, None}
use Rattle.std.specs.Prelude.{IfErr, IfOk, IsOk, Ok, Err, List, OnErr, OnOk, Result, [], ◌∷◌, length}
use Rattle.capnp_words.specs.Sizes.{size_number}
use Rattle.capnp_words.specs.declared.error.ErrorKind.{ErrorKind}
use Rattle.capnp_arena_traits.specs.View.{View}
use Rattle.capnp_format.specs.Numbers.{element_bits, words_for}
use Rattle.capnp_format.specs.Segments.{Segments, segment, word_at, Target}
use Rattle.capnp_format.specs.Tree.{Tree, Null, Flat, Pointers, Structs, count, element_count}
use Rattle.capnp_format.specs.Means.{IsTag}
use Rattle.capnp_format.specs.Forest.{times, target}
use Rattle.capnp_words.specs.declared.wire_pointer.StructSize.{StructSize}
use Rattle.capnp_words.specs.declared.wire_pointer.ElementSize.{ElementSize}
use Rattle.capnp_words.specs.declared.wire_pointer.ElementSize.TheVariants.{Void, Pointer}
use Rattle.capnp_words.specs.declared.wire_pointer.ElementSize.TheVariants.{InlineComposite}
use Rattle.capnp_in_place.specs.declared.existing.ExistingList.{ExistingList}
use Rattle.capnp_arena_traits.specs.declared.arena.WordPlace.{WordPlace}
use Rattle.capnp_in_place.specs.Existing.{list_in}
use Rattle.capnp_format.specs.Fields.{field_in}
use Rattle.capnp_allocation.specs.Made.{zero_elements, structs_words}
use Rattle.capnp_allocation.specs.Makes.{CallAt}
use Rattle.capnp_allocation.specs.Memory.{KeepsMemory, SpendsMemory}
use Rattle.capnp_format.specs.Path.{word_interval}
use Rattle.capnp_allocation.specs.Stored.{IsStored, IsReplaced}
use Rattle.capnp_allocation.specs.Zeroed.{row}
use Rattle.capnp_in_place.specs.declared.moving.PointerRows.{PointerRows}
use Rattle.capnp_in_place.specs.declared.remaking.ElementRows.{ElementRows}
use Rattle.capnp_in_place.specs.Anew.{BecomesAnew, OnlyWrites, WritesAnew}
use Rattle.capnp_in_place.specs.Moved.{Move, Moves, rows_of_moves}
use Rattle.capnp_in_place.specs.Rooms.{GrowsByAtMost, HasRoomFor, RefusesToBecome, WiderListFits}
use Rattle.capnp_in_place.specs.Rooms.{direct_pointers, widened_words}
use Rattle.capnp_in_place.specs.Widened.{GrowsByZeros, HasSections, fill_elements, struct_for_each}
use Rattle.capnp_in_place.specs.Widened.{struct_for_each_tree, list_widened}

-- The first words of each of `count` rows, copied over those of other rows.
pub record RowCopy : Type 0 where
  pub from : PointerRows
  pub to : PointerRows
  pub words : ℕ
  pub count : ℕ

-- From S to R the words of rows are copied, and no other word is written.
pub record AreRowsCopied (S R : Segments) (c : RowCopy) : Type 0 where
  pub segments : length R ≡ length S
  pub words : (x : ℕ) → length (segment R x) ≡ length (segment S x)
  pub here : (i j : ℕ) → i < c.count → j < c.words →
      word_at R c.to.segment (c.to.at + i * c.to.step + j)
      ≡ word_at S c.from.segment (c.from.at + i * c.from.step + j)
  pub behind : (i j : ℕ) → i < c.count → c.words ≤ j → j < c.to.step →
      word_at R c.to.segment (c.to.at + i * c.to.step + j)
      ≡ word_at S c.to.segment (c.to.at + i * c.to.step + j)
  pub kept : (x y : ℕ) → times (row c.to.segment c.to.at (c.count * c.to.step) ∷ []) x y ≡ 0 →
      word_at R x y ≡ word_at S x y

-- From S to R the tag of a list of n structs is written at h, and nothing else.
pub record IsTagWritten (S R : Segments) (h : WordPlace) (n : ℕ) (size : StructSize) : Type 0 where
  pub segments : length R ≡ length S
  pub words : (x : ℕ) → length (segment R x) ≡ length (segment S x)
  pub tag : IsTag (word_at R h.segment h.at) n size.data_words size.pointers
  pub kept : (x y : ℕ) → times (word_interval h.segment h.at ∷ []) x y ≡ 0 →
      word_at R x y ≡ word_at S x y

-- The words of a list, including its tag, are inside their segment.
abbrev pub RowsInside : Segments → ElementRows → Type 0
RowsInside S rows =
    rows.at + (rows.tag + rows.count * (rows.size.data_words + rows.size.pointers))
    ≤ length (segment S rows.segment)

-- From S to R the data words of elements are copied into consecutive structs of this size, which
-- start at h.
abbrev pub CopiesData : Segments → Segments → ElementRows → WordPlace → StructSize → Type 0
CopiesData S R old h size =
    AreRowsCopied S R
    (record {
      from = record {
        segment = old.segment;
        at = old.at + old.tag;
        step = old.size.data_words + old.size.pointers;
      };
      to = record { segment = h.segment; at = h.at; step = size.data_words + size.pointers };
      words = old.size.data_words;
      count = old.count;
    })

-- The pointers of elements, rewritten in these structs.
abbrev pub element_moves : ElementRows → WordPlace → StructSize → List Move
element_moves old h size =
    rows_of_moves
    (record {
      segment = old.segment;
      at = old.at + old.tag + old.size.data_words;
      step = old.size.data_words + old.size.pointers;
    })
    (record {
      segment = h.segment;
      at = h.at + size.data_words;
      step = size.data_words + size.pointers;
    })
    old.size.pointers old.count

-- From old to new the data words of elements are copied into consecutive structs of this size,
-- which start at h; then their pointers are rewritten there.
pub record FillsRows (old new : View) (rows : ElementRows) (h : WordPlace) (size : StructSize) : Type 0 where
  pub between : View
  pub copied : CopiesData old.words between.words rows h size
  pub only : OnlyWrites old between
  pub moved : Moves between.words new.words (element_moves rows h size)
  pub written : WritesAnew between new (element_moves rows h size)

-- From S to R each number of the list l is copied into the first word of a row, and nothing else is
-- written.
pub record AreNumbersCopied (S R : Segments) (l : ExistingList) (to : PointerRows) : Type 0 where
  pub segments : length R ≡ length S
  pub words : (x : ℕ) → length (segment R x) ≡ length (segment S x)
  pub here : (i : ℕ) → i < l.count →
      word_at R to.segment (to.at + i * to.step)
      ≡ field_in (segment S l.segment) (64 * l.start + element_bits (size_number l.size) * i)
      (element_bits (size_number l.size))
  pub behind : (i j : ℕ) → i < l.count → 0 < j → j < to.step →
      word_at R to.segment (to.at + i * to.step + j) ≡ word_at S to.segment (to.at + i * to.step + j)
  pub kept : (x y : ℕ) → times (row to.segment to.at (l.count * to.step) ∷ []) x y ≡ 0 →
      word_at R x y ≡ word_at S x y

-- The words of a list of numbers are inside their segment.
abbrev pub NumbersInside : Segments → ExistingList → Type 0
NumbersInside S l = l.start + words_for (size_number l.size) l.count ≤ length (segment S l.segment)

-- The elements of the list t at the target a, if they are whole words: after a tag, if they are
-- structs.
abbrev pub rows_in : Target → Tree → Option ElementRows
rows_in a (Structs d q es) =
    Some (record {
      segment = a.segment;
      at = a.start;
      tag = 1;
      size = record { data_words = d; pointers = q };
      count = element_count es;
    })
rows_in a (Pointers ts) =
    Some (record {
      segment = a.segment;
      at = a.start;
      tag = 0;
      size = record { data_words = 0; pointers = 1 };
      count = count ts;
    })
rows_in a (Flat zero ns) =
    Some (record {
      segment = a.segment;
      at = a.start;
      tag = 0;
      size = record { data_words = 0; pointers = 0 };
      count = length ns;
    })
rows_in a t = None

-- The smallest struct that holds an element of a list that isn't one of bits: a number becomes the
-- lowest bits of a data word, a pointer the first pointer, and a struct keeps its size.
abbrev pub struct_for : ElementSize → StructSize → StructSize
struct_for Void size = record { data_words = 0; pointers = 0 }
struct_for Pointer size = record { data_words = 0; pointers = 1 }
struct_for InlineComposite size = size
struct_for number size = record { data_words = 1; pointers = 0 }

-- The number of words before the first element of a list: the tag of structs.
abbrev pub tag_words : ElementSize → ℕ
tag_words InlineComposite = 1
tag_words plain = 0

-- The elements of a list as rows of whole words, if they aren't numbers.
abbrev pub element_rows : ExistingList → ElementRows
element_rows l =
    record {
      segment = l.segment;
      at = l.start - tag_words l.size;
      tag = tag_words l.size;
      size = struct_for l.size l.struct_size;
      count = l.count;
    }

-- The list of structs, of this size and at least their own, that the elements of a list become.
abbrev pub as_structs : StructSize → Tree → Tree
as_structs size (Flat zero ns) =
    Structs size.data_words size.pointers (zero_elements size.data_words size.pointers (length ns))
as_structs size (Flat (suc n) ns) =
    Structs size.data_words size.pointers (struct_for_each size.data_words size.pointers ns)
as_structs size (Pointers ts) =
    Structs size.data_words size.pointers (struct_for_each_tree size.data_words size.pointers ts)
as_structs size (Structs d q es) =
    Structs size.data_words size.pointers (fill_elements size.data_words size.pointers es)
as_structs size t = t

-- The elements can become structs of this size: it has room for their sections, and a count of
-- structs without words fits a tag.
pub record CanBecome (rows : ElementRows) (size : StructSize) : Type 0 where
  pub few : size.data_words + size.pointers ≡ 0 → rows.count < 2 ^ 30
  pub data_words : rows.size.data_words ≤ size.data_words
  pub pointers : rows.size.pointers ≤ size.pointers

-- (s, p) stores t in S, a list of these elements.
abbrev pub StoresRows : Segments → ℕ → ℕ → ElementRows → Tree → Type 0
StoresRows S s p rows t = IsStored S s p t × (rows_in (target S s p) t ≡ Some rows)

-- The place gets the list u in place of t, and its pointer leads to l.
abbrev pub BecomesList : CallAt → ExistingList → Tree → Tree → Type 0
BecomesList c l t u = IsReplaced c.old.words c.new.words c.segment c.at t u
    × (list_in (target c.new.words c.segment c.at) Void u ≡ Ok (Some l))

-- (s, p) stores t in S, which is the list l.
abbrev pub IsList : Segments → ℕ → ℕ → ExistingList → Tree → Type 0
IsList S s p l t = IsStored S s p t × (list_in (target S s p) Void t ≡ Ok (Some l))

-- The place gets, in place of the list l, what that becomes if structs of this size are wanted,
-- which is m.
abbrev pub WidensTo : ExistingList → StructSize → CallAt → ExistingList → Type 0
WidensTo l size c m = (t : Tree) → IsList c.old.words c.segment c.at l t → (u : Tree) ×
    (list_widened size.data_words size.pointers t ≡ Ok u) × BecomesList c m t u

-- A call is refused with k: for what is there and what is wanted, which changes nothing; or for
-- memory.
abbrev pub RefusesWider : (Tree → Type 0) → StructSize → View → View → ErrorKind → Type 0
RefusesWider Stands size old new k =
    ((new ≡ old) × ((t : Tree) → Stands t → list_widened size.data_words size.pointers t ≡ Err k))
    ⊎ RefusesToBecome Stands (list_widened size.data_words size.pointers) old new k

-- The call makes a new list at its place: structs of this size, made of the elements of the old
-- list. Or it is refused, and the list stays.
pub record MakesListAnew (result : Result ExistingList ErrorKind) (Stands : Tree → Type 0)
    (size : StructSize) (c : CallAt) : Type 0 where
  pub remade : IfOk result (λ l. (t : Tree) → Stands t → BecomesList c l t (as_structs size t))
  pub anew : OnOk result ((t : Tree) → Stands t → BecomesAnew c t (as_structs size t))
  pub granted : OnOk result (KeepsMemory c.old c.new)
  pub memory : IfErr result (SpendsMemory c.old c.new)
  pub refused : OnErr result ((t : Tree) → Stands t → GrowsByZeros c.old.words c.new.words)

-- The call makes a new list at its place: structs of this size, made of these elements. It takes at
-- most the words of the structs, their tag, a pad, and two words for each pointer.
pub record RemakesRows (result : Result ExistingList ErrorKind) (rows : ElementRows)
    (size : StructSize) (c : CallAt) : Type 0 where
  pub made : MakesListAnew result (StoresRows c.old.words c.segment c.at rows) size c
  pub few :
      GrowsByAtMost c.old.words c.new.words
      (structs_words rows.count size + 1 + 2 * (rows.count * rows.size.pointers))

-- The call is refused with k: there is no such list, and nothing changes; or memory is refused for
-- what the list becomes, or for a landing pad of one of its pointers.
abbrev pub RefusesStructs : (Tree → Type 0) → StructSize → CallAt → ErrorKind → Type 0
RefusesStructs Stands size c k =
    ((c.new ≡ c.old) × ((t : Tree) → Stands t → ⊥))
    ⊎ RefusesToBecome Stands (λ t. Ok (as_structs size t)) c.old c.new k

-- The call makes a new list at its place: structs of this size, made of the elements of the old
-- list. Or it is refused, which never happens if there is room, and the list stays. It takes at
-- most the words of the new list, a pad, and two words for each pointer of the old one.
pub record MakesListOfStructs (result : Result ExistingList ErrorKind) (Stands : Tree → Type 0)
    (size : StructSize) (c : CallAt) : Type 0 where
  pub made : MakesListAnew result Stands size c
  pub named : IfErr result (RefusesStructs Stands size c)
  pub fits : (t : Tree) → Stands t →
      HasRoomFor c.old c.segment c.at t (as_structs size t) → IsOk result
  pub few : (t : Tree) → Stands t →
      GrowsByAtMost c.old.words c.new.words
      (widened_words (as_structs size t) + 1 + 2 * direct_pointers t)

-- The call makes the list at its place one of structs of at least this size, as a new list if it
-- isn't yet; or it is refused, which never happens if there is room, and the list stays. It takes
-- at most the words of the new list, a pad, and two words for each pointer of the old one.
pub record MakesListWider {B : Type 0} (result : Result B ErrorKind) (Stands : Tree → Type 0)
    (size : StructSize) (c : CallAt) : Type 0 where
  pub anew :
      OnOk result
      ((t u : Tree) → Stands t → t ≢ Null → list_widened size.data_words size.pointers t ≡ Ok u →
      (HasSections size t → ⊥) → BecomesAnew c t u)
  pub granted : OnOk result (KeepsMemory c.old c.new)
  pub memory : IfErr result (SpendsMemory c.old c.new)
  pub refused : OnErr result ((t : Tree) → Stands t → GrowsByZeros c.old.words c.new.words)
  pub named : IfErr result (RefusesWider Stands size c.old c.new)
  pub exact : (t : Tree) (k : ErrorKind) → Stands t →
      list_widened size.data_words size.pointers t ≡ Err k →
      (c.new ≡ c.old) × IfErr result (λ name. name ≡ k)
  pub fits : WiderListFits Stands c.old c.segment c.at size → IsOk result
  pub few : (t u : Tree) → Stands t → list_widened size.data_words size.pointers t ≡ Ok u →
      GrowsByAtMost c.old.words c.new.words (widened_words u + 1 + 2 * direct_pointers t)

-- The call makes the list l at its place one of structs of at least this size, and returns its
-- place.
pub record WidensList (result : Result ExistingList ErrorKind) (l : ExistingList) (size : StructSize)
    (c : CallAt) : Type 0 where
  pub widened : IfOk result (WidensTo l size c)
  pub wider : MakesListWider result (IsList c.old.words c.segment c.at l) size c
