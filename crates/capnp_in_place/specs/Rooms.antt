-- The words that widening an object takes, and the room for them.
use Rattle.std.specs.Prelude.{◌≡◌, ◌≢◌, ◌⊎◌, ℕ, ◌+◌, ◌-◌, ◌*◌, ◌<◌, ◌≤◌, true, Result, Ok, List}
use Rattle.std.specs.Prelude.{length, sum_by, IfErr, OnErr, OnOk}
use Rattle.capnp_words.specs.declared.error.ErrorKind.{ErrorKind}
use Rattle.capnp_format.specs.Segments.{Segments, Grows, segment, word_at}
use Rattle.capnp_format.specs.Tree.{Tree, Struct, Pointers, Structs, Trees, count, element_count}
use Rattle.capnp_format.specs.Forest.{target}
use Rattle.capnp_words.specs.declared.wire_pointer.StructSize.{StructSize}
use Rattle.capnp_arena_traits.specs.View.{View}
use Rattle.capnp_allocation.specs.Memory.{HasRoom, KeepsMemory, SpendsMemory, RefusesWords, start_of}
use Rattle.capnp_allocation.specs.Near.{HasOwnRoom}
use Rattle.capnp_allocation.specs.Stored.{IsStored}
use Rattle.capnp_arena_traits.specs.declared.arena.WordPlace.{WordPlace}
use Rattle.capnp_in_place.specs.Moved.{moves_into, near_pointers}
use Rattle.capnp_in_place.specs.Widened.{widened, list_widened}
use Rattle.capnp_words.specs.Names.{is_allocation_name}

-- From S to R at most n words are allocated.
abbrev pub GrowsByAtMost : Segments → Segments → ℕ → Type 0
GrowsByAtMost S R n = sum_by length R ≤ sum_by length S + n

-- A call changes only words and the room of new segments; if it is refused, also the count of
-- refused requests.
pub record UsesMemory {A : Type 0} (result : Result A ErrorKind) (old new : View) : Type 0 where
  pub granted : OnOk result (KeepsMemory old new)
  pub refused : IfErr result (SpendsMemory old new)

-- A call allocates at most the two words of a landing pad; or it is refused these, and no word is
-- written.
pub record TakesPad {A : Type 0} (result : Result A ErrorKind) (old new : View) : Type 0 where
  pub granted : OnOk result (KeepsMemory old new)
  pub memory : IfErr result (SpendsMemory old new)
  pub full : IfErr result (RefusesWords old new 1)
  pub refused : OnErr result (new.words ≡ old.words)
  pub longer : Grows old.words new.words
  pub few : GrowsByAtMost old.words new.words 2

-- There is room for landing pads of n objects in segment k: one word each in that segment while it
-- has room, and for the others two words each in another one.
abbrev pub HasPadRoom : View → ℕ → ℕ → Type 0
HasPadRoom v k n = (j : ℕ) × (j < length v.words) × (j ≢ k)
    × HasOwnRoom v j (2 * (n - (v.room k - length (segment v.words k))))

-- There is room for an object of m words, whose pointer is in segment s, and for landing pads of n
-- objects in segment k: one word each in that segment while it has room, and for the others two
-- words each, next to the object.
abbrev pub HasRoomAndPads : View → ℕ → ℕ → ℕ → ℕ → Type 0
HasRoomAndPads v s m k n = HasRoom v s (m + 2 * (n - (v.room k - length (segment v.words k))))

-- The number of words of a struct or a list of structs, and the number of pointers in a struct or
-- in the elements of a list.
abbrev pub widened_words : Tree → ℕ
widened_words (Struct ws ts) = length ws + count ts
widened_words (Structs d q es) = 1 + element_count es * (d + q)
widened_words t = 0

abbrev pub direct_pointers : Tree → ℕ
direct_pointers (Struct ws ts) = count ts
direct_pointers (Pointers ts) = count ts
direct_pointers (Structs d q es) = element_count es * q
direct_pointers t = 0

-- An object of n words, to which this many pointers are moved, is refused with k: for its words and
-- a pad, and then no words are allocated; or for the two words of a landing pad of one of these
-- pointers.
abbrev pub RefusesGrowth : View → View → ℕ → ℕ → ErrorKind → Type 0
RefusesGrowth old new n pointers k =
    (RefusesWords old new n k × (new.words ≡ old.words))
    ⊎ ((0 < pointers) × RefusesWords old new 1 k)

-- The value that is there finds no room for what it is to become, and the growth is refused with k:
-- for the words of what it becomes, or for a landing pad of one of its pointers.
pub record RefusesToBecome (Stands : Tree → Type 0) (becomes : Tree → Result Tree ErrorKind)
    (old new : View) (k : ErrorKind) : Type 0 where
  pub name : is_allocation_name k ≡ true
  pub memory : SpendsMemory old new k
  pub full : (t u : Tree) → Stands t → becomes t ≡ Ok u →
      RefusesGrowth old new (widened_words u) (direct_pointers t) k

-- There is room for u, which t at (s, p) becomes, and for landing pads of the near pointers of t.
abbrev pub HasRoomFor : View → ℕ → ℕ → Tree → Tree → Type 0
HasRoomFor v s p t u =
    let a : WordPlace = start_of (target v.words s p) in
    HasRoomAndPads v s (widened_words u) a.segment (near_pointers v.words (moves_into a a t u))

-- (s, p) stores a struct, and there is room for what it becomes.
abbrev pub WiderStructFits : View → ℕ → ℕ → StructSize → Type 0
WiderStructFits v s p size = (ws : List ℕ) × (ts : Trees) × IsStored v.words s p (Struct ws ts) ×
    HasRoomFor v s p (Struct ws ts) (widened size ws ts)

-- There is room to open a struct at (s, p): for a new one in place of null, or for what the struct
-- that is there becomes.
abbrev pub OpeningFits : View → ℕ → ℕ → StructSize → Type 0
OpeningFits v s p size =
    ((word_at v.words s p ≡ 0) × HasRoom v s (size.data_words + size.pointers)) ⊎
    WiderStructFits v s p size

-- The value at (s, p) becomes a list of structs if these are wanted, and there is room for that.
abbrev pub WiderListFits : (Tree → Type 0) → View → ℕ → ℕ → StructSize → Type 0
WiderListFits Stands v s p size =
    (t : Tree) × (u : Tree) × Stands t × (list_widened size.data_words size.pointers t ≡ Ok u) ×
    HasRoomFor v s p t u
