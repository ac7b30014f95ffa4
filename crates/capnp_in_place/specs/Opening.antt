-- Structs and lists of structs that are opened for writing, at least as large as requested
-- ("Structs", "Lists").
use Rattle.std.specs.Prelude.{◌≡◌, ◌⊎◌, ℕ, ◌+◌, ◌*◌, ◌≤◌, length, Option}
use Rattle.std.specs.Prelude.{Some, None, IfSome, Result, Ok, Err}
use Rattle.capnp_words.specs.declared.error.ErrorKind.{ErrorKind}
use Rattle.capnp_words.specs.declared.error.ErrorKind.TheVariants.{MessageContainsNonStructPointerWhereStructPointerWasExpected}
use Rattle.capnp_format.specs.Forest.{target}
use Rattle.capnp_format.specs.Segments.{Segments, segment}
use Rattle.capnp_format.specs.Tree.{Tree, Null, Struct}
use Rattle.capnp_words.specs.declared.wire_pointer.ElementSize.TheVariants.{Void}
use Rattle.capnp_words.specs.declared.wire_pointer.StructSize.{StructSize}
use Rattle.capnp_in_place.specs.declared.existing.ExistingList.{ExistingList}
use Rattle.capnp_in_place.specs.declared.existing.ExistingStruct.{ExistingStruct}
use Rattle.capnp_arena_traits.specs.declared.arena.WordPlace.{WordPlace}
use Rattle.capnp_in_place.specs.Existing.{list_in, struct_in, IsStructInside}
use Rattle.capnp_allocation.specs.Made.{zero_struct}
use Rattle.capnp_allocation.specs.Makes.{CallAt}
use Rattle.capnp_allocation.specs.Memory.{KeepsMemory, SpendsMemory}
use Rattle.capnp_allocation.specs.Stored.{IsStored, IsReplaced}
use Rattle.capnp_in_place.specs.Anew.{BecomesAnew}
use Rattle.capnp_in_place.specs.Rooms.{GrowsByAtMost, RefusesGrowth, RefusesToBecome, widened_words}
use Rattle.capnp_in_place.specs.Rooms.{direct_pointers}
use Rattle.capnp_in_place.specs.Widened.{HasSections, widened, list_widened}

-- The struct of this size whose sections start at a place.
abbrev pub existing_struct : WordPlace → StructSize → ExistingStruct
existing_struct start size = record { segment = start.segment; start = start.at; size = size }

-- What a value becomes if a struct of at least this size is opened, or the error with which that is
-- refused. Null becomes a new struct.
abbrev pub struct_opened : StructSize → Tree → Result Tree ErrorKind
struct_opened size Null = Ok (zero_struct size)
struct_opened size (Struct ws ts) = Ok (widened size ws ts)
struct_opened size t = Err MessageContainsNonStructPointerWhereStructPointerWasExpected

-- From before to after the call, u replaces t, and what the call returns leads to u (`given`). If t
-- is large enough, nothing changes; otherwise u is a new object.
pub record Opened (size : StructSize) (c : CallAt) (t u : Tree) (given : Type 0) : Type 0 where
  pub replaced : IsReplaced c.old.words c.new.words c.segment c.at t u
  pub leads : given
  pub memory : KeepsMemory c.old c.new
  pub unchanged : HasSections size t → c.new ≡ c.old
  pub anew : (HasSections size t → ⊥) → BecomesAnew c t u

-- Memory is refused with k for a value t that isn't large enough and was to become u. t is
-- unchanged, and new words are zero: at most the words of u, one for a pad, and two for each
-- pointer of t. The refused request is for the words of u, or for those of a landing pad for one of
-- the pointers of t.
pub record Unopened (size : StructSize) (c : CallAt) (t u : Tree) (k : ErrorKind) : Type 0 where
  pub stands : IsReplaced c.old.words c.new.words c.segment c.at t t
  pub narrow : HasSections size t → ⊥
  pub memory : SpendsMemory c.old c.new k
  pub taken : GrowsByAtMost c.old.words c.new.words (widened_words u + 1 + 2 * direct_pointers t)
  pub full : RefusesGrowth c.old c.new (widened_words u) (direct_pointers t) k

-- The call opens t, which becomes u, and returns what `Given` states; or it is refused, for what t
-- is, which changes nothing, or for memory.
abbrev pub Opens : {B : Type 0} → StructSize → (Segments → ℕ → ℕ → Tree → B → Type 0) → CallAt →
    Tree → Result Tree ErrorKind → Result B ErrorKind → Type 0
Opens size Given c t (Ok u) (Ok b) = Opened size c t u (Given c.new.words c.segment c.at u b)
Opens size Given c t (Ok u) (Err k) = Unopened size c t u k
Opens size Given c t (Err k) result = (result ≡ Err k) × (c.new ≡ c.old)

-- The pointer at (s, p) leads to the struct u, which is e; or to the list u, which is l, or None if
-- u is null. All its structs are inside their segment.
abbrev pub LeadsToOne : Segments → ℕ → ℕ → Tree → ExistingStruct → Type 0
LeadsToOne S s p u e = (struct_in (target S s p) u ≡ Some e) × IsStructInside S e

abbrev pub LeadsToAll : Segments → ℕ → ℕ → Tree → Option ExistingList → Type 0
LeadsToAll S s p u l =
    (list_in (target S s p) Void u ≡ Ok l)
    × IfSome l (λ m. m.start + m.count * (m.struct_size.data_words + m.struct_size.pointers)
    ≤ length (segment S m.segment))

-- The call opens the struct that is there, or a new one in place of null.
abbrev pub OpensStruct : {B : Type 0} → (Segments → ℕ → ℕ → Tree → B → Type 0) → StructSize →
    Result B ErrorKind → CallAt → Tree → Type 0
OpensStruct Given size result c t = Opens size Given c t (struct_opened size t) result

-- A call that opens a struct is refused with k: the place doesn't store one, which changes nothing;
-- or memory is refused.
abbrev pub IsNoWider : StructSize → CallAt → ErrorKind → Type 0
IsNoWider size c k =
    ((k ≡ MessageContainsNonStructPointerWhereStructPointerWasExpected) × (c.new ≡ c.old)
    × ((t : Tree) → IsStored c.old.words c.segment c.at t →
    struct_in (target c.old.words c.segment c.at) t ≡ None))
    ⊎ RefusesToBecome (IsStored c.old.words c.segment c.at) (struct_opened size) c.old c.new k

-- The call opens the list of structs that is there, after making one of any other list. For Null
-- there is no list (None), and nothing changes.
abbrev pub OpensExistingList : StructSize → Result (Option ExistingList) ErrorKind → CallAt → Tree →
    Type 0
OpensExistingList size result c Null = (result ≡ Ok None) × (c.new ≡ c.old)
OpensExistingList size result c t =
    Opens size LeadsToAll c t (list_widened size.data_words size.pointers t) result
