-- A pointer of a message being built.
use Rattle.std.specs.Prelude.{IfErr, ◌≡◌, ◌<◌, ◌≤◌, ℕ, true, Result}
use Rattle.std.specs.Borrow.{MutBor}
use Rattle.capnp_words.specs.declared.error.ErrorKind.{ErrorKind}
use Rattle.capnp_format.specs.Segments.{Segments, word_at, IsPlace}
use Rattle.capnp_format.specs.Tree.{Tree}
use Rattle.capnp_arena_traits.specs.View.{View}
use Rattle.capnp_in_place.specs.Existing.{is_unfound}
use Rattle.capnp_allocation.specs.Memory.{KeepsMemory}
use Rattle.capnp_allocation.specs.Stored.{IsStored}
use Rattle.capnp_allocation.specs.Makes.{CallAt, call_at}
use Rattle.capnp_readers.specs.Readers.{IsStructPlace, IsListPlace}
use Rattle.capnp_readers.specs.Sections.{IsInside, data_bits}
use Rattle.capnp_readers.specs.declared.readers.list_reader.ListPlace.{ListPlace}
use Rattle.capnp_readers.specs.declared.readers.struct_reader.StructPlace.{StructPlace}
use Rattle.capnp_in_place.specs.Rooms.{UsesMemory}
use Rattle.capnp_builders.specs.declared.builders.PointerBuilder.{PointerBuilder}
use Rattle.capnp_builders.specs.declared.builders.struct_builder.StructBuilder.{StructBuilder}
use Rattle.capnp_builders.specs.declared.builders.list_builder.ListBuilder.{ListBuilder}

-- A place that is written: the message, where in it, and how many words its segment can hold.
pub record Building : Type 0 where
  pub segments : Segments
  pub segment : ℕ
  pub at : ℕ
  pub room : ℕ

-- What a builder writes.
abbrev pub built : {A : Type 0} → (A → View) → PointerBuilder A → Building
built view b =
    record {
      segments = (view b.arena.now).words;
      segment = b.segment;
      at = b.at;
      room = (view b.arena.now).room b.segment;
    }

-- The place of the pointer is there.
abbrev pub IsThere : Building → Type 0
IsThere b = IsPlace b.segments b.segment b.at

-- The word of the pointer is zero.
abbrev pub IsNull : Building → Type 0
IsNull b = word_at b.segments b.segment b.at ≡ 0

-- A call leaves the builder over the same arena, at the same place.
pub record KeepsBuilder {A : Type 0} (old new : PointerBuilder A) : Type 0 where
  pub same : new.arena.ghost_name ≡ old.arena.ghost_name
  pub segment : new.segment ≡ old.segment
  pub at : new.at ≡ old.at

-- A call leaves the builder over the same arena, at the same place, and that is there.
pub record StaysThere {A : Type 0} (view : A → View) (old new : PointerBuilder A) : Type 0 where
  pub builder : KeepsBuilder old new
  pub there : IsThere (built view new)

-- A call leaves the builder of a struct, or of a list, over the same arena, at the same place,
-- which is inside the message.
pub record KeepsStructBuilder {A : Type 0} (view : A → View) (old new : StructBuilder A) : Type 0 where
  pub same : new.arena.ghost_name ≡ old.arena.ghost_name
  pub place : new.place ≡ old.place
  pub inside : IsStructPlace (view new.arena.now).words new.place

pub record KeepsListBuilder {A : Type 0} (view : A → View) (old new : ListBuilder A) : Type 0 where
  pub same : new.arena.ghost_name ≡ old.arena.ghost_name
  pub place : new.place ≡ old.place
  pub inside : IsListPlace (view new.arena.now).words new.place

-- The struct of b is inside the message, and so is the field of its data section at `offset`, in
-- fields of `width` bits.
pub record HoldsField {A : Type 0} (view : A → View) (b : StructBuilder A) (width offset : ℕ) : Type 0
  where
    pub inside : IsStructPlace (view b.arena.now).words b.place
    pub field : IsInside b.place.bits width offset

-- The struct of b is inside the message, and so is bit `offset` of its data section.
pub record HoldsBit {A : Type 0} (view : A → View) (b : StructBuilder A) (offset : ℕ) : Type 0 where
  pub inside : IsStructPlace (view b.arena.now).words b.place
  pub field : offset < b.place.bits

-- The list of b is inside the message, and has an element `index`, of at least `width` bits of
-- data.
pub record HoldsElement {A : Type 0} (view : A → View) (b : ListBuilder A) (index width : ℕ) : Type 0
  where
    pub inside : IsListPlace (view b.arena.now).words b.place
    pub range : index < b.place.count
    pub wide : width ≤ data_bits b.place.size b.place.struct_size

-- A call passes on the arena that it got, unchanged.
pub record IsSameArena {A : Type 0} (old new : MutBor A) : Type 0 where
  pub same : new.ghost_name ≡ old.ghost_name
  pub now : new.now ≡ old.now

-- A call passes on the arena that it got, and no memory was refused.
pub record HandsOn {A : Type 0} (view : A → View) (old new : MutBor A) : Type 0 where
  pub same : new.ghost_name ≡ old.ghost_name
  pub granted : KeepsMemory (view old.now) (view new.now)

-- A call on a builder; and one that consumes its builder, with the arena that it leaves.
abbrev pub calling : {A : Type 0} → (A → View) → PointerBuilder A → PointerBuilder A → CallAt
calling view b b' = call_at b.segment b.at (view b.arena.now) (view b'.arena.now)

abbrev pub calling_last : {A : Type 0} → (A → View) → PointerBuilder A → A → CallAt
calling_last view b now = call_at b.segment b.at (view b.arena.now) (view now)

-- P holds for every value that is stored at the place.
abbrev pub OfStored : Building → (Tree → Type 0) → Type 0
OfStored b P = (t : Tree) → IsStored b.segments b.segment b.at t → P t

-- A call that consumes its builder returns the builder of a struct, or of a list, over an arena.
abbrev pub GivesStruct : {A : Type 0} → A → StructPlace → StructBuilder A → Type 0
GivesStruct now place b = (b.arena.now ≡ now) × (b.place ≡ place)

abbrev pub GivesList : {A : Type 0} → A → ListPlace → ListBuilder A → Type 0
GivesList now place b = (b.arena.now ≡ now) × (b.place ≡ place)

-- The result of a call on a builder satisfies P for every value that is stored there, and the call
-- changes only words and the room of new segments; if it is refused, also the count of refused
-- requests.
pub record FindsStored {A C : Type 0} (view : A → View)
    (P : Result C ErrorKind → CallAt → Tree → Type 0) (b : PointerBuilder A) (now : A)
    (result : Result C ErrorKind) : Type 0 where
  pub found : OfStored (built view b) (P result (calling_last view b now))
  pub memory : UsesMemory result (view b.arena.now) (view now)

-- A call that looks for a value changes nothing if the place isn't null, and is refused there only
-- for what is there.
pub record LooksUp {A C : Type 0} (view : A → View)
    (P : Result C ErrorKind → CallAt → Tree → Type 0) (b : PointerBuilder A) (now : A)
    (result : Result C ErrorKind) : Type 0 where
  pub finds : FindsStored view P b now result
  pub set : (IsNull (built view b) → ⊥) →
      (view now ≡ view b.arena.now) × IfErr result (λ k. is_unfound k ≡ true)
