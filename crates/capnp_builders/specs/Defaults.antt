-- Defaults: the values of null pointers ("Default Values").
use Rattle.std.specs.Prelude.{◌≡◌, ◌⊎◌, ℕ, ◌-◌, ◌/◌, ◌^◌, ◌<◌, ◌≤◌, List, if◌then◌else◌}
use Rattle.std.specs.Prelude.{nat_eq, length, slice_get, true, false, Option, Some, None, IfSome, Result, Err}
use Rattle.std.specs.Prelude.{IsOk, IsErrAnd, ⊤}
use Rattle.std.specs.Borrow.{Bor}
use Rattle.std.specs.Option.{option_map_or}
use Rattle.capnp_words.specs.declared.error.ErrorKind.{ErrorKind}
use Rattle.capnp_words.specs.declared.error.ErrorKind.TheVariants.{ExistingPointerIsNotAList}
use Rattle.capnp_words.specs.declared.error.ErrorKind.TheVariants.{MessageContainsOutOfBoundsPointer}
use Rattle.capnp_words.specs.Meter.{unused}
use Rattle.capnp_format.specs.Bytes.{words_of}
use Rattle.capnp_format.specs.Segments.{word_at, Grows}
use Rattle.capnp_format.specs.Tree.{Tree, Null, capabilities}
use Rattle.capnp_arena_traits.specs.View.{View}
use Rattle.capnp_allocation.specs.Memory.{KeepsMemory, SpendsMemory}
use Rattle.capnp_allocation.specs.Stored.{IsReplaced, IsStored}
use Rattle.capnp_pointers.specs.Faults.{HasFault}
use Rattle.capnp_pointers.specs.Outcomes.{MeansThere}
use Rattle.capnp_pointers.specs.Reading.{Reading}
use Rattle.capnp_pointers.specs.Source.{default_segment, default_segments}
use Rattle.capnp_pointers.specs.Wanted.{of_default}
use Rattle.capnp_copies.specs.Changes.{IsCopiedInRoom, IsTooLarge, LacksRoom, copy_call}
use Rattle.capnp_copies.specs.Growth.{MakesAtMost}
use Rattle.capnp_copies.specs.Originals.{value_original}
use Rattle.capnp_copies.specs.Rooms.{CanBeCopied}
use Rattle.capnp_allocation.specs.Makes.{CallAt, call_at}
use Rattle.capnp_in_place.specs.Rooms.{UsesMemory}
use Rattle.capnp_builders.specs.Building.{Building, IsThere}

-- The first word of a default, whose bytes are one segment. Reading it isn't charged, and may enter
-- as many levels as a nesting limit can express.
abbrev pub default_root : List ℕ → Reading
default_root bytes =
    record {
      segments = default_segments bytes;
      charging = false;
      of_default = true;
      levels = 2 ^ 31 - 1;
      segment = default_segment;
      at = 0;
    }

-- A default isn't copied, which is refused with k: what its first word leads to has this fault,
-- which a capability is too; or there is no room for one of its objects.
abbrev pub RefusesDefault : List ℕ → CallAt → ErrorKind → Type 0
RefusesDefault bytes c k =
    let copy = copy_call of_default c (unused None) (unused None) in
    HasFault of_default (default_root bytes) k
    ⊎ (LacksRoom (value_original (default_root bytes)) copy k ×
    IsTooLarge (value_original (default_root bytes)) copy)

-- The default, if there is one, has fewer than 2^32 words.
abbrev pub IsShortDefault : Option (Bor (List ℕ)) → Type 0
IsShortDefault default = IfSome default (λ d. length d.now / 8 < 2 ^ 32)

-- The place of a call that takes a default is there, and the default is short.
pub record TakesDefault (b : Building) (default : Option (Bor (List ℕ))) : Type 0 where
  pub there : IsThere b
  pub few : IsShortDefault default

-- What a call does with its default: it ignores it; it is refused with an error; or it copies the
-- value of these bytes in place of null.
pub data DefaultUse : Type 0 where
  ignored : DefaultUse
  denied : ErrorKind → DefaultUse
  copied : List ℕ → DefaultUse

-- What a call does with a default where t is. A default is only for null, and must have a first
-- word. `of_null` is for one whose first word is null.
abbrev pub default_use : DefaultUse → Option (Bor (List ℕ)) → Tree → DefaultUse
default_use of_null (Some d) Null =
    option_map_or (λ x. if nat_eq x 0 then of_null else copied d.now) (slice_get (words_of d.now) 0)
    (denied MessageContainsOutOfBoundsPointer)
default_use of_null default t = ignored

-- What a call for a struct or a list that finds t does with its default: one whose first word is
-- null counts as none.
abbrev pub object_default : Option (Bor (List ℕ)) → Tree → DefaultUse
object_default default t = default_use ignored default t

-- What a call for a text or data that finds t does with its default: one whose first word is null
-- isn't a list.
abbrev pub blob_default : Option (Bor (List ℕ)) → Tree → DefaultUse
blob_default default t = default_use (denied ExistingPointerIsNotAList) default t

-- There is no default, or one whose first word is null: nothing replaces null.
abbrev pub IsIgnoredDefault : Option (Bor (List ℕ)) → Type 0
IsIgnoredDefault default = default_use ignored default Null ≡ ignored

-- The value u of a default, which has no capabilities, is stored in place of null. It takes at most
-- as many words as reading it costs, and a landing pad for each pointer followed.
pub record PutsDefault (bytes : List ℕ) (c : CallAt) (u : Tree) : Type 0 where
  pub meant : (n : ℕ) × MeansThere (default_root bytes) u n
  pub plain : capabilities u ≡ 0
  pub replaced : IsReplaced c.old.words c.new.words c.segment c.at Null u
  pub stands : IsCopiedInRoom c.old c.new c.segment c.at u
  pub memory : KeepsMemory c.old c.new
  pub taken : (value_original (default_root bytes)).takes of_default (unused None) (unused None)
      (MakesAtMost c.segment c.old c.new)

-- The copy of a default is refused with k: the pointer stays null, and new words are zero.
pub record DropsDefault (bytes : List ℕ) (c : CallAt) (k : ErrorKind) : Type 0 where
  pub named : RefusesDefault bytes c k
  pub replaced : IsReplaced c.old.words c.new.words c.segment c.at Null Null
  pub memory : SpendsMemory c.old c.new k
  pub taken : (value_original (default_root bytes)).takes_until of_default (unused None)
      (unused None) (MakesAtMost c.segment c.old c.new)

-- What a call does where t is, by its use of a default. Without one, P holds for t. Or it is
-- refused, and nothing changes. Or the default's value replaces null, and from there on P holds for
-- that value; or the copy of the default is refused.
abbrev pub WithDefault : {B : Type 0} → DefaultUse → CallAt → Tree → (CallAt → Tree → Type 0) →
    Result B ErrorKind → Type 0
WithDefault ignored c t P result = P c t
WithDefault (denied k) c t P result = (result ≡ Err k) × (c.new ≡ c.old)
WithDefault (copied bytes) c t P result =
    ((mid : View) × (value : Tree) × PutsDefault bytes (record c { new = mid }) value ×
    P (record c { old = mid }) value) ⊎ IsErrAnd result (DropsDefault bytes c)

-- The value of these bytes has no fault, and its words fit after those of segment id.
abbrev pub DefaultCopyFits : List ℕ → View → ℕ → Type 0
DefaultCopyFits bytes v id =
    CanBeCopied (value_original (default_root bytes)) of_default (unused None) v id

-- The default, if there is one, has a first word and no fault, and its words fit after those of
-- segment id.
abbrev pub DefaultFits : Option (Bor (List ℕ)) → View → ℕ → Type 0
DefaultFits default v id = IfSome default (λ d. (8 ≤ length d.now) × DefaultCopyFits d.now v id)

-- A call at (s, p) has room, by its use of a default. Without one, `Fits` holds for the message v.
-- With one, the default's copy fits, and `Fits` holds for every message that this can leave. A
-- default that is refused fits nowhere.
abbrev pub FitsWithDefault : DefaultUse → View → ℕ → ℕ → (View → Type 0) → Type 0
FitsWithDefault ignored v s p Fits = Fits v
FitsWithDefault (denied k) v s p Fits = ⊥
FitsWithDefault (copied bytes) v s p Fits =
    DefaultCopyFits bytes v s × ((m : View) (u : Tree) → PutsDefault bytes (call_at s p v m) u →
    Fits m)

-- The call stores its default if it uses one, and does nothing else.
abbrev pub PutsDefaultOver : DefaultUse → CallAt → Tree → Result ⊤ ErrorKind → Type 0
PutsDefaultOver w c t result = WithDefault w c t (λ d u. IsOk result × (d.new ≡ d.old)) result

-- The call puts a default in place of null. For any value t that is there, `use_of t` says whether
-- it uses one. What isn't null stays, and no segment becomes shorter.
pub record PutsDefaultBy (use_of : Tree → DefaultUse) (c : CallAt) (result : Result ⊤ ErrorKind)
    : Type 0 where
  pub put : (t : Tree) → IsStored c.old.words c.segment c.at t → PutsDefaultOver (use_of t) c t result
  pub stays : (word_at c.old.words c.segment c.at ≡ 0 → ⊥) → IsOk result × (c.new ≡ c.old)
  pub longer : Grows c.old.words c.new.words
  pub memory : UsesMemory result c.old c.new
