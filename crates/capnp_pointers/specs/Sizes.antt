-- What the steps of a walk for a size leave: its sums, or its refusal.
use Rattle.std.specs.Prelude.{◌≡◌, ◌≢◌, ℕ, ◌^◌, ◌<◌, Result, Ok, Err}
use Rattle.capnp_words.specs.declared.error.ErrorKind.{ErrorKind}
use Rattle.capnp_pointers.specs.declared.object.Object.{Object}
use Rattle.capnp_pointers.specs.declared.object.Object.TheVariants.{Struct, Pointers, Structs}
use Rattle.capnp_pointers.specs.Metered.{Metered}
use Rattle.capnp_pointers.specs.Reading.{Reading, word_of}
use Rattle.capnp_pointers.specs.declared.pointers.sizes.MessageSize.{MessageSize}
use Rattle.capnp_pointers.specs.declared.object.ChildRows.{ChildRows}
use Rattle.capnp_pointers.specs.declared.pointers.walk.Walk.{Walk}

-- What a call of a walk returns: the sums that it has left, or the name of its refusal.
abbrev pub walk_result : {A E : Type 0} → Result A E → Walk → Result MessageSize ErrorKind
walk_result (Ok x) new = Ok new.sums.size
walk_result (Err k) new = Err new.sums.refusal

-- A call of a walk does what f does: from its sums and its limiter to what it returns and leaves.
abbrev pub Walks :
    {A E : Type 0} → (MessageSize → Metered MessageSize) → Walk → Walk → Result A E → Type 0
Walks f old new result = f old.sums.size old.lim ≡ (walk_result result new, new.lim)

-- The word of a place, of 64 bits, which isn't null.
pub record IsWordAt (w : ℕ) (r : Reading) : Type 0 where
  pub there : w ≡ word_of r
  pub small : w < 2 ^ 64
  pub some : w ≢ 0

-- The pointers of an object are those of these elements.
abbrev pub HasRows : Object → ChildRows → Type 0
HasRows (Struct start size) rows =
    (rows.start ≡ start) × (rows.data_words ≡ size.data_words) × (rows.pointers ≡ size.pointers) ×
    (rows.count ≡ 1)
HasRows (Pointers start count) rows =
    (rows.start ≡ start) × (rows.data_words ≡ 0) × (rows.pointers ≡ count) × (rows.count ≡ 1)
HasRows (Structs start size count) rows =
    (rows.start ≡ start) × (rows.data_words ≡ size.data_words) × (rows.pointers ≡ size.pointers) ×
    (rows.count ≡ count)
HasRows object rows = ⊥
