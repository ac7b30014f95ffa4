-- Fields that have defaults.
use Rattle.std.proofs.Common.{◌≡◌, ◌≢◌, ℕ, pos, ◌-◌, ◌^◌, Bool, false, List, Result, refl, sym, subst, ◌∙◌}
use Rattle.std.proofs.lemmas.Bool.{false≢true}
use Rattle.std.specs.Borrow.{Bor}
use Rattle.std.specs.Prelude.{◌↔◌, IfOk, IsTrue}
use Rattle.capnp_format.specs.Tree.{Tree, Null, Capability, Struct, Flat, Pointers, Structs}
use Rattle.capnp_words.specs.Meter.{Meter, Affords}
use Rattle.capnp_arena_traits.specs.declared.arena.reader_arena.ReaderArena.{Ghosts}
use Rattle.capnp_pointers.specs.Source.{default_segment}
use Rattle.capnp_pointers.specs.declared.source.Source.TheVariants.{Default}
use Rattle.capnp_readers.specs.Readers.{read_by}
use Rattle.capnp_readers.specs.Values.{HasValue, list_numbers, text_bytes}
use Rattle.capnp_readers.specs.declared.readers.PointerReader.{PointerReader}
use Rattle.typed_reading.specs.Values.{IsDefault, data_or, default_place, text_or}

-- a pointer that a test says isn't null
pub not_null : {b : Bool} {t : Tree} → (IsTrue b ↔ (t ≡ Null)) → b ≡ false → t ≢ Null
not_null is set e = false≢true (sym set ∙ is.1 e)

pub not_zero : {b : Bool} {n : ℕ} → (IsTrue b ↔ (n ≡ 0)) → b ≡ false → n ≢ 0
not_zero is set e = false≢true (sym set ∙ is.1 e)

-- the bytes of a text that is null, and of one that isn't
pub text_of_default : (default : List ℕ) (t : Tree) → t ≡ Null → default ≡ text_or default t
text_of_default default t e = subst (λ u. default ≡ text_or default u) (sym e) refl

pub text_of_value : (default : List ℕ) (t : Tree) → t ≢ Null → text_bytes t ≡ text_or default t
text_of_value default Null other = absurd (other refl)
text_of_value default (Capability i) other = refl
text_of_value default (Struct ws ts) other = refl
text_of_value default (Flat size ns) other = refl
text_of_value default (Pointers ts) other = refl
text_of_value default (Structs d q es) other = refl

-- likewise of data
pub data_of_default : (default : List ℕ) (t : Tree) → t ≡ Null → default ≡ data_or default t
data_of_default default t e = subst (λ u. default ≡ data_or default u) (sym e) refl

pub data_of_value : (default : List ℕ) (t : Tree) → t ≢ Null → list_numbers t ≡ data_or default t
data_of_value default Null other = absurd (other refl)
data_of_value default (Capability i) other = refl
data_of_value default (Struct ws ts) other = refl
data_of_value default (Flat size ns) other = refl
data_of_value default (Pointers ts) other = refl
data_of_value default (Structs d q es) other = refl

-- the same bytes are returned
pub same_bytes : {E : Type 0} (result : Result (Bor (List ℕ)) E) {bytes others : List ℕ} → bytes ≡ others → IfOk result (λ r. r.now ≡ bytes) → IfOk result (λ r. r.now ≡ others)
same_bytes result e h = subst (λ bs. IfOk result (λ r. r.now ≡ bs)) e h

module _ {A : Type 0} (g : Ghosts A) where
  -- the pointer of a default means what the default means, free of charge
  pub record ReadsDefault (field : PointerReader A g) (bytes : List ℕ) : Type 0 where
    pub value : (d : Tree) → IsDefault bytes d → HasValue (read_by g field) d
    pub free : (m : Meter) (k : ℕ) → Affords (read_by g field).charging m k

  pub reads_default : (field : PointerReader A g) (bytes : Bor (List ℕ)) → field.source ≡ Default bytes → (field.place.segment ≡ default_segment) × (field.place.at ≡ 0) → field.nesting_limit ≡ pos (2 ^ 31 - 1) → ReadsDefault field bytes.now
  reads_default field bytes source place nesting = record {
    value = λ d is. rw (source, place.0, place.1, nesting) is.means;
    free = λ m k. rw source tt;
  }

  pub at_default : (field : PointerReader A g) (bytes : Bor (List ℕ)) → field.source ≡ Default bytes → (field.place.segment ≡ default_segment) × (field.place.at ≡ 0) → field.nesting_limit ≡ pos (2 ^ 31 - 1) → read_by g field ≡ default_place bytes.now
  at_default field bytes source place nesting = rw (source, place.0, place.1, nesting) refl
