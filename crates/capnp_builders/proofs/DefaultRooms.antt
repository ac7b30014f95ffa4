-- The room for a call with a default: the copy of the default fits, and then what the call does
-- with the value that is there.
use Rattle.std.proofs.Common.{◌≡◌, inl, inr, ℕ, ◌<◌, ◌≤◌, Bool, true, false, cond, List, [], ◌∷◌, length, nat_eq, slice_get, if◌then◌else◌, Option, Some, None, Result, Ok, Err, refl, sym, subst, arith}
use Rattle.std.specs.Borrow.{Bor}
use Rattle.std.specs.Option.{option_map_or}
use Rattle.std.proofs.lemmas.Bool.{cases_lt, false≢true}
use Rattle.capnp_words.specs.declared.error.ErrorKind.{ErrorKind}
use Rattle.capnp_words.specs.declared.error.ErrorKind.TheVariants.{MessageContainsOutOfBoundsPointer}
use Rattle.capnp_format.specs.Bytes.{words_of}
use Rattle.capnp_format.specs.Tree.{Tree, Null, Capability, Struct, Flat, Pointers, Structs}
use Rattle.capnp_format.proofs.WordsOf.{length-words_of}
use Rattle.capnp_arena_traits.specs.View.{View}
use Rattle.capnp_allocation.specs.Makes.{call_at}
use Rattle.capnp_builders.specs.Defaults.{DefaultUse, ignored, denied, copied, object_default, DefaultCopyFits, DefaultFits, FitsWithDefault, PutsDefaultOver}

-- if the default leaves null, nothing is put
pub null_left : (w : DefaultUse) (s p : ℕ) (a m : View) (o : Result (Unit {0}) ErrorKind) → w ≡ ignored → PutsDefaultOver w (call_at s p a m) Null o → m ≡ a
null_left w s p a m o e put = (let P : DefaultUse → Type 0 = λ u. PutsDefaultOver u (call_at s p a m) Null o in subst P e put).1

-- the call has room in the message after its default is put
pub then_fits : (w : DefaultUse) (s p : ℕ) (a m : View) (t : Tree) (x : Unit {0}) (Fits : View → Type 0) → FitsWithDefault w a s p Fits → PutsDefaultOver w (call_at s p a m) t (Ok x) → Fits m
then_fits ignored s p a m t x Fits fits (ok, same) = subst Fits (sym same) fits
then_fits (denied k) s p a m t x Fits fits o = absurd fits
then_fits (copied bytes) s p a m t x Fits fits (inl (mid, value, put, (ok, same))) = subst Fits (sym same) (fits.1 mid value put)
then_fits (copied bytes) s p a m t x Fits fits (inr e) = absurd e

-- the bytes that are copied are those of the default, which has a first word
not_copied : (bytes : List ℕ) → ignored ≡ copied bytes → ⊥
not_copied bytes e = cc

-- what a call that finds null does with a default of these words
abbrev pub use_of_words : DefaultUse → List ℕ → List ℕ → DefaultUse
use_of_words of_null bytes ws = option_map_or (λ x. if nat_eq x 0 then of_null else copied bytes) (slice_get ws 0) (denied MessageContainsOutOfBoundsPointer)

copied_words : (bytes b ws : List ℕ) → use_of_words ignored b ws ≡ copied bytes → (b ≡ bytes) × (0 < length ws)
copied_words bytes b [] e = absurd (no_refusal e)
  where
    no_refusal : denied MessageContainsOutOfBoundsPointer ≡ copied bytes → ⊥
    no_refusal e = cc
copied_words bytes b (x ∷ xs) e = (by_first (nat_eq x 0) e, omega arith)
  where
    by_first : (z : Bool) → cond z ignored (copied b) ≡ copied bytes → b ≡ bytes
    by_first true e = absurd (not_copied bytes e)
    by_first false e = cc

has_word : (b : List ℕ) → 0 < length (words_of b) → 8 ≤ length b
has_word b some = elim (cases_lt (length b) 8) [
  | inl short ↦ absurd (omega (arith, length-words_of 0 b (omega arith) (omega arith)))
  | inr long ↦ long
]

copy_fits : (default : Option (Bor (List ℕ))) (t : Tree) (bytes : List ℕ) (v : View) (id : ℕ) → object_default default t ≡ copied bytes → DefaultCopyFits bytes v id → DefaultFits default v id
copy_fits None t bytes v id e fits = tt
copy_fits (Some d) Null bytes v id e fits =
    let (same, some) = copied_words bytes d.now (words_of d.now) e in
    (has_word d.now some, subst (λ b. DefaultCopyFits b v id) (sym same) fits)
copy_fits (Some d) (Capability i) bytes v id e fits = absurd (not_copied bytes e)
copy_fits (Some d) (Struct ws ts) bytes v id e fits = absurd (not_copied bytes e)
copy_fits (Some d) (Flat n ns) bytes v id e fits = absurd (not_copied bytes e)
copy_fits (Some d) (Pointers ts) bytes v id e fits = absurd (not_copied bytes e)
copy_fits (Some d) (Structs n q es) bytes v id e fits = absurd (not_copied bytes e)

-- if a default is refused although there is room, it is one that is copied, and it fits
refused_copy : (w : DefaultUse) (s p : ℕ) (a m : View) (t : Tree) (k : ErrorKind) (Fits : View → Type 0) → FitsWithDefault w a s p Fits → PutsDefaultOver w (call_at s p a m) t (Err k) →
    (bytes : List ℕ) × (w ≡ copied bytes) × DefaultCopyFits bytes a s
refused_copy ignored s p a m t k Fits fits (ok, same) = absurd (false≢true ok)
refused_copy (denied l) s p a m t k Fits fits o = absurd fits
refused_copy (copied bytes) s p a m t k Fits fits o = (bytes, refl, fits.0)

pub refused_default : (default : Option (Bor (List ℕ))) (s p : ℕ) (a m : View) (t : Tree) (k : ErrorKind) (Fits : View → Type 0) → FitsWithDefault (object_default default t) a s p Fits →
    PutsDefaultOver (object_default default t) (call_at s p a m) t (Err k) → DefaultFits default a s
refused_default default s p a m t k Fits fits put =
    let (bytes, is, copy) = refused_copy (object_default default t) s p a m t k Fits fits put in
    copy_fits default t bytes a s is copy
