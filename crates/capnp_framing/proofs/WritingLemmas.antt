-- Bytes are written one after another.
use Rattle.std.proofs.Common.{◌≡◌, ℕ, Result, Err, List, [], ◌++◌, Option, Some, None, refl, sym, ap, ◌∙◌, append-nil, arith}
use Rattle.std.specs.Io.KnownBytes.{Appends}
use Rattle.capnp_framing.specs.declared.framing.frame_error.FrameError.{FrameError}
use Rattle.capnp_framing.specs.declared.framing.frame_error.FrameError.TheVariants.{NoSegments, TooManySegments, WriteFailed}
use Rattle.std.proofs.lemmas.Grind.{common_steps}

-- Of `more`, which is written after known bytes, `rest` is left over.
abbrev pub IsLeftOver : Option (List ℕ) → Option (List ℕ) → List ℕ → List ℕ → Type 0
IsLeftOver None new more rest = Unit {0}
IsLeftOver (Some xs) None more rest = ⊥
IsLeftOver (Some xs) (Some ys) more rest = ys ++ rest ≡ xs ++ more

-- Of `all`, which is written after known bytes, `rest` is left over, and then `more` is appended.
pub record Writes (a b c : Option (List ℕ)) (all rest more : List ℕ) : Type 0 where
  pub left_over : IsLeftOver a b all rest
  pub appended : Appends b c more

-- more is written of what is left over
pub left_over_less : {a b c : Option (List ℕ)} {all rest more : List ℕ} (less : List ℕ) → Writes a b c all rest more → rest ≡ more ++ less → IsLeftOver a c all less
left_over_less {a = None} less w e = tt
left_over_less {a = Some x} {b = None} less w e = absurd w.left_over
left_over_less {a = Some x} {b = Some y} {c = None} less w e = absurd w.appended
left_over_less {a = Some x} {b = Some y} {c = Some z} less w e = grind (arith, common_steps)

pub left_over_end : (a b : Option (List ℕ)) (all rest : List ℕ) → IsLeftOver a b all rest → rest ≡ [] → Appends a b all
left_over_end None b all rest left e = tt
left_over_end (Some x) None all rest left e = absurd left
left_over_end (Some x) (Some y) all rest left e = sym (append-nil y) ∙ ap (λ (xs : List ℕ). y ++ xs) (sym e) ∙ left

-- nothing is written yet
pub left_over_all : (a : Option (List ℕ)) (all : List ℕ) → IsLeftOver a a all all
left_over_all None all = tt
left_over_all (Some x) all = refl

-- some bytes are written, and then more
pub appends_both : (a b c : Option (List ℕ)) (first more : List ℕ) → Appends a b first → Appends b c more → Appends a c (first ++ more)
appends_both None b c first more f g = tt
appends_both (Some x) None c first more f g = absurd f
appends_both (Some x) (Some y) None first more f g = absurd g
appends_both (Some x) (Some y) (Some z) first more f g = grind (arith, common_steps)

-- a number of segments that is refused isn't the output's failure
pub none_not_failed : {A P : Type 0} {r : Result A FrameError} → r ≡ Err NoSegments → r ≡ Err WriteFailed → P
none_not_failed is e = absurd (let wrong : ⊥ = cc in wrong)

pub many_not_failed : {A P : Type 0} {r : Result A FrameError} {n : ℕ} → r ≡ Err (TooManySegments n) → r ≡ Err WriteFailed → P
many_not_failed is e = absurd (let wrong : ⊥ = cc in wrong)
