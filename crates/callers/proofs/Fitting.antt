-- The message with an empty root, and outcomes one by one.
use Rattle.std.proofs.Common.{◌≡◌, ℕ, zero, suc, List, [], ◌∷◌, get_or, Option, Some, None, refl, sym, subst, arith, All}
use Rattle.std.proofs.lemmas.List.Elements.{All-cons, All-head, All-nil, All-tail}
use Rattle.capnp_words.specs.declared.error.ErrorKind.{ErrorKind}
use Rattle.capnp_format.specs.Forest.{IsForest}
use Rattle.capnp_format.specs.Segments.{Segments, word_at}
use Rattle.capnp_format.specs.Tree.{Tree, Null}
use Rattle.capnp_allocation.proofs.FillingMade.{null_stored}
use Rattle.capnp_allocation.proofs.Replaced.{forest_of}
use Rattle.capnp_edits.specs.Fitting.{AreInFirst, AsksNoMore, IsNoneOfMemory}
use Rattle.capnp_edits.specs.Tasks.{task_of}
use Rattle.capnp_edits.specs.declared.edit.Edit.{Edit}

-- the word of an empty root holds null
abbrev only_root : Segments
only_root = (0 ∷ []) ∷ []

no_words : (v r : ℕ) → word_at only_root v r ≡ 0
no_words zero zero = refl
no_words zero (suc zero) = refl
no_words zero (suc (suc r)) = refl
no_words (suc zero) zero = refl
no_words (suc zero) (suc r) = refl
no_words (suc (suc v)) zero = refl
no_words (suc (suc v)) (suc r) = refl

pub root_forest : (S : Segments) → S ≡ (0 ∷ []) ∷ [] → (t : Tree) × IsForest S t
root_forest S e = (Null, subst (λ T. IsForest T Null) (sym e) (forest_of only_root Null (null_stored only_root 0 0 (omega arith) refl) (λ v r none. no_words v r)))

-- the word of an empty root is the only one
pub root_first : (S : Segments) → S ≡ (0 ∷ []) ∷ [] → AreInFirst S
root_first S e = subst AreInFirst (sym e) first
  where
    first : AreInFirst only_root
    first zero other = absurd (other refl)
    first (suc zero) other = refl
    first (suc (suc k)) other = refl

-- three edits request only these words if each of them does
pub three_ask : (a b c : Edit) → AsksNoMore (task_of a.op) → AsksNoMore (task_of b.op) → AsksNoMore (task_of c.op) → All (λ (e : Edit). AsksNoMore (task_of e.op)) (a ∷ b ∷ c ∷ [])
three_ask a b c x y z =
    let P : Edit → Type 0 = λ (e : Edit). AsksNoMore (task_of e.op) in
    All-cons P a (b ∷ c ∷ []) x (All-cons P b (c ∷ []) y (All-cons P c [] z (All-nil P)))

-- if no outcome is a refusal of memory, that of edit i isn't
pub none_at : (rs : List (Option ErrorKind)) (i : ℕ) → All IsNoneOfMemory rs → IsNoneOfMemory (get_or rs i None)
none_at [] i none = λ k e. absurd (unlike k e)
  where
    unlike : (k : ErrorKind) → None ≡ Some k → ⊥
    unlike k e = cc
none_at (r ∷ rs) zero none = All-head IsNoneOfMemory r rs none
none_at (r ∷ rs) (suc i) none = none_at rs i (All-tail IsNoneOfMemory r rs none)
