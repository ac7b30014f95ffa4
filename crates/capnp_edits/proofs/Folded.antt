-- Edits one after another.
use Rattle.std.proofs.Common.{◌≡◌, ℕ, ◌+◌, ◌<◌, List, [], ◌∷◌, ◌++◌, length, take, get_or, set, Option, refl, sym, subst}
use Rattle.std.proofs.lemmas.List.{take_more, take_more_set}
use Rattle.capnp_words.specs.declared.error.ErrorKind.{ErrorKind}
use Rattle.capnp_format.specs.Segments.{Segments}
use Rattle.capnp_edits.specs.declared.edit.Edit.{Edit}
use Rattle.capnp_edits.specs.Edits.{EditTakes, InTurn, IsApplied}

-- one edit more
turns_more : {A : Type 0} (One : Edit → Option ErrorKind → A → A → Type 0) (es : List Edit) (rs : List (Option ErrorKind)) (e : Edit) (r : Option ErrorKind) (x y z : A) → InTurn One es rs x y → One e r y z → InTurn One (es ++ e ∷ []) (rs ++ r ∷ []) x z
turns_more One [] [] e r x y z h k = (z, subst (λ w. One e r w z) h k, refl)
turns_more One (f ∷ es) (s ∷ rs) e r x y z (w, one, others) k = (w, one, turns_more One es rs e r w y z others k)
turns_more One [] (s ∷ rs) e r x y z h k = absurd h
turns_more One (f ∷ es) [] e r x y z h k = absurd h

-- edit number i is done
pub next_turn : {A : Type 0} (One : Edit → Option ErrorKind → A → A → Type 0) (x y z : A) (es : List Edit) (rs : List (Option ErrorKind)) (i : ℕ) (d : Edit) (q r : Option ErrorKind) → i < length es → length rs ≡ length es → q ≡ r → InTurn One (take i es) (take i rs) x y →
    One (get_or es i d) q y z → InTurn One (take (i + 1) es) (take (i + 1) (set rs i r)) x z
next_turn One x y z es rs i d q r l long same before one =
    let less : i < length rs = rw long l in
    let all = turns_more One (take i es) (take i rs) (get_or es i d) r x y z before (subst (λ o. One (get_or es i d) o y z) same one) in
    subst (λ xs. InTurn One xs (take (i + 1) (set rs i r)) x z) (sym (take_more es i d l)) (subst (λ ys. InTurn One (take i es ++ get_or es i d ∷ []) ys x z) (sym (take_more_set rs i r less)) all)

pub next_applied : (S R Q : Segments) (es : List Edit) (rs : List (Option ErrorKind)) (i : ℕ) (d : Edit) (q r : Option ErrorKind) → i < length es → length rs ≡ length es → q ≡ r → IsApplied (InTurn EditTakes (take i es) (take i rs)) S R → IsApplied (EditTakes (get_or es i d) q) R Q →
    IsApplied (InTurn EditTakes (take (i + 1) es) (take (i + 1) (set rs i r))) S Q
next_applied S R Q es rs i d q r l long same before one t forest =
    let (u, now, taken) = before t forest in
    let (v, next, done) = one u now in
    (v, next, next_turn EditTakes t u v es rs i d q r l long same taken done)
