-- What an equation between results states, with any facts next to it.
use Rattle.std.proofs.Common.{◌≡◌, Result, Ok, Err, ap}

pub ok_not_err : {A E : Type 0} {a : A} {e : E} → ◌≡◌ {A = Result A E} (Ok a) (Err e) → ⊥
ok_not_err p = cc

-- an equation of refusals, for any type of the success
pub err_as : {A B E : Type 0} {a b : E} → ◌≡◌ {A = Result A E} (Err a) (Err b) → ◌≡◌ {A = Result B E} (Err a) (Err b)
err_as {B = B} {E = E} {a = a} {b = b} p = let same : a ≡ b = cc in ap (λ (x : E). let r : Result B E = Err x in r) same
