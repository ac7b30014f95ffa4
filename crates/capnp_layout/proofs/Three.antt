-- A list of three elements, by its elements.
use Rattle.std.proofs.Common.{◌≡◌, ◌<◌, ◌≤◌, List, [], ◌∷◌, length, slice_index_or, arith}

pub three : {A : Type 0} (xs : List A) {x y z : A} → 3 ≤ length xs → length xs < 4
    → slice_index_or xs 0 x ≡ x → slice_index_or xs 1 y ≡ y → slice_index_or xs 2 z ≡ z → xs ≡ x ∷ y ∷ z ∷ []
three [] least most a b c = absurd (omega arith)
three (p ∷ []) least most a b c = absurd (omega arith)
three (p ∷ q ∷ []) least most a b c = absurd (omega arith)
three (p ∷ q ∷ r ∷ []) least most a b c = cc
three (p ∷ q ∷ r ∷ s ∷ more) least most a b c = absurd (omega arith)
