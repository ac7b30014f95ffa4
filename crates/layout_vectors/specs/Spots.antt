-- The places of consecutive pointers, and of the pointers of consecutive elements.
use Rattle.std.specs.Prelude.{ℕ, zero, suc, ◌+◌, List, [], ◌∷◌, ◌++◌}
use Rattle.capnp_arena_traits.specs.declared.arena.WordPlace.{WordPlace}

abbrev pub spots : ℕ → ℕ → ℕ → List WordPlace
spots s p zero = []
spots s p (suc n) = record { segment = s; at = p } ∷ spots s (p + 1) n

abbrev pub element_spots : ℕ → ℕ → ℕ → ℕ → ℕ → List WordPlace
element_spots s p d q zero = []
element_spots s p d q (suc n) = spots s (p + d) q ++ element_spots s (p + d + q) d q n
