-- A message of 1,073,741,823 empty structs in two words.
use Rattle.std.proofs.Common.{◌≡◌, ℕ, zero, suc, ◌+◌, [], ◌∷◌, refl, sym, ap, ◌∙◌, arith}
use Rattle.capnp_format.specs.Segments.{Segments}
pub use Rattle.capnp_format.specs.Tree.{blank}
use Rattle.capnp_format.specs.Tree.{Structs, element_count}
use Rattle.capnp_format.specs.Means.{Means, MeansElements}

pub blank-count : (m : ℕ) → element_count (blank m) ≡ m
blank-count zero = refl
blank-count (suc m) = ap suc (blank-count m)

blank_means : (S : Segments) (n s p m : ℕ) → MeansElements S n s p 0 0 (blank m) 0
blank_means S n s p zero = refl
blank_means S n s p (suc m) = (0, 0, refl, refl, refl, refl, blank_means S n s (p + 0 + 0) m, refl)

abbrev many_empty_structs : Segments
many_empty_structs = (0x00000007_00000001 ∷ 0x00000000_fffffffc ∷ []) ∷ []

pub many_means : (m : ℕ) → m ≡ 1073741823 → Means many_empty_structs 64 0 0 (Structs 0 0 (blank m)) (1 + m)
many_means m e = (
  record { word = 30064771073; segment = 0; start = 1; pads = 0 },
  0,
  0,
  omega arith,
  record { leads_to = (λ q. omega arith, refl); is_list = refl; is_size = refl; counts = refl },
  omega arith,
  record { is_struct = refl; counts = sym (blank-count m ∙ e); data_of = refl; pointers = refl },
  omega arith,
  blank_means many_empty_structs 63 0 2 m,
  rw (blank-count m) (omega arith),
)
