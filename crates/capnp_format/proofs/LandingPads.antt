-- The landing pads of a word that leads somewhere are inside the message.
use Rattle.std.proofs.Common.{◌≡◌, ℕ, zero, suc, ◌+◌, ◌<◌, ◌≤◌, length, Option, Some, None, nat_eq, true, refl, arith, eq-eqb}
use Rattle.std.proofs.lemmas.Bool.Decides.{nat_tests}
use Rattle.capnp_format.specs.Word.{kind, is_double, far_position, upper_half}
use Rattle.capnp_format.specs.Segments.{Segments, segment, word_at, Target, leads, far, pad, ◌>>=◌}
use Rattle.capnp_format.specs.Forest.{PadsInside}

pad_inside : (S : Segments) (x n w : ℕ) → pad S x n ≡ Some w → far_position x + n < length (segment S (upper_half x))
pad_inside S x n w e = grind (arith, nat_tests)

bound : {A B : Type 0} (o : Option A) (f : A → Option B) (y : B) → (o >>= f) ≡ Some y → (x : A) × (o ≡ Some x)
bound (Some x) f y e = (x, refl)
bound None f y e = cc

far_inside : (S : Segments) (x d : ℕ) (a : Target) → d < 2 → far S x d ≡ Some a → far_position x + (1 + d) ≤ length (segment S (upper_half x))
far_inside S x zero a l e = let b = bound (pad S x 0) _ a e in omega (arith, pad_inside S x 0 b.0 b.1)
far_inside S x (suc d) a l e = let b = bound (pad S x 1) _ a e in omega (arith, pad_inside S x 1 b.0 b.1)

pub pads_inside : (S : Segments) (s p : ℕ) (a : Target) → leads S s p ≡ Some a → PadsInside S (word_at S s p)
pads_inside S s p a e far_kind =
    let x = word_at S s p in
    let is_far : nat_eq (kind x) 2 ≡ true = eq-eqb _ _ far_kind in
    far_inside S x (is_double x) a (omega arith) (rw is_far at e)
