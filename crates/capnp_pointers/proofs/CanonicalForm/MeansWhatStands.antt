-- What the words mean that the test of canonical words finds.
-- The lemma takes the place, the head and what is there one by one, in the way of `HasCanonicalAt` and
-- `Means`.
use Rattle.std.proofs.Common.{ℕ, ◌≤◌, [], ◌∷◌, length, refl, arith}
use Rattle.capnp_format.specs.Segments.{Segments, segment}
use Rattle.capnp_format.specs.Tree.{Tree, Null, Capability, Struct, Flat, Pointers, Structs, no_trees, tree, depth}
use Rattle.capnp_format.specs.Means.{Means}
use Rattle.capnp_format.specs.Canonical.{ForOffset, HasCanonicalAt, charge}
use Rattle.capnp_format.proofs.Unique.{stands_means}

-- Canonical words mean their value, with its charge as the cost. The head has to be inside the
-- segment only if the pointer has an offset.
pub stands_means_at : (S : Segments) (n s p h : ℕ) (t : Tree) → depth t ≤ n → ForOffset t (h ≤ length (segment S s)) → HasCanonicalAt S s p h t → Means S n s p t (charge t)
stands_means_at S n s p h Null l i a = ((a.5).1, refl)
stands_means_at S n s p h (Capability j) l i a = stands_means S n s p 0 (Capability j) l (omega arith) (a.0, a.1, a.2, a.3, a.4, (tt, (a.5).1, refl))
stands_means_at S n s p h (Struct [] no_trees) l i a = stands_means S n s p 0 (Struct [] no_trees) l (omega arith) (a.0, a.1, a.2, a.3, a.4, (tt, (a.5).1, refl))
stands_means_at S n s p h (Struct [] (tree t ts)) l i a = stands_means S n s p h (Struct [] (tree t ts)) l i a
stands_means_at S n s p h (Struct (x ∷ xs) ts) l i a = stands_means S n s p h (Struct (x ∷ xs) ts) l i a
stands_means_at S n s p h (Flat size ns) l i a = stands_means S n s p h (Flat size ns) l i a
stands_means_at S n s p h (Pointers ts) l i a = stands_means S n s p h (Pointers ts) l i a
stands_means_at S n s p h (Structs d q es) l i a = stands_means S n s p h (Structs d q es) l i a
