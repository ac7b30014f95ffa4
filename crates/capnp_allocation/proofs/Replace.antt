-- What all children except one cover.
use Rattle.std.proofs.Common.{◌≡◌, ℕ, zero, suc, ◌+◌, ◌<◌, List, [], ◌++◌, refl, ap, ◌∙◌, arith}
use Rattle.capnp_format.specs.Segments.{Segments}
use Rattle.capnp_format.specs.Tree.{Tree, Trees, no_trees, tree, count, Elements, no_elements, element}
use Rattle.capnp_format.specs.Forest.{Interval, times, cover, cover_all, cover_elements}
use Rattle.capnp_format.specs.Path.{tree_at, put_tree}
use Rattle.capnp_format.proofs.Frame.{times-append}

-- What all children except the i-th cover.
abbrev pub cover_others : Segments → ℕ → ℕ → Trees → ℕ → List Interval
cover_others S s p no_trees i = []
cover_others S s p (tree t ts) zero = cover_all S s (p + 1) ts
cover_others S s p (tree t ts) (suc i) = cover S s p t ++ cover_others S s (p + 1) ts i

pub times-others : (S : Segments) (s p : ℕ) (ts : Trees) (i u q : ℕ) → i < count ts →
    times (cover_all S s p ts) u q ≡ times (cover S s (p + i) (tree_at ts i)) u q + times (cover_others S s p ts i) u q
times-others S s p no_trees i u q l = absurd (omega arith)
times-others S s p (tree t ts) zero u q l =
    times-append (cover S s p t) (cover_all S s (p + 1) ts) u q
    ∙ ap (λ r. times (cover S s r t) u q + times (cover_all S s (p + 1) ts) u q) (let e : p ≡ p + 0 = omega arith in e)
times-others S s p (tree t ts) (suc i) u q l =
    let moved = ap (λ r. times (cover S s r (tree_at ts i)) u q) (let e : p + 1 + i ≡ p + suc i = omega arith in e) in
    omega (
      arith,
      times-append (cover S s p t) (cover_all S s (p + 1) ts) u q,
      times-append (cover S s p t) (cover_others S s (p + 1) ts i) u q,
      times-others S s (p + 1) ts i u q (omega arith),
      moved,
    )

-- The same for children of the elements: all except child j of element i.
abbrev pub cover_other_elements : Segments → ℕ → ℕ → ℕ → ℕ → Elements → ℕ → ℕ → List Interval
cover_other_elements S s p d q no_elements i j = []
cover_other_elements S s p d q (element ws ts es) zero j = cover_others S s (p + d) ts j ++ cover_elements S s (p + d + q) d q es
cover_other_elements S s p d q (element ws ts es) (suc i) j = cover_all S s (p + d) ts ++ cover_other_elements S s (p + d + q) d q es i j

pub put_tree-count : (ts : Trees) (i : ℕ) (u : Tree) → count (put_tree ts i u) ≡ count ts
put_tree-count no_trees i u = refl
put_tree-count (tree t ts) zero u = refl
put_tree-count (tree t ts) (suc i) u = ap suc (put_tree-count ts i u)
