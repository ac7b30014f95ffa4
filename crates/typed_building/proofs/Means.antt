-- Consecutive pointers mean at most one row of children, and consecutive elements at most one row of
-- elements.
use Rattle.std.proofs.Common.{◌≡◌, ℕ, ◌+◌, List, length, refl, sym, ap, ap₂, ◌∙◌, arith}
use Rattle.capnp_format.specs.Means.{MeansAll, MeansElements}
use Rattle.capnp_format.specs.Segments.{HasWords, Segments, words_at}
use Rattle.capnp_format.specs.Tree.{Trees, no_trees, tree, Elements, no_elements, element, count, element_count}
use Rattle.capnp_format.proofs.Levels.{one_value}

pub one_row : (S : Segments) (n m s p : ℕ) (ts us : Trees) (c e : ℕ) → count ts ≡ count us → MeansAll S n s p ts c → MeansAll S m s p us e → ts ≡ us
one_row S n m s p no_trees no_trees c e same h k = refl
one_row S n m s p no_trees (tree u us) c e same h k = absurd (omega arith)
one_row S n m s p (tree t ts) no_trees c e same h k = absurd (omega arith)
one_row S n m s p (tree t ts) (tree u us) c e same h k =
    let first = one_value S n m s p t u h.0 k.0 h.2 k.2 in
    ap₂ tree first.0 (one_row S n m s (p + 1) ts us h.1 k.1 (omega arith) h.3 k.3)

same_words : (S : Segments) (s p : ℕ) (ws vs : List ℕ) → length ws ≡ length vs → HasWords S s p ws → HasWords S s p vs → ws ≡ vs
same_words S s p ws vs same h k = sym h ∙ ap (words_at S s p) same ∙ k

pub one_list : (S : Segments) (n m s p d q : ℕ) (es fs : Elements) (c e : ℕ) → element_count es ≡ element_count fs → MeansElements S n s p d q es c → MeansElements S m s p d q fs e → es ≡ fs
one_list S n m s p d q no_elements no_elements c e same h k = refl
one_list S n m s p d q no_elements (element vs us fs) c e same h k = absurd (omega arith)
one_list S n m s p d q (element ws ts es) no_elements c e same h k = absurd (omega arith)
one_list S n m s p d q (element ws ts es) (element vs us fs) c e same h k =
    let words : ws ≡ vs = same_words S s p ws vs (h.2 ∙ sym k.2) h.4 k.4 in
    let children : ts ≡ us = one_row S n m s (p + d) ts us h.0 k.0 (h.3 ∙ sym k.3) h.5 k.5 in
    let rest : es ≡ fs = one_list S n m s (p + d + q) d q es fs h.1 k.1 (omega arith) h.6 k.6 in
    ap₂ (λ xs ys. element xs ys es) words children ∙ ap (element vs us) rest
