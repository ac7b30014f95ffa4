-- Pointers that are filled one after the other: one more pointer, and what stays unchanged after
-- them.
use Rattle.std.proofs.Common.{◌≡◌, ℕ, suc, ◌+◌, ◌*◌, ◌<◌, ◌≤◌, List, length, refl, sym, ap, ◌∙◌, subst, le_trans, arith}
use Rattle.capnp_format.specs.Segments.{Segments, Grows, segment, word_at}
use Rattle.capnp_format.specs.Tree.{Tree, Null, Trees, no_trees, tree, Elements, no_elements, element, count, element_count}
use Rattle.capnp_format.proofs.Children.{with_last}
use Rattle.capnp_allocation.specs.Filled.{AreFilled, IsElementFilled, AreElementsFilled}
use Rattle.capnp_allocation.specs.Stored.{IsReplaced}
use Rattle.capnp_allocation.proofs.Extents.{not_held}
use Rattle.capnp_allocation.proofs.WordsPut.{words_put}
use Rattle.capnp_allocation.proofs.Written.{past_row, same_grows}

pub no_growth : (S : Segments) → Grows S S
no_growth S = record { segments = omega arith; words = λ v. omega arith }

grows_on : {S M R : Segments} → Grows S M → Grows M R → Grows S R
grows_on a b = record { segments = le_trans a.segments b.segments; words = λ v. le_trans (a.words v) (b.words v) }

pub filled_grows : (S R : Segments) (s p : ℕ) (ts : Trees) → AreFilled S R s p ts → Grows S R
filled_grows S R s p no_trees e = subst (Grows S) (sym e) (no_growth S)
filled_grows S R s p (tree t ts) (M, one, rest) = grows_on (record { segments = one.segments; words = one.words }) (filled_grows M R s (p + 1) ts rest)

-- The words after the pointers that are filled are unchanged.
pub filled_ahead : (S R : Segments) (s p : ℕ) (ts : Trees) (j : ℕ) → AreFilled S R s p ts → p + count ts ≤ j → j < length (segment S s) → word_at R s j ≡ word_at S s j
filled_ahead S R s p no_trees j e l place = ap (λ T. word_at T s j) e
filled_ahead S R s p (tree t ts) j (M, one, rest) l place =
    filled_ahead M R s (p + 1) ts j rest (omega arith) (le_trans place (one.words s)) ∙ one.kept s j (not_held s p j (λ e. omega arith)) place

pub filled_more : (S R Q : Segments) (s p : ℕ) (ts : Trees) (u : Tree) → AreFilled S R s p ts → IsReplaced R Q s (p + count ts) Null u → AreFilled S Q s p (with_last ts u)
filled_more S R Q s p no_trees u e one =
    (Q, subst (λ T. IsReplaced T Q s p Null u) e (subst (λ i. IsReplaced R Q s i Null u) (let f : p + 0 ≡ p = omega arith in f) one), refl)
filled_more S R Q s p (tree t ts) u (M, first, rest) one =
    (M, first, filled_more M R Q s (p + 1) ts u rest (subst (λ i. IsReplaced R Q s i Null u) (let f : p + suc (count ts) ≡ p + 1 + count ts = omega arith in f) one))

-- Elements.

pub element_grows : (S R : Segments) (s p : ℕ) (ws : List ℕ) (ts : Trees) → IsElementFilled S R s p ws ts → p + length ws ≤ length (segment S s) → Grows S R
element_grows S R s p ws ts f room = let laid = words_put S f.written s p ws room f.writes in grows_on (same_grows S f.written laid.long) (filled_grows f.written R s (p + length ws) ts f.filled)

pub element_ahead : (S R : Segments) (s p : ℕ) (ws : List ℕ) (ts : Trees) (j : ℕ) → IsElementFilled S R s p ws ts → p + length ws ≤ length (segment S s) → p + length ws + count ts ≤ j → j < length (segment S s) → word_at R s j ≡ word_at S s j
element_ahead S R s p ws ts j f room l place =
    let laid = words_put S f.written s p ws room f.writes in
    filled_ahead f.written R s (p + length ws) ts j f.filled l (omega (arith, laid.long.words s)) ∙ laid.kept s j (past_row s p (length ws) j (omega arith))

pub elements_grow : (S R : Segments) (s p d q : ℕ) (es : Elements) → AreElementsFilled S R s p d q es → p + element_count es * (d + q) ≤ length (segment S s) → Grows S R
elements_grow S R s p d q no_elements e room = subst (Grows S) (sym e) (no_growth S)
elements_grow S R s p d q (element ws ts es) (M, long, len, one, rest) room =
    let wide : suc (element_count es) * (d + q) ≡ d + q + element_count es * (d + q) = grind arith in
    let first = element_grows S M s p ws ts one (omega (arith, wide)) in
    grows_on first (elements_grow M R s (p + d + q) d q es rest (omega (arith, wide, first.words s)))

pub elements_ahead : (S R : Segments) (s p d q : ℕ) (es : Elements) (j : ℕ) → AreElementsFilled S R s p d q es → p + element_count es * (d + q) ≤ j → j < length (segment S s) → word_at R s j ≡ word_at S s j
elements_ahead S R s p d q no_elements j e l place = ap (λ T. word_at T s j) e
elements_ahead S R s p d q (element ws ts es) j (M, long, len, one, rest) l place =
    let wide : suc (element_count es) * (d + q) ≡ d + q + element_count es * (d + q) = grind arith in
    let first = element_grows S M s p ws ts one (omega (arith, wide)) in
    elements_ahead M R s (p + d + q) d q es j rest (omega (arith, wide)) (le_trans place (first.words s)) ∙ element_ahead S M s p ws ts j one (omega (arith, wide)) (omega (arith, wide)) place
