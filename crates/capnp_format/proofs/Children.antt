-- Children that are read one after another. `means_more` takes its arguments one by one, because
-- another crate cites it in this form.
use Rattle.std.proofs.Common.{◌≡◌, ℕ, zero, suc, ◌+◌, ◌*◌, ◌<◌, refl, ap, subst, arith}
use Rattle.capnp_format.specs.Segments.{Segments}
use Rattle.capnp_format.specs.Tree.{Tree, Trees, no_trees, tree, Elements, no_elements, element, count, element_count}
use Rattle.capnp_format.specs.Means.{Means, MeansAll, MeansElements}
use Rattle.capnp_format.specs.Path.{Child, tree_at, struct_at, next}

abbrev pub with_last : Trees → Tree → Trees
with_last no_trees u = tree u no_trees
with_last (tree t ts) u = tree t (with_last ts u)

pub count-with_last : (ts : Trees) (u : Tree) → count (with_last ts u) ≡ suc (count ts)
count-with_last no_trees u = refl
count-with_last (tree t ts) u = ap suc (count-with_last ts u)

pub means_more : (S : Segments) (n s p : ℕ) (ts : Trees) (u : Tree) (k c : ℕ) → MeansAll S n s p ts k → Means S n s (p + count ts) u c → MeansAll S n s p (with_last ts u) (k + c)
means_more S n s p no_trees u k c h m = (c, 0, subst (λ q. Means S n s q u c) (let e : p + 0 ≡ p = omega arith in e) m, refl, omega arith)
means_more S n s p (tree t ts) u k c (a, b, one, rest, g) m =
    (a, b + c, one, means_more S n s (p + 1) ts u b c rest (subst (λ q. Means S n s q u c) (let e : p + suc (count ts) ≡ p + 1 + count ts = omega arith in e) m), omega arith)

-- One child, at its place.
pub means_child : (S : Segments) (n s p : ℕ) (ts : Trees) (c i : ℕ) → i < count ts → MeansAll S n s p ts c → (k : ℕ) × Means S n s (p + i) (tree_at ts i) k
means_child S n s p no_trees c i l h = absurd (omega arith)
means_child S n s p (tree t ts) c zero l (a, b, one, rest, g) = (a, subst (λ q. Means S n s q t a) (let e : p ≡ p + 0 = omega arith in e) one)
means_child S n s p (tree t ts) c (suc i) l (a, b, one, rest, g) =
    let r = means_child S n s (p + 1) ts b i (omega arith) rest in
    (r.0, subst (λ q. Means S n s q (tree_at ts i) r.0) (let e : p + 1 + i ≡ p + suc i = omega arith in e) r.1)

-- One child of one element.
pub means_element_child : (S : Segments) (n s p d q : ℕ) (es : Elements) (c i j : ℕ) → i < element_count es → j < q → MeansElements S n s p d q es c →
    (k : ℕ) × Means S n s (p + i * (d + q) + d + j) (next (struct_at es i) (Child j)) k
means_element_child S n s p d q no_elements c i j l m h = absurd (omega arith)
means_element_child S n s p d q (element ws ts es) c zero j l m (a, b, long, len, here, all, rest, g) =
    let r = means_child S n s (p + d) ts a j (omega arith) all in
    (r.0, subst (λ z. Means S n s z (tree_at ts j) r.0) (let e : p + d + j ≡ p + 0 * (d + q) + d + j = omega arith in e) r.1)
means_element_child S n s p d q (element ws ts es) c (suc i) j l m (a, b, long, len, here, all, rest, g) =
    let r = means_element_child S n s (p + d + q) d q es b i j (omega arith) m rest in
    (r.0, subst (λ z. Means S n s z (next (struct_at es i) (Child j)) r.0) (let e : p + d + q + i * (d + q) + d + j ≡ p + suc i * (d + q) + d + j = omega arith in e) r.1)
