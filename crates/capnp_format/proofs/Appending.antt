-- Children in two parts, the way a loop has them. `means_joined` takes its arguments one by one,
-- because another crate cites it in this form.
use Rattle.std.proofs.Common.{◌≡◌, ℕ, suc, ◌+◌, ◌∷◌, ◌++◌, refl, sym, ap, ap₂, ◌∙◌, subst, arith, append_assoc}
use Rattle.capnp_format.specs.Segments.{Segments}
use Rattle.capnp_format.specs.Tree.{Trees, no_trees, tree, count}
use Rattle.capnp_format.specs.Means.{MeansAll}
use Rattle.capnp_format.specs.Canonical.{word_count, word_count_all, pointer, pointers, body, bodies}

abbrev pub append_trees : Trees → Trees → Trees
append_trees no_trees us = us
append_trees (tree t ts) us = tree t (append_trees ts us)

pub count-append : (ts us : Trees) → count (append_trees ts us) ≡ count ts + count us
count-append no_trees us = omega arith
count-append (tree t ts) us = omega (arith, count-append ts us)

pub pointers-append : (k : ℕ) (ts us : Trees) → pointers k (append_trees ts us) ≡ pointers (k + count us) ts ++ pointers (k + word_count_all ts) us
pointers-append k no_trees us = ap (λ j. pointers j us) (let e : k ≡ k + 0 = omega arith in e)
pointers-append k (tree t ts) us =
    ap₂ (λ x xs. x ∷ xs)
    (ap (pointer t) (let e : count (append_trees ts us) + k ≡ count ts + (k + count us) = omega (arith, count-append ts us) in e))
    (pointers-append (k + word_count t) ts us
    ∙ ap₂ (λ i j. pointers i ts ++ pointers j us) (let e : k + word_count t + count us ≡ k + count us + word_count t = omega arith in e) (let e : k + word_count t + word_count_all ts ≡ k + (word_count t + word_count_all ts) = omega arith in e))

pub bodies-append : (ts us : Trees) → bodies (append_trees ts us) ≡ bodies ts ++ bodies us
bodies-append no_trees us = refl
bodies-append (tree t ts) us = ap (λ ws. body t ++ ws) (bodies-append ts us) ∙ sym (append_assoc (body t) (bodies ts) (bodies us))

pub means_joined : (S : Segments) (n s p : ℕ) (ts us : Trees) (k l : ℕ) → MeansAll S n s p ts k → MeansAll S n s (p + count ts) us l → MeansAll S n s p (append_trees ts us) (k + l)
means_joined S n s p no_trees us k l h m =
    subst (λ j. MeansAll S n s p us j) (let e : l ≡ k + l = omega arith in e) (subst (λ q. MeansAll S n s q us l) (let e : p + 0 ≡ p = omega arith in e) m)
means_joined S n s p (tree t ts) us k l (a, b, one, rest, g) m =
    (a, b + l, one, means_joined S n s (p + 1) ts us b l rest (subst (λ q. MeansAll S n s q us l) (let e : p + suc (count ts) ≡ p + 1 + count ts = omega arith in e) m), omega arith)
