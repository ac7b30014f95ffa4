-- Sections filled up to a size that they have, or to the greater of two sizes.
use Rattle.std.proofs.Common.{◌≡◌, ℕ, zero, suc, ◌-◌, ◌≤◌, max, List, ◌++◌, length, refl, sym, ap, ap₂, ◌∙◌, subst, arith, append-nil}
use Rattle.capnp_format.specs.Segments.{Segments}
use Rattle.capnp_format.specs.Tree.{Struct, Trees, no_trees, tree, count}
use Rattle.capnp_allocation.specs.Stored.{IsStored, IsReplaced}
use Rattle.capnp_allocation.proofs.Filling.{unchanged}
use Rattle.capnp_allocation.specs.Made.{words_of_zero, nulls}
use Rattle.capnp_in_place.specs.Widened.{fill_words, fill_trees}

pub wide_words : (d : ℕ) (ws : List ℕ) → d ≤ length ws → fill_words d ws ≡ ws
wide_words d ws l = ap (λ n. ws ++ words_of_zero n) (let e : d - length ws ≡ 0 = omega arith in e) ∙ append-nil ws

pub wide_trees : (k : ℕ) (ts : Trees) → k ≤ count ts → fill_trees k ts ≡ ts
wide_trees zero no_trees l = refl
wide_trees zero (tree t ts) l = refl
wide_trees (suc k) no_trees l = absurd (omega arith)
wide_trees (suc k) (tree t ts) l = ap (tree t) (wide_trees k ts (omega arith))

pub greater_words : (d : ℕ) (ws : List ℕ) → fill_words (max (length ws) d) ws ≡ fill_words d ws
greater_words d ws = ap (λ n. ws ++ words_of_zero n) (let e : max (length ws) d - length ws ≡ d - length ws = omega arith in e)

pub greater_trees : (k : ℕ) (ts : Trees) → fill_trees (max (count ts) k) ts ≡ fill_trees k ts
greater_trees k no_trees = ap nulls (let e : max 0 k ≡ k = omega arith in e)
greater_trees zero (tree t ts) = wide_trees (max (suc (count ts)) 0) (tree t ts) (omega arith)
greater_trees (suc k) (tree t ts) =
    ap (λ n. fill_trees n (tree t ts)) (let e : max (suc (count ts)) (suc k) ≡ suc (max (count ts) k) = omega arith in e) ∙ ap (tree t) (greater_trees k ts)

-- A struct that is wide enough.
pub already_wide : (S : Segments) (s p d k : ℕ) (ws : List ℕ) (ts : Trees) → IsStored S s p (Struct ws ts) → d ≤ length ws → k ≤ count ts → IsReplaced S S s p (Struct ws ts) (Struct (fill_words d ws) (fill_trees k ts))
already_wide S s p d k ws ts x l m =
    subst (λ t. IsReplaced S S s p (Struct ws ts) t) (ap₂ (λ vs us. Struct vs us) (sym (wide_words d ws l)) (sym (wide_trees k ts m))) (unchanged S s p (Struct ws ts) x)

-- Filling a struct up to the greater of its own size and another is filling it up to the other.
pub same_wide : (d k e f : ℕ) (ws : List ℕ) (ts : Trees) → e ≡ max (length ws) d → f ≡ max (count ts) k → Struct (fill_words e ws) (fill_trees f ts) ≡ Struct (fill_words d ws) (fill_trees k ts)
same_wide d k e f ws ts l m = ap₂ (λ vs us. Struct vs us) (ap (λ n. fill_words n ws) l ∙ greater_words d ws) (ap (λ n. fill_trees n ts) m ∙ greater_trees k ts)

pub greater_size : (S R : Segments) (s p d k e f : ℕ) (ws : List ℕ) (ts : Trees) → e ≡ max (length ws) d → f ≡ max (count ts) k → IsReplaced S R s p (Struct ws ts) (Struct (fill_words e ws) (fill_trees f ts)) →
    IsReplaced S R s p (Struct ws ts) (Struct (fill_words d ws) (fill_trees k ts))
greater_size S R s p d k e f ws ts l m r = subst (λ t. IsReplaced S R s p (Struct ws ts) t) (same_wide d k e f ws ts l m) r
