-- Children copied one after another: their pointers are consecutive, and their bodies come after
-- the words.
use Rattle.std.proofs.Common.{◌≡◌, ℕ, suc, ◌+◌, ◌-◌, ◌<◌, ◌≤◌, ◌^◌, List, [], ◌∷◌, ◌++◌, length, get_or, set, take, drop, refl, sym, ap, ap₂, ◌∙◌, arith, append_assoc, append-nil, length-append, length-take, length-drop}
use Rattle.std.proofs.lemmas.List.{set_at, take-append-drop, drop_more}
use Rattle.capnp_format.specs.Tree.{Tree, Trees, no_trees, tree, count}
use Rattle.capnp_format.specs.Canonical.{trim, trim_each, word_count_all, pointer, pointers, body, bodies, offset_to}
use Rattle.capnp_format.proofs.Lengths.{length-pointers}
use Rattle.capnp_format.proofs.Lies.{pointer_ahead}
use Rattle.capnp_format.proofs.Unique.{for_offset}
use Rattle.capnp_format.proofs.Children.{with_last, count-with_last}
use Rattle.capnp_format.proofs.Appending.{append_trees, pointers-append, bodies-append}
use Rattle.capnp_copies.specs.Copied.{with_children}
use Rattle.capnp_copies.proofs.Copied.{copied}
use Rattle.capnp_copies.proofs.Shapes.{AreShaped, length-bodies}

with_last-append : (ts : Trees) (u : Tree) → with_last ts u ≡ append_trees ts (tree u no_trees)
with_last-append no_trees u = refl
with_last-append (tree t ts) u = ap (tree t) (with_last-append ts u)

pub trim_each-with_last : (ts : Trees) (u : Tree) → trim_each (with_last ts u) ≡ with_last (trim_each ts) (trim u)
trim_each-with_last no_trees u = refl
trim_each-with_last (tree t ts) u = ap (tree (trim t)) (trim_each-with_last ts u)

pub pointers-with_last : (k : ℕ) (ts : Trees) (u : Tree) → pointers k (with_last ts u) ≡ pointers (suc k) ts ++ pointer u (k + word_count_all ts) ∷ []
pointers-with_last k ts u =
    ap (pointers k) (with_last-append ts u) ∙ pointers-append k ts (tree u no_trees)
    ∙ ap₂ (λ i j. pointers i ts ++ pointer u j ∷ []) (let e : k + 1 ≡ suc k = omega arith in e) (let e : 0 + (k + word_count_all ts) ≡ k + word_count_all ts = omega arith in e)

pub bodies-with_last : (ts : Trees) (u : Tree) → bodies (with_last ts u) ≡ bodies ts ++ body u
bodies-with_last ts u = ap bodies (with_last-append ts u) ∙ bodies-append ts (tree u no_trees) ∙ ap (λ ws. bodies ts ++ ws) (append-nil (body u))

-- A word among others, after the words before it or as the last of them.
opened : (F P R B U : List ℕ) (x : ℕ) → F ++ P ++ (x ∷ R) ++ B ++ U ≡ F ++ P ++ (x ∷ (R ++ (B ++ U)))
opened F P R B U x = simp append_assoc

closed : (F P R B U : List ℕ) (x : ℕ) → F ++ P ++ (x ∷ (R ++ (B ++ U))) ≡ F ++ (P ++ x ∷ []) ++ R ++ (B ++ U)
closed F P R B U x = simp append_assoc

heads : (ws : List ℕ) (at k : ℕ) (ts : Trees) → at ≤ length ws → length (take at ws ++ pointers k ts) ≡ at + count ts
heads ws at k ts l = omega (arith, length-append (take at ws) (pointers k ts), length-take at ws, length-pointers k ts)

pub no_children : (ws : List ℕ) (at : ℕ) → with_children ws at no_trees ≡ ws
no_children ws at =
    append-nil (take at ws ++ [] ++ drop (at + 0) ws)
    ∙ ap₂ (λ xs i. xs ++ drop i ws) (append-nil (take at ws)) (let e : at + 0 ≡ at = omega arith in e) ∙ take-append-drop at ws

pub length_children : (ws : List ℕ) (at : ℕ) (ts : Trees) → AreShaped ts → at + count ts ≤ length ws → length (with_children ws at ts) ≡ length ws + word_count_all ts
length_children ws at ts v l =
    let k = length ws - (at + count ts) in
    omega (
      arith,
      heads ws at k ts (omega arith),
      length-append (take at ws ++ pointers k ts ++ drop (at + count ts) ws) (bodies ts),
      length-append (take at ws ++ pointers k ts) (drop (at + count ts) ws),
      length-drop (at + count ts) ws,
      length-bodies ts v,
    )

-- The next child is copied, with its pointer after those that are there.
pub child_added : (ws : List ℕ) (at : ℕ) (ts : Trees) (u : Tree) → AreShaped ts → (at + count ts < length ws) × (length (with_children ws at ts) < 2 ^ 29) →
    copied (with_children ws at ts) (at + count ts) u ≡ with_children ws at (with_last ts u)
child_added ws at ts u v (l, small) =
    let p = at + count ts in
    let k = length ws - (p + 1) in
    let more : length ws - p ≡ suc k = omega arith in
    let F = take at ws in
    let P = pointers (length ws - p) ts in
    let R = drop (p + 1) ws in
    let M = with_children ws at ts in
    let long : length M ≡ p + 1 + (k + word_count_all ts) = omega (arith, length_children ws at ts v (omega arith)) in
    let x : pointer u (offset_to p (length M)) ≡ pointer u (k + word_count_all ts) =
    ap (λ i. pointer u (offset_to p i)) long ∙ pointer_ahead u p (k + word_count_all ts) (for_offset u (k + word_count_all ts < 2 ^ 29) (omega arith)) in
    let shape : M ++ body u ≡ F ++ P ++ (get_or ws p 0 ∷ R) ++ bodies ts ++ body u = ap (λ xs. F ++ P ++ xs ++ bodies ts ++ body u) (drop_more ws p 0 l) in
    let first : P ++ pointer u (k + word_count_all ts) ∷ [] ≡ pointers k (with_last ts u) =
    ap (λ i. pointers i ts ++ pointer u (k + word_count_all ts) ∷ []) more ∙ sym (pointers-with_last k ts u) in
    let n : at + count (with_last ts u) ≡ p + 1 = omega (arith, count-with_last ts u) in
    ap₂ (λ xs y. set xs p y) shape x
    ∙ ap (λ xs. set xs p (pointer u (k + word_count_all ts))) (opened F P R (bodies ts) (body u) (get_or ws p 0))
    ∙ set_at (F ++ P) (get_or ws p 0) (R ++ (bodies ts ++ body u)) (pointer u (k + word_count_all ts)) p (heads ws at (length ws - p) ts (omega arith))
    ∙ closed F P R (bodies ts) (body u) (pointer u (k + word_count_all ts))
    ∙ ap₂ (λ xs ys. F ++ xs ++ R ++ ys) first (sym (bodies-with_last ts u))
    ∙ ap (λ i. F ++ pointers (length ws - i) (with_last ts u) ++ drop i ws ++ bodies (with_last ts u)) (sym n)
