-- Filling up with zeros and Nulls doesn't change the canonical form.
use Rattle.std.proofs.Common.{◌≡◌, ℕ, zero, suc, ◌+◌, ◌-◌, ◌*◌, ◌≤◌, max, nat_eq, List, [], ◌∷◌, ◌++◌, length, take, refl, ap, ap₂, ◌∙◌, arith}
use Rattle.std.proofs.lemmas.List.{take-append-le}
use Rattle.capnp_format.specs.Tree.{Tree, Null, Struct, Pointers, Structs, Trees, no_trees, tree, Elements, no_elements, element, count}
use Rattle.capnp_format.specs.Segments.{Segments}
use Rattle.capnp_format.specs.Forest.{target}
use Rattle.capnp_format.specs.Path.{Step, Child, Element, tree_at, put_tree, struct_at, put_struct, next, put, update, node, PathLeads}
use Rattle.capnp_format.specs.Canonical.{used_from, used_words, is_null, used_trees, take_trees, data_width, pointer_width, cut_to, cut_struct, cut_structs, trim, trim_each, trim_elements}
use Rattle.capnp_allocation.specs.Made.{words_of_zero, nulls}
use Rattle.capnp_in_place.specs.Laws.{HaveSize}
use Rattle.capnp_in_place.specs.Widened.{fill_words, fill_trees, fill_elements}
use Rattle.capnp_format.proofs.Trimming.{used_words-le, used_trees-le, trim_each-count}

used_words-zeros : (n : ℕ) → used_words (words_of_zero n) ≡ 0
used_words-zeros zero = refl
used_words-zeros (suc n) = ap (used_from (nat_eq 0 0)) (used_words-zeros n)

used_words-fill : (n : ℕ) (ws : List ℕ) → used_words (ws ++ words_of_zero n) ≡ used_words ws
used_words-fill n [] = used_words-zeros n
used_words-fill n (x ∷ xs) = ap (used_from (nat_eq x 0)) (used_words-fill n xs)

used_trees-nulls : (n : ℕ) → used_trees (nulls n) ≡ 0
used_trees-nulls zero = refl
used_trees-nulls (suc n) = ap (used_from (is_null Null)) (used_trees-nulls n)

used_trees-fill : (n : ℕ) (ts : Trees) → used_trees (fill_trees n ts) ≡ used_trees ts
used_trees-fill n no_trees = used_trees-nulls n
used_trees-fill zero (tree t ts) = refl
used_trees-fill (suc n) (tree t ts) = ap (used_from (is_null t)) (used_trees-fill n ts)

take-fill : (m n : ℕ) (ws : List ℕ) → m ≤ length ws → take m (ws ++ words_of_zero n) ≡ take m ws
take-fill m n ws l = rw take-append-le

take_trees-fill : (m n : ℕ) (ts : Trees) → m ≤ count ts → take_trees m (fill_trees n ts) ≡ take_trees m ts
take_trees-fill zero n ts l = refl
take_trees-fill (suc m) n no_trees l = absurd (omega arith)
take_trees-fill (suc m) zero (tree t ts) l = refl
take_trees-fill (suc m) (suc n) (tree t ts) l = ap (tree t) (take_trees-fill m n ts (omega arith))

trim_each-nulls : (n : ℕ) → trim_each (nulls n) ≡ nulls n
trim_each-nulls zero = refl
trim_each-nulls (suc n) = ap (tree Null) (trim_each-nulls n)

trim_each-fill : (n : ℕ) (ts : Trees) → trim_each (fill_trees n ts) ≡ fill_trees n (trim_each ts)
trim_each-fill n no_trees = trim_each-nulls n
trim_each-fill zero (tree t ts) = refl
trim_each-fill (suc n) (tree t ts) = ap (tree (trim t)) (trim_each-fill n ts)

pub trim-filled : (d q : ℕ) (ws : List ℕ) (ts : Trees) → trim (Struct (fill_words d ws) (fill_trees q ts)) ≡ trim (Struct ws ts)
trim-filled d q ws ts =
    let more = d - length ws in
    let us = trim_each ts in
    ap₂ Struct
    (ap (λ n. take n (ws ++ words_of_zero more)) (used_words-fill more ws) ∙ take-fill (used_words ws) more ws (used_words-le ws))
    (ap (λ x. take_trees (used_trees x) x) (trim_each-fill q ts) ∙ ap (λ n. take_trees n (fill_trees q us)) (used_trees-fill q us) ∙ take_trees-fill (used_trees us) q us (used_trees-le us))

trim_elements-fill : (d q : ℕ) (es : Elements) → trim_elements (fill_elements d q es) ≡ fill_elements d q (trim_elements es)
trim_elements-fill d q no_elements = refl
trim_elements-fill d q (element ws ts es) = ap₂ (λ us fs. element (fill_words d ws) us fs) (trim_each-fill q ts) (trim_elements-fill d q es)

data_width-fill : (d q : ℕ) (es : Elements) → data_width (fill_elements d q es) ≡ data_width es
data_width-fill d q no_elements = refl
data_width-fill d q (element ws ts es) = ap₂ (λ m n. max m n) (used_words-fill (d - length ws) ws) (data_width-fill d q es)

pointer_width-fill : (d q : ℕ) (es : Elements) → pointer_width (fill_elements d q es) ≡ pointer_width es
pointer_width-fill d q no_elements = refl
pointer_width-fill d q (element ws ts es) = ap₂ (λ m n. max m n) (used_trees-fill q ts) (pointer_width-fill d q es)

cut_to-fill : (m n d q e k : ℕ) (es : Elements) → HaveSize e k es → m ≤ e → n ≤ k → cut_to m n (fill_elements d q (trim_elements es)) ≡ cut_to m n (trim_elements es)
cut_to-fill m n d q e k no_elements v l f = refl
cut_to-fill m n d q e k (element ws ts es) v l f =
    ap₂ (λ x y. element x y (cut_to m n (fill_elements d q (trim_elements es)))) (take-fill m (d - length ws) ws (omega (arith, v.0))) (take_trees-fill n q (trim_each ts) (omega (arith, v.1, trim_each-count ts)))
    ∙ ap (element (take m ws) (take_trees n (trim_each ts))) (cut_to-fill m n d q e k es v.2 l f)

widths_within : (d q : ℕ) (es : Elements) → HaveSize d q es → (data_width (trim_elements es) ≤ d) × (pointer_width (trim_elements es) ≤ q)
widths_within d q no_elements h = (omega arith, omega arith)
widths_within d q (element ws ts es) h =
    (omega (arith, used_words-le ws, (widths_within d q es h.2).0), omega (arith, used_trees-le (trim_each ts), trim_each-count ts, (widths_within d q es h.2).1))

pub trim-filled_list : (d q e k : ℕ) (es : Elements) → HaveSize e k es → trim (Structs (max e d) (max k q) (fill_elements d q es)) ≡ trim (Structs e k es)
trim-filled_list d q e k es v =
    let fs = trim_elements es in
    let widths = widths_within e k es v in
    ap (λ x. Structs (data_width x) (pointer_width x) (cut_to (data_width x) (pointer_width x) x)) (trim_elements-fill d q es)
    ∙ ap₂ (λ m n. Structs m n (cut_to m n (fill_elements d q fs))) (data_width-fill d q fs) (pointer_width-fill d q fs)
    ∙ ap (Structs (data_width fs) (pointer_width fs)) (cut_to-fill (data_width fs) (pointer_width fs) d q e k es v widths.0 widths.1)

put_tree-trim : (ts : Trees) (i : ℕ) (u w : Tree) → trim u ≡ trim w → trim_each (put_tree ts i u) ≡ trim_each (put_tree ts i w)
put_tree-trim no_trees i u w e = refl
put_tree-trim (tree t ts) zero u w e = ap (λ x. tree x (trim_each ts)) e
put_tree-trim (tree t ts) (suc i) u w e = ap (tree (trim t)) (put_tree-trim ts i u w e)

put_child-trim : (es : Elements) (i j : ℕ) (u w : Tree) → trim u ≡ trim w → trim_elements (put_struct es i (put (struct_at es i) (Child j) u)) ≡ trim_elements (put_struct es i (put (struct_at es i) (Child j) w))
put_child-trim no_elements i j u w e = refl
put_child-trim (element ws ts es) zero j u w e = ap (λ us. element ws us (trim_elements es)) (put_tree-trim ts j u w e)
put_child-trim (element ws ts es) (suc i) j u w e = ap (element ws (trim_each ts)) (put_child-trim es i j u w e)

-- If two values at a place have the same canonical form, so have the whole values with them.
pub trim-update : (S : Segments) (s p : ℕ) (t : Tree) (path : List Step) (u q : ℕ) (x y z : Tree) → PathLeads S (node s p t) path (node u q x) → trim y ≡ trim z → trim (update t path y) ≡ trim (update t path z)
trim-update S s p t [] u q x y z h e = e
trim-update S s p (Struct ws ts) (Child i ∷ path) u q x y z h e =
    ap (cut_struct ws) (put_tree-trim ts i (update (tree_at ts i) path y) (update (tree_at ts i) path z) (trim-update S (target S s p).segment ((target S s p).start + length ws + i) (tree_at ts i) path u q x y z h.1 e))
trim-update S s p (Pointers ts) (Element i ∷ path) u q x y z h e =
    ap Pointers (put_tree-trim ts i (update (tree_at ts i) path y) (update (tree_at ts i) path z) (trim-update S (target S s p).segment ((target S s p).start + i) (tree_at ts i) path u q x y z h.1 e))
trim-update S s p (Structs d w es) (Element i ∷ Child j ∷ path) u q x y z h e =
    let old = next (struct_at es i) (Child j) in
    ap cut_structs (put_child-trim es i j (update old path y) (update old path z) (trim-update S (target S s p).segment ((target S s p).start + 1 + i * (d + w) + d + j) old path u q x y z h.2 e))
trim-update S s p t (step ∷ path) u q x y z h e = absurd h
