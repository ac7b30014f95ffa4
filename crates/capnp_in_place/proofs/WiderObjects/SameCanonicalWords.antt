-- Values that are widened, at a place or below it, keep their canonical words.
use Rattle.std.proofs.Common.{◌≡◌, ℕ, zero, suc, ◌+◌, ◌*◌, max, Bool, true, false, cond, nat_le, ◌&&◌, Ok, Err, List, [], ◌∷◌, length, refl, sym, ap, ◌∙◌}
use Rattle.capnp_format.specs.Segments.{Segments}
use Rattle.capnp_format.specs.Tree.{Tree, Struct, Pointers, Structs, Trees, no_trees, tree, Elements, no_elements, element, element_count}
use Rattle.capnp_format.specs.Means.{Means, MeansElements}
use Rattle.capnp_format.specs.Canonical.{trim, encoding}
use Rattle.capnp_format.specs.Forest.{target}
use Rattle.capnp_words.specs.declared.wire_pointer.StructSize.{StructSize}
use Rattle.capnp_words.specs.declared.error.ErrorKind.{ErrorKind}
use Rattle.capnp_format.specs.Path.{Step, Child, Element, tree_at, put_tree, struct_at, put_struct, next, put, update, node, PathLeads}
use Rattle.capnp_allocation.proofs.Paths.{same_node}
use Rattle.capnp_allocation.proofs.Replaced.{stored_within}
use Rattle.capnp_allocation.specs.Stored.{IsStored}
use Rattle.capnp_in_place.specs.Laws.{SameCanonicalForm, HaveSize}
use Rattle.capnp_in_place.specs.Widened.{fill_words, fill_trees, fill_elements, limited, list_widened, widened}
use Rattle.capnp_in_place.proofs.WiderObjects.FillingKeepsForm.{trim-filled, trim-filled_list, trim-update}

same_words : (t u : Tree) → trim u ≡ trim t → SameCanonicalForm t u
same_words t u e = (e, ap encoding e)

pub wider_struct : (d q : ℕ) (ws : List ℕ) (ts : Trees) → SameCanonicalForm (Struct ws ts) (Struct (fill_words d ws) (fill_trees q ts))
wider_struct d q ws ts = same_words (Struct ws ts) (Struct (fill_words d ws) (fill_trees q ts)) (trim-filled d q ws ts)

granted : (b : Bool) (t u : Tree) (k : ErrorKind) → cond b (Ok t) (Err k) ≡ Ok u → t ≡ u
granted true t u k e = cc
granted false t u k e = absurd cc

-- A list of structs that is wide enough, or is widened.
one_or_other : (b : Bool) (d q e k n : ℕ) (es : Elements) (u : Tree) → HaveSize e k es → cond b (Ok (Structs e k es)) (limited n (Structs (max e d) (max k q) (fill_elements d q es))) ≡ Ok u → trim u ≡ trim (Structs e k es)
one_or_other true d q e k n es u v w = let same : Structs e k es ≡ u = cc in ap trim (sym same)
one_or_other false d q e k n es u v w = ap trim (sym (granted _ (Structs (max e d) (max k q) (fill_elements d q es)) u _ w)) ∙ trim-filled_list d q e k es v

pub wider_list : (d q e k : ℕ) (es : Elements) (u : Tree) → HaveSize e k es → list_widened d q (Structs e k es) ≡ Ok u → SameCanonicalForm (Structs e k es) u
wider_list d q e k es u v w = same_words (Structs e k es) u (one_or_other (nat_le d e && nat_le q k) d q e k (element_count es * (max e d + max k q)) es u v w)

-- The elements of a list that a place means have one size.
sizes_there : (S : Segments) (n s p d q : ℕ) (es : Elements) (c : ℕ) → MeansElements S n s p d q es c → HaveSize d q es
sizes_there S n s p d q no_elements c m = tt
sizes_there S n s p d q (element ws ts es) c (k, l, long, many, words, all, others, sum) = (long, many, sizes_there S n s (p + d + q) d q es l others)

list_sizes : (S : Segments) (n s p d q : ℕ) (es : Elements) (c : ℕ) → Means S n s p (Structs d q es) c → HaveSize d q es
list_sizes S n s p d q es c (a, m, k, some, o, claim, tag, fits, all, g) = sizes_there S _ a.segment (a.start + 1) d q es k all

-- The value at the end of a path is put there again.
put_tree_same : (ts : Trees) (i : ℕ) → put_tree ts i (tree_at ts i) ≡ ts
put_tree_same no_trees i = refl
put_tree_same (tree t ts) zero = refl
put_tree_same (tree t ts) (suc i) = ap (tree t) (put_tree_same ts i)

put_child_same : (es : Elements) (i j : ℕ) → put_struct es i (put (struct_at es i) (Child j) (next (struct_at es i) (Child j))) ≡ es
put_child_same no_elements i j = refl
put_child_same (element ws ts es) zero j = ap (λ us. element ws us es) (put_tree_same ts j)
put_child_same (element ws ts es) (suc i) j = ap (element ws ts) (put_child_same es i j)

update_same : (S : Segments) (s p : ℕ) (t : Tree) (path : List Step) (u q : ℕ) (x : Tree) → PathLeads S (node s p t) path (node u q x) → update t path x ≡ t
update_same S s p t [] u q x h = sym (same_node h).2
update_same S s p (Struct ws ts) (Child i ∷ path) u q x h =
    ap (λ y. Struct ws (put_tree ts i y)) (update_same S (target S s p).segment ((target S s p).start + length ws + i) (tree_at ts i) path u q x h.1) ∙ ap (Struct ws) (put_tree_same ts i)
update_same S s p (Pointers ts) (Element i ∷ path) u q x h =
    ap (λ y. Pointers (put_tree ts i y)) (update_same S (target S s p).segment ((target S s p).start + i) (tree_at ts i) path u q x h.1) ∙ ap Pointers (put_tree_same ts i)
update_same S s p (Structs d w es) (Element i ∷ Child j ∷ path) u q x h =
    let old = struct_at es i in
    ap (λ y. Structs d w (put_struct es i (put old (Child j) y))) (update_same S (target S s p).segment ((target S s p).start + 1 + i * (d + w) + d + j) (next old (Child j)) path u q x h.2)
    ∙ ap (Structs d w) (put_child_same es i j)
update_same S s p t (step ∷ path) u q x h = absurd h

-- Another value with the same canonical form is put there.
same_at : (S : Segments) (s p : ℕ) (t : Tree) (path : List Step) (u q : ℕ) (x y : Tree) → PathLeads S (node s p t) path (node u q x) → trim y ≡ trim x → SameCanonicalForm t (update t path y)
same_at S s p t path u q x y h e = same_words t (update t path y) (trim-update S s p t path u q x y x h e ∙ ap trim (update_same S s p t path u q x h))

-- What it becomes: a struct, and a list of structs, whose elements have one size since it is
-- stored.
pub struct_within : (S : Segments) (s p : ℕ) (t : Tree) (path : List Step) (u q : ℕ) (ws : List ℕ) (ts : Trees) (size : StructSize) → PathLeads S (node s p t) path (node u q (Struct ws ts)) → SameCanonicalForm t (update t path (widened size ws ts))
struct_within S s p t path u q ws ts size h = same_at S s p t path u q (Struct ws ts) (widened size ws ts) h (trim-filled size.data_words size.pointers ws ts)

pub list_within : (S : Segments) (s p : ℕ) (t : Tree) (path : List Step) (u q d k : ℕ) (es : Elements) (size : StructSize) (v : Tree) → IsStored S s p t → PathLeads S (node s p t) path (node u q (Structs d k es)) →
    list_widened size.data_words size.pointers (Structs d k es) ≡ Ok v → SameCanonicalForm t (update t path v)
list_within S s p t path u q d k es size v a h made =
    let stored = stored_within S s p t path u q (Structs d k es) h a in
    same_at S s p t path u q (Structs d k es) v h (wider_list size.data_words size.pointers d k es v (list_sizes S stored.means.0 u q d k es stored.means.1 stored.means.2) made).0
