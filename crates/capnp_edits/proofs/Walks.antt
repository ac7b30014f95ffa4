-- Paths one after another.
use Rattle.std.proofs.Common.{◌≡◌, ℕ, ◌+◌, ◌*◌, Bool, true, false, ◌&&◌, cond, nat_lt, List, [], ◌∷◌, ◌++◌, length, Option, Some, None, ap, ap₂, ◌∙◌, lt-ltb}
use Rattle.capnp_format.specs.Segments.{Segments}
use Rattle.capnp_format.specs.Tree.{Tree, Null, Capability, Struct, Flat, Pointers, Structs, count, element_count}
use Rattle.capnp_format.specs.Forest.{target}
use Rattle.capnp_allocation.proofs.Paths.{same_node}
use Rattle.capnp_format.specs.Path.{Step, Child, Element, tree_at, struct_at, next, put, update, node, PathLeads}
use Rattle.capnp_in_place.specs.declared.existing.ExistingStruct.{ExistingStruct}
use Rattle.capnp_edits.specs.Paths.{EndValue, PointerTo, ElementOf, IsElementFound, found}

pub leads_further : (S : Segments) (s p : ℕ) (t : Tree) (path more : List Step) (u q : ℕ) (x : Tree) (v r : ℕ) (y : Tree) → PathLeads S (node s p t) path (node u q x) → PathLeads S (node u q x) more (node v r y) → PathLeads S (node s p t) (path ++ more) (node v r y)
leads_further S s p t [] more u q x v r y h k =
    let same = same_node h in
    rw (same.0, same.1, same.2) k
leads_further S s p (Struct ws ts) (Child i ∷ path) more u q x v r y h k =
    (h.0, leads_further S (target S s p).segment ((target S s p).start + length ws + i) (tree_at ts i) path more u q x v r y h.1 k)
leads_further S s p (Pointers ts) (Element i ∷ path) more u q x v r y h k = (h.0, leads_further S (target S s p).segment ((target S s p).start + i) (tree_at ts i) path more u q x v r y h.1 k)
leads_further S s p (Structs d w es) (Element i ∷ Child j ∷ path) more u q x v r y h k =
    (h.0, h.1, leads_further S (target S s p).segment ((target S s p).start + 1 + i * (d + w) + d + j) (next (struct_at es i) (Child j)) path more u q x v r y h.2 k)
leads_further S s p t (step ∷ path) more u q x v r y h k = absurd h

-- a path that leads to a pointer finds what that means
pub leads_value : (S : Segments) (s p : ℕ) (t : Tree) (path : List Step) (u q : ℕ) (x : Tree) → PathLeads S (node s p t) path (node u q x) → found t path ≡ Some (PointerTo x)
leads_value S s p t [] u q x h = ap (λ y. Some (PointerTo y)) (same_node h).2
leads_value S s p (Struct ws ts) (Child i ∷ path) u q x h =
    ap (λ b. cond b (found (tree_at ts i) path) None) (lt-ltb i (count ts) h.0) ∙ leads_value S (target S s p).segment ((target S s p).start + length ws + i) (tree_at ts i) path u q x h.1
leads_value S s p (Pointers ts) (Element i ∷ path) u q x h =
    ap (λ b. cond b (found (tree_at ts i) path) None) (lt-ltb i (count ts) h.0) ∙ leads_value S (target S s p).segment ((target S s p).start + i) (tree_at ts i) path u q x h.1
leads_value S s p (Structs d w es) (Element i ∷ Child j ∷ path) u q x h =
    ap₂ (λ a b. cond (a && b) (found (next (struct_at es i) (Child j)) path) None) (lt-ltb i (element_count es) h.0) (lt-ltb j w h.1)
    ∙ leads_value S (target S s p).segment ((target S s p).start + 1 + i * (d + w) + d + j) (next (struct_at es i) (Child j)) path u q x h.2
leads_value S s p t (step ∷ path) u q x h = absurd h

-- the list whose element a path leads to
pub list_end : {S : Segments} {s p : ℕ} {t : Tree} {path : List Step} {e : ExistingStruct} (f : IsElementFound S s p t path e) → found t f.front ≡ Some (PointerTo (Structs e.size.data_words e.size.pointers f.elements))
list_end {S} {s} {p} {t} {path} {e} f = leads_value S s p t f.front f.list_segment f.list_at (Structs e.size.data_words e.size.pointers f.elements) f.leads

-- if the choice between o and None is something, it is o
taken : (b : Bool) (o r : Option EndValue) (y : EndValue) (z : Option EndValue) → cond b o None ≡ Some y → (o ≡ Some y → r ≡ z) → cond b r None ≡ z
taken true o r y z h k = k h
taken false o r y z h k = absurd (cc)

no_pointer : (b : Bool) (e x : Tree) → cond b (Some (ElementOf e)) None ≡ Some (PointerTo x) → ⊥
no_pointer true e x h = cc
no_pointer false e x h = cc

pub found-append : (t : Tree) (path more : List Step) (x : Tree) → found t path ≡ Some (PointerTo x) → found t (path ++ more) ≡ found x more
found-append t [] more x h = let e : t ≡ x = cc in ap (λ y. found y more) e
found-append (Struct ws ts) (Child i ∷ path) more x h =
    taken (nat_lt i (count ts)) (found (tree_at ts i) path) (found (tree_at ts i) (path ++ more)) (PointerTo x) (found x more) h (found-append (tree_at ts i) path more x)
found-append (Pointers ts) (Element i ∷ path) more x h =
    taken (nat_lt i (count ts)) (found (tree_at ts i) path) (found (tree_at ts i) (path ++ more)) (PointerTo x) (found x more) h (found-append (tree_at ts i) path more x)
found-append (Structs d q es) (Element i ∷ []) more x h = absurd (no_pointer (nat_lt i (element_count es)) (struct_at es i) x h)
found-append (Structs d q es) (Element i ∷ Child j ∷ path) more x h =
    let old = next (struct_at es i) (Child j) in
    taken (nat_lt i (element_count es) && nat_lt j q) (found old path) (found old (path ++ more)) (PointerTo x) (found x more) h (found-append old path more x)
found-append (Structs d q es) (Element i ∷ Element j ∷ path) more x h = absurd (cc)
found-append (Struct ws ts) (Element i ∷ path) more x h = absurd (cc)
found-append (Pointers ts) (Child i ∷ path) more x h = absurd (cc)
found-append (Structs d q es) (Child i ∷ path) more x h = absurd (cc)
found-append Null (step ∷ path) more x h = absurd (cc)
found-append (Capability i) (step ∷ path) more x h = absurd (cc)
found-append (Flat size ns) (step ∷ path) more x h = absurd (cc)

inner : (b : Bool) (o : Option EndValue) (y : EndValue) → cond b o None ≡ Some y → o ≡ Some y
inner true o y h = h
inner false o y h = absurd (cc)

pub update-append : (t : Tree) (path more : List Step) (x y : Tree) → found t path ≡ Some (PointerTo x) → update t (path ++ more) y ≡ update t path (update x more y)
update-append t [] more x y h = let e : t ≡ x = cc in ap (λ z. update z more y) e
update-append (Struct ws ts) (Child i ∷ path) more x y h =
    ap (put (Struct ws ts) (Child i)) (update-append (tree_at ts i) path more x y (inner (nat_lt i (count ts)) (found (tree_at ts i) path) (PointerTo x) h))
update-append (Pointers ts) (Element i ∷ path) more x y h =
    ap (put (Pointers ts) (Element i)) (update-append (tree_at ts i) path more x y (inner (nat_lt i (count ts)) (found (tree_at ts i) path) (PointerTo x) h))
update-append (Structs d q es) (Element i ∷ []) more x y h = absurd (no_pointer (nat_lt i (element_count es)) (struct_at es i) x h)
update-append (Structs d q es) (Element i ∷ Child j ∷ path) more x y h =
    let old = next (struct_at es i) (Child j) in
    ap (λ z. put (Structs d q es) (Element i) (put (struct_at es i) (Child j) z)) (update-append old path more x y (inner (nat_lt i (element_count es) && nat_lt j q) (found old path) (PointerTo x) h))
update-append (Structs d q es) (Element i ∷ Element j ∷ path) more x y h = absurd (cc)
update-append (Struct ws ts) (Element i ∷ path) more x y h = absurd (cc)
update-append (Pointers ts) (Child i ∷ path) more x y h = absurd (cc)
update-append (Structs d q es) (Child i ∷ path) more x y h = absurd (cc)
update-append Null (step ∷ path) more x y h = absurd (cc)
update-append (Capability i) (step ∷ path) more x y h = absurd (cc)
update-append (Flat size ns) (step ∷ path) more x y h = absurd (cc)
