-- One step more of a path.
use Rattle.std.proofs.Common.{◌≡◌, inl, inr, ℕ, zero, suc, ◌+◌, ◌*◌, ◌<◌, ◌≤◌, false, ◌&&◌, cond, nat_lt, List, [], ◌∷◌, ◌++◌, length, get_or, take, drop, Option, Some, None, IfSome, Ok, Err, refl, sym, ap, ◌∙◌, subst, arith, lt-ltb, map}
use Rattle.std.proofs.lemmas.Bool.{cases_lt}
use Rattle.std.proofs.lemmas.Bool.Decides.{nat_tests}
use Rattle.std.proofs.lemmas.List.{append_assoc, take_more, take-append-drop}
use Rattle.std.proofs.Math.Seq.{drop-cons}
use Rattle.capnp_words.specs.declared.error.ErrorKind.{ErrorKind}
use Rattle.capnp_format.specs.Segments.{Segments, segment, IsPlace}
use Rattle.capnp_format.specs.Tree.{Tree, Null, Capability, Struct, Flat, Pointers, Structs, Elements, count, element_count}
use Rattle.capnp_format.specs.Forest.{target, target_in, cover}
use Rattle.capnp_words.specs.declared.wire_pointer.ElementSize.TheVariants.{Void, Pointer}
use Rattle.capnp_in_place.specs.declared.existing.ExistingList.{ExistingList}
use Rattle.capnp_in_place.specs.declared.existing.ExistingStruct.{ExistingStruct}
use Rattle.capnp_in_place.specs.Existing.{struct_in, list_in, size_of, plain_list, struct_list, plain_misfit, unless}
use Rattle.capnp_format.specs.Path.{Step, Child, Element, tree_at, struct_at, next, node, PathLeads, word_interval}
use Rattle.capnp_allocation.specs.Stored.{IsStored}
use Rattle.capnp_allocation.proofs.Extents.{once_held, times-first}
use Rattle.capnp_allocation.proofs.Paths.{node_of_parts}
use Rattle.capnp_allocation.proofs.Replaced.{stored_within}
use Rattle.capnp_edits.specs.declared.edit.Step.{Step as EditStep}
use Rattle.capnp_edits.specs.declared.edit.path.PathEnd.{PathEnd}
use Rattle.capnp_edits.specs.declared.edit.path.PathEnd.TheVariants.{Pointer as AtPointer, Element as AtElement}
use Rattle.capnp_edits.specs.Paths.{step_of, found, IsElementFound, IsPathFound, IsEndInside, child_in, element_in, Steps}
use Rattle.capnp_edits.proofs.Walks.{leads_further, leads_value, list_end, found-append}
use Rattle.capnp_in_place.proofs.WiderObjects.WhichList.{same_list}

-- the place of a value is inside the message
pub place_inside : (S : Segments) (s p : ℕ) (t : Tree) (path : List Step) (u q : ℕ) (x : Tree) → PathLeads S (node s p t) path (node u q x) → IsStored S s p t → IsPlace S u q
place_inside S s p t path u q x l stored =
    (stored_within S s p t path u q x l stored).inside u q (omega (arith, times-first (word_interval u q) (cover S u q x) u q, once_held u q))

pub first : {A : Type 0} (i n : ℕ) (x y : A) → i < n → cond (nat_lt i n) x y ≡ x
first i n x y l = ap (λ b. cond b x y) (lt-ltb i n l)

pub second : {A : Type 0} (i n : ℕ) (x y : A) → n ≤ i → cond (nat_lt i n) x y ≡ y
second i n x y l = ap (λ b. cond b x y) (past i n l)
  where
    past : (i n : ℕ) → n ≤ i → nat_lt i n ≡ false
    past i n l = grind (arith, nat_tests)

pub same_some : {A : Type 0} (x y : A) → Some x ≡ Some y → x ≡ y
same_some x y h = cc

-- the struct with d data words and q pointers that starts at b in segment u; then where its
-- children are
abbrev pub struct_of : ℕ → ℕ → ℕ → ℕ → ExistingStruct
struct_of u b d q = record { segment = u; start = b; size = record { data_words = d; pointers = q } }

pub struct_child : (S : Segments) (s p i : ℕ) (t : Tree) (e : ExistingStruct) (r : Option PathEnd) → Some e ≡ struct_in (target S s p) t → IsStored S s p t → (IfSome (child_in e i) (IsEndInside S) → r ≡ child_in e i) → IsPathFound S (record { segment = s; word = p }) t (Child i ∷ []) r
struct_child S s p i (Struct ws ts) e r is_e stored exactly =
    let a = target S s p in
    let f = struct_of a.segment a.start (length ws) (count ts) in
    let same : e ≡ f = same_some e f is_e in
    let known : IfSome (child_in f i) (IsEndInside S) → r ≡ child_in f i = subst (λ x. IfSome (child_in x i) (IsEndInside S) → r ≡ child_in x i) same exactly in
    elim (cases_lt i (count ts)) [
      | inl l ↦
          let is_there : child_in f i ≡ Some (AtPointer (record { segment = a.segment; word = a.start + length ws + i })) = first i (count ts) _ _ l in
          let leads : PathLeads S (node s p (Struct ws ts)) (Child i ∷ []) (node a.segment (a.start + length ws + i) (tree_at ts i)) = (l, refl) in
          let inside = place_inside S s p (Struct ws ts) (Child i ∷ []) a.segment (a.start + length ws + i) (tree_at ts i) leads stored in
          subst (IsPathFound S (record { segment = s; word = p }) (Struct ws ts) (Child i ∷ [])) (sym (known (subst (λ (o : Option PathEnd). IfSome o (IsEndInside S)) (sym is_there) inside) ∙ is_there))
          (tree_at ts i, leads)
      | inr l ↦
          let none : child_in f i ≡ None = second i (count ts) _ _ l in
          subst (IsPathFound S (record { segment = s; word = p }) (Struct ws ts) (Child i ∷ [])) (sym (known (subst (λ (o : Option PathEnd). IfSome o (IsEndInside S)) (sym none) tt) ∙ none)) (λ more. second i (count ts) _ _ l)
    ]
struct_child S s p i Null e r is_e stored exactly = absurd (cc)
struct_child S s p i (Capability j) e r is_e stored exactly = absurd (cc)
struct_child S s p i (Flat size ns) e r is_e stored exactly = absurd (cc)
struct_child S s p i (Pointers ts) e r is_e stored exactly = absurd (cc)
struct_child S s p i (Structs d q es) e r is_e stored exactly = absurd (cc)

pub no_struct : (S : Segments) (s p i : ℕ) (t : Tree) → None ≡ struct_in (target S s p) t → IsPathFound S (record { segment = s; word = p }) t (Child i ∷ []) None
no_struct S s p i (Struct ws ts) e = absurd (cc)
no_struct S s p i Null e = λ more. refl
no_struct S s p i (Capability j) e = λ more. refl
no_struct S s p i (Flat size ns) e = λ more. refl
no_struct S s p i (Pointers ts) e = λ more. refl
no_struct S s p i (Structs d q es) e = λ more. refl

-- the list that was found, without an error
pub chosen : (m : Option ErrorKind) (l k : ExistingList) → Ok (Some k) ≡ unless m l → (m ≡ None) × (k ≡ l)
chosen None l k e = (refl, cc)
chosen (Some x) l k e = absurd (cc)

-- the elements of a list of numbers aren't places
flat_element : (u b size n i : ℕ) → size ≤ 5 → element_in (record { segment = u; start = b; size = size_of size; struct_size = record { data_words = 0; pointers = 0 }; count = n }) i ≡ None
flat_element u b zero n i l = refl
flat_element u b (suc zero) n i l = refl
flat_element u b (suc (suc zero)) n i l = refl
flat_element u b (suc (suc (suc zero))) n i l = refl
flat_element u b (suc (suc (suc (suc zero)))) n i l = refl
flat_element u b (suc (suc (suc (suc (suc zero))))) n i l = refl
flat_element u b (suc (suc (suc (suc (suc (suc k)))))) n i l = absurd (omega arith)

row_inside : (d m n i : ℕ) → i < n → n * d ≤ m → i * d + d ≤ m
row_inside d m n i l h = omega (arith, nonlinear i n d l)
  where
    nonlinear : (i n d : ℕ) → i < n → i * d + d ≤ n * d
    nonlinear i zero d l = absurd (omega arith)
    nonlinear zero (suc n) d l = omega arith
    nonlinear (suc i) (suc n) d l = omega (arith, nonlinear i n d (omega arith))

pub list_element : (S : Segments) (s p i : ℕ) (t : Tree) (l : ExistingList) (r : Option PathEnd) → Ok (Some l) ≡ list_in (target S s p) Void t → IsStored S s p t → i < l.count →
    (IfSome (element_in l i) (IsEndInside S) → r ≡ element_in l i) → IsPathFound S (record { segment = s; word = p }) t (Element i ∷ []) r
list_element S s p i Null l r is_l stored few exactly = absurd (cc)
list_element S s p i (Capability j) l r is_l stored few exactly = absurd (cc)
list_element S s p i (Struct ws ts) l r is_l stored few exactly = absurd (cc)
list_element S s p i (Flat size ns) l r is_l stored few exactly =
    let a = target S s p in
    let m = stored.means in
    let (b, some, small, o, claim, given, costs) = m.2 in
    let same = (chosen (plain_misfit Void (size_of size)) (plain_list a (size_of size) (length ns)) l is_l).1 in
    let none : element_in l i ≡ None = ap (λ k. element_in k i) same ∙ flat_element a.segment a.start size (length ns) i small in
    subst (IsPathFound S (record { segment = s; word = p }) (Flat size ns) (Element i ∷ [])) (sym (exactly (subst (λ (o : Option PathEnd). IfSome o (IsEndInside S)) (sym none) tt) ∙ none)) (λ more. refl)
list_element S s p i (Pointers ts) l r is_l stored few exactly =
    let a = target S s p in
    let same = same_list l (plain_list a Pointer (count ts)) is_l in
    let known : IfSome (element_in (plain_list a Pointer (count ts)) i) (IsEndInside S) → r ≡ element_in (plain_list a Pointer (count ts)) i = subst (λ x. IfSome (element_in x i) (IsEndInside S) → r ≡ element_in x i) same exactly in
    let less : i < count ts = subst (λ x. i < x.count) same few in
    let leads : PathLeads S (node s p (Pointers ts)) (Element i ∷ []) (node a.segment (a.start + i) (tree_at ts i)) = (less, refl) in
    let inside = place_inside S s p (Pointers ts) (Element i ∷ []) a.segment (a.start + i) (tree_at ts i) leads stored in
    subst (IsPathFound S (record { segment = s; word = p }) (Pointers ts) (Element i ∷ [])) (sym (known inside)) (tree_at ts i, leads)
list_element S s p i (Structs d q es) l r is_l stored few exactly =
    let a = target S s p in
    let same = same_list l (struct_list a d q (element_count es)) is_l in
    let known : IfSome (element_in (struct_list a d q (element_count es)) i) (IsEndInside S) → r ≡ element_in (struct_list a d q (element_count es)) i = subst (λ x. IfSome (element_in x i) (IsEndInside S) → r ≡ element_in x i) same exactly in
    let less : i < element_count es = subst (λ x. i < x.count) same few in
    let means = stored.means in
    let (b, m, k, some, o, claim, tag, fits, all, costs) = means.2 in
    let is_a : a ≡ b = ap target_in o.leads_to.1 in
    let inside : a.start + 1 + i * (d + q) + d + q ≤ length (segment S a.segment) = rw is_a (omega (arith, claim, row_inside (d + q) m (element_count es) i less fits)) in
    subst (IsPathFound S (record { segment = s; word = p }) (Structs d q es) (Element i ∷ [])) (sym (known inside)) (record {
      front = [];
      index = i;
      path_is = refl;
      list_segment = s;
      list_at = p;
      elements = es;
      leads = refl;
      counts = less;
      segment_is = refl;
      start_is = refl;
    })

-- a value that isn't a list
pub null_list : (S : Segments) (s p i : ℕ) (t : Tree) → Ok None ≡ list_in (target S s p) Void t → IsPathFound S (record { segment = s; word = p }) t (Element i ∷ []) None
null_list S s p i Null e = λ more. refl
null_list S s p i (Capability j) e = λ more. refl
null_list S s p i (Struct ws ts) e = λ more. refl
null_list S s p i (Flat size ns) e = λ more. refl
null_list S s p i (Pointers ts) e = absurd (cc)
null_list S s p i (Structs d q es) e = absurd (cc)

pub no_list : (S : Segments) (s p i : ℕ) (t : Tree) (k : ErrorKind) → Err k ≡ list_in (target S s p) Void t → IsPathFound S (record { segment = s; word = p }) t (Element i ∷ []) None
no_list S s p i Null k e = λ more. refl
no_list S s p i (Capability j) k e = λ more. refl
no_list S s p i (Struct ws ts) k e = λ more. refl
no_list S s p i (Flat size ns) k e = λ more. refl
no_list S s p i (Pointers ts) k e = absurd (cc)
no_list S s p i (Structs d q es) k e = absurd (cc)

-- one step more, from a pointer
pub pointer_further : (S : Segments) (s p : ℕ) (t : Tree) (path : List Step) (u q : ℕ) (step : Step) (r : Option PathEnd) → IsPathFound S (record { segment = s; word = p }) t path (Some (AtPointer (record { segment = u; word = q }))) → IsStored S s p t →
    ((x : Tree) → IsStored S u q x → IsPathFound S (record { segment = u; word = q }) x (step ∷ []) r) → IsPathFound S (record { segment = s; word = p }) t (path ++ step ∷ []) r
pointer_further S s p t path u q step (Some (AtPointer place)) f stored then =
    let g = then f.0 (stored_within S s p t path u q f.0 f.1 stored) in
    (g.0, leads_further S s p t path (step ∷ []) u q f.0 place.segment place.word g.0 f.1 g.1)
pointer_further S s p t path u q step (Some (AtElement e)) f stored then =
    let g = then f.0 (stored_within S s p t path u q f.0 f.1 stored) in
    record {
      front = path ++ g.front;
      index = g.index;
      path_is = ap (λ more. path ++ more) g.path_is ∙ sym (append_assoc path g.front (Element g.index ∷ []));
      list_segment = g.list_segment;
      list_at = g.list_at;
      elements = g.elements;
      leads = leads_further S s p t path g.front u q f.0 g.list_segment g.list_at (Structs e.size.data_words e.size.pointers g.elements) f.1 g.leads;
      counts = g.counts;
      segment_is = g.segment_is;
      start_is = g.start_is;
    }
pointer_further S s p t path u q step None f stored then =
    let g = then f.0 (stored_within S s p t path u q f.0 f.1 stored) in
    λ more. ap (found t) (append_assoc path (step ∷ []) more) ∙ found-append t path (step ∷ more) f.0 (leads_value S s p t path u q f.0 f.1) ∙ g more

-- what a longer path finds after an element of a list
behind_element : (d q : ℕ) (es : Elements) (i j : ℕ) (more : List Step) → i < element_count es →
    found (Structs d q es) (Element i ∷ Child j ∷ more) ≡ cond (nat_lt j q) (found (next (struct_at es i) (Child j)) more) None
behind_element d q es i j more l = ap (λ b. cond (b && nat_lt j q) (found (next (struct_at es i) (Child j)) more) None) (lt-ltb i (element_count es) l)

-- one step more, from an element
pub element_child : (S : Segments) (s p : ℕ) (t : Tree) (path : List Step) (e : ExistingStruct) (j : ℕ) (r : Option PathEnd) → IsElementFound S s p t path e → IsStored S s p t →
    (IfSome (child_in e j) (IsEndInside S) → r ≡ child_in e j) → IsPathFound S (record { segment = s; word = p }) t (path ++ Child j ∷ []) r
element_child S s p t path e j r f stored exactly =
    let d = e.size.data_words in
    let q = e.size.pointers in
    let list = Structs d q f.elements in
    let child = next (struct_at f.elements f.index) (Child j) in
    let joined : (more : List Step) → path ++ Child j ∷ more ≡ f.front ++ Element f.index ∷ Child j ∷ more =
    (λ more. ap (λ x. x ++ Child j ∷ more) f.path_is ∙ append_assoc f.front (Element f.index ∷ []) (Child j ∷ more)) in
    let all : (more : List Step) → found t (path ++ Child j ∷ more) ≡ cond (nat_lt j q) (found child more) None =
    (λ more. ap (found t) (joined more) ∙ found-append t f.front (Element f.index ∷ Child j ∷ more) list (list_end f) ∙ behind_element d q f.elements f.index j more f.counts) in
    elim (cases_lt j q) [
      | inl l ↦
          let is_there : child_in e j ≡ Some (AtPointer (record { segment = e.segment; word = e.start + d + j })) = first j q _ _ l in
          let a = target S f.list_segment f.list_at in
          let near : PathLeads S (node f.list_segment f.list_at list) (Element f.index ∷ Child j ∷ []) (node e.segment (e.start + d + j) child) =
          (f.counts, l, node_of_parts (sym f.segment_is) (ap (λ b. b + d + j) (sym f.start_is)) refl) in
          let leads = leads_further S s p t f.front (Element f.index ∷ Child j ∷ []) f.list_segment f.list_at list e.segment (e.start + d + j) child f.leads near in
          let inside = place_inside S s p t (f.front ++ Element f.index ∷ Child j ∷ []) e.segment (e.start + d + j) child leads stored in
          subst (IsPathFound S (record { segment = s; word = p }) t (path ++ Child j ∷ [])) (sym (exactly (subst (λ (o : Option PathEnd). IfSome o (IsEndInside S)) (sym is_there) inside) ∙ is_there))
          (child, subst (λ x. PathLeads S (node s p t) x (node e.segment (e.start + d + j) child)) (sym (joined [])) leads)
      | inr l ↦
          let none : child_in e j ≡ None = second j q _ _ l in
          subst (IsPathFound S (record { segment = s; word = p }) t (path ++ Child j ∷ [])) (sym (exactly (subst (λ (o : Option PathEnd). IfSome o (IsEndInside S)) (sym none) tt) ∙ none))
          (λ more. ap (found t) (append_assoc path (Child j ∷ []) more) ∙ all more ∙ second j q _ _ l)
    ]

pub element_element : (S : Segments) (s p : ℕ) (t : Tree) (path : List Step) (e : ExistingStruct) (j : ℕ) → IsElementFound S s p t path e → IsPathFound S (record { segment = s; word = p }) t (path ++ Element j ∷ []) None
element_element S s p t path e j f more =
    let list = Structs e.size.data_words e.size.pointers f.elements in
    ap (found t) (append_assoc path (Element j ∷ []) more ∙ ap (λ x. x ++ Element j ∷ more) f.path_is ∙ append_assoc f.front (Element f.index ∷ []) (Element j ∷ more))
    ∙ found-append t f.front (Element f.index ∷ Element j ∷ more) list (list_end f)

-- one step more, from any end of a path
pub step_further : (S : Segments) (s p : ℕ) (t : Tree) (path : List Step) (here : PathEnd) (step : Step) (r : Option PathEnd) → IsPathFound S (record { segment = s; word = p }) t path (Some here) → IsStored S s p t → Steps S here step r →
    IsPathFound S (record { segment = s; word = p }) t (path ++ step ∷ []) r
step_further S s p t path (AtPointer place) step r f stored h = pointer_further S s p t path place.segment place.word step r f stored h
step_further S s p t path (AtElement e) (Child j) r f stored h = element_child S s p t path e j r f stored h
step_further S s p t path (AtElement e) (Element j) r f stored h = subst (IsPathFound S (record { segment = s; word = p }) t (path ++ Element j ∷ [])) (sym h) (element_element S s p t path e j f)

steps-append : (xs ys : List EditStep) → map step_of (xs ++ ys) ≡ map step_of xs ++ map step_of ys
steps-append [] ys = refl
steps-append (x ∷ xs) ys = ap (λ p. step_of x ∷ p) (steps-append xs ys)

-- a path is followed by its step number i
pub step_taken : (S : Segments) (s p : ℕ) (t : Tree) (i : ℕ) (path : List EditStep) (here next : PathEnd) → i < length path → IsPathFound S (record { segment = s; word = p }) t (map step_of (take i path)) (Some here) → IsStored S s p t → (d : EditStep) →
    Steps S here (step_of (get_or path i d)) (Some next) → IsPathFound S (record { segment = s; word = p }) t (map step_of (take (i + 1) path)) (Some next)
step_taken S s p t i path here next l f stored d h =
    let same : map step_of (take (i + 1) path) ≡ map step_of (take i path) ++ step_of (get_or path i d) ∷ [] = ap (map step_of) (take_more path i d l) ∙ steps-append (take i path) (get_or path i d ∷ []) in
    subst (λ x. IsPathFound S (record { segment = s; word = p }) t x (Some next)) (sym same) (step_further S s p t (map step_of (take i path)) here (step_of (get_or path i d)) (Some next) f stored h)

-- step number i of a path leads nowhere, and so does the path
pub step_nowhere : (S : Segments) (s p : ℕ) (t : Tree) (i : ℕ) (path : List EditStep) (here : PathEnd) → i < length path → IsPathFound S (record { segment = s; word = p }) t (map step_of (take i path)) (Some here) → IsStored S s p t → (d : EditStep) →
    Steps S here (step_of (get_or path i d)) None → IsPathFound S (record { segment = s; word = p }) t (map step_of path) None
step_nowhere S s p t i path here l f stored d h =
    let front = map step_of (take i path) in
    let step = step_of (get_or path i d) in
    let rest = map step_of (drop (i + 1) path) in
    let whole : map step_of path ≡ front ++ step ∷ rest = ap (map step_of) (parts path i l) ∙ steps-append (take i path) (get_or path i d ∷ drop (i + 1) path) in
    let none = step_further S s p t front here step None f stored h in
    λ more. ap (λ x. found t (x ++ more)) whole ∙ ap (found t) (append_assoc front (step ∷ rest) more ∙ sym (append_assoc front (step ∷ []) (rest ++ more))) ∙ none (rest ++ more)
  where
    parts : (xs : List EditStep) (i : ℕ) → i < length xs → xs ≡ take i xs ++ get_or xs i d ∷ drop (i + 1) xs
    parts xs i l = sym (take-append-drop i xs) ∙ ap (λ ys. take i xs ++ ys) (drop-cons xs i d l ∙ ap (λ j. get_or xs i d ∷ drop j xs) (let e : suc i ≡ i + 1 = omega arith in e))
