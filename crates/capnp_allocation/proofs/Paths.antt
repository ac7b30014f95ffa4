-- The value at the end of a path is replaced, and the whole means the tree with the new value
-- there.
use Rattle.std.proofs.Common.{◌≡◌, ◌≢◌, ℕ, zero, suc, pred, ◌+◌, ◌*◌, ◌<◌, ◌≤◌, List, [], ◌∷◌, ◌++◌, length, Some, refl, sym, ap, ◌∙◌, subst, le_trans, arith}
use Rattle.capnp_format.specs.Word.{list_count}
use Rattle.capnp_format.specs.Segments.{Segments, segment, word_at, Target, leads}
use Rattle.capnp_format.specs.Tree.{Tree, Struct, Pointers, Structs, Trees, no_trees, tree, Elements, no_elements, element, count, element_count}
use Rattle.capnp_format.specs.Means.{IsTag, count_cost, Means, MeansAll, MeansElements}
use Rattle.capnp_format.specs.Forest.{Interval, times, pads_of, object_of, target, target_in, cover, cover_all, cover_elements, IsTidy, AreTidy, AreTidyElements}
use Rattle.capnp_format.specs.Path.{Step, Child, Element, tree_at, put_tree, struct_at, put_struct, next, put, update, Node, node, PathLeads, word_interval, extent}
use Rattle.capnp_format.specs.Segments.{Grows}
use Rattle.capnp_format.proofs.Frame.{Agree, times-append, agree_left, agree_right, has_words_kept, list_kept, frame, frame_all, frame_elements}
use Rattle.capnp_allocation.proofs.Replace.{cover_others, times-others, cover_other_elements, put_tree-count}
use Rattle.capnp_format.proofs.Levels.{other_levels, depth_within}
use Rattle.capnp_allocation.proofs.Extents.{AgreeBeside, word_within, times-first, times-object, keeps_object}
use Rattle.capnp_allocation.proofs.Tidy.{at_target, tidy_kept, tidy_kept_all, tidy_kept_elements}
use Rattle.capnp_format.proofs.Children.{means_child, means_element_child}

pub times-other-elements : (S : Segments) (n s p d q : ℕ) (es : Elements) (c i j v r : ℕ) → i < element_count es → j < q → MeansElements S n s p d q es c →
    times (cover_elements S s p d q es) v r ≡ times (cover S s (p + i * (d + q) + d + j) (next (struct_at es i) (Child j))) v r + times (cover_other_elements S s p d q es i j) v r
times-other-elements S n s p d q no_elements c i j v r l m h = absurd (omega arith)
times-other-elements S n s p d q (element ws ts es) c zero j v r l m (a, b, long, len, here, all, rest, g) =
    let moved = ap (λ z. times (cover S s z (tree_at ts j)) v r) (let e : p + d + j ≡ p + 0 * (d + q) + d + j = omega arith in e) in
    omega (
      arith,
      times-append (cover_all S s (p + d) ts) (cover_elements S s (p + d + q) d q es) v r,
      times-append (cover_others S s (p + d) ts j) (cover_elements S s (p + d + q) d q es) v r,
      times-others S s (p + d) ts j v r (omega arith),
      moved,
    )
times-other-elements S n s p d q (element ws ts es) c (suc i) j v r l m (a, b, long, len, here, all, rest, g) =
    let moved = ap (λ z. times (cover S s z (next (struct_at es i) (Child j))) v r) (let e : p + d + q + i * (d + q) + d + j ≡ p + suc i * (d + q) + d + j = omega arith in e) in
    omega (
      arith,
      times-append (cover_all S s (p + d) ts) (cover_elements S s (p + d + q) d q es) v r,
      times-append (cover_all S s (p + d) ts) (cover_other_elements S s (p + d + q) d q es i j) v r,
      times-other-elements S n s (p + d + q) d q es b i j v r (omega arith) m rest,
      moved,
    )

pub tidy_child : (S : Segments) (s p : ℕ) (ts : Trees) (i : ℕ) → i < count ts → AreTidy S s p ts → IsTidy S s (p + i) (tree_at ts i)
tidy_child S s p no_trees i l h = absurd (omega arith)
tidy_child S s p (tree t ts) zero l h = subst (λ q. IsTidy S s q t) (let e : p ≡ p + 0 = omega arith in e) h.0
tidy_child S s p (tree t ts) (suc i) l h = subst (λ q. IsTidy S s q (tree_at ts i)) (let e : p + 1 + i ≡ p + suc i = omega arith in e) (tidy_child S s (p + 1) ts i (omega arith) h.1)

pub tidy_element_child : (S : Segments) (n s p d q : ℕ) (es : Elements) (c i j : ℕ) → i < element_count es → j < q → MeansElements S n s p d q es c → AreTidyElements S s p d q es →
    IsTidy S s (p + i * (d + q) + d + j) (next (struct_at es i) (Child j))
tidy_element_child S n s p d q no_elements c i j l m k h = absurd (omega arith)
tidy_element_child S n s p d q (element ws ts es) c zero j l m (a, b, long, len, here, all, rest, g) h =
    subst (λ z. IsTidy S s z (tree_at ts j)) (let e : p + d + j ≡ p + 0 * (d + q) + d + j = omega arith in e) (tidy_child S s (p + d) ts j (omega arith) h.0)
tidy_element_child S n s p d q (element ws ts es) c (suc i) j l m (a, b, long, len, here, all, rest, g) h =
    subst (λ z. IsTidy S s z (next (struct_at es i) (Child j))) (let e : p + d + q + i * (d + q) + d + j ≡ p + suc i * (d + q) + d + j = omega arith in e)
    (tidy_element_child S n s (p + d + q) d q es b i j (omega arith) m rest h.1)

row_within : (i n w k : ℕ) → i < n → k < w → i * w + k < n * w
row_within i n w k l m = grind arith

-- From S to R child i is rewritten to y.
pub record ChildrenPut (S R : Segments) (n s p : ℕ) (ts : Trees) (i : ℕ) (y : Tree) : Type 0 where
  pub cost : ℕ
  pub means : MeansAll R n s p (put_tree ts i y) cost
  pub covers : (v r : ℕ) → times (cover_all R s p (put_tree ts i y)) v r ≡ times (cover R s (p + i) y) v r + times (cover_others S s p ts i) v r
  pub tidy : AreTidy S s p ts → IsTidy R s (p + i) y → AreTidy R s p (put_tree ts i y)

pub put_child : (S R : Segments) (n s p : ℕ) (ts : Trees) (c i : ℕ) (y : Tree) (e : ℕ) → Grows S R → i < count ts →
    ((q : ℕ) → p ≤ q → q < p + count ts → q ≢ p + i → word_at R s q ≡ word_at S s q) → Agree S R (cover_others S s p ts i) →
    MeansAll S n s p ts c → Means R n s (p + i) y e → ChildrenPut S R n s p ts i y
put_child S R n s p no_trees c i y e grows l same h m k = absurd (omega arith)
put_child S R n s p (tree t ts) c zero y e grows l same h (a, b, one, rest, g) k =
    let keep = λ (q : ℕ) (v : p + 1 ≤ q) (w : q < p + 1 + count ts). same q (omega arith) (omega arith) (λ z. omega arith) in
    let others = frame_all ts grows keep h (record { means = rest }) in
    let here : p + 0 ≡ p = omega arith in
    record {
      cost = e + b;
      means = (e, b, subst (λ q. Means R n s q y e) here k, others.0, refl);
      covers = λ v r. omega (
        arith,
        times-append (cover R s p y) (cover_all R s (p + 1) ts) v r,
        ap (λ is. times is v r) others.1,
        ap (λ z. times (cover R s z y) v r) here,
      );
      tidy = λ v w. (subst (λ q. IsTidy R s q y) here w, tidy_kept_all S R n s (p + 1) ts b grows keep h rest v.1);
    }
put_child S R n s p (tree t ts) c (suc i) y e grows l same h (a, b, one, rest, g) k =
    let same_first : word_at R s p ≡ word_at S s p = same p (omega arith) (omega arith) (λ z. omega arith) in
    let agree_first = agree_left S R (cover S s p t) (cover_others S s (p + 1) ts i) h in
    let first = frame S R n s p t a grows same_first agree_first one in
    let here : p + suc i ≡ p + 1 + i = omega arith in
    let others = put_child S R n s (p + 1) ts b i y e grows (omega arith) (λ q v w z. same q (omega arith) (omega arith) (λ x. z (omega arith)))
    (agree_right S R (cover S s p t) (cover_others S s (p + 1) ts i) h) rest (subst (λ q. Means R n s q y e) here k) in
    record {
      cost = a + others.cost;
      means = (a, others.cost, first.0, others.means, refl);
      covers = λ v r. omega (
        arith,
        times-append (cover R s p t) (cover_all R s (p + 1) (put_tree ts i y)) v r,
        times-append (cover S s p t) (cover_others S s (p + 1) ts i) v r,
        ap (λ is. times is v r) first.1,
        others.covers v r,
        ap (λ z. times (cover R s z y) v r) here,
      );
      tidy = λ v w. (tidy_kept S R n s p t a grows same_first agree_first one v.0, others.tidy v.1 (subst (λ q. IsTidy R s q y) here w));
    }

-- From S to R child j of element i is rewritten to y.
pub record ElementsPut (S R : Segments) (n s p d q : ℕ) (es : Elements) (i j : ℕ) (y : Tree) : Type 0 where
  pub cost : ℕ
  pub means : MeansElements R n s p d q (put_struct es i (put (struct_at es i) (Child j) y)) cost
  pub covers : (v r : ℕ) →
      times (cover_elements R s p d q (put_struct es i (put (struct_at es i) (Child j) y))) v r ≡ times (cover R s (p + i * (d + q) + d + j) y) v r + times (cover_other_elements S s p d q es i j) v r
  pub tidy : AreTidyElements S s p d q es → IsTidy R s (p + i * (d + q) + d + j) y → AreTidyElements R s p d q (put_struct es i (put (struct_at es i) (Child j) y))
  pub counts : element_count (put_struct es i (put (struct_at es i) (Child j) y)) ≡ element_count es

pub put_element_child : (S R : Segments) (n s p d q : ℕ) (es : Elements) (c i j : ℕ) (y : Tree) (e : ℕ) → Grows S R → i < element_count es → j < q →
    p + element_count es * (d + q) ≤ length (segment S s) →
    ((r : ℕ) → p ≤ r → r < p + element_count es * (d + q) → r ≢ p + i * (d + q) + d + j → word_at R s r ≡ word_at S s r) → Agree S R (cover_other_elements S s p d q es i j) →
    MeansElements S n s p d q es c → Means R n s (p + i * (d + q) + d + j) y e → ElementsPut S R n s p d q es i j y
put_element_child S R n s p d q no_elements c i j y e grows l m fits same h x k = absurd (omega arith)
put_element_child S R n s p d q (element ws ts es) c zero j y e grows l m fits same h (a, b, long, len, words, all, rest, g) k =
    let more = element_count es * (d + q) in
    let here : p + 0 * (d + q) + d + j ≡ p + d + j = omega arith in
    let first = put_child S R n s (p + d) ts a j y e grows (omega arith) (λ r v w z. same r (omega arith) (omega arith) (λ o. z (omega arith)))
    (agree_left S R (cover_others S s (p + d) ts j) (cover_elements S s (p + d + q) d q es) h) all (subst (λ r. Means R n s r y e) here k) in
    let keep = λ (r : ℕ) (v : p + d + q ≤ r) (w : r < p + d + q + element_count es * (d + q)). same r (omega arith) (omega arith) (λ o. omega arith) in
    let agree_rest = agree_right S R (cover_others S s (p + d) ts j) (cover_elements S s (p + d + q) d q es) h in
    let others = frame_elements es grows (omega arith) keep agree_rest (record { means = rest }) in
    record {
      cost = first.cost + b;
      means = (first.cost, b, long, put_tree-count ts j y ∙ len, has_words_kept {ws = ws} s p grows (omega arith) (λ r v w. same r v (omega arith) (λ o. omega arith)) words, first.means, others.0, refl);
      covers = λ v r. omega (
        arith,
        times-append (cover_all R s (p + d) (put_tree ts j y)) (cover_elements R s (p + d + q) d q es) v r,
        times-append (cover_others S s (p + d) ts j) (cover_elements S s (p + d + q) d q es) v r,
        first.covers v r,
        ap (λ is. times is v r) others.1,
        ap (λ z. times (cover R s z y) v r) here,
      );
      tidy = λ v w. (first.tidy v.0 (subst (λ r. IsTidy R s r y) here w), tidy_kept_elements S R n s (p + d + q) d q es b grows keep agree_rest rest v.1);
      counts = refl;
    }
put_element_child S R n s p d q (element ws ts es) c (suc i) j y e grows l m fits same h (a, b, long, len, words, all, rest, g) k =
    let here : p + suc i * (d + q) + d + j ≡ p + d + q + i * (d + q) + d + j = omega arith in
    let keep = λ (r : ℕ) (v : p + d ≤ r) (w : r < p + d + count ts). same r (omega arith) (omega arith) (λ o. omega arith) in
    let agree_first = agree_left S R (cover_all S s (p + d) ts) (cover_other_elements S s (p + d + q) d q es i j) h in
    let first = frame_all ts grows keep agree_first (record { means = all }) in
    let others = put_element_child S R n s (p + d + q) d q es b i j y e grows (omega arith) m (omega arith) (λ r v w z. same r (omega arith) (omega arith) (λ o. z (omega arith)))
    (agree_right S R (cover_all S s (p + d) ts) (cover_other_elements S s (p + d + q) d q es i j) h) rest (subst (λ r. Means R n s r y e) here k) in
    record {
      cost = a + others.cost;
      means = (a, others.cost, long, len, has_words_kept {ws = ws} s p grows (omega arith) (λ r v w. same r v (omega arith) (λ o. omega arith)) words, first.0, others.means, refl);
      covers = λ v r. omega (
        arith,
        times-append (cover_all R s (p + d) ts) (cover_elements R s (p + d + q) d q (put_struct es i (put (struct_at es i) (Child j) y))) v r,
        times-append (cover_all S s (p + d) ts) (cover_other_elements S s (p + d + q) d q es i j) v r,
        ap (λ is. times is v r) first.1,
        others.covers v r,
        ap (λ z. times (cover R s z y) v r) here,
      );
      tidy = λ v w. (tidy_kept_all S R n s (p + d) ts a grows keep agree_first all v.0, others.tidy v.1 (subst (λ r. IsTidy R s r y) here w));
      counts = ap suc others.counts;
    }

abbrev segment_in : Node → ℕ
segment_in (node s p t) = s

abbrev word_in : Node → ℕ
word_in (node s p t) = p

abbrev value_in : Node → Tree
value_in (node s p t) = t

-- If two nodes are the same, so are their places and their values.
pub same_node : {s p u q : ℕ} {t x : Tree} → node s p t ≡ node u q x → (s ≡ u) × (p ≡ q) × (t ≡ x)
same_node h = (ap segment_in h, ap word_in h, ap value_in h)

pub node_of_parts : {s p u q : ℕ} {t x : Tree} → s ≡ u → p ≡ q → t ≡ x → node s p t ≡ node u q x
node_of_parts a b c = rw (a, b, c) refl

-- What the value at the end of the path holds is held by the whole.
pub part_within : (S : Segments) (n s p : ℕ) (t : Tree) (c : ℕ) (path : List Step) (u q : ℕ) (x : Tree) → PathLeads S (node s p t) path (node u q x) → Means S n s p t c →
    (v r : ℕ) → times (extent S u q x) v r ≤ times (extent S s p t) v r
part_within S n s p t c [] u q x h m v r =
    let same = same_node h in
    rw (same.0, same.1, same.2) (omega arith)
part_within S n s p (Struct ws ts) c (Child i ∷ path) u q x h (a, k, some, o, claim, e, all, g) v r =
    let here = a.start + length ws + i in
    let way = subst (λ b. PathLeads S (node b.segment (b.start + length ws + i) (tree_at ts i)) path (node u q x)) (ap target_in o.leads_to.1) h.1 in
    let child = means_child S (pred n) a.segment (a.start + length ws) ts k i h.0 all in
    omega (
      arith,
      part_within S (pred n) a.segment here (tree_at ts i) child.0 path u q x way child.1 v r,
      times-first (word_interval s p) (cover S s p (Struct ws ts)) v r,
      times-object S s p (length ws + count ts) a (λ b. cover_all S b.segment (b.start + length ws) ts) v r o.leads_to.1,
      times-others S a.segment (a.start + length ws) ts i v r h.0,
      times-first (word_interval a.segment here) (cover S a.segment here (tree_at ts i)) v r,
      word_within a (length ws + count ts) here v r (omega arith) (omega arith),
    )
part_within S n s p (Pointers ts) c (Element i ∷ path) u q x h (a, k, some, o, claim, all, g) v r =
    let here = a.start + i in
    let way = subst (λ b. PathLeads S (node b.segment (b.start + i) (tree_at ts i)) path (node u q x)) (ap target_in o.leads_to.1) h.1 in
    let child = means_child S (pred n) a.segment a.start ts k i h.0 all in
    omega (
      arith,
      part_within S (pred n) a.segment here (tree_at ts i) child.0 path u q x way child.1 v r,
      times-first (word_interval s p) (cover S s p (Pointers ts)) v r,
      times-object S s p (count ts) a (λ b. cover_all S b.segment b.start ts) v r o.leads_to.1,
      times-others S a.segment a.start ts i v r h.0,
      times-first (word_interval a.segment here) (cover S a.segment here (tree_at ts i)) v r,
      word_within a (count ts) here v r (omega arith) (omega arith),
    )
part_within S n s p (Structs d w es) c (Element i ∷ Child j ∷ path) u q x h (a, m, k, some, o, claim, tag, fits, all, g) v r =
    let here = a.start + 1 + i * (d + w) + d + j in
    let old = next (struct_at es i) (Child j) in
    let way = subst (λ b. PathLeads S (node b.segment (b.start + 1 + i * (d + w) + d + j) old) path (node u q x)) (ap target_in o.leads_to.1) h.2 in
    let child = means_element_child S (pred n) a.segment (a.start + 1) d w es k i j h.0 h.1 all in
    omega (
      arith,
      part_within S (pred n) a.segment here old child.0 path u q x way child.1 v r,
      times-first (word_interval s p) (cover S s p (Structs d w es)) v r,
      times-object S s p (1 + element_count es * (d + w)) a (λ b. cover_elements S b.segment (b.start + 1) d w es) v r o.leads_to.1,
      times-other-elements S (pred n) a.segment (a.start + 1) d w es k i j v r h.0 h.1 all,
      times-first (word_interval a.segment here) (cover S a.segment here old) v r,
      word_within a (1 + element_count es * (d + w)) here v r (omega arith) (omega (arith, row_within i (element_count es) (d + w) (d + j) h.0 (omega arith))),
    )
part_within S n s p t c (step ∷ path) u q x h m v r = absurd h

-- An object's extent in R, compared with its extent in S.
object_covers : (S R : Segments) (s p n m : ℕ) (a : Target) (more more' : Target → List Interval) (v r : ℕ) → word_at R s p ≡ word_at S s p → leads S s p ≡ Some a → leads R s p ≡ Some a → m ≡ n →
    times (word_interval s p ∷ pads_of (word_at R s p) ++ object_of (target R s p) m ∷ more' (target R s p)) v r + times (more a) v r
    ≡ times (word_interval s p ∷ pads_of (word_at S s p) ++ object_of (target S s p) n ∷ more (target S s p)) v r + times (more' a) v r
object_covers S R s p n m a more more' v r same l k e =
    omega (
      arith,
      times-first (word_interval s p) (pads_of (word_at R s p) ++ object_of (target R s p) m ∷ more' (target R s p)) v r,
      times-first (word_interval s p) (pads_of (word_at S s p) ++ object_of (target S s p) n ∷ more (target S s p)) v r,
      times-object R s p m a more' v r k,
      times-object S s p n a more v r l,
      ap (λ x. times (pads_of x) v r) same,
      ap (λ x. times (object_of a x ∷ []) v r) e,
    )

-- From S to R the place (s, p), which meant t, means t with y at the end of the path instead of x
-- at (u, q). It holds the same words as before, without those of x and with those of y.
pub record IsUpdated (S R : Segments) (n s p : ℕ) (t : Tree) (path : List Step) (u q : ℕ) (x y : Tree) : Type 0 where
  pub cost : ℕ
  pub means : Means R n s p (update t path y) cost
  pub covers : (v r : ℕ) → times (extent R s p (update t path y)) v r + times (extent S u q x) v r ≡ times (extent S s p t) v r + times (extent R u q y) v r
  pub tidy : IsTidy S s p t → IsTidy R u q y → IsTidy R s p (update t path y)

pub updated : (S R : Segments) (n m s p : ℕ) (t : Tree) (c : ℕ) (path : List Step) (u q : ℕ) (x y : Tree) (e : ℕ) → Grows S R → m + length path ≤ n → PathLeads S (node s p t) path (node u q x) →
    AgreeBeside S R (extent S u q x) (extent S s p t) → Means S n s p t c → Means R m u q y e → IsUpdated S R n s p t path u q x y
updated S R n m s p t c [] u q x y e grows levels way agree old new =
    let h = same_node way in
    let lifted = other_levels n y (omega (arith, depth_within y (record { means = new }))) (record { means = new }) in
    record {
      cost = e;
      means = rw (h.0, h.1) lifted;
      covers = λ v r. rw (h.0, h.1, h.2) (omega arith);
      tidy = λ v w. rw (h.0, h.1) w;
    }
updated S R n m s p (Struct ws ts) c (Child i ∷ path) u q x y e grows levels h agree (a, k, some, o, claim, words, all, g) new =
    let from = a.start + length ws in
    let here = from + i in
    let old = tree_at ts i in
    let inner = update old path y in
    let child = means_child S (pred n) a.segment from ts k i h.0 all in
    let way = subst (λ b. PathLeads S (node b.segment (b.start + length ws + i) old) path (node u q x)) (ap target_in o.leads_to.1) h.1 in
    let keep = keeps_object S R s p (length ws + count ts) here a (cover S a.segment here old) (cover_others S a.segment from ts i) (extent S u q x) (λ b. cover_all S b.segment (b.start + length ws) ts) grows o.leads_to (omega arith) (omega arith)
    (λ v r. times-others S a.segment from ts i v r h.0) (λ v r. part_within S (pred n) a.segment here old child.0 path u q x way child.1 v r) agree in
    let below = updated S R (pred n) m a.segment here old child.0 path u q x y e grows (omega arith) way keep.inner child.1 new in
    let done = put_child S R (pred n) a.segment from ts k i inner below.cost grows h.0 (λ r v w other. keep.object r (omega arith) (omega arith) other) keep.others_agree all below.means in
    let len = put_tree-count ts i inner in
    record {
      cost = a.pads + (length ws + count (put_tree ts i inner)) + done.cost;
      means = (
        a,
        done.cost,
        some,
        record { leads_to = keep.leads_to; is_struct = o.is_struct; data_of = o.data_of; pointers = o.pointers ∙ sym len },
        le_trans (omega arith) (grows.words a.segment),
        has_words_kept {ws = ws} a.segment a.start grows (omega arith) (λ r v w. keep.object r v (omega arith) (λ z. omega arith)) words,
        done.means,
        refl,
      );
      covers = λ v r. omega (
        arith,
        object_covers S R s p (length ws + count ts) (length ws + count (put_tree ts i inner)) a (λ b. cover_all S b.segment (b.start + length ws) ts) (λ b. cover_all R b.segment (b.start + length ws) (put_tree ts i inner)) v r keep.same o.leads_to.1 keep.leads_to.1 (omega arith),
        done.covers v r,
        times-others S a.segment from ts i v r h.0,
        below.covers v r,
        times-first (word_interval a.segment here) (cover S a.segment here old) v r,
        times-first (word_interval a.segment here) (cover R a.segment here inner) v r,
      );
      tidy = λ v w. at_target S R s p a (λ b. AreTidy S b.segment (b.start + length ws) ts) (λ b. AreTidy R b.segment (b.start + length ws) (put_tree ts i inner)) o.leads_to.1 keep.leads_to.1
          (λ z. done.tidy z (below.tidy (tidy_child S a.segment from ts i h.0 z) w)) v;
    }
updated S R n m s p (Pointers ts) c (Element i ∷ path) u q x y e grows levels h agree (a, k, some, o, claim, all, g) new =
    let here = a.start + i in
    let old = tree_at ts i in
    let inner = update old path y in
    let child = means_child S (pred n) a.segment a.start ts k i h.0 all in
    let way = subst (λ b. PathLeads S (node b.segment (b.start + i) old) path (node u q x)) (ap target_in o.leads_to.1) h.1 in
    let keep = keeps_object S R s p (count ts) here a (cover S a.segment here old) (cover_others S a.segment a.start ts i) (extent S u q x) (λ b. cover_all S b.segment b.start ts) grows o.leads_to (omega arith) (omega arith)
    (λ v r. times-others S a.segment a.start ts i v r h.0) (λ v r. part_within S (pred n) a.segment here old child.0 path u q x way child.1 v r) agree in
    let below = updated S R (pred n) m a.segment here old child.0 path u q x y e grows (omega arith) way keep.inner child.1 new in
    let done = put_child S R (pred n) a.segment a.start ts k i inner below.cost grows h.0 keep.object keep.others_agree all below.means in
    let len = put_tree-count ts i inner in
    record {
      cost = a.pads + count (put_tree ts i inner) + done.cost;
      means = (
        a,
        done.cost,
        some,
        record { leads_to = keep.leads_to; is_list = o.is_list; is_size = o.is_size; counts = o.counts ∙ sym len },
        le_trans (omega arith) (grows.words a.segment),
        done.means,
        refl,
      );
      covers = λ v r. omega (
        arith,
        object_covers S R s p (count ts) (count (put_tree ts i inner)) a (λ b. cover_all S b.segment b.start ts) (λ b. cover_all R b.segment b.start (put_tree ts i inner)) v r keep.same o.leads_to.1 keep.leads_to.1 len,
        done.covers v r,
        times-others S a.segment a.start ts i v r h.0,
        below.covers v r,
        times-first (word_interval a.segment here) (cover S a.segment here old) v r,
        times-first (word_interval a.segment here) (cover R a.segment here inner) v r,
      );
      tidy = λ v w. at_target S R s p a (λ b. AreTidy S b.segment b.start ts) (λ b. AreTidy R b.segment b.start (put_tree ts i inner)) o.leads_to.1 keep.leads_to.1
          (λ z. done.tidy z (below.tidy (tidy_child S a.segment a.start ts i h.0 z) w)) v;
    }
updated S R n m s p (Structs d w es) c (Element i ∷ Child j ∷ path) u q x y e grows levels h agree (a, claimed, k, some, o, claim, tag, fits, all, g) new =
    let from = a.start + 1 in
    let here = from + i * (d + w) + d + j in
    let old = next (struct_at es i) (Child j) in
    let inner = update old path y in
    let width = element_count es * (d + w) in
    let written = put_struct es i (put (struct_at es i) (Child j) inner) in
    let child = means_element_child S (pred n) a.segment from d w es k i j h.0 h.1 all in
    let way = subst (λ b. PathLeads S (node b.segment (b.start + 1 + i * (d + w) + d + j) old) path (node u q x)) (ap target_in o.leads_to.1) h.2 in
    let keep = keeps_object S R s p (1 + width) here a (cover S a.segment here old) (cover_other_elements S a.segment from d w es i j) (extent S u q x) (λ b. cover_elements S b.segment (b.start + 1) d w es) grows o.leads_to
    (omega arith) (omega (arith, row_within i (element_count es) (d + w) (d + j) h.0 (omega arith)))
    (λ v r. times-other-elements S (pred n) a.segment from d w es k i j v r h.0 h.1 all) (λ v r. part_within S (pred n) a.segment here old child.0 path u q x way child.1 v r) agree in
    let below = updated S R (pred n) m a.segment here old child.0 path u q x y e grows (omega arith) way keep.inner child.1 new in
    let done = put_element_child S R (pred n) a.segment from d w es k i j inner below.cost grows h.0 h.1 (omega arith) (λ r f g other. keep.object r (omega arith) (omega arith) other) keep.others_agree all below.means in
    let first : word_at R a.segment a.start ≡ word_at S a.segment a.start = keep.object a.start (omega arith) (omega arith) (λ z. omega arith) in
    record {
      cost = a.pads + (claimed + 1) + count_cost (d + w) (element_count written) + done.cost;
      means = (
        a,
        claimed,
        done.cost,
        some,
        list_kept keep.leads_to o,
        le_trans (omega arith) (grows.words a.segment),
        subst (λ z. IsTag (word_at R a.segment a.start) z d w) (sym done.counts) (subst (λ z. IsTag z (element_count es) d w) (sym first) tag),
        subst (λ z. z * (d + w) ≤ claimed) (sym done.counts) fits,
        done.means,
        refl,
      );
      covers = λ v r. omega (
        arith,
        object_covers S R s p (1 + width) (1 + element_count written * (d + w)) a (λ b. cover_elements S b.segment (b.start + 1) d w es) (λ b. cover_elements R b.segment (b.start + 1) d w written) v r keep.same o.leads_to.1 keep.leads_to.1
            (ap (λ z. 1 + z * (d + w)) done.counts),
        done.covers v r,
        times-other-elements S (pred n) a.segment from d w es k i j v r h.0 h.1 all,
        below.covers v r,
        times-first (word_interval a.segment here) (cover S a.segment here old) v r,
        times-first (word_interval a.segment here) (cover R a.segment here inner) v r,
      );
      tidy = λ v z. at_target S R s p a (λ b. (list_count b.word ≡ width) × AreTidyElements S b.segment (b.start + 1) d w es) (λ b. (list_count b.word ≡ element_count written * (d + w)) × AreTidyElements R b.segment (b.start + 1) d w written)
          o.leads_to.1 keep.leads_to.1 (λ f. (f.0 ∙ ap (λ l. l * (d + w)) (sym done.counts), done.tidy f.1 (below.tidy (tidy_element_child S (pred n) a.segment from d w es k i j h.0 h.1 all f.1) z))) v;
    }
updated S R n m s p t c (step ∷ path) u q x y e grows levels h agree old new = absurd h
