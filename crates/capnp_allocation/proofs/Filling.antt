-- Values whose pointers are filled one after the other: at each moment the place means a value.
use Rattle.std.proofs.Common.{◌≡◌, ℕ, zero, suc, ◌+◌, ◌<◌, ◌≤◌, List, [], ◌∷◌, ◌++◌, length, refl, sym, ap, ◌∙◌, subst, arith}
use Rattle.std.proofs.lemmas.List.{get_or_past}
use Rattle.capnp_format.specs.Segments.{Segments, Grows, segment, word_at, Target}
use Rattle.capnp_format.specs.Tree.{Tree, Null, Struct, Pointers, Trees, no_trees, tree, count}
use Rattle.capnp_format.specs.Means.{Leads}
use Rattle.capnp_format.specs.Forest.{Interval, times, pads_of, object_of, target, target_in, cover, cover_all}
use Rattle.capnp_format.proofs.Frame.{leads_agree}
use Rattle.capnp_allocation.specs.Filled.{AreFilled}
use Rattle.capnp_allocation.specs.Made.{nulls}
use Rattle.capnp_format.specs.Path.{Step, Child, Element, tree_at, put_tree, update, node, PathLeads, word_interval}
use Rattle.capnp_allocation.specs.Stored.{IsStored, IsReplaced}
use Rattle.capnp_allocation.proofs.Extents.{word_within, once_held, times-first, times-object}
use Rattle.capnp_allocation.proofs.Placed.{count-nulls}
use Rattle.capnp_allocation.proofs.Replace.{put_tree-count, times-others}
use Rattle.capnp_allocation.proofs.Replaced.{stored_within, replaced_within, replaced_again, grown}

-- If nothing is done, a value is replaced by itself.
pub unchanged : (S : Segments) (s p : ℕ) (t : Tree) → IsStored S s p t → IsReplaced S S s p t t
unchanged S s p t a = grown S S s p t (record { segments = omega arith; words = λ v. omega arith }) a (λ v r l. refl) (λ v r l. get_or_past (segment S v) r 0 l)

-- A place holds an object of n words at the target a: the value for these children, whose pointers
-- are from position b on.
pub record IsHolder (F : Trees → Tree) (path : ℕ → List Step) (s p q : ℕ) (a : Target) (b n : ℕ) : Type 0 where
  pub leads : (S : Segments) (X : Trees) (i : ℕ) → Leads S s p a → count X ≡ q → i < q → PathLeads S (node s p (F X)) (path i) (node a.segment (b + i) (tree_at X i))
  pub puts : (X : Trees) (i : ℕ) (u : Tree) → update (F X) (path i) u ≡ F (put_tree X i u)
  pub covers :
      (S : Segments) (X : Trees) →
      count X ≡ q →
      Leads S s p a →
      (more : List Interval) × ((v r : ℕ) → times (cover S s p (F X)) v r ≡ times (pads_of (word_at S s p)) v r + times (object_of a n ∷ []) v r + times more v r)
      × ((i : ℕ) → i < q → (v r : ℕ) → times (cover S a.segment (b + i) (tree_at X i)) v r ≤ times more v r)
  pub low : a.start ≤ b
  pub high : b + q ≤ a.start + n

-- Writing in an object leaves the pointer to it unchanged.
pub still_leads : (S R : Segments) (s p n : ℕ) (a : Target) (x : Tree) (more : List Interval) → Leads S s p a → IsStored S s p x →
    ((v r : ℕ) → times (cover S s p x) v r ≡ times (pads_of (word_at S s p)) v r + times (object_of a n ∷ []) v r + times more v r) →
    Grows S R → ((v r : ℕ) → times (object_of a n ∷ []) v r ≡ 0 → r < length (segment S v) → word_at R v r ≡ word_at S v r) → Leads R s p a
still_leads S R s p n a x more l y parts grows same =
    let whole = λ (v r : ℕ). times-first (word_interval s p) (cover S s p x) v r in
    let here : word_at R s p ≡ word_at S s p = same s p (omega (arith, whole s p, parts s p, y.apart s p, once_held s p)) (y.inside s p (omega (arith, whole s p, once_held s p))) in
    leads_agree (record { grows = grows; same = here }) (λ v r m. same v r (omega (arith, whole v r, parts v r, y.apart v r)) (y.inside v r (omega (arith, whole v r, parts v r)))) l

-- The children X, with others from the i-th on.
abbrev pub put_from : Trees → ℕ → Trees → Trees
put_from X i no_trees = X
put_from X i (tree u us) = put_from (put_tree X i u) (i + 1) us

put_behind : (X us : Trees) (x : Tree) (i : ℕ) → put_from (tree x X) (i + 1) us ≡ tree x (put_from X i us)
put_behind X no_trees x i = refl
put_behind X (tree u us) x i =
    ap (λ Y. put_from Y (i + 1 + 1) us) (let e : put_tree (tree x X) (i + 1) u ≡ tree x (put_tree X i u) = ap (λ j. put_tree (tree x X) j u) (let f : i + 1 ≡ suc i = omega arith in f) in e)
    ∙ put_behind (put_tree X i u) us x (i + 1)

pub put_all : (us : Trees) → put_from (nulls (count us)) 0 us ≡ us
put_all no_trees = refl
put_all (tree u us) = put_behind (nulls (count us)) us u 0 ∙ ap (tree u) (put_all us)

put_elsewhere : (X : Trees) (i j : ℕ) (u : Tree) → i < j → tree_at (put_tree X i u) j ≡ tree_at X j
put_elsewhere no_trees i j u l = refl
put_elsewhere (tree x X) zero zero u l = absurd (omega arith)
put_elsewhere (tree x X) zero (suc j) u l = refl
put_elsewhere (tree x X) (suc i) zero u l = absurd (omega arith)
put_elsewhere (tree x X) (suc i) (suc j) u l = put_elsewhere X i j u (omega arith)

pub null_at : (n i : ℕ) → tree_at (nulls n) i ≡ Null
null_at zero i = refl
null_at (suc n) zero = refl
null_at (suc n) (suc i) = null_at n i

-- A place holds the value for these children, and its pointer leads to a.
pub record Holds (F : Trees → Tree) (S : Segments) (s p : ℕ) (a : Target) (X : Trees) : Type 0 where
  pub stored : IsStored S s p (F X)
  pub leads : Leads S s p a

-- Pointer i of an object gets another value.
pub holder_put : (F : Trees → Tree) (path : ℕ → List Step) (S R : Segments) (s p q : ℕ) (a : Target) (b n : ℕ) (X : Trees) (i : ℕ) (u : Tree) → IsHolder F path s p q a b n → Holds F S s p a X → count X ≡ q → i < q →
    (IsStored S a.segment (b + i) (tree_at X i) → IsReplaced S R a.segment (b + i) (tree_at X i) u) → IsReplaced S R s p (F X) (F (put_tree X i u)) × Leads R s p a
holder_put F path S R s p q a b n X i u h y len l puts =
    let way = h.leads S X i y.leads len l in
    let one = puts (stored_within S s p (F X) (path i) a.segment (b + i) (tree_at X i) way y.stored) in
    let (more, parts, below) = h.covers S X len y.leads in
    let whole = λ (v r : ℕ). times-first (word_interval s p) (cover S s p (F X)) v r in
    let child = λ (v r : ℕ). times-first (word_interval a.segment (b + i)) (cover S a.segment (b + i) (tree_at X i)) v r in
    let within = λ (v r : ℕ). word_within a n (b + i) v r (omega (arith, h.low)) (omega (arith, h.high, l)) in
    let apart = y.stored.apart in
    let here : word_at R s p ≡ word_at S s p =
    one.kept s p (omega (arith, whole s p, parts s p, below i l s p, child s p, within s p, apart s p, once_held s p)) (y.stored.inside s p (omega (arith, whole s p, once_held s p))) in (
      subst (IsReplaced S R s p (F X)) (h.puts X i u) (replaced_within S R s p (F X) (path i) a.segment (b + i) (tree_at X i) u way y.stored one),
      leads_agree (record { grows = record { segments = one.segments; words = one.words }; same = here })
          (λ v r m. one.kept v r (omega (arith, m, whole v r, parts v r, below i l v r, child v r, within v r, apart v r)) (y.stored.inside v r (omega (arith, m, whole v r, parts v r)))) y.leads,
    )

-- The pointers from the i-th on of an object are filled, after those before them.
filled_from : (F : Trees → Tree) (path : ℕ → List Step) (S R : Segments) (s p q : ℕ) (a : Target) (b n : ℕ) (X ts : Trees) (i : ℕ) → IsHolder F path s p q a b n → Holds F S s p a X → count X ≡ q → i + count ts ≤ q →
    ((j : ℕ) → i ≤ j → tree_at X j ≡ Null) → AreFilled S R a.segment (b + i) ts → IsReplaced S R s p (F X) (F (put_from X i ts)) × Leads R s p a
filled_from F path S R s p q a b n X no_trees i h y len fits null same =
    subst (λ T. IsReplaced S T s p (F X) (F X) × Leads T s p a) (sym same) (unchanged S s p (F X) y.stored, y.leads)
filled_from F path S R s p q a b n X (tree u us) i h y len fits null (M, one, rest) =
    let at = subst (λ x. PathLeads S (node s p (F X)) (path i) (node a.segment (b + i) x)) (null i (omega arith)) (h.leads S X i y.leads len (omega arith)) in
    let first : IsReplaced S M s p (F X) (F (put_tree X i u)) = subst (IsReplaced S M s p (F X)) (h.puts X i u) (replaced_within S M s p (F X) (path i) a.segment (b + i) Null u at y.stored one) in
    let (more, parts, below) = h.covers S X len y.leads in
    let lead = still_leads S M s p n a (F X) more y.leads y.stored parts (record { segments = one.segments; words = one.words }) (λ v r z l. one.kept v r (omega (arith, z, word_within a n (b + i) v r (omega (arith, h.low)) (omega (arith, h.high)))) l) in
    let others = filled_from F path M R s p q a b n (put_tree X i u) us (i + 1) h (record { stored = first.stored; leads = lead }) (put_tree-count X i u ∙ len) (omega arith)
    (λ j l. put_elsewhere X i j u (omega arith) ∙ null j (omega arith))
    (subst (λ z. AreFilled M R a.segment z us) (let e : b + i + 1 ≡ b + (i + 1) = omega arith in e) rest) in
    (replaced_again S M R s p (F X) (F (put_tree X i u)) _ first others.0, others.1)

-- The first pointers of an object with null pointers are filled.
pub holder_filled : (F : Trees → Tree) (path : ℕ → List Step) (S R : Segments) (s p q : ℕ) (a : Target) (b n : ℕ) (ts : Trees) → IsHolder F path s p q a b n → Holds F S s p a (nulls q) → count ts ≤ q → AreFilled S R a.segment b ts →
    IsReplaced S R s p (F (nulls q)) (F (put_from (nulls q) 0 ts)) × Leads R s p a
holder_filled F path S R s p q a b n ts h y fits f =
    filled_from F path S R s p q a b n (nulls q) ts 0 h y (count-nulls q) (omega arith) (λ j l. null_at q j) (subst (λ z. AreFilled S R a.segment z ts) (let e : b ≡ b + 0 = omega arith in e) f)

-- Structs, and lists of pointers.

pub in_struct : (S : Segments) (s p : ℕ) (a : Target) (w : ℕ) (more : Target → List Interval) (v r : ℕ) → Leads S s p a →
    times (pads_of (word_at S s p) ++ object_of (target S s p) w ∷ more (target S s p)) v r ≡ times (pads_of (word_at S s p)) v r + times (object_of a w ∷ []) v r + times (more a) v r
in_struct S s p a w more v r l = times-object S s p w a more v r l.1

pub struct_holder : (s p q : ℕ) (a : Target) (ws : List ℕ) → IsHolder (Struct ws) (λ i. Child i ∷ []) s p q a (a.start + length ws) (length ws + q)
struct_holder s p q a ws = record {
  leads = λ S X i l len m. (omega arith, ap (λ b. node b.segment (b.start + length ws + i) (tree_at X i)) (ap target_in l.1));
  puts = λ X i u. refl;
  covers = λ S X len l. (
    cover_all S a.segment (a.start + length ws) X,
    λ v r. in_struct S s p a (length ws + count X) (λ b. cover_all S b.segment (b.start + length ws) X) v r l ∙ ap (λ k. times (pads_of (word_at S s p)) v r + times (object_of a (length ws + k) ∷ []) v r + times (cover_all S a.segment (a.start + length ws) X) v r) len,
    λ i m v r. omega (arith, times-others S a.segment (a.start + length ws) X i v r (omega (arith, len, m))),
  );
  low = omega arith;
  high = omega arith;
}

pub pointers_holder : (s p q : ℕ) (a : Target) → IsHolder Pointers (λ i. Element i ∷ []) s p q a a.start q
pointers_holder s p q a = record {
  leads = λ S X i l len m. (omega arith, ap (λ b. node b.segment (b.start + i) (tree_at X i)) (ap target_in l.1));
  puts = λ X i u. refl;
  covers = λ S X len l. (
    cover_all S a.segment a.start X,
    λ v r. in_struct S s p a (count X) (λ b. cover_all S b.segment b.start X) v r l ∙ ap (λ k. times (pads_of (word_at S s p)) v r + times (object_of a k ∷ []) v r + times (cover_all S a.segment a.start X) v r) len,
    λ i m v r. omega (arith, times-others S a.segment a.start X i v r (omega (arith, len, m))),
  );
  low = omega arith;
  high = omega arith;
}
