-- What is below a place is zeroed, part by part.
use Rattle.std.proofs.Common.{◌≡◌, ◌≢◌, ℕ, zero, suc, pred, ◌+◌, ◌*◌, ◌<◌, ◌≤◌, List, [], ◌∷◌, ◌++◌, length, Some, refl, sym, ap, ◌∙◌, subst, le_of_eq, append-nil, arith}
use Rattle.std.proofs.lemmas.Bool.Decides.{nat_tests}
use Rattle.capnp_format.specs.Word.{kind}
use Rattle.capnp_format.specs.Numbers.{words_for}
use Rattle.capnp_format.specs.Segments.{Segments, segment, word_at, Target, Grows, leads}
use Rattle.capnp_format.specs.Tree.{Tree, Null, Capability, Struct, Flat, Pointers, Structs, Trees, no_trees, tree, count, element_count}
use Rattle.capnp_format.specs.Means.{Means}
use Rattle.capnp_format.specs.Forest.{Interval, times, pads_of, object_of, target_in, cover, cover_all, cover_elements}
use Rattle.capnp_format.proofs.Frame.{Agree, times-append, agree_here, agree_rest, frame, frame_all}
use Rattle.capnp_format.specs.Path.{tree_at, word_interval, extent}
use Rattle.capnp_format.proofs.Children.{means_child}
use Rattle.capnp_allocation.specs.Zeroed.{row, IsZeroed, IsApart, AreApart, IsObjectAt, object_cover}
use Rattle.capnp_allocation.proofs.Zeros.{zeroed_again, nothing_zeroed}
pub use Rattle.capnp_format.proofs.LandingPads.{pads_inside}

pub split_row : (s p m n v r : ℕ) → times (row s p (m + n) ∷ []) v r ≡ times (row s p m ∷ []) v r + times (row s (p + m) n ∷ []) v r
split_row s p m n v r = grind (arith, nat_tests)

-- Consecutive pointers, each with what is reached from it.
abbrev pub child_extents : Segments → ℕ → ℕ → Trees → List Interval
child_extents S s p no_trees = []
child_extents S s p (tree t ts) = extent S s p t ++ child_extents S s (p + 1) ts

-- The children from the i-th on.
abbrev pub rest : ℕ → Trees → Trees
rest zero ts = ts
rest (suc i) no_trees = no_trees
rest (suc i) (tree t ts) = rest i ts

-- Children and their pointers, counted together or one by one.
pub times-children : (S : Segments) (s p : ℕ) (ts : Trees) (v r : ℕ) → times (child_extents S s p ts) v r ≡ times (row s p (count ts) ∷ cover_all S s p ts) v r
times-children S s p no_trees v r = grind (arith, nat_tests)
times-children S s p (tree t ts) v r =
    omega (
      arith,
      times-append (extent S s p t) (child_extents S s (p + 1) ts) v r,
      times-append (cover S s p t) (cover_all S s (p + 1) ts) v r,
      times-children S s (p + 1) ts v r,
      split_row s p 1 (count ts) v r,
      ap (λ n. times (row s p n ∷ []) v r) (let e : suc (count ts) ≡ 1 + count ts = omega arith in e),
    )

-- Zeroing words doesn't change those of a value that is apart from them.
kept_agrees : (S K : Segments) (is js : List Interval) → IsZeroed S K is → ((v r : ℕ) → times is v r + times js v r ≤ 1) → Agree S K js
kept_agrees S K is js z few v r some = z.kept v r (omega (arith, few v r))

pub zeroed_grows : (S K : Segments) (is : List Interval) → IsZeroed S K is → Grows S K
zeroed_grows S K is z = record { segments = le_of_eq (sym z.segments); words = λ v. le_of_eq (sym (z.words v)) }

-- A value that is apart from the words that are zeroed stays the same.
pub apart_kept : (S K : Segments) (s p : ℕ) (t : Tree) (is : List Interval) → IsZeroed S K is → ((v r : ℕ) → times is v r + times (extent S s p t) v r ≤ 1) → IsApart S s p t → IsApart K s p t × (extent K s p t ≡ extent S s p t)
apart_kept S K s p t is z few a =
    let agree : Agree S K (extent S s p t) = kept_agrees S K is (extent S s p t) z few in
    let m = a.means in
    let f = frame S K m.0 s p t m.1 (zeroed_grows S K is z) (agree_here S K (word_interval s p) (cover S s p t) agree p (omega arith) (omega arith)) (agree_rest S K (word_interval s p) (cover S s p t) agree) m.2 in
    let same : extent K s p t ≡ extent S s p t = ap (λ js. word_interval s p ∷ js) f.1 in
    (record { means = (m.0, m.1, f.0); apart = λ v r. subst (λ js. times js v r ≤ 1) (sym same) (a.apart v r) }, same)

pub all_kept : (S K : Segments) (s p : ℕ) (ts : Trees) (is : List Interval) → IsZeroed S K is → ((v r : ℕ) → times is v r + times (row s p (count ts) ∷ cover_all S s p ts) v r ≤ 1) → AreApart S s p ts →
    AreApart K s p ts × (cover_all K s p ts ≡ cover_all S s p ts)
all_kept S K s p ts is z few a =
    let R = row s p (count ts) in
    let agree : Agree S K (R ∷ cover_all S s p ts) = kept_agrees S K is (R ∷ cover_all S s p ts) z few in
    let m = a.mean in
    let f = frame_all ts (zeroed_grows S K is z) (agree_here S K R (cover_all S s p ts) agree) (agree_rest S K R (cover_all S s p ts) agree) (record { means = m.2 }) in
    (record { mean = (m.0, m.1, f.0); apart = λ v r. subst (λ js. times (R ∷ js) v r ≤ 1) (sym f.1) (a.apart v r) }, f.1)

-- The children from one on: that one, and those after it.
pub rest_step : (i : ℕ) (ts : Trees) → i < count ts → rest i ts ≡ tree (tree_at ts i) (rest (i + 1) ts)
rest_step i no_trees l = absurd (omega arith)
rest_step zero (tree t ts) l = refl
rest_step (suc i) (tree t ts) l = rest_step i ts (omega arith) ∙ ap (λ j. tree (tree_at ts i) (rest j (tree t ts))) (let e : suc (i + 1) ≡ suc i + 1 = omega arith in e)

pub rest_none : (ts : Trees) → rest (count ts) ts ≡ no_trees
rest_none no_trees = refl
rest_none (tree t ts) = rest_none ts

-- What is zero after the first i children, while the others are still to come.
abbrev pub Done : Segments → Segments → ℕ → ℕ → Trees → ℕ → Type 0
Done S K s p ts i = (is : List Interval) × IsZeroed S K is × ((v r : ℕ) → times is v r + times (child_extents S s (p + i) (rest i ts)) v r ≡ times (child_extents S s p ts) v r)

-- At first no child is zero.
pub none_done : (S : Segments) (s p : ℕ) (ts : Trees) → Done S S s p ts 0
none_done S s p ts = ([], nothing_zeroed S, λ v r. omega (arith, ap (λ q. times (child_extents S s q ts) v r) (let e : p + 0 ≡ p = omega arith in e)))

-- The next child is apart, and once it is zeroed one more child is.
pub next_done : (S K L : Segments) (s p i : ℕ) (ts : Trees) → i < count ts → AreApart S s p ts → Done S K s p ts i → ((t : Tree) → IsApart K s (p + i) t → IsZeroed K L (extent K s (p + i) t)) → Done S L s p ts (i + 1)
next_done S K L s p i ts l a (is, z, sum) h =
    let t = tree_at ts i in
    let m = a.mean in
    let child = means_child S m.0 s p ts m.1 i l m.2 in
    let step = rest_step i ts l in
    let parts : (v r : ℕ) → times (child_extents S s (p + i) (rest i ts)) v r ≡ times (extent S s (p + i) t) v r + times (child_extents S s (p + (i + 1)) (rest (i + 1) ts)) v r =
    λ v r. ap (λ us. times (child_extents S s (p + i) us) v r) step ∙ times-append (extent S s (p + i) t) (child_extents S s (p + i + 1) (rest (i + 1) ts)) v r
    ∙ ap (λ q. times (extent S s (p + i) t) v r + times (child_extents S s q (rest (i + 1) ts)) v r) (let e : p + i + 1 ≡ p + (i + 1) = omega arith in e) in
    let few : (v r : ℕ) → times is v r + times (extent S s (p + i) t) v r ≤ 1 = λ v r. omega (arith, sum v r, parts v r, times-children S s p ts v r, a.apart v r) in
    let one : IsApart S s (p + i) t = record { means = (m.0, child.0, child.1); apart = λ v r. omega (arith, few v r) } in
    let k = apart_kept S K s (p + i) t is z few one in (
      is ++ extent S s (p + i) t,
      zeroed_again S K L is (extent K s (p + i) t) (is ++ extent S s (p + i) t) (λ v r. let e = times-append is (extent S s (p + i) t) v r in let f = ap (λ js. times js v r) k.1 in (λ x. omega (arith, e, f), λ x. omega (arith, e, f))) z (h t k.0),
      λ v r. omega (arith, times-append is (extent S s (p + i) t) v r, parts v r, sum v r),
    )

-- Once all children are zero, so are their pointers and all that they cover.
pub all_done : (S K : Segments) (s p : ℕ) (ts : Trees) → Done S K s p ts (count ts) → IsZeroed S K (row s p (count ts) ∷ cover_all S s p ts)
all_done S K s p ts (is, z, sum) =
    let none : (v r : ℕ) → times (child_extents S s (p + count ts) (rest (count ts) ts)) v r ≡ 0 = λ v r. ap (λ us. times (child_extents S s (p + count ts) us) v r) (rest_none ts) in
    zeroed_again S S K [] is (row s p (count ts) ∷ cover_all S s p ts) (λ v r. (λ x. omega (arith, sum v r, none v r, times-children S s p ts v r), λ x. omega (arith, sum v r, none v r, times-children S s p ts v r))) (nothing_zeroed S) z

-- The words of a struct are zeroed, after its pointers and all below them.
pub struct_done : (S K L : Segments) (s p d q : ℕ) (ts : Trees) {a b n : ℕ} → a ≡ p + d → b ≡ q → n ≡ d + q → count ts ≡ q → p + (d + q) ≤ length (segment S s) → AreApart S s (p + d) ts → length (segment K s) ≡ length (segment S s) →
    ((us : Trees) → (count us ≡ b) × (a + b ≤ length (segment S s)) × AreApart S s a us → IsZeroed S K (row s a b ∷ cover_all S s a us)) → (p + n ≤ length (segment K s) → IsZeroed K L (row s p n ∷ [])) →
    IsZeroed S L (row s p (d + q) ∷ cover_all S s (p + d) ts)
struct_done S K L s p d q ts {a} {b} {n} is_a is_b is_n many fits apart long h k =
    let all : IsZeroed S K (row s a b ∷ cover_all S s a ts) = h ts (many ∙ sym is_b, omega (arith, is_a, is_b, fits), subst (λ x. AreApart S s x ts) (sym is_a) apart) in
    let below : IsZeroed S K (row s (p + d) q ∷ cover_all S s (p + d) ts) = subst (λ x. IsZeroed S K (row s (p + d) x ∷ cover_all S s (p + d) ts)) is_b (subst (λ x. IsZeroed S K (row s x b ∷ cover_all S s x ts)) is_a all) in
    let own : IsZeroed K L (row s p (d + q) ∷ []) = subst (λ x. IsZeroed K L (row s p x ∷ [])) is_n (k (omega (arith, is_n, long, fits))) in
    zeroed_again S K L (row s (p + d) q ∷ cover_all S s (p + d) ts) (row s p (d + q) ∷ []) (row s p (d + q) ∷ cover_all S s (p + d) ts)
    (λ v r. let f = split_row s p d q v r in (λ x. omega (arith, f, x), λ x. omega (arith, f, x))) below own

-- The object that a place leads to.
pub place_object : (S : Segments) (n s p : ℕ) (t : Tree) (c : ℕ) → word_at S s p ≢ 0 → Means S n s p t c →
    (a : Target) × (leads S s p ≡ Some a) × IsObjectAt S (pred n) a t × (cover S s p t ≡ pads_of (word_at S s p) ++ object_cover S a t)
place_object S n s p Null c some m = absurd (some m.0)
place_object S n s p (Capability i) c some (a, l, e, g) = (a, l.1, ap kind e ∙ omega arith, sym (append-nil (pads_of (word_at S s p))))
place_object S n s p (Struct ws ts) c some (a, k, lev, o, claim, e, all, g) =
    (a, o.leads_to.1, (k, o.is_struct, o.data_of, o.pointers, claim, all), ap (λ b. pads_of (word_at S s p) ++ object_of b (length ws + count ts) ∷ cover_all S b.segment (b.start + length ws) ts) (ap target_in o.leads_to.1))
place_object S n s p (Flat size ns) c some (a, lev, small, o, claim, e, g) =
    (a, o.leads_to.1, (o.is_list, small, o.is_size, o.counts, claim), ap (λ b. pads_of (word_at S s p) ++ object_of b (words_for size (length ns)) ∷ []) (ap target_in o.leads_to.1))
place_object S n s p (Pointers ts) c some (a, k, lev, o, claim, all, g) =
    (a, o.leads_to.1, (k, o.is_list, o.is_size, o.counts, claim, all), ap (λ b. pads_of (word_at S s p) ++ object_of b (count ts) ∷ cover_all S b.segment b.start ts) (ap target_in o.leads_to.1))
place_object S n s p (Structs d q es) c some (a, m, k, lev, o, claim, tag, fits, all, g) =
    (a, o.leads_to.1, (k, o.is_list, o.is_size, tag, omega arith, all), ap (λ b. pads_of (word_at S s p) ++ object_of b (1 + element_count es * (d + q)) ∷ cover_elements S b.segment (b.start + 1) d q es) (ap target_in o.leads_to.1))
