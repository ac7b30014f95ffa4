-- A pointer that means a value leads to an object, and one that leads to an object means its value.
use Rattle.std.proofs.Common.{◌≡◌, ◌≢◌, ℕ, suc, pred, ◌+◌, ◌*◌, ◌≤◌, [], ◌∷◌, ◌++◌, length, Some, refl, sym, ap, subst, arith, append-nil}
use Rattle.capnp_format.specs.Word.{list_count}
use Rattle.capnp_format.specs.Numbers.{words_for, packed}
use Rattle.capnp_format.specs.Segments.{Segments, word_at, words_at, Target, leads}
use Rattle.capnp_format.specs.Tree.{Tree, Null, Capability, Struct, Flat, Pointers, Structs, Trees, no_trees, tree, count, Elements, no_elements, element, element_count}
use Rattle.capnp_format.specs.Means.{Means, MeansAll, MeansElements, count_cost}
use Rattle.capnp_format.specs.Forest.{pads_of, object_of, target_in, cover, cover_all, cover_elements, IsTidy, AreTidy, AreTidyElements}
use Rattle.capnp_format.proofs.Levels.{other_levels, depth_within}
use Rattle.capnp_format.specs.Forest.{object_cover}
use Rattle.layout_vectors.specs.Counts.{MeansTidily, AreRead, AreElementsRead, IsTidyObject}

-- consecutive pointers, each within its own levels, mean their values within a common number of
-- levels
levels_of : (S : Segments) (s p : ℕ) (ts : Trees) → AreRead S s p ts → ℕ
levels_of S s p no_trees k = 0
levels_of S s p (tree t ts) (k, ks) = k.means.0 + levels_of S s (p + 1) ts ks

means_within : (S : Segments) (s p : ℕ) (ts : Trees) (k : AreRead S s p ts) (n : ℕ) → levels_of S s p ts k ≤ n → (c : ℕ) × MeansAll S n s p ts c
unfolding levels_of
means_within S s p no_trees k n l = (0, refl)
means_within S s p (tree t ts) (k, ks) n l =
    let m = k.means in
    let r = means_within S s (p + 1) ts ks n (omega arith) in
    (m.1 + r.0, (m.1, r.0, other_levels n t (omega (arith, depth_within t (record { means = m.2 }))) (record { means = m.2 }), r.1, refl))

pub all_means : (S : Segments) (s p : ℕ) (ts : Trees) → AreRead S s p ts → (n : ℕ) × (c : ℕ) × MeansAll S n s p ts c
all_means S s p ts k = let r = means_within S s p ts k (levels_of S s p ts k) (omega arith) in (levels_of S s p ts k, r.0, r.1)

pub all_tidy : (S : Segments) (s p : ℕ) (ts : Trees) → AreRead S s p ts → AreTidy S s p ts
all_tidy S s p no_trees k = tt
all_tidy S s p (tree t ts) (k, ks) = (k.tidy, all_tidy S s (p + 1) ts ks)

pub all_read : (S : Segments) (n s p : ℕ) (ts : Trees) (c : ℕ) → MeansAll S n s p ts c → AreTidy S s p ts → AreRead S s p ts
all_read S n s p no_trees c m y = tt
all_read S n s p (tree t ts) c (k, l, one, rest, g) y = (record { means = (n, k, one); tidy = y.0 }, all_read S n s (p + 1) ts l rest y.1)

-- consecutive elements mean their values within a common number of levels
element_levels : (S : Segments) (s p d q : ℕ) (es : Elements) → AreElementsRead S s p d q es → ℕ
element_levels S s p d q no_elements k = 0
element_levels S s p d q (element ws ts es) k = levels_of S s (p + d) ts k.3 + element_levels S s (p + d + q) d q es k.4

elements_within : (S : Segments) (s p d q : ℕ) (es : Elements) (k : AreElementsRead S s p d q es) (n : ℕ) → element_levels S s p d q es k ≤ n → (c : ℕ) × MeansElements S n s p d q es c
unfolding element_levels
elements_within S s p d q no_elements k n l = (0, refl)
elements_within S s p d q (element ws ts es) (long, len, e, ks, more) n l =
    let one = means_within S s (p + d) ts ks n (omega arith) in
    let r = elements_within S s (p + d + q) d q es more n (omega arith) in
    (one.0 + r.0, (one.0, r.0, long, len, e, one.1, r.1, refl))

pub elements_means : (S : Segments) (s p d q : ℕ) (es : Elements) → AreElementsRead S s p d q es → (n : ℕ) × (c : ℕ) × MeansElements S n s p d q es c
elements_means S s p d q es k = let r = elements_within S s p d q es k (element_levels S s p d q es k) (omega arith) in (element_levels S s p d q es k, r.0, r.1)

pub elements_tidy : (S : Segments) (s p d q : ℕ) (es : Elements) → AreElementsRead S s p d q es → AreTidyElements S s p d q es
elements_tidy S s p d q no_elements k = tt
elements_tidy S s p d q (element ws ts es) (long, len, e, ks, more) = (all_tidy S s (p + d) ts ks, elements_tidy S s (p + d + q) d q es more)

pub elements_read : (S : Segments) (n s p d q : ℕ) (es : Elements) (c : ℕ) → MeansElements S n s p d q es c → AreTidyElements S s p d q es → AreElementsRead S s p d q es
elements_read S n s p d q no_elements c m y = tt
elements_read S n s p d q (element ws ts es) c (k, l, long, len, e, all, rest, g) y = (long, len, e, all_read S n s (p + d) ts k all y.0, elements_read S n s (p + d + q) d q es l rest y.1)

-- a pointer that means a value leads to an object
pub there_is : (S : Segments) (n s p : ℕ) (t : Tree) (c : ℕ) → word_at S s p ≢ 0 → Means S n s p t c → IsTidy S s p t → (a : Target) × (leads S s p ≡ Some a) × IsTidyObject S a t
there_is S n s p Null c some m y = absurd (some m.0)
there_is S n s p (Capability i) c some (a, l, e, g) y = (a, l.1, e)
there_is S n s p (Struct ws ts) c some (a, k, lev, o, claim, e, all, g) y = (
  a,
  o.leads_to.1,
  (
    o.is_struct,
    o.data_of,
    o.pointers,
    claim,
    e,
    all_read S (pred n) a.segment (a.start + length ws) ts k all (subst (λ b. AreTidy S b.segment (b.start + length ws) ts) (ap target_in o.leads_to.1) y),
  ),
)
there_is S n s p (Flat size ns) c some (a, lev, small, o, claim, e, g) y =
    (a, o.leads_to.1, (small, o.is_list, o.is_size, o.counts, claim, e, subst (λ b. words_at S b.segment b.start (words_for size (length ns)) ≡ packed size ns) (ap target_in o.leads_to.1) y))
there_is S n s p (Pointers ts) c some (a, k, lev, o, claim, all, g) y =
    (a, o.leads_to.1, (o.is_list, o.is_size, o.counts, claim, all_read S (pred n) a.segment a.start ts k all (subst (λ b. AreTidy S b.segment b.start ts) (ap target_in o.leads_to.1) y)))
there_is S n s p (Structs d q es) c some (a, m, k, lev, o, claim, tag, fits, all, g) y =
    let exact : list_count a.word ≡ element_count es * (d + q) = subst (λ b. list_count b.word ≡ element_count es * (d + q)) (ap target_in o.leads_to.1) y.0 in (
      a,
      o.leads_to.1,
      (
        o.is_list,
        o.is_size,
        exact,
        omega (arith, claim, o.counts, exact),
        tag,
        elements_read S (pred n) a.segment (a.start + 1) d q es k all (subst (λ b. AreTidyElements S b.segment (b.start + 1) d q es) (ap target_in o.leads_to.1) y.1),
      ),
    )

same_target : (a b : Target) (S : Segments) (s p : ℕ) → leads S s p ≡ Some a → leads S s p ≡ Some b → a ≡ b
same_target a b S s p e f = cc

covered : (S : Segments) (s p : ℕ) (t : Tree) (a : Target) → word_at S s p ≢ 0 → leads S s p ≡ Some a → MeansTidily S s p t → cover S s p t ≡ pads_of (word_at S s p) ++ object_cover S a t
covered S s p Null a some l k = absurd (some k.means.2.0)
covered S s p (Capability i) a some l k = sym (append-nil (pads_of (word_at S s p)))
covered S s p (Struct ws ts) a some l k = ap (λ b. pads_of (word_at S s p) ++ object_of b (length ws + count ts) ∷ cover_all S b.segment (b.start + length ws) ts) (ap target_in l)
covered S s p (Flat size ns) a some l k = ap (λ b. pads_of (word_at S s p) ++ object_of b (words_for size (length ns)) ∷ []) (ap target_in l)
covered S s p (Pointers ts) a some l k = ap (λ b. pads_of (word_at S s p) ++ object_of b (count ts) ∷ cover_all S b.segment b.start ts) (ap target_in l)
covered S s p (Structs d q es) a some l k = ap (λ b. pads_of (word_at S s p) ++ object_of b (1 + element_count es * (d + q)) ∷ cover_elements S b.segment (b.start + 1) d q es) (ap target_in l)

pub object_of_read : (S : Segments) (s p : ℕ) (a : Target) (t : Tree) → word_at S s p ≢ 0 → leads S s p ≡ Some a → MeansTidily S s p t → IsTidyObject S a t × (cover S s p t ≡ pads_of (word_at S s p) ++ object_cover S a t)
object_of_read S s p a t some l k =
    let m = k.means in
    let (b, f, o) = there_is S m.0 s p t m.1 some m.2 k.tidy in
    (subst (λ x. IsTidyObject S x t) (same_target b a S s p f l) o, covered S s p t a some l k)

-- and a pointer that leads to an object means its value
pub read_of_object : (S : Segments) (s p : ℕ) (a : Target) (t : Tree) → word_at S s p ≢ 0 → leads S s p ≡ Some a → IsTidyObject S a t → MeansTidily S s p t
read_of_object S s p a Null some l o = absurd o
read_of_object S s p a (Capability i) some l o = record { means = (0, a.pads, (a, (some, l), o, refl)); tidy = tt }
read_of_object S s p a (Struct ws ts) some l (x, d, q, claim, e, ks) =
    let (n, k, m) = all_means S a.segment (a.start + length ws) ts ks in
    record {
      means = (suc n, a.pads + (length ws + count ts) + k, (a, k, omega arith, record { leads_to = (some, l); is_struct = x; data_of = d; pointers = q }, claim, e, m, refl));
      tidy = subst (λ b. AreTidy S b.segment (b.start + length ws) ts) (sym (ap target_in l)) (all_tidy S a.segment (a.start + length ws) ts ks);
    }
read_of_object S s p a (Flat size ns) some l (small, x, z, n, claim, e, y) = record {
  means = (1, a.pads + words_for size (length ns) + count_cost size (length ns), (a, omega arith, small, record { leads_to = (some, l); is_list = x; is_size = z; counts = n }, claim, e, refl));
  tidy = subst (λ b. words_at S b.segment b.start (words_for size (length ns)) ≡ packed size ns) (sym (ap target_in l)) y;
}
read_of_object S s p a (Pointers ts) some l (x, z, c, claim, ks) =
    let (n, k, m) = all_means S a.segment a.start ts ks in
    record {
      means = (suc n, a.pads + count ts + k, (a, k, omega arith, record { leads_to = (some, l); is_list = x; is_size = z; counts = c }, claim, m, refl));
      tidy = subst (λ b. AreTidy S b.segment b.start ts) (sym (ap target_in l)) (all_tidy S a.segment a.start ts ks);
    }
read_of_object S s p a (Structs d q es) some l (x, z, c, claim, tag, ks) =
    let (n, k, m) = elements_means S a.segment (a.start + 1) d q es ks in
    let w = list_count a.word in
    record {
      means = (
        suc n,
        a.pads + (w + 1) + count_cost (d + q) (element_count es) + k,
        (a, w, k, omega arith, record { leads_to = (some, l); is_list = x; is_size = z; counts = refl }, omega (arith, claim, c), tag, omega (arith, c), m, refl),
      );
      tidy = (
        subst (λ b. list_count b.word ≡ element_count es * (d + q)) (sym (ap target_in l)) c,
        subst (λ b. AreTidyElements S b.segment (b.start + 1) d q es) (sym (ap target_in l)) (elements_tidy S a.segment (a.start + 1) d q es ks),
      );
    }
