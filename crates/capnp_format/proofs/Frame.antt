-- Words that a value doesn't cover may change without a change of what its place means.
use Rattle.std.proofs.Common.{◌≡◌, ℕ, ◌+◌, ◌*◌, ◌<◌, ◌≤◌, true, nat_eq, List, [], ◌∷◌, ◌++◌, length, drop, Some, refl, sym, ap, ap₂, ◌∙◌, subst, le_trans, arith, eq-eqb, length-take, length-drop, get_or-take, get_or-drop}
use Rattle.std.proofs.lemmas.List.{same_lists, get_or_default}
use Rattle.std.proofs.lemmas.Bool.Decides.{nat_tests}
use Rattle.capnp_format.specs.Word.{kind, is_double, far_position, upper_half}
use Rattle.capnp_format.specs.Numbers.{words_for, unpacked}
use Rattle.capnp_format.specs.Segments.{Segments, segment, word_at, words_at, HasWords, Target, Grows, leads}
use Rattle.capnp_format.specs.Tree.{Tree, Null, Capability, Struct, Flat, Pointers, Structs, Trees, no_trees, tree, Elements, no_elements, element, count, element_count}
use Rattle.capnp_format.specs.Means.{Leads, StructAt, ListAt, IsTag, Means, MeansAll, MeansElements}
use Rattle.capnp_format.specs.Forest.{Interval, holds, row, times, pads_of, object_of, target, target_in, cover, cover_all, cover_elements}
use Rattle.capnp_format.proofs.Meant.{Meant, AllMeant, ElementsMeant}
use Rattle.capnp_format.proofs.Following.{leads_kept}

-- R has the same words as S in these intervals
abbrev pub Agree : Segments → Segments → List Interval → Type 0
Agree S R is = (u q : ℕ) → 0 < times is u q → word_at R u q ≡ word_at S u q

pub times-append : (is js : List Interval) (u q : ℕ) → times (is ++ js) u q ≡ times is u q + times js u q
times-append [] js u q = omega arith
times-append (i ∷ is) js u q = omega (arith, times-append is js u q)

-- word r of segment v is in a row of n words from position p of segment s on
pub in_row : (s p n v r : ℕ) → 0 < times (row s p n ∷ []) v r → (v ≡ s) × (p ≤ r) × (r < p + n)
in_row s p n v r l = (grind (arith, nat_tests), grind (arith, nat_tests), grind (arith, nat_tests))

pub of_row : (s p n r : ℕ) → p ≤ r → r < p + n → times (row s p n ∷ []) s r ≡ 1
of_row s p n r l m = grind (arith, nat_tests)

pub agree_left : (S R : Segments) (is js : List Interval) → Agree S R (is ++ js) → Agree S R is
agree_left S R is js h u q l = h u q (omega (arith, times-append is js u q))

pub agree_right : (S R : Segments) (is js : List Interval) → Agree S R (is ++ js) → Agree S R js
agree_right S R is js h u q l = h u q (omega (arith, times-append is js u q))

-- R has the same n words as S from position p of segment s on
abbrev pub SameWords : Segments → Segments → ℕ → ℕ → ℕ → Type 0
SameWords S R s p n = (q : ℕ) → p ≤ q → q < p + n → word_at R s q ≡ word_at S s q

held : (i : Interval) (is : List Interval) (q : ℕ) → i.start ≤ q → q < i.start + i.words → 0 < times (i ∷ is) i.segment q
held i is q l m =
    let yes_in : holds i i.segment q ≡ true = grind (arith, nat_tests) in
    rw yes_in (omega arith)

pub agree_here : (S R : Segments) (i : Interval) (is : List Interval) → Agree S R (i ∷ is) → SameWords S R i.segment i.start i.words
agree_here S R i is h q l m = h i.segment q (held i is q l m)

pub agree_rest : (S R : Segments) (i : Interval) (is : List Interval) → Agree S R (i ∷ is) → Agree S R is
agree_rest S R i is h u q l = h u q (omega arith)

-- R has grown from S, and keeps its word at (s, p)
pub record KeepsWord (S R : Segments) (s p : ℕ) : Type 0 where
  pub grows : Grows S R
  pub same : word_at R s p ≡ word_at S s p

-- the n words from a place on are kept
pub words_kept : {S R : Segments} (s p n : ℕ) → Grows S R → p + n ≤ length (segment S s) → SameWords S R s p n → words_at R s p n ≡ words_at S s p n
words_kept {S = S} {R = R} s p n grows fits h =
    let g : length (segment S s) ≤ length (segment R s) = grows.words s in
    same_lists _ _ (omega (arith, length-take n (drop p (segment R s)), length-take n (drop p (segment S s)), length-drop p (segment R s), length-drop p (segment S s)))
    (λ k d l. let small : k < n = omega (arith, length-take n (drop p (segment R s))) in
    get_or-take n (drop p (segment R s)) k d small ∙ get_or-drop p (segment R s) k d ∙ get_or_default (segment R s) (p + k) d 0 (omega arith)
    ∙ h (p + k) (omega arith) (omega arith)
    ∙ get_or_default (segment S s) (p + k) 0 d (omega arith) ∙ sym (get_or-drop p (segment S s) k d) ∙ sym (get_or-take n (drop p (segment S s)) k d small))

-- the words ws are still there
pub has_words_kept : {S R : Segments} {ws : List ℕ} (s p : ℕ) → Grows S R → p + length ws ≤ length (segment S s) → SameWords S R s p (length ws) → HasWords S s p ws → HasWords R s p ws
has_words_kept {ws = ws} s p grows fits same h = words_kept s p (length ws) grows fits same ∙ h

pub struct_kept : {S R : Segments} {s p d q : ℕ} {a : Target} → Leads R s p a → StructAt S s p a d q → StructAt R s p a d q
struct_kept l o = record { leads_to = l; is_struct = o.is_struct; data_of = o.data_of; pointers = o.pointers }

pub list_kept : {S R : Segments} {s p size n : ℕ} {a : Target} → Leads R s p a → ListAt S s p a size n → ListAt R s p a size n
list_kept l o = record { leads_to = l; is_list = o.is_list; is_size = o.is_size; counts = o.counts }

pub leads_agree : {S R : Segments} {s p : ℕ} {a : Target} → KeepsWord S R s p → Agree S R (pads_of (word_at S s p)) → Leads S s p a → Leads R s p a
leads_agree {S = S} {R = R} {s = s} {p = p} {a = a} kept pads l = (
  λ e. l.0 (sym kept.same ∙ e),
  leads_kept s p kept.grows kept.same (λ i t small.
      let yes_far : nat_eq (kind (word_at S s p)) 2 ≡ true = eq-eqb _ _ t in
      let here : Agree S R (record { segment = upper_half (word_at S s p); start = far_position (word_at S s p); words = 1 + is_double (word_at S s p) } ∷ []) = rw yes_far at pads in
      agree_here S R _ [] here (far_position (word_at S s p) + i) (omega arith) (omega arith)) l.1,
)

-- what one object needs, from what holds for the whole cover
pub object_agrees : {S R : Segments} {s p : ℕ} {a : Target} (n : ℕ) (more : Target → List Interval) → KeepsWord S R s p → Leads S s p a →
    Agree S R (pads_of (word_at S s p) ++ object_of (target S s p) n ∷ more (target S s p)) → Leads R s p a × SameWords S R a.segment a.start n × Agree S R (more a)
object_agrees {S = S} {R = R} {s = s} {p = p} {a = a} n more kept l h =
    let whole : Agree S R (pads_of (word_at S s p) ++ object_of a n ∷ more a) = subst (λ b. Agree S R (pads_of (word_at S s p) ++ object_of b n ∷ more b)) (ap target_in l.1) h in
    let pads = agree_left S R (pads_of (word_at S s p)) (object_of a n ∷ more a) whole in
    let rest = agree_right S R (pads_of (word_at S s p)) (object_of a n ∷ more a) whole in
    (leads_agree kept pads l, agree_here S R (object_of a n) (more a) rest, agree_rest S R (object_of a n) (more a) rest)

-- the cover is the same if the object's part of it is
pub same_cover : {S R : Segments} {s p : ℕ} {a : Target} (part part' : Target → List Interval) → KeepsWord S R s p → leads S s p ≡ Some a → leads R s p ≡ Some a → part' a ≡ part a →
    pads_of (word_at R s p) ++ part' (target R s p) ≡ pads_of (word_at S s p) ++ part (target S s p)
same_cover {S = S} {R = R} {s = s} {p = p} part part' kept l m e =
    ap (λ x. pads_of x ++ part' (target R s p)) kept.same
    ∙ ap (λ b. pads_of (word_at S s p) ++ part' b) (ap target_in m)
    ∙ ap (λ is. pads_of (word_at S s p) ++ is) e
    ∙ ap (λ b. pads_of (word_at S s p) ++ part b) (sym (ap target_in l))

mutual
  pub frame_one : {S R : Segments} {n s p c : ℕ} (t : Tree) → KeepsWord S R s p → Agree S R (cover S s p t) → Meant S n s p t c → Means R n s p t c × (cover R s p t ≡ cover S s p t)
  frame_one Null kept h m =
      let (e, g) = m.means in
      ((kept.same ∙ e, g), refl)
  frame_one (Capability i) kept h m =
      let (a, l, e, g) = m.means in
      ((a, leads_agree kept h l, e, g), ap pads_of kept.same)
  frame_one {S = S} {R = R} (Struct ws ts) kept h m =
      let (a, k, some, o, claim, e, all, g) = m.means in
      let w = length ws + count ts in
      let f = object_agrees w (λ b. cover_all S b.segment (b.start + length ws) ts) kept o.leads_to h in
      let inner = frame_all ts kept.grows (λ q x y. f.1 q (omega arith) (omega arith)) f.2 (record { means = all }) in (
        (a, k, some, struct_kept f.0 o, le_trans claim (kept.grows.words a.segment), has_words_kept a.segment a.start kept.grows (omega arith) (λ q x y. f.1 q x (omega arith)) e, inner.0, g),
        same_cover (λ b. object_of b w ∷ cover_all S b.segment (b.start + length ws) ts) (λ b. object_of b w ∷ cover_all R b.segment (b.start + length ws) ts) kept o.leads_to.1 f.0.1 (ap (λ is. object_of a w ∷ is) inner.1),
      )
  frame_one (Flat size ns) kept h m =
      let (a, some, small, o, claim, e, g) = m.means in
      let w = words_for size (length ns) in
      let f = object_agrees w (λ _. []) kept o.leads_to h in (
        (a, some, small, list_kept f.0 o, le_trans claim (kept.grows.words a.segment), e ∙ ap (unpacked size (length ns)) (sym (words_kept a.segment a.start w kept.grows claim f.1)), g),
        same_cover (λ b. object_of b w ∷ []) (λ b. object_of b w ∷ []) kept o.leads_to.1 f.0.1 refl,
      )
  frame_one {S = S} {R = R} (Pointers ts) kept h m =
      let (a, k, some, o, claim, all, g) = m.means in
      let w = count ts in
      let f = object_agrees w (λ b. cover_all S b.segment b.start ts) kept o.leads_to h in
      let inner = frame_all ts kept.grows f.1 f.2 (record { means = all }) in (
        (a, k, some, list_kept f.0 o, le_trans claim (kept.grows.words a.segment), inner.0, g),
        same_cover (λ b. object_of b w ∷ cover_all S b.segment b.start ts) (λ b. object_of b w ∷ cover_all R b.segment b.start ts) kept o.leads_to.1 f.0.1 (ap (λ is. object_of a w ∷ is) inner.1),
      )
  frame_one {S = S} {R = R} (Structs d q es) kept h m =
      let (a, m', k, some, o, claim, tag, fits, all, g) = m.means in
      let w = 1 + element_count es * (d + q) in
      let f = object_agrees w (λ b. cover_elements S b.segment (b.start + 1) d q es) kept o.leads_to h in
      let inner = frame_elements es kept.grows (omega arith) (λ r x y. f.1 r (omega arith) (omega arith)) f.2 (record { means = all }) in
      let first : word_at R a.segment a.start ≡ word_at S a.segment a.start = f.1 a.start (omega arith) (omega arith) in (
        (a, m', k, some, list_kept f.0 o, le_trans claim (kept.grows.words a.segment), subst (λ x. IsTag x (element_count es) d q) (sym first) tag, fits, inner.0, g),
        same_cover (λ b. object_of b w ∷ cover_elements S b.segment (b.start + 1) d q es) (λ b. object_of b w ∷ cover_elements R b.segment (b.start + 1) d q es) kept o.leads_to.1 f.0.1 (ap (λ is. object_of a w ∷ is) inner.1),
      )

  pub frame_all : {S R : Segments} {n s p c : ℕ} (ts : Trees) → Grows S R → SameWords S R s p (count ts) → Agree S R (cover_all S s p ts) → AllMeant S n s p ts c →
      MeansAll R n s p ts c × (cover_all R s p ts ≡ cover_all S s p ts)
  frame_all no_trees grows same h m = (m.means, refl)
  frame_all {S = S} {R = R} {s = s} {p = p} (tree t ts) grows same h m =
      let (k, l, one, rest, g) = m.means in
      let first = frame_one t (record { grows = grows; same = same p (omega arith) (omega arith) }) (agree_left S R (cover S s p t) (cover_all S s (p + 1) ts) h) (record { means = one }) in
      let others = frame_all ts grows (λ q x y. same q (omega arith) (omega arith)) (agree_right S R (cover S s p t) (cover_all S s (p + 1) ts) h) (record { means = rest }) in
      ((k, l, first.0, others.0, g), ap₂ (λ x y. x ++ y) first.1 others.1)

  pub frame_elements : {S R : Segments} {n s p d q c : ℕ} (es : Elements) → Grows S R → p + element_count es * (d + q) ≤ length (segment S s) → SameWords S R s p (element_count es * (d + q)) → Agree S R (cover_elements S s p d q es) → ElementsMeant S n s p d q es c →
      MeansElements R n s p d q es c × (cover_elements R s p d q es ≡ cover_elements S s p d q es)
  frame_elements no_elements grows fits same h m = (m.means, refl)
  frame_elements {S = S} {R = R} {s = s} {p = p} {d = d} {q = q} (element ws ts es) grows fits same h m =
      let (k, l, long, len, e, all, rest, g) = m.means in
      let more = element_count es * (d + q) in
      let first = frame_all ts grows (λ r x y. same r (omega arith) (omega arith)) (agree_left S R (cover_all S s (p + d) ts) (cover_elements S s (p + d + q) d q es) h) (record { means = all }) in
      let others = frame_elements es grows (omega arith) (λ r x y. same r (omega arith) (omega arith)) (agree_right S R (cover_all S s (p + d) ts) (cover_elements S s (p + d + q) d q es) h) (record { means = rest }) in
      ((k, l, long, len, has_words_kept s p grows (omega arith) (λ r x y. same r x (omega arith)) e, first.0, others.0, g), ap₂ (λ x y. x ++ y) first.1 others.1)

-- in the form of the law
pub frame : (S R : Segments) (n s p : ℕ) (t : Tree) (c : ℕ) → Grows S R → word_at R s p ≡ word_at S s p → Agree S R (cover S s p t) → Means S n s p t c → Means R n s p t c × (cover R s p t ≡ cover S s p t)
frame S R n s p t c grows same h m = frame_one t (record { grows = grows; same = same }) h (record { means = m })
