-- If the word of a place leads to the same object as another one's, it means the same value; and so
-- do consecutive pointers.
use Rattle.std.proofs.Common.{◌≡◌, ◌≢◌, inl, inr, ℕ, suc, pred, ◌+◌, ◌*◌, ◌%◌, ◌^◌, ◌<◌, ◌≤◌, cond, nat_eq, nat_lt, List, [], ◌∷◌, ◌++◌, length, Option, Some, None, refl, sym, ap, ap₂, ◌∙◌, subst, arith, eq-eqb, ne_eqb, lt-ltb}
use Rattle.std.proofs.lemmas.Bool.Decides.{nat_tests}
use Rattle.capnp_format.specs.Word.{kind, is_double, far_position, upper_half, offset_bits, data_words, pointer_count, element_size, list_count, capability_word}
use Rattle.capnp_format.specs.Numbers.{words_for, packed}
use Rattle.capnp_format.specs.Segments.{Segments, segment, word_at, words_at, HasWords, Target, leads, offset_leads, near, far, given, ◌>>=◌}
use Rattle.capnp_format.specs.Tree.{Tree, Null, Capability, Struct, Flat, Pointers, Structs, Trees, no_trees, tree, count, element_count}
use Rattle.capnp_format.specs.Means.{Leads, StructAt, count_cost, Means, MeansAll}
use Rattle.capnp_format.specs.Forest.{Interval, times, pads_of, object_of, target, target_in, cover, cover_all, cover_elements, IsTidy, AreTidy, AreTidyElements}
use Rattle.capnp_in_place.specs.Moved.{SameObject, IsMoved}
use Rattle.capnp_format.proofs.Following.{IsOffsetTo, offset_at}
use Rattle.capnp_format.proofs.Frame.{times-append}
use Rattle.capnp_allocation.proofs.Extents.{times-object}
use Rattle.capnp_in_place.proofs.WiderObjects.RemadeElsewhere.{pads_from}
use Rattle.capnp_in_place.proofs.WiderObjects.Statements.{SameStart}
use Rattle.capnp_allocation.proofs.Leading.{far_word}
use Rattle.capnp_format.proofs.ZeroWords.{zero_is_null}

-- Where a near pointer leads, a far pointer by one pad, and a far pointer by two.
pub near_leads : (S : Segments) (s p b : ℕ) → word_at S s p ≢ 0 → kind (word_at S s p) ≢ 2 → b ≤ length (segment S s) → IsOffsetTo p (offset_bits (word_at S s p)) b →
    Leads S s p (record { word = word_at S s p; segment = s; start = b; pads = 0 })
near_leads S s p b some not_far fits o =
    let x = word_at S s p in
    (some, ap (λ y. cond y (far S x (is_double x)) (near S s p x 0)) (ne_eqb (kind x) 2 not_far) ∙ ap (λ z. z >>= λ y. Some (record { word = x; segment = s; start = y; pads = 0 })) (offset_at (length (segment S s)) p (offset_bits x) b fits o))

-- What a word leads to that isn't a far pointer.
pub near_found : (S : Segments) (s p : ℕ) (a : Target) → kind (word_at S s p) ≢ 2 → leads S s p ≡ Some a →
    (a.word ≡ word_at S s p) × (a.segment ≡ s) × (a.pads ≡ 0) × (offset_leads (length (segment S s)) p (offset_bits (word_at S s p)) ≡ Some a.start)
near_found S s p a other e =
    let x = word_at S s p in
    found (offset_leads (length (segment S s)) p (offset_bits x)) (ap (λ b. cond b (far S x (is_double x)) (near S s p x 0)) (sym (ne_eqb (kind x) 2 other)) ∙ e)
  where
    found : (o : Option ℕ) → (o >>= λ b. Some (record { word = word_at S s p; segment = s; start = b; pads = 0 })) ≡ Some a →
        (a.word ≡ word_at S s p) × (a.segment ≡ s) × (a.pads ≡ 0) × (o ≡ Some a.start)
    found (Some b) h =
        let same : record { word = word_at S s p; segment = s; start = b; pads = 0 } ≡ a = cc in
        (ap (λ (t : Target). t.word) (sym same), ap (λ (t : Target). t.segment) (sym same), ap (λ (t : Target). t.pads) (sym same), ap (λ (t : Target). Some t.start) same)
    found None h = cc

pub double_far_leads : (S : Segments) (s p x v r : ℕ) → word_at S s p ≡ x → kind x ≡ 2 → is_double x ≡ 1 → upper_half x ≡ v → far_position x ≡ r → r + 1 < length (segment S v) → kind (word_at S v (r + 1)) ≢ 2 →
    upper_half (word_at S v r) < length S → Leads S s p (record { word = word_at S v (r + 1); segment = upper_half (word_at S v r); start = far_position (word_at S v r); pads = 2 })
double_far_leads S s p x v r e is_far double to at place not_far there =
    let f = word_at S v r in
    let w = word_at S v (r + 1) in
    far_word S s p x (record { word = w; segment = upper_half f; start = far_position f; pads = 2 }) e is_far
    (ap (far S x) double ∙ rw (to, at) (
    ap (λ y. given y f >>= λ z. cond (nat_eq (kind w) 2) None (given (nat_lt (upper_half z) (length S)) (record { word = w; segment = upper_half z; start = far_position z; pads = 2 }))) (lt-ltb (r + 1) (length (segment S v)) place)
    ∙ ap (λ y. cond y None (given (nat_lt (upper_half f) (length S)) (record { word = w; segment = upper_half f; start = far_position f; pads = 2 }))) (ne_eqb (kind w) 2 not_far)
    ∙ ap (λ y. given y (record { word = w; segment = upper_half f; start = far_position f; pads = 2 })) (lt-ltb (upper_half f) (length S) there)
    ))

-- A far pointer leads to the same target from any place.
pub copied_far_leads : (S : Segments) (s p v r : ℕ) (a : Target) → word_at S v r ≡ word_at S s p → kind (word_at S s p) ≡ 2 → Leads S s p a → Leads S v r a
copied_far_leads S s p v r a e is_far l =
    let x = word_at S s p in
    far_word S v r x a e is_far (ap (λ y. cond y (far S x (is_double x)) (near S s p x 0)) (sym (eq-eqb (kind x) 2 is_far)) ∙ l.1)

-- The place (v, r) means the value t that the place (s, p) means with cost c. The object is the
-- same; the pads may differ.
pub record MeansToo (S : Segments) (n s p v r : ℕ) (t : Tree) (c : ℕ) : Type 0 where
  pub cost : ℕ
  pub means : Means S n v r t cost
  pub costs : cost + (target S s p).pads ≡ c + (target S v r).pads
  pub covers : (x y : ℕ) → times (cover S v r t) x y + times (pads_of (word_at S s p)) x y ≡ times (cover S s p t) x y + times (pads_of (word_at S v r)) x y
  pub tidy : IsTidy S s p t → IsTidy S v r t

object_moved : (S : Segments) (s p v r n m : ℕ) (a b : Target) (more : Target → List Interval) (x y : ℕ) → leads S s p ≡ Some a → leads S v r ≡ Some b →
    times (object_of b n ∷ []) x y + times (more b) x y ≡ times (object_of a n ∷ []) x y + times (more a) x y →
    times (pads_of (word_at S v r) ++ object_of (target S v r) n ∷ more (target S v r)) x y + times (pads_of (word_at S s p)) x y
    ≡ times (pads_of (word_at S s p) ++ object_of (target S s p) n ∷ more (target S s p)) x y + times (pads_of (word_at S v r)) x y
object_moved S s p v r n m a b more x y l k e = omega (arith, times-object S s p n a more x y l, times-object S v r n b more x y k)

same_object_times : (a b : Target) (n x y : ℕ) → b.segment ≡ a.segment → b.start ≡ a.start → times (object_of b n ∷ []) x y ≡ times (object_of a n ∷ []) x y
same_object_times a b n x y e f = ap₂ (λ z w. times (record { segment = z; start = w; words = n } ∷ []) x y) e f

pads_there : (S : Segments) (s p : ℕ) (a : Target) → leads S s p ≡ Some a → (target S s p).pads ≡ a.pads
pads_there S s p a l = ap (λ o. (target_in o).pads) l

same_data : (x y : ℕ) → upper_half y ≡ upper_half x → data_words y ≡ data_words x
same_data x y e = omega arith

same_pointers : (x y : ℕ) → upper_half y ≡ upper_half x → pointer_count y ≡ pointer_count x
same_pointers x y e = omega arith

same_size : (x y : ℕ) → upper_half y ≡ upper_half x → element_size y ≡ element_size x
same_size x y e = omega arith

same_count : (x y : ℕ) → upper_half y ≡ upper_half x → list_count y ≡ list_count x
same_count x y e = omega arith

same_capability : (x y i : ℕ) → x ≡ capability_word i → upper_half y ≡ upper_half x → y % 2 ^ 32 ≡ 3 → y ≡ capability_word i
same_capability x y i e f g = omega arith

is_capability : (x i : ℕ) → x ≡ capability_word i → x % 2 ^ 32 ≡ 3
is_capability x i e = omega arith

no_words : (a : Target) (x y : ℕ) → times (object_of a 0 ∷ []) x y ≡ 0
no_words a x y = grind (arith, nat_tests)

struct_moved : (S : Segments) (n s p v r : ℕ) (ws : List ℕ) (ts : Trees) (c : ℕ) (b : Target) (a : Target) (k : ℕ) → Leads S v r b → SameObject S a b → 0 < n → StructAt S s p a (length ws) (count ts) → a.start + (length ws + count ts) ≤ length (segment S a.segment) →
    HasWords S a.segment a.start ws → MeansAll S (pred n) a.segment (a.start + length ws) ts k →
    c ≡ a.pads + (length ws + count ts) + k →
    SameStart S a b → MeansToo S n s p v r (Struct ws ts) c
struct_moved S n s p v r ws ts c b a k l same some o claim e all g (inl (seg, start)) = record {
  cost = b.pads + (length ws + count ts) + k;
  means = (
    b,
    k,
    some,
    record { leads_to = l; is_struct = same.same_kind ∙ o.is_struct; data_of = same_data a.word b.word same.same_sizes ∙ o.data_of; pointers = same_pointers a.word b.word same.same_sizes ∙ o.pointers },
    rw (seg, start) claim,
    rw (seg, start) e,
    rw (seg, start) all,
    refl,
  );
  costs = omega (arith, g, pads_there S s p a o.leads_to.1, pads_there S v r b l.1);
  covers = λ x y. object_moved S s p v r (length ws + count ts) 0 a b (λ z. cover_all S z.segment (z.start + length ws) ts) x y o.leads_to.1 l.1
      (omega (arith, same_object_times a b (length ws + count ts) x y seg start, ap₂ (λ z w. times (cover_all S z (w + length ws) ts) x y) seg start));
  tidy = λ h. subst (λ z. AreTidy S z.segment (z.start + length ws) ts) (sym (ap target_in l.1)) (rw (seg, start) (subst (λ z. AreTidy S z.segment (z.start + length ws) ts) (ap target_in o.leads_to.1) h));
}
struct_moved S n s p v r [] no_trees c b a k l same some o claim e all g (inr (inl (is_struct, empty, fits))) = record {
  cost = b.pads + 0 + 0;
  means = (
    b,
    0,
    some,
    record { leads_to = l; is_struct = same.same_kind ∙ o.is_struct; data_of = same_data a.word b.word same.same_sizes ∙ o.data_of; pointers = same_pointers a.word b.word same.same_sizes ∙ o.pointers },
    omega arith,
    refl,
    refl,
    omega arith,
  );
  costs = omega (arith, g, pads_there S s p a o.leads_to.1, pads_there S v r b l.1);
  covers = λ x y. object_moved S s p v r 0 0 a b (λ z. []) x y o.leads_to.1 l.1 (omega (arith, no_words a x y, no_words b x y));
  tidy = λ h. tt;
}
struct_moved S n s p v r ws ts c b a k l same some o claim e all g (inr (inr low)) = absurd (let x = o.is_struct in omega arith)
struct_moved S n s p v r (w ∷ ws) ts c b a k l same some o claim e all g (inr (inl (is_struct, empty, fits))) = absurd (let d = o.data_of in omega arith)
struct_moved S n s p v r [] (tree t ts) c b a k l same some o claim e all g (inr (inl (is_struct, empty, fits))) = absurd (let d = o.pointers in omega arith)

not_empty : (a b : Target) (S : Segments) → SameStart S a b → kind a.word ≡ 1 → (b.segment ≡ a.segment) × (b.start ≡ a.start)
not_empty a b S (inl (e, f)) list = (e, f)
not_empty a b S (inr (inl (e, f, g))) list = absurd (omega arith)
not_empty a b S (inr (inr e)) list = absurd (omega arith)

-- A place has only one target.
leads_once : (S : Segments) (s p : ℕ) (a b c : Target) → leads S s p ≡ Some a → leads S s p ≡ Some b → SameObject S a c → SameObject S b c
leads_once S s p a b c h k same = subst (λ z. SameObject S z c) (let e : a ≡ b = cc in e) same

pub same_object_means : (S : Segments) (n s p v r : ℕ) (t : Tree) (c : ℕ) (a b : Target) → Leads S s p a → Leads S v r b → SameObject S a b → Means S n s p t c → MeansToo S n s p v r t c
same_object_means S n s p v r Null c a b l k same m = absurd (l.0 m.0)
same_object_means S n s p v r (Capability i) c a b l k same (t, h, e, g) =
    let again = leads_once S s p a t b l.1 h.1 same in
    let word = same_capability t.word b.word i e again.same_sizes (again.capability (is_capability t.word i e)) in
    record { cost = b.pads; means = (b, k, word, refl); costs = omega (arith, g, pads_there S s p t h.1, pads_there S v r b k.1); covers = λ x y. omega arith; tidy = λ z. tt }
same_object_means S n s p v r (Struct ws ts) c a b l k same (t, x, some, o, claim, e, all, g) =
    let again = leads_once S s p a t b l.1 o.leads_to.1 same in
    struct_moved S n s p v r ws ts c b t x k again some o claim e all g again.same_start
same_object_means S n s p v r (Flat size ns) c a b l k same (t, some, small, o, claim, e, g) =
    let again = leads_once S s p a t b l.1 o.leads_to.1 same in
    let there = not_empty t b S again.same_start o.is_list in
    let w = words_for size (length ns) in
    record {
      cost = b.pads + w + count_cost size (length ns);
      means = (
        b,
        some,
        small,
        record { leads_to = k; is_list = again.same_kind ∙ o.is_list; is_size = same_size t.word b.word again.same_sizes ∙ o.is_size; counts = same_count t.word b.word again.same_sizes ∙ o.counts },
        rw (there.0, there.1) claim,
        rw (there.0, there.1) e,
        refl,
      );
      costs = omega (arith, g, pads_there S s p t o.leads_to.1, pads_there S v r b k.1);
      covers = λ x y. object_moved S s p v r w 0 t b (λ z. []) x y o.leads_to.1 k.1 (omega (arith, same_object_times t b w x y there.0 there.1));
      tidy = λ h. subst (λ z. words_at S z.segment z.start w ≡ packed size ns) (sym (ap target_in k.1)) (rw (there.0, there.1) (subst (λ z. words_at S z.segment z.start w ≡ packed size ns) (ap target_in o.leads_to.1) h));
    }
same_object_means S n s p v r (Pointers ts) c a b l k same (t, x, some, o, claim, all, g) =
    let again = leads_once S s p a t b l.1 o.leads_to.1 same in
    let there = not_empty t b S again.same_start o.is_list in
    record {
      cost = b.pads + count ts + x;
      means = (
        b,
        x,
        some,
        record { leads_to = k; is_list = again.same_kind ∙ o.is_list; is_size = same_size t.word b.word again.same_sizes ∙ o.is_size; counts = same_count t.word b.word again.same_sizes ∙ o.counts },
        rw (there.0, there.1) claim,
        rw (there.0, there.1) all,
        refl,
      );
      costs = omega (arith, g, pads_there S s p t o.leads_to.1, pads_there S v r b k.1);
      covers = λ y z. object_moved S s p v r (count ts) 0 t b (λ f. cover_all S f.segment f.start ts) y z o.leads_to.1 k.1
          (omega (arith, same_object_times t b (count ts) y z there.0 there.1, ap₂ (λ f w. times (cover_all S f w ts) y z) there.0 there.1));
      tidy = λ h. subst (λ z. AreTidy S z.segment z.start ts) (sym (ap target_in k.1)) (rw (there.0, there.1) (subst (λ z. AreTidy S z.segment z.start ts) (ap target_in o.leads_to.1) h));
    }
same_object_means S n s p v r (Structs d q es) c a b l k same (t, m, x, some, o, claim, tag, fits, all, g) =
    let again = leads_once S s p a t b l.1 o.leads_to.1 same in
    let there = not_empty t b S again.same_start o.is_list in
    let w = element_count es * (d + q) in
    record {
      cost = b.pads + (m + 1) + count_cost (d + q) (element_count es) + x;
      means = (
        b,
        m,
        x,
        some,
        record { leads_to = k; is_list = again.same_kind ∙ o.is_list; is_size = same_size t.word b.word again.same_sizes ∙ o.is_size; counts = same_count t.word b.word again.same_sizes ∙ o.counts },
        rw (there.0, there.1) claim,
        rw (there.0, there.1) tag,
        fits,
        rw (there.0, there.1) all,
        refl,
      );
      costs = omega (arith, g, pads_there S s p t o.leads_to.1, pads_there S v r b k.1);
      covers = λ y z. object_moved S s p v r (1 + w) 0 t b (λ f. cover_elements S f.segment (f.start + 1) d q es) y z o.leads_to.1 k.1
          (omega (arith, same_object_times t b (1 + w) y z there.0 there.1, ap₂ (λ f h. times (cover_elements S f (h + 1) d q es) y z) there.0 there.1));
      tidy = λ h. subst (λ z. (list_count z.word ≡ w) × AreTidyElements S z.segment (z.start + 1) d q es) (sym (ap target_in k.1))
          (let y = subst (λ z. (list_count z.word ≡ w) × AreTidyElements S z.segment (z.start + 1) d q es) (ap target_in o.leads_to.1) h in (same_count t.word b.word again.same_sizes ∙ y.0, (rw (there.0, there.1) y.1)));
    }

no_pads : (o : Option ℕ) (x s : ℕ) → (target_in (o >>= λ b. Some (record { word = x; segment = s; start = b; pads = 0 }))).pads ≡ 0
no_pads None x s = refl
no_pads (Some b) x s = refl

null_pads : (S : Segments) (s p : ℕ) → word_at S s p ≡ 0 → (target S s p).pads ≡ 0
null_pads S s p e =
    ap (λ x. (target_in (cond (nat_eq (kind x) 2) (far S x (is_double x)) (near S s p x 0))).pads) e ∙ no_pads (offset_leads (length (segment S s)) p (offset_bits 0)) 0 s

null_cost : (S : Segments) (n s p : ℕ) (t : Tree) (c : ℕ) → word_at S s p ≡ 0 → Means S n s p t c → c ≡ 0
null_cost S n s p Null c e m = m.1
null_cost S n s p (Capability i) c e (a, l, w, g) = absurd (l.0 e)
null_cost S n s p (Struct ws ts) c e (a, k, some, o, claim, w, all, g) = absurd (o.leads_to.0 e)
null_cost S n s p (Flat size ns) c e (a, some, small, o, claim, w, g) = absurd (o.leads_to.0 e)
null_cost S n s p (Pointers ts) c e (a, k, some, o, claim, all, g) = absurd (o.leads_to.0 e)
null_cost S n s p (Structs d q es) c e (a, m, k, some, o, claim, tag, fits, all, g) = absurd (o.leads_to.0 e)

-- A moved pointer means the value of the old one.
pub moved_means : (S : Segments) (n s p v r : ℕ) (t : Tree) (c : ℕ) → IsMoved S s p v r → Means S n s p t c → MeansToo S n s p v r t c
moved_means S n s p v r t c (inl (e, f)) m =
    subst (λ z. MeansToo S n s p v r z c) (sym (zero_is_null S s p t n c e m)) (record {
      cost = 0;
      means = (f, refl);
      costs = omega (arith, null_pads S s p e, null_pads S v r f, null_cost S n s p t c e m);
      covers = λ x y. rw (e, f) refl;
      tidy = λ h. tt;
    })
moved_means S n s p v r t c (inr (a, b, l, k, same)) m = same_object_means S n s p v r t c a b l k same m

-- Consecutive pointers.
pub record MeanToo (S : Segments) (n s p v r : ℕ) (ts : Trees) : Type 0 where
  pub cost : ℕ
  pub means : MeansAll S n v r ts cost
  pub covers : (x y : ℕ) → times (cover_all S v r ts) x y + times (pads_from S s p (count ts)) x y ≡ times (cover_all S s p ts) x y + times (pads_from S v r (count ts)) x y
  pub tidy : AreTidy S s p ts → AreTidy S v r ts

pub moved_mean : (S : Segments) (n s p v r : ℕ) (ts : Trees) (c : ℕ) → ((i : ℕ) → i < count ts → IsMoved S s (p + i) v (r + i)) → MeansAll S n s p ts c → MeanToo S n s p v r ts
moved_mean S n s p v r no_trees c h m = record { cost = 0; means = refl; covers = λ x y. refl; tidy = λ z. tt }
moved_mean S n s p v r (tree t ts) c h (a, b, one, rest, g) =
    let here : IsMoved S s p v r = subst (λ z. IsMoved S s z v r) (let e : p + 0 ≡ p = omega arith in e) (subst (λ z. IsMoved S s (p + 0) v z) (let e : r + 0 ≡ r = omega arith in e) (h 0 (omega arith))) in
    let first = moved_means S n s p v r t a here one in
    let others = moved_mean S n s (p + 1) v (r + 1) ts b
    (λ i l. subst (λ z. IsMoved S s z v (r + 1 + i)) (let e : p + suc i ≡ p + 1 + i = omega arith in e) (subst (λ z. IsMoved S s (p + suc i) v z) (let e : r + suc i ≡ r + 1 + i = omega arith in e) (h (suc i) (omega arith)))) rest in
    record {
      cost = first.cost + others.cost;
      means = (first.cost, others.cost, first.means, others.means, refl);
      covers = λ x y. omega (
        arith,
        times-append (cover S v r t) (cover_all S v (r + 1) ts) x y,
        times-append (cover S s p t) (cover_all S s (p + 1) ts) x y,
        times-append (pads_of (word_at S s p)) (pads_from S s (p + 1) (count ts)) x y,
        times-append (pads_of (word_at S v r)) (pads_from S v (r + 1) (count ts)) x y,
        first.covers x y,
        others.covers x y,
      );
      tidy = λ z. (first.tidy z.0, others.tidy z.1);
    }
