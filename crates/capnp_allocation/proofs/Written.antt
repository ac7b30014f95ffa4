-- The data words of a struct or an element, or the elements of a flat list, are written in their
-- places: the value is replaced, and holds the same words.
use Rattle.std.proofs.Common.{◌≡◌, ◌⊎◌, inl, inr, ℕ, zero, suc, pred, ◌+◌, ◌*◌, ◌^◌, ◌<◌, ◌≤◌, List, [], ◌∷◌, ◌++◌, length, refl, sym, ap, ap₂, ◌∙◌, subst, le_trans, le_of_eq, arith}
use Rattle.std.proofs.lemmas.Bool.Decides.{nat_tests}
use Rattle.std.proofs.lemmas.List.{get_or_past}
use Rattle.capnp_format.specs.Numbers.{words_for, packed, unpacked, element_bits}
use Rattle.capnp_format.specs.Value.{AreBelow}
use Rattle.capnp_format.specs.Segments.{Segments, segment, word_at, words_at, HasWords, Target}
use Rattle.capnp_format.specs.Tree.{Tree, Struct, Flat, Structs, Trees, Elements, no_elements, element, count, element_count}
use Rattle.capnp_format.specs.Word.{list_count}
use Rattle.capnp_format.specs.Means.{Leads, IsTag, count_cost, Means, MeansAll, MeansElements}
use Rattle.capnp_format.specs.Forest.{Interval, times, pads_of, object_of, target, row, target_in, cover, cover_all, cover_elements, IsTidy, AreTidy, AreTidyElements}
use Rattle.capnp_format.specs.Path.{struct_at, put_struct, word_interval, extent}
use Rattle.capnp_allocation.specs.Stored.{IsStored, IsReplaced}
use Rattle.capnp_format.specs.Segments.{Grows}
use Rattle.capnp_format.proofs.Frame.{Agree, SameWords, agree_left, agree_right, leads_agree, list_kept, has_words_kept, frame_all, frame_elements, same_cover}
use Rattle.capnp_allocation.proofs.Extents.{once_held, times-first, times-object}
use Rattle.capnp_format.proofs.Lies.{unpacked-packed}
use Rattle.capnp_allocation.proofs.Tidy.{at_target, tidy_kept_all, tidy_kept_elements}

-- S and R have equally many segments, and each is as long in S as in R.
pub record SameLengths (S R : Segments) : Type 0 where
  pub segments : length R ≡ length S
  pub words : (v : ℕ) → length (segment R v) ≡ length (segment S v)

pub same_grows : (S R : Segments) → SameLengths S R → Grows S R
same_grows S R a = record { segments = le_of_eq (sym a.segments); words = λ v. le_of_eq (sym (a.words v)) }

-- S and R are the same except for words of an interval.
abbrev pub SameBut : Segments → Segments → Interval → Type 0
SameBut S R i = (v r : ℕ) → times (i ∷ []) v r ≡ 0 → word_at R v r ≡ word_at S v r

-- A value replaced by another one that covers the same words.
pub same_extent : (S R : Segments) (s p : ℕ) (t u : Tree) (n c : ℕ) → SameLengths S R → IsStored S s p t → ((v r : ℕ) → times (extent S s p t) v r ≡ 0 → word_at R v r ≡ word_at S v r) →
    Means R n s p u c → cover R s p u ≡ cover S s p t → IsTidy R s p u → IsReplaced S R s p t u
same_extent S R s p t u n c long a same m e y =
    let eq = λ (v r : ℕ). ap (λ is. times (word_interval s p ∷ is) v r) e in
    record {
      segments = le_of_eq (sym long.segments);
      words = λ v. le_of_eq (sym (long.words v));
      stored = record {
        means = (n, c, m);
        apart = λ v r. omega (arith, eq v r, a.apart v r);
        inside = λ v r l. omega (arith, long.words v, a.inside v r (omega (arith, eq v r)));
        tidy = y;
      };
      uses = λ v r l. inl (omega (arith, eq v r));
      zero_elsewhere = λ v r none f. elim f [
        | inl l ↦ absurd (omega (arith, eq v r))
        | inr l ↦ get_or_past (segment R v) r 0 (omega (arith, long.words v))
      ];
      kept = λ v r none l. same v r none;
    }

shorter_object : (a : Target) (n m v r : ℕ) → n ≤ m → times (object_of a n ∷ []) v r ≤ times (object_of a m ∷ []) v r
shorter_object a n m v r l = grind (arith, nat_tests)

pub past_row : (s p n r : ℕ) → p + n ≤ r → times (row s p n ∷ []) s r ≡ 0
past_row s p n r l = grind (arith, nat_tests)

-- What stays of an object if only some of its words are written.
record Stays (S R : Segments) (s p : ℕ) (a : Target) (rest : List Interval) : Type 0 where
  same : word_at R s p ≡ word_at S s p
  leads_to : Leads R s p a
  rest_agrees : Agree S R rest

stays : (S R : Segments) (s p n : ℕ) (a : Target) (i : Interval) (more : Target → List Interval) → Grows S R → Leads S s p a → ((v r : ℕ) → times (i ∷ []) v r ≤ times (object_of a n ∷ []) v r) → SameBut S R i →
    ((v r : ℕ) → times (word_interval s p ∷ pads_of (word_at S s p) ++ object_of (target S s p) n ∷ more (target S s p)) v r ≤ 1) → Stays S R s p a (more a)
stays S R s p n a i more grows l part h apart =
    let whole = λ (v r : ℕ). times-first (word_interval s p) (pads_of (word_at S s p) ++ object_of (target S s p) n ∷ more (target S s p)) v r in
    let at = λ (v r : ℕ). times-object S s p n a more v r l.1 in
    let same : word_at R s p ≡ word_at S s p = h s p (omega (arith, whole s p, at s p, apart s p, part s p, once_held s p)) in
    record {
      same = same;
      leads_to = leads_agree (record { grows = grows; same = same }) (λ v r m. h v r (omega (arith, whole v r, at v r, apart v r, part v r))) l;
      rest_agrees = λ v r m. h v r (omega (arith, whole v r, at v r, apart v r, part v r));
    }

-- The data words of a struct are written.
pub data_written : (S R : Segments) (s p : ℕ) (ws vs : List ℕ) (ts : Trees) → SameLengths S R → IsStored S s p (Struct ws ts) → length vs ≡ length ws → SameBut S R (object_of (target S s p) (length ws)) →
    HasWords R (target S s p).segment (target S s p).start vs → IsReplaced S R s p (Struct ws ts) (Struct vs ts)
data_written S R s p ws vs ts long a len but here =
    let m = a.means in
    data_written_at S R s p ws vs ts m.0 m.1 long a len but here m.2
  where
    data_written_at : (S R : Segments) (s p : ℕ) (ws vs : List ℕ) (ts : Trees) (n c : ℕ) → SameLengths S R → IsStored S s p (Struct ws ts) → length vs ≡ length ws → SameBut S R (object_of (target S s p) (length ws)) →
        HasWords R (target S s p).segment (target S s p).start vs → Means S n s p (Struct ws ts) c → IsReplaced S R s p (Struct ws ts) (Struct vs ts)
    data_written_at S R s p ws vs ts n c long x len but here (a, k, some, o, claim, e, all, g) =
        let grows = same_grows S R long in
        let to_a = ap target_in o.leads_to.1 in
        let but_a = subst (λ b. SameBut S R (object_of b (length ws))) to_a but in
        let here_a = subst (λ b. HasWords R b.segment b.start vs) to_a here in
        let w = stays S R s p (length ws + count ts) a (object_of a (length ws)) (λ b. cover_all S b.segment (b.start + length ws) ts) grows o.leads_to (λ v r. shorter_object a (length ws) (length ws + count ts) v r (omega arith)) but_a x.apart in
        let pointers_same : SameWords S R a.segment (a.start + length ws) (count ts) = λ q f h. but_a a.segment q (past_row a.segment a.start (length ws) q f) in
        let kept = frame_all ts grows pointers_same w.rest_agrees (record { means = all }) in
        let moved : a.start + length vs ≡ a.start + length ws = omega arith in
        same_extent S R s p (Struct ws ts) (Struct vs ts) n c long x
        (λ v r none. but_a v r (omega (
          arith,
          times-first (word_interval s p) (cover S s p (Struct ws ts)) v r,
          times-object S s p (length ws + count ts) a (λ b. cover_all S b.segment (b.start + length ws) ts) v r o.leads_to.1,
          shorter_object a (length ws) (length ws + count ts) v r (omega arith),
        ))) (
          a,
          k,
          some,
          record { leads_to = w.leads_to; is_struct = o.is_struct; data_of = o.data_of ∙ sym len; pointers = o.pointers },
          omega (arith, grows.words a.segment),
          here_a,
          subst (λ z. MeansAll R (pred n) a.segment z ts k) (sym moved) kept.0,
          omega arith,
        )
        (ap (λ z. pads_of (word_at R s p) ++ object_of (target R s p) (z + count ts) ∷ cover_all R (target R s p).segment ((target R s p).start + z) ts) len
        ∙ same_cover (λ b. object_of b (length ws + count ts) ∷ cover_all S b.segment (b.start + length ws) ts) (λ b. object_of b (length ws + count ts) ∷ cover_all R b.segment (b.start + length ws) ts) (record { grows = grows; same = w.same }) o.leads_to.1 w.leads_to.1 (ap (λ is. object_of a (length ws + count ts) ∷ is) kept.1))
        (at_target S R s p a (λ b. AreTidy S b.segment (b.start + length ws) ts) (λ b. AreTidy R b.segment (b.start + length vs) ts) o.leads_to.1 w.leads_to.1
        (λ z. subst (λ y. AreTidy R a.segment y ts) (sym moved) (tidy_kept_all S R (pred n) a.segment (a.start + length ws) ts k grows pointers_same w.rest_agrees all z)) x.tidy)

-- The elements of a flat list are written.
pub flat_written : (S R : Segments) (s p size : ℕ) (ns ms : List ℕ) → SameLengths S R → IsStored S s p (Flat size ns) → length ms ≡ length ns → AreBelow (2 ^ element_bits size) ms →
    SameBut S R (object_of (target S s p) (words_for size (length ns))) → words_at R (target S s p).segment (target S s p).start (words_for size (length ns)) ≡ packed size ms → IsReplaced S R s p (Flat size ns) (Flat size ms)
flat_written S R s p size ns ms long a len small but here =
    let m = a.means in
    flat_written_at S R s p size ns ms m.0 m.1 long a len small but here m.2
  where
    flat_written_at : (S R : Segments) (s p size : ℕ) (ns ms : List ℕ) (n c : ℕ) → SameLengths S R → IsStored S s p (Flat size ns) → length ms ≡ length ns → AreBelow (2 ^ element_bits size) ms →
        SameBut S R (object_of (target S s p) (words_for size (length ns))) → words_at R (target S s p).segment (target S s p).start (words_for size (length ns)) ≡ packed size ms → Means S n s p (Flat size ns) c →
        IsReplaced S R s p (Flat size ns) (Flat size ms)
    flat_written_at S R s p size ns ms n c long x len small but here (a, some, le, o, claim, e, g) =
        let grows = same_grows S R long in
        let k = words_for size (length ns) in
        let to_a = ap target_in o.leads_to.1 in
        let but_a = subst (λ b. SameBut S R (object_of b k)) to_a but in
        let here_a = subst (λ b. words_at R b.segment b.start k ≡ packed size ms) to_a here in
        let w = stays S R s p k a (object_of a k) (λ _. []) grows o.leads_to (λ v r. omega arith) but_a x.apart in
        let same_words : words_for size (length ms) ≡ k = ap (words_for size) len in
        let packed_here : words_at R a.segment a.start (words_for size (length ms)) ≡ packed size ms = ap (words_at R a.segment a.start) same_words ∙ here_a in
        same_extent S R s p (Flat size ns) (Flat size ms) n (a.pads + words_for size (length ms) + count_cost size (length ms)) long x
        (λ v r none. but_a v r (omega (arith, times-first (word_interval s p) (cover S s p (Flat size ns)) v r, times-object S s p k a (λ _. []) v r o.leads_to.1))) (
          a,
          some,
          le,
          record { leads_to = w.leads_to; is_list = o.is_list; is_size = o.is_size; counts = o.counts ∙ sym len },
          omega (arith, grows.words a.segment),
          sym (ap (unpacked size (length ms)) packed_here ∙ unpacked-packed size ms small),
          refl,
        )
        (ap (λ z. pads_of (word_at R s p) ++ object_of (target R s p) z ∷ []) same_words ∙ same_cover (λ b. object_of b k ∷ []) (λ b. object_of b k ∷ []) (record { grows = grows; same = w.same }) o.leads_to.1 w.leads_to.1 (ap (λ is. object_of a k ∷ is) refl))
        (subst (λ b. words_at R b.segment b.start (words_for size (length ms)) ≡ packed size ms) (sym (ap target_in w.leads_to.1)) packed_here)

-- The pointer to them leads to the same target as before.
pub flat_target : (S R : Segments) (s p size : ℕ) (ns : List ℕ) → SameLengths S R → IsStored S s p (Flat size ns) → SameBut S R (object_of (target S s p) (words_for size (length ns))) → target R s p ≡ target S s p
flat_target S R s p size ns long x but =
    let m = x.means in
    go m.0 m.1 m.2
  where
    go : (n c : ℕ) → Means S n s p (Flat size ns) c → target R s p ≡ target S s p
    go n c (a, some, le, o, claim, e, g) =
        let k = words_for size (length ns) in
        let to_a = ap target_in o.leads_to.1 in
        let but_a = subst (λ b. SameBut S R (object_of b k)) to_a but in
        let w = stays S R s p k a (object_of a k) (λ _. []) (same_grows S R long) o.leads_to (λ v r. omega arith) but_a x.apart in
        ap target_in w.leads_to.1 ∙ sym to_a

-- A struct with other data words.
abbrev pub with_data : Tree → List ℕ → Tree
with_data (Struct ws ts) vs = Struct vs ts
with_data t vs = t

-- The data words of element i are written.
record ElementWritten (S R : Segments) (n s p d q : ℕ) (es : Elements) (i : ℕ) (vs : List ℕ) : Type 0 where
  cost : ℕ
  means : MeansElements R n s p d q (put_struct es i (with_data (struct_at es i) vs)) cost
  covers : cover_elements R s p d q (put_struct es i (with_data (struct_at es i) vs)) ≡ cover_elements S s p d q es
  counts : element_count (put_struct es i (with_data (struct_at es i) vs)) ≡ element_count es
  tidy : AreTidyElements S s p d q es → AreTidyElements R s p d q (put_struct es i (with_data (struct_at es i) vs))

element_written : (S R : Segments) (n s p d q : ℕ) (es : Elements) (c i : ℕ) (vs : List ℕ) → Grows S R → i < element_count es → length vs ≡ d → p + element_count es * (d + q) ≤ length (segment S s) → HasWords R s (p + i * (d + q)) vs →
    ((r : ℕ) → p ≤ r → r < p + element_count es * (d + q) → (r < p + i * (d + q)) ⊎ (p + i * (d + q) + d ≤ r) → word_at R s r ≡ word_at S s r) → Agree S R (cover_elements S s p d q es) → MeansElements S n s p d q es c →
    ElementWritten S R n s p d q es i vs
element_written S R n s p d q no_elements c i vs grows l len fits here same h m = absurd (omega arith)
element_written S R n s p d q (element ws ts es) c zero vs grows l len fits here same h (a, b, long, number, words, all, rest, g) =
    let start : p + 0 * (d + q) ≡ p = omega arith in
    let first_same : SameWords S R s (p + d) (count ts) = λ r v w. same r (omega arith) (omega arith) (inr (omega arith)) in
    let rest_same : SameWords S R s (p + d + q) (element_count es * (d + q)) = λ r v w. same r (omega arith) (omega arith) (inr (omega arith)) in
    let first_agree = agree_left S R (cover_all S s (p + d) ts) (cover_elements S s (p + d + q) d q es) h in
    let rest_agree = agree_right S R (cover_all S s (p + d) ts) (cover_elements S s (p + d + q) d q es) h in
    let first = frame_all ts grows first_same first_agree (record { means = all }) in
    let others = frame_elements es grows (omega arith) rest_same rest_agree (record { means = rest }) in
    record {
      cost = c;
      means = (a, b, len, number, subst (λ z. HasWords R s z vs) start here, first.0, others.0, g);
      covers = ap₂ (λ x y. x ++ y) first.1 others.1;
      counts = refl;
      tidy = λ y. (tidy_kept_all S R n s (p + d) ts a grows first_same first_agree all y.0, tidy_kept_elements S R n s (p + d + q) d q es b grows rest_same rest_agree rest y.1);
    }
element_written S R n s p d q (element ws ts es) c (suc i) vs grows l len fits here same h (a, b, long, number, words, all, rest, g) =
    let start : p + suc i * (d + q) ≡ p + d + q + i * (d + q) = omega arith in
    let first_same : SameWords S R s (p + d) (count ts) = λ r v w. same r (omega arith) (omega arith) (inl (omega arith)) in
    let first_agree = agree_left S R (cover_all S s (p + d) ts) (cover_elements S s (p + d + q) d q es) h in
    let first = frame_all ts grows first_same first_agree (record { means = all }) in
    let others = element_written S R n s (p + d + q) d q es b i vs grows (omega arith) len (omega arith) (subst (λ z. HasWords R s z vs) start here)
    (λ r v w f. same r (omega arith) (omega arith) (elim f [
      | inl y ↦ inl (omega arith)
      | inr y ↦ inr (omega arith)
    ])) (agree_right S R (cover_all S s (p + d) ts) (cover_elements S s (p + d + q) d q es) h) rest in
    record {
      cost = a + others.cost;
      means = (a, others.cost, long, number, has_words_kept {ws = ws} s p grows (omega arith) (λ r v w. same r v (omega arith) (inl (omega arith))) words, first.0, others.means, refl);
      covers = ap₂ (λ x y. x ++ y) first.1 others.covers;
      counts = ap suc others.counts;
      tidy = λ y. (tidy_kept_all S R n s (p + d) ts a grows first_same first_agree all y.0, others.tidy y.1);
    }

-- d words of a list's object.
abbrev pub element_words : Target → ℕ → ℕ → ℕ → Interval
element_words a d q i = record { segment = a.segment; start = a.start + 1 + i * (d + q); words = d }

words_in_row : (a : Target) (d q i n v r : ℕ) → i * (d + q) + d ≤ n * (d + q) → times (element_words a d q i ∷ []) v r ≤ times (object_of a (1 + n * (d + q)) ∷ []) v r
words_in_row a d q i n v r l = grind (arith, nat_tests)

not_in_words : (a : Target) (d q i r : ℕ) → (r < a.start + 1 + i * (d + q)) ⊎ (a.start + 1 + i * (d + q) + d ≤ r) → times (element_words a d q i ∷ []) a.segment r ≡ 0
not_in_words a d q i r (inl l) = grind (arith, nat_tests)
not_in_words a d q i r (inr l) = grind (arith, nat_tests)

row_fits : (i n d q : ℕ) → i < n → i * (d + q) + d ≤ n * (d + q)
row_fits i n d q l = grind arith

pub element_data_written : (S R : Segments) (s p d q : ℕ) (es : Elements) (i : ℕ) (vs : List ℕ) → SameLengths S R → IsStored S s p (Structs d q es) → i < element_count es → length vs ≡ d → SameBut S R (element_words (target S s p) d q i) →
    HasWords R (target S s p).segment ((target S s p).start + 1 + i * (d + q)) vs → IsReplaced S R s p (Structs d q es) (Structs d q (put_struct es i (with_data (struct_at es i) vs)))
element_data_written S R s p d q es i vs long a l len but here =
    let m = a.means in
    element_data_written_at S R s p d q es i vs m.0 m.1 long a l len but here m.2
  where
    element_data_written_at : (S R : Segments) (s p d q : ℕ) (es : Elements) (i : ℕ) (vs : List ℕ) (n c : ℕ) → SameLengths S R → IsStored S s p (Structs d q es) → i < element_count es → length vs ≡ d → SameBut S R (element_words (target S s p) d q i) →
        HasWords R (target S s p).segment ((target S s p).start + 1 + i * (d + q)) vs → Means S n s p (Structs d q es) c → IsReplaced S R s p (Structs d q es) (Structs d q (put_struct es i (with_data (struct_at es i) vs)))
    element_data_written_at S R s p d q es i vs n c long x l len but here (a, m, k, some, o, claim, tag, fits, all, g) =
        let grows = same_grows S R long in
        let to_a = ap target_in o.leads_to.1 in
        let width = element_count es * (d + q) in
        let written = put_struct es i (with_data (struct_at es i) vs) in
        let but_a = subst (λ b. SameBut S R (element_words b d q i)) to_a but in
        let here_a = subst (λ b. HasWords R b.segment (b.start + 1 + i * (d + q)) vs) to_a here in
        let part = λ (v r : ℕ). words_in_row a d q i (element_count es) v r (row_fits i (element_count es) d q l) in
        let w = stays S R s p (1 + width) a (element_words a d q i) (λ b. cover_elements S b.segment (b.start + 1) d q es) grows o.leads_to part but_a x.apart in
        let done = element_written S R (pred n) a.segment (a.start + 1) d q es k i vs grows l len (omega arith) here_a (λ r f h z. but_a a.segment r (not_in_words a d q i r z)) w.rest_agrees all in
        let first : word_at R a.segment a.start ≡ word_at S a.segment a.start = but_a a.segment a.start (not_in_words a d q i a.start (inl (omega arith))) in
        same_extent S R s p (Structs d q es) (Structs d q written) n (a.pads + (m + 1) + count_cost (d + q) (element_count written) + done.cost) long x
        (λ v r none. but_a v r (omega (
          arith,
          times-first (word_interval s p) (cover S s p (Structs d q es)) v r,
          times-object S s p (1 + width) a (λ b. cover_elements S b.segment (b.start + 1) d q es) v r o.leads_to.1,
          part v r,
        ))) (
          a,
          m,
          done.cost,
          some,
          list_kept w.leads_to o,
          le_trans claim (grows.words a.segment),
          subst (λ z. IsTag (word_at R a.segment a.start) z d q) (sym done.counts) (subst (λ z. IsTag z (element_count es) d q) (sym first) tag),
          subst (λ z. z * (d + q) ≤ m) (sym done.counts) fits,
          done.means,
          refl,
        )
        (ap (λ z. pads_of (word_at R s p) ++ object_of (target R s p) (1 + z * (d + q)) ∷ cover_elements R (target R s p).segment ((target R s p).start + 1) d q written) done.counts
        ∙ same_cover (λ b. object_of b (1 + width) ∷ cover_elements S b.segment (b.start + 1) d q es) (λ b. object_of b (1 + width) ∷ cover_elements R b.segment (b.start + 1) d q written) (record { grows = grows; same = w.same }) o.leads_to.1 w.leads_to.1 (ap (λ is. object_of a (1 + width) ∷ is) done.covers))
        (at_target S R s p a (λ b. (list_count b.word ≡ width) × AreTidyElements S b.segment (b.start + 1) d q es) (λ b. (list_count b.word ≡ element_count written * (d + q)) × AreTidyElements R b.segment (b.start + 1) d q written)
        o.leads_to.1 w.leads_to.1 (λ f. (f.0 ∙ ap (λ z. z * (d + q)) (sym done.counts), done.tidy f.1)) x.tidy)
