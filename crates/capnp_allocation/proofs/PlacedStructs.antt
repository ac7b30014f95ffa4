-- New capabilities and lists of structs are stored.
use Rattle.std.proofs.Common.{◌≡◌, ◌≢◌, inl, ℕ, zero, suc, ◌+◌, ◌*◌, ◌<◌, ◌≤◌, [], ◌∷◌, ◌++◌, length, refl, sym, ap, ap₂, ◌∙◌, subst, le_of_eq, arith}
use Rattle.std.proofs.lemmas.List.{length-replicate, get_or_past}
use Rattle.capnp_format.specs.Word.{kind, element_size, list_count, offset_bits, capability_word}
use Rattle.capnp_format.specs.Segments.{Segments, Grows, segment, word_at, words_at, Target}
use Rattle.capnp_format.specs.Tree.{Null, Capability, Structs, Elements, element_count}
use Rattle.capnp_format.specs.Means.{Leads, Means, MeansElements, IsTag, count_cost}
use Rattle.capnp_format.specs.Forest.{times, pads_of, object_of, target, target_in, cover, cover_elements, IsTidy, AreTidyElements}
use Rattle.capnp_format.proofs.Frame.{Agree, times-append, leads_agree}
use Rattle.capnp_arena_traits.specs.Written.{with_word}
use Rattle.capnp_format.specs.Path.{word_interval}
use Rattle.capnp_allocation.specs.Stored.{IsReplaced}
use Rattle.capnp_allocation.specs.Made.{IsMade, words_of_zero, zero_elements}
use Rattle.capnp_format.proofs.Lies.{near_leads}
use Rattle.capnp_allocation.proofs.MadeWords.{IsPut, word_put, not_far, outside}
use Rattle.capnp_allocation.proofs.Placed.{new_zero, zeros_stand, count-nulls, nulls_mean, nulls_tidy, nulls_cover}
use Rattle.capnp_allocation.proofs.Replaced.{placed}
use Rattle.capnp_allocation.proofs.Zeros.{of_row}

capability_fields : (x i : ℕ) → x ≡ capability_word i → (x ≢ 0) × (kind x ≡ 3) × (offset_bits x ≡ 0)
capability_fields x i e = (λ z. omega arith, omega arith, omega arith)

-- A capability's word is written over a null pointer.
pub capability_made : (S R : Segments) (s p i : ℕ) → p < length (segment S s) → R ≡ with_word S s p (capability_word i) → IsReplaced S R s p Null (Capability i)
capability_made S R s p i place e =
    let put = word_put S R s p (capability_word i) place e in
    let x = word_at R s p in
    let (some, k, bits) = capability_fields x i put.here in
    let l = near_leads {S = R} {s = s} {p = p} {x = x} {h = p + 1} refl (λ z. let far : kind x ≡ 2 = z in omega (arith, k, far)) some (record { inside = omega (arith, put.words s); offset = inl (omega arith, omega arith) }) in
    let none : (v r : ℕ) → times (cover R s p (Capability i)) v r ≡ 0 = λ v r. ap (λ is. times is v r) (not_far x (λ z. omega arith)) in
    let grows : Grows S R = record { segments = le_of_eq (sym put.segments); words = λ v. le_of_eq (sym (put.words v)) } in
    placed S R s p (Capability i) 0 0 grows place (record { word = x; segment = s; start = p + 1; pads = 0 }, l, put.here, refl) tt (λ v r. omega (arith, none v r)) (λ v r l. absurd (omega (arith, none v r)))
    (λ v r h l. put.kept v r h) (λ v r h l. get_or_past (segment R v) r 0 (omega (arith, put.words v)))

pub count-zero_elements : (d q n : ℕ) → element_count (zero_elements d q n) ≡ n
count-zero_elements d q zero = refl
count-zero_elements d q (suc n) = ap suc (count-zero_elements d q n)

zero_elements_mean : (R : Segments) (n s p d q k : ℕ) → p + k * (d + q) ≤ length (segment R s) → ((r : ℕ) → p ≤ r → r < p + k * (d + q) → word_at R s r ≡ 0) → MeansElements R n s p d q (zero_elements d q k) 0
zero_elements_mean R n s p d q zero fits h = refl
zero_elements_mean R n s p d q (suc k) fits h =
    let ld : length (words_of_zero d) ≡ d = length-replicate {A = ℕ} d 0 in
    let row : (suc k) * (d + q) ≡ d + q + k * (d + q) = omega arith in (
      0,
      0,
      ld,
      count-nulls q,
      ap (words_at R s p) ld ∙ zeros_stand R s p d (λ r x y. h r x (omega (arith, row))) (omega (arith, row)),
      nulls_mean R n s (p + d) q (λ r x y. h r (omega arith) (omega (arith, row))),
      zero_elements_mean R n s (p + d + q) d q k (omega (arith, row)) (λ r x y. h r (omega arith) (omega (arith, row))),
      refl,
    )

zero_elements_tidy : (R : Segments) (s p d q k : ℕ) → AreTidyElements R s p d q (zero_elements d q k)
zero_elements_tidy R s p d q zero = tt
zero_elements_tidy R s p d q (suc k) = (nulls_tidy R s (p + d) q, zero_elements_tidy R s (p + d + q) d q k)

zero_elements_cover : (R : Segments) (s p d q k : ℕ) → cover_elements R s p d q (zero_elements d q k) ≡ []
zero_elements_cover R s p d q zero = refl
zero_elements_cover R s p d q (suc k) = ap₂ (λ is js. is ++ js) (nulls_cover R s (p + d) q) (zero_elements_cover R s (p + d + q) d q k)

-- From S to M a list of structs is made, without its tag, which is written from M to R.
pub record IsListMade (S M : Segments) (s p : ℕ) (a : Target) (w : ℕ) : Type 0 where
  pub made : IsMade S M s p a (1 + w)
  pub is_list : kind a.word ≡ 1
  pub is_size : element_size a.word ≡ 7
  pub counts : list_count a.word ≡ w

-- The first word of a new object is new, and isn't a pad.
first_is_new : (S M : Segments) (s p w : ℕ) (a : Target) → IsMade S M s p a (1 + w) → (length (segment S a.segment) ≤ a.start) × (times (pads_of (word_at M s p)) a.segment a.start ≡ 0)
first_is_new S M s p w a m =
    let parts = times-append (pads_of (word_at M s p)) (object_of a (1 + w) ∷ []) a.segment a.start in
    let first : times (object_of a (1 + w) ∷ []) a.segment a.start ≡ 1 = of_row a.segment a.start (1 + w) a.start (omega arith) (omega arith) in
    ((m.fresh a.segment a.start (omega (arith, parts, first))).0, omega (arith, m.once a.segment a.start, parts, first))

-- The pointer still leads there when that word is written.
still_leads : (S M R : Segments) (s p w x : ℕ) (a : Target) → p < length (segment S s) → IsMade S M s p a (1 + w) → IsPut M R a.segment a.start x → (word_at R s p ≡ word_at M s p) × Leads R s p a
still_leads S M R s p w x a place m put =
    let (new, no_pad) = first_is_new S M s p w a m in
    let same : word_at R s p ≡ word_at M s p = put.kept s p (outside a.segment a.start s p (λ f g. omega (arith, place, new, subst (λ u. p < length (segment S u)) f place))) in
    let grown : Grows M R = record { segments = le_of_eq (sym put.segments); words = λ v. le_of_eq (sym (put.words v)) } in
    let pads : Agree M R (pads_of (word_at M s p)) = λ v r l. put.kept v r (outside a.segment a.start v r (λ f g. omega (arith, no_pad, l, ap₂ (times (pads_of (word_at M s p))) f g))) in
    (same, leads_agree (record { grows = grown; same = same }) pads m.leads_there)

pub structs_lead : (S M R : Segments) (s p w x : ℕ) (a : Target) → p < length (segment S s) → IsMade S M s p a (1 + w) → R ≡ with_word M a.segment a.start x → target R s p ≡ a
structs_lead S M R s p w x a place m e = ap target_in (still_leads S M R s p w x a place m (word_put M R a.segment a.start x (omega (arith, m.claims)) e)).1.1

-- A new list of structs.
pub structs_made : (S M R : Segments) (s p d q n x : ℕ) (a : Target) → p < length (segment S s) → IsListMade S M s p a (n * (d + q)) → IsTag x n d q → R ≡ with_word M a.segment a.start x →
    IsReplaced S R s p Null (Structs d q (zero_elements d q n))
structs_made S M R s p d q n x a place list tag e =
    let w = n * (d + q) in
    let es : Elements = zero_elements d q n in
    let m = list.made in
    let put = word_put M R a.segment a.start x (omega (arith, m.claims)) e in
    let parts = λ (v r : ℕ). times-append (pads_of (word_at M s p)) (object_of a (1 + w) ∷ []) v r in
    let first : times (object_of a (1 + w) ∷ []) a.segment a.start ≡ 1 = of_row a.segment a.start (1 + w) a.start (omega arith) (omega arith) in
    let new : length (segment S a.segment) ≤ a.start = (m.fresh a.segment a.start (omega (arith, parts a.segment a.start, first))).0 in
    let other : (v r : ℕ) → r < length (segment S v) → times (word_interval a.segment a.start ∷ []) v r ≡ 0 = λ v r l. outside a.segment a.start v r (λ f g. omega (arith, subst (λ u. r < length (segment S u)) f l)) in
    let (same, there) = still_leads S M R s p w x a place m put in
    let le : element_count es ≡ n = count-zero_elements d q n in
    let lw : element_count es * (d + q) ≡ w = ap (λ k. k * (d + q)) le in
    let zero_here : (r : ℕ) → a.start + 1 ≤ r → r < a.start + 1 + w → word_at R a.segment r ≡ 0 =
    λ r y z. put.kept a.segment r (outside a.segment a.start a.segment r (λ f g. omega arith)) ∙ new_zero S M s p a (1 + w) m r (omega arith) (omega arith) in
    let covers : cover R s p (Structs d q es) ≡ pads_of (word_at M s p) ++ object_of a (1 + w) ∷ [] =
    ap (λ b. pads_of (word_at R s p) ++ object_of b (1 + element_count es * (d + q)) ∷ cover_elements R b.segment (b.start + 1) d q es) (ap target_in there.1)
    ∙ ap₂ (λ k js. pads_of (word_at R s p) ++ object_of a (1 + k) ∷ js) lw (zero_elements_cover R a.segment (a.start + 1) d q n)
    ∙ ap (λ y. pads_of y ++ object_of a (1 + w) ∷ []) same in
    let held : (v r : ℕ) → times (cover R s p (Structs d q es)) v r ≡ times (pads_of (word_at M s p) ++ object_of a (1 + w) ∷ []) v r = λ v r. ap (λ js. times js v r) covers in
    let c : ℕ = a.pads + (w + 1) + count_cost (d + q) (element_count es) + 0 in
    let means : Means R 1 s p (Structs d q es) c = (
      a,
      w,
      0,
      omega arith,
      record { leads_to = there; is_list = list.is_list; is_size = list.is_size; counts = list.counts },
      omega (arith, m.claims, put.words a.segment),
      subst (λ y. IsTag y (element_count es) d q) (sym put.here) (subst (λ k. IsTag x k d q) (sym le) tag),
      le_of_eq lw,
      zero_elements_mean R 0 a.segment (a.start + 1) d q n (omega (arith, m.claims, put.words a.segment)) zero_here,
      refl,
    ) in
    let tidy : IsTidy R s p (Structs d q es) = subst (λ b. (list_count b.word ≡ element_count es * (d + q)) × AreTidyElements R b.segment (b.start + 1) d q es) (sym (ap target_in there.1))
    (list.counts ∙ sym lw, zero_elements_tidy R a.segment (a.start + 1) d q n) in
    placed S R s p (Structs d q es) 1 c (record { segments = omega (arith, m.grows.segments, put.segments); words = λ v. omega (arith, m.grows.words v, put.words v) }) place means tidy
    (λ v r. omega (arith, held v r, m.once v r))
    (λ v r l. let f = m.fresh v r (omega (arith, held v r)) in (f.0, omega (arith, f.1, put.words v)))
    (λ v r h l. put.kept v r (other v r l) ∙ m.kept v r h l)
    (λ v r none l. put.kept v r (outside a.segment a.start v r (λ f g. omega (arith, held v r, parts v r, first, ap₂ (λ y z. times (object_of a (1 + w) ∷ []) y z) f g))) ∙ m.zero v r (omega (arith, held v r, parts v r)) l)
