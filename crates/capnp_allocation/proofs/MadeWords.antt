-- New objects: what their words are, and that the place means them.
use Rattle.std.proofs.Common.{◌≡◌, ◌≢◌, inl, inr, ℕ, zero, suc, ◌+◌, ◌-◌, ◌<◌, ◌≤◌, List, [], ◌∷◌, ◌++◌, length, set, replicate, get_or, cond, refl, sym, ap, ◌∙◌, subst, arith, ne_eqb, eq-eqb}
use Rattle.std.proofs.lemmas.List.{length-set, length-append, length-replicate, get_or-set_same, get_or-set_other, get_or_append_left, get_or-append_right, get_or_past}
use Rattle.std.proofs.lemmas.Bool.{cases_lt, cases_eq}
use Rattle.std.proofs.lemmas.Bool.Decides.{nat_tests}
use Rattle.capnp_format.specs.Word.{kind, offset_bits, is_double, upper_half, far_position}
use Rattle.capnp_format.specs.Canonical.{offset_to, Reaches}
use Rattle.capnp_format.specs.Segments.{Segments, segment, word_at}
use Rattle.capnp_format.specs.Means.{Leads}
use Rattle.capnp_format.specs.Forest.{times, pads_of}
use Rattle.capnp_format.proofs.Lies.{reaches_offset, near_leads}
use Rattle.capnp_format.proofs.Following.{IsOffsetTo}
use Rattle.capnp_arena_traits.specs.Taking.{IsTaken, with_another}
use Rattle.capnp_arena_traits.specs.Written.{with_word, extended}
use Rattle.capnp_format.specs.Path.{word_interval}
use Rattle.capnp_allocation.proofs.Leading.{single_far_leads}
use Rattle.capnp_allocation.specs.Zeroed.{row, IsPruned, IsPrunedBut}
use Rattle.capnp_allocation.specs.Made.{IsGrown, IsMade}
use Rattle.capnp_allocation.proofs.Zeros.{there, segment_here, segment_other, word_here, word_other, lengths_kept, in_row, of_row}

zeros_at : (k i : ℕ) → ◌≡◌ {A = ℕ} (get_or (replicate k 0) i 0) 0
zeros_at zero i = refl
zeros_at (suc k) zero = refl
zeros_at (suc k) (suc i) = zeros_at k i

-- Zeros after the words xs.
behind : (xs : List ℕ) (k r : ℕ) → length xs ≤ r → get_or (xs ++ replicate k 0) r 0 ≡ 0
behind xs k r l = get_or-append_right xs (replicate k 0) (length xs) r 0 refl l ∙ zeros_at k (r - length xs)

-- n words more at the end of a segment.
pub extended_grown : (S : Segments) (s n : ℕ) → s < length S → IsGrown S (extended S s (replicate n 0)) s (length (segment S s)) n
extended_grown S s n l =
    let W = segment S s in
    let zs : List ℕ = replicate n 0 in
    let long : length (W ++ zs) ≡ length W + n = length-append W zs ∙ ap (λ k. length W + k) (length-replicate n 0) in
    record {
      grows = record {
        segments = omega (arith, length-set S s (W ++ zs));
        words = λ v. elim (cases_eq v s) [
          | inl e ↦ rw e (omega (arith, ap length (segment_here S s (W ++ zs) l), long))
          | inr e ↦ omega (arith, ap length (segment_other S s v (W ++ zs) e))
        ];
      };
      behind = omega arith;
      room = omega (arith, ap length (segment_here S s (W ++ zs) l), long);
      exists = omega (arith, length-set S s (W ++ zs));
      kept = λ v r m. elim (cases_eq v s) [
        | inl e ↦ rw e (word_here S s r (W ++ zs) l ∙ get_or_append_left W zs 0 r (rw e at m))
        | inr e ↦ word_other S s v r (W ++ zs) e
      ];
      zero = λ v r m. elim (cases_eq v s) [
        | inl e ↦ rw e (word_here S s r (W ++ zs) l ∙ behind W n r (rw e at m))
        | inr e ↦ word_other S s v r (W ++ zs) e ∙ get_or_past (segment S v) r 0 m
      ];
    }

-- A new segment after the others.
pub another_grown : (S : Segments) (n : ℕ) → IsGrown S (with_another S n) (length S) 0 n
another_grown S n =
    let zs : List ℕ = replicate n 0 in
    let long : length (with_another S n) ≡ length S + 1 = length-append S (zs ∷ []) in
    let old : (v : ℕ) → v < length S → segment (with_another S n) v ≡ segment S v = λ v l. get_or_append_left S (zs ∷ []) [] v l in
    let new : segment (with_another S n) (length S) ≡ zs = get_or-append_right S (zs ∷ []) (length S) (length S) [] refl (omega arith) ∙ ap (λ i. get_or (zs ∷ []) i []) (let e : length S - length S ≡ 0 = omega arith in e) in
    let past : (v : ℕ) → length S ≤ v → segment S v ≡ [] = λ v l. get_or_past S v [] l in
    record {
      grows = record {
        segments = omega (arith, long);
        words = λ v. elim (cases_lt v (length S)) [
          | inl l ↦ omega (arith, ap length (old v l))
          | inr l ↦ omega (arith, ap length (past v l))
        ];
      };
      behind = omega (arith, ap length (past (length S) (omega arith)));
      room = omega (arith, ap length new, length-replicate {A = ℕ} n 0);
      exists = omega (arith, long);
      kept = λ v r m. elim (cases_lt v (length S)) [
        | inl l ↦ ap (λ xs. get_or xs r 0) (old v l)
        | inr l ↦ absurd (omega (arith, ap length (past v l)))
      ];
      zero = λ v r m. elim (cases_lt v (length S)) [
        | inl l ↦ ap (λ xs. get_or xs r 0) (old v l) ∙ get_or_past (segment S v) r 0 m
        | inr l ↦ elim (cases_eq v (length S)) [
          | inl e ↦ rw e (ap (λ xs. get_or xs r 0) new ∙ zeros_at n r)
          | inr e ↦ ap (λ xs. get_or xs r 0) (get_or_past (with_another S n) v [] (omega (arith, long)))
        ]
      ];
    }

pub taken_grown : (S T : Segments) (n s p : ℕ) → IsTaken S T n s p → IsGrown S T s p n
taken_grown S T n s p (inl (l, e, f)) = rw (e, f) (extended_grown S s n l)
taken_grown S T n s p (inr (l, e, f)) = rw (l, e, f) (another_grown S n)

-- One word is written.
pub record IsPut (S R : Segments) (s p x : ℕ) : Type 0 where
  pub segments : length R ≡ length S
  pub words : (v : ℕ) → length (segment R v) ≡ length (segment S v)
  pub here : word_at R s p ≡ x
  pub kept : (v r : ℕ) → times (word_interval s p ∷ []) v r ≡ 0 → word_at R v r ≡ word_at S v r

pub word_put : (S R : Segments) (s p x : ℕ) → p < length (segment S s) → R ≡ with_word S s p x → IsPut S R s p x
word_put S R s p x l e =
    let W = segment S s in
    let ok : s < length S = there S s p l in
    let made : List ℕ = set W p x in
    subst (λ T. IsPut S T s p x) (sym e) (record {
      segments = length-set S s made;
      words = lengths_kept S s made (length-set W p x);
      here = word_here S s p made ok ∙ get_or-set_same W p x 0 l;
      kept = λ v r h. elim (cases_eq v s) [
        | inl f ↦ ap (λ u. word_at (with_word S s p x) u r) f ∙ word_here S s r made ok ∙ get_or-set_other W p r x 0 (λ g. omega (arith, of_row s p 1 r (omega arith) (omega arith), ap (λ u. times (word_interval s p ∷ []) u r) f)) ∙ ap (λ u. word_at S u r) (sym f)
        | inr f ↦ word_other S s v r made f
      ];
    })

-- First words are zeroed, and then one word is written.
pub pruned_but : (S M R : Segments) (s p x : ℕ) → IsPruned S M → IsPut M R s p x → IsPrunedBut S R s p x
pruned_but S M R s p x pruned put = record {
  segments = put.segments ∙ pruned.segments;
  words = λ v. put.words v ∙ pruned.words v;
  here = put.here;
  only = λ v r other. elim (pruned.only v r) [
    | inl same ↦ inl (put.kept v r other ∙ same)
    | inr zeroed ↦ inr (put.kept v r other ∙ zeroed)
  ];
}

pub not_far : (x : ℕ) → kind x ≢ 2 → pads_of x ≡ []
not_far x n = ap (λ b. cond b (record { segment = upper_half x; start = far_position x; words = 1 + is_double x } ∷ []) []) (ne_eqb (kind x) 2 n)

pub is_far : (x : ℕ) → kind x ≡ 2 → pads_of x ≡ record { segment = upper_half x; start = far_position x; words = 1 + is_double x } ∷ []
is_far x n = ap (λ b. cond b (record { segment = upper_half x; start = far_position x; words = 1 + is_double x } ∷ []) []) (eq-eqb (kind x) 2 n)

pub outside : (s p v r : ℕ) → (v ≡ s → r ≡ p → ⊥) → times (word_interval s p ∷ []) v r ≡ 0
outside s p v r h = elim (cases_eq (times (word_interval s p ∷ []) v r) 0) [
  | inl e ↦ e
  | inr e ↦ (let i = in_row s p 1 v r (omega arith) in absurd (h i.0 (omega (arith, i.1, i.2))))
]

pub once_row : (s p n v r : ℕ) → times (row s p n ∷ []) v r ≤ 1
once_row s p n v r = grind (arith, nat_tests)

-- Words are allocated after those of the pointer's segment, and a near pointer is written.
pub made_near : (S T R : Segments) (s p n x : ℕ) → p < length (segment S s) → IsGrown S T s (length (segment S s)) n → R ≡ with_word T s p x → x ≢ 0 → kind x ≢ 2 → Reaches p (length (segment S s)) → offset_bits x ≡ offset_to p (length (segment S s)) →
    IsMade S R s p (record { word = x; segment = s; start = length (segment S s); pads = 0 }) n
made_near S T R s p n x place g e some near reaches off =
    let b = length (segment S s) in
    let put = word_put T R s p x (omega (arith, g.grows.words s)) e in
    let none : pads_of (word_at R s p) ≡ [] = ap pads_of put.here ∙ not_far x near in
    let offset : IsOffsetTo p (offset_bits x) b = subst (λ o. IsOffsetTo p o b) (sym off) (reaches_offset p b reaches) in
    let leads_there = near_leads {S = R} {s = s} {p = p} {x = x} {h = b} put.here near some (record { inside = omega (arith, g.room, put.words s); offset = offset }) in
    let all : (v r : ℕ) → times (pads_of (word_at R s p) ++ row s b n ∷ []) v r ≡ times (row s b n ∷ []) v r = λ v r. ap (λ js. times (js ++ row s b n ∷ []) v r) none in
    record {
      grows = record { segments = omega (arith, g.grows.segments, put.segments); words = λ v. omega (arith, g.grows.words v, put.words v) };
      leads_there = leads_there;
      exists = omega (arith, g.exists, put.segments);
      claims = omega (arith, g.room, put.words s);
      once = λ v r. omega (arith, all v r, once_row s b n v r);
      fresh = λ v r l. let i = in_row s b n v r (omega (arith, all v r)) in (subst (λ u. length (segment S u) ≤ r) (sym i.0) i.1, subst (λ u. r < length (segment R u)) (sym i.0) (omega (arith, i.2, g.room, put.words s)));
      kept = λ v r h l. put.kept v r h ∙ g.kept v r l;
      zero = λ v r h l. put.kept v r (outside s p v r (λ f k. omega (arith, subst (λ u. length (segment S u) ≤ r) f l))) ∙ g.zero v r l;
    }

-- Words and a pad before them are allocated anywhere, and a far pointer is written.
pub made_far : (S T U R : Segments) (s p k q n x f : ℕ) → p < length (segment S s) → IsGrown S T k q (n + 1) → U ≡ with_word T k q x → R ≡ with_word U s p f → kind x ≢ 2 → Reaches q (q + 1) → offset_bits x ≡ offset_to q (q + 1) →
    kind f ≡ 2 → is_double f ≡ 0 → far_position f ≡ q → upper_half f ≡ k → IsMade S R s p (record { word = x; segment = k; start = q + 1; pads = 1 }) n
made_far S T U R s p k q n x f place g e h near reaches off far single at to =
    let pad = word_put T U k q x (omega (arith, g.room)) e in
    let put = word_put U R s p f (omega (arith, g.grows.words s, pad.words s)) h in
    let other : times (word_interval s p ∷ []) k q ≡ 0 = outside s p k q (λ u w. omega (arith, g.behind, subst (λ z. p < length (segment S z)) (sym u) place)) in
    let there_x : word_at R k q ≡ x = put.kept k q other ∙ pad.here in
    let one : pads_of (word_at R s p) ≡ row k q 1 ∷ [] = ap pads_of put.here ∙ is_far f far ∙ rw (at, to, single) refl in
    let offset : IsOffsetTo q (offset_bits x) (q + 1) = subst (λ o. IsOffsetTo q o (q + 1)) (sym off) (reaches_offset q (q + 1) reaches) in
    let long : q + (n + 1) ≤ length (segment R k) = omega (arith, g.room, pad.words k, put.words k) in
    let leads_there = single_far_leads R s p f k q (q + 1) put.here far single to at (omega arith) (λ z. near (ap kind (sym there_x) ∙ z)) (omega arith) (subst (λ y. IsOffsetTo q (offset_bits y) (q + 1)) (sym there_x) offset) in
    let all : (v r : ℕ) → times (pads_of (word_at R s p) ++ row k (q + 1) n ∷ []) v r ≡ times (row k q (1 + n) ∷ []) v r = λ v r. ap (λ js. times (js ++ row k (q + 1) n ∷ []) v r) one ∙ both k q n v r in
    record {
      grows = record { segments = omega (arith, g.grows.segments, pad.segments, put.segments); words = λ v. omega (arith, g.grows.words v, pad.words v, put.words v) };
      leads_there = subst (λ y. Leads R s p (record { word = y; segment = k; start = q + 1; pads = 1 })) there_x leads_there;
      exists = omega (arith, g.exists, pad.segments, put.segments);
      claims = omega (arith, long);
      once = λ v r. omega (arith, all v r, once_row k q (1 + n) v r);
      fresh = λ v r l. let i = in_row k q (1 + n) v r (omega (arith, all v r)) in (subst (λ u. length (segment S u) ≤ r) (sym i.0) (omega (arith, i.1, g.behind)), subst (λ u. r < length (segment R u)) (sym i.0) (omega (arith, i.2, long)));
      kept = λ v r w l. put.kept v r w ∙ pad.kept v r (outside k q v r (λ y z. omega (arith, g.behind, subst (λ u. r < length (segment S u)) y l))) ∙ g.kept v r l;
      zero = λ v r w l. put.kept v r (outside s p v r (λ y z. omega (arith, subst (λ u. length (segment S u) ≤ r) y l))) ∙ pad.kept v r (let j = ap (λ js. times js v r) one in omega (arith, j)) ∙ g.zero v r l;
    }
  where
    both : (k q n v r : ℕ) → times (row k q 1 ∷ row k (q + 1) n ∷ []) v r ≡ times (row k q (1 + n) ∷ []) v r
    both k q n v r = grind (arith, nat_tests)
