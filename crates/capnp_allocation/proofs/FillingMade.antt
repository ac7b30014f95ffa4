-- Objects that are made, all zero, and then filled.
use Rattle.std.proofs.Common.{◌≡◌, inl, inr, ℕ, zero, suc, ◌+◌, ◌-◌, ◌*◌, ◌^◌, ◌<◌, ◌≤◌, List, [], ◌∷◌, length, drop, get_or, refl, sym, ap, ◌∙◌, subst, le_of_eq, arith, get_or-take, get_or-drop}
use Rattle.std.proofs.lemmas.List.{length-replicate}
use Rattle.std.proofs.lemmas.Bool.Decides.{nat_tests}
use Rattle.std.proofs.lemmas.Bool.{cases_lt}
use Rattle.capnp_format.specs.Numbers.{words_for, packed, element_bits}
use Rattle.capnp_format.specs.Value.{AreBelow}
use Rattle.capnp_format.specs.Segments.{Segments, segment, word_at, HasWords, Target}
use Rattle.capnp_format.specs.Tree.{Tree, Null, Struct, Flat, Pointers, Structs, Trees, Elements, count, element_count}
use Rattle.capnp_format.specs.Means.{Leads, MeansAll, MeansElements}
use Rattle.capnp_format.specs.Forest.{times, target, target_in}
use Rattle.capnp_format.proofs.Digits.{length-digits}
use Rattle.capnp_arena_traits.specs.Written.{with_words}
use Rattle.capnp_allocation.specs.Filled.{AreFilled, AreElementsFilled, ArePartlyFilled}
use Rattle.capnp_allocation.specs.Made.{LeadsToStart, words_of_zero, nulls, zero_elements}
use Rattle.capnp_format.specs.Path.{Child, Element, word_interval}
use Rattle.capnp_allocation.specs.Stored.{IsStored, IsReplaced}
use Rattle.capnp_allocation.specs.Zeroed.{row}
use Rattle.capnp_arena_traits.specs.declared.arena.WordPlace.{WordPlace}
use Rattle.capnp_allocation.proofs.Filling.{holder_filled, pointers_holder, struct_holder, put_from, put_all}
use Rattle.capnp_allocation.proofs.FillingElements.{struct_written, elements_full, elements_partly}
use Rattle.capnp_allocation.proofs.Replaced.{replaced_again}
use Rattle.capnp_allocation.proofs.WordsPut.{ArePut, words_put}
use Rattle.capnp_allocation.proofs.Written.{flat_written}
use Rattle.capnp_allocation.proofs.Zeros.{in_row}

-- A null pointer is stored.
pub null_stored : (S : Segments) (s p : ℕ) → p < length (segment S s) → word_at S s p ≡ 0 → IsStored S s p Null
null_stored S s p place none = record {
  means = (0, 0, (none, refl));
  apart = λ v r. once v r;
  inside = λ v r l. (let f = in_row s p 1 v r l in subst (λ u. r < length (segment S u)) (sym f.0) (omega (arith, f.1, f.2)));
  tidy = tt;
}
  where
    once : (v r : ℕ) → times (word_interval s p ∷ []) v r ≤ 1
    once v r = grind (arith, nat_tests)

-- From S to M an object of n words is made, which starts at h: the place holds t.
pub record IsBegun (S M : Segments) (s p n : ℕ) (h : WordPlace) (t : Tree) : Type 0 where
  pub made : IsReplaced S M s p Null t
  pub start : LeadsToStart M s p h
  pub inside : (h.segment < length M) × (h.at + n ≤ length (segment M h.segment))

leads_of : (S : Segments) (s p : ℕ) (a : Target) → Leads S s p a → Leads S s p (target S s p)
leads_of S s p a l = subst (Leads S s p) (sym (ap target_in l.1)) l

struct_leads : (S : Segments) (s p : ℕ) (ws : List ℕ) (ts : Trees) → IsStored S s p (Struct ws ts) → Leads S s p (target S s p)
struct_leads S s p ws ts y = let (n, c, (a, k, some, o, claim, e, all, g)) = y.means in leads_of S s p a o.leads_to

pointers_lead : (S : Segments) (s p : ℕ) (ts : Trees) → IsStored S s p (Pointers ts) → Leads S s p (target S s p)
pointers_lead S s p ts y = let (n, c, (a, k, some, o, claim, all, g)) = y.means in leads_of S s p a o.leads_to

pub structs_lead : (S : Segments) (s p d q : ℕ) (es : Elements) → IsStored S s p (Structs d q es) → Leads S s p (target S s p)
structs_lead S s p d q es y = let (n, c, (a, m, k, some, o, claim, tag, fits, all, g)) = y.means in leads_of S s p a o.leads_to

nulls_zero : (S : Segments) (n s p q c i : ℕ) → MeansAll S n s p (nulls q) c → i < q → word_at S s (p + i) ≡ 0
nulls_zero S n s p zero c i h l = absurd (omega arith)
nulls_zero S n s p (suc q) c zero (a, b, one, rest, g) l = ap (word_at S s) (let e : p + 0 ≡ p = omega arith in e) ∙ one.0
nulls_zero S n s p (suc q) c (suc i) (a, b, one, rest, g) l = ap (word_at S s) (let e : p + suc i ≡ p + 1 + i = omega arith in e) ∙ nulls_zero S n s (p + 1) q b i rest (omega arith)

-- The pointers of a struct of zeros and null pointers are null.
struct_nulls : (S : Segments) (s p q : ℕ) (ws : List ℕ) (i : ℕ) → IsStored S s p (Struct ws (nulls q)) → i < q → word_at S (target S s p).segment ((target S s p).start + length ws + i) ≡ 0
struct_nulls S s p q ws i y l = let (n, c, (a, k, some, o, claim, e, all, g)) = y.means in
    subst (λ b. word_at S b.segment (b.start + length ws + i) ≡ 0) (sym (ap target_in o.leads_to.1)) (nulls_zero S _ a.segment (a.start + length ws) q k i all l)

pointers_nulls : (S : Segments) (s p q i : ℕ) → IsStored S s p (Pointers (nulls q)) → i < q → word_at S (target S s p).segment ((target S s p).start + i) ≡ 0
pointers_nulls S s p q i y l = let (n, c, (a, k, some, o, claim, all, g)) = y.means in
    subst (λ b. word_at S b.segment (b.start + i) ≡ 0) (sym (ap target_in o.leads_to.1)) (nulls_zero S _ a.segment a.start q k i all l)

zeros_zero : (S : Segments) (s p d i : ℕ) → HasWords S s p (words_of_zero d) → i < d → word_at S s (p + i) ≡ 0
zeros_zero S s p d i h l =
    let ld : length (words_of_zero d) ≡ d = length-replicate {A = ℕ} d 0 in
    sym (get_or-drop p (segment S s) i 0) ∙ sym (get_or-take (length (words_of_zero d)) (drop p (segment S s)) i 0 (omega arith)) ∙ ap (λ ws. get_or ws i 0) h ∙ zero_of d i
  where
    zero_of : (d i : ℕ) → get_or (words_of_zero d) i 0 ≡ 0
    zero_of zero i = refl
    zero_of (suc d) zero = refl
    zero_of (suc d) (suc i) = zero_of d i

elements_zero : (S : Segments) (n s p d q k c i : ℕ) → MeansElements S n s p d q (zero_elements d q k) c → i < k * (d + q) → word_at S s (p + i) ≡ 0
elements_zero S n s p d q zero c i h l = absurd (omega arith)
elements_zero S n s p d q (suc k) c i (a, b, long, len, words, all, rest, g) l =
    let wide : suc k * (d + q) ≡ d + q + k * (d + q) = grind arith in
    elim (cases_lt i d) [
      | inl m ↦ zeros_zero S s p d i words m
      | inr m ↦ elim (cases_lt i (d + q)) [
        | inl m' ↦ ap (word_at S s) (let e : p + i ≡ p + d + (i - d) = omega arith in e) ∙ nulls_zero S n s (p + d) q a (i - d) all (omega arith)
        | inr m' ↦ ap (word_at S s) (let e : p + i ≡ p + d + q + (i - (d + q)) = omega arith in e) ∙ elements_zero S n s (p + d + q) d q k b (i - (d + q)) rest (omega (arith, wide))
      ]
    ]

structs_zero : (S : Segments) (s p d q k i : ℕ) → IsStored S s p (Structs d q (zero_elements d q k)) → i < k * (d + q) → word_at S (target S s p).segment ((target S s p).start + 1 + i) ≡ 0
structs_zero S s p d q k i y l = let (n, c, (a, m, j, some, o, claim, tag, fits, all, g)) = y.means in
    subst (λ b. word_at S b.segment (b.start + 1 + i) ≡ 0) (sym (ap target_in o.leads_to.1)) (elements_zero S _ a.segment (a.start + 1) d q k j i all l)

-- A struct: it is begun, its data words are written, and then its pointers are filled.

pub struct_ready : (S M T : Segments) (s p q : ℕ) (h : WordPlace) (ws : List ℕ) → IsBegun S M s p (length ws + q) h (Struct (words_of_zero (length ws)) (nulls q)) → T ≡ with_words M h.segment h.at ws →
    (h.at + length ws + q ≤ length (segment T h.segment)) × ((i : ℕ) → i < q → word_at T h.segment (h.at + length ws + i) ≡ 0)
struct_ready S M T s p q h ws b e =
    let ld : length (words_of_zero (length ws)) ≡ length ws = length-replicate {A = ℕ} (length ws) 0 in
    let laid = words_put M T h.segment h.at ws (omega (arith, b.inside.1)) e in
    let null : (i : ℕ) → i < q → word_at M h.segment (h.at + length ws + i) ≡ 0 = λ i l. rw (b.start.0, b.start.1, sym ld) (struct_nulls M s p q (words_of_zero (length ws)) i b.made.stored l) in
    (omega (arith, b.inside.1, laid.long.words h.segment), λ i l. laid.kept h.segment (h.at + length ws + i) (past_row h.segment h.at (length ws) (h.at + length ws + i) (omega arith)) ∙ null i l)
  where
    past_row : (s p n r : ℕ) → p + n ≤ r → times (row s p n ∷ []) s r ≡ 0
    past_row s p n r l = grind (arith, nat_tests)

pub struct_done : (S M T R : Segments) (s p q : ℕ) (h : WordPlace) (ws : List ℕ) (ts : Trees) → IsBegun S M s p (length ws + q) h (Struct (words_of_zero (length ws)) (nulls q)) → T ≡ with_words M h.segment h.at ws → AreFilled T R h.segment (h.at + length ws) ts → count ts ≤ q →
    IsReplaced S R s p Null (Struct ws (put_from (nulls q) 0 ts))
struct_done S M T R s p q h ws ts b e f few =
    let a = target M s p in
    let zs = words_of_zero (length ws) in
    let laid : ArePut M T a.segment a.start ws = rw (b.start.0, b.start.1) at (words_put M T h.segment h.at ws (omega (arith, b.inside.1)) e) in
    let filled : AreFilled T R a.segment (a.start + length ws) ts = rw (b.start.0, b.start.1) at f in
    let written = struct_written M T s p q a ws (record { stored = b.made.stored; leads = struct_leads M s p zs (nulls q) b.made.stored }) laid in
    let done = holder_filled (Struct ws) (λ i. Child i ∷ []) T R s p q a (a.start + length ws) (length ws + q) ts (struct_holder s p q a ws) (record { stored = written.0.stored; leads = written.1 }) few filled in
    replaced_again S T R s p Null (Struct ws (nulls q)) _ (replaced_again S M T s p Null (Struct zs (nulls q)) _ b.made written.0) done.0

pub struct_whole : (S M T R : Segments) (s p q : ℕ) (h : WordPlace) (ws : List ℕ) (ts : Trees) → IsBegun S M s p (length ws + q) h (Struct (words_of_zero (length ws)) (nulls q)) → T ≡ with_words M h.segment h.at ws → AreFilled T R h.segment (h.at + length ws) ts → count ts ≡ q →
    IsReplaced S R s p Null (Struct ws ts)
struct_whole S M T R s p q h ws ts b e f full =
    subst (λ X. IsReplaced S R s p Null (Struct ws X)) (ap (λ k. put_from (nulls k) 0 ts) (sym full) ∙ put_all ts) (struct_done S M T R s p q h ws ts b e f (le_of_eq full))

-- A list of pointers.

pub pointers_ready : (S M : Segments) (s p q : ℕ) (h : WordPlace) → IsBegun S M s p q h (Pointers (nulls q)) → (i : ℕ) → i < q → word_at M h.segment (h.at + i) ≡ 0
pointers_ready S M s p q h b i l = rw (b.start.0, b.start.1) (pointers_nulls M s p q i b.made.stored l)

pub pointers_done : (S M R : Segments) (s p q : ℕ) (h : WordPlace) (ts : Trees) → IsBegun S M s p q h (Pointers (nulls q)) → AreFilled M R h.segment h.at ts → count ts ≤ q → IsReplaced S R s p Null (Pointers (put_from (nulls q) 0 ts))
pointers_done S M R s p q h ts b f few =
    let a = target M s p in
    let filled : AreFilled M R a.segment a.start ts = rw (b.start.0, b.start.1) at f in
    let done = holder_filled Pointers (λ i. Element i ∷ []) M R s p q a a.start q ts (pointers_holder s p q a) (record { stored = b.made.stored; leads = pointers_lead M s p (nulls q) b.made.stored }) few filled in
    replaced_again S M R s p Null (Pointers (nulls q)) _ b.made done.0

pub pointers_whole : (S M R : Segments) (s p q : ℕ) (h : WordPlace) (ts : Trees) → IsBegun S M s p q h (Pointers (nulls q)) → AreFilled M R h.segment h.at ts → count ts ≡ q → IsReplaced S R s p Null (Pointers ts)
pointers_whole S M R s p q h ts b f full =
    subst (λ X. IsReplaced S R s p Null (Pointers X)) (ap (λ k. put_from (nulls k) 0 ts) (sym full) ∙ put_all ts) (pointers_done S M R s p q h ts b f (le_of_eq full))

-- A list of structs.

pub structs_ready : (S M : Segments) (s p d q n : ℕ) (h : WordPlace) → IsBegun S M s p (1 + n * (d + q)) h (Structs d q (zero_elements d q n)) → (i : ℕ) → i < n * (d + q) → word_at M h.segment (h.at + 1 + i) ≡ 0
structs_ready S M s p d q n h b i l = rw (b.start.0, b.start.1) (structs_zero M s p d q n i b.made.stored l)

pub structs_whole : (S M R : Segments) (s p d q n : ℕ) (h : WordPlace) (es : Elements) → IsBegun S M s p (1 + n * (d + q)) h (Structs d q (zero_elements d q n)) → AreElementsFilled M R h.segment (h.at + 1) d q es → element_count es ≡ n → IsReplaced S R s p Null (Structs d q es)
structs_whole S M R s p d q n h es b f full =
    let a = target M s p in
    let filled : AreElementsFilled M R a.segment (a.start + 1) d q es = rw (b.start.0, b.start.1) at f in
    replaced_again S M R s p Null (Structs d q (zero_elements d q n)) _ b.made (elements_full M R s p d q n a es b.made.stored (structs_lead M s p d q (zero_elements d q n) b.made.stored) full filled)

pub structs_done : (S M R : Segments) (s p d q n : ℕ) (h : WordPlace) → IsBegun S M s p (1 + n * (d + q)) h (Structs d q (zero_elements d q n)) → ArePartlyFilled M R h.segment (h.at + 1) d q n → (t : Tree) × IsReplaced S R s p Null t
structs_done S M R s p d q n h b f =
    let a = target M s p in
    let filled : ArePartlyFilled M R a.segment (a.start + 1) d q n = rw (b.start.0, b.start.1) at f in
    let done = elements_partly M R s p d q n a b.made.stored (structs_lead M s p d q (zero_elements d q n) b.made.stored) filled in
    (done.0, replaced_again S M R s p Null (Structs d q (zero_elements d q n)) _ b.made done.1)

-- A list of numbers.

pub flat_whole : (S M R : Segments) (s p size n : ℕ) (h : WordPlace) (ns : List ℕ) → IsBegun S M s p (words_for size n) h (Flat size (words_of_zero n)) → length ns ≡ n → AreBelow (2 ^ element_bits size) ns → R ≡ with_words M h.segment h.at (packed size ns) → IsReplaced S R s p Null (Flat size ns)
flat_whole S M R s p size n h ns b len small e =
    let a = target M s p in
    let w = words_for size n in
    let lz : length (words_of_zero n) ≡ n = length-replicate {A = ℕ} n 0 in
    let long : length (packed size ns) ≡ w = length-digits _ (words_for size (length ns)) _ ∙ ap (words_for size) len in
    let laid : ArePut M R a.segment a.start (packed size ns) = rw (b.start.0, b.start.1) at (words_put M R h.segment h.at (packed size ns) (omega (arith, b.inside.1, long)) e) in
    replaced_again S M R s p Null (Flat size (words_of_zero n)) _ b.made
    (flat_written M R s p size (words_of_zero n) ns laid.long b.made.stored (len ∙ sym lz) small
    (rw (ap (words_for size) lz, sym long) laid.kept) (rw (ap (words_for size) lz, sym long) laid.here))
