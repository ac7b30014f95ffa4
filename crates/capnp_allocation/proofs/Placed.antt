-- New objects are stored.
use Rattle.std.proofs.Common.{◌≡◌, ◌≢◌, inl, inr, ℕ, zero, suc, ◌+◌, ◌-◌, ◌^◌, ◌<◌, ◌≤◌, [], ◌∷◌, ◌++◌, length, take, drop, refl, sym, ap, ap₂, ◌∙◌, le_of_eq, arith}
use Rattle.std.proofs.lemmas.List.{length-replicate, get_or_past}
use Rattle.std.proofs.Math.Seq.{drop-cons}
use Rattle.std.proofs.lemmas.Bool.{cases_eq}
use Rattle.capnp_format.specs.Word.{kind, data_words, pointer_count, struct_word}
use Rattle.capnp_format.specs.Segments.{Segments, segment, word_at, words_at, Target}
use Rattle.capnp_format.specs.Tree.{Tree, Null, Struct, count}
use Rattle.capnp_format.specs.Means.{Means, MeansAll}
use Rattle.capnp_format.specs.Forest.{times, pads_of, object_of, target, target_in, cover, cover_all, AreTidy}
use Rattle.capnp_format.proofs.Frame.{times-append}
use Rattle.capnp_format.specs.Path.{extent}
use Rattle.capnp_allocation.specs.Stored.{IsStored, IsReplaced}
use Rattle.capnp_allocation.proofs.Replaced.{cleared, placed}
use Rattle.capnp_format.proofs.Lies.{near_leads}
use Rattle.capnp_allocation.specs.Zeroed.{row, IsZeroed, IsApart}
use Rattle.capnp_allocation.specs.Made.{IsMade, words_of_zero, nulls}
use Rattle.capnp_allocation.proofs.MadeWords.{IsPut, not_far}
use Rattle.capnp_allocation.proofs.Zeros.{there, in_row, of_row}

-- What a place holds is zeroed.
pub zeroed_replaced : (S R : Segments) (s p : ℕ) (t : Tree) → ((u : Tree) → IsApart S s p u → IsZeroed S R (extent S s p u)) → IsStored S s p t → IsReplaced S R s p t Null
zeroed_replaced S R s p t h a =
    let z = h t (record { means = a.means; apart = a.apart }) in
    cleared S R s p t z.segments z.words a z.zero z.kept

-- n zero words.
pub zeros_stand : (R : Segments) (s b n : ℕ) → ((r : ℕ) → b ≤ r → r < b + n → word_at R s r ≡ 0) → b + n ≤ length (segment R s) → words_at R s b n ≡ words_of_zero n
zeros_stand R s b zero h l = refl
zeros_stand R s b (suc n) h l =
    let W = segment R s in
    ap (take (suc n)) (drop-cons W b 0 (omega arith)) ∙ ap₂ (λ x xs. x ∷ xs) (h b (omega arith) (omega arith))
    (ap (λ i. take n (drop i W)) (let e : suc b ≡ b + 1 = omega arith in e) ∙ zeros_stand R s (b + 1) n (λ r x y. h r (omega arith) (omega arith)) (omega arith))

-- The words of a new object are zero.
pub new_zero : (S R : Segments) (s p : ℕ) (a : Target) (n : ℕ) → IsMade S R s p a n → (r : ℕ) → a.start ≤ r → r < a.start + n → word_at R a.segment r ≡ 0
new_zero S R s p a n m r l h =
    let one = of_row a.segment a.start n r l h in
    let all = times-append (pads_of (word_at R s p)) (object_of a n ∷ []) a.segment r in
    m.zero a.segment r (omega (arith, one, all, m.once a.segment r)) (m.fresh a.segment r (omega (arith, one, all))).0

pub count-nulls : (n : ℕ) → count (nulls n) ≡ n
count-nulls zero = refl
count-nulls (suc n) = ap suc (count-nulls n)

pub nulls_mean : (R : Segments) (n s b k : ℕ) → ((r : ℕ) → b ≤ r → r < b + k → word_at R s r ≡ 0) → MeansAll R n s b (nulls k) 0
nulls_mean R n s b zero h = refl
nulls_mean R n s b (suc k) h = (0, 0, (h b (omega arith) (omega arith), refl), nulls_mean R n s (b + 1) k (λ r x y. h r (omega arith) (omega arith)), refl)

pub nulls_tidy : (R : Segments) (s b k : ℕ) → AreTidy R s b (nulls k)
nulls_tidy R s b zero = tt
nulls_tidy R s b (suc k) = (tt, nulls_tidy R s (b + 1) k)

pub nulls_cover : (R : Segments) (s b k : ℕ) → cover_all R s b (nulls k) ≡ []
nulls_cover R s b zero = refl
nulls_cover R s b (suc k) = nulls_cover R s (b + 1) k

-- A new struct is stored.
pub struct_made : (S R : Segments) (s p d q : ℕ) (a : Target) → p < length (segment S s) → IsMade S R s p a (d + q) → kind a.word ≡ 0 → data_words a.word ≡ d → pointer_count a.word ≡ q →
    IsReplaced S R s p Null (Struct (words_of_zero d) (nulls q))
struct_made S R s p d q a place m is_struct is_d is_q =
    let ld : length (words_of_zero d) ≡ d = length-replicate {A = ℕ} d 0 in
    let lq : count (nulls q) ≡ q = count-nulls q in
    let zero_here = new_zero S R s p a (d + q) m in
    let here : target R s p ≡ a = ap target_in m.leads_there.1 in
    let covers : cover R s p (Struct (words_of_zero d) (nulls q)) ≡ pads_of (word_at R s p) ++ object_of a (d + q) ∷ [] =
    ap (λ b. pads_of (word_at R s p) ++ object_of b (length (words_of_zero d) + count (nulls q)) ∷ cover_all R b.segment (b.start + length (words_of_zero d)) (nulls q)) here
    ∙ ap₂ (λ n js. pads_of (word_at R s p) ++ object_of a n ∷ js) (ap₂ (λ x y. x + y) ld lq) (nulls_cover R a.segment (a.start + length (words_of_zero d)) q) in
    let same : (v r : ℕ) → times (cover R s p (Struct (words_of_zero d) (nulls q))) v r ≡ times (pads_of (word_at R s p) ++ object_of a (d + q) ∷ []) v r = λ v r. ap (λ js. times js v r) covers in
    let words : words_at R a.segment a.start (length (words_of_zero d)) ≡ words_of_zero d = ap (words_at R a.segment a.start) ld ∙ zeros_stand R a.segment a.start d (λ r x y. zero_here r x (omega arith)) (omega (arith, m.claims)) in
    let means : Means R 1 s p (Struct (words_of_zero d) (nulls q)) (a.pads + (length (words_of_zero d) + count (nulls q)) + 0) = (
      a,
      0,
      omega arith,
      record { leads_to = m.leads_there; is_struct = is_struct; data_of = is_d ∙ sym ld; pointers = is_q ∙ sym lq },
      omega (arith, m.claims, ld, lq),
      words,
      nulls_mean R 0 a.segment (a.start + length (words_of_zero d)) q (λ r x y. zero_here r (omega arith) (omega (arith, ld))),
      refl,
    ) in
    placed S R s p (Struct (words_of_zero d) (nulls q)) 1 (a.pads + (length (words_of_zero d) + count (nulls q)) + 0) m.grows place means (nulls_tidy R (target R s p).segment ((target R s p).start + length (words_of_zero d)) q)
    (λ v r. omega (arith, same v r, m.once v r)) (λ v r l. m.fresh v r (omega (arith, same v r))) m.kept
    (λ v r none l. m.zero v r (omega (arith, same v r, times-append (pads_of (word_at R s p)) (object_of a (d + q) ∷ []) v r)) l)

-- The empty struct, which takes no words.
pub empty_made : (S R : Segments) (s p x : ℕ) → p < length (segment S s) → IsPut S R s p x → x ≡ struct_word (2 ^ 30 - 1) 0 0 → IsMade S R s p (record { word = x; segment = s; start = p; pads = 0 }) (0 + 0)
empty_made S R s p x place put e =
    let some : x ≢ 0 = λ z. omega arith in
    let near : kind x ≢ 2 = λ z. omega arith in
    let none : pads_of (word_at R s p) ≡ [] = ap pads_of put.here ∙ not_far x near in
    let leads_there = near_leads {S = R} {s = s} {p = p} {x = x} {h = p} put.here near some (record { inside = omega (arith, put.words s); offset = inr (omega (arith, e), omega (arith, e)) }) in
    let all : (v r : ℕ) → times (pads_of (word_at R s p) ++ row s p (0 + 0) ∷ []) v r ≡ 0 = λ v r. ap (λ js. times (js ++ row s p (0 + 0) ∷ []) v r) none ∙ no_row v r in
    record {
      grows = record { segments = le_of_eq (sym put.segments); words = λ v. le_of_eq (sym (put.words v)) };
      leads_there = leads_there;
      exists = omega (arith, there S s p place, put.segments);
      claims = omega (arith, put.words s);
      once = λ v r. omega (arith, all v r);
      fresh = λ v r l. absurd (omega (arith, all v r));
      kept = λ v r h l. put.kept v r h;
      zero = λ v r h l. past v r (omega (arith, put.words v));
    }
  where
    no_row : (v r : ℕ) → times (row s p (0 + 0) ∷ []) v r ≡ 0
    no_row v r = elim (cases_eq (times (row s p (0 + 0) ∷ []) v r) 0) [
      | inl f ↦ f
      | inr f ↦ (let i = in_row s p (0 + 0) v r (omega arith) in absurd (omega (arith, i.1, i.2)))
    ]

    past : (v r : ℕ) → length (segment R v) ≤ r → word_at R v r ≡ 0
    past v r l = get_or_past (segment R v) r 0 l
