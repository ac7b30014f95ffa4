-- New lists are stored.
use Rattle.std.proofs.Common.{◌≡◌, ℕ, zero, suc, ◌+◌, ◌*◌, ◌/◌, ◌%◌, ◌^◌, ◌<◌, ◌≤◌, [], ◌∷◌, ◌++◌, length, inl, inr, cond, refl, sym, ap, ap₂, ◌∙◌, subst, arith, eq-eqb, ne_eqb}
use Rattle.std.proofs.lemmas.List.{length-replicate}
use Rattle.std.proofs.lemmas.Bool.{cases_eq}
use Rattle.capnp_format.specs.Word.{kind, element_size, list_count}
use Rattle.capnp_format.specs.Numbers.{from_digits, digits, element_bits, words_for, unpacked, packed}
use Rattle.capnp_format.specs.Segments.{Segments, segment, word_at, words_at, Target}
use Rattle.capnp_format.specs.Tree.{Null, Flat, Pointers, count}
use Rattle.capnp_format.specs.Means.{Means, count_cost}
use Rattle.capnp_format.specs.Forest.{times, pads_of, object_of, target, target_in, cover, cover_all, IsTidy}
use Rattle.capnp_format.proofs.Frame.{times-append}
use Rattle.capnp_allocation.specs.Stored.{IsReplaced}
use Rattle.capnp_allocation.proofs.Replaced.{placed}
use Rattle.capnp_allocation.specs.Made.{IsMade, words_of_zero, nulls, zero_list, list_words}
use Rattle.capnp_allocation.proofs.Placed.{new_zero, zeros_stand, count-nulls, nulls_mean, nulls_tidy, nulls_cover}

zero_rest : (b : ℕ) → 0 % b ≡ 0
zero_rest b = grind arith

zero_part : (b : ℕ) → 0 / b ≡ 0
zero_part b = grind arith

no_digits : (b n : ℕ) → digits b n 0 ≡ words_of_zero n
no_digits b zero = refl
no_digits b (suc n) = ap₂ (λ x xs. x ∷ xs) (zero_rest b) (ap (digits b n) (zero_part b) ∙ no_digits b n)

pub from_zeros : (b n : ℕ) → from_digits b (words_of_zero n) ≡ 0
from_zeros b zero = refl
from_zeros b (suc n) = ap (λ x. 0 + b * x) (from_zeros b n) ∙ nothing b
  where
    nothing : (b : ℕ) → 0 + b * 0 ≡ 0
    nothing b = grind arith

unpacked_zeros : (size n w : ℕ) → unpacked size n (words_of_zero w) ≡ words_of_zero n
unpacked_zeros size n w = ap (digits (2 ^ element_bits size) n) (from_zeros (2 ^ 64) w) ∙ no_digits (2 ^ element_bits size) n

pub packed_zeros : (size n : ℕ) → packed size (words_of_zero n) ≡ words_of_zero (words_for size n)
packed_zeros size n =
    ap (digits (2 ^ 64) (words_for size (length (words_of_zero n)))) (from_zeros (2 ^ element_bits size) n) ∙ no_digits (2 ^ 64) (words_for size (length (words_of_zero n))) ∙ ap (λ k. words_of_zero (words_for size k)) (length-replicate {A = ℕ} n 0)

-- A new list of numbers.
pub flat_made : (S R : Segments) (s p size n : ℕ) (a : Target) → p < length (segment S s) → size ≤ 5 → IsMade S R s p a (words_for size n) → kind a.word ≡ 1 → element_size a.word ≡ size → list_count a.word ≡ n →
    IsReplaced S R s p Null (Flat size (words_of_zero n))
flat_made S R s p size n a place small m is_list is_size is_n =
    let w = words_for size n in
    let ln : length (words_of_zero n) ≡ n = length-replicate {A = ℕ} n 0 in
    let lw : words_for size (length (words_of_zero n)) ≡ w = ap (words_for size) ln in
    let zero_here = new_zero S R s p a w m in
    let here : target R s p ≡ a = ap target_in m.leads_there.1 in
    let covers : cover R s p (Flat size (words_of_zero n)) ≡ pads_of (word_at R s p) ++ object_of a w ∷ [] =
    ap₂ (λ b k. pads_of (word_at R s p) ++ object_of b k ∷ []) here lw in
    let same : (v r : ℕ) → times (cover R s p (Flat size (words_of_zero n))) v r ≡ times (pads_of (word_at R s p) ++ object_of a w ∷ []) v r = λ v r. ap (λ js. times js v r) covers in
    let stand : words_at R a.segment a.start w ≡ words_of_zero w = zeros_stand R a.segment a.start w zero_here m.claims in
    let content : words_of_zero n ≡ unpacked size (length (words_of_zero n)) (words_at R a.segment a.start (words_for size (length (words_of_zero n)))) =
    sym (ap₂ (λ k j. unpacked size k (words_at R a.segment a.start j)) ln lw ∙ ap (unpacked size n) stand ∙ unpacked_zeros size n w) in
    let c : ℕ = a.pads + words_for size (length (words_of_zero n)) + count_cost size (length (words_of_zero n)) in
    let means : Means R 1 s p (Flat size (words_of_zero n)) c = (
      a,
      omega arith,
      small,
      record { leads_to = m.leads_there; is_list = is_list; is_size = is_size; counts = is_n ∙ sym ln },
      omega (arith, m.claims, lw),
      content,
      refl,
    ) in
    let tidy : IsTidy R s p (Flat size (words_of_zero n)) = ap₂ (λ b k. words_at R b.segment b.start k) here lw ∙ stand ∙ sym (packed_zeros size n) in
    placed S R s p (Flat size (words_of_zero n)) 1 c m.grows place means tidy (λ v r. omega (arith, same v r, m.once v r)) (λ v r l. m.fresh v r (omega (arith, same v r))) m.kept
    (λ v r none l. m.zero v r (omega (arith, same v r, times-append (pads_of (word_at R s p)) (object_of a w ∷ []) v r)) l)

-- A new list of null pointers.
pub pointers_made : (S R : Segments) (s p n : ℕ) (a : Target) → p < length (segment S s) → IsMade S R s p a n → kind a.word ≡ 1 → element_size a.word ≡ 6 → list_count a.word ≡ n → IsReplaced S R s p Null (Pointers (nulls n))
pointers_made S R s p n a place m is_list is_size is_n =
    let ln : count (nulls n) ≡ n = count-nulls n in
    let zero_here = new_zero S R s p a n m in
    let here : target R s p ≡ a = ap target_in m.leads_there.1 in
    let covers : cover R s p (Pointers (nulls n)) ≡ pads_of (word_at R s p) ++ object_of a n ∷ [] =
    ap (λ b. pads_of (word_at R s p) ++ object_of b (count (nulls n)) ∷ cover_all R b.segment b.start (nulls n)) here
    ∙ ap₂ (λ k js. pads_of (word_at R s p) ++ object_of a k ∷ js) ln (nulls_cover R a.segment a.start n) in
    let same : (v r : ℕ) → times (cover R s p (Pointers (nulls n))) v r ≡ times (pads_of (word_at R s p) ++ object_of a n ∷ []) v r = λ v r. ap (λ js. times js v r) covers in
    let c : ℕ = a.pads + count (nulls n) + 0 in
    let means : Means R 1 s p (Pointers (nulls n)) c = (
      a,
      0,
      omega arith,
      record { leads_to = m.leads_there; is_list = is_list; is_size = is_size; counts = is_n ∙ sym ln },
      omega (arith, m.claims, ln),
      nulls_mean R 0 a.segment a.start n zero_here,
      refl,
    ) in
    placed S R s p (Pointers (nulls n)) 1 c m.grows place means (nulls_tidy R (target R s p).segment (target R s p).start n) (λ v r. omega (arith, same v r, m.once v r)) (λ v r l. m.fresh v r (omega (arith, same v r))) m.kept
    (λ v r none l. m.zero v r (omega (arith, same v r, times-append (pads_of (word_at R s p)) (object_of a n ∷ []) v r)) l)

-- A list of any elements except structs.
pub list_made : (S R : Segments) (s p size n : ℕ) (a : Target) → p < length (segment S s) → size ≤ 6 → IsMade S R s p a (list_words size n) → kind a.word ≡ 1 → element_size a.word ≡ size → list_count a.word ≡ n →
    IsReplaced S R s p Null (zero_list size n)
list_made S R s p size n a place small m is_list is_size is_n =
    elim (cases_eq size 6) [
      | inl e ↦ (
          let six = eq-eqb size 6 e in
          subst (IsReplaced S R s p Null) (sym (ap (λ b. cond b (Pointers (nulls n)) (Flat size (words_of_zero n))) six))
          (pointers_made S R s p n a place (subst (IsMade S R s p a) (ap (λ b. cond b n (words_for size n)) six) m) is_list (is_size ∙ e) is_n)
          )
      | inr other ↦ (
          let flat = ne_eqb size 6 other in
          subst (IsReplaced S R s p Null) (sym (ap (λ b. cond b (Pointers (nulls n)) (Flat size (words_of_zero n))) flat))
          (flat_made S R s p size n a place (omega arith) (subst (IsMade S R s p a) (ap (λ b. cond b n (words_for size n)) flat) m) is_list is_size is_n)
          )
    ]
