-- What a place's meaning states about the object there and its pointers, the same for every kind.
-- Lemmas on `Means` name all its arguments: it is defined by recursion on the value, so the checker
-- can't find any of them from a premise.
use Rattle.std.proofs.Common.{◌≡◌, ◌⊎◌, inl, inr, ℕ, zero, suc, pred, ◌+◌, ◌%◌, ◌^◌, ◌<◌, ◌≤◌, Bool, true, false, cond, nat_eq, length, refl, sym, ap, ◌∙◌, subst, arith}
use Rattle.std.proofs.lemmas.Bool.{ne_eqb}
use Rattle.capnp_format.specs.Word.{kind, offset_bits, data_words, pointer_count, element_size, list_count}
use Rattle.capnp_format.specs.Numbers.{words_for}
use Rattle.capnp_format.specs.Segments.{Segments, Target}
use Rattle.capnp_format.specs.Tree.{Tree, Null, Capability, Struct, Flat, Pointers, Structs, Trees, no_trees, tree, Elements, no_elements, element, count, element_count, capabilities, capabilities_all, capabilities_elements}
use Rattle.capnp_format.specs.Means.{Claims}
use Rattle.capnp_words.specs.declared.wire_pointer.StructSize.{StructSize}
use Rattle.capnp_pointers.specs.Demands.{claimed_words, tag, count_charge, amplified_charge, own_charge, Meets, IsStructList, IsVoidList}
use Rattle.capnp_pointers.specs.Faults.{LeadsTo, child_at, IsPointer, of_struct, of_list, of_element}
use Rattle.capnp_pointers.specs.Outcomes.{MeansThere}
use Rattle.capnp_pointers.specs.Reading.{Reading, word_of, place_past, pointers_of}
use Rattle.capnp_pointers.specs.declared.object.Purpose.{Purpose}
use Rattle.capnp_pointers.specs.declared.object.Purpose.TheVariants.{Value, Size}
use Rattle.capnp_pointers.proofs.WholeValue.Shorthands.{MeanThere, ElementsMean}

-- the words that a list claims
abbrev pub list_claim : ℕ → ℕ → ℕ
list_claim size n = cond (nat_eq size 7) (n + 1) (cond (nat_eq size 6) n (words_for size n))

pub claim_struct : (w : ℕ) → kind w ≡ 0 → claimed_words w ≡ data_words w + pointer_count w
claim_struct w e = ap (λ k. cond (nat_eq k 0) (data_words w + pointer_count w) (list_claim (element_size w) (list_count w))) e

pub claim_list : (w size : ℕ) → kind w ≡ 1 → element_size w ≡ size → claimed_words w ≡ list_claim size (list_count w)
claim_list w size e f = ap (λ k. cond (nat_eq k 0) (data_words w + pointer_count w) (list_claim (element_size w) (list_count w))) e ∙ ap (λ i. list_claim i (list_count w)) f

pub claim_flat : (size n : ℕ) → size ≤ 5 → list_claim size n ≡ words_for size n
claim_flat zero n h = refl
claim_flat (suc zero) n h = refl
claim_flat (suc (suc zero)) n h = refl
claim_flat (suc (suc (suc zero))) n h = refl
claim_flat (suc (suc (suc (suc zero)))) n h = refl
claim_flat (suc (suc (suc (suc (suc zero))))) n h = refl
claim_flat (suc (suc (suc (suc (suc (suc k)))))) n h = absurd (omega arith)

-- the cost of elements without bits, by the kind and the element size
abbrev extra : Purpose → Segments → Target → ℕ → ℕ → ℕ
extra purpose S a k size = cond (nat_eq k 0) 0 (cond (nat_eq size 7) (count_charge purpose (data_words (tag S a) + pointer_count (tag S a)) (offset_bits (tag S a))) (count_charge purpose size (list_count a.word)))

pub extra_struct : (purpose : Purpose) (S : Segments) (a : Target) → kind a.word ≡ 0 → amplified_charge purpose S a ≡ 0
extra_struct Value S a e = ap (λ k. extra Value S a k (element_size a.word)) e
extra_struct Size S a e = refl

pub extra_list : (purpose : Purpose) (S : Segments) (a : Target) (size : ℕ) → kind a.word ≡ 1 → element_size a.word ≡ size → amplified_charge purpose S a ≡ extra purpose S a 1 size
extra_list Value S a size e f = ap (λ k. extra Value S a k (element_size a.word)) e ∙ ap (extra Value S a 1) f
extra_list Size S a size e f = go (nat_eq size 7)
  where
    go : (b : Bool) → amplified_charge Size S a ≡ cond b 0 0
    go true = refl
    go false = refl

pub extra_flat : (purpose : Purpose) (S : Segments) (a : Target) (size : ℕ) → size ≤ 5 → extra purpose S a 1 size ≡ count_charge purpose size (list_count a.word)
extra_flat purpose S a zero h = refl
extra_flat purpose S a (suc zero) h = refl
extra_flat purpose S a (suc (suc zero)) h = refl
extra_flat purpose S a (suc (suc (suc zero))) h = refl
extra_flat purpose S a (suc (suc (suc (suc zero)))) h = refl
extra_flat purpose S a (suc (suc (suc (suc (suc zero))))) h = refl
extra_flat purpose S a (suc (suc (suc (suc (suc (suc k)))))) h = absurd (omega arith)

-- elements whose width isn't 0 are free
pub charge_some : (purpose : Purpose) (width n : ℕ) → 0 < width → count_charge purpose width n ≡ 0
charge_some Value width n some = ap (λ b. cond b n 0) (ne_eqb width 0 (λ e. omega (arith, e, some)))
charge_some Size width n some = refl

-- the elements of an object are free if it is neither a list of structs nor one of void
pub charge_near : (purpose : Purpose) (S : Segments) (a : Target) → kind a.word < 2 → (IsVoidList a.word → ⊥) → (IsStructList a.word → ⊥) → amplified_charge purpose S a ≡ 0
charge_near Size S a near some untagged = refl
charge_near Value S a near some untagged = go (kind a.word) (element_size a.word) near some untagged
  where
    go : (k size : ℕ) → k < 2 → ((k ≡ 1) × (size ≡ 0) → ⊥) → ((k ≡ 1) × (size ≡ 7) → ⊥) → extra Value S a k size ≡ 0
    go zero size near some untagged = refl
    go (suc zero) zero near some untagged = absurd (some (refl, refl))
    go (suc zero) (suc m) near some untagged =
        ap (λ b. cond b (count_charge Value (data_words (tag S a) + pointer_count (tag S a)) (offset_bits (tag S a))) (count_charge Value (suc m) (list_count a.word))) (ne_eqb (suc m) 7 (λ e. untagged (refl, e)))
        ∙ charge_some Value (suc m) (list_count a.word) (omega arith)
    go (suc (suc k)) size near some untagged = absurd (omega arith)

-- when only the size is wanted, all elements are free
pub charge_of_size : (S : Segments) (a : Target) → amplified_charge Size S a ≡ 0
charge_of_size S a = refl

-- the place means some value with at most m capabilities
abbrev pub Meant : Reading → ℕ → Type 0
Meant r m = (u : Tree) × (k : ℕ) × MeansThere r u k × (capabilities u ≤ m)

-- the position q is one of the n from the place on
abbrev pub IsAmong : Reading → ℕ → ℕ → Type 0
IsAmong r n q = (r.at ≤ q) × (q < r.at + n)

abbrev pub IsAmongElements : Reading → StructSize → ℕ → ℕ → Type 0
IsAmongElements r size n q = (j : ℕ) × (j < n) × IsAmong (pointers_of r size j) size.pointers q

pub first_or_later : (p q : ℕ) → p ≤ q → (q ≡ p) ⊎ (p + 1 ≤ q)
first_or_later zero zero h = inl refl
first_or_later zero (suc q) h = inr (omega arith)
first_or_later (suc p) zero h = absurd (omega arith)
first_or_later (suc p) (suc q) h = elim (first_or_later p q (omega arith)) [ inl e ↦ inl (ap suc e) | inr f ↦ inr (omega arith) ]

pub child_means : (r : Reading) (ts : Trees) (c q : ℕ) → MeanThere r ts c → IsAmong r (count ts) q → Meant (record r { at = q }) (capabilities_all ts)
child_means r no_trees c q h (low, high) = absurd (omega arith)
child_means r (tree t ts) c q (k, l, one, rest, g) (low, high) = elim (first_or_later r.at q low) [
  | inl e ↦ (t, k, rw e one, omega arith)
  | inr f ↦ let x = child_means (place_past r 1) ts l q rest (f, omega arith) in (x.0, x.1, x.2, omega (arith, x.3))
]

pub element_means : (r : Reading) (size : StructSize) (es : Elements) (q : ℕ) → (c : ℕ) × ElementsMean r size es c → IsAmongElements r size (element_count es) q → Meant (record r { at = q }) (capabilities_elements es)
element_means r size no_elements q x i = absurd (omega (arith, i.1))
element_means r size (element ws ts es) q (c, (k, l, long, len, e, all, rest, g)) (zero, inside, (low, high)) =
    let x = child_means (place_past r size.data_words) ts k q all (omega arith, omega (arith, len)) in (x.0, x.1, x.2, omega (arith, x.3))
element_means r size (element ws ts es) q (c, (k, l, long, len, e, all, rest, g)) (suc j, inside, (low, high)) =
    let x = element_means (place_past (place_past r size.data_words) size.pointers) size es q (l, rest) (j, omega arith, (omega arith, omega arith)) in (x.0, x.1, x.2, omega (arith, x.3))

-- the object a meets its demands; its own cost is at most c; each of its children means a value
-- with at most m capabilities
pub record Inner (r : Reading) (a : Target) (m c : ℕ) : Type 0 where
  pub meets : Meets Value r.segments r.levels a
  pub cost : own_charge Value r.segments a ≤ c
  pub children : (q : ℕ) → IsPointer r.segments a q → Meant (child_at r a (pred r.levels) q) m

-- a place with at most m capabilities, whose value costs c: it is null, or leads to a capability or
-- to an object
pub data Parts (r : Reading) (m c : ℕ) : Type 0 where
  is_null : word_of r ≡ 0 → Parts r m c
  is_capability : (a : Target) → LeadsTo r a → a.word % 2 ^ 32 ≡ 3 → 1 ≤ m → c ≡ a.pads → Parts r m c
  is_inner : (a : Target) → LeadsTo r a → Inner r a m c → Parts r m c

pub means_parts : (r : Reading) (t : Tree) (c : ℕ) → MeansThere r t c → Parts r (capabilities t) c
means_parts r Null c h = is_null h.0
means_parts r (Capability i) c (a, l, e, g) = is_capability a l (omega arith) (omega arith) g
means_parts r (Struct ws ts) c (a, k, some, o, claims, e, all, g) =
    is_inner a o.leads_to (record {
      meets = record { levels = some; is_object = omega (arith, o.is_struct); claims = omega (arith, claim_struct a.word o.is_struct, o.data_of, o.pointers, claims); tagged = λ l. absurd (omega (arith, l.0, o.is_struct)) };
      cost = omega (arith, claim_struct a.word o.is_struct, extra_struct Value r.segments a o.is_struct, o.data_of, o.pointers);
      children = λ q. elim [
        | of_struct z low high ↦ child_means (child_at r a (pred r.levels) (a.start + length ws)) ts k q all (omega (arith, o.data_of), omega (arith, o.data_of, o.pointers))
        | of_list z size low high ↦ absurd (omega (arith, o.is_struct))
        | of_element j z inside low high ↦ absurd (omega (arith, o.is_struct, z.0))
      ];
    })
means_parts r (Flat size ns) c (a, some, small, o, claims, e, g) =
    is_inner a o.leads_to (record {
      meets = record {
        levels = some;
        is_object = omega (arith, o.is_list);
        claims = subst (Claims r.segments a) (ap (words_for size) (sym o.counts) ∙ sym (claim_flat size (list_count a.word) small) ∙ sym (claim_list a.word size o.is_list o.is_size)) claims;
        tagged = λ l. absurd (omega (arith, l.1, o.is_size));
      };
      cost = rw (claim_list a.word size o.is_list o.is_size, claim_flat size (list_count a.word) small, extra_list Value r.segments a size o.is_list o.is_size, extra_flat Value r.segments a size small, o.counts) (omega (arith, g));
      children = λ q. elim [
        | of_struct z low high ↦ absurd (omega (arith, o.is_list))
        | of_list z six low high ↦ absurd (omega (arith, o.is_size, small))
        | of_element j z inside low high ↦ absurd (omega (arith, o.is_size, z.1, small))
      ];
    })
means_parts r (Pointers ts) c (a, k, some, o, claims, all, g) =
    is_inner a o.leads_to (record {
      meets = record { levels = some; is_object = omega (arith, o.is_list); claims = omega (arith, claim_list a.word 6 o.is_list o.is_size, o.counts, claims); tagged = λ l. absurd (omega (arith, l.1, o.is_size)) };
      cost = omega (arith, claim_list a.word 6 o.is_list o.is_size, extra_list Value r.segments a 6 o.is_list o.is_size, o.counts, g);
      children = λ q. elim [
        | of_struct z low high ↦ absurd (omega (arith, o.is_list))
        | of_list z six low high ↦ child_means (child_at r a (pred r.levels) a.start) ts k q all (low, omega (arith, o.counts))
        | of_element j z inside low high ↦ absurd (omega (arith, o.is_size, z.1))
      ];
    })
means_parts r (Structs d q es) c (a, m, k, some, o, claims, t, fits, all, g) =
    is_inner a o.leads_to (record {
      meets = record {
        levels = some;
        is_object = omega (arith, o.is_list);
        claims = omega (arith, claim_list a.word 7 o.is_list o.is_size, o.counts, claims);
        tagged = λ l. (t.is_struct, rw (t.counts, t.data_of, t.pointers, o.counts) fits);
      };
      cost = rw (claim_list a.word 7 o.is_list o.is_size, extra_list Value r.segments a 7 o.is_list o.is_size, t.counts, t.data_of, t.pointers, o.counts) (omega (arith, g));
      children = λ p. elim [
        | of_struct z low high ↦ absurd (omega (arith, o.is_list))
        | of_list z six low high ↦ absurd (omega (arith, o.is_size))
        | of_element j z inside low high ↦
            element_means (child_at r a (pred r.levels) (a.start + 1)) (record { data_words = d; pointers = q }) es p (k, all) (j, omega (arith, t.counts), (rw (t.data_of, t.pointers) at low, rw (t.data_of, t.pointers) at high))
      ];
    })
