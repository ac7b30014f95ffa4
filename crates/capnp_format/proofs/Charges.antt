-- Canonical words cost no more than the value that they come from.
use Rattle.std.proofs.Common.{◌≡◌, ℕ, zero, suc, ◌+◌, ◌*◌, ◌<◌, ◌≤◌, inl, inr, cond, ap, ◌∙◌, arith, eq-eqb, ne_eqb, length-take}
use Rattle.std.proofs.lemmas.Bool.{cases_eq}
use Rattle.capnp_format.specs.Segments.{Segments}
use Rattle.capnp_format.specs.Tree.{Tree, Null, Capability, Struct, Flat, Pointers, Structs, Trees, no_trees, tree, Elements, no_elements, element, element_count}
use Rattle.capnp_format.specs.Means.{count_cost}
use Rattle.capnp_format.specs.Canonical.{used_words, used_trees, take_trees, data_width, pointer_width, cut_to, trim, trim_each, trim_elements, charge, charge_all, charge_elements}
use Rattle.capnp_format.specs.Value.{IsValue, AreValues, AreElements}
use Rattle.capnp_format.proofs.Meant.{Meant, AllMeant, ElementsMeant}
use Rattle.capnp_format.proofs.Trimming.{used_words-le, used_trees-le, take_trees-count, cut_to-count, trim_each-count, trim_elements-count, widths-le}

take_trees-charge : (n : ℕ) (ts : Trees) → charge_all (take_trees n ts) ≤ charge_all ts
take_trees-charge zero ts = omega arith
take_trees-charge (suc n) no_trees = omega arith
take_trees-charge (suc n) (tree t ts) = omega (arith, take_trees-charge n ts)

cut_to-charge : (d q : ℕ) (es : Elements) → charge_elements (cut_to d q es) ≤ charge_elements es
cut_to-charge d q no_elements = omega arith
cut_to-charge d q (element ws ts es) = omega (arith, take_trees-charge q ts, cut_to-charge d q es)

count_cost-none : (w n : ℕ) → 0 < w → count_cost w n ≡ 0
count_cost-none w n l = ap (λ b. cond b n 0) (ne_eqb w 0 (λ e. omega arith))

count_cost-le : (w n : ℕ) → count_cost w n ≤ n
count_cost-le w n = elim (cases_eq w 0) [
  | inl e ↦ (let f : count_cost w n ≡ n = ap (λ b. cond b n 0) (eq-eqb w 0 e) in omega arith)
  | inr other ↦ (let f = count_cost-none w n (omega arith) in omega arith)
]

at_least_each : (n v : ℕ) → 0 < v → n ≤ n * v
at_least_each n v l = grind arith

narrower : (n v w : ℕ) → v ≤ w → n * v ≤ n * w
narrower n v w l = grind arith

-- narrower elements cost no more, even if they become empty
narrower_cost : (n v w : ℕ) → v ≤ w → n * v + count_cost v n ≤ n * w + count_cost w n
narrower_cost n v w l = elim (cases_eq w 0) [
  | inl e ↦ (let z : v ≡ 0 = omega arith in rw (z, e) (omega arith))
  | inr other ↦ elim (cases_eq v 0) [
    | inl z ↦ omega (arith, at_least_each n w (omega arith), count_cost-le v n, ap (λ k. n * k) z)
    | inr some ↦ (let f = count_cost-none v n (omega arith) in omega (arith, narrower n v w l))
  ]
]

mutual
  pub trim-charge : (t : Tree) → IsValue t → charge (trim t) ≤ charge t
  trim-charge Null v = omega arith
  trim-charge (Capability i) v = omega arith
  trim-charge (Struct ws ts) v =
      omega (
        arith,
        length-take (used_words ws) ws,
        used_words-le ws,
        used_trees-le (trim_each ts),
        take_trees-count (used_trees (trim_each ts)) (trim_each ts) (used_trees-le (trim_each ts)),
        trim_each-count ts,
        take_trees-charge (used_trees (trim_each ts)) (trim_each ts),
        trim_each-charge ts v.3,
      )
  trim-charge (Flat size ns) v = omega arith
  trim-charge (Pointers ts) v = omega (arith, trim_each-count ts, trim_each-charge ts v.1)
  trim-charge (Structs d q es) v =
      let fs = trim_elements es in
      let w = widths-le d q es v.4 in
      let same = cut_to-count (data_width fs) (pointer_width fs) fs ∙ trim_elements-count es in
      omega (
        arith,
        ap (λ n. n * (data_width fs + pointer_width fs) + count_cost (data_width fs + pointer_width fs) n) same,
        narrower_cost (element_count es) (data_width fs + pointer_width fs) (d + q) (omega (arith, w.0, w.1)),
        cut_to-charge (data_width fs) (pointer_width fs) fs,
        trim_elements-charge d q es v.4,
      )

  trim_each-charge : (ts : Trees) → AreValues ts → charge_all (trim_each ts) ≤ charge_all ts
  trim_each-charge no_trees v = omega arith
  trim_each-charge (tree t ts) v = omega (arith, trim-charge t v.0, trim_each-charge ts v.1)

  trim_elements-charge : (d q : ℕ) (es : Elements) → AreElements d q es → charge_elements (trim_elements es) ≤ charge_elements es
  trim_elements-charge d q no_elements v = omega arith
  trim_elements-charge d q (element ws ts es) v = omega (arith, trim_each-charge ts v.3, trim_elements-charge d q es v.4)

mutual
  pub charge_within : {S : Segments} {n s p c : ℕ} (t : Tree) → Meant S n s p t c → charge t ≤ c
  charge_within Null h = omega arith
  charge_within (Capability i) h = omega arith
  charge_within (Struct ws ts) h =
      let (a, k, some, o, claim, e, all, g) = h.means in
      omega (arith, charge_within_all ts (record { means = all }))
  charge_within (Flat size ns) h =
      let (a, some, small, o, claim, e, g) = h.means in
      omega arith
  charge_within (Pointers ts) h =
      let (a, k, some, o, claim, all, g) = h.means in
      omega (arith, charge_within_all ts (record { means = all }))
  charge_within (Structs d q es) h =
      let (a, m, k, some, o, claim, tag, fits, all, g) = h.means in
      omega (arith, charge_within_elements es (record { means = all }))

  charge_within_all : {S : Segments} {n s p c : ℕ} (ts : Trees) → AllMeant S n s p ts c → charge_all ts ≤ c
  charge_within_all no_trees h = omega arith
  charge_within_all (tree t ts) h =
      let (k, l, one, rest, g) = h.means in
      omega (arith, charge_within t (record { means = one }), charge_within_all ts (record { means = rest }))

  charge_within_elements : {S : Segments} {n s p d q c : ℕ} (es : Elements) → ElementsMeant S n s p d q es c → charge_elements es ≤ c
  charge_within_elements no_elements h = omega arith
  charge_within_elements (element ws ts es) h =
      let (k, l, long, len, e, all, rest, g) = h.means in
      omega (arith, charge_within_all ts (record { means = all }), charge_within_elements es (record { means = rest }))
