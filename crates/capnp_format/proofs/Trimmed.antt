-- A trimmed value is a value, has the same levels and capabilities, and fits if it has few words.
use Rattle.std.proofs.Common.{◌≡◌, ℕ, zero, suc, ◌+◌, ◌*◌, ◌<◌, ◌≤◌, ◌^◌, max, true, refl, sym, ap, ap₂, ◌∙◌, arith, length-take}
use Rattle.capnp_format.specs.Tree.{Tree, Null, Capability, Struct, Flat, Pointers, Structs, Trees, no_trees, tree, Elements, no_elements, element, count, element_count, depth, depth_all, depth_elements, capabilities, capabilities_all, capabilities_elements}
use Rattle.capnp_format.specs.Canonical.{is_null, used_words, used_trees, take_trees, data_width, pointer_width, cut_to, trim, trim_each, trim_elements, word_count, word_count_all, word_count_elements, OffsetsFit, RowsFit, IsEncodable, AreEncodable, AreEncodableElements}
use Rattle.capnp_format.specs.Value.{IsValue, AreValues, AreElements}
use Rattle.capnp_format.proofs.Bounds.{below_take}
use Rattle.capnp_format.proofs.Trimming.{used_from-rest, used_from-past, used_trees-le, take_trees-count, cut_to-count, trim_each-count, trim_elements-count, widths-le, Narrower, rows-le}
use Rattle.capnp_format.proofs.Unique.{for_offset}

take_trees-values : (n : ℕ) (ts : Trees) → AreValues ts → AreValues (take_trees n ts)
take_trees-values zero ts v = tt
take_trees-values (suc n) no_trees v = tt
take_trees-values (suc n) (tree t ts) v = (v.0, take_trees-values n ts v.1)

cut_to-values : {e r d q : ℕ} (es : Elements) → Narrower e r d q → AreElements d q es → AreElements e r (cut_to e r es)
cut_to-values no_elements n v = tt
cut_to-values {e = e} {r = r} (element ws ts es) n v =
    (omega (arith, length-take e ws, v.0, n.data_words), take_trees-count r ts (omega (arith, v.1, n.pointers)), below_take (2 ^ 64) e ws v.2, take_trees-values r ts v.3, cut_to-values es n v.4)

mutual
  pub trim-value : (t : Tree) → IsValue t → IsValue (trim t)
  trim-value Null v = tt
  trim-value (Capability i) v = v
  trim-value (Struct ws ts) v = (
    omega (arith, v.0, length-take (used_words ws) ws),
    omega (arith, v.1, take_trees-count (used_trees (trim_each ts)) (trim_each ts) (used_trees-le (trim_each ts)), used_trees-le (trim_each ts), trim_each-count ts),
    below_take (2 ^ 64) (used_words ws) ws v.2,
    take_trees-values (used_trees (trim_each ts)) (trim_each ts) (trim_each-values ts v.3),
  )
  trim-value (Flat size ns) v = v
  trim-value (Pointers ts) v = (omega (arith, v.0, trim_each-count ts), trim_each-values ts v.1)
  trim-value (Structs d q es) v =
      let fs = trim_elements es in
      let w = widths-le d q es v.4 in
      let same = cut_to-count (data_width fs) (pointer_width fs) fs ∙ trim_elements-count es in (
        omega (arith, v.0, w.0),
        omega (arith, v.1, w.1),
        omega (arith, v.2, same),
        omega (arith, v.3, ap (λ n. n * (data_width fs + pointer_width fs)) same, rows-le (element_count es) (let n : Narrower (data_width fs) (pointer_width fs) d q = record { data_words = w.0; pointers = w.1 } in n)),
        cut_to-values fs (let n : Narrower (data_width fs) (pointer_width fs) d q = record { data_words = w.0; pointers = w.1 } in n) (trim_elements-values d q es v.4),
      )

  trim_each-values : (ts : Trees) → AreValues ts → AreValues (trim_each ts)
  trim_each-values no_trees v = tt
  trim_each-values (tree t ts) v = (trim-value t v.0, trim_each-values ts v.1)

  trim_elements-values : (d q : ℕ) (es : Elements) → AreElements d q es → AreElements d q (trim_elements es)
  trim_elements-values d q no_elements v = tt
  trim_elements-values d q (element ws ts es) v = (v.0, trim_each-count ts ∙ v.1, v.2, trim_each-values ts v.3, trim_elements-values d q es v.4)

-- what is cut off has no levels and no capabilities
null_is_nothing : (t : Tree) → is_null t ≡ true → (depth t ≡ 0) × (capabilities t ≡ 0)
null_is_nothing Null e = (refl, refl)
null_is_nothing (Capability i) e = absurd (cc e)
null_is_nothing (Struct ws ts) e = absurd (cc e)
null_is_nothing (Flat size ns) e = absurd (cc e)
null_is_nothing (Pointers ts) e = absurd (cc e)
null_is_nothing (Structs d q es) e = absurd (cc e)

nulls_are_nothing : (ts : Trees) → used_trees ts ≤ 0 → (depth_all ts ≡ 0) × (capabilities_all ts ≡ 0)
nulls_are_nothing no_trees l = (refl, refl)
nulls_are_nothing (tree t ts) l =
    let e = used_from-past (is_null t) (used_trees ts) l in
    let first = null_is_nothing t e.0 in
    let others = nulls_are_nothing ts (omega (arith, e.1)) in
    (omega (arith, first.0, others.0), omega (arith, first.1, others.1))

take_trees-inside : (n : ℕ) (ts : Trees) → used_trees ts ≤ n → (depth_all (take_trees n ts) ≡ depth_all ts) × (capabilities_all (take_trees n ts) ≡ capabilities_all ts)
take_trees-inside zero ts l = let e = nulls_are_nothing ts l in (sym e.0, sym e.1)
take_trees-inside (suc n) no_trees l = (refl, refl)
take_trees-inside (suc n) (tree t ts) l =
    let e = take_trees-inside n ts (used_from-rest (is_null t) (used_trees ts) n l) in
    (ap (max (depth t)) e.0, ap (λ k. capabilities t + k) e.1)

cut_to-inside : (d q : ℕ) (es : Elements) → pointer_width es ≤ q → (depth_elements (cut_to d q es) ≡ depth_elements es) × (capabilities_elements (cut_to d q es) ≡ capabilities_elements es)
cut_to-inside d q no_elements l = (refl, refl)
cut_to-inside d q (element ws ts es) l =
    let first = take_trees-inside q ts (omega arith) in
    let others = cut_to-inside d q es (omega arith) in
    (ap₂ max first.0 others.0, ap₂ (λ x y. x + y) first.1 others.1)

mutual
  pub trim-capabilities : (t : Tree) → capabilities (trim t) ≡ capabilities t
  trim-capabilities Null = omega arith
  trim-capabilities (Capability i) = omega arith
  trim-capabilities (Struct ws ts) = omega (arith, (take_trees-inside (used_trees (trim_each ts)) (trim_each ts) (omega arith)).1, trim_each-capabilities ts)
  trim-capabilities (Flat size ns) = omega arith
  trim-capabilities (Pointers ts) = omega (arith, trim_each-capabilities ts)
  trim-capabilities (Structs d q es) = let fs = trim_elements es in omega (arith, (cut_to-inside (data_width fs) (pointer_width fs) fs (omega arith)).1, trim_elements-capabilities es)

  trim_each-capabilities : (ts : Trees) → capabilities_all (trim_each ts) ≡ capabilities_all ts
  trim_each-capabilities no_trees = omega arith
  trim_each-capabilities (tree t ts) = omega (arith, trim-capabilities t, trim_each-capabilities ts)

  trim_elements-capabilities : (es : Elements) → capabilities_elements (trim_elements es) ≡ capabilities_elements es
  trim_elements-capabilities no_elements = omega arith
  trim_elements-capabilities (element ws ts es) = omega (arith, trim_each-capabilities ts, trim_elements-capabilities es)

mutual
  pub trim-depth : (t : Tree) → depth (trim t) ≡ depth t
  trim-depth Null = omega arith
  trim-depth (Capability i) = omega arith
  trim-depth (Struct ws ts) = omega (arith, (take_trees-inside (used_trees (trim_each ts)) (trim_each ts) (omega arith)).0, trim_each-depth ts)
  trim-depth (Flat size ns) = omega arith
  trim-depth (Pointers ts) = omega (arith, trim_each-depth ts)
  trim-depth (Structs d q es) = let fs = trim_elements es in omega (arith, (cut_to-inside (data_width fs) (pointer_width fs) fs (omega arith)).0, trim_elements-depth es)

  trim_each-depth : (ts : Trees) → depth_all (trim_each ts) ≡ depth_all ts
  trim_each-depth no_trees = omega arith
  trim_each-depth (tree t ts) = omega (arith, trim-depth t, trim_each-depth ts)

  trim_elements-depth : (es : Elements) → depth_elements (trim_elements es) ≡ depth_elements es
  trim_elements-depth no_elements = omega arith
  trim_elements-depth (element ws ts es) = omega (arith, trim_each-depth ts, trim_elements-depth es)

-- every offset is less than the words of the body
offsets_below : (k : ℕ) (ts : Trees) → count ts + k + word_count_all ts < 2 ^ 29 → OffsetsFit k ts
offsets_below k no_trees l = tt
offsets_below k (tree t ts) l = (for_offset t (count ts + k < 2 ^ 29) (omega arith), offsets_below (k + word_count t) ts (omega arith))

rows_below : (d q k : ℕ) (es : Elements) → AreElements d q es → element_count es * (d + q) + k + word_count_elements es < 2 ^ 29 → RowsFit d q k es
rows_below d q k no_elements v l = tt
rows_below d q k (element ws ts es) v l = (offsets_below (element_count es * (d + q) + k) ts (omega (arith, v.1)), rows_below d q (k + word_count_all ts) es v.4 (omega arith))

mutual
  pub small_fits : (t : Tree) → IsValue t → word_count t < 2 ^ 29 → IsEncodable t
  small_fits Null v l = tt
  small_fits (Capability i) v l = tt
  small_fits (Struct ws ts) v l = (offsets_below 0 ts (omega arith), small_all_fit ts v.3 (omega arith))
  small_fits (Flat size ns) v l = tt
  small_fits (Pointers ts) v l = (offsets_below 0 ts (omega arith), small_all_fit ts v.1 (omega arith))
  small_fits (Structs d q es) v l = (rows_below d q 0 es v.4 (omega arith), small_elements_fit d q es v.4 (omega arith))

  small_all_fit : (ts : Trees) → AreValues ts → word_count_all ts < 2 ^ 29 → AreEncodable ts
  small_all_fit no_trees v l = tt
  small_all_fit (tree t ts) v l = (small_fits t v.0 (omega arith), small_all_fit ts v.1 (omega arith))

  small_elements_fit : (d q : ℕ) (es : Elements) → AreElements d q es → word_count_elements es < 2 ^ 29 → AreEncodableElements es
  small_elements_fit d q no_elements v l = tt
  small_elements_fit d q (element ws ts es) v l = (small_all_fit ts v.3 (omega arith), small_elements_fit d q es v.4 (omega arith))
