-- Lists of structs whose elements are filled one after the other, and structs whose data words are
-- written.
use Rattle.std.proofs.Common.{◌≡◌, ℕ, zero, suc, ◌+◌, ◌*◌, ◌<◌, ◌≤◌, List, [], ◌∷◌, length, refl, sym, ap, ◌∙◌, subst, le_of_eq, arith}
use Rattle.std.proofs.lemmas.Bool.Decides.{nat_tests}
use Rattle.std.proofs.lemmas.List.{length-replicate}
use Rattle.capnp_format.specs.Segments.{Segments, segment, word_at, HasWords, Target}
use Rattle.capnp_format.specs.Tree.{Tree, Struct, Structs, Trees, Elements, no_elements, element, count, element_count}
use Rattle.capnp_format.specs.Means.{Leads}
use Rattle.capnp_format.specs.Forest.{times, pads_of, object_of, target, target_in, cover, cover_all, cover_elements}
use Rattle.capnp_format.proofs.Frame.{times-append}
use Rattle.capnp_allocation.specs.Filled.{AreFilled, IsElementFilled, AreElementsFilled, ArePartlyFilled}
use Rattle.capnp_allocation.specs.Made.{words_of_zero, nulls, zero_elements}
use Rattle.capnp_format.specs.Path.{Child, Element, put, put_tree, struct_at, put_struct, next, tree_at}
use Rattle.capnp_allocation.specs.Stored.{IsStored, IsReplaced}
use Rattle.capnp_allocation.specs.Zeroed.{row}
use Rattle.capnp_allocation.proofs.Filling.{IsHolder, Holds, in_struct, holder_filled, put_from, put_all, still_leads, unchanged}
use Rattle.capnp_allocation.proofs.PlacedStructs.{count-zero_elements}
use Rattle.capnp_allocation.proofs.Replace.{times-others}
use Rattle.capnp_allocation.proofs.Paths.{node_of_parts}
use Rattle.capnp_allocation.proofs.Replaced.{replaced_again}
use Rattle.capnp_allocation.proofs.WordsPut.{ArePut, words_put}
use Rattle.capnp_allocation.proofs.Written.{same_grows, with_data, element_data_written, data_written}

-- Structs.

pub part_of_object : (a : Target) (b n k v r : ℕ) → a.start ≤ b → b + n ≤ a.start + k → times (object_of a k ∷ []) v r ≡ 0 → times (row a.segment b n ∷ []) v r ≡ 0
part_of_object a b n k v r l m e = grind (arith, nat_tests)

-- A struct of zeros and null pointers gets its data words.
pub struct_written : (S R : Segments) (s p q : ℕ) (a : Target) (ws : List ℕ) → Holds (Struct (words_of_zero (length ws))) S s p a (nulls q) → ArePut S R a.segment a.start ws →
    IsReplaced S R s p (Struct (words_of_zero (length ws)) (nulls q)) (Struct ws (nulls q)) × Leads R s p a
struct_written S R s p q a ws y laid =
    let zs : List ℕ = words_of_zero (length ws) in
    let ld : length zs ≡ length ws = length-replicate {A = ℕ} (length ws) 0 in
    let to_a : a ≡ target S s p = sym (ap target_in y.leads.1) in
    let k = length zs + count (nulls q) in (
      data_written S R s p zs ws (nulls q) laid.long y.stored (sym ld) (subst (λ b. (v r : ℕ) → times (object_of b (length zs) ∷ []) v r ≡ 0 → word_at R v r ≡ word_at S v r) to_a (λ v r e. laid.kept v r (part_of_object a a.start (length ws) (length zs) v r (omega arith) (omega arith) e)))
          (subst (λ b. HasWords R b.segment b.start ws) to_a laid.here),
      still_leads S R s p k a (Struct zs (nulls q)) (cover_all S a.segment (a.start + length zs) (nulls q)) y.leads y.stored
          (λ v r. in_struct S s p a k (λ b. cover_all S b.segment (b.start + length zs) (nulls q)) v r y.leads) (same_grows S R laid.long)
          (λ v r e l. laid.kept v r (part_of_object a a.start (length ws) k v r (omega arith) (omega arith) e)),
    )

-- One element.

pub put_struct-count : (X : Elements) (i : ℕ) (ws : List ℕ) (ts : Trees) → element_count (put_struct X i (Struct ws ts)) ≡ element_count X
put_struct-count no_elements i ws ts = refl
put_struct-count (element xs us X) zero ws ts = refl
put_struct-count (element xs us X) (suc i) ws ts = ap suc (put_struct-count X i ws ts)

pub put_struct-here : (X : Elements) (i : ℕ) (ws : List ℕ) (ts : Trees) → i < element_count X → struct_at (put_struct X i (Struct ws ts)) i ≡ Struct ws ts
put_struct-here no_elements i ws ts l = absurd (omega arith)
put_struct-here (element xs us X) zero ws ts l = refl
put_struct-here (element xs us X) (suc i) ws ts l = put_struct-here X i ws ts (omega arith)

put_struct-elsewhere : (X : Elements) (i j : ℕ) (ws : List ℕ) (ts : Trees) → i < j → struct_at (put_struct X i (Struct ws ts)) j ≡ struct_at X j
put_struct-elsewhere no_elements i j ws ts l = refl
put_struct-elsewhere (element xs us X) zero zero ws ts l = absurd (omega arith)
put_struct-elsewhere (element xs us X) zero (suc j) ws ts l = refl
put_struct-elsewhere (element xs us X) (suc i) zero ws ts l = absurd (omega arith)
put_struct-elsewhere (element xs us X) (suc i) (suc j) ws ts l = put_struct-elsewhere X i j ws ts (omega arith)

pub put_struct-again : (X : Elements) (i : ℕ) (ws vs : List ℕ) (ts us : Trees) → put_struct (put_struct X i (Struct ws ts)) i (Struct vs us) ≡ put_struct X i (Struct vs us)
put_struct-again no_elements i ws vs ts us = refl
put_struct-again (element xs os X) zero ws vs ts us = refl
put_struct-again (element xs os X) (suc i) ws vs ts us = ap (element xs os) (put_struct-again X i ws vs ts us)

pub row_high : (i m d q : ℕ) → i < m → i * (d + q) + (d + q) ≤ m * (d + q)
row_high i m d q l = grind arith

-- What a child of an element covers is part of what the elements cover.
struct_children : (xs ws : List ℕ) (us ts : Trees) → Struct xs us ≡ Struct ws ts → us ≡ ts
struct_children xs ws us ts e = cc

element_child_within : (S : Segments) (s p d q : ℕ) (E : Elements) (i j : ℕ) (ws : List ℕ) (ts : Trees) (v r : ℕ) → i < element_count E → struct_at E i ≡ Struct ws ts → j < count ts →
    times (cover S s (p + i * (d + q) + d + j) (tree_at ts j)) v r ≤ times (cover_elements S s p d q E) v r
element_child_within S s p d q no_elements i j ws ts v r l is m = absurd (omega arith)
element_child_within S s p d q (element xs us E) zero j ws ts v r l is m =
    let same : us ≡ ts = struct_children xs ws us ts is in
    let at : p + 0 * (d + q) + d + j ≡ p + d + j = omega arith in
    omega (
      arith,
      times-append (cover_all S s (p + d) us) (cover_elements S s (p + d + q) d q E) v r,
      times-others S s (p + d) us j v r (omega (arith, ap count same, m)),
      ap (λ x. times (cover S s (p + d + j) (tree_at x j)) v r) same,
      ap (λ z. times (cover S s z (tree_at ts j)) v r) at,
    )
element_child_within S s p d q (element xs us E) (suc i) j ws ts v r l is m =
    let at : p + suc i * (d + q) + d + j ≡ p + d + q + i * (d + q) + d + j = omega arith in
    omega (
      arith,
      times-append (cover_all S s (p + d) us) (cover_elements S s (p + d + q) d q E) v r,
      element_child_within S s (p + d + q) d q E i j ws ts v r (omega (arith, l)) is m,
      ap (λ z. times (cover S s z (tree_at ts j)) v r) at,
    )

pub element_holder : (s p d q : ℕ) (a : Target) (X : Elements) (i : ℕ) (ws : List ℕ) → i < element_count X →
    IsHolder (λ ts. Structs d q (put_struct X i (Struct ws ts))) (λ j. Element i ∷ Child j ∷ []) s p q a (a.start + 1 + i * (d + q) + d) (1 + element_count X * (d + q))
element_holder s p d q a X i ws m = record {
  leads = λ S ts j l len k. (
    omega (arith, put_struct-count X i ws ts),
    k,
    node_of_parts (ap (λ b. b.segment) (ap target_in l.1)) (ap (λ b. b.start + 1 + i * (d + q) + d + j) (ap target_in l.1)) (ap (λ t. next t (Child j)) (put_struct-here X i ws ts m)),
  );
  puts = λ ts j u. ap (λ t. Structs d q (put_struct (put_struct X i (Struct ws ts)) i t)) (child_put ts j u) ∙ ap (Structs d q) (put_struct-again X i ws ws ts (put_tree ts j u));
  covers = λ S ts len l.
      (let E = put_struct X i (Struct ws ts) in (
        cover_elements S a.segment (a.start + 1) d q E,
        λ v r. in_struct S s p a (1 + element_count E * (d + q)) (λ b. cover_elements S b.segment (b.start + 1) d q E) v r l
            ∙ ap (λ n. times (pads_of (word_at S s p)) v r + times (object_of a (1 + n * (d + q)) ∷ []) v r + times (cover_elements S a.segment (a.start + 1) d q E) v r) (put_struct-count X i ws ts),
        λ j k v r. element_child_within S a.segment (a.start + 1) d q E i j ws ts v r (omega (arith, put_struct-count X i ws ts, m)) (put_struct-here X i ws ts m) (omega (arith, len, k)),
      ));
  low = omega arith;
  high = omega (arith, row_high i (element_count X) d q m);
}
  where
    child_put : (ts : Trees) (j : ℕ) (u : Tree) → put (struct_at (put_struct X i (Struct ws ts)) i) (Child j) u ≡ Struct ws (put_tree ts j u)
    child_put ts j u = ap (λ t. put t (Child j) u) (put_struct-here X i ws ts m)

pub structs_claim : (S : Segments) (s p d q : ℕ) (a : Target) (X : Elements) → IsStored S s p (Structs d q X) → Leads S s p a → a.start + 1 + element_count X * (d + q) ≤ length (segment S a.segment)
structs_claim S s p d q a X y l = let (n, c, (b, m, k, some, o, claim, tag, fits, all, g)) = y.means in
    let same : b ≡ a = sym (ap target_in o.leads_to.1) ∙ ap target_in l.1 in
    subst (λ z. z.start + 1 + element_count X * (d + q) ≤ length (segment S z.segment)) same (omega arith)

-- Element i, of zeros and null pointers, gets its words ws and the first of its pointers, or all of
-- them.
element_filled : (S R : Segments) (s p d q : ℕ) (a : Target) (X : Elements) (i : ℕ) (ws : List ℕ) (ts : Trees) → IsStored S s p (Structs d q X) → Leads S s p a → i < element_count X → struct_at X i ≡ Struct (words_of_zero d) (nulls q) → length ws ≡ d → count ts ≤ q →
    IsElementFilled S R a.segment (a.start + 1 + i * (d + q)) ws ts → IsReplaced S R s p (Structs d q X) (Structs d q (put_struct X i (Struct ws (put_from (nulls q) 0 ts)))) × Leads R s p a
element_filled S R s p d q a X i ws ts y l less blank ld lq f =
    let T = f.written in
    let claim = structs_claim S s p d q a X y l in
    let high = row_high i (element_count X) d q less in
    let laid = words_put S T a.segment (a.start + 1 + i * (d + q)) ws (omega arith) f.writes in
    let to_a : a ≡ target S s p = sym (ap target_in l.1) in
    let w = 1 + element_count X * (d + q) in
    let E = put_struct X i (Struct ws (nulls q)) in
    let words : IsReplaced S T s p (Structs d q X) (Structs d q E) =
    subst (λ t. IsReplaced S T s p (Structs d q X) (Structs d q (put_struct X i (with_data t ws)))) blank
    (element_data_written S T s p d q X i ws laid.long y less ld
    (subst (λ b. (v r : ℕ) → times (row b.segment (b.start + 1 + i * (d + q)) d ∷ []) v r ≡ 0 → word_at T v r ≡ word_at S v r) to_a (λ v r e. laid.kept v r (subst (λ k. times (row a.segment (a.start + 1 + i * (d + q)) k ∷ []) v r ≡ 0) (sym ld) e)))
    (subst (λ b. HasWords T b.segment (b.start + 1 + i * (d + q)) ws) to_a laid.here)) in
    let leads = still_leads S T s p w a (Structs d q X) (cover_elements S a.segment (a.start + 1) d q X) l y
    (λ v r. in_struct S s p a w (λ b. cover_elements S b.segment (b.start + 1) d q X) v r l) (same_grows S T laid.long)
    (λ v r e h. laid.kept v r (part_of_object a (a.start + 1 + i * (d + q)) (length ws) w v r (omega arith) (omega arith) e)) in
    let done = holder_filled (λ us. Structs d q (put_struct X i (Struct ws us))) (λ j. Element i ∷ Child j ∷ []) T R s p q a (a.start + 1 + i * (d + q) + d) w ts (element_holder s p d q a X i ws less) (record { stored = words.stored; leads = leads }) lq
    (subst (λ k. AreFilled T R a.segment (a.start + 1 + i * (d + q) + k) ts) ld f.filled) in
    (replaced_again S T R s p (Structs d q X) (Structs d q E) _ words done.0, done.1)

-- The elements, with others from the i-th on.
abbrev put_elements : Elements → ℕ → Elements → Elements
put_elements X i no_elements = X
put_elements X i (element ws ts es) = put_elements (put_struct X i (Struct ws ts)) (i + 1) es

put_elements_behind : (X es : Elements) (xs : List ℕ) (us : Trees) (i : ℕ) → put_elements (element xs us X) (i + 1) es ≡ element xs us (put_elements X i es)
put_elements_behind X no_elements xs us i = refl
put_elements_behind X (element ws ts es) xs us i =
    ap (λ Y. put_elements Y (i + 1 + 1) es) (let e : put_struct (element xs us X) (i + 1) (Struct ws ts) ≡ element xs us (put_struct X i (Struct ws ts)) = ap (λ j. put_struct (element xs us X) j (Struct ws ts)) (let f : i + 1 ≡ suc i = omega arith in f) in e)
    ∙ put_elements_behind (put_struct X i (Struct ws ts)) es xs us (i + 1)

put_elements-all : (d q : ℕ) (es : Elements) → put_elements (zero_elements d q (element_count es)) 0 es ≡ es
put_elements-all d q no_elements = refl
put_elements-all d q (element ws ts es) = put_elements_behind (zero_elements d q (element_count es)) es ws ts 0 ∙ ap (element ws ts) (put_elements-all d q es)

pub blank_at : (d q n i : ℕ) → i < n → struct_at (zero_elements d q n) i ≡ Struct (words_of_zero d) (nulls q)
blank_at d q zero i l = absurd (omega arith)
blank_at d q (suc n) zero l = refl
blank_at d q (suc n) (suc i) l = blank_at d q n i (omega arith)

-- The elements from the i-th on are still blank.
record AreBlank (S : Segments) (s p d q : ℕ) (a : Target) (X : Elements) (i : ℕ) : Type 0 where
  pub stored : IsStored S s p (Structs d q X)
  pub leads : Leads S s p a
  pub blank : (j : ℕ) → i ≤ j → j < element_count X → struct_at X j ≡ Struct (words_of_zero d) (nulls q)

-- The elements before the i-th are filled: Y replaces X, and its elements from the i-th on are
-- still blank.
record FilledTo (S R : Segments) (s p d q : ℕ) (a : Target) (X Y : Elements) (i : ℕ) : Type 0 where
  pub replaced : IsReplaced S R s p (Structs d q X) (Structs d q Y)
  pub left : AreBlank R s p d q a Y i
  pub same : element_count Y ≡ element_count X

elements_from : (S R : Segments) (s p d q : ℕ) (a : Target) (X es : Elements) (i : ℕ) → AreBlank S s p d q a X i → i + element_count es ≤ element_count X → AreElementsFilled S R a.segment (a.start + 1 + i * (d + q)) d q es →
    FilledTo S R s p d q a X (put_elements X i es) (i + element_count es)
elements_from S R s p d q a X no_elements i y fits same =
    subst (λ T. FilledTo S T s p d q a X X (i + 0)) (sym same)
    (record { replaced = unchanged S s p (Structs d q X) y.stored; left = record { stored = y.stored; leads = y.leads; blank = λ j l m. y.blank j (omega arith) m }; same = refl })
elements_from S R s p d q a X (element ws ts es) i y fits (M, ld, lq, first, rest) =
    let Z = put_struct X i (Struct ws ts) in
    let all : put_from (nulls q) 0 ts ≡ ts = ap (λ k. put_from (nulls k) 0 ts) (sym lq) ∙ put_all ts in
    let one : IsReplaced S M s p (Structs d q X) (Structs d q Z) × Leads M s p a = subst (λ us. IsReplaced S M s p (Structs d q X) (Structs d q (put_struct X i (Struct ws us))) × Leads M s p a) all
    (element_filled S M s p d q a X i ws ts y.stored y.leads (omega arith) (y.blank i (omega arith) (omega arith)) ld (le_of_eq lq) first) in
    let next_row : a.start + 1 + i * (d + q) + d + q ≡ a.start + 1 + (i + 1) * (d + q) = grind arith in
    let same = put_struct-count X i ws ts in
    let more = elements_from M R s p d q a Z es (i + 1) (record { stored = one.0.stored; leads = one.1; blank = λ j l m. put_struct-elsewhere X i j ws ts (omega arith) ∙ y.blank j (omega arith) (omega (arith, same)) }) (omega (arith, same))
    (subst (λ z. AreElementsFilled M R a.segment z d q es) next_row rest) in
    record {
      replaced = replaced_again S M R s p (Structs d q X) (Structs d q Z) _ one.0 more.replaced;
      left = record { stored = more.left.stored; leads = more.left.leads; blank = λ j l m. more.left.blank j (omega arith) m };
      same = more.same ∙ same;
    }

first_blank : (S : Segments) (s p d q n : ℕ) (a : Target) → IsStored S s p (Structs d q (zero_elements d q n)) → Leads S s p a → AreBlank S s p d q a (zero_elements d q n) 0
first_blank S s p d q n a y l = record { stored = y; leads = l; blank = λ j h m. blank_at d q n j (omega (arith, count-zero_elements d q n)) }

-- A list of blank structs gets all its elements.
pub elements_full : (S R : Segments) (s p d q n : ℕ) (a : Target) (es : Elements) → IsStored S s p (Structs d q (zero_elements d q n)) → Leads S s p a → element_count es ≡ n → AreElementsFilled S R a.segment (a.start + 1) d q es →
    IsReplaced S R s p (Structs d q (zero_elements d q n)) (Structs d q es)
elements_full S R s p d q n a es y l full f =
    let done = elements_from S R s p d q a (zero_elements d q n) es 0 (first_blank S s p d q n a y l) (omega (arith, full, count-zero_elements d q n)) (subst (λ z. AreElementsFilled S R a.segment z d q es) (let e : a.start + 1 ≡ a.start + 1 + 0 * (d + q) = omega arith in e) f) in
    subst (λ E. IsReplaced S R s p (Structs d q (zero_elements d q n)) (Structs d q E)) (ap (λ k. put_elements (zero_elements d q k) 0 es) (sym full) ∙ put_elements-all d q es) done.replaced

-- Or it gets some of them, and part of the next one.
pub elements_partly : (S R : Segments) (s p d q n : ℕ) (a : Target) → IsStored S s p (Structs d q (zero_elements d q n)) → Leads S s p a → ArePartlyFilled S R a.segment (a.start + 1) d q n → (y : Tree) × IsReplaced S R s p (Structs d q (zero_elements d q n)) y
elements_partly S R s p d q n a y l f =
    let es = f.elements in
    let i = element_count es in
    let X = zero_elements d q n in
    let Y = put_elements X 0 es in
    let done = elements_from S f.between s p d q a X es 0 (first_blank S s p d q n a y l) (omega (arith, f.fewer, count-zero_elements d q n)) (subst (λ z. AreElementsFilled S f.between a.segment z d q es) (let e : a.start + 1 ≡ a.start + 1 + 0 * (d + q) = omega arith in e) f.before) in
    let less : i < element_count Y = omega (arith, f.fewer, done.same, count-zero_elements d q n) in
    let last = element_filled f.between R s p d q a Y i f.words f.children done.left.stored done.left.leads less (done.left.blank i (omega arith) less) f.wide f.few f.last in
    (Structs d q (put_struct Y i (Struct f.words (put_from (nulls q) 0 f.children))), replaced_again S f.between R s p (Structs d q X) (Structs d q Y) _ done.replaced last.0)
