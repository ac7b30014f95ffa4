-- A list of pointers, of numbers or of void is made a list of structs: its elements are in a
-- larger, new object.
use Rattle.std.proofs.Common.{List, [], ap, arith, get_or, le_of_eq, length, pred, refl, subst, suc, sym, zero, ℕ, ◌*◌, ◌+◌, ◌<◌, ◌∙◌, ◌∷◌, ◌≡◌, ◌≤◌}
use Rattle.std.proofs.lemmas.List.{length-replicate}
use Rattle.capnp_format.specs.Segments.{HasWords, Segments, Target, word_at}
use Rattle.capnp_format.specs.Word.{list_count}
use Rattle.capnp_format.specs.Numbers.{words_for}
use Rattle.capnp_format.specs.Tree.{Elements, Flat, Pointers, Structs, Tree, Trees, count, element, element_count, no_elements, no_trees, tree}
use Rattle.capnp_format.specs.Means.{IsTag, ListAt, Means, MeansAll, MeansElements, count_cost}
use Rattle.capnp_format.specs.Forest.{AreTidy, AreTidyElements, Interval, cover, cover_all, cover_elements, object_of, pads_of, target, target_in, times}
use Rattle.capnp_format.specs.Path.{extent, struct_at, word_interval}
use Rattle.capnp_allocation.specs.Stored.{IsReplaced, IsStored}
use Rattle.capnp_in_place.specs.Moved.{IsMoved}
use Rattle.capnp_allocation.specs.Made.{nulls, words_of_zero, zero_elements}
use Rattle.capnp_in_place.specs.Widened.{fill_elements, fill_trees, fill_words, struct_for_each, struct_for_each_tree}
use Rattle.capnp_format.proofs.Frame.{SameWords, frame_all, frame_elements, times-append}
use Rattle.capnp_format.proofs.Slices.{moved}
use Rattle.capnp_allocation.proofs.Extents.{times-first, times-object}
use Rattle.capnp_allocation.proofs.Placed.{count-nulls}
use Rattle.capnp_allocation.proofs.PlacedStructs.{count-zero_elements}
use Rattle.capnp_allocation.proofs.Tidy.{tidy_kept_all, tidy_kept_elements}
use Rattle.capnp_in_place.proofs.MovedPointers.SameObjectSameValue.{moved_mean}
use Rattle.capnp_in_place.proofs.WiderObjects.RemadeKeeps.{Parts, grows_first, grows_last, inner_agrees, object_stands, reached_stands, rehoused}
use Rattle.capnp_in_place.proofs.WiderObjects.WidenedIsFilledUp.{count-fill_elements, count-fill_trees, filled, length-fill_words, moved_at, nulls_mean}
use Rattle.capnp_in_place.proofs.WiderObjects.RemadeElsewhere.{IsRehoused, pads_from, pads_in_rows, struct_data_words}

-- M has the elements fs. What their pointers reach is what the old ones reached, except for the
-- pads.
pub record RowsStand (M : Segments) (n v r d q : ℕ) (fs : Elements) (inner before after : List Interval) : Type 0 where
  pub cost : ℕ
  pub means : MeansElements M n v r d q fs cost
  pub covers : (x y : ℕ) → times (cover_elements M v r d q fs) x y + times before x y ≡ times inner x y + times after x y
  pub tidy : AreTidyElements M v r d q fs

-- The new list's tag, and the pointer to it.
pub record ListWritten (M Q : Segments) (u q : ℕ) (b : Target) (i d k : ℕ) : Type 0 where
  pub tag : IsTag (word_at M b.segment b.start) i d k
  pub leads_there : ListAt Q u q b 7 (i * (d + k))

-- The value there, of any kind, is now a list of structs.
pub list_stands : (S M Q : Segments) (u q : ℕ) (t : Tree) (a : Target) (size : ℕ) (inner : List Interval) (b : Target) (d k : ℕ) (fs : Elements) (before after fresh : List Interval) (n : ℕ) →
    0 < n → IsStored S u q t → Parts S u q t a size inner → IsRehoused S M Q u q a size b (1 + element_count fs * (d + k)) before after fresh →
    RowsStand M (pred n) b.segment (b.start + 1) d k fs inner before after → ListWritten M Q u q b (element_count fs) d k → IsReplaced S Q u q t (Structs d k fs)
list_stands S M Q u q t a size inner b d k fs before after fresh n some x parts h rows y =
    let wide = 1 + element_count fs * (d + k) in
    let then = grows_last S M Q u q a size b wide before after fresh h in
    let reached = cover_elements M b.segment (b.start + 1) d k fs in
    let object_same = object_stands S M Q u q a size b wide before after fresh h t inner x parts in
    let cover_agree = reached_stands S M Q u q a size b wide before after fresh h t inner x parts reached rows.covers in
    let rows_same : SameWords M Q b.segment (b.start + 1) (element_count fs * (d + k)) = λ v i j. object_same v (omega arith) (omega arith) in
    let last = frame_elements fs then (omega (arith, h.claim)) rows_same cover_agree (record { means = rows.means }) in
    let tag_same : word_at Q b.segment b.start ≡ word_at M b.segment b.start = object_same b.start (omega arith) (omega arith) in
    rehoused S M Q u q a size b wide before after fresh h t inner x parts reached (Structs d k fs) n (b.pads + (element_count fs * (d + k) + 1) + count_cost (d + k) (element_count fs) + rows.cost) rows.covers
    (λ v z. omega (
      arith,
      times-first (word_interval u q) (cover Q u q (Structs d k fs)) v z,
      times-object Q u q wide b (λ w. cover_elements Q w.segment (w.start + 1) d k fs) v z y.leads_there.leads_to.1,
      ap (λ is. times is v z) last.1,
    )) (
      b,
      element_count fs * (d + k),
      rows.cost,
      some,
      y.leads_there,
      omega (arith, h.claim, then.words b.segment),
      subst (λ z. IsTag z (element_count fs) d k) (sym tag_same) y.tag,
      le_of_eq refl,
      last.0,
      refl,
    )
    (subst (λ w. (list_count w.word ≡ element_count fs * (d + k)) × AreTidyElements Q w.segment (w.start + 1) d k fs) (sym (ap target_in y.leads_there.leads_to.1)) (
      y.leads_there.counts,
      tidy_kept_elements M Q (pred n) b.segment (b.start + 1) d k fs rows.cost then rows_same cover_agree rows.means rows.tidy,
    ))

-- Rows of a list of structs, rewritten in wider rows.
pub record RowsWritten (M : Segments) (s p d q v r e k : ℕ) (es : Elements) : Type 0 where
  pub words : (i : ℕ) → i < element_count es → HasWords M v (r + i * (e + k)) (fill_words e (struct_data_words (struct_at es i)))
  pub moved : (i j : ℕ) → i < element_count es → j < q → IsMoved M s (p + i * (d + q) + d + j) v (r + i * (e + k) + e + j)
  pub nulls_behind : (i j : ℕ) → i < element_count es → q ≤ j → j < k → word_at M v (r + i * (e + k) + e + j) ≡ 0

record StructRowsMean (S : Segments) (n s p d q v r e k : ℕ) (es : Elements) : Type 0 where
  cost : ℕ
  means : MeansElements S n v r (e) (k) (fill_elements e k es) cost
  covers : (x y : ℕ) →
      times (cover_elements S v r (e) (k) (fill_elements e k es)) x y + times (pads_in_rows S s (p + d) (d + q) q (element_count es)) x y
      ≡ times (cover_elements S s p d q es) x y + times (pads_in_rows S v (r + e) (e + k) q (element_count es)) x y
  tidy : AreTidyElements S s p d q es → AreTidyElements S v r (e) (k) (fill_elements e k es)

next_struct_rows : (M : Segments) (s p d q v r e k : ℕ) (ws : List ℕ) (ts : Trees) (es : Elements) → RowsWritten M s p d q v r e k (element ws ts es) → RowsWritten M s (p + d + q) d q v (r + e + k) e k es
next_struct_rows M s p d q v r e k ws ts es h = record {
  words = λ i l. moved M v _ _ (fill_words e (struct_data_words (struct_at es i))) (let z : r + suc i * (e + k) ≡ r + e + k + i * (e + k) = omega arith in z) (h.words (suc i) (omega arith));
  moved = λ i j l m. moved_at M s _ _ v _ _ (let z : p + suc i * (d + q) + d + j ≡ p + d + q + i * (d + q) + d + j = omega arith in z)
      (let z : r + suc i * (e + k) + e + j ≡ r + e + k + i * (e + k) + e + j = omega arith in z) (h.moved (suc i) j (omega arith) m);
  nulls_behind = λ i j l m f. subst (λ z. word_at M v z ≡ 0) (let z : r + suc i * (e + k) + e + j ≡ r + e + k + i * (e + k) + e + j = omega arith in z) (h.nulls_behind (suc i) j (omega arith) m f);
}

struct_rows_mean : (S : Segments) (n s p d q v r e k : ℕ) (es : Elements) (c : ℕ) → d ≤ e → q ≤ k → RowsWritten S s p d q v r e k es → MeansElements S n s p d q es c → StructRowsMean S n s p d q v r e k es
struct_rows_mean S n s p d q v r e k no_elements c wide more h m = record { cost = 0; means = refl; covers = λ x y. refl; tidy = λ y. tt }
struct_rows_mean S n s p d q v r e k (element ws ts es) c wide more h (a, b, long, len, words, all, rest, g) =
    let new = moved_mean S n s (p + d) v (r + e) ts a
    (λ j l. moved_at S s _ _ v _ _ (let z : p + 0 * (d + q) + d + j ≡ p + d + j = omega arith in z) (let z : r + 0 * (e + k) + e + j ≡ r + e + j = omega arith in z) (h.moved 0 j (omega arith) (omega arith))) all in
    let full = filled S n v (r + e) k ts new.cost new.means (λ j l f. subst (λ z. word_at S v z ≡ 0) (let z : r + 0 * (e + k) + e + j ≡ r + e + j = omega arith in z) (h.nulls_behind 0 j (omega arith) (omega arith) (omega (arith, count-fill_trees k ts)))) in
    let others = struct_rows_mean S n s (p + d + q) d q v (r + e + k) e k es b wide more (next_struct_rows S s p d q v r e k ws ts es h) rest in
    let here = ap (λ z. pads_from S s (p + d) z) len in
    let there = ap (λ z. pads_from S v (r + e) z) len in
    record {
      cost = new.cost + others.cost;
      means = (
        new.cost,
        others.cost,
        omega (arith, length-fill_words e ws),
        omega (arith, count-fill_trees k ts),
        moved S v _ _ (fill_words e ws) (let z : r + 0 * (e + k) ≡ r = omega arith in z) (h.words 0 (omega arith)),
        full.means,
        others.means,
        refl,
      );
      covers = λ x y. omega (
        arith,
        times-append (cover_all S v (r + e) (fill_trees k ts)) (cover_elements S v (r + e + k) e k (fill_elements e k es)) x y,
        times-append (cover_all S s (p + d) ts) (cover_elements S s (p + d + q) d q es) x y,
        times-append (pads_from S s (p + d) q) (pads_in_rows S s (p + d + (d + q)) (d + q) q (element_count es)) x y,
        times-append (pads_from S v (r + e) q) (pads_in_rows S v (r + e + (e + k)) (e + k) q (element_count es)) x y,
        ap (λ is. times is x y) full.covers,
        ap (λ is. times is x y) here,
        ap (λ is. times is x y) there,
        new.covers x y,
        others.covers x y,
        ap (λ z. times (pads_in_rows S s z (d + q) q (element_count es)) x y) (let z : p + d + (d + q) ≡ p + d + q + d = omega arith in z),
        ap (λ z. times (pads_in_rows S v z (e + k) q (element_count es)) x y) (let z : r + e + (e + k) ≡ r + e + k + e = omega arith in z),
      );
      tidy = λ y. (full.tidy (new.tidy y.0), others.tidy y.1);
    }

-- A list of structs is widened.
pub structs_widened : (S M Q : Segments) (u q d k : ℕ) (es : Elements) (e f : ℕ) (b : Target) (fresh : List Interval) → d ≤ e → k ≤ f → IsStored S u q (Structs d k es) →
    IsRehoused S M Q u q (target S u q) (1 + element_count es * (d + k)) b (1 + element_count es * (e + f)) (pads_in_rows M (target S u q).segment ((target S u q).start + 1 + d) (d + k) k (element_count es))
    (pads_in_rows M b.segment (b.start + 1 + e) (e + f) k (element_count es)) fresh →
    RowsWritten M (target S u q).segment ((target S u q).start + 1) d k b.segment (b.start + 1) e f es → ListWritten M Q u q b (element_count es) e f → IsReplaced S Q u q (Structs d k es) (Structs e f (fill_elements e f es))
structs_widened S M Q u q d k es e f b fresh wide more x r w y = at_level x.means.0 x.means.1 x.means.2
  where
    at_level : (n c : ℕ) → Means S n u q (Structs d k es) c → IsReplaced S Q u q (Structs d k es) (Structs e f (fill_elements e f es))
    at_level n c (a, m, l, some, o, claim, tag, fits, all, g) =
        let number = element_count es in
        let fs = fill_elements e f es in
        let counts = count-fill_elements e f es in
        let size = 1 + number * (d + k) in
        let long = 1 + number * (e + f) in
        let here = ap target_in o.leads_to.1 in
        let before = pads_in_rows M a.segment (a.start + 1 + d) (d + k) k number in
        let after = pads_in_rows M b.segment (b.start + 1 + e) (e + f) k number in
        let inner = cover_elements S a.segment (a.start + 1) d k es in
        let h = subst (λ t. IsRehoused S M Q u q t size b long (pads_in_rows M t.segment (t.start + 1 + d) (d + k) k number) after fresh) here r in
        let rows = subst (λ t. RowsWritten M t.segment (t.start + 1) d k b.segment (b.start + 1) e f es) here w in
        let parts = λ (v z : ℕ). (let p : times (extent S u q (Structs d k es)) v z ≡ times (word_interval u q ∷ []) v z + times (pads_of (word_at S u q)) v z + times (object_of a size ∷ []) v z + times inner v z =
        omega (arith, times-first (word_interval u q) (cover S u q (Structs d k es)) v z, times-object S u q size a (λ w. cover_elements S w.segment (w.start + 1) d k es) v z o.leads_to.1) in p) in
        let first = grows_first S M Q u q a size b long before after fresh h in
        let old_same : SameWords S M a.segment (a.start + 1) (number * (d + k)) = λ v i j. h.extends a.segment v (omega arith) in
        let old_agree = inner_agrees S M Q u q a size b long before after fresh h (Structs d k es) inner x parts in
        let old = frame_elements es first (omega arith) old_same old_agree (record { means = all }) in
        let new = struct_rows_mean M (pred n) a.segment (a.start + 1) d k b.segment (b.start + 1) e f es l wide more rows old.0 in
        let old_tidy = tidy_kept_elements S M (pred n) a.segment (a.start + 1) d k es l first old_same old_agree all (subst (λ t. (list_count t.word ≡ number * (d + k)) × AreTidyElements S t.segment (t.start + 1) d k es) here x.tidy).1 in
        list_stands S M Q u q (Structs d k es) a size inner b e f fs before after fresh n some x parts
        (subst (λ z. IsRehoused S M Q u q a size b (1 + z * (e + f)) before after fresh) (sym counts) h)
        (record { cost = new.cost; means = new.means; covers = λ v z. omega (arith, ap (λ is. times is v z) old.1, new.covers v z); tidy = new.tidy old_tidy })
        (subst (λ z. ListWritten M Q u q b z e f) (sym counts) y)

-- Each pointer is rewritten as the first one of a struct.
pub record PointersInRows (M : Segments) (s p v r d k : ℕ) (ts : Trees) : Type 0 where
  pub words : (i : ℕ) → i < count ts → HasWords M v (r + i * (d + k)) (words_of_zero d)
  pub moved : (i : ℕ) → i < count ts → IsMoved M s (p + i) v (r + i * (d + k) + d)
  pub nulls_behind : (i j : ℕ) → i < count ts → 0 < j → j < k → word_at M v (r + i * (d + k) + d + j) ≡ 0

record RowsMeanToo (M : Segments) (n s p v r d k : ℕ) (ts : Trees) : Type 0 where
  cost : ℕ
  means : MeansElements M n v r d (k) (struct_for_each_tree d k ts) cost
  covers : (x y : ℕ) →
      times (cover_elements M v r d (k) (struct_for_each_tree d k ts)) x y + times (pads_from M s p (count ts)) x y ≡ times (cover_all M s p ts) x y + times (pads_in_rows M v (r + d) (d + k) 1 (count ts)) x y
  tidy : AreTidy M s p ts → AreTidyElements M v r d (k) (struct_for_each_tree d k ts)

next_rows : (M : Segments) (s p v r d k : ℕ) (t : Tree) (ts : Trees) → PointersInRows M s p v r d k (tree t ts) → PointersInRows M s (p + 1) v (r + d + k) d k ts
next_rows M s p v r d k t ts h = record {
  words = λ i l. moved M v _ _ (words_of_zero d) (let z : r + suc i * (d + k) ≡ r + d + k + i * (d + k) = omega arith in z) (h.words (suc i) (omega arith));
  moved = λ i l. moved_at M s _ _ v _ _ (let z : p + suc i ≡ p + 1 + i = omega arith in z) (let z : r + suc i * (d + k) + d ≡ r + d + k + i * (d + k) + d = omega arith in z) (h.moved (suc i) (omega arith));
  nulls_behind = λ i j l m f. subst (λ z. word_at M v z ≡ 0) (let z : r + suc i * (d + k) + d + j ≡ r + d + k + i * (d + k) + d + j = omega arith in z) (h.nulls_behind (suc i) j (omega arith) m f);
}

pub count-struct_for_each_tree : (d k : ℕ) (ts : Trees) → element_count (struct_for_each_tree d k ts) ≡ count ts
count-struct_for_each_tree d k no_trees = refl
count-struct_for_each_tree d k (tree t ts) = ap suc (count-struct_for_each_tree d k ts)

rows_mean : (M : Segments) (n s p v r d k : ℕ) (ts : Trees) (c : ℕ) → 0 < k → PointersInRows M s p v r d k ts → MeansAll M n s p ts c → RowsMeanToo M n s p v r d k ts
rows_mean M n s p v r d k no_trees c some h m = record { cost = 0; means = refl; covers = λ x y. refl; tidy = λ y. tt }
rows_mean M n s p v r d k (tree t ts) c some h (a, b, one, rest, g) =
    let first = tree t no_trees in
    let new = moved_mean M n s p v (r + d) first (a + 0)
    (λ j l. moved_at M s _ _ v _ _ (let z : p + 0 ≡ p + j = omega arith in z) (let z : r + 0 * (d + k) + d ≡ r + d + j = omega arith in z) (h.moved 0 (omega arith))) (a, 0, one, refl, refl) in
    let full = filled M n v (r + d) k first new.cost new.means
    (λ j l f. subst (λ z. word_at M v z ≡ 0) (let z : r + 0 * (d + k) + d + j ≡ r + d + j = omega arith in z) (h.nulls_behind 0 j (omega arith) (omega arith) (omega (arith, count-fill_trees k first)))) in
    let others = rows_mean M n s (p + 1) v (r + d + k) d k ts b some (next_rows M s p v r d k t ts h) rest in
    record {
      cost = new.cost + others.cost;
      means = (
        new.cost,
        others.cost,
        length-replicate d 0,
        omega (arith, count-fill_trees k first),
        moved M v _ _ (words_of_zero d) (let z : r + 0 * (d + k) ≡ r = omega arith in z) (h.words 0 (omega arith)),
        full.means,
        others.means,
        refl,
      );
      covers = λ x y. omega (
        arith,
        times-append (cover_all M v (r + d) (fill_trees k first)) (cover_elements M v (r + d + k) d k (struct_for_each_tree d k ts)) x y,
        times-append (cover M s p t) (cover_all M s (p + 1) ts) x y,
        times-append (cover M s p t) [] x y,
        times-append (pads_of (word_at M s p)) (pads_from M s (p + 1) (count ts)) x y,
        times-append (pads_of (word_at M s p)) [] x y,
        times-append (pads_from M v (r + d) 1) (pads_in_rows M v (r + d + (d + k)) (d + k) 1 (count ts)) x y,
        ap (λ is. times is x y) full.covers,
        new.covers x y,
        others.covers x y,
        ap (λ z. times (pads_in_rows M v z (d + k) 1 (count ts)) x y) (let z : r + d + (d + k) ≡ r + d + k + d = omega arith in z),
      );
      tidy = λ y. (full.tidy (new.tidy (y.0, tt)), others.tidy y.1);
    }

-- A list of pointers is made a list of structs: each pointer is the first one of a struct of d zero
-- words and k pointers.
pub pointers_widened : (S M Q : Segments) (u q : ℕ) (ts : Trees) (d k : ℕ) (b : Target) (fresh : List Interval) → 0 < k → IsStored S u q (Pointers ts) →
    IsRehoused S M Q u q (target S u q) (count ts) b (1 + count ts * (d + k)) (pads_from M (target S u q).segment (target S u q).start (count ts)) (pads_in_rows M b.segment (b.start + 1 + d) (d + k) 1 (count ts)) fresh →
    PointersInRows M (target S u q).segment (target S u q).start b.segment (b.start + 1) d k ts → ListWritten M Q u q b (count ts) d (k) → IsReplaced S Q u q (Pointers ts) (Structs d (k) (struct_for_each_tree d k ts))
pointers_widened S M Q u q ts d k b fresh more x r w y = at_level x.means.0 x.means.1 x.means.2
  where
    at_level : (n c : ℕ) → Means S n u q (Pointers ts) c → IsReplaced S Q u q (Pointers ts) (Structs d k (struct_for_each_tree d k ts))
    at_level n c (a, l, some, o, claim, all, g) =
        let fs = struct_for_each_tree d k ts in
        let counts = count-struct_for_each_tree d k ts in
        let wide = 1 + count ts * (d + k) in
        let here = ap target_in o.leads_to.1 in
        let before = pads_from M a.segment a.start (count ts) in
        let after = pads_in_rows M b.segment (b.start + 1 + d) (d + k) 1 (count ts) in
        let inner = cover_all S a.segment a.start ts in
        let h = subst (λ t. IsRehoused S M Q u q t (count ts) b wide (pads_from M t.segment t.start (count ts)) after fresh) here r in
        let f = subst (λ t. PointersInRows M t.segment t.start b.segment (b.start + 1) d k ts) here w in
        let parts = λ (v z : ℕ). (let p : times (extent S u q (Pointers ts)) v z ≡ times (word_interval u q ∷ []) v z + times (pads_of (word_at S u q)) v z + times (object_of a (count ts) ∷ []) v z + times inner v z =
        omega (arith, times-first (word_interval u q) (cover S u q (Pointers ts)) v z, times-object S u q (count ts) a (λ w. cover_all S w.segment w.start ts) v z o.leads_to.1) in p) in
        let first = grows_first S M Q u q a (count ts) b wide before after fresh h in
        let old_same : SameWords S M a.segment a.start (count ts) = λ v i j. h.extends a.segment v (omega arith) in
        let old_agree = inner_agrees S M Q u q a (count ts) b wide before after fresh h (Pointers ts) inner x parts in
        let old = frame_all ts first old_same old_agree (record { means = all }) in
        let new = rows_mean M (pred n) a.segment a.start b.segment (b.start + 1) d k ts l more f old.0 in
        let old_tidy = tidy_kept_all S M (pred n) a.segment a.start ts l first old_same old_agree all (subst (λ t. AreTidy S t.segment t.start ts) here x.tidy) in
        list_stands S M Q u q (Pointers ts) a (count ts) inner b d k fs before after fresh n some x parts
        (subst (λ z. IsRehoused S M Q u q a (count ts) b (1 + z * (d + k)) before after fresh) (sym counts) h)
        (record { cost = new.cost; means = new.means; covers = λ v z. omega (arith, ap (λ is. times is v z) old.1, new.covers v z); tidy = new.tidy old_tidy })
        (subst (λ z. ListWritten M Q u q b z d k) (sym counts) y)

-- Each element has d words, and k children, which are Null.
abbrev pub AreBlank : ℕ → ℕ → Elements → Type 0
AreBlank d k no_elements = Unit {0}
AreBlank d k (element ws ts es) = (length ws ≡ d) × (ts ≡ nulls k) × AreBlank d k es

-- Elements whose children are Null, and the words that are written for them.
pub record BlankRows (M : Segments) (v r d k : ℕ) (es : Elements) : Type 0 where
  pub words : (i : ℕ) → i < element_count es → HasWords M v (r + i * (d + k)) (struct_data_words (struct_at es i))
  pub nulls_behind : (i j : ℕ) → i < element_count es → j < k → word_at M v (r + i * (d + k) + d + j) ≡ 0

next_blank : (M : Segments) (v r d k : ℕ) (ws : List ℕ) (ts : Trees) (es : Elements) → BlankRows M v r d k (element ws ts es) → BlankRows M v (r + d + k) d k es
next_blank M v r d k ws ts es h = record {
  words = λ i l. moved M v _ _ (struct_data_words (struct_at es i)) (let z : r + suc i * (d + k) ≡ r + d + k + i * (d + k) = omega arith in z) (h.words (suc i) (omega arith));
  nulls_behind = λ i j l m. subst (λ z. word_at M v z ≡ 0) (let z : r + suc i * (d + k) + d + j ≡ r + d + k + i * (d + k) + d + j = omega arith in z) (h.nulls_behind (suc i) j (omega arith) m);
}

blank_mean : (M : Segments) (n v r d k : ℕ) (es : Elements) → AreBlank d k es → BlankRows M v r d k es → RowsStand M n v r d k es [] [] []
blank_mean M n v r d k no_elements blank h = record { cost = 0; means = refl; covers = λ x y. refl; tidy = tt }
blank_mean M n v r d k (element ws ts es) (long, none, blank) h =
    let here = nulls_mean M n v (r + d) k (λ j l. subst (λ z. word_at M v z ≡ 0) (let z : r + 0 * (d + k) + d + j ≡ r + d + j = omega arith in z) (h.nulls_behind 0 j (omega arith) l)) in
    let others = blank_mean M n v (r + d + k) d k es blank (next_blank M v r d k ws ts es h) in
    record {
      cost = others.cost;
      means = (
        0,
        others.cost,
        long,
        ap count none ∙ count-nulls k,
        moved M v _ _ ws (let z : r + 0 * (d + k) ≡ r = omega arith in z) (h.words 0 (omega arith)),
        subst (λ us. MeansAll M n v (r + d) us 0) (sym none) here.0,
        others.means,
        omega arith,
      );
      covers = λ x y. omega (
        arith,
        times-append (cover_all M v (r + d) ts) (cover_elements M v (r + d + k) d k es) x y,
        ap (λ us. times (cover_all M v (r + d) us) x y) none,
        ap (λ is. times is x y) here.1,
        others.covers x y,
      );
      tidy = (subst (λ us. AreTidy M v (r + d) us) (sym none) here.2, others.tidy);
    }

-- A list of numbers is made a list of structs without children.
pub flat_widened : (S M Q : Segments) (u q size : ℕ) (ns : List ℕ) (d k : ℕ) (fs : Elements) (b : Target) (fresh : List Interval) → AreBlank d k fs → IsStored S u q (Flat size ns) →
    IsRehoused S M Q u q (target S u q) (words_for size (length ns)) b (1 + element_count fs * (d + k)) [] [] fresh →
    BlankRows M b.segment (b.start + 1) d k fs → ListWritten M Q u q b (element_count fs) d k → IsReplaced S Q u q (Flat size ns) (Structs d k fs)
flat_widened S M Q u q size ns d k fs b fresh blank x r w y = at_level x.means.0 x.means.1 x.means.2
  where
    at_level : (n c : ℕ) → Means S n u q (Flat size ns) c → IsReplaced S Q u q (Flat size ns) (Structs d k fs)
    at_level n c (a, some, small, o, claim, e, g) =
        let here = ap target_in o.leads_to.1 in
        let long = words_for size (length ns) in
        let h = subst (λ t. IsRehoused S M Q u q t long b (1 + element_count fs * (d + k)) [] [] fresh) here r in
        let parts = λ (v z : ℕ). (let p : times (extent S u q (Flat size ns)) v z ≡ times (word_interval u q ∷ []) v z + times (pads_of (word_at S u q)) v z + times (object_of a long ∷ []) v z + times [] v z =
        omega (arith, times-first (word_interval u q) (cover S u q (Flat size ns)) v z, times-object S u q long a (λ w. []) v z o.leads_to.1) in p) in
        list_stands S M Q u q (Flat size ns) a long [] b d k fs [] [] fresh n some x parts h (blank_mean M (pred n) b.segment (b.start + 1) d k fs blank w) y

-- A struct for each number, which is in its first word; and structs of zeros.

blank_numbers : (d k : ℕ) (ns : List ℕ) → 0 < d → AreBlank d k (struct_for_each d k ns)
blank_numbers d k [] some = tt
blank_numbers d k (x ∷ xs) some = (omega (arith, length-fill_words d (x ∷ [])), refl, blank_numbers d k xs some)

pub count-struct_for_each : (d k : ℕ) (ns : List ℕ) → element_count (struct_for_each d k ns) ≡ length ns
count-struct_for_each d k [] = refl
count-struct_for_each d k (x ∷ xs) = ap suc (count-struct_for_each d k xs)

struct_of_number : (d k i : ℕ) (ns : List ℕ) → i < length ns → struct_data_words (struct_at (struct_for_each d k ns) i) ≡ fill_words d (get_or ns i 0 ∷ [])
struct_of_number d k i [] l = absurd (omega arith)
struct_of_number d k zero (x ∷ xs) l = refl
struct_of_number d k (suc i) (x ∷ xs) l = struct_of_number d k i xs (omega arith)

blank_zeros : (d k n : ℕ) → AreBlank d k (zero_elements d k n)
blank_zeros d k zero = tt
blank_zeros d k (suc n) = (length-replicate d 0, refl, blank_zeros d k n)

struct_of_zeros : (d k i n : ℕ) → i < n → struct_data_words (struct_at (zero_elements d k n) i) ≡ words_of_zero d
struct_of_zeros d k i zero l = absurd (omega arith)
struct_of_zeros d k zero (suc n) l = refl
struct_of_zeros d k (suc i) (suc n) l = struct_of_zeros d k i n (omega arith)

-- Each number is rewritten in the first word of a struct of d words and of k pointers,
-- which are null.
pub record NumbersInRows (M : Segments) (v r d k : ℕ) (ns : List ℕ) : Type 0 where
  pub words : (i : ℕ) → i < length ns → HasWords M v (r + i * (d + k)) (fill_words d (get_or ns i 0 ∷ []))
  pub nulls_behind : (i j : ℕ) → i < length ns → j < k → word_at M v (r + i * (d + k) + d + j) ≡ 0

pub numbers_widened : (S M Q : Segments) (u q size : ℕ) (ns : List ℕ) (d k : ℕ) (b : Target) (fresh : List Interval) → 0 < d → IsStored S u q (Flat size ns) →
    IsRehoused S M Q u q (target S u q) (words_for size (length ns)) b (1 + length ns * (d + k)) [] [] fresh →
    NumbersInRows M b.segment (b.start + 1) d k ns → ListWritten M Q u q b (length ns) d k → IsReplaced S Q u q (Flat size ns) (Structs d k (struct_for_each d k ns))
numbers_widened S M Q u q size ns d k b fresh some x r w y =
    let fs = struct_for_each d k ns in
    let counts = count-struct_for_each d k ns in
    flat_widened S M Q u q size ns d k fs b fresh (blank_numbers d k ns some) x
    (subst (λ z. IsRehoused S M Q u q (target S u q) (words_for size (length ns)) b (1 + z * (d + k)) [] [] fresh) (sym counts) r)
    (record {
      words = λ i l. subst (λ z. HasWords M b.segment (b.start + 1 + i * (d + k)) z) (sym (struct_of_number d k i ns (omega (arith, counts)))) (w.words i (omega (arith, counts)));
      nulls_behind = λ i j l f. w.nulls_behind i j (omega (arith, counts)) f;
    })
    (subst (λ z. ListWritten M Q u q b z d k) (sym counts) y)

-- n structs of d zero words and k null pointers.
pub record ZerosInRows (M : Segments) (v r d k n : ℕ) : Type 0 where
  pub words : (i : ℕ) → i < n → HasWords M v (r + i * (d + k)) (words_of_zero d)
  pub nulls_behind : (i j : ℕ) → i < n → j < k → word_at M v (r + i * (d + k) + d + j) ≡ 0

pub void_widened : (S M Q : Segments) (u q : ℕ) (ns : List ℕ) (d k : ℕ) (b : Target) (fresh : List Interval) → IsStored S u q (Flat 0 ns) →
    IsRehoused S M Q u q (target S u q) 0 b (1 + length ns * (d + k)) [] [] fresh →
    ZerosInRows M b.segment (b.start + 1) d k (length ns) → ListWritten M Q u q b (length ns) d k → IsReplaced S Q u q (Flat 0 ns) (Structs d k (zero_elements d k (length ns)))
void_widened S M Q u q ns d k b fresh x r w y =
    let fs = zero_elements d k (length ns) in
    let counts = count-zero_elements d k (length ns) in
    let none : 0 ≡ words_for 0 (length ns) = omega arith in
    flat_widened S M Q u q 0 ns d k fs b fresh (blank_zeros d k (length ns)) x
    (subst (λ z. IsRehoused S M Q u q (target S u q) (words_for 0 (length ns)) b (1 + z * (d + k)) [] [] fresh) (sym counts)
    (subst (λ z. IsRehoused S M Q u q (target S u q) z b (1 + length ns * (d + k)) [] [] fresh) none r))
    (record {
      words = λ i l. subst (λ z. HasWords M b.segment (b.start + 1 + i * (d + k)) z) (sym (struct_of_zeros d k i (length ns) (omega (arith, counts)))) (w.words i (omega (arith, counts)));
      nulls_behind = λ i j l f. w.nulls_behind i j (omega (arith, counts)) f;
    })
    (subst (λ z. ListWritten M Q u q b z d k) (sym counts) y)
