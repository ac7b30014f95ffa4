-- A struct, or a list of structs, is widened: its words and pointers are in a larger, new object,
-- and its place means it filled up with zeros and Nulls.
use Rattle.std.proofs.Common.{List, [], ap, arith, le_trans, length, length-append, max, pred, refl, subst, suc, sym, zero, ℕ, ◌++◌, ◌+◌, ◌-◌, ◌<◌, ◌∷◌, ◌≡◌, ◌≤◌}
use Rattle.std.proofs.lemmas.List.{length-replicate}
use Rattle.capnp_format.specs.Segments.{HasWords, Segments, Target, word_at}
use Rattle.capnp_format.specs.Tree.{Elements, Struct, Trees, count, element, element_count, no_elements, no_trees, tree}
use Rattle.capnp_format.specs.Means.{Means, MeansAll, StructAt}
use Rattle.capnp_format.specs.Forest.{AreTidy, Interval, cover, cover_all, object_of, pads_of, target, target_in, times}
use Rattle.capnp_format.specs.Path.{extent, word_interval}
use Rattle.capnp_allocation.specs.Stored.{IsReplaced, IsStored}
use Rattle.capnp_in_place.specs.Moved.{IsMoved}
use Rattle.capnp_allocation.specs.Made.{nulls, words_of_zero}
use Rattle.capnp_in_place.specs.Widened.{fill_elements, fill_trees, fill_words}
use Rattle.capnp_format.proofs.Frame.{SameWords, frame_all, has_words_kept}
use Rattle.capnp_allocation.proofs.Extents.{times-first, times-object}
use Rattle.capnp_allocation.proofs.Placed.{count-nulls}
use Rattle.capnp_allocation.proofs.Tidy.{tidy_kept_all}
use Rattle.capnp_in_place.proofs.MovedPointers.SameObjectSameValue.{moved_mean}
use Rattle.capnp_in_place.proofs.WiderObjects.RemadeKeeps.{grows_first, grows_last, inner_agrees, object_stands, reached_stands, rehoused}
use Rattle.capnp_in_place.proofs.WiderObjects.RemadeElsewhere.{IsRehoused, pads_from}

pub length-fill_words : (d : ℕ) (ws : List ℕ) → length (fill_words d ws) ≡ max (length ws) d
length-fill_words d ws = omega (arith, length-append ws (words_of_zero (d - length ws)), length-replicate {A = ℕ} (d - length ws) 0)

pub count-fill_trees : (k : ℕ) (ts : Trees) → count (fill_trees k ts) ≡ max (count ts) k
count-fill_trees k no_trees = omega (arith, count-nulls k)
count-fill_trees zero (tree t ts) = omega arith
count-fill_trees (suc k) (tree t ts) = omega (arith, count-fill_trees k ts)

pub count-fill_elements : (d q : ℕ) (es : Elements) → element_count (fill_elements d q es) ≡ element_count es
count-fill_elements d q no_elements = refl
count-fill_elements d q (element ws ts es) = ap suc (count-fill_elements d q es)

pub record Filled (S : Segments) (n s p k : ℕ) (ts : Trees) (c : ℕ) : Type 0 where
  pub means : MeansAll S n s p (fill_trees k ts) c
  pub covers : cover_all S s p (fill_trees k ts) ≡ cover_all S s p ts
  pub tidy : AreTidy S s p ts → AreTidy S s p (fill_trees k ts)

pub nulls_mean : (S : Segments) (n s p k : ℕ) → ((i : ℕ) → i < k → word_at S s (p + i) ≡ 0) → MeansAll S n s p (nulls k) 0 × (cover_all S s p (nulls k) ≡ []) × AreTidy S s p (nulls k)
nulls_mean S n s p zero h = (refl, refl, tt)
nulls_mean S n s p (suc k) h =
    let rest = nulls_mean S n s (p + 1) k (λ i l. subst (λ z. word_at S s z ≡ 0) (let e : p + suc i ≡ p + 1 + i = omega arith in e) (h (suc i) (omega arith))) in
    ((0, 0, (subst (λ z. word_at S s z ≡ 0) (let e : p + 0 ≡ p = omega arith in e) (h 0 (omega arith)), refl), rest.0, refl), rest.1, (tt, rest.2))

-- Pointers with null words after them.
pub filled : (S : Segments) (n s p k : ℕ) (ts : Trees) (c : ℕ) → MeansAll S n s p ts c → ((i : ℕ) → count ts ≤ i → i < count (fill_trees k ts) → word_at S s (p + i) ≡ 0) → Filled S n s p k ts c
filled S n s p k no_trees c m h =
    let r = nulls_mean S n s p k (λ i l. h i (omega arith) (omega (arith, count-nulls k))) in
    record { means = subst (λ z. MeansAll S n s p (nulls k) z) (sym m) r.0; covers = r.1; tidy = λ y. r.2 }
filled S n s p zero (tree t ts) c m h = record { means = m; covers = refl; tidy = λ y. y }
filled S n s p (suc k) (tree t ts) c (a, b, one, rest, g) h =
    let r = filled S n s (p + 1) k ts b rest (λ i l m. subst (λ z. word_at S s z ≡ 0) (let e : p + suc i ≡ p + 1 + i = omega arith in e) (h (suc i) (omega arith) (omega arith))) in
    record { means = (a, b, one, r.means, g); covers = ap (λ is. cover S s p t ++ is) r.covers; tidy = λ y. (y.0, r.tidy y.1) }

-- The new object of a struct, once it is written.
pub record StructWritten (M Q : Segments) (u q : ℕ) (a : Target) (ws vs : List ℕ) (ts : Trees) (k : ℕ) (b : Target) : Type 0 where
  pub words : HasWords M b.segment b.start vs
  pub moved : (i : ℕ) → i < count ts → IsMoved M a.segment (a.start + length ws + i) b.segment (b.start + length vs + i)
  pub nulls_behind : (i : ℕ) → count ts ≤ i → i < count (fill_trees k ts) → word_at M b.segment (b.start + length vs + i) ≡ 0
  pub leads_there : StructAt Q u q b (length vs) (count (fill_trees k ts))

pub struct_widened : (S M Q : Segments) (u q : ℕ) (ws vs : List ℕ) (ts : Trees) (k : ℕ) (b : Target) (fresh : List Interval) → IsStored S u q (Struct ws ts) →
    IsRehoused S M Q u q (target S u q) (length ws + count ts) b (length vs + count (fill_trees k ts)) (pads_from M (target S u q).segment ((target S u q).start + length ws) (count ts)) (pads_from M b.segment (b.start + length vs) (count ts)) fresh →
    StructWritten M Q u q (target S u q) ws vs ts k b → IsReplaced S Q u q (Struct ws ts) (Struct vs (fill_trees k ts))
struct_widened S M Q u q ws vs ts k b fresh x r w = at_level x.means.0 x.means.1 x.means.2
  where
    at_level : (n c : ℕ) → Means S n u q (Struct ws ts) c → IsReplaced S Q u q (Struct ws ts) (Struct vs (fill_trees k ts))
    at_level n c (a, l, some, o, claim, e, all, g) =
        let us = fill_trees k ts in
        let from = a.start + length ws in
        let to = b.start + length vs in
        let size = length ws + count ts in
        let wide = length vs + count us in
        let here = ap target_in o.leads_to.1 in
        let before = pads_from M a.segment from (count ts) in
        let after = pads_from M b.segment to (count ts) in
        let inner = cover_all S a.segment from ts in
        let h = subst (λ t. IsRehoused S M Q u q t size b wide (pads_from M t.segment (t.start + length ws) (count ts)) after fresh) here r in
        let f = subst (λ t. StructWritten M Q u q t ws vs ts k b) here w in
        let parts = λ (y z : ℕ). (let p : times (extent S u q (Struct ws ts)) y z ≡ times (word_interval u q ∷ []) y z + times (pads_of (word_at S u q)) y z + times (object_of a size ∷ []) y z + times inner y z =
        omega (arith, times-first (word_interval u q) (cover S u q (Struct ws ts)) y z, times-object S u q size a (λ w. cover_all S w.segment (w.start + length ws) ts) y z o.leads_to.1) in p) in
        let first = grows_first S M Q u q a size b wide before after fresh h in
        let then = grows_last S M Q u q a size b wide before after fresh h in
        let old_same : SameWords S M a.segment from (count ts) = λ y v w. h.extends a.segment y (omega arith) in
        let old_agree = inner_agrees S M Q u q a size b wide before after fresh h (Struct ws ts) inner x parts in
        let old = frame_all ts first old_same old_agree (record { means = all }) in
        let new = moved_mean M (pred n) a.segment from b.segment to ts l f.moved old.0 in
        let full = filled M (pred n) b.segment to k ts new.cost new.means f.nulls_behind in
        let reached = cover_all M b.segment to us in
        let sum = λ (y z : ℕ). (let p : times reached y z + times before y z ≡ times inner y z + times after y z = omega (arith, ap (λ is. times is y z) old.1, new.covers y z, ap (λ is. times is y z) full.covers) in p) in
        let object_same = object_stands S M Q u q a size b wide before after fresh h (Struct ws ts) inner x parts in
        let cover_agree = reached_stands S M Q u q a size b wide before after fresh h (Struct ws ts) inner x parts reached sum in
        let pointers_same : SameWords M Q b.segment to (count us) = λ y v w. object_same y (omega arith) (omega arith) in
        let last = frame_all us then pointers_same cover_agree (record { means = full.means }) in
        rehoused S M Q u q a size b wide before after fresh h (Struct ws ts) inner x parts reached (Struct vs us) n (b.pads + wide + new.cost) sum
        (λ y z. omega (
          arith,
          times-first (word_interval u q) (cover Q u q (Struct vs us)) y z,
          times-object Q u q wide b (λ w. cover_all Q w.segment (w.start + length vs) us) y z f.leads_there.leads_to.1,
          ap (λ is. times is y z) last.1,
        )) (
          b,
          new.cost,
          some,
          f.leads_there,
          le_trans h.claim (then.words b.segment),
          has_words_kept {ws = vs} b.segment b.start then (omega (arith, h.claim)) (λ y v w. object_same y v (omega arith)) f.words,
          last.0,
          refl,
        )
        (subst (λ t. AreTidy Q t.segment (t.start + length vs) us) (sym (ap target_in f.leads_there.leads_to.1))
        (tidy_kept_all M Q (pred n) b.segment to us new.cost then pointers_same cover_agree full.means
        (full.tidy (new.tidy (tidy_kept_all S M (pred n) a.segment from ts l first old_same old_agree all (subst (λ t. AreTidy S t.segment (t.start + length ws) ts) here x.tidy))))))

-- A pointer that is moved, by other numbers of the same places.
pub moved_at : (S : Segments) (s p o v r w : ℕ) → p ≡ o → r ≡ w → IsMoved S s p v r → IsMoved S s o v w
moved_at S s p o v r w e f h = subst (λ x. IsMoved S s x v w) e (subst (λ x. IsMoved S s p v x) f h)
