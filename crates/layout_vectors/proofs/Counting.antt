-- Places that are visited in another order, and places added after the others.
use Rattle.std.proofs.Common.{◌≡◌, ℕ, zero, suc, ◌+◌, ◌*◌, ◌≤◌, List, [], ◌∷◌, ◌++◌, length, refl, sym, ap, ◌∙◌, subst, arith, append_assoc, append-nil}
use Rattle.capnp_format.specs.Segments.{Segments, segment, words_at}
use Rattle.capnp_format.specs.Tree.{Trees, no_trees, tree, count, Elements, no_elements, element, element_count}
use Rattle.capnp_format.specs.Forest.{times, cover, cover_all, cover_elements}
use Rattle.capnp_format.proofs.Frame.{times-append}
use Rattle.capnp_format.proofs.Slices.{length_words}
use Rattle.layout_vectors.specs.Counts.{Counting, plus, Counts, AreRead, AreElementsRead}
use Rattle.layout_vectors.specs.Spots.{spots, element_spots}
use Rattle.capnp_arena_traits.specs.declared.arena.WordPlace.{WordPlace}

pub counts_same : (S : Segments) (M N : Counting) (J : List WordPlace) (F : Counting) → ((u q : ℕ) → N u q ≡ M u q) → Counts S M J F → Counts S N J F
counts_same S M N [] F e h = λ u q. h u q ∙ sym (e u q)
counts_same S M N (j ∷ J) F e (t, r, h) =
    let c = times (cover S j.segment j.at t) in
    (t, r, counts_same S (plus M c) (plus N c) J F (λ u q. ap (λ x. x + c u q) (e u q)) h)

-- what is counted is at least what was counted before
pub counts_least : (S : Segments) (M : Counting) (J : List WordPlace) (F : Counting) (u q : ℕ) → Counts S M J F → M u q ≤ F u q
counts_least S M [] F u q h = omega (arith, h u q)
counts_least S M (j ∷ J) F u q (t, r, h) = omega (arith, counts_least S (plus M (times (cover S j.segment j.at t))) J F u q h)

-- the last place may be visited first
pub last_first : (S : Segments) (M : Counting) (J : List WordPlace) (j : WordPlace) (F : Counting) → Counts S M (J ++ j ∷ []) F → Counts S M (j ∷ J) F
last_first S M [] j F h = h
last_first S M (i ∷ J) j F (v, r, h) =
    let c = times (cover S i.segment i.at v) in
    let (t, k, g) = last_first S (plus M c) J j F h in
    let d = times (cover S j.segment j.at t) in
    (t, k, (v, r, counts_same S (plus (plus M c) d) (plus (plus M d) c) J F (λ u q. omega arith) g))

pub first_last : (S : Segments) (M : Counting) (J : List WordPlace) (j : WordPlace) (F : Counting) → Counts S M (j ∷ J) F → Counts S M (J ++ j ∷ []) F
first_last S M [] j F h = h
first_last S M (i ∷ J) j F (t, k, (v, r, g)) =
    let c = times (cover S i.segment i.at v) in
    let d = times (cover S j.segment j.at t) in
    (v, r, first_last S (plus M c) J j F (t, k, counts_same S (plus (plus M d) c) (plus (plus M c) d) J F (λ u q. omega arith) g))

-- consecutive pointers, added after the others
pub record Children (S : Segments) (M : Counting) (J : List WordPlace) (s p n : ℕ) (F : Counting) : Type 0 where
  pub children : Trees
  pub number : count children ≡ n
  pub are_read : AreRead S s p children
  pub counts : Counts S (plus M (times (cover_all S s p children))) J F

pub pushed_read : (S : Segments) (M : Counting) (J : List WordPlace) (s p n : ℕ) (F : Counting) → Counts S M (J ++ spots s p n) F → Children S M J s p n F
pushed_read S M J s p zero F h = record {
  children = no_trees;
  number = refl;
  are_read = tt;
  counts = counts_same S M (plus M (times [])) J F (λ u q. omega arith) (subst (λ K. Counts S M K F) (append-nil J) h);
}
pushed_read S M J s p (suc n) F h =
    let r = pushed_read S M (J ++ spots s p 1) s (p + 1) n F (subst (λ K. Counts S M K F) (sym (append_assoc J (spots s p 1) (spots s (p + 1) n))) h) in
    let rest = cover_all S s (p + 1) r.children in
    let (t, k, g) = last_first S (plus M (times rest)) J (record { segment = s; at = p }) F r.counts in
    record {
      children = tree t r.children;
      number = ap suc r.number;
      are_read = (k, r.are_read);
      counts = counts_same S (plus (plus M (times rest)) (times (cover S s p t))) (plus M (times (cover S s p t ++ rest))) J F (λ u q. omega (arith, times-append (cover S s p t) rest u q)) g;
    }

pub read_pushed : (S : Segments) (M : Counting) (J : List WordPlace) (s p : ℕ) (F : Counting) (ts : Trees) → AreRead S s p ts → Counts S (plus M (times (cover_all S s p ts))) J F → Counts S M (J ++ spots s p (count ts)) F
read_pushed S M J s p F no_trees k h = subst (λ K. Counts S M K F) (sym (append-nil J)) (counts_same S (plus M (times [])) M J F (λ u q. omega arith) h)
read_pushed S M J s p F (tree t ts) (k, ks) h =
    let rest = cover_all S s (p + 1) ts in
    subst (λ K. Counts S M K F) (append_assoc J (spots s p 1) (spots s (p + 1) (count ts)))
    (read_pushed S M (J ++ spots s p 1) s (p + 1) F ts ks
    (first_last S (plus M (times rest)) J (record { segment = s; at = p }) F
    (t, k, counts_same S (plus M (times (cover S s p t ++ rest))) (plus (plus M (times rest)) (times (cover S s p t))) J F (λ u q. omega (arith, times-append (cover S s p t) rest u q)) h)))

-- consecutive elements, whose words are inside their segment
pub record Rows (S : Segments) (M : Counting) (J : List WordPlace) (s p d q n : ℕ) (F : Counting) : Type 0 where
  pub elements : Elements
  pub number : element_count elements ≡ n
  pub are_read : AreElementsRead S s p d q elements
  pub counts : Counts S (plus M (times (cover_elements S s p d q elements))) J F

next_fits : (p d q n m : ℕ) → p + suc n * (d + q) ≤ m → p + d + q + n * (d + q) ≤ m
next_fits p d q n m l = omega arith

first_fits : (p d q n m : ℕ) → p + suc n * (d + q) ≤ m → p + d ≤ m
first_fits p d q n m l = omega arith

pub elements_pushed_read : (S : Segments) (M : Counting) (J : List WordPlace) (s p d q n : ℕ) (F : Counting) → p + n * (d + q) ≤ length (segment S s) → Counts S M (J ++ element_spots s p d q n) F → Rows S M J s p d q n F
elements_pushed_read S M J s p d q zero F fits h = record {
  elements = no_elements;
  number = refl;
  are_read = tt;
  counts = counts_same S M (plus M (times [])) J F (λ u v. omega arith) (subst (λ K. Counts S M K F) (append-nil J) h);
}
elements_pushed_read S M J s p d q (suc n) F fits h =
    let here = spots s (p + d) q in
    let r = elements_pushed_read S M (J ++ here) s (p + d + q) d q n F (next_fits p d q n (length (segment S s)) fits) (subst (λ K. Counts S M K F) (sym (append_assoc J here (element_spots s (p + d + q) d q n))) h) in
    let rest = cover_elements S s (p + d + q) d q r.elements in
    let c = pushed_read S (plus M (times rest)) J s (p + d) q F r.counts in
    let own = cover_all S s (p + d) c.children in
    let long : length (words_at S s p d) ≡ d = length_words S s p d (first_fits p d q n (length (segment S s)) fits) in
    record {
      elements = element (words_at S s p d) c.children r.elements;
      number = ap suc r.number;
      are_read = (long, c.number, ap (words_at S s p) long, c.are_read, r.are_read);
      counts = counts_same S (plus (plus M (times rest)) (times own)) (plus M (times (own ++ rest))) J F (λ u v. omega (arith, times-append own rest u v)) c.counts;
    }

pub elements_read_pushed : (S : Segments) (M : Counting) (J : List WordPlace) (s p d q : ℕ) (F : Counting) (es : Elements) → AreElementsRead S s p d q es → Counts S (plus M (times (cover_elements S s p d q es))) J F →
    Counts S M (J ++ element_spots s p d q (element_count es)) F
elements_read_pushed S M J s p d q F no_elements k h = subst (λ K. Counts S M K F) (sym (append-nil J)) (counts_same S (plus M (times [])) M J F (λ u v. omega arith) h)
elements_read_pushed S M J s p d q F (element ws ts es) (long, len, e, ks, more) h =
    let own = cover_all S s (p + d) ts in
    let rest = cover_elements S s (p + d + q) d q es in
    let here = spots s (p + d) q in
    subst (λ K. Counts S M K F) (append_assoc J here (element_spots s (p + d + q) d q (element_count es)))
    (elements_read_pushed S M (J ++ here) s (p + d + q) d q F es more
    (subst (λ n. Counts S (plus M (times rest)) (J ++ spots s (p + d) n) F) len
    (read_pushed S (plus M (times rest)) J s (p + d) F ts ks
    (counts_same S (plus M (times (own ++ rest))) (plus (plus M (times rest)) (times own)) J F (λ u v. omega (arith, times-append own rest u v)) h))))
