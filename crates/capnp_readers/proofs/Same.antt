-- What the test for canonical form shows about the values that it finds, and when two of them are
-- the same. The lemmas take a place, a head and the value there one by one, like `HasCanonicalAt`.
use Rattle.std.proofs.Common.{◌≡◌, ◌↔◌, ℕ, ◌-◌, ◌≤◌, List, ◌∷◌, length, sym, ap, ap₂, ◌∙◌, subst, arith}
use Rattle.capnp_format.specs.Segments.{Segments, words_at, HasWords, AreWords}
use Rattle.capnp_format.specs.Tree.{Tree, depth}
use Rattle.capnp_format.specs.Canonical.{charge, trim, word_count, pointer, body, offset_to, HasCanonicalAt}
use Rattle.capnp_format.proofs.Lengths.{length-body}
use Rattle.capnp_format.proofs.Levels.{depth_within}
use Rattle.capnp_format.proofs.Trimmed.{trim-depth}
use Rattle.capnp_format.proofs.Unique.{Standing, for_offset}
use Rattle.capnp_format.proofs.LawLemmas.{canonical_cost, one_stands}
use Rattle.capnp_words.specs.Meter.{Meter, Affords}
use Rattle.capnp_pointers.specs.Outcomes.{MeansThere, Reads}
use Rattle.capnp_pointers.specs.Reading.{Reading, word_of, segment_read}
use Rattle.capnp_pointers.specs.Wanted.{canonical}
use Rattle.capnp_pointers.proofs.Budget.PaidAndLeft.{affords_rest}
use Rattle.capnp_pointers.proofs.WholeValue.WordsAdded.{paid_none}
use Rattle.capnp_pointers.specs.Checking.{Progress, progress, Finds, CanBeFound}
use Rattle.capnp_pointers.proofs.CanonicalForm.MeansWhatStands.{stands_means_at}

pub copy_is_answered : (r q : Reading) (m m' : Meter) (h : ℕ) (t : Tree) → AreWords r.segments → Reads canonical r m m' t → q.levels ≡ r.levels → q.charging ≡ r.charging → h ≤ length (segment_read q) →
    HasCanonicalAt q.segments q.segment q.at h (trim t) → CanBeFound q (progress h m)
copy_is_answered r q m m' h t words read levels charging inside stands =
    let deep : depth (trim t) ≤ q.levels = omega (arith, trim-depth t, depth_within t (record { means = read.means }), levels) in
    let cost : charge (trim t) ≤ read.cost = canonical_cost r.segments r.levels r.segment r.at t read.cost words read.means in
    let covers : Affords r.charging m (charge (trim t)) = affords_rest (charge (trim t)) read.cost (paid_none r m) (omega (arith, cost)) read.covers in
    (trim t, stands, for_offset (trim t) (h ≤ length (segment_read q)) inside, deep, subst (λ b. Affords b m (charge (trim t))) (sym charging) covers)

pub found_is_meant : (r : Reading) (from to : Progress) (t : Tree) → Finds r from to t → MeansThere r t (charge t)
found_is_meant r from to t f = stands_means_at r.segments r.levels r.segment r.at from.head t f.levels f.inside f.stands

-- The canonical words of a value whose pointer is at position p, and whose body is at the head h.
abbrev standing_words : ℕ → ℕ → Tree → List ℕ
standing_words p h t = pointer t (offset_to p h) ∷ body t

-- Lists of at least one element are the same only if their first elements are the same, and so are
-- the rests.
same_first : (x y : ℕ) (xs ys : List ℕ) → x ∷ xs ≡ y ∷ ys → x ≡ y
same_first x y xs ys e = cc

same_rest : (x y : ℕ) (xs ys : List ℕ) → x ∷ xs ≡ y ∷ ys → xs ≡ ys
same_rest x y xs ys e = cc

-- The n words at the place of a body are the body, if it has n words.
words_of_body : (S : Segments) (s h n : ℕ) (ws : List ℕ) → HasWords S s h ws → n ≡ length ws → words_at S s h n ≡ ws
words_of_body S s h n ws a e = ap (λ m. words_at S s h m) e ∙ a

-- The words that a test has passed: the pointer's, and those between the heads.
abbrev pub words_tested : Reading → Progress → Progress → List ℕ
words_tested r from to = word_of r ∷ words_at r.segments r.segment from.head (to.head - from.head)

-- The words that a test has passed are the canonical words of the value that it has found.
tested_words : (r : Reading) (from to : Progress) (t : Tree) → Finds r from to t → words_tested r from to ≡ standing_words r.at from.head t
tested_words r from to t f =
    let a = f.stands in
    let l : length (body t) ≡ word_count t = length-body t a.1 in
    let e = f.head_is in
    let n : to.head - from.head ≡ length (body t) = omega (arith, l, e) in
    ap₂ (λ (x : ℕ) (xs : List ℕ). x ∷ xs) (a.5.1) (words_of_body r.segments r.segment from.head (to.head - from.head) (body t) (a.5.2) n)

-- If u is canonical in some message, with the same canonical words as the value t at a place, u is
-- canonical at that place too.
stands_by_words : {S R : Segments} {s i p h : ℕ} {t u : Tree} → Standing S s p h t → Standing R i p h u → standing_words p h t ≡ standing_words p h u → Standing S s p h u
stands_by_words {S = S} {s = s} {p = p} {h = h} {t = t} {u = u} left right e =
    let a = left.stands in
    let b = right.stands in
    let first : pointer t (offset_to p h) ≡ pointer u (offset_to p h) = same_first (pointer t (offset_to p h)) (pointer u (offset_to p h)) (body t) (body u) e in
    let rest : body t ≡ body u = same_rest (pointer t (offset_to p h)) (pointer u (offset_to p h)) (body t) (body u) e in
    record { stands = (a.0, b.1, b.2, b.3, b.4, (b.5.0, a.5.1 ∙ first, subst (λ ws. HasWords S s h ws) rest (a.5.2))) }

-- Two canonical values with the same canonical words are the same value.
same_by_words : {S R : Segments} {s i p h : ℕ} {t u : Tree} → Standing S s p h t → Standing R i p h u → standing_words p h t ≡ standing_words p h u → t ≡ u
same_by_words {S = S} {s = s} {p = p} {h = h} {t = t} {u = u} left right e =
    let other = stands_by_words left right e in
    one_stands S s p h t u left.stands other.stands

pub same_words : (r q : Reading) (from to start end : Progress) (t u : Tree) → Finds r from to t → Finds q start end u → r.at ≡ q.at → from.head ≡ start.head → (words_tested r from to ≡ words_tested q start end) ↔ (t ≡ u)
same_words r q from to start end t u f g at head =
    let left = tested_words r from to t f in
    let right : words_tested q start end ≡ standing_words r.at from.head u = tested_words q start end u g ∙ ap₂ (λ p h. standing_words p h u) (sym at) (sym head) in
    let a : Standing r.segments r.segment r.at from.head t = record { stands = f.stands } in
    let b : Standing q.segments q.segment r.at from.head u =
    record { stands = subst (λ p. HasCanonicalAt q.segments q.segment p from.head u) (sym at) (subst (λ h. HasCanonicalAt q.segments q.segment q.at h u) (sym head) g.stands) } in
    (λ e. same_by_words a b (sym left ∙ e ∙ right), λ e. left ∙ ap (λ v. standing_words r.at from.head v) e ∙ sym right)
