-- Elements of a list of structs copied one after another.
use Rattle.std.proofs.Common.{◌≡◌, ℕ, zero, suc, ◌+◌, ◌-◌, ◌*◌, ◌<◌, ◌≤◌, List, ◌++◌, length, take, drop, replicate, refl, sym, ap, ap₂, ◌∙◌, arith, append_assoc, append-nil, length-append, length-drop, take_at, drop_at}
use Rattle.std.proofs.lemmas.List.{length-replicate, drop-replicate, drop-append-le}
use Rattle.std.proofs.Math.Seq.{drop-append-add}
use Rattle.capnp_format.specs.Segments.{words_at}
use Rattle.capnp_format.specs.Tree.{Trees, Elements, no_elements, element, count, element_count}
use Rattle.capnp_format.specs.Canonical.{used_words, take_trees, cut_to, trim_each, trim_elements, word_count_all, word_count_elements, pointers, rows, bodies, element_bodies}
use Rattle.capnp_words.specs.Meter.{Meter}
use Rattle.capnp_arena_traits.specs.Written.{overwritten}
use Rattle.capnp_pointers.proofs.WholeValue.WordsAdded.{row_within}
use Rattle.capnp_copies.specs.Copied.{with_children}
use Rattle.capnp_copies.proofs.Scanning.{pointers_used, next_used}
use Rattle.capnp_copies.proofs.Shapes.{rows_laid, AreShapedElements, length-rows, length-element_bodies}
use Rattle.capnp_copies.proofs.ElementsLaid.{Laid, rows_end}
use Rattle.capnp_copies.proofs.UsedChildren.{take_trees-trim, fill_nulls, null_behind}
use Rattle.capnp_pointers.specs.Outcomes.{ReadsAll, ReadsElements}
use Rattle.capnp_pointers.specs.Reading.{Reading, pointers_of, segment_read}
use Rattle.capnp_pointers.specs.Spending.{pointers_in_all, pointers_in_elements}
use Rattle.capnp_pointers.specs.Wanted.{canonical}
use Rattle.capnp_pointers.proofs.WholeValue.ChildrenRead.{with_last_element, count-with_last_element, read_element, pointers_in-with_last_element}
use Rattle.capnp_words.specs.declared.wire_pointer.StructSize.{StructSize}

-- Widths.

pub pointers_within : (ws : List ℕ) (p : ℕ) (size : StructSize) (n j : ℕ) → j < n →
    used_words (take size.pointers (drop (p + j * (size.data_words + size.pointers) + size.data_words) ws)) ≤ pointers_used ws p size.data_words size.pointers n
pointers_within ws p size zero j l = absurd (omega arith)
pointers_within ws p size (suc n) zero l =
    let d : ℕ = size.data_words in
    let q : ℕ = size.pointers in
    let same : used_words (take q (drop (p + 0 * (d + q) + d) ws)) ≡ used_words (take q (drop (p + d) ws)) = ap (λ i. used_words (take q (drop i ws))) (let e : p + 0 * (d + q) + d ≡ p + d = omega arith in e) in
    omega arith
pointers_within ws p size (suc n) (suc j) l =
    let d : ℕ = size.data_words in
    let q : ℕ = size.pointers in
    let more = pointers_within ws (p + (d + q)) size n j (omega arith) in
    let same : used_words (take q (drop (p + suc j * (d + q) + d) ws)) ≡ used_words (take q (drop (p + (d + q) + j * (d + q) + d) ws)) =
    ap (λ i. used_words (take q (drop i ws))) (let e : p + suc j * (d + q) + d ≡ p + (d + q) + j * (d + q) + d = omega arith in e) in
    omega (arith, next_used ws p d q n)

-- One more element.

cut-with_last : (e r : ℕ) (es : Elements) (ws : List ℕ) (us : Trees) → cut_to e r (trim_elements (with_last_element es ws us)) ≡ with_last_element (cut_to e r (trim_elements es)) (take e ws) (take_trees r (trim_each us))
cut-with_last e r no_elements ws us = refl
cut-with_last e r (element vs ts es) ws us = ap (element (take e vs) (take_trees r (trim_each ts))) (cut-with_last e r es ws us)

-- Elements es that were read, and one more with its first pointers read, at a cost of n words and k
-- pointers.
pub record Another (r : Reading) (size least : StructSize) (m m' : Meter) (es : Elements) (ts : Trees) (n k : ℕ) : Type 0 where
  pub all : Elements
  pub counts : element_count all ≡ suc (element_count es)
  pub are_read : ReadsElements canonical r size m m' all
  pub shape :
      cut_to least.data_words least.pointers (trim_elements all)
      ≡ with_last_element (cut_to least.data_words least.pointers (trim_elements es)) (take least.data_words (words_at r.segments r.segment (r.at + element_count es * (size.data_words + size.pointers)) size.data_words)) (trim_each ts)
  pub costs : are_read.cost ≡ n
  pub follows : pointers_in_elements all ≡ k

-- The n elements are inside the segment, and the kept pointers of each include all that are used.
pub record SourceFits (r : Reading) (size least : StructSize) (n : ℕ) : Type 0 where
  pub inside : r.at + n * (size.data_words + size.pointers) ≤ length (segment_read r)
  pub used : pointers_used (segment_read r) r.at size.data_words size.pointers n ≤ least.pointers
  pub less : least.pointers ≤ size.pointers

pub another : {r : Reading} {size least : StructSize} {i : ℕ} {m m' m'' : Meter} {es : Elements} {ts : Trees} → SourceFits r size least i → (read : ReadsElements canonical r size m m' es) → element_count es < i → count ts ≡ least.pointers →
    (last : ReadsAll canonical (pointers_of r size (element_count es)) m' m'' ts) → Another r size least m m'' es ts (read.cost + last.cost) (pointers_in_elements es + pointers_in_all ts)
unfolding read_element
another {r} {size} {least} {i} {m} {m'} {m''} {es} {ts} fits all less len one =
    let d : ℕ = size.data_words in
    let q : ℕ = size.pointers in
    let j : ℕ = element_count es in
    let at : ℕ = r.at + j * (d + q) + d in
    let room : at + q ≤ length (segment_read r) = omega (arith, row_within j i (d + q) less, fits.inside) in
    let f = fill_nulls q one (omega (arith, fits.less)) (λ k a b. null_behind (pointers_of r size j) q k (omega (arith, pointers_within (segment_read r) r.at size i j less, fits.used)) b) in
    let ws : List ℕ = words_at r.segments r.segment (r.at + j * (d + q)) d in
    record {
      all = with_last_element es ws f.all;
      counts = count-with_last_element es ws f.all;
      are_read = read_element all (omega arith) f.counts f.are_read;
      shape =
          cut-with_last least.data_words least.pointers es ws f.all
          ∙ ap (with_last_element (cut_to least.data_words least.pointers (trim_elements es)) (take least.data_words ws)) (take_trees-trim least.pointers f.all ∙ ap trim_each (ap (λ k. take_trees k f.all) (sym len) ∙ f.first));
      costs = omega (arith, f.costs);
      follows = omega (arith, f.follows, pointers_in-with_last_element es ws f.all);
    }

-- The words of elements that are laid, with one more.

rows-with_last : (d q k : ℕ) (es : Elements) (ws : List ℕ) (ts : Trees) → rows d q k (with_last_element es ws ts) ≡ rows d q (k + (d + q)) es ++ (ws ++ pointers (k + word_count_elements es) ts)
rows-with_last d q k no_elements ws ts =
    append-nil (ws ++ pointers (0 * (d + q) + k) ts) ∙ ap (λ i. ws ++ pointers i ts) (let e : 0 * (d + q) + k ≡ k + 0 = omega arith in e)
rows-with_last d q k (element vs us es) ws ts =
    let E = with_last_element es ws ts in
    let j : element_count E * (d + q) + k ≡ element_count es * (d + q) + (k + (d + q)) = omega (arith, ap (λ i. i * (d + q)) (count-with_last_element es ws ts)) in
    let i : k + word_count_all us + (d + q) ≡ k + (d + q) + word_count_all us = omega arith in
    let b : k + word_count_all us + word_count_elements es ≡ k + (word_count_all us + word_count_elements es) = omega arith in
    ap₂ (λ x y. vs ++ pointers x us ++ y) j (rows-with_last d q (k + word_count_all us) es ws ts)
    ∙ ap₂ (λ x y. vs ++ pointers (element_count es * (d + q) + (k + (d + q))) us ++ (rows d q x es ++ (ws ++ pointers y ts))) i b
    ∙ sym (append_assoc (vs ++ pointers (element_count es * (d + q) + (k + (d + q))) us) (rows d q (k + (d + q) + word_count_all us) es) (ws ++ pointers (k + (word_count_all us + word_count_elements es)) ts))

element_bodies-with_last : (es : Elements) (ws : List ℕ) (ts : Trees) → element_bodies (with_last_element es ws ts) ≡ element_bodies es ++ bodies ts
element_bodies-with_last no_elements ws ts = append-nil (bodies ts)
element_bodies-with_last (element vs us es) ws ts = ap (λ xs. bodies us ++ xs) (element_bodies-with_last es ws ts) ∙ sym (append_assoc (bodies us) (element_bodies es) (bodies ts))

over : {n : ℕ} (A Z B us : List ℕ) → length A ≡ n → length us ≤ length Z → overwritten (A ++ Z ++ B) n us ≡ A ++ us ++ (drop (length us) Z ++ B)
over {n} A Z B us l fits =
    let shape : A ++ Z ++ B ≡ A ++ (Z ++ B) = append_assoc A Z B in
    ap (λ xs. overwritten xs n us) shape
    ∙ ap₂ (λ xs ys. xs ++ (us ++ drop (length us) ys)) (take_at A (Z ++ B) n l) (drop_at A (Z ++ B) n l)
    ∙ ap (λ xs. A ++ (us ++ xs)) (drop-append-le (length us) Z B fits) ∙ sym (append_assoc A us (drop (length us) Z ++ B))

among : (A Z B : List ℕ) (ts : Trees) (k : ℕ) → length Z ≡ count ts + k → with_children (A ++ (Z ++ B)) (length A) ts ≡ A ++ pointers (k + length B) ts ++ (drop (count ts) Z ++ B) ++ bodies ts
among A Z B ts k fits =
    let n : ℕ = length A in
    let long : length (A ++ (Z ++ B)) - (n + count ts) ≡ k + length B = omega (arith, length-append A (Z ++ B), length-append Z B) in
    let rest : drop (n + count ts) (A ++ (Z ++ B)) ≡ drop (count ts) Z ++ B =
    drop-append-add A (Z ++ B) (count ts) ∙ drop-append-le (count ts) Z B (omega arith) in
    ap₂ (λ xs i. xs ++ pointers i ts ++ drop (n + count ts) (A ++ (Z ++ B)) ++ bodies ts) (take_at A (Z ++ B) n refl) long
    ∙ ap (λ xs. A ++ pointers (k + length B) ts ++ xs ++ bodies ts) rest

rows_length : (front : List ℕ) (d q k : ℕ) (es : Elements) → AreShapedElements d q es → length (front ++ rows d q k es) ≡ length front + element_count es * (d + q)
rows_length front d q k es v = omega (arith, length-append front (rows d q k es), length-rows d q k es v)

-- The next element, with its words and its children.
pub element_put : {at : ℕ} (x : Laid) (m : ℕ) (us : List ℕ) (ts : Trees) → (length us ≡ x.size.data_words) × (count ts ≡ x.size.pointers) → at ≡ rows_end x →
    with_children (overwritten (rows_laid x.front x.size.data_words x.size.pointers x.elements (suc m)) at us) (at + x.size.data_words) ts
    ≡ rows_laid x.front x.size.data_words x.size.pointers (with_last_element x.elements us ts) m
element_put {at} x m us ts (long, len) e =
    let front : List ℕ = x.front in
    let d : ℕ = x.size.data_words in
    let q : ℕ = x.size.pointers in
    let es : Elements = x.elements in
    let v : AreShapedElements d q es = x.shaped in
    let w = d + q in
    let k = m * w in
    let first : suc m * w ≡ k + w = omega arith in
    let R = rows d q (suc m * w) es in
    let A = front ++ R in
    let EB = element_bodies es in
    let Z : List ℕ = replicate (suc m * w) 0 in
    let la : length A ≡ at = omega (arith, rows_length front d q (suc m * w) es v) in
    let lz : length Z ≡ suc m * w = length-replicate {A = ℕ} (suc m * w) 0 in
    let Y : List ℕ = drop (length us) Z in
    let ly : length Y ≡ count ts + k = omega (arith, length-drop (length us) Z) in
    let B = A ++ us in
    let lb : length B ≡ at + d = omega (arith, length-append A us) in
    let last : drop (count ts) Y ≡ replicate k 0 =
    ap (drop (count ts)) (drop-replicate (length us) (suc m * w) 0) ∙ drop-replicate (count ts) (suc m * w - length us) 0 ∙ ap (λ i. replicate i 0) (let f : suc m * w - length us - count ts ≡ k = omega arith in f) in
    let leb : k + length EB ≡ k + word_count_elements es = ap (λ i. k + i) (length-element_bodies d q es v) in
    let P = pointers (k + word_count_elements es) ts in
    let shape : front ++ R ++ us ++ P ++ (replicate k 0 ++ EB) ++ bodies ts ≡ front ++ (R ++ (us ++ P)) ++ replicate k 0 ++ (EB ++ bodies ts) = simp append_assoc in
    ap (λ xs. with_children xs (at + d) ts) (over A Z EB us la (omega arith))
    ∙ ap (λ i. with_children (B ++ (Y ++ EB)) i ts) (sym lb) ∙ among B Y EB ts k ly
    ∙ ap₂ (λ i xs. B ++ pointers i ts ++ (xs ++ EB) ++ bodies ts) leb last
    ∙ shape
    ∙ ap (λ i. front ++ (rows d q i es ++ (us ++ P)) ++ replicate k 0 ++ (EB ++ bodies ts)) first
    ∙ ap₂ (λ xs ys. front ++ xs ++ replicate k 0 ++ ys) (sym (rows-with_last d q k es us ts)) (sym (element_bodies-with_last es us ts))
