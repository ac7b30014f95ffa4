-- What a copy keeps of structs and of elements, in canonical form and in the plain one.
use Rattle.std.proofs.Common.{◌≡◌, ℕ, zero, suc, ◌+◌, ◌*◌, ◌<◌, ◌≤◌, List, length, take, refl, sym, ap, ap₂, ◌∙◌, subst, arith, length-take}
use Rattle.std.proofs.lemmas.List.{take_all}
use Rattle.capnp_words.specs.declared.wire_pointer.StructSize.{StructSize}
use Rattle.capnp_words.specs.Meter.{Meter}
use Rattle.capnp_format.specs.Segments.{Segments, words_at}
use Rattle.capnp_format.specs.Tree.{Struct, Structs, Trees, no_trees, tree, Elements, no_elements, element, count, element_count}
use Rattle.capnp_format.specs.Canonical.{used_words, used_trees, take_trees, cut_to, trim_each, trim_elements, word_count, word_count_all, word_count_elements}
use Rattle.capnp_format.proofs.Slices.{length_words}
use Rattle.capnp_format.proofs.Trimming.{trim_each-count, used_words-le, take_trees-count}
use Rattle.capnp_format.specs.Means.{MeansElements}
use Rattle.capnp_allocation.specs.Filled.{AreElementsFilled}
use Rattle.capnp_allocation.proofs.WordsPut.{none_over}
use Rattle.capnp_pointers.specs.Outcomes.{ReadsAll, ReadsElements}
use Rattle.capnp_pointers.specs.Refusals.{StopsAmong}
use Rattle.capnp_pointers.specs.Reading.{Reading, segment_read, words_from, pointers_of}
use Rattle.capnp_pointers.specs.Spending.{pointers_in_all, pointers_in_elements}
use Rattle.capnp_pointers.specs.Wanted.{Form, canonical}
use Rattle.capnp_pointers.proofs.WholeValue.ChildrenRead.{with_last_element, count-with_last_element, pointers_in-with_last_element, read_element, read_none, read_no_element}
use Rattle.capnp_pointers.proofs.WholeValue.WordsAdded.{row_within}
use Rattle.capnp_copies.specs.Widths.{most_used, widths_kept}
use Rattle.capnp_copies.specs.Forms.{kept, kept_each, kept_elements}
use Rattle.capnp_copies.specs.Originals.{kept_count}
use Rattle.capnp_copies.specs.declared.widths.ElementSizes.{ElementSizes}
use Rattle.capnp_copies.proofs.ElementsCopied.{SourceFits, another, pointers_within}
use Rattle.capnp_copies.proofs.ElementsLaid.{words_taken}
use Rattle.capnp_copies.proofs.KeptChildren.{cut_kept-count}
use Rattle.capnp_copies.proofs.ListSteps.{AreLeast, trimmed_list}
use Rattle.capnp_copies.proofs.UsedChildren.{used_children, means_taken, trim-struct}
use Rattle.capnp_pointers.proofs.WholeValue.Shorthands.{MeanThere, ElementsMean}

-- Words.

pub kept_count-le : (b : Form) (ws : List ℕ) → kept_count b ws ≤ length ws
kept_count-le canonical ws = used_words-le ws
kept_count-le _ ws = omega arith

-- Children.

-- If reading stops among the first pointers, it stops among all of them.
unfoldable pub stops_sooner : {form : Form} {P : Reading → Meter → Meter → Type 0} {r : Reading} {m m' : Meter} {q used : ℕ} → used ≤ q → StopsAmong form P r used m m' → StopsAmong form P r q m m'
stops_sooner le h = record { first = h.first; fewer = omega (arith, h.fewer, le); mid = h.mid; are_read = h.are_read; stops = h.stops }

take_count : (ts : Trees) → take_trees (count ts) ts ≡ ts
take_count no_trees = refl
take_count (tree t ts) = ap (tree t) (take_count ts)

-- The kept pointers of a struct of these data words are meant, at cost c, and the kept struct takes
-- the words of its sections and of its children.
pub record SectionsMeant (b : Form) (ws : List ℕ) (r : Reading) (least : StructSize) (us : Trees) (c : ℕ) : Type 0 where
  pub counts : count (take_trees least.pointers us) ≡ least.pointers
  pub means : MeanThere r (take_trees least.pointers us) c
  pub words : word_count (kept b (Struct ws us)) ≡ least.data_words + least.pointers + word_count_all (kept_each b (take_trees least.pointers us))

-- The sections that are kept of a struct of these data words with q pointers from r on.
pub record SectionsCut (b : Form) (ws : List ℕ) (r : Reading) (q : ℕ) (least : StructSize) : Type 0 where
  pub inside : r.at + q ≤ length (segment_read r)
  pub of_data : least.data_words ≡ kept_count b ws
  pub of_pointers : least.pointers ≡ kept_count b (words_from r q)

pub sections_meant : (b : Form) {ws : List ℕ} {r : Reading} {q : ℕ} {least : StructSize} (us : Trees) (c : ℕ) → SectionsCut b ws r q least → count us ≡ q → MeanThere r us c → SectionsMeant b ws r least us c
sections_meant canonical {ws} {r} {q} {least} us c cut len all =
    let u : used_trees us ≡ least.pointers = used_children r us c cut.inside len all ∙ sym cut.of_pointers in
    let fewer : least.pointers ≤ q = omega (arith, cut.of_pointers, used_words-le (words_from r q), length_words r.segments r.segment r.at q cut.inside) in
    let counts : count (take_trees least.pointers us) ≡ least.pointers = take_trees-count least.pointers us (omega (arith, len, fewer)) in
    record {
      counts = counts;
      means = means_taken r us c least.pointers (omega (arith, u)) all;
      words = ap word_count (trim-struct ws us ∙ ap (λ i. Struct (take (used_words ws) ws) (trim_each (take_trees i us))) u)
          ∙ omega (arith, cut.of_data, length-take (used_words ws) ws, used_words-le ws, trim_each-count (take_trees least.pointers us), counts);
    }
sections_meant _ {ws} {r} {q} {least} us c cut len all =
    let counts : count us ≡ least.pointers = len ∙ sym (cut.of_pointers ∙ length_words r.segments r.segment r.at q cut.inside) in
    let whole : take_trees least.pointers us ≡ us = ap (λ i. take_trees i us) (sym counts) ∙ take_count us in
    record { counts = ap count whole ∙ counts; means = subst (λ ts. MeanThere r ts c) (sym whole) all; words = omega (arith, cut.of_data, counts, ap word_count_all whole) }

-- Elements.

cut_same : (S : Segments) (n s p d q : ℕ) (es : Elements) (c : ℕ) → MeansElements S n s p d q es c → cut_to d q es ≡ es
cut_same S n s p d q no_elements c h = refl
cut_same S n s p d q (element ws ts es) c (a, b, long, len, words, all, rest, g) =
    ap₂ (λ (xs : List ℕ) us. element xs us (cut_to d q es)) (take_all d ws (omega arith)) (ap (λ i. take_trees i ts) (sym len) ∙ take_count ts) ∙ ap (element ws ts) (cut_same S n s (p + d + q) d q es b rest)

abbrev pub KeepsWidths : Form → Reading → StructSize → ℕ → StructSize → Type 0
KeepsWidths b r size i least = least ≡ widths_kept b r size i

pub list_kept : (b : Form) (r : Reading) (size least : StructSize) (es : Elements) (c : ℕ) → r.at + element_count es * (size.data_words + size.pointers) ≤ length (segment_read r) → KeepsWidths b r size (element_count es) least → ElementsMean r size es c →
    kept b (Structs size.data_words size.pointers es) ≡ Structs least.data_words least.pointers (cut_to least.data_words least.pointers (kept_elements b es))
list_kept canonical r size least es c inside widths all =
    let is_least : AreLeast r size least (element_count es) = record { of_data = ap (λ s. s.data_words) widths; of_pointers = ap (λ s. s.pointers) widths } in
    trimmed_list es c inside is_least refl all
list_kept _ r size least es c inside same all =
    ap (Structs size.data_words size.pointers) (sym (cut_same r.segments r.levels r.segment r.at size.data_words size.pointers es c all)) ∙ ap (λ s. Structs s.data_words s.pointers (cut_to s.data_words s.pointers es)) (sym same)

-- The number of words of a list of structs that is kept.
pub words_of_kept_list : (b : Form) (r : Reading) (size least : StructSize) (i : ℕ) (es : Elements) (c : ℕ) → r.at + i * (size.data_words + size.pointers) ≤ length (segment_read r) → KeepsWidths b r size i least → element_count es ≡ i → ElementsMean r size es c →
    word_count (kept b (Structs size.data_words size.pointers es)) ≡ 1 + i * (least.data_words + least.pointers) + word_count_elements (cut_to least.data_words least.pointers (kept_elements b es))
words_of_kept_list b r size least i es c inside widths len all =
    ap word_count (list_kept b r size least es c (subst (λ k. r.at + k * (size.data_words + size.pointers) ≤ length (segment_read r)) (sym len) inside) (subst (λ k. KeepsWidths b r size k least) (sym len) widths) all)
    ∙ ap (λ j. 1 + j * (least.data_words + least.pointers) + word_count_elements (cut_to least.data_words least.pointers (kept_elements b es))) (cut_kept-count b least.data_words least.pointers es ∙ len)

-- No pointer that is used in i elements is cut.
abbrev pub KeepsPointers : Form → Reading → ElementSizes → ℕ → Type 0
KeepsPointers canonical r sizes i =
    most_used (segment_read r) (r.at + sizes.source.data_words) sizes.source.pointers
    (sizes.source.data_words + sizes.source.pointers) i ≤ sizes.kept.pointers
KeepsPointers _ r sizes i = sizes.kept ≡ sizes.source

-- The n elements are inside the source, and no section that is used is cut.
pub record SourceKept (b : Form) (r : Reading) (sizes : ElementSizes) (n : ℕ) : Type 0 where
  pub inside : r.at + n * (sizes.source.data_words + sizes.source.pointers) ≤ length (segment_read r)
  pub less_data : sizes.kept.data_words ≤ sizes.source.data_words
  pub less_pointers : sizes.kept.pointers ≤ sizes.source.pointers
  pub used : KeepsPointers b r sizes n

-- The kept pointers of an element are meant.
pub row_kept : (b : Form) (r : Reading) (sizes : ElementSizes) (n j : ℕ) (us : Trees) (c : ℕ) → SourceKept b r sizes n → j < n → count us ≡ sizes.source.pointers → MeanThere (pointers_of r sizes.source j) us c →
    MeanThere (pointers_of r sizes.source j) (take_trees sizes.kept.pointers us) c
row_kept canonical r sizes n j us c fits less len all =
    let d : ℕ = sizes.source.data_words in
    let q : ℕ = sizes.source.pointers in
    let end = row_within j n (d + q) less in
    let u = used_children (pointers_of r sizes.source j) us c (omega (arith, end, fits.inside)) len all in
    means_taken (pointers_of r sizes.source j) us c sizes.kept.pointers (omega (arith, u, pointers_within (segment_read r) r.at sizes.source n j less, fits.used)) all
row_kept _ r sizes n j us c fits less len all =
    subst (λ ts. MeanThere (pointers_of r sizes.source j) ts c) (sym (ap (λ i. take_trees i us) (ap (λ s. s.pointers) fits.used ∙ sym len) ∙ take_count us)) all

-- The row of words of an element.
abbrev pub element_words : Reading → ElementSizes → ℕ → List ℕ
element_words r sizes j = words_at r.segments r.segment (r.at + j * (sizes.source.data_words + sizes.source.pointers)) sizes.kept.data_words

-- Elements es that were read, and one more with its kept pointers read, at a cost of n words and k
-- pointers.
pub record OneMore (b : Form) (r : Reading) (sizes : ElementSizes) (m m' : Meter) (es : Elements) (ts : Trees) (n k : ℕ) : Type 0 where
  pub all : Elements
  pub counts : element_count all ≡ suc (element_count es)
  pub are_read : ReadsElements b r sizes.source m m' all
  pub shape :
      cut_to sizes.kept.data_words sizes.kept.pointers (kept_elements b all)
      ≡ with_last_element (cut_to sizes.kept.data_words sizes.kept.pointers (kept_elements b es)) (element_words r sizes (element_count es)) (kept_each b ts)
  pub costs : are_read.cost ≡ n
  pub follows : pointers_in_elements all ≡ k

cut-last : (e q : ℕ) (es : Elements) (ws : List ℕ) (us : Trees) → cut_to e q (with_last_element es ws us) ≡ with_last_element (cut_to e q es) (take e ws) (take_trees q us)
cut-last e q no_elements ws us = refl
cut-last e q (element vs ts es) ws us = ap (element (take e vs) (take_trees q ts)) (cut-last e q es ws us)

pub one_more : (b : Form) (r : Reading) (sizes : ElementSizes) (n : ℕ) (m m' m'' : Meter) (es : Elements) (ts : Trees) → SourceKept b r sizes n → (read : ReadsElements b r sizes.source m m' es) → element_count es < n → count ts ≡ sizes.kept.pointers →
    (last : ReadsAll b (pointers_of r sizes.source (element_count es)) m' m'' ts) → OneMore b r sizes m m'' es ts (read.cost + last.cost) (pointers_in_elements es + pointers_in_all ts)
unfolding read_element
one_more canonical r sizes n m m' m'' es ts fits all less len one =
    let source_fits : SourceFits r sizes.source sizes.kept n = record { inside = fits.inside; used = fits.used; less = fits.less_pointers } in
    let a = another source_fits all less len one in
    let at : ℕ = r.at + element_count es * (sizes.source.data_words + sizes.source.pointers) in
    record {
      all = a.all;
      counts = a.counts;
      are_read = a.are_read;
      shape =
          a.shape ∙ ap (λ xs. with_last_element (cut_to sizes.kept.data_words sizes.kept.pointers (trim_elements es)) xs (trim_each ts)) (words_taken r.segments r.segment at sizes.kept.data_words sizes.source.data_words fits.less_data);
      costs = a.costs;
      follows = a.follows;
    }
one_more _ r sizes n m m' m'' es ts fits all less len one =
    let d : ℕ = sizes.source.data_words in
    let q : ℕ = sizes.source.pointers in
    let j : ℕ = element_count es in
    let ws : List ℕ = words_at r.segments r.segment (r.at + j * (d + q)) d in
    let same : sizes.kept ≡ sizes.source = fits.used in
    let end = row_within j n (d + q) less in
    record {
      all = with_last_element es ws ts;
      counts = count-with_last_element es ws ts;
      are_read = read_element all (omega (arith, end, fits.inside)) (len ∙ ap (λ s. s.pointers) same) one;
      shape =
          cut-last sizes.kept.data_words sizes.kept.pointers es ws ts
          ∙ ap₂ (λ (xs : List ℕ) us. with_last_element (cut_to sizes.kept.data_words sizes.kept.pointers es) xs us)
          (words_taken r.segments r.segment (r.at + j * (d + q)) sizes.kept.data_words d fits.less_data) (ap (λ i. take_trees i ts) (sym len) ∙ take_count ts);
      costs = omega arith;
      follows = omega (arith, pointers_in-with_last_element es ws ts);
    }

-- Elements without a kept section.

pub record Blank (b : Form) (r : Reading) (sizes : ElementSizes) (j : ℕ) (m : Meter) : Type 0 where
  pub all : Elements
  pub counts : element_count all ≡ j
  pub are_read : ReadsElements b r sizes.source m m all
  pub costs : are_read.cost ≡ 0
  pub follows : pointers_in_elements all ≡ 0

pub blank_elements : (b : Form) (r : Reading) (sizes : ElementSizes) (n : ℕ) (m : Meter) (j : ℕ) → j ≤ n → SourceKept b r sizes n → sizes.kept.pointers ≡ 0 → Blank b r sizes j m
unfolding read_no_element read_none
blank_elements b r sizes n m zero le fits none = record { all = no_elements; counts = refl; are_read = read_no_element b r sizes.source m; costs = refl; follows = refl }
blank_elements b r sizes n m (suc j) le fits none =
    let x = blank_elements b r sizes n m j (omega arith) fits none in
    let a = one_more b r sizes n m m m x.all no_trees fits x.are_read (omega (arith, x.counts)) (sym none) (read_none b (pointers_of r sizes.source (element_count x.all)) m) in
    record { all = a.all; counts = a.counts ∙ ap suc x.counts; are_read = a.are_read; costs = omega (arith, a.costs, x.costs); follows = omega (arith, a.follows, x.follows) }

pub nothing_filled : (S : Segments) (s p : ℕ) (es : Elements) → AreElementsFilled S S s p 0 0 (cut_to 0 0 es)
nothing_filled S s p no_elements = refl
nothing_filled S s p (element ws ts es) = (S, refl, refl, record { written = S; writes = sym (none_over S s p); filled = refl }, nothing_filled S s (p + 0 + 0) es)
