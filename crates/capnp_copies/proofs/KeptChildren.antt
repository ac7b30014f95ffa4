-- What a copy keeps of children and of elements: their number, and their sizes.
use Rattle.std.proofs.Common.{◌≡◌, ℕ, ◌+◌, List, refl, ap, ◌∙◌}
use Rattle.capnp_format.specs.Tree.{Tree, Pointers, Trees, no_trees, tree, Elements, no_elements, element, count, element_count}
use Rattle.capnp_format.specs.Canonical.{take_trees, cut_to, word_count, word_count_all, word_count_elements}
use Rattle.capnp_format.proofs.Children.{with_last}
use Rattle.capnp_format.proofs.Trimming.{trim_each-count, trim_elements-count, cut_to-count}
use Rattle.capnp_pointers.specs.Wanted.{Form, canonical}
use Rattle.capnp_pointers.proofs.WholeValue.WordsAdded.{words-with_last}
use Rattle.capnp_copies.specs.Forms.{kept, kept_each, kept_elements}
use Rattle.capnp_copies.specs.declared.widths.ElementSizes.{ElementSizes}
use Rattle.capnp_copies.proofs.ChildrenCopied.{trim_each-with_last}
use Rattle.capnp_copies.proofs.UsedChildren.{take_trees-trim}
use Rattle.capnp_copies.proofs.Shapes.{AreShaped, AreShapedElements, trim_each-shaped, trim_elements-shaped}

-- Children.

pub kept_none : (b : Form) → kept_each b no_trees ≡ no_trees
kept_none canonical = refl
kept_none _ = refl

pub kept_first : (b : Form) (t : Tree) (ts : Trees) → kept_each b (tree t ts) ≡ tree (kept b t) (kept_each b ts)
kept_first canonical t ts = refl
kept_first _ t ts = refl

pub kept_pointers : (b : Form) (ts : Trees) → kept b (Pointers ts) ≡ Pointers (kept_each b ts)
kept_pointers canonical ts = refl
kept_pointers _ ts = refl

pub kept_each-count : (b : Form) (ts : Trees) → count (kept_each b ts) ≡ count ts
kept_each-count canonical ts = trim_each-count ts
kept_each-count _ ts = refl

pub kept_each-with_last : (b : Form) (ts : Trees) (u : Tree) → kept_each b (with_last ts u) ≡ with_last (kept_each b ts) (kept b u)
kept_each-with_last canonical ts u = trim_each-with_last ts u
kept_each-with_last _ ts u = refl

pub kept_each-shaped : (b : Form) (ts : Trees) → AreShaped ts → AreShaped (kept_each b ts)
kept_each-shaped canonical ts v = trim_each-shaped ts v
kept_each-shaped _ ts v = v

pub kept_words-with_last : (b : Form) (ts : Trees) (u : Tree) → word_count_all (kept_each b (with_last ts u)) ≡ word_count_all (kept_each b ts) + word_count (kept b u)
kept_words-with_last b ts u = ap word_count_all (kept_each-with_last b ts u) ∙ words-with_last (kept_each b ts) (kept b u)

pub take_trees-kept : (b : Form) (n : ℕ) (ts : Trees) → take_trees n (kept_each b ts) ≡ kept_each b (take_trees n ts)
take_trees-kept canonical n ts = take_trees-trim n ts
take_trees-kept _ n ts = refl

-- Elements.

-- The elements of a list in the sections of its copy.
abbrev pub cut_kept : Form → ElementSizes → Elements → Elements
cut_kept b sizes es = cut_to sizes.kept.data_words sizes.kept.pointers (kept_elements b es)

pub kept_no_elements : (b : Form) → kept_elements b no_elements ≡ no_elements
kept_no_elements canonical = refl
kept_no_elements _ = refl

kept_elements-count : (b : Form) (es : Elements) → element_count (kept_elements b es) ≡ element_count es
kept_elements-count canonical es = trim_elements-count es
kept_elements-count _ es = refl

pub cut_kept-count : (b : Form) (e q : ℕ) (es : Elements) → element_count (cut_to e q (kept_elements b es)) ≡ element_count es
cut_kept-count b e q es = cut_to-count e q (kept_elements b es) ∙ kept_elements-count b es

-- The words of the first element, and of those after it.
pub words_of_first : (b : Form) (sizes : ElementSizes) (ws : List ℕ) (ts : Trees) (es : Elements) →
    word_count_elements (cut_kept b sizes (element ws ts es)) ≡ word_count_all (take_trees sizes.kept.pointers (kept_each b ts)) + word_count_elements (cut_kept b sizes es)
words_of_first canonical sizes ws ts es = refl
words_of_first _ sizes ws ts es = refl

pub kept_elements-shaped : (b : Form) (d q : ℕ) (es : Elements) → AreShapedElements d q es → AreShapedElements d q (kept_elements b es)
kept_elements-shaped canonical d q es v = trim_elements-shaped d q es v
kept_elements-shaped _ d q es v = v
