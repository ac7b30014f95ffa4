-- What the worked examples need (`src/laws/examples.rt`): two facts about a whole message, and the
-- messages and values that several examples share. Each half of a word, the upper one first, is
-- written in hexadecimal.
use Rattle.std.specs.Prelude.{◌≡◌, ℕ, List, [], ◌∷◌}
use Rattle.capnp_format.specs.Segments.{Segments}
use Rattle.capnp_format.specs.Tree.{Tree, Null, Capability, Struct, Flat, Structs}
use Rattle.capnp_format.specs.Tree.{no_trees, tree, no_elements, element}
use Rattle.capnp_format.specs.Means.{Means}
use Rattle.capnp_format.specs.Canonical.{trim, encoding}

-- The root of S means a value within n levels at cost c, and the value's canonical words are
-- `words`. A reader is charged one word more, for the root pointer itself.
abbrev pub HasCanonicalWords : Segments → ℕ → ℕ → List ℕ → Type 0
HasCanonicalWords S n c words = (t : Tree) × Means S n 0 0 t c × (encoding (trim t) ≡ words)

-- The root of S means nothing within n levels.
abbrev pub MeansNothing : Segments → ℕ → Type 0
MeansNothing S n = (t : Tree) (c : ℕ) → Means S n 0 0 t c → ⊥

-- A struct of three data words, with zero as the last one.
abbrev pub trimmed_struct : Segments
trimmed_struct =
    (0x00000003_00000000 ∷ 0x11111111_11111111 ∷ 0x80000000_00000000 ∷ 0x00000000_00000000 ∷ [])
    ∷ []

-- A far pointer to a pad in another segment, followed by a struct.
abbrev pub far_pointer : Segments
far_pointer = (0x00000001_00000002 ∷ []) ∷ (0x00000001_00000000 ∷ 0x07060504_03020100 ∷ []) ∷ []

-- A double far pointer whose two pads are also the data of its struct.
abbrev pub double_far : Segments
double_far = (0x00000000_0000000e ∷ 0x00000000_00000008 ∷ 0x00000002_00000000 ∷ []) ∷ []

-- A struct whose two pointers lead to one child.
abbrev pub shared_child : Segments
shared_child =
    (0x00020000_00000000 ∷ 0x00000001_00000004 ∷ 0x00000001_00000000 ∷ 0x00000000_00000009 ∷ [])
    ∷ []

-- A struct of two data words, whose children are Null, a text and a capability.
abbrev pub mixed : Tree
mixed = Struct (7 ∷ 0 ∷ []) (tree Null (tree (Flat 2 (97 ∷ 0 ∷ [])) (tree (Capability 5) no_trees)))

-- A list of two structs, each of two data words and one pointer.
abbrev pub pair : Tree
pair = Structs 2 1 (element (0 ∷ 0 ∷ []) (tree Null no_trees)
    (element (7 ∷ 0 ∷ []) (tree (Struct [] no_trees) no_trees) no_elements))
