-- What widened structs and lists of structs leave of canonical words.
use Rattle.std.specs.Prelude.{◌≡◌, ℕ, length, ⊤}
use Rattle.capnp_format.specs.Tree.{Tree, Elements, no_elements, element, count}
use Rattle.capnp_format.specs.Canonical.{trim, encoding}

-- Two values have the same canonical form, and so the same canonical words.
abbrev pub SameCanonicalForm : Tree → Tree → Type 0
SameCanonicalForm t u = (trim u ≡ trim t) × (encoding (trim u) ≡ encoding (trim t))

-- Each element has d data words and q pointers. This holds for all elements of a list in a message.
abbrev pub HaveSize : ℕ → ℕ → Elements → Type 0
HaveSize d q no_elements = ⊤
HaveSize d q (element ws ts es) = (length ws ≡ d) × (count ts ≡ q) × HaveSize d q es
