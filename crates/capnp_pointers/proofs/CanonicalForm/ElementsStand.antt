-- Consecutive canonical elements, as a test with a moving head finds them.
use Rattle.std.specs.Prelude.{◌≡◌, ℕ, ◌+◌, length, ⊤}
use Rattle.capnp_format.specs.Segments.{Segments, HasWords}
use Rattle.capnp_format.specs.Tree.{Elements, no_elements, element, count}
use Rattle.capnp_format.specs.Canonical.{word_count_all}
use Rattle.capnp_pointers.specs.Standing.{HasBodiesAt}

-- S has elements of d data words and q pointers from (s, p) on, and the bodies of all their
-- children in order from the head h on.
abbrev pub ElementsStand : Segments → ℕ → ℕ → ℕ → ℕ → ℕ → Elements → Type 0
ElementsStand S s p d q h no_elements = ⊤
ElementsStand S s p d q h (element ws ts es) =
    (length ws ≡ d) × (count ts ≡ q) × HasWords S s p ws × HasBodiesAt S s (p + d) h ts ×
    ElementsStand S s (p + d + q) d q (h + word_count_all ts) es
