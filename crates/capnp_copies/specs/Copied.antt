-- The words of a segment while children are copied after them.
use Rattle.std.specs.Prelude.{ℕ, ◌+◌, ◌-◌, List, ◌++◌, length, take, drop}
use Rattle.capnp_format.specs.Tree.{Trees, count}
use Rattle.capnp_format.specs.Canonical.{pointers, bodies}

-- The words ws once children are copied: their bodies are after ws, and their pointers are from
-- position p of ws on.
abbrev pub with_children : List ℕ → ℕ → Trees → List ℕ
with_children ws p ts =
    take p ws ++ pointers (length ws - (p + count ts)) ts ++ drop (p + count ts) ws ++ bodies ts
