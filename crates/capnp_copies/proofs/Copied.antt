-- The words of a segment once a value is copied after them: its body is there, and its pointer at
-- position p.
use Rattle.std.proofs.Common.{ℕ, List, ◌++◌, length, set}
use Rattle.capnp_format.specs.Tree.{Tree}
use Rattle.capnp_format.specs.Canonical.{pointer, body, offset_to}

abbrev pub copied : List ℕ → ℕ → Tree → List ℕ
copied ws p t = set (ws ++ body t) p (pointer t (offset_to p (length ws)))
