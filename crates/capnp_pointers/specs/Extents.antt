-- The extent of a value: how deep it is, and how much it holds.
use Rattle.std.specs.Prelude.{ℕ, ◌-◌, ◌^◌, min}
use Rattle.capnp_format.specs.Canonical.{word_count}
use Rattle.capnp_format.specs.Tree.{Tree, capabilities, depth}
use Rattle.capnp_pointers.specs.Metered.{Metered, answer, ◌>>>◌}
use Rattle.capnp_pointers.specs.Reading.{Reading}
use Rattle.capnp_pointers.specs.Values.{value}
use Rattle.capnp_pointers.specs.Wanted.{plain}
use Rattle.capnp_pointers.specs.declared.pointers.validate.Extent.{Extent}

-- The number n, or the greatest u64 if that is less.
abbrev pub capped : ℕ → ℕ
capped n = min n (2 ^ 64 - 1)

-- The extent of the value t.
abbrev pub value_extent : Tree → Extent
value_extent t =
    record {
      depth = depth t;
      words = capped (word_count t);
      capabilities = capped (capabilities t);
    }

-- Reads the value at a place, which may have capabilities, and returns its extent.
abbrev pub read_extent : Reading → Metered Extent
read_extent r = value plain r >>> λ t. answer (value_extent t)
