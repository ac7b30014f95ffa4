-- The size that a value has.
use Rattle.capnp_format.specs.Canonical.{word_count}
use Rattle.capnp_format.specs.Tree.{Tree, capabilities}
use Rattle.capnp_pointers.specs.declared.pointers.sizes.MessageSize.{MessageSize}

-- The size of the value t.
abbrev pub value_size : Tree → MessageSize
value_size t = record { word_count = word_count t; cap_count = capabilities t }
