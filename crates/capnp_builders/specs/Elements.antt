-- The elements of a list of a message being built, read as numbers ("Lists").
use Rattle.std.specs.Prelude.{ℕ, ◌*◌}
use Rattle.capnp_readers.specs.Sections.{step_bits}
use Rattle.capnp_readers.specs.declared.readers.list_reader.ListPlace.{ListPlace}
use Rattle.capnp_builders.specs.Places.{Field, field}

-- The lowest w bits of element i of a list, with the number v. They begin where the element does.
abbrev pub lowest_bits : ListPlace → ℕ → ℕ → ℕ → Field
lowest_bits list i w v = field (i * step_bits list.size list.struct_size) w v
