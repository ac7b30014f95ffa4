-- The segments of a message that the program has read.
use Rattle.std.specs.Prelude.{ℕ, List, map, vec_items}
use Rattle.capnp_layout.specs.declared.tool.lines.Message.{Message}

abbrev pub segments_in : Message → List (List ℕ)
segments_in m = map vec_items m.segments.items
