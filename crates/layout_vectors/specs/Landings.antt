-- The program's form of where a pointer leads.
use Rattle.capnp_format.specs.Segments.{Target}
use Rattle.layout_vectors.specs.declared.vectors.landing.PointerTarget.{PointerTarget}

-- The target of a landing.
abbrev pub target_at : PointerTarget → Target
target_at l = record { word = l.word.0; segment = l.segment; start = l.start; pads = l.pads }
