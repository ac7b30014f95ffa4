-- The program's form of where a pointer leads.
use Rattle.capnp_format.specs.Segments.{Target}
use Rattle.capnp_allocation.specs.declared.landing.PointerTarget.{PointerTarget}

-- The target of a landing.
abbrev pub target_of : PointerTarget → Target
target_of l = record { word = l.word.0; segment = l.segment; start = l.start; pads = l.pads }
