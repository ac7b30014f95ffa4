-- The segments that a builder arena outputs.
use Rattle.std.specs.Prelude.{ℕ, List, [], ◌∷◌, Bool, true, false, map}
use Rattle.capnp_arena.specs.declared.arena.output_segments.OutputSegments.{OutputSegments}
use Rattle.capnp_arena.specs.declared.arena.output_segments.OutputSegments.TheVariants.{SingleSegment}
use Rattle.capnp_arena.specs.declared.arena.output_segments.OutputSegments.TheVariants.{MultiSegment}

abbrev pub output_bytes : OutputSegments → List (List ℕ)
output_bytes (SingleSegment segment) = segment.now ∷ []
output_bytes (MultiSegment segments) = map (λ s. s.now) segments.items

abbrev pub is_single : OutputSegments → Bool
is_single (SingleSegment _) = true
is_single (MultiSegment _) = false
