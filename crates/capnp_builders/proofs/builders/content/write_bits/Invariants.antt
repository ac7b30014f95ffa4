use Rattle.std.proofs.Common.{◌≡◌, ◌/◌, ◌%◌, ◌^◌}
use Rattle.capnp_builders.specs.Content.{with_fields, fields_from}
use Rattle.capnp_builders.proofs.builders.content.write_bits.Given as goal

abbrev pub invariant-loop-j : goal.invariant-loop-j
invariant-loop-j g l =
    g.A.BuilderArena.view l.arena ≡ record (g.A.BuilderArena.view l.fn.arena) { words = with_fields (g.A.BuilderArena.view l.fn.arena).words l.id (fields_from l.start 1 (λ j. l.byte / 2 ^ j % 2)) l.j }
