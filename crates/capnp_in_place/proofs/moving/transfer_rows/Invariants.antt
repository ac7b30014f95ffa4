use Rattle.std.proofs.Common.{◌≡◌, ◌≢◌, ◌+◌, ◌*◌}
use Rattle.capnp_format.specs.Segments.{Grows}
use Rattle.capnp_allocation.specs.Memory.{KeepsMemory}
use Rattle.capnp_in_place.specs.Anew.{WritesAnew}
use Rattle.capnp_in_place.specs.Moved.{Moves}
use Rattle.capnp_in_place.specs.Rooms.{GrowsByAtMost}
use Rattle.capnp_in_place.proofs.MovedPointers.RoomForPads.{Apart}
use Rattle.capnp_in_place.proofs.WiderObjects.Statements.{rows_moves}
use Rattle.capnp_in_place.proofs.moving.transfer_rows.Given as goal

abbrev pub invariant-loop-i : goal.invariant-loop-i
invariant-loop-i g l = record {
  moves : Moves (g.A.BuilderArena.view l.fn.arena).words (g.A.BuilderArena.view l.arena).words (rows_moves l.from.segment l.from.at l.from.step l.to.segment l.to.at l.to.step l.pointers l.i);
  written : WritesAnew (g.A.BuilderArena.view l.fn.arena) (g.A.BuilderArena.view l.arena) (rows_moves l.from.segment l.from.at l.from.step l.to.segment l.to.at l.to.step l.pointers l.i);
  source_at : l.source ≡ l.from.at + l.i * l.from.step;
  place_at : l.place ≡ l.to.at + l.i * l.to.step;
  longer : Grows (g.A.BuilderArena.view l.fn.arena).words (g.A.BuilderArena.view l.arena).words;
  few : GrowsByAtMost (g.A.BuilderArena.view l.fn.arena).words (g.A.BuilderArena.view l.arena).words (2 * (l.i * l.pointers));
  memory : KeepsMemory (g.A.BuilderArena.view l.fn.arena) (g.A.BuilderArena.view l.arena);
  apart : l.from.segment ≢ l.to.segment → Apart (g.A.BuilderArena.view l.fn.arena) (g.A.BuilderArena.view l.arena) l.from.segment (rows_moves l.from.segment l.from.at l.from.step l.to.segment l.to.at l.to.step l.pointers l.i);
}
