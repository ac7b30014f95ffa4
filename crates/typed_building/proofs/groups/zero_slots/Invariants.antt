use Rattle.std.proofs.Common.{take}
use Rattle.capnp_builders.specs.Held.{call_in}
use Rattle.capnp_format.specs.Segments.{Grows}
use Rattle.capnp_in_place.specs.Anew.{OnlyWrites}
use Rattle.typed_building.specs.Slots.{ReplacesSlots, ZeroesSlots}
use Rattle.typed_building.proofs.groups.zero_slots.Given as goal

-- The parts up to here are zero.
abbrev pub invariant-loop-slot : goal.invariant-loop-slot
invariant-loop-slot g l =
    record {
      grows : Grows (g.A.BuilderArena.view l.fn.arena).words (g.A.BuilderArena.view l.arena).words;
      zeroes : ZeroesSlots (call_in l.place (g.A.BuilderArena.view l.fn.arena).words (g.A.BuilderArena.view l.arena).words) (take l.slot-index l.slots);
      replaces : ReplacesSlots (call_in l.place (g.A.BuilderArena.view l.fn.arena).words (g.A.BuilderArena.view l.arena).words) (take l.slot-index l.slots);
      memory : OnlyWrites (g.A.BuilderArena.view l.fn.arena) (g.A.BuilderArena.view l.arena);
    }
