use Rattle.std.proofs.Common.{◌≡◌, ◌+◌, [], ◌∷◌, ◌++◌, get_or, take, sym, subst, take_all}
use Rattle.std.proofs.lemmas.List.{take_more}
use Rattle.capnp_builders.specs.Held.{call_in}
use Rattle.capnp_in_place.proofs.Room.PlacesStay.{grows_again}
use Rattle.capnp_in_place.proofs.MovedPointers.RewrittenInTurn.{writes_both, writes_nothing}
use Rattle.capnp_allocation.proofs.FillingChains.{no_growth}
use Rattle.typed_building.specs.Slots.{ReplacesSlots, ZeroesSlots}
use Rattle.typed_building.specs.declared.slots.Slot.TheVariants.{Bit}
use Rattle.typed_building.proofs.Sets.{holds_at, replaces_last, replaces_none, zeroes_last}
use Rattle.typed_building.proofs.groups.zero_slots.Goals as goal

pub loop-slot-init : goal.loop-slot-init
loop-slot-init g c = record {
  grows = no_growth (g.A.BuilderArena.view c.args.arena.now).words;
  zeroes = λ x ws ts h. h;
  replaces = replaces_none (g.A.BuilderArena.view c.args.arena.now).words c.args.place;
  memory = writes_nothing (g.A.BuilderArena.view c.args.arena.now);
}

pub zero_slot-requires-clause-slot : goal.zero_slot-requires-clause-slot
zero_slot-requires-clause-slot g c = holds_at c.args.place c.args.slots.now c.loop-slot.slot-index (Bit 0) c.loop-slot-test.true c.requires.slots

-- One more part is zero.
pub loop-slot-preserved : goal.loop-slot-preserved
loop-slot-preserved g c =
    let before = c.loop-slot.invariant in
    let old = (g.A.BuilderArena.view c.args.arena.now).words in
    let mid = (g.A.BuilderArena.view c.loop-slot.arena).words in
    let new = (g.A.BuilderArena.view c.zero_slot.new.arena).words in
    let i = c.loop-slot.slot-index in
    let slots = c.args.slots.now in
    let slot = get_or slots i (Bit 0) in
    let next : take (i + 1) slots ≡ take i slots ++ slot ∷ [] = take_more slots i (Bit 0) c.loop-slot-test.true in
    record {
      grows = grows_again old mid new before.grows c.zero_slot.ensures.grows;
      zeroes = subst (ZeroesSlots (call_in c.args.place old new)) (sym next) (zeroes_last old mid new c.args.place (take i slots) slot before.zeroes c.zero_slot.ensures.zeroes);
      replaces = subst (ReplacesSlots (call_in c.args.place old new)) (sym next) (replaces_last old mid new c.args.place (take i slots) slot before.zeroes before.replaces c.zero_slot.ensures.replaces);
      memory = writes_both _ _ _ before.memory c.zero_slot.ensures.memory;
    }

-- All parts are zero.

pub returns-clause-zeroes : goal.returns-clause-zeroes
returns-clause-zeroes g c =
    let old = (g.A.BuilderArena.view c.args.arena.now).words in
    let new = (g.A.BuilderArena.view c.loop-slot.arena).words in
    subst (ZeroesSlots (call_in c.args.place old new)) (take_all c.loop-slot.slot-index c.args.slots.now c.loop-slot-test.false) c.loop-slot.invariant.zeroes

pub returns-clause-replaces : goal.returns-clause-replaces
returns-clause-replaces g c =
    let old = (g.A.BuilderArena.view c.args.arena.now).words in
    let new = (g.A.BuilderArena.view c.loop-slot.arena).words in
    subst (ReplacesSlots (call_in c.args.place old new)) (take_all c.loop-slot.slot-index c.args.slots.now c.loop-slot-test.false) c.loop-slot.invariant.replaces
