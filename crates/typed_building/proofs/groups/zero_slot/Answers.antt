use Rattle.std.proofs.Common.{[], ◌∷◌, subst, sym}
use Rattle.capnp_builders.specs.Held.{call_in}
use Rattle.typed_building.specs.Slots.{ReplacesSlots, ZeroesSlots}
use Rattle.typed_building.proofs.groups.zero_slot.Goals as goal

pub returns-in-Bit : goal.returns-in-Bit
returns-in-Bit g c = record {
  grows = c.set_bool.ensures.grows;
  zeroes = subst (λ s. ZeroesSlots (call_in c.args.place (g.A.BuilderArena.view c.args.arena.now).words (g.A.BuilderArena.view c.set_bool.new.arena).words) (s ∷ [])) (sym c.in-Bit.is) c.set_bool.ensures.sets;
  replaces = subst (λ s. ReplacesSlots (call_in c.args.place (g.A.BuilderArena.view c.args.arena.now).words (g.A.BuilderArena.view c.set_bool.new.arena).words) (s ∷ [])) (sym c.in-Bit.is) c.set_bool.ensures.replaces;
  memory = c.set_bool.ensures.memory;
}

pub returns-in-Byte : goal.returns-in-Byte
returns-in-Byte g c = record {
  grows = c.set_number.ensures.grows;
  zeroes = subst (λ s. ZeroesSlots (call_in c.args.place (g.A.BuilderArena.view c.args.arena.now).words (g.A.BuilderArena.view c.set_number.new.arena).words) (s ∷ [])) (sym c.in-Byte.is) c.set_number.ensures.sets;
  replaces = subst (λ s. ReplacesSlots (call_in c.args.place (g.A.BuilderArena.view c.args.arena.now).words (g.A.BuilderArena.view c.set_number.new.arena).words) (s ∷ [])) (sym c.in-Byte.is) c.set_number.ensures.replaces;
  memory = c.set_number.ensures.memory;
}

pub returns-in-TwoBytes : goal.returns-in-TwoBytes
returns-in-TwoBytes g c = record {
  grows = c.set_number-in-TwoBytes.ensures.grows;
  zeroes = subst (λ s. ZeroesSlots (call_in c.args.place (g.A.BuilderArena.view c.args.arena.now).words (g.A.BuilderArena.view c.set_number-in-TwoBytes.new.arena).words) (s ∷ [])) (sym c.in-TwoBytes.is) c.set_number-in-TwoBytes.ensures.sets;
  replaces = subst (λ s. ReplacesSlots (call_in c.args.place (g.A.BuilderArena.view c.args.arena.now).words (g.A.BuilderArena.view c.set_number-in-TwoBytes.new.arena).words) (s ∷ [])) (sym c.in-TwoBytes.is) c.set_number-in-TwoBytes.ensures.replaces;
  memory = c.set_number-in-TwoBytes.ensures.memory;
}

pub returns-in-FourBytes : goal.returns-in-FourBytes
returns-in-FourBytes g c = record {
  grows = c.set_number-in-FourBytes.ensures.grows;
  zeroes = subst (λ s. ZeroesSlots (call_in c.args.place (g.A.BuilderArena.view c.args.arena.now).words (g.A.BuilderArena.view c.set_number-in-FourBytes.new.arena).words) (s ∷ [])) (sym c.in-FourBytes.is) c.set_number-in-FourBytes.ensures.sets;
  replaces = subst (λ s. ReplacesSlots (call_in c.args.place (g.A.BuilderArena.view c.args.arena.now).words (g.A.BuilderArena.view c.set_number-in-FourBytes.new.arena).words) (s ∷ [])) (sym c.in-FourBytes.is) c.set_number-in-FourBytes.ensures.replaces;
  memory = c.set_number-in-FourBytes.ensures.memory;
}

pub returns-in-EightBytes : goal.returns-in-EightBytes
returns-in-EightBytes g c = record {
  grows = c.set_number-in-EightBytes.ensures.grows;
  zeroes = subst (λ s. ZeroesSlots (call_in c.args.place (g.A.BuilderArena.view c.args.arena.now).words (g.A.BuilderArena.view c.set_number-in-EightBytes.new.arena).words) (s ∷ [])) (sym c.in-EightBytes.is) c.set_number-in-EightBytes.ensures.sets;
  replaces = subst (λ s. ReplacesSlots (call_in c.args.place (g.A.BuilderArena.view c.args.arena.now).words (g.A.BuilderArena.view c.set_number-in-EightBytes.new.arena).words) (s ∷ [])) (sym c.in-EightBytes.is) c.set_number-in-EightBytes.ensures.replaces;
  memory = c.set_number-in-EightBytes.ensures.memory;
}

pub returns-in-Pointer : goal.returns-in-Pointer
returns-in-Pointer g c = record {
  grows = c.clear.ensures.grows;
  zeroes = subst (λ s. ZeroesSlots (call_in c.args.place (g.A.BuilderArena.view c.args.arena.now).words (g.A.BuilderArena.view c.clear.new.arena).words) (s ∷ [])) (sym c.in-Pointer.is) c.clear.ensures.sets;
  replaces = subst (λ s. ReplacesSlots (call_in c.args.place (g.A.BuilderArena.view c.args.arena.now).words (g.A.BuilderArena.view c.clear.new.arena).words) (s ∷ [])) (sym c.in-Pointer.is) c.clear.ensures.replaces;
  memory = c.clear.ensures.memory;
}
