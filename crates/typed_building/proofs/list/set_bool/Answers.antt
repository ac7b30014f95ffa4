use Rattle.std.proofs.Common.{◌≡◌, ◌+◌, ◌*◌, cond, Bool, true, false, ◌<◌, ◌^◌, ap, ◌∙◌, arith}
use Rattle.capnp_arena_traits.specs.View.{View}
use Rattle.capnp_format.specs.Numbers.{element_bits}
use Rattle.capnp_allocation.specs.Fields.{with_field}
use Rattle.capnp_words.specs.Sizes.{size_number}
use Rattle.capnp_readers.specs.Sections.{step_bits}
use Rattle.capnp_builders.proofs.HeldMade.{field_writes}
use Rattle.capnp_builders.proofs.HeldLists.{WritesElement, element_set, element_set_within}
use Rattle.typed_building.proofs.list.set_bool.Goals as goal

small_bit : (b : Bool) → cond b 1 0 < 2 ^ 1
small_bit true = omega arith
small_bit false = omega arith

writes : (g : _) (c : goal.After-set_bit g) → WritesElement (g.A.BuilderArena.view c.args.arena.now).words (g.A.BuilderArena.view c.set_bit.new.arena).words c.args.list c.args.index 1 (cond c.args.value 1 0)
writes g c =
    let list = c.args.list in
    let step : step_bits list.size list.struct_size ≡ 1 = ap (λ z. step_bits z list.struct_size) c.requires.there.is_size in
    let at : 8 * list.byte + c.from.result ≡ 8 * list.byte + c.args.index * step_bits list.size list.struct_size = rw step (omega (arith, c.from.ensures)) in
    record {
      range = c.requires.range;
      width = ap (λ z. element_bits (size_number z)) c.requires.there.is_size;
      some = omega arith;
      small = small_bit c.args.value;
      written = ap (λ (v : View). v.words) c.set_bit.ensures.written ∙ ap (λ k. with_field (g.A.BuilderArena.view c.args.arena.now).words list.segment k 1 (cond c.args.value 1 0)) at;
    }

pub returns-clause-sets : goal.returns-clause-sets
returns-clause-sets g c = λ s p size ns h. element_set s p size ns (writes g c) h

pub returns-clause-sets_child : goal.returns-clause-sets_child
returns-clause-sets_child g c = λ x place ws ts i size ns inside h there. element_set_within x place ws ts i size ns (writes g c) inside h there

pub returns-clause-memory : goal.returns-clause-memory
returns-clause-memory g c = field_writes _ _ c.args.list.segment (8 * c.args.list.byte + c.from.result) 1 (cond c.args.value 1 0) c.set_bit.ensures.written
