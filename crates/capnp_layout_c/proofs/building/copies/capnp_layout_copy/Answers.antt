use Rattle.std.proofs.Common.{refl, sym, rules, w32}
use Rattle.std.proofs.lemmas.Int.{to_z-of_z}
use Rattle.std.specs.Prelude.{Ok, Err}
use Rattle.capnp_pointers.specs.Wanted.{plain}
use Rattle.capnp_layout_c.specs.Lent.{lent_pointer}
use Rattle.capnp_layout_c.proofs.BuildingCalls.{Tie, place_there}
use Rattle.capnp_layout_c.proofs.BuildingCopies.{gives_copied}
use Rattle.capnp_layout_c.proofs.building.copies.capnp_layout_copy.Goals as goal

pub set_pointer_from-result-requires-clause-inside : goal.set_pointer_from-result-requires-clause-inside
set_pointer_from-result-requires-clause-inside c =
    place_there c.new-arena.result c.args.used.now c.args.place c.place-to.result c.new-arena.ensures.used
    (c.has_pointer.ensures.0 (search rules)).0.1 c.place-to.ensures

pub returns-in-Ok-clause-copies : goal.returns-in-Ok-clause-copies
returns-in-Ok-clause-copies c _ =
    let a = c.new-arena.result in
    let b = c.set_pointer_from-result.new.arena in
    let tie : Tie a b c.args.bytes.now _ c.args.used.now c.used.result = record {
      lent = _;
      is = c.new-arena.ensures.bytes;
      was = refl;
      from_is = c.new-arena.ensures.used;
      fresh = c.new-arena.ensures.refused;
      used_is = sym c.used.ensures;
      back = c.bytes-1.given.1.1;
    } in
    let e = c.in-Ok.ensures in
    record {
      after = c.set_pointer_from-result.new.lim;
      left_is = c.store_left.ensures;
      gives =
          gives_copied tie plain c.args.index c.set_pointer_from-result.new.lim (Ok tt) 0 c.place-to.result c.args.place _ (lent_pointer c.args.segments.now.list.now c.args.segment c.args.word c.args.nesting) _ _
          c.place-to.ensures (rw (to_z-of_z w32 c.args.nesting c.ranges.nesting) at c.pointer-from.ensures.place) c.new-lim.ensures refl
          e.copied e.fits e.refused e.taken e.child e.grows;
    }

pub returns-in-Err-clause-copies : goal.returns-in-Err-clause-copies
returns-in-Err-clause-copies c _ =
    let a = c.new-arena.result in
    let b = c.set_pointer_from-result.new.arena in
    let tie : Tie a b c.args.bytes.now _ c.args.used.now c.used.result = record {
      lent = _;
      is = c.new-arena.ensures.bytes;
      was = refl;
      from_is = c.new-arena.ensures.used;
      fresh = c.new-arena.ensures.refused;
      used_is = sym c.used.ensures;
      back = c.bytes-1.given.1.1;
    } in
    let e = c.in-Err.ensures in
    record {
      after = c.set_pointer_from-result.new.lim;
      left_is = c.store_left.ensures;
      gives =
          gives_copied tie plain c.args.index c.set_pointer_from-result.new.lim (Err c.in-Err.kind) c.number_of.result c.place-to.result c.args.place _ (lent_pointer c.args.segments.now.list.now c.args.segment c.args.word c.args.nesting) _ _
          c.place-to.ensures (rw (to_z-of_z w32 c.args.nesting c.ranges.nesting) at c.pointer-from.ensures.place) c.new-lim.ensures c.number_of.ensures.number
          e.copied e.fits e.refused e.taken e.child e.grows;
    }
