use Rattle.std.proofs.Common.{◌≡◌, ◌+◌, refl, sym, rules, arith}
use Rattle.std.specs.Prelude.{Ok, Err}
use Rattle.capnp_words.specs.Sizes.{sized}
use Rattle.capnp_layout_c.specs.Buffers.{sized_at}
use Rattle.capnp_layout_c.specs.Builds.{existing_at}
use Rattle.capnp_layout_c.proofs.BuildingCalls.{Tie, gives_opened, pointer_there}
use Rattle.capnp_layout_c.proofs.building.opening.capnp_layout_get_struct.Goals as goal

pub open_struct-result-requires : goal.open_struct-result-requires
open_struct-result-requires c = record {
  place =
      omega (
        arith,
        pointer_there c.new-arena.result c.args.used.now c.args.place c.args.index c.new-arena.ensures.used
            (c.has_pointer.ensures.0 (search rules)).0.1 (c.has_pointer.ensures.0 (search rules)).1,
        c.from.ensures,
        c.from-2.ensures,
      );
}

pub returns-in-Ok-clause-opens : goal.returns-in-Ok-clause-opens
returns-in-Ok-clause-opens c _ =
    let a = c.new-arena.result in
    let b = c.open_struct-result.new.arena in
    let tie : Tie a b c.args.bytes.now _ c.args.used.now c.used.result = record {
      lent = _;
      is = c.new-arena.ensures.bytes;
      was = refl;
      from_is = c.new-arena.ensures.used;
      fresh = c.new-arena.ensures.refused;
      used_is = sym c.used.ensures;
      back = c.bytes-1.given.1.1;
    } in
    let e = c.in-Ok.ensures in
    let p = c.args.place in
    let same : p.at + c.from.result + c.from-2.result ≡ p.at + p.data_words + c.args.index = omega (arith, c.from.ensures, c.from-2.ensures) in
    gives_opened tie (Ok c.in-Ok.found) 0 (p.at + c.from.result + c.from-2.result) (p.at + p.data_words + c.args.index) (sized c.args.data_words c.args.pointers) (existing_at c.in-Ok.found) same refl
    e.opened refl e.wide e.memory e.grows e.fits

pub returns-in-Err-clause-opens : goal.returns-in-Err-clause-opens
returns-in-Err-clause-opens c _ =
    let a = c.new-arena.result in
    let b = c.open_struct-result.new.arena in
    let tie : Tie a b c.args.bytes.now _ c.args.used.now c.used.result = record {
      lent = _;
      is = c.new-arena.ensures.bytes;
      was = refl;
      from_is = c.new-arena.ensures.used;
      fresh = c.new-arena.ensures.refused;
      used_is = sym c.used.ensures;
      back = c.bytes-1.given.1.1;
    } in
    let e = c.in-Err.ensures in
    let p = c.args.place in
    let same : p.at + c.from.result + c.from-2.result ≡ p.at + p.data_words + c.args.index = omega (arith, c.from.ensures, c.from-2.ensures) in
    gives_opened tie (Err c.in-Err.kind) c.number_of.result (p.at + c.from.result + c.from-2.result) (p.at + p.data_words + c.args.index) (sized c.args.data_words c.args.pointers) (sized_at 0 0 0) same c.number_of.ensures.number
    e.opened tt e.wide e.memory e.grows e.fits
