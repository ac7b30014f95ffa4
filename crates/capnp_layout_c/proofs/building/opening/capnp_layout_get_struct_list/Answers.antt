use Rattle.std.proofs.Common.{◌≡◌, ◌+◌, refl, sym, rules, arith}
use Rattle.std.specs.Prelude.{Ok, Err}
use Rattle.capnp_words.specs.Sizes.{sized}
use Rattle.capnp_layout_c.specs.Lists.{no_list}
use Rattle.capnp_layout_c.proofs.BuildingCalls.{Tie, pointer_there}
use Rattle.capnp_layout_c.proofs.BuildingLists.{gives_list_opened}
use Rattle.capnp_layout_c.proofs.building.opening.capnp_layout_get_struct_list.Goals as goal

pub open_struct_list-result-requires : goal.open_struct_list-result-requires
open_struct_list-result-requires c = record {
  place =
      omega (
        arith,
        pointer_there c.new-arena.result c.args.used.now c.args.place c.args.index c.new-arena.ensures.used
            (c.has_pointer.ensures.0 (search rules)).0.1 (c.has_pointer.ensures.0 (search rules)).1,
        c.from.ensures,
        c.from-2.ensures,
      );
}

pub returns-in-Ok-clause-opens : goal.returns-in-Ok-clause-opens
returns-in-Ok-clause-opens c _ =
    let a = c.new-arena.result in
    let b = c.open_struct_list-result.new.arena in
    let tie : Tie a b c.args.bytes.now _ c.args.used.now c.used.result = record {
      lent = _;
      is = c.new-arena.ensures.bytes;
      was = refl;
      from_is = c.new-arena.ensures.used;
      fresh = c.new-arena.ensures.refused;
      used_is = sym c.used.ensures;
      back = c.bytes-1.given.1.1;
    } in
    let e = c.in-Ok.ensures in
    let p = c.args.place in
    let same : p.at + c.from.result + c.from-2.result ≡ p.at + p.data_words + c.args.index = omega (arith, c.from.ensures, c.from-2.ensures) in
    gives_list_opened tie (Ok c.in-Ok.found) 0 (p.at + c.from.result + c.from-2.result) (p.at + p.data_words + c.args.index) (sized c.args.data_words c.args.pointers) c.elements_of.result same refl
    e.opened c.elements_of.ensures e.memory e.grows e.fits

pub returns-in-Err-clause-opens : goal.returns-in-Err-clause-opens
returns-in-Err-clause-opens c _ =
    let a = c.new-arena.result in
    let b = c.open_struct_list-result.new.arena in
    let tie : Tie a b c.args.bytes.now _ c.args.used.now c.used.result = record {
      lent = _;
      is = c.new-arena.ensures.bytes;
      was = refl;
      from_is = c.new-arena.ensures.used;
      fresh = c.new-arena.ensures.refused;
      used_is = sym c.used.ensures;
      back = c.bytes-1.given.1.1;
    } in
    let e = c.in-Err.ensures in
    let p = c.args.place in
    let same : p.at + c.from.result + c.from-2.result ≡ p.at + p.data_words + c.args.index = omega (arith, c.from.ensures, c.from-2.ensures) in
    gives_list_opened tie (Err c.in-Err.kind) c.number_of.result (p.at + c.from.result + c.from-2.result) (p.at + p.data_words + c.args.index) (sized c.args.data_words c.args.pointers) no_list same c.number_of.ensures.number
    e.opened tt e.memory e.grows e.fits
