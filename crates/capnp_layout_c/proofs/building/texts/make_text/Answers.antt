use Rattle.std.proofs.Common.{◌∷◌, ◌++◌, [], length, refl, sym}
use Rattle.std.specs.Prelude.{Ok, Err, ◌+◌}
use Rattle.capnp_format.specs.Numbers.{words_for}
use Rattle.capnp_format.specs.Tree.{Flat}
use Rattle.capnp_layout_c.specs.Builds.{MakesAt}
use Rattle.capnp_layout_c.proofs.BuildingCalls.{Tie, gives_what, kept_at, word_there}
use Rattle.capnp_layout_c.proofs.building.texts.make_text.Goals as goal

pub set_text-result-requires-clause-place : goal.set_text-result-requires-clause-place
set_text-result-requires-clause-place c = word_there c.new-arena.result c.args.used.now c.args.at c.new-arena.ensures.used c.requires.there.1

pub returns-in-Ok : goal.returns-in-Ok
returns-in-Ok c =
    let a = c.new-arena.result in
    let b = c.set_text-result.new.arena in
    let tie : Tie a b c.args.bytes.now _ c.args.used.now c.used.result = record {
      lent = _;
      is = c.new-arena.ensures.bytes;
      was = refl;
      from_is = c.new-arena.ensures.used;
      fresh = c.new-arena.ensures.refused;
      used_is = sym c.used.ensures;
      back = c.bytes-1.given.1.1;
    } in
    let e = c.in-Ok.ensures.object in
    record { makes = gives_what tie (Ok tt) 0 (MakesAt c.args.at (Flat 2 (c.args.text.now ++ 0 ∷ [])) (words_for 2 (length c.args.text.now + 1))) (kept_at tie (Ok tt) 0 c.args.at _ _ e) refl (record { object = e }) }

pub returns-in-Err : goal.returns-in-Err
returns-in-Err c =
    let a = c.new-arena.result in
    let b = c.set_text-result.new.arena in
    let tie : Tie a b c.args.bytes.now _ c.args.used.now c.used.result = record {
      lent = _;
      is = c.new-arena.ensures.bytes;
      was = refl;
      from_is = c.new-arena.ensures.used;
      fresh = c.new-arena.ensures.refused;
      used_is = sym c.used.ensures;
      back = c.bytes-1.given.1.1;
    } in
    let e = c.in-Err.ensures.object in
    record { makes = gives_what tie (Err c.in-Err.kind) _ (MakesAt c.args.at (Flat 2 (c.args.text.now ++ 0 ∷ [])) (words_for 2 (length c.args.text.now + 1))) (kept_at tie (Err c.in-Err.kind) 0 c.args.at _ _ e) c.number_of.ensures.number (record { object = e }) }
