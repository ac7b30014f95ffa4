use Rattle.std.proofs.Common.{◌<◌, length, refl, rules, arith}
use Rattle.capnp_arena_traits.specs.View.{View}
use Rattle.capnp_format.specs.Forest.{target}
use Rattle.capnp_builders.specs.Defaults.{blob_default}
use Rattle.capnp_builders.proofs.DefaultUses.{then_does}
use Rattle.capnp_builders.proofs.FoundBytes.{GivesFoundBytes, text_inside, found_given}
use Rattle.capnp_in_place.specs.Existing.{text_in}
use Rattle.capnp_allocation.proofs.Zeros.{there}
use Rattle.capnp_builders.proofs.builders.PointerBuilder.get_text_place.Goals as goal

-- The value that is there after the default is put is inside the message.
pub returns-clause-found : goal.returns-clause-found
returns-clause-found g c = record {
  finds = record {
    found = λ t stored.
        (let a : View = g.A.BuilderArena.view c.args.self.now.arena.now in
        let m : View = g.A.BuilderArena.view c.put_blob_default.new.arena in
        let s = c.args.self.now.segment in
        let p = c.args.self.now.at in
        let inside : s < length m.words = there m.words s p (omega (arith, c.requires.there, c.in_ok-put_blob_default.ensures.longer.words s)) in
        then_does (blob_default c.args.default t) s p a m m t c.in_ok-put_blob_default.field-0 c.found_bytes.result (GivesFoundBytes text_in c.found_bytes.result) stored (c.in_ok-put_blob_default.ensures.put t stored)
        (λ u stands. (
          found_given m.words s (text_in (target m.words s p) u) c.get_text-found.result c.found_bytes.result (c.get_text-found.ensures.found u stands)
              (λ b e. text_inside m.words s p u b inside stands e) c.found_bytes.ensures.given,
          refl,
        )));
    memory = search rules;
  };
  set = search rules;
}
