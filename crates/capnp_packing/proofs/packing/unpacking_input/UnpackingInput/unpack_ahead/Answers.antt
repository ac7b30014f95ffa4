use Rattle.std.proofs.Common.{arith, rules}
use Rattle.capnp_packing.specs.declared.packing.place.Place.TheVariants.{Tag}
use Rattle.capnp_packing.proofs.UnpackingLemmas.{takes}
use Rattle.capnp_packing.proofs.packing.unpacking_input.UnpackingInput.unpack_ahead.Goals as goal

pub returns : goal.returns
returns g c =
    let leads = rw c.buffer.ensures at c.unpack_words-progress.ensures.leads in
    let both = takes Tag _ _ _ _ _ _ leads c.consume.ensures.bytes in
    record {
      some = omega (arith, c.unpack_words-progress.ensures.some);
      bound = c.unpack_words-progress.ensures.within;
      bytes = rw (c.requires.zeros, c.requires.place) both.0;
      place = rw c.requires.place both.1;
      input = c.consume.ensures.input;
      told = search rules;
    }
