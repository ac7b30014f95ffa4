use Rattle.std.proofs.Common.{◌≡◌, ◌≤◌, ◌+◌, length, take, arith, rules, length-take}
use Rattle.std.proofs.lemmas.List.{take-append-le}
use Rattle.capnp_packing.proofs.UnpackingLemmas.{takes_raw}
use Rattle.capnp_packing.proofs.packing.unpacking_input.UnpackingInput.read_raw.Goals as goal

pub returns-then-n-gt0 : goal.returns-then-n-gt0
returns-then-n-gt0 g c =
    let inside : c.in_ok-n.n ≤ length c.read.new.to = c.in_ok-n.ensures.bound in
    let most : c.in_ok-n.n ≤ c.args.left + 1 = search rules in
    let long : length (take c.in_ok-n.n c.read.new.to) ≡ c.in_ok-n.n = omega (arith, length-take c.in_ok-n.n c.read.new.to, inside) in
    let both = takes_raw c.args.left c.in_ok-n.n _ _ _ _ _ _ c.requires.zeros c.requires.place c.place_after_raw-self.ensures long c.if-n-gt0.true most c.in_ok-n.ensures.bytes.0 in
    record {
      bound = search rules;
      bytes = rw (take-append-le c.in_ok-n.n c.read.new.to _ inside) both.0;
      kept = tt;
      place = both.1;
      end = λ none. absurd (omega (arith, none, c.if-n-gt0.true));
      works = search rules;
      fails = tt;
      told = search rules;
    }
