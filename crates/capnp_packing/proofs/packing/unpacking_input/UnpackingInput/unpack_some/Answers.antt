use Rattle.std.proofs.Common.{◌<◌, length, Some, None, Ok, refl, sym, ◌∙◌, rules, arith}
use Rattle.capnp_packing.proofs.UnpackingLemmas.{byte_taken, take_one, unpacks_none}
use Rattle.capnp_packing.proofs.GivingLemmas.{ahead_some, some_later}
use Rattle.capnp_packing.proofs.packing.unpacking_input.UnpackingInput.unpack_some.Goals as goal

pub returns-in-Some : goal.returns-in-Some
returns-in-Some g c =
    let room : 0 < length c.loop-self.to = search rules in
    let taken = byte_taken _ _ _ _ _ _ _ _ _ _ c.next.result (Some c.in-Some.byte) c.loop-self-test.true
    (sym c.in-Some.is ∙ c.step-taken.ensures.byte) c.step-taken.ensures.zeros c.step-taken.ensures.place
    c.loop-self.invariant.none c.in_ok-fill.ensures.kept c.next.ensures.byte in
    record {
      bound = search rules;
      bytes = rw (take_one c.loop-self.to c.in-Some.byte room) taken.0;
      kept = tt;
      place = taken.1;
      end = λ h. absurd (omega (arith, h));
      works = search rules;
      fails = tt;
      told = search rules;
    }

pub loop-self-preserved : goal.loop-self-preserved
loop-self-preserved g c = record {
  none = byte_taken _ _ _ _ _ _ _ _ _ _ c.next.result None c.loop-self-test.true
      (sym c.in_default-byte.is ∙ c.step-taken.ensures.byte) c.step-taken.ensures.zeros c.step-taken.ensures.place
      c.loop-self.invariant.none c.in_ok-fill.ensures.kept c.next.ensures.byte;
  works = search rules;
  told = search rules;
}

pub loop-self-init : goal.loop-self-init
loop-self-init g c = record { none = unpacks_none _ _ _; works = refl; told = refl }

pub returns-in-Raw : goal.returns-in-Raw
returns-in-Raw g c = some_later g.R.Input c.read_raw.result c.args.self.now c.loop-self.self c.read_raw.new.self c.read_raw.new.to c.loop-self.invariant.none c.loop-self.invariant.works c.loop-self.invariant.told c.read_raw.ensures

pub returns : goal.returns
returns g c =
    some_later g.R.Input (Ok c.write_due_zeros.result) c.args.self.now c.loop-self.self c.write_due_zeros.new.self c.write_due_zeros.new.to c.loop-self.invariant.none c.loop-self.invariant.works c.loop-self.invariant.told
    (ahead_some g.R.Input c.write_due_zeros.result c.loop-self.self c.write_due_zeros.new.self c.write_due_zeros.new.to c.write_due_zeros.ensures)
