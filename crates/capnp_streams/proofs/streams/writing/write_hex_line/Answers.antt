use Rattle.std.proofs.Common.{◌≡◌, length, rules}
use Rattle.std.proofs.lemmas.Result.{on_ok_weaker}
use Rattle.hex.specs.Hex.{encode_lower}
use Rattle.capnp_framing.proofs.WritingLemmas.{appends_both, left_over_all, left_over_end, left_over_less}
use Rattle.capnp_streams.proofs.DigitLemmas.{digits_parted, no_digits}
use Rattle.capnp_streams.proofs.streams.writing.write_hex_line.Goals as goal

pub loop-rest-init : goal.loop-rest-init
loop-rest-init g c = record {
  left_over = left_over_all _ _;
  works = search rules;
}

pub loop-rest-preserved : goal.loop-rest-preserved
loop-rest-preserved g c = record {
  left_over = left_over_less (encode_lower _)
      (record { left_over = c.loop-rest.invariant.left_over; appended = c.in_ok-write_hex_digits.ensures.written })
      (digits_parted c.min-n.result c.loop-rest.rest.now);
  works = search rules;
}

pub returns : goal.returns
returns g c =
    let none : length c.loop-rest.rest.now ≡ 0 = search rules in
    let digits = left_over_end _ _ _ _ c.loop-rest.invariant.left_over (no_digits c.loop-rest.rest.now none) in
    record {
      written = on_ok_weaker c.write_all.result (λ feed. appends_both _ _ _ _ _ digits feed) c.write_all.ensures.written;
      works = c.write_all.ensures.works;
      fails = c.write_all.ensures.fails;
    }
