use Rattle.std.proofs.lemmas.Result.{on_ok_weaker}
use Rattle.capnp_framing.proofs.WritingLemmas.{appends_both}
use Rattle.capnp_messages.proofs.text.write_size.Goals as goal

pub returns : goal.returns
returns g c =
    let words = appends_both _ _ _ _ _ c.in_ok-write_all.ensures.written c.in_ok-write_number.ensures.written in
    let name = appends_both _ _ _ _ _ words c.in_ok-write_all-2.ensures.written in
    let caps = rw c.from.ensures at c.in_ok-write_number-2.ensures.written in
    let front = appends_both _ _ _ _ _ name caps in
    record {
      written = on_ok_weaker c.write_all-3.result (λ last. appends_both _ _ _ _ _ front last) c.write_all-3.ensures.written;
      works = c.write_all-3.ensures.works;
      fails = c.write_all-3.ensures.fails;
    }
