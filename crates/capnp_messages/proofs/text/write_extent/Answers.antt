use Rattle.std.proofs.lemmas.Result.{on_ok_weaker}
use Rattle.capnp_framing.proofs.WritingLemmas.{appends_both}
use Rattle.capnp_messages.proofs.text.write_extent.Goals as goal

pub returns : goal.returns
returns g c =
    let depth = rw c.from.ensures at c.in_ok-write_number.ensures.written in
    let first = appends_both _ _ _ _ _ c.in_ok-write_all.ensures.written depth in
    let name = appends_both _ _ _ _ _ first c.in_ok-write_all-2.ensures.written in
    let words = appends_both _ _ _ _ _ name c.in_ok-write_number-2.ensures.written in
    let second = appends_both _ _ _ _ _ words c.in_ok-write_all-3.ensures.written in
    let front = appends_both _ _ _ _ _ second c.in_ok-write_number-3.ensures.written in
    record {
      written = on_ok_weaker c.write_all-4.result (λ last. appends_both _ _ _ _ _ front last) c.write_all-4.ensures.written;
      works = c.write_all-4.ensures.works;
      fails = c.write_all-4.ensures.fails;
    }
