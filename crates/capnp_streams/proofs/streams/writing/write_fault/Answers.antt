use Rattle.std.proofs.lemmas.Result.{on_ok_weaker}
use Rattle.capnp_framing.proofs.WritingLemmas.{appends_both}
use Rattle.capnp_streams.proofs.streams.writing.write_fault.Goals as goal

pub returns : goal.returns
returns g c =
    let reason = rw (c.as_bytes.ensures.value, c.text.ensures) at c.in_ok-write_all.ensures.written in
    let word = rw c.from.ensures at c.write_word_number.ensures.written in
    let front = appends_both _ _ _ _ _ c.in_ok-write_not_canonical.ensures.written reason in
    let place = appends_both _ _ _ _ _ front c.in_ok-write_segment_number.ensures.written in
    record {
      written = on_ok_weaker c.write_word_number.result (λ last. appends_both _ _ _ _ _ place last) word;
      works = c.write_word_number.ensures.works;
      fails = c.write_word_number.ensures.fails;
    }
