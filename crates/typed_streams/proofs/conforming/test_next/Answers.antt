use Rattle.std.proofs.Common.{◌≡◌, Ok, inr, true, arith, refl, rules}
use Rattle.std.proofs.lemmas.Bool.{false≢true}
use Rattle.capnp_streams.proofs.StreamLemmas.{keeps_same}
use Rattle.typed_streams.proofs.ConformingLemmas.{one_tested}
use Rattle.typed_streams.proofs.conforming.test_next.Goals as goal

pub returns-in-Ok-write_yes-clause-tested : goal.returns-in-Ok-write_yes-clause-tested
returns-in-Ok-write_yes-clause-tested g c =
    let read : c.read_into_with.result ≡ Ok true = search rules in
    let frame = c.read_into_with.ensures.read read in
    let short = rw c.most_words.ensures at (c.read_into_with.ensures.most read) in
    one_tested _ _ frame.bytes _ (omega arith) c.size_in_bytes.ensures frame.framed short frame.consumed (c.in-Ok.ensures.exactly.0 refl) c.in-Ok-write_yes.ensures.written

pub returns-in-Err-test_message-clause-refused : goal.returns-in-Err-test_message-clause-refused
returns-in-Err-test_message-clause-refused g c =
    let read : c.read_into_with.result ≡ Ok true = search rules in
    let frame = c.read_into_with.ensures.read read in
    let short = rw c.most_words.ensures at (c.read_into_with.ensures.most read) in
    let no = c.in-Err-test_message.ensures in
    inr ((_, frame.bytes, frame.framed, short, frame.consumed, (λ it. false≢true (no.exactly.1 it)), no.refused), keeps_same (g.W.Output.contents c.args.output.now))
