use Rattle.std.proofs.Common.{◌≡◌, Ok, true, arith, inr, rules}
use Rattle.capnp_streams.proofs.StreamLemmas.{keeps_same, one_done}
use Rattle.capnp_streams.proofs.streams.runs.answer_next.Goals as goal

pub returns-in-Ok-clause-answered : goal.returns-in-Ok-clause-answered
returns-in-Ok-clause-answered g c =
    let read : c.read_into_with.result ≡ Ok true = search rules in
    let frame = c.read_into_with.ensures.read read in
    let short = rw (c.most_words.ensures, c.limits.ensures) at (c.read_into_with.ensures.most read) in
    let (answer, is, written) = c.in-Ok.ensures.done.answered in
    one_done _ _ frame.bytes answer _ (omega arith) c.size_in_bytes.ensures frame.framed short frame.consumed is written

pub returns-in-Err-clause-refused : goal.returns-in-Err-clause-refused
returns-in-Err-clause-refused g c =
    inr (rw (c.most_words.ensures, c.limits.ensures) at c.in-Err.ensures.refused.why, keeps_same (g.W.Output.contents c.args.output.now))
