use Rattle.std.proofs.lemmas.Option.{IfSome_then}
use Rattle.std.proofs.lemmas.Result.{IfErr-weaker, IfOk-weaker}
use Rattle.capnp_streams.proofs.StreamLemmas.{keeps_both, refused_after}
use Rattle.typed_streams.proofs.ConformingLemmas.{tested_after}
use Rattle.typed_streams.proofs.conforming.flush_and_test_next.Goals as goal

pub returns-clause-end : goal.returns-clause-end
returns-clause-end g c = λ none.
    let (from, to, kept) = c.test_next.ensures.end none in
    (from, to, keeps_both _ _ _ c.flush_before_waiting.ensures.bytes kept)

pub returns-clause-tested : goal.returns-clause-tested
returns-clause-tested g c =
    IfOk-weaker c.test_next.result _ _
    (λ m one. IfSome_then m one (λ x. tested_after _ _ _ c.flush_before_waiting.ensures.bytes)) c.test_next.ensures.tested

pub returns-clause-refused : goal.returns-clause-refused
returns-clause-refused g c =
    IfErr-weaker c.test_next.result _ _ (λ e. refused_after _ _ _ c.flush_before_waiting.ensures.bytes) c.test_next.ensures.refused
