use Rattle.std.proofs.Common.{◌≡◌, ◌<◌, length, rules}
use Rattle.std.proofs.lemmas.Result.{IfErr-weaker, IfOk-weaker}
use Rattle.capnp_format.specs.Bytes.{message}
use Rattle.capnp_format.specs.Segments.{Segments}
use Rattle.capnp_messages.specs.MessageParts.{IsDigestOfPart}
use Rattle.capnp_streams.specs.Asked.{IsDigestAt}
use Rattle.capnp_streams.specs.Paths.{path_indexes}
use Rattle.capnp_streams.proofs.AskedLemmas.{of_part, of_whole, refused_part, refused_whole}
use Rattle.capnp_streams.proofs.streams.parts.digest_for_task.Goals as goal

pub returns-then-is_empty-clause-digest : goal.returns-then-is_empty-clause-digest
returns-then-is_empty-clause-digest g c =
    let S : Segments = message (g.S.ReaderSegments.segments c.args.segments) in
    let none : length (path_indexes c.args.task.path) ≡ 0 = search rules in
    IfOk-weaker c.digest.result.0 _ _ (λ d. of_whole (λ path. IsDigestAt S c.args.task.limits path d) (path_indexes c.args.task.path) none)
    (rw (c.new-source.ensures.words, c.new-source.ensures.nesting) at c.digest.ensures.digest)

pub returns-then-is_empty-clause-refused : goal.returns-then-is_empty-clause-refused
returns-then-is_empty-clause-refused g c =
    let none : length (path_indexes c.args.task.path) ≡ 0 = search rules in
    IfErr-weaker c.digest.result.0 _ _ (λ k no. refused_whole (message (g.S.ReaderSegments.segments c.args.segments)) c.args.task.limits (path_indexes c.args.task.path) _ _ _ none no)
    (rw (c.new-source.ensures.words, c.new-source.ensures.nesting) at c.digest.ensures.refused)

pub returns-clause-digest : goal.returns-clause-digest
returns-clause-digest g c =
    let S : Segments = message (g.S.ReaderSegments.segments c.args.segments) in
    let here : 0 < length c.indexes-path.result.now = search rules in
    let some = rw c.indexes-path.ensures at here in
    IfOk-weaker c.digest_of_part.result.0 _ _ (λ d. of_part (λ p. IsDigestAt S c.args.task.limits p d) (λ p. IsDigestOfPart S c.args.task.limits p d) (path_indexes c.args.task.path) (λ i rest h. h) some)
    (rw (c.indexes-path.ensures, c.new-source.ensures.words, c.new-source.ensures.nesting) at c.digest_of_part.ensures.digest)

pub returns-clause-refused : goal.returns-clause-refused
returns-clause-refused g c =
    let here : 0 < length c.indexes-path.result.now = search rules in
    let some = rw c.indexes-path.ensures at here in
    IfErr-weaker c.digest_of_part.result.0 _ _ (λ k no. refused_part (message (g.S.ReaderSegments.segments c.args.segments)) c.args.task.limits (path_indexes c.args.task.path) _ _ _ some no)
    (rw (c.indexes-path.ensures, c.new-source.ensures.words, c.new-source.ensures.nesting) at c.digest_of_part.ensures.refused)
