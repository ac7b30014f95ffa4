use Rattle.std.proofs.Common.{◌≡◌, ◌<◌, length, rules}
use Rattle.std.proofs.lemmas.Result.{IfErr-weaker, IfOk-weaker}
use Rattle.capnp_format.specs.Bytes.{message}
use Rattle.capnp_format.specs.Segments.{Segments}
use Rattle.capnp_streams.specs.Asked.{HasSizeAt, RefusesSizeAt}
use Rattle.capnp_streams.specs.Paths.{path_indexes}
use Rattle.capnp_streams.proofs.AskedLemmas.{of_whole, refused_size_of_part, size_of_part_is}
use Rattle.capnp_streams.proofs.streams.parts.size_for_task.Goals as goal

pub returns-then-is_empty-clause-size : goal.returns-then-is_empty-clause-size
returns-then-is_empty-clause-size g c =
    let S : Segments = message (g.S.ReaderSegments.segments c.args.segments) in
    let none : length (path_indexes c.args.task.path) ≡ 0 = search rules in
    IfOk-weaker c.size.result _ _ (λ z. of_whole (λ path. HasSizeAt S c.args.task.limits path z.word_count z.cap_count) (path_indexes c.args.task.path) none)
    (rw (c.new-source.ensures.words, c.new-source.ensures.nesting) at c.size.ensures.size)

pub returns-then-is_empty-clause-refused : goal.returns-then-is_empty-clause-refused
returns-then-is_empty-clause-refused g c =
    let S : Segments = message (g.S.ReaderSegments.segments c.args.segments) in
    let none : length (path_indexes c.args.task.path) ≡ 0 = search rules in
    IfErr-weaker c.size.result _ _ (λ k. of_whole (λ path. RefusesSizeAt S c.args.task.limits path k) (path_indexes c.args.task.path) none)
    (rw (c.new-source.ensures.words, c.new-source.ensures.nesting) at c.size.ensures.refused)

pub returns-clause-size : goal.returns-clause-size
returns-clause-size g c =
    let S : Segments = message (g.S.ReaderSegments.segments c.args.segments) in
    let here : 0 < length c.indexes-path.result.now = search rules in
    size_of_part_is S c.args.task.limits (path_indexes c.args.task.path) c.size_of_part.result (rw c.indexes-path.ensures at here)
    (rw (c.indexes-path.ensures, c.new-source.ensures.words, c.new-source.ensures.nesting) at c.size_of_part.ensures)

pub returns-clause-refused : goal.returns-clause-refused
returns-clause-refused g c =
    let S : Segments = message (g.S.ReaderSegments.segments c.args.segments) in
    let here : 0 < length c.indexes-path.result.now = search rules in
    refused_size_of_part S c.args.task.limits (path_indexes c.args.task.path) c.size_of_part.result (rw c.indexes-path.ensures at here)
    (rw (c.indexes-path.ensures, c.new-source.ensures.words, c.new-source.ensures.nesting) at c.size_of_part.ensures)
