use Rattle.std.proofs.Common.{◌≡◌, ◌<◌, length, map, rules}
use Rattle.std.proofs.lemmas.Result.{IfErr-weaker, IfOk-weaker}
use Rattle.capnp_format.specs.Bytes.{message}
use Rattle.capnp_arena_traits.specs.Limits.{whole}
use Rattle.capnp_messages.proofs.CanonicalizeLemmas.{value_if}
use Rattle.capnp_messages.specs.Messages.{arena_limits}
use Rattle.capnp_streams.specs.Paths.{path_indexes}
use Rattle.capnp_streams.proofs.AskedLemmas.{refused_part, refused_whole, value_whole}
use Rattle.capnp_streams.proofs.streams.parts.canonicalize_for_task.Goals as goal

pub returns-else-is_empty-clause-refused : goal.returns-else-is_empty-clause-refused
returns-else-is_empty-clause-refused g c =
    let here : 0 < length c.indexes-path.result.now = search rules in
    let some = rw c.indexes-path.ensures at here in
    IfErr-weaker c.canonicalize_part.result _ _ (λ e no. refused_part (message (map whole (g.S.ReaderSegments.segments c.args.source.now.segments))) (arena_limits c.args.source.now.nesting_limit c.args.task.limits.traversal_limit_in_words) (path_indexes c.args.task.path) _ _ _ some no)
    (rw c.indexes-path.ensures at c.canonicalize_part.ensures.refused)

pub returns-then-is_empty-clause-copied : goal.returns-then-is_empty-clause-copied
returns-then-is_empty-clause-copied g c =
    let none : length (path_indexes c.args.task.path) ≡ 0 = search rules in
    IfOk-weaker c.canonicalize.result _ _ (λ made (t, is, words). (t, value_whole _ (arena_limits c.args.source.now.nesting_limit c.args.task.limits.traversal_limit_in_words) (path_indexes c.args.task.path) t none (value_if is), words))
    c.canonicalize.ensures.copied

pub returns-then-is_empty-clause-refused : goal.returns-then-is_empty-clause-refused
returns-then-is_empty-clause-refused g c =
    let none : length (path_indexes c.args.task.path) ≡ 0 = search rules in
    IfErr-weaker c.canonicalize.result _ _ (λ e no. refused_whole (message (map whole (g.S.ReaderSegments.segments c.args.source.now.segments))) (arena_limits c.args.source.now.nesting_limit c.args.task.limits.traversal_limit_in_words) (path_indexes c.args.task.path) _ _ _ none no) c.canonicalize.ensures.refused
