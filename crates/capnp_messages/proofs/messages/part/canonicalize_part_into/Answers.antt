use Rattle.std.proofs.Common.{map}
use Rattle.std.proofs.lemmas.Bool.{OnFalse_at, OnFalse_from, OnTrue_at, OnTrue_from}
use Rattle.std.proofs.lemmas.Result.{IfErr-weaker, IfOk-weaker, err_from_is_err_and}
use Rattle.capnp_format.specs.Bytes.{message}
use Rattle.capnp_format.specs.Segments.{Segments}
use Rattle.capnp_arena_traits.specs.Limits.{whole}
use Rattle.capnp_messages.specs.Messages.{arena_limits}
use Rattle.capnp_messages.proofs.MessagePartLemmas.{own_part_copy_refused, own_part_needs, part_here, part_of_own_copy, path_refused}
use Rattle.capnp_messages.proofs.messages.part.canonicalize_part_into.Goals as goal

pub returns-in_err-part-clause-refused : goal.returns-in_err-part-clause-refused
returns-in_err-part-clause-refused g c =
    let S : Segments = message (map whole (g.S.ReaderSegments.segments c.args.source.now.segments)) in
    let stops = part_here S (arena_limits c.args.source.now.nesting_limit c.args.traversal_limit_in_words) c.args.path.now _ _ c.new-lim.ensures c.in_err-part.ensures in
    let p = err_from_is_err_and c.from_residual.result c.from_residual.ensures.1 in
    rw (p.1, p.2) (path_refused S (arena_limits c.args.source.now.nesting_limit c.args.traversal_limit_in_words) c.args.path.now stops)

pub returns-clause-copied : goal.returns-clause-copied
returns-clause-copied g c =
    let S : Segments = message (map whole (g.S.ReaderSegments.segments c.args.source.now.segments)) in
    let leads = part_here S (arena_limits c.args.source.now.nesting_limit c.args.traversal_limit_in_words) c.args.path.now _ _ c.new-lim.ensures c.in_ok-part.ensures in
    IfOk-weaker c.canonicalize_reached_into.result _ _ (λ fits h. OnTrue_from fits _ (λ e. part_of_own_copy leads c.left.ensures (OnTrue_at e h))) c.canonicalize_reached_into.ensures.copied

pub returns-clause-small : goal.returns-clause-small
returns-clause-small g c =
    let S : Segments = message (map whole (g.S.ReaderSegments.segments c.args.source.now.segments)) in
    let leads = part_here S (arena_limits c.args.source.now.nesting_limit c.args.traversal_limit_in_words) c.args.path.now _ _ c.new-lim.ensures c.in_ok-part.ensures in
    IfOk-weaker c.canonicalize_reached_into.result _ _ (λ fits h. OnFalse_from fits _ (λ e. own_part_needs S (arena_limits c.args.source.now.nesting_limit c.args.traversal_limit_in_words) c.args.path.now leads (OnFalse_at e h))) c.canonicalize_reached_into.ensures.small

pub returns-clause-sure : goal.returns-clause-sure
returns-clause-sure g c = λ first grants.
    let S : Segments = message (map whole (g.S.ReaderSegments.segments c.args.source.now.segments)) in
    let leads = part_here S (arena_limits c.args.source.now.nesting_limit c.args.traversal_limit_in_words) c.args.path.now _ _ c.new-lim.ensures c.in_ok-part.ensures in
    IfOk-weaker c.canonicalize_reached_into.result _ _ (λ fits h. OnFalse_from fits _ (λ e. (_, _, leads, OnFalse_at e h))) (c.canonicalize_reached_into.ensures.sure first grants)

pub returns-clause-refused : goal.returns-clause-refused
returns-clause-refused g c =
    let S : Segments = message (map whole (g.S.ReaderSegments.segments c.args.source.now.segments)) in
    let leads = part_here S (arena_limits c.args.source.now.nesting_limit c.args.traversal_limit_in_words) c.args.path.now _ _ c.new-lim.ensures c.in_ok-part.ensures in
    IfErr-weaker c.canonicalize_reached_into.result _ _ (λ k h. own_part_copy_refused S (arena_limits c.args.source.now.nesting_limit c.args.traversal_limit_in_words) c.args.path.now leads c.left.ensures h) c.canonicalize_reached_into.ensures.refused
