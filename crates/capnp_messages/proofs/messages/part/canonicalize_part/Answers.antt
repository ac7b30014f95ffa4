use Rattle.std.proofs.Common.{map, inr, refl}
use Rattle.std.proofs.lemmas.Result.{IfErr-weaker, IfOk-weaker}
use Rattle.capnp_format.specs.Bytes.{message}
use Rattle.capnp_format.specs.Segments.{Segments}
use Rattle.capnp_arena_traits.specs.Limits.{whole}
use Rattle.capnp_messages.specs.Messages.{arena_limits}
use Rattle.capnp_messages.proofs.MessagePartLemmas.{part_copy_refused, part_here, part_of_copy, path_refused}
use Rattle.capnp_messages.proofs.messages.part.canonicalize_part.Goals as goal

pub returns-in-Ok-clause-copied : goal.returns-in-Ok-clause-copied
returns-in-Ok-clause-copied g c =
    let S : Segments = message (map whole (g.S.ReaderSegments.segments c.args.source.now.segments)) in
    let leads = part_here S (arena_limits c.args.source.now.nesting_limit c.args.traversal_limit_in_words) c.args.path.now _ _ c.new-lim.ensures c.in-Ok.ensures in
    IfOk-weaker c.canonicalize_reached.result _ _ (λ made. part_of_copy c.canonicalize_reached.new.lim leads) c.canonicalize_reached.ensures.copied

pub returns-in-Ok-clause-tries : goal.returns-in-Ok-clause-tries
returns-in-Ok-clause-tries g c =
    let S : Segments = message (map whole (g.S.ReaderSegments.segments c.args.source.now.segments)) in
    let leads = part_here S (arena_limits c.args.source.now.nesting_limit c.args.traversal_limit_in_words) c.args.path.now _ _ c.new-lim.ensures c.in-Ok.ensures in
    IfOk-weaker c.canonicalize_reached.result _ _ (λ made tries. (_, _, leads, tries)) c.canonicalize_reached.ensures.tries

pub returns-in-Ok-clause-refused : goal.returns-in-Ok-clause-refused
returns-in-Ok-clause-refused g c =
    let S : Segments = message (map whole (g.S.ReaderSegments.segments c.args.source.now.segments)) in
    let leads = part_here S (arena_limits c.args.source.now.nesting_limit c.args.traversal_limit_in_words) c.args.path.now _ _ c.new-lim.ensures c.in-Ok.ensures in
    IfErr-weaker c.canonicalize_reached.result _ _ (λ e. part_copy_refused S (arena_limits c.args.source.now.nesting_limit c.args.traversal_limit_in_words) c.args.path.now leads) c.canonicalize_reached.ensures.refused

pub returns-in-Err-clause-refused : goal.returns-in-Err-clause-refused
returns-in-Err-clause-refused g c =
    let S : Segments = message (map whole (g.S.ReaderSegments.segments c.args.source.now.segments)) in
    let stops = part_here S (arena_limits c.args.source.now.nesting_limit c.args.traversal_limit_in_words) c.args.path.now _ _ c.new-lim.ensures c.in-Err.ensures in
    inr (path_refused S (arena_limits c.args.source.now.nesting_limit c.args.traversal_limit_in_words) c.args.path.now stops, refl)
