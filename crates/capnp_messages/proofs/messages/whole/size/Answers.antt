use Rattle.std.proofs.Common.{map, refl, true}
use Rattle.std.proofs.lemmas.Result.{err_from_is_err_and}
use Rattle.capnp_format.specs.Bytes.{message}
use Rattle.capnp_arena_traits.specs.Limits.{whole}
use Rattle.capnp_messages.specs.Messages.{arena_limits}
use Rattle.capnp_messages.proofs.SizeLemmas.{has_size_if, size_at_root, size_found, size_refused_if, size_without_root}
use Rattle.capnp_messages.proofs.MessageLemmas.{AtRoot, at_root}
use Rattle.capnp_messages.proofs.messages.whole.size.Goals as goal

pub returns-in_err-root-clause-counted : goal.returns-in_err-root-clause-counted
returns-in_err-root-clause-counted g c =
    let p = err_from_is_err_and c.from_residual.result c.from_residual.ensures.1 in
    rw (p.1, p.2) (size_without_root (arena_limits c.args.source.now.nesting_limit c.args.traversal_limit_in_words) c.new-lim.ensures c.in_err-root.ensures.refused)

pub returns-in_err-root-clause-exactly : goal.returns-in_err-root-clause-exactly
returns-in_err-root-clause-exactly g c = has_size_if (message (map whole (g.S.ReaderSegments.segments c.args.source.now.segments))) (arena_limits c.args.source.now.nesting_limit c.args.traversal_limit_in_words) c.from_residual.result (returns-in_err-root-clause-counted g c)

pub returns-in_err-root-clause-refused : goal.returns-in_err-root-clause-refused
returns-in_err-root-clause-refused g c = size_refused_if (message (map whole (g.S.ReaderSegments.segments c.args.source.now.segments))) (arena_limits c.args.source.now.nesting_limit c.args.traversal_limit_in_words) c.from_residual.result (returns-in_err-root-clause-counted g c)

pub returns-clause-counted : goal.returns-clause-counted
returns-clause-counted g c =
    let at : AtRoot (message (map whole (g.S.ReaderSegments.segments c.args.source.now.segments))) (arena_limits c.args.source.now.nesting_limit c.args.traversal_limit_in_words) _ c.read_root.new.lim =
    at_root refl refl c.new-lim.ensures c.in_ok-root.ensures.place
    c.in_ok-root.ensures.charged (c.in_ok-root.ensures.exactly.0 (refl {a = true})) in
    size_at_root at c.total_size.ensures

pub returns-clause-exactly : goal.returns-clause-exactly
returns-clause-exactly g c = has_size_if (message (map whole (g.S.ReaderSegments.segments c.args.source.now.segments))) (arena_limits c.args.source.now.nesting_limit c.args.traversal_limit_in_words) c.total_size.result (returns-clause-counted g c)

pub returns-clause-refused : goal.returns-clause-refused
returns-clause-refused g c = size_refused_if (message (map whole (g.S.ReaderSegments.segments c.args.source.now.segments))) (arena_limits c.args.source.now.nesting_limit c.args.traversal_limit_in_words) c.total_size.result (returns-clause-counted g c)

pub returns-clause-size : goal.returns-clause-size
returns-clause-size g c =
    let at : AtRoot (message (map whole (g.S.ReaderSegments.segments c.args.source.now.segments))) (arena_limits c.args.source.now.nesting_limit c.args.traversal_limit_in_words) _ c.read_root.new.lim =
    at_root refl refl c.new-lim.ensures c.in_ok-root.ensures.place
    c.in_ok-root.ensures.charged (c.in_ok-root.ensures.exactly.0 (refl {a = true})) in
    size_found c.total_size.result at c.total_size.ensures
