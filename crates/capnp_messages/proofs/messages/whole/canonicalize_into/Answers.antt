use Rattle.std.proofs.Common.{rules, IsOk, refl}
use Rattle.std.proofs.lemmas.Bool.{OnFalse_at, OnFalse_from, OnTrue_at, OnTrue_from}
use Rattle.std.proofs.lemmas.Result.{IfErr-weaker, IfOk-weaker, err_from_is_err_and}
use Rattle.capnp_messages.specs.Messages.{arena_limits}
use Rattle.capnp_messages.proofs.CanonicalizeLemmas.{own_copy_needs, own_copy_refused, root_needs, without_root}
use Rattle.capnp_messages.proofs.MessageLemmas.{AtRoot, at_root, own_copy_of}
use Rattle.capnp_messages.proofs.messages.whole.canonicalize_into.Goals as goal

pub returns-in_err-root-clause-refused : goal.returns-in_err-root-clause-refused
returns-in_err-root-clause-refused g c =
    let p = err_from_is_err_and c.from_residual.result c.from_residual.ensures.1 in
    rw (p.1, p.2) (without_root (arena_limits c.args.source.now.nesting_limit c.args.traversal_limit_in_words) (rw c.new-lim.ensures at c.in_err-root.ensures.refused))

pub returns-clause-copied : goal.returns-clause-copied
returns-clause-copied g c =
    let read : IsOk c.read_root.result = search rules in
    let at : AtRoot _ (arena_limits c.args.source.now.nesting_limit c.args.traversal_limit_in_words) _ c.read_root.new.lim =
    at_root refl refl c.new-lim.ensures c.in_ok-root.ensures.place
    c.in_ok-root.ensures.charged (c.read_root.ensures.exactly.0 read) in
    IfOk-weaker c.canonicalize_reached_into.result _ _ (λ fits h. OnTrue_from fits _ (λ e. own_copy_of at c.left.ensures (OnTrue_at e h))) c.canonicalize_reached_into.ensures.copied

pub returns-clause-small : goal.returns-clause-small
returns-clause-small g c =
    let read : IsOk c.read_root.result = search rules in
    let at : AtRoot _ (arena_limits c.args.source.now.nesting_limit c.args.traversal_limit_in_words) _ c.read_root.new.lim =
    at_root refl refl c.new-lim.ensures c.in_ok-root.ensures.place
    c.in_ok-root.ensures.charged (c.read_root.ensures.exactly.0 read) in
    IfOk-weaker c.canonicalize_reached_into.result _ _ (λ fits h. OnFalse_from fits _ (λ e. own_copy_needs at (OnFalse_at e h))) c.canonicalize_reached_into.ensures.small

pub returns-clause-sure : goal.returns-clause-sure
returns-clause-sure g c = λ first grants.
    let read : IsOk c.read_root.result = search rules in
    let at : AtRoot _ (arena_limits c.args.source.now.nesting_limit c.args.traversal_limit_in_words) _ c.read_root.new.lim =
    at_root refl refl c.new-lim.ensures c.in_ok-root.ensures.place
    c.in_ok-root.ensures.charged (c.read_root.ensures.exactly.0 read) in
    IfOk-weaker c.canonicalize_reached_into.result _ _ (λ fits h. OnFalse_from fits _ (λ e. root_needs at (OnFalse_at e h))) (c.canonicalize_reached_into.ensures.sure first grants)

pub returns-clause-refused : goal.returns-clause-refused
returns-clause-refused g c =
    let read : IsOk c.read_root.result = search rules in
    let at : AtRoot _ (arena_limits c.args.source.now.nesting_limit c.args.traversal_limit_in_words) _ c.read_root.new.lim =
    at_root refl refl c.new-lim.ensures c.in_ok-root.ensures.place
    c.in_ok-root.ensures.charged (c.read_root.ensures.exactly.0 read) in
    IfErr-weaker c.canonicalize_reached_into.result _ _ (λ k h. own_copy_refused at c.left.ensures h) c.canonicalize_reached_into.ensures.refused
