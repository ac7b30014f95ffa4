use Rattle.std.proofs.Common.{inr, rules, IsOk, refl}
use Rattle.std.proofs.lemmas.Result.{IfErr-weaker, IfOk-weaker}
use Rattle.capnp_pointers.specs.Wanted.{canonical}
use Rattle.capnp_pointers.proofs.WholeValue.ValueAsStated.{reads_is}
use Rattle.capnp_messages.specs.Messages.{arena_limits}
use Rattle.capnp_messages.proofs.CanonicalizeLemmas.{copy_refused, first_try, read_of, without_root}
use Rattle.capnp_messages.proofs.MessageLemmas.{AtRoot, at_root}
use Rattle.capnp_messages.proofs.messages.whole.canonicalize.Goals as goal

pub returns-in-Ok-clause-copied : goal.returns-in-Ok-clause-copied
returns-in-Ok-clause-copied g c =
    let read : IsOk c.read_root.result = search rules in
    let at : AtRoot _ (arena_limits c.args.source.now.nesting_limit c.args.traversal_limit_in_words) _ c.read_root.new.lim =
    at_root refl refl c.new-lim.ensures c.in-Ok.ensures.place
    c.in-Ok.ensures.charged (c.read_root.ensures.exactly.0 read) in
    IfOk-weaker c.canonicalize_reached.result _ _ (λ made (t, reads, holds). read_of at (t, reads_is canonical _ _ _ t reads, holds)) c.canonicalize_reached.ensures.copied

pub returns-in-Ok-clause-tries : goal.returns-in-Ok-clause-tries
returns-in-Ok-clause-tries g c =
    let read : IsOk c.read_root.result = search rules in
    let at : AtRoot _ (arena_limits c.args.source.now.nesting_limit c.args.traversal_limit_in_words) _ c.read_root.new.lim =
    at_root refl refl c.new-lim.ensures c.in-Ok.ensures.place
    c.in-Ok.ensures.charged (c.read_root.ensures.exactly.0 read) in
    IfOk-weaker c.canonicalize_reached.result _ _ (λ made. first_try at) c.canonicalize_reached.ensures.tries

pub returns-in-Ok-clause-refused : goal.returns-in-Ok-clause-refused
returns-in-Ok-clause-refused g c =
    let read : IsOk c.read_root.result = search rules in
    let at : AtRoot _ (arena_limits c.args.source.now.nesting_limit c.args.traversal_limit_in_words) _ c.read_root.new.lim =
    at_root refl refl c.new-lim.ensures c.in-Ok.ensures.place
    c.in-Ok.ensures.charged (c.read_root.ensures.exactly.0 read) in
    IfErr-weaker c.canonicalize_reached.result _ _ (λ e. copy_refused at) c.canonicalize_reached.ensures.refused

pub returns-in-Err-clause-refused : goal.returns-in-Err-clause-refused
returns-in-Err-clause-refused g c =
    inr (without_root (arena_limits c.args.source.now.nesting_limit c.args.traversal_limit_in_words) (rw c.new-lim.ensures at c.in-Err.ensures.refused), refl)
