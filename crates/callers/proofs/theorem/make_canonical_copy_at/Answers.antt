use Rattle.std.proofs.lemmas.Result.{IfErr-weaker, IfOk-weaker}
use Rattle.capnp_messages.proofs.CanonicalizeLemmas.{both_ok}
use Rattle.callers.proofs.CopiedAt.{asked_at, copied_at, lacks_memory_at, refused_at}
use Rattle.callers.proofs.theorem.make_canonical_copy_at.Goals as goal

pub returns-clause-exactly_where : goal.returns-clause-exactly_where
returns-clause-exactly_where g c = λ t cost means free covers fits.
    IfErr-weaker c.canonicalize_pointer.result _ _ (λ e. lacks_memory_at c.args.lim.now c.pointer_at.ensures t cost means free covers fits)
    c.canonicalize_pointer.ensures.refused

pub returns-clause-exactly_what : goal.returns-clause-exactly_what
returns-clause-exactly_what g c =
    IfOk-weaker c.canonicalize_pointer.result _ _ (λ made. copied_at c.pointer_at.ensures) c.canonicalize_pointer.ensures.copied

pub returns-clause-asked : goal.returns-clause-asked
returns-clause-asked g c =
    both_ok c.canonicalize_pointer.result c.canonicalize_pointer.ensures.copied c.canonicalize_pointer.ensures.tries
    (λ made. asked_at c.args.lim.now c.canonicalize_pointer.new.lim (g.A.Allocator.offers c.args.allocator) _ _ c.pointer_at.ensures)

pub returns-clause-granted : goal.returns-clause-granted
returns-clause-granted g c =
    IfOk-weaker c.canonicalize_pointer.result _ _ (λ made tries. tries.granted) c.canonicalize_pointer.ensures.tries

pub returns-clause-refused : goal.returns-clause-refused
returns-clause-refused g c =
    IfErr-weaker c.canonicalize_pointer.result _ _ (λ e. refused_at c.args.lim.now e.0 c.pointer_at.ensures) c.canonicalize_pointer.ensures.refused
