use Rattle.std.proofs.Common.{rules, inl, inr, IsOk}
use Rattle.std.proofs.lemmas.Result.{err_from_is_err_and, IfErr-weaker}
use Rattle.capnp_arena_traits.specs.Limits.{IsSmall}
use Rattle.capnp_layout.specs.Messages.{segments_in}
use Rattle.capnp_layout.proofs.tool.size.measure_message.Goals as goal

pub returns-in_err-ensure_small-clause-refused : goal.returns-in_err-ensure_small-clause-refused
returns-in_err-ensure_small-clause-refused c =
    let p = err_from_is_err_and c.from_residual.result c.from_residual.ensures.1 in
    rw (p.1, p.2) (inl (c.in_err-ensure_small.ensures.named, λ small. (let within : IsOk c.ensure_small.result = c.ensure_small.ensures.small.1 small in absurd (search rules))))

pub returns-clause-refused : goal.returns-clause-refused
returns-clause-refused c = IfErr-weaker c.size.result _ _ (λ k. inr) (rw (c.new-arena.ensures.words, c.new-arena.ensures.nesting) at c.size.ensures.refused)

pub returns-clause-size : goal.returns-clause-size
returns-clause-size c = rw (c.new-arena.ensures.words, c.new-arena.ensures.nesting) at c.size.ensures.size

pub returns-clause-exactly : goal.returns-clause-exactly
returns-clause-exactly c =
    let small : IsSmall (segments_in c.args.source) = search rules in
    let exactly = rw (c.new-arena.ensures.words, c.new-arena.ensures.nesting) at c.size.ensures.exactly in
    (λ answered. (small, exactly.0 answered), λ (fits, has). exactly.1 has)
