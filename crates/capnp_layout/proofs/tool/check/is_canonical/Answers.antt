use Rattle.std.proofs.Common.{rules, inl, inr, IsOk}
use Rattle.std.proofs.lemmas.Result.{err_from_is_err_and, IfErr-weaker}
use Rattle.capnp_format.specs.Bytes.{message}
use Rattle.capnp_messages.proofs.MessageLemmas.{AtRoot, at_root}
use Rattle.capnp_layout.specs.Messages.{segments_in}
use Rattle.capnp_layout.proofs.CheckLemmas.{check_answered, check_answers, check_refused}
use Rattle.capnp_layout.proofs.tool.check.is_canonical.Goals as goal

pub returns-in_err-ensure_small-clause-refused : goal.returns-in_err-ensure_small-clause-refused
returns-in_err-ensure_small-clause-refused c =
    let p = err_from_is_err_and c.from_residual.result c.from_residual.ensures.1 in
    rw (p.1, p.2) (inl (c.in_err-ensure_small.ensures.named, λ small. (let within : IsOk c.ensure_small.result = c.ensure_small.ensures.small.1 small in absurd (search rules))))

pub returns : goal.returns
returns c =
    let read : IsOk c.read_root.result = search rules in
    let at : AtRoot (message (segments_in c.args.source)) c.args.options _ c.read_root.new.lim =
    at_root c.new-arena.ensures.words c.new-arena.ensures.nesting c.new-lim.ensures c.in_ok-root.ensures.place c.in_ok-root.ensures.charged (c.read_root.ensures.exactly.0 read) in
    let from = c.from_pointer.ensures in
    let computed = rw (from.source, from.place, from.nesting) at c.is_canonical.ensures.computed in
    let held = rw (from.source, from.place) at c.is_canonical.ensures.small in
    record {
      small = search rules;
      check = check_answers c.is_canonical.result c.is_canonical.new.head c.is_canonical.new.lim at held computed;
      answered = λ small canonical. check_answered c.is_canonical.result c.is_canonical.new.head c.is_canonical.new.lim at computed canonical;
      refused = IfErr-weaker c.is_canonical.result _ _ (λ k refused. inr refused) (check_refused c.is_canonical.result c.is_canonical.new.head c.is_canonical.new.lim at computed);
    }
