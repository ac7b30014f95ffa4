use Rattle.std.proofs.Common.{Option, Ok, ap, map, sym, ◌∙◌, ℕ}
use Rattle.std.proofs.lemmas.Result.{err_from_is_err_and}
use Rattle.capnp_format.specs.Bytes.{message}
use Rattle.capnp_arena_traits.specs.Limits.{whole}
use Rattle.capnp_messages.specs.Extents.{words_taken}
use Rattle.capnp_messages.specs.Messages.{arena_limits}
use Rattle.capnp_messages.proofs.ExtentLemmas.{extent_if, from_root, readable_if}
use Rattle.capnp_messages.proofs.messages.validation.validate.Goals as goal

pub returns-in_err-value-clause-computed : goal.returns-in_err-value-clause-computed
returns-in_err-value-clause-computed g c =
    let p = err_from_is_err_and c.from_residual.result c.from_residual.ensures.1 in
    rw (p.1, p.2) (from_root (message (map whole (g.S.ReaderSegments.segments c.args.source.now.segments))) (arena_limits c.args.source.now.nesting_limit c.args.traversal_limit_in_words) c.new-lim.ensures c.in_err-value.ensures)

pub returns-in_err-value-clause-exactly : goal.returns-in_err-value-clause-exactly
returns-in_err-value-clause-exactly g c = readable_if (message (map whole (g.S.ReaderSegments.segments c.args.source.now.segments))) (arena_limits c.args.source.now.nesting_limit c.args.traversal_limit_in_words) c.from_residual.result (returns-in_err-value-clause-computed g c)

pub returns-clause-computed : goal.returns-clause-computed
returns-clause-computed g c =
    from_root (message (map whole (g.S.ReaderSegments.segments c.args.source.now.segments))) (arena_limits c.args.source.now.nesting_limit c.args.traversal_limit_in_words) c.new-lim.ensures c.in_ok-value.ensures
    ∙ ap (λ (x : Option ℕ). Ok (record { value = c.in_ok-value.value; cost = x })) (ap (words_taken c.args.traversal_limit_in_words) (sym c.left.ensures) ∙ sym c.words_taken.ensures)

pub returns-clause-exactly : goal.returns-clause-exactly
returns-clause-exactly g c = readable_if (message (map whole (g.S.ReaderSegments.segments c.args.source.now.segments))) (arena_limits c.args.source.now.nesting_limit c.args.traversal_limit_in_words) _ (returns-clause-computed g c)

pub returns-clause-extent : goal.returns-clause-extent
returns-clause-extent g c = extent_if (message (map whole (g.S.ReaderSegments.segments c.args.source.now.segments))) (arena_limits c.args.source.now.nesting_limit c.args.traversal_limit_in_words) _ (returns-clause-computed g c)
