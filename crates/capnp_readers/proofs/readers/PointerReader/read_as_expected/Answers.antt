use Rattle.std.proofs.Common.{inl, inr, refl, w32, rules}
use Rattle.std.proofs.lemmas.Bool.{false≢true}
use Rattle.std.proofs.lemmas.Int.{to_z-of_z}
use Rattle.std.proofs.lemmas.Result.{err_from_is_err_and}
use Rattle.capnp_readers.proofs.Answering.{answered, not_unread}
use Rattle.capnp_readers.proofs.readers.PointerReader.read_as_expected.Goals as goal

pub returns-in_err-from-clause-exactly : goal.returns-in_err-from-clause-exactly
returns-in_err-from-clause-exactly g c =
    let p = err_from_is_err_and c.from_residual.result c.from_residual.ensures.1 in
    rw p.1 (((λ e. absurd (false≢true e)), (λ (p, there, can). absurd (not_unread g.A.ReaderArena there c.in_err-from.ensures))))

pub returns-in_err-from-clause-refused : goal.returns-in_err-from-clause-refused
returns-in_err-from-clause-refused g c =
    let p = err_from_is_err_and c.from_residual.result c.from_residual.ensures.1 in
    rw (p.1, p.2) (inl (c.in_err-from.ensures, refl))

pub returns-clause-read : goal.returns-clause-read
returns-clause-read g c = c.in_ok-from.ensures

pub returns-clause-exactly : goal.returns-clause-exactly
returns-clause-exactly g c =
    let level = to_z-of_z w32 c.in_ok-from.from.nesting_limit (search rules) in
    answered g.A.ReaderArena c.args.lim.now c.in_ok-from.ensures (rw level at c.in_ok-object.ensures.exactly)

pub returns-in_err-object-clause-exactly : goal.returns-in_err-object-clause-exactly
returns-in_err-object-clause-exactly g c =
    let level = to_z-of_z w32 c.in_ok-from.from.nesting_limit (search rules) in
    let p = err_from_is_err_and c.from_residual-in_err-object.result c.from_residual-in_err-object.ensures.1 in
    rw p.1 (answered g.A.ReaderArena c.args.lim.now c.in_ok-from.ensures (rw level at c.in_err-object.ensures.exactly))

pub returns-in_err-object-clause-refused : goal.returns-in_err-object-clause-refused
returns-in_err-object-clause-refused g c =
    let level = to_z-of_z w32 c.in_ok-from.from.nesting_limit (search rules) in
    let p = err_from_is_err_and c.from_residual-in_err-object.result c.from_residual-in_err-object.ensures.1 in
    rw (p.1, p.2) (inr (c.in_ok-from.from, c.in_ok-from.ensures, rw level at c.in_err-object.ensures.refused))
