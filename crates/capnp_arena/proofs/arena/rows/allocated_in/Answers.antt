use Rattle.std.proofs.Common.{Some, refl, sym, ap, ◌∙◌, arith}
use Rattle.std.proofs.lemmas.Bool.{false≢true}
use Rattle.capnp_arena.specs.Row.{allocated}
use Rattle.capnp_arena.proofs.RowsLemmas.{shown_at}
use Rattle.capnp_arena.proofs.arena.rows.allocated_in.Goals as goal

pub returns-in-Some-clause-there : goal.returns-in-Some-clause-there
returns-in-Some-clause-there g c =
    (λ some. c.in-Some.ensures.lookup.3.0, λ there. refl)

pub returns-in-Some-clause-bytes : goal.returns-in-Some-clause-bytes
returns-in-Some-clause-bytes g c =
    let seg = g.S.Segment in
    let row = c.in-Some.row.now in
    shown_at seg c.args.rows.now c.args.id row c.in-Some.ensures.lookup.3.0 ∙ ap (λ q. Some (allocated seg q)) (sym c.in-Some.ensures.lookup.1) ∙ ap Some (sym c.allocated.ensures)

pub returns-in-None-clause-there : goal.returns-in-None-clause-there
returns-in-None-clause-there g c =
    (λ some. absurd (false≢true some), λ there. absurd (omega (arith, there, c.in-None.ensures.lookup.3)))
