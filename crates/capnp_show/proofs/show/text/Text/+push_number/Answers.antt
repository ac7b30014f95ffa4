use Rattle.std.proofs.Common.{◌+◌, ◌%◌, [], ◌∷◌, sym, arith}
use Rattle.std.proofs.lemmas.Fmt.{decimal_digit, decimal_step}
use Rattle.capnp_show.proofs.Adds.{adds_as, adds_stops, adds_then}
use Rattle.capnp_show.proofs.show.text.Text.+push_number.Goals as goal

pub returns-then-n-lt10 : goal.returns-then-n-lt10
returns-then-n-lt10 t c = adds_as (sym (decimal_digit c.args.n (omega arith))) c.push.ensures

pub returns-in_err-push_number : goal.returns-in_err-push_number
returns-in_err-push_number t c =
    adds_as (sym (decimal_step c.args.n (omega arith) (omega (arith, c.ranges.n.fits))))
    (adds_stops c.from_residual.result c.push_number.new.self.bytes.items ((48 + c.args.n % 10) ∷ []) c.from_residual.ensures.1 c.in_err-push_number.ensures)

pub returns : goal.returns
returns t c =
    adds_as (sym (decimal_step c.args.n (omega arith) (omega (arith, c.ranges.n.fits))))
    (adds_then c.in_ok-push_number.ensures c.push-2.ensures)
