use Rattle.std.proofs.Common.{◌≡◌, ◌<◌, true, nat_lt, Ok, ap, sym, arith, lt-ltb}
use Rattle.capnp_messages.proofs.messages.pointer_run.PointerRun.get.Goals as goal

pub returns : goal.returns
returns g c =
    let less : c.args.index < c.args.self.count = omega arith in
    let there : nat_lt c.args.index c.args.self.count ≡ true = lt-ltb _ _ less in
    rw there (ap Ok (sym (c.past.ensures (omega (arith, less, c.args.self.inside, c.args.self.first.held.1, c.args.self.first.held.2)))))
