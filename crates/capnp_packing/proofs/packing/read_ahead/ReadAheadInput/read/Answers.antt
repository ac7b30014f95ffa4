use Rattle.std.proofs.Common.{◌≤◌, ◌+◌, length, drop, arith, rules, length-append, length-take, length-drop}
use Rattle.capnp_packing.proofs.UnitLemmas.{consumed, copied_ahead, none_ahead}
use Rattle.capnp_packing.proofs.packing.read_ahead.ReadAheadInput.read.Goals as goal

pub returns-then-self-clause-bytes : goal.returns-then-self-clause-bytes
returns-then-self-clause-bytes g c =
    rw (none_ahead c.args.self.now.bytes c.args.self.now.at c.args.self.now.end (g.R.Input.remaining c.args.self.now.input) c.if-self.true, none_ahead c.args.self.now.bytes c.args.self.now.at c.args.self.now.end (g.R.Input.remaining c.read.new.self) c.if-self.true) c.read.ensures.bytes

pub returns-clause-bytes : goal.returns-clause-bytes
returns-clause-bytes g c =
    let n = c.min-n.result in
    let bytes = c.args.self.now.bytes in
    let inside : c.args.self.now.at + c.min-n.result ≤ c.args.self.now.end = search rules in
    let room : c.min-n.result ≤ length c.args.to.now = search rules in (
      rw (copied_ahead c.args.self.now.bytes c.copy_from_slice.new.self _ c.args.to.now c.args.self.now.at c.args.self.now.end c.min-n.result inside room c.copy_from_slice.ensures.len c.copy_from_slice.ensures.after)
          (consumed c.args.self.now.bytes c.args.self.now.at c.args.self.now.end c.min-n.result _ inside),
      λ none some. absurd (omega (arith, none, some, c.min-n.ensures, c.copy_from_slice.ensures.len, length-append c.copy_from_slice.new.self (drop c.min-n.result c.args.to.now), length-take c.min-n.result c.args.to.now, length-drop c.min-n.result c.args.to.now, c.args.self.now.ordered, c.if-self.false)),
    )
