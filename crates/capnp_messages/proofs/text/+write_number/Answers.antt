use Rattle.std.proofs.Common.{arith, List, ℕ, subst}
use Rattle.std.specs.Io.KnownBytes.{Appends}
use Rattle.std.proofs.lemmas.Result.{on_ok_weaker}
use Rattle.capnp_messages.proofs.NumberLemmas.{last_digit, only_digit}
use Rattle.capnp_messages.proofs.text.+write_number.Goals as goal
use Rattle.capnp_messages.proofs.text.+write_number.Goals.{then-n-ge10+in_ok-write_number, else-n-ge10}

pub returns : goal.returns
returns g t c = record {
  written = elim c.if-n-ge10.branch [
    | then-n-ge10+in_ok-write_number w ↦ on_ok_weaker c.write_all.result (λ last. last_digit c.args.n (omega arith) (omega arith) (record { first = rw w.output-is w.in_ok-write_number.ensures.written; more = last })) c.write_all.ensures.written
    | else-n-ge10 w ↦
        on_ok_weaker c.write_all.result (λ only. subst (λ (ds : List ℕ). Appends (g.W.Output.contents c.args.output.now) (g.W.Output.contents c.write_all.new.output) ds) (only_digit c.args.n (omega arith)) only) (rw w.output-is at c.write_all.ensures.written)
  ];
  works = c.write_all.ensures.works;
  fails = c.write_all.ensures.fails;
}
