use Rattle.std.proofs.Common.{◌-◌, ◌<◌, inl, inr, refl, subst, take, drop, arith}
use Rattle.std.specs.Io.KnownBytes.{Consumes}
use Rattle.capnp_framing.proofs.CountLemmas.{not_cut, short_read}
use Rattle.capnp_framing.proofs.ReadingLemmas.{not_failed}
use Rattle.capnp_framing.proofs.framing.reading.read_exact_between.Goals as goal

pub returns-in-Ok : goal.returns-in-Ok
returns-in-Ok g c = record {
  bytes = subst (λ k. Consumes (g.R.Input.remaining c.args.input.now) (g.R.Input.remaining c.read_between.new.input) (take k (drop c.args.start c.read_between.new.to))) c.if-n-end.true c.in-Ok.ensures.bytes;
  front = c.in-Ok.ensures.front;
  long = c.in-Ok.ensures.long;
  input = record { whole = c.in-Ok.ensures.input.whole; works = c.in-Ok.ensures.input.works };
  refused = tt;
  uncounted = tt;
}

pub returns-in-Ok-2 : goal.returns-in-Ok-2
returns-in-Ok-2 g c =
    let less : c.in-Ok.n < c.args.end - c.args.start = omega (arith, c.in-Ok.ensures.within, c.if-n-end.false) in
    let end = c.in-Ok.ensures.end (omega (arith, less)) in
    record {
      bytes = tt;
      front = c.in-Ok.ensures.front;
      long = c.in-Ok.ensures.long;
      input = record { whole = tt; works = tt };
      refused = record {
        why = inr (inl (refl, short_read _ _ c.in-Ok.n (c.args.end - c.args.start) _ less c.in-Ok.ensures.bytes end));
        failed = not_failed _ c.in-Ok.ensures.input.works;
        cut = λ _. end;
      };
      uncounted = λ _. refl;
    }

pub returns-in-Err : goal.returns-in-Err
returns-in-Err g c = record {
  bytes = tt;
  front = c.in-Err.ensures.front;
  long = c.in-Err.ensures.long;
  input = record { whole = tt; works = tt };
  refused = record { why = inr (inr (refl, c.in-Err.ensures.fails)); failed = λ _. refl; cut = not_cut };
  uncounted = λ _. refl;
}
