use Rattle.std.proofs.Common.{◌≡◌, ◌∙◌, ◌<◌, ℕ, List, length, inl, inr, refl, arith}
use Rattle.std.specs.Int.{from_le_bytes, w32}
use Rattle.capnp_framing.proofs.CountLemmas.{count_told, end_at_once, four_read, many_told, not_none, short_count}
use Rattle.capnp_framing.proofs.ReadingLemmas.{not_failed}
use Rattle.capnp_framing.proofs.UnreadLemmas.{gives_nothing}
use Rattle.capnp_framing.proofs.framing.reading.read_segment_count.Goals as goal

pub returns-in-Ok-eq0 : goal.returns-in-Ok-eq0
returns-in-Ok-eq0 g c =
    let long : length c.read_up_to.new.to ≡ 4 = c.in-Ok-eq0.ensures.long ∙ c.told-first in
    let end = c.in-Ok-eq0.ensures.end (omega (arith, c.in-Ok-eq0.field-0-test, long)) in
    record {
      end = λ _. end_at_once _ _ c.in-Ok-eq0.field-0 c.read_up_to.new.to c.in-Ok-eq0.field-0-test c.in-Ok-eq0.ensures.bytes end;
      bytes = tt;
      told = tt;
      few = tt;
      below = tt;
      input = record { whole = c.in-Ok-eq0.ensures.input.whole; works = c.in-Ok-eq0.ensures.input.works };
      refused = λ _. tt;
      uncounted = tt;
    }

pub returns-in-Ok : goal.returns-in-Ok
returns-in-Ok g c =
    let xs : List ℕ = c.read_up_to.new.to in
    let n : ℕ = c.in-Ok.field-0 in
    let long : length xs ≡ 4 = c.in-Ok.ensures.long ∙ c.told-first in
    let some : 0 < n = omega (arith, c.in-Ok.field-0-test.0.1) in
    let less : n < 4 = omega (arith, c.in-Ok.field-0-test.1, c.in-Ok.ensures.within, long) in
    let end = c.in-Ok.ensures.end (omega (arith, less, long)) in
    record {
      end = gives_nothing _ _ refl;
      bytes = tt;
      told = tt;
      few = tt;
      below = tt;
      input = record { whole = tt; works = tt };
      refused = λ most. record {
        why = inr (inr (short_count _ _ n most xs long some less c.in-Ok.ensures.bytes end));
        failed = not_failed _ c.in-Ok.ensures.input.works;
        taken = end;
      };
      uncounted = λ _. refl;
    }

pub returns-in-Err : goal.returns-in-Err
returns-in-Err g c = record {
  end = gives_nothing _ _ refl;
  bytes = tt;
  told = tt;
  few = tt;
  below = tt;
  input = record { whole = tt; works = tt };
  refused = λ _. record { why = inr (inl (refl, c.in-Err.ensures.fails)); failed = λ _. refl; taken = tt };
  uncounted = λ _. refl;
}

pub returns-then-told : goal.returns-then-told
returns-then-told g c =
    let xs : List ℕ = c.read_up_to.new.to in
    let long : length xs ≡ 4 = c.in-Ok-eq4.ensures.long ∙ c.told-first in
    let told : c.from-told.result ≡ from_le_bytes w32 xs = c.from-told.ensures ∙ c.from_le_bytes.ensures in
    let all = four_read _ _ c.in-Ok-eq4.field-0 xs long c.in-Ok-eq4.field-0-test c.in-Ok-eq4.ensures.bytes in
    record {
      end = gives_nothing _ _ refl;
      bytes = tt;
      told = tt;
      few = tt;
      below = tt;
      input = record { whole = tt; works = tt };
      refused = λ most. record {
        why = inr (inr (many_told _ _ most c.from-told.result xs long told c.if-told.true all));
        failed = not_failed _ c.in-Ok-eq4.ensures.input.works;
        taken = (xs, long, all);
      };
      uncounted = λ _. refl;
    }

pub returns : goal.returns
returns g c =
    let xs : List ℕ = c.read_up_to.new.to in
    let long : length xs ≡ 4 = c.in-Ok-eq4.ensures.long ∙ c.told-first in
    let told : c.from-told.result ≡ from_le_bytes w32 xs = c.from-told.ensures ∙ c.from_le_bytes.ensures in
    record {
      end = not_none refl;
      bytes = four_read _ _ c.in-Ok-eq4.field-0 xs long c.in-Ok-eq4.field-0-test c.in-Ok-eq4.ensures.bytes;
      told = count_told c.from-told.result xs long told;
      few = omega (arith, c.if-told.false);
      below = c.bytes_are_below_256.ensures;
      input = record { whole = c.in-Ok-eq4.ensures.input.whole; works = c.in-Ok-eq4.ensures.input.works };
      refused = λ _. tt;
      uncounted = tt;
    }
