use Rattle.std.proofs.Common.{◌≡◌, ◌+◌, ◌*◌, ◌%◌, ◌<◌, ℕ, List, inr, refl, length, take, arith, length-take, ◌∙◌}
use Rattle.std.proofs.lemmas.Result.{err_from_is_err_and}
use Rattle.capnp_framing.specs.Bare.{most_bare}
use Rattle.capnp_framing.proofs.BareLemmas.{beyond, cut, only_part, only_small}
use Rattle.capnp_framing.proofs.ReadingLemmas.{not_failed}
use Rattle.capnp_framing.proofs.UnreadLemmas.{counted_later, if_err, none_small, on_err, segment_memory, segment_unread}
use Rattle.capnp_framing.proofs.framing.segment.read_segment_into_with.Goals as goal

pub returns-then-size-beyond-clause-refused : goal.returns-then-size-beyond-clause-refused
returns-then-size-beyond-clause-refused g c =
    let words : List ℕ = c.read_to_end.new.to.items in
    let most : c.min-most.result ≡ most_bare c.args.max_words = omega (arith, c.min-most.ensures) in
    let long : length (take c.in_ok-size.size words) ≡ 8 * (c.min-most.result + 1) = omega (arith, length-take c.in_ok-size.size words, c.in_ok-size.ensures.within, c.if-size-beyond.true) in
    record {
      why = inr (inr (beyond _ _ _ c.args.max_words c.min-most.result most c.in_ok-size.ensures.bytes (omega (arith, long))));
      failed = not_failed _ c.in_ok-size.ensures.input.works;
      taken = (take c.in_ok-size.size words, long, c.in_ok-size.ensures.bytes);
    }

pub returns-then-size-ne0-clause-refused : goal.returns-then-size-ne0-clause-refused
returns-then-size-ne0-clause-refused g c =
    let words : List ℕ = c.read_to_end.new.to.items in
    let most : c.min-most.result ≡ most_bare c.args.max_words = omega (arith, c.min-most.ensures) in
    let long : length (take c.in_ok-size.size words) ≡ c.in_ok-size.size = omega (arith, length-take c.in_ok-size.size words, c.in_ok-size.ensures.within) in
    let less : c.in_ok-size.size < 8 * c.min-most.result + 8 = omega (arith, c.in_ok-size.ensures.most, c.if-size-beyond.false) in
    let end = c.in_ok-size.ensures.end less in
    record {
      why = inr (inr (cut _ _ _ c.args.max_words c.min-most.result most c.in_ok-size.ensures.bytes end (omega (arith, long, less)) (λ whole. absurd (omega (arith, long, whole, c.if-size-ne0.true)))));
      failed = not_failed _ c.in_ok-size.ensures.input.works;
      taken = end;
    }

pub returns-in_err-size : goal.returns-in_err-size
returns-in_err-size g c =
    let p = err_from_is_err_and c.from_residual.result c.from_residual.ensures.1 in
    record {
      read = on_err _ _ p.1;
      end = on_err _ _ p.1;
      small = none_small;
      input = record { whole = on_err _ _ p.1; works = on_err _ _ p.1 };
      refused = if_err _ _ p.1 p.2 (segment_unread g.R.Input _ _ _ _ c.in_err-size.ensures.refused c.in_err-size.ensures.failed);
      none = rw p.1 refl;
      memory = record { kept = on_err _ _ p.1; counted = if_err _ _ p.1 p.2 (c.in_err-size.ensures.memory.counted) };
    }

pub returns-in_err-set_single_segment : goal.returns-in_err-set_single_segment
returns-in_err-set_single_segment g c =
    let p = err_from_is_err_and c.from_residual-in_err-set_single_segment.result c.from_residual-in_err-set_single_segment.ensures.1 in
    record {
      read = on_err _ _ p.1;
      end = on_err _ _ p.1;
      small = none_small;
      input = record { whole = on_err _ _ p.1; works = on_err _ _ p.1 };
      refused = if_err _ _ p.1 p.2 (segment_memory g.R.Input _ _ _ _ c.in_err-set_single_segment.ensures.memory.refused c.in_ok-size.ensures.input.works);
      none = rw p.1 refl;
      memory = record { kept = on_err _ _ p.1; counted = if_err _ _ p.1 p.2 (counted_later _ _ _ _ c.in_ok-size.ensures.memory.kept c.in_err-set_single_segment.ensures.memory.counted) };
    }

pub returns-then-size-beyond-clause-memory : goal.returns-then-size-beyond-clause-memory
returns-then-size-beyond-clause-memory g c = record { kept = tt; counted = c.in_ok-size.ensures.memory.kept }

pub returns-then-size-beyond-clause-small : goal.returns-then-size-beyond-clause-small
returns-then-size-beyond-clause-small g c = none_small

pub returns-then-size-ne0-clause-memory : goal.returns-then-size-ne0-clause-memory
returns-then-size-ne0-clause-memory g c = record { kept = tt; counted = c.in_ok-size.ensures.memory.kept }

pub returns-then-size-ne0-clause-small : goal.returns-then-size-ne0-clause-small
returns-then-size-ne0-clause-small g c = none_small

pub returns : goal.returns
returns g c =
    let words : List ℕ = c.read_to_end.new.to.items in
    let table : List ℕ = c.set_single_segment.new.table.items in
    let size : ℕ = c.in_ok-size.size in
    let most : c.min-most.result ≡ most_bare c.args.max_words = omega (arith, c.min-most.ensures) in
    let long : length (take size words) ≡ size = omega (arith, length-take size words, c.in_ok-size.ensures.within) in
    let less : size < 8 * c.min-most.result + 8 = omega (arith, c.in_ok-size.ensures.most, c.if-size-beyond.false) in
    let whole : size % 8 ≡ 0 = omega (arith, c.if-size-ne0.false) in
    let only = only_part size table words c.in_ok-set_single_segment.ensures.told whole in
    record {
      read = record {
        bytes = take size words;
        consumed = c.in_ok-size.ensures.bytes;
        bare = record { whole = omega (arith, long, whole); short = omega (arith, long, less, most, whole) };
        only = only;
      };
      end = c.in_ok-size.ensures.end less;
      small = only_small _ (take size words) only (omega (arith, long, less, c.min-most.ensures));
      input = record { whole = c.in_ok-size.ensures.input.whole; works = c.in_ok-size.ensures.input.works };
      refused = tt;
      none = tt;
      memory = record { kept = c.in_ok-set_single_segment.ensures.memory.kept ∙ c.in_ok-size.ensures.memory.kept; counted = tt };
    }
