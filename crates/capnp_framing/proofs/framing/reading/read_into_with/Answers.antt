use Rattle.std.proofs.Common.{◌≡◌, ◌+◌, ◌*◌, ◌%◌, ◌++◌, ◌<◌, ◌≤◌, ℕ, List, length, Ok, inr, get_or, take, drop, refl, sym, ap, subst, arith, ◌∙◌, take-append-drop}
use Rattle.std.specs.Io.KnownBytes.{Consumes}
use Rattle.std.proofs.lemmas.Result.{err_from_is_err_and}
use Rattle.capnp_format.specs.Bytes.{message}
use Rattle.capnp_format.specs.Segments.{Segments}
use Rattle.capnp_framing.specs.Flat.{AreEnds, parts}
use Rattle.capnp_framing.specs.Frames.{contents}
use Rattle.capnp_framing.specs.Reading.{NoFrame, segments_told, words_told}
use Rattle.capnp_framing.specs.declared.framing.frame_error.FrameError.TheVariants.{MessageTooLong}
use Rattle.capnp_framing.proofs.CountLemmas.{not_false, not_true}
use Rattle.capnp_framing.proofs.FlatLemmas.{AreParts, are_parts}
use Rattle.capnp_framing.proofs.OwnedLemmas.{AtOwned, at_owned, front, of_count, owned_frame, owned_small, with_count}
use Rattle.capnp_framing.proofs.ReadingLemmas.{consumes_both, cut_table, long_table, not_failed, read_so, table_long, whatever}
use Rattle.capnp_framing.proofs.UnreadLemmas.{behind_read, counted_later, counted_none, frame_memory, frame_unread, gives_nothing, if_err, none_small, on_err, short_table}
use Rattle.capnp_framing.proofs.WholenessLemmas.{keeps_whole_both}
use Rattle.capnp_framing.proofs.framing.reading.read_into_with.Goals as goal

pub returns-then-words-max_words : goal.returns-then-words-max_words
returns-then-words-max_words g c =
    let first : List ℕ = c.read_segment_count.new.first in
    let n : ℕ = c.in-Some.count in
    let size : ℕ = 4 * n + 4 * ((n + 1) % 2) in
    let table : List ℕ = c.read_exact_to_front.new.to.items in
    let at : AtOwned first n table c.args.into.now.words.items =
    at_owned first c.args.into.now.words.items c.in_ok-count.field-0 c.in-Some.is c.read_segment_count.array_long c.in_ok-count.ensures.told c.in_ok-count.ensures.few c.in_ok-read_exact_to_front.ensures.long in
    let f = with_count (Consumes (g.R.Input.remaining c.args.input.now) (g.R.Input.remaining c.read_segment_count.new.input) first) c.in_ok-count.field-0 c.in-Some.is c.in_ok-count.ensures.bytes in
    let sum : c.in_ok-words.words ≡ words_told n (take size table ++ drop size table) = c.in_ok-words.ensures.sum ∙ ap (words_told n) (c.as_slice.ensures.value ∙ sym (take-append-drop size table)) in
    record {
      end = gives_nothing _ _ refl;
      none = gives_nothing _ _ refl;
      read = gives_nothing _ _ refl;
      most = gives_nothing _ _ refl;
      small = none_small;
      input = record { whole = tt; works = tt };
      refused = record {
        why = inr (inr (read_so _ _ _ first (take size table) (λ _. Unit {0}) (λ bytes. NoFrame bytes c.args.max_words (MessageTooLong c.in_ok-words.words)) f c.in_ok-read_exact_to_front.ensures.bytes (whatever _)
            (λ rest _. long_table rest (drop size table) c.in_ok-words.words c.args.max_words (front at) sum c.if-words-max_words.true)));
        failed = not_failed _ c.in_ok-read_exact_to_front.ensures.input.works;
        taken = (first ++ take size table, table_long (front at), consumes_both _ _ _ first (take size table) f c.in_ok-read_exact_to_front.ensures.bytes);
      };
      memory = record { kept = tt; counted = c.in_ok-words.ensures.memory.kept ∙ c.in_ok-read_exact_to_front.ensures.memory.kept };
    }

pub overflow_mul-words : goal.overflow_mul-words
overflow_mul-words g c =
    let few : c.in-Some.count ≤ 512 = of_count (λ k. k ≤ 512) c.in_ok-count.field-0 c.in-Some.is c.in_ok-count.ensures.few in
    omega (arith, c.in_ok-words.ensures.small, few)

pub returns-in_err-count : goal.returns-in_err-count
returns-in_err-count g c =
    let p = err_from_is_err_and c.from_residual.result c.from_residual.ensures.1 in
    record {
      end = gives_nothing _ _ p.1;
      none = gives_nothing _ _ p.1;
      read = gives_nothing _ _ p.1;
      most = gives_nothing _ _ p.1;
      small = none_small;
      input = record { whole = on_err _ _ p.1; works = on_err _ _ p.1 };
      refused = if_err _ _ p.1 p.2 (c.in_err-count.ensures.refused c.args.max_words);
      memory = record { kept = on_err _ _ p.1; counted = if_err _ _ p.1 p.2 (counted_none _ _ _ refl c.in_err-count.ensures.uncounted) };
    }

pub returns-in_err-read_exact_to_front : goal.returns-in_err-read_exact_to_front
returns-in_err-read_exact_to_front g c =
    let first : List ℕ = c.read_segment_count.new.first in
    let told = of_count (λ k. k ≡ segments_told first) c.in_ok-count.field-0 c.in-Some.is c.in_ok-count.ensures.told in
    let few = of_count (λ k. k ≤ 512) c.in_ok-count.field-0 c.in-Some.is c.in_ok-count.ensures.few in
    let f = with_count (Consumes (g.R.Input.remaining c.args.input.now) (g.R.Input.remaining c.read_segment_count.new.input) first) c.in_ok-count.field-0 c.in-Some.is c.in_ok-count.ensures.bytes in
    let p = err_from_is_err_and c.from_residual-in_err-read_exact_to_front.result c.from_residual-in_err-read_exact_to_front.ensures.1 in
    record {
      end = gives_nothing _ _ p.1;
      none = gives_nothing _ _ p.1;
      read = gives_nothing _ _ p.1;
      most = gives_nothing _ _ p.1;
      small = none_small;
      input = record { whole = on_err _ _ p.1; works = on_err _ _ p.1 };
      refused = if_err _ _ p.1 p.2 (frame_unread g.R.Input _ _ _ _ _ _
          (λ short. behind_read _ _ first _ _ f short (λ rest less. short_table first rest c.in-Some.count c.args.max_words c.read_segment_count.array_long told few less))
          c.in_err-read_exact_to_front.ensures.refused);
      memory = record { kept = on_err _ _ p.1; counted = if_err _ _ p.1 p.2 (c.in_err-read_exact_to_front.ensures.memory.counted) };
    }

pub returns-in_err-words : goal.returns-in_err-words
returns-in_err-words g c =
    let p = err_from_is_err_and c.from_residual-in_err-words.result c.from_residual-in_err-words.ensures.1 in
    record {
      end = gives_nothing _ _ p.1;
      none = gives_nothing _ _ p.1;
      read = gives_nothing _ _ p.1;
      most = gives_nothing _ _ p.1;
      small = none_small;
      input = record { whole = on_err _ _ p.1; works = on_err _ _ p.1 };
      refused = if_err _ _ p.1 p.2 (frame_memory g.R.Input _ _ _ _ c.in_err-words.ensures.memory.refused c.in_ok-read_exact_to_front.ensures.input.works);
      memory = record { kept = on_err _ _ p.1; counted = if_err _ _ p.1 p.2 (counted_later _ _ _ _ c.in_ok-read_exact_to_front.ensures.memory.kept c.in_err-words.ensures.memory.counted) };
    }

pub returns-in_err-read_exact_to_front-2 : goal.returns-in_err-read_exact_to_front-2
returns-in_err-read_exact_to_front-2 g c =
    let first : List ℕ = c.read_segment_count.new.first in
    let n : ℕ = c.in-Some.count in
    let size : ℕ = 4 * n + 4 * ((n + 1) % 2) in
    let table : List ℕ = c.read_exact_to_front.new.to.items in
    let at : AtOwned first n table c.args.into.now.words.items =
    at_owned first c.args.into.now.words.items c.in_ok-count.field-0 c.in-Some.is c.read_segment_count.array_long c.in_ok-count.ensures.told c.in_ok-count.ensures.few c.in_ok-read_exact_to_front.ensures.long in
    let f = with_count (Consumes (g.R.Input.remaining c.args.input.now) (g.R.Input.remaining c.read_segment_count.new.input) first) c.in_ok-count.field-0 c.in-Some.is c.in_ok-count.ensures.bytes in
    let sum : c.in_ok-words.words ≡ words_told n (take size table ++ drop size table) = c.in_ok-words.ensures.sum ∙ ap (words_told n) (c.as_slice.ensures.value ∙ sym (take-append-drop size table)) in
    let p = err_from_is_err_and c.from_residual-in_err-read_exact_to_front-2.result c.from_residual-in_err-read_exact_to_front-2.ensures.1 in
    record {
      end = gives_nothing _ _ p.1;
      none = gives_nothing _ _ p.1;
      read = gives_nothing _ _ p.1;
      most = gives_nothing _ _ p.1;
      small = none_small;
      input = record { whole = on_err _ _ p.1; works = on_err _ _ p.1 };
      refused = if_err _ _ p.1 p.2 (frame_unread g.R.Input _ _ _ _ _ _
          (λ short. read_so _ _ _ first (take size table) _ _ f c.in_ok-read_exact_to_front.ensures.bytes short
          (λ rest less. cut_table rest (drop size table) c.in_ok-words.words c.args.max_words (front at) sum (omega (arith, c.if-words-max_words.false)) less))
          c.in_err-read_exact_to_front-2.ensures.refused);
      memory = record { kept = on_err _ _ p.1; counted = if_err _ _ p.1 p.2 (counted_later _ _ _ _ (c.in_ok-words.ensures.memory.kept ∙ c.in_ok-read_exact_to_front.ensures.memory.kept) c.in_err-read_exact_to_front-2.ensures.memory.counted) };
    }

pub returns-in-None : goal.returns-in-None
returns-in-None g c = record {
  end = λ _. c.in_ok-count.ensures.end (ap (λ m. Ok m) c.in-None.is);
  none = λ _. refl;
  read = not_true refl;
  most = not_true refl;
  small = none_small;
  input = record { whole = c.in_ok-count.ensures.input.whole; works = c.in_ok-count.ensures.input.works };
  refused = tt;
  memory = record { kept = refl; counted = tt };
}

pub overflow_mul-size : goal.overflow_mul-size
overflow_mul-size g c =
    let few : c.in-Some.count ≤ 512 = of_count (λ k. k ≤ 512) c.in_ok-count.field-0 c.in-Some.is c.in_ok-count.ensures.few in
    omega (arith, few)

pub segment_ends-requires : goal.segment_ends-requires
segment_ends-requires g c = record {
  inside = omega (arith, c.in_ok-read_exact_to_front.ensures.long, ap length c.as_slice.ensures.value);
  few = of_count (λ k. k ≤ 512) c.in_ok-count.field-0 c.in-Some.is c.in_ok-count.ensures.few;
}

pub invariant_of-into-2 : goal.invariant_of-into-2
invariant_of-into-2 g c =
    let n : ℕ = c.in-Some.count in
    let table : List ℕ = c.read_exact_to_front.new.to.items in
    let sum : c.in_ok-words.words ≡ words_told n table = c.in_ok-words.ensures.sum ∙ ap (words_told n) c.as_slice.ensures.value in
    record {
      few = of_count (λ k. k ≤ 512) c.in_ok-count.field-0 c.in-Some.is c.in_ok-count.ensures.few;
      told = omega (arith, c.in_ok-read_exact_to_front.ensures.long);
      whole = omega (arith, sum, c.in_ok-read_exact_to_front-2.ensures.long);
      kept = subst (λ (xs : List ℕ). AreEnds n xs c.segment_ends.new.ends.items) c.as_slice.ensures.value c.in_ok-words.ensures.ends;
    }

pub returns : goal.returns
returns g c =
    let first : List ℕ = c.read_segment_count.new.first in
    let n : ℕ = c.in-Some.count in
    let size : ℕ = 4 * n + 4 * ((n + 1) % 2) in
    let table : List ℕ = c.read_exact_to_front.new.to.items in
    let words : List ℕ = c.read_exact_to_front-2.new.to.items in
    let S : Segments = message (parts n table words) in
    let at : AtOwned first n table words =
    at_owned first words c.in_ok-count.field-0 c.in-Some.is c.read_segment_count.array_long c.in_ok-count.ensures.told c.in_ok-count.ensures.few c.in_ok-read_exact_to_front.ensures.long in
    let f = with_count (Consumes (g.R.Input.remaining c.args.input.now) (g.R.Input.remaining c.read_segment_count.new.input) first) c.in_ok-count.field-0 c.in-Some.is c.in_ok-count.ensures.bytes in
    let sum : c.in_ok-words.words ≡ words_told n table = c.in_ok-words.ensures.sum ∙ ap (words_told n) c.as_slice.ensures.value in
    let first_below = with_count ((i : ℕ) → get_or first i 0 < 256) c.in_ok-count.field-0 c.in-Some.is c.in_ok-count.ensures.below in
    let below = subst (λ (bs : List ℕ). (i : ℕ) → get_or bs i 0 < 256) c.as_slice-2.ensures.value c.bytes_are_below_256.ensures in
    let behind = subst (λ (bs : List ℕ). (i : ℕ) → get_or bs i 0 < 256) c.as_slice-3.ensures.value c.bytes_are_below_256-2.ensures in
    let cut : AreParts n table words S = are_parts n table words below behind (omega (arith, c.in_ok-read_exact_to_front.ensures.long)) (omega (arith, sum, c.in_ok-read_exact_to_front-2.ensures.long)) in
    let whole : take (8 * c.in_ok-words.words) words ≡ contents S = ap (λ k. take (8 * k) words) sum ∙ sym cut.is in
    record {
      end = not_false refl;
      none = not_false refl;
      read = λ _. record {
        bytes = first ++ (take size table ++ contents S);
        consumed = consumes_both _ _ _ first (take size table ++ contents S) f (consumes_both _ _ _ (take size table) (contents S) c.in_ok-read_exact_to_front.ensures.bytes
            (subst (λ (xs : List ℕ). Consumes (g.R.Input.remaining c.read_exact_to_front.new.input) (g.R.Input.remaining c.read_exact_to_front-2.new.input) xs) whole c.in_ok-read_exact_to_front-2.ensures.bytes));
        framed = owned_frame at first_below cut;
      };
      most = λ _. omega (arith, cut.sum, sum, c.if-words-max_words.false);
      small = owned_small at cut;
      input = record {
        whole = keeps_whole_both _ _ _ (keeps_whole_both _ _ _ c.in_ok-count.ensures.input.whole c.in_ok-read_exact_to_front.ensures.input.whole) c.in_ok-read_exact_to_front-2.ensures.input.whole;
        works = c.in_ok-read_exact_to_front-2.ensures.input.works;
      };
      refused = tt;
      memory = record { kept = c.in_ok-read_exact_to_front-2.ensures.memory.kept ∙ c.in_ok-words.ensures.memory.kept ∙ c.in_ok-read_exact_to_front.ensures.memory.kept; counted = tt };
    }
