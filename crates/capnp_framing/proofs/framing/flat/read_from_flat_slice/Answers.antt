use Rattle.std.proofs.Common.{◌≡◌, ◌∙◌, ◌<◌, refl, ap, ap₂, subst, ◌+◌, ◌-◌, ◌*◌, ◌%◌, List, ℕ, length, take, drop, arith, take_all, length-drop, length-take, rules}
use Rattle.capnp_framing.specs.Reading.{segments_told, too_long, too_many, words_in_table, words_told}
use Rattle.capnp_framing.specs.declared.framing.frame_error.FrameError.TheVariants.{MessageTooLong, TooManySegments}
use Rattle.capnp_framing.proofs.CountLemmas.{table_short, table_there, words_short}
use Rattle.capnp_framing.proofs.UnreadLemmas.{gives_nothing}
use Rattle.capnp_framing.proofs.FlatLemmas.{AtFrame, flat_frame, flat_small}
use Rattle.capnp_framing.proofs.framing.flat.read_from_flat_slice.Goals as goal

pub returns : goal.returns
returns c =
    let bytes : List ℕ = c.args.bytes.now in
    let n : ℕ = c.from-told.result + 1 in
    let size : ℕ = 4 + 4 * n + 4 * ((n + 1) % 2) in
    let table : List ℕ = take (length bytes - 4) (drop 4 bytes) in
    let rest : List ℕ = take (length bytes - size) (drop size bytes) in
    let at : AtFrame n bytes table rest = record {
      below = λ i. (c.type_inv.bytes i).fits;
      told = omega (arith, c.from-told.ensures, c.number_at.ensures);
      few = omega (arith, c.if-told.false);
      room = omega (arith, c.if-bytes-size.false);
      table_is = take_all (length bytes - 4) (drop 4 bytes) (omega (arith, length-drop 4 bytes));
      rest_is = take_all (length bytes - size) (drop size bytes) (omega (arith, length-drop size bytes));
      whole = (let there = length-take (length bytes - size) (drop size bytes) in omega (arith, there, length-drop size bytes, c.if-words-there.false, c.segment_starts-words.ensures.sum, c.if-bytes-size.false));
    } in
    record {
      end = search rules;
      read = flat_frame c.args.max_words at (omega (arith, c.if-words-max_words.false, c.segment_starts-words.ensures.sum));
      small = flat_small at;
      refused = search rules;
    }

pub returns-then-told : goal.returns-then-told
returns-then-told c =
    let same : c.from-told.result + 1 ≡ segments_told c.args.bytes.now = ap (λ k. k + 1) (c.from-told.ensures ∙ c.number_at.ensures) in
    record {
      end = gives_nothing _ _ refl;
      read = tt;
      small = tt;
      refused = too_many c.if-bytes-lt4.false (subst (λ k. 512 < k) same c.if-told.true) (ap TooManySegments same);
    }

pub returns-then-bytes-size : goal.returns-then-bytes-size
returns-then-bytes-size c =
    let same : c.from-told.result + 1 ≡ segments_told c.args.bytes.now = ap (λ k. k + 1) (c.from-told.ensures ∙ c.number_at.ensures) in
    record {
      end = gives_nothing _ _ refl;
      read = tt;
      small = tt;
      refused = table_short c.args.bytes.now (c.from-told.result + 1) c.args.max_words c.if-bytes-lt4.false same c.if-told.false c.if-bytes-size.true;
    }

pub returns-then-words-max_words : goal.returns-then-words-max_words
returns-then-words-max_words c =
    let bytes : List ℕ = c.args.bytes.now in
    let n : ℕ = c.from-told.result + 1 in
    let same : n ≡ segments_told bytes = ap (λ k. k + 1) (c.from-told.ensures ∙ c.number_at.ensures) in
    let words : c.segment_starts-words.result.1 ≡ words_in_table bytes = c.segment_starts-words.ensures.sum ∙ ap₂ words_told same (take_all (length bytes - 4) (drop 4 bytes) (omega (arith, length-drop 4 bytes))) in
    record {
      end = gives_nothing _ _ refl;
      read = tt;
      small = tt;
      refused = too_long (table_there bytes n c.if-bytes-lt4.false same c.if-told.false c.if-bytes-size.false) (subst (λ k. c.args.max_words < k) words c.if-words-max_words.true) (ap MessageTooLong words);
    }

pub returns-then-words-there : goal.returns-then-words-there
returns-then-words-there c =
    let bytes : List ℕ = c.args.bytes.now in
    let n : ℕ = c.from-told.result + 1 in
    let same : n ≡ segments_told bytes = ap (λ k. k + 1) (c.from-told.ensures ∙ c.number_at.ensures) in
    let words : c.segment_starts-words.result.1 ≡ words_in_table bytes = c.segment_starts-words.ensures.sum ∙ ap₂ words_told same (take_all (length bytes - 4) (drop 4 bytes) (omega (arith, length-drop 4 bytes))) in
    record {
      end = gives_nothing _ _ refl;
      read = tt;
      small = tt;
      refused = words_short bytes n c.segment_starts-words.result.1 c.args.max_words (table_there bytes n c.if-bytes-lt4.false same c.if-told.false c.if-bytes-size.false) same words c.if-words-max_words.false
          (omega (arith, c.if-words-there.true, c.if-bytes-size.false));
    }
