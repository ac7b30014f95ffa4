use Rattle.std.proofs.Common.{◌≡◌, suc, ◌+◌, ◌-◌, max, take, drop, sym, ap, ap₂, ◌∙◌, arith}
use Rattle.capnp_format.specs.Bytes.{words_of}
use Rattle.capnp_format.specs.Canonical.{used_words}
use Rattle.capnp_copies.proofs.Scanning.{data_used, pointers_used, no_data, no_pointers, one_left, data_more, pointers_more, none_yet, no_more, none_left, none_fits, data_inside, pointers_inside, next_at, next_reached}
use Rattle.capnp_allocation.proofs.WordsInside.{first_place}
use Rattle.capnp_copies.proofs.widths.least_widths.Goals as goal

pub loop-i-preserved : goal.loop-i-preserved
loop-i-preserved c =
    let ws = words_of c.args.bytes.now in
    let d = c.args.size.data_words in
    let q = c.args.size.pointers in
    let n = c.args.count in
    let i = c.loop-i.i in
    let at = c.loop-i.at in
    let next : at + c.from-at.result + c.from-at-in-loop-i.result ≡ at + (d + q) = next_at at c.from-at.ensures c.from-at-in-loop-i.ensures in
    let behind : at + c.from-at.result ≡ at + d = ap (λ k. at + k) c.from-at.ensures in
    let left : n - i ≡ suc (n - (i + 1)) = one_left n i c.loop-i-test.true in
    record {
      reached = next_reached c.args.start i (d + q) c.loop-i.invariant.reached next;
      data_fits = c.max_used_words-least_data.ensures.within;
      pointers_fit = c.max_used_words-least_pointers.ensures.within;
      data_left =
          ap₂ (λ w p. max w (data_used ws p d q (n - (i + 1)))) c.max_used_words-least_data.ensures.value next
          ∙ sym (ap (λ k. max c.loop-i.least_data (data_used ws at d q k)) left ∙ data_more ws at d q (n - (i + 1)) c.loop-i.least_data) ∙ c.loop-i.invariant.data_left;
      pointers_left =
          ap₂ (λ w p. max w (pointers_used ws p d q (n - (i + 1)))) (c.max_used_words-least_pointers.ensures.value ∙ ap (λ p. max c.loop-i.least_pointers (used_words (take q (drop p ws)))) behind) next
          ∙ sym (ap (λ k. max c.loop-i.least_pointers (pointers_used ws at d q k)) left ∙ pointers_more ws at d q (n - (i + 1)) c.loop-i.least_pointers) ∙ c.loop-i.invariant.pointers_left;
    }

pub returns-else-total-gt0-clause-data_words : goal.returns-else-total-gt0-clause-data_words
returns-else-total-gt0-clause-data_words c =
    let ws = words_of c.args.bytes.now in
    let q = c.args.size.pointers in
    let none : c.args.size.data_words ≡ 0 = omega (arith, c.total.ensures, c.if-total-gt0.false) in
    sym (ap (λ d. data_used ws c.args.start d q c.args.count) none ∙ no_data ws c.args.start q c.args.count)

pub returns-else-total-gt0-clause-pointers : goal.returns-else-total-gt0-clause-pointers
returns-else-total-gt0-clause-pointers c =
    let ws = words_of c.args.bytes.now in
    let d = c.args.size.data_words in
    let none : c.args.size.pointers ≡ 0 = omega (arith, c.total.ensures, c.if-total-gt0.false) in
    sym (ap (λ q. pointers_used ws c.args.start d q c.args.count) none ∙ no_pointers ws c.args.start d c.args.count)

pub loop-i-init : goal.loop-i-init
loop-i-init c =
    let ws = words_of c.args.bytes.now in
    let d = c.args.size.data_words in
    let q = c.args.size.pointers in
    record {
      reached = first_place c.args.start (d + q);
      data_fits = none_fits d;
      pointers_fit = none_fits q;
      data_left = none_yet ws c.args.start d (d + q) c.args.count;
      pointers_left = none_yet ws (c.args.start + d) q (d + q) c.args.count;
    }

pub max_used_words-least_data-requires-clause-inside : goal.max_used_words-least_data-requires-clause-inside
max_used_words-least_data-requires-clause-inside c = data_inside c.args.start c.args.size.data_words c.args.size.pointers c.loop-i.invariant.reached c.requires.inside c.requires.whole c.loop-i-test.true

pub max_used_words-least_data-requires-clause-within : goal.max_used_words-least_data-requires-clause-within
max_used_words-least_data-requires-clause-within c = c.loop-i.invariant.data_fits

pub max_used_words-least_pointers-requires-clause-inside : goal.max_used_words-least_pointers-requires-clause-inside
max_used_words-least_pointers-requires-clause-inside c = pointers_inside c.args.start c.args.size.pointers c.loop-i.invariant.reached c.requires.inside c.requires.whole c.loop-i-test.true c.from-at.ensures

pub max_used_words-least_pointers-requires-clause-within : goal.max_used_words-least_pointers-requires-clause-within
max_used_words-least_pointers-requires-clause-within c = c.loop-i.invariant.pointers_fit

-- All elements are counted.

pub returns-after-loop-i-clause-data_words : goal.returns-after-loop-i-clause-data_words
returns-after-loop-i-clause-data_words c =
    none_left (words_of c.args.bytes.now) c.loop-i.at c.args.size.data_words (c.args.size.data_words + c.args.size.pointers) c.loop-i.least_data (no_more c.loop-i-test.false c.loop-i.auto.i-end) c.loop-i.invariant.data_left

pub returns-after-loop-i-clause-pointers : goal.returns-after-loop-i-clause-pointers
returns-after-loop-i-clause-pointers c =
    none_left (words_of c.args.bytes.now) (c.loop-i.at + c.args.size.data_words) c.args.size.pointers (c.args.size.data_words + c.args.size.pointers) c.loop-i.least_pointers (no_more c.loop-i-test.false c.loop-i.auto.i-end) c.loop-i.invariant.pointers_left

pub returns-after-loop-i-clause-less : goal.returns-after-loop-i-clause-less
returns-after-loop-i-clause-less c = record { data_words = c.loop-i.invariant.data_fits; pointers = c.loop-i.invariant.pointers_fit }
