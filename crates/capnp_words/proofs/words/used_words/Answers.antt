use Rattle.std.proofs.Common.{◌≡◌, ◌+◌, ◌*◌, ◌/◌, ℕ, List, length, take, ◌∙◌, arith, take_all}
use Rattle.capnp_format.specs.Bytes.{words_of}
use Rattle.capnp_format.specs.Canonical.{used_words}
use Rattle.capnp_format.proofs.WordsOf.{words, words_of-take}
use Rattle.capnp_words.proofs.words.used_words.Goals as goal

-- what is found in the whole words is found in all words
found : (n : ℕ) (bs : List ℕ) → n + used_words (words_of (take (8 * (length bs / 8)) bs)) ≡ length (words_of (take (8 * (length bs / 8)) bs)) → n + used_words (words_of bs) ≡ length (words_of bs)
found n bs h =
    let same : words_of (take (8 * (length bs / 8)) bs) ≡ words_of bs = words_of-take (length bs / 8) bs (omega arith) ∙ take_all (length bs / 8) (words_of bs) (omega (arith, words bs)) in
    rw same at h

pub overflow_sub-result : goal.overflow_sub-result
overflow_sub-result c = omega (arith, words c.args.bytes.now, found _ c.args.bytes.now c.trailing_zero_words.ensures)

pub returns : goal.returns
returns c =
    let bs : List ℕ = c.args.bytes.now in
    let known = found _ bs c.trailing_zero_words.ensures in
    record { value = omega (arith, words bs, known); within = omega (arith, words bs, known) }
