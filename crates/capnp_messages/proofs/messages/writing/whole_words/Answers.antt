-- The first eight bytes for each whole word have all words of the bytes, and they are the bytes of
-- these words.
use Rattle.std.proofs.Common.{◌≡◌, ℕ, ◌*◌, ◌/◌, ◌∙◌, List, length, take, sym, ap, arith, take_all, length-take}
use Rattle.capnp_format.specs.Bytes.{words_of}
use Rattle.capnp_format.proofs.WordsOf.{words, words_of-take}
use Rattle.capnp_framing.proofs.TableLemmas.{below_take, bytes-words}
use Rattle.capnp_framing.specs.Frames.{bytes_of_words}
use Rattle.capnp_messages.proofs.messages.writing.whole_words.Goals as goal

same_words : (bs : List ℕ) → words_of (take (8 * (length bs / 8)) bs) ≡ words_of bs
same_words bs = words_of-take (length bs / 8) bs (omega arith) ∙ take_all (length bs / 8) (words_of bs) (omega (arith, words bs))

pub returns-clause-bytes : goal.returns-clause-bytes
returns-clause-bytes c =
    let s = c.args.segment.now in
    let n = length s / 8 in
    sym (bytes-words n (take (8 * n) s) (omega (arith, length-take (8 * n) s)) (below_take (8 * n) s (λ i. (c.type_inv.segment i).fits)))
    ∙ ap bytes_of_words (same_words s)

pub returns-clause-words : goal.returns-clause-words
returns-clause-words c = same_words c.args.segment.now
