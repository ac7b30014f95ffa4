use Rattle.std.proofs.Common.{ap, sym, ◌∙◌, ◌+◌, ◌-◌, ◌*◌, ℕ, List, take, drop, get_or, get_or-drop, add-zero, length-take, length-drop, refl, arith}
use Rattle.std.proofs.lemmas.List.{get_or-take}
use Rattle.capnp_format.specs.Bytes.{words_of}
use Rattle.capnp_format.proofs.WordsOf.{word_bytes, words_of-part}
use Rattle.capnp_words.proofs.words.word_at.Goals as goal

-- the only word of the eight bytes
pub returns : goal.returns
returns c =
    let bs : List ℕ = c.args.bytes.now in
    let at : ℕ = c.args.at in
    let n : ℕ = 8 * at + 8 - 8 * at in
    let part : List ℕ = take n (drop (8 * at) bs) in
    c.from_le_bytes.ensures
    ∙ sym (word_bytes 0 part (omega (arith, c.requires, length-take n (drop (8 * at) bs), length-drop (8 * at) bs)))
    ∙ ap (λ ws. get_or ws 0 0) (words_of-part at 1 (8 * at) n bs refl (omega arith) (omega (arith, c.requires)))
    ∙ get_or-take 1 (drop at (words_of bs)) 0 0 (omega arith)
    ∙ get_or-drop at (words_of bs) 0 0
    ∙ ap (λ i. get_or (words_of bs) i 0) (add-zero at)
