use Rattle.std.proofs.Common.{◌≡◌, ℕ, ◌≤◌, ap, ap₂, ◌∙◌}
use Rattle.std.proofs.lemmas.Int.{to_z-of_z}
use mir.Syntax.{w32}
use Rattle.capnp_format.specs.Word.{kind, element_size, list_count}
use Rattle.capnp_format.specs.Numbers.{words_for}
use Rattle.capnp_pointers.specs.Reading.{Reading, word_of}
use Rattle.capnp_pointers.specs.Pointers.{reading_on}
use Rattle.capnp_pointers.proofs.Sizes.MeasuredBySteps.{measure_err, near_flat, words_end}
use Rattle.capnp_pointers.proofs.pointers.sizes.add_primitive_list.Goals as goal

pub returns-in-Err : goal.returns-in-Err
returns-in-Err g c =
    let r : Reading = reading_on g.A.ReaderArena c.args.from.now c.args.at c.args.nesting_limit in
    let nl = to_z-of_z w32 c.args.nesting_limit c.ranges.nesting_limit in
    measure_err r c.args.walk.now.sums.size c.args.walk.now.lim _ _ (rw nl at c.in-Err.ensures.computed)

pub returns-in-Ok : goal.returns-in-Ok
returns-in-Ok g c =
    let r : Reading = reading_on g.A.ReaderArena c.args.from.now c.args.at c.args.nesting_limit in
    let w : ℕ = word_of r in
    let nl = to_z-of_z w32 c.args.nesting_limit c.ranges.nesting_limit in
    let words : c.from.result ≡ words_for (element_size w) (list_count w) = c.from.ensures ∙ c.words_for_elements-words.ensures ∙ ap₂ words_for c.list_element_size.ensures c.list_element_count.ensures.value ∙ ap (λ x. words_for (element_size x) (list_count x)) c.requires.word.there in
    let is_list : kind w ≡ 1 = rw c.requires.word.there at c.requires.is_list in
    let small : element_size w ≤ 5 = rw c.requires.word.there at c.requires.of_bits.1 in
    words_end c.add_words.result r c.args.walk.now.sums.size c.args.walk.now.lim _ _ _ _ _ c.args.walk.now.sums.fits (rw (nl, near_flat r c.in-Ok.field-0 is_list small) at c.in-Ok.ensures.computed) (rw words at c.add_words.ensures.exactly) (rw words at c.add_words.ensures.sum) c.add_words.ensures.named
