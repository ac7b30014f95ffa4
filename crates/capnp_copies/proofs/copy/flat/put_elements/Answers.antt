use Rattle.std.proofs.Common.{◌≡◌, ◌+◌, ◌*◌, ◌%◌, ◌^◌, length, ℕ, ◌-◌, List, bit_and, set, refl, sym, ap, ◌∙◌, arith}
use Rattle.capnp_format.specs.Bytes.{words_of}
use Rattle.capnp_format.specs.Segments.{Segments, segment}
use Rattle.capnp_arena_traits.specs.View.{View}
use Rattle.capnp_arena_traits.specs.Written.{with_words, with_word}
use Rattle.capnp_copies.proofs.Padding.{HasRoom, words_small, none_masked, last_behind_mask, with_words_set}
use Rattle.capnp_copies.proofs.copy.flat.put_elements.Goals as goal

pub returns-then-used-ne0 : goal.returns-then-used-ne0
returns-then-used-ne0 g c =
    let bs : List ℕ = c.args.elements.now in
    let ws = words_of bs in
    let M = (g.A.BuilderArena.view c.args.arena.now).words in
    let id = c.args.id in
    let old = g.A.BuilderArena.view c.args.arena.now in
    let start = c.args.start in
    let bits = c.args.bits in
    let last = c.count-last.result - 1 in
    let is : last ≡ length ws - 1 = ap (λ n. n - 1) c.count-last.ensures in
    let x = bit_and c.word_at-word.result (1 * 2 ^ (bits % 64) % 2 ^ 64 - 1) in
    let room : HasRoom (segment M id) start ws = record { fits = c.requires.inside } in
    c.set_word.ensures
    ∙ ap (λ (v : View). record v { words = with_word v.words id (start + last) x }) c.copy_words.ensures
    ∙ ap (λ (T : Segments). record old { words = T }) (with_words_set M id last x room (omega (arith, is, c.requires.all, c.if-used-ne0.true))
    ∙ ap (with_words M id start)
    (ap (λ y. set ws last (bit_and y (1 * 2 ^ (bits % 64) % 2 ^ 64 - 1))) c.word_at-word.ensures
    ∙ last_behind_mask bits ws (words_small bs (λ i. omega (arith, c.type_inv.elements i))) c.requires.all c.if-used-ne0.true is))

pub returns-else-used-ne0 : goal.returns-else-used-ne0
returns-else-used-ne0 g c =
    let bs : List ℕ = c.args.elements.now in
    let ws = words_of bs in
    let M = (g.A.BuilderArena.view c.args.arena.now).words in
    let old = g.A.BuilderArena.view c.args.arena.now in
    c.copy_words.ensures
    ∙ ap (λ (us : List ℕ). record old { words = with_words M c.args.id c.args.start us }) (sym (none_masked (length ws) c.args.bits ws (words_small bs (λ i. omega (arith, c.type_inv.elements i))) refl (omega (arith, c.requires.all, c.if-used-ne0.false))))
