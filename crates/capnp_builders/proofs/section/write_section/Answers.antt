use Rattle.std.proofs.Common.{◌≡◌, ℕ, ◌+◌, ◌*◌, ◌/◌, ◌%◌, ◌^◌, ◌<◌, List, length, take, drop, sym, ap, ◌∙◌, arith}
use Rattle.capnp_format.specs.Bytes.{words_of}
use Rattle.capnp_format.specs.Numbers.{from_digits}
use Rattle.capnp_format.specs.Segments.{Segments}
use Rattle.capnp_arena_traits.specs.View.{View}
use Rattle.capnp_arena_traits.specs.Written.{with_word, with_words}
use Rattle.capnp_builders.proofs.DataSections.{whole_long, all_words, with_words_more}
use Rattle.capnp_builders.proofs.section.write_section.Goals as goal

pub returns : goal.returns
returns g c =
    let old : View = g.A.BuilderArena.view c.args.arena.now in
    let bits : ℕ = c.args.bits in
    let bs : List ℕ = c.args.bytes.now in
    let id : ℕ = c.args.to.segment in
    let at : ℕ = c.args.to.at in
    let front : List ℕ = take (bits / 64) (words_of bs) in
    let wide : length front ≡ bits / 64 = whole_long bits bs c.requires.long in
    let more : bits / 64 < c.args.kept = omega (arith, c.if-kept-whole.false, c.from-kept.ensures) in
    let written : g.A.BuilderArena.view c.put_words-2.new.arena ≡ record old { words = with_words old.words id at front } = c.put_words-2.ensures.words ∙ ap (λ ws. record old { words = with_words old.words id at ws }) c.word_range-2.ensures.words in
    let x : ℕ = from_digits 256 (drop (8 * (bits / 64)) bs) % 2 ^ (bits % 64) in
    c.set_word.ensures
    ∙ ap (λ y. record (g.A.BuilderArena.view c.put_words-2.new.arena) { words = with_word (g.A.BuilderArena.view c.put_words-2.new.arena).words id (at + bits / 64) y }) c.last_partial_word.ensures
    ∙ ap (λ (v : View). record v { words = with_word v.words id (at + bits / 64) x }) written
    ∙ ap (λ (T : Segments). record old { words = T })
    (ap (λ i. with_word (with_words old.words id at front) id (at + i) x) (sym wide)
    ∙ with_words_more old.words id at front x (omega (arith, wide, more, c.requires.inside))
    ∙ ap (with_words old.words id at) (all_words c.args.kept bits bs c.requires.long more c.requires.few))
