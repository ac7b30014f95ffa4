use Rattle.std.proofs.Common.{List, ℕ, ◌*◌, ◌^◌, ◌<◌, length, Some, ap, ◌∙◌, subst, sym}
use Rattle.capnp_format.specs.Bytes.{words_of}
use Rattle.capnp_arena.proofs.Looked.{bytes_of, looked_bytes}
use Rattle.capnp_arena_traits.proofs.MessageLemmas.{get-wholes}
use Rattle.capnp_layout_c.proofs.LentWords.{lent_words, lent_length, lent_small}
use Rattle.capnp_layout_c.proofs.segments.SegmentsReaderArena.get_segment.Goals as goal

pub returns-in-Some-clause-bytes : goal.returns-in-Some-clause-bytes
returns-in-Some-clause-bytes c =
    let B = c.args.self.now.list.now in
    get-wholes (bytes_of B) c.args.id c.in-Some.s.now.now (looked_bytes B c.args.id c.in-Some.s.now c.in-Some.ensures.lookup.3.0 c.in-Some.ensures.lookup.1) ∙ ap (λ (bs : List ℕ). Some bs) (sym c.whole_words.ensures)

pub returns-in-Some-clause-words : goal.returns-in-Some-clause-words
returns-in-Some-clause-words c =
    ap words_of c.whole_words.ensures ∙ lent_words c.args.self.now.list.now c.args.id c.in-Some.s.now c.in-Some.ensures.lookup.3.0 c.in-Some.ensures.lookup.1

pub returns-in-Some-clause-whole : goal.returns-in-Some-clause-whole
returns-in-Some-clause-whole c =
    ap length c.whole_words.ensures ∙ lent_length c.args.self.now.list.now c.args.id c.in-Some.s.now c.in-Some.ensures.lookup.3.0 c.in-Some.ensures.lookup.1

pub returns-in-Some-clause-small : goal.returns-in-Some-clause-small
returns-in-Some-clause-small c =
    let at_most : List ℕ → Type 0 = λ bs. length bs < 8 * 2 ^ 32 in
    subst at_most (sym c.whole_words.ensures) (lent_small c.args.self.now.list.now c.args.id c.in-Some.s.now c.args.self.now.small c.in-Some.ensures.lookup.3.0 c.in-Some.ensures.lookup.1)
