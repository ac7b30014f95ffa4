use Rattle.std.proofs.Common.{List, ℕ, [], sym, ◌∙◌, arith, take_all}
use Rattle.std.proofs.lemmas.List.{get_or_past}
use Rattle.capnp_format.specs.Bytes.{message}
use Rattle.capnp_arena_traits.proofs.MessageLemmas.{length-message, segment-message}
use Rattle.capnp_format.specs.Bytes.{words_of}
use Rattle.capnp_format.proofs.WordsOf.{words}
use Rattle.capnp_framing.proofs.framing.writing.segment_words.Goals as goal

pub word_range-requires : goal.word_range-requires
word_range-requires g c = omega (arith, words c.in-Some.bytes.now, c.count.ensures)

pub returns-in-Some-clause-words : goal.returns-in-Some-clause-words
returns-in-Some-clause-words g c =
    c.word_range.ensures.words
    ∙ take_all c.count.result (words_of c.in-Some.bytes.now) (omega (arith, c.count.ensures))
    ∙ sym (segment-message (g.S.ReaderSegments.segments c.args.segments.now) c.args.id c.in-Some.bytes.now c.in-Some.ensures.bytes)

pub returns-in-None-clause-words : goal.returns-in-None-clause-words
returns-in-None-clause-words g c =
    let bytes : List (List ℕ) = g.S.ReaderSegments.segments c.args.segments.now in
    sym (get_or_past (message bytes) c.args.id [] (grind (arith, length-message bytes, c.in-None.ensures.there)))

pub returns-in-Some-clause-short : goal.returns-in-Some-clause-short
returns-in-Some-clause-short g c =
    omega (arith, c.word_range.ensures.count, c.count.ensures, words c.in-Some.bytes.now, c.requires.small.1 c.args.id c.in-Some.bytes.now c.in-Some.ensures.bytes)
