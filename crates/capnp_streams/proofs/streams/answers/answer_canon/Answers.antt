use Rattle.std.proofs.Common.{◌≡◌, ◌≤◌, rules, ap, arith, length, refl}
use Rattle.capnp_messages.specs.declared.messages.command.Command.TheVariants.{Canon}
use Rattle.capnp_streams.specs.Asked.{IsValueAt}
use Rattle.capnp_streams.specs.Paths.{path_indexes}
use Rattle.capnp_streams.specs.Streams.{written_words}
use Rattle.capnp_format.specs.Bytes.{message, words_of}
use Rattle.capnp_format.specs.Canonical.{encoding, trim}
use Rattle.capnp_format.proofs.WordsOf.{words}
use Rattle.capnp_arena_traits.specs.Allocations.{max_segment_words}
use Rattle.capnp_streams.proofs.AskedLemmas.{of_whole}
use Rattle.capnp_streams.proofs.AnsweredLemmas.{answer_written}
use Rattle.capnp_streams.proofs.CountingLemmas.{memory_counted, written_uncounted}
use Rattle.capnp_streams.proofs.streams.answers.answer_canon.Goals as goal

pub returns-in-Some-clause-answer : goal.returns-in-Some-clause-answer
returns-in-Some-clause-answer g c =
    let (t, value, is) = c.in-Some.ensures.words in
    let few : length (encoding (trim t)) ≤ max_segment_words = omega (arith, ap length is, words c.in-Some.words.now, c.in-Some.ensures.short) in
    let none : length (path_indexes c.args.task.path) ≡ 0 = search rules in
    let value' = of_whole (λ path. IsValueAt (message (g.S.ReaderSegments.segments c.args.segments)) c.args.task.limits path t) (path_indexes c.args.task.path) none
    (rw (c.new-source.ensures.words, c.new-source.ensures.nesting) at value) in
    answer_written _ _ _ _ _ _ (written_words c.args.task.hex c.args.form (words_of c.in-Some.words.now)) c.write_canonical_words.ensures
    c.result_if_written.ensures.written c.result_if_written.ensures.failed (refl, (t, value', few, ap (written_words c.args.task.hex c.args.form) is))

pub returns-in-Some-clause-memory : goal.returns-in-Some-clause-memory
returns-in-Some-clause-memory g c =
    memory_counted _ _ _ (Canon c.args.form) _ c.requires.there refl (written_uncounted (Canon c.args.form) _ _ _ c.result_if_written.ensures.written c.result_if_written.ensures.failed)

pub returns-clause-answer : goal.returns-clause-answer
returns-clause-answer g c = rw c.new-source.ensures.words at c.write_canonical_copy.ensures.answer

pub returns-clause-memory : goal.returns-clause-memory
returns-clause-memory g c = c.write_canonical_copy.ensures.memory
