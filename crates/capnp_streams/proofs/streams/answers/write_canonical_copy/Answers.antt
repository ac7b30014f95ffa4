use Rattle.std.proofs.Common.{◌≡◌, ◌≤◌, ◌∙◌, [], ◌∷◌, Some, ap, arith, length, refl, rules, sym, map}
use Rattle.capnp_format.specs.Bytes.{message, words_of}
use Rattle.capnp_format.specs.Canonical.{encoding, trim}
use Rattle.capnp_format.proofs.WordsOf.{words}
use Rattle.capnp_arena_traits.specs.Allocations.{max_segment_words}
use Rattle.capnp_arena_traits.specs.Limits.{whole}
use Rattle.capnp_messages.specs.declared.messages.command.Command.TheVariants.{Canon}
use Rattle.capnp_streams.specs.Paths.{path_indexes}
use Rattle.capnp_streams.specs.Streams.{written_words}
use Rattle.capnp_streams.proofs.AnsweredLemmas.{answer_refuses, answer_written}
use Rattle.capnp_messages.proofs.CanonLemmas.{or_memory}
use Rattle.capnp_streams.proofs.CountingLemmas.{copy_counted, memory_counted, written_uncounted}
use Rattle.capnp_streams.proofs.streams.answers.write_canonical_copy.Goals as goal

pub returns-in-Ok-clause-answer : goal.returns-in-Ok-clause-answer
returns-in-Ok-clause-answer g c =
    let (t, value, is_made) = rw c.requires.nesting at c.in-Ok.ensures.copied in
    let only : words_of c.canonical_bytes-words.result.now ∷ [] ≡ encoding (trim t) ∷ [] = sym c.canonical_bytes-words.ensures.words ∙ is_made in
    let same : words_of c.canonical_bytes-words.result.now ≡ encoding (trim t) = cc in
    let few : length (encoding (trim t)) ≤ max_segment_words = omega (arith, ap length same, words c.canonical_bytes-words.result.now, c.canonical_bytes-words.ensures.short) in
    answer_written _ _ _ _ _ _ (written_words c.args.task.hex c.args.form (encoding (trim t))) (rw same at c.write_canonical_words-written.ensures)
    c.result_if_written.ensures.written c.result_if_written.ensures.failed (refl, (t, value, few, refl))

pub returns-in-Ok-clause-memory : goal.returns-in-Ok-clause-memory
returns-in-Ok-clause-memory g c =
    let here : c.args.memory.now.allocator ≡ Some c.in-Some.allocator = search rules in
    memory_counted _ _ _ (Canon c.args.form) _ refl (rw here (c.into_allocator.ensures.refusals ∙ c.in-Ok.ensures.granted))
    (written_uncounted (Canon c.args.form) _ _ _ c.result_if_written.ensures.written c.result_if_written.ensures.failed)

pub returns-in-Err-clause-answer : goal.returns-in-Err-clause-answer
returns-in-Err-clause-answer g c = answer_refuses _ _ _ _ (or_memory (rw c.requires.nesting at c.in-Err.ensures.refused))

pub returns-in-Err-clause-memory : goal.returns-in-Err-clause-memory
returns-in-Err-clause-memory g c =
    let here : c.args.memory.now.allocator ≡ Some c.in-Some.allocator = search rules in
    record {
      there = refl;
      kept = tt;
      counted = rw here (copy_counted (message (map whole (g.S.ReaderSegments.segments c.args.source.now.segments))) c.args.task.limits (path_indexes c.args.task.path) (rw c.requires.nesting at c.in-Err.ensures.refused));
    }
