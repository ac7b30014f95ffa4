use Rattle.std.proofs.Common.{◌≡◌, Some, refl, rules}
use Rattle.capnp_format.specs.Bytes.{message}
use Rattle.capnp_messages.specs.declared.messages.command.Command.TheVariants.{Digest}
use Rattle.capnp_streams.specs.Paths.{path_indexes}
use Rattle.capnp_streams.specs.Streams.{hex_line}
use Rattle.capnp_streams.proofs.AnsweredLemmas.{answer_refuses, answer_written}
use Rattle.capnp_messages.proofs.CanonLemmas.{or_memory}
use Rattle.capnp_streams.proofs.CountingLemmas.{copy_counted, memory_counted, written_uncounted}
use Rattle.capnp_streams.proofs.streams.answers.answer_digest.Goals as goal

pub returns-in-Ok-clause-answer : goal.returns-in-Ok-clause-answer
returns-in-Ok-clause-answer g c =
    answer_written _ _ _ _ _ _ (hex_line c.in-Ok.digest) c.write_hex_line.ensures c.result_if_written.ensures.written c.result_if_written.ensures.failed
    (refl, (c.in-Ok.digest, (rw c.in-Ok.is at c.digest_for_task-digest.ensures.digest), refl))

pub returns-in-Ok-clause-memory : goal.returns-in-Ok-clause-memory
returns-in-Ok-clause-memory g c =
    let here : c.args.memory.now.allocator ≡ Some c.in-Some.allocator = search rules in
    memory_counted _ _ _ Digest _ refl (rw here (rw c.in-Ok.is at c.digest_for_task-digest.ensures.kept))
    (written_uncounted Digest _ _ _ c.result_if_written.ensures.written c.result_if_written.ensures.failed)

pub returns-in-Err-clause-answer : goal.returns-in-Err-clause-answer
returns-in-Err-clause-answer g c = answer_refuses _ _ _ _ (or_memory (rw c.in-Err.is at c.digest_for_task-digest.ensures.refused))

pub returns-in-Err-clause-memory : goal.returns-in-Err-clause-memory
returns-in-Err-clause-memory g c =
    let here : c.args.memory.now.allocator ≡ Some c.in-Some.allocator = search rules in
    record {
      there = refl;
      kept = tt;
      counted = rw here (copy_counted (message (g.S.ReaderSegments.segments c.args.segments)) c.args.task.limits (path_indexes c.args.task.path) (rw c.in-Err.is at c.digest_for_task-digest.ensures.refused));
    }
