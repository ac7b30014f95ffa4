-- What a command without memory has written is its answer, and no refusal is counted.
use Rattle.std.proofs.Common.{◌≡◌, false, refl, true}
use Rattle.capnp_messages.specs.Text.{check_line, extent_line, size_line}
use Rattle.capnp_messages.specs.declared.messages.command.Command.TheVariants.{Check, Size, Validate}
use Rattle.capnp_streams.specs.Streams.{fault_line}
use Rattle.capnp_streams.proofs.AnsweredLemmas.{answer_refuses, answer_written}
use Rattle.capnp_streams.proofs.CountingLemmas.{memory_counted, written_uncounted}
use Rattle.capnp_streams.proofs.streams.answers.answer.Goals as goal

pub returns-in-Ok-None-clause-answer : goal.returns-in-Ok-None-clause-answer
returns-in-Ok-None-clause-answer g c =
    let canonical = rw c.in-Ok-None.field-0-is at c.in-Ok-None.ensures.within in
    rw c.in-Check.is (answer_written _ _ _ _ _ _ (check_line true) c.write_canonical_line.ensures c.result_if_written.ensures.written c.result_if_written.ensures.failed (canonical, refl))

pub returns-in-Ok-None-clause-memory : goal.returns-in-Ok-None-clause-memory
returns-in-Ok-None-clause-memory g c = rw c.in-Check.is (memory_counted _ _ _ Check _ c.requires.there refl (written_uncounted Check _ _ _ c.result_if_written.ensures.written c.result_if_written.ensures.failed))

pub returns-in-Ok-Some-clause-answer : goal.returns-in-Ok-Some-clause-answer
returns-in-Ok-Some-clause-answer g c =
    let exactly = rw c.in-Ok-Some.field-0-is at c.in-Ok-Some.ensures.exactly in
    let fault = rw c.in-Ok-Some.field-0-is at c.in-Ok-Some.ensures.fault in
    rw c.in-Check.is (answer_written _ _ _ _ _ _ (fault_line c.in-Ok-Some.fault) c.write_fault.ensures c.result_if_written-in-Ok-Some.ensures.written c.result_if_written-in-Ok-Some.ensures.failed (λ is. (let wrong : true ≡ false = exactly.1 is in cc), (c.in-Ok-Some.fault, fault, refl)))

pub returns-in-Ok-Some-clause-memory : goal.returns-in-Ok-Some-clause-memory
returns-in-Ok-Some-clause-memory g c = rw c.in-Check.is (memory_counted _ _ _ Check _ c.requires.there refl (written_uncounted Check _ _ _ c.result_if_written-in-Ok-Some.ensures.written c.result_if_written-in-Ok-Some.ensures.failed))

pub returns-in-Err-clause-answer : goal.returns-in-Err-clause-answer
returns-in-Err-clause-answer g c =
    rw c.in-Check.is (answer_refuses _ _ _ _ c.in-Err.ensures.refused)

pub returns-in-Err-clause-memory : goal.returns-in-Err-clause-memory
returns-in-Err-clause-memory g c = rw c.in-Check.is (memory_counted _ _ _ Check _ c.requires.there refl (λ n. refl))

pub returns-in-Ok-clause-answer : goal.returns-in-Ok-clause-answer
returns-in-Ok-clause-answer g c =
    rw c.in-Size.is (answer_written _ _ _ _ _ _ (size_line c.in-Ok.size.word_count c.in-Ok.size.cap_count) c.write_size.ensures c.result_if_written-in-Ok.ensures.written c.result_if_written-in-Ok.ensures.failed (refl, (c.in-Ok.size.word_count, c.in-Ok.size.cap_count, c.in-Ok.ensures.size, refl)))

pub returns-in-Ok-clause-memory : goal.returns-in-Ok-clause-memory
returns-in-Ok-clause-memory g c = rw c.in-Size.is (memory_counted _ _ _ Size _ c.requires.there refl (written_uncounted Size _ _ _ c.result_if_written-in-Ok.ensures.written c.result_if_written-in-Ok.ensures.failed))

pub returns-in-Err-size_for_task-clause-answer : goal.returns-in-Err-size_for_task-clause-answer
returns-in-Err-size_for_task-clause-answer g c =
    rw c.in-Size.is (answer_refuses _ _ _ _ c.in-Err-size_for_task.ensures.refused)

pub returns-in-Err-size_for_task-clause-memory : goal.returns-in-Err-size_for_task-clause-memory
returns-in-Err-size_for_task-clause-memory g c = rw c.in-Size.is (memory_counted _ _ _ Size _ c.requires.there refl (λ n. refl))

pub returns-in-Ok-validate-clause-answer : goal.returns-in-Ok-validate-clause-answer
returns-in-Ok-validate-clause-answer g c =
    rw c.in-Validate.is (answer_written _ _ _ _ _ _ (extent_line c.in-Ok-validate.extent.value) c.write_extent.ensures c.result_if_written-in-Ok-validate.ensures.written c.result_if_written-in-Ok-validate.ensures.failed (refl, (c.in-Ok-validate.extent, c.in-Ok-validate.ensures.extent, refl)))

pub returns-in-Ok-validate-clause-memory : goal.returns-in-Ok-validate-clause-memory
returns-in-Ok-validate-clause-memory g c = rw c.in-Validate.is (memory_counted _ _ _ Validate _ c.requires.there refl (written_uncounted Validate _ _ _ c.result_if_written-in-Ok-validate.ensures.written c.result_if_written-in-Ok-validate.ensures.failed))

pub returns-in-Err-validate-clause-answer : goal.returns-in-Err-validate-clause-answer
returns-in-Err-validate-clause-answer g c =
    rw c.in-Validate.is (answer_refuses _ _ _ _ c.in-Err-validate.ensures.computed)

pub returns-in-Err-validate-clause-memory : goal.returns-in-Err-validate-clause-memory
returns-in-Err-validate-clause-memory g c = rw c.in-Validate.is (memory_counted _ _ _ Validate _ c.requires.there refl (λ n. refl))
