-- Messages that have an answer aren't refused: a fault is one of memory or of a device.
use Rattle.std.proofs.Common.{◌≡◌, ◌⊎◌, inl, inr, ℕ, List, Bool, Option, Some, None}
use Rattle.std.proofs.Common.{All, IsSomeAnd, Result, Ok, Err, OnOk, OnErr}
use Rattle.std.proofs.Common.{refl, sym, subst}
use Rattle.std.specs.Io.KnownBytes.{Consumes, Keeps}
use Rattle.capnp_format.specs.Segments.{Segments}
use Rattle.capnp_framing.specs.Writing.{Writes}
use Rattle.capnp_framing.specs.declared.devices.Output.{Ghosts}
use Rattle.capnp_words.specs.declared.error.ErrorKind.{ErrorKind}
use Rattle.capnp_words.specs.declared.error.ErrorKind.TheVariants.{AllocationFailed}
use Rattle.capnp_refusals.specs.declared.refusals.search.RefusedPointer.{RefusedPointer}
use Rattle.capnp_streams.specs.Asked.{RefusesAsked}
use Rattle.capnp_streams.specs.Jobs.{most_of}
use Rattle.capnp_streams.specs.declared.streams.task.Job.{Job}
use Rattle.capnp_streams.specs.declared.streams.task.Job.TheVariants.{Answer, Show}
use Rattle.capnp_streams.specs.Streams.{AnswerIs, Answers, AreDone, AreFrames, CanBeAnswered, EndsAfter, HasJobAnswer, IsOfDevices}
use Rattle.capnp_streams.specs.Streams.{JobRefuses, Question, Stage, StopsAt}
use Rattle.capnp_framing.specs.declared.framing.frame_error.FrameError.TheVariants.{WriteFailed}
use Rattle.capnp_streams.specs.declared.streams.stream_error.StreamError.{StreamError}
use Rattle.capnp_streams.specs.declared.streams.stream_error.StreamError.TheVariants.{Frame, Layout, TooManyMessages}
use Rattle.capnp_streams.specs.declared.streams.runs.Stop.{Stop}
use Rattle.capnp_streams.specs.declared.streams.runs.Summary.{Summary}
use Rattle.capnp_streams.proofs.AskedLemmas.{asked_refused}
use Rattle.capnp_streams.proofs.FramesLemmas.{all_left, frame_is_there, frames_behind, front_has}
use Rattle.capnp_streams.proofs.StreamLemmas.{begins}

-- a job that has an answer isn't refused for what a message holds
pub job_refused : (job : Job) (S : Segments) (k : ErrorKind) (p : Option RefusedPointer) → HasJobAnswer job S → JobRefuses job S k p → k ≡ AllocationFailed
job_refused (Answer task) S k p has (refused, told) = asked_refused task.command task S has refused
job_refused (Show task) S k p has (memory, told) = memory

stops_so : (job : Job) (more : List Segments) (left : List ℕ) (after : Option (List ℕ)) (failed : Bool) (fault : StreamError) →
    AreFrames (most_of job) more left → All (HasJobAnswer job) more →
    StopsAt job (Some left) after failed fault → IsOfDevices fault
stops_so job more left after failed (Frame e) framed all (inl memory) = inl memory
stops_so job more left after failed (Frame e) framed all (inr (inl (named, device))) = inr (inl named)
stops_so job more left after failed (Frame e) framed all (inr (inr none)) =
    absurd (frame_is_there (most_of job) more left e framed none)
stops_so job more left after failed (Layout k p) framed all (S, bytes, is, short, consumed, refused) =
    let P : Segments → Type 0 = HasJobAnswer job in
    job_refused job S k p
    (front_has P (most_of job) more left S framed all (begins (Some left) after consumed is short)) refused
stops_so job more left after failed TooManyMessages framed all stops = absurd stops

-- a run over such messages stops only for memory or a device
pub step_answerable : {job : Job} {summary : Summary} {P Q : Type 0} (old : Stage)
    (left between after : Option (List ℕ)) (failed : Bool) (fault : StreamError) →
    AreDone job old (record { input = left; output = between }) summary →
    ((fault ≡ Frame WriteFailed) × P) ⊎ (StopsAt job left after failed fault × Q) →
    IsSomeAnd old.input (CanBeAnswered job) → IsOfDevices fault
step_answerable old left between after failed fault done (inl (named, device)) =
    λ can. subst IsOfDevices (sym named) (inr (inr refl))
step_answerable {job} old left between after failed fault done (inr (stops, same)) =
    λ can. go old.input left done.consumed can stops
  where
    go : (a b : Option (List ℕ)) → Consumes a b done.bytes → IsSomeAnd a (CanBeAnswered job) →
        StopsAt job b after failed fault → IsOfDevices fault
    go None b consumed given stopped = absurd given
    go (Some x) None consumed given stopped = absurd consumed
    go (Some x) (Some y) consumed (messages, framed, all) stopped =
        let (more, is, others) =
        frames_behind (most_of job) done.messages messages done.bytes y x done.framed framed consumed in
        let rest = all_left (HasJobAnswer job) done.messages more
        (subst (All (HasJobAnswer job)) is all) in
        stops_so job more y after failed fault others rest stopped

-- a run ends at a message that isn't answered
pub ends_behind : {W : Type 0} (job : Job) (old new : Stage) (failed : Bool) (stop : Stop) →
    W ⊎ (StopsAt job old.input new.input failed stop.fault × Keeps old.output new.output) →
    W ⊎ EndsAfter job old new failed stop
ends_behind job old new failed stop (inl written) = inl written
ends_behind job old new failed stop (inr (stops, kept)) = inr (kept, inl stops)

-- an answer was written, or the output has failed
pub answer_written : {W A E : Type 0} (g : Ghosts W) (from to : W) (q : Question) {result : Result Bool StreamError} (written : Result A E)
    (holds : Bool) (bytes : List ℕ) → Writes g written from to bytes →
    OnOk written (result ≡ Ok holds) → OnErr written (result ≡ Err (Frame WriteFailed)) →
    AnswerIs q.command q.task q.asked_of holds bytes → Answers g from to q result
answer_written g from to q (Ok x) holds bytes writes is failed answer =
    subst (Answers g from to q) (sym is) (record {
      answered = (bytes, answer, writes.written);
      works = writes.works;
      refused = tt;
    })
answer_written g from to q (Err e) holds bytes writes is failed answer =
    subst (Answers g from to q) (sym failed) (record {
      answered = tt;
      works = tt;
      refused = inl (refl, writes.fails);
    })

-- a command refuses a message, and nothing was written of it
pub answer_refuses : {W : Type 0} (g : Ghosts W) (from : W) (q : Question) (k : ErrorKind) →
    RefusesAsked q.command q.task q.asked_of k → Answers g from from q (Err (Layout k None))
answer_refuses g from q k why = record {
  answered = tt;
  works = tt;
  refused = inr (why, (refl, refl));
}
