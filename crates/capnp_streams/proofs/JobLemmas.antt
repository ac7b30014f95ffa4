-- A job is done with a message: by an answer, or by a text that is shown.
use Rattle.std.proofs.Common.{◌≡◌, ◌∙◌, ◌⊎◌, inl, inr, ℕ, List, Bool, Option, None, Result, Ok, Err, IfErr, IfOk, OnOk, false, refl, sym, ap, subst}
use Rattle.std.specs.Option.{option_map_or}
use Rattle.capnp_words.specs.declared.error.ErrorKind.{ErrorKind}
use Rattle.capnp_words.specs.declared.error.ErrorKind.TheVariants.{AllocationFailed}
use Rattle.capnp_format.specs.Segments.{Segments}
use Rattle.capnp_framing.specs.Writing.{IsUnwritten, Prints}
use Rattle.capnp_framing.specs.declared.devices.Output.{Ghosts}
use Rattle.capnp_framing.specs.declared.framing.frame_error.FrameError.TheVariants.{WriteFailed}
use Rattle.capnp_messages.specs.declared.messages.command.Command.{Command}
use Rattle.capnp_messages.specs.declared.messages.command.Command.TheVariants.{Canon, Check, Size, Digest, Validate}
use Rattle.capnp_refusals.specs.declared.refusals.search.RefusedPointer.{RefusedPointer}
use Rattle.capnp_streams.specs.Shows.{IsShown}
use Rattle.capnp_streams.specs.Streams.{Answers, CountsRefusals, IsJobDone, IsWriteFault, RefusesBy, RefusesJob, job_refusals_behind, refusals_behind, with_pointer}
use Rattle.capnp_streams.specs.declared.streams.stream_error.StreamError.{StreamError}
use Rattle.capnp_streams.specs.declared.streams.stream_error.StreamError.TheVariants.{Frame, Layout, TooManyMessages}
use Rattle.capnp_streams.specs.declared.streams.task.Job.TheVariants.{Answer, Show}
use Rattle.capnp_streams.specs.declared.streams.task.ShowTask.{ShowTask}
use Rattle.capnp_streams.specs.declared.streams.task.Task.{Task}

-- a task is refused, at the pointer that is told
located : {R Q : Type 0} (task : Task) (S : Segments) (fault : StreamError) →
    ((fault ≡ Frame WriteFailed) × R) ⊎ (RefusesBy task.command task S fault × Q) →
    ((with_pointer task S fault ≡ Frame WriteFailed) × R) ⊎ (RefusesJob (Answer task) S (with_pointer task S fault) × Q)
located task S fault (inl (named, device)) = inl (ap (with_pointer task S) named, device)
located task S (Frame e) (inr (refused, kept)) = absurd refused
located task S (Layout k p) (inr (refused, kept)) = inr ((refused, refl), kept)
located task S TooManyMessages (inr (refused, kept)) = absurd refused

pub answered_job : {W : Type 0} (g : Ghosts W) (from to : W) (task : Task) (S : Segments) (holds : Bool) →
    Answers g from to (record { command = task.command; task = task; asked_of = S }) (Ok holds) →
    IsJobDone g from to (Answer task) S (Ok holds)
answered_job g from to task S holds answer = record { answered = answer.answered; works = answer.works; refused = tt }

pub refused_job : {W : Type 0} (g : Ghosts W) (from to : W) (task : Task) (S : Segments) (fault : StreamError) →
    Answers g from to (record { command = task.command; task = task; asked_of = S }) (Err fault) →
    IsJobDone g from to (Answer task) S (Err (with_pointer task S fault))
refused_job g from to task S fault answer =
    record { answered = tt; works = tt; refused = located task S fault answer.refused }

-- a message is shown, or memory ran out
memory_refused : {P Q : Type 0} (task : ShowTask) (S : Segments) (fault : StreamError) →
    P ⊎ ((fault ≡ Layout AllocationFailed None) × Q) → P ⊎ (RefusesJob (Show task) S fault × Q)
memory_refused task S fault (inl written) = inl written
memory_refused task S fault (inr (memory, kept)) =
    let why : RefusesJob (Show task) S (Layout AllocationFailed None) = (refl, refl) in
    inr (subst (λ (f : StreamError). RefusesJob (Show task) S f) (sym memory) why, kept)

pub shown_job : {W : Type 0} (g : Ghosts W) (from to : W) (task : ShowTask) (S : Segments) (result : Result Bool StreamError) →
    IfOk result (λ is_sound. (text : List ℕ) × IsShown task S is_sound text × Prints g from to text) →
    OnOk result (g.has_failed to ≡ false) →
    IfErr result (λ e. IsWriteFault g to e ⊎ ((e ≡ Layout AllocationFailed None) × IsUnwritten g from to)) →
    IsJobDone g from to (Show task) S result
shown_job g from to task S (Ok is_sound) shown works refused = record { answered = shown; works = works; refused = tt }
shown_job g from to task S (Err e) shown works refused =
    record { answered = tt; works = tt; refused = memory_refused task S e refused }

-- the pointer changes nothing about the memory
at_any_pointer : (command : Command) (k : ErrorKind) (p q : Option RefusedPointer) (n : ℕ) →
    refusals_behind command (Layout k p) n ≡ refusals_behind command (Layout k q) n
at_any_pointer (Canon form) k p q n = refl
at_any_pointer Check k p q n = refl
at_any_pointer Size k p q n = refl
at_any_pointer Digest k p q n = refl
at_any_pointer Validate k p q n = refl

behind_located : (task : Task) (S : Segments) (fault : StreamError) (n : ℕ) →
    refusals_behind task.command fault n ≡ job_refusals_behind (Answer task) (with_pointer task S fault) n
behind_located task S (Frame e) n = refl
behind_located task S (Layout k p) n = at_any_pointer task.command k _ _ n
behind_located task S TooManyMessages n = refl

pub refused_counted : {A : Type 0} (refusals : A → ℕ) (old new : Option A) (task : Task) (S : Segments) (fault : StreamError) →
    CountsRefusals {B = Bool} refusals old new (refusals_behind task.command) (Err fault) →
    CountsRefusals {B = Bool} refusals old new (job_refusals_behind (Answer task)) (Err (with_pointer task S fault))
refused_counted refusals old new task S fault counts = record {
  there = counts.there;
  kept = tt;
  counted = counts.counted ∙ behind_located task S fault (option_map_or refusals old 0);
}

-- what is known of a job that is done
pub ruleset jobs = (answered_job, refused_job, shown_job, refused_counted)
