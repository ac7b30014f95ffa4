-- What a run does with each message of its input: it answers it, or shows it.
use Rattle.std.specs.Prelude.{ℕ}
use Rattle.capnp_arena.specs.declared.arena.reader_arena_impl.ReaderOptions.{ReaderOptions}
use Rattle.capnp_framing.specs.Limits.{most_words}
use Rattle.capnp_streams.specs.declared.streams.input_form.InputForm.{InputForm}
use Rattle.capnp_streams.specs.declared.streams.task.Job.{Job}
use Rattle.capnp_streams.specs.declared.streams.task.Job.TheVariants.{Answer, Show}

-- The limits for reading each message.
abbrev pub job_limits : Job → ReaderOptions
job_limits (Answer task) = task.limits
job_limits (Show task) = task.limits

-- How the input is read.
abbrev pub job_form : Job → InputForm
job_form (Answer task) = task.input_form
job_form (Show task) = task.input_form

-- The most words that a message may have.
abbrev pub most_of : Job → ℕ
most_of job = most_words (job_limits job)
