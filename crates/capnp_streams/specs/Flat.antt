-- What a run says about an input that is one message of one segment: its raw words, without a
-- frame.
use Rattle.std.specs.Prelude.{◌≡◌, ◌⊎◌, ℕ, List, [], ◌∷◌, Bool, true, Option, IfSome}
use Rattle.std.specs.Io.KnownBytes.{Appends, Consumes, IsAtEnd}
use Rattle.capnp_format.specs.Bytes.{message}
use Rattle.capnp_framing.specs.Bare.{AreBareWords, HasTakenBare, NoBareWords}
use Rattle.capnp_framing.specs.declared.devices.Input.{Ghosts}
use Rattle.capnp_framing.specs.declared.framing.frame_error.FrameError.TheVariants.{AllocationFailed as NoMemory}
use Rattle.capnp_framing.specs.declared.framing.frame_error.FrameError.TheVariants.{ReadFailed}
use Rattle.capnp_streams.specs.Jobs.{most_of}
use Rattle.capnp_streams.specs.declared.streams.task.Job.{Job}
use Rattle.capnp_streams.specs.Streams.{HasJobAnswer, JobAnswerIs, JobRefuses, Stage}
use Rattle.capnp_streams.specs.declared.streams.stream_error.StreamError.{StreamError}
use Rattle.capnp_streams.specs.declared.streams.stream_error.StreamError.TheVariants.{Frame, Layout, TooManyMessages}

-- From old to new everything in the input was read: raw words, at most as many as the traversal
-- limit. The job's answer to the message that they mean was written after what the output had.
pub record IsFlatDone (job : Job) (old new : Stage) (holds : Bool) : Type 0 where
  pub bytes : List ℕ
  pub answer : List ℕ
  pub bare : AreBareWords bytes (most_of job)
  pub consumed : Consumes old.input new.input bytes
  pub answered : JobAnswerIs job (message (bytes ∷ [])) holds answer
  pub written : Appends old.output new.output answer

-- Why the message whose raw words the input has isn't answered: they are cut short or too many,
-- the job refuses the message, at the pointer that is told, or memory or the input fails.
abbrev pub StopsFlat : Job → Option (List ℕ) → Bool → StreamError → Type 0
StopsFlat job input failed (Frame e) =
    (e ≡ NoMemory) ⊎ ((e ≡ ReadFailed) × (failed ≡ true))
    ⊎ IfSome input (λ bytes. NoBareWords bytes (most_of job) e)
StopsFlat job input failed (Layout k p) =
    (bytes : List ℕ) × IfSome input (λ all. all ≡ bytes) × AreBareWords bytes (most_of job)
    × JobRefuses job (message (bytes ∷ [])) k p
StopsFlat job input failed TooManyMessages = ⊥

module _ {R : Type 0} (g : Ghosts R) where
  -- What a stop has taken of an input: all of it, if the message is refused.
  abbrev pub HasTakenFlat : R → R → StreamError → Type 0
  HasTakenFlat from to (Frame e) = HasTakenBare g from to e
  HasTakenFlat from to (Layout k p) = IsAtEnd (g.remaining to)
  HasTakenFlat from to TooManyMessages = ⊥

-- The bytes are raw words of a message that the job has an answer to.
abbrev pub CanFlatBeAnswered : Job → List ℕ → Type 0
CanFlatBeAnswered job bytes =
    AreBareWords bytes (most_of job) × HasJobAnswer job (message (bytes ∷ []))
