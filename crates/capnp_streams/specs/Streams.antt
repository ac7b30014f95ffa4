-- The messages of a stream, one frame after the other, and what a task answers to them.
use Rattle.std.specs.Prelude.{◌≡◌, ◌⊎◌, ℕ, ◌-◌, ◌^◌, ◌≤◌, min, List, [], ◌∷◌, ◌++◌, All, length, codes, ⊤}
use Rattle.std.specs.Prelude.{Bool, true, false, ◌&&◌, Option, None, IsSome, IfSome, Result, OnOk, IfOk, IfErr}
use Rattle.std.specs.Option.{option_map_or}
use Rattle.std.specs.Fmt.{decimal}
use Rattle.std.specs.Io.KnownBytes.{Appends, Consumes, IsAtEnd, Keeps}
use Rattle.hex.specs.Hex.{encode_lower}
use Rattle.capnp_words.specs.Names.{name_of}
use Rattle.capnp_words.specs.declared.error.ErrorKind.{ErrorKind}
use Rattle.capnp_words.specs.declared.error.ErrorKind.TheVariants.{AllocationFailed}
use Rattle.capnp_format.specs.Bytes.{message}
use Rattle.capnp_format.specs.Canonical.{encoding, trim}
use Rattle.capnp_format.specs.Segments.{Segments}
use Rattle.capnp_format.specs.Tree.{Tree}
use Rattle.capnp_arena_traits.specs.Allocations.{max_segment_words}
use Rattle.capnp_framing.specs.Frames.{IsFrameOf, bytes_of_words}
use Rattle.capnp_framing.specs.Memory.{frame_refusals}
use Rattle.capnp_framing.specs.Names.{frame_error_name}
use Rattle.capnp_framing.specs.Reading.{NoFrame, total}
use Rattle.capnp_framing.specs.Wholeness.{KeepsWhole}
use Rattle.capnp_framing.specs.Writing.{IsUnwritten, Prints}
use Rattle.capnp_framing.specs.declared.devices.Input.{Ghosts as InputGhosts}
use Rattle.capnp_framing.specs.declared.devices.Output.{Ghosts as OutputGhosts}
use Rattle.capnp_framing.specs.declared.framing.frame_error.FrameError.TheVariants.{AllocationFailed as NoMemory}
use Rattle.capnp_framing.specs.declared.framing.frame_error.FrameError.TheVariants.{ReadFailed, WriteFailed}
use Rattle.capnp_allocation.specs.Memory.{refusals_for}
use Rattle.capnp_pointers.specs.CanonicalFaults.{fault_reason_text}
use Rattle.capnp_pointers.specs.declared.pointers.canonical_fault.CanonicalFault.{CanonicalFault}
use Rattle.capnp_messages.specs.Text.{check_line, extent_line, size_line}
use Rattle.capnp_messages.specs.CanonicalMessages.{IsCanonicalMessage}
use Rattle.capnp_messages.specs.Extents.{HasExtent}
use Rattle.capnp_messages.specs.Messages.{IsCanonicalWithin, IsFaultOf}
use Rattle.capnp_streams.specs.declared.streams.stream_error.StreamError.{StreamError}
use Rattle.capnp_streams.specs.declared.streams.stream_error.StreamError.TheVariants.{Frame, Layout, TooManyMessages}
use Rattle.capnp_streams.specs.declared.streams.runs.Stop.{Stop}
use Rattle.capnp_streams.specs.declared.streams.runs.Summary.{Summary}
use Rattle.capnp_messages.specs.declared.messages.command.Command.{Command}
use Rattle.capnp_messages.specs.declared.messages.command.Command.TheVariants.{Canon, Check, Size, Digest, Validate}
use Rattle.capnp_messages.specs.declared.messages.command.Form.{Form}
use Rattle.capnp_messages.specs.declared.messages.validation.MessageExtent.{MessageExtent}
use Rattle.capnp_streams.specs.declared.streams.task.Task.{Task}
use Rattle.capnp_messages.specs.Commands.{form_bytes}
use Rattle.capnp_show.specs.Show.{PrintsAtMost}
use Rattle.capnp_streams.specs.Asked.{HasAskedAnswer, HasSizeAt, IsDigestAt, IsValueAt, RefusesAsked, pointer_asked}
use Rattle.capnp_streams.specs.Jobs.{most_of}
use Rattle.capnp_streams.specs.declared.streams.task.Job.{Job}
use Rattle.capnp_streams.specs.declared.streams.task.Job.TheVariants.{Answer, Show}
use Rattle.capnp_streams.specs.Paths.{path_indexes}
use Rattle.capnp_streams.specs.Shows.{IsShown}
use Rattle.capnp_refusals.specs.declared.refusals.search.RefusedPointer.{RefusedPointer}

-- The name of a refusal.
abbrev pub fault_name : StreamError → List ℕ
fault_name (Frame e) = frame_error_name e
fault_name (Layout k p) = name_of k
fault_name TooManyMessages = codes "TooManyMessages"

-- The pointer of a refusal, if it is that of a pointer.
abbrev pub fault_pointer : StreamError → Option RefusedPointer
fault_pointer (Layout k p) = p
fault_pointer f = None

-- The line about a message that isn't canonical: why, and at which word.
unfoldable pub no_text : List ℕ
no_text = codes "not canonical: "

unfoldable pub segment_text : ℕ → List ℕ
segment_text segment = codes " at segment " ++ decimal segment

unfoldable pub word_text : ℕ → List ℕ
word_text word = codes ", word " ++ decimal word ++ 10 ∷ []

abbrev pub fault_line : CanonicalFault → List ℕ
fault_line f = no_text ++ fault_reason_text f.reason ++ segment_text f.segment ++ word_text f.word

-- The line of lower case hex digits, two for each byte in order.
abbrev pub hex_line : List ℕ → List ℕ
hex_line bytes = encode_lower bytes ++ 10 ∷ []

-- The bytes that are written of canonical words: a line of hex digits, or the bytes in a form.
abbrev pub written_words : Bool → Form → List ℕ → List ℕ
written_words true form words = hex_line (bytes_of_words words)
written_words false form words = form_bytes form words

-- What a command answers to S, with the other settings of a task: `holds` is yes or no, and `bytes`
-- are written. Copies, digests and sizes are of the part to which the task's path leads. Canonical
-- words are at most as many as a segment of a copy can have. The value of a message that is said to
-- be canonical is within the limits. The line about a message that isn't canonical says why: the
-- reason is true of the word that it names.
abbrev pub AnswerIs : Command → Task → Segments → Bool → List ℕ → Type 0
AnswerIs (Canon form) task S holds bytes =
    (holds ≡ true)
    × ((t : Tree) × IsValueAt S task.limits (path_indexes task.path) t
    × (length (encoding (trim t)) ≤ max_segment_words)
    × (bytes ≡ written_words task.hex form (encoding (trim t))))
AnswerIs Check task S true bytes = IsCanonicalWithin S task.limits × (bytes ≡ check_line true)
AnswerIs Check task S false bytes =
    (IsCanonicalMessage S → ⊥)
    × ((f : CanonicalFault) × IsFaultOf S task.limits f × (bytes ≡ fault_line f))
AnswerIs Size task S holds bytes =
    (holds ≡ true)
    × ((words : ℕ) × (caps : ℕ) × HasSizeAt S task.limits (path_indexes task.path) words caps
    × (bytes ≡ size_line words caps))
AnswerIs Digest task S holds bytes =
    (holds ≡ true)
    × ((digest : List ℕ) × IsDigestAt S task.limits (path_indexes task.path) digest
    × (bytes ≡ hex_line digest))
AnswerIs Validate task S holds bytes =
    (holds ≡ true)
    × ((x : MessageExtent) × HasExtent S task.limits x × (bytes ≡ extent_line x.value))

-- The fault says why a command has no answer to S.
abbrev pub RefusesBy : Command → Task → Segments → StreamError → Type 0
RefusesBy command task S (Layout k p) = RefusesAsked command task S k
RefusesBy command task S _ = ⊥

-- The fault with the pointer at which S is refused, if the fault is a refusal of S.
abbrev pub with_pointer : Task → Segments → StreamError → StreamError
with_pointer task S (Layout k p) = Layout k (pointer_asked k task S)
with_pointer task S f = f

-- How often memory was refused after a fault, if it was n times before: one more if there was none
-- for the frame that is read, or for a canonical copy or its digest; otherwise n.
abbrev pub refusals_behind : Command → StreamError → ℕ → ℕ
refusals_behind command (Frame e) n = frame_refusals e n
refusals_behind command TooManyMessages n = n
refusals_behind (Canon form) (Layout k p) n = refusals_for k n
refusals_behind Check (Layout k p) n = n
refusals_behind Size (Layout k p) n = n
refusals_behind Digest (Layout k p) n = refusals_for k n
refusals_behind Validate (Layout k p) n = n

-- The same after a fault of a job. Memory for texts that are shown isn't the allocator's.
abbrev pub job_refusals_behind : Job → StreamError → ℕ → ℕ
job_refusals_behind job (Frame e) n = frame_refusals e n
job_refusals_behind job TooManyMessages n = n
job_refusals_behind (Answer task) (Layout k p) n = refusals_behind task.command (Layout k p) n
job_refusals_behind (Show task) (Layout k p) n = n

-- The allocator is there afterwards, and has counted as many refusals more as the fault says, and
-- none if there is no fault.
pub record CountsRefusals {A B : Type 0} (refusals : A → ℕ) (old new : Option A)
    (behind : StreamError → ℕ → ℕ) (result : Result B StreamError) : Type 0 where
  pub there : IsSome new
  pub kept : OnOk result (option_map_or refusals new 0 ≡ option_map_or refusals old 0)
  pub counted :
      IfErr result
      (λ fault. option_map_or refusals new 0
      ≡ behind fault (option_map_or refusals old 0))

-- What is asked of a message: a command, with the other settings of a task.
pub record Question : Type 0 where
  pub command : Command
  pub task : Task
  pub asked_of : Segments

-- What is asked of the message in these segments.
abbrev pub question_on : Command → Task → List (List ℕ) → Question
question_on command task segments =
    record { command = command; task = task; asked_of = message segments }

module _ {W : Type 0} (g : OutputGhosts W) where
  -- The fault is that of an output, which has failed.
  abbrev pub IsWriteFault : W → StreamError → Type 0
  IsWriteFault output fault = (fault ≡ Frame WriteFailed) × (g.has_failed output ≡ true)

  -- The question q is answered: the answer was written, from one state of an output to another,
  -- which works; the result is yes or no. Or it isn't answered: the output has failed; or the
  -- command refuses the message, and nothing was written.
  pub record Answers (from to : W) (q : Question) (result : Result Bool StreamError) : Type 0 where
    pub answered :
        IfOk result
        (λ holds. (answer : List ℕ) × AnswerIs q.command q.task q.asked_of holds answer
        × Prints g from to answer)
    pub works : OnOk result (g.has_failed to ≡ false)
    pub refused : IfErr result (λ fault. IsWriteFault to fault
        ⊎ (RefusesBy q.command q.task q.asked_of fault × IsUnwritten g from to))

-- What a job writes of S: `holds` is yes or no.
abbrev pub JobAnswerIs : Job → Segments → Bool → List ℕ → Type 0
JobAnswerIs (Answer task) S holds bytes = AnswerIs task.command task S holds bytes
JobAnswerIs (Show task) S holds bytes = IsShown task S holds bytes

-- A job is refused for S with k, at the pointer p. A message is shown also if it isn't sound: only
-- memory can run out.
abbrev pub JobRefuses : Job → Segments → ErrorKind → Option RefusedPointer → Type 0
JobRefuses (Answer task) S k p = RefusesAsked task.command task S k × (p ≡ pointer_asked k task S)
JobRefuses (Show task) S k p = (k ≡ AllocationFailed) × (p ≡ None)

-- The fault says why a job has no answer to S.
abbrev pub RefusesJob : Job → Segments → StreamError → Type 0
RefusesJob job S (Layout k p) = JobRefuses job S k p
RefusesJob job S _ = ⊥

module _ {W : Type 0} (g : OutputGhosts W) where
  -- A job is done with S: what it writes was written, from one state of an output to another, which
  -- works; the result is yes or no. Or it isn't done: the output has failed; or the job is refused,
  -- and nothing was written.
  pub record IsJobDone (from to : W) (job : Job) (S : Segments) (result : Result Bool StreamError)
      : Type 0 where
    pub answered :
        IfOk result
        (λ holds. (bytes : List ℕ) × JobAnswerIs job S holds bytes × Prints g from to bytes)
    pub works : OnOk result (g.has_failed to ≡ false)
    pub refused : IfErr result (λ fault. IsWriteFault g to fault
        ⊎ (RefusesJob job S fault × IsUnwritten g from to))

  -- A message is shown in at most 67,108,864 bytes.
  abbrev pub IsShortIfShown : Job → W → W → Type 0
  IsShortIfShown (Answer task) from to = ⊤
  IsShortIfShown (Show task) from to = PrintsAtMost g 67108864 from to

-- A job has an answer to S if this holds.
abbrev pub HasJobAnswer : Job → Segments → Type 0
HasJobAnswer (Answer task) S = HasAskedAnswer task.command task S
HasJobAnswer (Show task) S = ⊤

-- The bytes are the frames of these messages, one after the other, each of at most `most` words.
abbrev pub AreFrames : ℕ → List Segments → List ℕ → Type 0
AreFrames most [] bytes = bytes ≡ []
AreFrames most (S ∷ more) bytes =
    (first : List ℕ) × (rest : List ℕ) × (bytes ≡ first ++ rest) × IsFrameOf S first
    × (total S ≤ most) × AreFrames most more rest

-- A job answers to messages with these bytes, one answer after the other, and with yes if each
-- answer is yes.
abbrev pub AreAnswered : Job → List Segments → Bool → List ℕ → Type 0
AreAnswered job [] holds bytes = (holds ≡ true) × (bytes ≡ [])
AreAnswered job (S ∷ more) holds bytes =
    (here : Bool) × (there : Bool) × (first : List ℕ) × (rest : List ℕ)
    × JobAnswerIs job S here first × AreAnswered job more there rest
    × (holds ≡ here && there) × (bytes ≡ first ++ rest)

-- How far a run has come: what is left of its input and what its output holds, if these are known.
pub record Stage : Type 0 where
  pub input : Option (List ℕ)
  pub output : Option (List ℕ)

module _ {R W : Type 0} (g : InputGhosts R) (h : OutputGhosts W) where
  abbrev pub stage_of : R → W → Stage
  stage_of input output = record { input = g.remaining input; output = h.contents output }

  -- Neither device has failed.
  abbrev pub AreWorking : R → W → Type 0
  AreWorking input output = (g.has_failed input ≡ false) × (h.has_failed output ≡ false)

  -- A run came to the end of its input, from one state to another: nothing is left of that, its
  -- bytes ended as was known, and neither device has failed.
  pub record RunsToEnd (from to : R) (output : W) : Type 0 where
    pub end : IsAtEnd (g.remaining to)
    pub whole : KeepsWhole (g.ends_whole from) (g.ends_whole to)
    pub work : AreWorking to output

-- From old to new the frames of `summary.messages` messages were read from the front of the input;
-- `summary.bytes` is their number of bytes, at most what 64 bits count. What the job answers to
-- these was written after what the output had.
pub record AreDone (job : Job) (old new : Stage) (summary : Summary) : Type 0 where
  pub messages : List Segments
  pub bytes : List ℕ
  pub answers : List ℕ
  pub many : length messages ≡ summary.messages
  pub sized : summary.bytes ≡ min (length bytes) (2 ^ 64 - 1)
  pub framed : AreFrames (most_of job) messages bytes
  pub consumed : Consumes old.input new.input bytes
  pub answered : AreAnswered job messages summary.holds answers
  pub written : Appends old.output new.output answers

-- From old to new all messages that a run has answered before it stops are done. Their frames have
-- the number of bytes that it says.
abbrev pub WereAnswered : Job → Stage → Stage → Stop → Type 0
WereAnswered job old new stop =
    (holds : Bool)
    × AreDone job old new (record { messages = stop.answered; bytes = stop.byte; holds = holds })

-- Why the message at the front of the remaining input isn't answered. Either there is no frame, or
-- memory runs out, or the input fails; or its frame is read, and nothing after it, and the job
-- refuses the message, at the pointer that is told.
abbrev pub StopsAt : Job → Option (List ℕ) → Option (List ℕ) → Bool → StreamError → Type 0
StopsAt job old new failed (Frame e) =
    (e ≡ NoMemory) ⊎ ((e ≡ ReadFailed) × (failed ≡ true))
    ⊎ IfSome old (λ bytes. NoFrame bytes (most_of job) e)
StopsAt job old new failed (Layout k p) =
    (S : Segments) × (bytes : List ℕ) × IsFrameOf S bytes × (total S ≤ most_of job)
    × Consumes old new bytes × JobRefuses job S k p
StopsAt job old new failed TooManyMessages = ⊥

-- Why no message is answered after a stage, and nothing more is written: the one at the front
-- isn't, or as many were as 64 bits count.
abbrev pub EndsAfter : Job → Stage → Stage → Bool → Stop → Type 0
EndsAfter job old new failed stop =
    Keeps old.output new.output
    × (StopsAt job old.input new.input failed stop.fault
    ⊎ ((stop.fault ≡ TooManyMessages) × (stop.answered ≡ 2 ^ 64 - 1)))

-- The bytes are frames of messages that the job has an answer to.
abbrev pub CanBeAnswered : Job → List ℕ → Type 0
CanBeAnswered job bytes =
    (messages : List Segments) × AreFrames (most_of job) messages bytes
    × All (HasJobAnswer job) messages

-- A fault of no message: memory or a device fails, or there are too many messages to count.
abbrev pub IsOfDevices : StreamError → Type 0
IsOfDevices (Frame e) = (e ≡ NoMemory) ⊎ (e ≡ ReadFailed) ⊎ (e ≡ WriteFailed)
IsOfDevices (Layout k p) = k ≡ AllocationFailed
IsOfDevices TooManyMessages = ⊤
