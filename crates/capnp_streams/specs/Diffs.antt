-- What a run says that compares the messages of two inputs, pair by pair.
use Rattle.std.specs.Prelude.{◌≡◌, ◌≢◌, ◌⊎◌, ◌↔◌, ℕ, ◌+◌, ◌-◌, ◌^◌, ◌<◌, ◌≤◌, min, List, [], ◌∷◌, ◌++◌, codes, length, map}
use Rattle.std.specs.Prelude.{Bool, true, false, ◌&&◌, Option, Some, None, is_none, IfSome, ⊤}
use Rattle.std.specs.Fmt.{decimal}
use Rattle.std.specs.Io.KnownBytes.{Appends, Consumes, IsAtEnd, Keeps}
use Rattle.capnp_format.specs.Bytes.{message}
use Rattle.capnp_format.specs.Segments.{AreWords, Segments}
use Rattle.capnp_arena.specs.declared.arena.reader_arena_impl.ReaderOptions.{ReaderOptions}
use Rattle.capnp_framing.specs.Bare.{AreBareWords}
use Rattle.capnp_framing.specs.Flat.{BeginsWithFrame}
use Rattle.capnp_framing.specs.Limits.{most_words}
use Rattle.capnp_framing.specs.Reading.{IsFrameRead, total}
use Rattle.capnp_framing.specs.Wholeness.{KeepsWhole}
use Rattle.capnp_framing.specs.Writing.{IsUnwritten}
use Rattle.capnp_framing.specs.declared.devices.Input.{Ghosts as InputGhosts}
use Rattle.capnp_framing.specs.declared.devices.Output.{Ghosts as OutputGhosts}
use Rattle.capnp_framing.specs.declared.framing.frame_error.FrameError.TheVariants.{ReadFailed, Truncated}
use Rattle.capnp_messages.specs.Messages.{IsReadable}
use Rattle.capnp_messages.specs.declared.messages.command.Command.TheVariants.{Validate}
use Rattle.capnp_packing.specs.Packing.{IsWhole}
use Rattle.capnp_packing.specs.declared.packing.place.Place.TheVariants.{Tag}
use Rattle.capnp_show.specs.ShownParts.{HasShortLine}
use Rattle.capnp_show.specs.declared.show.compare.CompareFault.{CompareFault}
use Rattle.capnp_show.specs.declared.show.compare.CompareFault.TheVariants.{AllocationFailed as LacksMemory, TooLong as LineTooLong, WriteFailed as OutputFailed}
use Rattle.capnp_streams.specs.declared.streams.task.Job.{Job}
use Rattle.capnp_streams.specs.declared.streams.task.Job.TheVariants.{Answer}
use Rattle.capnp_streams.specs.Flat.{StopsFlat}
use Rattle.capnp_streams.specs.Packed.{unpacked_known_input}
use Rattle.capnp_streams.specs.Paths.{no_path}
use Rattle.capnp_streams.specs.Streams.{AreFrames, JobRefuses, StopsAt}
use Rattle.capnp_streams.specs.declared.streams.diffs.Compared.{Compared}
use Rattle.capnp_streams.specs.declared.streams.diffs.ComparedPair.{ComparedPair}
use Rattle.capnp_streams.specs.declared.streams.diffs.DiffStep.{DiffStep}
use Rattle.capnp_streams.specs.declared.streams.diffs.DiffStep.TheVariants.{Pair as Compares, Ended}
use Rattle.capnp_streams.specs.declared.streams.diffs.DiffFault.{DiffFault}
use Rattle.capnp_streams.specs.declared.streams.diffs.DiffFault.TheVariants.{Refused, TooLong, AllocationFailed, WriteFailed}
use Rattle.capnp_streams.specs.declared.streams.diffs.Side.{Side}
use Rattle.capnp_streams.specs.declared.streams.diffs.Side.TheVariants.{Left, Right}
use Rattle.capnp_streams.specs.declared.streams.input_form.InputForm.TheVariants.{Frames}
use Rattle.capnp_streams.specs.declared.streams.runs.Stop.{Stop}
use Rattle.capnp_streams.specs.declared.streams.stream_error.StreamError.{StreamError}
use Rattle.capnp_streams.specs.declared.streams.stream_error.StreamError.TheVariants.{Frame, Layout}

-- Each input is read as `validate` reads it: a message that isn't sound is refused.
abbrev pub validating : ReaderOptions → Job
validating limits = Answer (record {
  command = Validate;
  limits = limits;
  input_form = Frames;
  pack = false;
  hex = false;
  quiet = false;
  lists = false;
  path = no_path;
})

-- Two messages that are compared.
pub record Pair : Type 0 where
  pub left : Segments
  pub right : Segments

-- The messages of the first input, and of the second one.
abbrev pub lefts : List Pair → List Segments
lefts pairs = map (λ pair. pair.left) pairs

abbrev pub rights : List Pair → List Segments
rights pairs = map (λ pair. pair.right) pairs

-- The messages of these segments.
abbrev pub pair_of : List (List ℕ) → List (List ℕ) → Pair
pair_of left right = record { left = message left; right = message right }

-- A message isn't sound: why, and at which pointer.
abbrev pub IsUnsound : ReaderOptions → Segments → StreamError → Type 0
IsUnsound limits S (Layout k p) = JobRefuses (validating limits) S k p
IsUnsound limits S _ = ⊥

-- Both messages are sound, and the answer says whether their values are equal. If they are, nothing
-- is written, and otherwise something.
pub record IsCompared (limits : ReaderOptions) (pair : Pair) (is_same : Bool) (text : List ℕ)
    : Type 0 where
  pub left : IsReadable pair.left limits
  pub right : IsReadable pair.right limits
  pub same : AreWords pair.left → AreWords pair.right → (is_same ≡ true ↔ left.value ≡ right.value)
  pub none : is_same ≡ true → text ≡ []
  pub some : is_same ≡ false → 0 < length text
  pub short : length text ≤ 67108864

-- These pairs are compared, with these texts one after the other. The answer is yes if each is.
abbrev pub AreCompared : ReaderOptions → List Pair → Bool → List ℕ → Type 0
AreCompared limits [] is_same text = (is_same ≡ true) × (text ≡ [])
AreCompared limits (pair ∷ more) is_same text =
    (here : Bool) × (there : Bool) × (first : List ℕ) × (rest : List ℕ)
    × IsCompared limits pair here first × AreCompared limits more there rest
    × (is_same ≡ here && there) × (text ≡ first ++ rest)

-- One of the lines of two sound messages is too long to be compared.
pub record AreTooLong (limits : ReaderOptions) (pair : Pair) : Type 0 where
  pub left : IsReadable pair.left limits
  pub right : IsReadable pair.right limits
  pub long : HasShortLine left.value → HasShortLine right.value → ⊥

-- Two messages, and their number in their inputs.
pub record NumberedPair : Type 0 where
  pub number : ℕ
  pub pair : Pair

-- The fault of a run if two messages aren't compared.
abbrev pub diff_fault : ℕ → CompareFault → DiffFault
diff_fault number LacksMemory = AllocationFailed
diff_fault number LineTooLong = TooLong number
diff_fault number OutputFailed = WriteFailed

module _ {W : Type 0} (h : OutputGhosts W) where
  -- Why two sound messages aren't compared: memory ran out, or they are too long, and nothing is
  -- written; or the output has failed.
  abbrev pub WhyUncompared : ReaderOptions → NumberedPair → W → W → DiffFault → Type 0
  WhyUncompared limits these from to AllocationFailed = IsUnwritten h from to
  WhyUncompared limits these from to (TooLong n) =
      (n ≡ these.number) × AreTooLong limits these.pair × IsUnwritten h from to
  WhyUncompared limits these from to WriteFailed = h.has_failed to ≡ true
  WhyUncompared limits these from to (Refused side stop) = ⊥

-- What is left of two inputs, and what an output holds, if these are known.
pub record DiffStage : Type 0 where
  pub left : Option (List ℕ)
  pub right : Option (List ℕ)
  pub output : Option (List ℕ)

module _ {L R W : Type 0} (f : InputGhosts L) (g : InputGhosts R) (h : OutputGhosts W) where
  abbrev pub diff_stage : L → R → W → DiffStage
  diff_stage left right output =
      record { left = f.remaining left; right = g.remaining right; output = h.contents output }

  -- None of the devices has failed.
  abbrev pub AreAllWorking : L → R → W → Type 0
  AreAllWorking left right output =
      (f.has_failed left ≡ false) × (g.has_failed right ≡ false) × (h.has_failed output ≡ false)

module _ {R : Type 0} (g : InputGhosts R) where
  -- The next message of an input was read, S, which is sound; or the input is at its end.
  pub record IsNextRead (limits : ReaderOptions) (from to : R) (has : Bool) (S : Segments)
      : Type 0 where
    pub read : has ≡ true → IsFrameRead g from to S
    pub short : has ≡ true → total S ≤ most_words limits
    pub sound : has ≡ true → IsReadable S limits
    pub end : has ≡ false → IsAtEnd (g.remaining from) × IsAtEnd (g.remaining to)

-- From old to new the frames of `counts.messages` messages were read from the front of each input,
-- with these numbers of bytes, at most what 64 bits count. Each message was compared with the one
-- of the same number, in order, and the texts were written after what the output had.
-- `counts.is_same` says whether the values of each two are equal; `counts.longer` isn't looked at.
pub record ArePairsDone (limits : ReaderOptions) (old new : DiffStage) (counts : Compared)
    : Type 0 where
  pub pairs : List Pair
  pub left_bytes : List ℕ
  pub right_bytes : List ℕ
  pub text : List ℕ
  pub many : length pairs ≡ counts.messages
  pub left_sized : counts.left_bytes ≡ min (length left_bytes) (2 ^ 64 - 1)
  pub right_sized : counts.right_bytes ≡ min (length right_bytes) (2 ^ 64 - 1)
  pub left_framed : AreFrames (most_words limits) (lefts pairs) left_bytes
  pub right_framed : AreFrames (most_words limits) (rights pairs) right_bytes
  pub left_read : Consumes old.left new.left left_bytes
  pub right_read : Consumes old.right new.right right_bytes
  pub compared : AreCompared limits pairs counts.is_same text
  pub written : Appends old.output new.output text

-- The line that says that only one input has message n.
unfoldable pub message_text : ℕ → List ℕ
message_text n = codes "message " ++ decimal n

abbrev pub side_text : Side → List ℕ
side_text Left = codes ": only in the first file\n"
side_text Right = codes ": only in the second file\n"

abbrev pub unmatched_line : ℕ → Side → List ℕ
unmatched_line n side = message_text n ++ side_text side

-- The bytes begin with the frame of a sound message, if they are known.
abbrev pub HasNext : ReaderOptions → Option (List ℕ) → Type 0
HasNext limits known =
    (S : Segments) × IsReadable S limits
    × IfSome known (λ bytes. BeginsWithFrame bytes (most_words limits) S)

-- After all pairs both inputs are at their end; or one is, and the other one has more messages.
abbrev pub EndsInputs : ReaderOptions → DiffStage → Option Side → Type 0
EndsInputs limits behind None = IsAtEnd behind.left × IsAtEnd behind.right
EndsInputs limits behind (Some Left) = HasNext limits behind.left × IsAtEnd behind.right
EndsInputs limits behind (Some Right) = IsAtEnd behind.left × HasNext limits behind.right

-- What is written in the end, if the input with more messages has message n.
abbrev pub end_line : Option Side → ℕ → List ℕ
end_line None n = []
end_line (Some side) n = unmatched_line n side

-- All messages that both inputs have were compared. If one input has more, a line says so.
pub record AreAllCompared (limits : ReaderOptions) (old : DiffStage) (output : Option (List ℕ))
    (compared : Compared) : Type 0 where
  pub behind : DiffStage
  pub is_same : Bool
  pub done : ArePairsDone limits old behind (record compared { is_same = is_same })
  pub ends : EndsInputs limits behind compared.longer
  pub written : Appends behind.output output (end_line compared.longer (compared.messages + 1))
  pub same : compared.is_same ≡ is_same && is_none compared.longer

-- The numbers before the first pair, and after one more pair.
abbrev pub no_pairs : Compared
no_pairs = record { is_same = true; messages = 0; longer = None; left_bytes = 0; right_bytes = 0 }

abbrev pub one_pair : ComparedPair → Compared
one_pair pair = record {
  is_same = pair.is_same;
  messages = 1;
  longer = None;
  left_bytes = pair.left_bytes;
  right_bytes = pair.right_bytes;
}

abbrev pub with_pair : Compared → ComparedPair → Compared
with_pair counts pair = record {
  is_same = counts.is_same && pair.is_same;
  messages = counts.messages + 1;
  longer = None;
  left_bytes = min (counts.left_bytes + pair.left_bytes) (2 ^ 64 - 1);
  right_bytes = min (counts.right_bytes + pair.right_bytes) (2 ^ 64 - 1);
}

-- The next two messages were compared; or an input has none.
abbrev pub IsDiffStep : ReaderOptions → DiffStage → DiffStage → DiffStep → Type 0
IsDiffStep limits old new (Compares pair) = ArePairsDone limits old new (one_pair pair)
IsDiffStep limits old new (Ended longer) =
    EndsInputs limits old longer × Keeps old.output new.output

-- The inputs that aren't longer were read to their end.
abbrev pub EndsRead : Option Side → Option (List ℕ) → Option (List ℕ) → Type 0
EndsRead None left right = IsAtEnd left × IsAtEnd right
EndsRead (Some Left) left right = IsAtEnd right
EndsRead (Some Right) left right = IsAtEnd left

abbrev pub EndsStep : DiffStep → Option (List ℕ) → Option (List ℕ) → Type 0
EndsStep (Compares pair) left right = ⊤
EndsStep (Ended longer) left right = EndsRead longer left right

-- The devices after a run that stopped.
pub record DiffDevices : Type 0 where
  pub stage : DiffStage
  pub left_failed : Bool
  pub right_failed : Bool
  pub output_failed : Bool

module _ {L R W : Type 0} (f : InputGhosts L) (g : InputGhosts R) (h : OutputGhosts W) where
  abbrev pub diff_devices : L → R → W → DiffDevices
  diff_devices left right output = record {
    stage = diff_stage f g h left right output;
    left_failed = f.has_failed left;
    right_failed = g.has_failed right;
    output_failed = h.has_failed output;
  }

-- The refusal of the next message of an input, after these.
abbrev pub side_bytes : Compared → Side → ℕ
side_bytes counts Left = counts.left_bytes
side_bytes counts Right = counts.right_bytes

abbrev pub side_refusal : Compared → Side → StreamError → DiffFault
side_refusal counts side fault =
    Refused side
    (record { answered = counts.messages; byte = side_bytes counts side; fault = fault })

-- The next message of an input is refused, after this number of messages and bytes.
abbrev pub IsStopAfter : ℕ → ℕ → Stop → Type 0
IsStopAfter messages bytes stop = (stop.answered ≡ messages) × (stop.byte ≡ bytes)

-- Why the next two messages aren't compared, and that nothing is written of them: the next message
-- of an input is refused, as `validate` refuses it; they are too long; memory ran out; or as many
-- were compared as 64 bits count. Or the output has failed.
abbrev pub StopsDiff : ReaderOptions → DiffStage → DiffDevices → Compared → DiffFault → Type 0
StopsDiff limits old new counts (Refused Left stop) =
    IsStopAfter counts.messages counts.left_bytes stop × Keeps old.output new.stage.output
    × StopsAt (validating limits) old.left new.stage.left new.left_failed stop.fault
StopsDiff limits old new counts (Refused Right stop) =
    IsStopAfter counts.messages counts.right_bytes stop × Keeps old.output new.stage.output
    × StopsAt (validating limits) old.right new.stage.right new.right_failed stop.fault
StopsDiff limits old new counts (TooLong n) =
    (n ≡ counts.messages + 1) × Keeps old.output new.stage.output
    × (((pair : Pair) × AreTooLong limits pair
    × IfSome old.left (λ bytes. BeginsWithFrame bytes (most_words limits) pair.left)
    × IfSome old.right (λ bytes. BeginsWithFrame bytes (most_words limits) pair.right))
    ⊎ (n ≡ 2 ^ 64 - 1))
StopsDiff limits old new counts AllocationFailed = Keeps old.output new.stage.output
StopsDiff limits old new counts WriteFailed = new.output_failed ≡ true

-- A run has compared these pairs before it stopped, and so it stopped.
pub record IsDiffStopped (limits : ReaderOptions) (old : DiffStage) (new : DiffDevices)
    (fault : DiffFault) : Type 0 where
  pub behind : DiffStage
  pub counts : Compared
  pub done : ArePairsDone limits old behind counts
  pub stops : StopsDiff limits behind new counts fault

-- ---- packed inputs

-- The bytes that packed inputs unpack to.
abbrev pub unpacked_stages : DiffStage → DiffStage
unpacked_stages stage = record stage {
  left = unpacked_known_input stage.left;
  right = unpacked_known_input stage.right;
}

-- The inputs that aren't longer are whole, if their bytes are known. (Of one that is longer, what
-- comes after the next message isn't read.)
abbrev pub AreWholeUnless : Option Side → Option (List ℕ) → Option (List ℕ) → Type 0
AreWholeUnless None left right = IfSome left (IsWhole Tag) × IfSome right (IsWhole Tag)
AreWholeUnless (Some Left) left right = IfSome right (IsWhole Tag)
AreWholeUnless (Some Right) left right = IfSome left (IsWhole Tag)

-- All messages were compared that both of two packed inputs unpack to.
pub record IsPackedCompared (limits : ReaderOptions) (packed : DiffStage) (output : Option (List ℕ))
    (is_same : Bool) : Type 0 where
  pub compared : Compared
  pub done : AreAllCompared limits (unpacked_stages packed) output compared
  pub same : is_same ≡ compared.is_same
  pub whole : AreWholeUnless compared.longer packed.left packed.right

module _ {D : Type 0} (g : InputGhosts D) where
  -- A device of this type has failed.
  abbrev pub SomeFailed : Type 0
  SomeFailed = (device : D) × (g.has_failed device ≡ true)

  -- Packed bytes are cut short after the last message; or reading them failed.
  abbrev pub IsCutOrFailed : D → StreamError → Type 0
  IsCutOrFailed packed fault =
      ((fault ≡ Frame Truncated) × IfSome (g.remaining packed) (λ bytes. IsWhole Tag bytes → ⊥))
      ⊎ ((fault ≡ Frame ReadFailed) × SomeFailed)

  -- The same, by what is known of the end of the input.
  abbrev pub EndsNotWhole : Option Bool → StreamError → Type 0
  EndsNotWhole whole fault =
      ((fault ≡ Frame Truncated) × KeepsWhole whole (Some false))
      ⊎ ((fault ≡ Frame ReadFailed) × SomeFailed)

-- It is known of no input that isn't longer that it isn't whole.
abbrev pub KeepWholeUnless : Option Side → Option Bool → Option Bool → Type 0
KeepWholeUnless None left right = KeepsWhole left (Some true) × KeepsWhole right (Some true)
KeepWholeUnless (Some Left) left right = KeepsWhole right (Some true)
KeepWholeUnless (Some Right) left right = KeepsWhole left (Some true)

module _ {L R : Type 0} (f : InputGhosts L) (g : InputGhosts R) where
  -- An input that isn't longer isn't whole, by what is known of its end.
  abbrev pub IsNotWhole : Compared → Option Bool → Option Bool → DiffFault → Type 0
  IsNotWhole compared left right (Refused Left stop) =
      (compared.longer ≢ Some Left) × IsStopAfter compared.messages compared.left_bytes stop
      × EndsNotWhole f left stop.fault
  IsNotWhole compared left right (Refused Right stop) =
      (compared.longer ≢ Some Right) × IsStopAfter compared.messages compared.right_bytes stop
      × EndsNotWhole g right stop.fault
  IsNotWhole compared left right _ = ⊥

  -- The next message of a packed input is refused, or the run has stopped otherwise.
  pub record IsPackedStopped (limits : ReaderOptions) (packed : DiffStage)
      (output : Option (List ℕ)) (failed : Bool) (fault : DiffFault) : Type 0 where
    pub devices : DiffDevices
    pub stopped : IsDiffStopped limits (unpacked_stages packed) devices fault
    pub kept : devices.stage.output ≡ output
    pub output_failed : devices.output_failed ≡ failed
    pub left : devices.left_failed ≡ true → SomeFailed f
    pub right : devices.right_failed ≡ true → SomeFailed g

  -- An input that isn't longer is cut short after its last message, or reading it failed.
  abbrev pub IsDiffCut : L → R → Compared → DiffFault → Type 0
  IsDiffCut left right compared (Refused Left stop) =
      (compared.longer ≢ Some Left) × IsStopAfter compared.messages compared.left_bytes stop
      × IsCutOrFailed f left stop.fault
  IsDiffCut left right compared (Refused Right stop) =
      (compared.longer ≢ Some Right) × IsStopAfter compared.messages compared.right_bytes stop
      × IsCutOrFailed g right stop.fault
  IsDiffCut left right compared _ = ⊥

-- ---- raw words

-- From old to new everything in both inputs was read: the raw words of two messages, which were
-- compared. The text was written after what the output had.
pub record AreFlatCompared (limits : ReaderOptions) (old new : DiffStage) (is_same : Bool)
    : Type 0 where
  pub left : List ℕ
  pub right : List ℕ
  pub text : List ℕ
  pub left_bare : AreBareWords left (most_words limits)
  pub right_bare : AreBareWords right (most_words limits)
  pub left_read : Consumes old.left new.left left
  pub right_read : Consumes old.right new.right right
  pub left_ended : IsAtEnd new.left
  pub right_ended : IsAtEnd new.right
  pub compared :
      IsCompared limits (record { left = message (left ∷ []); right = message (right ∷ []) })
      is_same text
  pub written : Appends old.output new.output text

-- Why two messages whose raw words two inputs hold aren't compared.
abbrev pub StopsFlatDiff : ReaderOptions → DiffStage → DiffDevices → DiffFault → Type 0
StopsFlatDiff limits old new (Refused Left stop) =
    IsStopAfter 0 0 stop × Keeps old.output new.stage.output
    × StopsFlat (validating limits) old.left new.left_failed stop.fault
StopsFlatDiff limits old new (Refused Right stop) =
    IsStopAfter 0 0 stop × Keeps old.output new.stage.output
    × StopsFlat (validating limits) old.right new.right_failed stop.fault
StopsFlatDiff limits old new (TooLong n) =
    (n ≡ 1) × Keeps old.output new.stage.output
    × ((left : List ℕ) × (right : List ℕ)
    × IfSome old.left (λ all. all ≡ left) × IfSome old.right (λ all. all ≡ right)
    × AreTooLong limits (record { left = message (left ∷ []); right = message (right ∷ []) }))
StopsFlatDiff limits old new AllocationFailed = Keeps old.output new.stage.output
StopsFlatDiff limits old new WriteFailed = new.output_failed ≡ true
