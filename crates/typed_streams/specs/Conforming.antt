-- Which messages of a stream were tested against the table of a schema, and why no more were.
use Rattle.std.specs.Prelude.{◌≡◌, ◌⊎◌, ℕ, ◌+◌, ◌-◌, ◌^◌, ◌≤◌, min, List, [], ◌∷◌, ◌++◌, All, length, codes}
use Rattle.std.specs.Prelude.{Bool, true, Option, IfSome, Result, Ok, Err, ⊤}
use Rattle.std.specs.Io.KnownBytes.{Appends, Consumes, IsAtEnd, Keeps}
use Rattle.capnp_format.specs.Bytes.{message}
use Rattle.capnp_format.specs.Means.{Means}
use Rattle.capnp_format.specs.Segments.{Segments}
use Rattle.capnp_format.specs.Tree.{Tree}
use Rattle.capnp_words.specs.Meter.{FitsIn, Meter, unused}
use Rattle.capnp_words.specs.declared.error.ErrorKind.{ErrorKind}
use Rattle.capnp_arena.specs.declared.arena.reader_arena_impl.ReaderOptions.{ReaderOptions}
use Rattle.capnp_framing.specs.Bare.{AreBareWords, NoBareWords}
use Rattle.capnp_framing.specs.Frames.{IsFrameOf}
use Rattle.capnp_framing.specs.Limits.{most_words}
use Rattle.capnp_framing.specs.Memory.{frame_refusals}
use Rattle.capnp_framing.specs.Reading.{NoFrame, total}
use Rattle.capnp_framing.specs.declared.devices.Output.{Ghosts as OutputGhosts}
use Rattle.capnp_framing.specs.declared.framing.frame_error.FrameError.TheVariants.{AllocationFailed as NoMemory}
use Rattle.capnp_framing.specs.declared.framing.frame_error.FrameError.TheVariants.{ReadFailed, Truncated, WriteFailed}
use Rattle.capnp_pointers.specs.Reading.{Reading, unset}
use Rattle.capnp_pointers.specs.Source.{levels}
use Rattle.capnp_messages.specs.Messages.{root_within}
use Rattle.capnp_messages.specs.Roots.{CoversRoot, RefusesRoot, read_message_root}
use Rattle.capnp_packing.specs.Packing.{IsWhole}
use Rattle.capnp_packing.specs.declared.packing.place.Place.TheVariants.{Tag}
use Rattle.capnp_streams.specs.Streams.{AreFrames, Stage}
use Rattle.typed_conforming.specs.Blame.{IsTrueFrom, first_visit}
use Rattle.typed_conforming.specs.Conforms.{Conforms}
use Rattle.typed_conforming.specs.Walk.{TestOutcome, check_place, misfit_at, rowless_pointer}
use Rattle.typed_conforming.specs.declared.schema.Kind.TheVariants.{Struct}
use Rattle.typed_conforming.specs.declared.schema.Misfit.{Misfit as FirstMisfit}
use Rattle.typed_streams.specs.declared.conforming.ConformingFault.{ConformingFault}
use Rattle.typed_streams.specs.declared.conforming.ConformingFault.TheVariants.{Frame, Misfit, TooManyMessages}
use Rattle.typed_streams.specs.declared.conforming.ConformingStop.{ConformingStop}

-- What each message has to be: a table, the row of it to which the root has to conform, and the
-- limits.
pub record Wanted : Type 0 where
  pub table : List ℕ
  pub row : ℕ
  pub limits : ReaderOptions

-- The root of S means a value within the limits, and this value conforms to the row of the table.
pub record IsConforming (w : Wanted) (S : Segments) : Type 0 where
  pub root : CoversRoot S w.limits.traversal_limit_in_words
  pub value : Tree
  pub cost : ℕ
  pub conforms : Conforms w.table (Struct w.row) value
  pub means : Means S (levels w.limits.nesting_limit) 0 0 value cost
  pub covered : FitsIn w.limits.traversal_limit_in_words (1 + cost)

-- The walk through S, once its root pointer was read, or refused: then at word 0.
abbrev pub walk_from : Wanted → Result Reading ErrorKind × Meter → TestOutcome
walk_from w (Ok r, m) = check_place w.table (rowless_pointer (Struct w.row)) r m
walk_from w (Err e, m) =
    (Err (misfit_at (rowless_pointer (Struct w.row)) unset e), m)

-- The walk through S from its root pointer on, within the limits.
abbrev pub walk_through : Wanted → Segments → TestOutcome
walk_through w S =
    walk_from w (read_message_root S (levels w.limits.nesting_limit)
    (unused w.limits.traversal_limit_in_words))

-- The misfit x is the first one of the walk through S. It is that of the root pointer, which is
-- refused; or of a pointer to which the walk comes from there, and it is true of this pointer.
pub record IsMisfitOf (w : Wanted) (S : Segments) (x : FirstMisfit) : Type 0 where
  pub left : Meter
  pub first : walk_through w S ≡ (Err x, left)
  pub is_true :
      RefusesRoot S w.limits.traversal_limit_in_words x.error
      ⊎ IsTrueFrom (first_visit w.table (Struct w.row) (root_within S w.limits)) left x

-- The line about a message that conforms, and those about many.
unfoldable pub yes_line : List ℕ
yes_line = codes "conforms" ++ 10 ∷ []

abbrev pub yes_lines : List Segments → List ℕ
yes_lines [] = []
yes_lines (S ∷ more) = yes_line ++ yes_lines more

-- From old to new the frames of `count` messages were read from the front of the input; `size` is
-- their number of bytes, at most what 64 bits count. Each of the messages conforms, and a line that
-- says so was written after what the output had.
pub record AreTested (w : Wanted) (old new : Stage) (count size : ℕ) : Type 0 where
  pub messages : List Segments
  pub bytes : List ℕ
  pub many : length messages ≡ count
  pub sized : size ≡ min (length bytes) (2 ^ 64 - 1)
  pub framed : AreFrames (most_words w.limits) messages bytes
  pub consumed : Consumes old.input new.input bytes
  pub conform : All (IsConforming w) messages
  pub written : Appends old.output new.output (yes_lines messages)

-- How often memory was refused after a fault, if it was n times before: one more if there was none
-- for the message that is read, otherwise n.
abbrev pub refusals_of_test : ConformingFault → ℕ → ℕ
refusals_of_test (Frame e) n = frame_refusals e n
refusals_of_test (Misfit m) n = n
refusals_of_test TooManyMessages n = n

-- Why the message at the front of the remaining input isn't said to conform. Either there is no
-- frame, or memory runs out, or the input fails; or its frame is read, and nothing behind it, and
-- the message doesn't conform, for the reason that is told.
abbrev pub StopsTest : Wanted → Option (List ℕ) → Option (List ℕ) → Bool → ConformingFault → Type 0
StopsTest w old new failed (Frame e) =
    (e ≡ NoMemory) ⊎ ((e ≡ ReadFailed) × (failed ≡ true))
    ⊎ IfSome old (λ bytes. NoFrame bytes (most_words w.limits) e)
StopsTest w old new failed (Misfit m) =
    (S : Segments) × (bytes : List ℕ) × IsFrameOf S bytes × (total S ≤ most_words w.limits)
    × Consumes old new bytes × (IsConforming w S → ⊥) × IsMisfitOf w S m
StopsTest w old new failed TooManyMessages = ⊥

-- Why no message is tested after a stage, and nothing more is written.
abbrev pub EndsTest : Wanted → Stage → Stage → Bool → ConformingStop → Type 0
EndsTest w old new failed stop =
    Keeps old.output new.output
    × (StopsTest w old.input new.input failed stop.fault
    ⊎ ((stop.fault ≡ TooManyMessages) × (stop.tested ≡ 2 ^ 64 - 1)))

-- The bytes are frames of messages that conform.
abbrev pub AreConforming : Wanted → List ℕ → Type 0
AreConforming w bytes =
    (messages : List Segments) × AreFrames (most_words w.limits) messages bytes
    × All (IsConforming w) messages

-- A fault of no message: memory or a device fails, or there are too many messages to count.
abbrev pub IsNoMisfit : ConformingFault → Type 0
IsNoMisfit (Frame e) = (e ≡ NoMemory) ⊎ (e ≡ ReadFailed) ⊎ (e ≡ WriteFailed)
IsNoMisfit (Misfit m) = ⊥
IsNoMisfit TooManyMessages = ⊤

-- After all messages of a packed input it is cut short, within a word or before a number, where no
-- frame has begun; nothing more is written.
abbrev pub CutsTest : Option (List ℕ) → Stage → Option (List ℕ) → ConformingFault → Type 0
CutsTest packed old output fault =
    (fault ≡ Frame Truncated) × IfSome packed (λ bytes. IsWhole Tag bytes → ⊥)
    × IsAtEnd old.input × Keeps old.output output

module _ {W : Type 0} (g : OutputGhosts W) where
  -- The fault is that of an output that has failed.
  abbrev pub FailsToWrite : W → ConformingFault → Type 0
  FailsToWrite output fault = (fault ≡ Frame WriteFailed) × (g.has_failed output ≡ true)

-- From old to new everything in the input was read: raw words, at most as many as the traversal
-- limit. The message that they mean conforms, and a line that says so was written.
pub record AreRawWordsTested (w : Wanted) (old new : Stage) : Type 0 where
  pub bytes : List ℕ
  pub bare : AreBareWords bytes (most_words w.limits)
  pub consumed : Consumes old.input new.input bytes
  pub conforms : IsConforming w (message (bytes ∷ []))
  pub written : Appends old.output new.output yes_line

-- Why the message whose raw words the input has isn't said to conform: they are cut short or too
-- many, the message doesn't conform, for the reason that is told, or memory or the input fails.
abbrev pub StopsRawTest : Wanted → Option (List ℕ) → Bool → ConformingFault → Type 0
StopsRawTest w input failed (Frame e) =
    (e ≡ NoMemory) ⊎ ((e ≡ ReadFailed) × (failed ≡ true))
    ⊎ IfSome input (λ bytes. NoBareWords bytes (most_words w.limits) e)
StopsRawTest w input failed (Misfit m) =
    (bytes : List ℕ) × IfSome input (λ all. all ≡ bytes) × AreBareWords bytes (most_words w.limits)
    × (IsConforming w (message (bytes ∷ [])) → ⊥) × IsMisfitOf w (message (bytes ∷ [])) m
StopsRawTest w input failed TooManyMessages = ⊥

-- The bytes are raw words of a message that conforms.
abbrev pub AreConformingWords : Wanted → List ℕ → Type 0
AreConformingWords w bytes =
    AreBareWords bytes (most_words w.limits) × IsConforming w (message (bytes ∷ []))
