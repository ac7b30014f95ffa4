-- The bytes with which each command answers the lines of its input, and why it refuses them. A line
-- is a segment, or holds a frame.
use Rattle.std.specs.Prelude.{◌≡◌, ◌⊎◌, ◌↔◌, ℕ, ◌-◌, ◌^◌, ◌≤◌, List, [], ◌∷◌, ◌++◌, Bool, true}
use Rattle.std.specs.Prelude.{false, IsTrue, codes, length, ⊤}
use Rattle.std.specs.Bool.{OnTrue}
use Rattle.hex.specs.Hex.{encode_lower}
use Rattle.capnp_words.specs.declared.error.ErrorKind.{ErrorKind}
use Rattle.capnp_words.specs.declared.error.ErrorKind.TheVariants.{MessageTooLarge}
use Rattle.capnp_format.specs.Segments.{Segments}
use Rattle.capnp_format.specs.Bytes.{message}
use Rattle.capnp_format.specs.Tree.{Tree}
use Rattle.capnp_format.specs.Canonical.{encoding, trim}
use Rattle.capnp_arena_traits.specs.Limits.{IsSmall}
use Rattle.capnp_arena.specs.declared.arena.reader_arena_impl.ReaderOptions.{ReaderOptions}
use Rattle.capnp_framing.specs.Flat.{BeginsWithFrame}
use Rattle.capnp_framing.specs.Frames.{frame, max_frame_segments}
use Rattle.capnp_framing.specs.Reading.{IsRefusedNumber, NoFrame}
use Rattle.capnp_framing.specs.declared.devices.Output.{Ghosts}
use Rattle.capnp_framing.specs.declared.framing.frame_error.FrameError.{FrameError}
use Rattle.capnp_layout.specs.declared.tool.args.Args.{Args}
use Rattle.capnp_layout.specs.declared.tool.args.Args.TheVariants.{Canon, Check, Size, Frame}
use Rattle.capnp_layout.specs.declared.tool.args.Args.TheVariants.{Unframe, FramedCanon}
use Rattle.capnp_layout.specs.declared.tool.args.Args.TheVariants.{FramedCheck}
use Rattle.capnp_layout.specs.declared.tool.refusal.Refusal.{Refusal}
use Rattle.capnp_layout.specs.declared.tool.refusal.Refusal.TheVariants.{Layout}
use Rattle.capnp_layout.specs.declared.tool.refusal.Refusal.TheVariants.{Frame as NoFrameFor}
use Rattle.capnp_layout.specs.declared.tool.refusal.Refusal.TheVariants.{NoMessage}
use Rattle.capnp_messages.specs.declared.messages.command.Form.{Form}
use Rattle.capnp_messages.specs.declared.messages.command.Form.TheVariants.{Flat, Framed}
use Rattle.capnp_messages.specs.Messages.{HasCanonicalCopy, HasSizeOf, HasSizeWithin, IsCanonicalWithin, IsReadable}
use Rattle.capnp_messages.specs.Messages.{IsValueOf, RefusesCheck}
use Rattle.capnp_layout.specs.Answers.{CheckOf, RefusesMessage}
use Rattle.capnp_messages.specs.Text.{check_line, size_line}
use Rattle.capnp_layout.specs.Answers.{digits_of}
use Rattle.capnp_messages.specs.CanonicalMessages.{IsCanonicalMessage}

-- The line of a message's frame.
abbrev pub frame_line : Segments → List ℕ
frame_line S = encode_lower (frame S) ++ 10 ∷ []

-- One line for each segment of a message.
abbrev pub segment_lines : Segments → List ℕ
segment_lines [] = []
segment_lines (ws ∷ S) = (digits_of ws ++ 10 ∷ []) ++ segment_lines S

-- The command that writes canonical words in a form.
abbrev pub canonical_args : Form → ReaderOptions → Args
canonical_args Flat options = Canon options
canonical_args Framed options = FramedCanon options

-- The line of canonical words, written in a form.
abbrev pub form_line : Form → List ℕ → List ℕ
form_line Flat words = digits_of words ++ 10 ∷ []
form_line Framed words = frame_line (words ∷ [])

-- The segments can be written: they are within the limits of a reader, and the output hasn't
-- failed.
abbrev pub AreWritable : {W : Type 0} → Ghosts W → W → List (List ℕ) → Type 0
AreWritable g output segments = (g.has_failed output ≡ false) × IsSmall segments

-- The line that answers whether a message is canonical as a whole.
abbrev pub message_line : Bool → List ℕ
message_line true = codes "canonical message" ++ 10 ∷ []
message_line false = codes "not a canonical message" ++ 10 ∷ []

-- The greatest number of words of a message whose frame is read.
abbrev pub max_frame_words : ℕ
max_frame_words = 8388608

-- The only line begins with the frame of S, which isn't too long. Bytes after it are ignored.
pub record HoldsFrame (lines : List (List ℕ)) (S : Segments) : Type 0 where
  pub line : List ℕ
  pub only : lines ≡ line ∷ []
  pub begins : BeginsWithFrame line max_frame_words S

-- The only line holds the frame of a message, and b is whether that is canonical as a whole. If it is, its
-- value is within the limits of a reader's options.
abbrev pub TellsCanonical : List (List ℕ) → ReaderOptions → Bool → Type 0
TellsCanonical lines options b =
    (S : Segments) × HoldsFrame lines S × (IsTrue b ↔ IsCanonicalMessage S)
    × OnTrue b (IsCanonicalWithin S options)

-- A command that takes at most one line gets more.
abbrev pub HasMoreLines : Args → List (List ℕ) → Type 0
HasMoreLines Unframe lines = 2 ≤ length lines
HasMoreLines (FramedCheck options) lines = 2 ≤ length lines
HasMoreLines _ lines = ⊥

-- If a command takes lines as segments, these are within the limits of a reader.
abbrev pub IsWithin : Args → List (List ℕ) → Type 0
IsWithin Unframe lines = ⊤
IsWithin (FramedCheck options) lines = ⊤
IsWithin _ lines = IsSmall lines

-- What a command answers to lines.
abbrev pub IsAnswer : List (List ℕ) → Args → List ℕ → Type 0
IsAnswer lines (Canon options) answer =
    (t : Tree) × IsValueOf (message lines) options t
    × (answer ≡ digits_of (encoding (trim t)) ++ 10 ∷ [])
IsAnswer lines (Check options) answer =
    (yes : Bool) × CheckOf (message lines) options yes × (answer ≡ check_line yes)
IsAnswer lines (Size options) answer =
    (words : ℕ) × (caps : ℕ) × HasSizeOf (message lines) options words caps
    × (answer ≡ size_line words caps)
IsAnswer lines Frame answer =
    (1 ≤ length lines) × (length lines ≤ max_frame_segments) × (answer ≡ frame_line (message lines))
IsAnswer lines Unframe answer = (S : Segments) × HoldsFrame lines S × (answer ≡ segment_lines S)
IsAnswer lines (FramedCanon options) answer =
    (t : Tree) × IsValueOf (message lines) options t × (answer ≡ frame_line (encoding (trim t) ∷ []))
IsAnswer lines (FramedCheck options) answer =
    (yes : Bool) × TellsCanonical lines options yes × (answer ≡ message_line yes)

-- A command has an answer to lines if this holds. `Canon`, `FramedCanon`: there is a canonical
-- copy. `Check`: there are canonical words. `Size`: there is a size. `Frame`: there are as many
-- segments as a frame can hold. `Unframe`: there is a frame. `FramedCheck`: there is a frame, and
-- if its message has one segment, it means a value within the limits.
abbrev pub HasAnswer : List (List ℕ) → Args → Type 0
HasAnswer lines (Canon options) =
    HasCanonicalCopy (message lines) options
HasAnswer lines (Check options) = CheckOf (message lines) options true
HasAnswer lines (Size options) = HasSizeWithin (message lines) options
HasAnswer lines Frame = (1 ≤ length lines) × (length lines ≤ max_frame_segments)
HasAnswer lines Unframe = (S : Segments) × HoldsFrame lines S
HasAnswer lines (FramedCanon options) =
    HasCanonicalCopy (message lines) options
HasAnswer lines (FramedCheck options) =
    (S : Segments) × HoldsFrame lines S × (length S ≡ 1 → IsReadable S options)

-- Segments have no frame: one is too large or there are too many for a reader, or there is none or
-- too many for a frame.
pub data RefusesToFrame (lines : List (List ℕ)) (r : Refusal) : Type 0 where
  beyond_limits : r ≡ Layout (MessageTooLarge (2 ^ 64 - 1)) → (IsSmall lines → ⊥) →
      RefusesToFrame lines r
  wrong_number : (e : FrameError) → r ≡ NoFrameFor e → IsRefusedNumber (length lines) e →
      RefusesToFrame lines r

-- No frame is read: there is no line; it is empty; or it doesn't begin with a frame, for the first
-- reason that applies.
pub data RefusesFrame (lines : List (List ℕ)) (r : Refusal) : Type 0 where
  no_line : r ≡ NoMessage → lines ≡ [] → RefusesFrame lines r
  empty_line : r ≡ NoMessage → lines ≡ [] ∷ [] → RefusesFrame lines r
  no_frame : (line : List ℕ) (e : FrameError) → r ≡ NoFrameFor e → lines ≡ line ∷ [] →
      NoFrame line max_frame_words e → RefusesFrame lines r

-- Why a command refuses lines. `Frame`: they have no frame. `Unframe`: no frame is read.
-- `FramedCheck`: no frame is read, or its message has one segment and the test of that is refused.
-- Any other command: it refuses their message.
abbrev pub WhyRefused : List (List ℕ) → Args → Refusal → Type 0
WhyRefused lines Frame r = RefusesToFrame lines r
WhyRefused lines Unframe r = RefusesFrame lines r
WhyRefused lines (FramedCheck options) r =
    RefusesFrame lines r ⊎
    ((S : Segments) × HoldsFrame lines S × ((k : ErrorKind) × (r ≡ Layout k) × RefusesCheck S options k))
WhyRefused lines args r = (k : ErrorKind) × (r ≡ Layout k) × RefusesMessage lines args k
