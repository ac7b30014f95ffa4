-- What a call returns, and why it is refused.
use Rattle.std.specs.Prelude.{◌≡◌, ◌≢◌, ◌⊎◌, ℕ, ℤ, ◌-◌, ◌/◌, ◌%◌, ◌^◌, ◌<◌, ◌≤◌, List, [], ◌∷◌, All, Bool, true, false}
use Rattle.std.specs.Prelude.{length, map, take, drop, Option, Some, None, Result, Err, IfOk, OnErr}
use Rattle.std.specs.Borrow.{Bor}
use Rattle.capnp_words.specs.declared.error.ErrorKind.{ErrorKind}
use Rattle.capnp_words.specs.declared.error.ErrorKind.TheVariants.{MessageTooLarge}
use Rattle.capnp_format.specs.Bytes.{message}
use Rattle.capnp_format.specs.Canonical.{encoding, trim}
use Rattle.capnp_format.specs.Segments.{Segments}
use Rattle.capnp_format.specs.Tree.{Tree}
use Rattle.capnp_arena_traits.specs.Allocations.{max_segment_words}
use Rattle.capnp_arena_traits.specs.Limits.{AreSmall}
use Rattle.capnp_arena.specs.declared.arena.reader_arena_impl.ReaderOptions.{ReaderOptions}
use Rattle.capnp_framing.specs.Flat.{BeginsWithFrame}
use Rattle.capnp_framing.specs.Prefix.{size_from_prefix}
use Rattle.capnp_framing.specs.Reading.{NoFrame}
use Rattle.capnp_framing.specs.declared.framing.frame_error.FrameError.{FrameError}
use Rattle.capnp_framing.specs.declared.framing.frame_error.FrameError.TheVariants.{Truncated}
use Rattle.capnp_messages.specs.CanonicalMessages.{IsCanonicalMessage}
use Rattle.capnp_pointers.specs.declared.pointers.canonical_fault.CanonicalFault.{CanonicalFault}
use Rattle.capnp_messages.specs.Messages.{IsCanonicalWithin, IsFaultOf, IsValueOf}
use Rattle.capnp_messages.specs.Commands.{RefusesAnswer, form_bytes}
use Rattle.capnp_messages.specs.declared.messages.command.Command.{Command}
use Rattle.capnp_messages.specs.declared.messages.command.Command.TheVariants.{Canon}
use Rattle.capnp_messages.specs.declared.messages.command.Form.{Form}
use Rattle.capnp_messages.specs.declared.messages.command.Form.TheVariants.{Framed, Flat}
use Rattle.capnp_packing.specs.Packing.{IsWhole, unpacked_bytes}
use Rattle.capnp_packing.specs.declared.packing.place.Place.TheVariants.{Tag}
use Rattle.capnp_pointers.specs.Extents.{capped}
use Rattle.capnp_canonical.specs.Numbers.{reason_number, answer_number}
use Rattle.capnp_canonical.specs.PackedWords.{packed_words}
use Rattle.capnp_canonical.specs.declared.fault.Fault.{Fault}
use Rattle.capnp_canonical.specs.declared.refusal.Refusal.{Refusal}
use Rattle.capnp_canonical.specs.declared.refusal.Refusal.TheVariants.{NoRoom, NoMessage}
use Rattle.capnp_canonical.specs.declared.refusal.Refusal.TheVariants.{SegmentIsNotWholeWords}
use Rattle.capnp_canonical.specs.declared.refusal.Refusal.TheVariants.{Frame, Layout}

-- The limits of a reader's options.
abbrev pub limits_of : ℤ → ℕ → ReaderOptions
limits_of nesting words = record { nesting_limit = nesting; traversal_limit_in_words = Some words }

-- The bytes begin with the frame of a message that satisfies P.
abbrev pub InFrame : List ℕ → ℕ → (Segments → Type 0) → Type 0
InFrame bytes words P = (S : Segments) × BeginsWithFrame bytes words S × P S

-- The bytes of the segments that were passed.
abbrev pub lent_bytes : List (Bor (List ℕ)) → List (List ℕ)
lent_bytes segments = map (λ s. s.now) segments

-- Each segment is whole words.
abbrev pub AreWholeWords : List (Bor (List ℕ)) → Type 0
AreWholeWords segments = All (λ s. length s.now % 8 ≡ 0) segments

-- The segments that were passed are those of a message that satisfies P.
abbrev pub InSegments : List (Bor (List ℕ)) → (Segments → Type 0) → Type 0
InSegments segments P =
    AreWholeWords segments × AreSmall segments × P (message (lent_bytes segments))

-- The bytes don't begin with a frame: there are none, or for the first reason that applies.
abbrev pub RefusesBytes : List ℕ → ℕ → Refusal → Type 0
RefusesBytes bytes words r =
    ((r ≡ NoMessage) × (bytes ≡ [])) ⊎ ((e : FrameError) × (r ≡ Frame e) × NoFrame bytes words e)

-- The bytes tell that the frame at whose front they are has too many segments or words.
abbrev pub RefusesPrefix : List ℕ → ℕ → Refusal → Type 0
RefusesPrefix prefix words r =
    (e : FrameError) × (r ≡ Frame e) × (size_from_prefix prefix words ≡ Err e)

-- The segments aren't those of a message: one isn't whole words, or they are beyond the limits of a
-- reader.
abbrev pub RefusesSegments : List (Bor (List ℕ)) → Refusal → Type 0
RefusesSegments segments r =
    ((r ≡ SegmentIsNotWholeWords) × (AreWholeWords segments → ⊥))
    ⊎ ((r ≡ Layout (MessageTooLarge (2 ^ 64 - 1))) × (AreSmall segments → ⊥))

-- The bytes are the whole words of one segment, and at most as many as a reader takes.
abbrev pub IsOneSegment : List ℕ → Type 0
IsOneSegment bytes = (length bytes % 8 ≡ 0) × (length bytes / 8 < 2 ^ 32)

-- The bytes are the words of a message of one segment that satisfies P.
abbrev pub InWords : List ℕ → (Segments → Type 0) → Type 0
InWords bytes P = IsOneSegment bytes × P (message (bytes ∷ []))

-- The bytes aren't the words of a segment: they aren't whole words, or are beyond the limits of a
-- reader.
abbrev pub RefusesSegment : List ℕ → Refusal → Type 0
RefusesSegment bytes r =
    ((r ≡ SegmentIsNotWholeWords) × (length bytes % 8 ≡ 0 → ⊥))
    ⊎ ((r ≡ Layout (MessageTooLarge (2 ^ 64 - 1))) × (length bytes / 8 < 2 ^ 32 → ⊥))

-- The packed bytes aren't unpacked: they end within a word or before a number; or they are whole,
-- and unpack to more bytes than there is room for; or they unpack to more bytes than any buffer
-- can hold.
abbrev pub RefusesPacked : List ℕ → ℕ → Refusal → Type 0
RefusesPacked packed room r =
    let size = length (unpacked_bytes Tag packed) in
    ((r ≡ Frame Truncated) × (IsWhole Tag packed → ⊥))
    ⊎ ((r ≡ NoRoom size) × IsWhole Tag packed × (room < size))
    ⊎ ((r ≡ NoRoom (2 ^ 64 - 1)) × (2 ^ 64 ≤ size))

-- Bytes aren't packed: they aren't whole words; or they are packed to more bytes than there is room
-- for.
abbrev pub RefusesPacking : List ℕ → ℕ → Refusal → Type 0
RefusesPacking bytes room r =
    let size = length (packed_words bytes) in
    ((r ≡ SegmentIsNotWholeWords) × (length bytes % 8 ≢ 0))
    ⊎ ((r ≡ NoRoom (capped size)) × (length bytes % 8 ≡ 0) × (room < size))

-- The canonical bytes of a message, in this form: of at most as many words as a segment of a copy
-- can have.
abbrev pub IsCopyOf : Form → ReaderOptions → Segments → List ℕ → Type 0
IsCopyOf form limits S bytes =
    (t : Tree) × IsValueOf S limits t × (length (encoding (trim t)) ≤ max_segment_words)
    × (bytes ≡ form_bytes form (encoding (trim t)))

-- A command is refused for what the message means.
abbrev pub RefusesMeaning : Command → ReaderOptions → Segments → Refusal → Type 0
RefusesMeaning command limits S r =
    (k : ErrorKind) × (r ≡ Layout k) × RefusesAnswer command limits S k

-- A copy is refused for what the message means; or there is a copy, of more bytes than there is
-- room for.
abbrev pub RefusesRoom : Form → ReaderOptions → ℕ → Segments → Refusal → Type 0
RefusesRoom form limits room S r =
    RefusesMeaning (Canon form) limits S r ⊎
    ((bytes : List ℕ) × IsCopyOf form limits S bytes
    × (r ≡ NoRoom (length bytes)) × (room < length bytes))

-- A call writes bytes that satisfy P to the front of a buffer, and returns their number. What comes
-- after them stays; if the call is refused, the whole buffer does.
pub record Fills (result : Result ℕ Refusal) (old new : List ℕ) (P : List ℕ → Type 0) : Type 0 where
  pub front : IfOk result (λ n. P (take n new))
  pub within : IfOk result (λ n. n ≤ length new)
  pub behind : IfOk result (λ n. drop n new ≡ drop n old)
  pub kept : OnErr result (new ≡ old)

-- A call from C writes such bytes if its answer is 0; otherwise the answer is the number of a
-- refusal, and the buffer stays.
pub record FillsByNumber (answer written : ℕ) (old new : List ℕ) (P : List ℕ → Type 0)
    : Type 0 where
  pub front : answer ≡ 0 → P (take written new)
  pub within : answer ≡ 0 → written ≤ length new
  pub behind : answer ≡ 0 → drop written new ≡ drop written old
  pub kept : answer ≢ 0 → new ≡ old

-- The number is that of a refusal that satisfies P.
abbrev pub IsNumberWhere : ℕ → (Refusal → Type 0) → Type 0
IsNumberWhere number P = (r : Refusal) × (number ≡ answer_number r) × P r

-- A copy that can be made is done, or there is no room, or no memory.
abbrev pub IsGranted : ℕ → Type 0
IsGranted number = (number ≡ 0) ⊎ (number ≡ 1) ⊎ (number ≡ 32)

-- The buffer has no room for a copy.
abbrev pub IsNoRoom : Refusal → Type 0
IsNoRoom r = (size : ℕ) × (r ≡ NoRoom size)

-- The number of bytes of the table of a frame of one segment, in this form.
abbrev pub table_bytes : Form → ℕ
table_bytes Framed = 8
table_bytes Flat = 0

-- No fault, and a fault as C sees it.
abbrev pub no_fault : Fault
no_fault = record { reason = 0; word = 0; segment = 0 }

abbrev pub c_fault : CanonicalFault → Fault
c_fault f = record { reason = reason_number f.reason; word = f.word; segment = f.segment }

-- The test of a message finds a fault, or none if the message is the canonical one of a value
-- within the limits.
abbrev pub TestFinds : ReaderOptions → Option CanonicalFault → Segments → Type 0
TestFinds limits None S = IsCanonicalWithin S limits
TestFinds limits (Some f) S = (IsCanonicalMessage S → ⊥) × IsFaultOf S limits f

-- Whether a message is canonical, and if not, why and where. If it is, its value is within the
-- limits.
abbrev pub TestIs : ReaderOptions → Bool → Fault → Segments → Type 0
TestIs limits true fault S = IsCanonicalWithin S limits × (fault ≡ no_fault)
TestIs limits false fault S =
    (IsCanonicalMessage S → ⊥) × ((f : CanonicalFault) × IsFaultOf S limits f × (fault ≡ c_fault f))
