-- What is made of the canonical words of a message, or of a part of one.
use Rattle.std.specs.Prelude.{◌≡◌, ◌↔◌, ◌⊎◌, ◌≤◌, ◌++◌, ℕ, List, Bool, IsTrue, Result, IfOk, IfErr, length}
use Rattle.sha2.specs.Sha256.{sha256}
use Rattle.capnp_format.specs.Canonical.{encoding, trim}
use Rattle.capnp_format.specs.Segments.{Segments}
use Rattle.capnp_format.specs.Tree.{Tree}
use Rattle.capnp_arena_traits.specs.Allocations.{max_segment_words}
use Rattle.capnp_arena.specs.declared.arena.reader_arena_impl.ReaderOptions.{ReaderOptions}
use Rattle.capnp_framing.specs.Frames.{bytes_of_words}
use Rattle.capnp_messages.specs.MessageParts.{IsPartOf}
use Rattle.capnp_messages.specs.Messages.{IsValueOf}
use Rattle.capnp_messages.specs.declared.messages.command.Form.TheVariants.{Flat}
use Rattle.capnp_messages.specs.declared.messages.command.Command.TheVariants.{Canon}
use Rattle.capnp_canonical.specs.Calls.{IsCopyOf, RefusesMeaning}
use Rattle.capnp_canonical.specs.declared.refusal.Refusal.{Refusal}

-- P holds of the bytes of the canonical words of a message, without a frame. They are at most as
-- many words as a segment of a copy can have.
abbrev pub WordsOf : ReaderOptions → Segments → (List ℕ → Type 0) → Type 0
WordsOf limits S P =
    (t : Tree) × IsValueOf S limits t × (length (encoding (trim t)) ≤ max_segment_words)
    × P (bytes_of_words (encoding (trim t)))

-- The same, for a part of a message.
abbrev pub WordsOfPart : ReaderOptions → List ℕ → Segments → (List ℕ → Type 0) → Type 0
WordsOfPart limits path S P =
    (t : Tree) × IsPartOf S limits path t × (length (encoding (trim t)) ≤ max_segment_words)
    × P (bytes_of_words (encoding (trim t)))

-- The digest is the SHA-256 of a prefix and then the canonical words of a message.
abbrev pub IsDigestAfter : List ℕ → ReaderOptions → List ℕ → Segments → Type 0
IsDigestAfter prefix limits digest S = WordsOf limits S (λ words. digest ≡ sha256 (prefix ++ words))

-- The same, for a part of a message.
abbrev pub IsPartDigestAfter : List ℕ → ReaderOptions → List ℕ → List ℕ → Segments → Type 0
IsPartDigestAfter prefix limits path digest S =
    WordsOfPart limits path S (λ words. digest ≡ sha256 (prefix ++ words))

-- The bytes that were passed are those of a message that satisfies a fact, or are refused: for a
-- frame `InFrame` and `RefusesBytes`, and so on.
abbrev pub Within : Type 1
Within = (Segments → Type 0) → Type 0

abbrev pub Without : Type 1
Without = Refusal → Type 0

-- The canonical words of a message are these, or others.
abbrev pub IsBeside : ReaderOptions → List ℕ → Bool → Segments → Type 0
IsBeside limits words same T =
    WordsOf limits T (λ others. IsTrue same ↔ (words ≡ others))

-- A message has no canonical words within the limits, or memory ran out; or the bytes that were
-- passed aren't a message.
abbrev pub HasNoWords : Within → Without → ReaderOptions → Refusal → Type 0
HasNoWords In No limits r = No r ⊎ In (λ S. RefusesMeaning (Canon Flat) limits S r)

-- Words are compared with the canonical words of a message that was passed, or that is refused.
pub record IsComparison (In : Within) (No : Without) (limits : ReaderOptions) (words : List ℕ)
    (made : Result Bool Refusal) : Type 0 where
  pub same : IfOk made (λ same. In (IsBeside limits words same))
  pub refused : IfErr made (HasNoWords In No limits)

-- Two messages that were passed have canonical words, which are the same or not.
abbrev pub AreTheSame : (one other : Within) → ReaderOptions → Bool → Type 0
AreTheSame One Other limits same =
    (words : List ℕ) × One (λ S. IsCopyOf Flat limits S words) × Other (IsBeside limits words same)

-- The first of two messages that were passed is refused; or it has canonical words, and the other
-- is refused.
abbrev pub RefusesOne : Within → Without → Within → Without → ReaderOptions → Refusal → Type 0
RefusesOne One NotOne Other NotOther limits r =
    HasNoWords One NotOne limits r
    ⊎ ((words : List ℕ) × One (λ S. IsCopyOf Flat limits S words)
    × HasNoWords Other NotOther limits r)
