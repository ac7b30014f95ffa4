-- A message that is canonical as a whole is its own canonical copy.
use Rattle.std.proofs.Common.{◌≡◌, slice_get, ℕ, ◌+◌, ◌/◌, ◌≤◌, List, [], ◌∷◌, length, Option, Some, None, sym, ap, ◌∙◌, subst, arith}
use Rattle.capnp_words.specs.Meter.{Meter, FitsIn, unused}
use Rattle.capnp_format.specs.Bytes.{message, words_of}
use Rattle.capnp_format.specs.Canonical.{charge, encoding, trim}
use Rattle.capnp_format.specs.Segments.{Segments}
use Rattle.capnp_format.specs.Tree.{Tree, depth}
use Rattle.capnp_arena_traits.specs.Checks.{total_words}
use Rattle.capnp_arena_traits.proofs.MessageLemmas.{length-message}
use Rattle.capnp_arena.specs.declared.arena.reader_arena_impl.ReaderOptions.{ReaderOptions}
use Rattle.capnp_pointers.specs.Source.{levels}
use Rattle.capnp_messages.specs.CanonicalMessages.{IsCanonicalMessage, IsCanonicalOf, IsPaid, IsWithinLevels}
use Rattle.capnp_messages.specs.Messages.{IsValueOf}
use Rattle.capnp_messages.proofs.CanonicalMessageLemmas.{has_root, means_its_value}

-- a limit that covers `more` words covers n of them
pub covers_less : (limit : Option ℕ) (n more : ℕ) → n ≤ more → FitsIn limit more → FitsIn limit n
covers_less None n more less covered = tt
covers_less (Some left) n more less covered = omega arith

-- what the test of a canonical message found and paid is the message's value within the limits
pub value_within : {S : Segments} (limits : ReaderOptions) {old new : Meter} → old ≡ unused limits.traversal_limit_in_words →
    IsWithinLevels S (levels limits.nesting_limit) → IsPaid S old new → (t : Tree) × IsValueOf S limits t × IsCanonicalOf S t
value_within {S} limits begun within (t, canonical, paid) =
    let budget : Option ℕ = limits.traversal_limit_in_words in
    let deep : depth t ≤ levels limits.nesting_limit = within t canonical in
    let covered : FitsIn budget (1 + charge t) =
    subst (λ (m : Meter). FitsIn m.left (1 + charge t)) begun paid.covers in (
      t,
      record {
        root = record {
          root = omega (arith, has_root canonical);
          covered = covers_less budget 1 (1 + charge t) (omega arith) covered;
        };
        cost = charge t;
        means = means_its_value S t (levels limits.nesting_limit) canonical deep;
        free = canonical.free;
        covered = covered;
      },
      canonical,
    )

-- a canonical message has one segment
one_segment : (B : List (List ℕ)) → IsCanonicalMessage (message B) → length B ≡ 1
one_segment B (t, canonical) = sym (length-message B) ∙ ap length canonical.is

only_bytes : (B : List (List ℕ)) (bytes : List ℕ) → length B ≡ 1 → slice_get B 0 ≡ Some bytes → B ≡ bytes ∷ []
only_bytes [] bytes one got = absurd (omega (arith, one))
only_bytes (b ∷ []) bytes one got = ap (λ (s : List ℕ). s ∷ []) (let same : b ≡ bytes = cc in same)
only_bytes (b ∷ d ∷ B) bytes one got = absurd (omega (arith, one))

-- The segments are only this one, and the message is the canonical one of a value that it has
-- within the limits.
abbrev pub StandsWithin : List (List ℕ) → ReaderOptions → List ℕ → Type 0
StandsWithin segments limits bytes =
    (segments ≡ bytes ∷ [])
    × ((t : Tree) × IsValueOf (message segments) limits t × IsCanonicalOf (message segments) t)

-- if a message is canonical, its first segment is all of it
pub segment_stands : {B : List (List ℕ)} {bytes : List ℕ} (limits : ReaderOptions) {old new : Meter} →
    slice_get B 0 ≡ Some bytes → old ≡ unused limits.traversal_limit_in_words →
    IsWithinLevels (message B) (levels limits.nesting_limit) → IsPaid (message B) old new → StandsWithin B limits bytes
segment_stands {B} {bytes} limits got begun within (t, canonical, paid) =
    (only_bytes B bytes (one_segment B (t, canonical)) got, value_within limits begun within (t, canonical, paid))

-- the segment has all words of the message
pub few_words : {B : List (List ℕ)} {bytes : List ℕ} {limits : ReaderOptions} → StandsWithin B limits bytes →
    total_words B ≡ length bytes / 8
few_words {bytes = bytes} (same, value) = ap total_words same ∙ (let one : total_words (bytes ∷ []) ≡ length bytes / 8 = omega arith in one)

-- the segment's words are the canonical words of that value
pub own_words : {B : List (List ℕ)} {bytes : List ℕ} (whole : List ℕ) {limits : ReaderOptions} → StandsWithin B limits bytes →
    words_of whole ≡ words_of bytes →
    (t : Tree) × IsValueOf (message B) limits t × (words_of whole ≡ encoding (trim t))
own_words {bytes = bytes} whole (same, (t, value, canonical)) is =
    let only : words_of bytes ∷ [] ≡ encoding (trim t) ∷ [] =
    ap message (sym same) ∙ canonical.is ∙ ap (λ (v : Tree). encoding v ∷ []) (sym canonical.trimmed) in
    let words : words_of bytes ≡ encoding (trim t) = cc in
    (t, value, is ∙ words)

-- and they are the message itself
pub own_message : {B : List (List ℕ)} {bytes : List ℕ} (whole : List ℕ) {limits : ReaderOptions} → StandsWithin B limits bytes →
    words_of whole ≡ words_of bytes → IsCanonicalMessage (message B) × (message B ≡ words_of whole ∷ [])
own_message whole (same, (t, value, canonical)) is =
    ((t, canonical), ap message same ∙ ap (λ (ws : List ℕ). ws ∷ []) (sym is))
