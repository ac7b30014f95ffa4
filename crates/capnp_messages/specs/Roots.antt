-- The root of a message, and why it isn't read.
use Rattle.std.specs.Prelude.{◌≡◌, ℕ, true, false, Option, Some, nat_lt, length}
use Rattle.capnp_words.specs.declared.error.ErrorKind.{ErrorKind}
use Rattle.capnp_words.specs.declared.error.ErrorKind.TheVariants.{InvalidSegmentId}
use Rattle.capnp_words.specs.declared.error.ErrorKind.TheVariants.{ReadLimitExceeded}
use Rattle.capnp_words.specs.Meter.{FitsIn}
use Rattle.capnp_format.specs.Segments.{Segments, segment, IsPlace}
use Rattle.capnp_arena_traits.specs.Checks.{misplaced}
use Rattle.capnp_pointers.specs.Metered.{Metered, answer, ◌>>>◌, charge_words, demand}
use Rattle.capnp_pointers.specs.Reading.{Reading}

-- The root of S, for a reading that is charged and may enter n levels.
abbrev pub message_root : Segments → ℕ → Reading
message_root S n =
    record { segments = S; charging = true; of_default = false; levels = n; segment = 0; at = 0 }

-- Reads the root pointer of S: its word has to be there, and is charged ("Messages").
abbrev pub read_message_root : Segments → ℕ → Metered Reading
read_message_root S n =
    demand (nat_lt 0 (length (segment S 0))) (misplaced S 0 (InvalidSegmentId 0)) >>> λ _.
    charge_words true 1 >>> λ _. answer (message_root S n)

-- S has a root pointer, and the budget covers its word ("Messages").
pub record CoversRoot (S : Segments) (budget : Option ℕ) : Type 0 where
  pub root : IsPlace S 0 0
  pub covered : FitsIn budget 1

-- The root pointer of S is refused with k.
pub data RefusesRoot (S : Segments) (budget : Option ℕ) (k : ErrorKind) : Type 0 where
  -- S has no word for a root pointer
  no_root : k ≡ misplaced S 0 (InvalidSegmentId 0) → (IsPlace S 0 0 → ⊥) → RefusesRoot S budget k
  -- S has a root pointer, and the budget doesn't cover its word
  no_budget : k ≡ ReadLimitExceeded → IsPlace S 0 0 → budget ≡ Some 0 → RefusesRoot S budget k
