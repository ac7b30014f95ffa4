-- What an arena being built holds, and can still grant.
use Rattle.std.specs.Prelude.{◌≡◌, ℕ, Bool}
use Rattle.capnp_format.specs.Segments.{Segments}

-- The words of each segment; how many words each can hold, including the allocated ones; how often
-- memory was refused; and whether a request for a number of words may be met by a segment with room
-- for another number.
pub record View : Type 0 where
  pub words : Segments
  pub room : ℕ → ℕ
  pub refusals : ℕ
  pub offers : ℕ → ℕ → Bool

abbrev pub view_of : Segments → (ℕ → ℕ) → ℕ → (ℕ → ℕ → Bool) → View
view_of words room refusals offers =
    record { words = words; room = room; refusals = refusals; offers = offers }

-- Only the words change from old to new.
abbrev pub KeepsLimits : View → View → Type 0
KeepsLimits old new = new ≡ record old { words = new.words }
