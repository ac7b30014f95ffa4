-- How much is written for a message that is shown, or about two that are compared.
use Rattle.std.specs.Prelude.{ℕ, List, ◌<◌, ◌≤◌, length}
use Rattle.capnp_framing.specs.Writing.{Prints}
use Rattle.capnp_framing.specs.declared.devices.Output.{Ghosts}

module _ {W : Type 0} (g : Ghosts W) where
  -- The output has taken at most this number of bytes more.
  abbrev pub PrintsAtMost : ℕ → W → W → Type 0
  PrintsAtMost most from to = (text : List ℕ) × (length text ≤ most) × Prints g from to text

  -- The output has taken at least one byte more.
  abbrev pub PrintsSome : W → W → Type 0
  PrintsSome from to = (text : List ℕ) × (0 < length text) × Prints g from to text
