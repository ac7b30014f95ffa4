-- What an output has taken.
use Rattle.std.specs.Prelude.{◌≡◌, ℕ, List, length, Result, OnOk, OnErr, true, false}
use Rattle.std.specs.Io.KnownBytes.{Appends}
use Rattle.capnp_arena_traits.specs.Limits.{IsSmall}
use Rattle.capnp_framing.specs.declared.devices.Output.{Ghosts}

module _ {W : Type 0} (g : Ghosts W) where
  -- The output has taken these bytes more.
  abbrev pub Prints : W → W → List ℕ → Type 0
  Prints from to bytes = Appends (g.contents from) (g.contents to) bytes

  -- The output has taken nothing, and works if it did before.
  abbrev pub IsUnwritten : W → W → Type 0
  IsUnwritten from to = (g.contents to ≡ g.contents from) × (g.has_failed to ≡ g.has_failed from)

  -- All bytes are written and the output works; or it has failed.
  pub record Writes {A E : Type 0} (result : Result A E) (from to : W) (bytes : List ℕ) : Type 0 where
    pub written : OnOk result (Prints from to bytes)
    pub works : OnOk result (g.has_failed to ≡ false)
    pub fails : OnErr result (g.has_failed to ≡ true)

  -- The output works, and there are `count` segments, which are small enough for a frame.
  pub record CanWrite (output : W) (segments : List (List ℕ)) (count : ℕ) : Type 0 where
    pub works : g.has_failed output ≡ false
    pub small : IsSmall segments
    pub number : count ≡ length segments
