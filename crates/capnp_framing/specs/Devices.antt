-- What one read of an input and one write to an output do, according to the traits.
use Rattle.std.specs.Prelude.{◌≡◌, ◌<◌, ◌≤◌, ℕ, List, length, Result, IfOk, OnOk, OnErr, true}
use Rattle.std.specs.Io.KnownBytes.{ReadConsumes, WriteAppends}
use Rattle.capnp_framing.specs.Wholeness.{KeepsWhole}
use Rattle.capnp_framing.specs.declared.devices.Input as input
use Rattle.capnp_framing.specs.declared.devices.Output as output

module _ {R : Type 0} (g : input.Ghosts R) where
  -- A read has moved bytes from the front of an input to the front of `room`.
  pub record ReadGives {E : Type 0} (result : Result ℕ E) (from to : R) (room : List ℕ) : Type 0 where
    pub bound : IfOk result (λ n. n ≤ length room)
    pub bytes : ReadConsumes (g.remaining from) (g.remaining to) result room
    pub whole : KeepsWhole (g.ends_whole from) (g.ends_whole to)
    pub works : OnOk result (g.has_failed to ≡ g.has_failed from)
    pub fails : OnErr result (g.has_failed to ≡ true)

module _ {W : Type 0} (g : output.Ghosts W) where
  -- An output has taken bytes from the front of `others`.
  pub record WriteTakes {E : Type 0} (result : Result ℕ E) (from to : W) (others : List ℕ) : Type 0 where
    pub bound : IfOk result (λ n. n ≤ length others)
    pub some : 0 < length others → IfOk result (λ n. 0 < n)
    pub bytes : WriteAppends (g.contents from) (g.contents to) result others
    pub works : OnOk result (g.has_failed to ≡ g.has_failed from)
    pub fails : OnErr result (g.has_failed to ≡ true)
