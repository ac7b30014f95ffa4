-- What a read of an input of packed bytes returns, and what the input keeps.
use Rattle.std.specs.Prelude.{◌≡◌, ◌<◌, ◌≤◌, ℕ, List, [], length, take, slice_range, Option, Result, IfOk, OnOk, OnErr, true}
use Rattle.std.specs.Io.KnownBytes.{Consumes, IsAtEnd, prepend_known}
use Rattle.capnp_framing.specs.declared.devices.Input.{Ghosts}
use Rattle.capnp_packing.specs.Packing.{KeepsEnd, bytes_behind}
use Rattle.capnp_packing.specs.declared.packing.unpacking_input.UnpackingInput.{UnpackingInput}

module _ {R : Type 0} (g : Ghosts R) where
  -- The packed bytes that are still to come, if they are known, and the bytes that they stand for.
  abbrev pub packed_left : UnpackingInput R → Option (List ℕ)
  packed_left u =
      prepend_known (slice_range u.packed.bytes u.packed.at u.packed.end) (g.remaining u.packed.input)

  abbrev pub unpacked_left : UnpackingInput R → Option (List ℕ)
  unpacked_left u = bytes_behind u.zeros u.place (packed_left u)

  -- From one state to the next, n bytes were given without a read of the packed input.
  pub record UnpacksAhead (n : ℕ) (from to : UnpackingInput R) (room : List ℕ) : Type 0 where
    pub some : 0 < n
    pub bound : n ≤ length room
    pub bytes : Consumes (unpacked_left from) (unpacked_left to) (take n room)
    pub place : KeepsEnd from.place (packed_left from) to.place (packed_left to)
    pub input : to.packed.input ≡ from.packed.input
    pub told : to.told ≡ from.told

  -- Bytes were given, and none only if the packed bytes have ended; or the packed input has failed,
  -- and all bytes are still to come.
  pub record UnpacksSome {E : Type 0} (result : Result ℕ E) (from to : UnpackingInput R)
      (room : List ℕ) : Type 0 where
    pub bound : IfOk result (λ n. n ≤ length room)
    pub bytes : IfOk result (λ n. Consumes (unpacked_left from) (unpacked_left to) (take n room))
    pub kept : OnErr result (Consumes (unpacked_left from) (unpacked_left to) [])
    pub place : KeepsEnd from.place (packed_left from) to.place (packed_left to)
    pub end : IfOk result (λ n. n ≡ 0 → (to.zeros ≡ 0) × IsAtEnd (packed_left to))
    pub works : OnOk result (g.has_failed to.packed.input ≡ g.has_failed from.packed.input)
    pub fails : OnErr result (g.has_failed to.packed.input ≡ true)
    pub told : to.told ≡ from.told
