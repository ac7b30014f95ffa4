-- What an output that packs passes on to another one.
use Rattle.std.specs.Prelude.{◌≡◌, ℕ, List, slice_range, Option, Result, OnOk, OnErr, true}
use Rattle.std.specs.Io.KnownBytes.{Keeps, append_known}
use Rattle.capnp_framing.specs.declared.devices.Output.{Ghosts}
use Rattle.capnp_packing.specs.declared.packing.packing_output.PackingOutput.{PackingOutput}

module _ {W : Type 0} (g : Ghosts W) where
  -- All bytes that were packed, if it is known which ones the output took.
  abbrev pub packed_bytes : PackingOutput W → Option (List ℕ)
  packed_bytes p = append_known (g.contents p.packed) (slice_range p.pending p.sent p.end)

  -- No packed byte is lost or sent twice, and sending fails only if the other output has failed.
  pub record Sends {A E : Type 0} (result : Result A E) (from to : PackingOutput W) : Type 0 where
    pub bytes : Keeps (packed_bytes from) (packed_bytes to)
    pub works : OnOk result (to.failed ≡ from.failed)
    pub fails : OnErr result (to.failed ≡ true)
    pub cause : OnErr result (g.has_failed to.packed ≡ true)
