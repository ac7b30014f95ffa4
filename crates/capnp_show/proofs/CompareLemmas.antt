-- What is written if nothing is written.
use Rattle.std.proofs.Common.{ℕ, [], arith}
use Rattle.std.proofs.KnownBytes.{Appends-nil}
use Rattle.capnp_framing.specs.declared.devices.Output.{Ghosts}
use Rattle.capnp_show.specs.Show.{PrintsAtMost}

pub nothing_printed : {W : Type 0} (g : Ghosts W) (most : ℕ) (output : W) → PrintsAtMost g most output output
nothing_printed g most output = ([], omega arith, Appends-nil (g.contents output))
