use Rattle.std.proofs.Common.{◌*◌, ◌/◌, length, arith, length-take}
use Rattle.capnp_readers.proofs.Sections.{default_whole, default_length}
use Rattle.capnp_readers.proofs.readers.PointerReader.from_default.Goals as goal

pub invariant_of-result : goal.invariant_of-result
invariant_of-result g c =
    let bytes = c.args.bytes.now in
    record { held = (default_whole bytes, default_length bytes, omega (arith, length-take (8 * (length bytes / 8)) bytes)) }
