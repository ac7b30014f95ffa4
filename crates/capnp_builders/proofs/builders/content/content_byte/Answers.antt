use Rattle.std.proofs.Common.{◌-◌, ◌*◌, get_or}
use Rattle.capnp_builders.proofs.ContentWritten.{byte_masked}
use Rattle.capnp_builders.proofs.builders.content.content_byte.Goals as goal

pub returns : goal.returns
returns c = byte_masked (get_or c.args.bytes.now c.args.index 0) (c.args.bits - 8 * c.args.index) c.if-left-ge8.false
