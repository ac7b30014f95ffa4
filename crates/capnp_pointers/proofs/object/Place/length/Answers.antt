use Rattle.std.proofs.Common.{sym}
use Rattle.capnp_format.proofs.WordsOf.{words}
use Rattle.capnp_pointers.proofs.object.Place.length.Goals as goal

pub returns : goal.returns
returns c = sym (words c.args.self.bytes.now)
