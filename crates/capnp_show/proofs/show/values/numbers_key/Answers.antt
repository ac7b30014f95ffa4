use Rattle.capnp_show.proofs.Elements.{long_key}
use Rattle.capnp_show.proofs.show.values.numbers_key.Goals as goal

pub returns-in_default : goal.returns-in_default
returns-in_default c = λ ns. long_key c.args.size ns c.in_default.not-Bit c.in_default.not-TwoBytes c.in_default.not-FourBytes
