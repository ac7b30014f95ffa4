use Rattle.capnp_builders.proofs.HeldMade.{child_made}
use Rattle.capnp_builders.proofs.fields.set_text.Goals as goal

pub returns-clause-child : goal.returns-clause-child
returns-clause-child g c = child_made c.set_text.result _ _ c.args.place c.args.index _ _ c.requires.field c.set_text.ensures.object
