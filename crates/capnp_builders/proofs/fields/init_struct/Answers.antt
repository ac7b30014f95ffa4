use Rattle.capnp_builders.proofs.HeldMade.{child_made, struct_made}
use Rattle.capnp_builders.proofs.HeldStructs.{child_stored}
use Rattle.capnp_builders.proofs.fields.init_struct.Goals as goal

pub returns-clause-child : goal.returns-clause-child
returns-clause-child g c = child_made c.new_struct.result _ _ c.args.place c.args.index _ _ c.requires.field c.new_struct.ensures.object

pub returns-clause-made : goal.returns-clause-made
returns-clause-made g c = λ x ws ts h. struct_made c.new_struct.result _ _ _ _ c.args.size _ _ c.new_struct.ensures.object c.new_struct.ensures.leads (child_stored _ x c.args.place ws ts c.args.index c.requires.field h)
