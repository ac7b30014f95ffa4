use Rattle.capnp_builders.proofs.HeldMade.{struct_made}
use Rattle.capnp_builders.proofs.fields.init_root.Goals as goal

pub returns-clause-made : goal.returns-clause-made
returns-clause-made g c = λ t stored. struct_made c.new_struct.result _ _ 0 0 c.args.size _ t c.new_struct.ensures.object c.new_struct.ensures.leads stored
