use Rattle.capnp_builders.proofs.HeldMade.{child_made, structs_made}
use Rattle.capnp_builders.proofs.HeldStructs.{child_stored}
use Rattle.capnp_builders.proofs.fields.init_struct_list.Goals as goal

pub returns-clause-child : goal.returns-clause-child
returns-clause-child g c = child_made c.new_struct_list.result _ _ c.args.place c.args.index _ _ c.requires.field c.new_struct_list.ensures.object

pub returns-clause-made : goal.returns-clause-made
returns-clause-made g c = λ x ws ts i less h. structs_made c.new_struct_list.result _ _ _ _ c.args.size c.args.count _ i _ less c.new_struct_list.ensures.object c.new_struct_list.ensures.leads (child_stored _ x c.args.place ws ts c.args.index c.requires.field h)
