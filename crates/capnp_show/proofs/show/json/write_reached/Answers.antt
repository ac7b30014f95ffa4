use Rattle.capnp_show.proofs.show.json.write_reached.Goals as goal

pub returns-in-Pointer : goal.returns-in-Pointer
returns-in-Pointer g c = λ plain. rw c.in-Pointer.is (c.write_pointed_value.ensures plain)

pub returns-in-Element : goal.returns-in-Element
returns-in-Element g c = λ plain. rw c.in-Element.is (c.write_element.ensures plain)
