use Rattle.capnp_layout_c.proofs.ElementsFound.{bit_found, element_found, number_found}
use Rattle.capnp_layout_c.proofs.laws.elements_are_there.Goals as goal

pub returns-clause-structs : goal.returns-clause-structs
returns-clause-structs c = element_found

pub returns-clause-numbers : goal.returns-clause-numbers
returns-clause-numbers c = number_found

pub returns-clause-bits : goal.returns-clause-bits
returns-clause-bits c = bit_found
