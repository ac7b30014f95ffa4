use Rattle.capnp_walks.proofs.AtRoots.{few_objects, lists_value, stops_as_validation}
use Rattle.capnp_walks.proofs.laws.objects_listed.Goals as goal

pub returns-clause-listed : goal.returns-clause-listed
returns-clause-listed c = λ S limits readable. (lists_value S limits readable).0

pub returns-clause-stops : goal.returns-clause-stops
returns-clause-stops c = stops_as_validation

pub returns-clause-few : goal.returns-clause-few
returns-clause-few c = few_objects
