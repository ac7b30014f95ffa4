use Rattle.capnp_format.specs.Tree.{Struct, Structs}
use Rattle.capnp_format.specs.Path.{update}
use Rattle.capnp_allocation.proofs.Replaced.{forest_stored, forest_updated}
use Rattle.capnp_in_place.specs.Widened.{widened}
use Rattle.capnp_in_place.proofs.WiderObjects.SameCanonicalWords.{struct_within, list_within}
use Rattle.capnp_in_place.proofs.laws.widening.message_widened.Goals as goal

pub returns-clause-structs : goal.returns-clause-structs
returns-clause-structs c = λ S R t path u q ws ts size forest way made. (
  update t path (widened size ws ts),
  forest_updated S R t path u q (Struct ws ts) (widened size ws ts) forest way made,
  struct_within S 0 0 t path u q ws ts size way,
)

pub returns-clause-lists : goal.returns-clause-lists
returns-clause-lists c = λ S R t path u q d k es size v forest way becomes made. (
  update t path v,
  forest_updated S R t path u q (Structs d k es) v forest way made,
  list_within S 0 0 t path u q d k es size v (forest_stored S t forest) way becomes,
)
