use Rattle.capnp_format.specs.Tree.{Struct, Structs}
use Rattle.capnp_format.specs.Path.{update}
use Rattle.capnp_allocation.proofs.Replaced.{replaced_within}
use Rattle.capnp_in_place.specs.Widened.{widened}
use Rattle.capnp_in_place.proofs.WiderObjects.SameCanonicalWords.{struct_within, list_within}
use Rattle.capnp_in_place.proofs.laws.widening.widened_within.Goals as goal

pub returns-clause-structs : goal.returns-clause-structs
returns-clause-structs c = λ S R s p t path u q ws ts size stored way made. (
  update t path (widened size ws ts),
  replaced_within S R s p t path u q (Struct ws ts) (widened size ws ts) way stored made,
  struct_within S s p t path u q ws ts size way,
)

pub returns-clause-lists : goal.returns-clause-lists
returns-clause-lists c = λ S R s p t path u q d k es size v stored way becomes made. (
  update t path v,
  replaced_within S R s p t path u q (Structs d k es) v way stored made,
  list_within S s p t path u q d k es size v stored way becomes,
)
