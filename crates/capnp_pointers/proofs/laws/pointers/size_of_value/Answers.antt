use Rattle.std.proofs.Common.{ap, arith}
use Rattle.capnp_format.proofs.Bounds.{means_value}
use Rattle.capnp_format.proofs.Trimming.{trim-words}
use Rattle.capnp_pointers.proofs.Sizes.CountsTheValue.{size_is}
use Rattle.capnp_pointers.proofs.laws.pointers.size_of_value.Goals as goal

pub returns-clause-size : goal.returns-clause-size
returns-clause-size c = size_is

pub returns-clause-canonical : goal.returns-clause-canonical
returns-clause-canonical c = λ r n m m' z t k small e means.
    omega (arith, ap (λ y. y.word_count) (size_is r n m m' z t k e means), trim-words t (means_value r.segments n r.segment r.at t k small means))
