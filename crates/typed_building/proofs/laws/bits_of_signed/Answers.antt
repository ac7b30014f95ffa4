use Rattle.std.proofs.Common.{ap}
use Rattle.std.specs.Int.{cast_unsigned, w8, w16, w32, w64}
use Rattle.std.proofs.lemmas.Int.{to_z-of_z}
use Rattle.typed_building.proofs.laws.bits_of_signed.Goals as goal

pub returns-clause-int8 : goal.returns-clause-int8
returns-clause-int8 c = λ n fits. ap (cast_unsigned w8) (to_z-of_z w8 n fits)

pub returns-clause-int16 : goal.returns-clause-int16
returns-clause-int16 c = λ n fits. ap (cast_unsigned w16) (to_z-of_z w16 n fits)

pub returns-clause-int32 : goal.returns-clause-int32
returns-clause-int32 c = λ n fits. ap (cast_unsigned w32) (to_z-of_z w32 n fits)

pub returns-clause-int64 : goal.returns-clause-int64
returns-clause-int64 c = λ n fits. ap (cast_unsigned w64) (to_z-of_z w64 n fits)
