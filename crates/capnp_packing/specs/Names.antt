-- The names of refusals of packed bytes.
use Rattle.std.specs.Prelude.{ℕ, List, codes}
use Rattle.capnp_packing.specs.declared.packing.packing_error.PackingError.{PackingError}
use Rattle.capnp_packing.specs.declared.packing.packing_error.PackingError.TheVariants.{
  CutWord,
  Truncated,
  TooLong,
  AllocationFailed,
}

-- The name of a refusal.
abbrev pub packing_error_name : PackingError → List ℕ
packing_error_name CutWord = codes "CutWord"
packing_error_name Truncated = codes "Truncated"
packing_error_name TooLong = codes "TooLong"
packing_error_name AllocationFailed = codes "AllocationFailed"
