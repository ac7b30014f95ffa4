-- The levels that a nesting limit allows.
use Rattle.std.proofs.Common.{◌≡◌, zero, suc, pred, ◌<◌, ap, arith}
use lib.IntN.{ℤ, pos, negsuc, ◌-ℤ◌}
use Rattle.std.proofs.lemmas.Int.{ints}
use Rattle.capnp_pointers.specs.Source.{levels}

-- One level less, as a nesting limit.
pub level_less : (z : ℤ) → 0 < levels z → levels (z -ℤ pos 1) ≡ pred (levels z)
level_less (pos zero) some = absurd (omega arith)
level_less (pos (suc n)) some = let e : (pos (suc n) -ℤ pos 1) ≡ pos n = omega (arith, ints) in ap levels e
level_less (negsuc n) some = absurd (omega arith)
