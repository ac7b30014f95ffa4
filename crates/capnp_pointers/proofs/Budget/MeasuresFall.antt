-- The measures of the calls that test: six for each level that is left, and less
-- the nearer a call is to the next level.
use Rattle.std.proofs.Common.{◌≡◌, ℕ, suc, pred, ◌+◌, ◌*◌, ◌<◌, ◌≤◌, arith}

-- At the same level.
pub falls_below : {a b t : ℕ} (i k : ℕ) → a ≡ b → 6 * b + (i + suc k) ≡ t → 6 * a + i < t
falls_below i k same is = omega (arith, same, is)

pub falls_last : {a b t : ℕ} (k : ℕ) → a ≡ b → 6 * b + suc k ≡ t → 6 * a < t
falls_last k same is = omega (arith, same, is)

-- At the next level.
pub falls_in : {a b t : ℕ} (i : ℕ) → i ≤ 5 → a ≡ pred b → 0 < b → 6 * b ≡ t → 6 * a + i < t
falls_in i small less some is = omega (arith, small, less, some, is)
