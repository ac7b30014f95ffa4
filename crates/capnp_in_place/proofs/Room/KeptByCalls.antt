-- What a call keeps, and what one call after another keeps.
use Rattle.std.proofs.Common.{◌≡◌, ℕ, ◌+◌, ◌*◌, ◌<◌, ◌≤◌, arith}
use Rattle.capnp_allocation.proofs.BelowElements.{element_within}
pub use Rattle.capnp_allocation.proofs.FillingChains.{no_growth}
pub use Rattle.capnp_in_place.proofs.Room.PlacesStay.{grows_again}

-- Words allocated in two steps are at most as many as both steps allow.
pub few_again : (s m r n k : ℕ) → m ≤ s + n → r ≤ m + k → r ≤ s + (n + k)
few_again s m r n k first second = omega arith

pub few_before : {s m r : ℕ} (n : ℕ) → m ≡ s → r ≤ m + n → r ≤ s + n
few_before n same more = omega arith

pub few_after : (s m r n : ℕ) → m ≤ s + n → r ≡ m → r ≤ s + n
few_after s m r n more same = omega arith

-- Words allocated row by row: at most two for each of k pointers in each row.
pub rows_few : (s m r k i n : ℕ) → m ≤ s + 2 * (i * k) → r ≤ m + 2 * k → i < n → r ≤ s + 2 * (n * k)
rows_few s m r k i n before row less = omega (arith, element_within k n i less)

pub some_in_rows : (k i n : ℕ) → i < n → 0 < k → 0 < n * k
some_in_rows k i n less some = omega (arith, element_within k n i less)

pub lt_next : (i : ℕ) → i < i + 1
lt_next i = omega arith

pub few_at_most : (s r n k : ℕ) → r ≤ s + n → r ≤ s + (n + k)
few_at_most s r n k more = omega arith

pub few_none : {s r : ℕ} (n : ℕ) → r ≡ s → r ≤ s + n
few_none n same = omega arith

-- Writes before and after words are allocated make no segment shorter.
pub grown_between : {s m r q : ℕ} → m ≡ s → m ≤ r → q ≡ r → s ≤ q
grown_between before more after = omega arith
