-- What is true if a reading is refused.
use Rattle.std.proofs.Common.{◌≡◌, ◌⊎◌, ℕ, ◌+◌, ◌*◌, ◌<◌, ◌≤◌, Bool}
use Rattle.capnp_words.specs.declared.error.ErrorKind.{ErrorKind}
use Rattle.capnp_words.specs.declared.error.ErrorKind.TheVariants.{ReadLimitExceeded}
use Rattle.capnp_words.specs.declared.wire_pointer.StructSize.{StructSize}
use Rattle.capnp_words.specs.Meter.{Meter, Affords}
use Rattle.capnp_format.specs.Tree.{Tree, Trees, Elements, count, element_count, capabilities, capabilities_all, capabilities_elements}
use Rattle.capnp_pointers.specs.Faults.{Somewhere, Exceeds}
use Rattle.capnp_pointers.specs.Outcomes.{MeansThere}
use Rattle.capnp_pointers.specs.Reading.{Reading, pointers_of}
use Rattle.capnp_pointers.specs.Spending.{after_charge}
use Rattle.capnp_pointers.specs.Wanted.{Form, BreaksAt, AllowsCapabilities}
use Rattle.capnp_pointers.proofs.WholeValue.Shorthands.{MeanThere, ElementsMean}

-- From m to m', g words were granted and r pointers followed, and r is at most g + limit.
abbrev pub Spends : Bool → Meter → Meter → ℕ → Type 0
Spends charging m m' limit = (g : ℕ) × (r : ℕ) × Affords charging m g × (m' ≡ after_charge charging m g r) × (r ≤ g + limit)

-- P holds for one of the m places from the place r on, or for some place that is reached from
-- there.
abbrev pub Among : (Reading → Type 0) → Reading → ℕ → Type 0
Among P r m = (q : ℕ) × (r.at ≤ q) × (q < r.at + m) × Somewhere P (record r { at = q })

-- P holds for one of the pointers of the m elements of this size from the place r on, or for some
-- place that is reached from there.
abbrev pub AmongElements : (Reading → Type 0) → Reading → StructSize → ℕ → Type 0
AmongElements P r size m = (j : ℕ) × (j < m) × Among P (pointers_of r size j) size.pointers

-- A place breaks a demand with the error k, or charges more than m has left.
abbrev pub Fails : Form → Meter → ErrorKind → Reading → Type 0
Fails form m k r = BreaksAt form k r ⊎ (k ≡ ReadLimitExceeded) × Exceeds m r

-- A place can't be read, with the error k: some place that is reached fails with k, no value is
-- within both limits, and no more is spent than was granted.
pub record Unreadable (form : Form) (r : Reading) (m m' : Meter) (k : ErrorKind) : Type 0 where
  pub named : Somewhere (Fails form m' k) r
  pub only : (t : Tree) (c : ℕ) → MeansThere r t c → AllowsCapabilities form (capabilities t) → Affords r.charging m c → ⊥
  pub spent : Spends r.charging m m' 1

-- One of i pointers from the place on can't be read, with the error k: some place that is reached
-- fails with k, they have no values within both limits, and no more is spent than was granted.
pub record UnreadableAll (form : Form) (r : Reading) (i : ℕ) (m m' : Meter) (k : ErrorKind) : Type 0 where
  pub named : Among (Fails form m' k) r i
  pub only : (ts : Trees) (c : ℕ) → count ts ≡ i → MeanThere r ts c → AllowsCapabilities form (capabilities_all ts) → Affords r.charging m c → ⊥
  pub spent : Spends r.charging m m' i

-- One of i elements from the place on can't be read, with the error k: some place that is reached
-- fails with k, they have no values within both limits, and no more is spent than was granted.
pub record UnreadableElements (form : Form) (r : Reading) (size : StructSize) (i : ℕ) (m m' : Meter) (k : ErrorKind) : Type 0 where
  pub named : AmongElements (Fails form m' k) r size i
  pub only : (es : Elements) (c : ℕ) → element_count es ≡ i → ElementsMean r size es c → AllowsCapabilities form (capabilities_elements es) → Affords r.charging m c → ⊥
  pub spent : Spends r.charging m m' (i * size.pointers)
