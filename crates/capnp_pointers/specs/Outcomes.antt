-- What reading whole values returns and spends, and what holds if it is refused.
use Rattle.std.specs.Prelude.{◌≡◌, ℕ}
use Rattle.capnp_words.specs.declared.wire_pointer.StructSize.{StructSize}
use Rattle.capnp_words.specs.Meter.{Meter, Affords}
use Rattle.capnp_format.specs.Segments.{Target}
use Rattle.capnp_format.specs.Tree.{Tree, Trees, Elements, capabilities, capabilities_all}
use Rattle.capnp_format.specs.Tree.{capabilities_elements}
use Rattle.capnp_format.specs.Means.{Means, MeansAll, MeansElements}
use Rattle.capnp_pointers.specs.declared.object.Purpose.{Purpose}
use Rattle.capnp_pointers.specs.Demands.{own_charge, Meets}
use Rattle.capnp_pointers.specs.Reading.{Reading}
use Rattle.capnp_pointers.specs.Spending.{after_charge, pointers_in, pointers_in_all, pointers_in_elements}
use Rattle.capnp_pointers.specs.Wanted.{Form, FollowsTo, AllowsCapabilities}

-- The place r means t within its levels, at cost c.
abbrev pub MeansThere : Reading → Tree → ℕ → Type 0
MeansThere r t c = Means r.segments r.levels r.segment r.at t c

-- The place r means t, which this form allows, at a cost that m covers; m' is m after that cost,
-- with the pointers of t counted.
pub record Reads (form : Form) (r : Reading) (m m' : Meter) (t : Tree) : Type 0 where
  pub cost : ℕ
  pub means : Means r.segments r.levels r.segment r.at t cost
  pub takes : AllowsCapabilities form (capabilities t)
  pub covers : Affords r.charging m cost
  pub spent : m' ≡ after_charge r.charging m cost (pointers_in t)

-- Consecutive pointers, from the place r on, mean ts: as for one pointer.
pub record ReadsAll (form : Form) (r : Reading) (m m' : Meter) (ts : Trees) : Type 0 where
  pub cost : ℕ
  pub means : MeansAll r.segments r.levels r.segment r.at ts cost
  pub takes : AllowsCapabilities form (capabilities_all ts)
  pub covers : Affords r.charging m cost
  pub spent : m' ≡ after_charge r.charging m cost (pointers_in_all ts)

-- Elements of this size, from the place r on, mean es: as for one pointer.
pub record ReadsElements (form : Form) (r : Reading) (size : StructSize) (m m' : Meter)
    (es : Elements) : Type 0 where
  pub cost : ℕ
  pub means : MeansElements r.segments r.levels r.segment r.at size.data_words size.pointers es cost
  pub takes : AllowsCapabilities form (capabilities_elements es)
  pub covers : Affords r.charging m cost
  pub spent : m' ≡ after_charge r.charging m cost (pointers_in_elements es)

-- The object at the place r is entered: it meets its demands, and its own words are paid, from m to
-- m'.
pub record Entered (purpose : Purpose) (r : Reading) (m m' : Meter) (a : Target) : Type 0 where
  pub follows : FollowsTo r a
  pub meets : Meets purpose r.segments r.levels a
  pub covers : Affords r.charging m (own_charge purpose r.segments a)
  pub spent : m' ≡ after_charge r.charging m (own_charge purpose r.segments a) 1
