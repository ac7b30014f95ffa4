-- Short names for what definitions write out and proofs often use.
use Rattle.std.proofs.Common.{ℕ}
use Rattle.capnp_words.specs.declared.error.ErrorKind.{ErrorKind}
use Rattle.capnp_words.specs.declared.wire_pointer.StructSize.{StructSize}
use Rattle.capnp_words.specs.Meter.{Meter}
use Rattle.capnp_format.specs.Segments.{Target}
use Rattle.capnp_format.specs.Tree.{Trees, Elements}
use Rattle.capnp_format.specs.Means.{MeansAll, MeansElements}
use Rattle.capnp_pointers.specs.declared.object.Purpose.TheVariants.{Value}
use Rattle.capnp_pointers.specs.Outcomes.{ReadsAll, ReadsElements}
use Rattle.capnp_pointers.specs.Reading.{Reading}
use Rattle.capnp_pointers.specs.Refusals.{Stopped, GoesBefore, StopsAmong, StopsAmongElements}
use Rattle.capnp_pointers.specs.Wanted.{Form}

-- Consecutive pointers, from the place on, mean ts within the levels, at the cost c.
abbrev pub MeanThere : Reading → Trees → ℕ → Type 0
MeanThere r ts c = MeansAll r.segments r.levels r.segment r.at ts c

-- Elements of this size, from the place on, mean es within the levels, at the cost c.
abbrev pub ElementsMean : Reading → StructSize → Elements → ℕ → Type 0
ElementsMean r size es c = MeansElements r.segments r.levels r.segment r.at size.data_words size.pointers es c

-- The pointers of the object a before the one at q are read, from m to m'.
abbrev pub ReadsBefore : Form → Reading → Target → ℕ → Meter → Meter → Type 0
ReadsBefore form r a q m m' = GoesBefore (ReadsAll form) (ReadsElements form) r a q m m'

-- The reading of n pointers is refused with k; then the same for n elements.
abbrev pub RefusedAll : Form → Reading → ℕ → Meter → Meter → ErrorKind → Type 0
RefusedAll form r n m m' k = StopsAmong form (λ s i j. Stopped Value form s i j k) r n m m'

abbrev pub RefusedElements : Form → Reading → StructSize → ℕ → Meter → Meter → ErrorKind → Type 0
RefusedElements form r size n m m' k =
    StopsAmongElements form (λ s i j. Stopped Value form s i j k) r size n m m'
