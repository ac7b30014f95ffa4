-- Where the reading of one object stops that is read only for its size.
use Rattle.std.specs.Prelude.{◌≡◌, ◌≢◌, ◌<◌}
use Rattle.capnp_words.specs.declared.error.ErrorKind.{ErrorKind}
use Rattle.capnp_words.specs.declared.error.ErrorKind.TheVariants.{MessageIsTooDeeplyNested}
use Rattle.capnp_words.specs.Meter.{Meter}
use Rattle.capnp_pointers.specs.declared.object.Purpose.TheVariants.{Size}
use Rattle.capnp_pointers.specs.Reading.{Reading, word_of}
use Rattle.capnp_pointers.specs.Refusals.{NotRead}

-- One object isn't read for its size, which is refused with k and takes the limiter from m to m'.
-- Without a level nothing is counted; otherwise its reading stops.
pub data NotMeasured (r : Reading) (m m' : Meter) (k : ErrorKind) : Type 0 where
  no_level : word_of r ≢ 0 → r.levels ≡ 0 → m' ≡ m → k ≡ MessageIsTooDeeplyNested → NotMeasured r m m' k
  stopped : 0 < r.levels → NotRead Size r m m' k → NotMeasured r m m' k
