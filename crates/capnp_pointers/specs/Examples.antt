-- What the worked examples of reading need (`src/laws/examples.rt`).
use Rattle.std.specs.Prelude.{ℕ, List, [], ◌∷◌, true, false, Some, Result}
use Rattle.capnp_words.specs.declared.error.ErrorKind.{ErrorKind}
use Rattle.capnp_words.specs.Meter.{Meter, unused}
use Rattle.capnp_format.specs.Segments.{Segments}
use Rattle.capnp_format.specs.Tree.{Tree}
use Rattle.capnp_pointers.specs.Enter.{Shape}
use Rattle.capnp_pointers.specs.Expected.{Expectation}
use Rattle.capnp_pointers.specs.Reading.{Reading}
use Rattle.capnp_pointers.specs.Values.{value, expect}
use Rattle.capnp_pointers.specs.Wanted.{Form}

-- The root pointer of the message S, read within n levels.
abbrev pub root_reading : Segments → ℕ → Reading
root_reading S n =
    record {
      segments = S;
      charging = true;
      of_default = false;
      levels = n;
      segment = 0;
      at = 0;
    }

-- Reading the value of the root of S, within n levels and a traversal limit of this many words.
abbrev pub root_value : Form → Segments → ℕ → ℕ → Result Tree ErrorKind × Meter
root_value form S n words = value form (root_reading S n) (unused (Some words))

-- The same for a call that expects an object of some kind.
abbrev pub root_expected : Expectation → Segments → ℕ → ℕ → Result Shape ErrorKind × Meter
root_expected expected S n words = expect expected (root_reading S n) (unused (Some words))

-- The limiter with this many words left that has followed this many pointers.
abbrev pub left_with : ℕ → ℕ → Meter
left_with words pointers = record { left = Some words; followed = pointers }

-- A message of one segment with these words.
abbrev pub alone : List ℕ → Segments
alone words = words ∷ []
