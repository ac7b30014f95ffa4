-- What C is told of a sound message: how deep its value is, and how much it holds.
use Rattle.std.specs.Prelude.{◌≡◌, ℕ, Option, Some, None, Err}
use Rattle.capnp_words.specs.declared.error.ErrorKind.{ErrorKind}
use Rattle.capnp_format.specs.Segments.{Segments}
use Rattle.capnp_arena.specs.declared.arena.reader_arena_impl.ReaderOptions.{ReaderOptions}
use Rattle.capnp_messages.specs.Extents.{HasExtent, validate}
use Rattle.capnp_messages.specs.declared.messages.validation.MessageExtent.{MessageExtent}
use Rattle.capnp_canonical.specs.declared.refusal.Refusal.{Refusal}
use Rattle.capnp_canonical.specs.declared.refusal.Refusal.TheVariants.{Layout}
use Rattle.capnp_canonical.specs.declared.validation.SoundMessage.{SoundMessage}

-- The number, or 0 if there is none.
abbrev pub or_zero : Option ℕ → ℕ
or_zero (Some n) = n
or_zero None = 0

-- What C is told if a message is not sound, and if it is.
abbrev pub no_extent : SoundMessage
no_extent = record { words = 0; capabilities = 0; cost = 0; depth = 0 }

abbrev pub c_extent : MessageExtent → SoundMessage
c_extent x =
    record {
      words = x.value.words;
      capabilities = x.value.capabilities;
      cost = or_zero x.cost;
      depth = x.value.depth;
    }

-- S means a value within the limits, with this extent.
abbrev pub ExtentIs : ReaderOptions → SoundMessage → Segments → Type 0
ExtentIs limits extent S =
    (x : MessageExtent) × HasExtent S limits x × (extent ≡ c_extent x)

-- S doesn't mean a value within the limits, for the reason that `validate` has.
abbrev pub RefusesExtent : ReaderOptions → Segments → Refusal → Type 0
RefusesExtent limits S r = (k : ErrorKind) × (r ≡ Layout k) × (validate S limits ≡ Err k)
