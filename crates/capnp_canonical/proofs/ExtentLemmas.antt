-- A message that means a value within the limits is sound.
use Rattle.std.proofs.Common.{Err}
use Rattle.std.proofs.lemmas.Bool.{false≢true}
use Rattle.capnp_format.specs.Segments.{Segments}
use Rattle.capnp_arena.specs.declared.arena.reader_arena_impl.ReaderOptions.{ReaderOptions}
use Rattle.capnp_messages.specs.Messages.{IsReadable}
use Rattle.capnp_messages.proofs.ExtentLemmas.{readable_if}
use Rattle.capnp_canonical.specs.Validation.{RefusesExtent}
use Rattle.capnp_canonical.specs.declared.refusal.Refusal.{Refusal}

pub extent_granted : (limits : ReaderOptions) {r : Refusal} (S : Segments) → RefusesExtent limits S r → IsReadable S limits → ⊥
extent_granted limits S (k, named, refused) readable = absurd (false≢true ((readable_if S limits (Err k) refused).1 readable))
