-- What is copied into 64 words of stack memory, and so without heap memory.
use Rattle.std.specs.Prelude.{ℕ, ◌+◌, ◌<◌, ◌≤◌, List}
use Rattle.capnp_format.specs.Canonical.{trim, word_count}
use Rattle.capnp_format.specs.Segments.{Segments}
use Rattle.capnp_format.specs.Tree.{Tree}
use Rattle.capnp_arena.specs.declared.arena.reader_arena_impl.ReaderOptions.{ReaderOptions}
use Rattle.capnp_framing.specs.Reading.{total}
use Rattle.capnp_messages.specs.MessageParts.{IsPartOf}
use Rattle.capnp_messages.specs.Messages.{IsValueOf}

-- S has fewer than 64 words, and a value within the limits whose canonical words, a pointer and a
-- body, are at most 64.
abbrev pub NeedsNoHeap : ReaderOptions → Segments → Type 0
NeedsNoHeap limits S =
    (total S < 64) × ((t : Tree) × IsValueOf S limits t × (1 + word_count (trim t) ≤ 64))

-- The path leads to a value within the limits whose canonical words are at most 64.
abbrev pub PartNeedsNoHeap : ReaderOptions → List ℕ → Segments → Type 0
PartNeedsNoHeap limits path S =
    (t : Tree) × IsPartOf S limits path t × (1 + word_count (trim t) ≤ 64)
