-- The pointer at which a command stops reading a message.
use Rattle.std.specs.Prelude.{◌≡◌, ℕ, Bool, true, false, Option, Some, None, Result, Ok, Err, if◌then◌else◌}
use Rattle.capnp_words.specs.declared.error.ErrorKind.{ErrorKind}
use Rattle.capnp_words.specs.declared.error.ErrorKind.TheVariants.{AllocationFailed}
use Rattle.capnp_words.specs.declared.error.ErrorKind.TheVariants.{MessageTooLarge}
use Rattle.capnp_words.specs.Meter.{unused}
use Rattle.capnp_format.specs.Segments.{Segments}
use Rattle.capnp_arena.specs.declared.arena.reader_arena_impl.ReaderOptions.{ReaderOptions}
use Rattle.capnp_pointers.specs.Metered.{Metered}
use Rattle.capnp_pointers.specs.Source.{levels}
use Rattle.capnp_pointers.specs.declared.object.Purpose.TheVariants.{Size}
use Rattle.capnp_pointers.specs.Testing.{IsTestName}
use Rattle.capnp_messages.specs.Roots.{message_root, read_message_root}
use Rattle.capnp_messages.specs.declared.messages.command.Command.{Command}
use Rattle.capnp_messages.specs.declared.messages.command.Command.TheVariants.{Canon, Check, Digest, Size as SizeCommand, Validate}
use Rattle.capnp_refusals.specs.Search.{Finding, of_values, search_on, search_place}
use Rattle.capnp_refusals.specs.declared.refusals.search.Demands.{Demands}

-- What a command demands of the objects of a message.
abbrev pub demands_of : Command → Demands
demands_of (Canon form) = of_values false
demands_of Digest = of_values false
demands_of Check = of_values true
demands_of Validate = of_values true
demands_of SizeCommand = record { purpose = Size; capabilities = true }

-- Searches S within n levels: reads the root pointer, and then searches what it leads to. If the root
-- pointer itself is refused, that is what is found.
abbrev pub message_searched : Demands → Segments → ℕ → Metered Finding
message_searched d S n m = search_on (message_root S n) (search_place d) (read_message_root S n m)

-- What a search has found. It is never refused.
abbrev pub finding : Result Finding ErrorKind → Finding
finding (Ok found) = found
finding (Err k) = None

-- The pointer at which the command stops reading S within the limits, None if it reads the whole
-- value of S.
abbrev pub refused_pointer : Command → Segments → ReaderOptions → Finding
refused_pointer command S limits =
    finding
    (message_searched (demands_of command) S (levels limits.nesting_limit)
    (unused limits.traversal_limit_in_words)).0

-- Whether a refusal is that of a pointer. No memory and a message that is too large aren't.
abbrev pub has_pointer : ErrorKind → Bool
has_pointer AllocationFailed = false
has_pointer (MessageTooLarge n) = false
has_pointer k = true

-- The pointer at which the command on S was refused with k, None if k isn't the refusal of a
-- pointer.
abbrev pub pointer_of_refusal : ErrorKind → Command → Segments → ReaderOptions → Finding
pointer_of_refusal k command S limits =
    if has_pointer k then refused_pointer command S limits else None

-- The command's refusal k is that of a pointer whose object is refused with l. A test has a name of
-- its own for a list without a level.
abbrev pub IsNameFor : Command → ErrorKind → ErrorKind → Type 0
IsNameFor Check l k = IsTestName l k
IsNameFor command l k = k ≡ l
