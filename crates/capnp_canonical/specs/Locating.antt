-- What C is told of the pointer at which a message is broken.
use Rattle.std.specs.Prelude.{◌≡◌, ℕ, Option, Some, None, if◌then◌else◌, nat_eq}
use Rattle.capnp_format.specs.Segments.{Segments}
use Rattle.capnp_arena.specs.declared.arena.reader_arena_impl.ReaderOptions.{ReaderOptions}
use Rattle.capnp_messages.specs.declared.messages.command.Command.{Command}
use Rattle.capnp_messages.specs.declared.messages.command.Command.TheVariants.{Canon, Size, Validate}
use Rattle.capnp_messages.specs.declared.messages.command.Form.TheVariants.{Flat}
use Rattle.capnp_refusals.specs.RefusedPointers.{refused_pointer}
use Rattle.capnp_refusals.specs.declared.refusals.search.RefusedPointer.{RefusedPointer}
use Rattle.capnp_numbers.specs.Numbers.{error_number}
use Rattle.capnp_canonical.specs.declared.locating.BrokenPointer.{BrokenPointer}

-- The command that reads a message like the reading with this number.
abbrev pub command_of_reading : ℕ → Command
command_of_reading reading =
    if nat_eq reading 1 then Canon Flat else if nat_eq reading 2 then Size else Validate

-- No pointer, and a pointer as C sees it.
abbrev pub no_pointer : BrokenPointer
no_pointer = record { refusal = 0; word = 0; segment = 0 }

abbrev pub c_pointer : Option RefusedPointer → BrokenPointer
c_pointer (Some p) =
    record { refusal = error_number p.refusal; word = p.word; segment = p.segment }
c_pointer None = no_pointer

-- The pointer at which this reading of S stops, within the limits, is p.
abbrev pub PointerIs : ℕ → ReaderOptions → BrokenPointer → Segments → Type 0
PointerIs reading limits p S = p ≡ c_pointer (refused_pointer (command_of_reading reading) S limits)
