-- What calls return that follow a pointer, and what they leave of the limiter: functions of the
-- words that they read.
use Rattle.std.specs.Prelude.{ℕ, List, length, Option, Some, Result, Ok, Err, if◌then◌else◌}
use Rattle.std.specs.Prelude.{nat_eq, nat_le}
use Rattle.std.specs.Borrow.{Bor}
use Rattle.std.specs.Result.{result_err}
use Rattle.capnp_words.specs.declared.error.ErrorKind.{ErrorKind}
use Rattle.capnp_words.specs.declared.error.ErrorKind.TheVariants.{MessageContainsNonCapabilityPointerWhereCapabilityPointerWasExpected}
use Rattle.capnp_words.specs.declared.error.ErrorKind.TheVariants.{MessageContainsNullCapabilityPointer}
use Rattle.capnp_words.specs.declared.error.ErrorKind.TheVariants.{MessageContainsOutOfBoundsPointer}
use Rattle.capnp_words.specs.declared.error.ErrorKind.TheVariants.{ReadLimitExceeded}
use Rattle.capnp_words.specs.Meter.{Meter, charged}
use Rattle.capnp_format.specs.Bytes.{message}
use Rattle.capnp_format.specs.Segments.{segment}
use Rattle.capnp_format.specs.Word.{lower_half, upper_half}
use Rattle.capnp_arena_traits.specs.Checks.{misplaced}
use Rattle.capnp_arena_traits.specs.declared.arena.reader_arena.ReaderArena.{Ghosts}
use Rattle.capnp_pointers.specs.Expected.{Expectation, struct_expected}
use Rattle.capnp_pointers.specs.Metered.{covers}
use Rattle.capnp_pointers.specs.Reading.{Reading, source_start, word_of}
use Rattle.capnp_pointers.specs.Source.{levels}
use Rattle.capnp_pointers.specs.Values.{expect}
use Rattle.capnp_pointers.specs.declared.source.Source.TheVariants.{Arena}
use Rattle.typed_reading.specs.Values.{default_place}

-- The refusal of a call that expects an object of some kind at a place, if it is refused, and the
-- limiter afterwards.
unfoldable pub reading_outcome : Expectation → Reading → Meter → Option ErrorKind × Meter
reading_outcome expected r m =
    let x = expect expected r m in
    (result_err x.0, x.1)

-- The same of a call with a default, which is read if the pointer is null.
unfoldable pub default_outcome :
    Expectation → List ℕ → Reading → Meter → Option ErrorKind × Meter
default_outcome expected default r m =
    if nat_eq (word_of r) 0 then
    (if nat_le 8 (length default) then reading_outcome expected (default_place default) m
    else (Some MessageContainsOutOfBoundsPointer, m))
    else reading_outcome expected r m

-- What reading a pointer word as a capability returns: its index, or the refusal.
abbrev pub capability_index : ℕ → Result ℕ ErrorKind
capability_index word =
    if nat_eq word 0 then Err MessageContainsNullCapabilityPointer
    else if nat_eq (lower_half word) 3 then Ok (upper_half word)
    else Err MessageContainsNonCapabilityPointerWhereCapabilityPointerWasExpected

module _ {A : Type 0} (g : Ghosts A) where
  -- The place of the root pointer of a message.
  abbrev pub root_place : Bor A → Reading
  root_place arena =
      record (source_start g (Arena arena)) { levels = levels (g.nesting arena.now) }

  -- The refusal of reading the struct that the root of a message is, if it is refused, and the
  -- limiter afterwards. The root pointer is charged as one word before it is followed.
  unfoldable pub root_outcome : Bor A → Meter → Option ErrorKind × Meter
  root_outcome arena m =
      let S = message (g.segments arena.now) in
      let charging = g.charging arena.now in
      if nat_eq (length (segment S 0)) 0 then (Some (misplaced S 0 (g.absent arena.now 0)), m)
      else if covers charging m 1 then
      reading_outcome struct_expected (root_place arena) (charged charging m 1)
      else (Some ReadLimitExceeded, m)
