-- The place in a message of a path's end in the program.
use Rattle.std.specs.Prelude.{Result, Ok, Err}
use Rattle.capnp_words.specs.declared.error.ErrorKind.{ErrorKind}
use Rattle.capnp_arena_traits.specs.declared.arena.reader_arena.ReaderArena.{Ghosts}
use Rattle.capnp_pointers.specs.Reading.{Reading}
use Rattle.capnp_pointers.specs.declared.pointers.Pointer.{Pointer}
use Rattle.capnp_pointers.specs.Pointers.{reading}
use Rattle.capnp_messages.specs.Parts.{PathEnd, to_pointer, to_element}
use Rattle.capnp_messages.specs.declared.messages.path.Reached.{Reached}
use Rattle.capnp_messages.specs.declared.messages.path.Reached.TheVariants.{Pointer as AtPointer}
use Rattle.capnp_messages.specs.declared.messages.path.Reached.TheVariants.{Element as AtElement}

module _ {A : Type 0} (g : Ghosts A) where
  -- The place of a pointer that a call returned, or the refusal.
  abbrev pub pointer_result : Result (Pointer A g) ErrorKind → Result Reading ErrorKind
  pointer_result (Ok pointer) = Ok (reading g pointer)
  pointer_result (Err k) = Err k

  -- The end of a path, by its place.
  abbrev pub end_read : Reached A g → PathEnd
  end_read (AtPointer pointer) = to_pointer (reading g pointer)
  end_read (AtElement element) =
      to_element (reading g element.first) element.size.data_words element.size.pointers

  -- The end of a path that a call returned, or the refusal.
  abbrev pub end_result : Result (Reached A g) ErrorKind → Result PathEnd ErrorKind
  end_result (Ok end) = Ok (end_read end)
  end_result (Err k) = Err k
