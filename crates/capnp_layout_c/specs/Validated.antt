-- Why a whole message isn't validated, and where.
use Rattle.std.specs.Prelude.{◌≡◌, ℕ, ℤ, true, List, Some, Ok, Err}
use Rattle.std.specs.Borrow.{Bor}
use Rattle.capnp_words.specs.Meter.{Meter, unused}
use Rattle.capnp_words.specs.declared.error.ErrorKind.{ErrorKind}
use Rattle.capnp_pointers.specs.Source.{levels}
use Rattle.capnp_messages.specs.Extents.{root_extent}
use Rattle.capnp_refusals.specs.RefusedPointers.{message_searched}
use Rattle.capnp_refusals.specs.Search.{of_values}
use Rattle.capnp_numbers.specs.Numbers.{error_number}
use Rattle.capnp_layout_c.specs.Lent.{left_over, lent}

-- Reading the whole value of the message, from its root on, is refused with the error of this number,
-- at the pointer at this word of this segment. The words left go from `old` to `new`.
pub record RefusesValue (list : List (Bor (List ℕ))) (nesting : ℤ)
    (old new segment word number : ℕ) : Type 0 where
  pub kind : ErrorKind
  pub left : Meter
  pub numbered : number ≡ error_number kind
  pub leaves : new ≡ left_over old left.left
  pub refused : root_extent (lent list) (levels nesting) (unused (Some old)) ≡ (Err kind, left)
  pub found : message_searched (of_values true) (lent list) (levels nesting) (unused (Some old))
      ≡ (Ok (Some (record { segment = segment; word = word; refusal = kind })), left)
