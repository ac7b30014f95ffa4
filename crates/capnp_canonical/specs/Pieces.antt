-- A packed stream that C unpacks piece by piece.
use Rattle.std.specs.Prelude.{ℕ, ◌%◌, List, take, if◌then◌else◌, nat_eq}
use Rattle.capnp_packing.specs.Pieces.{Piece}
use Rattle.capnp_packing.specs.declared.packing.place.Place.{Place}
use Rattle.capnp_packing.specs.declared.packing.place.Place.TheVariants.{Tag, Kept, Zeros, Whole, Count, Raw}
use Rattle.capnp_canonical.specs.declared.packed.Unpacking.{Unpacking}

-- The place of the next packed byte.
abbrev pub next_place : Unpacking → Place
next_place u =
    if nat_eq u.place 0 then Tag
    else if nat_eq u.place 1 then Kept u.bits (u.left % 256)
    else if nat_eq u.place 2 then Zeros
    else if nat_eq u.place 3 then Whole (u.left % 256)
    else if nat_eq u.place 4 then Count
    else Raw u.left

-- The state at a place, with these zero bytes to come. A number that the place doesn't have is 0:
-- so between two words, with no zero bytes to come, all numbers are 0.
abbrev pub unpacking_at : ℕ → Place → Unpacking
unpacking_at zeros Tag = record { zeros = zeros; left = 0; place = 0; bits = 0 }
unpacking_at zeros (Kept bits left) = record { zeros = zeros; left = left; place = 1; bits = bits }
unpacking_at zeros Zeros = record { zeros = zeros; left = 0; place = 2; bits = 0 }
unpacking_at zeros (Whole left) = record { zeros = zeros; left = left; place = 3; bits = 0 }
unpacking_at zeros Count = record { zeros = zeros; left = 0; place = 4; bits = 0 }
unpacking_at zeros (Raw left) = record { zeros = zeros; left = left; place = 5; bits = 0 }

-- What a call did: how many packed bytes it took, how many bytes it wrote to `to`, and how far the
-- stream is unpacked now.
abbrev pub written_piece : ℕ → ℕ → List ℕ → Unpacking → Piece
written_piece taken written to u =
    record { taken = taken; bytes = take written to; zeros = u.zeros; place = next_place u }
