-- A packed stream that is unpacked piece by piece, from the front of one slice to the front of
-- another.
use Rattle.std.specs.Prelude.{◌≡◌, ◌≢◌, ◌<◌, ◌≤◌, ℕ, suc, ◌+◌, ◌-◌, Bool, true, false, if◌then◌else◌, ◌&&◌, ◌||◌, nat_eq, nat_lt}
use Rattle.std.specs.Prelude.{List, [], ◌∷◌, ◌++◌, length, replicate, take}
use Rattle.capnp_packing.specs.Packing.{GivesAndLeads, all_given, place_after, place_at_end, unpacked_bytes}
use Rattle.capnp_packing.specs.declared.packing.place.Place.{Place}
use Rattle.capnp_packing.specs.declared.packing.place.Place.TheVariants.{Zeros, Count}
use Rattle.capnp_packing.specs.declared.packing.unpacking.Progress.{Progress}

-- Whether a place is before a count.
abbrev pub is_before_count : Place → Bool
is_before_count Zeros = true
is_before_count Count = true
is_before_count _ = false

-- Whether a call takes another packed byte if there are `had` unpacked bytes and room for `room`: it
-- takes a count also if they fill the room exactly.
abbrev pub takes_next : ℕ → ℕ → Place → Bool
takes_next room had place = nat_lt had room || (nat_eq had room && is_before_count place)

-- The number of packed bytes that a call takes, one after another.
unfoldable pub taken_of : ℕ → ℕ → Place → List ℕ → ℕ
taken_of room had place [] = 0
taken_of room had place (b ∷ bytes) =
    if takes_next room had place
    then suc (taken_of room (had + length (all_given place b)) (place_after place b) bytes)
    else 0

-- What is still to be written: `zeros` zero bytes, and then what the packed bytes unpack to from
-- `place` on.
abbrev pub bytes_due : ℕ → Place → List ℕ → List ℕ
bytes_due zeros place packed = replicate zeros 0 ++ unpacked_bytes place packed

-- What one call unpacks: how many packed bytes it takes, the bytes that it writes, how many zero
-- bytes come after them, and the place of the next packed byte.
pub record Piece : Type 0 where
  pub taken : ℕ
  pub bytes : List ℕ
  pub zeros : ℕ
  pub place : Place

-- Unpacks to at most `room` bytes: `zeros` zero bytes, and then what the packed bytes unpack to from
-- `place` on. What doesn't fit are zero bytes.
abbrev pub unpacked_piece : ℕ → ℕ → Place → List ℕ → Piece
unpacked_piece room zeros place packed =
    let n = taken_of room zeros place packed in
    let all = replicate zeros 0 ++ unpacked_bytes place (take n packed) in
    record {
      taken = n;
      bytes = take room all;
      zeros = length all - room;
      place = place_at_end place (take n packed);
    }

-- What a call did, with `to` after it.
abbrev pub piece_of : Progress → List ℕ → Piece
piece_of done to =
    record { taken = done.taken; bytes = take done.given to; zeros = done.zeros; place = done.place }

-- At least one of the packed bytes was unpacked, and none that the room isn't for.
pub record UnpacksNext (place : Place) (packed to : List ℕ) (done : Progress) : Type 0 where
  pub some : 0 < done.taken
  pub taken : done.taken ≤ length packed
  pub within : done.given ≤ length to
  pub full : done.zeros ≢ 0 → done.given ≡ length to
  pub leads : GivesAndLeads place (take done.taken packed) (take done.given to) done.zeros done.place
  pub exact : taken_of (length to) 0 place (take done.taken packed) ≡ done.taken
