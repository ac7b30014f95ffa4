-- Packed bytes (the encoding specification's "Packing"). A tag has a bit for each byte of a word,
-- the lowest for the first: if it is 1, the byte is packed after the tag; otherwise the byte is
-- zero. After a tag of 0 comes the number of zero words that follow that one. After a tag of 255
-- and the word's eight bytes comes the number of words that follow unpacked.
use Rattle.std.specs.Prelude.{◌≡◌, ℕ, zero, suc, ◌+◌, ◌-◌, ◌*◌, ◌/◌, ◌%◌, Bool, true, false}
use Rattle.std.specs.Prelude.{if◌then◌else◌, nat_eq}
use Rattle.std.specs.Prelude.{List, [], ◌∷◌, ◌++◌, drop, slice_index, replicate, ⊤}
use Rattle.std.specs.Prelude.{Option, Some, None, option_to_list}
use Rattle.capnp_packing.specs.declared.packing.place.Place.{Place}
use Rattle.capnp_packing.specs.declared.packing.place.Place.TheVariants.{Tag, Kept, Zeros, Whole, Count, Raw}

-- Of the last n bytes of a word, the number that aren't packed before the first one that is.
abbrev pub lead : ℕ → ℕ → ℕ
lead zero bits = 0
lead (suc n) bits = if nat_eq (bits % 2) 1 then 0 else lead n (bits / 2) + 1

-- The place after those: before that first byte, or before a tag if there is none.
abbrev pub place_within : ℕ → ℕ → Place
place_within zero bits = Tag
place_within (suc n) bits = if nat_eq (bits % 2) 1 then Kept (bits / 2) n else place_within n (bits / 2)

-- The byte that the packed byte b itself stands for at a place, if it stands for one.
abbrev pub byte_given : Place → ℕ → Option ℕ
byte_given (Kept bits left) b = Some b
byte_given (Whole left) b = Some b
byte_given (Raw left) b = Some b
byte_given _ b = None

-- The number of zero bytes that b unpacks to after that.
abbrev pub zeros_given : Place → ℕ → ℕ
zeros_given Tag b = if nat_eq b 0 then 8 else if nat_eq b 255 then 0 else lead 8 b
zeros_given (Kept bits left) b = lead left bits
zeros_given Zeros b = 8 * b
zeros_given _ b = 0

-- The place after b.
abbrev pub place_after : Place → ℕ → Place
place_after Tag b = if nat_eq b 0 then Zeros else if nat_eq b 255 then Whole 7 else place_within 8 b
place_after (Kept bits left) b = place_within left bits
place_after Zeros b = Tag
place_after (Whole left) b = if nat_eq left 0 then Count else Whole (left - 1)
place_after Count b = if nat_eq b 0 then Tag else Raw (8 * b - 1)
place_after (Raw left) b = if nat_eq left 0 then Tag else Raw (left - 1)

-- All bytes that b unpacks to.
abbrev pub all_given : Place → ℕ → List ℕ
all_given place b = option_to_list (byte_given place b) ++ replicate (zeros_given place b) 0

-- What packed bytes unpack to from a place on, even if they are cut short.
unfoldable pub unpacked_bytes : Place → List ℕ → List ℕ
unpacked_bytes place [] = []
unpacked_bytes place (b ∷ bytes) = all_given place b ++ unpacked_bytes (place_after place b) bytes

-- The place after all packed bytes.
unfoldable pub place_at_end : Place → List ℕ → Place
place_at_end place [] = place
place_at_end place (b ∷ bytes) = place_at_end (place_after place b) bytes

-- The packed bytes are whole: they don't end within a word or before a number.
abbrev pub IsWhole : Place → List ℕ → Type 0
IsWhole place packed = place_at_end place packed ≡ Tag

-- The packed bytes give `bytes` and then `zeros` zero bytes, and lead to the place `next`.
abbrev pub GivesAndLeads : Place → List ℕ → List ℕ → ℕ → Place → Type 0
GivesAndLeads place packed bytes zeros next =
    (unpacked_bytes place packed ≡ bytes ++ replicate zeros 0) × (place_at_end place packed ≡ next)

-- The bytes to come, if they are known: `due` zero bytes, and then what the packed bytes give from
-- this place on.
abbrev pub bytes_behind : ℕ → Place → Option (List ℕ) → Option (List ℕ)
bytes_behind due place None = None
bytes_behind due place (Some packed) = Some (replicate due 0 ++ unpacked_bytes place packed)

-- If the packed bytes are known, they still end at the same place after some of them were read.
abbrev pub KeepsEnd : Place → Option (List ℕ) → Place → Option (List ℕ) → Type 0
KeepsEnd place None next new = ⊤
KeepsEnd place (Some packed) next None = ⊥
KeepsEnd place (Some packed) next (Some rest) = place_at_end next rest ≡ place_at_end place packed

-- Whether the packed bytes from a place on are whole, if they are known.
abbrev pub is_tag : Place → Bool
is_tag Tag = true
is_tag _ = false

abbrev pub whole_behind : Place → Option (List ℕ) → Option Bool
whole_behind place None = None
whole_behind place (Some packed) = Some (is_tag (place_at_end place packed))

-- The last n bytes of a word, by the remaining bits of its tag: a byte is packed if its bit is set,
-- and otherwise zero.
unfoldable pub expanded : ℕ → ℕ → List ℕ → List ℕ
expanded zero bits packed = []
expanded (suc n) bits packed =
    slice_index packed 0 * (bits % 2) ∷ expanded n (bits / 2) (drop (bits % 2) packed)

-- The number of the last n bytes of a word that are packed.
unfoldable pub ones : ℕ → ℕ → ℕ
ones zero bits = 0
ones (suc n) bits = bits % 2 + ones n (bits / 2)

-- What all packed bytes of an output stand for, if they are known and whole.
abbrev pub unpacked_known : Option (List ℕ) → Option (List ℕ)
unpacked_known None = None
unpacked_known (Some packed) =
    if is_tag (place_at_end Tag packed) then Some (unpacked_bytes Tag packed) else None

-- The tag of the bytes of a word, and the bytes that are packed after it.
abbrev pub tag_of_word : List ℕ → ℕ
tag_of_word [] = 0
tag_of_word (b ∷ bs) = (if nat_eq b 0 then 0 else 1) + 2 * tag_of_word bs

abbrev pub nonzero_bytes : List ℕ → List ℕ
nonzero_bytes [] = []
nonzero_bytes (b ∷ bs) = if nat_eq b 0 then nonzero_bytes bs else b ∷ nonzero_bytes bs

-- The packed bytes are whole and stand for `bytes`.
abbrev pub Packs : List ℕ → List ℕ → Type 0
Packs packed bytes = (unpacked_bytes Tag packed ≡ bytes) × IsWhole Tag packed
