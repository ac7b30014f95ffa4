-- The places inside an object that was read.
use Rattle.std.proofs.Common.{◌≡◌, ℕ, ◌+◌, ◌*◌, ◌<◌, ◌≤◌, length, Result, pred, refl, ap, arith}
use Rattle.capnp_words.specs.declared.wire_pointer.StructSize.{StructSize}
use Rattle.capnp_format.specs.Segments.{segment}
use Rattle.capnp_words.specs.declared.error.ErrorKind.{ErrorKind}
use Rattle.capnp_words.specs.Meter.{Meter}
use Rattle.capnp_arena_traits.specs.declared.arena.reader_arena.ReaderArena.{Ghosts}
use Rattle.capnp_pointers.specs.declared.object.Place.{Place}
use Rattle.capnp_pointers.specs.declared.object.Purpose.TheVariants.{Value}
use Rattle.capnp_pointers.specs.Enter.{Shape, read}
use Rattle.capnp_pointers.specs.Metered.{onward, outcome}
use Rattle.capnp_pointers.specs.declared.object.Object.TheVariants.{Struct as ObjectStruct, Pointers as ObjectPointers, Structs as ObjectStructs}
use Rattle.capnp_pointers.specs.Objects.{IsHeld, IsObjectRead}
use Rattle.capnp_pointers.specs.Reading.{Reading}
use Rattle.capnp_pointers.specs.Source.{levels}
use Rattle.capnp_pointers.specs.declared.pointers.Pointer.{Pointer}
use Rattle.capnp_pointers.specs.Pointers.{reading}
use Rattle.capnp_pointers.proofs.OneObject.PartsMeant.{claim_list, claim_struct}
use Rattle.capnp_pointers.proofs.WholeValue.WordsAdded.{row_within}
use Rattle.capnp_messages.specs.Parts.{end_in, inside, step, to_pointer}

-- Element i of n elements of this width is inside the words of all.
pub row_inside : (start n i w d q room : ℕ) → start + n * (d + q) ≤ room → i < n → w ≡ d + q → start + i * w + (d + q) ≤ room
row_inside start n i w d q room all less is = rw is (omega (arith, row_within i n (d + q) less, all))

-- The words from a place of an object on, which are inside its segment.
pub record Room (r : Reading) (start : Place) (words : ℕ) : Type 0 where
  pub held : IsHeld r.segments start
  pub inside : start.at + words ≤ length (segment r.segments start.segment)

pub struct_room : (r : Reading) (start : Place) (size : StructSize) → IsObjectRead Value r (ObjectStruct start size) → Room r start (size.data_words + size.pointers)
struct_room r start size read =
    let (a, o, z, (held, seg, at), wide, many) = read.object_of in
    record { held = held; inside = rw (seg, wide, many) (omega (arith, o.meets.claims, at, claim_struct a.word z)) }

pub pointers_room : (r : Reading) (start : Place) (i : ℕ) → IsObjectRead Value r (ObjectPointers start i) → Room r start i
pointers_room r start i read =
    let (a, o, z, six, (held, seg, at), many) = read.object_of in
    record { held = held; inside = rw seg (omega (arith, o.meets.claims, at, many, claim_list a.word 6 z six)) }

pub structs_room : (r : Reading) (start : Place) (size : StructSize) (i : ℕ) → IsObjectRead Value r (ObjectStructs start size i) → Room r start (i * (size.data_words + size.pointers))
structs_room r start size i read =
    let (a, o, z, seven, (held, seg, at), len, wide, many) = read.object_of in
    record { held = held; inside = rw (seg, len, wide, many) (omega (arith, o.meets.claims, at, claim_list a.word 7 z seven, (o.meets.tagged (z, seven)).1)) }

-- The pointer at the start of an object, by its source, its place and its levels.
pub inside_at : {A : Type 0} (g : Ghosts A) (from inner : Pointer A g) (start : Place) → inner.source ≡ from.source → inner.place ≡ start → levels inner.nesting_limit ≡ pred (levels from.nesting_limit) → reading g inner ≡ inside (reading g from) start.segment start.at
inside_at g from inner start source place less = rw (source, place, less) refl

-- The next end of a path, when the object was read.
pub step_in : (r : Reading) (i : ℕ) (m m' : Meter) (o : Result Shape ErrorKind) → read Value r m ≡ (o, m') →
    step (to_pointer r) i m ≡ onward (λ o. outcome (end_in r o i)) (o, m')
step_in r i m m' o e = ap (onward (λ o. outcome (end_in r o i))) e
