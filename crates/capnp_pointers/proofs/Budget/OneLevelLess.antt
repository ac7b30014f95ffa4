-- One level less, as a nesting limit counts it; and results that are passed on.
use Rattle.std.proofs.Common.{◌≡◌, ℕ, zero, suc, pred, ◌+◌, ◌*◌, ◌<◌, ◌≤◌, length, Result, Ok, Err, IfOk, IfErr, OnOk, OnErr, ap, ◌∙◌, arith}
use Rattle.std.proofs.lemmas.Int.{ints, to_z-of_z}
use mir.Syntax.{w32}
use mir.Val.{SFits, to_z, of_z}
use lib.IntN.{ℤ, pos, negsuc, ◌-ℤ◌}
use Rattle.capnp_format.specs.Means.{Claims}
use Rattle.capnp_format.specs.Segments.{Segments, segment, Target}
use Rattle.capnp_words.specs.declared.wire_pointer.StructSize.{StructSize}
use Rattle.capnp_pointers.specs.declared.object.Place.{Place}
use Rattle.capnp_pointers.specs.declared.object.Object.{Object}
use Rattle.capnp_pointers.specs.declared.object.Object.TheVariants.{Null as ObjectNull, Capability as ObjectCapability, Struct as ObjectStruct, Flat as ObjectFlat, Pointers as ObjectPointers, Structs as ObjectStructs}
use Rattle.capnp_pointers.specs.declared.object.Purpose.{Purpose}
use Rattle.capnp_pointers.specs.declared.object.Purpose.TheVariants.{Size, Value}
use Rattle.capnp_pointers.specs.Demands.{claimed_words, IsVoidList, IsInSegment}
use Rattle.capnp_pointers.specs.Objects.{IsObject}
use Rattle.capnp_pointers.proofs.OneObject.PartsMeant.{claim_struct, claim_list}
use Rattle.capnp_pointers.specs.Reading.{Reading, segment_read}
use Rattle.capnp_pointers.specs.Source.{levels}
use Rattle.capnp_pointers.proofs.WholeValue.WordsAdded.{beginning}
use Rattle.capnp_words.specs.Meter.{Meter}
use Rattle.capnp_pointers.specs.declared.object.ChildRows.{ChildRows}
use Rattle.capnp_pointers.specs.Sizes.{HasRows}

one_level : (z : ℤ) → SFits w32 z → 0 < levels z → levels (to_z w32 (of_z w32 (z -ℤ pos 1))) ≡ pred (levels z)
one_level (pos zero) fits some = absurd (omega arith)
one_level (pos (suc n)) fits some =
    let e : (pos (suc n) -ℤ pos 1) ≡ pos n = omega (arith, ints) in
    ap (λ x. levels (to_z w32 (of_z w32 x))) e ∙ ap levels (to_z-of_z w32 (pos n) (omega (arith, ints, fits)))
one_level (negsuc n) fits some = absurd (omega arith)

pub one_level_in : (z : ℤ) → SFits w32 z → 0 < levels z → levels (to_z w32 (of_z w32 (to_z w32 (of_z w32 z) -ℤ pos 1))) ≡ pred (levels z)
one_level_in z fits some = ap (λ y. levels (to_z w32 (of_z w32 (y -ℤ pos 1)))) (to_z-of_z w32 z fits) ∙ one_level z fits some

-- What holds of a result holds of it in other words.
pub ok_so : {A E : Type 0} (r : Result A E) {P Q : A → Type 0} → IfOk r P → ((x : A) → P x → Q x) → IfOk r Q
ok_so (Ok x) h f = f x h
ok_so (Err k) h f = tt

pub err_so : {A E : Type 0} (r : Result A E) {P Q : E → Type 0} → IfErr r P → ((k : E) → P k → Q k) → IfErr r Q
err_so (Ok x) h f = tt
err_so (Err k) h f = f k h

pub on_err : {A E : Type 0} (r : Result A E) {X : Type 0} → X → OnErr r X
on_err (Ok x) h = tt
on_err (Err k) h = h

pub on_err_so : {A E : Type 0} (r : Result A E) {X Y : Type 0} → OnErr r X → (X → Y) → OnErr r Y
on_err_so (Ok x) h f = tt
on_err_so (Err k) h f = f h

pub on_ok_so : {A E : Type 0} (r : Result A E) {X Y : Type 0} → OnOk r X → (X → Y) → OnOk r Y
on_ok_so (Ok x) h f = f h
on_ok_so (Err k) h f = tt

-- The words that an object claims are inside its segment, unless it is a list of void.
claims_there : (purpose : Purpose) (S : Segments) (a : Target) → IsInSegment purpose S a → (IsVoidList a.word → ⊥) → Claims S a (claimed_words a.word)
claims_there Value S a lies some = lies
claims_there Size S a lies some = lies some

-- An object is read that has pointers, those of these rows.
pub record Opened (purpose : Purpose) (r : Reading) (m m' : Meter) (x : Object) (rows : ChildRows) : Type 0 where
  pub is_read : IsObject purpose r m m' x
  pub has : HasRows x rows

-- There is a level for its pointers, and they are inside their segment.
pub object_level : {purpose : Purpose} {r : Reading} {m m' : Meter} {rows : ChildRows} (x : Object) → Opened purpose r m m' x rows → 0 < r.levels
object_level (ObjectStruct start size) o = o.is_read.1.meets.levels
object_level (ObjectPointers start i) o = o.is_read.1.meets.levels
object_level (ObjectStructs start size i) o = o.is_read.1.meets.levels
object_level ObjectNull o = absurd o.has
object_level (ObjectCapability i) o = absurd o.has
object_level (ObjectFlat start size i) o = absurd o.has

inside_struct : (purpose : Purpose) {r : Reading} {m m' : Meter} (start : Place) (size : StructSize) → IsObject purpose r m m' (ObjectStruct start size) → start.at + 1 * (size.data_words + size.pointers) ≤ length (segment r.segments start.segment)
inside_struct purpose {r} start size (a, o, z, (held, seg, at), wide, many) =
    let room = claims_there purpose r.segments a o.meets.claims (λ v. omega (arith, v.0, z)) in
    rw (seg, wide, many) (omega (arith, room, at, claim_struct a.word z))

inside_pointers : (purpose : Purpose) {r : Reading} {m m' : Meter} (start : Place) (i : ℕ) → IsObject purpose r m m' (ObjectPointers start i) → start.at + 1 * (0 + i) ≤ length (segment r.segments start.segment)
inside_pointers purpose {r} start i (a, o, z, six, (held, seg, at), many) =
    let room = claims_there purpose r.segments a o.meets.claims (λ v. omega (arith, v.1, six)) in
    rw seg (omega (arith, room, at, many, claim_list a.word 6 z six))

inside_structs : (purpose : Purpose) {r : Reading} {m m' : Meter} (start : Place) (size : StructSize) (i : ℕ) → IsObject purpose r m m' (ObjectStructs start size i) → start.at + i * (size.data_words + size.pointers) ≤ length (segment r.segments start.segment)
inside_structs purpose {r} start size i (a, o, z, seven, (held, seg, at), len, wide, many) =
    let room = claims_there purpose r.segments a o.meets.claims (λ v. omega (arith, v.1, seven)) in
    rw (seg, len, wide, many) (omega (arith, room, at, claim_list a.word 7 z seven, (o.meets.tagged (z, seven)).1))

pub object_inside : {purpose : Purpose} {r : Reading} {m m' : Meter} {rows : ChildRows} (x : Object) → Opened purpose r m m' x rows → rows.start.at + rows.count * (rows.data_words + rows.pointers) ≤ length (segment_read (beginning r rows.start))
object_inside {purpose} {r} {m} {m'} (ObjectStruct start size) o = rw (o.has.0, o.has.1, o.has.2, o.has.3) (inside_struct purpose {r = r} {m = m} {m' = m'} start size o.is_read)
object_inside {purpose} {r} {m} {m'} (ObjectPointers start i) o = rw (o.has.0, o.has.1, o.has.2, o.has.3) (inside_pointers purpose {r = r} {m = m} {m' = m'} start i o.is_read)
object_inside {purpose} {r} {m} {m'} (ObjectStructs start size i) o = rw (o.has.0, o.has.1, o.has.2, o.has.3) (inside_structs purpose {r = r} {m = m} {m' = m'} start size i o.is_read)
object_inside ObjectNull o = absurd o.has
object_inside (ObjectCapability i) o = absurd o.has
object_inside (ObjectFlat start size i) o = absurd o.has
