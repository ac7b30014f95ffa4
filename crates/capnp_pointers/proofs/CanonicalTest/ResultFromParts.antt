-- What the test of a place and that of pointers return, from what the tests of their parts return.
use Rattle.std.proofs.Common.{length, ◌≡◌, ◌≢◌, ◌≤◌, ℕ, ℤ, pred, ap, arith, ◌+◌, ◌-◌, ◌<◌, sym, ◌∙◌, subst}
use Rattle.capnp_format.specs.Word.{kind, data_words, pointer_count, list_count}
use Rattle.capnp_words.specs.declared.wire_pointer.StructSize.{StructSize}
use Rattle.capnp_words.specs.Meter.{Meter}
use Rattle.capnp_pointers.specs.declared.object.Object.TheVariants.{Struct as ObjectStruct, Structs as ObjectStructs}
use Rattle.capnp_pointers.specs.declared.object.Place.{Place}
use Rattle.capnp_pointers.specs.declared.object.Purpose.TheVariants.{Value}
use Rattle.capnp_pointers.specs.Objects.{EntersNear, IsHeld, IsObject}
use Rattle.capnp_pointers.specs.Reading.{Reading, segment_read, word_of}
use Rattle.capnp_format.specs.Segments.{segment}
use Rattle.std.proofs.lemmas.Int.{to_z-of_z}
use mir.Syntax.{w32}
use mir.Val.{SFits, to_z, of_z}
use Rattle.capnp_pointers.specs.Source.{levels}
use Rattle.capnp_pointers.specs.declared.object.Object.{Object}
use Rattle.capnp_pointers.proofs.Following.NearByWord.{struct_by_word}
use Rattle.capnp_pointers.proofs.CanonicalTest.FoundBySteps.{structs_room}

-- Small facts about numbers that describe the words of a segment.

pub no_word : {i n m : ℕ} → n ≡ m → n ≤ i → i < m → ⊥
no_word e more less = omega (arith, e, more, less)

pub some_words : {n m : ℕ} → n ≡ m → n ≢ 0 → 0 < m
some_words e some = omega (arith, e, some)

-- One level less, in the numbers that a function takes and returns.
pub inner_levels : (n l : ℤ) → SFits w32 n → SFits w32 l → levels l ≡ pred (levels (to_z w32 (of_z w32 n))) → levels (to_z w32 (of_z w32 l)) ≡ pred (levels n)
inner_levels n l n_fits l_fits less = ap levels (to_z-of_z w32 l l_fits) ∙ less ∙ ap (λ z. pred (levels z)) (to_z-of_z w32 n n_fits)

-- An object under other names, and one that is read near.
pub object_is : (f : ℤ → Reading) (m m' : Meter) {y z : ℤ} {x w : Object} → y ≡ z → x ≡ w → IsObject Value (f y) m m' x → IsObject Value (f z) m m' w
object_is f m m' {z = z} {x = x} e same object = subst (λ o. IsObject Value (f z) m m' o) same (subst (λ i. IsObject Value (f i) m m' x) e object)

pub struct_read : {r : Reading} {m m' : Meter} {w : ℕ} (start : Place) (size : StructSize) → w ≡ word_of r → kind w ≡ 0 → IsHeld r.segments start → start.segment ≡ r.segment → EntersNear Value r m m' start.at →
    size.data_words ≡ data_words w → size.pointers ≡ pointer_count w → IsObject Value r m m' (ObjectStruct start size)
struct_read {r} {m} {m'} start size there is_struct held seg o wide many = struct_by_word {r = r} {m = m} {m' = m'} start size (subst (λ w. kind w ≡ 0) there is_struct) held seg o (wide ∙ ap data_words there) (many ∙ ap pointer_count there)

-- The words that a list of structs claims are in its pointer's segment.
pub structs_room_at : {r : Reading} {m m' : Meter} {claimed : ℕ} (start : Place) (size : StructSize) (n : ℕ) → list_count (word_of r) ≡ claimed → r.segment ≡ start.segment → kind (word_of r) < 2 → IsObject Value r m m' (ObjectStructs start size n) → start.at + claimed ≤ length (segment_read r)
structs_room_at {r} {m} {m'} {claimed} start size n count here near object =
    subst (λ w. start.at + w ≤ length (segment_read r)) count (subst (λ s. start.at + list_count (word_of r) ≤ length (segment r.segments s)) (sym here) (structs_room {r = r} {m = m} {m' = m'} start size n near object))
