-- Where sections, rows and lists end: within their segment, and so at positions of 32 bits.
use Rattle.std.proofs.Common.{◌≡◌, ◌↔◌, ◌⊎◌, inl, Bool, IsTrue, ℕ, zero, suc, ◌+◌, ◌*◌, ◌^◌, ◌<◌, ◌≤◌, length, refl, sym, ap, ap₂, ◌∙◌, arith}
use Rattle.std.proofs.lemmas.Bool.{false≢true}
use Rattle.std.proofs.Common.{false}
use Rattle.capnp_format.specs.Bytes.{words_of}
use Rattle.capnp_format.specs.Numbers.{words_for}
use Rattle.capnp_format.specs.Segments.{segment}
use Rattle.capnp_format.specs.Word.{element_size, list_count}
use Rattle.capnp_words.specs.Meter.{Meter}
use Rattle.capnp_words.specs.Sizes.{size_number}
use Rattle.capnp_words.specs.declared.wire_pointer.ElementSize.{ElementSize}
use Rattle.capnp_pointers.specs.Demands.{claimed_words}
use Rattle.capnp_pointers.specs.Objects.{IsObject}
use Rattle.capnp_pointers.specs.Reading.{Reading}
use Rattle.capnp_pointers.specs.declared.object.Object.TheVariants.{Flat as ObjectFlat, Pointers as ObjectPointers}
use Rattle.capnp_pointers.specs.declared.object.Place.{Place}
use Rattle.capnp_pointers.specs.declared.object.Purpose.TheVariants.{Value}
use Rattle.capnp_pointers.proofs.OneObject.PartsMeant.{claim_list, claim_flat}
use Rattle.capnp_pointers.proofs.WholeValue.WordsAdded.{row_within}
use Rattle.capnp_pointers.proofs.CanonicalTest.FoundBySteps.{pointers_room}

-- Row i of n, if its widths have the other names x and y.
pub row_end : {i n d q x y l : ℕ} (s : ℕ) → x ≡ d → y ≡ q → i < n → s + n * (d + q) ≤ l → s + i * (x + y) + x + y ≤ l
row_end {i} {n} {d} {q} {x} {y} s wide many less room =
    let e : i * (x + y) ≡ i * (d + q) = ap₂ (λ a b. i * (a + b)) wide many in
    omega (arith, e, wide, many, row_within i n (d + q) less, room)

-- Its words, and the positions where it starts and its sections end, fit 32 bits.
pub row_fits : {i n d q x y b l : ℕ} (s : ℕ) → x ≡ d → y ≡ q → i < n → s + n * (d + q) ≤ l → b ≡ 8 * l → b < 8 * 2 ^ 32 →
    (i * (x + y) < 2 ^ 32) × (s + i * (x + y) < 2 ^ 32) × (s + i * (x + y) + x < 2 ^ 32) × (s + i * (x + y) + x + y < 2 ^ 32)
row_fits {i} {n} {d} {q} {x} {y} {b} {l} s wide many less room held small = ends (i * (x + y)) (row_end s wide many less room)
  where
    ends : (w : ℕ) → s + w + x + y ≤ l → (w < 2 ^ 32) × (s + w < 2 ^ 32) × (s + w + x < 2 ^ 32) × (s + w + x + y < 2 ^ 32)
    ends w within = (omega (arith, within, held, small), omega (arith, within, held, small), omega (arith, within, held, small), omega (arith, within, held, small))

-- A section that doesn't end in a word that is used isn't empty.
pub some_section : {b : Bool} (n : ℕ) {Q : Type 0} → b ≡ false → IsTrue b ↔ ((n ≡ 0) ⊎ Q) → 0 < n
some_section zero unused ends = absurd (false≢true (sym unused ∙ ends.1 (inl refl)))
some_section (suc n) unused ends = omega arith

pub last_of : {n : ℕ} (s : ℕ) → 0 < n → 1 ≤ s + n
last_of s some = omega (arith, some)

-- A list of numbers is inside its segment, which has fewer than 2^32 words.
pub flat_room : {r : Reading} {m m' : Meter} (start : Place) (size : ElementSize) (n : ℕ) → IsObject Value r m m' (ObjectFlat start size n) → start.at + words_for (size_number size) n ≤ length (words_of start.bytes.now)
flat_room {r} start size n (a, o, z, small, (held, seg, at), width, len) =
    let claimed : claimed_words a.word ≡ words_for (size_number size) n = claim_list a.word (element_size a.word) z refl ∙ claim_flat (element_size a.word) (list_count a.word) small ∙ sym (ap₂ words_for width len) in
    omega (arith, o.meets.claims, claimed, at, ap length held.0, ap (λ s. length (segment r.segments s)) seg)

pub flat_short : {r : Reading} {m m' : Meter} (start : Place) (size : ElementSize) (n : ℕ) → IsObject Value r m m' (ObjectFlat start size n) → length (words_of start.bytes.now) < 2 ^ 32
flat_short start size n (a, o, z, small, (held, seg, at), width, len) = omega (arith, ap length held.0, held.1, held.2)

pub flat_size : {r : Reading} {m m' : Meter} (start : Place) (size : ElementSize) (n : ℕ) → IsObject Value r m m' (ObjectFlat start size n) → size_number size ≤ 5
flat_size start size n (a, o, z, small, starts, width, len) = omega (arith, small, width)

pub pointers_fit : {r : Reading} {m m' : Meter} (start : Place) (n : ℕ) → IsObject Value r m m' (ObjectPointers start n) → start.at + n < 2 ^ 32
pointers_fit {r} {m} {m'} start n (a, o, z, six, (held, seg, at), many) = omega (arith, pointers_room {r = r} {m = m} {m' = m'} start n (a, o, z, six, (held, seg, at), many), held.1, held.2)
