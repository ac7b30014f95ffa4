-- What is written to a struct's data section.
use Rattle.std.proofs.Common.{◌≡◌, inl, inr, ℕ, ◌+◌, ◌*◌, ◌%◌, ◌^◌, ◌<◌, ◌≤◌, Bool, true, false, ◌&&◌, nat_le, nat_lt, cond, Option, Some, None, refl, sym, ap, ◌∙◌, subst, arith}
use Rattle.std.proofs.lemmas.Bool.Decides.{nat_tests}
use Rattle.capnp_words.specs.declared.error.ErrorKind.{ErrorKind}
use Rattle.capnp_words.specs.declared.error.ErrorKind.TheVariants.{NoSuchPlace}
use Rattle.capnp_words.specs.declared.wire_pointer.ElementSize.{ElementSize}
use Rattle.capnp_words.specs.declared.wire_pointer.ElementSize.TheVariants.{Void, Bit, Byte, TwoBytes, FourBytes, EightBytes, Pointer, InlineComposite}
use Rattle.capnp_words.specs.Sizes.{size_number}
use Rattle.capnp_format.specs.Numbers.{element_bits}
use Rattle.capnp_format.specs.Segments.{Segments}
use Rattle.capnp_in_place.specs.declared.existing.ExistingStruct.{ExistingStruct}
use Rattle.capnp_allocation.specs.Fields.{with_field}
use Rattle.capnp_builders.specs.Places.{field, number_field}
use Rattle.capnp_builders.proofs.FieldPlaces.{widths}
use Rattle.capnp_edits.specs.declared.edit.tasks.Number.{Number}
use Rattle.capnp_edits.specs.Tasks.{is_number}
use Rattle.capnp_edits.specs.Edits.{bits_of, PutsBits, are_written, are_outside}

-- a number that starts after whole words is aligned
pub number_aligned : (p i n : ℕ) → 0 < n → n ≤ 8 → 8 % n ≡ 0 → (8 * p + i * n) % n ≡ 0
number_aligned p i n some l e = elim (widths n some l e) [
  | inl w ↦ rw w (omega arith)
  | inr (inl w) ↦ rw w (omega arith)
  | inr (inr (inl w)) ↦ rw w (omega arith)
  | inr (inr (inr w)) ↦ rw w (omega arith)
]

-- a number that the struct has is written
pub number_written : (S R : Segments) (e : ExistingStruct) (i n x : ℕ) → 0 < n → i * n + n ≤ 8 * e.size.data_words → R ≡ with_field S e.segment (8 * (8 * e.start + i * n)) (8 * n) x → PutsBits S R e (number_field n i x) None
number_written S R e i n x some there written =
    are_written (grind arith) (grind arith) refl (written ∙ ap (λ b. with_field S e.segment b (8 * n) x) (let h : 8 * (8 * e.start + i * n) ≡ 64 * e.start + 8 * (i * n) = grind arith in h))

-- a number that the struct doesn't have
pub number_outside : (S : Segments) (e : ExistingStruct) (i n x : ℕ) → 8 * e.size.data_words < i * n + n → PutsBits S S e (number_field n i x) (Some NoSuchPlace)
number_outside S e i n x past = are_outside (grind arith) refl refl

-- a bit that the struct has is written
pub bit_written : (S R : Segments) (e : ExistingStruct) (i : ℕ) (b : Bool) → i < 64 * e.size.data_words → R ≡ with_field S e.segment (64 * e.start + i) 1 (cond b 1 0) → PutsBits S R e (field i 1 (cond b 1 0)) None
bit_written S R e i b l written = are_written l (omega arith) refl written

-- a bit that the struct doesn't have
pub bit_outside : (S : Segments) (e : ExistingStruct) (i : ℕ) (b : Bool) → 64 * e.size.data_words ≤ i → PutsBits S S e (field i 1 (cond b 1 0)) (Some NoSuchPlace)
bit_outside S e i b l = are_outside (omega arith) refl refl

-- writing a number of n bytes
pub number_put : (S R : Segments) (e : ExistingStruct) (number : Number) (n x : ℕ) (r : Option ErrorKind) → element_bits (size_number number.size) ≡ 8 * n → x ≡ number.value → PutsBits S R e (number_field n number.index x) r → PutsBits S R e (bits_of number) r
number_put S R e number n x r wide same put =
    let i : ℕ = number.index in
    let is : number_field n i x ≡ bits_of number =
    ap (λ y. number_field n i y) same ∙ ap (λ b. field b (8 * n) number.value) (let h : 8 * (i * n) ≡ i * (8 * n) = grind arith in h) ∙ ap (λ b. field (i * b) b number.value) (sym wide) in
    subst (λ f. PutsBits S R e f r) is put

-- writing a bit
pub bit_put : (S R : Segments) (e : ExistingStruct) (number : Number) (b : Bool) (r : Option ErrorKind) → element_bits (size_number number.size) ≡ 1 → cond b 1 0 ≡ number.value → PutsBits S R e (field number.index 1 (cond b 1 0)) r → PutsBits S R e (bits_of number) r
bit_put S R e number b r wide same put =
    let i : ℕ = number.index in
    let is : field i 1 (cond b 1 0) ≡ bits_of number =
    ap (λ y. field i 1 y) same ∙ ap (λ x. field x 1 number.value) (let h : i ≡ i * 1 = grind arith in h) ∙ ap (λ w. field (i * w) w number.value) (sym wide) in
    subst (λ f. PutsBits S R e f r) is put

-- the parts of a number: its size, its value, and that it fits
all : (a b c : Bool) → (a && b && c) ≡ true → (a ≡ true) × (b ≡ true) × (c ≡ true)
all true true true h = (refl, refl, refl)
all true true false h = absurd (cc)
all true false c h = absurd (cc)
all false b c h = absurd (cc)

within : (a b : ℕ) → nat_le a b ≡ true → a ≤ b
within a b h = grind (arith, nat_tests, h)

below : (v m : ℕ) → nat_lt v m ≡ true → v < m
below v m h = grind (arith, nat_tests, h)

pub number_parts : (size : ElementSize) (v : ℕ) → is_number size v ≡ true → (1 ≤ size_number size) × (size_number size ≤ 5) × (v < 2 ^ element_bits (size_number size))
number_parts size v h =
    let parts = all (nat_le 1 (size_number size)) (nat_le (size_number size) 5) (nat_lt v (2 ^ element_bits (size_number size))) h in
    (within 1 (size_number size) parts.0, within (size_number size) 5 parts.1, below v (2 ^ element_bits (size_number size)) parts.2)

pub number_small : (size : ElementSize) (v n : ℕ) → element_bits (size_number size) ≡ n → is_number size v ≡ true → v < 2 ^ n
number_small size v n wide fits = subst (λ b. v < 2 ^ b) wide (number_parts size v fits).2

-- a number that is neither a bit nor of 1, 2 or 4 bytes has 8 bytes
pub eight_bytes : (size : ElementSize) (v : ℕ) → is_number size v ≡ true → (size ≡ Bit → ⊥) → (size ≡ Byte → ⊥) → (size ≡ TwoBytes → ⊥) → (size ≡ FourBytes → ⊥) → element_bits (size_number size) ≡ 64
eight_bytes Void v fits z a b c = absurd (cc)
eight_bytes Bit v fits z a b c = absurd (z refl)
eight_bytes Byte v fits z a b c = absurd (a refl)
eight_bytes TwoBytes v fits z a b c = absurd (b refl)
eight_bytes FourBytes v fits z a b c = absurd (c refl)
eight_bytes EightBytes v fits z a b c = refl
eight_bytes Pointer v fits z a b c = absurd (cc)
eight_bytes InlineComposite v fits z a b c = absurd (cc)
