-- Fields of a data section, by its bytes and by its words.
use Rattle.std.proofs.Common.{◌≡◌, inl, inr, ◌↔◌, ℕ, ◌+◌, ◌-◌, ◌*◌, ◌/◌, ◌%◌, ◌^◌, ◌<◌, ◌≤◌, Bool, List, length, get_or, refl, sym, ap, ap₂, ◌∙◌, arith}
use Rattle.std.specs.Prelude.{IsTrue, slice_range}
use Rattle.std.specs.Int.{bit_at as bit_of}
use Rattle.std.proofs.Math.Nat.{zero-div, zero-mod, mul-mod_left}
use Rattle.std.proofs.lemmas.List.{get_or_past}
use Rattle.std.proofs.lemmas.Nat.{shr-shr}
use Rattle.capnp_arena_traits.specs.declared.arena.reader_arena.ReaderArena.{Ghosts}
use Rattle.capnp_format.specs.Bytes.{words_of}
use Rattle.capnp_format.specs.Numbers.{from_digits}
use Rattle.capnp_format.specs.Tree.{Tree}
use Rattle.capnp_format.specs.Fields.{field_in}
use Rattle.capnp_format.proofs.FieldBytes.{in_one_word, bytes_read, byte_as_digit, bit_at-mod}
use Rattle.capnp_pointers.proofs.Decided.{within_or_not}
use Rattle.capnp_readers.specs.Sections.{IsInside, bytes_for, bit_at}
use Rattle.capnp_readers.specs.Values.{struct_data, ShowsStructOf}
use Rattle.capnp_readers.specs.declared.readers.struct_reader.StructReader.{StructReader}

-- The data section of a struct, of `bits` bits, holds these words.
pub record Holds (bits : ℕ) (bytes ws : List ℕ) : Type 0 where
  pub small : (i : ℕ) → get_or bytes i 0 < 256
  pub wide : bits ≡ 64 * length ws
  pub words_are : words_of bytes ≡ ws
  pub long : length bytes ≡ bytes_for bits

-- there are no bits after the last word
field_past : (ws : List ℕ) (b w : ℕ) → length ws ≤ b / 64 → field_in ws b w ≡ 0
field_past ws b w l = ap (λ x. x / 2 ^ (b % 64) % 2 ^ w) (get_or_past ws (b / 64) 0 l) ∙ ap (λ x. x % 2 ^ w) (zero-div (2 ^ (b % 64))) ∙ zero-mod (2 ^ w)

-- field k of n bytes
field_of_bytes : (n k : ℕ) {x bits : ℕ} {bytes ws : List ℕ} → 0 < n → n ≤ 8 → 8 % n ≡ 0 → Holds bits bytes ws →
    (IsInside bits (8 * n) k → x ≡ from_digits 256 (slice_range bytes (k * n) (k * n + n))) → ((IsInside bits (8 * n) k → ⊥) → x ≡ 0) → x ≡ field_in ws (8 * n * k) (8 * n)
field_of_bytes n k {x} {bits} {bytes} {ws} some few divides h inside outside =
    let b : ℕ = k * n in
    let one : b % 8 + n ≤ 8 = in_one_word n b some few divides (mul-mod_left k n) in
    let all : length (words_of bytes) ≡ length ws = ap length h.words_are in
    let at : 8 * b ≡ 8 * n * k = omega arith in
    elim (within_or_not ((k + 1) * (8 * n)) bits) [
      | inl within ↦ (
          let fits : 8 * b + 8 * n ≤ bits = omega (arith, within) in
          let there : b / 8 < length (words_of bytes) = omega (arith, fits, some, h.wide, all) in
          inside within ∙ bytes_read b n (b + n - b) bytes (omega arith) h.small one there ∙ ap₂ (λ us i. field_in us i (8 * n)) h.words_are at)
      | inr past ↦ (
          let beyond : bits < 8 * b + 8 * n = omega (arith, past) in
          let after : length ws ≤ 8 * b / 64 = omega (arith, beyond, one, h.wide) in
          outside (λ within. omega (arith, within, past)) ∙ sym (field_past ws (8 * b) (8 * n) after) ∙ ap (λ i. field_in ws i (8 * n)) at)
    ]

-- bit b
bit_of_bytes : (b : ℕ) {bits : ℕ} {bytes ws : List ℕ} → Holds bits bytes ws → b < bits → bit_at bytes b ≡ field_in ws b 1
bit_of_bytes b {bits} {bytes} {ws} h within =
    let i : ℕ = b / 8 in
    let x : ℕ = get_or ws (8 * i / 64) 0 in
    let all : length (words_of bytes) ≡ length ws = ap length h.words_are in
    let there : i / 8 < length (words_of bytes) = omega (arith, within, h.wide, all) in
    let inside : i < length bytes = omega (arith, within, h.long) in
    let byte : get_or bytes i 0 ≡ x / 2 ^ (8 * i % 64) % 2 ^ 8 = byte_as_digit i bytes inside ∙ bytes_read i 1 1 bytes refl h.small (omega arith) there ∙ ap (λ us. field_in us (8 * i) 8) h.words_are in
    ap (λ y. bit_of y (b % 8)) byte
    ∙ bit_at-mod (x / 2 ^ (8 * i % 64)) 8 (b % 8) (omega arith)
    ∙ ap (λ z. z % 2) (shr-shr x (8 * i % 64) (b % 8))
    ∙ ap₂ (λ j o. get_or ws j 0 / 2 ^ o % 2) (let q : 8 * i / 64 ≡ b / 64 = omega arith in q) (let q : 8 * i % 64 + b % 8 ≡ b % 64 = omega arith in q)

module _ {A : Type 0} (g : Ghosts A) where
  holds_data : (r : StructReader A g) (t : Tree) → ((i : ℕ) → get_or r.content.now i 0 < 256) → ShowsStructOf g r t → Holds r.bits r.content.now (struct_data t)
  holds_data r t small shows = record { small = small; wide = shows.bits_are; words_are = shows.words_are; long = r.content_is.1 }

  pub field_value : (n k : ℕ) {x : ℕ} (r : StructReader A g) (t : Tree) → 0 < n → n ≤ 8 → 8 % n ≡ 0 → ((i : ℕ) → get_or r.content.now i 0 < 256) →
      (IsInside r.bits (8 * n) k → x ≡ from_digits 256 (slice_range r.content.now (k * n) (k * n + n))) → ((IsInside r.bits (8 * n) k → ⊥) → x ≡ 0) → ShowsStructOf g r t → x ≡ field_in (struct_data t) (8 * n * k) (8 * n)
  field_value n k r t some few divides small inside outside shows = field_of_bytes n k some few divides (holds_data r t small shows) inside outside

  pub bit_value : (b : ℕ) {x : Bool} (r : StructReader A g) (t : Tree) → ((i : ℕ) → get_or r.content.now i 0 < 256) → (IsTrue x ↔ (b < r.bits) × (bit_at r.content.now b ≡ 1)) → ShowsStructOf g r t → IsTrue x ↔ (field_in (struct_data t) b 1 ≡ 1)
  bit_value b {x} r t small is shows =
      let h = holds_data r t small shows in (
        (λ yes. sym (bit_of_bytes b h (is.0 yes).0) ∙ (is.0 yes).1),
        (λ one. elim (within_or_not r.bits b) [
          | inl past ↦ absurd (let none = field_past (struct_data t) b 1 (omega (arith, past, h.wide)) in omega (arith, one, none))
          | inr within ↦ is.1 (within, bit_of_bytes b h within ∙ one)
        ]),
      )
