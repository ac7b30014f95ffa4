-- Bits read: from bytes, and from words in which these bits or others were written.
use Rattle.std.proofs.Common.{◌≡◌, ◌⊎◌, inl, inr, ℕ, ◌+◌, ◌*◌, ◌/◌, ◌%◌, ◌^◌, ◌<◌, ◌≤◌, List, length, get_or, set, bit_and, sym, ap, ◌∙◌, arith}
use Rattle.std.proofs.lemmas.Bool.{cases_eq}
use Rattle.std.proofs.lemmas.List.{get_or-set_same, get_or-set_other}
use Rattle.std.proofs.lemmas.Nat.{mod_below, pow_pos}
use Rattle.std.proofs.lemmas.Nat.Bits.{shr_and_one}
use Rattle.std.specs.Int.{bit_at}
use Rattle.capnp_format.specs.Bytes.{words_of}
use Rattle.capnp_format.specs.Fields.{with_bits, put_field, field_in}
use Rattle.capnp_format.proofs.FieldBytes.{byte_of_word, bit_at-mod, bit_at-div}
use Rattle.capnp_format.proofs.Digits.{low, high}
use Rattle.capnp_in_place.proofs.Fields.DigitReplaced.{mod_same, replaced_below}
use Rattle.capnp_in_place.proofs.Fields.BitsReplaced.{has_bits}

pub bit_read : (bit : ℕ) (bs : List ℕ) → ((j : ℕ) → get_or bs j 0 < 256) → bit / 64 < length (words_of bs) → bit_and (get_or bs (bit / 8) 0 / 2 ^ (bit % 8)) 1 ≡ field_in (words_of bs) bit 1
bit_read bit bs small l =
    let i : ℕ = bit / 64 in
    let k : ℕ = bit / 8 % 8 in
    let p : ℕ = bit % 8 in
    let x : ℕ = get_or (words_of bs) i 0 in
    let byte : get_or bs (bit / 8) 0 ≡ x / 2 ^ (8 * k) % 2 ^ 8 = ap (λ j. get_or bs j 0) (let q : bit / 8 ≡ 8 * i + k = omega arith in q) ∙ byte_of_word i k bs small (omega arith) l in
    shr_and_one (get_or bs (bit / 8) 0) p
    ∙ ap (λ z. bit_at z p) byte
    ∙ bit_at-mod (x / 2 ^ (8 * k)) 8 p (omega arith)
    ∙ bit_at-div x (8 * k) p
    ∙ ap (bit_at x) (let q : 8 * k + p ≡ bit % 64 = omega arith in q)

-- Bits read of a number after some were replaced: those that were replaced, and others.
replaced_part : (x o w v : ℕ) → v < 2 ^ w → with_bits x o w v / 2 ^ o % 2 ^ w ≡ v
replaced_part x o w v l =
    let rest : ℕ = x / 2 ^ (o + w) in
    ap (λ z. z % 2 ^ w) (high (2 ^ o) (x % 2 ^ o) (v + 2 ^ w * rest) (mod_below x (2 ^ o) (pow_pos o))) ∙ low (2 ^ w) v rest l

other_part : (x o w v p u : ℕ) → v < 2 ^ w → (o + w ≤ p) ⊎ (p + u ≤ o) → with_bits x o w v / 2 ^ p % 2 ^ u ≡ x / 2 ^ p % 2 ^ u
other_part x o w v p u l (inl h) = ap (λ z. z % 2 ^ u) (replaced_below x o w v p l h)
other_part x o w v p u l (inr h) =
    mod_same (with_bits x o w v / 2 ^ p) (x / 2 ^ p) u (λ i m. bit_at-div (with_bits x o w v) p i ∙ (has_bits x o w v l).before (p + i) (omega arith) ∙ sym (bit_at-div x p i))

pub read_back : (ws : List ℕ) (b w v : ℕ) → b / 64 < length ws → v < 2 ^ w → field_in (put_field ws b w v) b w ≡ v
read_back ws b w v l small =
    ap (λ y. y / 2 ^ (b % 64) % 2 ^ w) (get_or-set_same ws (b / 64) (with_bits (get_or ws (b / 64) 0) (b % 64) w v) 0 l)
    ∙ replaced_part (get_or ws (b / 64) 0) (b % 64) w v small

pub other_stays : (ws : List ℕ) (b w v c u : ℕ) → b / 64 < length ws → v < 2 ^ w → (b + w ≤ c) ⊎ (c + u ≤ b) → field_in (put_field ws b w v) c u ≡ field_in ws c u
other_stays ws b w v c u l small apart =
    let j : ℕ = b / 64 in
    let p : ℕ = c % 64 in
    let x : ℕ = get_or ws j 0 in
    let y : ℕ = with_bits x (b % 64) w v in
    elim (cases_eq (c / 64) j) [
      | inl e ↦ (
          let apart_there : (b % 64 + w ≤ p) ⊎ (p + u ≤ b % 64) = elim apart [ inl h ↦ inl (omega arith) | inr h ↦ inr (omega arith) ] in
          ap (λ i. get_or (set ws j y) i 0 / 2 ^ p % 2 ^ u) e
          ∙ ap (λ z. z / 2 ^ p % 2 ^ u) (get_or-set_same ws j y 0 l)
          ∙ other_part x (b % 64) w v p u small apart_there
          ∙ ap (λ i. get_or ws i 0 / 2 ^ p % 2 ^ u) (sym e))
      | inr n ↦ ap (λ z. z / 2 ^ p % 2 ^ u) (get_or-set_other ws j (c / 64) y 0 n)
    ]
