-- Fields of data sections and elements of lists: which bits of their segment they are.
use Rattle.std.proofs.Common.{◌≡◌, inl, inr, ◌⊎◌, ℕ, zero, suc, ◌+◌, ◌*◌, ◌/◌, ◌%◌, ◌<◌, ◌≤◌, min, refl, ap, arith, MutBor}
use Rattle.std.proofs.Props.{props}
use Rattle.capnp_readers.specs.declared.readers.struct_reader.StructPlace.{StructPlace}
use Rattle.capnp_builders.specs.declared.builders.struct_builder.StructBuilder.{StructBuilder}
use Rattle.capnp_builders.specs.Places.{IsAligned}

-- eight times a field's offset in bytes
pub in_bits : (offset n : ℕ) → (offset + 1) * (8 * n) ≡ 8 * (offset * n + n)
in_bits offset n = grind arith

-- the widths that divide eight bytes
pub widths : (n : ℕ) → 0 < n → n ≤ 8 → 8 % n ≡ 0 → (n ≡ 1) ⊎ (n ≡ 2) ⊎ (n ≡ 4) ⊎ (n ≡ 8)
widths zero some l e = absurd (omega arith)
widths (suc zero) some l e = inl refl
widths (suc (suc zero)) some l e = inr (inl refl)
widths (suc (suc (suc zero))) some l e = absurd (omega arith)
widths (suc (suc (suc (suc zero)))) some l e = inr (inr (inl refl))
widths (suc (suc (suc (suc (suc zero))))) some l e = absurd (omega arith)
widths (suc (suc (suc (suc (suc (suc zero)))))) some l e = absurd (omega arith)
widths (suc (suc (suc (suc (suc (suc (suc zero))))))) some l e = absurd (omega arith)
widths (suc (suc (suc (suc (suc (suc (suc (suc zero)))))))) some l e = inr (inr (inr refl))
widths (suc (suc (suc (suc (suc (suc (suc (suc (suc n))))))))) some l e = absurd (omega arith)

-- a multiple of a width m that divides eight is a multiple of each narrower width n that does
pub aligned_to : (b n m : ℕ) → 0 < n → n ≤ m → m ≤ 8 → 8 % n ≡ 0 → 8 % m ≡ 0 → b % m ≡ 0 → b % n ≡ 0
aligned_to b n m some l small e f g =
    elim (widths n some (omega arith) e) [
      | inl w ↦ rw w (omega arith)
      | inr r ↦ elim r [
        | inl w ↦ (let two : 2 ≤ m = omega arith in rw w (elim (widths m (omega arith) small f) [ inl v ↦ absurd (omega arith) | inr q ↦ elim q [ inl v ↦ (rw v at g) | inr q2 ↦ elim q2 [ inl v ↦ (let h : b % 4 ≡ 0 = rw v at g in omega arith) | inr v ↦ (let h : b % 8 ≡ 0 = rw v at g in omega arith) ] ] ]))
        | inr r2 ↦ elim r2 [
          | inl w ↦ (let four : 4 ≤ m = omega arith in rw w (elim (widths m (omega arith) small f) [ inl v ↦ absurd (omega arith) | inr q ↦ elim q [ inl v ↦ absurd (omega arith) | inr q2 ↦ elim q2 [ inl v ↦ (rw v at g) | inr v ↦ (let h : b % 8 ≡ 0 = rw v at g in omega arith) ] ] ]))
          | inr w ↦ (let eight : m ≡ 8 = omega arith in rw w (rw eight at g))
        ]
      ]
    ]

-- the field at an offset starts at a multiple of its width
pub field_aligned : (b k n : ℕ) → 0 < n → n ≤ 8 → 8 % n ≡ 0 → b % n ≡ 0 → (b + k * n) % n ≡ 0
field_aligned b k n some l e g =
    elim (widths n some l e) [
      | inl w ↦ rw w (omega arith)
      | inr r ↦ elim r [
        | inl w ↦ rw w (let h : b % 2 ≡ 0 = rw w at g in omega arith)
        | inr r2 ↦ elim r2 [
          | inl w ↦ rw w (let h : b % 4 ≡ 0 = rw w at g in omega arith)
          | inr w ↦ rw w (let h : b % 8 ≡ 0 = rw w at g in omega arith)
        ]
      ]
    ]

-- a field of a data section that is aligned
pub place_aligned : (place : StructPlace) (k n : ℕ) → IsAligned place → 0 < n → n ≤ 8 → 8 % n ≡ 0 → (k + 1) * (8 * n) ≤ place.bits → (place.byte + k * n) % n ≡ 0
place_aligned place k n aligned some l e inside =
    let wide : n ≤ min 8 (place.bits / 8) = within (place.bits / 8) n l (omega (arith, in_bits k n)) in
    let at = aligned (omega (arith, some, wide)) in
    field_aligned place.byte k n some l e (aligned_to place.byte n (min 8 (place.bits / 8)) some wide (at_most (place.bits / 8)) e at.0 at.1)
  where
    within : (m n : ℕ) → n ≤ 8 → n ≤ m → n ≤ min 8 m
    within m n l h = omega (arith, l, h)

    at_most : (m : ℕ) → min 8 m ≤ 8
    at_most m = omega arith

-- a data section of whole words is aligned
pub whole_aligned : (n start : ℕ) → 0 < min 8 (64 * n / 8) → (8 % min 8 (64 * n / 8) ≡ 0) × (8 * start % min 8 (64 * n / 8) ≡ 0)
whole_aligned n start some = (let word : min 8 (64 * n / 8) ≡ 8 = omega (arith, some) in (rw word refl, rw word (omega arith)))

-- there is at most one proof that a section is aligned
pub aligned_once : (place : StructPlace) (p q : IsAligned place) → p ≡ q
aligned_once place p q = (let one : IsProp (IsAligned place) = hlevel props in one p q)

pub same_builder : {A : Type 0} (arena : MutBor A) (place : StructPlace) (p q : IsAligned place) → ◌≡◌ {A = StructBuilder A} (record { arena = arena; place = place; aligned = p }) (record { arena = arena; place = place; aligned = q })
same_builder arena place p q = ap (λ r. record { arena = arena; place = place; aligned = r }) (aligned_once place p q)
