-- A word after its tag, four bytes at a time: each of the next packed bytes is multiplied into the
-- place of its bit in the tag.
use Rattle.std.proofs.Common.{◌≡◌, ℕ, zero, suc, ◌+◌, ◌-◌, ◌*◌, ◌/◌, ◌%◌, ◌^◌, ◌<◌, ◌≤◌, List, [], ◌∷◌, ◌++◌, length, take, drop, Fits, w8, refl, sym, ap, ap₂, ◌∙◌, arith, append-nil, take_at, drop-drop, get_or-drop, length-drop}
use Rattle.std.specs.Prelude.{slice_index, slice_index_or}
use Rattle.std.specs.Int.{from_le_bytes, to_le_bytes, w32}
use Rattle.std.specs.Int.RustNames.{count_ones}
use Rattle.std.proofs.lemmas.List.{nil_from_length, take_rest}
use Rattle.std.proofs.lemmas.Nat.{le_bytes_4, ones-le}
use borrow.Rule.Slice.PartMut.{put_mid, post_of}
use lib.Count.{ones_step}
use Rattle.capnp_packing.specs.Packing.{expanded, ones}
use Rattle.capnp_packing.specs.declared.packing.unpacking.TheConstants.{MULTIPLIERS}

-- ---- four bytes

abbrev multiplier : ℕ → ℕ → ℕ
multiplier bits k = slice_index (slice_index_or MULTIPLIERS bits []) k

abbrev summed : ℕ → ℕ → ℕ → ℕ → ℕ → ℕ
summed bits a b c d =
    (((a * multiplier bits 0 % 2 ^ 32 + b * multiplier bits 1 % 2 ^ 32) % 2 ^ 32 + c * multiplier bits 2 % 2 ^ 32) % 2 ^ 32
    + d * multiplier bits 3 % 2 ^ 32) % 2 ^ 32

-- a fact of each number below 16
sixteen : (P : ℕ → Type 0) → P 0 → P 1 → P 2 → P 3 → P 4 → P 5 → P 6 → P 7 → P 8 → P 9 → P 10 → P 11 → P 12 → P 13 → P 14 → P 15 → (n : ℕ) → n < 16 → P n
sixteen P p0 p1 p2 p3 p4 p5 p6 p7 p8 p9 p10 p11 p12 p13 p14 p15 zero h = p0
sixteen P p0 p1 p2 p3 p4 p5 p6 p7 p8 p9 p10 p11 p12 p13 p14 p15 (suc zero) h = p1
sixteen P p0 p1 p2 p3 p4 p5 p6 p7 p8 p9 p10 p11 p12 p13 p14 p15 (suc (suc zero)) h = p2
sixteen P p0 p1 p2 p3 p4 p5 p6 p7 p8 p9 p10 p11 p12 p13 p14 p15 (suc (suc (suc zero))) h = p3
sixteen P p0 p1 p2 p3 p4 p5 p6 p7 p8 p9 p10 p11 p12 p13 p14 p15 (suc (suc (suc (suc zero)))) h = p4
sixteen P p0 p1 p2 p3 p4 p5 p6 p7 p8 p9 p10 p11 p12 p13 p14 p15 (suc (suc (suc (suc (suc zero))))) h = p5
sixteen P p0 p1 p2 p3 p4 p5 p6 p7 p8 p9 p10 p11 p12 p13 p14 p15 (suc (suc (suc (suc (suc (suc zero)))))) h = p6
sixteen P p0 p1 p2 p3 p4 p5 p6 p7 p8 p9 p10 p11 p12 p13 p14 p15 (suc (suc (suc (suc (suc (suc (suc zero))))))) h = p7
sixteen P p0 p1 p2 p3 p4 p5 p6 p7 p8 p9 p10 p11 p12 p13 p14 p15 (suc (suc (suc (suc (suc (suc (suc (suc zero)))))))) h = p8
sixteen P p0 p1 p2 p3 p4 p5 p6 p7 p8 p9 p10 p11 p12 p13 p14 p15 (suc (suc (suc (suc (suc (suc (suc (suc (suc zero))))))))) h = p9
sixteen P p0 p1 p2 p3 p4 p5 p6 p7 p8 p9 p10 p11 p12 p13 p14 p15 (suc (suc (suc (suc (suc (suc (suc (suc (suc (suc zero)))))))))) h = p10
sixteen P p0 p1 p2 p3 p4 p5 p6 p7 p8 p9 p10 p11 p12 p13 p14 p15 (suc (suc (suc (suc (suc (suc (suc (suc (suc (suc (suc zero))))))))))) h = p11
sixteen P p0 p1 p2 p3 p4 p5 p6 p7 p8 p9 p10 p11 p12 p13 p14 p15 (suc (suc (suc (suc (suc (suc (suc (suc (suc (suc (suc (suc zero)))))))))))) h = p12
sixteen P p0 p1 p2 p3 p4 p5 p6 p7 p8 p9 p10 p11 p12 p13 p14 p15 (suc (suc (suc (suc (suc (suc (suc (suc (suc (suc (suc (suc (suc zero))))))))))))) h = p13
sixteen P p0 p1 p2 p3 p4 p5 p6 p7 p8 p9 p10 p11 p12 p13 p14 p15 (suc (suc (suc (suc (suc (suc (suc (suc (suc (suc (suc (suc (suc (suc zero)))))))))))))) h = p14
sixteen P p0 p1 p2 p3 p4 p5 p6 p7 p8 p9 p10 p11 p12 p13 p14 p15 (suc (suc (suc (suc (suc (suc (suc (suc (suc (suc (suc (suc (suc (suc (suc zero))))))))))))))) h = p15
sixteen P p0 p1 p2 p3 p4 p5 p6 p7 p8 p9 p10 p11 p12 p13 p14 p15 (suc (suc (suc (suc (suc (suc (suc (suc (suc (suc (suc (suc (suc (suc (suc (suc n)))))))))))))))) h = absurd (omega (arith, h))

summed_is : (a b c d : ℕ) (rest : List ℕ) → a < 256 → b < 256 → c < 256 → d < 256 → (bits : ℕ) → bits < 16
    → summed bits a b c d ≡ from_le_bytes w32 (expanded 4 bits (a ∷ b ∷ c ∷ d ∷ rest))
unfolding expanded
summed_is a b c d rest p q r s bits few =
    sixteen (λ n. summed n a b c d ≡ from_le_bytes w32 (expanded 4 n (a ∷ b ∷ c ∷ d ∷ rest)))
    (omega (arith, p, q, r, s)) (omega (arith, p, q, r, s)) (omega (arith, p, q, r, s)) (omega (arith, p, q, r, s)) (omega (arith, p, q, r, s)) (omega (arith, p, q, r, s)) (omega (arith, p, q, r, s)) (omega (arith, p, q, r, s)) (omega (arith, p, q, r, s)) (omega (arith, p, q, r, s)) (omega (arith, p, q, r, s)) (omega (arith, p, q, r, s)) (omega (arith, p, q, r, s)) (omega (arith, p, q, r, s)) (omega (arith, p, q, r, s)) (omega (arith, p, q, r, s)) bits few

length-expanded : (n bits : ℕ) (packed : List ℕ) → length (expanded n bits packed) ≡ n
unfolding expanded
length-expanded zero bits packed = refl
length-expanded (suc n) bits packed = ap suc (length-expanded n (bits / 2) (drop (bits % 2) packed))

times_bit : (x r : ℕ) → r < 2 → x < 256 → x * r < 256
times_bit x zero h l = omega arith
times_bit x (suc zero) h l = omega (arith, l)
times_bit x (suc (suc r)) h l = absurd (omega (arith, h))

expanded_small : (n bits : ℕ) (packed : List ℕ) → ((i : ℕ) → slice_index packed i < 256) → (i : ℕ)
    → slice_index (expanded n bits packed) i < 256
unfolding expanded
expanded_small zero bits packed small i = omega arith
expanded_small (suc n) bits packed small zero = times_bit (slice_index packed 0) (bits % 2) (omega arith) (small 0)
expanded_small (suc n) bits packed small (suc i) =
    expanded_small n (bits / 2) (drop (bits % 2) packed) (λ j. rw (get_or-drop (bits % 2) packed j 0) (small (bits % 2 + j))) i

bytes_is : (bits : ℕ) (packed : List ℕ) → bits < 16 → 4 ≤ length packed → ((i : ℕ) → slice_index packed i < 256)
    → summed bits (slice_index packed 0) (slice_index packed 1) (slice_index packed 2) (slice_index packed 3)
    ≡ from_le_bytes w32 (expanded 4 bits packed)
bytes_is bits [] few l small = absurd (omega (arith, l))
bytes_is bits (a ∷ []) few l small = absurd (omega (arith, l))
bytes_is bits (a ∷ b ∷ []) few l small = absurd (omega (arith, l))
bytes_is bits (a ∷ b ∷ c ∷ []) few l small = absurd (omega (arith, l))
bytes_is bits (a ∷ b ∷ c ∷ d ∷ rest) few l small = summed_is a b c d rest (small 0) (small 1) (small 2) (small 3) bits few

pub half_is : (bits a b c d : ℕ) (packed : List ℕ) → bits < 16 → 4 ≤ length packed → ((i : ℕ) → Fits w8 (slice_index packed i))
    → a ≡ slice_index packed 0 → b ≡ slice_index packed 1 → c ≡ slice_index packed 2 → d ≡ slice_index packed 3
    → to_le_bytes w32 (summed bits a b c d) ≡ expanded 4 bits packed
half_is bits a b c d packed few l fits first second third last =
    let small : (i : ℕ) → slice_index packed i < 256 = λ i. (fits i).fits in
    rw (first, second, third, last) (le_bytes_4 (expanded 4 bits packed) _ (length-expanded 4 bits packed)
    (expanded_small 4 bits packed small) (bytes_is bits packed few l small))

last_small : (bits x : ℕ) (packed : List ℕ) → bits < 2 → slice_index packed 0 < 256 → x ≡ slice_index packed 0
    → x * bits % 2 ^ 32 ≡ from_le_bytes w32 (expanded 4 bits packed)
unfolding expanded
last_small zero x packed few small is = omega (arith, is)
last_small (suc zero) x packed few small is = omega (arith, small, is)
last_small (suc (suc bits)) x packed few small is = absurd (omega (arith, few))

pub last_is : (bits x b : ℕ) (packed : List ℕ) → bits < 2 → ((i : ℕ) → Fits w8 (slice_index packed i))
    → x ≡ slice_index packed 0 → b ≡ bits → to_le_bytes w32 (x * b % 2 ^ 32) ≡ expanded 4 bits packed
last_is bits x b packed few fits is same =
    let small : (i : ℕ) → slice_index packed i < 256 = λ i. (fits i).fits in
    rw same (le_bytes_4 (expanded 4 bits packed) _ (length-expanded 4 bits packed) (expanded_small 4 bits packed small)
    (last_small bits x packed few (small 0) is))

-- ---- the number of packed bytes

abbrev bound : ℕ → ℕ
bound zero = 1
bound (suc n) = 2 * bound n

counted : (n bits : ℕ) → bits < bound n → count_ones bits ≡ ones n bits
unfolding ones
counted zero bits h = omega (arith, ones-le 0 bits h)
counted (suc n) bits h = omega (arith, ones_step bits, counted n (bits / 2) (omega (arith, h)))

pub counted_word : (tag : ℕ) → tag < 256 → count_ones tag ≡ ones 8 tag
counted_word tag h = counted 8 tag h

-- what comes after the low half is long enough for the other
pub behind_long : (tag : ℕ) (packed : List ℕ) → length packed ≡ 8
    → 4 ≤ length (take (length packed - count_ones (tag % 16)) (drop (count_ones (tag % 16)) packed))
behind_long tag packed long =
    omega (
      arith,
      ones-le 4 (tag % 16) (omega arith),
      long,
      ap length (take_rest packed (count_ones (tag % 16))),
      length-drop (count_ones (tag % 16)) packed,
    )

-- ---- two halves

abbrev spread : ℕ → ℕ → ℕ → ℕ → List ℕ → List ℕ
spread a b c d packed =
    slice_index packed 0 * a ∷ slice_index (drop a packed) 0 * b ∷ slice_index (drop b (drop a packed)) 0 * c
    ∷ slice_index (drop c (drop b (drop a packed))) 0 * d ∷ []

low_half : (tag : ℕ) (packed : List ℕ)
    → expanded 4 (tag % 16) packed ≡ spread (tag % 2) (tag / 2 % 2) (tag / 2 / 2 % 2) (tag / 2 / 2 / 2 % 2) packed
unfolding expanded
low_half tag packed =
    let a : tag % 16 % 2 ≡ tag % 2 = omega arith in
    let b : tag % 16 / 2 % 2 ≡ tag / 2 % 2 = omega arith in
    let c : tag % 16 / 2 / 2 % 2 ≡ tag / 2 / 2 % 2 = omega arith in
    let d : tag % 16 / 2 / 2 / 2 % 2 ≡ tag / 2 / 2 / 2 % 2 = omega arith in
    λ i. spread (a i) (b i) (c i) (d i) packed

behind_low : (tag : ℕ) (packed : List ℕ) → drop (tag / 2 / 2 / 2 % 2) (drop (tag / 2 / 2 % 2) (drop (tag / 2 % 2) (drop (tag % 2) packed)))
    ≡ drop (count_ones (tag % 16)) packed
unfolding ones
behind_low tag packed =
    let many : tag % 2 + tag / 2 % 2 + tag / 2 / 2 % 2 + tag / 2 / 2 / 2 % 2 ≡ count_ones (tag % 16) =
    omega (arith, counted 4 (tag % 16) (omega arith)) in
    ap (λ l. drop (tag / 2 / 2 / 2 % 2) (drop (tag / 2 / 2 % 2) l)) (drop-drop (tag / 2 % 2) (tag % 2) packed)
    ∙ ap (drop (tag / 2 / 2 / 2 % 2)) (drop-drop (tag / 2 / 2 % 2) (tag % 2 + tag / 2 % 2) packed)
    ∙ drop-drop (tag / 2 / 2 / 2 % 2) (tag % 2 + tag / 2 % 2 + tag / 2 / 2 % 2) packed
    ∙ ap (λ n. drop n packed) many

halves : (tag : ℕ) (packed : List ℕ)
    → expanded 4 (tag % 16) packed ++ expanded 4 (tag / 16) (drop (count_ones (tag % 16)) packed) ≡ expanded 8 tag packed
unfolding expanded
halves tag packed =
    let high : tag / 16 ≡ tag / 2 / 2 / 2 / 2 = omega arith in
    ap₂ (λ (us vs : List ℕ). us ++ vs) (low_half tag packed)
    (ap₂ (λ (n : ℕ) (l : List ℕ). expanded 4 n l) high (sym (behind_low tag packed)))

two_put : (k : ℕ) (to first last : List ℕ) → length to ≡ 8 → length first ≡ 4 → k ≡ length (first ++ drop 4 to) - 4
    → put_mid 4 k (first ++ drop 4 to) last ≡ first ++ last
two_put k to first last long four is =
    let none : post_of 4 k (first ++ drop 4 to) ≡ [] =
    nil_from_length (post_of 4 k (first ++ drop 4 to))
    (omega (arith, is, length-drop k (drop 4 (first ++ drop 4 to)), length-drop 4 (first ++ drop 4 to))) in
    ap₂ (λ (us vs : List ℕ). us ++ (last ++ vs)) (take_at first (drop 4 to) 4 four) none
    ∙ ap (λ l. first ++ l) (append-nil last)

pub word_put : (tag k : ℕ) (packed to first last : List ℕ) → length to ≡ 8 → k ≡ length (first ++ drop 4 to) - 4
    → first ≡ expanded 4 (tag % 16) packed
    → last ≡ expanded 4 (tag / 16) (take (length packed - count_ones (tag % 16)) (drop (count_ones (tag % 16)) packed))
    → put_mid 4 k (first ++ drop 4 to) last ≡ expanded 8 tag packed
word_put tag k packed to first last long mid is behind =
    two_put k to first last long (ap length is ∙ length-expanded 4 (tag % 16) packed) mid
    ∙ ap₂ (λ (us vs : List ℕ). us ++ vs) is (behind ∙ ap (expanded 4 (tag / 16)) (take_rest packed (count_ones (tag % 16))))
    ∙ halves tag packed
