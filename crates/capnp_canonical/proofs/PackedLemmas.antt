-- What words are packed to, group by group: it stands for these words, and isn't much longer.
use Rattle.std.proofs.Common.{◌≡◌, ◌≢◌, ◌⊎◌, inl, inr, ℕ, zero, suc, ◌+◌, ◌-◌, ◌*◌, ◌/◌, ◌%◌, ◌<◌, ◌≤◌, List, [], ◌∷◌, ◌++◌, replicate, length, take, drop, take-add, take-append-drop, take_all, drop-drop, append_assoc, ap₂, Bool, true, false, refl, sym, ap, ◌∙◌, subst, arith, append-nil, length-append, length-drop}
use Rattle.std.specs.Prelude.{if◌then◌else◌, nat_eq, slice_index}
use Rattle.std.specs.Int.RustNames.{count_ones}
use Rattle.std.proofs.Math.Dec.{eqb-suc-zero}
use Rattle.std.proofs.lemmas.Bool.{ne_eqb}
use Rattle.std.proofs.lemmas.Bool.Decides.{nat_tests}
use Rattle.std.proofs.lemmas.List.{nil_from_length, replicate-append-replicate}
use Rattle.capnp_packing.specs.Packing.{Packs, expanded, nonzero_bytes, ones, place_at_end, tag_of_word, unpacked_bytes}
use Rattle.capnp_packing.specs.declared.packing.place.Place.TheVariants.{Tag}
use Rattle.capnp_packing.proofs.PackingLemmas.{packs_append, packs_none}
use Rattle.capnp_packing.proofs.UnitLemmas.{length_front}
use Rattle.capnp_packing.proofs.UnpackingLemmas.{leads_full, leads_word}
use Rattle.capnp_packing.proofs.WordLemmas.{counted_word}
use Rattle.capnp_canonical.specs.Calls.{RefusesPacking}
use Rattle.capnp_canonical.specs.declared.refusal.Refusal.{Refusal}
use Rattle.capnp_canonical.specs.PackedWords.{first_group, first_run, first_tag, group_of, has_word, packed_after, packed_words, run, words_behind}

-- ---- a word

abbrev power : ℕ → ℕ
power zero = 1
power (suc n) = 2 * power n

half_even : (n : ℕ) → (0 + 2 * n) / 2 ≡ n
half_even n = omega arith

half_odd : (n : ℕ) → (1 + 2 * n) / 2 ≡ n
half_odd n = omega arith

bit_even : (n : ℕ) → (0 + 2 * n) % 2 ≡ 0
bit_even n = omega arith

bit_odd : (n : ℕ) → (1 + 2 * n) % 2 ≡ 1
bit_odd n = omega arith

times_zero : (x : ℕ) → x * 0 ≡ 0
times_zero x = omega arith

times_one : (x : ℕ) → x * 1 ≡ x
times_one x = omega arith

tag_small : (bs : List ℕ) → tag_of_word bs < power (length bs)
tag_small [] = omega arith
tag_small (zero ∷ bs) = omega (arith, tag_small bs)
tag_small (suc b ∷ bs) = rw (eqb-suc-zero b) (omega (arith, tag_small bs))

tag_ones : (bs : List ℕ) → ones (length bs) (tag_of_word bs) ≡ length (nonzero_bytes bs)
unfolding ones
tag_ones [] = refl
tag_ones (zero ∷ bs) = rw (bit_even (tag_of_word bs), half_even (tag_of_word bs)) (omega (arith, tag_ones bs))
tag_ones (suc b ∷ bs) =
    rw (eqb-suc-zero b, bit_odd (tag_of_word bs), half_odd (tag_of_word bs)) (omega (arith, tag_ones bs))

expanded_word : (bs : List ℕ) → expanded (length bs) (tag_of_word bs) (nonzero_bytes bs) ≡ bs
unfolding expanded
expanded_word [] = refl
expanded_word (zero ∷ bs) =
    rw (bit_even (tag_of_word bs), half_even (tag_of_word bs), times_zero (slice_index (nonzero_bytes bs) 0))
    (ap (λ l. 0 ∷ l) (expanded_word bs))
expanded_word (suc b ∷ bs) =
    rw (eqb-suc-zero b, bit_odd (tag_of_word bs), half_odd (tag_of_word bs), times_one (suc b))
    (ap (λ l. suc b ∷ l) (expanded_word bs))

nonzero_none : (bs : List ℕ) → length (nonzero_bytes bs) ≡ 0 → bs ≡ replicate (length bs) 0
nonzero_none [] h = refl
nonzero_none (zero ∷ bs) h = ap (λ l. 0 ∷ l) (nonzero_none bs h)
nonzero_none (suc b ∷ bs) h = let e = rw (eqb-suc-zero b) at h in absurd (omega (arith, e))

nonzero_short : (bs : List ℕ) → length (nonzero_bytes bs) ≤ length bs
nonzero_short [] = omega arith
nonzero_short (zero ∷ bs) = omega (arith, nonzero_short bs)
nonzero_short (suc b ∷ bs) = rw (eqb-suc-zero b) (omega (arith, nonzero_short bs))

pub first_ones : (bytes : List ℕ) → 8 ≤ length bytes → count_ones (first_tag bytes) ≡ length (nonzero_bytes (take 8 bytes))
first_ones bytes l =
    let long = length_front 8 bytes l in
    let small : first_tag bytes < 256 = rw long at (tag_small (take 8 bytes)) in
    counted_word (first_tag bytes) small ∙ (rw long at (tag_ones (take 8 bytes)))

-- ---- runs

pub has_no_word : (least most : ℕ) (bytes : List ℕ) → length bytes < 8 → has_word least most bytes ≡ false
has_no_word least most bytes h = grind (arith, nat_tests)

pub has_less : (least most : ℕ) (bytes : List ℕ) → count_ones (first_tag bytes) < least → has_word least most bytes ≡ false
has_less least most bytes h = grind (arith, nat_tests)

pub has_more : (least most : ℕ) (bytes : List ℕ) → most < count_ones (first_tag bytes) → has_word least most bytes ≡ false
has_more least most bytes h = grind (arith, nat_tests)

pub has_one : (least most : ℕ) (bytes : List ℕ) → 8 ≤ length bytes → least ≤ count_ones (first_tag bytes)
    → count_ones (first_tag bytes) ≤ most → has_word least most bytes ≡ true
has_one least most bytes l h m = grind (arith, nat_tests)

has_long : (least most : ℕ) (bytes : List ℕ) → has_word least most bytes ≡ true → 8 ≤ length bytes
has_long least most bytes h = grind (arith, nat_tests)

has_few : (least most : ℕ) (bytes : List ℕ) → has_word least most bytes ≡ true → count_ones (first_tag bytes) ≤ most
has_few least most bytes h = grind (arith, nat_tests)

pub run_none : (least most n : ℕ) (bytes : List ℕ) → has_word least most bytes ≡ false → run least most n bytes ≡ 0
unfolding run
run_none least most zero bytes h = refl
run_none least most (suc n) bytes h = rw h refl

pub run_more : (least most n k : ℕ) (bytes : List ℕ) → n ≡ suc k → has_word least most bytes ≡ true
    → run least most n bytes ≡ suc (run least most k (drop 8 bytes))
unfolding run
run_more least most n k bytes e h = rw (e, h) refl

within_step : (b : Bool) (k : ℕ) (bytes : List ℕ) → (b ≡ true → 8 ≤ length bytes) → 8 * k ≤ length (drop 8 bytes)
    → 8 * (if b then suc k else 0) ≤ length bytes
within_step true k bytes long l = let h = long refl in omega (arith, length-drop 8 bytes, l, h)
within_step false k bytes long l = omega arith

run_within : (least most n : ℕ) (bytes : List ℕ) → 8 * run least most n bytes ≤ length bytes
unfolding run
run_within least most zero bytes = omega arith
run_within least most (suc n) bytes =
    within_step (has_word least most bytes) (run least most n (drop 8 bytes)) bytes (has_long least most bytes)
    (run_within least most n (drop 8 bytes))

zeros_step : (b : Bool) (k : ℕ) (bytes : List ℕ) → (b ≡ true → take 8 bytes ≡ replicate 8 0)
    → take (8 * k) (drop 8 bytes) ≡ replicate (8 * k) 0
    → take (8 * (if b then suc k else 0)) bytes ≡ replicate (8 * (if b then suc k else 0)) 0
zeros_step true k bytes word h =
    let e : 8 * suc k ≡ 8 + 8 * k = omega arith in
    rw e (take-add 8 (8 * k) bytes ∙ ap₂ (λ (us vs : List ℕ). us ++ vs) (word refl) h
    ∙ replicate-append-replicate {A = ℕ} 8 (8 * k) 0)
zeros_step false k bytes word h = refl

zero_word : (bytes : List ℕ) → 8 ≤ length bytes → count_ones (first_tag bytes) ≤ 0 → take 8 bytes ≡ replicate 8 0
zero_word bytes l few =
    nonzero_none (take 8 bytes) (omega (arith, first_ones bytes l, few))
    ∙ ap (λ n. replicate n 0) (length_front 8 bytes l)

run_zeros : (n : ℕ) (bytes : List ℕ) → take (8 * run 0 0 n bytes) bytes ≡ replicate (8 * run 0 0 n bytes) 0
unfolding run
run_zeros zero bytes = refl
run_zeros (suc n) bytes =
    zeros_step (has_word 0 0 bytes) (run 0 0 n (drop 8 bytes)) bytes
    (λ h. zero_word bytes (has_long 0 0 bytes h) (has_few 0 0 bytes h)) (run_zeros n (drop 8 bytes))

one_within : (a b : Bool) (x y k : ℕ) → 8 * x ≤ k → 8 * y ≤ k → 8 * (if a then x else if b then y else 0) ≤ k
one_within true b x y k h m = h
one_within false true x y k h m = m
one_within false false x y k h m = omega arith

behind_within : (tag : ℕ) (bytes : List ℕ) → 8 * words_behind tag bytes ≤ length bytes
unfolding words_behind
behind_within tag bytes =
    one_within (nat_eq tag 0) (nat_eq tag 255) (run 0 0 255 bytes) (run 7 8 255 bytes) (length bytes)
    (run_within 0 0 255 bytes) (run_within 7 8 255 bytes)

pub first_within : (bytes : List ℕ) → 8 ≤ length bytes → 8 + 8 * first_run bytes ≤ length bytes
first_within bytes l =
    omega (arith, behind_within (first_tag bytes) (drop 8 bytes), length-drop 8 bytes, l)

-- ---- what a group is packed to

zeros_stand : (n : ℕ) (bytes : List ℕ) → take 8 bytes ≡ replicate 8 0 → take (8 * n) (drop 8 bytes) ≡ replicate (8 * n) 0
    → Packs (0 ∷ n ∷ []) (take (8 + 8 * n) bytes)
unfolding unpacked_bytes place_at_end
zeros_stand n bytes word more =
    let all : take (8 + 8 * n) bytes ≡ replicate (8 + 8 * n) 0 =
    take-add 8 (8 * n) bytes ∙ ap₂ (λ (us vs : List ℕ). us ++ vs) word more
    ∙ replicate-append-replicate {A = ℕ} 8 (8 * n) 0 in (
      ap (λ l. replicate 8 0 ++ l) (append-nil (replicate (8 * n) 0))
          ∙ replicate-append-replicate {A = ℕ} 8 (8 * n) 0 ∙ sym all,
      refl,
    )

full_stands : (n : ℕ) (bytes : List ℕ) → 8 ≤ length bytes → 8 * n ≤ length (drop 8 bytes)
    → Packs (255 ∷ (take 8 bytes ++ n ∷ take (8 * n) (drop 8 bytes))) (take (8 + 8 * n) bytes)
full_stands n bytes l few =
    let leads =
    leads_full (take 8 bytes) (take (8 * n) (drop 8 bytes)) n (length_front 8 bytes l) (length_front (8 * n) (drop 8 bytes) few) in
    (leads.0 ∙ append-nil (take 8 bytes ++ take (8 * n) (drop 8 bytes)) ∙ sym (take-add 8 (8 * n) bytes), leads.1)

word_stands : (tag : ℕ) (word : List ℕ) → tag ≡ tag_of_word word → length word ≡ 8 → tag ≢ 0 → tag ≢ 255
    → Packs (tag ∷ nonzero_bytes word) word
word_stands tag word e l some few =
    let counted : ones 8 tag ≡ length (nonzero_bytes word) = rw e (rw l at (tag_ones word)) in
    let leads = leads_word tag (nonzero_bytes word) some few (omega (arith, counted)) in
    let all : take (ones 8 tag) (nonzero_bytes word) ≡ nonzero_bytes word = take_all _ (nonzero_bytes word) (omega (arith, counted)) in
    let is : expanded 8 tag (nonzero_bytes word) ≡ word = rw e (rw l at (expanded_word word)) in (
      ap (λ l. unpacked_bytes Tag (tag ∷ l)) (sym all) ∙ leads.0 ∙ append-nil (expanded 8 tag (nonzero_bytes word)) ∙ is,
      ap (λ l. place_at_end Tag (tag ∷ l)) (sym all) ∙ leads.1,
    )

is_zero : (tag : ℕ) → nat_eq tag 0 ≡ true → tag ≡ 0
is_zero tag h = grind (arith, nat_tests)

not_zero : (tag : ℕ) → nat_eq tag 0 ≡ false → tag ≢ 0
not_zero tag h = grind (arith, nat_tests)

not_full : (tag : ℕ) → nat_eq tag 255 ≡ false → tag ≢ 255
not_full tag h = grind (arith, nat_tests)

tag_none : (bytes : List ℕ) → 8 ≤ length bytes → first_tag bytes ≡ 0 → take 8 bytes ≡ replicate 8 0
unfolding ones
tag_none bytes l none =
    let long = length_front 8 bytes l in
    let few : ones 8 0 ≡ length (nonzero_bytes (take 8 bytes)) = rw (long, none) at (tag_ones (take 8 bytes)) in
    nonzero_none (take 8 bytes) (sym few) ∙ ap (λ n. replicate n 0) long

stands_by : (a b : Bool) (tag : ℕ) (bytes : List ℕ) → nat_eq tag 0 ≡ a → nat_eq tag 255 ≡ b → tag ≡ first_tag bytes
    → 8 ≤ length bytes
    → Packs (group_of tag (words_behind tag (drop 8 bytes)) (take 8 bytes) (drop 8 bytes))
    (take (8 + 8 * words_behind tag (drop 8 bytes)) bytes)
unfolding words_behind
stands_by true b tag bytes none full e l =
    rw none (zeros_stand (run 0 0 255 (drop 8 bytes)) bytes (tag_none bytes l (sym e ∙ is_zero tag none)) (run_zeros 255 (drop 8 bytes)))
stands_by false true tag bytes none full e l =
    rw (none, full) (full_stands (run 7 8 255 (drop 8 bytes)) bytes l (run_within 7 8 255 (drop 8 bytes)))
stands_by false false tag bytes none full e l =
    rw (none, full) (word_stands tag (take 8 bytes) e (length_front 8 bytes l) (not_zero tag none) (not_full tag full))

group_stands : (bytes : List ℕ) → 8 ≤ length bytes → Packs (first_group bytes) (take (8 + 8 * first_run bytes) bytes)
group_stands bytes l =
    stands_by (nat_eq (first_tag bytes) 0) (nat_eq (first_tag bytes) 255) (first_tag bytes) bytes refl refl refl l

long_by : (a b : Bool) (tag n : ℕ) (word behind : List ℕ) → nat_eq tag 0 ≡ a → nat_eq tag 255 ≡ b → length word ≡ 8
    → 8 * n ≤ length behind → count_ones tag ≡ length (nonzero_bytes word)
    → length (group_of tag n word behind) ≡ (if nat_eq tag 0 then 2 else if nat_eq tag 255 then 10 + 8 * n else 1 + count_ones tag)
long_by true b tag n word behind none full l few counted = rw none refl
long_by false true tag n word behind none full l few counted =
    rw (none, full) (omega (arith, length-append word (n ∷ take (8 * n) behind), length_front (8 * n) behind few, l))
long_by false false tag n word behind none full l few counted = rw (none, full) (omega (arith, counted))

-- the length of a group by its tag
pub group_length : (bytes : List ℕ) → 8 ≤ length bytes
    → length (first_group bytes) ≡ (if nat_eq (first_tag bytes) 0 then 2
    else if nat_eq (first_tag bytes) 255 then 10 + 8 * first_run bytes else 1 + count_ones (first_tag bytes))
group_length bytes l =
    long_by (nat_eq (first_tag bytes) 0) (nat_eq (first_tag bytes) 255) (first_tag bytes) (first_run bytes) (take 8 bytes)
    (drop 8 bytes) refl refl (length_front 8 bytes l) (behind_within (first_tag bytes) (drop 8 bytes)) (first_ones bytes l)

brief_by : (a b : Bool) (n k : ℕ) → k ≤ 8 → 8 * (if a then 2 else if b then 10 + 8 * n else 1 + k) ≤ 10 * (8 + 8 * n)
brief_by true b n k h = omega arith
brief_by false true n k h = omega arith
brief_by false false n k h = omega (arith, h)

group_brief : (bytes : List ℕ) → 8 ≤ length bytes → 8 * length (first_group bytes) ≤ 10 * (8 + 8 * first_run bytes)
group_brief bytes l =
    let few : count_ones (first_tag bytes) ≤ 8 = omega (arith, first_ones bytes l, nonzero_short (take 8 bytes), length_front 8 bytes l) in
    rw (group_length bytes l) (brief_by (nat_eq (first_tag bytes) 0) (nat_eq (first_tag bytes) 255) (first_run bytes) (count_ones (first_tag bytes)) few)

-- ---- one group after another

after_drop : (bytes : List ℕ) (n : ℕ) → packed_after bytes n ≡ packed_after (drop n bytes) 0
unfolding packed_after
after_drop [] zero = refl
after_drop [] (suc n) = refl
after_drop (b ∷ bytes) zero = refl
after_drop (b ∷ bytes) (suc n) = after_drop bytes n

pub packed_none : packed_words [] ≡ []
unfolding packed_after
packed_none = refl

pub packed_step : (bytes : List ℕ) → 0 < length bytes
    → packed_words bytes ≡ first_group bytes ++ packed_words (drop (8 + 8 * first_run bytes) bytes)
unfolding packed_after
packed_step [] some = absurd (omega (arith, some))
packed_step (b ∷ bytes) some =
    let e : 8 + 8 * first_run (b ∷ bytes) ≡ suc (7 + 8 * first_run (b ∷ bytes)) = omega arith in
    ap (λ l. first_group (b ∷ bytes) ++ l) (after_drop bytes (7 + 8 * first_run (b ∷ bytes))
    ∙ ap (λ n. packed_words (drop n (b ∷ bytes))) (sym e))

-- whole words are packed to bytes that stand for them
stand_within : (n : ℕ) (bytes : List ℕ) → length bytes ≤ n → length bytes % 8 ≡ 0 → Packs (packed_words bytes) bytes
stand_within n [] few even = rw packed_none packs_none
stand_within zero (b ∷ bytes) few even = absurd (omega (arith, few))
stand_within (suc n) (b ∷ bytes) few even =
    let all : List ℕ = b ∷ bytes in
    let k : ℕ = 8 + 8 * first_run (b ∷ bytes) in
    let long : 8 ≤ length (b ∷ bytes) = omega (arith, even) in
    let inside : k ≤ length (b ∷ bytes) = first_within (b ∷ bytes) long in
    let rest : length (drop k (b ∷ bytes)) ≡ length (b ∷ bytes) - k = length-drop k (b ∷ bytes) in
    let more = stand_within n (drop k (b ∷ bytes)) (omega (arith, rest, few, inside)) (omega (arith, rest, even, inside)) in
    let both = packs_append (first_group (b ∷ bytes)) (packed_words (drop k (b ∷ bytes))) (take k (b ∷ bytes)) (drop k (b ∷ bytes)) (group_stands (b ∷ bytes) long) more in
    subst (λ (p : List ℕ). Packs p (b ∷ bytes)) (sym (packed_step (b ∷ bytes) (omega arith)))
    (subst (λ (w : List ℕ). Packs (first_group (b ∷ bytes) ++ packed_words (drop k (b ∷ bytes))) w) (take-append-drop k (b ∷ bytes)) both)

pub words_stand : (bytes : List ℕ) → length bytes % 8 ≡ 0 → Packs (packed_words bytes) bytes
words_stand bytes even = stand_within (length bytes) bytes (omega arith) even

-- and that are at most ten for each word
brief_within : (n : ℕ) (bytes : List ℕ) → length bytes ≤ n → length bytes % 8 ≡ 0
    → 8 * length (packed_words bytes) ≤ 10 * length bytes
brief_within n [] few even = rw packed_none (omega arith)
brief_within zero (b ∷ bytes) few even = absurd (omega (arith, few))
brief_within (suc n) (b ∷ bytes) few even =
    let k : ℕ = 8 + 8 * first_run (b ∷ bytes) in
    let long : 8 ≤ length (b ∷ bytes) = omega (arith, even) in
    let inside : k ≤ length (b ∷ bytes) = first_within (b ∷ bytes) long in
    let rest : length (drop k (b ∷ bytes)) ≡ length (b ∷ bytes) - k = length-drop k (b ∷ bytes) in
    let more = brief_within n (drop k (b ∷ bytes)) (omega (arith, rest, few, inside)) (omega (arith, rest, even, inside)) in
    let first = group_brief (b ∷ bytes) long in
    let sum : length (packed_words (b ∷ bytes)) ≡ length (first_group (b ∷ bytes)) + length (packed_words (drop k (b ∷ bytes))) =
    ap length (packed_step (b ∷ bytes) (omega arith)) ∙ length-append (first_group (b ∷ bytes)) (packed_words (drop k (b ∷ bytes))) in
    omega (arith, sum, first, more, rest, inside)

pub words_brief : (bytes : List ℕ) → length bytes % 8 ≡ 0 → 8 * length (packed_words bytes) ≤ 10 * length bytes
words_brief bytes even = brief_within (length bytes) bytes (omega arith) even

-- ---- the loops that pack and count

-- the words in front were counted, and the next one is counted too, or is not of the run
pub run_goes : (limit least most n ones : ℕ) (bytes rest : List ℕ) → rest ≡ drop (8 * n) bytes → n < limit → 8 ≤ length rest
    → ones ≡ count_ones (first_tag rest) → least ≤ ones → ones ≤ most
    → n + run least most (limit - n) (drop (8 * n) bytes) ≡ run least most limit bytes
    → n + 1 + run least most (limit - (n + 1)) (drop (8 * (n + 1)) bytes) ≡ run least most limit bytes
run_goes limit least most n ones bytes rest e few l is h m before =
    let there = has_one least most rest l (omega (arith, is, h)) (omega (arith, is, m)) in
    let here = rw e at there in
    let more = run_more least most (limit - n) (limit - (n + 1)) (drop (8 * n) bytes) (omega (arith, few)) here in
    let next : drop 8 (drop (8 * n) bytes) ≡ drop (8 * (n + 1)) bytes =
    drop-drop 8 (8 * n) bytes ∙ ap (λ k. drop k bytes) (omega arith) in
    let same = ap (run least most (limit - (n + 1))) next in
    omega (arith, before, more, same)

pub run_ends : (limit least most n : ℕ) (bytes rest : List ℕ) → rest ≡ drop (8 * n) bytes → has_word least most rest ≡ false
    → n + run least most (limit - n) (drop (8 * n) bytes) ≡ run least most limit bytes → n ≡ run least most limit bytes
run_ends limit least most n bytes rest e none before =
    let here = rw e at none in omega (arith, before, run_none least most (limit - n) (drop (8 * n) bytes) here)

pub run_full : (limit least most n : ℕ) (bytes : List ℕ) → limit ≤ n
    → n + run least most (limit - n) (drop (8 * n) bytes) ≡ run least most limit bytes → n ≡ run least most limit bytes
unfolding run
run_full limit least most n bytes full before =
    let none : limit - n ≡ 0 = omega (arith, full) in
    let last : run least most (limit - n) (drop (8 * n) bytes) ≡ 0 = rw none refl in
    omega (arith, before, last)

-- the run after the first word, by its tag
pub run_of_zeros : (tag : ℕ) (bytes : List ℕ) → tag ≡ first_tag bytes → tag ≡ 0 → run 0 0 255 (drop 8 bytes) ≡ first_run bytes
unfolding words_behind
run_of_zeros tag bytes e none = rw (← e, none) refl

pub run_of_full : (tag : ℕ) (bytes : List ℕ) → tag ≡ first_tag bytes → tag ≡ 255 → run 7 8 255 (drop 8 bytes) ≡ first_run bytes
unfolding words_behind
run_of_full tag bytes e full = rw (← e, full) refl

pub run_of_others : (tag : ℕ) (bytes : List ℕ) → tag ≡ first_tag bytes → tag ≢ 0 → tag ≢ 255 → 0 ≡ first_run bytes
unfolding words_behind
run_of_others tag bytes e some few = rw (← e, ne_eqb tag 0 some, ne_eqb tag 255 few) refl

-- one more group
pub long_at : (words rest : List ℕ) (taken : ℕ) → rest ≡ drop taken words → taken % 8 ≡ 0 → length words % 8 ≡ 0
    → taken < length words → 8 ≤ length rest
long_at words rest taken e even whole more = omega (arith, ap length e, length-drop taken words, even, whole, more)

pub packed_at : (words rest : List ℕ) (taken k : ℕ) → rest ≡ drop taken words → 8 ≤ length rest → k ≡ 8 + 8 * first_run rest
    → packed_words (drop taken words) ≡ first_group rest ++ packed_words (drop (taken + k) words)
packed_at words rest taken k e l is =
    rw (← e, is) (packed_step rest (omega (arith, l))
    ∙ ap (λ (w : List ℕ). first_group rest ++ packed_words w)
    (ap (drop (8 + 8 * first_run rest)) e ∙ drop-drop (8 + 8 * first_run rest) taken words))

pub size_at : (rest : List ℕ) (tag more n : ℕ) → 8 ≤ length rest → tag ≡ first_tag rest → more ≡ first_run rest
    → n ≡ (if nat_eq tag 0 then 2 else if nat_eq tag 255 then 10 + 8 * more else 1 + count_ones tag)
    → n ≡ length (first_group rest)
size_at rest tag more n l t m is = is ∙ rw (t, m) (sym (group_length rest l))

pub counted_at : (words rest : List ℕ) (taken k size n sum : ℕ) → rest ≡ drop taken words → 8 ≤ length rest
    → k ≡ 8 + 8 * first_run rest → n ≡ length (first_group rest) → sum ≡ size + n
    → size + length (packed_words (drop taken words)) ≡ length (packed_words words)
    → sum + length (packed_words (drop (taken + k) words)) ≡ length (packed_words words)
counted_at words rest taken k size n sum e l is many total before =
    let step = ap length (packed_at words rest taken k e l is)
    ∙ length-append (first_group rest) (packed_words (drop (taken + k) words)) in
    omega (arith, step, many, total, before)

pub counted_all : (words : List ℕ) (taken size : ℕ) → length words ≤ taken
    → size + length (packed_words (drop taken words)) ≡ length (packed_words words) → size ≡ length (packed_words words)
counted_all words taken size end before =
    let none : drop taken words ≡ [] = nil_from_length (drop taken words) (omega (arith, length-drop taken words, end)) in
    let zero : length (packed_words (drop taken words)) ≡ 0 = ap (λ w. length (packed_words w)) none ∙ ap length packed_none in
    omega (arith, before, zero)

pub written_at : (words rest : List ℕ) (taken k given end : ℕ) (old new : List ℕ) → rest ≡ drop taken words → 8 ≤ length rest
    → k ≡ 8 + 8 * first_run rest → take end new ≡ take given old ++ first_group rest
    → take given old ++ packed_words (drop taken words) ≡ packed_words words
    → take end new ++ packed_words (drop (taken + k) words) ≡ packed_words words
written_at words rest taken k given end old new e l is put before =
    ap (λ b. b ++ packed_words (drop (taken + k) words)) put
    ∙ append_assoc (take given old) (first_group rest) (packed_words (drop (taken + k) words))
    ∙ ap (λ b. take given old ++ b) (sym (packed_at words rest taken k e l is)) ∙ before

pub written_all : (words to : List ℕ) (taken given : ℕ) → length words ≤ taken → length (packed_words words) ≡ length to
    → take given to ++ packed_words (drop taken words) ≡ packed_words words
    → given + length (packed_words (drop taken words)) ≡ length (packed_words words) → to ≡ packed_words words
written_all words to taken given end room before many =
    let none : drop taken words ≡ [] = nil_from_length (drop taken words) (omega (arith, length-drop taken words, end)) in
    let nothing : packed_words (drop taken words) ≡ [] = ap (λ w. packed_words w) none ∙ packed_none in
    let all : given ≡ length to = omega (arith, many, room, ap length nothing) in
    sym (take_all given to (omega (arith, all))) ∙ sym (append-nil (take given to))
    ∙ ap (λ b. take given to ++ b) (sym nothing) ∙ before

-- a call isn't refused for room if there is enough
pub room_is_enough : (words : List ℕ) (room : ℕ) {r : Refusal} → RefusesPacking words room r → length words % 8 ≡ 0
    → (length (packed_words words) ≤ room) ⊎ (10 * length words ≤ 8 * room) → ⊥
room_is_enough words room (inl (named, uneven)) whole enough = uneven whole
room_is_enough words room (inr (_, even, less)) whole (inl h) = omega (arith, h, less)
room_is_enough words room (inr (_, even, less)) whole (inr h) = omega (arith, h, less, words_brief words whole)
