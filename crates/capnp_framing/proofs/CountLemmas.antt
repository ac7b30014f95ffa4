-- The number of segments is read from the first four bytes.
use Rattle.std.proofs.Common.{Bool, true, false, ◌≡◌, ℕ, ◌+◌, ◌*◌, ◌<◌, ◌≤◌, Result, Ok, List, ◌++◌, length, take, sym, ap, ◌∙◌, subst, arith, length-take, take_at, take_all, length-append, refl, Option, Some, None, IfSome}
use Rattle.std.specs.Int.{from_le_bytes, w32}
use Rattle.std.specs.Io.KnownBytes.{Consumes, IsAtEnd}
use Rattle.capnp_framing.specs.Reading.{HasTable, NoFrame, count_cut, segments_told, table_cut, table_size, too_many, words_cut, words_in_table}
use Rattle.capnp_framing.specs.declared.framing.frame_error.FrameError.TheVariants.{ReadFailed, TooManySegments, Truncated}
use Rattle.capnp_framing.proofs.BareLemmas.{all_so, begins_so}

-- a call that returns true doesn't return false
pub not_false : {E P : Type 0} {r : Result Bool E} → r ≡ Ok true → r ≡ Ok false → P
not_false is e = absurd (let wrong : ⊥ = cc in wrong)

pub not_true : {E P : Type 0} {r : Result Bool E} → r ≡ Ok false → r ≡ Ok true → P
not_true is e = absurd (let wrong : ⊥ = cc in wrong)

pub not_none : {A E P : Type 0} {r : Result (Option A) E} {x : A} → r ≡ Ok (Some x) → r ≡ Ok None → P
not_none is e = absurd (let wrong : ⊥ = cc in wrong)

-- an input that failed didn't end
pub not_cut : {P : Type 0} → ReadFailed ≡ Truncated → P
not_cut e = absurd (let wrong : ⊥ = cc in wrong)

-- no byte was read, and the input is at its end
pub end_at_once : (a b : Option (List ℕ)) (n : ℕ) (xs : List ℕ) → n ≡ 0 → Consumes a b (take n xs) → IsAtEnd b → IsAtEnd a × IsAtEnd b
end_at_once None b n xs none f end = (tt, end)
end_at_once (Some x) None n xs none f end = absurd f
end_at_once (Some x) (Some y) n xs none f end = (f ∙ ap (λ k. take k xs ++ y) none ∙ end, end)

-- not all four bytes came
pub short_count : (a b : Option (List ℕ)) (n most : ℕ) (xs : List ℕ) → length xs ≡ 4 → 0 < n → n < 4 → Consumes a b (take n xs) → IsAtEnd b → IfSome a (λ bytes. NoFrame bytes most Truncated)
short_count a b n most xs long some less f end =
    let size : length (take n xs) ≡ n = omega (arith, length-take n xs, long, less) in
    all_so a b (take n xs) (λ bytes. NoFrame bytes most Truncated) f end (count_cut (omega (arith, size, some)) (omega (arith, size, less)) refl)

-- all four bytes came
pub four_read : (a b : Option (List ℕ)) (n : ℕ) (xs : List ℕ) → length xs ≡ 4 → n ≡ 4 → Consumes a b (take n xs) → Consumes a b xs
four_read a b n xs long four f = subst (Consumes a b) (take_all n xs (omega (arith, long, four))) f

-- they tell more segments than are allowed
pub many_told : (a b : Option (List ℕ)) (most told : ℕ) (xs : List ℕ) → length xs ≡ 4 → told ≡ from_le_bytes w32 xs → 512 < told + 1 → Consumes a b xs → IfSome a (λ bytes. NoFrame bytes most (TooManySegments (told + 1)))
many_told a b most told xs long is many f =
    begins_so a b xs (λ bytes. NoFrame bytes most (TooManySegments (told + 1))) f
    (λ rest.
    (let same : segments_told (xs ++ rest) ≡ told + 1 = ap (λ (ys : List ℕ). from_le_bytes w32 ys + 1) (take_at xs rest 4 long) ∙ ap (λ k. k + 1) (sym is) in
    too_many (omega (arith, long, length-append xs rest)) (omega (arith, same, many)) (ap TooManySegments (sym same))))

-- the number of segments is the one that they tell
pub count_told : (told : ℕ) (xs : List ℕ) → length xs ≡ 4 → told ≡ from_le_bytes w32 xs → told + 1 ≡ segments_told xs
count_told told xs long is = ap (λ k. k + 1) (is ∙ ap (from_le_bytes w32) (sym (take_all 4 xs (omega (arith, long)))))

-- fewer bytes came than were requested, and there are no more
pub short_read : (a b : Option (List ℕ)) (n m : ℕ) (xs : List ℕ) → n < m → Consumes a b (take n xs) → IsAtEnd b → IfSome a (λ bytes. length bytes < m)
short_read a b n m xs less f end = all_so a b (take n xs) (λ bytes. length bytes < m) f end (omega (arith, length-take n xs, less))

-- The same for bytes in memory: the table is there, and tells w words in n segments.

pub table_there : (bytes : List ℕ) (n : ℕ) → 4 ≤ length bytes → n ≡ segments_told bytes → n ≤ 512 → table_size n ≤ length bytes → HasTable bytes
table_there bytes n four is few room = record { count = four; few = subst (λ k. k ≤ 512) is few; table = subst (λ k. table_size k ≤ length bytes) is room }

pub table_short : (bytes : List ℕ) (n most : ℕ) → 4 ≤ length bytes → n ≡ segments_told bytes → n ≤ 512 → length bytes < table_size n → NoFrame bytes most Truncated
table_short bytes n most four is few cut = table_cut four (subst (λ k. k ≤ 512) is few) (subst (λ k. length bytes < table_size k) is cut) refl

pub words_short : (bytes : List ℕ) (n w most : ℕ) → HasTable bytes → n ≡ segments_told bytes → w ≡ words_in_table bytes → w ≤ most → length bytes < table_size n + 8 * w → NoFrame bytes most Truncated
words_short bytes n w most h is words low cut =
    words_cut h (subst (λ k. k ≤ most) words low)
    (subst (λ k. length bytes < table_size k + 8 * words_in_table bytes) is (subst (λ k. length bytes < table_size n + 8 * k) words cut)) refl
