-- What a tag and the bytes after it unpack to, if they are parts of slices.
use Rattle.std.proofs.Common.{◌≡◌, ℕ, suc, ◌+◌, ◌-◌, ◌*◌, ◌<◌, ◌≤◌, ◌≢◌, List, [], ◌∷◌, ◌++◌, replicate, length, take, drop, take-add, take_at, drop_at, take-take, drop-drop, drop-cons, ap₂, Option, Some, None, sym, ap, subst, ◌∙◌, arith, append_assoc, append-nil, length-append, length-take, length-drop}
use Rattle.std.specs.Prelude.{slice_index, slice_range}
use Rattle.std.specs.Io.KnownBytes.{Consumes, prepend_known}
use Rattle.std.proofs.lemmas.List.{length-replicate, take-append-le, take_rest}
use Rattle.std.proofs.lemmas.Slice.{take-put_mid_below}
use Rattle.std.proofs.KnownBytes.{prepend_known-nil}
use borrow.Rule.Slice.PartMut.{put_mid, post_of}
use Rattle.capnp_packing.specs.Packing.{GivesAndLeads, expanded, ones}
use Rattle.capnp_packing.proofs.UnpackingLemmas.{Unpacks, count_none, count_some, full_word, leads_counted, leads_more, leads_word, leads_zeros, takes_zeros}
use Rattle.capnp_packing.specs.declared.packing.place.Place.{Place}
use Rattle.capnp_packing.specs.declared.packing.place.Place.TheVariants.{Tag, Count, Raw}

-- ---- parts of slices

pub length_front : (n : ℕ) (xs : List ℕ) → n ≤ length xs → length (take n xs) ≡ n
length_front n xs h = omega (arith, length-take n xs, h)

pub written : (a n k : ℕ) (xs ys : List ℕ) → a ≤ length xs → n ≤ length ys
    → take (a + n) (put_mid a k xs ys) ≡ take a xs ++ take n ys
written a n k xs ys h l =
    let front = length_front a xs h in
    take-add a n (put_mid a k xs ys)
    ∙ ap₂ (λ (us vs : List ℕ). us ++ take n vs) (take_at (take a xs) (ys ++ post_of a k xs) a front)
    (drop_at (take a xs) (ys ++ post_of a k xs) a front)
    ∙ ap (λ vs. take a xs ++ vs) (take-append-le n ys (post_of a k xs) l)

pub kept_below : (a k : ℕ) (xs ys : List ℕ) → a ≤ length xs → take a (put_mid a k xs ys) ≡ take a xs
kept_below a k xs ys h = take-put_mid_below a k xs ys a (omega arith) h

pub cons_at : (xs : List ℕ) (i k : ℕ) → i < length xs → take (suc k) (drop i xs) ≡ slice_index xs i ∷ take k (drop (suc i) xs)
cons_at xs i k h = ap (take (suc k)) (drop-cons xs i 0 h)

pub zeros_written : (n : ℕ) (new rest to : List ℕ) → n ≤ length to → new ≡ replicate (length (take n to)) 0
    → take n (new ++ rest) ≡ replicate n 0
zeros_written n new rest to l is =
    let e : new ≡ replicate n 0 = is ∙ ap (λ m. replicate m 0) (length_front n to l) in
    take_at new rest n (ap length e ∙ length-replicate {A = ℕ} n 0) ∙ e

pub parts_of : (bytes : List ℕ) (at end n : ℕ) → at + n ≤ end
    → slice_range bytes at end ≡ take n (slice_range bytes at end) ++ slice_range bytes (at + n) end
parts_of bytes at end n l =
    let many : end - at ≡ n + (end - (at + n)) = omega (arith, l) in
    let rest = drop at bytes in
    ap (λ m. take m rest) many ∙ take-add n (end - (at + n)) rest
    ∙ ap₂ (λ (us vs : List ℕ). us ++ take (end - (at + n)) vs) (sym (take-take n (end - at) rest (omega (arith, l))))
    (drop-drop n at bytes)

-- n bytes that are ahead are consumed
pub consumed : (bytes : List ℕ) (at end n : ℕ) (known : Option (List ℕ)) → at + n ≤ end
    → Consumes (prepend_known (slice_range bytes at end) known) (prepend_known (slice_range bytes (at + n) end) known)
    (take n (slice_range bytes at end))
consumed bytes at end n None l = tt
consumed bytes at end n (Some more) l =
    ap (λ l. l ++ more) (parts_of bytes at end n l)
    ∙ append_assoc (take n (slice_range bytes at end)) (slice_range bytes (at + n) end) more

-- the first byte that is ahead is consumed
pub byte_ahead : (bytes : List ℕ) (at end : ℕ) (known : Option (List ℕ)) → at < end → at < length bytes
    → Consumes (prepend_known (slice_range bytes at end) known) (prepend_known (slice_range bytes (at + 1) end) known)
    (slice_index bytes at ∷ [])
byte_ahead bytes at end known l inside =
    let one : take 1 (slice_range bytes at end) ≡ slice_index bytes at ∷ [] =
    take-take 1 (end - at) (drop at bytes) (omega (arith, l)) ∙ cons_at bytes at 0 inside in
    subst (λ (taken : List ℕ). Consumes (prepend_known (slice_range bytes at end) known)
    (prepend_known (slice_range bytes (at + 1) end) known) taken) one (consumed bytes at end 1 known (omega (arith, l)))

pub none_ahead : (bytes : List ℕ) (at end : ℕ) (known : Option (List ℕ)) → at ≡ end
    → prepend_known (slice_range bytes at end) known ≡ known
none_ahead bytes at end known e =
    let none : end - at ≡ 0 = omega (arith, e) in rw none (prepend_known-nil known)

pub copied_ahead : (bytes copied rest to : List ℕ) (at end n : ℕ) → at + n ≤ end → n ≤ length to
    → length copied ≡ length (take n to) → copied ≡ slice_range bytes at (at + n)
    → take n (copied ++ rest) ≡ take n (slice_range bytes at end)
copied_ahead bytes copied rest to at end n l room long is =
    let many : (at + n) - at ≡ n = omega arith in
    take_at copied rest n (long ∙ length_front n to room)
    ∙ is ∙ ap (λ m. take m (drop at bytes)) many ∙ sym (take-take n (end - at) (drop at bytes) (omega (arith, l)))

-- ---- zero words

pub zeros_unit : (more n : ℕ) (new rest to : List ℕ) → n ≤ length to → n ≤ 8 + 8 * more
    → new ≡ replicate (length (take n to)) 0
    → GivesAndLeads Tag (0 ∷ more ∷ []) (take n (new ++ rest)) (8 + 8 * more - n) Tag
zeros_unit more n new rest to l m is = leads_zeros more n _ m (zeros_written n new rest to l is)

pub zero_unit : (more : ℕ) (new rest to : List ℕ) → more ≡ 0 → 8 ≤ length to → new ≡ replicate (length (take 8 to)) 0
    → GivesAndLeads Tag (0 ∷ more ∷ []) (take 8 (new ++ rest)) 0 Tag
zero_unit more new rest to none l is = rw none (zeros_unit 0 8 new rest to l (omega arith) is)

pub zeros_due : (place : Place) (n due : ℕ) (known : Option (List ℕ)) (new rest to : List ℕ) → n ≤ length to → n ≤ due
    → new ≡ replicate (length (take n to)) 0 → Unpacks due place known (due - n) place known (take n (new ++ rest))
zeros_due place n due known new rest to l m is =
    rw (zeros_written n new rest to l is) (takes_zeros place n due known m)

-- ---- words copied unchanged

whole_front : (packed : List ℕ) (k : ℕ) → 10 ≤ length packed
    → take (10 + k) packed ≡ slice_index packed 0 ∷ (take 8 (drop 1 packed) ++ slice_index packed 9 ∷ take k (drop 10 packed))
whole_front packed k l =
    let e : 10 + k ≡ suc (8 + suc k) = omega arith in
    ap (λ n. take n packed) e
    ∙ cons_at packed 0 (8 + suc k) (omega (arith, l))
    ∙ ap (λ l. slice_index packed 0 ∷ l) (take-add 8 (suc k) (drop 1 packed)
    ∙ ap (λ l. take 8 (drop 1 packed) ++ take (suc k) l) (drop-drop 8 1 packed)
    ∙ ap (λ l. take 8 (drop 1 packed) ++ l) (cons_at packed 9 k (omega (arith, l))))

word_long : (packed : List ℕ) → 10 ≤ length packed → length (take 8 (drop 1 packed)) ≡ 8
word_long packed l = omega (arith, length-take 8 (drop 1 packed), length-drop 1 packed, l)

whole_leads : (packed run bytes : List ℕ) (k : ℕ) (place : Place) → 10 ≤ length packed → slice_index packed 0 ≡ 255
    → bytes ≡ take 8 (drop 1 packed) ++ run → GivesAndLeads Count (slice_index packed 9 ∷ take k (drop 10 packed)) run 0 place
    → GivesAndLeads Tag (take (10 + k) packed) bytes 0 place
whole_leads packed run bytes k place l full is h =
    rw (whole_front packed k l, full, is)
    (full_word (take 8 (drop 1 packed)) (slice_index packed 9 ∷ take k (drop 10 packed)) run place (word_long packed l) h)

pub whole_alone : (packed copied rest : List ℕ) → 10 ≤ length packed → slice_index packed 0 ≡ 255
    → copied ≡ take 8 (drop 1 packed) → 8 * slice_index packed 9 ≡ 0
    → GivesAndLeads Tag (take 10 packed) (take 8 (copied ++ rest)) 0 Tag
whole_alone packed copied rest l full is none =
    whole_leads packed [] _ 0 Tag l full
    (take_at copied rest 8 (ap length is ∙ word_long packed l) ∙ is ∙ sym (append-nil (take 8 (drop 1 packed))))
    (count_none (slice_index packed 9) (omega (arith, none)))

pub whole_before : (packed copied rest : List ℕ) → 10 ≤ length packed → slice_index packed 0 ≡ 255
    → copied ≡ take 8 (drop 1 packed) → 8 * slice_index packed 9 ≢ 0
    → GivesAndLeads Tag (take 10 packed) (take 8 (copied ++ rest)) 0 (Raw (8 * slice_index packed 9 - 1))
whole_before packed copied rest l full is some =
    whole_leads packed [] _ 0 (Raw (8 * slice_index packed 9 - 1)) l full
    (take_at copied rest 8 (ap length is ∙ word_long packed l) ∙ is ∙ sym (append-nil (take 8 (drop 1 packed))))
    (count_some (slice_index packed 9) (λ none. some (omega (arith, none))))

pub whole_run : (packed copied rest run : List ℕ) (m : ℕ) → 10 + 8 * slice_index packed 9 ≤ length packed
    → slice_index packed 0 ≡ 255 → copied ≡ take 8 (drop 1 packed) → m ≡ 8 + 8 * slice_index packed 9 - 8
    → run ≡ take (8 * slice_index packed 9) (drop 10 packed)
    → GivesAndLeads Tag (take (10 + 8 * slice_index packed 9) packed)
    (take (8 + 8 * slice_index packed 9) (put_mid 8 m (copied ++ rest) run)) 0 Tag
whole_run packed copied rest run m l full is mid there =
    let long = ap length is ∙ word_long packed (omega (arith, l)) in
    let many : length run ≡ 8 * slice_index packed 9 =
    ap length there ∙ length_front (8 * slice_index packed 9) (drop 10 packed)
    (omega (arith, length-drop 10 packed, l)) in
    let all : take (8 + 8 * slice_index packed 9) (put_mid 8 m (copied ++ rest) run)
    ≡ take 8 (drop 1 packed) ++ take (8 * slice_index packed 9) (drop 10 packed) =
    written 8 (8 * slice_index packed 9) m (copied ++ rest) run (omega (arith, length-append copied rest, long)) (omega (arith, many))
    ∙ ap₂ (λ (us vs : List ℕ). us ++ vs) (take_at copied rest 8 long ∙ is)
    (ap (take (8 * slice_index packed 9)) there ∙ take-take _ _ (drop 10 packed) (omega arith)) in
    whole_leads packed (take (8 * slice_index packed 9) (drop 10 packed)) _ (8 * slice_index packed 9) Tag (omega (arith, l))
    full all
    (leads_counted (take (8 * slice_index packed 9) (drop 10 packed)) (slice_index packed 9) (ap length (sym there) ∙ many))

-- ---- a word after its tag

pub word_unit : (packed new rest : List ℕ) (n : ℕ) → 10 ≤ length packed → slice_index packed 0 ≢ 0
    → slice_index packed 0 ≢ 255 → n ≡ ones 8 (slice_index packed 0) → n ≤ 8 → length new ≡ 8
    → new ≡ expanded 8 (slice_index packed 0) (take 8 (drop 1 packed))
    → GivesAndLeads Tag (take (1 + n) packed) (take 8 (new ++ rest)) 0 Tag
word_unit packed new rest n l some few many most long is =
    let e : 1 + n ≡ suc n = omega arith in
    let front : take (1 + n) packed ≡ slice_index packed 0 ∷ take n (take 8 (drop 1 packed)) =
    ap (λ m. take m packed) e ∙ cons_at packed 0 n (omega (arith, l))
    ∙ ap (λ l. slice_index packed 0 ∷ l) (sym (take-take n 8 (drop 1 packed) most)) in
    let word = take_at new rest 8 long ∙ is in
    rw (front, word, many)
    (leads_word (slice_index packed 0) (take 8 (drop 1 packed)) some few (omega (arith, word_long packed l, many, most)))

-- ---- one after another

pub unit_more : (packed to new : List ℕ) (taken given t n tail : ℕ) (place : Place) → given ≤ length to
    → n ≤ length new → GivesAndLeads Tag (take taken packed) (take given to) 0 Tag
    → GivesAndLeads Tag (take t (take (length packed - taken) (drop taken packed))) (take n new) tail place
    → GivesAndLeads Tag (take (taken + t) packed) (take (given + n) (put_mid given (length to - given) to new)) tail place
unit_more packed to new taken given t n tail place l m before unit =
    let rest = take_rest packed taken in
    let more = rw rest at unit in
    rw (take-add taken t packed, written given n (length to - given) to new l m)
    (leads_more Tag Tag place (take taken packed) (take t (drop taken packed)) (take given to) (take n new) tail before more)
