-- Packed bytes unpack to what was packed, also after what was packed before.
use Rattle.std.proofs.Common.{◌≡◌, ℕ, zero, suc, ◌+◌, ◌-◌, ◌*◌, ◌/◌, ◌%◌, ◌^◌, ◌<◌, ◌≤◌, ◌≢◌, List, [], ◌∷◌, ◌++◌, replicate, map, length, take, drop, set, take-add, take-append-drop, take_all, ap₂, Option, Some, None, refl, sym, ap, ◌∙◌, arith, add-one, append_assoc, append-nil, length-append, length-drop, length-set, length-take}
use Rattle.std.specs.Prelude.{cond, if◌then◌else◌, nat_eq, slice_range, Bool, not}
use Rattle.std.specs.Io.KnownBytes.{Appends, Keeps, append_known}
use Rattle.std.proofs.KnownBytes.{Keeps-refl, Keeps-trans, append_known-moved}
use Rattle.std.proofs.Math.Dec.{eqb-suc-zero}
use Rattle.std.proofs.lemmas.Bool.{ne_eqb}
use Rattle.std.proofs.lemmas.List.{nil_from_length, replicate-append-replicate, take_more_set, take_rest}
use Rattle.std.proofs.lemmas.Simd.{bitmask_splat}
use borrow.Rule.Slice.PartMut.{put_mid, post_of}
use lib.Lanes.{mask_l, top, zip2}
use mir.Syntax.{w8}
use Rattle.capnp_packing.specs.Packing.{IsWhole, Packs, is_tag, lead, nonzero_bytes, place_at_end, place_within, tag_of_word, unpacked_bytes, unpacked_known}
use Rattle.capnp_packing.proofs.UnitLemmas.{length_front, parts_of, written}
use Rattle.capnp_packing.proofs.UnpackingLemmas.{
  leads_full,
  place_at_end-append,
  take_one,
  unpacked-append,
  word_behind,
}
use Rattle.capnp_packing.specs.declared.packing.place.Place.{Place}
use Rattle.capnp_packing.specs.declared.packing.place.Place.TheVariants.{Tag, Kept, Zeros, Whole, Count, Raw}

-- ---- a word after its tag

half_even : (n : ℕ) → (0 + 2 * n) / 2 ≡ n
half_even n = omega arith

half_odd : (n : ℕ) → (1 + 2 * n) / 2 ≡ n
half_odd n = omega arith

bit_even : (n : ℕ) → (0 + 2 * n) % 2 ≡ 0
bit_even n = omega arith

bit_odd : (n : ℕ) → (1 + 2 * n) % 2 ≡ 1
bit_odd n = omega arith

lead_even : (n t : ℕ) → lead (suc n) (0 + 2 * t) ≡ suc (lead n t)
lead_even n t = rw (bit_even t, half_even t) (add-one (lead n t))

lead_odd : (n t : ℕ) → lead (suc n) (1 + 2 * t) ≡ 0
lead_odd n t = rw (bit_odd t) refl

within_even : (n t : ℕ) → place_within (suc n) (0 + 2 * t) ≡ place_within n t
within_even n t = rw (bit_even t, half_even t) refl

within_odd : (n t : ℕ) → place_within (suc n) (1 + 2 * t) ≡ Kept t n
within_odd n t = rw (bit_odd t, half_odd t) refl

word_kept : (bs : List ℕ)
    → (replicate (lead (length bs) (tag_of_word bs)) 0 ++ unpacked_bytes (place_within (length bs) (tag_of_word bs)) (nonzero_bytes bs) ≡ bs)
    × IsWhole (place_within (length bs) (tag_of_word bs)) (nonzero_bytes bs)
unfolding unpacked_bytes place_at_end
word_kept [] = (refl, refl)
word_kept (zero ∷ bs) = let ih = word_kept bs in
    rw (lead_even (length bs) (tag_of_word bs), within_even (length bs) (tag_of_word bs)) (ap (λ l. 0 ∷ l) ih.0, ih.1)
word_kept (suc b ∷ bs) = let ih = word_kept bs in
    rw (eqb-suc-zero b, lead_odd (length bs) (tag_of_word bs), within_odd (length bs) (tag_of_word bs))
    (ap (λ l. suc b ∷ l) ih.0, ih.1)

gives_word : (word : List ℕ) → length word ≡ 8 → tag_of_word word ≢ 0 → tag_of_word word ≢ 255 → Packs (tag_of_word word ∷ nonzero_bytes word) word
unfolding unpacked_bytes place_at_end
gives_word word l some few =
    let known = rw l at (word_kept word) in (
      rw (ne_eqb (tag_of_word word) 0 some, ne_eqb (tag_of_word word) 255 few) known.0,
      ap (λ p. place_at_end p (nonzero_bytes word)) (word_behind (tag_of_word word) some few) ∙ known.1,
    )

-- ---- a run of zero words

gives_zeros : (n : ℕ) → Packs (0 ∷ n ∷ []) (replicate (8 + 8 * n) 0)
unfolding unpacked_bytes place_at_end
gives_zeros n = (
  ap (λ l. replicate 8 0 ++ l) (append-nil (replicate (8 * n) 0)) ∙ replicate-append-replicate {A = ℕ} 8 (8 * n) 0,
  refl,
)

-- ---- words copied unchanged

gives_full : (word run : List ℕ) (n : ℕ) → length word ≡ 8 → length run ≡ 8 * n
    → Packs (255 ∷ (word ++ n ∷ run)) (word ++ run)
gives_full word run n l m = let leads = leads_full word run n l m in (leads.0 ∙ append-nil (word ++ run), leads.1)

-- ---- after what was packed before

grown : (place : Place) (old more bytes : List ℕ) → place_at_end Tag old ≡ place → Packs more bytes
    → Appends (if is_tag place then Some (unpacked_bytes Tag old) else None) (unpacked_known (Some (old ++ more))) bytes
grown Tag old more bytes e g =
    rw (place_at_end-append Tag old more, e, g.1) (unpacked-append Tag old more ∙ rw (e, g.0) refl)
grown (Kept bits left) old more bytes e g = tt
grown Zeros old more bytes e g = tt
grown (Whole left) old more bytes e g = tt
grown Count old more bytes e g = tt
grown (Raw left) old more bytes e g = tt

packs_known : (taken : Option (List ℕ)) (old more bytes : List ℕ) → Packs more bytes
    → Appends (unpacked_known (append_known taken old)) (unpacked_known (append_known taken (old ++ more))) bytes
packs_known None old more bytes p = tt
packs_known (Some xs) old more bytes p =
    rw (← append_assoc xs old more) (grown (place_at_end Tag (xs ++ old)) (xs ++ old) more bytes refl p)

pub packs_none : Packs [] []
unfolding unpacked_bytes place_at_end
packs_none = (refl, refl)

pub packs_append : (xs ys bytes more : List ℕ) → Packs xs bytes → Packs ys more → Packs (xs ++ ys) (bytes ++ more)
packs_append xs ys bytes more p q = (
  unpacked-append Tag xs ys ∙ rw (p.1, p.0, q.0) refl,
  place_at_end-append Tag xs ys ∙ ap (λ place. place_at_end place ys) p.1 ∙ q.1,
)

keeps_unpacked : (old new : Option (List ℕ)) → Keeps old new → Keeps (unpacked_known old) (unpacked_known new)
keeps_unpacked None new h = tt
keeps_unpacked (Some xs) None h = absurd h
keeps_unpacked (Some xs) (Some ys) h = rw h (Keeps-refl (unpacked_known (Some xs)))

-- ---- the tag

abbrev differs : ℕ → ℕ → Bool
differs a b = not (nat_eq a b)

-- a bit for each byte that isn't zero
tag_bits : (bs : List ℕ) → mask_l (map (λ b. differs b 0) bs) ≡ tag_of_word bs
tag_bits [] = refl
tag_bits (zero ∷ bs) = ap (λ n. 0 + 2 * n) (tag_bits bs)
tag_bits (suc b ∷ bs) = rw (eqb-suc-zero b) (ap (λ n. 1 + 2 * n) (tag_bits bs))

pub tag_compared : (word : List ℕ) → length word ≡ 8
    → mask_l (map (top 7) (zip2 (λ a b. cond (differs a b) 255 0) (take 8 word) (replicate 8 0))) % 2 ^ 64 ≡ tag_of_word word
tag_compared word long =
    let all : take 8 word ≡ word = take_all 8 word (omega (arith, long)) in
    bitmask_splat w8 differs (take 8 word) 8 0 (ap length all ∙ long) (omega arith) ∙ tag_bits (take 8 word) ∙ ap tag_of_word all

tag_zero : (bs : List ℕ) → tag_of_word bs ≡ 0 → bs ≡ replicate (length bs) 0
tag_zero [] h = refl
tag_zero (zero ∷ bs) h = ap (λ l. 0 ∷ l) (tag_zero bs (omega (arith, h)))
tag_zero (suc b ∷ bs) h = let e = rw (eqb-suc-zero b) at h in absurd (omega (arith, e))

-- ---- what is written

pub zeros_more : (bytes word : List ℕ) (n : ℕ) → word ≡ take 8 (drop (8 * n) bytes) → tag_of_word word ≡ 0 → length word ≡ 8
    → take (8 * n) bytes ≡ replicate (8 * n) 0 → take (8 * (n + 1)) bytes ≡ replicate (8 * (n + 1)) 0
zeros_more bytes word n w t l h =
    let e : 8 * (n + 1) ≡ 8 * n + 8 = omega arith in
    let zeros : word ≡ replicate 8 0 = tag_zero word t ∙ ap (λ m. replicate m 0) l in
    rw e (take-add (8 * n) 8 bytes ∙ ap₂ (λ (us vs : List ℕ). us ++ vs) h (sym w ∙ zeros)
    ∙ replicate-append-replicate {A = ℕ} (8 * n) 8 0)

two_put : (to : List ℕ) (a b : ℕ) → 2 ≤ length to → take 2 (set (set to 0 a) 1 b) ≡ a ∷ b ∷ []
two_put [] a b h = absurd (omega (arith, h))
two_put (x ∷ []) a b h = absurd (omega (arith, h))
two_put (x ∷ y ∷ to) a b h = refl

pub zeros_packed : (to from : List ℕ) (n : ℕ) → 2 ≤ length to → 8 ≤ length from → tag_of_word (take 8 from) ≡ 0
    → take (8 * n) (take (length from - 8) (drop 8 from)) ≡ replicate (8 * n) 0
    → Packs (take 2 (set (set to 0 0) 1 n)) (take (8 + 8 * n) from)
zeros_packed to from n room l t h =
    let zeros : take 8 from ≡ replicate 8 0 = tag_zero (take 8 from) t ∙ ap (λ m. replicate m 0) (length_front 8 from l) in
    let rest = rw (take_rest from 8) at h in
    let all : take (8 + 8 * n) from ≡ replicate (8 + 8 * n) 0 =
    take-add 8 (8 * n) from ∙ ap₂ (λ (us vs : List ℕ). us ++ vs) zeros rest ∙ replicate-append-replicate {A = ℕ} 8 (8 * n) 0 in
    rw (two_put to 0 n room, all) (gives_zeros n)

ten_put : (to word : List ℕ) (n : ℕ) → 10 ≤ length to → length word ≡ 8
    → take 10 (set (put_mid 1 8 (set to 0 255) word) 9 n) ≡ 255 ∷ (word ++ n ∷ [])
ten_put to word n room l =
    let first = set to 0 255 in
    let long : length (set to 0 255) ≡ length to = length-set to 0 255 in
    let all : 9 < length (put_mid 1 8 (set to 0 255) word) =
    omega (
      arith,
      length-append (take 1 (set to 0 255)) (word ++ post_of 1 8 (set to 0 255)),
      length-append word (post_of 1 8 (set to 0 255)),
      length-take 1 (set to 0 255),
      length-drop 8 (drop 1 (set to 0 255)),
      length-drop 1 (set to 0 255),
      long,
      room,
      l,
    ) in
    take_more_set (put_mid 1 8 (set to 0 255) word) 9 n all
    ∙ ap (λ us. us ++ n ∷ []) (written 1 8 8 (set to 0 255) word (omega (arith, long, room)) (omega (arith, l))
    ∙ ap₂ (λ (us vs : List ℕ). us ++ vs) (take_one to 255 (omega (arith, room))) (take_all 8 word (omega (arith, l))))

pub full_packed : (to from word run : List ℕ) (n k : ℕ) → 10 ≤ length to → 8 ≤ length from → word ≡ take 8 from
    → 8 * n ≤ length (drop 8 from) → run ≡ take (8 * n) (drop 8 from)
    → Packs (take (10 + 8 * n) (put_mid 10 k (set (put_mid 1 8 (set to 0 255) word) 9 n) run)) (take (8 + 8 * n) from)
full_packed to from word run n k room l is few there =
    let long : length word ≡ 8 = ap length is ∙ length_front 8 from l in
    let many : length run ≡ 8 * n = ap length there ∙ length_front (8 * n) (drop 8 from) few in
    let ten = ten_put to word n room long in
    let inside : 10 ≤ length (set (put_mid 1 8 (set to 0 255) word) 9 n) =
    omega (arith, ap length ten, length-take 10 (set (put_mid 1 8 (set to 0 255) word) 9 n), length-append word (n ∷ []), long) in
    let packed : take (10 + 8 * n) (put_mid 10 k (set (put_mid 1 8 (set to 0 255) word) 9 n) run) ≡ 255 ∷ (word ++ n ∷ run) =
    written 10 (8 * n) k (set (put_mid 1 8 (set to 0 255) word) 9 n) run inside (omega (arith, many))
    ∙ ap₂ (λ (us vs : List ℕ). us ++ vs) ten (take_all (8 * n) run (omega (arith, many)))
    ∙ ap (λ l. 255 ∷ l) (append_assoc word (n ∷ []) run) in
    let bytes : take (8 + 8 * n) from ≡ word ++ run =
    take-add 8 (8 * n) from ∙ ap₂ (λ (us vs : List ℕ). us ++ vs) (sym is) (sym there) in
    rw (packed, bytes) (gives_full word run n long many)

pub full_alone : (to from word : List ℕ) (n : ℕ) → n ≡ 0 → 10 ≤ length to → 8 ≤ length from → word ≡ take 8 from
    → Packs (take 10 (set (put_mid 1 8 (set to 0 255) word) 9 n)) (take 8 from)
full_alone to from word n none room l is =
    let long : length word ≡ 8 = ap length is ∙ length_front 8 from l in
    let bytes : take 8 from ≡ word ++ [] = sym is ∙ sym (append-nil word) in
    rw (ten_put to word n room long, bytes) (gives_full word [] n long (omega (arith, none)))

pub word_packed : (to from new : List ℕ) (n t k : ℕ) → 1 ≤ length to → 8 ≤ length from → t ≡ tag_of_word (take 8 from) → t ≢ 0
    → t ≢ 255 → n ≤ length new → take n new ≡ nonzero_bytes (take 8 from)
    → Packs (take (1 + n) (put_mid 1 k (set to 0 t) new)) (take 8 from)
word_packed to from new n t k room l is some few inside there =
    let packed : take (1 + n) (put_mid 1 k (set to 0 t) new) ≡ tag_of_word (take 8 from) ∷ nonzero_bytes (take 8 from) =
    written 1 n k (set to 0 t) new (omega (arith, length-set to 0 t, room)) inside
    ∙ ap₂ (λ (us vs : List ℕ). us ++ vs) (take_one to t (omega (arith, room))) there
    ∙ ap (λ x. x ∷ nonzero_bytes (take 8 from)) is in
    rw packed (gives_word (take 8 from) (length_front 8 from l) (λ h. some (is ∙ h)) (λ h. few (is ∙ h)))

-- the bytes of a word that aren't zero, after its last one
pub all_kept : (to word : List ℕ) (i n : ℕ) → length word ≤ i → take n to ++ nonzero_bytes (drop i word) ≡ nonzero_bytes word
    → take n to ≡ nonzero_bytes word
all_kept to word i n h before =
    let none : drop i word ≡ [] = nil_from_length (drop i word) (omega (arith, length-drop i word, h)) in
    sym (append-nil (take n to)) ∙ ap (λ l. take n to ++ nonzero_bytes l) (sym none) ∙ before

nonzero_bytes-append : (xs ys : List ℕ) → nonzero_bytes (xs ++ ys) ≡ nonzero_bytes xs ++ nonzero_bytes ys
nonzero_bytes-append [] ys = refl
nonzero_bytes-append (zero ∷ xs) ys = nonzero_bytes-append xs ys
nonzero_bytes-append (suc b ∷ xs) ys = rw (eqb-suc-zero b) (ap (λ l. suc b ∷ l) (nonzero_bytes-append xs ys))

none_kept : (bs : List ℕ) → tag_of_word bs ≡ 0 → nonzero_bytes bs ≡ []
none_kept [] h = refl
none_kept (zero ∷ bs) h = none_kept bs (omega (arith, h))
none_kept (suc b ∷ bs) h = let e = rw (eqb-suc-zero b) at h in absurd (omega (arith, e))

-- a tag below 32 says that nothing is packed after the fifth byte
none_behind : (word : List ℕ) → 5 ≤ length word → tag_of_word word < 32 → tag_of_word (drop 5 word) ≡ 0
none_behind [] l h = absurd (omega (arith, l))
none_behind (a ∷ []) l h = absurd (omega (arith, l))
none_behind (a ∷ b ∷ []) l h = absurd (omega (arith, l))
none_behind (a ∷ b ∷ c ∷ []) l h = absurd (omega (arith, l))
none_behind (a ∷ b ∷ c ∷ d ∷ []) l h = absurd (omega (arith, l))
none_behind (a ∷ b ∷ c ∷ d ∷ e ∷ rest) l h = omega (arith, h)

kept_parts : (word : List ℕ) → nonzero_bytes word ≡ nonzero_bytes (take 5 word) ++ nonzero_bytes (drop 5 word)
kept_parts word = ap nonzero_bytes (sym (take-append-drop 5 word)) ∙ nonzero_bytes-append (take 5 word) (drop 5 word)

pub kept_front : (to word : List ℕ) (n t : ℕ) → 5 ≤ length word → t ≡ tag_of_word word → t < 32
    → take n to ≡ nonzero_bytes (take 5 word) → take n to ≡ nonzero_bytes word
kept_front to word n t l is few kept =
    let none = none_kept (drop 5 word) (none_behind word l (omega (arith, is, few))) in
    kept ∙ sym (append-nil (nonzero_bytes (take 5 word)))
    ∙ ap (λ l. nonzero_bytes (take 5 word) ++ l) (sym none) ∙ sym (kept_parts word)

pub kept_both : (to new word : List ℕ) (n m k : ℕ) → n ≤ length to → m ≤ length new
    → take n to ≡ nonzero_bytes (take 5 word) → take m new ≡ nonzero_bytes (take (length word - 5) (drop 5 word))
    → take (n + m) (put_mid n k to new) ≡ nonzero_bytes word
kept_both to new word n m k l inside front behind =
    written n m k to new l inside
    ∙ ap₂ (λ (us vs : List ℕ). us ++ vs) front (behind ∙ ap nonzero_bytes (take_rest word 5))
    ∙ sym (kept_parts word)

-- ---- one after another

pub unit_packed : (from to new : List ℕ) (taken given t n : ℕ) → given ≤ length to → n ≤ length new
    → Packs (take given to) (take taken from) → Packs (take n new) (take t (take (length from - taken) (drop taken from)))
    → Packs (take (given + n) (put_mid given (length to - given) to new)) (take (taken + t) from)
unit_packed from to new taken given t n l m before unit =
    let more = rw (take_rest from taken) at unit in
    rw (take-add taken t from, written given n (length to - given) to new l m)
    (packs_append (take given to) (take n new) (take taken from) (take t (drop taken from)) before more)

-- ---- what an output has

pub sent_more : (first old new : Option (List ℕ)) (items : List ℕ) (sent n end : ℕ) → sent + n ≤ end
    → Keeps first (append_known old (slice_range items sent end)) → Appends old new (take n (slice_range items sent end))
    → Keeps first (append_known new (slice_range items (sent + n) end))
sent_more first old new items sent n end l k h =
    Keeps-trans first _ _ k (append_known-moved old new (take n (slice_range items sent end))
    (slice_range items (sent + n) end) (slice_range items sent end) h (parts_of items sent end n l))

pub kept_appends : (a b c : Option (List ℕ)) (bytes : List ℕ) → Keeps a b → Appends b c bytes → Appends a c bytes
kept_appends None b c bytes k h = tt
kept_appends (Some x) None c bytes k h = absurd k
kept_appends (Some x) (Some y) None bytes k h = absurd h
kept_appends (Some x) (Some y) (Some z) bytes k h = h ∙ ap (λ l. l ++ bytes) k

from_start : (items : List ℕ) (end : ℕ) → slice_range items 0 end ≡ take end items
from_start items end = let e : end - 0 ≡ end = omega arith in ap (λ n. take n items) e

pub packs_behind : (first taken : Option (List ℕ)) (items more bytes : List ℕ) (sent end n k : ℕ) → sent ≡ 0
    → end ≤ length items → n ≤ length more → Keeps first (append_known taken (slice_range items sent end))
    → Packs (take n more) bytes
    → Appends (unpacked_known first)
    (unpacked_known (append_known taken (slice_range (put_mid end k items more) sent (end + n)))) bytes
packs_behind first taken items more bytes sent end n k none l m kept p =
    let before = rw (none, from_start items end) at kept in
    let all = from_start (put_mid end k items more) (end + n) ∙ written end n k items more l m in
    rw (none, all) (kept_appends _ _ _ bytes (keeps_unpacked first (append_known taken (take end items)) before)
    (packs_known taken (take end items) (take n more) bytes p))
