-- Words written by a vector, and words moved.
use Rattle.std.proofs.Common.{◌≡◌, ℕ, ◌+◌, ◌-◌, suc, ◌*◌, ◌^◌, ◌<◌, ◌≤◌, List, [], ◌∷◌, ◌++◌, length, set, take, drop, refl, sym, ap, ◌∙◌, arith, length-take, length-drop, drop-drop, append_assoc}
use Rattle.std.proofs.lemmas.List.{drop-take, set_split, take-take}
use Rattle.std.proofs.lemmas.Simd.{put_chunk_is}
use Rattle.std.specs.List.{copy_within}
use borrow.Rule.Slice.PartMut.{put_mid}
use lib.Lanes.{put_chunk}
use Rattle.capnp_format.specs.Bytes.{words_of}
use Rattle.capnp_format.specs.Numbers.{digits}
use Rattle.capnp_format.proofs.Digits.{from_digits-digits}
use Rattle.capnp_format.proofs.BytesLemmas.{eight_bytes}
use Rattle.capnp_format.proofs.WordsOf.{words, words_of-put_mid, words_of-put_mid_at, words_of-part}

word_of_digits : (w : ℕ) → w < 2 ^ 64 → words_of (digits 256 8 w) ≡ w ∷ []
word_of_digits w l = ap (λ v. v ∷ []) (eight_bytes (digits 256 8 w) refl ∙ from_digits-digits 256 8 w (omega arith) l)

-- one word written over another
pub words_of-put_word : (a : ℕ) {w : ℕ} (bs ys : List ℕ) → 8 * a + 8 ≤ length bs → length ys ≡ 8 → words_of ys ≡ w ∷ [] → words_of (put_mid (8 * a) 8 bs ys) ≡ set (words_of bs) a w
words_of-put_word a {w} bs ys l m e =
    words_of-put_mid a 1 bs ys (omega arith) m
    ∙ ap (put_mid a 1 (words_of bs)) e
    ∙ ap (λ ws. take a (words_of bs) ++ (w ∷ ws)) (drop-drop 1 a (words_of bs) ∙ ap (λ n. drop n (words_of bs)) (let q : a + 1 ≡ suc a = omega arith in q))
    ∙ sym (set_split (words_of bs) a w (omega (arith, words bs)))

pub words_of-put_chunk : (a w : ℕ) {x : ℕ} (bs : List ℕ) → x ≡ w → 8 * a + 8 ≤ length bs → w < 2 ^ 64 → words_of (put_chunk (8 * a) bs (digits 256 8 x)) ≡ set (words_of bs) a w
words_of-put_chunk a w bs e l m =
    ap (λ v. words_of (put_chunk (8 * a) bs (digits 256 8 v))) e
    ∙ ap words_of (put_chunk_is (8 * a) bs (digits 256 8 w) (omega arith))
    ∙ words_of-put_word a bs (digits 256 8 w) l refl (word_of_digits w m)

-- words copied to another place of the same list
pub words_of-copy_within : (f t n : ℕ) (bs : List ℕ) → 8 * (f + n) ≤ length bs → 8 * (t + n) ≤ length bs → words_of (copy_within bs (8 * f) (8 * (f + n)) (8 * t)) ≡ put_mid t n (words_of bs) (take n (drop f (words_of bs)))
words_of-copy_within f t n bs l m =
    let k : ℕ = 8 * (f + n) - 8 * f in
    let e : k ≡ 8 * n = omega arith in
    let part : List ℕ = take k (drop (8 * f) bs) in
    ap words_of (append_assoc (take (8 * t) bs) part (drop (8 * t + k) bs) ∙ ap (λ zs. take (8 * t) bs ++ (part ++ zs)) (sym (drop-drop k (8 * t) bs)))
    ∙ words_of-put_mid_at t n (8 * t) k bs part refl e m (omega (arith, length-take k (drop (8 * f) bs), length-drop (8 * f) bs))
    ∙ ap (put_mid t n (words_of bs)) (words_of-part f n (8 * f) k bs refl e l)

part_of_front : (i k m : ℕ) (bs : List ℕ) → i + k ≤ m → take k (drop i (take m bs)) ≡ take k (drop i bs)
part_of_front i k m bs l =
    let e : m ≡ i + (m - i) = omega arith in
    ap (λ j. take k (drop i (take j bs))) e ∙ ap (take k) (drop-take i (m - i) bs) ∙ take-take k (m - i) (drop i bs) (omega arith)

-- words copied to a later place
pub words_of-copied_behind : (f t n k : ℕ) (bs ys : List ℕ) → ys ≡ take k (drop (8 * f) (take (8 * t) bs)) → k ≡ 8 * n → f + n ≤ t → 8 * (t + n) ≤ length bs → words_of (put_mid (8 * t) (8 * n) bs ys) ≡ put_mid t n (words_of bs) (take n (drop f (words_of bs)))
words_of-copied_behind f t n k bs ys e m below l =
    let part : ys ≡ take k (drop (8 * f) bs) = e ∙ part_of_front (8 * f) k (8 * t) bs (omega arith) in
    words_of-put_mid_at t n (8 * t) (8 * n) bs ys refl refl l (omega (arith, ap length part, length-take k (drop (8 * f) bs), length-drop (8 * f) bs))
    ∙ ap (put_mid t n (words_of bs)) (ap words_of part ∙ words_of-part f n (8 * f) k bs refl m (omega arith))
