-- Bytes of words as bits of the words: read, and written over others.
use Rattle.std.proofs.Common.{◌≡◌, ℕ, zero, suc, ◌+◌, ◌*◌, ◌/◌, ◌%◌, ◌^◌, ◌<◌, ◌≤◌, List, [], ◌∷◌, ◌++◌, length, get_or, set, take, drop, refl, sym, ap, ap₂, ◌∙◌, subst, arith, length-take, length-drop, length-append, take-append-drop, append_assoc, pow-suc}
use Rattle.std.proofs.Math.Nat.{pow-zero}
use Rattle.std.proofs.lemmas.List.{take-append-le, drop-append-le}
use Rattle.std.proofs.lemmas.Nat.{shr-shr, shr_split}
use Rattle.std.proofs.lemmas.Nat.Bits.{bit_at_cat_low}
use Rattle.std.specs.Int.{bit_at}
use borrow.Rule.Slice.PartMut.{put_mid}
use Rattle.capnp_format.specs.Bytes.{words_of}
use Rattle.capnp_format.specs.Fields.{with_bits, put_field, field_in}
use Rattle.capnp_format.specs.Numbers.{from_digits}
use Rattle.capnp_format.specs.Value.{AreBelow}
use Rattle.capnp_format.proofs.Bounds.{below_take}
use Rattle.capnp_format.proofs.BytesLemmas.{eight_bytes}
use Rattle.capnp_format.proofs.Digits.{low, high, from_digits-below}
use Rattle.capnp_format.proofs.Lies.{pow_pow}
use Rattle.capnp_format.proofs.WordsOf.{words, words_of-append}

regrouped : (x b y p z : ℕ) → x + b * (y + p * z) ≡ x + b * y + p * b * z
regrouped x b y p z = omega arith

pub from_digits-append : (b : ℕ) (xs ys : List ℕ) → from_digits b (xs ++ ys) ≡ from_digits b xs + b ^ length xs * from_digits b ys
from_digits-append b [] ys = rw pow-zero (omega arith)
from_digits-append b (x ∷ xs) ys =
    ap (λ z. x + b * z) (from_digits-append b xs ys)
    ∙ regrouped x b (from_digits b xs) (b ^ length xs) (from_digits b ys)
    ∙ ap (λ p. x + b * from_digits b xs + p * from_digits b ys) (sym (pow-suc b (length xs)))

pub below_drop : (b k : ℕ) (ds : List ℕ) → AreBelow b ds → AreBelow b (drop k ds)
below_drop b zero ds h = h
below_drop b (suc k) [] h = tt
below_drop b (suc k) (d ∷ ds) h = below_drop b k ds h.1

-- The lowest k digits of a number, and the others.
pub record Cut (b k : ℕ) (ds : List ℕ) : Type 0 where
  pub first : from_digits b ds % b ^ k ≡ from_digits b (take k ds)
  pub others : from_digits b ds / b ^ k ≡ from_digits b (drop k ds)

pub cut : (b k : ℕ) (ds : List ℕ) → AreBelow b ds → k ≤ length ds → Cut b k ds
cut b k ds h l =
    let long : length (take k ds) ≡ k = omega (arith, length-take k ds) in
    let parts : from_digits b ds ≡ from_digits b (take k ds) + b ^ k * from_digits b (drop k ds) =
    ap (from_digits b) (sym (take-append-drop k ds)) ∙ from_digits-append b (take k ds) (drop k ds) ∙ ap (λ n. from_digits b (take k ds) + b ^ n * from_digits b (drop k ds)) long in
    let small : from_digits b (take k ds) < b ^ k = subst (λ n. from_digits b (take k ds) < b ^ n) long (from_digits-below b (take k ds) (below_take b k ds h)) in
    record {
      first = ap (λ x. x % b ^ k) parts ∙ low (b ^ k) (from_digits b (take k ds)) (from_digits b (drop k ds)) small;
      others = ap (λ x. x / b ^ k) parts ∙ high (b ^ k) (from_digits b (take k ds)) (from_digits b (drop k ds)) small;
    }

-- Bytes read.
pub part_of_digits : (k n : ℕ) (ds : List ℕ) → AreBelow 256 ds → k + n ≤ length ds → from_digits 256 (take n (drop k ds)) ≡ from_digits 256 ds / 2 ^ (8 * k) % 2 ^ (8 * n)
part_of_digits k n ds h l =
    sym (cut 256 n (drop k ds) (below_drop 256 k ds h) (omega (arith, length-drop k ds))).first
    ∙ ap (λ p. from_digits 256 (drop k ds) % p) (pow_pow 8 n)
    ∙ ap (λ x. x % 2 ^ (8 * n)) (sym (cut 256 k ds h (omega arith)).others ∙ ap (λ p. from_digits 256 ds / p) (pow_pow 8 k))

-- n bytes from byte k of word i on, in one word.
part_of_word : (i k n : ℕ) (bs : List ℕ) → ((j : ℕ) → get_or bs j 0 < 256) → k + n ≤ 8 → i < length (words_of bs) → from_digits 256 (take n (drop (8 * i + k) bs)) ≡ get_or (words_of bs) i 0 / 2 ^ (8 * k) % 2 ^ (8 * n)
part_of_word zero k n (a ∷ b ∷ c ∷ d ∷ e ∷ f ∷ g ∷ h ∷ rest) small m l =
    let xs : List ℕ = a ∷ b ∷ c ∷ d ∷ e ∷ f ∷ g ∷ h ∷ [] in
    ap (λ j. from_digits 256 (take n (drop j (xs ++ rest)))) (let q : 8 * 0 + k ≡ k = omega arith in q)
    ∙ ap (λ ys. from_digits 256 (take n ys)) (drop-append-le k xs rest (omega arith))
    ∙ ap (from_digits 256) (take-append-le n (drop k xs) rest (omega (arith, length-drop k xs)))
    ∙ part_of_digits k n xs (small 0, (small 1, (small 2, (small 3, (small 4, (small 5, (small 6, (small 7, tt)))))))) (omega arith)
    ∙ ap (λ w. w / 2 ^ (8 * k) % 2 ^ (8 * n)) (sym (eight_bytes xs refl))
part_of_word (suc i) k n (a ∷ b ∷ c ∷ d ∷ e ∷ f ∷ g ∷ h ∷ rest) small m l =
    ap (λ j. from_digits 256 (take n (drop j (a ∷ b ∷ c ∷ d ∷ e ∷ f ∷ g ∷ h ∷ rest)))) (let q : 8 * suc i + k ≡ suc (suc (suc (suc (suc (suc (suc (suc (8 * i + k)))))))) = omega arith in q)
    ∙ part_of_word i k n rest (λ j. small (suc (suc (suc (suc (suc (suc (suc (suc j))))))))) m (omega arith)
part_of_word i k n _ small m l = absurd (omega arith)

-- n bytes from any byte on, in the form that the code has.
pub bytes_read : (b n m : ℕ) (bs : List ℕ) → m ≡ n → ((j : ℕ) → get_or bs j 0 < 256) → b % 8 + n ≤ 8 → b / 8 < length (words_of bs) → from_digits 256 (take m (drop b bs)) ≡ field_in (words_of bs) (8 * b) (8 * n)
bytes_read b n m bs e small fits l =
    ap₂ (λ j a. from_digits 256 (take j (drop a bs))) e (let q : b ≡ 8 * (b / 8) + b % 8 = omega arith in q)
    ∙ part_of_word (b / 8) (b % 8) n bs small fits l
    ∙ ap₂ (λ i o. get_or (words_of bs) i 0 / 2 ^ o % 2 ^ (8 * n)) (let q : b / 8 ≡ 8 * b / 64 = omega arith in q) (let q : 8 * (b % 8) ≡ 8 * b % 64 = omega arith in q)

-- One byte.
pub byte_as_digit : (b : ℕ) (bs : List ℕ) → b < length bs → get_or bs b 0 ≡ from_digits 256 (take 1 (drop b bs))
byte_as_digit zero [] l = absurd (omega arith)
byte_as_digit zero (x ∷ bs) l = omega arith
byte_as_digit (suc b) [] l = absurd (omega arith)
byte_as_digit (suc b) (x ∷ bs) l = byte_as_digit b bs (omega arith)

-- Byte k of word i.
pub byte_of_word : (i k : ℕ) (bs : List ℕ) → ((j : ℕ) → get_or bs j 0 < 256) → k < 8 → i < length (words_of bs) → get_or bs (8 * i + k) 0 ≡ get_or (words_of bs) i 0 / 2 ^ (8 * k) % 2 ^ 8
byte_of_word i k bs small m l = byte_as_digit (8 * i + k) bs (omega (arith, words bs)) ∙ part_of_word i k 1 bs small (omega arith) l

-- Bits of the lowest part of a number, and of the others.
pub bit_at-mod : (x o i : ℕ) → i < o → bit_at (x % 2 ^ o) i ≡ bit_at x i
bit_at-mod x o i l = sym (bit_at_cat_low (x / 2 ^ o) o (x % 2 ^ o) i l) ∙ ap (λ z. bit_at z i) (shr_split x o)

pub bit_at-div : (x o i : ℕ) → bit_at (x / 2 ^ o) i ≡ bit_at x (o + i)
bit_at-div x o i = ap (λ z. z % 2) (shr-shr x o i)

-- Digits ys written over others.
pub digits_written : (k n : ℕ) (ds ys : List ℕ) → AreBelow 256 ds → length ys ≡ n → k + n ≤ length ds → from_digits 256 (put_mid k n ds ys) ≡ with_bits (from_digits 256 ds) (8 * k) (8 * n) (from_digits 256 ys)
digits_written k n ds ys h e l =
    let x = from_digits 256 ds in
    let a = cut 256 k ds h (omega arith) in
    let b = cut 256 n (drop k ds) (below_drop 256 k ds h) (omega (arith, length-drop k ds)) in
    let top : from_digits 256 (drop n (drop k ds)) ≡ x / 2 ^ (8 * k + 8 * n) =
    sym b.others ∙ ap (λ z. z / 256 ^ n) (sym a.others) ∙ ap₂ (λ p q. x / p / q) (pow_pow 8 k) (pow_pow 8 n) ∙ shr-shr x (8 * k) (8 * n) in
    from_digits-append 256 (take k ds) (ys ++ drop n (drop k ds))
    ∙ ap₂ (λ y p. y + p * from_digits 256 (ys ++ drop n (drop k ds))) (sym a.first ∙ ap (λ p. x % p) (pow_pow 8 k)) (ap (λ m. 256 ^ m) (let q : length (take k ds) ≡ k = omega (arith, length-take k ds) in q) ∙ pow_pow 8 k)
    ∙ ap (λ y. x % 2 ^ (8 * k) + 2 ^ (8 * k) * y) (from_digits-append 256 ys (drop n (drop k ds)) ∙ ap₂ (λ p z. from_digits 256 ys + p * z) (ap (λ m. 256 ^ m) e ∙ pow_pow 8 n) top)

put_front : (k n : ℕ) (xs rest ys : List ℕ) → k + n ≤ length xs → put_mid k n (xs ++ rest) ys ≡ put_mid k n xs ys ++ rest
put_front k n xs rest ys l =
    ap₂ (λ a b. a ++ (ys ++ b)) (take-append-le k xs rest (omega arith)) (ap (drop n) (drop-append-le k xs rest (omega arith)) ∙ drop-append-le n (drop k xs) rest (omega (arith, length-drop k xs)))
    ∙ ap (λ z. take k xs ++ z) (sym (append_assoc ys (drop n (drop k xs)) rest))
    ∙ sym (append_assoc (take k xs) (ys ++ drop n (drop k xs)) rest)

pub length-put : (k n : ℕ) (xs ys : List ℕ) → k + n ≤ length xs → length ys ≡ n → length (put_mid k n xs ys) ≡ length xs
length-put k n xs ys l e = omega (arith, length-append (take k xs) (ys ++ drop n (drop k xs)), length-append ys (drop n (drop k xs)), length-take k xs, length-drop n (drop k xs), length-drop k xs)

one_word_of : (xs : List ℕ) → length xs ≡ 8 → words_of xs ≡ from_digits 256 xs ∷ []
one_word_of (a ∷ b ∷ c ∷ d ∷ e ∷ f ∷ g ∷ h ∷ []) l = ap (λ w. w ∷ []) (eight_bytes (a ∷ b ∷ c ∷ d ∷ e ∷ f ∷ g ∷ h ∷ []) refl)
one_word_of _ l = absurd (omega arith)

first_written : (k n : ℕ) (xs rest ys : List ℕ) → length xs ≡ 8 → AreBelow 256 xs → length ys ≡ n → k + n ≤ 8 → words_of (put_mid k n (xs ++ rest) ys) ≡ with_bits (from_digits 256 xs) (8 * k) (8 * n) (from_digits 256 ys) ∷ words_of rest
first_written k n xs rest ys long h e l =
    let whole : length (put_mid k n xs ys) ≡ 8 = length-put k n xs ys (omega arith) e ∙ long in
    ap words_of (put_front k n xs rest ys (omega arith))
    ∙ words_of-append 1 (put_mid k n xs ys) rest whole
    ∙ ap (λ ws. ws ++ words_of rest) (one_word_of (put_mid k n xs ys) whole ∙ ap (λ w. w ∷ []) (digits_written k n xs ys h e (omega arith)))

-- n bytes written from byte k of word i on.
pub words_of-put_bytes : (i k n : ℕ) (bs ys : List ℕ) → ((j : ℕ) → get_or bs j 0 < 256) → length ys ≡ n → k + n ≤ 8 → i < length (words_of bs) →
    words_of (put_mid (8 * i + k) n bs ys) ≡ set (words_of bs) i (with_bits (get_or (words_of bs) i 0) (8 * k) (8 * n) (from_digits 256 ys))
words_of-put_bytes zero k n (a ∷ b ∷ c ∷ d ∷ e ∷ f ∷ g ∷ h ∷ rest) ys small long fits l =
    let xs : List ℕ = a ∷ b ∷ c ∷ d ∷ e ∷ f ∷ g ∷ h ∷ [] in
    ap (λ m. words_of (put_mid m n (xs ++ rest) ys)) (let q : 8 * 0 + k ≡ k = omega arith in q)
    ∙ first_written k n xs rest ys refl (small 0, (small 1, (small 2, (small 3, (small 4, (small 5, (small 6, (small 7, tt)))))))) long fits
    ∙ ap (λ w. with_bits w (8 * k) (8 * n) (from_digits 256 ys) ∷ words_of rest) (sym (eight_bytes xs refl))
words_of-put_bytes (suc i) k n (a ∷ b ∷ c ∷ d ∷ e ∷ f ∷ g ∷ h ∷ rest) ys small long fits l =
    ap (λ m. words_of (put_mid m n (a ∷ b ∷ c ∷ d ∷ e ∷ f ∷ g ∷ h ∷ rest) ys)) (let q : 8 * suc i + k ≡ suc (suc (suc (suc (suc (suc (suc (suc (8 * i + k)))))))) = omega arith in q)
    ∙ ap (λ ws. words_of (a ∷ b ∷ c ∷ d ∷ e ∷ f ∷ g ∷ h ∷ []) ++ ws) (words_of-put_bytes i k n rest ys (λ j. small (suc (suc (suc (suc (suc (suc (suc (suc j))))))))) long fits (omega arith))
words_of-put_bytes i k n _ ys small long fits l = absurd (omega arith)

-- n bytes written from any byte on, in the form that the code has.
pub words_of-put_field : (b n m v : ℕ) (bs ys : List ℕ) → m ≡ n → from_digits 256 ys ≡ v → ((j : ℕ) → get_or bs j 0 < 256) → length ys ≡ n → b % 8 + n ≤ 8 → b / 8 < length (words_of bs) → words_of (put_mid b m bs ys) ≡ put_field (words_of bs) (8 * b) (8 * n) v
words_of-put_field b n m v bs ys e f small long fits l =
    ap₂ (λ a j. words_of (put_mid a j bs ys)) (let q : b ≡ 8 * (b / 8) + b % 8 = omega arith in q) e
    ∙ words_of-put_bytes (b / 8) (b % 8) n bs ys small long fits l
    ∙ ap₂ (λ i o. set (words_of bs) i (with_bits (get_or (words_of bs) i 0) o (8 * n) (from_digits 256 ys))) (let q : b / 8 ≡ 8 * b / 64 = omega arith in q) (let q : 8 * (b % 8) ≡ 8 * b % 64 = omega arith in q)
    ∙ ap (put_field (words_of bs) (8 * b) (8 * n)) f

-- A number's bytes are in one word, since both 8 and their position are multiples of their count n.
pub in_one_word : (n b : ℕ) → 0 < n → n ≤ 8 → 8 % n ≡ 0 → b % n ≡ 0 → b % 8 + n ≤ 8
in_one_word (suc zero) b p l d e = omega arith
in_one_word (suc (suc zero)) b p l d e = omega arith
in_one_word (suc (suc (suc zero))) b p l d e = absurd (omega arith)
in_one_word (suc (suc (suc (suc zero)))) b p l d e = omega arith
in_one_word (suc (suc (suc (suc (suc zero))))) b p l d e = absurd (omega arith)
in_one_word (suc (suc (suc (suc (suc (suc zero)))))) b p l d e = absurd (omega arith)
in_one_word (suc (suc (suc (suc (suc (suc (suc zero))))))) b p l d e = absurd (omega arith)
in_one_word (suc (suc (suc (suc (suc (suc (suc (suc zero)))))))) b p l d e = omega arith
in_one_word _ b p l d e = absurd (omega arith)
