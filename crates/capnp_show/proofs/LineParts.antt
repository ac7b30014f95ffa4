-- The parts of a line of JSON can be told apart by what comes after them.
use Rattle.std.proofs.Common.{◌≡◌, ◌≢◌, ◌⊎◌, inl, inr, ℕ, zero, suc, ◌-◌, ◌/◌, ◌%◌, ◌^◌, ◌<◌, ◌≤◌, true, false, cond, List, [], ◌∷◌, ◌++◌, length, get_or, take, drop, refl, sym, ap, ap₂, ◌∙◌, subst, arith, rules, append_assoc, eqb-true, Ok}
use Rattle.std.specs.Prelude.{slice_index_or, nat_eq}
use Rattle.std.specs.Int.{to_le_bytes, w64}
use Rattle.std.specs.List.{AllByRecursion, list_any}
use Rattle.std.specs.Fmt.{decimal}
use Rattle.std.specs.Str.Parse.{digits_value}
use Rattle.std.proofs.lemmas.Bool.{and_parts, ne_eqb, cases_eq}
use Rattle.std.proofs.lemmas.Fmt.{decimal_injective, digits_decimal}
use Rattle.std.proofs.lemmas.Nat.{from_le_bytes-to_le_bytes_8}
use Rattle.std.proofs.lemmas.Str.Parse.{IsNumeralModel, numerals_by_value}
use Rattle.hex.specs.Hex.{IsBytes, decode_of, encode_lower, encode_with, lower_digits}
use Rattle.hex.proofs.HexLemmas.{decode_of-encode_lower}
use Rattle.capnp_format.specs.Bytes.{words_of}
use Rattle.capnp_format.specs.Value.{AreBelow}
use Rattle.capnp_format.proofs.WordsOf.{words_of-append}
use Rattle.capnp_framing.specs.Frames.{bytes_of_words}
use Rattle.capnp_show.specs.Line.{escape, escaped, reads_as_text, without_last}

-- Two lists of bytes of a kind Q are equal, if what follows them begins with a byte of a kind P.
pub ends_alike : (Q P : ℕ → Type 0) → ((x : ℕ) → Q x → P x → ⊥) → (xs ys r s : List ℕ) (c d : ℕ) → AllByRecursion Q xs → AllByRecursion Q ys → P c → P d → xs ++ (c ∷ r) ≡ ys ++ (d ∷ s) → (xs ≡ ys) × (c ∷ r ≡ d ∷ s)
ends_alike Q P apart [] [] r s c d hx hy pc pd e = (refl, e)
ends_alike Q P apart [] (y ∷ ys) r s c d hx hy pc pd e =
    let same : c ≡ y = ap (λ l. get_or l 0 c) e in
    absurd (apart y hy.0 (subst P same pc))
ends_alike Q P apart (x ∷ xs) [] r s c d hx hy pc pd e =
    let same : d ≡ x = ap (λ l. get_or l 0 d) (sym e) in
    absurd (apart x hx.0 (subst P same pd))
ends_alike Q P apart (x ∷ xs) (y ∷ ys) r s c d hx hy pc pd e =
    let same : x ≡ y = ap (λ l. get_or l 0 x) e in
    let rest = ends_alike Q P apart xs ys r s c d hx.1 hy.1 pc pd (ap (drop 1) e) in
    (ap₂ (λ (z : ℕ) zs. z ∷ zs) same rest.0, rest.1)

-- ---- numbers

abbrev pub IsDigit : ℕ → Type 0
IsDigit x = (48 ≤ x) × (x ≤ 57)

own : IsNumeralModel (AllByRecursion IsDigit) (digits_value 10)
own = numerals_by_value (AllByRecursion IsDigit) (search rules)

pub number_digits : (n : ℕ) → n < 2 ^ 64 → AllByRecursion IsDigit (decimal n)
number_digits n h = digits_decimal own n h

-- A byte that may come after a number.
abbrev pub EndsNumber : ℕ → Type 0
EndsNumber c = (c < 48) ⊎ (57 < c)

no_digit : (x : ℕ) → IsDigit x → EndsNumber x → ⊥
no_digit x is (inl low) = omega arith
no_digit x is (inr high) = omega arith

pub numbers_alike : (m n : ℕ) (r s : List ℕ) (c d : ℕ) → m < 2 ^ 64 → n < 2 ^ 64 → EndsNumber c → EndsNumber d → decimal m ++ (c ∷ r) ≡ decimal n ++ (d ∷ s) → (m ≡ n) × (c ∷ r ≡ d ∷ s)
numbers_alike m n r s c d hm hn ec ed e =
    let both = ends_alike IsDigit EndsNumber no_digit (decimal m) (decimal n) r s c d (digits_decimal own m hm) (digits_decimal own n hn) ec ed e in
    (decimal_injective m n hm hn both.0, both.1)

-- ---- hex digits

no_quote_at : (xs : List ℕ) (k : ℕ) → list_any (λ x. nat_eq x 34) xs ≡ false → get_or xs k 0 ≢ 34
no_quote_at [] k h = λ e. omega arith
no_quote_at (x ∷ xs) zero h =
    elim (cases_eq x 34) [ inl is ↦ (λ e. absurd (grind arith)) | inr not ↦ not ]
no_quote_at (x ∷ xs) (suc k) h = no_quote_at xs k (grind arith)

hex_without_quotes : (bytes : List ℕ) → AllByRecursion (λ x. x ≢ 34) (encode_lower bytes)
unfolding encode_with
hex_without_quotes [] = tt
hex_without_quotes (b ∷ bs) = (no_quote_at lower_digits (b / 16) refl, (no_quote_at lower_digits (b % 16) refl, hex_without_quotes bs))

pub hex_alike : (xs ys r s : List ℕ) → IsBytes xs → IsBytes ys → encode_lower xs ++ (34 ∷ r) ≡ encode_lower ys ++ (34 ∷ s) → (xs ≡ ys) × (r ≡ s)
hex_alike xs ys r s bx by e =
    let both = ends_alike (λ x. x ≢ 34) (λ x. x ≡ 34) (λ x no is. no is) (encode_lower xs) (encode_lower ys) r s 34 34 (hex_without_quotes xs) (hex_without_quotes ys) refl refl e in
    let decoded : Ok xs ≡ Ok ys = sym (decode_of-encode_lower xs bx) ∙ ap decode_of both.0 ∙ decode_of-encode_lower ys by in
    (cc decoded, ap (drop 1) both.1)

-- Numbers below 2^8 are bytes, and so are the bytes of words.
pub below_is_bytes : (xs : List ℕ) → AreBelow (2 ^ 8) xs → IsBytes xs
below_is_bytes [] h i = omega arith
below_is_bytes (x ∷ xs) h zero = omega (arith, h.0)
below_is_bytes (x ∷ xs) h (suc i) = below_is_bytes xs h.1 i

pub bytes_of_each : (ws : List ℕ) → IsBytes (bytes_of_words ws)
bytes_of_each [] i = omega arith
bytes_of_each (w ∷ ws) zero = omega arith
bytes_of_each (w ∷ ws) (suc zero) = omega arith
bytes_of_each (w ∷ ws) (suc (suc zero)) = omega arith
bytes_of_each (w ∷ ws) (suc (suc (suc zero))) = omega arith
bytes_of_each (w ∷ ws) (suc (suc (suc (suc zero)))) = omega arith
bytes_of_each (w ∷ ws) (suc (suc (suc (suc (suc zero))))) = omega arith
bytes_of_each (w ∷ ws) (suc (suc (suc (suc (suc (suc zero)))))) = omega arith
bytes_of_each (w ∷ ws) (suc (suc (suc (suc (suc (suc (suc zero))))))) = omega arith
bytes_of_each (w ∷ ws) (suc (suc (suc (suc (suc (suc (suc (suc i)))))))) = bytes_of_each ws i

words_back : (ws : List ℕ) → AreBelow (2 ^ 64) ws → words_of (bytes_of_words ws) ≡ ws
words_back [] h = refl
words_back (w ∷ ws) h =
    words_of-append 1 (to_le_bytes w64 w) (bytes_of_words ws) refl
    ∙ ap₂ (λ (v : ℕ) vs. v ∷ vs) (from_le_bytes-to_le_bytes_8 w h.0) (words_back ws h.1)

pub words_alike : (ws vs r s : List ℕ) → AreBelow (2 ^ 64) ws → AreBelow (2 ^ 64) vs → encode_lower (bytes_of_words ws) ++ (34 ∷ r) ≡ encode_lower (bytes_of_words vs) ++ (34 ∷ s) → (ws ≡ vs) × (r ≡ s)
words_alike ws vs r s hw hv e =
    let both = hex_alike (bytes_of_words ws) (bytes_of_words vs) r s (bytes_of_each ws) (bytes_of_each vs) e in
    (sym (words_back ws hw) ∙ ap words_of both.0 ∙ words_back vs hv, both.1)

-- ---- text

-- The byte that the front of an escaped text stands for, and what comes after it.
abbrev first_byte : List ℕ → ℕ
first_byte l =
    cond (nat_eq (get_or l 0 0) 92)
    (cond (nat_eq (get_or l 1 0) 116) 9 (cond (nat_eq (get_or l 1 0) 110) 10 (cond (nat_eq (get_or l 1 0) 114) 13 (get_or l 1 0))))
    (get_or l 0 0)

abbrev after_first : List ℕ → List ℕ
after_first l = cond (nat_eq (get_or l 0 0) 92) (drop 2 l) (drop 1 l)

record Reads (b : ℕ) (l : List ℕ) (rest : List ℕ) : Type 0 where
  head : get_or l 0 0 ≢ 34
  byte : first_byte l ≡ b
  after : after_first l ≡ rest

reads_escape : (b : ℕ) (r : List ℕ) → Reads b (escape b ++ r) r
reads_escape b r =
    elim (cases_eq b 34) [
      | inl q ↦ subst (λ x. Reads x (escape x ++ r) r) (sym q) (record { head = λ e. omega arith; byte = refl; after = refl })
      | inr nq ↦ elim (cases_eq b 92) [
        | inl q ↦ subst (λ x. Reads x (escape x ++ r) r) (sym q) (record { head = λ e. omega arith; byte = refl; after = refl })
        | inr ns ↦ elim (cases_eq b 9) [
          | inl q ↦ subst (λ x. Reads x (escape x ++ r) r) (sym q) (record { head = λ e. omega arith; byte = refl; after = refl })
          | inr nt ↦ elim (cases_eq b 10) [
            | inl q ↦ subst (λ x. Reads x (escape x ++ r) r) (sym q) (record { head = λ e. omega arith; byte = refl; after = refl })
            | inr nl ↦ elim (cases_eq b 13) [
              | inl q ↦ subst (λ x. Reads x (escape x ++ r) r) (sym q) (record { head = λ e. omega arith; byte = refl; after = refl })
              | inr nr ↦
                  let a : nat_eq b 34 ≡ false = ne_eqb b 34 nq in
                  let a' : nat_eq b 92 ≡ false = ne_eqb b 92 ns in
                  let a'' : nat_eq b 9 ≡ false = ne_eqb b 9 nt in
                  let d : nat_eq b 10 ≡ false = ne_eqb b 10 nl in
                  let f : nat_eq b 13 ≡ false = ne_eqb b 13 nr in
                  let plain : escape b ≡ b ∷ [] = rw (a, a', a'', d, f) refl in
                  subst (λ l. Reads b (l ++ r) r) (sym plain) (record { head = nq; byte = rw a' refl; after = rw a' refl })
            ]
          ]
        ]
      ]
    ]

pub texts_alike : (xs ys r s : List ℕ) → escaped xs ++ (34 ∷ r) ≡ escaped ys ++ (34 ∷ s) → (xs ≡ ys) × (r ≡ s)
texts_alike [] [] r s e = (refl, ap (drop 1) e)
texts_alike [] (y ∷ ys) r s e =
    let h = (reads_escape y (escaped ys ++ (34 ∷ s))).head in
    let f : 34 ∷ r ≡ escape y ++ (escaped ys ++ (34 ∷ s)) = e ∙ append_assoc (escape y) (escaped ys) (34 ∷ s) in
    absurd (h (ap (λ l. get_or l 0 0) (sym f)))
texts_alike (x ∷ xs) [] r s e =
    let h = (reads_escape x (escaped xs ++ (34 ∷ r))).head in
    let f : 34 ∷ s ≡ escape x ++ (escaped xs ++ (34 ∷ r)) = sym e ∙ append_assoc (escape x) (escaped xs) (34 ∷ r) in
    absurd (h (ap (λ l. get_or l 0 0) (sym f)))
texts_alike (x ∷ xs) (y ∷ ys) r s e =
    let f : escape x ++ (escaped xs ++ (34 ∷ r)) ≡ escape y ++ (escaped ys ++ (34 ∷ s)) =
    sym (append_assoc (escape x) (escaped xs) (34 ∷ r)) ∙ e ∙ append_assoc (escape y) (escaped ys) (34 ∷ s) in
    let one = reads_escape x (escaped xs ++ (34 ∷ r)) in
    let other = reads_escape y (escaped ys ++ (34 ∷ s)) in
    let same : x ≡ y = sym one.byte ∙ ap first_byte f ∙ other.byte in
    let rest = texts_alike xs ys r s (sym one.after ∙ ap after_first f ∙ other.after) in
    (ap₂ (λ (z : ℕ) zs. z ∷ zs) same rest.0, rest.1)

-- Bytes that read as text are the text and a zero.
ends_in_zero : (n : ℕ) (bs : List ℕ) → length bs ≡ suc n → get_or bs n 255 ≡ 0 → bs ≡ take n bs ++ (0 ∷ [])
ends_in_zero n [] l e = absurd (omega arith)
ends_in_zero zero (b ∷ []) l e = ap (λ (z : ℕ). z ∷ []) e
ends_in_zero zero (b ∷ c ∷ bs) l e = absurd (omega arith)
ends_in_zero (suc n) (b ∷ bs) l e = ap (λ (zs : List ℕ). b ∷ zs) (ends_in_zero n bs (omega arith) e)

pub text_and_zero : (bytes : List ℕ) → reads_as_text bytes ≡ true → bytes ≡ without_last bytes ++ (0 ∷ [])
text_and_zero [] h = absurd (cc h)
text_and_zero (b ∷ bs) h =
    let first = and_parts _ _ h in
    let zero_last : slice_index_or (b ∷ bs) (length (b ∷ bs) - 1) 255 ≡ 0 = eqb-true _ _ first.0 in
    let len : length (b ∷ bs) ≡ suc (length (b ∷ bs) - 1) = omega arith in
    ends_in_zero (length (b ∷ bs) - 1) (b ∷ bs) len zero_last
