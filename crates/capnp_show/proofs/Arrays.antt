-- Arrays of numbers in a line of JSON can be told apart by what comes after them.
use Rattle.std.proofs.Common.{◌≡◌, ◌≢◌, inl, inr, ℕ, ◌^◌, ◌<◌, List, [], ◌∷◌, ◌++◌, length, map, get_or, drop, refl, sym, ap, ap₂, ◌∙◌, arith, append_assoc, append-nil}
use Rattle.std.specs.List.{AllByRecursion, join_with_byte}
use Rattle.std.specs.Fmt.{decimal}
use Rattle.std.proofs.lemmas.Fmt.{decimal_nonempty}
use Rattle.capnp_format.specs.Value.{AreBelow}
use Rattle.capnp_show.specs.Line.{in_quotes}
use Rattle.capnp_show.proofs.LineParts.{EndsNumber, IsDigit, number_digits, numbers_alike}

-- ---- arrays

-- The pieces after the first one, each after a comma.
abbrev pub more : List (List ℕ) → List ℕ
more [] = []
more (x ∷ xs) = 44 ∷ x ++ more xs

pub joined : (x : List ℕ) (xs : List (List ℕ)) → join_with_byte 44 (x ∷ xs) ≡ x ++ more xs
joined x [] = sym (append-nil x)
joined x (y ∷ ys) = ap (λ zs. x ++ (44 ∷ zs)) (joined y ys)

-- The text of an array, from its first piece on.
pub joined_then : (x : List ℕ) (xs : List (List ℕ)) (r : List ℕ) → join_with_byte 44 (x ∷ xs) ++ r ≡ x ++ (more xs ++ r)
joined_then x xs r = ap (λ zs. zs ++ r) (joined x xs) ∙ append_assoc x (more xs) r

-- What comes after a piece of an array begins with a comma or the closing bracket.
abbrev ends_piece : List (List ℕ) → ℕ
ends_piece [] = 93
ends_piece (x ∷ xs) = 44

abbrev after_piece : List (List ℕ) → List ℕ → List ℕ
after_piece [] r = r
after_piece (x ∷ xs) r = x ++ (more xs ++ (93 ∷ r))

piece_end : (xs : List (List ℕ)) (r : List ℕ) → more xs ++ (93 ∷ r) ≡ ends_piece xs ∷ after_piece xs r
piece_end [] r = refl
piece_end (x ∷ xs) r = ap (λ (zs : List ℕ). 44 ∷ zs) (append_assoc x (more xs) (93 ∷ r))

ends_number : (xs : List (List ℕ)) → EndsNumber (ends_piece xs)
ends_number [] = inr (omega arith)
ends_number (x ∷ xs) = inl (omega arith)

-- f writes numbers so that the text of one, in an array, determines it, and doesn't begin with a
-- bracket.
pub record Told (f : ℕ → List ℕ) : Type 0 where
  alike : (m n : ℕ) (xs ys : List (List ℕ)) (r s : List ℕ) → m < 2 ^ 64 → n < 2 ^ 64 → f m ++ (more xs ++ (93 ∷ r)) ≡ f n ++ (more ys ++ (93 ∷ s)) → (m ≡ n) × (more xs ++ (93 ∷ r) ≡ more ys ++ (93 ∷ s))
  some : (m : ℕ) (r s : List ℕ) → m < 2 ^ 64 → f m ++ r ≢ 93 ∷ s

more_alike : (f : ℕ → List ℕ) → Told f → (ms ns r s : List ℕ) → AreBelow (2 ^ 64) ms → AreBelow (2 ^ 64) ns → more (map f ms) ++ (93 ∷ r) ≡ more (map f ns) ++ (93 ∷ s) → (ms ≡ ns) × (r ≡ s)
more_alike f told [] [] r s hm hn e = (refl, ap (drop 1) e)
more_alike f told [] (n ∷ ns) r s hm hn e = absurd (omega (arith, ap (λ l. get_or l 0 0) e))
more_alike f told (m ∷ ms) [] r s hm hn e = absurd (omega (arith, ap (λ l. get_or l 0 0) e))
more_alike f told (m ∷ ms) (n ∷ ns) r s hm hn e =
    let e' : f m ++ (more (map f ms) ++ (93 ∷ r)) ≡ f n ++ (more (map f ns) ++ (93 ∷ s)) =
    sym (append_assoc (f m) (more (map f ms)) (93 ∷ r)) ∙ ap (drop 1) e ∙ append_assoc (f n) (more (map f ns)) (93 ∷ s) in
    let both = told.alike m n (map f ms) (map f ns) r s hm.0 hn.0 e' in
    let rest = more_alike f told ms ns r s hm.1 hn.1 both.1 in
    (ap₂ (λ (z : ℕ) zs. z ∷ zs) both.0 rest.0, rest.1)

pub arrays_alike : (f : ℕ → List ℕ) → Told f → (ms ns r s : List ℕ) → AreBelow (2 ^ 64) ms → AreBelow (2 ^ 64) ns → join_with_byte 44 (map f ms) ++ (93 ∷ r) ≡ join_with_byte 44 (map f ns) ++ (93 ∷ s) → (ms ≡ ns) × (r ≡ s)
arrays_alike f told [] [] r s hm hn e = (refl, ap (drop 1) e)
arrays_alike f told [] (n ∷ ns) r s hm hn e = absurd (told.some n (more (map f ns) ++ (93 ∷ s)) r hn.0 (sym (e ∙ joined_then (f n) (map f ns) (93 ∷ s))))
arrays_alike f told (m ∷ ms) [] r s hm hn e = absurd (told.some m (more (map f ms) ++ (93 ∷ r)) s hm.0 (sym (joined_then (f m) (map f ms) (93 ∷ r)) ∙ e))
arrays_alike f told (m ∷ ms) (n ∷ ns) r s hm hn e =
    let e' = sym (joined_then (f m) (map f ms) (93 ∷ r)) ∙ e ∙ joined_then (f n) (map f ns) (93 ∷ s) in
    let both = told.alike m n (map f ms) (map f ns) r s hm.0 hn.0 e' in
    let rest = more_alike f told ms ns r s hm.1 hn.1 both.1 in
    (ap₂ (λ (z : ℕ) zs. z ∷ zs) both.0 rest.0, rest.1)

-- Numbers as they are, and in quotes.
no_bracket : (xs r s : List ℕ) → 0 < length xs → AllByRecursion IsDigit xs → xs ++ r ≢ 93 ∷ s
no_bracket [] r s some digits e = absurd (omega arith)
no_bracket (x ∷ xs) r s some digits e = omega (arith, ap (λ l. get_or l 0 0) e, digits.0)

pub told_plain : Told decimal
told_plain = record {
  alike = λ m n xs ys r s hm hn e.
      let e' = ap (λ zs. decimal m ++ zs) (sym (piece_end xs r)) ∙ e ∙ ap (λ zs. decimal n ++ zs) (piece_end ys s) in
      let both = numbers_alike m n (after_piece xs r) (after_piece ys s) (ends_piece xs) (ends_piece ys) hm hn (ends_number xs) (ends_number ys) e' in
      (both.0, piece_end xs r ∙ both.1 ∙ sym (piece_end ys s));
  some = λ m r s hm. no_bracket (decimal m) r s (decimal_nonempty m hm) (number_digits m hm);
}

pub told_quoted : Told (λ n. in_quotes (decimal n))
told_quoted = record {
  alike = λ m n xs ys r s hm hn e.
      let e' : decimal m ++ (34 ∷ (more xs ++ (93 ∷ r))) ≡ decimal n ++ (34 ∷ (more ys ++ (93 ∷ s))) =
      sym (append_assoc (decimal m) (34 ∷ []) (more xs ++ (93 ∷ r))) ∙ ap (drop 1) e ∙ append_assoc (decimal n) (34 ∷ []) (more ys ++ (93 ∷ s)) in
      let both = numbers_alike m n (more xs ++ (93 ∷ r)) (more ys ++ (93 ∷ s)) 34 34 hm hn (inl (omega arith)) (inl (omega arith)) e' in
      (both.0, ap (drop 1) both.1);
  some = λ m r s hm e. omega (arith, ap (λ l. get_or l 0 0) e);
}
