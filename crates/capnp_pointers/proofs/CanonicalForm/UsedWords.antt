-- How many words and children are used, by the last word and by the pointers.
use Rattle.std.proofs.Common.{◌≡◌, ◌≢◌, ℕ, zero, suc, ◌+◌, ◌-◌, ◌<◌, ◌≤◌, ◌⊎◌, inl, inr, nat_eq, List, [], ◌∷◌, length, get_or, take, refl, sym, ap, ap₂, ◌∙◌, subst, arith, eq-eqb, ne_eqb, take_all, length-take}
use Rattle.std.proofs.lemmas.List.{drop_more}
use Rattle.std.proofs.lemmas.Bool.{cases_eq}
use Rattle.capnp_format.specs.Word.{capability_word, struct_word, list_word}
use Rattle.capnp_format.specs.Segments.{Segments, segment, word_at, words_at}
use Rattle.capnp_format.specs.Tree.{Tree, Null, Capability, Struct, Flat, Pointers, Structs, Trees, no_trees, tree, count}
use Rattle.capnp_format.specs.Canonical.{used_from, used_words, is_null, used_trees, word_count, pointer, pointers}
use Rattle.capnp_pointers.specs.Standing.{EndsUsed}
use Rattle.capnp_format.proofs.Slices.{length_words, word_in_part}
use Rattle.capnp_format.proofs.Trimming.{used_words-le}
use Rattle.capnp_format.proofs.UsedUp.{used_whole}

-- A zero isn't used if nothing after it is used.
used_from-none : (x : ℕ) → x ≡ 0 → used_from (nat_eq x 0) 0 ≡ 0
used_from-none x z = ap (λ b. used_from b 0) (eq-eqb x 0 z)

-- If word n isn't zero, all words up to it are used.
pub used_at : (xs : List ℕ) (n : ℕ) → n < length xs → get_or xs n 0 ≢ 0 → used_words (take (suc n) xs) ≡ suc n
used_at xs n l z = used_whole xs n (suc n) (omega arith) (omega arith) z

-- If word n is zero, the used words are those of the words before it.
pub unused_at : (xs : List ℕ) (n : ℕ) → get_or xs n 0 ≡ 0 → used_words (take (suc n) xs) ≡ used_words (take n xs)
unused_at [] zero z = refl
unused_at [] (suc n) z = refl
unused_at (x ∷ xs) zero z = used_from-none x z
unused_at (x ∷ xs) (suc n) z = ap (used_from (nat_eq x 0)) (unused_at xs n z)

-- If all words from index n on are zero, the used words are those of the first n words.
pub unused_from : (xs : List ℕ) (n : ℕ) → ((i : ℕ) → n ≤ i → i < length xs → get_or xs i 0 ≡ 0) → used_words xs ≡ used_words (take n xs)
unused_from [] zero z = refl
unused_from [] (suc n) z = refl
unused_from (x ∷ xs) zero z =
    ap (used_from (nat_eq x 0)) (unused_from xs zero (λ i a b. z (suc i) (omega arith) (omega arith))) ∙ used_from-none x (z 0 (omega arith) (omega arith))
unused_from (x ∷ xs) (suc n) z = ap (used_from (nat_eq x 0)) (unused_from xs n (λ i a b. z (suc i) (omega arith) (omega arith)))

-- The first n words are used if all words after them are zero, and the last of them isn't zero.
pub used_is : (xs : List ℕ) (n : ℕ) → n ≤ length xs → ((i : ℕ) → n ≤ i → i < length xs → get_or xs i 0 ≡ 0) → (n ≡ 0) ⊎ (get_or xs (n - 1) 0 ≢ 0) → used_words xs ≡ n
used_is xs zero l z e = unused_from xs zero z
used_is xs (suc n) l z (inl e) = absurd (omega arith)
used_is xs (suc n) l z (inr e) = unused_from xs (suc n) z ∙ used_at xs n l (subst (λ i. get_or xs i 0 ≢ 0) (let q : suc n - 1 ≡ n = omega arith in q) e)

-- All words are used if there are none, or the last one isn't zero.
pub all_used : (xs : List ℕ) → (length xs ≡ 0) ⊎ (get_or xs (length xs - 1) 0 ≢ 0) → used_words xs ≡ length xs
all_used xs e = used_is xs (length xs) (omega arith) (λ i a b. absurd (omega arith)) e

-- If all words are used, and there is at least one, the last one isn't zero.
some_used : (xs : List ℕ) (n : ℕ) → length xs ≡ suc n → used_words xs ≡ length xs → get_or xs n 0 ≢ 0
some_used xs n long e z =
    let same : used_words xs ≡ used_words (take n xs) = ap used_words (sym (take_all (suc n) xs (omega arith))) ∙ unused_at xs n z in
    omega (arith, used_words-le (take n xs), length-take n xs)

-- Words of a segment are all used if they don't end with a zero.
pub ends_used : (S : Segments) (s p n : ℕ) → p + n ≤ length (segment S s) → EndsUsed S s p n → used_words (words_at S s p n) ≡ n
ends_used S s p n l (inl e) =
    let long = length_words S s p n l in
    all_used (words_at S s p n) (inl (omega (arith, long))) ∙ long
ends_used S s p n l (inr e) =
    let long = length_words S s p n l in
    elim (cases_eq n 0) [
      | inl z ↦ all_used (words_at S s p n) (inl (omega (arith, long))) ∙ long
      | inr some ↦
          (let there : get_or (words_at S s p n) (length (words_at S s p n) - 1) 0 ≡ word_at S s (p + n - 1) =
          ap (λ m. get_or (words_at S s p n) (m - 1) 0) long ∙ word_in_part S s p n (n - 1) (omega arith) ∙ ap (word_at S s) (let q : p + (n - 1) ≡ p + n - 1 = omega arith in q) in
          all_used (words_at S s p n) (inr (λ z. e (sym there ∙ z))) ∙ long)
    ]

-- If words of a segment are all used, they don't end with a zero.
pub used_ends : (S : Segments) (s p n : ℕ) → p + n ≤ length (segment S s) → used_words (words_at S s p n) ≡ n → EndsUsed S s p n
used_ends S s p n l e = elim (cases_eq n 0) [
  | inl z ↦ inl z
  | inr some ↦
      (let long = length_words S s p n l in
      let there : get_or (words_at S s p n) (n - 1) 0 ≡ word_at S s (p + n - 1) =
      word_in_part S s p n (n - 1) (omega arith) ∙ ap (word_at S s) (let q : p + (n - 1) ≡ p + n - 1 = omega arith in q) in
      inr (λ z. some_used (words_at S s p n) (n - 1) (omega (arith, long)) (e ∙ sym long) (there ∙ z)))
]

-- The pointer of a value is zero exactly if the value is Null.
pub pointer_is_null : (t : Tree) (k : ℕ) → nat_eq (pointer t k) 0 ≡ is_null t
pointer_is_null Null k = refl
pointer_is_null (Capability i) k = ne_eqb (capability_word i) 0 (omega arith)
pointer_is_null (Struct [] no_trees) k = refl
pointer_is_null (Struct [] (tree t ts)) k = ne_eqb (struct_word k 0 (count (tree t ts))) 0 (omega arith)
pointer_is_null (Struct (x ∷ xs) ts) k = ne_eqb (struct_word k (length (x ∷ xs)) (count ts)) 0 (omega arith)
pointer_is_null (Flat size ns) k = ne_eqb (list_word k size (length ns)) 0 (omega arith)
pointer_is_null (Pointers ts) k = ne_eqb (list_word k 6 (count ts)) 0 (omega arith)
pointer_is_null (Structs d q es) k = ne_eqb (list_word k 7 _) 0 (omega arith)

-- As many pointers of children are used as children.
pub used_words-pointers : (k : ℕ) (ts : Trees) → used_words (pointers k ts) ≡ used_trees ts
used_words-pointers k no_trees = refl
used_words-pointers k (tree t ts) = ap₂ used_from (pointer_is_null t (count ts + k)) (used_words-pointers (k + word_count t) ts)

-- The words from a place on are the first one, and the words after it.
pub words_at-more : (S : Segments) (s p n : ℕ) → p < length (segment S s) → words_at S s p (suc n) ≡ word_at S s p ∷ words_at S s (p + 1) n
words_at-more S s p n l = ap (take (suc n)) (drop_more (segment S s) p 0 l)
