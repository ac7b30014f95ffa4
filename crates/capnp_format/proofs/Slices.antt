-- Consecutive words in a segment. `moved` takes its arguments one by one, because another crate
-- cites it in this form.
use Rattle.std.proofs.Common.{◌≡◌, ℕ, zero, suc, ◌+◌, ◌<◌, ◌≤◌, List, [], ◌∷◌, ◌++◌, length, get_or, take, drop, refl, sym, ap, ◌∙◌, subst, arith, length-append, length-take, length-drop, take-take, take_at, drop_at, drop-drop, get_or-take, get_or-drop}
use Rattle.std.proofs.lemmas.List.{drop-take}
use Rattle.capnp_format.specs.Segments.{Segments, segment, word_at, words_at, HasWords}

pub length_words : (S : Segments) (s p n : ℕ) → p + n ≤ length (segment S s) → length (words_at S s p n) ≡ n
length_words S s p n h = omega (arith, length-take n (drop p (segment S s)), length-drop p (segment S s))

-- A segment has its own words at their places.
pub has_words_at : (S : Segments) (s h n : ℕ) → h + n ≤ length (segment S s) → HasWords S s h (words_at S s h n)
has_words_at S s h n l = ap (λ m. words_at S s h m) (length_words S s h n l)

pub has_words_first : (S : Segments) (s h : ℕ) (xs ys : List ℕ) → HasWords S s h (xs ++ ys) → HasWords S s h xs
has_words_first S s h xs ys e =
    sym (take-take (length xs) (length (xs ++ ys)) (drop h (segment S s)) (omega (arith, length-append xs ys)))
    ∙ ap (take (length xs)) e ∙ take_at xs ys (length xs) refl

pub has_words_rest : (S : Segments) (s h : ℕ) (xs ys : List ℕ) → HasWords S s h (xs ++ ys) → HasWords S s (h + length xs) ys
has_words_rest S s h xs ys e =
    ap (take (length ys)) (sym (drop-drop (length xs) h (segment S s)))
    ∙ sym (drop-take (length xs) (length ys) (drop h (segment S s)))
    ∙ ap (λ n. drop (length xs) (take n (drop h (segment S s)))) (sym (length-append xs ys))
    ∙ ap (drop (length xs)) e ∙ drop_at xs ys (length xs) refl

pub has_words_head : (S : Segments) (s h x : ℕ) (xs : List ℕ) → HasWords S s h (x ∷ xs) → word_at S s h ≡ x
has_words_head S s h x xs e =
    ap (λ i. get_or (segment S s) i 0) (let q : h ≡ h + 0 = omega arith in q) ∙ sym (get_or-drop h (segment S s) 0 0)
    ∙ sym (get_or-take (suc (length xs)) (drop h (segment S s)) 0 0 (omega arith)) ∙ ap (λ l. get_or l 0 0) e

pub has_words_tail : (S : Segments) (s h x : ℕ) (xs : List ℕ) → HasWords S s h (x ∷ xs) → HasWords S s (h + 1) xs
has_words_tail S s h x xs e = has_words_rest S s h (x ∷ []) xs e

pub has_words_within : (S : Segments) (s h : ℕ) (xs : List ℕ) → HasWords S s h xs → h ≤ length (segment S s) → h + length xs ≤ length (segment S s)
has_words_within S s h xs e l = omega (arith, length-take (length xs) (drop h (segment S s)), length-drop h (segment S s), ap length e)

pub moved : (S : Segments) (s h i : ℕ) (ws : List ℕ) → h ≡ i → HasWords S s h ws → HasWords S s i ws
moved S s h i ws e b = subst (λ j. HasWords S s j ws) e b

-- A segment that has a word exists.
pub there : (S : Segments) (s p : ℕ) → p < length (segment S s) → s < length S
there [] s p l = absurd (omega arith)
there (xs ∷ S) zero p l = omega arith
there (xs ∷ S) (suc s) p l = omega (arith, there S s p l)

-- Word i of a part is the word i places after its start.
pub word_in_part : (S : Segments) (s p n i : ℕ) → i < n → get_or (words_at S s p n) i 0 ≡ word_at S s (p + i)
word_in_part S s p n i l = get_or-take n (drop p (segment S s)) i 0 l ∙ get_or-drop p (segment S s) i 0

-- A message of one segment.
pub only_segment : (S : Segments) (ws : List ℕ) → length S ≡ 1 → segment S 0 ≡ ws → S ≡ ws ∷ []
only_segment [] ws one e = absurd (omega (arith, one))
only_segment (x ∷ []) ws one e = ap (λ (s : List ℕ). s ∷ []) e
only_segment (x ∷ y ∷ S) ws one e = absurd (omega (arith, one))
