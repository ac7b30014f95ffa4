-- The words of a message by the bytes of its segments, and the refusal of a place outside of them.
use Rattle.std.proofs.Common.{◌≡◌, ℕ, zero, suc, ◌+◌, ◌*◌, ◌/◌, ◌<◌, ◌≤◌, List, [], ◌∷◌, length, map, take, slice_get, Some, refl, sym, ap, ◌∙◌, arith, length-take}
use Rattle.std.proofs.lemmas.Grind.{common_steps}
use Rattle.std.proofs.lemmas.List.Sums.{sum_by-cons}
use Rattle.capnp_format.specs.Bytes.{words_of, message}
use Rattle.capnp_format.specs.Segments.{Segments, segment}
use Rattle.capnp_format.proofs.WordsOf.{words, words_of-take}
use Rattle.capnp_words.specs.declared.error.ErrorKind.{ErrorKind}
use Rattle.capnp_words.specs.declared.error.ErrorKind.TheVariants.{MessageContainsOutOfBoundsPointer}
use Rattle.capnp_arena_traits.specs.Limits.{whole}
use Rattle.capnp_arena_traits.specs.Checks.{misplaced, total_words}

pub length-message : (B : List (List ℕ)) → length (message B) ≡ length B
length-message [] = refl
length-message (s ∷ B) = ap suc (length-message B)

pub segment-message : (B : List (List ℕ)) (id : ℕ) (s : List ℕ) → slice_get B id ≡ Some s → segment (message B) id ≡ words_of s
segment-message [] id s e = cc
segment-message (b ∷ B) zero s e = let same : b ≡ s = cc in ap words_of same
segment-message (b ∷ B) (suc id) s e = segment-message B id s e

pub misplaced-there : (S : Segments) (id : ℕ) (e : ErrorKind) → id < length S → misplaced S id e ≡ MessageContainsOutOfBoundsPointer
misplaced-there S id e h = grind (arith, common_steps)

pub misplaced-absent : (S : Segments) (id : ℕ) (e : ErrorKind) → (id < length S → ⊥) → misplaced S id e ≡ e
misplaced-absent S id e h = grind (arith, common_steps)

pub ruleset placing = (length-message, misplaced-there, misplaced-absent)

-- the whole words of a segment are its words
pub words_of-whole : (bs : List ℕ) → words_of (whole bs) ≡ words_of bs
words_of-whole bs =
    words_of-take (length bs / 8) bs (omega arith) ∙ take-past (length bs / 8) (words_of bs) (omega (arith, words bs))
  where
    take-past : (n : ℕ) (xs : List ℕ) → length xs ≤ n → take n xs ≡ xs
    take-past n xs h = grind (arith, common_steps)

-- the words of a message are those of the whole words of its segments
pub message_wholes : (B : List (List ℕ)) → message (map whole B) ≡ message B
message_wholes [] = refl
message_wholes (b ∷ B) = ap (λ ws. ws ∷ message (map whole B)) (words_of-whole b) ∙ ap (λ M. words_of b ∷ M) (message_wholes B)

pub length-whole : (bs : List ℕ) → length (whole bs) ≡ 8 * (length bs / 8)
length-whole bs = omega (arith, length-take (8 * (length bs / 8)) bs)

-- the words of a segment that is cut to whole words
pub words-wholes : (B : List (List ℕ)) (id : ℕ) (s : List ℕ) → slice_get B id ≡ Some s → words_of (whole s) ≡ segment (message (map whole B)) id
words-wholes [] id s e = cc
words-wholes (b ∷ B) zero s e = let same : s ≡ b = cc in ap (λ x. words_of (whole x)) same
words-wholes (b ∷ B) (suc id) s e = words-wholes B id s e

pub length-wholes : (B : List (List ℕ)) (id : ℕ) (s : List ℕ) → slice_get B id ≡ Some s → length (whole s) ≡ 8 * length (segment (message (map whole B)) id)
length-wholes B id s e = length-whole s ∙ ap (λ n. 8 * n) (sym (ap length (sym (words-wholes B id s e) ∙ words_of-whole s) ∙ words s))

pub count-wholes : (B : List (List ℕ)) → length (map whole B) ≡ length B
count-wholes [] = refl
count-wholes (b ∷ B) = ap suc (count-wholes B)

pub get-wholes : (B : List (List ℕ)) (id : ℕ) (s : List ℕ) → slice_get B id ≡ Some s → slice_get (map whole B) id ≡ Some (whole s)
get-wholes [] id s e = cc
get-wholes (b ∷ B) zero s e = let same : b ≡ s = cc in ap (λ x. Some (whole x)) same
get-wholes (b ∷ B) (suc id) s e = get-wholes B id s e

pub ruleset wholes = (words-wholes, length-wholes)

pub total-cons : (b : List ℕ) (B : List (List ℕ)) → total_words (b ∷ B) ≡ length b / 8 + total_words B
total-cons b B = sum_by-cons (λ (n : ℕ). n) (length b / 8) (map (λ (s : List ℕ). length s / 8) B)

-- one segment more
pub total-more : (B : List (List ℕ)) (i : ℕ) (s : List ℕ) → slice_get B i ≡ Some s → total_words (take (i + 1) B) ≡ total_words (take i B) + length s / 8
total-more B i s e = ap (λ n. total_words (take n B)) (let next : i + 1 ≡ suc i = omega arith in next) ∙ go B i s e
  where
    go : (B : List (List ℕ)) (i : ℕ) (s : List ℕ) → slice_get B i ≡ Some s → total_words (take (suc i) B) ≡ total_words (take i B) + length s / 8
    go [] i s e = cc
    go (b ∷ B) zero s e = let same : b ≡ s = cc in rw same (omega (arith, total-cons s []))
    go (b ∷ B) (suc i) s e = omega (arith, go B i s e, total-cons b (take (suc i) B), total-cons b (take i B))

pub total-all : (B : List (List ℕ)) → total_words (take (length B) B) ≡ total_words B
total-all [] = refl
total-all (b ∷ B) = omega (arith, total-all B, total-cons b (take (length B) B), total-cons b B)

pub same_at : (f h : ℕ → ℕ) (i j : ℕ) → f ≡ h → i ≡ j → f i ≡ h j
same_at f h i j e same =
    let at : (ℕ → ℕ) → ℕ = λ k. k i in
    ap at e ∙ ap h same

pub take_whole : (n : ℕ) (B : List (List ℕ)) → length B ≤ n → take n B ≡ B
take_whole n [] h = take-nil n
  where
    take-nil : (n : ℕ) → let none : List (List ℕ) = [] in take n none ≡ none
    take-nil zero = refl
    take-nil (suc n) = refl
take_whole zero (b ∷ B) h = absurd (omega arith)
take_whole (suc n) (b ∷ B) h = ap (λ C. b ∷ C) (take_whole n B (omega arith))
