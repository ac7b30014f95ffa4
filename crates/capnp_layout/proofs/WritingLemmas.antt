-- The digits of words that are written one after another.
use Rattle.std.proofs.Common.{◌≡◌, ℕ, suc, zero, ◌+◌, ◌<◌, ◌≤◌, List, [], ◌∷◌, ◌++◌, length, drop, slice_index, refl, arith}
use Rattle.capnp_layout.specs.Answers.{digits_of, word_digits}

-- The digits from a word on are its own, and those from the next word on.
pub digits-drop : (ws : List ℕ) (i : ℕ) → i < length ws → digits_of (drop i ws) ≡ word_digits (slice_index ws i) ++ digits_of (drop (i + 1) ws)
unfolding digits_of
digits-drop ws i h = rw (let next : i + 1 ≡ suc i = omega arith in next) (go ws i h)
  where
    go : (xs : List ℕ) (i : ℕ) → i < length xs → digits_of (drop i xs) ≡ word_digits (slice_index xs i) ++ digits_of (drop (suc i) xs)
    go [] i h = absurd (omega arith)
    go (x ∷ xs) zero h = refl
    go (x ∷ xs) (suc i) h = go xs i (omega arith)

-- After the last word there are none.
pub digits-end : (ws : List ℕ) (i : ℕ) → length ws ≤ i → digits_of (drop i ws) ≡ []
unfolding digits_of
digits-end [] zero h = refl
digits-end [] (suc i) h = refl
digits-end (x ∷ xs) zero h = absurd (omega arith)
digits-end (x ∷ xs) (suc i) h = digits-end xs i (omega arith)
