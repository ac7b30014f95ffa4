-- A segment of a message that is written, and words that overwrite others.
use Rattle.std.proofs.Common.{◌≡◌, ◌≢◌, inl, inr, ◌⊎◌, ℕ, zero, suc, ◌+◌, ◌-◌, ◌<◌, ◌≤◌, List, [], ◌∷◌, ◌++◌, length, take, drop, get_or, refl, ap, ◌∙◌, arith, length-take, length-drop}
use Rattle.std.proofs.lemmas.List.{length-append, get_or-set_same, get_or-set_other, get_or_append_left, get_or-append_right, get_or-take, get_or-drop}
use Rattle.capnp_format.specs.Segments.{Segments, segment, word_at}
use Rattle.capnp_arena_traits.specs.Written.{with_segment, overwritten}

-- The segments of a message after one of them was written.
pub segment_here : (S : Segments) (s : ℕ) (ws : List ℕ) → s < length S → segment (with_segment S s ws) s ≡ ws
segment_here S s ws l = get_or-set_same S s ws [] l

pub segment_other : (S : Segments) (s v : ℕ) (ws : List ℕ) → v ≢ s → segment (with_segment S s ws) v ≡ segment S v
segment_other S s v ws n = get_or-set_other S s v ws [] n

-- A word of them.
pub word_other : (S : Segments) (s v r : ℕ) (ws : List ℕ) → v ≢ s → word_at (with_segment S s ws) v r ≡ word_at S v r
word_other S s v r ws n = ap (λ xs. get_or xs r 0) (segment_other S s v ws n)

pub word_here : (S : Segments) (s r : ℕ) (ws : List ℕ) → s < length S → word_at (with_segment S s ws) s r ≡ get_or ws r 0
word_here S s r ws l = ap (λ xs. get_or xs r 0) (segment_here S s ws l)

-- Writing a segment with as many words keeps all lengths.
pub lengths_kept : (S : Segments) (s : ℕ) (ws : List ℕ) → length ws ≡ length (segment S s) → (v : ℕ) → length (segment (with_segment S s ws) v) ≡ length (segment S v)
lengths_kept [] s ws e v = refl
lengths_kept (xs ∷ S) zero ws e zero = e
lengths_kept (xs ∷ S) zero ws e (suc v) = refl
lengths_kept (xs ∷ S) (suc s) ws e zero = refl
lengths_kept (xs ∷ S) (suc s) ws e (suc v) = lengths_kept S s ws e v

-- Overwritten words are as many as before.
pub length-over : (xs : List ℕ) (p : ℕ) (ws : List ℕ) → p + length ws ≤ length xs → length (overwritten xs p ws) ≡ length xs
length-over xs p ws l =
    omega (arith, length-append (take p xs) (ws ++ drop (length ws) (drop p xs)), length-append ws (drop (length ws) (drop p xs)), length-take p xs, length-drop (length ws) (drop p xs), length-drop p xs)

-- What words are after some are overwritten, inside and outside of those.
pub over_within : (xs : List ℕ) (p : ℕ) (ws : List ℕ) (r : ℕ) → p + length ws ≤ length xs → p ≤ r → r < p + length ws → get_or (overwritten xs p ws) r 0 ≡ get_or ws (r - p) 0
over_within xs p ws r l m h =
    get_or-append_right (take p xs) (ws ++ drop (length ws) (drop p xs)) p r 0 (omega (arith, length-take p xs)) m
    ∙ get_or_append_left ws (drop (length ws) (drop p xs)) 0 (r - p) (omega arith)

pub over_beside : (xs : List ℕ) (p : ℕ) (ws : List ℕ) (r : ℕ) → p + length ws ≤ length xs → (r < p) ⊎ (p + length ws ≤ r) → get_or (overwritten xs p ws) r 0 ≡ get_or xs r 0
over_beside xs p ws r l (inl m) =
    get_or_append_left (take p xs) (ws ++ drop (length ws) (drop p xs)) 0 r (omega (arith, length-take p xs)) ∙ get_or-take p xs r 0 m
over_beside xs p ws r l (inr m) =
    get_or-append_right (take p xs) (ws ++ drop (length ws) (drop p xs)) p r 0 (omega (arith, length-take p xs)) (omega arith)
    ∙ get_or-append_right ws (drop (length ws) (drop p xs)) (length ws) (r - p) 0 refl (omega arith)
    ∙ get_or-drop (length ws) (drop p xs) (r - p - length ws) 0 ∙ get_or-drop p xs (length ws + (r - p - length ws)) 0
    ∙ ap (λ j. get_or xs j 0) (let f : p + (length ws + (r - p - length ws)) ≡ r = omega arith in f)
