-- How many words are allocated, and what room is left.
use Rattle.std.proofs.Common.{◌≡◌, true, false, inl, inr, ℕ, zero, suc, ◌+◌, ◌<◌, ◌≤◌, List, [], ◌∷◌, ◌++◌, length, replicate, refl, ap, ◌∙◌, arith}
use Rattle.std.specs.Prelude.{slice_set, sum_by}
use Rattle.std.proofs.lemmas.List.{length-append, length-replicate, length-set}
use Rattle.std.proofs.lemmas.List.Sums.{sum_by-cons}
use Rattle.std.proofs.lemmas.Bool.{cases_lt}
use Rattle.capnp_words.specs.declared.error.ErrorKind.{ErrorKind}
use Rattle.capnp_format.specs.Segments.{Segments, Grows, segment}
use Rattle.capnp_arena_traits.specs.Taking.{IsTaken, SameRoomBelow, with_another}
use Rattle.capnp_arena_traits.specs.View.{View}
use Rattle.capnp_arena_traits.specs.Written.{extended, with_word}
use Rattle.capnp_allocation.specs.Memory.{HasRoom, RefusesWords}
use Rattle.capnp_allocation.specs.Near.{HasOwnRoom}
use Rattle.capnp_in_place.specs.Rooms.{GrowsByAtMost}
use Rattle.capnp_allocation.proofs.Taken.{first_or_full}

-- The number of words of all segments.
abbrev pub all_words : Segments → ℕ
all_words S = sum_by length S

more_words : (ws : List ℕ) (S : Segments) → all_words (ws ∷ S) ≡ length ws + all_words S
more_words ws S = sum_by-cons length ws S

-- If no words are allocated, the number of all words is the same.
pub same_words : (S R : Segments) → length R ≡ length S → ((x : ℕ) → length (segment R x) ≡ length (segment S x)) → all_words R ≡ all_words S
same_words [] [] e f = refl
same_words [] (r ∷ R) e f = absurd (omega arith)
same_words (s ∷ S) [] e f = absurd (omega arith)
same_words (s ∷ S) (r ∷ R) e f = omega (arith, f 0, same_words S R (omega arith) (λ x. f (suc x)), more_words s S, more_words r R)

words_with : (S : Segments) (s p x : ℕ) → all_words (with_word S s p x) ≡ all_words S
words_with [] zero p x = refl
words_with [] (suc s) p x = refl
words_with (ws ∷ S) zero p x = omega (arith, length-set ws p x, more_words ws S, more_words (slice_set ws p x) S)
words_with (ws ∷ S) (suc s) p x = omega (arith, words_with S s p x, more_words ws S, more_words ws (with_word S s p x))

pub words_put : (S R : Segments) (s p x : ℕ) → R ≡ with_word S s p x → all_words R ≡ all_words S
words_put S R s p x e = ap all_words e ∙ words_with S s p x

-- If words are allocated, the number of all words grows by theirs.

pub words_extended : (S : Segments) (s : ℕ) (ws : List ℕ) → s < length S → all_words (extended S s ws) ≡ all_words S + length ws
words_extended [] s ws l = absurd (omega arith)
words_extended (xs ∷ S) zero ws l = omega (arith, length-append xs ws, more_words xs S, more_words (xs ++ ws) S)
words_extended (xs ∷ S) (suc s) ws l = omega (arith, words_extended S s ws (omega arith), more_words xs S, more_words xs (extended S s ws))

words_another : (S : Segments) (n : ℕ) → all_words (with_another S n) ≡ all_words S + n
words_another [] n = omega (arith, length-replicate {A = ℕ} n 0)
words_another (xs ∷ S) n = omega (arith, words_another S n, more_words xs S, more_words xs (with_another S n))

pub words_taken : (S T : Segments) (n s p : ℕ) → IsTaken S T n s p → all_words T ≡ all_words S + n
words_taken S T n s p (inl (l, e, f)) = ap all_words f ∙ words_extended S s (replicate n 0) l ∙ ap (λ k. all_words S + k) (length-replicate n 0)
words_taken S T n s p (inr (l, e, f)) = ap all_words f ∙ words_another S n

-- No segment has gained more words than were allocated.

behind : (s r : List ℕ) (S R : Segments) → Grows (s ∷ S) (r ∷ R) → Grows S R
behind s r S R g = record { segments = omega (arith, g.segments); words = λ x. g.words (suc x) }

none_fewer : (S R : Segments) → Grows S R → all_words S ≤ all_words R
none_fewer [] R g = omega arith
none_fewer (s ∷ S) [] g = absurd (omega (arith, g.segments))
none_fewer (s ∷ S) (r ∷ R) g = omega (arith, g.words 0, none_fewer S R (behind s r S R g), more_words s S, more_words r R)

none_there : (k : ℕ) → length (segment [] k) ≡ 0
none_there zero = refl
none_there (suc k) = refl

one_of_all : (R : Segments) (k : ℕ) → length (segment R k) ≤ all_words R
one_of_all [] k = omega (arith, none_there k)
one_of_all (r ∷ R) zero = omega (arith, more_words r R)
one_of_all (r ∷ R) (suc k) = omega (arith, one_of_all R k, more_words r R)

gained : (S R : Segments) (n k : ℕ) → Grows S R → GrowsByAtMost S R n → length (segment R k) ≤ length (segment S k) + n
gained [] R n k g t = omega (arith, one_of_all R k)
gained (s ∷ S) [] n k g t = absurd (omega (arith, g.segments))
gained (s ∷ S) (r ∷ R) n zero g t = omega (arith, none_fewer S R (behind s r S R g), more_words s S, more_words r R)
gained (s ∷ S) (r ∷ R) n (suc k) g t = gained S R n k (behind s r S R g) (omega (arith, g.words 0, more_words s S, more_words r R))

-- Some segment has room for n more words.
abbrev pub HasSomeRoom : View → ℕ → Type 0
HasSomeRoom v n = (k : ℕ) × (k < length v.words) × HasOwnRoom v k n

-- The room that is left.

pub room_left : (a b : View) (m n : ℕ) → Grows a.words b.words → GrowsByAtMost a.words b.words m → SameRoomBelow (length a.words) a.room b.room → HasSomeRoom a (m + n) → HasSomeRoom b n
room_left a b m n g t same (k, l, fits) = (k, omega (arith, g.segments), omega (arith, fits, same k l, gained a.words b.words m k g t))

pub less_room : (v : View) (m n : ℕ) → n ≤ m → HasSomeRoom v m → HasSomeRoom v n
less_room v m n l (k, there, fits) = (k, there, omega (arith, fits))

pub room_still : (a b : View) (n : ℕ) → b.words ≡ a.words → b.room ≡ a.room → HasSomeRoom a n → HasSomeRoom b n
room_still a b n words room (k, l, fits) = (k, omega (arith, ap length words), omega (arith, fits, ap (λ S. length (segment S k)) words, ap (λ (f : ℕ → ℕ). f k) room))

-- The object's segment has no room.
pub room_elsewhere : (v : View) (id n m : ℕ) → v.room id < length (segment v.words id) + n → HasRoom v id (n + m) → HasSomeRoom v (n + 1 + m)
room_elsewhere v id n m full (inl fits) = absurd (omega (arith, fits))
room_elsewhere v id n m full (inr (k, fit)) = (k, fit.0, omega (arith, fit.1))

pub not_true : false ≡ true → ⊥
not_true e = cc

pub not_within : (a n : ℕ) → (n ≤ a → ⊥) → a < n
not_within a n h = elim (cases_lt a n) [ inl l ↦ l | inr l ↦ absurd (h l) ]

-- If words are refused, no segment has room for them.
pub none_refused : (a b : View) (n : ℕ) (k : ErrorKind) → RefusesWords a b n k → HasSomeRoom b (n + 1) → ⊥
none_refused a b n k (r, none) (j, l, fits) = elim (first_or_full b (n + 1)) [
  | inl (i, fit) ↦ none i fit
  | inr full ↦ omega (arith, full j l, fits)
]
