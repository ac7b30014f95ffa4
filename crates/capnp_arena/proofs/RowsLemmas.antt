-- The rows of a builder arena: one read, one changed, one added.
use Rattle.std.proofs.Common.{◌≡◌, ℕ, ◌+◌, ◌*◌, ◌/◌, ◌<◌, ◌≤◌, List, [], ◌∷◌, zero, suc, ◌++◌, length, get_or, set, take, refl, sym, ap, ◌∙◌, arith, slice_get, Some, ◌^◌}
use Rattle.capnp_format.specs.Bytes.{words_of, message}
use Rattle.capnp_format.specs.Segments.{segment}
use Rattle.capnp_format.proofs.WordsOf.{words}
use Rattle.capnp_arena.specs.Row.{allocated, capacity, shown, capacity_at}
use Rattle.capnp_arena_traits.specs.Allocations.{max_segments}
use Rattle.capnp_arena_traits.specs.Limits.{IsSmall}
use Rattle.capnp_arena_traits.specs.Checks.{total_words}
use Rattle.capnp_arena_traits.proofs.MessageLemmas.{total-more, length-message}
use Rattle.capnp_arena_traits.specs.Written.{with_segment}
pub use Rattle.capnp_arena.specs.LendingLemmas.{allocated_whole, room_same}
use Rattle.capnp_arena.specs.declared.arena.allocator.Segment.{Ghosts}
use Rattle.capnp_arena.specs.declared.arena.row.Row.{Row}

module _ {S : Type 0} (g : Ghosts S) where
  -- a row's words are its segment's
  pub segment_row : (rows : List (Row S g)) (i : ℕ) (d : Row S g) → i < length rows → segment (message (shown g rows)) i ≡ words_of (allocated g (get_or rows i d))
  segment_row [] i d l = absurd (omega arith)
  segment_row (r ∷ rows) zero d l = refl
  segment_row (r ∷ rows) (suc i) d l = segment_row rows i d (omega arith)

  pub row_words : (r : Row S g) → length (words_of (allocated g r)) ≡ r.used
  row_words r = words (allocated g r) ∙ omega (arith, allocated_whole g r)

  -- one row replaced
  pub row_changed : (rows : List (Row S g)) (i : ℕ) (r : Row S g) → message (shown g (set rows i r)) ≡ with_segment (message (shown g rows)) i (words_of (allocated g r))
  row_changed [] i r = refl
  row_changed (q ∷ rows) zero r = refl
  row_changed (q ∷ rows) (suc i) r = ap (λ M. words_of (allocated g q) ∷ M) (row_changed rows i r)

  pub row_there : (rows : List (Row S g)) (i p : ℕ) → p < length (segment (message (shown g rows)) i) → i < length rows
  row_there [] zero p l = absurd (omega arith)
  row_there [] (suc i) p l = absurd (omega arith)
  row_there (r ∷ rows) zero p l = omega arith
  row_there (r ∷ rows) (suc i) p l = omega (arith, row_there rows i p l)

  pub length_shown : (rows : List (Row S g)) → length (shown g rows) ≡ length rows
  length_shown [] = refl
  length_shown (r ∷ rows) = ap suc (length_shown rows)

  pub row_new : (rows : List (Row S g)) (i : ℕ) (r : Row S g) → i < length rows → length (segment (message (shown g (set rows i r))) i) ≡ r.used
  row_new [] i r l = absurd (omega arith)
  row_new (q ∷ rows) zero r l = row_words r
  row_new (q ∷ rows) (suc i) r l = row_new rows i r (omega arith)

  pub row_is : (rows : List (Row S g)) (i : ℕ) (r : Row S g) → i < length rows → r ≡ get_or rows i r → segment (message (shown g rows)) i ≡ words_of (allocated g r)
  row_is rows i r l e = segment_row rows i r l ∙ ap (λ q. words_of (allocated g q)) (sym e)

  pub row_old : (rows : List (Row S g)) (i : ℕ) (r : Row S g) → i < length rows → r ≡ get_or rows i r → length (segment (message (shown g rows)) i) ≡ r.used
  row_old rows i r l e = ap length (row_is rows i r l e) ∙ row_words r

  -- the words of one row overwritten, if it is known by its number, and if it was lent
  pub row_over : (f : List ℕ → List ℕ) (rows : List (Row S g)) (i : ℕ) (old new : Row S g) → i < length rows → words_of (allocated g new) ≡ f (words_of (allocated g (get_or rows i old))) →
      message (shown g (set rows i new)) ≡ with_segment (message (shown g rows)) i (f (segment (message (shown g rows)) i))
  row_over f rows i old new l e = row_changed rows i new ∙ ap (with_segment (message (shown g rows)) i) (e ∙ ap f (sym (segment_row rows i old l)))

  pub row_written : (f : List ℕ → List ℕ) (rows : List (Row S g)) (i : ℕ) (old new : Row S g) → i < length rows → old ≡ get_or rows i old → words_of (allocated g new) ≡ f (words_of (allocated g old)) →
      message (shown g (set rows i new)) ≡ with_segment (message (shown g rows)) i (f (segment (message (shown g rows)) i))
  row_written f rows i old new l is e = row_changed rows i new ∙ ap (with_segment (message (shown g rows)) i) (e ∙ ap f (sym (row_is rows i old l is)))

  -- the room of a row
  pub room_row : (rows : List (Row S g)) (i : ℕ) (d : Row S g) → i < length rows → capacity_at g rows i ≡ capacity g (get_or rows i d)
  room_row [] i d l = absurd (omega arith)
  room_row (r ∷ rows) zero d l = refl
  room_row (r ∷ rows) (suc i) d l = room_row rows i d (omega arith)

  pub room_is : (rows : List (Row S g)) (i : ℕ) (r : Row S g) → i < length rows → r ≡ get_or rows i r → capacity_at g rows i ≡ capacity g r
  room_is rows i r l e = room_row rows i r l ∙ ap (capacity g) (sym e)

  pub shown_at : (rows : List (Row S g)) (i : ℕ) (d : Row S g) → i < length rows → slice_get (shown g rows) i ≡ Some (allocated g (get_or rows i d))
  shown_at [] i d l = absurd (omega arith)
  shown_at (r ∷ rows) zero d l = refl
  shown_at (r ∷ rows) (suc i) d l = shown_at rows i d (omega arith)

  -- the number of words with one row more
  pub total_rows : (rows : List (Row S g)) (i : ℕ) (r : Row S g) → i < length rows → r ≡ get_or rows i r → total_words (take (i + 1) (shown g rows)) ≡ total_words (take i (shown g rows)) + r.used
  total_rows rows i r l e =
      total-more (shown g rows) i (allocated g (get_or rows i r)) (shown_at rows i r l)
      ∙ ap (λ (q : Row S g). total_words (take i (shown g rows)) + length (allocated g q) / 8) (sym e)
      ∙ ap (λ n. total_words (take i (shown g rows)) + n) (omega (arith, allocated_whole g r))

  pub row_small : (r : Row S g) → r.used < 2 ^ 29
  row_small r = omega (arith, r.clear.0, r.clear.1)

  -- one row more is output
  pub shown_more : (rows : List (Row S g)) (i : ℕ) {r : Row S g} → i < length rows → r ≡ get_or rows i r → take (i + 1) (shown g rows) ≡ take i (shown g rows) ++ allocated g r ∷ []
  shown_more rows i {r} l e =
      ap (λ n. take n (shown g rows)) (let next : i + 1 ≡ suc i = omega arith in next)
      ∙ step rows i r l
      ∙ ap (λ (q : Row S g). take i (shown g rows) ++ allocated g q ∷ []) (sym e)
    where
      step : (rows : List (Row S g)) (i : ℕ) (d : Row S g) → i < length rows → take (suc i) (shown g rows) ≡ take i (shown g rows) ++ allocated g (get_or rows i d) ∷ []
      step [] i d l = absurd (omega arith)
      step (r ∷ rows) zero d l = refl
      step (r ∷ rows) (suc i) d l = ap (λ B. allocated g r ∷ B) (step rows i d (omega arith))

  -- the segments of rows are within a reader's limits
  pub shown_small : (rows : List (Row S g)) → length rows ≤ max_segments → IsSmall (shown g rows)
  shown_small rows few = (omega (arith, length_shown rows), go rows)
    where
      go : (rows : List (Row S g)) (k : ℕ) (s : List ℕ) → slice_get (shown g rows) k ≡ Some s → length s / 8 < 2 ^ 32
      go [] k s e = cc
      go (r ∷ rows) zero s e = let same : allocated g r ≡ s = cc in omega (arith, ap length same, allocated_whole g r, row_small r)
      go (r ∷ rows) (suc k) s e = go rows k s e

  -- what a segment that is read has, by its number
  pub shown_whole : (rows : List (Row S g)) (id : ℕ) (s : List ℕ) → slice_get (shown g rows) id ≡ Some s → length s ≡ 8 * length (segment (message (shown g rows)) id)
  shown_whole [] id s e = cc
  shown_whole (r ∷ rows) zero s e = let same : allocated g r ≡ s = cc in omega (arith, ap length same, allocated_whole g r, row_words r)
  shown_whole (r ∷ rows) (suc id) s e = shown_whole rows id s e

pub ruleset reading = (segment_row, allocated_whole, row_words, length_shown)

pub ruleset rows_written = (segment_row, row_words, row_changed, row_there, length_shown, room_row, room_same)

pub ruleset counting = (length_shown, length-message)
