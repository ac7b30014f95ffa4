-- A row's allocated words: overwritten, and more of them allocated.
use Rattle.std.proofs.Common.{◌≡◌, ℕ, ◌+◌, ◌-◌, ◌*◌, ◌≤◌, List, ◌++◌, length, take, drop, replicate, [], ◌/◌, refl, sym, ap, ◌∙◌, arith, take-add, take_at, drop-drop, length-take, length-drop, subst}
use Rattle.std.proofs.Math.Bridge.{le_prop}
use Rattle.std.proofs.Math.Nat.{ℕ_set}
use mathlib.Core.List.{is_set}
use Rattle.capnp_arena.specs.declared.arena.row.Row.{Row}
use Rattle.std.proofs.lemmas.List.{drop-append-le, drop-replicate, length-append, replicate-append-replicate, take-append-le, take-replicate, length-replicate}
use Rattle.std.proofs.lemmas.Grind.{common_steps}
use borrow.Rule.Slice.PartMut.{put_mid}
use Rattle.capnp_format.specs.Bytes.{words_of}
use Rattle.capnp_format.proofs.WordsOf.{words_of-append, words_of-zeros}
use Rattle.capnp_arena_traits.specs.Allocations.{IsClearFrom, IsRow, max_segment_words}
use Rattle.capnp_arena_traits.specs.Written.{with_copied}
use Rattle.capnp_arena.specs.declared.arena.allocator.Segment.{Ghosts}

pub length_part : (xs : List ℕ) (from n : ℕ) → from + n ≤ length xs → length (take n (drop from xs)) ≡ n
length_part xs from n l = omega (arith, length-take n (drop from xs), length-drop from xs)

-- words copied over others of the same row
pub moved_over : (xs : List ℕ) (from to n : ℕ) → from + n ≤ length xs → put_mid to n xs (take n (drop from xs)) ≡ with_copied xs to xs from n
moved_over xs from to n l = ap (λ k. take to xs ++ (take n (drop from xs) ++ drop k (drop to xs))) (sym (length_part xs from n l))

part_clear : (u m : ℕ) (bytes : List ℕ) → drop u bytes ≡ replicate (length bytes - u) 0 → u + m ≤ length bytes → drop (u + m) bytes ≡ replicate (length bytes - (u + m)) 0
part_clear u m bytes clear fits = grind (arith, drop-drop m u bytes, clear, drop-replicate {X = ℕ} m (length bytes - u) 0)

part_taken : (u m : ℕ) (bytes : List ℕ) → drop u bytes ≡ replicate (length bytes - u) 0 → u + m ≤ length bytes → take (u + m) bytes ≡ take u bytes ++ replicate m 0
part_taken u m bytes clear fits = grind (arith, take-add u m bytes, clear, take-replicate {X = ℕ} m (length bytes - u) 0)

fresh_clear : (bytes : List ℕ) (words : ℕ) → bytes ≡ replicate (8 * words) 0 → IsClearFrom 0 bytes
fresh_clear bytes words fresh = grind (arith, common_steps, fresh)

distribute : (used more : ℕ) → 8 * (used + more) ≡ 8 * used + 8 * more
distribute used more = omega arith

clear_more : (used more : ℕ) (bytes : List ℕ) → IsClearFrom used bytes → 8 * (used + more) ≤ length bytes → IsClearFrom (used + more) bytes
clear_more used more bytes clear fits = rw (distribute used more) (part_clear (8 * used) (8 * more) bytes clear (omega (arith, fits)))

words_more : (used more : ℕ) (bytes : List ℕ) → IsClearFrom used bytes → 8 * (used + more) ≤ length bytes → words_of (take (8 * (used + more)) bytes) ≡ words_of (take (8 * used) bytes) ++ replicate more 0
words_more used more bytes clear fits =
    ap words_of (rw (distribute used more) (part_taken (8 * used) (8 * more) bytes clear (omega (arith, fits))))
    ∙ words_of-append used (take (8 * used) bytes) (replicate (8 * more) 0) (omega (arith, fits, length-take (8 * used) bytes))
    ∙ ap (λ ws. words_of (take (8 * used) bytes) ++ ws) (words_of-zeros more)

with_more : (u : ℕ) (bytes : List ℕ) (n : ℕ) → u ≤ length bytes → length (bytes ++ replicate n 0) - u ≡ length bytes - u + n
with_more u bytes n within = omega (arith, within, length-append bytes (replicate {A = ℕ} n 0), length-replicate {A = ℕ} n 0)

-- the words of a segment from u on are zero if they are zero in its bytes that are ready
clear_with : (u : ℕ) (bytes : List ℕ) (n : ℕ) → u ≤ length bytes → drop u bytes ≡ replicate (length bytes - u) 0 → drop u (bytes ++ replicate n 0) ≡ replicate (length (bytes ++ replicate n 0) - u) 0
clear_with u bytes n within clear =
    drop-append-le u bytes (replicate n 0) within ∙ ap (λ xs. xs ++ replicate n 0) clear
    ∙ replicate-append-replicate (length bytes - u) n 0 ∙ ap (λ k. replicate k 0) (sym (with_more u bytes n within))

-- and they are zero in its bytes that are ready if they are zero in the segment
clear_without : (u : ℕ) (bytes : List ℕ) (n : ℕ) → u ≤ length bytes → drop u (bytes ++ replicate n 0) ≡ replicate (length (bytes ++ replicate n 0) - u) 0 → drop u bytes ≡ replicate (length bytes - u) 0
clear_without u bytes n within clear =
    let long : length (drop u bytes) ≡ length bytes - u = length-drop u bytes in
    sym (take_at (drop u bytes) (replicate n 0) (length bytes - u) long)
    ∙ ap (take (length bytes - u)) (sym (drop-append-le u bytes (replicate n 0) within) ∙ clear)
    ∙ take-replicate {X = ℕ} (length bytes - u) (length (bytes ++ replicate n 0) - u) 0 (omega (arith, with_more u bytes n within))

module _ {S : Type 0} (g : Ghosts S) where
  -- all bytes of a segment are zero from word `used` on
  pub segment_clear : (s : S) (used : ℕ) → IsRow used (g.ready s) (length (g.content s)) → IsClearFrom used (g.content s)
  segment_clear s used row =
      subst (λ xs. drop (8 * used) xs ≡ replicate (length xs - 8 * used) 0) (sym (g.zeros_behind s))
      (clear_with (8 * used) (g.ready s) (length (g.content s) - length (g.ready s)) row.0 row.3)

  ready_clear : (s : S) (used : ℕ) → 8 * used ≤ length (g.ready s) → IsClearFrom used (g.content s) → IsClearFrom used (g.ready s)
  ready_clear s used within clear =
      clear_without (8 * used) (g.ready s) (length (g.content s) - length (g.ready s)) within
      (subst (λ xs. drop (8 * used) xs ≡ replicate (length xs - 8 * used) 0) (g.zeros_behind s) clear)

  pub ready_within : (s : S) → length (g.ready s) ≤ length (g.content s)
  ready_within s = omega (arith, ap length (g.zeros_behind s), length-append (g.ready s) (replicate (length (g.content s) - length (g.ready s)) 0))

  -- the first words of a segment are the first of its bytes that are ready
  ready_front : (s : S) (n : ℕ) → n ≤ length (g.ready s) → take n (g.content s) ≡ take n (g.ready s)
  ready_front s n within = ap (take n) (g.zeros_behind s) ∙ take-append-le n (g.ready s) (replicate (length (g.content s) - length (g.ready s)) 0) within

  -- a segment with more words ready
  pub more_row : (old new : S) (used more : ℕ) → IsRow used (g.ready old) (length (g.content old)) → g.content new ≡ g.content old → 8 * (used + more) ≤ length (g.ready new) → IsRow (used + more) (g.ready new) (length (g.content new))
  more_row old new used more row same fits = (
    fits,
    ready_within new,
    omega (arith, row.2, ap length same),
    ready_clear new (used + more) fits
        (clear_more used more (g.content new) (subst (IsClearFrom used) (sym same) (segment_clear old used row)) (omega (arith, fits, ready_within new))),
  )

  pub more_words : (old new : S) (used more : ℕ) → IsRow used (g.ready old) (length (g.content old)) → g.content new ≡ g.content old → 8 * (used + more) ≤ length (g.ready new) →
      words_of (take (8 * (used + more)) (g.ready new)) ≡ words_of (take (8 * used) (g.ready old)) ++ replicate more 0
  more_words old new used more row same fits =
      ap words_of (sym (ready_front new (8 * (used + more)) fits))
      ∙ words_more used more (g.content new) (subst (IsClearFrom used) (sym same) (segment_clear old used row)) (omega (arith, fits, ready_within new))
      ∙ ap (λ xs. words_of xs ++ replicate more 0) (ap (take (8 * used)) same ∙ ready_front old (8 * used) row.0)

  -- a segment of zeros
  pub fresh_row : (s : S) → g.content s ≡ replicate (8 * (length (g.content s) / 8)) 0 → length (g.content s) / 8 ≤ max_segment_words → IsRow 0 (g.ready s) (length (g.content s))
  fresh_row s fresh small =
      let long = ap length fresh ∙ length-replicate (8 * (length (g.content s) / 8)) 0 in
      (omega arith, ready_within s, omega (arith, small, long), ready_clear s 0 (omega arith) (fresh_clear (g.content s) (length (g.content s) / 8) fresh))

  pub empty_row : (s : S) → g.content s ≡ [] → IsRow 0 (g.ready s) (length (g.content s))
  empty_row s none = let long : length (g.content s) ≡ 0 = ap length none in fresh_row s (none ∙ rw long refl) (omega (arith, long))

pub ruleset taking = (more_row, more_words)

pub ruleset fresh_rows = (fresh_row, empty_row)

-- there is at most one proof that a row is clear
row_once : (used : ℕ) (bytes : List ℕ) (long : ℕ) (x y : IsRow used bytes long) → x ≡ y
row_once used bytes long x y = λ i. (le_prop x.0 y.0 i, le_prop x.1 y.1 i, le_prop x.2 y.2 i, is_set ℕ_set (drop (8 * used) bytes) (replicate (length bytes - 8 * used) 0) x.3 y.3 i)

module _ {S : Type 0} (g : Ghosts S) where
  pub same_rows : (s : S) (used bound : ℕ) (x y : IsRow used (g.ready s) (length (g.content s))) → (let R : Type 0 = Row S g in ◌≡◌ {A = R} (record { segment = s; used = used; bound = bound; clear = x }) (record { segment = s; used = used; bound = bound; clear = y }))
  same_rows s used bound x y = λ i. record { segment = s; used = used; bound = bound; clear = row_once used (g.ready s) (length (g.content s)) x y i }
