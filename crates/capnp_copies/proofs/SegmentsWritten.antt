-- Writes to one segment, one after another.
use Rattle.std.proofs.Common.{◌≡◌, ℕ, zero, suc, ◌+◌, ◌-◌, ◌<◌, ◌≤◌, List, [], ◌∷◌, ◌++◌, length, take, drop, replicate, refl, sym, ap, ap₂, ◌∙◌, arith, length-append, take_at, drop_at, length-take, set-set, get_or, get_or-drop}
use Rattle.std.proofs.lemmas.List.{length-replicate, drop-replicate, set-get_or, get_or-append_right}
use Rattle.capnp_format.specs.Segments.{Segments, segment, word_at}
use Rattle.capnp_arena_traits.specs.Written.{with_segment, overwritten, with_words, extended}
use Rattle.capnp_arena_traits.proofs.WordsOver.{segment_here, length-over}
use Rattle.capnp_allocation.proofs.NearMade.{long_as}
use Rattle.capnp_copies.proofs.Copying.{there}

-- Segment s of M exists, and K has the words ws in it.
abbrev pub IsWritten : Segments → Segments → ℕ → List ℕ → Type 0
IsWritten M K s ws = (s < length M) × (K ≡ with_segment M s ws)

-- A segment is written, and then it is changed by f.
pub then_written : {K L : Segments} (M : Segments) (s : ℕ) (ws : List ℕ) (f : List ℕ → List ℕ) → IsWritten M K s ws → L ≡ with_segment K s (f (segment K s)) → L ≡ with_segment M s (f ws)
then_written M s ws f (l, e) h =
    h ∙ ap (λ T. with_segment T s (f (segment T s))) e ∙ ap (λ xs. with_segment (with_segment M s ws) s (f xs)) (segment_here M s ws l) ∙ set-set M s ws (f ws)

-- The words of a segment that was written.
pub words_written : (M K : Segments) (s : ℕ) (ws : List ℕ) → s < length M → K ≡ with_segment M s ws → segment K s ≡ ws
words_written M K s ws l e = ap (λ T. segment T s) e ∙ segment_here M s ws l

pub not_written : (M : Segments) (s : ℕ) → M ≡ with_segment M s (segment M s)
not_written M s = sym (set-get_or M s [])

-- Words written over zeros at the end.
pub over_zeros : (ws us : List ℕ) (n r : ℕ) → n ≡ length us + r → overwritten (ws ++ replicate n 0) (length ws) us ≡ ws ++ (us ++ replicate r 0)
over_zeros ws us n r e =
    ap₂ (λ xs ys. xs ++ (us ++ drop (length us) ys)) (take_at ws (replicate n 0) (length ws) refl) (drop_at ws (replicate n 0) (length ws) refl)
    ∙ ap (λ xs. ws ++ (us ++ xs)) (drop-replicate (length us) n 0 ∙ ap (λ k. replicate k 0) (let f : n - length us ≡ r = omega arith in f))

-- Words are added at the end, and then the first of them are written.
pub begun : {K L : Segments} (M : Segments) (s r : ℕ) (us : List ℕ) → IsWritten M K s (segment M s ++ replicate (length us + r) 0) → L ≡ with_words K s (length (segment M s)) us → L ≡ extended M s (us ++ replicate r 0)
begun M s r us taken g =
    then_written M s (segment M s ++ replicate (length us + r) 0) (λ ws. overwritten ws (length (segment M s)) us) taken g ∙ ap (with_segment M s) (over_zeros (segment M s) us (length us + r) r refl)

-- Writing in a segment leaves its length unchanged.
pub length-with_words : (S : Segments) (s p : ℕ) (ws : List ℕ) → p + length ws ≤ length (segment S s) → length (segment (with_words S s p ws) s) ≡ length (segment S s)
length-with_words [] s p ws l = refl
length-with_words (t ∷ S) zero p ws l = length-over t p ws l
length-with_words (t ∷ S) (suc s) p ws l = length-with_words S s p ws l

pub length-extended : (S : Segments) (s : ℕ) (ws : List ℕ) → s < length S → length (segment (extended S s ws) s) ≡ length (segment S s) + length ws
length-extended [] s ws l = absurd (omega arith)
length-extended (t ∷ S) zero ws l = length-append t ws
length-extended (t ∷ S) (suc s) ws l = length-extended S s ws (omega arith)

pub ruleset lengths = (long_as, length-with_words, length-extended, there, length-replicate)

-- The words us, at least one, are written over those of segment s from position `at` on.
pub record WrittenOver (M K : Segments) (s at : ℕ) (us : List ℕ) : Type 0 where
  pub some : 0 < length us
  pub inside : at + length us ≤ length (segment M s)
  pub written : K ≡ with_words M s at us

-- The words after those that were overwritten are unchanged.
pub behind_over : {M K : Segments} {s at : ℕ} {us : List ℕ} (i : ℕ) → WrittenOver M K s at us → at + length us ≤ i → word_at K s i ≡ word_at M s i
behind_over {M} {K} {s} {at} {us} i over m =
    let l = over.inside in
    let some = over.some in
    let W = segment M s in
    let F = take at W in
    let lf : length F ≡ at = omega (arith, length-take at W) in
    ap (λ xs. get_or xs i 0) (words_written M K s (overwritten W at us) (there M s at (omega arith)) over.written)
    ∙ get_or-append_right F (us ++ drop (length us) (drop at W)) at i 0 lf (omega arith)
    ∙ get_or-append_right us (drop (length us) (drop at W)) (length us) (i - at) 0 refl (omega arith)
    ∙ get_or-drop (length us) (drop at W) (i - at - length us) 0 ∙ get_or-drop at W (length us + (i - at - length us)) 0
    ∙ ap (λ j. get_or W j 0) (let f : at + (length us + (i - at - length us)) ≡ i = omega arith in f)
