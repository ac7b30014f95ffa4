-- A word of a row, read or overwritten through the bytes that its segment lends.
use Rattle.std.proofs.Common.{◌≡◌, ℕ, zero, suc, ◌+◌, ◌*◌, ◌-◌, ◌/◌, ◌<◌, ◌≤◌, List, [], ◌∷◌, ◌++◌, length, take, drop, get_or, set, replicate, refl, sym, ap, ◌∙◌, subst, arith, length-take, drop-drop, append_assoc}
use Rattle.std.proofs.lemmas.List.{length-append, get_or-take}
use Rattle.std.proofs.lemmas.Slice.{drop-append-drop}
use borrow.Rule.Slice.PartMut.{put_mid}
use Rattle.capnp_format.specs.Bytes.{words_of}
use Rattle.capnp_format.proofs.FieldBytes.{length-put}
use Rattle.capnp_format.proofs.WordsOf.{words, words_of-take}
use Rattle.capnp_words.proofs.WordsPut.{words_of-put_word}
use Rattle.capnp_arena_traits.specs.Allocations.{IsRow}
use Rattle.capnp_arena.specs.Row.{allocated, capacity}
use Rattle.capnp_arena.specs.declared.arena.allocator.Segment.{Ghosts}
use Rattle.capnp_arena.specs.declared.arena.row.Row.{Row}
use Rattle.capnp_arena.proofs.RowLemmas.{length_part}

-- n elements overwritten in the middle of a list leave those after them unchanged
drop-mid : (s n u : ℕ) (bs ys : List ℕ) → length ys ≡ n → s + n ≤ length bs → s + n ≤ u → drop u (put_mid s n bs ys) ≡ drop u bs
drop-mid s n u bs ys m l before =
    ap (drop u) (sym (append_assoc (take s bs) ys (drop (s + n) bs) ∙ ap (λ zs. take s bs ++ (ys ++ zs)) (sym (drop-drop n s bs))))
    ∙ drop-append-drop (s + n) bs (take s bs ++ ys) u before (omega (arith, m, l, length-append (take s bs) ys, length-take s bs))

-- a row's bytes with some of those of its allocated words overwritten
mid_row : (used long s n : ℕ) (bytes ys : List ℕ) → IsRow used bytes long → length ys ≡ n → s + n ≤ 8 * used → IsRow used (put_mid s n bytes ys) long
mid_row used long s n bytes ys row m before =
    let inside : s + n ≤ length bytes = omega (arith, before, row.0) in
    let l = length-put s n bytes ys inside m in (
      omega (arith, row.0, l),
      omega (arith, row.1, l),
      row.2,
      drop-mid s n (8 * used) bytes ys m inside before ∙ row.3 ∙ ap (λ k. replicate (k - 8 * used) 0) (sym l),
    )

take-set : (n i w : ℕ) (xs : List ℕ) → i < n → take n (set xs i w) ≡ set (take n xs) i w
take-set zero i w xs l = absurd (omega (arith, l))
take-set (suc n) i w [] l = refl
take-set (suc n) zero w (x ∷ xs) l = refl
take-set (suc n) (suc i) w (x ∷ xs) l = ap (λ ys. x ∷ ys) (take-set n i w xs (omega (arith, l)))

set_one : (xs : List ℕ) (w : ℕ) → length xs ≡ 1 → set xs 0 w ≡ w ∷ []
set_one [] w l = absurd (omega (arith, l))
set_one (x ∷ []) w l = refl
set_one (x ∷ y ∷ xs) w l = absurd (omega (arith, l))

-- the bytes of one word, with those of another word in their place
word_put : (w : ℕ) (ys part : List ℕ) → length part ≡ 8 → words_of ys ≡ set (words_of part) 0 w → words_of ys ≡ w ∷ []
word_put w ys part l e = e ∙ set_one (words_of part) w (omega (arith, words part, l))

words-mid : (used at w s n : ℕ) (bytes ys : List ℕ) → s ≡ 8 * at → n ≡ 8 → 8 * used ≤ length bytes → at < used → length ys ≡ 8 → words_of ys ≡ w ∷ [] →
    words_of (take (8 * used) (put_mid s n bytes ys)) ≡ set (words_of (take (8 * used) bytes)) at w
words-mid used at w s n bytes ys start eight within below m e = rw (start, eight) (
    words_of-take used (put_mid (8 * at) 8 bytes ys) (omega (arith, within, length-put (8 * at) 8 bytes ys (omega (arith, within, below)) m))
    ∙ ap (take used) (words_of-put_word at bytes ys (omega (arith, within, below)) m e)
    ∙ take-set used at w (words_of bytes) below
    ∙ ap (λ xs. set xs at w) (sym (words_of-take used bytes within)))

module _ {S : Type 0} (g : Ghosts S) where
  -- as many bytes were written over n bytes of those that are ready
  put_long : (r : Row S g) (s n : ℕ) (bytes ys : List ℕ) → bytes ≡ g.ready r.segment → s + n ≤ 8 * r.used → length ys ≡ length (take n (drop s bytes)) →
      (length ys ≡ n) × (length (put_mid s n bytes ys) ≡ length (g.ready r.segment))
  put_long r s n bytes ys same before m =
      let inside : s + n ≤ length bytes = omega (arith, before, r.clear.0, ap length same) in
      let many : length ys ≡ n = m ∙ length_part bytes s n inside in
      (many, length-put s n bytes ys inside many ∙ ap length same)

  pub put_clear : (r : Row S g) (s n : ℕ) (bytes ys : List ℕ) → bytes ≡ g.ready r.segment → s + n ≤ 8 * r.used → length ys ≡ length (take n (drop s bytes)) →
      (let new = g.with_ready r.segment (put_mid s n bytes ys) in IsRow r.used (g.ready new) (length (g.content new)))
  put_clear r s n bytes ys same before m =
      let new = put_mid s n bytes ys in
      let h = put_long r s n bytes ys same before m in
      subst (λ k. IsRow r.used (g.ready (g.with_ready r.segment new)) k) (sym (g.as_long r.segment new h.1))
      (subst (λ xs. IsRow r.used xs (length (g.content r.segment))) (sym (g.holds r.segment new h.1))
      (mid_row r.used (length (g.content r.segment)) s n bytes ys (subst (λ xs. IsRow r.used xs (length (g.content r.segment))) (sym same) r.clear) h.0 before))

  pub put_capacity : (r : Row S g) (s n : ℕ) (bytes ys : List ℕ) → bytes ≡ g.ready r.segment → s + n ≤ 8 * r.used → length ys ≡ length (take n (drop s bytes)) →
      length (g.content (g.with_ready r.segment (put_mid s n bytes ys))) / 8 ≡ capacity g r
  put_capacity r s n bytes ys same before m =
      ap (λ k. k / 8) (g.as_long r.segment (put_mid s n bytes ys) (put_long r s n bytes ys same before m).1)

  pub put_words : (r : Row S g) (at w s n : ℕ) (bytes ys : List ℕ) → bytes ≡ g.ready r.segment → at < r.used → s ≡ 8 * at → n ≡ 8 → length ys ≡ length (take n (drop s bytes)) → words_of ys ≡ set (words_of (take n (drop s bytes))) 0 w →
      words_of (take (8 * r.used) (g.ready (g.with_ready r.segment (put_mid s n bytes ys)))) ≡ set (words_of (allocated g r)) at w
  put_words r at w s n bytes ys same below start eight m e =
      let h = put_long r s n bytes ys same (omega (arith, below, start, eight)) m in
      let within : 8 * r.used ≤ length bytes = omega (arith, r.clear.0, ap length same) in
      let one : length (take n (drop s bytes)) ≡ 8 = sym m ∙ h.0 ∙ eight in
      ap (λ xs. words_of (take (8 * r.used) xs)) (g.holds r.segment (put_mid s n bytes ys) h.1)
      ∙ words-mid r.used at w s n bytes ys start eight within below (h.0 ∙ eight) (word_put w ys (take n (drop s bytes)) one e)
      ∙ ap (λ xs. set (words_of (take (8 * r.used) xs)) at w) same

  -- a row's allocated words are the first of those that are ready
  pub word_ready : (r : Row S g) (at : ℕ) (bytes : List ℕ) → bytes ≡ g.ready r.segment → at < r.used → get_or (words_of bytes) at 0 ≡ get_or (words_of (allocated g r)) at 0
  word_ready r at bytes same below =
      ap (λ xs. get_or (words_of xs) at 0) same
      ∙ sym (ap (λ ws. get_or ws at 0) (words_of-take r.used (g.ready r.segment) r.clear.0) ∙ get_or-take r.used (words_of (g.ready r.segment)) at 0 below)
