-- Rows that are made wider, step by step: the words that are written there, and the pointers.
use Rattle.std.proofs.Common.{List, [], ap, append-nil, ap₂, arith, drop, get_or, get_or-drop, get_or-take, inl, inr, length, length-drop, length-take, refl, subst, suc, sym, zero, ℕ, ◌*◌, ◌++◌, ◌+◌, ◌-◌, ◌<◌, ◌∙◌, ◌∷◌, ◌≡◌, ◌≤◌, ◌⊎◌}
use Rattle.std.proofs.lemmas.Bool.{cases_eq, cases_lt}
use Rattle.std.proofs.lemmas.List.{get_or-append_right, get_or_append_left, get_or_default, length-replicate, same_lists}
use Rattle.capnp_format.specs.Segments.{HasWords, Segments, Target, segment, word_at}
use Rattle.capnp_format.specs.Means.{Leads}
use Rattle.capnp_format.specs.Forest.{Interval, pads_of, times}
use Rattle.capnp_words.specs.declared.wire_pointer.StructSize.{StructSize}
use Rattle.capnp_allocation.specs.Made.{words_of_zero}
use Rattle.capnp_allocation.specs.Zeroed.{row}
use Rattle.capnp_allocation.proofs.BelowElements.{element_within}
use Rattle.capnp_allocation.proofs.MadeWords.{once_row}
use Rattle.capnp_allocation.proofs.Zeros.{in_row, of_row}
use Rattle.capnp_in_place.specs.declared.remaking.ElementRows.{ElementRows}
use Rattle.capnp_in_place.specs.declared.widening.Allocation.{Allocation}
use Rattle.capnp_in_place.specs.Moved.{IsMoved, fresh_pads, new_places}
use Rattle.capnp_in_place.specs.RowsRemade.{element_moves}
use Rattle.capnp_in_place.proofs.MovedPointers.MovedInTurn.{new_places-append, row_new_places, same_new, same_old}
use Rattle.capnp_in_place.proofs.WiderObjects.RemadeBySteps.{IsBegun, IsRemade, all_moved, before_last, is_rehoused, leads_last, moves_same, object_word}
use Rattle.capnp_in_place.proofs.MovedPointers.MovedByRows.{rows_moved, rows_new_pads, rows_new_places, rows_old_pads}
use Rattle.capnp_in_place.proofs.WiderObjects.RowsCopied.{RowsFilled, beside_row, first_row, rows_words}
use Rattle.capnp_in_place.proofs.WiderObjects.RemadeElsewhere.{IsRehoused, new_pads, old_pads, pads_from, pads_in_rows}
use Rattle.capnp_in_place.proofs.WiderObjects.Statements.{HaveValuesInside, row_moves, rows_moves}
use Rattle.capnp_in_place.specs.Widened.{fill_words}

pub word_of_words : (S : Segments) (s p i : ℕ) (ws : List ℕ) → HasWords S s p ws → i < length ws → word_at S s (p + i) ≡ get_or ws i 0
word_of_words S s p i ws h l =
    let W = segment S s in
    sym (get_or-drop p W i 0) ∙ sym (get_or-take (length ws) (drop p W) i 0 l) ∙ ap (λ xs. get_or xs i 0) h

pub words_by_each : (S : Segments) (s p : ℕ) (vs : List ℕ) → p + length vs ≤ length (segment S s) → ((i : ℕ) → i < length vs → word_at S s (p + i) ≡ get_or vs i 0) → HasWords S s p vs
words_by_each S s p vs fits h =
    let W = segment S s in
    let n = length vs in
    same_lists _ _ (omega (arith, length-take n (drop p W), length-drop p W))
    (λ k d l. let small : k < n = omega (arith, length-take n (drop p W), length-drop p W) in
    get_or-take n (drop p W) k d small ∙ get_or-drop p W k d ∙ get_or_default W (p + k) d 0 (omega arith) ∙ h k small ∙ get_or_default vs k 0 d (omega arith))

pub zeros_at : (k i : ℕ) → get_or (words_of_zero k) i 0 ≡ 0
zeros_at zero i = refl
zeros_at (suc k) zero = refl
zeros_at (suc k) (suc i) = zeros_at k i

pub filled_at : (d i : ℕ) (ws : List ℕ) → i < length ws → get_or (fill_words d ws) i 0 ≡ get_or ws i 0
filled_at d i ws l = get_or_append_left ws (words_of_zero (d - length ws)) 0 i l

pub filled_past : (d i : ℕ) (ws : List ℕ) → length ws ≤ i → get_or (fill_words d ws) i 0 ≡ 0
filled_past d i ws l = get_or-append_right ws (words_of_zero (d - length ws)) (length ws) i 0 refl l ∙ zeros_at (d - length ws) (i - length ws)

-- Different rows of one width share no word.
pub same_row : (w i j a b : ℕ) → a < w → b < w → i * w + a ≡ j * w + b → (i ≡ j) × (a ≡ b)
same_row w i j a b l m e = elim (cases_lt i j) [
  | inl less ↦ absurd (omega (arith, element_within w j i less))
  | inr more ↦ elim (cases_lt j i) [
    | inl less ↦ absurd (omega (arith, element_within w i j less))
    | inr other ↦ (let same : i ≡ j = omega arith in (same, omega (arith, ap (λ k. k * w) same)))
  ]
]

-- Where the new pointers of rows are.
pub rows_place : (s p w v r z k n x y : ℕ) → 0 < times (new_places (rows_moves s p w v r z k n)) x y → (i : ℕ) × (j : ℕ) × (i < n) × (j < k) × (x ≡ v) × (y ≡ r + i * z + j)
rows_place s p w v r z k zero x y l = absurd (omega arith)
rows_place s p w v r z k (suc n) x y l =
    let split = new_places-append (row_moves s p v r k) (rows_moves s (p + w) w v (r + z) z k n) x y in
    elim (cases_eq (times (new_places (row_moves s p v r k)) x y) 0) [
      | inr some ↦ (
          let h = in_row v r k x y (omega (arith, some, row_new_places s p v r k x y)) in
          (0, y - r, omega arith, omega (arith, h.1, h.2), h.0, omega (arith, h.1))
          )
      | inl none ↦ (
          let (i, j, li, lj, ex, ey) = rows_place s (p + w) w v (r + z) z k n x y (omega (arith, none, split)) in
          (suc i, j, omega (arith, li), lj, ex, omega (arith, ey))
          )
    ]

-- No pointer is written at the other words of a row.
pub beside_rows : (s p w v r z d k n i j : ℕ) → d + k ≤ z → i < n → j < z → (j < d) ⊎ (d + k ≤ j) → times (new_places (rows_moves s p w v (r + d) z k n)) v (r + i * z + j) ≡ 0
beside_rows s p w v r z d k n i j fits li lj o = elim (cases_eq (times (new_places (rows_moves s p w v (r + d) z k n)) v (r + i * z + j)) 0) [
  | inl none ↦ none
  | inr some ↦ (
      let (a, b, la, lb, ex, ey) = rows_place s p w v (r + d) z k n v (r + i * z + j) (omega arith) in
      let same = same_row z i a j (d + b) lj (omega (arith, lb)) (omega (arith, ey)) in
      elim o [ inl l ↦ absurd (omega (arith, same.1)) | inr l ↦ absurd (omega (arith, same.1, lb)) ]
      )
]

-- Pointers can be moved into rows that are filled.
pub rows_begun : {S T D : Segments} (old : ElementRows) {tag : ℕ} {size : StructSize} {h : Allocation} → HaveValuesInside S (element_moves old (first_row h tag) size) → old.size.pointers ≤ size.pointers →
    RowsFilled S T D tag old.count size h → IsBegun S T D h.segment h.at h.pads (rows_words tag old.count size) (element_moves old (first_row h tag) size)
rows_begun {S = S} {D = D} old {tag = tag} {size = size} {h = h} stand narrow f =
    let s = old.segment in
    let p = old.at + old.tag + old.size.data_words in
    let w = old.size.data_words + old.size.pointers in
    let k = old.size.pointers in
    let n = old.count in
    let v = h.segment in
    let at = h.at + h.pads in
    let wd = size.data_words in
    let z = wd + size.pointers in
    let to = at + tag + wd in
    let g = f.grown in
    record {
      grown = g;
      segments = f.segments;
      words = f.words;
      written = f.written;
      can = record {
        grows = record { segments = omega (arith, g.grows.segments, f.segments); words = λ y. omega (arith, g.grows.words y, f.words y) };
        kept = λ y x l. f.written y x (beside_row v at (tag + n * z) y x (λ e i m. omega (arith, l, i, g.behind, ap (λ u. length (segment S u)) e))) ∙ g.kept y x l;
        stand = stand;
        behind = λ y x l.
            (let (i, j, li, lj, ey, ex) = rows_place s p w v to z k n y x l in
            let inner = element_within z n i li in
            let new : length (segment S v) ≤ x = omega (arith, ex, g.behind) in
            let inside : x < length (segment D v) = omega (arith, ex, lj, narrow, inner, g.room, f.words v) in
            let none : word_at D v x ≡ 0 = ap (word_at D v) (let o : x ≡ at + tag + i * z + (wd + j) = omega (arith, ex) in o) ∙ f.empty i (wd + j) li (omega arith) (omega (arith, lj, narrow)) in
            subst (λ u. (length (segment S u) ≤ x) × (x < length (segment D u)) × (word_at D u x ≡ 0)) (sym ey) (new, inside, none));
        once = λ y x. omega (arith, rows_new_places s p w v to z k n y x (omega (arith, narrow)), once_row v to (n * z) y x);
      };
      within = λ y x l.
          (let (i, j, li, lj, ey, ex) = rows_place s p w v to z k n y x l in
          subst (λ u. 0 < times (row v at (tag + n * z) ∷ []) u x) (sym ey) (omega (arith, of_row v at (tag + n * z) x (omega (arith, ex)) (omega (arith, ex, lj, narrow, element_within z n i li)))));
    }

-- What is in the rows in the end, in the message before its pointer is overwritten.
pub record RowsRewritten (S D Q : Segments) (u q : ℕ) (old : ElementRows) (tag : ℕ) (size : StructSize) (h : Allocation) (words : ℕ) (a b : Target) : Type 0 where
  pub last : Segments
  pub fresh : List Interval
  pub rehoused : IsRehoused S last Q u q a words b (rows_words tag old.count size)
      (pads_in_rows last old.segment (old.at + old.tag + old.size.data_words) (old.size.data_words + old.size.pointers) old.size.pointers old.count)
      (pads_in_rows last b.segment (b.start + tag + size.data_words) (size.data_words + size.pointers) old.size.pointers old.count) fresh
  pub word : (i j : ℕ) → i < old.count → j < size.data_words + size.pointers → (j < size.data_words) ⊎ (size.data_words + old.size.pointers ≤ j) →
      word_at last b.segment (b.start + tag + i * (size.data_words + size.pointers) + j) ≡ word_at D h.segment (h.at + h.pads + tag + i * (size.data_words + size.pointers) + j)
  pub tag_there : 0 < tag → word_at last b.segment b.start ≡ word_at D h.segment (h.at + h.pads)
  pub moved : (i j : ℕ) → i < old.count → j < old.size.pointers →
      IsMoved last old.segment (old.at + old.tag + old.size.data_words + i * (old.size.data_words + old.size.pointers) + j) b.segment (b.start + tag + i * (size.data_words + size.pointers) + size.data_words + j)
  pub leads_to : Leads Q u q b

pub rows_rewritten : {S T D P R Q : Segments} {u q : ℕ} {a b : Target} {words : ℕ} (old : ElementRows) (tag : ℕ) (size : StructSize) (h : Allocation) → old.size.pointers ≤ size.pointers →
    IsRemade S T D P R Q u q a words b h.segment h.at h.pads (rows_words tag old.count size) (element_moves old (first_row h tag) size) → RowsRewritten S D Q u q old tag size h words a b
rows_rewritten {S = S} {T = T} {D = D} {P = P} {R = R} {Q = Q} {u = u} {q = q} {a = a} {b = b} {words = words} old tag size h narrow m =
    let s = old.segment in
    let p = old.at + old.tag + old.size.data_words in
    let w = old.size.data_words + old.size.pointers in
    let k = old.size.pointers in
    let n = old.count in
    let v = h.segment in
    let at = h.at + h.pads in
    let wd = size.data_words in
    let z = wd + size.pointers in
    let wide = tag + n * z in
    let to = at + tag + wd in
    let ms = rows_moves s p w v to z k n in
    let M = before_last S T D P R Q u q a words b v h.at h.pads wide ms m in
    let same = moves_same S T D P R Q u q a words b v h.at h.pads wide ms m in
    let fresh = row v h.at (h.pads + wide) ∷ fresh_pads P ms in
    let start : to ≡ b.start + tag + wd = omega (arith, m.start_of) in
    let before : old_pads P ms ≡ pads_in_rows M s p w k n = sym (same_old P M ms same) ∙ rows_old_pads M s p w v to z k n in
    let after : new_pads P ms ≡ pads_in_rows M b.segment (b.start + tag + wd) z k n =
    sym (same_new P M ms same) ∙ rows_new_pads M s p w v to z k n ∙ ap₂ (λ y x. pads_in_rows M y x z k n) (sym m.segment_of) start in
    let last = object_word S T D P R Q u q a words b v h.at h.pads wide ms m in
    let moved = all_moved S T D P R Q u q a words b v h.at h.pads wide ms m in
    record {
      last = M;
      fresh = fresh;
      rehoused = subst (λ is. IsRehoused S M Q u q a words b wide is (pads_in_rows M b.segment (b.start + tag + wd) z k n) fresh) before
          (subst (λ is. IsRehoused S M Q u q a words b wide (old_pads P ms) is fresh) after (is_rehoused S T D P R Q u q a words b v h.at h.pads wide ms m));
      word = λ i j l o side. ap₂ (λ y x. word_at M y x) m.segment_of (let e : b.start + tag + i * z + j ≡ at + tag + i * z + j = omega (arith, m.start_of) in e)
          ∙ last (at + tag + i * z + j) (omega arith) (omega (arith, o, element_within z n i l)) (beside_rows s p w v (at + tag) z wd k n i j (omega (arith, narrow)) l o side);
      tag_there = λ some. ap₂ (λ y x. word_at M y x) m.segment_of m.start_of ∙ last at (omega arith) (omega (arith, some)) (no_tag some);
      moved = λ i j l o. subst (λ y. IsMoved M s (p + i * w + j) y (b.start + tag + i * z + wd + j)) (sym m.segment_of)
          (subst (λ y. IsMoved M s (p + i * w + j) v y) (let e : to + i * z + j ≡ b.start + tag + i * z + wd + j = omega (arith, m.start_of) in e) (rows_moved M s p w v to z k n i j moved l o));
      leads_to = leads_last S T D P R Q u q a words b v h.at h.pads wide ms m;
    }
  where
    no_tag : 0 < tag → times (new_places (element_moves old (first_row h tag) size)) h.segment (h.at + h.pads) ≡ 0
    no_tag some =
        let places = rows_place old.segment (old.at + old.tag + old.size.data_words) (old.size.data_words + old.size.pointers) h.segment (h.at + h.pads + tag + size.data_words) (size.data_words + size.pointers) old.size.pointers old.count h.segment (h.at + h.pads) in
        elim (cases_eq (times (new_places (element_moves old (first_row h tag) size)) h.segment (h.at + h.pads)) 0) [
          | inl none ↦ none
          | inr held ↦ (let (i, j, li, lj, ex, ey) = places (omega arith) in absurd (omega (arith, some, ey)))
        ]

-- Zero words.
pub zeros_there : (M : Segments) (s p d : ℕ) → p + d ≤ length (segment M s) → ((j : ℕ) → j < d → word_at M s (p + j) ≡ 0) → HasWords M s p (words_of_zero d)
zeros_there M s p d fits h =
    let long : length (words_of_zero d) ≡ d = length-replicate {A = ℕ} d 0 in
    words_by_each M s p (words_of_zero d) (omega (arith, fits, long)) (λ j l. h j (omega (arith, l, long)) ∙ sym (zeros_at d j))

-- The pads of n pointers, one in each row of one word; and of no pointers.
pub pads_in_words : (M : Segments) (s p n : ℕ) → pads_in_rows M s p 1 1 n ≡ pads_from M s p n
pads_in_words M s p zero = refl
pads_in_words M s p (suc n) = ap₂ (λ is js. is ++ js) (append-nil (pads_of (word_at M s p))) (pads_in_words M s (p + 1) n)

pub no_pads : (M : Segments) (s p w n : ℕ) → pads_in_rows M s p w 0 n ≡ []
no_pads M s p w zero = refl
no_pads M s p w (suc n) = no_pads M s (p + w) w n

-- Consecutive old pointers, which go into rows.
pub stand_in_rows : (B : Segments) (s p v r x y z n : ℕ) → HaveValuesInside B (row_moves s p v r n) → HaveValuesInside B (rows_moves s p 1 x y z 1 n)
stand_in_rows B s p v r x y z zero h = tt
stand_in_rows B s p v r x y z (suc n) h = (h.0, stand_in_rows B s (p + 1) v (r + 1) x (y + z) z n h.1)

-- No pointers.
pub none_stand : (B : Segments) (s p w x y z n : ℕ) → HaveValuesInside B (rows_moves s p w x y z 0 n)
none_stand B s p w x y z zero = tt
none_stand B s p w x y z (suc n) = none_stand B s (p + w) w x (y + z) z n
