-- Words of rows copied row after row, and what new rows hold then.
use Rattle.std.proofs.Common.{[], ap, arith, inl, inr, length, refl, subst, sym, ℕ, ◌*◌, ◌+◌, ◌<◌, ◌∙◌, ◌∷◌, ◌≡◌, ◌≤◌}
use Rattle.std.proofs.lemmas.Bool.{cases_eq}
use Rattle.capnp_format.specs.Segments.{Segments, segment, word_at}
use Rattle.capnp_format.specs.Means.{IsTag}
use Rattle.capnp_format.specs.Forest.{times}
use Rattle.capnp_words.specs.declared.wire_pointer.StructSize.{StructSize}
use Rattle.capnp_allocation.specs.Made.{IsGrown}
use Rattle.capnp_allocation.specs.Zeroed.{row}
use Rattle.capnp_allocation.proofs.Below.{split_row}
use Rattle.capnp_allocation.proofs.BelowElements.{element_within, next_place}
use Rattle.capnp_allocation.proofs.Zeros.{in_row, of_row}
use Rattle.capnp_in_place.specs.declared.remaking.ElementRows.{ElementRows}
use Rattle.capnp_in_place.specs.declared.widening.Allocation.{Allocation}
use Rattle.capnp_in_place.specs.Housed.{AreWordsCopied, object_start}
use Rattle.capnp_in_place.specs.RowsRemade.{CopiesData, IsTagWritten, RowsInside}
use Rattle.capnp_arena_traits.specs.declared.arena.WordPlace.{WordPlace}
use Rattle.capnp_in_place.proofs.WiderObjects.Statements.{CopiedRows}

pub no_words_copied : (S : Segments) (s p w v r z n : ℕ) → CopiedRows S S s p w v r z 0 n
no_words_copied S s p w v r z n = record { segments = refl; words = λ x. refl; here = λ i j l m. absurd (omega arith); behind = λ i j l m o. refl; kept = λ x y e. refl }

pub no_rows_copied : (S : Segments) (s p w v r z d : ℕ) → CopiedRows S S s p w v r z d 0
no_rows_copied S s p w v r z d = record { segments = refl; words = λ x. refl; here = λ i j l m. absurd (omega arith); behind = λ i j l m o. refl; kept = λ x y e. refl }

-- Words outside of the n words from a place on.
pub beside_row : (v r n x y : ℕ) → (x ≡ v → r ≤ y → y < r + n → ⊥) → times (row v r n ∷ []) x y ≡ 0
beside_row v r n x y h = elim (cases_eq (times (row v r n ∷ []) x y) 0) [
  | inl none ↦ none
  | inr some ↦ (let i = in_row v r n x y (omega arith) in absurd (h i.0 i.1 i.2))
]

-- One more row, if the old rows come before the new ones.
pub rows_copied_next : (S M R : Segments) (s p w v r z d i n : ℕ) → CopiedRows S M s p w v r z d i → (s ≡ v → p + n * w ≤ r) → d ≤ w → d ≤ z → i < n → AreWordsCopied M R (record { segment = s; at = (p + i * w) }) (record { segment = v; at = (r + i * z) }) d →
    CopiedRows S R s p w v r z d (i + 1)
rows_copied_next S M R s p w v r z d i n b apart narrow narrower l c =
    record {
      segments = c.segments ∙ b.segments;
      words = λ x. c.words x ∙ b.words x;
      here = λ j k m o. elim (cases_eq j i) [
        | inl same ↦ rw same (c.here k o ∙ b.kept s (p + i * w + k) (before k o))
        | inr other ↦ c.kept v (r + j * z + k) (earlier j k (omega (arith, other)) (omega arith)) ∙ b.here j k (omega (arith, other)) o
      ];
      behind = λ j k m o q. elim (cases_eq j i) [
        | inl same ↦ rw same (c.kept v (r + i * z + k) (beside_row v (r + i * z) d v (r + i * z + k) (λ e f g. omega arith)) ∙ b.kept v (r + i * z + k) (beside_row v r (i * z) v (r + i * z + k) (λ e f g. omega arith)))
        | inr other ↦ c.kept v (r + j * z + k) (earlier j k (omega (arith, other)) q) ∙ b.behind j k (omega (arith, other)) o q
      ];
      kept = λ x y e. c.kept x y (beside_row v (r + i * z) d x y (λ f g h. within x y e f (omega arith) (omega (arith, next_place z i))))
          ∙ b.kept x y (beside_row v r (i * z) x y (λ f g h. within x y e f g (omega (arith, next_place z i))));
    }
  where
    before : (k : ℕ) → k < d → times (row v r (i * z) ∷ []) s (p + i * w + k) ≡ 0
    before k o = beside_row v r (i * z) s (p + i * w + k) (λ e f g. omega (arith, apart e, element_within w n i l))

    earlier : (j k : ℕ) → j < i → k < z → times (row v (r + i * z) d ∷ []) v (r + j * z + k) ≡ 0
    earlier j k m o = beside_row v (r + i * z) d v (r + j * z + k) (λ e f g. omega (arith, element_within z i j m))

    within : (x y : ℕ) → times (row v r ((i + 1) * z) ∷ []) x y ≡ 0 → x ≡ v → r ≤ y → y < r + (i + 1) * z → ⊥
    within x y e f g h = omega (arith, subst (λ u. times (row v r ((i + 1) * z) ∷ []) u y ≡ 0) f e, of_row v r ((i + 1) * z) y g h)

-- Where the first of some new rows starts, after a tag; and how many words they take.
abbrev pub first_row : Allocation → ℕ → WordPlace
first_row h tag = record { segment = h.segment; at = h.at + h.pads + tag }

abbrev pub rows_words : ℕ → ℕ → StructSize → ℕ
rows_words tag n size = tag + n * (size.data_words + size.pointers)

-- Words are allocated for n rows after a tag, and written; the new pointers are null.
pub record RowsFilled (S T D : Segments) (tag n : ℕ) (size : StructSize) (h : Allocation) : Type 0 where
  pub grown : IsGrown S T h.segment h.at (h.pads + rows_words tag n size)
  pub segments : length D ≡ length T
  pub words : (x : ℕ) → length (segment D x) ≡ length (segment T x)
  pub written : (x y : ℕ) → times (row h.segment (h.at + h.pads) (rows_words tag n size) ∷ []) x y ≡ 0 → word_at D x y ≡ word_at T x y
  pub empty : (i j : ℕ) → i < n → size.data_words ≤ j → j < size.data_words + size.pointers → word_at D h.segment (h.at + h.pads + tag + i * (size.data_words + size.pointers) + j) ≡ 0

-- New rows hold the data of old ones, and zeros after it.
pub record RowsCopied (S D : Segments) (old : ElementRows) (tag : ℕ) (size : StructSize) (h : Allocation) : Type 0 where
  pub data_there : (i j : ℕ) → i < old.count → j < old.size.data_words →
      word_at D h.segment (h.at + h.pads + tag + i * (size.data_words + size.pointers) + j) ≡ word_at S old.segment (old.at + old.tag + i * (old.size.data_words + old.size.pointers) + j)
  pub zero : (i j : ℕ) → i < old.count → old.size.data_words ≤ j → j < size.data_words + size.pointers → word_at D h.segment (h.at + h.pads + tag + i * (size.data_words + size.pointers) + j) ≡ 0

-- What is written into allocated words, from T to B, comes before the new rows: nothing, or a tag.
pub record HeadWritten (T B : Segments) (tag : ℕ) (h : Allocation) : Type 0 where
  pub segments : length B ≡ length T
  pub words : (x : ℕ) → length (segment B x) ≡ length (segment T x)
  pub kept : (x y : ℕ) → times (row h.segment (h.at + h.pads) tag ∷ []) x y ≡ 0 → word_at B x y ≡ word_at T x y

pub no_head : (T : Segments) (h : Allocation) → HeadWritten T T 0 h
no_head T h = record { segments = refl; words = λ x. refl; kept = λ x y e. refl }

pub tag_head : (T B : Segments) (n : ℕ) (size : StructSize) (h : Allocation) → IsTagWritten T B (object_start h) n size → HeadWritten T B 1 h
tag_head T B n size h t = record { segments = t.segments; words = t.words; kept = t.kept }

module _ (S T B D : Segments) (old : ElementRows) (tag : ℕ) (size : StructSize) (h : Allocation) (inside : RowsInside S old) (grown : IsGrown S T h.segment h.at (h.pads + rows_words tag old.count size)) (head : HeadWritten T B tag h)
    (c : CopiesData B D old (first_row h tag) size) where
  -- The rows are copied after what comes before them.
  pub rows_copied : RowsCopied S D old tag size h
  rows_copied =
      let v = h.segment in
      let p = old.at + old.tag in
      let w = old.size.data_words + old.size.pointers in
      let z = size.data_words + size.pointers in
      record {
        data_there = λ i j l m. (let here : p + i * w + j < length (segment S old.segment) = omega (arith, inside, element_within w old.count i l) in
            c.here i j l m
            ∙ head.kept old.segment (p + i * w + j) (beside_row v (h.at + h.pads) tag old.segment (p + i * w + j) (λ e f g. omega (arith, here, grown.behind, f, ap (λ u. length (segment S u)) e)))
            ∙ grown.kept old.segment (p + i * w + j) here);
        zero = λ i j l m o. c.behind i j l m o ∙ head.kept v (h.at + h.pads + tag + i * z + j) (beside_row v (h.at + h.pads) tag v (h.at + h.pads + tag + i * z + j) (λ e f g. omega arith))
            ∙ grown.zero v (h.at + h.pads + tag + i * z + j) (omega (arith, grown.behind));
      }

  pub rows_filled : old.size.data_words ≤ size.data_words → RowsFilled S T D tag old.count size h
  rows_filled narrow =
      let beside = λ (x y : ℕ). split_row h.segment (h.at + h.pads) tag (old.count * (size.data_words + size.pointers)) x y in
      record {
        grown = grown;
        segments = c.segments ∙ head.segments;
        words = λ x. c.words x ∙ head.words x;
        written = λ x y e. c.kept x y (omega (arith, e, beside x y)) ∙ head.kept x y (omega (arith, e, beside x y));
        empty = λ i j l m o. rows_copied.zero i j l (omega (arith, narrow)) o;
      }

pub tag_copied : (T B D : Segments) (old : ElementRows) (size : StructSize) (h : Allocation) → IsTagWritten T B (object_start h) old.count size → CopiesData B D old (first_row h 1) size →
    IsTag (word_at D h.segment (h.at + h.pads)) old.count size.data_words size.pointers
tag_copied T B D old size h t c =
    let at = h.at + h.pads in
    subst (λ x. IsTag x old.count size.data_words size.pointers) (sym (c.kept h.segment at (beside_row h.segment (at + 1) (old.count * (size.data_words + size.pointers)) h.segment at (λ e f g. omega arith)))) t.tag
