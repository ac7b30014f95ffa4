-- A list of numbers is made one of structs, by the steps that the calls state.
use Rattle.capnp_arena_traits.specs.Written.{with_word}
use Rattle.capnp_in_place.proofs.WiderObjects.RowListBySteps.{ListSteps, flat_are, flat_rehoused, flat_rows, flat_stored, list_at, list_becomes, list_written}
use Rattle.capnp_in_place.proofs.WiderObjects.ListsWidened.{count-struct_for_each, numbers_widened}
use Rattle.capnp_in_place.proofs.WiderObjects.WhichList.{are_numbers, numbers_as_structs}
use Rattle.capnp_in_place.proofs.WiderObjects.RowsWidened.{AreRows, rows_written}
use Rattle.capnp_in_place.proofs.WiderObjects.RowsCopied.{RowsFilled, beside_row, first_row}
use Rattle.capnp_in_place.proofs.WiderObjects.Statements.{rewriting}
use Rattle.capnp_in_place.proofs.WiderObjects.NewRowsBySteps.{filled_at, filled_past, words_by_each}
use Rattle.capnp_in_place.proofs.WiderObjects.WidenedIsFilledUp.{length-fill_words}
use Rattle.capnp_in_place.specs.Existing.{plain_list}
use Rattle.capnp_in_place.specs.Housed.{object_start}
use Rattle.capnp_in_place.specs.RowsRemade.{AreNumbersCopied, BecomesList, IsList, IsTagWritten, NumbersInside, as_structs, element_moves}
use Rattle.capnp_in_place.specs.Widened.{fill_words, struct_for_each}
use Rattle.capnp_in_place.specs.declared.existing.ExistingList.{ExistingList}
use Rattle.capnp_in_place.specs.declared.remaking.ElementRows.{ElementRows}
use Rattle.capnp_in_place.specs.declared.widening.Allocation.{Allocation}
use Rattle.capnp_format.specs.Fields.{field_in}
use Rattle.capnp_format.specs.Forest.{target, times}
use Rattle.capnp_format.specs.Means.{IsTag, Means}
use Rattle.capnp_format.specs.Numbers.{element_bits, from_digits, words_for}
use Rattle.capnp_format.specs.Segments.{Segments, segment, word_at, words_at}
use Rattle.capnp_format.specs.Tree.{Flat, Tree}
use Rattle.capnp_format.specs.Word.{kind}
use Rattle.capnp_allocation.proofs.Below.{split_row}
use Rattle.capnp_allocation.proofs.BelowElements.{element_within, next_place}
use Rattle.capnp_allocation.proofs.MadeWords.{outside, word_put}
use Rattle.capnp_allocation.proofs.Zeros.{of_row}
use Rattle.capnp_allocation.specs.Made.{IsGrown, structs_words}
use Rattle.capnp_allocation.specs.Stored.{IsStored}
use Rattle.capnp_allocation.specs.Zeroed.{row}
use Rattle.capnp_words.specs.Sizes.{size_number}
use Rattle.capnp_words.specs.declared.wire_pointer.StructSize.{StructSize}
use Rattle.std.proofs.Common.{List, [], ap, ap₂, arith, drop, get_or, get_or-drop, get_or-take, inl, inr, length, refl, subst, suc, sym, zero, ℕ, ◌%◌, ◌*◌, ◌+◌, ◌/◌, ◌<◌, ◌^◌, ◌∙◌, ◌∷◌, ◌≡◌, ◌≤◌}
use Rattle.std.proofs.lemmas.Bool.{cases_eq, cases_lt}
use Rattle.capnp_in_place.proofs.MovedPointers.MovedByRows.{no_moves}
use Rattle.capnp_words.specs.declared.wire_pointer.ElementSize.{ElementSize}
use Rattle.std.proofs.lemmas.Nat.{pow_pos, shr-shr}
use Rattle.capnp_format.specs.Value.{AreBelow}
use Rattle.capnp_format.proofs.Bounds.{digits_below}
use Rattle.capnp_format.proofs.BytesLemmas.{digit_at}
use Rattle.capnp_format.proofs.Digits.{digits-from_digits}
use Rattle.capnp_format.proofs.Lies.{pow_pow}
use Rattle.capnp_in_place.proofs.Fields.DigitReplaced.{mod_same}
use Rattle.capnp_format.proofs.FieldBytes.{bit_at-div, bit_at-mod}
use Rattle.capnp_in_place.specs.declared.moving.PointerRows.{PointerRows}

-- Bits among the lowest k.
low_bits : (y k o w : ℕ) → o + w ≤ k → y % 2 ^ k / 2 ^ o % 2 ^ w ≡ y / 2 ^ o % 2 ^ w
low_bits y k o w l = mod_same (y % 2 ^ k / 2 ^ o) (y / 2 ^ o) w (λ i m. bit_at-div (y % 2 ^ k) o i ∙ bit_at-mod y k (o + i) (omega arith) ∙ sym (bit_at-div y o i))

-- A digit of w bits: bits of the word that holds it.
digit_of_word : (x w i q o : ℕ) → w * i ≡ 64 * q + o → o + w ≤ 64 → x / (2 ^ 64) ^ q % 2 ^ 64 / 2 ^ o % 2 ^ w ≡ x / (2 ^ w) ^ i % 2 ^ w
digit_of_word x w i q o e l =
    low_bits (x / (2 ^ 64) ^ q) 64 o w l
    ∙ ap (λ y. x / y / 2 ^ o % 2 ^ w) (pow_pow 64 q)
    ∙ ap (λ y. y % 2 ^ w) (shr-shr x (64 * q) o)
    ∙ ap (λ y. x / 2 ^ y % 2 ^ w) (sym e)
    ∙ ap (λ y. x / y % 2 ^ w) (sym (pow_pow w i))

-- A number is inside one word.
pub in_one_word : (size i : ℕ) → 2 ≤ size → size ≤ 5 → element_bits size * i % 64 + element_bits size ≤ 64
in_one_word (suc (suc zero)) i l m = omega arith
in_one_word (suc (suc (suc zero))) i l m = omega arith
in_one_word (suc (suc (suc (suc zero)))) i l m = omega arith
in_one_word (suc (suc (suc (suc (suc zero))))) i l m = omega arith
in_one_word (suc (suc (suc (suc (suc (suc size)))))) i l m = absurd (omega arith)
in_one_word zero i l m = absurd (omega arith)
in_one_word (suc zero) i l m = absurd (omega arith)

-- A number is inside the words of its list.
pub in_words : (size i n : ℕ) → 2 ≤ size → size ≤ 5 → i < n → element_bits size * i / 64 < words_for size n
in_words (suc (suc zero)) i n l m h = omega arith
in_words (suc (suc (suc zero))) i n l m h = omega arith
in_words (suc (suc (suc (suc zero)))) i n l m h = omega arith
in_words (suc (suc (suc (suc (suc zero))))) i n l m h = omega arith
in_words (suc (suc (suc (suc (suc (suc size)))))) i n l m h = absurd (omega arith)
in_words zero i n l m h = absurd (omega arith)
in_words (suc zero) i n l m h = absurd (omega arith)

pub number_there : (S : Segments) (id at size : ℕ) (ns : List ℕ) (i : ℕ) → IsStored S id at (Flat size ns) → 2 ≤ size → i < length ns →
    field_in (segment S (target S id at).segment) (64 * (target S id at).start + element_bits size * i) (element_bits size) ≡ get_or ns i 0
number_there S id at size ns i x two l = at_level x.means.0 x.means.1 x.means.2
  where
    at_level : (n c : ℕ) → Means S n id at (Flat size ns) c → field_in (segment S (target S id at).segment) (64 * (target S id at).start + element_bits size * i) (element_bits size) ≡ get_or ns i 0
    at_level n c (a, some, small, o, claim, e, g) =
        let b = target S id at in
        let W = segment S b.segment in
        let w = element_bits size in
        let m = words_for size (length ns) in
        let q = w * i / 64 in
        let r = w * i % 64 in
        let X = from_digits (2 ^ w) ns in
        let there : q < m = in_words size i (length ns) two small l in
        let fits : r + w ≤ 64 = in_one_word size i two small in
        let word : word_at S b.segment (b.start + q) ≡ X / (2 ^ 64) ^ q % 2 ^ 64 =
        sym (get_or-drop b.start W q 0) ∙ sym (get_or-take m (drop b.start W) q 0 there) ∙ ap (λ xs. get_or xs q 0) x.tidy ∙ digit_at (2 ^ 64) m X q there in
        let below : AreBelow (2 ^ w) ns = subst (AreBelow (2 ^ w)) (sym e) (digits_below (2 ^ w) (length ns) (from_digits (2 ^ 64) (words_at S a.segment a.start m)) (pow_pos w)) in
        ap₂ (λ y z. get_or W y 0 / 2 ^ z % 2 ^ w) (let f : (64 * b.start + w * i) / 64 ≡ b.start + q = omega arith in f) (let f : (64 * b.start + w * i) % 64 ≡ r = omega arith in f)
        ∙ ap (λ y. y / 2 ^ r % 2 ^ w) word
        ∙ digit_of_word X w i q r (let f : w * i ≡ 64 * q + r = omega arith in f) fits
        ∙ sym (digit_at (2 ^ w) (length ns) X i l)
        ∙ ap (λ xs. get_or xs i 0) (digits-from_digits (2 ^ w) ns below)

-- The first n numbers of a list.
abbrev pub first_numbers_of : ExistingList → ℕ → ExistingList
first_numbers_of l n = record l { count = n }

pub no_numbers_copied : (S : Segments) (l : ExistingList) (to : PointerRows) → AreNumbersCopied S S (first_numbers_of l 0) to
no_numbers_copied S l to = record { segments = refl; words = λ x. refl; here = λ i less. absurd (omega arith); behind = λ i j m o less. refl; kept = λ x y e. refl }

-- One more number, if the old ones come before the new rows.
pub numbers_copied_next : (S M R : Segments) (l : ExistingList) (to : PointerRows) (i x : ℕ) → AreNumbersCopied S M (first_numbers_of l i) to → (l.segment ≡ to.segment → (64 * l.start + element_bits (size_number l.size) * i) / 64 < to.at) → 0 < to.step →
    to.at + i * to.step < length (segment M to.segment) → R ≡ with_word M to.segment (to.at + i * to.step) x → x ≡ field_in (segment M l.segment) (64 * l.start + element_bits (size_number l.size) * i) (element_bits (size_number l.size)) →
    AreNumbersCopied S R (first_numbers_of l (i + 1)) to
numbers_copied_next S M R l to i x b apart some place e f =
    let s = l.segment in
    let p = l.start in
    let width = element_bits (size_number l.size) in
    let v = to.segment in
    let r = to.at in
    let z = to.step in
    let put = word_put M R v (r + i * z) x place e in
    let q = (64 * p + width * i) / 64 in
    let source : word_at M s q ≡ word_at S s q = b.kept s q (beside_row v r (i * z) s q (λ g h k. omega (arith, apart g))) in
    record {
      segments = put.segments ∙ b.segments;
      words = λ y. put.words y ∙ b.words y;
      here = λ j m. elim (cases_eq j i) [
        | inl same ↦ rw same (put.here ∙ f ∙ ap (λ y. y / 2 ^ ((64 * p + width * i) % 64) % 2 ^ width) source)
        | inr other ↦ put.kept v (r + j * z) (outside v (r + i * z) v (r + j * z) (λ g h. omega (arith, h, element_within z i j (omega (arith, other))))) ∙ b.here j (omega (arith, other))
      ];
      behind = λ j k m o l. elim (cases_eq j i) [
        | inl same ↦ rw same (put.kept v (r + i * z + k) (outside v (r + i * z) v (r + i * z + k) (λ g h. omega (arith, h))) ∙ b.kept v (r + i * z + k) (beside_row v r (i * z) v (r + i * z + k) (λ g h n. omega arith)))
        | inr other ↦ put.kept v (r + j * z + k) (outside v (r + i * z) v (r + j * z + k) (λ g h. omega (arith, h, element_within z i j (omega (arith, other))))) ∙ b.behind j k (omega (arith, other)) o l
      ];
      kept = λ y w h. put.kept y w (outside v (r + i * z) y w (λ g k. within y w h g (omega (arith, k)) (omega (arith, k, next_place z i))))
          ∙ b.kept y w (beside_row v r (i * z) y w (λ g k n. within y w h g k (omega (arith, next_place z i))));
    }
  where
    within : (y w : ℕ) → times (row to.segment to.at ((i + 1) * to.step) ∷ []) y w ≡ 0 → y ≡ to.segment → to.at ≤ w → w < to.at + (i + 1) * to.step → ⊥
    within y w h g k n = omega (arith, subst (λ u. times (row to.segment to.at ((i + 1) * to.step) ∷ []) u w ≡ 0) g h, of_row to.segment to.at ((i + 1) * to.step) w k n)

-- Numbers of a list are copied into new rows, after their tag.
pub record NumbersCopied (S T B D : Segments) (l : ExistingList) (size : StructSize) (h : Allocation) : Type 0 where
  pub grown : IsGrown S T h.segment h.at (h.pads + structs_words l.count size)
  pub tagged : IsTagWritten T B (object_start h) l.count size
  pub copied : AreNumbersCopied B D l (record { segment = h.segment; at = h.at + h.pads + 1; step = size.data_words + size.pointers })
  pub some : 0 < size.data_words

module _ {S T B D : Segments} {l : ExistingList} {size : StructSize} {h : Allocation} (c : NumbersCopied S T B D l size h) where
  pub numbers_zero : (i j : ℕ) → i < l.count → 0 < j → j < size.data_words + size.pointers → word_at D h.segment (h.at + h.pads + 1 + i * (size.data_words + size.pointers) + j) ≡ 0
  numbers_zero i j m o less =
      let v = h.segment in
      let p = h.at + h.pads in
      let q = p + 1 + i * (size.data_words + size.pointers) + j in
      c.copied.behind i j m o less ∙ c.tagged.kept v q (outside v p v q (λ e f. omega (arith, f))) ∙ c.grown.zero v q (omega (arith, c.grown.behind))

  pub numbers_filled : RowsFilled S T D 1 l.count size h
  numbers_filled =
      let beside = λ (x y : ℕ). split_row h.segment (h.at + h.pads) 1 (l.count * (size.data_words + size.pointers)) x y in
      record {
        grown = c.grown;
        segments = c.copied.segments ∙ c.tagged.segments;
        words = λ x. c.copied.words x ∙ c.tagged.words x;
        written = λ x y e. c.copied.kept x y (omega (arith, e, beside x y)) ∙ c.tagged.kept x y (omega (arith, e, beside x y));
        empty = λ i j m o less. numbers_zero i j m (omega (arith, o, c.some)) less;
      }

  pub numbers_tag : IsTag (word_at D h.segment (h.at + h.pads)) l.count size.data_words size.pointers
  numbers_tag =
      let p = h.at + h.pads in
      let beside = beside_row h.segment (p + 1) (l.count * (size.data_words + size.pointers)) h.segment p (λ e f g. omega arith) in
      subst (λ y. IsTag y l.count size.data_words size.pointers) (sym (c.copied.kept h.segment p beside)) c.tagged.tag

number_copied : {S T B D : Segments} {size : StructSize} {h : Allocation} (id at : ℕ) (kind : ElementSize) (ns : List ℕ) (i : ℕ) → IsStored S id at (Flat (size_number kind) ns) → 2 ≤ size_number kind → size_number kind ≤ 5 →
    NumbersCopied S T B D (plain_list (target S id at) kind (length ns)) size h → i < length ns → word_at D h.segment (h.at + h.pads + 1 + i * (size.data_words + size.pointers)) ≡ get_or ns i 0
number_copied {S = S} {h = h} id at kind ns i x two five c less =
    let a = target S id at in
    let w = size_number kind in
    let p = h.at + h.pads in
    let q = (64 * a.start + element_bits w * i) / 64 in
    let inside : q < length (segment S a.segment) = omega (arith, (flat_stored S id at w ns x).fits, in_words w i (length ns) two five less) in
    c.copied.here i less
    ∙ ap (λ y. y / 2 ^ ((64 * a.start + element_bits w * i) % 64) % 2 ^ element_bits w)
    (c.tagged.kept a.segment q (outside h.segment p a.segment q (λ e f. omega (arith, inside, c.grown.behind, f, ap (λ u. length (segment S u)) e))) ∙ c.grown.kept a.segment q inside)
    ∙ number_there S id at w ns i x two less

-- A list of numbers has rows without pointers.
abbrev pub number_rows : ExistingList → ElementRows
number_rows l = record { segment = l.segment; at = l.start; tag = 0; size = record { data_words = 0; pointers = 0 }; count = l.count }

abbrev pub number_words : ExistingList → ℕ
number_words l = words_for (size_number l.size) l.count

pub number_moves : (l : ExistingList) (size : StructSize) (h : Allocation) → [] ≡ element_moves (number_rows l) (first_row h 1) size
number_moves l size h = sym (no_moves l.segment (l.start + 0 + 0) 0 h.segment (h.at + h.pads + 1 + size.data_words) (size.data_words + size.pointers) l.count)

-- What holds of numbers at a place holds of the list that a call has found there.
by_numbers : (S : Segments) (id at : ℕ) (l : ExistingList) (P : Tree → ExistingList → Type 0) → size_number l.size ≤ 5 →
    ((ns : List ℕ) → IsStored S id at (Flat (size_number l.size) ns) → P (Flat (size_number l.size) ns) (plain_list (target S id at) l.size (length ns))) → (t : Tree) → IsList S id at l t → P t l
by_numbers S id at l P five each t i =
    let k = are_numbers S id at t l five i in
    subst (λ u. P u l) (sym k.tree_of) (subst (P (Flat (size_number l.size) k.numbers)) (sym k.list) (each k.numbers (subst (IsStored S id at) k.tree_of i.0)))

pub numbers_are : (S : Segments) (id at : ℕ) (l : ExistingList) (size : StructSize) (t : Tree) → 2 ≤ size_number l.size → size_number l.size ≤ 5 → IsList S id at l t → AreRows S id at t (number_rows l) (number_words l) 1 size (as_structs size t)
numbers_are S id at l size t two five = by_numbers S id at l (λ u o. AreRows S id at u (number_rows o) (number_words o) 1 size (as_structs size u)) five
    (λ ns x. let w = size_number l.size in
    let e = size.data_words in
    let k = size.pointers in
    subst (λ u. AreRows S id at (Flat w ns) (flat_rows S id at ns) (words_for w (length ns)) 1 size u) (sym (numbers_as_structs size w ns two)) (flat_are S id at w (words_for w (length ns)) ns size (struct_for_each e k ns) refl (count-struct_for_each e k ns) x)) t

pub numbers_become : {S T B D P R Z Q : Segments} {id at : ℕ} (l : ExistingList) (size : StructSize) (h : Allocation) (t : Tree) → 2 ≤ size_number l.size → size_number l.size ≤ 5 → IsList S id at l t →
    NumbersCopied S T B D l size h → ListSteps S T D P R Z Q id at (number_rows l) (number_words l) size h → BecomesList (rewriting id at S Q) (list_at h size l.count) t (as_structs size t)
numbers_become {S = S} {T = T} {B = B} {D = D} {P = P} {R = R} {Z = Z} {Q = Q} {id = id} {at = at} l size h t two five i copied steps =
    by_numbers S id at l (λ u o. NumbersCopied S T B D o size h → ListSteps S T D P R Z Q id at (number_rows o) (number_words o) size h → BecomesList (rewriting id at S Q) (list_at h size o.count) u (as_structs size u)) five
    (λ ns x c s. let w = size_number l.size in
    let e = size.data_words in
    let k = size.pointers in
    let n = length ns in
    let z = e + k in
    let first = h.at + h.pads + 1 in
    let a = target S id at in
    let fs = struct_for_each e k ns in
    let some : 0 < e = c.some in
    let kind = l.size in
    let r = rows_written (flat_are S id at w (words_for w n) ns size fs refl (count-struct_for_each e k ns) x) s.steps in
    let M = r.last in
    let b = s.steps.settled.object in
    let number = λ (j : ℕ). fill_words e (get_or ns j 0 ∷ []) in
    subst (λ u. BecomesList (rewriting id at S Q) (list_at h size n) (Flat w ns) u) (sym (numbers_as_structs size w ns two))
    (list_becomes s (Flat w ns) fs r (count-struct_for_each e k ns) (numbers_widened S M Q id at w ns e k b r.fresh some x (flat_rehoused ns r) (record {
      words = λ j m. words_by_each M b.segment (b.start + 1 + j * z) (number j) (omega (arith, r.rehoused.claim, element_within z n j m, length-fill_words e (get_or ns j 0 ∷ []), some))
          (λ y o. r.word j y m (omega (arith, o, length-fill_words e (get_or ns j 0 ∷ []), some)) (inl (omega (arith, o, length-fill_words e (get_or ns j 0 ∷ []), some)))
          ∙ elim (cases_lt y 1) [
            | inl one ↦ (let none : y ≡ 0 = omega arith in rw none (ap (word_at D h.segment) (let f : first + j * z + 0 ≡ first + j * z = omega arith in f) ∙ number_copied id at kind ns j x two five c m ∙ sym (filled_at e 0 (get_or ns j 0 ∷ []) (omega arith))))
            | inr more ↦ numbers_zero c j y m (omega arith) (omega (arith, o, length-fill_words e (get_or ns j 0 ∷ []), some)) ∙ sym (filled_past e y (get_or ns j 0 ∷ []) (omega arith))
          ]);
      nulls_behind = λ j y m o. ap (word_at M b.segment) (let f : b.start + 1 + j * z + e + y ≡ b.start + 1 + j * z + (e + y) = omega arith in f)
          ∙ r.word j (e + y) m (omega (arith, o)) (inr (omega arith)) ∙ numbers_zero c j (e + y) m (omega (arith, some)) (omega (arith, o));
    }) (list_written s r)))) t i copied steps

-- The numbers of a stored list are inside their segment.
pub numbers_inside : (S : Segments) (id at : ℕ) (t : Tree) (l : ExistingList) → size_number l.size ≤ 5 → IsList S id at l t → NumbersInside S l
numbers_inside S id at t l five i =
    let k = are_numbers S id at t l five i in
    let w = size_number l.size in
    subst (λ (o : ExistingList). o.start + words_for w o.count ≤ length (segment S o.segment)) (sym k.list) (flat_stored S id at w k.numbers (subst (IsStored S id at) k.tree_of i.0)).fits
