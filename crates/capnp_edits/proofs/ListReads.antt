-- What is read of a list that is copied, by its value.
use Rattle.std.proofs.Common.{◌≡◌, inl, inr, ◌⊎◌, ℕ, zero, suc, pred, ◌+◌, true, false, cond, nat_eq, ◌≤◌, refl, sym, ap, ◌∙◌, subst, arith}
use Rattle.capnp_words.specs.declared.error.ErrorKind.{ErrorKind}
use Rattle.capnp_words.specs.declared.wire_pointer.ElementSize.{ElementSize}
use Rattle.capnp_words.specs.declared.wire_pointer.ElementSize.TheVariants.{Void, Bit, Byte, TwoBytes, FourBytes, EightBytes, Pointer, InlineComposite}
use Rattle.capnp_words.specs.Meter.{Meter}
use Rattle.capnp_words.specs.Sizes.{size_number}
use Rattle.capnp_format.specs.Numbers.{words_for, unpacked}
use Rattle.capnp_format.specs.Tree.{Tree, Null, Capability, Struct, Flat, Pointers, Structs, count, element_count}
use Rattle.capnp_pointers.specs.Outcomes.{Entered, ReadsAll, ReadsElements}
use Rattle.capnp_pointers.specs.Reading.{Reading, word_of, tag_size, words_from}
use Rattle.capnp_pointers.specs.Refusals.{Stopped}
use Rattle.capnp_pointers.specs.Wanted.{Form}
use Rattle.capnp_pointers.specs.declared.object.Purpose.TheVariants.{Value}
use Rattle.capnp_copies.specs.Originals.{Original, numbers_original, structs_original, list_original}
use Rattle.capnp_in_place.specs.Existing.{size_of}
use Rattle.capnp_copies.specs.Changes.{CopyCall}
use Rattle.capnp_edits.specs.declared.edit.copying.Wanted.TheVariants.{List as AList}
use Rattle.capnp_edits.specs.Sources.{OfWanted}
use Rattle.capnp_format.specs.Segments.{Target}
use Rattle.capnp_format.specs.Word.{kind, offset_bits, element_size, list_count}
use Rattle.capnp_pointers.specs.Demands.{IsStructList, tag}
use Rattle.capnp_pointers.specs.Faults.{child_at}
use Rattle.capnp_words.specs.declared.wire_pointer.StructSize.{StructSize}
use Rattle.capnp_pointers.proofs.WholeValue.Shorthands.{RefusedAll, RefusedElements}

-- The elements of a list: their size, the sections of each if they are structs, their number, and
-- the place of the first one.
pub record ListElements : Type 0 where
  pub size : ElementSize
  pub sections : StructSize
  pub count : ℕ
  pub first : Reading

-- r leads to the list l, whose own words are charged from m to m'. Null is an empty list of void.
pub data LeadsToList (r : Reading) (m m' : Meter) (l : ListElements) : Type 0 where
  no_list : word_of r ≡ 0 → l.size ≡ Void → l.count ≡ 0 → m' ≡ m → LeadsToList r m m' l
  a_plain_list : (a : Target) → Entered Value r m m' a → kind a.word ≡ 1 → element_size a.word ≡ size_number l.size → size_number l.size ≤ 6 → nat_eq (size_number l.size) 1 ≡ false →
      l.first ≡ child_at r a (pred r.levels) a.start → l.count ≡ list_count a.word → LeadsToList r m m' l
  a_struct_list : (a : Target) → Entered Value r m m' a → IsStructList a.word → l.size ≡ InlineComposite → l.sections ≡ tag_size r.segments a → l.first ≡ child_at r a (pred r.levels) (a.start + 1) →
      l.count ≡ offset_bits (tag r.segments a) → LeadsToList r m m' l

-- P holds for the original of the list that r leads to.
abbrev pub OfElements : Reading → CopyCall → (Original Tree → CopyCall → Type 0) → Type 0
OfElements r c P = (l : ListElements) × (m : Meter) × LeadsToList r c.before m l × P (list_original l.size l.sections l.count l.first) (record c { before = m })

-- That is the list at the target.
plain_at : (P : Original Tree → Type 0) (size : ElementSize) (sections other : StructSize) (n k start next : ℕ) (first : ℕ → Reading) (w : ℕ) → w ≡ size_number size → size_number size ≤ 6 → P (list_original size sections n (first start)) →
    P (list_original (size_of w) other (cond (nat_eq w 7) k n) (first (cond (nat_eq w 7) next start)))
plain_at P Void sections other n k start next first w e l h = subst (λ v. P (list_original (size_of v) other (cond (nat_eq v 7) k n) (first (cond (nat_eq v 7) next start)))) (sym e) h
plain_at P Bit sections other n k start next first w e l h = subst (λ v. P (list_original (size_of v) other (cond (nat_eq v 7) k n) (first (cond (nat_eq v 7) next start)))) (sym e) h
plain_at P Byte sections other n k start next first w e l h = subst (λ v. P (list_original (size_of v) other (cond (nat_eq v 7) k n) (first (cond (nat_eq v 7) next start)))) (sym e) h
plain_at P TwoBytes sections other n k start next first w e l h = subst (λ v. P (list_original (size_of v) other (cond (nat_eq v 7) k n) (first (cond (nat_eq v 7) next start)))) (sym e) h
plain_at P FourBytes sections other n k start next first w e l h = subst (λ v. P (list_original (size_of v) other (cond (nat_eq v 7) k n) (first (cond (nat_eq v 7) next start)))) (sym e) h
plain_at P EightBytes sections other n k start next first w e l h = subst (λ v. P (list_original (size_of v) other (cond (nat_eq v 7) k n) (first (cond (nat_eq v 7) next start)))) (sym e) h
plain_at P Pointer sections other n k start next first w e l h = subst (λ v. P (list_original (size_of v) other (cond (nat_eq v 7) k n) (first (cond (nat_eq v 7) next start)))) (sym e) h
plain_at P InlineComposite sections other n k start next first w e l h = absurd (omega arith)

pub of_elements : (r : Reading) (c : CopyCall) (P : Original Tree → CopyCall → Type 0) → OfElements r c P → OfWanted AList r c P
of_elements r c P (l, m, no_list null void none same, h) =
    let empty : P (numbers_original Void 0 l.first) (record c { before = m }) =
    subst (λ n. P (numbers_original Void n l.first) (record c { before = m })) none (subst (λ z. P (list_original z l.sections l.count l.first) (record c { before = m })) void h) in
    inl (null, (l.first, subst (λ y. P (numbers_original Void 0 l.first) (record c { before = y })) same empty))
of_elements r c P (l, m, a_plain_list a o z s few no_bits first counts, h) =
    let placed : P (list_original l.size l.sections (list_count a.word) (child_at r a (pred r.levels) a.start)) (record c { before = m }) =
    subst (λ n. P (list_original l.size l.sections n (child_at r a (pred r.levels) a.start)) (record c { before = m })) counts (subst (λ x. P (list_original l.size l.sections l.count x) (record c { before = m })) first h) in
    inr (
      a,
      m,
      o,
      z,
      (λ bits. absurd (let e : true ≡ false = ap (λ i. nat_eq i 1) (sym bits ∙ s) ∙ no_bits in cc)),
      plain_at (λ x. P x (record c { before = m })) l.size l.sections (tag_size r.segments a) (list_count a.word) (offset_bits (tag r.segments a)) a.start (a.start + 1)
          (λ x. child_at r a (pred r.levels) x) (element_size a.word) s few placed,
    )
of_elements r c P (l, m, a_struct_list a o z s sections first counts, h) =
    let sized : P (structs_original (tag_size r.segments a) l.count l.first) (record c { before = m }) =
    subst (λ y. P (structs_original y l.count l.first) (record c { before = m })) sections (subst (λ x. P (list_original x l.sections l.count l.first) (record c { before = m })) s h) in
    let placed : P (structs_original (tag_size r.segments a) (offset_bits (tag r.segments a)) (child_at r a (pred r.levels) (a.start + 1))) (record c { before = m }) =
    subst (λ n. P (structs_original (tag_size r.segments a) n (child_at r a (pred r.levels) (a.start + 1))) (record c { before = m })) counts (subst (λ x. P (structs_original (tag_size r.segments a) l.count x) (record c { before = m })) first sized) in
    inr (a, m, o, z.0, (λ bits. absurd (omega (arith, bits, z.1))), subst (λ v. P (list_original (size_of v) (tag_size r.segments a) (cond (nat_eq v 7) (offset_bits (tag r.segments a)) (list_count a.word)) (child_at r a (pred r.levels) (cond (nat_eq v 7) (a.start + 1) a.start))) (record c { before = m })) (sym z.1) placed)

pub to_elements : (r : Reading) (c : CopyCall) (P : Original Tree → CopyCall → Type 0) → OfWanted AList r c P → OfElements r c P
to_elements r c P (inl (null, (first, h))) = (record { size = Void; sections = record { data_words = 0; pointers = 0 }; count = 0; first = first }, c.before, no_list null refl refl refl, h)
to_elements r c P (inr (a, m, o, z, no_bits, h)) = by_size (element_size a.word) refl (omega arith)
  where
    Sized : ℕ → Type 0
    Sized v = P (list_original (size_of v) (tag_size r.segments a) (cond (nat_eq v 7) (offset_bits (tag r.segments a)) (list_count a.word)) (child_at r a (pred r.levels) (cond (nat_eq v 7) (a.start + 1) a.start))) (record c { before = m })

    plain : (size : ElementSize) → element_size a.word ≡ size_number size → size_number size ≤ 6 → nat_eq (size_number size) 1 ≡ false → P (list_original size (tag_size r.segments a) (list_count a.word) (child_at r a (pred r.levels) a.start)) (record c { before = m }) → OfElements r c P
    plain size e few other g = (record { size = size; sections = tag_size r.segments a; count = list_count a.word; first = child_at r a (pred r.levels) a.start }, m, a_plain_list a o z e few other refl refl, g)

    by_size : (w : ℕ) → element_size a.word ≡ w → w ≤ 7 → OfElements r c P
    by_size zero e l = plain Void e (omega arith) refl (subst Sized e h)
    by_size (suc zero) e l = absurd (no_bits e)
    by_size (suc (suc zero)) e l = plain Byte e (omega arith) refl (subst Sized e h)
    by_size (suc (suc (suc zero))) e l = plain TwoBytes e (omega arith) refl (subst Sized e h)
    by_size (suc (suc (suc (suc zero)))) e l = plain FourBytes e (omega arith) refl (subst Sized e h)
    by_size (suc (suc (suc (suc (suc zero))))) e l = plain EightBytes e (omega arith) refl (subst Sized e h)
    by_size (suc (suc (suc (suc (suc (suc zero)))))) e l = plain Pointer e (omega arith) refl (subst Sized e h)
    by_size (suc (suc (suc (suc (suc (suc (suc zero))))))) e l =
        (record { size = InlineComposite; sections = tag_size r.segments a; count = offset_bits (tag r.segments a); first = child_at r a (pred r.levels) (a.start + 1) }, m, a_struct_list a o (z, e) refl refl refl refl, subst Sized e h)
    by_size (suc (suc (suc (suc (suc (suc (suc (suc n)))))))) e l = absurd (omega arith)

-- The list has this value, and reading what its elements lead to takes the limiter from m to m';
-- reading numbers takes nothing.
abbrev pub ReadsList : Form → ListElements → Meter → Meter → Tree → Type 0
ReadsList form list m m' (Flat size ns) =
    (size_number list.size ≤ 5) × (size ≡ size_number list.size) × (ns ≡ unpacked size list.count (words_from list.first (words_for size list.count))) × (m' ≡ m)
ReadsList form list m m' (Pointers ts) = (list.size ≡ Pointer) × (count ts ≡ list.count) × ReadsAll form list.first m m' ts
ReadsList form list m m' (Structs d q es) =
    (list.size ≡ InlineComposite) × (d ≡ list.sections.data_words) × (q ≡ list.sections.pointers) × (element_count es ≡ list.count)
    × ReadsElements form list.first list.sections m m' es
ReadsList form list m m' t = ⊥

-- Reading what its elements lead to is refused with k.
abbrev pub RefusedList : Form → ListElements → Meter → Meter → ErrorKind → Type 0
RefusedList form list m m' k =
    ((list.size ≡ Pointer) × RefusedAll form list.first list.count m m' k)
    ⊎ ((list.size ≡ InlineComposite) × RefusedElements form list.first list.sections list.count m m' k)

numbers_read : (form : Form) (l : ListElements) (size : ElementSize) (m m' : Meter) (t : Tree) → l.size ≡ size → size_number size ≤ 5 → (numbers_original size l.count l.first).reads form m m' t → ReadsList form l m m' t
numbers_read form l size m m' t e flat (is, same) = subst (ReadsList form l m m') (sym is) (omega (arith, flat, ap size_number e), ap size_number (sym e), refl, same)

pub list_read_as : (form : Form) (l : ListElements) (size : ElementSize) (m m' : Meter) (t : Tree) → l.size ≡ size → (list_original size l.sections l.count l.first).reads form m m' t → ReadsList form l m m' t
list_read_as form l Pointer m m' t e (ts, is, counts, all) = subst (ReadsList form l m m') (sym is) (e, counts, all)
list_read_as form l InlineComposite m m' t e (es, is, counts, all) = subst (ReadsList form l m m') (sym is) (e, refl, refl, counts, all)
list_read_as form l Void m m' t e h = numbers_read form l Void m m' t e (omega arith) h
list_read_as form l Bit m m' t e h = numbers_read form l Bit m m' t e (omega arith) h
list_read_as form l Byte m m' t e h = numbers_read form l Byte m m' t e (omega arith) h
list_read_as form l TwoBytes m m' t e h = numbers_read form l TwoBytes m m' t e (omega arith) h
list_read_as form l FourBytes m m' t e h = numbers_read form l FourBytes m m' t e (omega arith) h
list_read_as form l EightBytes m m' t e h = numbers_read form l EightBytes m m' t e (omega arith) h

as_numbers : (form : Form) (l : ListElements) (size : ElementSize) (m m' : Meter) (t : Tree) → l.size ≡ size → size_number size ≤ 5 → ReadsList form l m m' t → (numbers_original size l.count l.first).reads form m m' t
as_numbers form l size m m' Null e flat h = absurd h
as_numbers form l size m m' (Capability i) e flat h = absurd h
as_numbers form l size m m' (Struct ws ts) e flat h = absurd h
as_numbers form l size m m' (Flat width ns) e flat h =
    let same : width ≡ size_number size = h.1 ∙ ap size_number e in
    (ap (Flat width) h.2 ∙ ap (λ i. Flat i (unpacked i l.count (words_from l.first (words_for i l.count)))) same, h.3)
as_numbers form l size m m' (Pointers ts) e flat h = absurd (omega (arith, flat, ap size_number (sym e ∙ h.0)))
as_numbers form l size m m' (Structs d q es) e flat h = absurd (omega (arith, flat, ap size_number (sym e ∙ h.0)))

as_pointers : (form : Form) (l : ListElements) (m m' : Meter) (t : Tree) → l.size ≡ Pointer → ReadsList form l m m' t → (list_original Pointer l.sections l.count l.first).reads form m m' t
as_pointers form l m m' Null e h = absurd h
as_pointers form l m m' (Capability i) e h = absurd h
as_pointers form l m m' (Struct ws ts) e h = absurd h
as_pointers form l m m' (Flat width ns) e h = absurd (omega (arith, h.0, ap size_number e))
as_pointers form l m m' (Pointers ts) e h = (ts, refl, h.1, h.2)
as_pointers form l m m' (Structs d q es) e h = absurd (omega (arith, ap size_number (sym e ∙ h.0)))

as_structs : (form : Form) (l : ListElements) (m m' : Meter) (t : Tree) → l.size ≡ InlineComposite → ReadsList form l m m' t → (list_original InlineComposite l.sections l.count l.first).reads form m m' t
as_structs form l m m' Null e h = absurd h
as_structs form l m m' (Capability i) e h = absurd h
as_structs form l m m' (Struct ws ts) e h = absurd h
as_structs form l m m' (Flat width ns) e h = absurd (omega (arith, h.0, ap size_number e))
as_structs form l m m' (Pointers ts) e h = absurd (omega (arith, ap size_number (sym e ∙ h.0)))
as_structs form l m m' (Structs d q es) e h = (es, ap (λ i. Structs i q es) h.1 ∙ ap (λ i. Structs l.sections.data_words i es) h.2, h.3, h.4)

pub as_list_read : (form : Form) (l : ListElements) (size : ElementSize) (m m' : Meter) (t : Tree) → l.size ≡ size → ReadsList form l m m' t → (list_original size l.sections l.count l.first).reads form m m' t
as_list_read form l Pointer m m' t e h = as_pointers form l m m' t e h
as_list_read form l InlineComposite m m' t e h = as_structs form l m m' t e h
as_list_read form l Void m m' t e h = as_numbers form l Void m m' t e (omega arith) h
as_list_read form l Bit m m' t e h = as_numbers form l Bit m m' t e (omega arith) h
as_list_read form l Byte m m' t e h = as_numbers form l Byte m m' t e (omega arith) h
as_list_read form l TwoBytes m m' t e h = as_numbers form l TwoBytes m m' t e (omega arith) h
as_list_read form l FourBytes m m' t e h = as_numbers form l FourBytes m m' t e (omega arith) h
as_list_read form l EightBytes m m' t e h = as_numbers form l EightBytes m m' t e (omega arith) h

pub list_refused_as : (form : Form) (l : ListElements) (size : ElementSize) (m m' : Meter) (k : ErrorKind) → l.size ≡ size → (list_original size l.sections l.count l.first).stops form (λ r i j. Stopped Value form r i j k) m m' → RefusedList form l m m' k
list_refused_as form l Pointer m m' k e h = inl (e, h)
list_refused_as form l InlineComposite m m' k e h = inr (e, h)
list_refused_as form l Void m m' k e h = absurd h
list_refused_as form l Bit m m' k e h = absurd h
list_refused_as form l Byte m m' k e h = absurd h
list_refused_as form l TwoBytes m m' k e h = absurd h
list_refused_as form l FourBytes m m' k e h = absurd h
list_refused_as form l EightBytes m m' k e h = absurd h
