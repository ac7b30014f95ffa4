-- What a list becomes if structs of at least a size are wanted.
use Rattle.std.proofs.Common.{Err, List, Ok, Option, Result, Some, ap, ap₂, arith, inl, inr, length, max, refl, subst, suc, sym, zero, ℕ, ◌*◌, ◌+◌, ◌<◌, ◌∙◌, ◌≡◌, ◌≤◌}
use Rattle.capnp_words.specs.declared.error.ErrorKind.{ErrorKind}
use Rattle.capnp_arena_traits.specs.View.{View}
use Rattle.capnp_format.specs.Segments.{Segments, Target}
use Rattle.capnp_format.specs.Tree.{Elements, Flat, Pointers, Structs, Tree, Trees, count, element_count}
use Rattle.capnp_format.specs.Forest.{target}
use Rattle.capnp_words.specs.Sizes.{size_number}
use Rattle.capnp_words.specs.declared.wire_pointer.StructSize.{StructSize}
use Rattle.capnp_words.specs.declared.wire_pointer.ElementSize.TheVariants.{Pointer, Void}
use Rattle.capnp_in_place.specs.declared.existing.ExistingList.{ExistingList}
use Rattle.capnp_in_place.specs.Existing.{plain_list, size_of, struct_list}
use Rattle.capnp_allocation.specs.Made.{zero_elements}
use Rattle.capnp_allocation.specs.Makes.{CallAt, call_at}
use Rattle.capnp_allocation.specs.Memory.{SpendsMemory}
use Rattle.capnp_allocation.specs.Stored.{IsStored}
use Rattle.capnp_allocation.proofs.Outcomes.{if_err_so, if_ok_so, on_err_so, on_made_so}
use Rattle.capnp_in_place.specs.declared.remaking.ElementRows.{ElementRows}
use Rattle.capnp_in_place.specs.Anew.{BecomesAnew}
use Rattle.capnp_in_place.specs.Rooms.{GrowsByAtMost, HasRoomFor, direct_pointers, widened_words}
use Rattle.capnp_in_place.specs.RowsRemade.{IsList, MakesListOfStructs, StoresRows, WidensList, as_structs, element_rows, rows_in, struct_for}
use Rattle.capnp_in_place.specs.Widened.{fill_elements, limited, list_widened, struct_for_each, struct_for_each_tree}
use Rattle.capnp_in_place.proofs.WiderObjects.WhichList.{by_list, filled_to_greater, first_numbers, first_pointers, flat_width, never_refused, number_of_size, numbers_as_structs, numbers_limited, same_refusal, same_tree, structs_widen}
use Rattle.capnp_in_place.proofs.WiderObjects.WordsOfList.{not_refused}
use Rattle.capnp_in_place.proofs.WiderObjects.StructBySteps.{nothing_grown}

-- A list that is neither one of bits nor one of large enough structs, and the size of the structs
-- that its elements become.
pub record Widens (l : ExistingList) (size wide : StructSize) : Type 0 where
  pub kind : size_number l.size ≡ 1 → ⊥
  pub narrow : size_number l.size ≡ 7 → size.data_words ≤ l.struct_size.data_words → size.pointers ≤ l.struct_size.pointers → ⊥
  pub data_words : wide.data_words ≡ max (struct_for l.size l.struct_size).data_words size.data_words
  pub pointers : wide.pointers ≡ max (struct_for l.size l.struct_size).pointers size.pointers

from_pointers : (a : Target) (ts : Trees) (size wide : StructSize) → Widens (plain_list a Pointer (count ts)) size wide → list_widened size.data_words size.pointers (Pointers ts) ≡ limited (count ts * (wide.data_words + wide.pointers)) (as_structs wide (Pointers ts))
from_pointers a ts size wide w =
    let d = size.data_words in
    let q = size.pointers in
    let e : wide.data_words ≡ d = omega (arith, w.data_words) in
    let f : wide.pointers ≡ max 1 q = w.pointers in
    sym (ap₂ limited (ap₂ (λ x y. count ts * (x + y)) e f) (ap₂ (λ x y. Structs x y (struct_for_each_tree x y ts)) e f ∙ ap (Structs d (max 1 q)) (first_pointers d q ts)))

from_void : (a : Target) (ns : List ℕ) (size wide : StructSize) → Widens (plain_list a Void (length ns)) size wide → list_widened size.data_words size.pointers (Flat 0 ns) ≡ limited (length ns * (wide.data_words + wide.pointers)) (as_structs wide (Flat 0 ns))
from_void a ns size wide w =
    let e : wide.data_words ≡ size.data_words = omega (arith, w.data_words) in
    let f : wide.pointers ≡ size.pointers = omega (arith, w.pointers) in
    sym (ap₂ (λ x y. limited (length ns * (x + y)) (Structs x y (zero_elements x y (length ns)))) e f)

struct_for_number : (w : ℕ) (size : StructSize) → 2 ≤ w → w ≤ 5 → struct_for (size_of w) size ≡ record { data_words = 1; pointers = 0 }
struct_for_number zero size two five = absurd (omega arith)
struct_for_number (suc zero) size two five = absurd (omega arith)
struct_for_number (suc (suc zero)) size two five = refl
struct_for_number (suc (suc (suc zero))) size two five = refl
struct_for_number (suc (suc (suc (suc zero)))) size two five = refl
struct_for_number (suc (suc (suc (suc (suc zero))))) size two five = refl
struct_for_number (suc (suc (suc (suc (suc (suc w)))))) size two five = absurd (omega arith)

from_numbers : (a : Target) (n : ℕ) (ns : List ℕ) (size wide : StructSize) → 2 ≤ n → n ≤ 5 → Widens (plain_list a (size_of n) (length ns)) size wide → list_widened size.data_words size.pointers (Flat n ns) ≡ limited (length ns * (wide.data_words + wide.pointers)) (as_structs wide (Flat n ns))
from_numbers a n ns size wide two five w =
    let d = size.data_words in
    let q = size.pointers in
    let one = struct_for_number n (record { data_words = 0; pointers = 0 }) two five in
    let e : wide.data_words ≡ max 1 d = w.data_words ∙ ap (λ (o : StructSize). max o.data_words d) one in
    let f : wide.pointers ≡ q = omega (arith, w.pointers ∙ ap (λ (o : StructSize). max o.pointers q) one) in
    numbers_limited d q n ns two
    ∙ sym (ap₂ limited (ap₂ (λ x y. length ns * (x + y)) e f) (numbers_as_structs wide n ns two ∙ ap₂ (λ x y. Structs x y (struct_for_each x y ns)) e f ∙ ap (Structs (max 1 d) q) (first_numbers d q ns)))

from_structs : (S : Segments) (s p d k : ℕ) (es : Elements) (size wide : StructSize) → IsStored S s p (Structs d k es) → Widens (struct_list (target S s p) d k (element_count es)) size wide →
    list_widened size.data_words size.pointers (Structs d k es) ≡ limited (element_count es * (wide.data_words + wide.pointers)) (as_structs wide (Structs d k es))
from_structs S s p d k es size wide x w =
    let e = size.data_words in
    let f = size.pointers in
    structs_widen e f d k es (w.narrow refl)
    ∙ sym (ap₂ limited (ap₂ (λ y z. element_count es * (y + z)) w.data_words w.pointers) (ap₂ (λ y z. Structs y z (fill_elements y z es)) w.data_words w.pointers ∙ ap (Structs (max d e) (max k f)) (filled_to_greater S s p d k es e f x)))

from_flat : (S : Segments) (s p w : ℕ) (ns : List ℕ) (size wide : StructSize) → IsStored S s p (Flat w ns) → Widens (plain_list (target S s p) (size_of w) (length ns)) size wide →
    list_widened size.data_words size.pointers (Flat w ns) ≡ limited (length ns * (wide.data_words + wide.pointers)) (as_structs wide (Flat w ns))
from_flat S s p zero ns size wide x h = from_void (target S s p) ns size wide h
from_flat S s p (suc zero) ns size wide x h = absurd (h.kind refl)
from_flat S s p (suc (suc n)) ns size wide x h = from_numbers (target S s p) (suc (suc n)) ns size wide (omega arith) (flat_width S s p (suc (suc n)) ns x) h

pub becomes : (S : Segments) (s p : ℕ) (t : Tree) (l : ExistingList) (size wide : StructSize) → Widens l size wide → IsList S s p l t → list_widened size.data_words size.pointers t ≡ limited (l.count * (wide.data_words + wide.pointers)) (as_structs wide t)
becomes S s p t l size wide w i =
    by_list S s p l (λ u o. Widens o size wide → list_widened size.data_words size.pointers u ≡ limited (o.count * (wide.data_words + wide.pointers)) (as_structs wide u)) (λ n ns x. from_flat S s p n ns size wide x)
    (λ ts x. from_pointers (target S s p) ts size wide) (λ d k es x. from_structs S s p d k es size wide x) t i w

-- A list of void, of pointers or of structs, by its rows.
pub in_rows : (S : Segments) (s p : ℕ) (t : Tree) (l : ExistingList) → (0 < size_number l.size → 6 ≤ size_number l.size) → IsList S s p l t → StoresRows S s p (element_rows l) t
in_rows S s p t l whole i = (i.0, by_list S s p l (λ u o. (0 < size_number o.size → 6 ≤ size_number o.size) → rows_in (target S s p) u ≡ Some (element_rows o)) flat pointers structs t i whole)
  where
    rows : ℕ → StructSize → ℕ → ℕ → Option ElementRows
    rows tag size n at = Some (record { segment = (target S s p).segment; at = at; tag = tag; size = size; count = n })

    flat : (w : ℕ) (ns : List ℕ) → IsStored S s p (Flat w ns) → (0 < size_number (size_of w) → 6 ≤ size_number (size_of w)) → rows_in (target S s p) (Flat w ns) ≡ Some (element_rows (plain_list (target S s p) (size_of w) (length ns)))
    flat zero ns x many = ap (rows 0 (record { data_words = 0; pointers = 0 }) (length ns)) (omega arith)
    flat (suc n) ns x many = absurd (omega (arith, number_of_size (suc n) (flat_width S s p (suc n) ns x), flat_width S s p (suc n) ns x, many))

    pointers : (ts : Trees) → IsStored S s p (Pointers ts) → (0 < 6 → 6 ≤ 6) → rows_in (target S s p) (Pointers ts) ≡ Some (element_rows (plain_list (target S s p) Pointer (count ts)))
    pointers ts x many = ap (rows 0 (record { data_words = 0; pointers = 1 }) (count ts)) (omega arith)

    structs : (d k : ℕ) (es : Elements) → IsStored S s p (Structs d k es) → (0 < 7 → 6 ≤ 7) → rows_in (target S s p) (Structs d k es) ≡ Some (element_rows (struct_list (target S s p) d k (element_count es)))
    structs d k es x many = ap (rows 1 (record { data_words = d; pointers = k }) (element_count es)) (omega arith)

-- A list whose elements are made structs becomes what is wanted.
pub widens : (r : Result ExistingList ErrorKind) (Stands : Tree → Type 0) (l : ExistingList) (size wide : StructSize) (c : CallAt) → ((t : Tree) → IsList c.old.words c.segment c.at l t → Stands t) →
    ((t : Tree) → IsList c.old.words c.segment c.at l t → list_widened size.data_words size.pointers t ≡ Ok (as_structs wide t)) → MakesListOfStructs r Stands wide c → WidensList r l size c
widens r Stands l size wide c stands becomes m = record {
  widened = if_ok_so r _ _ m.made.remade (λ x made t i. (as_structs wide t, becomes t i, made t (stands t i)));
  wider = record {
    anew = on_made_so r _ _ m.made.anew (λ anew t u i some e narrow. subst (λ z. BecomesAnew c t z) (same_tree (as_structs wide t) u (sym (becomes t i) ∙ e)) (anew t (stands t i)));
    granted = m.made.granted;
    memory = m.made.memory;
    refused = on_err_so r _ _ m.made.refused (λ left t i. left t (stands t i));
    named = if_err_so r _ _ m.named (λ k why. elim why [
      | inl (same, none) ↦ inl (same, λ t i. absurd (none t (stands t i)))
      | inr full ↦ inr (record { name = full.name; memory = full.memory; full = λ t u i e. full.full t u (stands t i) (sym (becomes t i) ∙ e) })
    ]);
    exact = λ t k i refused. absurd (never_refused (as_structs wide t) k _ (becomes t i) refused);
    fits = λ h.
        (let (t, u, i, e, room) = h in
        m.fits t (stands t i) (subst (λ z. HasRoomFor c.old c.segment c.at t z) (sym (same_tree (as_structs wide t) u (sym (becomes t i) ∙ e))) room));
    few = λ t u i e. subst (λ z. GrowsByAtMost c.old.words c.new.words (widened_words z + 1 + 2 * direct_pointers t)) (same_tree (as_structs wide t) u (sym (becomes t i) ∙ e)) (m.few t (stands t i));
  };
}

-- A list that can't be widened is refused with k, and nothing changes.
pub unwidened : (k : ErrorKind) (l : ExistingList) (size : StructSize) (v : View) (s p : ℕ) → SpendsMemory v v k → ((t : Tree) → IsList v.words s p l t → list_widened size.data_words size.pointers t ≡ Err k) → WidensList (Err k) l size (call_at s p v v)
unwidened k l size v s p spent refused = record {
  widened = tt;
  wider = record {
    anew = tt;
    granted = tt;
    memory = spent;
    refused = λ t i. nothing_grown v.words _ refl;
    named = inl (refl, refused);
    exact = λ t j i e. (refl, same_refusal k j _ (refused t i) e);
    fits = λ h. (let (t, u, i, e, room) = h in absurd (not_refused _ _ u (refused t i) e));
    few = λ t u i e. omega arith;
  };
}
