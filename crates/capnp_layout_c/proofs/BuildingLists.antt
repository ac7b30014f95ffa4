-- Lists of the arena that an export makes, in the form that C has.
use Rattle.std.proofs.Common.{◌≡◌, ℕ, zero, suc, List, [], ◌+◌, ◌*◌, ◌/◌, ◌^◌, ◌<◌, ◌≤◌, length, refl, sym, ap, ◌∙◌, subst, arith, Option, Some, None}
use Rattle.std.specs.Prelude.{IfOk, IsOk, Result, Ok, Err}
use Rattle.capnp_words.specs.Sizes.{size_number}
use Rattle.capnp_words.specs.declared.error.ErrorKind.{ErrorKind}
use Rattle.capnp_words.specs.declared.wire_pointer.ElementSize.{ElementSize}
use Rattle.capnp_words.specs.declared.wire_pointer.StructSize.{StructSize}
use Rattle.capnp_format.specs.Forest.{target}
use Rattle.capnp_format.specs.Segments.{Grows, Segments}
use Rattle.capnp_format.specs.Tree.{Flat, Tree}
use Rattle.capnp_arena_traits.specs.View.{View}
use Rattle.capnp_allocation.specs.Makes.{call_at}
use Rattle.capnp_allocation.specs.Stored.{IsStored}
use Rattle.capnp_in_place.specs.Existing.{FindsListAt, plain_list, plain_misfit, size_of, unless}
use Rattle.capnp_in_place.specs.Opening.{OpensExistingList}
use Rattle.capnp_in_place.specs.Rooms.{UsesMemory, WiderListFits}
use Rattle.capnp_in_place.specs.declared.existing.ExistingList.{ExistingList}
use Rattle.capnp_readers.specs.Readers.{IsListPlace}
use Rattle.capnp_readers.specs.declared.readers.list_reader.ListPlace.{ListPlace}
use Rattle.capnp_builders.specs.Held.{HasList}
use Rattle.capnp_builders.specs.Places.{list_place}
use Rattle.capnp_builders.proofs.FoundLists.{found_inside}
use Rattle.capnp_layout_c.specs.Buffers.{Gives, buffer, placed_list, words_in}
use Rattle.capnp_layout_c.specs.BuildingNumbers.{number_of_result}
use Rattle.capnp_layout_c.specs.Lists.{FindsElements, OpensListAt, elements_of_found, listed_at}
use Rattle.capnp_layout_c.specs.declared.building.places.ElementsAt.{ElementsAt}
use Rattle.capnp_layout_c.proofs.BuildingCalls.{Arena, Tie, before, gives_what, uses_keeps, view}

-- A list at a place in the first segment is at the place that C has.
pub list_made_at : (S : Segments) (p : ℕ) (list : ListPlace) (size : ElementSize) (at n : ℕ) (t : Tree) → list.segment ≡ 0 →
    list.size ≡ size → list.count ≡ n → at ≡ list.byte / 8 → HasList S 0 p list t →
    HasList S 0 p (placed_list size (listed_at at n)) t
list_made_at S p list size at n t first of counts is h =
    let byte : ListPlace → ℕ = λ y. y.byte in
    let sections : ListPlace → StructSize = λ y. y.struct_size in
    let e1 = ap byte h.is_place in
    let b1 : list.byte ≡ 8 * at = omega (arith, e1, is) in
    let b2 : list.struct_size ≡ record { data_words = 0; pointers = 0 } = ap sections h.is_place in
    let same : list ≡ placed_list size (listed_at at n) =
    λ i. record { segment = first i; byte = b1 i; size = of i; struct_size = b2 i; count = counts i } in
    subst (λ (y : ListPlace). HasList S 0 p y t) same h

number_back : (n : ℕ) → n ≤ 5 → size_number (size_of n) ≡ n
number_back zero l = refl
number_back (suc zero) l = refl
number_back (suc (suc zero)) l = refl
number_back (suc (suc (suc zero))) l = refl
number_back (suc (suc (suc (suc zero)))) l = refl
number_back (suc (suc (suc (suc (suc zero))))) l = refl
number_back (suc (suc (suc (suc (suc (suc k)))))) l = absurd (omega arith)

small_size : (S : Segments) (s p n : ℕ) (ns : List ℕ) → IsStored S s p (Flat n ns) → n ≤ 5
small_size S s p n ns stored =
    let m = stored.means in
    let (a, some, small, o, claim, g, k) = m.2 in small

chosen : (m : Option ErrorKind) (l : ExistingList) (found : Option ExistingList) → ◌≡◌ {A = Result (Option ExistingList) ErrorKind} (Ok found) (unless m l) → found ≡ Some l
chosen None l found e = cc
chosen (Some x) l found e = cc

-- A list of numbers that is found at a pointer is at the place that C gets.
pub numbers_listed : (S : Segments) (p n : ℕ) (e : ElementSize) (ns : List ℕ) (found : Option ExistingList) → length S ≡ 1 →
    IsStored S 0 p (Flat n ns) → FindsListAt S 0 p e (Ok found) →
    HasList S 0 p (placed_list (size_of (elements_of_found found).size) (listed_at (elements_of_found found).at (elements_of_found found).count)) (Flat n ns)
numbers_listed S p n e ns found one stored finds =
    let l = plain_list (target S 0 p) (size_of n) (length ns) in
    let eq = finds.found (Flat n ns) stored in
    let is_l : found ≡ Some l = chosen (plain_misfit e (size_of n)) l found eq in
    let inside : IsListPlace S (list_place l) = found_inside S 0 p e (Flat n ns) l (omega (arith, one)) stored (sym eq ∙ ap (λ (o : Option ExistingList). Ok o) is_l) in
    let first : (target S 0 p).segment ≡ 0 = omega (arith, inside.0, one) in
    let small = small_size S 0 p n ns stored in
    let back : size_number (size_of n) ≡ n = number_back n small in
    let sized : size_of (size_number (size_of n)) ≡ size_of n = ap size_of back in
    let held : HasList S 0 p (list_place l) (Flat n ns) = record { stored = stored; plain = (back, refl); is_place = refl } in
    subst (λ (o : Option ExistingList). HasList S 0 p (placed_list (size_of (elements_of_found o).size) (listed_at (elements_of_found o).at (elements_of_found o).count)) (Flat n ns)) (sym is_l)
    (list_made_at S p (list_place l) (size_of (size_number (size_of n))) (target S 0 p).start (length ns) (Flat n ns) first (sym sized) refl (omega arith) held)

module _ {a b : Arena} {old x : List ℕ} {from used : ℕ} (tie : Tie a b old x from used) where
  -- The list that the call opens in the arena it opens in the buffer.
  pub gives_list_opened : (r : Result (Option ExistingList) ErrorKind) (number at p : ℕ) (size : StructSize) (to : ElementsAt) →
      at ≡ p → number ≡ number_of_result r →
      ((t : Tree) → IsStored (view a).words 0 at t → OpensExistingList size r (call_at 0 at (view a) (view b)) t) →
      IfOk r (λ l. to ≡ elements_of_found l) →
      UsesMemory r (view a) (view b) → Grows (view a).words (view b).words →
      (WiderListFits (IsStored (view a).words 0 at) (view a) 0 at size → IsOk r) →
      Gives (Option ExistingList) number (buffer old from x used) (OpensListAt p size to)
  gives_list_opened r number at p size to same is opens to_is memory grows fits =
      gives_what tie r number (OpensListAt p size to) (uses_keeps r (view a) (view b) memory) is
      (subst (λ n. OpensListAt n size to r (view a) (view b)) same
      (record { opens = opens; to_is = to_is; fits = fits; grows = grows }))

  -- The list that the call finds in the arena it finds in the buffer.
  pub list_in_buffer : (r : Result (Option ExistingList) ErrorKind) (n at p : ℕ) (size : ElementSize) →
      at ≡ p → size ≡ size_of n → FindsListAt (view a).words 0 at size r → FindsListAt (words_in old from) 0 p (size_of n) r
  list_in_buffer r n at p size same is_size finds =
      let words : View → Segments = λ w. w.words in
      subst (λ S. FindsListAt S 0 p (size_of n) r) (ap words (before tie))
      (subst (λ k. FindsListAt (view a).words 0 k (size_of n) r) same (subst (λ (z : ElementSize). FindsListAt (view a).words 0 at z r) is_size finds))

  pub found_in_buffer : (r : Result (Option ExistingList) ErrorKind) (number n at p : ℕ) (size : ElementSize) (to : ElementsAt) →
      at ≡ p → size ≡ size_of n → number ≡ number_of_result r → FindsListAt (view a).words 0 at size r →
      IfOk r (λ l. to ≡ elements_of_found l) → FindsElements number n p (words_in old from) to
  found_in_buffer r number n at p size to same is_size is finds to_is =
      record { found = r; is = is; finds = list_in_buffer r n at p size same is_size finds; to_is = to_is }
