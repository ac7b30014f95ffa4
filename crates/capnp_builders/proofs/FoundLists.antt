-- Lists that are found in a message are inside it.
use Rattle.std.proofs.Common.{◌≡◌, ℕ, zero, suc, ◌+◌, ◌<◌, ◌≤◌, length, Option, Some, None, Result, Ok, refl, ap, subst, arith}
use Rattle.capnp_words.specs.declared.error.ErrorKind.{ErrorKind}
use Rattle.capnp_format.specs.Numbers.{words_for}
use Rattle.capnp_format.specs.Segments.{Segments, segment, Target}
use Rattle.capnp_format.specs.Tree.{Tree, Null, Capability, Struct, Flat, Pointers, Structs, count, element_count}
use Rattle.capnp_format.specs.Means.{Means}
use Rattle.capnp_format.specs.Forest.{target, target_in}
use Rattle.capnp_words.specs.declared.wire_pointer.ElementSize.{ElementSize}
use Rattle.capnp_words.specs.declared.wire_pointer.ElementSize.TheVariants.{Pointer}
use Rattle.capnp_in_place.specs.declared.existing.ExistingList.{ExistingList}
use Rattle.capnp_in_place.specs.Existing.{size_of, plain_misfit, structs_misfit, plain_list, struct_list, unless, list_in}
use Rattle.capnp_allocation.specs.Makes.{CallAt}
use Rattle.capnp_allocation.specs.Stored.{IsStored}
use Rattle.capnp_allocation.proofs.Leading.{leads_segment}
use Rattle.capnp_allocation.proofs.Zeros.{there}
use Rattle.capnp_readers.specs.Readers.{IsListPlace}
use Rattle.capnp_readers.specs.Sections.{elements_words}
use Rattle.capnp_readers.specs.declared.readers.list_reader.ListPlace.{ListPlace}
use Rattle.capnp_builders.specs.Found.{void_list, list_given}
use Rattle.capnp_builders.specs.Places.{list_place}

-- the elements of the list l start at most one word after the start of a, and are inside the n
-- words from there on
record IsAt (S : Segments) (a : Target) (n : ℕ) (l : ExistingList) : Type 0 where
  segment_is : l.segment ≡ a.segment
  start_is : l.start ≤ a.start + 1
  within : l.start + elements_words l.size l.count (l.struct_size.data_words + l.struct_size.pointers) ≤ a.start + n

list_lies : (S : Segments) (a : Target) (n : ℕ) (l : ExistingList) → a.segment < length S → a.start + n ≤ length (segment S a.segment) → IsAt S a n l → IsListPlace S (list_place l)
list_lies S a n l there claim at = (omega (arith, there, at.segment_is), omega arith, omega (arith, at.within, claim, ap (λ u. length (segment S u)) at.segment_is))

chosen : (m : Option ErrorKind) (l k : ExistingList) → unless m l ≡ Ok (Some k) → l ≡ k
chosen None l k e = cc
chosen (Some x) l k e = cc

flat_words : (size n w : ℕ) → size ≤ 5 → elements_words (size_of size) n w ≡ words_for size n
flat_words zero n w l = refl
flat_words (suc zero) n w l = refl
flat_words (suc (suc zero)) n w l = refl
flat_words (suc (suc (suc zero))) n w l = refl
flat_words (suc (suc (suc (suc zero)))) n w l = refl
flat_words (suc (suc (suc (suc (suc zero))))) n w l = refl
flat_words (suc (suc (suc (suc (suc (suc k)))))) n w l = absurd (omega arith)

-- the list that a stored value's pointer leads to
meant : (S : Segments) (n s p c : ℕ) (expected : ElementSize) (t : Tree) (l : ExistingList) → s < length S → Means S n s p t c → list_in (target S s p) expected t ≡ Ok (Some l) → IsListPlace S (list_place l)
meant S n s p c expected Null l there m e = cc
meant S n s p c expected (Capability i) l there m e = cc
meant S n s p c expected (Struct ws ts) l there m e = cc
meant S n s p c expected (Flat size ns) l there (a, some, small, o, claim, g, k) e =
    let is_a : target S s p ≡ a = ap target_in o.leads_to.1 in
    let is_l = chosen (plain_misfit expected (size_of size)) (plain_list (target S s p) (size_of size) (length ns)) l e in
    subst (λ x. IsListPlace S (list_place x)) is_l (rw is_a (list_lies S a (words_for size (length ns)) (plain_list a (size_of size) (length ns)) (leads_segment S s p a there o.leads_to.1) claim
    (record { segment_is = refl; start_is = omega arith; within = omega (arith, flat_words size (length ns) (0 + 0) small) })))
meant S n s p c expected (Pointers ts) l there (a, k, some, o, claim, all, g) e =
    let is_a : target S s p ≡ a = ap target_in o.leads_to.1 in
    let is_l = chosen (plain_misfit expected Pointer) (plain_list (target S s p) Pointer (count ts)) l e in
    subst (λ x. IsListPlace S (list_place x)) is_l (rw is_a (list_lies S a (count ts) (plain_list a Pointer (count ts)) (leads_segment S s p a there o.leads_to.1) claim
    (record { segment_is = refl; start_is = omega arith; within = omega arith })))
meant S n s p c expected (Structs d q es) l there (a, m, k, some, o, claim, tag, fits, all, g) e =
    let is_a : target S s p ≡ a = ap target_in o.leads_to.1 in
    let is_l = chosen (structs_misfit expected d q) (struct_list (target S s p) d q (element_count es)) l e in
    subst (λ x. IsListPlace S (list_place x)) is_l (rw is_a (list_lies S a (m + 1) (struct_list a d q (element_count es)) (leads_segment S s p a there o.leads_to.1) claim
    (record { segment_is = refl; start_is = omega arith; within = omega (arith, fits) })))

pub found_inside : (S : Segments) (s p : ℕ) (expected : ElementSize) (t : Tree) (l : ExistingList) → s < length S → IsStored S s p t → list_in (target S s p) expected t ≡ Ok (Some l) → IsListPlace S (list_place l)
found_inside S s p expected t l there stored e = let m = stored.means in meant S m.0 s p m.1 expected t l there m.2 e

-- The call returns the list that is found where t is, and nothing is changed.
abbrev pub GivesFoundList : ElementSize → Result ListPlace ErrorKind → CallAt → Tree → Type 0
GivesFoundList size result c t = (result ≡ list_given c.segment (list_in (target c.old.words c.segment c.at) size t)) × (c.new ≡ c.old)

-- two successes with the same list
same_list : {E : Type 0} (x y : ListPlace) → ◌≡◌ {A = Result ListPlace E} (Ok x) (Ok y) → x ≡ y
same_list x y e = cc

pub given_inside : (S : Segments) (s p : ℕ) (expected : ElementSize) (t : Tree) (found : Option ExistingList) (place : ListPlace) → p < length (segment S s) → IsStored S s p t → list_in (target S s p) expected t ≡ Ok found →
    list_given s (Ok found) ≡ Ok place → IsListPlace S place
given_inside S s p expected t (Some l) place there_is stored e given = subst (IsListPlace S) (same_list (list_place l) place given) (found_inside S s p expected t l (there S s p there_is) stored e)
given_inside S s p expected t None place there_is stored e given = subst (IsListPlace S) (same_list (void_list s) place given) (there S s p there_is, refl, omega arith)
