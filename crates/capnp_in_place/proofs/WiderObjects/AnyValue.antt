-- Any value at a place where a list of structs is requested.
use Rattle.std.proofs.Common.{Err, None, Ok, Option, Result, Some, ap, arith, length, refl, subst, sym, ℕ, ◌∙◌, ◌≡◌, ◌≤◌}
use Rattle.capnp_words.specs.declared.error.ErrorKind.{ErrorKind}
use Rattle.capnp_words.specs.declared.error.ErrorKind.TheVariants.{FoundBitListWhereStructListWasExpected}
use Rattle.capnp_format.specs.Segments.{Segments, Target}
use Rattle.capnp_format.specs.Tree.{Capability, Elements, Flat, Null, Pointers, Struct, Structs, Tree, element_count}
use Rattle.capnp_format.specs.Forest.{target}
use Rattle.capnp_words.specs.Sizes.{size_number}
use Rattle.capnp_words.specs.declared.wire_pointer.StructSize.{StructSize}
use Rattle.capnp_words.specs.declared.wire_pointer.ElementSize.TheVariants.{Void}
use Rattle.capnp_in_place.specs.declared.existing.ExistingList.{ExistingList}
use Rattle.capnp_in_place.specs.Existing.{list_in, plain_list, size_of, struct_list, unless}
use Rattle.capnp_allocation.specs.Stored.{IsStored}
use Rattle.capnp_allocation.proofs.Filling.{unchanged}
use Rattle.capnp_in_place.specs.RowsRemade.{BecomesList, IsList, WidensTo}
use Rattle.capnp_in_place.specs.Widened.{HasSections, list_widened}
use Rattle.capnp_in_place.proofs.WiderObjects.RowListBySteps.{flat_stored, pointers_stored, structs_stored}
use Rattle.capnp_in_place.proofs.WiderObjects.WhichList.{are_numbers, by_list, flat_width, number_of_size, same_tree, structs_stay, void_fits}
use Rattle.capnp_in_place.proofs.WiderObjects.Statements.{LeadsToWiderList, ListLiesIn, WidensList, WidensListAnew, rewriting}
use Rattle.capnp_arena_traits.specs.View.{View}
use Rattle.capnp_allocation.specs.Makes.{call_at}

-- A list of bits.
pub bits_refused : (S : Segments) (s p : ℕ) (t : Tree) (l : ExistingList) (d q : ℕ) → size_number l.size ≡ 1 → IsList S s p l t → list_widened d q t ≡ Err FoundBitListWhereStructListWasExpected
bits_refused S s p t l d q is i =
    let k = are_numbers S s p t l (omega (arith, is)) i in
    ap (list_widened d q) (k.tree_of ∙ ap (λ w. Flat w k.numbers) is)

-- No list is found.

pub none_is_null : (a : Target) (t : Tree) → list_in a Void t ≡ Ok None → t ≡ Null
none_is_null a Null e = refl
none_is_null a (Capability i) e = cc
none_is_null a (Struct ws ts) e = cc
none_is_null a (Flat w ns) e = let f = sym (ap (λ o. unless o (plain_list a (size_of w) (length ns))) (void_fits (size_of w))) ∙ e in cc
none_is_null a (Pointers ts) e = cc
none_is_null a (Structs d q es) e = cc

same_name : (x y : ErrorKind) → ◌≡◌ {A = Result (Option ExistingList) ErrorKind} (Err x) (Err y) → x ≡ y
same_name x y e = cc

pub unfound_refused : (a : Target) (t : Tree) (d q : ℕ) (k : ErrorKind) → list_in a Void t ≡ Err k → list_widened d q t ≡ Err k
unfound_refused a Null d q k e = cc
unfound_refused a (Capability i) d q k e = ap (λ x. Err x) (same_name _ k e)
unfound_refused a (Struct ws ts) d q k e = ap (λ x. Err x) (same_name _ k e)
unfound_refused a (Flat w ns) d q k e = let f = sym (ap (λ o. unless o (plain_list a (size_of w) (length ns))) (void_fits (size_of w))) ∙ e in cc
unfound_refused a (Pointers ts) d q k e = cc
unfound_refused a (Structs w v es) d q k e = cc

pub null_stays : (S : Segments) (s p : ℕ) (size : StructSize) → ((t : Tree) → IsStored S s p t → Ok None ≡ list_in (target S s p) Void t) → WidensList size (rewriting s p S S)
null_stays S s p size found = λ t x.
    (let null : t ≡ Null = none_is_null (target S s p) t (sym (found t x)) in
    (t, ap (list_widened size.data_words size.pointers) null ∙ ap (λ u. Ok u) (sym null), unchanged S s p t x))

pub null_leads : (S : Segments) (s p : ℕ) (size : StructSize) → ((t : Tree) → IsStored S s p t → Ok None ≡ list_in (target S s p) Void t) → LeadsToWiderList size (rewriting s p S S) None
null_leads S s p size found = λ t u x e.
    (let null : t ≡ Null = none_is_null (target S s p) t (sym (found t x)) in
    let same : u ≡ Null = sym (same_tree Null u (ap (list_widened size.data_words size.pointers) (sym null) ∙ e)) in
    (ap (list_in (target S s p) Void) same, tt))

-- A list is found.

pub list_inside : (R : Segments) (s p : ℕ) (u : Tree) (m : ExistingList) → IsStored R s p u → list_in (target R s p) Void u ≡ Ok (Some m) → ListLiesIn R m
list_inside R s p u m x e = by_list R s p m (λ v o. ListLiesIn R o) (λ w ns y. omega (arith, (flat_stored R s p w ns y).fits)) (λ ts y. omega (arith, (pointers_stored R s p ts y).fits)) (λ d q es y. omega (arith, (structs_stored R s p d q es y).fits)) u (x, e)

pub list_widens : (S R : Segments) (s p : ℕ) (size : StructSize) (l m : ExistingList) → ((t : Tree) → IsStored S s p t → Ok (Some l) ≡ list_in (target S s p) Void t) → WidensTo l size (rewriting s p S R) m → WidensList size (rewriting s p S R)
list_widens S R s p size l m found w = λ t x.
    (let (u, e, b) = w t (x, sym (found t x)) in
    (u, e, b.0))

pub list_leads : (S R : Segments) (s p : ℕ) (size : StructSize) (l m : ExistingList) → ((t : Tree) → IsStored S s p t → Ok (Some l) ≡ list_in (target S s p) Void t) → WidensTo l size (rewriting s p S R) m → LeadsToWiderList size (rewriting s p S R) (Some m)
list_leads S R s p size l m found w = λ t u x e.
    (let (v, f, b) = w t (x, sym (found t x)) in
    let same : v ≡ u = same_tree v u (sym f ∙ e) in
    let there : BecomesList (rewriting s p S R) m t u = subst (λ z. BecomesList (rewriting s p S R) m t z) same b in
    (there.1, list_inside R s p u m there.0.stored there.1))

-- What a list of structs is, from what is found.
pub record AreStructs (S : Segments) (s p : ℕ) (t : Tree) (l : ExistingList) : Type 0 where
  pub elements : Elements
  pub tree : t ≡ Structs l.struct_size.data_words l.struct_size.pointers elements
  pub list : l ≡ struct_list (target S s p) l.struct_size.data_words l.struct_size.pointers (element_count elements)

pub are_structs : (S : Segments) (s p : ℕ) (t : Tree) (l : ExistingList) → size_number l.size ≡ 7 → IsList S s p l t → AreStructs S s p t l
are_structs S s p t l is i =
    by_list S s p l (λ u o. size_number o.size ≡ 7 → AreStructs S s p u o) (λ w ns x seven. absurd (omega (arith, seven, number_of_size w (flat_width S s p w ns x), flat_width S s p w ns x))) (λ ts x seven. absurd (omega arith))
    (λ d k es x seven. record { elements = es; tree = refl; list = refl }) t i is

-- A list of structs that is wide enough stays.
pub structs_kept : (S : Segments) (s p : ℕ) (l : ExistingList) (size : StructSize) → size_number l.size ≡ 7 → size.data_words ≤ l.struct_size.data_words → size.pointers ≤ l.struct_size.pointers → WidensTo l size (rewriting s p S S) l
structs_kept S s p l size is wide many = λ t i.
    (let k = are_structs S s p t l is i in
    (t, ap (list_widened size.data_words size.pointers) k.tree ∙ structs_stay size.data_words size.pointers l.struct_size.data_words l.struct_size.pointers k.elements wide many ∙ ap Ok (sym k.tree), (unchanged S s p t i.0, i.1)))

-- Structs that are large enough aren't remade.
pub structs_not_anew : (a : View) (s p : ℕ) (l : ExistingList) (size : StructSize) → size_number l.size ≡ 7 → size.data_words ≤ l.struct_size.data_words → size.pointers ≤ l.struct_size.pointers → WidensListAnew (IsList a.words s p l) size (call_at s p a a)
structs_not_anew a s p l size is wide many = λ t u i some e narrow.
    (let k = are_structs a.words s p t l is i in
    absurd (narrow (subst (λ z. HasSections size z) (sym k.tree) (wide, many))))
