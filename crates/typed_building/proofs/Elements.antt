-- What becomes of a list of pointers if one of them gets another value.
use Rattle.std.proofs.Common.{◌≡◌, ℕ, ◌+◌, ◌*◌, ◌/◌, ◌<◌, [], ◌∷◌, Result, Ok, Err, refl, sym, ap, ◌∙◌, subst, arith}
use Rattle.capnp_words.specs.declared.error.ErrorKind.{ErrorKind}
use Rattle.capnp_arena_traits.specs.View.{View}
use Rattle.capnp_format.specs.Forest.{target, target_in}
use Rattle.capnp_format.specs.Means.{Leads, Means}
use Rattle.capnp_format.specs.Path.{Element, put_tree, tree_at}
use Rattle.capnp_format.specs.Segments.{Segments, Target}
use Rattle.capnp_format.specs.Tree.{Tree, Null, Pointers, Trees, count}
use Rattle.capnp_allocation.specs.Makes.{MakesObject, call_at}
use Rattle.capnp_allocation.specs.Stored.{IsReplaced, IsStored}
use Rattle.capnp_allocation.proofs.Filling.{holder_put, pointers_holder}
use Rattle.capnp_allocation.proofs.Replace.{put_tree-count}
use Rattle.capnp_allocation.proofs.Replaced.{stored_within}
use Rattle.capnp_readers.specs.declared.readers.list_reader.ListPlace.{ListPlace}
use Rattle.capnp_builders.specs.Held.{HasList}
use Rattle.typed_building.specs.Elements.{MakesElement, list_call}
use Rattle.typed_building.specs.There.{call_on_element}

pointers_lead : (S : Segments) (s p : ℕ) (ts : Trees) → IsStored S s p (Pointers ts) → Leads S s p (target S s p)
pointers_lead S s p ts y = (let m = y.means in there m.0 m.1 m.2)
  where
    there : (n c : ℕ) → Means S n s p (Pointers ts) c → Leads S s p (target S s p)
    there n c (a, k, some, o, claim, all, g) = subst (λ (t : Target). Leads S s p t) (sym (ap target_in o.leads_to.1)) o.leads_to

-- the value of an element
element_stored : (S : Segments) (s p : ℕ) (list : ListPlace) (ts : Trees) (i : ℕ) → i < list.count → HasList S s p list (Pointers ts) → IsStored S list.segment (list.byte / 8 + i) (tree_at ts i)
element_stored S s p list ts i range h =
    let a : Target = target S s p in
    let seg : list.segment ≡ a.segment = ap (λ (l : ListPlace). l.segment) h.is_place in
    let byte : list.byte ≡ 8 * a.start = ap (λ (l : ListPlace). l.byte) h.is_place in
    let at : a.start + i ≡ list.byte / 8 + i = omega (arith, byte) in
    let less : i < count ts = omega (arith, range, h.plain.1) in
    let way = (pointers_holder s p (count ts) a).leads S ts i (pointers_lead S s p ts h.stored) refl less in
    let there : IsStored S a.segment (a.start + i) (tree_at ts i) = stored_within S s p (Pointers ts) (Element i ∷ []) a.segment (a.start + i) (tree_at ts i) way h.stored in
    subst (λ z. IsStored S z (list.byte / 8 + i) (tree_at ts i)) (sym seg) (subst (λ z. IsStored S a.segment z (tree_at ts i)) at there)

element_turns : (S R : Segments) (s p : ℕ) (list : ListPlace) (ts : Trees) (i : ℕ) (u : Tree) → i < list.count → IsReplaced S R list.segment (list.byte / 8 + i) (tree_at ts i) u → HasList S s p list (Pointers ts) → IsReplaced S R s p (Pointers ts) (Pointers (put_tree ts i u)) × Leads R s p (target S s p)
element_turns S R s p list ts i u range puts h =
    let a : Target = target S s p in
    let seg : list.segment ≡ a.segment = ap (λ (l : ListPlace). l.segment) h.is_place in
    let byte : list.byte ≡ 8 * a.start = ap (λ (l : ListPlace). l.byte) h.is_place in
    let at : list.byte / 8 + i ≡ a.start + i = omega (arith, byte) in
    let less : i < count ts = omega (arith, range, h.plain.1) in
    let there : IsReplaced S R a.segment (a.start + i) (tree_at ts i) u = subst (λ z. IsReplaced S R z (a.start + i) (tree_at ts i) u) seg (subst (λ z. IsReplaced S R list.segment z (tree_at ts i) u) at puts) in
    holder_put Pointers (λ j. Element j ∷ []) S R s p (count ts) a a.start (count ts) ts i u (pointers_holder s p (count ts) a) (record { stored = h.stored; leads = pointers_lead S s p ts h.stored }) refl less (λ y. there)

pub element_set : (S R : Segments) (s p : ℕ) (list : ListPlace) (ts : Trees) (i : ℕ) (u : Tree) → i < list.count → IsReplaced S R list.segment (list.byte / 8 + i) (tree_at ts i) u → HasList S s p list (Pointers ts) → HasList R s p list (Pointers (put_tree ts i u))
element_set S R s p list ts i u range puts h =
    let turned = element_turns S R s p list ts i u range puts h in
    let to_a : target R s p ≡ target S s p = ap target_in turned.1.1 in
    record { stored = turned.0.stored; plain = (h.plain.0, h.plain.1 ∙ sym (put_tree-count ts i u)); is_place = rw to_a h.is_place }

-- an object for an element, or null after a refusal

pub object_at : {V : Type 0} (r : Result V ErrorKind) (old new : View) (list : ListPlace) (i s at : ℕ) (u : Tree) (n : ℕ) → MakesObject r (call_at s at old new) u n → s ≡ list.segment → at ≡ list.byte / 8 + i → MakesObject r (call_on_element list i old new) u n
object_at r old new list i s at u n made of_segment is =
    subst (λ z. MakesObject r (call_at list.segment z old new) u n) is (subst (λ z. MakesObject r (call_at z at old new) u n) of_segment made)

pub element_made : {V : Type 0} (r : Result V ErrorKind) (old new : View) (list : ListPlace) (i : ℕ) (u : Tree) (n : ℕ) → MakesObject r (call_on_element list i old new) u n → i < list.count → MakesElement r (list_call list old.words new.words) i u
element_made (Ok v) old new list i u n made range = record {
  sets = λ s p ts h. element_set old.words new.words s p list ts i u range (made.made (tree_at ts i) (element_stored old.words s p list ts i range h)) h;
  replaces = λ s p ts h. (element_turns old.words new.words s p list ts i u range (made.made (tree_at ts i) (element_stored old.words s p list ts i range h)) h).0;
  refused = λ s p ts h. tt;
  emptied = λ s p ts h. tt;
}
element_made (Err k) old new list i u n made range = record {
  sets = λ s p ts h. tt;
  replaces = λ s p ts h. tt;
  refused = λ s p ts h. element_set old.words new.words s p list ts i Null range (made.refused (tree_at ts i) (element_stored old.words s p list ts i range h)) h;
  emptied = λ s p ts h. (element_turns old.words new.words s p list ts i Null range (made.refused (tree_at ts i) (element_stored old.words s p list ts i range h)) h).0;
}
