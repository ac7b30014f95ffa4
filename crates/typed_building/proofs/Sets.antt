-- What calls that are made of two do to a struct: the tag of a union, and then its member.
use Rattle.std.proofs.Common.{◌≡◌, ℕ, zero, suc, ◌+◌, ◌<◌, Bool, true, false, cond, not, refl, List, [], ◌∷◌, ◌++◌, length, get_or, Result, Ok, Err, sym, subst, arith}
use Rattle.capnp_words.specs.declared.error.ErrorKind.{ErrorKind}
use Rattle.capnp_format.specs.Path.{put_tree, tree_at}
use Rattle.capnp_format.specs.Segments.{Segments}
use Rattle.capnp_format.specs.Tree.{Tree, Null, Trees}
use Rattle.capnp_allocation.specs.Stored.{IsReplaced, Puts}
use Rattle.capnp_allocation.proofs.Filling.{unchanged}
use Rattle.capnp_allocation.proofs.Replaced.{replaced_again}
use Rattle.capnp_readers.specs.declared.readers.struct_reader.StructPlace.{StructPlace}
use Rattle.capnp_builders.specs.Held.{CallIn, HasStruct, MakesChild, ReplacesChild, ReplacesField, SetsChild, SetsField, call_in, held_tree}
use Rattle.capnp_builders.proofs.HeldStructs.{child_replaced, child_set, child_stored}
use Rattle.capnp_builders.specs.Places.{Field, field}
use Rattle.typed_building.specs.Members.{MakesMember, ReplacesChildMember, ReplacesMember, SetsChildMember, SetsMember, tag_field, with_data}
use Rattle.typed_building.specs.Slots.{BeginsGroup, HoldsSlot, HoldsSlots, ReplacesGroup, ReplacesSlots, ZeroesSlots, null_child, null_children, zero_all_data, zero_data}
use Rattle.typed_building.specs.declared.slots.Slot.{Slot}
use Rattle.typed_building.specs.declared.tag.UnionTag.{UnionTag}

-- the opposite of a bit
pub cond_not : (b : Bool) → ◌≡◌ {A = ℕ} (cond (not b) 1 0) (cond b 0 1)
cond_not true = refl
cond_not false = refl

-- the value that is written comes out of another call
pub sets_as : (c : CallIn) (start bits v u : ℕ) → SetsField c (field start bits v) → v ≡ u → SetsField c (field start bits u)
sets_as c start bits v u h e = subst (λ z. SetsField c (field start bits z)) e h

pub replaces_as : (c : CallIn) (start bits v u : ℕ) → ReplacesField c (field start bits v) → v ≡ u → ReplacesField c (field start bits u)
replaces_as c start bits v u h e = subst (λ z. ReplacesField c (field start bits z)) e h

pub sets_member_as : (c : CallIn) (tag : UnionTag) (start bits v u : ℕ) → SetsMember c tag (field start bits v) → v ≡ u → SetsMember c tag (field start bits u)
sets_member_as c tag start bits v u h e = subst (λ z. SetsMember c tag (field start bits z)) e h

pub replaces_member_as : (c : CallIn) (tag : UnionTag) (start bits v u : ℕ) → ReplacesMember c tag (field start bits v) → v ≡ u → ReplacesMember c tag (field start bits u)
replaces_member_as c tag start bits v u h e = subst (λ z. ReplacesMember c tag (field start bits z)) e h

-- a member that is a number
pub sets_member : (S M R : Segments) (place : StructPlace) (tag : UnionTag) (f : Field) → SetsField (call_in place S M) (tag_field tag) → SetsField (call_in place M R) f → SetsMember (call_in place S R) tag f
sets_member S M R place tag f first then = λ x ws ts h. then x (with_data ws (tag_field tag)) ts (first x ws ts h)

pub replaces_member : (S M R : Segments) (place : StructPlace) (tag : UnionTag) (f : Field) → SetsField (call_in place S M) (tag_field tag) → ReplacesField (call_in place S M) (tag_field tag) → ReplacesField (call_in place M R) f → ReplacesMember (call_in place S R) tag f
replaces_member S M R place tag f first replaced then = λ x ws ts h.
    (let vs : List ℕ = with_data ws (tag_field tag) in
    replaced_again S M R x.segment x.at (held_tree x.lead ws ts) (held_tree x.lead vs ts) (held_tree x.lead (with_data vs f) ts) (replaced x ws ts h) (then x vs ts (first x ws ts h)))

-- a member that is an object
pub makes_member : {V : Type 0} (r : Result V ErrorKind) (S M R : Segments) (place : StructPlace) (tag : UnionTag) (i : ℕ) (u : Tree) → SetsField (call_in place S M) (tag_field tag) → ReplacesField (call_in place S M) (tag_field tag) → MakesChild r (call_in place M R) i u → MakesMember r (call_in place S R) tag i u
makes_member (Ok v) S M R place tag i u first replaced then = record {
  sets = λ x ws ts h. then.sets x (with_data ws (tag_field tag)) ts (first x ws ts h);
  replaces = λ x ws ts h. replaced_again S M R x.segment x.at (held_tree x.lead ws ts) (held_tree x.lead (with_data ws (tag_field tag)) ts) (held_tree x.lead (with_data ws (tag_field tag)) (put_tree ts i u)) (replaced x ws ts h) (then.replaces x (with_data ws (tag_field tag)) ts (first x ws ts h));
  refused = λ x ws ts h. tt;
  emptied = λ x ws ts h. tt;
}
makes_member (Err k) S M R place tag i u first replaced then = record {
  sets = λ x ws ts h. tt;
  replaces = λ x ws ts h. tt;
  refused = λ x ws ts h. then.refused x (with_data ws (tag_field tag)) ts (first x ws ts h);
  emptied = λ x ws ts h. replaced_again S M R x.segment x.at (held_tree x.lead ws ts) (held_tree x.lead (with_data ws (tag_field tag)) ts) (held_tree x.lead (with_data ws (tag_field tag)) (put_tree ts i Null)) (replaced x ws ts h) (then.emptied x (with_data ws (tag_field tag)) ts (first x ws ts h));
}

-- a pointer that always gets its new value
pub sets_child : (S R : Segments) (place : StructPlace) (i at : ℕ) (u : Tree) → Puts S R place.segment at u → at ≡ place.pointers_at + i → i < place.pointers → SetsChild (λ z. z) (call_in place S R) i u
sets_child S R place i at u puts is inside = λ x ws ts h.
    (let there : Puts S R place.segment (place.pointers_at + i) u = subst (λ z. Puts S R place.segment z u) is puts in
    child_set S R x place ws ts i u inside (there (tree_at ts i) (child_stored S x place ws ts i inside h)) h)

pub replaces_child : (S R : Segments) (place : StructPlace) (i at : ℕ) (u : Tree) → Puts S R place.segment at u → at ≡ place.pointers_at + i → i < place.pointers → ReplacesChild (λ z. z) (call_in place S R) i u
replaces_child S R place i at u puts is inside = λ x ws ts h.
    (let there : Puts S R place.segment (place.pointers_at + i) u = subst (λ z. Puts S R place.segment z u) is puts in
    child_replaced S R x place ws ts i u inside (there (tree_at ts i) (child_stored S x place ws ts i inside h)) h)

-- a member that is a pointer, which always gets its new value
pub sets_child_member : (S M R : Segments) (place : StructPlace) (tag : UnionTag) (i : ℕ) (u : Tree) → SetsField (call_in place S M) (tag_field tag) → SetsChild (λ z. z) (call_in place M R) i u → SetsChildMember (λ z. z) (call_in place S R) tag i u
sets_child_member S M R place tag i u first then = λ x ws ts h. then x (with_data ws (tag_field tag)) ts (first x ws ts h)

pub replaces_child_member : (S M R : Segments) (place : StructPlace) (tag : UnionTag) (i : ℕ) (u : Tree) → SetsField (call_in place S M) (tag_field tag) → ReplacesField (call_in place S M) (tag_field tag) → ReplacesChild (λ z. z) (call_in place M R) i u → ReplacesChildMember (λ z. z) (call_in place S R) tag i u
replaces_child_member S M R place tag i u first replaced then = λ x ws ts h.
    (let vs : List ℕ = with_data ws (tag_field tag) in
    replaced_again S M R x.segment x.at (held_tree x.lead ws ts) (held_tree x.lead vs ts) (held_tree x.lead vs (put_tree ts i u)) (replaced x ws ts h) (then x vs ts (first x ws ts h)))

-- several parts that become zero, one after another

zero_last : (ws : List ℕ) (slots : List Slot) (slot : Slot) → zero_all_data ws (slots ++ slot ∷ []) ≡ zero_data (zero_all_data ws slots) slot
zero_last ws [] slot = refl
zero_last ws (first ∷ slots) slot = zero_last (zero_data ws first) slots slot

null_last : (ts : Trees) (slots : List Slot) (slot : Slot) → null_children ts (slots ++ slot ∷ []) ≡ null_child (null_children ts slots) slot
null_last ts [] slot = refl
null_last ts (first ∷ slots) slot = null_last (null_child ts first) slots slot

pub zeroes_last : (S M R : Segments) (place : StructPlace) (slots : List Slot) (slot : Slot) → ZeroesSlots (call_in place S M) slots → ZeroesSlots (call_in place M R) (slot ∷ []) → ZeroesSlots (call_in place S R) (slots ++ slot ∷ [])
zeroes_last S M R place slots slot first last = λ x ws ts h.
    (let vs : List ℕ = zero_all_data ws slots in
    let us : Trees = null_children ts slots in
    subst (λ y. HasStruct R x place (zero_all_data ws (slots ++ slot ∷ [])) y) (sym (null_last ts slots slot))
    (subst (λ y. HasStruct R x place y (null_child us slot)) (sym (zero_last ws slots slot)) (last x vs us (first x ws ts h))))

pub replaces_last : (S M R : Segments) (place : StructPlace) (slots : List Slot) (slot : Slot) → ZeroesSlots (call_in place S M) slots → ReplacesSlots (call_in place S M) slots → ReplacesSlots (call_in place M R) (slot ∷ []) → ReplacesSlots (call_in place S R) (slots ++ slot ∷ [])
replaces_last S M R place slots slot set first last = λ x ws ts h.
    (let vs : List ℕ = zero_all_data ws slots in
    let us : Trees = null_children ts slots in
    subst (λ y. IsReplaced S R x.segment x.at (held_tree x.lead ws ts) (held_tree x.lead (zero_all_data ws (slots ++ slot ∷ [])) y)) (sym (null_last ts slots slot))
    (subst (λ y. IsReplaced S R x.segment x.at (held_tree x.lead ws ts) (held_tree x.lead y (null_child us slot))) (sym (zero_last ws slots slot))
    (replaced_again S M R x.segment x.at (held_tree x.lead ws ts) (held_tree x.lead vs us) (held_tree x.lead (zero_data vs slot) (null_child us slot)) (first x ws ts h) (last x vs us (set x ws ts h)))))

pub replaces_none : (S : Segments) (place : StructPlace) → ReplacesSlots (call_in place S S) []
replaces_none S place = λ x ws ts h. unchanged S x.segment x.at (held_tree x.lead ws ts) h.stored

-- the tag of a group, and then its parts

pub begins_group : (S M R : Segments) (place : StructPlace) (tag : UnionTag) (slots : List Slot) → SetsField (call_in place S M) (tag_field tag) → ZeroesSlots (call_in place M R) slots → BeginsGroup (call_in place S R) tag slots
begins_group S M R place tag slots first rest = λ x ws ts h. rest x (with_data ws (tag_field tag)) ts (first x ws ts h)

pub replaces_group : (S M R : Segments) (place : StructPlace) (tag : UnionTag) (slots : List Slot) → SetsField (call_in place S M) (tag_field tag) → ReplacesField (call_in place S M) (tag_field tag) → ReplacesSlots (call_in place M R) slots → ReplacesGroup (call_in place S R) tag slots
replaces_group S M R place tag slots first replaced rest = λ x ws ts h.
    (let vs : List ℕ = with_data ws (tag_field tag) in
    replaced_again S M R x.segment x.at (held_tree x.lead ws ts) (held_tree x.lead vs ts) (held_tree x.lead (zero_all_data vs slots) (null_children ts slots)) (replaced x ws ts h) (rest x vs ts (first x ws ts h)))

-- each of the parts is inside the struct
pub holds_at : (place : StructPlace) (slots : List Slot) (i : ℕ) (d : Slot) → i < length slots → HoldsSlots place slots → HoldsSlot place (get_or slots i d)
holds_at place [] i d less h = absurd (omega arith)
holds_at place (slot ∷ slots) zero d less h = h.0
holds_at place (slot ∷ slots) (suc i) d less h = holds_at place slots i d (omega arith) h.1
