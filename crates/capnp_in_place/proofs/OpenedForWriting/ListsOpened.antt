-- Lists of structs that are opened for writing.
use Rattle.std.proofs.Common.{◌≡◌, ◌⊎◌, inl, inr, ℕ, ◌≤◌, Option, None, Result, Ok, Err, IsOk, IfOk, refl, sym, ap, subst}
use Rattle.capnp_words.specs.declared.error.ErrorKind.{ErrorKind}
use Rattle.capnp_format.specs.Tree.{Tree, Null, Capability, Struct, Flat, Pointers, Structs, Elements}
use Rattle.capnp_format.specs.Forest.{target}
use Rattle.capnp_words.specs.declared.wire_pointer.ElementSize.TheVariants.{Void}
use Rattle.capnp_words.specs.declared.wire_pointer.StructSize.{StructSize}
use Rattle.capnp_arena_traits.specs.View.{View}
use Rattle.capnp_in_place.specs.declared.existing.ExistingList.{ExistingList}
use Rattle.capnp_in_place.specs.Existing.{list_in}
use Rattle.capnp_allocation.specs.Stored.{IsStored, IsReplaced}
use Rattle.capnp_allocation.specs.Makes.{call_at}
use Rattle.capnp_in_place.specs.Opening.{Opens, OpensExistingList, LeadsToAll}
use Rattle.capnp_in_place.specs.RowsRemade.{MakesListWider}
use Rattle.capnp_in_place.specs.Widened.{HasSections, list_widened}
use Rattle.capnp_in_place.proofs.WiderObjects.WhichList.{never_refused, same_tree}
use Rattle.capnp_in_place.proofs.Room.RoomLeft.{not_true}
use Rattle.capnp_in_place.proofs.OpenedForWriting.StructsOpened.{stands_grown}

-- Null, or structs that are large enough.
abbrev pub Stays : View → ℕ → ℕ → StructSize → Type 0
Stays a s p size = IsStored a.words s p Null ⊎ ((d : ℕ) × (q : ℕ) × (es : Elements) × IsStored a.words s p (Structs d q es) × (size.data_words ≤ d) × (size.pointers ≤ q))

-- What a call states that makes a list one of larger structs.
pub record Widens (a b : View) (s p : ℕ) (size : StructSize) (r : Result (Option ExistingList) ErrorKind) : Type 0 where
  pub widened : IfOk r (λ m. (t : Tree) → IsStored a.words s p t → (u : Tree) × (list_widened size.data_words size.pointers t ≡ Ok u) × IsReplaced a.words b.words s p t u × LeadsToAll b.words s p u m)
  pub wider : MakesListWider r (IsStored a.words s p) size (call_at s p a b)
  pub stays : Stays a s p size → IsOk r × (b ≡ a)

-- A list that has these sections is one of large enough structs.
sections_stay : (a : View) (s p : ℕ) (t u : Tree) (size : StructSize) → IsStored a.words s p t → list_widened size.data_words size.pointers t ≡ Ok u → HasSections size t → Stays a s p size
sections_stay a s p Null u size stored e h = absurd h
sections_stay a s p (Capability i) u size stored e h = absurd h
sections_stay a s p (Struct ws ts) u size stored e h = absurd (never_refused u _ (list_widened size.data_words size.pointers (Struct ws ts)) e refl)
sections_stay a s p (Flat w ns) u size stored e h = absurd h
sections_stay a s p (Pointers ts) u size stored e h = absurd h
sections_stay a s p (Structs d q es) u size stored e h = inr (d, q, es, stored, h.0, h.1)

-- A list that isn't null.
opens_some : (a b : View) (s p : ℕ) (t : Tree) (size : StructSize) (r : Result (Option ExistingList) ErrorKind) → IsStored a.words s p t → (t ≡ Null → ⊥) → Widens a b s p size r →
    Opens size LeadsToAll (call_at s p a b) t (list_widened size.data_words size.pointers t) r
opens_some a b s p t size (Ok m) stored some w =
    let (u, e, made, leads) = w.widened t stored in
    subst (λ x. Opens size LeadsToAll (call_at s p a b) t x (Ok m)) (sym e) (record {
      replaced = made;
      leads = leads;
      memory = w.wider.granted;
      unchanged = λ h. (w.stays (sections_stay a s p t u size stored e h)).1;
      anew = λ narrow. w.wider.anew t u stored some e narrow;
    })
opens_some a b s p t size (Err k) stored some w = by_value (list_widened size.data_words size.pointers t) refl
  where
    by_value : (x : Result Tree ErrorKind) → list_widened size.data_words size.pointers t ≡ x → Opens size LeadsToAll (call_at s p a b) t x (Err k)
    by_value (Err j) e = let (same, named) = w.wider.exact t j stored e in (ap (λ l. Err l) named, same)
    by_value (Ok u) e = elim w.wider.named [
      | inl (same, refused) ↦ absurd (never_refused u k (list_widened size.data_words size.pointers t) e (refused t stored))
      | inr growth ↦ record {
        stands = stands_grown a.words b.words s p t stored (w.wider.refused t stored);
        narrow = λ h. not_true (w.stays (sections_stay a s p t u size stored e h)).0;
        memory = growth.memory;
        taken = w.wider.few t u stored e;
        full = growth.full t u stored e;
      }
    ]

-- Null is opened as None.
null_list : (a b : View) (s p : ℕ) (size : StructSize) (r : Result (Option ExistingList) ErrorKind) → IsStored a.words s p Null → Widens a b s p size r → r ≡ Ok None
null_list a b s p size (Ok m) stored w =
    let (u, e, made, leads) = w.widened Null stored in
    let null : Null ≡ u = same_tree Null u e in
    sym (subst (λ x. list_in (target b.words s p) Void x ≡ Ok m) (sym null) leads.0)
null_list a b s p size (Err k) stored w = absurd (not_true (w.stays (inl stored)).0)

pub list_opened : (a b : View) (s p : ℕ) (t : Tree) (size : StructSize) (r : Result (Option ExistingList) ErrorKind) → IsStored a.words s p t → Widens a b s p size r → OpensExistingList size r (call_at s p a b) t
list_opened a b s p Null size r stored w = (null_list a b s p size r stored w, (w.stays (inl stored)).1)
list_opened a b s p (Capability i) size r stored w = opens_some a b s p (Capability i) size r stored (λ e. cc) w
list_opened a b s p (Struct ws ts) size r stored w = opens_some a b s p (Struct ws ts) size r stored (λ e. cc) w
list_opened a b s p (Flat n ns) size r stored w = opens_some a b s p (Flat n ns) size r stored (λ e. cc) w
list_opened a b s p (Pointers ts) size r stored w = opens_some a b s p (Pointers ts) size r stored (λ e. cc) w
list_opened a b s p (Structs d q es) size r stored w = opens_some a b s p (Structs d q es) size r stored (λ e. cc) w
