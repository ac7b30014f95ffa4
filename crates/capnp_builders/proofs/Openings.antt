-- Structs and lists of structs that are opened for writing, as places of builders.
use Rattle.std.proofs.Common.{◌≡◌, ℕ, ◌+◌, ◌^◌, ◌<◌, ◌≤◌, List, length, Option, Some, None, Result, Ok, Err, sym, ap, ◌∙◌, subst, arith}
use Rattle.capnp_words.specs.declared.error.ErrorKind.{ErrorKind}
use Rattle.capnp_format.specs.Segments.{Segments, segment, Target, Grows, IsPlace}
use Rattle.capnp_format.specs.Tree.{Tree, Null, Capability, Struct, Flat, Pointers, Structs, Trees}
use Rattle.capnp_format.specs.Means.{Means}
use Rattle.capnp_format.specs.Forest.{target, target_in}
use Rattle.capnp_words.specs.declared.wire_pointer.ElementSize.TheVariants.{Void}
use Rattle.capnp_words.specs.declared.wire_pointer.StructSize.{StructSize}
use Rattle.capnp_arena_traits.specs.View.{View}
use Rattle.capnp_in_place.specs.declared.existing.ExistingList.{ExistingList}
use Rattle.capnp_in_place.specs.declared.existing.ExistingStruct.{ExistingStruct}
use Rattle.capnp_allocation.specs.Stored.{IsStored}
use Rattle.capnp_allocation.proofs.Leading.{leads_segment}
use Rattle.capnp_readers.specs.declared.readers.list_reader.ListPlace.{ListPlace}
use Rattle.capnp_readers.specs.declared.readers.struct_reader.StructPlace.{StructPlace}
use Rattle.capnp_allocation.specs.Makes.{CallAt, call_at}
use Rattle.capnp_in_place.specs.Opening.{Opens, struct_opened, LeadsToOne, LeadsToAll, OpensStruct, OpensExistingList as OpensAll}
use Rattle.capnp_in_place.specs.Widened.{list_widened}
use Rattle.capnp_in_place.proofs.WiderObjects.StructBySteps.{no_struct, same_struct, the_struct}
use Rattle.capnp_builders.specs.Found.{list_given, void_list}
use Rattle.capnp_builders.specs.Opening.{IsStructGiven, IsListGiven, OpensList}
use Rattle.capnp_builders.specs.Places.{struct_place}
use Rattle.capnp_builders.proofs.StructPlaces.{struct_starts}
use Rattle.capnp_builders.proofs.FoundLists.{given_inside}

-- a result isn't both a success and a refusal; and other forms of results

no_error : {A : Type 0} (x : A) (k : ErrorKind) → ◌≡◌ {A = Result A ErrorKind} (Ok x) (Err k) → ⊥
no_error x k e = cc

pub same_error : {A : Type 0} (k l : ErrorKind) → ◌≡◌ {A = Result A ErrorKind} (Err k) (Err l) → k ≡ l
same_error k l e = cc

opens_as : {A B : Type 0} (size : StructSize) (c : CallAt) (t : Tree) (r : Result Tree ErrorKind) (G : Segments → ℕ → ℕ → Tree → A → Type 0) (H : Segments → ℕ → ℕ → Tree → B → Type 0) (x : A) (y : B) →
    ((u : Tree) → IsStored c.new.words c.segment c.at u → G c.new.words c.segment c.at u x → H c.new.words c.segment c.at u y) → Opens size G c t r (Ok x) → Opens size H c t r (Ok y)
opens_as size c t (Ok u) G H x y f o = record { replaced = o.replaced; leads = f u o.replaced.stored o.leads; memory = o.memory; unchanged = o.unchanged; anew = o.anew }
opens_as size c t (Err k) G H x y f o = absurd (no_error x k o.0)

refused_as : {A B : Type 0} (size : StructSize) (c : CallAt) (t : Tree) (r : Result Tree ErrorKind) (G : Segments → ℕ → ℕ → Tree → A → Type 0) (H : Segments → ℕ → ℕ → Tree → B → Type 0) (k : ErrorKind) →
    Opens size G c t r (Err k) → Opens size H c t r (Err k)
refused_as size c t (Ok u) G H k o = o
refused_as size c t (Err l) G H k o = (ap (λ i. Err i) (same_error k l o.0), o.1)

-- a struct

struct_exists : (S : Segments) (s p : ℕ) (ws : List ℕ) (ts : Trees) → s < length S → IsStored S s p (Struct ws ts) → (target S s p).segment < length S
struct_exists S s p ws ts there stored = at_level stored.means.0 stored.means.1 stored.means.2
  where
    at_level : (n c : ℕ) → Means S n s p (Struct ws ts) c → (target S s p).segment < length S
    at_level n c (a, k, some, o, claim, words, all, g) = subst (λ (b : Target). b.segment < length S) (sym (ap target_in o.leads_to.1)) (leads_segment S s p a there o.leads_to.1)

-- What is known about the place of a struct that was opened.
pub record PlaceOf (S : Segments) (s : ℕ) (e : ExistingStruct) (place : StructPlace) : Type 0 where
  pub there : s < length S
  pub small : length (segment S e.segment) < 2 ^ 32
  pub placed : e.start + e.size.data_words < 2 ^ 32 → place ≡ struct_place e

one_given : (S : Segments) (s p : ℕ) (ws : List ℕ) (ts : Trees) (e : ExistingStruct) (place : StructPlace) → PlaceOf S s e place → IsStored S s p (Struct ws ts) → the_struct S s p ws ts ≡ e →
    e.start + e.size.data_words + e.size.pointers ≤ length (segment S e.segment) → IsStructGiven S s p (Struct ws ts) place
one_given S s p ws ts e place k stored is inside =
    let placed : place ≡ struct_place e = k.placed (omega (arith, inside, k.small)) in
    let starts = struct_starts place e placed in
    let seg : place.segment ≡ (target S s p).segment = starts.0 ∙ sym (ap (λ (x : ExistingStruct). x.segment) is) in
    let long : length (segment S place.segment) ≡ length (segment S e.segment) = ap (λ v. length (segment S v)) starts.0 in
    (placed ∙ sym (ap struct_place is), (omega (arith, seg, struct_exists S s p ws ts k.there stored), omega (arith, starts.1, starts.2, inside, long), omega (arith, starts.3, starts.4, inside, long)))

struct_given : (S : Segments) (s p : ℕ) (e : ExistingStruct) (place : StructPlace) → PlaceOf S s e place → (u : Tree) → IsStored S s p u → LeadsToOne S s p u e → IsStructGiven S s p u place
struct_given S s p e place k Null stored leads = absurd (no_struct e leads.0)
struct_given S s p e place k (Capability i) stored leads = absurd (no_struct e leads.0)
struct_given S s p e place k (Struct ws ts) stored leads = one_given S s p ws ts e place k stored (same_struct _ e leads.0) leads.1
struct_given S s p e place k (Flat n ns) stored leads = absurd (no_struct e leads.0)
struct_given S s p e place k (Pointers ts) stored leads = absurd (no_struct e leads.0)
struct_given S s p e place k (Structs d q es) stored leads = absurd (no_struct e leads.0)

pub struct_opens : (a b : View) (s p : ℕ) (t : Tree) (size : StructSize) (e : ExistingStruct) (place : StructPlace) → PlaceOf b.words s e place → OpensStruct LeadsToOne size (Ok e) (call_at s p a b) t → OpensStruct IsStructGiven size (Ok place) (call_at s p a b) t
struct_opens a b s p t size e place k o = opens_as size (call_at s p a b) t (struct_opened size t) LeadsToOne IsStructGiven e place (struct_given b.words s p e place k) o

pub struct_refused : (a b : View) (s p : ℕ) (t : Tree) (size : StructSize) (k : ErrorKind) → OpensStruct LeadsToOne size (Err k) (call_at s p a b) t → OpensStruct IsStructGiven size (Err k) (call_at s p a b) t
struct_refused a b s p t size k o = refused_as size (call_at s p a b) t (struct_opened size t) LeadsToOne IsStructGiven k o

-- a list of structs

list_leads : (S : Segments) (s p : ℕ) (l : Option ExistingList) (place : ListPlace) → p < length (segment S s) → list_given s (Ok l) ≡ Ok place → (u : Tree) → IsStored S s p u → LeadsToAll S s p u l → IsListGiven S s p u place
list_leads S s p l place there given u stored leads = (ap (list_given s) leads.0 ∙ given, given_inside S s p Void u l place there stored leads.0 given)

null_list : (s : ℕ) (l : Option ExistingList) (place : ListPlace) → ◌≡◌ {A = Result (Option ExistingList) ErrorKind} (Ok l) (Ok None) → list_given s (Ok l) ≡ Ok place → ◌≡◌ {A = Result ListPlace ErrorKind} (Ok place) (Ok (void_list s))
null_list s (Some l) place e given = cc
null_list s None place e given = sym given

pub list_opens : (a b : View) (s p : ℕ) (t : Tree) (size : StructSize) (l : Option ExistingList) (place : ListPlace) → p < length (segment b.words s) → list_given s (Ok l) ≡ Ok place → OpensAll size (Ok l) (call_at s p a b) t →
    OpensList size (Ok place) (call_at s p a b) t
list_opens a b s p Null size l place there given o = (null_list s l place o.0 given, o.1)
list_opens a b s p (Capability i) size l place there given o = opens_as size (call_at s p a b) (Capability i) (list_widened size.data_words size.pointers (Capability i)) LeadsToAll IsListGiven l place (list_leads b.words s p l place there given) o
list_opens a b s p (Struct ws ts) size l place there given o = opens_as size (call_at s p a b) (Struct ws ts) (list_widened size.data_words size.pointers (Struct ws ts)) LeadsToAll IsListGiven l place (list_leads b.words s p l place there given) o
list_opens a b s p (Flat n ns) size l place there given o = opens_as size (call_at s p a b) (Flat n ns) (list_widened size.data_words size.pointers (Flat n ns)) LeadsToAll IsListGiven l place (list_leads b.words s p l place there given) o
list_opens a b s p (Pointers ts) size l place there given o = opens_as size (call_at s p a b) (Pointers ts) (list_widened size.data_words size.pointers (Pointers ts)) LeadsToAll IsListGiven l place (list_leads b.words s p l place there given) o
list_opens a b s p (Structs d q es) size l place there given o = opens_as size (call_at s p a b) (Structs d q es) (list_widened size.data_words size.pointers (Structs d q es)) LeadsToAll IsListGiven l place (list_leads b.words s p l place there given) o

pub list_refused : (a b : View) (s p : ℕ) (t : Tree) (size : StructSize) (k : ErrorKind) → OpensAll size (Err k) (call_at s p a b) t → OpensList size (Err k) (call_at s p a b) t
list_refused a b s p Null size k o = absurd (no_error None k (sym o.0))
list_refused a b s p (Capability i) size k o = refused_as size (call_at s p a b) (Capability i) (list_widened size.data_words size.pointers (Capability i)) LeadsToAll IsListGiven k o
list_refused a b s p (Struct ws ts) size k o = refused_as size (call_at s p a b) (Struct ws ts) (list_widened size.data_words size.pointers (Struct ws ts)) LeadsToAll IsListGiven k o
list_refused a b s p (Flat n ns) size k o = refused_as size (call_at s p a b) (Flat n ns) (list_widened size.data_words size.pointers (Flat n ns)) LeadsToAll IsListGiven k o
list_refused a b s p (Pointers ts) size k o = refused_as size (call_at s p a b) (Pointers ts) (list_widened size.data_words size.pointers (Pointers ts)) LeadsToAll IsListGiven k o
list_refused a b s p (Structs d q es) size k o = refused_as size (call_at s p a b) (Structs d q es) (list_widened size.data_words size.pointers (Structs d q es)) LeadsToAll IsListGiven k o

-- the place is still there in a message with no fewer words

pub still_there : (a m b : View) (s p : ℕ) → IsPlace a.words s p → Grows a.words m.words → Grows m.words b.words → IsPlace b.words s p
still_there a m b s p place grows longer = omega (arith, place, grows.words s, longer.words s)
