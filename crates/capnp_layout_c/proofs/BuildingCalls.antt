-- A call of a builder over the arena that an export makes.
use Rattle.std.proofs.Common.{◌≡◌, ℕ, Bool, List, ◌+◌, ◌*◌, ◌/◌, ◌^◌, ◌<◌, ◌≤◌, zero, suc, length, nat_eq, refl, sym, ap, ◌∙◌, subst, arith, MutBor}
use Rattle.std.proofs.lemmas.Grind.{common_steps}
use Rattle.std.specs.Prelude.{IfOk, IsOk, Result, Ok, Err, slice_set}
use Rattle.capnp_format.specs.Segments.{Grows, Segments, segment, IsPlace}
use Rattle.capnp_words.specs.declared.error.ErrorKind.{ErrorKind}
use Rattle.capnp_arena_traits.specs.View.{View, KeepsLimits}
use Rattle.capnp_lent_arena.specs.Lent.{names, lent_view}
use Rattle.capnp_lent_arena.specs.LentArenaLemmas.{allocated_words}
use Rattle.capnp_lent_arena.specs.declared.lent_arena.LentArena.{LentArena}
use Rattle.capnp_arena.specs.contracts.arena.scratch_allocator.RefMutSliceU8Segment.TheImpl as Slice
use Rattle.std.proofs.lemmas.List.{length-replicate}
use Rattle.capnp_format.specs.Tree.{Flat, Tree, Trees, count}
use Rattle.capnp_words.specs.declared.wire_pointer.ElementSize.{ElementSize}
use Rattle.capnp_words.specs.declared.wire_pointer.ElementSize.TheVariants.{InlineComposite}
use Rattle.capnp_words.specs.declared.wire_pointer.StructSize.{StructSize}
use Rattle.capnp_allocation.specs.Stored.{IsStored}
use Rattle.capnp_in_place.specs.Opening.{LeadsToOne, OpensStruct}
use Rattle.capnp_in_place.specs.declared.existing.ExistingStruct.{ExistingStruct}
use Rattle.capnp_allocation.specs.Made.{nulls, words_of_zero}
use Rattle.capnp_builders.specs.Held.{HasList, HasStruct, Holder, MakesChild, ReplacesChild, ReplacesField, SetsChild, SetsField, call_in, struct_held}
use Rattle.capnp_builders.specs.Places.{Field, element_place}
use Rattle.capnp_readers.specs.declared.readers.list_reader.ListPlace.{ListPlace}
use Rattle.capnp_readers.specs.Readers.{IsStructPlace, IsListPlace}
use Rattle.capnp_readers.specs.declared.readers.struct_reader.StructPlace.{StructPlace}
use Rattle.capnp_allocation.specs.Makes.{Allocates, CallAt, MakesObject, call_at}
use Rattle.capnp_in_place.proofs.Room.PlacesStay.{object_grows}
use Rattle.capnp_builders.proofs.HeldMade.{child_made}
use Rattle.capnp_in_place.specs.Anew.{OnlyWrites}
use Rattle.capnp_in_place.specs.Rooms.{OpeningFits, UsesMemory}
use Rattle.capnp_in_place.specs.Widened.{IsAtLeast}
use Rattle.capnp_format.specs.Path.{put_tree}
use Rattle.capnp_readers.specs.Sections.{elements_words}
use Rattle.capnp_layout_c.specs.Buffers.{Buffer, Gives, buffer, placed_list, pointer_of, sized_at, placed_struct, view_in, words_in}
use Rattle.capnp_layout_c.specs.BuildingNumbers.{number_of_result}
use Rattle.capnp_layout_c.specs.Builds.{BuildsAt, MakesAt, OpensAt, PutsIn, WritesElement, WritesIn, call_of, existing_at}
use Rattle.capnp_layout_c.specs.declared.building.places.ListAt.{ListAt}
use Rattle.capnp_layout_c.specs.declared.building.places.StructAt.{StructAt}

-- The arena that an export makes.
abbrev pub Arena : Type 0
Arena = LentArena (MutBor (List ℕ)) Slice.ghosts

abbrev pub view : Arena → View
view a = lent_view Slice.ghosts (λ s. s.ghost_name) a

-- Equal offers name the same reference.
pub same_name : (γ δ : ℕ) → names δ ≡ names γ → γ ≡ δ
same_name γ δ e =
    let at : (ℕ → ℕ → Bool) → Bool = λ f. f γ 0 in
    let h : nat_eq γ δ ≡ nat_eq γ γ = ap at e in grind (arith, common_steps)

-- The arena as it is made.
pub started : (a : Arena) (bytes : List ℕ) (used : ℕ) → a.bytes.now ≡ bytes → a.used ≡ used →
    a.refused ≡ 0 → view a ≡ view_in a.bytes.ghost_name 0 bytes used
started a bytes used b u r = λ i. view_in a.bytes.ghost_name (r i) (b i) (u i)

-- A call that keeps the offers leaves in the buffer what it leaves in the arena.
pub tied : (a b : Arena) (x : List ℕ) {lent : MutBor (List ℕ)} → a.bytes ≡ lent →
    (view b).offers ≡ (view a).offers → (lent.ghost_name ≡ b.bytes.ghost_name → x ≡ b.bytes.now) →
    view b ≡ view_in a.bytes.ghost_name b.refused x b.used
tied a b x {lent} is e back' =
    let name : MutBor (List ℕ) → ℕ = λ s. s.ghost_name in
    let same = same_name a.bytes.ghost_name b.bytes.ghost_name e in
    let back : a.bytes.ghost_name ≡ b.bytes.ghost_name → x ≡ b.bytes.now = λ h. back' (sym (ap name is) ∙ h) in
    λ i. view_in (sym same i) b.refused (sym (back same) i) b.used

-- A call that allocates keeps the offers.
pub allocates_keeps : {A : Type 0} (r : Result A ErrorKind) (c : CallAt) (n : ℕ) → Allocates r c n →
    c.new.offers ≡ c.old.offers
allocates_keeps (Ok x) c n h = let f : View → ℕ → ℕ → Bool = λ v. v.offers in ap f h.granted.0
allocates_keeps (Err k) c n h = let f : View → ℕ → ℕ → Bool = λ v. v.offers in ap f h.named.1

-- A pointer of a struct that is inside of the message is a place of the arena.
pub pointer_there : (a : Arena) (used : ℕ) (p : StructAt) (index : ℕ) → a.used ≡ used → p.at + p.data_words + p.pointers ≤ used → index < p.pointers →
    IsPlace (view a).words 0 (p.at + p.data_words + index)
pointer_there a used p index u h l = omega (arith, allocated_words Slice.ghosts a, u, h, l)

-- So does one that only writes.
pub limits_keep : (old new : View) → KeepsLimits old new → new.offers ≡ old.offers
limits_keep old new h = let f : View → ℕ → ℕ → Bool = λ v. v.offers in ap f h

-- A call that only writes leaves as many words allocated.
pub used_kept : (a b : Arena) → OnlyWrites (view a) (view b) → b.used ≡ a.used
used_kept a b h = sym (allocated_words Slice.ghosts b) ∙ h.words 0 ∙ allocated_words Slice.ghosts a

-- So does one that may use memory.
pub uses_keeps : {A : Type 0} (r : Result A ErrorKind) (old new : View) → UsesMemory r old new → new.offers ≡ old.offers
uses_keeps (Ok x) old new h = let f : View → ℕ → ℕ → Bool = λ v. v.offers in ap f h.granted.0
uses_keeps (Err k) old new h = let f : View → ℕ → ℕ → Bool = λ v. v.offers in ap f h.refused.0

-- How the buffer of a call is tied to the arena that the call makes, and to what it leaves.
pub record Tie (a b : Arena) (old x : List ℕ) (from used : ℕ) : Type 0 where
  pub lent : MutBor (List ℕ)
  pub is : a.bytes ≡ lent
  pub was : lent.now ≡ old
  pub from_is : a.used ≡ from
  pub fresh : a.refused ≡ 0
  pub used_is : b.used ≡ used
  pub back : lent.ghost_name ≡ b.bytes.ghost_name → x ≡ b.bytes.now

module _ {a b : Arena} {old x : List ℕ} {from used : ℕ} (tie : Tie a b old x from used) where
  -- The arena before the call is the buffer before it.
  pub before : view a ≡ view_in a.bytes.ghost_name 0 old from
  before =
      let now : MutBor (List ℕ) → List ℕ = λ s. s.now in
      λ i. view_in a.bytes.ghost_name (tie.fresh i) ((ap now tie.is ∙ tie.was) i) (tie.from_is i)

  -- The arena after it is the buffer after it, if the call keeps the offers.
  pub after : (view b).offers ≡ (view a).offers → view b ≡ view_in a.bytes.ghost_name b.refused x used
  after e = tied a b x tie.is e tie.back ∙ ap (view_in a.bytes.ghost_name b.refused x) tie.used_is

  -- What is so of the arena's words is so of the buffer's.
  pub in_buffer : (P : Segments → Segments → Type 0) → (view b).offers ≡ (view a).offers →
      P (view a).words (view b).words → P (words_in old from) (words_in x used)
  in_buffer P e h =
      let words : View → Segments = λ w. w.words in
      subst (λ S. P S (words_in x used)) (ap words before) (subst (P (view a).words) (ap words (after e)) h)

  -- What a call does to the arena it does to the buffer.
  pub gives_what : {A : Type 0} (r : Result A ErrorKind) (number : ℕ) (Q : Result A ErrorKind → View → View → Type 0) →
      (view b).offers ≡ (view a).offers → number ≡ number_of_result r → Q r (view a) (view b) →
      Gives A number (buffer old from x used) Q
  gives_what r number Q e is h = record {
    found = r;
    name = a.bytes.ghost_name;
    refusals = b.refused;
    is = is;
    does = subst (λ v. Q r v (view_in a.bytes.ghost_name b.refused x used)) before (subst (λ v. Q r (view a) v) (after e) h);
  }

  -- A call that allocates keeps what is offered.
  pub kept_at : {A : Type 0} (r : Result A ErrorKind) (s p n : ℕ) (t : Tree) →
      MakesObject r (call_at s p (view a) (view b)) t n → (view b).offers ≡ (view a).offers
  kept_at r s p n t h = allocates_keeps r (call_at s p (view a) (view b)) n h.memory

  -- An object that the call makes in the arena, at a pointer of a struct, is made in the buffer.
  pub gives_built : {A : Type 0} (r : Result A ErrorKind) (place : StructPlace) (q : StructAt) (i : ℕ) (t : Tree) (n number : ℕ) →
      place ≡ placed_struct q → number ≡ number_of_result r →
      MakesObject r (call_at place.segment (place.pointers_at + i) (view a) (view b)) t n →
      MakesChild r (call_in place (view a).words (view b).words) i t →
      Grows (view a).words (view b).words →
      Gives A number (buffer old from x used) (BuildsAt q i t n)
  gives_built r place q i t n number is e object child grows =
      gives_what r number (BuildsAt q i t n) (kept_at r place.segment (place.pointers_at + i) n t object) e
      (record {
        object = subst (λ (y : StructPlace). MakesObject r (call_at y.segment (y.pointers_at + i) (view a) (view b)) t n) is object;
        child = subst (λ (y : StructPlace). MakesChild r (call_in y (view a).words (view b).words) i t) is child;
        grows = grows;
      })

  -- A field that the call writes in the arena is written in the buffer.
  pub written : (place : StructPlace) (q : StructAt) (f : Field) → place ≡ placed_struct q →
      OnlyWrites (view a) (view b) →
      SetsField (call_in place (view a).words (view b).words) f →
      ReplacesField (call_in place (view a).words (view b).words) f →
      Grows (view a).words (view b).words → WritesIn (call_of (buffer old from x used) q) f
  written place q f is memory sets replaces grows =
      in_buffer (λ S T. WritesIn (call_in (placed_struct q) S T) f) (limits_keep (view a) (view b) memory.limits)
      (record {
        sets = subst (λ (y : StructPlace). SetsField (call_in y (view a).words (view b).words) f) is sets;
        replaces = subst (λ (y : StructPlace). ReplacesField (call_in y (view a).words (view b).words) f) is replaces;
        grows = grows;
      })

  -- A child that the call puts in the arena is put in the buffer.
  pub put_in : (place : StructPlace) (q : StructAt) (i : ℕ) (u : Tree) → place ≡ placed_struct q →
      OnlyWrites (view a) (view b) →
      SetsChild (λ after. after) (call_in place (view a).words (view b).words) i u →
      ReplacesChild (λ after. after) (call_in place (view a).words (view b).words) i u →
      Grows (view a).words (view b).words → PutsIn (call_of (buffer old from x used) q) i u
  put_in place q i u is memory sets replaces grows =
      in_buffer (λ S T. PutsIn (call_in (placed_struct q) S T) i u) (limits_keep (view a) (view b) memory.limits)
      (record {
        sets = subst (λ (y : StructPlace). SetsChild (λ after. after) (call_in y (view a).words (view b).words) i u) is sets;
        replaces = subst (λ (y : StructPlace). ReplacesChild (λ after. after) (call_in y (view a).words (view b).words) i u) is replaces;
        grows = grows;
      })

  -- What the call opens in the arena it opens in the buffer.
  pub gives_opened : (r : Result ExistingStruct ErrorKind) (number at p : ℕ) (size : StructSize) (inner : StructAt) →
      at ≡ p → number ≡ number_of_result r →
      ((t : Tree) → IsStored (view a).words 0 at t → OpensStruct LeadsToOne size r (call_at 0 at (view a) (view b)) t) →
      IfOk r (λ e. inner ≡ existing_at e) → IfOk r (IsAtLeast size) →
      UsesMemory r (view a) (view b) → Grows (view a).words (view b).words →
      (OpeningFits (view a) 0 at size → IsOk r) →
      Gives ExistingStruct number (buffer old from x used) (OpensAt p size inner)
  gives_opened r number at p size inner same is opens inner_is wide memory grows fits =
      gives_what r number (OpensAt p size inner) (uses_keeps r (view a) (view b) memory) is
      (subst (λ n. OpensAt n size inner r (view a) (view b)) same
      (record { opens = opens; inner_is = inner_is; wide = wide; fits = fits; grows = grows }))

  -- An element that the call writes in the arena is written in the buffer.
  pub element_written : (size : ElementSize) (l : ListAt) (list : ListPlace) (i value : ℕ) → list ≡ placed_list size l →
      OnlyWrites (view a) (view b) →
      ((s p n : ℕ) (ns : List ℕ) → HasList (view a).words s p list (Flat n ns) →
      HasList (view b).words s p list (Flat n (slice_set ns i value))) →
      ((y : Holder) (place : StructPlace) (ws : List ℕ) (ts : Trees) (k n : ℕ) (ns : List ℕ) → k < place.pointers →
      HasList (view a).words place.segment (place.pointers_at + k) list (Flat n ns) →
      HasStruct (view a).words y place ws (put_tree ts k (Flat n ns)) →
      HasStruct (view b).words y place ws (put_tree ts k (Flat n (slice_set ns i value)))) →
      Grows (view a).words (view b).words → WritesElement (words_in old from) (words_in x used) size l i value
  element_written size l list i value is memory sets sets_child grows =
      let Q : Segments → Segments → Type 0 = λ S T. WritesElement S T size l i value in
      let h : Q (view a).words (view b).words = record {
        sets = λ p n ns.
            subst (λ (m : ListPlace). HasList (view a).words 0 p m (Flat n ns) → HasList (view b).words 0 p m (Flat n (slice_set ns i value))) is (sets 0 p n ns);
        sets_child = λ y place ws ts k n ns below.
            subst (λ (m : ListPlace). HasList (view a).words 0 (pointer_of place k) m (Flat n ns) →
            HasStruct (view a).words y (placed_struct place) ws (put_tree ts k (Flat n ns)) →
            HasStruct (view b).words y (placed_struct place) ws (put_tree ts k (Flat n (slice_set ns i value)))) is
            (sets_child y (placed_struct place) ws ts k n ns below);
        grows = grows;
      } in
      in_buffer Q (limits_keep (view a) (view b) memory.limits) h

-- Each segment of an arena is short.
seg_short : (b : Arena) (s : ℕ) → length (segment (view b).words s) ≤ 2 ^ 29
seg_short b zero = omega (arith, allocated_words Slice.ghosts b, b.small)
seg_short b (suc s) = omega arith

-- A byte of a struct or a list is at most that of the last word.
pub struct_byte : (b : Arena) (place : StructPlace) → IsStructPlace (view b).words place → place.byte ≤ 8 * 2 ^ 29
struct_byte b place h = omega (arith, h.1, seg_short b place.segment)

pub list_byte : (b : Arena) (place : ListPlace) → IsListPlace (view b).words place → place.byte ≤ 8 * 2 ^ 29
list_byte b place h = omega (arith, h.2, seg_short b place.segment)

count_nulls : (n : ℕ) → count (nulls n) ≡ n
count_nulls zero = refl
count_nulls (suc n) = ap suc (count_nulls n)

-- A struct at a place in the first segment is at the place that C has.
pub made_at : (S : Segments) (x : Holder) (place : StructPlace) (at d q : ℕ) → place.segment ≡ 0 →
    at ≡ place.byte / 8 → HasStruct S x place (words_of_zero d) (nulls q) →
    HasStruct S x (placed_struct (sized_at at d q)) (words_of_zero d) (nulls q)
made_at S x place at d q first is h =
    let held = struct_held S x (length (words_of_zero d)) (count (nulls q)) in
    let long : length (words_of_zero d) ≡ d = length-replicate {A = ℕ} d 0 in
    let many = count_nulls q in
    let byte : StructPlace → ℕ = λ y. y.byte in
    let bits : StructPlace → ℕ = λ y. y.bits in
    let pointers_at : StructPlace → ℕ = λ y. y.pointers_at in
    let pointers : StructPlace → ℕ = λ y. y.pointers in
    let e1 = ap byte h.is_place in
    let b1 : place.byte ≡ 8 * at = omega (arith, e1, is) in
    let b2 : place.bits ≡ 64 * d = omega (arith, ap bits h.is_place, long) in
    let b3 : place.pointers_at ≡ at + d = omega (arith, ap pointers_at h.is_place, e1, is, long) in
    let b4 : place.pointers ≡ q = ap pointers h.is_place ∙ many in
    let same : place ≡ placed_struct (sized_at at d q) =
    λ i. record { segment = first i; bits = b2 i; byte = b1 i; pointers_at = b3 i; pointers = b4 i } in
    subst (λ y. HasStruct S x y (words_of_zero d) (nulls q)) same h

-- The places of the first element and of element i, in the form that C has.
pub element_segment : (list : ListPlace) (i : ℕ) → list.size ≡ InlineComposite → list.segment < 1 →
    (element_place list.size list i).segment ≡ 0
element_segment list i e l =
    subst (λ s. (element_place s list i).segment ≡ 0) (sym e) (let z : list.segment ≡ 0 = omega arith in z)

pub element_start : (list : ListPlace) (i first : ℕ) (size : StructSize) → list.size ≡ InlineComposite →
    list.struct_size ≡ size → first ≡ list.byte / 8 →
    first + i * (size.data_words + size.pointers) ≡ (element_place list.size list i).byte / 8
element_start list i first size e same is =
    let both : StructSize → ℕ = λ s. s.data_words + s.pointers in
    subst (λ s. first + i * (size.data_words + size.pointers) ≡ (element_place s list i).byte / 8) (sym e)
    (subst (λ n. first + i * n ≡ (8 * (list.byte / 8 + i * (list.struct_size.data_words + list.struct_size.pointers))) / 8) (ap both same)
    (let k : ℕ = i * (list.struct_size.data_words + list.struct_size.pointers) in omega (arith, is)))

-- A word inside of the message is a place of the arena.
pub word_there : (a : Arena) (used at : ℕ) → a.used ≡ used → at < used → IsPlace (view a).words 0 at
word_there a used at u h = omega (arith, allocated_words Slice.ghosts a, u, h)

-- An object that is made at the word of a pointer of a struct is the pointer's new child.
pub built_at : {A : Type 0} (number at n i : ℕ) (b : Buffer) (p : StructAt) (t : Tree) → i < p.pointers →
    at ≡ pointer_of p i → Gives A number b (MakesAt at t n) → Gives A number b (BuildsAt p i t n)
built_at {A} number at n i b p t inside e g =
    let old : View = view_in g.name 0 b.old b.from in
    let new : View = view_in g.name g.refusals b.new b.used in
    let object : MakesObject g.found (call_at 0 (pointer_of p i) old new) t n =
    subst (λ k. MakesObject g.found (call_at 0 k old new) t n) e g.does.object in
    record {
      found = g.found;
      name = g.name;
      refusals = g.refusals;
      is = g.is;
      does = record {
        object = object;
        child = child_made g.found old new (placed_struct p) i t n inside object;
        grows = object_grows g.found object;
      };
    }

-- A struct inside of the message is in the arena.
pub place_there : (a : Arena) (used : ℕ) (p : StructAt) (place : StructPlace) → a.used ≡ used →
    p.at + p.data_words + p.pointers ≤ used → place ≡ placed_struct p → IsStructPlace (view a).words place
place_there a used p place u h is =
    subst (λ q. IsStructPlace (view a).words q) (sym is)
    (omega arith, omega (arith, allocated_words Slice.ghosts a, u, h), omega (arith, allocated_words Slice.ghosts a, u, h))

-- A list inside of the message is in the arena.
pub elements_there : (a : Arena) (used : ℕ) (size : ElementSize) (l : ListAt) (list : ListPlace) → a.used ≡ used →
    l.at + elements_words size l.count 0 ≤ used → list ≡ placed_list size l → IsListPlace (view a).words list
elements_there a used size l list u h is =
    subst (λ m. IsListPlace (view a).words m) (sym is)
    (omega arith, omega arith, omega (arith, allocated_words Slice.ghosts a, u, h))
