-- A list of structs that is made for a null pointer of the buffer.
use Rattle.std.proofs.Common.{◌≡◌, ℕ, List, ◌+◌, ◌*◌, ◌/◌, ◌<◌, ◌≤◌, min, length, take, refl, sym, ap₂, ap, ◌∙◌, subst, arith, slice_index}
use Rattle.std.proofs.lemmas.List.{get_or-take}
use Rattle.std.specs.Prelude.{Ok}
use Rattle.capnp_format.specs.Bytes.{words_of}
use Rattle.capnp_format.specs.Forest.{target}
use Rattle.capnp_format.specs.Segments.{Segments, word_at}
use Rattle.capnp_format.specs.Tree.{Tree, Trees}
use Rattle.capnp_format.specs.Path.{tree_at}
use Rattle.capnp_format.proofs.WordsOf.{words_of-take}
use Rattle.capnp_words.specs.declared.wire_pointer.ElementSize.TheVariants.{InlineComposite}
use Rattle.capnp_words.specs.declared.wire_pointer.StructSize.{StructSize}
use Rattle.capnp_arena.specs.contracts.arena.scratch_allocator.RefMutSliceU8Segment.TheImpl as Slice
use Rattle.capnp_arena_traits.specs.Allocations.{max_segment_words}
use Rattle.capnp_arena_traits.specs.View.{View}
use Rattle.capnp_lent_arena.specs.LentArenaLemmas.{allocated_words}
use Rattle.capnp_allocation.specs.Near.{HasOwnRoom}
use Rattle.capnp_arena_traits.specs.declared.arena.WordPlace.{WordPlace}
use Rattle.capnp_allocation.specs.Made.{nulls, words_of_zero, zero_elements, zero_structs}
use Rattle.capnp_allocation.specs.Makes.{MakesObject, ObjectStartsAt, call_at}
use Rattle.capnp_allocation.specs.Stored.{IsStored}
use Rattle.capnp_in_place.specs.Existing.{struct_list}
use Rattle.capnp_in_place.specs.Initialized.{GivesObject}
use Rattle.capnp_in_place.proofs.Room.MadeAfterZeroing.{made_as}
use Rattle.capnp_readers.specs.declared.readers.list_reader.ListPlace.{ListPlace}
use Rattle.capnp_builders.specs.Held.{HasStruct, Holder, element_of}
use Rattle.capnp_builders.specs.Places.{IsListOf, element_place}
use Rattle.capnp_builders.proofs.HeldMade.{structs_made}
use Rattle.capnp_builders.proofs.HeldStructs.{child_stored}
use Rattle.capnp_layout_c.specs.Buffers.{Gives, buffer, placed_struct, pointer_of, sized_at, words_in}
use Rattle.capnp_layout_c.specs.Builds.{BuildsAt, MakesAt}
use Rattle.capnp_layout_c.specs.declared.building.places.StructAt.{StructAt}
use Rattle.capnp_layout_c.proofs.BuildingCalls.{Arena, Tie, built_at, element_segment, element_start, gives_what, in_buffer, kept_at, made_at, started, view}

-- A zero word of the buffer's message is zero in the arena.
pub null_there : (a : Arena) (bytes : List ℕ) (used at : ℕ) → a.bytes.now ≡ bytes → a.used ≡ used → a.refused ≡ 0 → 8 * used ≤ length bytes → at < used → slice_index (words_of bytes) at ≡ 0 →
    word_at (view a).words 0 at ≡ 0
null_there a bytes used at is u fresh inside below null =
    ap (λ (v : View). word_at v.words 0 at) (started a bytes used is u fresh)
    ∙ ap (λ (ws : List ℕ). slice_index ws at) (words_of-take used bytes inside) ∙ get_or-take used (words_of bytes) at 0 below ∙ null

-- The arena has as much room as the buffer.
pub room_there : (a : Arena) (bytes : List ℕ) (used n : ℕ) → a.bytes.now ≡ bytes → a.used ≡ used → used + n ≤ min (length bytes / 8) max_segment_words → HasOwnRoom (view a) 0 n
room_there a bytes used n is u fits = omega (arith, allocated_words Slice.ghosts a, u, ap length is, fits)

-- The place of a list of structs whose tag is at `start`.
abbrev structs_at : WordPlace → ℕ → StructSize → ListPlace
structs_at start count size = record { segment = start.segment; byte = 8 * (start.at + 1); size = InlineComposite; struct_size = size; count = count }

-- The pointer leads to that list.
structs_led : (old new : View) (at count : ℕ) (size : StructSize) (start : WordPlace) → ObjectStartsAt (call_at 0 at old new) (1 + count * (size.data_words + size.pointers)) start →
    IsListOf (call_at 0 at old new) (λ a. struct_list a size.data_words size.pointers count) (structs_at start count size)
structs_led old new at count size start e = record {
  is = ap₂ (λ (u b : ℕ). let list : ListPlace = record { segment = u; byte = 8 * (b + 1); size = InlineComposite; struct_size = size; count = count } in list) e.leads.0 e.leads.1;
  inside = (e.inside.0, omega arith, omega (arith, e.inside.1));
}

module _ {a b : Arena} {old x : List ℕ} {from used : ℕ} (tie : Tie a b old x from used) where
  -- What the call makes in the arena is made in the buffer.
  pub gives_structs : (p : StructAt) (i count : ℕ) (size : StructSize) (start : WordPlace) → i < p.pointers →
      GivesObject (Ok start) (call_at 0 (pointer_of p i) (view a) (view b)) (zero_structs count size) (1 + count * (size.data_words + size.pointers)) →
      Gives ListPlace 0 (buffer old from x used) (BuildsAt p i (zero_structs count size) (1 + count * (size.data_words + size.pointers)))
  gives_structs p i count size start inside e =
      let at : ℕ = pointer_of p i in
      let n : ℕ = 1 + count * (size.data_words + size.pointers) in
      let list : ListPlace = structs_at start count size in
      let object : MakesObject (Ok list) (call_at 0 at (view a) (view b)) (zero_structs count size) n = made_as start list (call_at 0 at (view a) (view b)) (zero_structs count size) n e.object in
      built_at 0 at n i (buffer old from x used) p (zero_structs count size) inside refl
      (gives_what tie (Ok list) 0 (MakesAt at (zero_structs count size) n) (kept_at tie (Ok list) 0 at n (zero_structs count size) object) refl (record { object = object }))

  -- Each element of it is there.
  pub structs_there : (p : StructAt) (i count k : ℕ) (size : StructSize) (start : WordPlace) (y : Holder) (ws : List ℕ) (ts : Trees) → i < p.pointers → k < count → start.segment ≡ 0 →
      GivesObject (Ok start) (call_at 0 (pointer_of p i) (view a) (view b)) (zero_structs count size) (1 + count * (size.data_words + size.pointers)) →
      HasStruct (words_in old from) y (placed_struct p) ws ts →
      HasStruct (words_in x used) (element_of 0 (pointer_of p i) size (zero_elements size.data_words size.pointers count) k)
      (placed_struct (sized_at (start.at + 1 + k * (size.data_words + size.pointers)) size.data_words size.pointers)) (words_of_zero size.data_words) (nulls size.pointers)
  structs_there p i count k size start y ws ts inside below first e has =
      let at : ℕ = pointer_of p i in
      let d : ℕ = size.data_words in
      let q : ℕ = size.pointers in
      let n : ℕ = 1 + count * (d + q) in
      let list : ListPlace = structs_at start count size in
      let object : MakesObject (Ok list) (call_at 0 at (view a) (view b)) (zero_structs count size) n = made_as start list (call_at 0 at (view a) (view b)) (zero_structs count size) n e.object in
      let element : Holder = element_of 0 at size (zero_elements d q count) k in
      in_buffer tie (λ S T. HasStruct S y (placed_struct p) ws ts → HasStruct T element (placed_struct (sized_at (start.at + 1 + k * (d + q)) d q)) (words_of_zero d) (nulls q))
      (kept_at tie (Ok list) 0 at n (zero_structs count size) object)
      (λ h. made_at (view b).words element (element_place list.size list k) (start.at + 1 + k * (d + q)) d q
      (element_segment list k refl (omega (arith, first)))
      (element_start list k (start.at + 1) size refl refl (omega arith))
      (structs_made (Ok list) (view a) (view b) 0 at size count n k (tree_at ts i) below object (structs_led (view a) (view b) at count size start e.start) (child_stored (view a).words y (placed_struct p) ws ts i inside h)))
      has
