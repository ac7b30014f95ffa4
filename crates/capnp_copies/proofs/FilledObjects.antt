-- The copy of a struct and of lists of pointers and of structs, from the moment when they are made.
use Rattle.std.proofs.Common.{◌≡◌, inl, inr, ℕ, ◌+◌, ◌*◌, ◌≤◌, length, refl, sym, ap, ◌∙◌, subst, arith}
use Rattle.capnp_words.specs.declared.error.ErrorKind.{ErrorKind}
use Rattle.capnp_words.specs.Meter.{Meter}
use Rattle.capnp_format.specs.Segments.{Segments, segment, word_at, IsPlace}
use Rattle.capnp_format.specs.Tree.{Tree, Null, Pointers, Structs, Trees}
use Rattle.capnp_format.specs.Canonical.{cut_to}
use Rattle.capnp_arena_traits.specs.View.{View}
use Rattle.capnp_allocation.specs.Made.{zero_structs, nulls, structs_words}
use Rattle.capnp_allocation.specs.Memory.{HasRoom, KeepsMemory, IsRefusedFor, RefusesWords}
use Rattle.capnp_allocation.specs.Near.{HasOwnRoom, StartsAtEnd}
use Rattle.capnp_allocation.specs.Stored.{IsReplaced}
use Rattle.capnp_arena_traits.specs.declared.arena.WordPlace.{WordPlace}
use Rattle.capnp_allocation.proofs.Filling.{unchanged}
use Rattle.capnp_allocation.proofs.FillingChains.{elements_grow}
use Rattle.capnp_allocation.proofs.FillingMade.{IsBegun, null_stored, pointers_done, pointers_whole, structs_done, structs_whole}
use Rattle.capnp_allocation.proofs.Memory.{keeps_both, keeps_then_spends, made_refused}
use Rattle.capnp_pointers.specs.Reading.{Reading, segment_read}
use Rattle.capnp_pointers.specs.Wanted.{Form, canonical}
use Rattle.capnp_copies.specs.Changes.{copy_call, MakesCopy, CopiesChildren, StopsAtChildren, CopiesRows, StopsAtElements}
use Rattle.capnp_copies.specs.Forms.{kept_each, kept_elements}
use Rattle.capnp_copies.specs.Originals.{pointers_original, structs_original}
use Rattle.capnp_copies.specs.declared.widths.ElementSizes.{ElementSizes}
use Rattle.capnp_copies.proofs.FilledChildren.{children_grow}
use Rattle.capnp_copies.proofs.Originals.{LeavesSomeValue, children_refused, elements_beyond, halfway, pointers_large, structs_large}
use Rattle.capnp_copies.proofs.Copying.{StopsHalfway, there}
use Rattle.capnp_copies.proofs.NoRoom.{pointers_come, structs_come}
use Rattle.capnp_copies.proofs.ObjectsMade.{Begins}
use Rattle.capnp_copies.proofs.TooLarge.{ObjectMade, pointers_too_large, structs_too_large}
use Rattle.capnp_copies.proofs.TightObjects.{PointersMade, pointers_tight, StructsMade, ends_in_zeros, structs_tight}
use Rattle.capnp_copies.proofs.KeptChildren.{kept_each-count, cut_kept-count, kept_pointers}
use Rattle.capnp_copies.proofs.KeptForms.{KeepsPointers, KeepsWidths, list_kept}
use Rattle.capnp_allocation.specs.Makes.{call_at}

-- An object that the arena refuses leaves the pointer null.

pub nothing_left : (S R : Segments) (s p : ℕ) → IsPlace S s p → word_at S s p ≡ 0 → R ≡ S → IsReplaced S R s p Null Null
nothing_left S R s p place null same = subst (λ T. IsReplaced S T s p Null Null) (sym same) (unchanged S s p Null (null_stored S s p place null))

pub nothing_made : (b : Form) (s p n : ℕ) (old new : View) (m m' : Meter) (k : ErrorKind) → IsPlace old.words s p → word_at old.words s p ≡ 0 → IsRefusedFor old new n k → new.words ≡ old.words → (HasRoom old s n → ⊥) →
    RefusesWords old new n k × LeavesSomeValue (copy_call b (call_at s p old new) m m') k
nothing_made b s p n old new m m' k place null named same full =
    let r = made_refused old new s n k named same full in
    (r.0, ((Null, nothing_left old.words new.words s p place null same), r.1))

-- A list of pointers.

-- An object is made and starts at h.
pub record ObjectBegun (s p n : ℕ) (old mid : View) (h : WordPlace) (t : Tree) : Type 0 where
  pub begun : IsBegun old.words mid.words s p n h t
  pub memory : KeepsMemory old mid

pub pointers_copied : {b : Form} {r : Reading} {i s p : ℕ} {old mid new : View} {h : WordPlace} {m m' : Meter} → ObjectBegun s p i old mid h (Pointers (nulls i)) → PointersMade i s p old mid h → CopiesChildren r i (copy_call b (call_at h.segment h.at mid new) m m') → MakesCopy (pointers_original i r) (copy_call b (call_at s p old new) m m')
pointers_copied {b} {r} {i} {s} {p} {old} {mid} {new} {h} o near children =
    let ts : Trees = kept_each b children.children in
    let whole = pointers_whole old.words mid.words new.words s p i h ts o.begun children.made (kept_each-count b children.children ∙ children.counts) in
    record {
      value = Pointers children.children;
      is_read = (children.children, refl, children.counts, children.are_read);
      made = subst (IsReplaced old.words new.words s p Null) (sym (kept_pointers b children.children)) whole;
      memory = keeps_both old mid new o.begun.made.segments o.memory children.memory;
      stands = pointers_tight b (children_grow children).segments near children;
    }

pub pointers_stop : {b : Form} {r : Reading} {i s p : ℕ} {old mid new : View} {h : WordPlace} {m m' : Meter} {k : ErrorKind} → ObjectBegun s p i old mid h (Pointers (nulls i)) → ObjectMade s p i old mid h → (HasOwnRoom old s i → StartsAtEnd old.words s h) → StopsAtChildren r i (copy_call b (call_at h.segment h.at mid new) m m') k →
    StopsHalfway (pointers_original i r) (copy_call b (call_at s p old new) m m') k
pointers_stop {b} {r} {i} {s} {p} {old} {mid} {new} {h} {m} {m'} {k} o made at_end stop =
    let begins : Begins s h.segment i old mid = record { there = there old.words s p made.place; taken = made.taken; memory = o.memory; near = λ room. (at_end room).0; far = λ full. (made.behind.far full).0 } in
    halfway (
    elim (children_refused r i (copy_call b (call_at h.segment h.at mid new) m m') k stop.why) [
      | inl x ↦ inl (inr (pointers_come new begins x.0), pointers_large b r i (length (segment old.words s)) (old.room s) (pointers_too_large b r made at_end x.1))
      | inr x ↦ inr (inl x)
    ]
    )
    ((_, pointers_done old.words mid.words new.words s p i h stop.left o.begun stop.made stop.few), keeps_then_spends old mid new k o.begun.made.segments o.memory stop.memory)

-- A list of structs.

pub widths_keep : (b : Form) (r : Reading) (sizes : ElementSizes) (i : ℕ) → KeepsWidths b r sizes.source i sizes.kept → KeepsPointers b r sizes i
widths_keep canonical r sizes i widths = omega (arith, ap (λ s. s.pointers) widths)
widths_keep _ r sizes i same = same

pub structs_copied : {b : Form} {r : Reading} {sizes : ElementSizes} {i s p : ℕ} {old mid new : View} {h : WordPlace} {m m' : Meter} → r.at + i * (sizes.source.data_words + sizes.source.pointers) ≤ length (segment_read r) → KeepsWidths b r sizes.source i sizes.kept →
    ObjectBegun s p (1 + i * (sizes.kept.data_words + sizes.kept.pointers)) old mid h (zero_structs i sizes.kept) → StructsMade i s p sizes.kept old mid h → CopiesRows r sizes i 0 (copy_call b (call_at h.segment (h.at + 1) mid new) m m') → MakesCopy (structs_original sizes.source i r) (copy_call b (call_at s p old new) m m')
structs_copied {b} {r} {sizes} {i} {s} {p} {old} {mid} {new} {h} inside widths o near elements =
    let d : ℕ = sizes.kept.data_words in
    let q : ℕ = sizes.kept.pointers in
    let es = elements.elements in
    let whole = structs_whole old.words mid.words new.words s p d q i h (cut_to d q (kept_elements b es)) o.begun elements.made (cut_kept-count b d q es ∙ elements.counts) in
    let form = list_kept b r sizes.source sizes.kept es elements.are_read.cost (rw elements.counts inside) (rw elements.counts widths) elements.are_read.means in
    record {
      value = Structs sizes.source.data_words sizes.source.pointers es;
      is_read = (es, refl, elements.counts, elements.are_read);
      made = subst (IsReplaced old.words new.words s p Null) (sym form) whole;
      memory = keeps_both old mid new o.begun.made.segments o.memory elements.memory;
      stands = structs_tight {r = r} {sizes = sizes} b (elements_grow mid.words new.words h.segment (h.at + 1) d q (cut_to d q (kept_elements b es)) elements.made (omega (arith, cut_kept-count b d q es, elements.counts, ap (λ j. j * (d + q)) (cut_kept-count b d q es ∙ elements.counts), o.begun.inside.1))).segments inside widths near elements;
    }

pub structs_stop : {b : Form} {r : Reading} {sizes : ElementSizes} {i s p : ℕ} {old mid new : View} {h : WordPlace} {m m' : Meter} {k : ErrorKind} → r.at + i * (sizes.source.data_words + sizes.source.pointers) ≤ length (segment_read r) → KeepsWidths b r sizes.source i sizes.kept →
    ObjectBegun s p (1 + i * (sizes.kept.data_words + sizes.kept.pointers)) old mid h (zero_structs i sizes.kept) → StructsMade i s p sizes.kept old mid h → 1 + i * (sizes.kept.data_words + sizes.kept.pointers) ≤ structs_words i sizes.source →
    StopsAtElements r sizes i (copy_call b (call_at h.segment (h.at + 1) mid new) m m') k → StopsHalfway (structs_original sizes.source i r) (copy_call b (call_at s p old new) m m') k
structs_stop {b} {r} {sizes} {i} {s} {p} {old} {mid} {new} {h} {m} {m'} {k} inside widths o near less stop =
    let begins : Begins s h.segment (1 + i * (sizes.kept.data_words + sizes.kept.pointers)) old mid = record { there = there old.words s p near.place; taken = near.taken; memory = near.memory; near = λ room. (near.behind.near (omega arith) room).0; far = λ full. (near.behind.far full).0 } in
    halfway (
    elim stop.why [
      | inl x ↦ inl (inr (structs_come sizes new less begins x.0), structs_large b r sizes.source i (length (segment old.words s)) (old.room s) (structs_too_large r sizes (record { place = near.place; memory = near.memory; taken = near.taken; behind = near.behind }) inside b widths (λ room. elements_beyond b r sizes i (length (segment mid.words h.segment)) (mid.room h.segment) (x.1 (ends_in_zeros {new = new} {m = m} {m' = m'} b near room)))))
      | inr x ↦ inr (inl x)
    ]
    )
    (structs_done old.words mid.words new.words s p sizes.kept.data_words sizes.kept.pointers i h o.begun stop.left, keeps_then_spends old mid new k o.begun.made.segments o.memory stop.memory)
