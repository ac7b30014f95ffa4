-- If part of a copy is too large for the segment that it goes to, or the arena has no room for one
-- of its objects, the whole is too large for the segment of its pointer.
use Rattle.std.proofs.Common.{◌≡◌, inl, ℕ, pred, ◌+◌, ◌-◌, ◌*◌, ◌<◌, ◌≤◌, List, length, refl, ap, subst, sym, ◌∙◌, arith}
use Rattle.capnp_words.specs.Meter.{Meter}
use Rattle.capnp_words.specs.declared.wire_pointer.StructSize.{StructSize}
use Rattle.capnp_format.specs.Segments.{segment, IsPlace}
use Rattle.capnp_format.specs.Tree.{Tree, Struct, Pointers, Structs, Trees, no_trees, tree, Elements, count, element_count}
use Rattle.capnp_format.specs.Canonical.{take_trees, word_count, word_count_all, word_count_elements}
use Rattle.capnp_format.specs.Word.{offset_bits, data_words, pointer_count, list_count}
use Rattle.capnp_format.proofs.Trimming.{take_trees-count}
use Rattle.capnp_format.proofs.Levels.{one_value}
use Rattle.capnp_arena_traits.specs.View.{View}
use Rattle.capnp_allocation.specs.Memory.{HasRoom, KeepsMemory, ComesAfter, TakesWords}
use Rattle.capnp_allocation.specs.Near.{HasOwnRoom, StartsAtEnd}
use Rattle.capnp_arena_traits.specs.declared.arena.WordPlace.{WordPlace}
use Rattle.capnp_pointers.specs.Objects.{IsObject}
use Rattle.capnp_pointers.specs.Outcomes.{Reads, MeansThere}
use Rattle.capnp_pointers.specs.Reading.{Reading, place_past, segment_read, pointers_of, tag_size}
use Rattle.capnp_words.specs.Sizes.{sized}
use Rattle.capnp_pointers.specs.Demands.{tag}
use Rattle.capnp_pointers.specs.Faults.{child_at}
use Rattle.capnp_pointers.specs.Wanted.{Form}
use Rattle.capnp_pointers.specs.declared.object.Place.{Place}
use Rattle.capnp_pointers.specs.declared.object.Object.TheVariants.{Struct as ObjectStruct, Pointers as ObjectPointers, Structs as ObjectStructs}
use Rattle.capnp_pointers.specs.declared.object.Purpose.TheVariants.{Value}
use Rattle.capnp_copies.specs.Changes.{copy_call, EndsInZeros, CopiesChildren, CopiesRows}
use Rattle.capnp_copies.proofs.InPlace.{AreCopied}
use Rattle.capnp_copies.proofs.CopiesNear.{call_of, CopiesChildren as ChildrenCopied}
use Rattle.capnp_copies.specs.Originals.{value_original}
use Rattle.capnp_copies.proofs.Originals.{ExceedsRoom, AreTooLarge, AreTooLargeElements, IsTooLargePointers, IsTooLargeStruct, IsTooLargeList, value_large, value_beyond}
use Rattle.capnp_copies.specs.declared.widths.ElementSizes.{ElementSizes}
use Rattle.capnp_copies.proofs.ChildrenSteps.{now, now_long}
use Rattle.capnp_copies.proofs.ElementsLaid.{next_element_words}
use Rattle.capnp_copies.proofs.ElementSteps.{ElementsFit, RowsCopied, AtRow, next_row}
use Rattle.capnp_copies.specs.Forms.{kept, kept_each}
use Rattle.capnp_copies.proofs.KeptChildren.{kept_none, kept_pointers, kept_each-count, take_trees-kept, cut_kept}
use Rattle.capnp_copies.proofs.KeptForms.{KeepsWidths, SourceKept, SectionsCut, sections_meant, row_kept, words_of_kept_list}
use Rattle.capnp_copies.proofs.ObjectsRead.{inside, means_struct, means_pointers, means_structs}
use Rattle.capnp_copies.proofs.RoomLemmas.{next_words}
use Rattle.capnp_copies.proofs.TightChildren.{room_kept}
use Rattle.capnp_pointers.proofs.Following.LeadsWhereFollowed.{entered_leads}
use Rattle.capnp_pointers.proofs.WholeValue.Shorthands.{MeanThere}
use Rattle.capnp_allocation.specs.Makes.{call_at}

-- A child.
pub child_too_large : {r : Reading} {s p i n : ℕ} {old mid : View} {m m' : Meter} (b : Form) → IsPlace old.words s (p + i) → i < n → (first : CopiesChildren r i (copy_call b (call_at s p old mid) m m')) →
    ExceedsRoom b (value_original (place_past r i)) (length (segment mid.words s)) (mid.room s) → AreTooLarge b r n (length (segment old.words s)) (old.room s)
child_too_large {r} {s} {p} {i} {n} {old} {mid} {m} {m'} b place less first large = λ us c len all.
    (let ts : Trees = first.children in
    let x = next_words b r ts us (first.are_read.cost, first.are_read.means) (c, all) (omega (arith, first.counts, len, less)) in
    let no : (length (segment old.words s) + word_count_all (kept_each b us) ≤ old.room s) → ⊥ = λ fits.
    (let stand : AreCopied old.words mid.words s p (kept_each b ts) = first.stands (inl (omega (arith, fits, x.3))) in
    let one : ChildrenCopied r i (call_of b old mid s m m') p = record { children = ts; counts = first.counts; are_read = first.are_read; made = stand } in
    let long : length (segment mid.words s) ≡ length (segment old.words s) + word_count_all (kept_each b ts) = ap length (now place one) ∙ now_long (omega (arith, place)) one in
    let room : mid.room s ≡ old.room s = room_kept old mid s (p + i) place first.memory in
    let beyond = value_beyond b (place_past r i) (length (segment mid.words s)) (mid.room s) large x.0 x.1 (subst (λ j. MeansThere (place_past r j) x.0 x.1) first.counts x.2) in
    omega (arith, beyond, long, room, fits, x.3)) in
    omega (arith, no))

-- An element.
pub row_too_large : {r : Reading} {sizes : ElementSizes} {i n s p : ℕ} {old mid new : View} {m m' m'' : Meter} (b : Form) → SourceKept b r sizes n → 0 < sizes.kept.data_words + sizes.kept.pointers → i < n →
    (first : CopiesRows r sizes i (n - i) (copy_call b (call_at s p old mid) m m')) → AreTooLarge b (pointers_of r sizes.source i) sizes.kept.pointers (length (segment mid.words s)) (mid.room s) →
    EndsInZeros (copy_call b (call_at s p old new) m m'') (n * (sizes.kept.data_words + sizes.kept.pointers)) → AreTooLargeElements b r sizes n (length (segment old.words s)) (old.room s)
row_too_large {r} {sizes} {i} {n} {s} {p} {old} {mid} {new} {m} {m'} {m''} b fit wide more first large last = λ us c len all.
    (let w : ℕ = sizes.kept.data_words + sizes.kept.pointers in
    let q : ℕ = sizes.kept.pointers in
    let es : Elements = first.elements in
    let z = next_element_words b r sizes es us ((first.are_read.cost, first.are_read.means), (c, all)) (omega (arith, first.counts, len, more)) in
    let no : (length (segment old.words s) + word_count_elements (cut_kept b sizes us) ≤ old.room s) → ⊥ = λ fits.
    (let to_i : n ≡ i + (n - i) = omega (arith, more) in
    let before : EndsInZeros (copy_call b (call_at s p old mid) m m') ((i + (n - i)) * w) = record { ends = subst (λ k. p + k * w ≡ length (segment old.words s)) to_i last.ends; zero = last.zero } in
    let rows : RowsCopied r sizes i (n - i) (call_of b old mid s m m') p =
    record { elements = es; counts = first.counts; are_read = first.are_read; made = first.stands before (inl (omega (arith, fits, z.4))) } in
    let fitting : ElementsFit r sizes n (segment old.words s) p = record { room = last.ends; inside = fit.inside; less_data = fit.less_data; less_pointers = fit.less_pointers } in
    let here : AtRow r sizes n i w (call_of b old mid s m m') p = record { fits = fitting; width = refl; wide = wide; more = more; rows = rows } in
    let x = next_row here in
    let room : mid.room s ≡ old.room s = first.memory.1 s x.there in
    let at : AreTooLarge b (pointers_of r sizes.source (element_count es)) q (length (segment mid.words s)) (mid.room s) = subst (λ j. AreTooLarge b (pointers_of r sizes.source j) q (length (segment mid.words s)) (mid.room s)) (sym first.counts) large in
    let means = row_kept b r sizes n (element_count es) z.0 z.1 fit (omega (arith, first.counts, more)) z.2 z.3 in
    let beyond = at (take_trees q z.0) z.1 (take_trees-count q z.0 (omega (arith, z.2, fit.less_pointers))) means in
    omega (arith, beyond, x.long, room, fits, z.4, ap word_count_all (sym (take_trees-kept b q z.0)))) in
    omega (arith, no))

-- The children of a struct.

-- An object of n words is made at h.
pub record ObjectMade (s p n : ℕ) (old made : View) (h : WordPlace) : Type 0 where
  pub place : IsPlace old.words s p
  pub memory : KeepsMemory old made
  pub taken : TakesWords old made s n
  pub behind : ComesAfter old s n h

pub sections_too_large : {s p used room all : ℕ} {old made : View} {h : WordPlace} (b : Form) (least : StructSize) (ts : Trees) → ObjectMade s p (least.data_words + least.pointers) old made h → used ≡ length (segment made.words h.segment) → room ≡ made.room h.segment → used ≤ room → count ts ≡ least.pointers →
    room < used + word_count_all (kept_each b ts) → all ≡ least.data_words + least.pointers + word_count_all (kept_each b ts) → old.room s < length (segment old.words s) + all
sections_too_large {s} {p} {used} {room} {all} {old} {made} {h} b least ts o long same within counts beyond words =
    let w : ℕ = least.data_words + least.pointers in
    let no : (length (segment old.words s) + all ≤ old.room s) → ⊥ = λ fits.
    (let near : HasOwnRoom old s w = omega (arith, fits, words) in
    let grown = (o.taken.near near).gained in
    let kept : made.room s ≡ old.room s = room_kept old made s p o.place o.memory in
    let none : (0 < w) → ⊥ = λ some.
    (let first : h.segment ≡ s = (o.behind.near some near).0 in
    let now : used ≡ length (segment made.words s) = long ∙ ap (λ j. length (segment made.words j)) first in
    let has : room ≡ made.room s = same ∙ ap made.room first in
    omega (arith, beyond, grown, kept, now, has, fits, words)) in
    let empty : word_count_all (kept_each b ts) ≡ 0 = no_words ts (omega (arith, none, counts)) in
    omega (arith, beyond, within, empty)) in
    omega (arith, no)
  where
    no_words : (ts : Trees) → count ts ≡ 0 → word_count_all (kept_each b ts) ≡ 0
    no_words no_trees f = ap word_count_all (kept_none b)
    no_words (tree t ts) f = absurd (omega (arith, f))

-- The children of a list of pointers.

pointers_words : (b : Form) (i : ℕ) (us : Trees) → count us ≡ i → word_count (kept b (Pointers us)) ≡ i + word_count_all (kept_each b us)
pointers_words b i us len = ap word_count (kept_pointers b us) ∙ ap (λ j. j + word_count_all (kept_each b us)) (kept_each-count b us ∙ len)

pub pointers_too_large : (b : Form) (r : Reading) {i s p : ℕ} {old made : View} {h : WordPlace} → ObjectMade s p i old made h → (HasOwnRoom old s i → StartsAtEnd old.words s h) → AreTooLarge b r i (length (segment made.words h.segment)) (made.room h.segment) →
    IsTooLargePointers b r i (length (segment old.words s)) (old.room s)
pointers_too_large b r {i} {s} {p} {old} {made} {h} o at_end large = λ us c len all.
    (let beyond = large us c len all in
    let words : word_count (kept b (Pointers us)) ≡ i + word_count_all (kept_each b us) = pointers_words b i us len in
    let no : (length (segment old.words s) + word_count (kept b (Pointers us)) ≤ old.room s) → ⊥ = λ fits.
    (let near : HasOwnRoom old s i = omega (arith, fits, words) in
    let first : h.segment ≡ s = (at_end near).0 in
    let grown = (o.taken.near near).gained in
    let kept : made.room s ≡ old.room s = room_kept old made s p o.place o.memory in
    omega (arith, beyond, grown, kept, ap (λ j. length (segment made.words j)) first, ap made.room first, fits, words)) in
    omega (arith, no))

-- The elements of a list of structs.
pub structs_too_large : (r : Reading) (sizes : ElementSizes) {i s p : ℕ} {old made : View} {h : WordPlace} → ObjectMade s p (1 + i * (sizes.kept.data_words + sizes.kept.pointers)) old made h → r.at + i * (sizes.source.data_words + sizes.source.pointers) ≤ length (segment_read r) →
    (b : Form) → KeepsWidths b r sizes.source i sizes.kept → (HasOwnRoom old s (1 + i * (sizes.kept.data_words + sizes.kept.pointers)) → AreTooLargeElements b r sizes i (length (segment made.words h.segment)) (made.room h.segment)) →
    IsTooLargeList b r sizes.source i (length (segment old.words s)) (old.room s)
structs_too_large r sizes {i} {s} {p} {old} {made} {h} o in_row b widths large = λ es c len all.
    (let words = words_of_kept_list b r sizes.source sizes.kept i es c in_row widths len all in
    let no : (length (segment old.words s) + word_count (kept b (Structs sizes.source.data_words sizes.source.pointers es)) ≤ old.room s) → ⊥ = λ fits.
    (let near : HasOwnRoom old s (1 + i * (sizes.kept.data_words + sizes.kept.pointers)) = omega (arith, fits, words) in
    let first : h.segment ≡ s = (o.behind.near (omega arith) near).0 in
    let grown = (o.taken.near near).gained in
    let kept : made.room s ≡ old.room s = room_kept old made s p o.place o.memory in
    let beyond = large near es c len all in
    omega (arith, beyond, grown, kept, ap (λ j. length (segment made.words j)) first, ap made.room first, fits, words)) in
    omega (arith, no))

-- The arena has no room for the object itself.

pub no_sections_room : {ws : List ℕ} {r : Reading} {q : ℕ} {least : StructSize} (s : ℕ) (old : View) (b : Form) → SectionsCut b ws r q least → (HasRoom old s (least.data_words + least.pointers) → ⊥) → (us : Trees) (c : ℕ) → count us ≡ q → MeanThere r us c →
    old.room s < length (segment old.words s) + word_count (kept b (Struct ws us))
no_sections_room {least = least} s old b cut full us c len all =
    let none : (HasOwnRoom old s (least.data_words + least.pointers)) → ⊥ = λ room. full (inl room) in
    omega (arith, none, (sections_meant b us c cut len all).words)

pub no_pointers_room : (b : Form) (r : Reading) (i s : ℕ) (old : View) → (HasRoom old s i → ⊥) → IsTooLargePointers b r i (length (segment old.words s)) (old.room s)
no_pointers_room b r i s old full = λ us c len all.
    (let none : (HasOwnRoom old s i) → ⊥ = λ room. full (inl room) in
    omega (arith, none, pointers_words b i us len))

pub no_structs_room : (r : Reading) (size least : StructSize) (i s : ℕ) (old : View) (b : Form) → r.at + i * (size.data_words + size.pointers) ≤ length (segment_read r) → KeepsWidths b r size i least → (HasRoom old s (1 + i * (least.data_words + least.pointers)) → ⊥) →
    IsTooLargeList b r size i (length (segment old.words s)) (old.room s)
no_structs_room r size least i s old b in_row widths full = λ es c len all.
    (let none : (HasOwnRoom old s (1 + i * (least.data_words + least.pointers))) → ⊥ = λ room. full (inl room) in
    omega (arith, none, words_of_kept_list b r size least i es c in_row widths len all))

-- The object of a place determines what the place means.

pub struct_value_too_large : {r : Reading} {levels : ℕ} (b : Form) (used room : ℕ) {m m' : Meter} {size : StructSize} (start : Place) → (0 < r.levels → levels ≡ pred r.levels) → IsObject Value r m m' (ObjectStruct start size) →
    IsTooLargeStruct b (inside r levels start) size used room → ExceedsRoom b (value_original r) used room
struct_value_too_large {r} {levels} b used room {size = size} start less (a, o, z, (held, es, eb), ed, eq) large = value_large b r used room (λ t c h.
    (let en = less o.meets.levels in
    let e : start.at ≡ a.start = omega arith in
    let l : IsTooLargeStruct b (child_at r a (pred r.levels) a.start) (sized (data_words a.word) (pointer_count a.word)) used room = rw (en, es, e, ed, eq) at large in
    let x = means_struct r t a (c, h) (entered_leads o) z in
    rw (x.4) (l x.0 x.1 x.2 x.3)))

pub pointers_value_too_large : {r : Reading} {levels i : ℕ} (b : Form) (used room : ℕ) {m m' : Meter} (start : Place) → (0 < r.levels → levels ≡ pred r.levels) → IsObject Value r m m' (ObjectPointers start i) →
    IsTooLargePointers b (inside r levels start) i used room → ExceedsRoom b (value_original r) used room
pointers_value_too_large {r} {levels} {i} b used room start less (a, o, z, six, (held, es, eb), ei) large = value_large b r used room (λ t c h.
    (let en = less o.meets.levels in
    let e : start.at ≡ a.start = omega arith in
    let l : IsTooLargePointers b (child_at r a (pred r.levels) a.start) (list_count a.word) used room = rw (en, es, e, ei) at large in
    let x = means_pointers r t a (c, h) (entered_leads o) (z, six) in
    rw (x.4) (l x.0 x.1 x.2 x.3)))

pub structs_value_too_large : {r : Reading} {levels i : ℕ} (b : Form) (used room : ℕ) {m m' : Meter} {size : StructSize} (start : Place) → (0 < r.levels → levels ≡ pred r.levels) → IsObject Value r m m' (ObjectStructs start size i) →
    IsTooLargeList b (inside r levels start) size i used room → ExceedsRoom b (value_original r) used room
structs_value_too_large {r} {levels} {i} b used room {size = size} start less (a, o, z, seven, (held, eu, eb), ei, ed, eq) large = value_large b r used room (λ t c h.
    (let en = less o.meets.levels in
    let e : start.at ≡ a.start + 1 = omega arith in
    let l : IsTooLargeList b (child_at r a (pred r.levels) (a.start + 1)) (tag_size r.segments a) (offset_bits (tag r.segments a)) used room = rw (en, eu, e, ed, eq, ei) at large in
    let x = means_structs r t a (c, h) (entered_leads o) (z, seven) in
    rw (x.4) (l x.0 x.1 x.2 x.3)))

-- A list of numbers whose words don't fit.
pub flat_too_large : {r : Reading} {m m' : Meter} {form : Form} {u : Tree} (b : Form) (used room : ℕ) → Reads form r m m' u → (used + word_count (kept b u) ≤ room → ⊥) → ExceedsRoom b (value_original r) used room
flat_too_large {r} {u = u} b used room one none = value_large b r used room (λ t c h.
    (let is = ap (λ x. word_count (kept b x)) (one_value r.segments r.levels r.levels r.segment r.at t u c one.cost h one.means).0 in
    omega (arith, is, none)))
