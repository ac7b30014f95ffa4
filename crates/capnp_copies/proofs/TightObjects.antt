-- Objects in place after the words of their pointers' segment: structs, lists of pointers and of
-- structs.
use Rattle.std.proofs.Common.{◌≡◌, inl, ℕ, zero, suc, ◌+◌, ◌*◌, ◌<◌, ◌≤◌, ◌-◌, ◌^◌, List, [], ◌∷◌, ◌++◌, length, get_or, set, take, drop, replicate, refl, sym, ap, ap₂, ◌∙◌, subst, arith, append-nil, length-append, length-take}
use Rattle.std.proofs.lemmas.List.{length-replicate, get_or-append_right, nil_from_length}
use Rattle.capnp_words.specs.Meter.{Meter}
use Rattle.capnp_words.specs.declared.wire_pointer.StructSize.{StructSize}
use Rattle.capnp_format.specs.Word.{struct_word, list_word}
use Rattle.capnp_format.specs.Segments.{Segments, segment, word_at, IsPlace}
use Rattle.capnp_format.specs.Tree.{Tree, Struct, Pointers, Structs, Trees, no_trees, tree, Elements, count}
use Rattle.capnp_format.specs.Canonical.{word_count, word_count_all, word_count_elements, pointers, bodies, rows, element_bodies, offset_to}
use Rattle.capnp_arena_traits.specs.View.{View}
use Rattle.capnp_arena_traits.specs.Written.{with_segment, with_word, with_words, extended}
use Rattle.capnp_allocation.specs.Memory.{KeepsMemory, ComesAfter, TakesWords as TakesRoom}
use Rattle.capnp_allocation.specs.Near.{HasOwnRoom, StartsAtEnd, offset_to_end}
use Rattle.capnp_allocation.proofs.NearMade.{HasStructRoom, HasStructsRoom, with_struct, with_list, with_struct_list}
use Rattle.capnp_arena_traits.specs.declared.arena.WordPlace.{WordPlace}
use Rattle.capnp_pointers.specs.Reading.{Reading, segment_read}
use Rattle.capnp_pointers.specs.Wanted.{Form}
use Rattle.capnp_arena_traits.proofs.WordsOver.{segment_here}
use Rattle.capnp_allocation.proofs.NearMade.{long_as}
use Rattle.capnp_allocation.proofs.WordsPut.{none_over}
use Rattle.capnp_copies.specs.Changes.{copy_call, StayInSegment, IsCopiedInRoom, EndsInZeros, CopiesChildren, CopiesRows}
use Rattle.capnp_copies.specs.Forms.{kept, kept_each}
use Rattle.capnp_copies.specs.Copied.{with_children}
use Rattle.capnp_copies.proofs.Copied.{copied}
use Rattle.capnp_copies.proofs.Shapes.{rows_laid}
use Rattle.capnp_copies.proofs.InPlace.{AreCopied}
use Rattle.capnp_copies.proofs.CopiesNear.{TakesWords}
use Rattle.capnp_copies.proofs.CopiesNear.{call_of, CopiesChildren as ChildrenCopied, CopiesElements as ElementsCopied}
use Rattle.capnp_copies.proofs.ChildrenCopied.{no_children}
use Rattle.capnp_copies.specs.declared.widths.ElementSizes.{ElementSizes}
use Rattle.capnp_copies.proofs.Copying.{there}
use Rattle.capnp_copies.proofs.ElementsLaid.{get_or-zeros}
use Rattle.capnp_copies.proofs.KeptChildren.{kept_none, kept_pointers, kept_each-count, cut_kept, cut_kept-count}
use Rattle.capnp_copies.proofs.KeptForms.{KeepsWidths, list_kept}
use Rattle.capnp_copies.proofs.ListSteps.{ListBegun, list_put}
use Rattle.capnp_copies.proofs.PointersFirst.{place_kept, in_first, pointer_stays, pointer_first}
use Rattle.capnp_copies.proofs.SegmentsWritten.{begun, not_written, words_written, length-extended}
use Rattle.capnp_copies.proofs.StructSteps.{StructBegun, struct_put, pointers_put}
use Rattle.capnp_copies.proofs.StayingNear.{stay_fewer, stay_later, own_room}
use Rattle.capnp_copies.proofs.TightChildren.{room_kept}
use Rattle.capnp_allocation.specs.Makes.{call_at}

-- The pointer stays the same if children were written after it.
pub stays : {N : Segments} (S : Segments) (s p x h : ℕ) (ws B C D : List ℕ) → IsPlace S s p → p < h → h ≤ length (segment (extended (with_word S s p x) s ws) s) →
    N ≡ with_segment (extended (with_word S s p x) s ws) s (take h (segment (extended (with_word S s p x) s ws) s) ++ B ++ C ++ D) → word_at N s p ≡ x
stays {N} S s p x h ws B C D l less inside made =
    let K : Segments = extended (with_word S s p x) s ws in
    let V : List ℕ = segment K s in
    ap (λ xs. get_or xs p 0) (words_written K N s (take h V ++ B ++ C ++ D) (there K s p (omega (arith, less, inside))) made)
    ∙ in_first (take h V) B C D p (omega (arith, length-take h V, less, inside)) ∙ pointer_stays S s p x h ws l less inside

pub no_trees_left : (ts : Trees) → count ts ≡ 0 → ts ≡ no_trees
no_trees_left no_trees e = refl
no_trees_left (tree t ts) e = absurd (omega arith)

-- Children are in place, if they fit, from a start with another name.
moved : (mid new : View) (n : ℕ) (f : ℕ → ℕ) {s u h a : ℕ} (ts : Trees) → u ≡ s → a ≡ h → (StayInSegment mid new u n → AreCopied mid.words new.words u (f a) ts) → StayInSegment mid new s n → AreCopied mid.words new.words s (f h) ts
moved mid new n f {s} {u} {h} {a} ts es eh =
    subst (λ i. (StayInSegment mid new u n → AreCopied mid.words new.words u (f a) ts) → StayInSegment mid new i n → AreCopied mid.words new.words i (f h) ts) es
    (subst (λ i. (StayInSegment mid new u n → AreCopied mid.words new.words u (f a) ts) → StayInSegment mid new u n → AreCopied mid.words new.words u (f i) ts) eh (λ g. g))

-- A struct is made near its pointer, or has no words, and these data words of it are written.
pub record StructMade (us : List ℕ) (least : StructSize) (s p : ℕ) (old made mid : View) (h : WordPlace) : Type 0 where
  pub long : length us ≡ least.data_words
  pub place : IsPlace old.words s p
  pub memory : KeepsMemory old made
  pub writes : mid ≡ record made { words = with_words made.words h.segment h.at us }
  pub within : length (segment mid.words h.segment) ≤ mid.room h.segment
  pub taken : TakesRoom old made s (least.data_words + least.pointers)
  pub behind : ComesAfter old s (least.data_words + least.pointers) h
  pub near : HasStructRoom old s least → made.words ≡ with_struct old.words s p least
  pub empty : least.data_words + least.pointers ≡ 0 → made.words ≡ with_word old.words s p (struct_word (2 ^ 30 - 1) 0 0)

module _ {us : List ℕ} {least : StructSize} {s p : ℕ} {old made mid : View} {h : WordPlace} (o : StructMade us least s p old made mid h) where
  abbrev S : Segments
  S = old.words

  abbrev W : List ℕ
  W = segment old.words s

  abbrev x : ℕ
  x = struct_word (offset_to_end S s p) least.data_words least.pointers

  abbrev P : Segments
  P = with_word S s p x

  place : IsPlace P s p
  place = place_kept S s p x o.place

  same_long : length (segment P s) ≡ length W
  same_long = long_as S s p x

  -- The words of the segment, once the data words are written.
  mid_near : HasStructRoom old s least → mid.words ≡ extended P s (us ++ replicate least.pointers 0)
  mid_near fits =
      let at_end : StartsAtEnd S s h = o.behind.near fits.0 fits.1 in
      let taken : made.words ≡ with_segment P s (segment P s ++ replicate (length us + least.pointers) 0) = rw o.long (o.near fits) in
      let start : h.at ≡ length (segment P s) = at_end.1 ∙ sym same_long in
      let put : mid.words ≡ with_words made.words s (length (segment P s)) us = ap (λ (v : View). v.words) o.writes ∙ ap₂ (λ i j. with_words made.words i j us) at_end.0 start in
      begun P s least.pointers us (there P s p place, taken) put

  near_stands : {r : Reading} {new : View} {m m' : Meter} (b : Form) → HasStructRoom old s least → (children : ChildrenCopied r least.pointers (call_of b mid new s m m') (length (segment P s) + least.data_words)) →
      new.words ≡ with_segment S s (copied W p (Struct us (kept_each b children.children)))
  near_stands {r} {new} {m} {m'} b fits children =
      let H : ℕ = length (segment P s) in
      let q : ℕ = least.pointers in
      let ws : List ℕ = us ++ replicate q 0 in
      let ts : Trees = kept_each b children.children in
      let K : Segments = extended P s ws in
      let V : List ℕ = segment K s in
      let mids : mid.words ≡ K = mid_near fits in
      let v0 : View = record old { words = P } in
      let v1 : View = record old { words = mid.words } in
      let v2 : View = record old { words = new.words } in
      let v3 : View = record old { words = with_word new.words s p x } in
      let kids : ChildrenCopied r q (call_of b v1 v2 s m m') (H + least.data_words) =
      record { children = children.children; counts = children.counts; are_read = children.are_read; made = children.made } in
      let begins : StructBegun us least v0 v1 s p H = record { long = o.long; place = place; taken = record { starts = refl; extends = ap (λ T. record old { words = T }) mids } } in
      let all : v3.words ≡ with_segment P s (copied (segment P s) p (Struct us ts)) = struct_put {new = v3} begins fits.0 kids (ap (λ k. struct_word (offset_to p k) least.data_words q) (sym same_long)) refl in
      let children_there : new.words ≡ with_segment K s (with_children V (H + least.data_words) ts) = subst (λ T. new.words ≡ with_segment T s (with_children (segment T s) (H + least.data_words) ts)) mids children.made in
      let k : ℕ = length V - (H + least.data_words + count ts) in
      let width : length V ≡ H + (length us + q) = length-extended P s ws (there P s p place) ∙ ap (λ i. H + i) (length-append us (replicate q 0) ∙ ap (λ i. length us + i) (length-replicate q 0)) in
      let is : word_at new.words s p ≡ x =
      stays S s p x (H + least.data_words) ws (pointers k ts) (drop (H + least.data_words + count ts) V) (bodies ts) o.place (omega (arith, same_long, o.place)) (omega (arith, width, o.long)) children_there in
      pointer_first S s p (Struct us ts) o.place is all

  empty_stands : {r : Reading} {new : View} {m m' : Meter} (b : Form) → least.data_words + least.pointers ≡ 0 → (children : CopiesChildren r least.pointers (copy_call b (call_at h.segment (h.at + least.data_words) mid new) m m')) →
      new.words ≡ with_segment S s (copied W p (Struct us (kept_each b children.children)))
  empty_stands {r} {new} b none children =
      let ts : Trees = children.children in
      let e : ℕ = struct_word (2 ^ 30 - 1) 0 0 in
      let no_words : us ≡ [] = nil_from_length us (omega (arith, none, o.long)) in
      let no_kids : ts ≡ no_trees = no_trees_left ts (omega (arith, children.counts, none)) in
      let words : word_count_all (kept_each b ts) ≡ 0 = ap (λ t. word_count_all (kept_each b t)) no_kids ∙ ap word_count_all (kept_none b) in
      let stand : AreCopied mid.words new.words h.segment (h.at + least.data_words) (kept_each b ts) = children.stands (inl (omega (arith, o.within, words))) in
      let V : List ℕ = segment mid.words h.segment in
      let kept_mid : new.words ≡ mid.words =
      stand ∙ ap (λ t. with_segment mid.words h.segment (with_children V (h.at + least.data_words) t)) (ap (kept_each b) no_kids ∙ kept_none b)
      ∙ ap (with_segment mid.words h.segment) (no_children V (h.at + least.data_words)) ∙ sym (not_written mid.words h.segment) in
      let kept_made : mid.words ≡ made.words = ap (λ (v : View). v.words) o.writes ∙ ap (with_words made.words h.segment h.at) no_words ∙ none_over made.words h.segment h.at in
      kept_mid ∙ kept_made ∙ o.empty none ∙ ap (λ ws. with_segment S s (set ws p e)) (sym (append-nil W))
      ∙ ap₂ (λ (xs : List ℕ) t. with_segment S s (copied W p (Struct xs t))) (sym no_words) (sym (ap (kept_each b) no_kids ∙ kept_none b))

  pub struct_tight : {r : Reading} {new : View} {m m' : Meter} (b : Form) → length made.words ≤ length new.words → (children : CopiesChildren r least.pointers (copy_call b (call_at h.segment (h.at + least.data_words) mid new) m m')) → (t : Tree) →
      kept b t ≡ Struct us (kept_each b children.children) → IsCopiedInRoom old new s p (kept b t)
  struct_tight {r} {new} {m} {m'} b longer children t form fits =
      cases_of (least.data_words + least.pointers) refl ∙ ap (λ y. with_segment S s (copied W p y)) (sym form)
    where
      cases_of : (n : ℕ) → n ≡ least.data_words + least.pointers → new.words ≡ with_segment S s (copied W p (Struct us (kept_each b children.children)))
      cases_of zero same = empty_stands b (sym same) children
      cases_of (suc n) same =
          let ts : Trees = kept_each b children.children in
          let d : ℕ = least.data_words in
          let q : ℕ = least.pointers in
          let words : word_count (kept b t) ≡ d + q + word_count_all ts = ap word_count form ∙ omega (arith, o.long, kept_each-count b children.children, children.counts) in
          let near : HasStructRoom old s least = (omega (arith, same), own_room old made new s p (d + q) o.place o.taken longer (stay_fewer old new s (word_count (kept b t)) (d + q) (omega (arith, words)) fits)) in
          let at_end : StartsAtEnd S s h = o.behind.near near.0 near.1 in
          let ws : List ℕ = us ++ replicate q 0 in
          let width : length (segment mid.words s) ≡ length W + (d + q) =
          ap (λ T. length (segment T s)) (mid_near near) ∙ length-extended P s ws (there P s p place) ∙ omega (arith, same_long, o.long, length-append us (replicate q 0), length-replicate {A = ℕ} q 0) in
          let room : mid.room s ≡ old.room s = ap (λ (v : View). v.room s) o.writes ∙ room_kept old made s p o.place o.memory in
          let stand : AreCopied mid.words new.words s (length (segment P s) + d) ts =
          moved mid new (word_count_all ts) (λ i. i + d) ts at_end.0 (at_end.1 ∙ sym same_long) children.stands (stay_later old mid new s s (word_count (kept b t)) (word_count_all ts) (λ f. omega (arith, width, room, f, words)) fits) in
          near_stands {r = r} {new = new} {m = m} {m' = m'} b near (record { children = children.children; counts = children.counts; are_read = children.are_read; made = stand })

-- A list of i pointers is made near its pointer.
pub record PointersMade (i s p : ℕ) (old mid : View) (h : WordPlace) : Type 0 where
  pub place : IsPlace old.words s p
  pub memory : KeepsMemory old mid
  pub taken : TakesRoom old mid s i
  pub near : HasOwnRoom old s i → mid.words ≡ with_list old.words s p 6 i
  pub at_end : HasOwnRoom old s i → StartsAtEnd old.words s h

pub pointers_tight : {r : Reading} {i s p : ℕ} {old mid new : View} {h : WordPlace} {m m' : Meter} (b : Form) → length mid.words ≤ length new.words → PointersMade i s p old mid h → (children : CopiesChildren r i (copy_call b (call_at h.segment h.at mid new) m m')) → IsCopiedInRoom old new s p (kept b (Pointers children.children))
pointers_tight {r} {i} {s} {p} {old} {mid} {new} {h} {m} {m'} b longer o children fits =
    let S : Segments = old.words in
    let x : ℕ = list_word (offset_to_end S s p) 6 i in
    let P : Segments = with_word S s p x in
    let H : ℕ = length (segment P s) in
    let ws : List ℕ = replicate i 0 in
    let K : Segments = extended P s ws in
    let V : List ℕ = segment K s in
    let ts : Trees = kept_each b children.children in
    let counts : count ts ≡ i = kept_each-count b children.children ∙ children.counts in
    let form : kept b (Pointers children.children) ≡ Pointers ts = kept_pointers b children.children in
    let all_words : ℕ = word_count (kept b (Pointers children.children)) in
    let words : all_words ≡ i + word_count_all ts = ap word_count form ∙ omega (arith, counts) in
    let room : HasOwnRoom old s i = own_room old mid new s p i o.place o.taken longer (stay_fewer old new s all_words i (omega (arith, words)) fits) in
    let start : StartsAtEnd S s h = o.at_end room in
    let mids : mid.words ≡ K = o.near room in
    let place : IsPlace P s p = place_kept S s p x o.place in
    let same_long : H ≡ length (segment S s) = long_as S s p x in
    let width : length V ≡ H + i = length-extended P s ws (there P s p place) ∙ ap (λ k. H + k) (length-replicate i 0) in
    let same_room : mid.room s ≡ old.room s = room_kept old mid s p o.place o.memory in
    let stand : AreCopied mid.words new.words s H ts =
    moved mid new (word_count_all ts) (λ k. k) ts start.0 (start.1 ∙ sym same_long) children.stands (stay_later old mid new s s all_words (word_count_all ts) (λ f. omega (arith, ap (λ T. length (segment T s)) mids, width, same_long, same_room, words, f)) fits) in
    let v0 : View = record old { words = P } in
    let v1 : View = record old { words = mid.words } in
    let v2 : View = record old { words = new.words } in
    let v3 : View = record old { words = with_word new.words s p x } in
    let kids : ChildrenCopied r i (call_of b v1 v2 s m m') H = record { children = children.children; counts = children.counts; are_read = children.are_read; made = stand } in
    let taken : TakesWords v0 v1 s H ws = record { starts = refl; extends = ap (λ T. record old { words = T }) mids } in
    let all : v3.words ≡ with_segment P s (copied (segment P s) p (Pointers ts)) = pointers_put {old = v0} {mid = v1} {new = v3} place taken kids (ap (λ k. list_word (offset_to p k) 6 i) (sym same_long)) refl in
    let children_there : new.words ≡ with_segment K s (with_children V H ts) = subst (λ T. new.words ≡ with_segment T s (with_children (segment T s) H ts)) mids stand in
    let is : word_at new.words s p ≡ x =
    stays S s p x H ws (pointers (length V - (H + count ts)) ts) (drop (H + count ts) V) (bodies ts) o.place (omega (arith, same_long, o.place)) (omega (arith, width)) children_there in
    pointer_first S s p (Pointers ts) o.place is all ∙ ap (λ t. with_segment S s (copied (segment S s) p t)) (sym form)

-- A list of i structs is made near its pointer.
pub record StructsMade (i s p : ℕ) (least : StructSize) (old mid : View) (h : WordPlace) : Type 0 where
  pub place : IsPlace old.words s p
  pub memory : KeepsMemory old mid
  pub taken : TakesRoom old mid s (1 + i * (least.data_words + least.pointers))
  pub behind : ComesAfter old s (1 + i * (least.data_words + least.pointers)) h
  pub near : HasStructsRoom old s i least → mid.words ≡ with_struct_list old.words s p i least

-- The words of its elements are the last ones of the segment.
pub ends_in_zeros : {i s p : ℕ} {least : StructSize} {old mid new : View} {h : WordPlace} {m m' : Meter} (b : Form) → StructsMade i s p least old mid h → HasStructsRoom old s i least → EndsInZeros (copy_call b (call_at h.segment (h.at + 1) mid new) m m') (i * (least.data_words + least.pointers))
ends_in_zeros {i} {s} {p} {least} {old} {mid} {new} {h} {m} {m'} b o room =
    let S : Segments = old.words in
    let d : ℕ = least.data_words in
    let q : ℕ = least.pointers in
    let w : ℕ = d + q in
    let x : ℕ = list_word (offset_to_end S s p) 7 (i * w) in
    let tag : ℕ = struct_word i d q in
    let P : Segments = with_word S s p x in
    let H : ℕ = length (segment P s) in
    let ws : List ℕ = tag ∷ replicate (i * w) 0 in
    let V : List ℕ = segment (extended P s ws) s in
    let start : StartsAtEnd S s h = o.behind.near (omega arith) room in
    let mids : mid.words ≡ extended P s ws = o.near room in
    let place : IsPlace P s p = place_kept S s p x o.place in
    let first : h.at ≡ H = start.1 ∙ sym (long_as S s p x) in
    let shape : V ≡ segment P s ++ ws = segment_here P s (segment P s ++ ws) (there P s p place) in
    let width : length V ≡ H + (1 + i * w) = ap length shape ∙ length-append (segment P s) ws ∙ (let f : length ws ≡ 1 + i * w = omega (arith, length-replicate {A = ℕ} (i * w) 0) in ap (λ k. H + k) f) in
    let here : segment mid.words h.segment ≡ V = ap₂ (λ T k. segment T k) mids start.0 in
    let zero : (j : ℕ) → h.at + 1 ≤ j → word_at mid.words h.segment j ≡ 0 = λ j le.
    (let less : H + 1 ≤ j = omega (arith, le, first) in
    let next : j - H ≡ suc (j - (H + 1)) = omega (arith, less) in
    ap (λ xs. get_or xs j 0) (here ∙ shape) ∙ get_or-append_right (segment P s) ws H j 0 refl (omega (arith, less)) ∙ ap (λ k. get_or ws k 0) next ∙ get_or-zeros (i * w) (j - (H + 1))) in
    record { ends = omega (arith, first, width, ap length here); zero = zero }

pub structs_tight : {r : Reading} {sizes : ElementSizes} {i s p : ℕ} {old mid new : View} {h : WordPlace} {m m' : Meter} (b : Form) → length mid.words ≤ length new.words → r.at + i * (sizes.source.data_words + sizes.source.pointers) ≤ length (segment_read r) → KeepsWidths b r sizes.source i sizes.kept → StructsMade i s p sizes.kept old mid h →
    (elements : CopiesRows r sizes i 0 (copy_call b (call_at h.segment (h.at + 1) mid new) m m')) → IsCopiedInRoom old new s p (kept b (Structs sizes.source.data_words sizes.source.pointers elements.elements))
structs_tight {r} {sizes} {i} {s} {p} {old} {mid} {new} {h} {m} {m'} b longer inside widths o elements fits =
    let S : Segments = old.words in
    let d : ℕ = sizes.kept.data_words in
    let q : ℕ = sizes.kept.pointers in
    let w : ℕ = d + q in
    let x : ℕ = list_word (offset_to_end S s p) 7 (i * w) in
    let tag : ℕ = struct_word i d q in
    let P : Segments = with_word S s p x in
    let H : ℕ = length (segment P s) in
    let ws : List ℕ = tag ∷ replicate (i * w) 0 in
    let K : Segments = extended P s ws in
    let V : List ℕ = segment K s in
    let es : Elements = elements.elements in
    let fs : Elements = cut_kept b sizes es in
    let whole : Tree = Structs sizes.source.data_words sizes.source.pointers es in
    let form : kept b whole ≡ Structs d q fs =
    list_kept b r sizes.source sizes.kept es elements.are_read.cost (subst (λ k. r.at + k * (sizes.source.data_words + sizes.source.pointers) ≤ length (segment_read r)) (sym elements.counts) inside) (subst (λ k. KeepsWidths b r sizes.source k sizes.kept) (sym elements.counts) widths) elements.are_read.means in
    let all_words : ℕ = word_count (kept b whole) in
    let words : all_words ≡ 1 + i * w + word_count_elements fs = ap word_count form ∙ ap (λ j. 1 + j * w + word_count_elements fs) (cut_kept-count b d q es ∙ elements.counts) in
    let room : HasStructsRoom old s i sizes.kept = own_room old mid new s p (1 + i * w) o.place o.taken longer (stay_fewer old new s all_words (1 + i * w) (omega (arith, words)) fits) in
    let start : StartsAtEnd S s h = o.behind.near (omega arith) room in
    let mids : mid.words ≡ K = o.near room in
    let place : IsPlace P s p = place_kept S s p x o.place in
    let same_long : H ≡ length (segment S s) = long_as S s p x in
    let first : h.at ≡ H = start.1 ∙ sym same_long in
    let shape : V ≡ segment P s ++ ws = segment_here P s (segment P s ++ ws) (there P s p place) in
    let width : length V ≡ H + (1 + i * w) = ap length shape ∙ length-append (segment P s) ws ∙ (let f : length ws ≡ 1 + i * w = omega (arith, length-replicate {A = ℕ} (i * w) 0) in ap (λ k. H + k) f) in
    let here : segment mid.words h.segment ≡ V = ap₂ (λ T k. segment T k) mids start.0 in
    let no_more : (i + 0) * w ≡ i * w = ap (λ k. k * w) (let f : i + 0 ≡ i = omega arith in f) in
    let zeros : EndsInZeros (copy_call b (call_at h.segment (h.at + 1) mid new) m m') ((i + 0) * w) = subst (EndsInZeros (copy_call b (call_at h.segment (h.at + 1) mid new) m m')) (sym no_more) (ends_in_zeros {new = new} {m = m} {m' = m'} b o room) in
    let same_room : mid.room h.segment ≡ old.room s = ap mid.room start.0 ∙ room_kept old mid s p o.place o.memory in
    let stand : new.words ≡ with_segment mid.words h.segment (rows_laid (take (h.at + 1) (segment mid.words h.segment)) d q fs 0) = elements.stands zeros (stay_later old mid new s h.segment all_words (word_count_elements fs) (λ f. omega (arith, f, words, same_room, width, same_long, ap length here)) fits) in
    let stands : new.words ≡ with_segment mid.words s (rows_laid (take (H + 1) (segment mid.words s)) d q fs 0) = stand ∙ ap₂ (λ u a. with_segment mid.words u (rows_laid (take (a + 1) (segment mid.words u)) d q fs 0)) start.0 first in
    let v0 : View = record old { words = P } in
    let v1 : View = record old { words = mid.words } in
    let v2 : View = record old { words = new.words } in
    let v3 : View = record old { words = with_word new.words s p x } in
    let parts : ElementsCopied r sizes i (call_of b v1 v2 s m m') (H + 1) = record { elements = es; counts = elements.counts; are_read = elements.are_read; made = stands } in
    let begins : ListBegun sizes.kept i v0 v1 s p H = record { place = place; taken = record { starts = refl; extends = ap (λ T. record old { words = T }) mids } } in
    let all : v3.words ≡ with_segment P s (copied (segment P s) p (Structs d q fs)) = list_put {new = v3} begins parts (ap (λ k. list_word (offset_to p k) 7 (i * w)) (sym same_long)) refl in
    let elements_there : new.words ≡ with_segment K s (rows_laid (take (H + 1) V) d q fs 0) = subst (λ T. new.words ≡ with_segment T s (rows_laid (take (H + 1) (segment T s)) d q fs 0)) mids stands in
    let is : word_at new.words s p ≡ x =
    stays S s p x (H + 1) ws (rows d q (0 * w) fs) (replicate (0 * w) 0) (element_bodies fs) o.place (omega (arith, same_long, o.place)) (omega (arith, width)) elements_there in
    pointer_first S s p (Structs d q fs) o.place is all ∙ ap (λ t. with_segment S s (copied (segment S s) p t)) (sym form)
