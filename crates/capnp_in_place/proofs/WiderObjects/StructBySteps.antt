-- A struct is widened: it is one row, without a tag.
use Rattle.capnp_in_place.proofs.MovedPointers.MovedInTurn.{children_stand}
use Rattle.capnp_in_place.proofs.WiderObjects.RemadeElsewhere.{IsRehoused, pads_from, pads_in_rows}
use Rattle.capnp_in_place.proofs.WiderObjects.RowsWidened.{AreRows, RowSteps, rows_written}
use Rattle.capnp_in_place.proofs.WiderObjects.RowsCopied.{RowsCopied, RowsFilled, first_row, no_head, no_rows_copied, rows_copied, rows_copied_next, rows_filled, rows_words}
use Rattle.capnp_in_place.proofs.WiderObjects.Statements.{HaveValuesInside, row_moves, rows_moves}
use Rattle.capnp_in_place.proofs.WiderObjects.NewRowsBySteps.{filled_at, filled_past, word_of_words, words_by_each}
use Rattle.capnp_in_place.proofs.WiderObjects.WidenedIsFilledUp.{count-fill_trees, length-fill_words, struct_widened}
use Rattle.capnp_in_place.specs.Moved.{IsMoved}
use Rattle.capnp_in_place.specs.RowsRemade.{CopiesData, RowsInside, element_moves}
use Rattle.capnp_in_place.specs.Widened.{GrowsByZeros, IsStruct, fill_trees, fill_words, widened}
use Rattle.capnp_in_place.specs.declared.existing.ExistingStruct.{ExistingStruct}
use Rattle.capnp_in_place.specs.declared.remaking.ElementRows.{ElementRows}
use Rattle.capnp_in_place.specs.declared.widening.Allocation.{Allocation}
use Rattle.capnp_format.specs.Forest.{cover, cover_all, object_of, pads_of, target, target_in, times}
use Rattle.capnp_format.specs.Means.{Leads, Means}
use Rattle.capnp_format.specs.Path.{extent, word_interval}
use Rattle.capnp_format.specs.Segments.{HasWords, Segments, Target, segment, word_at}
use Rattle.capnp_format.specs.Tree.{Capability, Flat, Null, Pointers, Struct, Structs, Tree, Trees, count}
use Rattle.capnp_allocation.proofs.Below.{split_row}
use Rattle.capnp_allocation.proofs.Extents.{times-first, times-object}
use Rattle.capnp_allocation.specs.Stored.{IsReplaced, IsStored}
use Rattle.capnp_allocation.specs.Zeroed.{row}
use Rattle.capnp_allocation.specs.declared.making.Shape.TheVariants.{Struct as StructShape}
use Rattle.capnp_words.specs.declared.wire_pointer.StructSize.{StructSize}
use Rattle.std.proofs.Common.{List, None, Some, [], ap, append-nil, ap₂, arith, inl, inr, length, max, pred, refl, subst, sym, ℕ, ◌*◌, ◌+◌, ◌<◌, ◌∙◌, ◌∷◌, ◌≡◌, ◌≤◌, ◌⊎◌}
use Rattle.std.proofs.lemmas.Bool.{cases_lt}
use Rattle.std.proofs.lemmas.List.{get_or_past}
use Rattle.capnp_in_place.specs.Existing.{IsStructInside}
use Rattle.capnp_in_place.specs.Housed.{AreWordsCopied, IsAllocation, object_start}
use Rattle.capnp_allocation.specs.Made.{IsGrown}
use Rattle.capnp_in_place.specs.Rooms.{widened_words}
use Rattle.capnp_arena_traits.specs.declared.arena.WordPlace.{WordPlace}

-- Nothing changes.
pub nothing_grown : (S R : Segments) → R ≡ S → GrowsByZeros S R
nothing_grown S R e =
    subst (λ T. GrowsByZeros S T) (sym e) (record { grows = record { segments = omega arith; words = λ x. omega arith }; kept = λ x y l. refl; zero = λ x y l. get_or_past (segment S x) y 0 l })

-- The struct that a place stores.
abbrev pub the_struct : Segments → ℕ → ℕ → List ℕ → Trees → ExistingStruct
the_struct S id at ws ts = record { segment = (target S id at).segment; start = (target S id at).start; size = record { data_words = length ws; pointers = count ts } }

pub no_struct : (x : ExistingStruct) → None ≡ Some x → ⊥
no_struct x e = cc

pub same_struct : (x y : ExistingStruct) → Some x ≡ Some y → x ≡ y
same_struct x y e = cc

abbrev pub struct_row : ExistingStruct → ElementRows
struct_row e = record { segment = e.segment; at = e.start; tag = 0; size = e.size; count = 1 }

-- The moves and the pads of one row.
pub one_row : (s p o w v r y z k : ℕ) → p ≡ o → r ≡ y → rows_moves s p w v r z k 1 ≡ row_moves s o v y k
one_row s p o w v r y z k e f = append-nil (row_moves s p v r k) ∙ ap₂ (λ a b. row_moves s a v b k) e f

row_pads : (M : Segments) (s p o w k : ℕ) → p ≡ o → pads_in_rows M s p w k 1 ≡ pads_from M s o k
row_pads M s p o w k e = append-nil (pads_from M s p k) ∙ ap (λ a. pads_from M s a k) e

pub struct_moves : (old : ExistingStruct) (size : StructSize) (h : Allocation) →
    row_moves old.segment (old.start + old.size.data_words) h.segment (h.at + h.pads + size.data_words) old.size.pointers ≡ element_moves (struct_row old) (first_row h 0) size
struct_moves old size h =
    let d = old.size.data_words in
    let wide = size.data_words in
    let v = h.at + h.pads in
    sym (one_row old.segment (old.start + 0 + d) (old.start + d) (d + old.size.pointers) h.segment (v + 0 + wide) (v + wide) (wide + size.pointers) old.size.pointers (omega arith) (omega arith))

-- The words of a widened struct: one row.
pub row_words : (size : StructSize) → size.data_words + size.pointers ≡ rows_words 0 1 size
row_words size = omega arith

row_copied : (T D : Segments) (old : ExistingStruct) (size : StructSize) (h : Allocation) → AreWordsCopied T D (record { segment = old.segment; at = old.start }) (object_start h) old.size.data_words →
    (old.segment ≡ h.segment → old.start + (old.size.data_words + old.size.pointers) ≤ h.at + h.pads) → old.size.data_words ≤ size.data_words → CopiesData T D (struct_row old) (first_row h 0) size
row_copied T D old size h c apart wide =
    let s = old.segment in
    let v = h.segment in
    let d = old.size.data_words in
    let w = d + old.size.pointers in
    let z = size.data_words + size.pointers in
    let p = old.start + 0 in
    let r = h.at + h.pads + 0 in
    let place : ℕ → ℕ → WordPlace = λ x y. record { segment = x; at = y } in
    rows_copied_next T T D s p w v r z d 0 1 (no_rows_copied T s p w v r z d) (λ e. omega (arith, apart e)) (omega arith) (omega (arith, wide)) (omega arith)
    (subst (λ y. AreWordsCopied T D (place s y) (place v (r + 0 * z)) d) (let e : old.start ≡ p + 0 * w = omega arith in e)
    (subst (λ y. AreWordsCopied T D (place s old.start) (place v y) d) (let e : h.at + h.pads ≡ r + 0 * z = omega arith in e) c))

-- The row is filled once the data words are copied.
module _ (S T D : Segments) (id : ℕ) (old : ExistingStruct) (size : StructSize) (h : Allocation) (inside : IsStructInside S old) (room : IsAllocation S T id (size.data_words + size.pointers) h)
    (c : AreWordsCopied T D (record { segment = old.segment; at = old.start }) (object_start h) old.size.data_words) (wide : old.size.data_words ≤ size.data_words) where
  grown : IsGrown S T h.segment h.at (h.pads + rows_words 0 1 size)
  grown = subst (λ n. IsGrown S T h.segment h.at (h.pads + n)) (row_words size) room.0

  copies : CopiesData T D (struct_row old) (first_row h 0) size
  copies = row_copied T D old size h c (λ e. omega (arith, inside, room.0.behind, ap (λ s. length (segment S s)) e)) wide

  within : RowsInside S (struct_row old)
  within = omega (arith, inside)

  pub struct_filled : RowsFilled S T D 0 1 size h
  struct_filled = rows_filled S T T D (struct_row old) 0 size h within grown (no_head T h) copies wide

  pub struct_copied : RowsCopied S D (struct_row old) 0 size h
  struct_copied = rows_copied S T T D (struct_row old) 0 size h within grown (no_head T h) copies

-- The parts of a stored struct.
record StructParts (S : Segments) (u q : ℕ) (ws : List ℕ) (ts : Trees) (a : Target) : Type 0 where
  here : target S u q ≡ a
  leads_to : Leads S u q a
  words : HasWords S a.segment a.start ws
  fits : a.start + (length ws + count ts) ≤ length (segment S a.segment)
  stand : (v r : ℕ) → HaveValuesInside S (row_moves a.segment (a.start + length ws) v r (count ts))

struct_parts : (S : Segments) (u q : ℕ) (ws : List ℕ) (ts : Trees) → IsStored S u q (Struct ws ts) → StructParts S u q ws ts (target S u q)
struct_parts S u q ws ts x = at_level x.means.0 x.means.1 x.means.2
  where
    at_level : (n c : ℕ) → Means S n u q (Struct ws ts) c → StructParts S u q ws ts (target S u q)
    at_level n c (a, l, some, o, claim, e, all, g) =
        let here : target S u q ≡ a = ap target_in o.leads_to.1 in
        let parts = λ (y z : ℕ). (let p : times (extent S u q (Struct ws ts)) y z ≡ times (word_interval u q ∷ []) y z + times (pads_of (word_at S u q)) y z + times (object_of a (length ws + count ts) ∷ []) y z + times (cover_all S a.segment (a.start + length ws) ts) y z =
        omega (arith, times-first (word_interval u q) (cover S u q (Struct ws ts)) y z, times-object S u q (length ws + count ts) a (λ w. cover_all S w.segment (w.start + length ws) ts) y z o.leads_to.1) in p) in
        subst (λ b. StructParts S u q ws ts b) (sym here) (record {
          here = here;
          leads_to = o.leads_to;
          words = e;
          fits = claim;
          stand = λ v r. children_stand S (pred n) a.segment (a.start + length ws) v r ts l all
              (λ y z w. x.inside y z (omega (
                arith,
                parts y z,
                split_row a.segment a.start (length ws) (count ts) y z,
                times-first (row a.segment (a.start + length ws) (count ts)) (cover_all S a.segment (a.start + length ws) ts) y z,
              )));
        })

pub struct_inside : (S : Segments) (id at : ℕ) (ws : List ℕ) (ts : Trees) → IsStored S id at (Struct ws ts) → IsStructInside S (the_struct S id at ws ts)
struct_inside S id at ws ts x = omega (arith, (struct_parts S id at ws ts x).fits)

-- A struct that is stored, and the moves of its pointers.
is_struct : (S : Segments) (id at : ℕ) (ws : List ℕ) (ts : Trees) (size : StructSize) → length ws ≤ size.data_words → count ts ≤ size.pointers → IsStored S id at (Struct ws ts) →
    AreRows S id at (Struct ws ts) (struct_row (the_struct S id at ws ts)) (length ws + count ts) 0 size (widened size ws ts)
is_struct S id at ws ts size wide more x =
    let a = target S id at in
    let z = size.data_words + size.pointers in
    let parts = struct_parts S id at ws ts x in
    let one = λ (v r y : ℕ) (e : r ≡ y). one_row a.segment (a.start + 0 + length ws) (a.start + length ws) (length ws + count ts) v r y z (count ts) (omega arith) e in
    record {
      inner = cover_all S a.segment (a.start + length ws) ts;
      object = record { stored = x; whole = refl; leads_to = parts.leads_to; fits = parts.fits };
      in_segment = refl;
      starts = refl;
      stand = λ to. subst (HaveValuesInside S) (sym (one to.segment (to.at + size.data_words) (to.at + size.data_words) refl)) (parts.stand to.segment (to.at + size.data_words));
      wide = omega (arith, length-fill_words size.data_words ws, count-fill_trees size.pointers ts);
      pointers = omega arith;
      moves = λ to. sym (one to.segment (to.at + 0 + size.data_words) (to.at + length (fill_words size.data_words ws)) (omega (arith, length-fill_words size.data_words ws)));
    }

struct_stands : {S T D P R Z Q : Segments} {id at : ℕ} (ws : List ℕ) (ts : Trees) (size : StructSize) (h : Allocation) → length ws ≤ size.data_words → IsStored S id at (Struct ws ts) →
    (s : RowSteps S T D P R Z Q id at (struct_row (the_struct S id at ws ts)) (length ws + count ts) 0 size h (StructShape size)) → RowsCopied S D (struct_row (the_struct S id at ws ts)) 0 size h →
    IsReplaced S Q id at (Struct ws ts) (widened size ws ts)
struct_stands {S = S} {D = D} {Q = Q} {id = id} {at = at} ws ts size h wide x s c =
    let a = target S id at in
    let b = s.settled.object in
    let shaped = s.settled.is_shape in
    let n = count ts in
    let d = size.data_words in
    let k = size.pointers in
    let r = rows_written (is_struct S id at ws ts size wide s.narrow x) s in
    let M = r.last in
    let vs = fill_words d ws in
    let words = length ws + n in
    let long : length vs ≡ d = omega (arith, length-fill_words d ws) in
    let full : count (fill_trees k ts) ≡ k = omega (arith, count-fill_trees k ts) in
    let sum : 0 + 1 * (d + k) ≡ length vs + count (fill_trees k ts) = omega (arith, long, full) in
    let before = pads_from M a.segment (a.start + length ws) n in
    let after = pads_from M b.segment (b.start + length vs) n in
    let w = length ws + n in
    let old_pads = row_pads M a.segment (a.start + 0 + length ws) (a.start + length ws) w n (omega arith) in
    let new_pads = row_pads M b.segment (b.start + 0 + d) (b.start + length vs) (d + k) n (omega (arith, long)) in
    let rehoused : IsRehoused S M Q id at a words b (length vs + count (fill_trees k ts)) before after r.fresh =
    subst (λ m. IsRehoused S M Q id at a words b m before after r.fresh) sum (subst (λ is. IsRehoused S M Q id at a words b (0 + 1 * (d + k)) is after r.fresh) old_pads
    (subst (λ is. IsRehoused S M Q id at a words b (0 + 1 * (d + k)) (pads_in_rows M a.segment (a.start + 0 + length ws) w n 1) is r.fresh) new_pads r.rehoused)) in
    let here = λ (j : ℕ) (l : j < d + k) (o : (j < d) ⊎ (d + n ≤ j)). (let e : word_at M b.segment (b.start + j) ≡ word_at D h.segment (h.at + h.pads + 0 + 0 * (d + k) + j) =
    ap (word_at M b.segment) (let f : b.start + j ≡ b.start + 0 + 0 * (d + k) + j = omega arith in f) ∙ r.word 0 j (omega arith) l o in e) in
    struct_widened S M Q id at ws vs ts k b r.fresh x rehoused (record {
      words = words_by_each M b.segment b.start vs (omega (arith, rehoused.claim))
          (λ j m. here j (omega (arith, long)) (inl (omega (arith, long))) ∙ elim (cases_lt j (length ws)) [
            | inl l ↦ c.data_there 0 j (omega arith) l ∙ ap (word_at S a.segment) (let f : a.start + 0 + 0 * w + j ≡ a.start + j = omega arith in f)
                ∙ word_of_words S a.segment a.start j ws (struct_parts S id at ws ts x).words l ∙ sym (filled_at d j ws l)
            | inr l ↦ c.zero 0 j (omega arith) l (omega (arith, long)) ∙ sym (filled_past d j ws l)
          ]);
      moved = λ j l. subst (λ p. IsMoved M a.segment p b.segment (b.start + length vs + j)) (let f : a.start + 0 + length ws + 0 * w + j ≡ a.start + length ws + j = omega arith in f)
          (subst (λ p. IsMoved M a.segment (a.start + 0 + length ws + 0 * w + j) b.segment p) (let f : b.start + 0 + 0 * (d + k) + d + j ≡ b.start + length vs + j = omega (arith, long) in f) (r.moved 0 j (omega arith) l));
      nulls_behind = λ j l m. ap (word_at M b.segment) (let f : b.start + length vs + j ≡ b.start + (d + j) = omega (arith, long) in f)
          ∙ here (d + j) (omega (arith, full)) (inr (omega arith)) ∙ c.zero 0 (d + j) (omega arith) (omega (arith, wide)) (omega (arith, full));
      leads_there = record { leads_to = r.leads_to; is_struct = shaped.0; data_of = shaped.1 ∙ sym long; pointers = shaped.2 ∙ sym full };
    })

-- What widening a struct leaves: its place means it filled up, and leads to its start.
pub record IsWidened (S Q : Segments) (id at : ℕ) (ws : List ℕ) (ts : Trees) (size : StructSize) (h : Allocation) : Type 0 where
  pub replaced : IsReplaced S Q id at (Struct ws ts) (widened size ws ts)
  pub segment_of : h.segment ≡ (target Q id at).segment
  pub start_of : h.at + h.pads ≡ (target Q id at).start
  pub inside : h.at + h.pads + size.data_words + size.pointers ≤ length (segment Q h.segment)

-- The struct is the one that a call has found.
module _ {S : Segments} {id at : ℕ} (old : ExistingStruct) (size : StructSize) (wide : old.size.data_words ≤ size.data_words) (more : old.size.pointers ≤ size.pointers) where
  pub struct_is : (ws : List ℕ) (ts : Trees) → IsStruct S id at old (Struct ws ts) → AreRows S id at (Struct ws ts) (struct_row old) (old.size.data_words + old.size.pointers) 0 size (widened size ws ts)
  struct_is ws ts i =
      let same = same_struct (the_struct S id at ws ts) old i.1 in
      subst (λ (o : ExistingStruct). AreRows S id at (Struct ws ts) (struct_row o) (o.size.data_words + o.size.pointers) 0 size (widened size ws ts)) same
      (is_struct S id at ws ts size (omega (arith, ap (λ (o : ExistingStruct). o.size.data_words) same, wide)) (omega (arith, ap (λ (o : ExistingStruct). o.size.pointers) same, more)) i.0)

  pub struct_becomes : {T D P R Z Q : Segments} {h : Allocation} → RowSteps S T D P R Z Q id at (struct_row old) (old.size.data_words + old.size.pointers) 0 size h (StructShape size) → RowsCopied S D (struct_row old) 0 size h →
      (ws : List ℕ) (ts : Trees) → IsStruct S id at old (Struct ws ts) → IsWidened S Q id at ws ts size h
  struct_becomes {T = T} {D = D} {P = P} {R = R} {Z = Z} {Q = Q} {h = h} s c ws ts i =
      let same = same_struct (the_struct S id at ws ts) old i.1 in
      let narrow : length ws ≤ size.data_words = omega (arith, ap (λ (o : ExistingStruct). o.size.data_words) same, wide) in
      let r = rows_written (struct_is ws ts i) s in
      let goes : target Q id at ≡ s.settled.object = ap target_in r.leads_to.1 in
      record {
        replaced = subst (λ (o : ExistingStruct). (x : RowSteps S T D P R Z Q id at (struct_row o) (o.size.data_words + o.size.pointers) 0 size h (StructShape size)) → RowsCopied S D (struct_row o) 0 size h → IsReplaced S Q id at (Struct ws ts) (widened size ws ts)) same
            (λ x y. struct_stands ws ts size h narrow i.0 x y) s c;
        segment_of = sym s.settled.in_segment ∙ ap (λ t. t.segment) (sym goes);
        start_of = sym s.settled.starts ∙ ap (λ t. t.start) (sym goes);
        inside = omega (arith, r.rehoused.claim, r.rehoused.same_words s.settled.object.segment, s.settled.starts, ap (λ y. length (segment Q y)) s.settled.in_segment);
      }

-- Only a struct is found as one.
pub by_struct : (S : Segments) (id at : ℕ) (old : ExistingStruct) (P : Tree → Type 0) → ((ws : List ℕ) (ts : Trees) → IsStruct S id at old (Struct ws ts) → P (Struct ws ts)) → (t : Tree) → IsStruct S id at old t → P t
by_struct S id at old P h (Struct ws ts) i = h ws ts i
by_struct S id at old P h Null i = absurd (no_struct old i.1)
by_struct S id at old P h (Capability n) i = absurd (no_struct old i.1)
by_struct S id at old P h (Flat n ns) i = absurd (no_struct old i.1)
by_struct S id at old P h (Pointers ts) i = absurd (no_struct old i.1)
by_struct S id at old P h (Structs d q es) i = absurd (no_struct old i.1)

-- How many words a widened struct takes.
pub wider_words : (size : StructSize) (ws : List ℕ) (ts : Trees) (d k : ℕ) → d ≡ max (length ws) size.data_words → k ≡ max (count ts) size.pointers → widened_words (widened size ws ts) ≡ d + k
wider_words size ws ts d k e f = omega (arith, length-fill_words size.data_words ws, count-fill_trees size.pointers ts, e, f)
