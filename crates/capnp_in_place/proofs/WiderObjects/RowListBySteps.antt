-- Lists whose elements are rows are made lists of structs, by the steps that the calls state.
use Rattle.capnp_arena_traits.specs.declared.arena.WordPlace.{WordPlace}
use Rattle.capnp_in_place.proofs.WiderObjects.ListsWidened.{ListWritten, count-struct_for_each_tree, pointers_widened, structs_widened, void_widened}
use Rattle.capnp_in_place.proofs.MovedPointers.MovedInTurn.{children_stand}
use Rattle.capnp_in_place.proofs.WiderObjects.RemadeElsewhere.{IsRehoused, pads_from, pads_in_rows, struct_data_words}
use Rattle.capnp_in_place.proofs.WiderObjects.NewRowsBySteps.{RowsRewritten, filled_at, filled_past, no_pads, none_stand, pads_in_words, stand_in_rows, word_of_words, words_by_each, zeros_there}
use Rattle.capnp_in_place.proofs.WiderObjects.RowsWidened.{AreRows, ObjectStored, RowSteps, rows_written}
use Rattle.capnp_in_place.proofs.MovedPointers.MovedByRows.{elements_stand, no_moves}
use Rattle.capnp_in_place.proofs.WiderObjects.RowsCopied.{RowsCopied}
use Rattle.capnp_in_place.proofs.WiderObjects.Statements.{HaveValuesInside, rewriting, rows_moves}
use Rattle.capnp_in_place.proofs.WiderObjects.WidenedIsFilledUp.{count-fill_elements, length-fill_words}
use Rattle.capnp_in_place.specs.Moved.{IsMoved}
use Rattle.capnp_in_place.specs.RowsRemade.{BecomesList, as_structs, element_moves}
use Rattle.capnp_in_place.specs.Widened.{fill_elements, fill_words, struct_for_each_tree}
use Rattle.capnp_in_place.specs.declared.existing.ExistingList.{ExistingList}
use Rattle.capnp_in_place.specs.declared.remaking.ElementRows.{ElementRows}
use Rattle.capnp_in_place.specs.declared.widening.Allocation.{Allocation}
use Rattle.capnp_format.specs.Forest.{cover, cover_all, cover_elements, target, target_in}
use Rattle.capnp_format.specs.Means.{IsTag, Leads, Means, MeansElements}
use Rattle.capnp_format.specs.Numbers.{words_for}
use Rattle.capnp_format.specs.Path.{struct_at, word_interval}
use Rattle.capnp_format.specs.Segments.{HasWords, Segments, Target, segment, word_at}
use Rattle.capnp_format.specs.Tree.{Elements, Flat, Pointers, Structs, Tree, Trees, count, element, element_count, no_elements}
use Rattle.capnp_allocation.proofs.Below.{split_row}
use Rattle.capnp_allocation.proofs.BelowElements.{element_within}
use Rattle.capnp_allocation.proofs.Extents.{times-first, times-object}
use Rattle.capnp_allocation.proofs.PlacedStructs.{count-zero_elements}
use Rattle.capnp_allocation.specs.Made.{zero_elements}
use Rattle.capnp_allocation.specs.Stored.{IsReplaced, IsStored}
use Rattle.capnp_allocation.specs.Zeroed.{row}
use Rattle.capnp_allocation.specs.declared.making.Shape.TheVariants.{List as ListShape}
use Rattle.capnp_words.specs.declared.error.ErrorKind.{ErrorKind}
use Rattle.capnp_words.specs.declared.wire_pointer.ElementSize.TheVariants.{InlineComposite}
use Rattle.capnp_words.specs.declared.wire_pointer.StructSize.{StructSize}
use Rattle.std.proofs.Common.{List, Ok, Option, Result, Some, [], ap, arith, inl, inr, length, pred, refl, subst, suc, sym, zero, ℕ, ◌*◌, ◌+◌, ◌<◌, ◌∙◌, ◌≡◌, ◌≤◌}
use Rattle.std.proofs.lemmas.Bool.{cases_lt}

-- Where the list of structs is in the end.
abbrev pub list_at : Allocation → StructSize → ℕ → ExistingList
list_at h size n = record { segment = h.segment; start = h.at + h.pads + 1; size = InlineComposite; struct_size = size; count = n }

-- The list of structs that is found there in the end.
pub found_there : (a b : Target) (wd wk m n v p : ℕ) → a ≡ b → b.segment ≡ v → b.start ≡ p → m ≡ n →
    ◌≡◌ {A = Result (Option ExistingList) ErrorKind} (Ok (Some (record { segment = a.segment; start = a.start + 1; size = InlineComposite; struct_size = record { data_words = wd; pointers = wk }; count = m })))
    (Ok (Some (record { segment = v; start = p + 1; size = InlineComposite; struct_size = record { data_words = wd; pointers = wk }; count = n })))
found_there a b wd wk m n v p e f g h =
    let list : ℕ → ℕ → ℕ → Result (Option ExistingList) ErrorKind = λ s q i. Ok (Some (record { segment = s; start = q + 1; size = InlineComposite; struct_size = record { data_words = wd; pointers = wk }; count = i })) in
    ap (λ c. list c.segment c.start m) e ∙ ap (λ s. list s b.start m) f ∙ ap (λ q. list v q m) g ∙ ap (λ i. list v p i) h

-- The steps of making a list one of structs, with a tag before its rows.
pub record ListSteps (S T D P R Z Q : Segments) (id at : ℕ) (old : ElementRows) (words : ℕ) (size : StructSize) (h : Allocation) : Type 0 where
  pub steps : RowSteps S T D P R Z Q id at old words 1 size h (ListShape InlineComposite (old.count * (size.data_words + size.pointers)))
  pub tag : IsTag (word_at D h.segment (h.at + h.pads)) old.count size.data_words size.pointers

module _ {S T D P R Z Q : Segments} {id at : ℕ} {old : ElementRows} {words : ℕ} {size : StructSize} {h : Allocation} (s : ListSteps S T D P R Z Q id at old words size h) where
  pub list_written : (r : RowsRewritten S D Q id at old 1 size h words (target S id at) s.steps.settled.object) → ListWritten r.last Q id at s.steps.settled.object old.count size.data_words size.pointers
  list_written r = let shaped = s.steps.settled.is_shape in record {
    tag = subst (λ w. IsTag w old.count size.data_words size.pointers) (sym (r.tag_there (omega arith))) s.tag;
    leads_there = record { leads_to = r.leads_to; is_list = shaped.0; is_size = shaped.1; counts = shaped.2 };
  }

  pub list_becomes : (t : Tree) (fs : Elements) → RowsRewritten S D Q id at old 1 size h words (target S id at) s.steps.settled.object → element_count fs ≡ old.count → IsReplaced S Q id at t (Structs size.data_words size.pointers fs) →
      BecomesList (rewriting id at S Q) (list_at h size old.count) t (Structs size.data_words size.pointers fs)
  list_becomes t fs r counts replaced =
      (replaced, found_there (target Q id at) s.steps.settled.object size.data_words size.pointers (element_count fs) old.count h.segment (h.at + h.pads) (ap target_in r.leads_to.1) s.steps.settled.in_segment s.steps.settled.starts counts)

-- The number of words of old rows, with their tag.
abbrev pub old_words : ElementRows → ℕ
old_words old = old.tag + old.count * (old.size.data_words + old.size.pointers)

-- A list of structs.

abbrev pub struct_rows : Segments → ℕ → ℕ → ℕ → ℕ → Elements → ElementRows
struct_rows S id at d k es = record { segment = (target S id at).segment; at = (target S id at).start; tag = 1; size = record { data_words = d; pointers = k }; count = element_count es }

pub structs_stored : (S : Segments) (id at d k : ℕ) (es : Elements) → IsStored S id at (Structs d k es) →
    ObjectStored S id at (Structs d k es) (1 + element_count es * (d + k)) (cover_elements S (target S id at).segment ((target S id at).start + 1) d k es)
structs_stored S id at d k es x =
    let o = at_level x.means.0 x.means.1 x.means.2 in
    record { stored = x; whole = refl; leads_to = o.0; fits = o.1 }
  where
    at_level : (n c : ℕ) → Means S n id at (Structs d k es) c → Leads S id at (target S id at) × ((target S id at).start + (1 + element_count es * (d + k)) ≤ length (segment S (target S id at).segment))
    at_level n c (a, m, l, some, o, claim, tag, fits, all, g) =
        subst (λ b. Leads S id at b × (b.start + (1 + element_count es * (d + k)) ≤ length (segment S b.segment))) (sym (ap target_in o.leads_to.1)) (o.leads_to, omega (arith, claim, fits))

-- The words of the elements of a list.
pub element_words : (S : Segments) (n s p d q : ℕ) (es : Elements) (c i : ℕ) → MeansElements S n s p d q es c → i < element_count es → HasWords S s (p + i * (d + q)) (struct_data_words (struct_at es i)) × (length (struct_data_words (struct_at es i)) ≡ d)
element_words S n s p d q no_elements c i m l = absurd (omega arith)
element_words S n s p d q (element ws ts es) c zero (a, b, long, len, words, all, rest, g) l =
    (subst (λ z. HasWords S s z ws) (let e : p ≡ p + 0 * (d + q) = omega arith in e) words, long)
element_words S n s p d q (element ws ts es) c (suc i) (a, b, long, len, words, all, rest, g) l =
    let r = element_words S n s (p + d + q) d q es b i rest (omega arith) in
    (subst (λ z. HasWords S s z (struct_data_words (struct_at es i))) (let e : p + d + q + i * (d + q) ≡ p + suc i * (d + q) = omega arith in e) r.0, r.1)

-- The words of a list of structs.
pub record ListParts (S : Segments) (u q d k : ℕ) (es : Elements) (a : Target) : Type 0 where
  pub fits : a.start + (1 + element_count es * (d + k)) ≤ length (segment S a.segment)
  pub element : (i : ℕ) → i < element_count es → HasWords S a.segment (a.start + 1 + i * (d + k)) (struct_data_words (struct_at es i)) × (length (struct_data_words (struct_at es i)) ≡ d)

pub list_parts : (S : Segments) (u q d k : ℕ) (es : Elements) → IsStored S u q (Structs d k es) → ListParts S u q d k es (target S u q)
list_parts S u q d k es x = at_level x.means.0 x.means.1 x.means.2
  where
    at_level : (n c : ℕ) → Means S n u q (Structs d k es) c → ListParts S u q d k es (target S u q)
    at_level n c (a, m, l, some, o, claim, tag, fits, all, g) =
        subst (λ b. ListParts S u q d k es b) (sym (ap target_in o.leads_to.1)) (record {
          fits = omega (arith, claim, fits);
          element = λ i h. element_words S (pred n) a.segment (a.start + 1) d k es l i all h;
        })

pub structs_are : (S : Segments) (id at d k : ℕ) (es : Elements) (size : StructSize) → IsStored S id at (Structs d k es) →
    AreRows S id at (Structs d k es) (struct_rows S id at d k es) (old_words (struct_rows S id at d k es)) 1 size (as_structs size (Structs d k es))
structs_are S id at d k es size x = record {
  inner = cover_elements S (target S id at).segment ((target S id at).start + 1) d k es;
  object = structs_stored S id at d k es x;
  in_segment = refl;
  starts = refl;
  stand = at_level x.means.0 x.means.1 x.means.2;
  wide = ap (λ n. 1 + n * (size.data_words + size.pointers)) (count-fill_elements size.data_words size.pointers es);
  pointers = refl;
  moves = λ to. refl;
}
  where
    at_level : (n c : ℕ) → Means S n id at (Structs d k es) c → (to : WordPlace) → HaveValuesInside S (element_moves (struct_rows S id at d k es) to size)
    at_level n c (a, i, l, some, o, claim, tag, fits, all, g) = λ to.
        (let parts = λ (y w : ℕ). times-first (word_interval id at) (cover S id at (Structs d k es)) y w in
        let object = λ (y w : ℕ). times-object S id at (1 + element_count es * (d + k)) a (λ t. cover_elements S t.segment (t.start + 1) d k es) y w o.leads_to.1 in
        subst (λ t. HaveValuesInside S (rows_moves t.segment (t.start + 1 + d) (d + k) to.segment (to.at + size.data_words) (size.data_words + size.pointers) k (element_count es))) (sym (ap target_in o.leads_to.1))
        (elements_stand S (pred n) a.segment (a.start + 1) d k to.segment (to.at + size.data_words) (size.data_words + size.pointers) es l all
        (λ y w held. x.inside y w (omega (
          arith,
          held,
          parts y w,
          object y w,
          split_row a.segment a.start 1 (element_count es * (d + k)) y w,
          times-first (row a.segment (a.start + 1) (element_count es * (d + k))) (cover_elements S a.segment (a.start + 1) d k es) y w,
        )))))

pub structs_become : {S T D P R Z Q : Segments} {id at : ℕ} (d k : ℕ) (es : Elements) (size : StructSize) (h : Allocation) → IsStored S id at (Structs d k es) → d ≤ size.data_words →
    ListSteps S T D P R Z Q id at (struct_rows S id at d k es) (old_words (struct_rows S id at d k es)) size h → RowsCopied S D (struct_rows S id at d k es) 1 size h →
    BecomesList (rewriting id at S Q) (list_at h size (element_count es)) (Structs d k es) (as_structs size (Structs d k es))
structs_become {S = S} {D = D} {Q = Q} {id = id} {at = at} d k es size h x wide s c =
    let a = target S id at in
    let b = s.steps.settled.object in
    let n = element_count es in
    let e = size.data_words in
    let z = e + size.pointers in
    let r = rows_written (structs_are S id at d k es size x) s.steps in
    let M = r.last in
    let parts = list_parts S id at d k es x in
    list_becomes s (Structs d k es) (fill_elements e size.pointers es) r (count-fill_elements e size.pointers es)
    (structs_widened S M Q id at d k es e size.pointers b r.fresh wide s.steps.narrow x r.rehoused (record {
      words = λ i l. (let ws = struct_data_words (struct_at es i) in
          let (has, long) = parts.element i l in
          let full : length (fill_words e ws) ≡ e = omega (arith, length-fill_words e ws, long, wide) in
          words_by_each M b.segment (b.start + 1 + i * z) (fill_words e ws) (omega (arith, full, r.rehoused.claim, element_within z n i l))
          (λ j m. r.word i j l (omega (arith, full)) (inl (omega (arith, full))) ∙ elim (cases_lt j d) [
            | inl o ↦ c.data_there i j l o ∙ word_of_words S a.segment (a.start + 1 + i * (d + k)) j ws has (omega (arith, long)) ∙ sym (filled_at e j ws (omega (arith, long)))
            | inr o ↦ c.zero i j l o (omega (arith, full)) ∙ sym (filled_past e j ws (omega (arith, long)))
          ]));
      moved = λ i j l m. subst (λ p. IsMoved M a.segment p b.segment (b.start + 1 + i * z + e + j)) (let w : a.start + 1 + d + i * (d + k) + j ≡ a.start + 1 + i * (d + k) + d + j = omega arith in w) (r.moved i j l m);
      nulls_behind = λ i j l m o. ap (word_at M b.segment) (let w : b.start + 1 + i * z + e + j ≡ b.start + 1 + i * z + (e + j) = omega arith in w)
          ∙ r.word i (e + j) l (omega (arith, o)) (inr (omega (arith, m))) ∙ c.zero i (e + j) l (omega (arith, wide)) (omega (arith, o));
    }) (list_written s r))

-- A list of pointers.

abbrev pub pointer_rows : Segments → ℕ → ℕ → Trees → ElementRows
pointer_rows S id at ts = record { segment = (target S id at).segment; at = (target S id at).start; tag = 0; size = record { data_words = 0; pointers = 1 }; count = count ts }

pub record PointersStored (S : Segments) (id at : ℕ) (ts : Trees) (a : Target) : Type 0 where
  pub leads_to : Leads S id at a
  pub fits : a.start + count ts ≤ length (segment S a.segment)
  pub stand : (v r z : ℕ) → HaveValuesInside S (rows_moves a.segment a.start 1 v r z 1 (count ts))

pub pointers_stored : (S : Segments) (id at : ℕ) (ts : Trees) → IsStored S id at (Pointers ts) → PointersStored S id at ts (target S id at)
pointers_stored S id at ts x = at_level x.means.0 x.means.1 x.means.2
  where
    at_level : (n c : ℕ) → Means S n id at (Pointers ts) c → PointersStored S id at ts (target S id at)
    at_level n c (a, l, some, o, claim, all, g) =
        let parts = λ (y w : ℕ). times-first (word_interval id at) (cover S id at (Pointers ts)) y w in
        let object = λ (y w : ℕ). times-object S id at (count ts) a (λ t. cover_all S t.segment t.start ts) y w o.leads_to.1 in
        subst (λ b. PointersStored S id at ts b) (sym (ap target_in o.leads_to.1)) (record {
          leads_to = o.leads_to;
          fits = claim;
          stand = λ v r z. stand_in_rows S a.segment a.start v r v r z (count ts)
              (children_stand S (pred n) a.segment a.start v r ts l all
              (λ y w held. x.inside y w (omega (arith, held, parts y w, object y w, times-first (row a.segment a.start (count ts)) (cover_all S a.segment a.start ts) y w))));
        })

pub pointers_are : (S : Segments) (id at : ℕ) (ts : Trees) (size : StructSize) → IsStored S id at (Pointers ts) →
    AreRows S id at (Pointers ts) (pointer_rows S id at ts) (old_words (pointer_rows S id at ts)) 1 size (as_structs size (Pointers ts))
pointers_are S id at ts size x =
    let a = target S id at in
    let z = size.data_words + size.pointers in
    let parts = pointers_stored S id at ts x in
    let words : count ts ≡ old_words (pointer_rows S id at ts) = omega arith in
    let start : a.start ≡ a.start + 0 + 0 = omega arith in
    let object : ObjectStored S id at (Pointers ts) (count ts) (cover_all S a.segment a.start ts) = record { stored = x; whole = refl; leads_to = parts.leads_to; fits = parts.fits } in
    record {
      inner = cover_all S a.segment a.start ts;
      object = subst (λ n. ObjectStored S id at (Pointers ts) n (cover_all S a.segment a.start ts)) words object;
      in_segment = refl;
      starts = refl;
      stand = λ to. subst (λ p. HaveValuesInside S (rows_moves a.segment p 1 to.segment (to.at + size.data_words) z 1 (count ts))) start (parts.stand to.segment (to.at + size.data_words) z);
      wide = ap (λ n. 1 + n * z) (count-struct_for_each_tree size.data_words size.pointers ts);
      pointers = omega arith;
      moves = λ to. ap (λ p. rows_moves a.segment p 1 to.segment (to.at + 1 + size.data_words) z 1 (count ts)) start;
    }

pub pointers_become : {S T D P R Z Q : Segments} {id at : ℕ} (ts : Trees) (size : StructSize) (h : Allocation) → IsStored S id at (Pointers ts) →
    ListSteps S T D P R Z Q id at (pointer_rows S id at ts) (old_words (pointer_rows S id at ts)) size h → RowsCopied S D (pointer_rows S id at ts) 1 size h →
    BecomesList (rewriting id at S Q) (list_at h size (count ts)) (Pointers ts) (as_structs size (Pointers ts))
pointers_become {S = S} {D = D} {Q = Q} {id = id} {at = at} ts size h x s c =
    let a = target S id at in
    let b = s.steps.settled.object in
    let n = count ts in
    let e = size.data_words in
    let k = size.pointers in
    let z = e + k in
    let some : 0 < k = omega (arith, s.steps.narrow) in
    let r = rows_written (pointers_are S id at ts size x) s.steps in
    let M = r.last in
    let after = pads_in_rows M b.segment (b.start + 1 + e) z 1 n in
    let words : old_words (pointer_rows S id at ts) ≡ n = omega arith in
    let before : pads_in_rows M a.segment (a.start + 0 + 0) 1 1 n ≡ pads_from M a.segment a.start n =
    ap (λ p. pads_in_rows M a.segment p 1 1 n) (let f : a.start + 0 + 0 ≡ a.start = omega arith in f) ∙ pads_in_words M a.segment a.start n in
    list_becomes s (Pointers ts) (struct_for_each_tree e k ts) r (count-struct_for_each_tree e k ts)
    (pointers_widened S M Q id at ts e k b r.fresh some x
    (subst (λ m. IsRehoused S M Q id at a m b (1 + n * z) (pads_from M a.segment a.start n) after r.fresh) words
    (subst (λ is. IsRehoused S M Q id at a (old_words (pointer_rows S id at ts)) b (1 + n * z) is after r.fresh) before r.rehoused)) (record {
      words = λ i l. zeros_there M b.segment (b.start + 1 + i * z) e (omega (arith, r.rehoused.claim, element_within z n i l)) (λ j m. r.word i j l (omega (arith, m)) (inl m) ∙ c.zero i j l (omega arith) (omega (arith, m)));
      moved = λ i l. subst (λ p. IsMoved M a.segment p b.segment (b.start + 1 + i * z + e)) (let f : a.start + 0 + 0 + i * 1 + 0 ≡ a.start + i = omega arith in f)
          (subst (λ p. IsMoved M a.segment (a.start + 0 + 0 + i * 1 + 0) b.segment p) (let f : b.start + 1 + i * z + e + 0 ≡ b.start + 1 + i * z + e = omega arith in f) (r.moved i 0 l (omega arith)));
      nulls_behind = λ i j l m o. ap (word_at M b.segment) (let f : b.start + 1 + i * z + e + j ≡ b.start + 1 + i * z + (e + j) = omega arith in f)
          ∙ r.word i (e + j) l (omega (arith, o)) (inr (omega (arith, m))) ∙ c.zero i (e + j) l (omega arith) (omega (arith, o));
    }) (list_written s r))

-- A list of void, or one of numbers, has no pointers.

abbrev pub flat_rows : Segments → ℕ → ℕ → List ℕ → ElementRows
flat_rows S id at ns = record { segment = (target S id at).segment; at = (target S id at).start; tag = 0; size = record { data_words = 0; pointers = 0 }; count = length ns }

pub flat_stored : (S : Segments) (id at w : ℕ) (ns : List ℕ) → IsStored S id at (Flat w ns) → ObjectStored S id at (Flat w ns) (words_for w (length ns)) []
flat_stored S id at w ns x =
    let o = at_level x.means.0 x.means.1 x.means.2 in
    record { stored = x; whole = refl; leads_to = o.0; fits = o.1 }
  where
    at_level : (n c : ℕ) → Means S n id at (Flat w ns) c → Leads S id at (target S id at) × ((target S id at).start + words_for w (length ns) ≤ length (segment S (target S id at).segment))
    at_level n c (a, some, small, o, claim, e, g) = subst (λ b. Leads S id at b × (b.start + words_for w (length ns) ≤ length (segment S b.segment))) (sym (ap target_in o.leads_to.1)) (o.leads_to, claim)

pub flat_are : (S : Segments) (id at w m : ℕ) (ns : List ℕ) (size : StructSize) (fs : Elements) → words_for w (length ns) ≡ m → element_count fs ≡ length ns → IsStored S id at (Flat w ns) →
    AreRows S id at (Flat w ns) (flat_rows S id at ns) m 1 size (Structs size.data_words size.pointers fs)
flat_are S id at w m ns size fs words counts x =
    let a = target S id at in
    let from = a.start + 0 + 0 in
    let z = size.data_words + size.pointers in
    record {
      inner = [];
      object = subst (λ i. ObjectStored S id at (Flat w ns) i []) words (flat_stored S id at w ns x);
      in_segment = refl;
      starts = refl;
      stand = λ to. none_stand S a.segment from 0 to.segment (to.at + size.data_words) z (length ns);
      wide = ap (λ n. 1 + n * z) counts;
      pointers = omega arith;
      moves = λ to. sym (no_moves a.segment from 0 to.segment (to.at + 1 + size.data_words) z (length ns));
    }

-- No pads change.
pub flat_rehoused : {S D Q : Segments} {id at : ℕ} (ns : List ℕ) {size : StructSize} {h : Allocation} {words : ℕ} {b : Target} → (r : RowsRewritten S D Q id at (flat_rows S id at ns) 1 size h words (target S id at) b) →
    IsRehoused S r.last Q id at (target S id at) words b (1 + length ns * (size.data_words + size.pointers)) [] [] r.fresh
flat_rehoused {S = S} {Q = Q} {id = id} {at = at} ns {size = size} {words = words} {b = b} r =
    let a = target S id at in
    let M = r.last in
    let z = size.data_words + size.pointers in
    subst (λ is. IsRehoused S M Q id at a words b (1 + length ns * z) [] is r.fresh) (no_pads M b.segment (b.start + 1 + size.data_words) z (length ns))
    (subst (λ is. IsRehoused S M Q id at a words b (1 + length ns * z) is (pads_in_rows M b.segment (b.start + 1 + size.data_words) z 0 (length ns)) r.fresh) (no_pads M a.segment (a.start + 0 + 0) 0 (length ns)) r.rehoused)

pub void_are : (S : Segments) (id at : ℕ) (ns : List ℕ) (size : StructSize) → IsStored S id at (Flat 0 ns) → AreRows S id at (Flat 0 ns) (flat_rows S id at ns) (old_words (flat_rows S id at ns)) 1 size (as_structs size (Flat 0 ns))
void_are S id at ns size x =
    flat_are S id at 0 (old_words (flat_rows S id at ns)) ns size (zero_elements size.data_words size.pointers (length ns)) (omega arith) (count-zero_elements size.data_words size.pointers (length ns)) x

pub void_become : {S T D P R Z Q : Segments} {id at : ℕ} (ns : List ℕ) (size : StructSize) (h : Allocation) → IsStored S id at (Flat 0 ns) →
    ListSteps S T D P R Z Q id at (flat_rows S id at ns) (old_words (flat_rows S id at ns)) size h → RowsCopied S D (flat_rows S id at ns) 1 size h →
    BecomesList (rewriting id at S Q) (list_at h size (length ns)) (Flat 0 ns) (as_structs size (Flat 0 ns))
void_become {S = S} {D = D} {Q = Q} {id = id} {at = at} ns size h x s c =
    let b = s.steps.settled.object in
    let n = length ns in
    let e = size.data_words in
    let k = size.pointers in
    let z = e + k in
    let r = rows_written (void_are S id at ns size x) s.steps in
    let M = r.last in
    let none : old_words (flat_rows S id at ns) ≡ 0 = omega arith in
    list_becomes s (Flat 0 ns) (zero_elements e k n) r (count-zero_elements e k n)
    (void_widened S M Q id at ns e k b r.fresh x (subst (λ m. IsRehoused S M Q id at (target S id at) m b (1 + n * z) [] [] r.fresh) none (flat_rehoused ns r)) (record {
      words = λ i l. zeros_there M b.segment (b.start + 1 + i * z) e (omega (arith, r.rehoused.claim, element_within z n i l)) (λ j m. r.word i j l (omega (arith, m)) (inl m) ∙ c.zero i j l (omega arith) (omega (arith, m)));
      nulls_behind = λ i j l m. ap (word_at M b.segment) (let f : b.start + 1 + i * z + e + j ≡ b.start + 1 + i * z + (e + j) = omega arith in f)
          ∙ r.word i (e + j) l (omega (arith, m)) (inr (omega arith)) ∙ c.zero i (e + j) l (omega arith) (omega (arith, m));
    }) (list_written s r))
