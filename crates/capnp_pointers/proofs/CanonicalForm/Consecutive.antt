-- Consecutive children and elements, and the words that they are.
-- The lemmas take the place, the head and what is there one by one, in the way of `HasCanonicalAt`.
use Rattle.std.proofs.Common.{◌≡◌, ℕ, suc, ◌+◌, ◌*◌, ◌^◌, ◌<◌, ◌≤◌, List, [], ◌∷◌, ◌++◌, length, take, drop, refl, sym, ap, ap₂, ◌∙◌, subst, arith, length-append, take-add, drop-drop}
use Rattle.std.proofs.lemmas.List.{drop_more}
use Rattle.capnp_format.specs.Segments.{Segments, segment, word_at, HasWords}
use Rattle.capnp_format.specs.Tree.{Tree, Null, Capability, Struct, Flat, Pointers, Structs, Trees, no_trees, tree, Elements, no_elements, element, count, element_count, capabilities_all, capabilities_elements}
use Rattle.capnp_format.specs.Canonical.{word_count, word_count_all, word_count_elements, trim_each, trim_elements, pointer, pointers, rows, body, bodies, element_bodies, ForOffset, OffsetsFit, RowsFit, AreEncodable, AreEncodableElements, offset_to, Reaches, HasCanonicalAt}
use Rattle.capnp_format.specs.Value.{AreValues, AreElements}
use Rattle.capnp_pointers.specs.Standing.{HasBodiesAt}
use Rattle.capnp_pointers.proofs.CanonicalForm.ElementsStand.{ElementsStand}
use Rattle.capnp_format.proofs.Slices.{has_words_first, has_words_rest, has_words_head, has_words_tail, has_words_within, moved}
use Rattle.capnp_format.proofs.Lengths.{length-body, length-bodies, length-pointers}
use Rattle.capnp_format.proofs.Lies.{pointer_ahead, reaches_ahead}
use Rattle.capnp_format.proofs.Bounds.{HasSmallWords, words_small}

-- Consecutive words xs and ys are the words xs ++ ys.
pub has_words_joined : (S : Segments) (s h : ℕ) (xs ys : List ℕ) → HasWords S s h xs → HasWords S s (h + length xs) ys → HasWords S s h (xs ++ ys)
has_words_joined S s h xs ys e f =
    ap (λ n. take n (drop h (segment S s))) (length-append xs ys)
    ∙ take-add (length xs) (length ys) (drop h (segment S s))
    ∙ ap₂ (λ x y. x ++ y) e (ap (take (length ys)) (drop-drop (length xs) h (segment S s)) ∙ f)

-- A word inside its segment is there as a list of one word.
pub has_words_one : (S : Segments) (s h x : ℕ) → word_at S s h ≡ x → h < length (segment S s) → HasWords S s h (x ∷ [])
has_words_one S s h x e l = ap (take 1) (drop_more (segment S s) h 0 l) ∙ ap (λ y. y ∷ []) e

-- One word more in front.
pub has_words_more : (S : Segments) (s h x : ℕ) (xs : List ℕ) → word_at S s h ≡ x → h < length (segment S s) → HasWords S s (h + 1) xs → HasWords S s h (x ∷ xs)
has_words_more S s h x xs e l f = has_words_joined S s h (x ∷ []) xs (has_words_one S s h x e l) f

-- What holds if a pointer has an offset may be weakened.
pub for_offset_map : (t : Tree) (P Q : Type 0) → (P → Q) → ForOffset t P → ForOffset t Q
for_offset_map Null P Q f h = tt
for_offset_map (Capability i) P Q f h = tt
for_offset_map (Struct [] no_trees) P Q f h = tt
for_offset_map (Struct [] (tree t ts)) P Q f h = f h
for_offset_map (Struct (x ∷ xs) ts) P Q f h = f h
for_offset_map (Flat size ns) P Q f h = f h
for_offset_map (Pointers ts) P Q f h = f h
for_offset_map (Structs d q es) P Q f h = f h

-- If a pointer reaches a position with k words in between, k is less than 2^29.
reach_near : (p k : ℕ) → Reaches p (p + 1 + k) → k < 2 ^ 29
reach_near p k r = omega arith

-- If the pointer of a value has an offset, and reaches a position with k words in between, k is
-- less than 2^29.
pub offset_near : (t : Tree) (p k : ℕ) → ForOffset t (Reaches p (p + 1 + k)) → ForOffset t (k < 2 ^ 29)
offset_near t p k r = for_offset_map t (Reaches p (p + 1 + k)) (k < 2 ^ 29) (reach_near p k) r

-- S has the pointers of children from (s, p) on as a canonical object has them, and their bodies
-- after k more words. The children are trimmed and have no capabilities.
pub record AreLaid (S : Segments) (s p k : ℕ) (ts : Trees) : Type 0 where
  pub values : AreValues ts
  pub offsets : OffsetsFit k ts
  pub encodable : AreEncodable ts
  pub trimmed : trim_each ts ≡ ts
  pub free : capabilities_all ts ≡ 0
  pub heads : HasWords S s p (pointers k ts)
  pub behind : HasWords S s (p + count ts + k) (bodies ts)

-- Children that are canonical one by one are laid together so.
pub laid_where_standing : (S : Segments) (s p k : ℕ) (ts : Trees) → HasBodiesAt S s p (p + count ts + k) ts → AreLaid S s p k ts
laid_where_standing S s p k no_trees a = record { values = tt; offsets = tt; encodable = tt; trimmed = refl; free = refl; heads = refl; behind = refl }
laid_where_standing S s p k (tree t ts) (stands, all) =
    let j = count ts + k in
    let h = p + suc (count ts) + k in
    let there : h ≡ p + 1 + j = omega arith in
    let lies = stands.5 in
    let near = offset_near t p j (subst (λ i. ForOffset t (Reaches p i)) there lies.0) in
    let long = length-body t stands.1 in
    let rest = laid_where_standing S s (p + 1) (k + word_count t) ts (subst (λ i. HasBodiesAt S s (p + 1) i ts) (let e : h + word_count t ≡ p + 1 + count ts + (k + word_count t) = omega arith in e) all) in
    record {
      values = (stands.1, rest.values);
      offsets = (near, rest.offsets);
      encodable = (stands.4, rest.encodable);
      trimmed = ap₂ tree stands.2 rest.trimmed;
      free = omega (arith, stands.3, rest.free);
      heads = has_words_more S s p (pointer t j) (pointers (k + word_count t) ts) (lies.1 ∙ ap (λ i. pointer t (offset_to p i)) there ∙ pointer_ahead t p j near) stands.0 rest.heads;
      behind = has_words_joined S s h (body t) (bodies ts) lies.2
          (moved S s (p + 1 + count ts + (k + word_count t)) (h + length (body t)) (bodies ts) (omega (arith, long)) rest.behind);
    }

-- Children that are laid so are canonical one by one.
pub standing_where_laid : (S : Segments) (s p k : ℕ) (ts : Trees) → AreLaid S s p k ts → p + count ts ≤ length (segment S s) → HasBodiesAt S s p (p + count ts + k) ts
standing_where_laid S s p k no_trees a l = tt
standing_where_laid S s p k (tree t ts) a l =
    let j = count ts + k in
    let h = p + suc (count ts) + k in
    let there : p + 1 + j ≡ h = omega arith in
    let long = length-body t a.values.0 in
    let o = a.offsets.0 in (
      (
        omega arith,
        a.values.0,
        (let e = a.trimmed in cc e),
        (let e = a.free in omega arith),
        a.encodable.0,
        (
          subst (λ i. ForOffset t (Reaches p i)) there (reaches_ahead t p j o),
          has_words_head S s p (pointer t j) (pointers (k + word_count t) ts) a.heads ∙ sym (pointer_ahead t p j o) ∙ ap (λ i. pointer t (offset_to p i)) there,
          has_words_first S s h (body t) (bodies ts) a.behind,
        ),
      ),
      subst (λ i. HasBodiesAt S s (p + 1) i ts) (let e : p + 1 + count ts + (k + word_count t) ≡ h + word_count t = omega arith in e)
          (standing_where_laid S s (p + 1) (k + word_count t) ts
          (record {
            values = a.values.1;
            offsets = a.offsets.1;
            encodable = a.encodable.1;
            trimmed = (let e = a.trimmed in cc e);
            free = (let e = a.free in omega arith);
            heads = has_words_tail S s p (pointer t j) (pointers (k + word_count t) ts) a.heads;
            behind = moved S s (h + length (body t)) (p + 1 + count ts + (k + word_count t)) (bodies ts) (omega (arith, long)) (has_words_rest S s h (body t) (bodies ts) a.behind);
          })
          (omega arith)),
    )

-- S has elements of d data words and q pointers from (s, p) on as a canonical list has them, and
-- the bodies of their children after k more words. The children are trimmed and have no
-- capabilities.
pub record AreRows (S : Segments) (s p d q k : ℕ) (es : Elements) : Type 0 where
  pub values : AreElements d q es
  pub offsets : RowsFit d q k es
  pub encodable : AreEncodableElements es
  pub trimmed : trim_elements es ≡ es
  pub free : capabilities_elements es ≡ 0
  pub heads : HasWords S s p (rows d q k es)
  pub behind : HasWords S s (p + element_count es * (d + q) + k) (element_bodies es)

-- Elements that are canonical one by one are laid together so.
pub rows_where_standing : (S : Segments) (s p d q k : ℕ) (es : Elements) → HasSmallWords S s → ElementsStand S s p d q (p + element_count es * (d + q) + k) es → AreRows S s p d q k es
rows_where_standing S s p d q k no_elements w a = record { values = tt; offsets = tt; encodable = tt; trimmed = refl; free = refl; heads = refl; behind = refl }
rows_where_standing S s p d q k (element ws ts es) w (long, len, words, all, others) =
    let more = element_count es * (d + q) in
    let h = p + suc (element_count es) * (d + q) + k in
    let there : h ≡ p + d + count ts + (more + k) = omega arith in
    let row = laid_where_standing S s (p + d) (more + k) ts (subst (λ i. HasBodiesAt S s (p + d) i ts) there all) in
    let long_bodies = length-bodies ts row.values in
    let rest = rows_where_standing S s (p + d + q) d q (k + word_count_all ts) es w
    (subst (λ i. ElementsStand S s (p + d + q) d q i es) (let e : h + word_count_all ts ≡ p + d + q + more + (k + word_count_all ts) = omega arith in e) others) in
    let long_row : length (ws ++ pointers (more + k) ts) ≡ d + q = omega (arith, length-append ws (pointers (more + k) ts), length-pointers (more + k) ts) in
    record {
      values = (long, len, words_small S s p ws w words, row.values, rest.values);
      offsets = (row.offsets, rest.offsets);
      encodable = (row.encodable, rest.encodable);
      trimmed = ap₂ (element ws) row.trimmed rest.trimmed;
      free = omega (arith, row.free, rest.free);
      heads = has_words_joined S s p (ws ++ pointers (more + k) ts) (rows d q (k + word_count_all ts) es)
          (has_words_joined S s p ws (pointers (more + k) ts) words (moved S s (p + d) (p + length ws) (pointers (more + k) ts) (omega arith) row.heads))
          (moved S s (p + d + q) (p + length (ws ++ pointers (more + k) ts)) (rows d q (k + word_count_all ts) es) (omega (arith, long_row)) rest.heads);
      behind = has_words_joined S s h (bodies ts) (element_bodies es) (moved S s (p + d + count ts + (more + k)) h (bodies ts) (sym there) row.behind)
          (moved S s (p + d + q + more + (k + word_count_all ts)) (h + length (bodies ts)) (element_bodies es) (omega (arith, long_bodies)) rest.behind);
    }

-- Elements that are laid so are canonical one by one.
pub standing_where_rows : (S : Segments) (s p d q k : ℕ) (es : Elements) → AreRows S s p d q k es → p + element_count es * (d + q) ≤ length (segment S s) →
    ElementsStand S s p d q (p + element_count es * (d + q) + k) es
standing_where_rows S s p d q k no_elements a l = tt
standing_where_rows S s p d q k (element ws ts es) a l =
    let more = element_count es * (d + q) in
    let h = p + suc (element_count es) * (d + q) + k in
    let v = a.values in
    let there : p + d + count ts + (more + k) ≡ h = omega (arith, v.1) in
    let here = has_words_first S s p (ws ++ pointers (more + k) ts) (rows d q (k + word_count_all ts) es) a.heads in
    let long_row : length (ws ++ pointers (more + k) ts) ≡ d + q = omega (arith, v.0, v.1, length-append ws (pointers (more + k) ts), length-pointers (more + k) ts) in
    let long_bodies = length-bodies ts v.3 in (
      v.0,
      v.1,
      has_words_first S s p ws (pointers (more + k) ts) here,
      subst (λ i. HasBodiesAt S s (p + d) i ts) there
          (standing_where_laid S s (p + d) (more + k) ts
          (record {
            values = v.3;
            offsets = a.offsets.0;
            encodable = a.encodable.0;
            trimmed = (let e = a.trimmed in cc e);
            free = (let e = a.free in omega arith);
            heads = moved S s (p + length ws) (p + d) (pointers (more + k) ts) (omega (arith, v.0)) (has_words_rest S s p ws (pointers (more + k) ts) here);
            behind = moved S s h (p + d + count ts + (more + k)) (bodies ts) (sym there) (has_words_first S s h (bodies ts) (element_bodies es) a.behind);
          })
          (omega (arith, v.1))),
      subst (λ i. ElementsStand S s (p + d + q) d q i es) (let e : p + d + q + more + (k + word_count_all ts) ≡ h + word_count_all ts = omega arith in e)
          (standing_where_rows S s (p + d + q) d q (k + word_count_all ts) es
          (record {
            values = v.4;
            offsets = a.offsets.1;
            encodable = a.encodable.1;
            trimmed = (let e = a.trimmed in cc e);
            free = (let e = a.free in omega arith);
            heads = moved S s (p + length (ws ++ pointers (more + k) ts)) (p + d + q) (rows d q (k + word_count_all ts) es) (omega (arith, long_row))
                (has_words_rest S s p (ws ++ pointers (more + k) ts) (rows d q (k + word_count_all ts) es) a.heads);
            behind = moved S s (h + length (bodies ts)) (p + d + q + more + (k + word_count_all ts)) (element_bodies es) (omega (arith, long_bodies))
                (has_words_rest S s h (bodies ts) (element_bodies es) a.behind);
          })
          (omega arith)),
    )

-- The canonical words of t end inside their segment if the head is inside it.
pub stands_within : (S : Segments) (s p h : ℕ) (t : Tree) → h ≤ length (segment S s) → HasCanonicalAt S s p h t → h + word_count t ≤ length (segment S s)
stands_within S s p h t l a = omega (arith, length-body t a.1, has_words_within S s h (body t) (a.5).2 l)

-- The canonical words of children end inside their segment if the head is inside it.
pub all_within : (S : Segments) (s p h : ℕ) (ts : Trees) → h ≤ length (segment S s) → HasBodiesAt S s p h ts → h + word_count_all ts ≤ length (segment S s)
all_within S s p h no_trees l a = omega arith
all_within S s p h (tree t ts) l a = omega (arith, all_within S s (p + 1) (h + word_count t) ts (stands_within S s p h t l a.0) a.1)

-- The canonical words of the children of elements end inside their segment if the head is inside
-- it.
pub elements_within : (S : Segments) (s p d q h : ℕ) (es : Elements) → h ≤ length (segment S s) → ElementsStand S s p d q h es → h + word_count_elements es ≤ length (segment S s)
elements_within S s p d q h no_elements l a = omega arith
elements_within S s p d q h (element ws ts es) l a =
    omega (arith, elements_within S s (p + d + q) d q (h + word_count_all ts) es (all_within S s (p + d) h ts l a.3) a.4)
