-- If S has the canonical words of a value, its object passes each check of its canonical form, and
-- its children have canonical words. Each lemma states what the checks find one by one.
use Rattle.std.proofs.Common.{◌≡◌, ◌≢◌, inl, inr, ℕ, ◌+◌, ◌-◌, ◌*◌, ◌^◌, ◌<◌, ◌≤◌, List, [], ◌∷◌, ◌++◌, length, take, refl, sym, ap, ap₂, ◌∙◌, subst, arith, take_all, length-take, length-append}
use Rattle.std.proofs.lemmas.Bool.{cases_lt}
use Rattle.capnp_format.specs.Word.{kind, offset_bits, struct_word, list_word}
use Rattle.capnp_format.specs.Numbers.{words_for, unpacked, packed, element_bits, from_digits}
use Rattle.capnp_format.specs.Segments.{Segments, segment, word_at, words_at, Target}
use Rattle.capnp_format.specs.Tree.{Tree, Null, Capability, Struct, Flat, Pointers, Structs, Trees, no_trees, tree, Elements, no_elements, element, count, element_count, capabilities}
use Rattle.capnp_format.specs.Means.{Claims, StructAt, ListAt, IsTag}
use Rattle.capnp_format.specs.Canonical.{used_words, used_trees, take_trees, data_width, pointer_width, cut_to, trim, trim_each, trim_elements, pointer, pointers, rows, bodies, element_bodies, ForOffset, offset_to, Reaches, HasCanonicalAt}
use Rattle.capnp_format.specs.Value.{AreElements}
use Rattle.capnp_pointers.specs.Standing.{HasBodiesAt, EndsUsed, IsPadded}
use Rattle.capnp_pointers.proofs.CanonicalForm.ElementsStand.{ElementsStand}
use Rattle.capnp_format.proofs.Digits.{length-digits}
use Rattle.capnp_format.proofs.Slices.{has_words_first, has_words_rest, has_words_head, has_words_tail, has_words_within, moved}
use Rattle.capnp_format.proofs.Lengths.{length-pointers, length-rows}
use Rattle.capnp_format.proofs.Lies.{unpacked-packed, tag_is}
use Rattle.capnp_format.proofs.Trimming.{used_words-le, used_trees-le, take_trees-count, trim_each-count}
use Rattle.capnp_pointers.proofs.CanonicalForm.Consecutive.{standing_where_laid, standing_where_rows}
use Rattle.capnp_pointers.proofs.CanonicalForm.UsedWords.{used_words-pointers, used_ends}
use Rattle.capnp_pointers.proofs.CanonicalForm.CanonicalIfAccepted.{near_to, near_struct_word, near_list_word, take_trees_all, struct_pointer}
use Rattle.capnp_format.proofs.Padding.{packed_below}

-- The pointer of a value without capabilities is one of a struct or of a list.
kind_of_pointer : (t : Tree) (k : ℕ) → capabilities t ≡ 0 → kind (pointer t k) < 2
kind_of_pointer Null k e = omega arith
kind_of_pointer (Capability i) k e = absurd (omega arith)
kind_of_pointer (Struct [] no_trees) k e = omega arith
kind_of_pointer (Struct [] (tree t ts)) k e = omega arith
kind_of_pointer (Struct (x ∷ xs) ts) k e = omega arith
kind_of_pointer (Flat size ns) k e = omega arith
kind_of_pointer (Pointers ts) k e = omega arith
kind_of_pointer (Structs d q es) k e = omega arith

-- The word at the place of canonical words is a pointer to a struct or a list.
pub kind_where_standing : (S : Segments) (s p h : ℕ) (t : Tree) → HasCanonicalAt S s p h t → kind (word_at S s p) < 2
kind_where_standing S s p h t a = rw (a.5).1 (kind_of_pointer t (offset_to p h) a.3)

-- The word at the place of canonical words isn't a far pointer.
not_far : (S : Segments) (s p h : ℕ) (t : Tree) → HasCanonicalAt S s p h t → kind (word_at S s p) ≢ 2
not_far S s p h t a e = let l = kind_where_standing S s p h t a in omega arith

-- If a pointer reaches two heads with the same offset, they are the same.
one_head : (p h i : ℕ) → Reaches p h → Reaches p i → offset_to p h ≡ offset_to p i → h ≡ i
one_head p h i a b e = omega arith

-- A list's pointer doesn't lead to a struct.
list_not_struct : (S : Segments) (s p : ℕ) (a : Target) (k size n d q : ℕ) → word_at S s p ≡ list_word k size n → StructAt S s p a d q → ⊥
list_not_struct S s p a k size n d q e o =
    let is_list : kind (word_at S s p) ≡ 1 = omega arith in
    let near = near_to S s p a (λ f. omega arith) o.leads_to.1 in
    let same : kind a.word ≡ kind (word_at S s p) = ap kind near.same_word in
    let is_struct = o.is_struct in
    omega arith

-- A struct's pointer doesn't lead to a list.
struct_not_list : (S : Segments) (s p : ℕ) (a : Target) (k d q size n : ℕ) → word_at S s p ≡ struct_word k d q → ListAt S s p a size n → ⊥
struct_not_list S s p a k d q size n e o =
    let is_struct : kind (word_at S s p) ≡ 0 = omega arith in
    let near = near_to S s p a (λ f. omega arith) o.leads_to.1 in
    let same : kind a.word ≡ kind (word_at S s p) = ap kind near.same_word in
    let is_list = o.is_list in
    omega arith

-- Equal words of structs have equal fields.
same_struct : (j k d q e r : ℕ) → j < 2 ^ 30 → k < 2 ^ 30 → d < 2 ^ 16 → e < 2 ^ 16 → struct_word j d q ≡ struct_word k e r → (j ≡ k) × (d ≡ e) × (q ≡ r)
same_struct j k d q e r a b c f g = (omega arith, omega arith, omega arith)

-- Equal words of lists have equal fields.
same_list : (j k size n more m : ℕ) → j < 2 ^ 30 → k < 2 ^ 30 → size < 8 → more < 8 → list_word j size n ≡ list_word k more m → (j ≡ k) × (size ≡ more) × (n ≡ m)
same_list j k size n more m a b c f g = (omega arith, omega arith, omega arith)

-- The sections of a trimmed struct are used to their ends.
pub trimmed_struct : (ws : List ℕ) (ts : Trees) → trim (Struct ws ts) ≡ Struct ws ts → (used_words ws ≡ length ws) × (trim_each ts ≡ ts) × (used_trees ts ≡ count ts)
trimmed_struct ws ts e =
    let us = trim_each ts in
    let words : take (used_words ws) ws ≡ ws = cc e in
    let children : take_trees (used_trees us) us ≡ ts = cc e in
    let many : used_trees us ≡ count ts = sym (take_trees-count (used_trees us) us (used_trees-le us)) ∙ ap count children in
    let same : us ≡ ts = sym (take_trees_all (used_trees us) us (omega (arith, many, trim_each-count ts))) ∙ children in
    (omega (arith, length-take (used_words ws) ws, ap length words, used_words-le ws), same, ap used_trees (sym same) ∙ many)

-- A pointer with the offset -1 reaches its own place.
its_own_place : (p i : ℕ) → Reaches p i → offset_to p i ≡ 2 ^ 30 - 1 → i ≡ p
its_own_place p i r e = omega arith

-- If the pointer leads to a struct without words, the value is the empty struct, and the pointer
-- leads to its own place.
pub empty_found : (S : Segments) (s p h : ℕ) (a : Target) (t : Tree) → HasCanonicalAt S s p h t → StructAt S s p a 0 0 → (t ≡ Struct [] no_trees) × (a.start ≡ p)
empty_found S s p h a Null st o = absurd (o.leads_to.0 (st.5).1)
empty_found S s p h a (Capability i) st o = let e = st.3 in absurd (omega arith)
empty_found S s p h a (Struct [] no_trees) st o =
    let near = near_to S s p a (not_far S s p h (Struct [] no_trees) st) o.leads_to.1 in
    let x = (st.5).1 in
    (refl, its_own_place p a.start near.reaches (sym near.offset ∙ ap offset_bits x))
empty_found S s p h a (Struct [] (tree t ts)) st o =
    let x = sym (st.5).1 ∙ near_struct_word S s p a 0 0 (not_far S s p h (Struct [] (tree t ts)) st) o in
    let f = same_struct (offset_to p h) (offset_to p a.start) 0 (count (tree t ts)) 0 0 (omega arith) (omega arith) (omega arith) (omega arith) x in
    absurd (omega (arith, f.2))
empty_found S s p h a (Struct (y ∷ ys) ts) st o =
    let x = sym (st.5).1 ∙ near_struct_word S s p a 0 0 (not_far S s p h (Struct (y ∷ ys) ts) st) o in
    let f = same_struct (offset_to p h) (offset_to p a.start) (length (y ∷ ys)) (count ts) 0 0 (omega arith) (omega arith) (st.1).0 (omega arith) x in
    absurd (omega (arith, f.1))
empty_found S s p h a (Flat size ns) st o = absurd (list_not_struct S s p a (offset_to p h) size (length ns) 0 0 (st.5).1 o)
empty_found S s p h a (Pointers ts) st o = absurd (list_not_struct S s p a (offset_to p h) 6 (count ts) 0 0 (st.5).1 o)
empty_found S s p h a (Structs d q es) st o = absurd (list_not_struct S s p a (offset_to p h) 7 (element_count es * (d + q)) 0 0 (st.5).1 o)

-- A struct begins at the head, is inside its segment, neither section ends with a zero, and its
-- children are after it.
pub record FoundStruct (S : Segments) (s p h : ℕ) (a : Target) (d q : ℕ) (t : Tree) : Type 0 where
  pub start : a.start ≡ h
  pub same_segment : a.segment ≡ s
  pub claim : Claims S a (d + q)
  pub data_used : EndsUsed S s h d
  pub pointers_used : EndsUsed S s (h + d) q
  pub children : (ts : Trees) × (count ts ≡ q) × HasBodiesAt S s (h + d) (h + d + q) ts × (t ≡ Struct (words_at S s h d) ts)

-- The pointer of a struct that isn't empty has an offset.
struct_reaches : (ws : List ℕ) (ts : Trees) (P : Type 0) → 0 < length ws + count ts → ForOffset (Struct ws ts) P → P
struct_reaches [] no_trees P l h = absurd (omega arith)
struct_reaches [] (tree t ts) P l h = h
struct_reaches (x ∷ xs) ts P l h = h

-- The pointer of a struct without words is always the same word.
empty_pointer : (ws : List ℕ) (ts : Trees) (k : ℕ) → length ws + count ts ≡ 0 → pointer (Struct ws ts) k ≡ struct_word (2 ^ 30 - 1) 0 0
empty_pointer [] no_trees k e = refl
empty_pointer [] (tree t ts) k e = absurd (omega arith)
empty_pointer (x ∷ xs) ts k e = absurd (omega arith)

-- A canonical struct is found so if its pointer leads to the head.
struct_parts : (S : Segments) (s p h : ℕ) (a : Target) (ws : List ℕ) (ts : Trees) → h ≤ length (segment S s) → HasCanonicalAt S s p h (Struct ws ts) → a.start ≡ h → a.segment ≡ s →
    FoundStruct S s p h a (length ws) (count ts) (Struct ws ts)
struct_parts S s p h a ws ts l (place, v, trimmed, free, f, lies) start same =
    let object = has_words_first S s h (ws ++ pointers 0 ts) (bodies ts) lies.2 in
    let rest = has_words_rest S s h (ws ++ pointers 0 ts) (bodies ts) lies.2 in
    let words = has_words_first S s h ws (pointers 0 ts) object in
    let heads = has_words_rest S s h ws (pointers 0 ts) object in
    let long = length-pointers 0 ts in
    let both : length (ws ++ pointers 0 ts) ≡ length ws + count ts = omega (arith, length-append ws (pointers 0 ts), long) in
    let room : h + (length ws + count ts) ≤ length (segment S s) = omega (arith, both, has_words_within S s h (ws ++ pointers 0 ts) object l) in
    let e = trimmed_struct ws ts trimmed in
    let same_length : length (segment S a.segment) ≡ length (segment S s) = ap (λ u. length (segment S u)) same in
    let pointers_here : words_at S s (h + length ws) (count ts) ≡ pointers 0 ts = ap (words_at S s (h + length ws)) (sym long) ∙ heads in
    record {
      start = start;
      same_segment = same;
      claim = omega arith;
      data_used = used_ends S s h (length ws) (omega arith) (ap used_words words ∙ e.0);
      pointers_used = used_ends S s (h + length ws) (count ts) (omega arith) (ap used_words pointers_here ∙ used_words-pointers 0 ts ∙ e.2);
      children = (
        ts,
        refl,
        subst (λ i. HasBodiesAt S s (h + length ws) i ts) (let q : h + length ws + count ts + 0 ≡ h + length ws + count ts = omega arith in q)
            (standing_where_laid S s (h + length ws) 0 ts
            (record {
              values = v.3;
              offsets = f.0;
              encodable = f.1;
              trimmed = e.1;
              free = free;
              heads = heads;
              behind = moved S s (h + length (ws ++ pointers 0 ts)) (h + length ws + count ts + 0) (bodies ts) (omega (arith, both)) rest;
            })
            (omega arith)),
        ap (λ vs. Struct vs ts) (sym words),
      );
    }

-- If a pointer leads to a struct of at least one word, the value is such a struct.
pub struct_found : (S : Segments) (s p h : ℕ) (a : Target) (d q : ℕ) (t : Tree) → HasCanonicalAt S s p h t → StructAt S s p a d q → 0 < d + q → FoundStruct S s p h a d q t
struct_found S s p h a d q Null st o some = absurd (o.leads_to.0 (st.5).1)
struct_found S s p h a d q (Capability i) st o some = let e = st.3 in absurd (omega arith)
struct_found S s p h a d q (Struct ws ts) st o some =
    let other = not_far S s p h (Struct ws ts) st in
    let near = near_to S s p a other o.leads_to.1 in
    let x = near_struct_word S s p a d q other o in
    let d_small : d < 2 ^ 16 = omega (arith, o.data_of) in
    elim (cases_lt 0 (length ws + count ts)) [
      | inl more ↦
          (let f = same_struct (offset_to p h) (offset_to p a.start) (length ws) (count ts) d q (omega arith) (omega arith) (st.1).0 d_small (sym (struct_pointer ws ts (offset_to p h) more) ∙ sym (st.5).1 ∙ x) in
          let start = one_head p a.start h near.reaches (struct_reaches ws ts (Reaches p h) more (st.5).0) (sym f.0) in
          let l : h ≤ length (segment S s) = omega (arith, near.inside, start) in
          subst (λ i. FoundStruct S s p h a i q (Struct ws ts)) f.1 (subst (λ i. FoundStruct S s p h a (length ws) i (Struct ws ts)) f.2 (struct_parts S s p h a ws ts l st start near.same_segment)))
      | inr none ↦
          (let f = same_struct (2 ^ 30 - 1) (offset_to p a.start) 0 0 d q (omega arith) (omega arith) (omega arith) d_small (sym (empty_pointer ws ts (offset_to p h) (omega arith)) ∙ sym (st.5).1 ∙ x) in
          absurd (omega (arith, f.1, f.2)))
    ]
struct_found S s p h a d q (Flat size ns) st o some = absurd (list_not_struct S s p a (offset_to p h) size (length ns) d q (st.5).1 o)
struct_found S s p h a d q (Pointers ts) st o some = absurd (list_not_struct S s p a (offset_to p h) 6 (count ts) d q (st.5).1 o)
struct_found S s p h a d q (Structs e r es) st o some = absurd (list_not_struct S s p a (offset_to p h) 7 (element_count es * (e + r)) d q (st.5).1 o)

-- If the value is a struct, the pointer doesn't lead to a list.
struct_no_list : (S : Segments) (s p h : ℕ) (a : Target) (size n : ℕ) (ws : List ℕ) (ts : Trees) → HasCanonicalAt S s p h (Struct ws ts) → ListAt S s p a size n → ⊥
struct_no_list S s p h a size n ws ts st o =
    elim (cases_lt 0 (length ws + count ts)) [
      | inl more ↦ struct_not_list S s p a (offset_to p h) (length ws) (count ts) size n ((st.5).1 ∙ struct_pointer ws ts (offset_to p h) more) o
      | inr none ↦ struct_not_list S s p a (2 ^ 30 - 1) 0 0 size n ((st.5).1 ∙ empty_pointer ws ts (offset_to p h) (omega arith)) o
    ]

-- A list is where its pointer leads, with the element size and the count that the pointer says.
list_facts : (S : Segments) (s p h : ℕ) (a : Target) (size n more m : ℕ) (t : Tree) → HasCanonicalAt S s p h t → ListAt S s p a size n → size < 8 → more < 8 → Reaches p h → word_at S s p ≡ list_word (offset_to p h) more m →
    (a.start ≡ h) × (a.segment ≡ s) × (more ≡ size) × (m ≡ n) × (h ≤ length (segment S s))
list_facts S s p h a size n more m t st o ls lm r x =
    let other = not_far S s p h t st in
    let near = near_to S s p a other o.leads_to.1 in
    let f = same_list (offset_to p h) (offset_to p a.start) more m size n (omega arith) (omega arith) lm ls (sym x ∙ near_list_word S s p a size n other o) in
    let start = one_head p a.start h near.reaches r (sym f.0) in
    (start, near.same_segment, f.1, f.2, omega (arith, near.inside, start))

-- A list of pointers begins at the head, is inside its segment, and its children are after it.
pub record FoundPointers (S : Segments) (s p h : ℕ) (a : Target) (n : ℕ) (t : Tree) : Type 0 where
  pub start : a.start ≡ h
  pub same_segment : a.segment ≡ s
  pub claim : Claims S a n
  pub children : (ts : Trees) × (count ts ≡ n) × HasBodiesAt S s h (h + n) ts × (t ≡ Pointers ts)

-- If a pointer leads to a list of pointers, the value is such a list.
pub pointers_found : (S : Segments) (s p h : ℕ) (a : Target) (n : ℕ) (t : Tree) → HasCanonicalAt S s p h t → ListAt S s p a 6 n → FoundPointers S s p h a n t
pointers_found S s p h a n Null st o = absurd (o.leads_to.0 (st.5).1)
pointers_found S s p h a n (Capability i) st o = let e = st.3 in absurd (omega arith)
pointers_found S s p h a n (Struct ws ts) st o = absurd (struct_no_list S s p h a 6 n ws ts st o)
pointers_found S s p h a n (Flat size ns) st o =
    let small = (st.1).0 in
    let f = list_facts S s p h a 6 n size (length ns) (Flat size ns) st o (omega arith) (omega arith) (st.5).0 (st.5).1 in
    absurd (omega (arith, f.2))
pointers_found S s p h a n (Pointers ts) st o =
    let f = list_facts S s p h a 6 n 6 (count ts) (Pointers ts) st o (omega arith) (omega arith) (st.5).0 (st.5).1 in
    let heads = has_words_first S s h (pointers 0 ts) (bodies ts) (st.5).2 in
    let rest = has_words_rest S s h (pointers 0 ts) (bodies ts) (st.5).2 in
    let long = length-pointers 0 ts in
    let room : h + count ts ≤ length (segment S s) = omega (arith, long, has_words_within S s h (pointers 0 ts) heads f.4) in
    let same_length : length (segment S a.segment) ≡ length (segment S s) = ap (λ u. length (segment S u)) f.1 in
    record {
      start = f.0;
      same_segment = f.1;
      claim = omega (arith, f.0, f.3);
      children = (
        ts,
        f.3,
        subst (λ i. HasBodiesAt S s h i ts) (let q : h + count ts + 0 ≡ h + n = omega (arith, f.3) in q)
            (standing_where_laid S s h 0 ts
            (record {
              values = (st.1).1;
              offsets = (st.4).0;
              encodable = (st.4).1;
              trimmed = (let e = st.2 in cc e);
              free = st.3;
              heads = heads;
              behind = moved S s (h + length (pointers 0 ts)) (h + count ts + 0) (bodies ts) (omega (arith, long)) rest;
            })
            (omega arith)),
        refl,
      );
    }
pointers_found S s p h a n (Structs e r es) st o =
    let f = list_facts S s p h a 6 n 7 (element_count es * (e + r)) (Structs e r es) st o (omega arith) (omega arith) (st.5).0 (st.5).1 in
    absurd (omega (arith, f.2))

-- A list of numbers begins at the head, is inside its segment, and has zeros after its elements.
pub record FoundFlat (S : Segments) (s p h : ℕ) (a : Target) (size n : ℕ) (t : Tree) : Type 0 where
  pub start : a.start ≡ h
  pub same_segment : a.segment ≡ s
  pub claim : Claims S a (words_for size n)
  pub padded : IsPadded S s h size n
  pub value : t ≡ Flat size (unpacked size n (words_at S s h (words_for size n)))

-- A canonical list of numbers is found so if its pointer leads to the head.
flat_parts : (S : Segments) (s p h : ℕ) (a : Target) (size : ℕ) (ns : List ℕ) → h ≤ length (segment S s) → HasCanonicalAt S s p h (Flat size ns) → a.start ≡ h → a.segment ≡ s → FoundFlat S s p h a size (length ns) (Flat size ns)
flat_parts S s p h a size ns l st start same =
    let long : length (packed size ns) ≡ words_for size (length ns) = length-digits _ (words_for size (length ns)) _ in
    let here : words_at S s h (words_for size (length ns)) ≡ packed size ns = rw long at (st.5).2 in
    let same_length : length (segment S a.segment) ≡ length (segment S s) = ap (λ u. length (segment S u)) same in
    let within = has_words_within S s h (packed size ns) (st.5).2 l in
    record {
      start = start;
      same_segment = same;
      claim = omega (arith, long);
      padded = subst (λ ws. from_digits (2 ^ 64) ws < 2 ^ (element_bits size * length ns)) (sym here) (packed_below size ns (st.1).2);
      value = ap (Flat size) (sym (unpacked-packed size ns (st.1).2) ∙ ap (unpacked size (length ns)) (sym here));
    }

-- If a pointer leads to a list of numbers, the value is such a list.
pub flat_found : (S : Segments) (s p h : ℕ) (a : Target) (size n : ℕ) (t : Tree) → HasCanonicalAt S s p h t → ListAt S s p a size n → size ≤ 5 → FoundFlat S s p h a size n t
flat_found S s p h a size n Null st o small = absurd (o.leads_to.0 (st.5).1)
flat_found S s p h a size n (Capability i) st o small = let e = st.3 in absurd (omega arith)
flat_found S s p h a size n (Struct ws ts) st o small = absurd (struct_no_list S s p h a size n ws ts st o)
flat_found S s p h a size n (Flat more ns) st o small =
    let below = (st.1).0 in
    let f = list_facts S s p h a size n more (length ns) (Flat more ns) st o (omega arith) (omega arith) (st.5).0 (st.5).1 in
    subst (λ i. FoundFlat S s p h a i n (Flat more ns)) f.2 (subst (λ i. FoundFlat S s p h a more i (Flat more ns)) f.3 (flat_parts S s p h a more ns f.4 st f.0 f.1))
flat_found S s p h a size n (Pointers ts) st o small =
    let f = list_facts S s p h a size n 6 (count ts) (Pointers ts) st o (omega arith) (omega arith) (st.5).0 (st.5).1 in
    absurd (omega (arith, f.2))
flat_found S s p h a size n (Structs e r es) st o small =
    let f = list_facts S s p h a size n 7 (element_count es * (e + r)) (Structs e r es) st o (omega arith) (omega arith) (st.5).0 (st.5).1 in
    absurd (omega (arith, f.2))

-- A list of structs begins at the head with its tag, is inside its segment, claims exactly its
-- elements, has the least widths, and the children of its elements are after them.
pub record FoundStructs (S : Segments) (s p h : ℕ) (a : Target) (m : ℕ) (d q : ℕ) (es : Elements) : Type 0 where
  pub start : a.start ≡ h
  pub same_segment : a.segment ≡ s
  pub claim : Claims S a (m + 1)
  pub tag : IsTag (word_at S s h) (element_count es) d q
  pub exact : element_count es * (d + q) ≡ m
  pub data_used : data_width es ≡ d
  pub pointers_used : pointer_width es ≡ q
  pub elements : ElementsStand S s (h + 1) d q (h + 1 + m) es

-- Cutting trimmed elements to the width that they have changes nothing.
cut_trimmed : (d q : ℕ) (es : Elements) → AreElements d q es → cut_to d q (trim_elements es) ≡ trim_elements es
cut_trimmed d q no_elements v = refl
cut_trimmed d q (element ws ts es) v =
    ap₂ (λ vs us. element vs us (cut_to d q (trim_elements es))) (take_all d ws (omega (arith, v.0))) (take_trees_all q (trim_each ts) (omega (arith, v.1, trim_each-count ts)))
    ∙ ap (element ws (trim_each ts)) (cut_trimmed d q es v.4)

-- The widths of a trimmed list of structs are the least.
pub trimmed_structs : (d q : ℕ) (es : Elements) → AreElements d q es → trim (Structs d q es) ≡ Structs d q es → (data_width es ≡ d) × (pointer_width es ≡ q) × (trim_elements es ≡ es)
trimmed_structs d q es v e =
    let fs = trim_elements es in
    let dw : data_width fs ≡ d = cc e in
    let pw : pointer_width fs ≡ q = cc e in
    let cut : cut_to (data_width fs) (pointer_width fs) fs ≡ es = cc e in
    let same : fs ≡ es = sym (cut_trimmed d q es v) ∙ ap₂ (λ i j. cut_to i j fs) (sym dw) (sym pw) ∙ cut in
    (ap data_width (sym same) ∙ dw, ap pointer_width (sym same) ∙ pw, same)

-- If a pointer leads to a list of structs, the value is such a list.
pub structs_found : (S : Segments) (s p h : ℕ) (a : Target) (m : ℕ) (t : Tree) → HasCanonicalAt S s p h t → ListAt S s p a 7 m → (d : ℕ) × (q : ℕ) × (es : Elements) × (t ≡ Structs d q es) × FoundStructs S s p h a m d q es
structs_found S s p h a m Null st o = absurd (o.leads_to.0 (st.5).1)
structs_found S s p h a m (Capability i) st o = let e = st.3 in absurd (omega arith)
structs_found S s p h a m (Struct ws ts) st o = absurd (struct_no_list S s p h a 7 m ws ts st o)
structs_found S s p h a m (Flat size ns) st o =
    let small = (st.1).0 in
    let f = list_facts S s p h a 7 m size (length ns) (Flat size ns) st o (omega arith) (omega arith) (st.5).0 (st.5).1 in
    absurd (omega (arith, f.2))
structs_found S s p h a m (Pointers ts) st o =
    let f = list_facts S s p h a 7 m 6 (count ts) (Pointers ts) st o (omega arith) (omega arith) (st.5).0 (st.5).1 in
    absurd (omega (arith, f.2))
structs_found S s p h a m (Structs d q es) st o =
    let f = list_facts S s p h a 7 m 7 (element_count es * (d + q)) (Structs d q es) st o (omega arith) (omega arith) (st.5).0 (st.5).1 in
    let v = st.1 in
    let g = struct_word (element_count es) d q in
    let object = has_words_first S s h (g ∷ rows d q 0 es) (element_bodies es) (st.5).2 in
    let rest = has_words_rest S s h (g ∷ rows d q 0 es) (element_bodies es) (st.5).2 in
    let long : length (rows d q 0 es) ≡ element_count es * (d + q) = length-rows d q 0 es v.4 in
    let room : h + (element_count es * (d + q) + 1) ≤ length (segment S s) = omega (arith, long, has_words_within S s h (g ∷ rows d q 0 es) object f.4) in
    let same_length : length (segment S a.segment) ≡ length (segment S s) = ap (λ u. length (segment S u)) f.1 in
    let e = trimmed_structs d q es v.4 st.2 in (
      d,
      q,
      es,
      refl,
      record {
        start = f.0;
        same_segment = f.1;
        claim = omega (arith, f.0, f.3);
        tag = subst (λ x. IsTag x (element_count es) d q) (sym (has_words_head S s h g (rows d q 0 es) object)) (tag_is (element_count es) d q v.2 v.0 v.1);
        exact = f.3;
        data_used = e.0;
        pointers_used = e.1;
        elements =
            subst (λ i. ElementsStand S s (h + 1) d q i es) (let r : h + 1 + element_count es * (d + q) + 0 ≡ h + 1 + m = omega (arith, f.3) in r)
            (standing_where_rows S s (h + 1) d q 0 es
            (record {
              values = v.4;
              offsets = (st.4).0;
              encodable = (st.4).1;
              trimmed = e.2;
              free = st.3;
              heads = has_words_tail S s h g (rows d q 0 es) object;
              behind = moved S s (h + length (g ∷ rows d q 0 es)) (h + 1 + element_count es * (d + q) + 0) (element_bodies es) (omega (arith, long)) rest;
            })
            (omega arith));
      },
    )
