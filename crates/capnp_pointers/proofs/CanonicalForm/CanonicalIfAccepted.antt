-- If an object passes the checks of its canonical form, and its children have canonical words, so
-- has its value. Each lemma takes what the checks found one by one.
use Rattle.std.proofs.Common.{◌≡◌, ◌≢◌, inl, inr, ℕ, zero, suc, ◌+◌, ◌-◌, ◌*◌, ◌^◌, ◌<◌, ◌≤◌, cond, nat_eq, List, [], ◌∷◌, ◌++◌, length, Some, refl, sym, ap, ap₂, ◌∙◌, subst, arith, ne_eqb, take_all, pow_pos, length-append}
use Rattle.capnp_format.specs.Word.{kind, offset_bits, data_words, pointer_count, element_size, list_count, is_double, struct_word, list_word}
use Rattle.capnp_format.specs.Numbers.{words_for, unpacked, packed, element_bits, from_digits}
use Rattle.capnp_format.specs.Segments.{Segments, segment, word_at, words_at, HasWords, IsPlace, Target, leads, near, far, offset_leads}
use Rattle.capnp_format.specs.Tree.{Null, Struct, Flat, Pointers, Structs, Trees, no_trees, tree, Elements, no_elements, element, count, element_count}
use Rattle.capnp_format.specs.Means.{Claims, StructAt, ListAt, IsTag}
use Rattle.capnp_format.specs.Canonical.{used_from, used_words, used_trees, take_trees, data_width, pointer_width, cut_to, trim, word_count, pointer, pointers, rows, bodies, element_bodies, offset_to, Reaches, HasCanonicalAt}
use Rattle.capnp_format.specs.Value.{AreElements}
use Rattle.capnp_pointers.specs.Standing.{HasBodiesAt, EndsUsed, IsPadded}
use Rattle.capnp_pointers.proofs.CanonicalForm.ElementsStand.{ElementsStand}
use Rattle.capnp_format.specs.Forest.{target_in}
use Rattle.capnp_format.proofs.Bounds.{HasSmallWords, digits_below, words_small}
use Rattle.capnp_format.proofs.Digits.{length-digits}
use Rattle.capnp_format.proofs.Padding.{packed-unpacked}
use Rattle.capnp_format.proofs.Slices.{length_words, has_words_at, moved}
use Rattle.capnp_format.proofs.Lengths.{length-pointers, length-rows}
use Rattle.capnp_format.proofs.Following.{IsOffsetTo, offset_is, bind_found}
use Rattle.capnp_format.proofs.Unique.{for_offset}
use Rattle.capnp_pointers.proofs.CanonicalForm.Consecutive.{laid_where_standing, rows_where_standing, has_words_joined, has_words_more}
use Rattle.capnp_pointers.proofs.CanonicalForm.UsedWords.{ends_used, pointer_is_null, words_at-more}

-- The pointer at (s, p) is near: it leads into its own segment, over no pads, to where its offset
-- says.
pub record IsNear (S : Segments) (s p : ℕ) (a : Target) : Type 0 where
  pub same_word : a.word ≡ word_at S s p
  pub same_segment : a.segment ≡ s
  pub no_pads : a.pads ≡ 0
  pub inside : a.start ≤ length (segment S s)
  pub reaches : Reaches p a.start
  pub offset : offset_bits (word_at S s p) ≡ offset_to p a.start

-- An offset that leads somewhere reaches that position, and is the offset to it.
offset_reaches : (p bits b : ℕ) → bits < 2 ^ 30 → IsOffsetTo p bits b → Reaches p b × (bits ≡ offset_to p b)
offset_reaches p bits b small (inl (l, e)) = ((omega arith, omega arith), omega arith)
offset_reaches p bits b small (inr (l, e)) = ((omega arith, omega arith), omega arith)

-- A word that leads to a target, and isn't a far pointer, is near.
pub near_to : (S : Segments) (s p : ℕ) (a : Target) → kind (word_at S s p) ≢ 2 → leads S s p ≡ Some a → IsNear S s p a
near_to S s p a other e =
    let x = word_at S s p in
    let here : near S s p x 0 ≡ Some a = ap (λ b. cond b (far S x (is_double x)) (near S s p x 0)) (sym (ne_eqb (kind x) 2 other)) ∙ e in
    let f = bind_found (offset_leads (length (segment S s)) p (offset_bits x)) (λ b. Some (record { word = x; segment = s; start = b; pads = 0 })) a here in
    let o = offset_is (length (segment S s)) p (offset_bits x) f.0 f.1 in
    let start : a.start ≡ f.0 = ap (λ r. (target_in r).start) (sym f.2) in
    let r = offset_reaches p (offset_bits x) f.0 (omega arith) o.1 in
    record {
      same_word = ap (λ r. (target_in r).word) (sym f.2);
      same_segment = ap (λ r. (target_in r).segment) (sym f.2);
      no_pads = ap (λ r. (target_in r).pads) (sym f.2);
      inside = omega (arith, o.0);
      reaches = subst (Reaches p) (sym start) r.0;
      offset = r.1 ∙ ap (offset_to p) (sym start);
    }

-- A word of a kind is made of its fields.
struct_word_again : (x : ℕ) → kind x ≡ 0 → struct_word (offset_bits x) (data_words x) (pointer_count x) ≡ x
struct_word_again x h = omega arith

list_word_again : (x : ℕ) → kind x ≡ 1 → list_word (offset_bits x) (element_size x) (list_count x) ≡ x
list_word_again x h = omega arith

-- The pointer of a struct, if it isn't a far pointer, is made of where it leads and of the struct's
-- sections.
pub near_struct_word : (S : Segments) (s p : ℕ) (a : Target) (d q : ℕ) → kind (word_at S s p) ≢ 2 → StructAt S s p a d q → word_at S s p ≡ struct_word (offset_to p a.start) d q
near_struct_word S s p a d q other o =
    let n = near_to S s p a other o.leads_to.1 in
    let x = word_at S s p in
    let is_struct : kind x ≡ 0 = ap kind (sym n.same_word) ∙ o.is_struct in
    let da : data_words x ≡ d = ap data_words (sym n.same_word) ∙ o.data_of in
    let po : pointer_count x ≡ q = ap pointer_count (sym n.same_word) ∙ o.pointers in
    sym (struct_word_again x is_struct) ∙ ap (λ k. struct_word k (data_words x) (pointer_count x)) n.offset ∙ ap₂ (struct_word (offset_to p a.start)) da po

-- The pointer of a list, if it isn't a far pointer, is made of where it leads, the element size and
-- the count.
pub near_list_word : (S : Segments) (s p : ℕ) (a : Target) (size n : ℕ) → kind (word_at S s p) ≢ 2 → ListAt S s p a size n → word_at S s p ≡ list_word (offset_to p a.start) size n
near_list_word S s p a size m other o =
    let n = near_to S s p a other o.leads_to.1 in
    let x = word_at S s p in
    let is_list : kind x ≡ 1 = ap kind (sym n.same_word) ∙ o.is_list in
    let si : element_size x ≡ size = ap element_size (sym n.same_word) ∙ o.is_size in
    let co : list_count x ≡ m = ap list_count (sym n.same_word) ∙ o.counts in
    sym (list_word_again x is_list) ∙ ap (λ k. list_word k (element_size x) (list_count x)) n.offset ∙ ap₂ (list_word (offset_to p a.start)) si co

-- The section sizes in a struct's pointer of 64 bits have 16 bits each.
struct_small : (x d q : ℕ) → x < 2 ^ 64 → data_words x ≡ d → pointer_count x ≡ q → (d < 2 ^ 16) × (q < 2 ^ 16)
struct_small x d q l e f = (omega arith, omega arith)

-- The count in a list's pointer has 29 bits.
list_small : (x n : ℕ) → x < 2 ^ 64 → list_count x ≡ n → n < 2 ^ 29
list_small x n l e = omega arith

-- Taking as many children as there are, or more, changes nothing.
pub take_trees_all : (n : ℕ) (ts : Trees) → count ts ≤ n → take_trees n ts ≡ ts
take_trees_all zero no_trees l = refl
take_trees_all zero (tree t ts) l = absurd (omega arith)
take_trees_all (suc n) no_trees l = refl
take_trees_all (suc n) (tree t ts) l = ap (tree t) (take_trees_all n ts (omega arith))

-- Cutting elements to the width that they have changes nothing.
pub cut_to_all : (d q : ℕ) (es : Elements) → AreElements d q es → cut_to d q es ≡ es
cut_to_all d q no_elements v = refl
cut_to_all d q (element ws ts es) v =
    ap₂ (λ vs us. element vs us (cut_to d q es)) (take_all d ws (omega (arith, v.0))) (take_trees_all q ts (omega (arith, v.1))) ∙ ap (element ws ts) (cut_to_all d q es v.4)

-- The pointer of a struct that isn't empty has the offset k.
pub struct_pointer : (ws : List ℕ) (ts : Trees) (k : ℕ) → 0 < length ws + count ts → pointer (Struct ws ts) k ≡ struct_word k (length ws) (count ts)
struct_pointer [] no_trees k l = absurd (omega arith)
struct_pointer [] (tree t ts) k l = refl
struct_pointer (x ∷ xs) ts k l = refl

-- If S has the canonical words of children, the number of their pointers that are used is that of
-- the children used.
pub used_where_standing : (S : Segments) (s p h : ℕ) (ts : Trees) → p + count ts ≤ length (segment S s) → HasBodiesAt S s p h ts → used_words (words_at S s p (count ts)) ≡ used_trees ts
used_where_standing S s p h no_trees l a = refl
used_where_standing S s p h (tree t ts) l a =
    ap used_words (words_at-more S s p (count ts) (omega arith))
    ∙ ap₂ used_from (ap (λ x. nat_eq x 0) ((a.0).5).1 ∙ pointer_is_null t (offset_to p h)) (used_where_standing S s (p + 1) (h + word_count t) ts (omega arith) a.1)

-- A zero word has canonical words of Null, with any head.
pub null_stands : (S : Segments) (s p h : ℕ) → IsPlace S s p → word_at S s p ≡ 0 → HasCanonicalAt S s p h Null
null_stands S s p h place e = (place, tt, refl, refl, tt, (tt, e, refl))

-- The empty struct is canonical if its pointer leads to its own place, with any head.
pub empty_stands : (S : Segments) (s p h : ℕ) (a : Target) → IsPlace S s p → kind (word_at S s p) ≢ 2 → StructAt S s p a 0 0 → a.start ≡ p → HasCanonicalAt S s p h (Struct [] no_trees)
empty_stands S s p h a place other o e =
    let x = near_struct_word S s p a 0 0 other o in
    let last : offset_to p a.start ≡ 2 ^ 30 - 1 = omega arith in
    (place, (omega arith, omega arith, tt, tt), refl, refl, (tt, tt), (tt, x ∙ ap (λ k. struct_word k 0 0) last, refl))

-- Any other struct is canonical if its pointer reaches the head, and its data words and children
-- are from there on.
struct_there : (S : Segments) (s p h : ℕ) (ws : List ℕ) (ts : Trees) → HasSmallWords S s → IsPlace S s p → Reaches p h → word_at S s p ≡ struct_word (offset_to p h) (length ws) (count ts) →
    length ws < 2 ^ 16 → count ts < 2 ^ 16 → 0 < length ws + count ts → HasWords S s h ws → used_words ws ≡ length ws → used_trees ts ≡ count ts →
    HasBodiesAt S s (h + length ws) (h + length ws + count ts) ts → HasCanonicalAt S s p h (Struct ws ts)
struct_there S s p h ws ts w place r x ld lq some words uw ut all =
    let a = laid_where_standing S s (h + length ws) 0 ts (subst (λ i. HasBodiesAt S s (h + length ws) i ts) (let e : h + length ws + count ts ≡ h + length ws + count ts + 0 = omega arith in e) all) in
    let long : length (ws ++ pointers 0 ts) ≡ length ws + count ts = omega (arith, length-append ws (pointers 0 ts), length-pointers 0 ts) in (
      place,
      (ld, lq, words_small S s h ws w words, a.values),
      ap₂ Struct (take_all (used_words ws) ws (omega arith)) (ap (λ us. take_trees (used_trees us) us) a.trimmed ∙ take_trees_all (used_trees ts) ts (omega arith)),
      a.free,
      (a.offsets, a.encodable),
      (
        for_offset (Struct ws ts) (Reaches p h) r,
        x ∙ sym (struct_pointer ws ts (offset_to p h) some),
        has_words_joined S s h (ws ++ pointers 0 ts) (bodies ts) (has_words_joined S s h ws (pointers 0 ts) words a.heads)
            (moved S s (h + length ws + count ts + 0) (h + length (ws ++ pointers 0 ts)) (bodies ts) (omega (arith, long)) a.behind),
      ),
    )

-- A struct is canonical if it begins at the head, neither section ends with a zero, and its
-- children are after it.
pub struct_stands : (S : Segments) (s p h : ℕ) (a : Target) (d q : ℕ) (ts : Trees) → HasSmallWords S s → IsPlace S s p → kind (word_at S s p) ≢ 2 → StructAt S s p a d q → a.start ≡ h → Claims S a (d + q) → 0 < d + q →
    EndsUsed S s h d → EndsUsed S s (h + d) q → count ts ≡ q → HasBodiesAt S s (h + d) (h + d + q) ts → HasCanonicalAt S s p h (Struct (words_at S s h d) ts)
struct_stands S s p h a d q ts w place other o start claim some ed eq len all =
    let n = near_to S s p a other o.leads_to.1 in
    let small = struct_small (word_at S s p) d q (w p) (ap data_words (sym n.same_word) ∙ o.data_of) (ap pointer_count (sym n.same_word) ∙ o.pointers) in
    let same : length (segment S a.segment) ≡ length (segment S s) = ap (λ u. length (segment S u)) n.same_segment in
    let room : h + (d + q) ≤ length (segment S s) = omega arith in
    let ws = words_at S s h d in
    let long : length ws ≡ d = length_words S s h d (omega arith) in
    let x : word_at S s p ≡ struct_word (offset_to p h) (length ws) (count ts) =
    near_struct_word S s p a d q other o ∙ ap (λ i. struct_word (offset_to p i) d q) start ∙ ap₂ (struct_word (offset_to p h)) (sym long) (sym len) in
    let used : used_trees ts ≡ count ts =
    sym (used_where_standing S s (h + d) (h + d + q) ts (omega arith) all) ∙ ap (λ m. used_words (words_at S s (h + d) m)) len ∙ ends_used S s (h + d) q (omega arith) eq ∙ sym len in
    struct_there S s p h ws ts w place (subst (Reaches p) start n.reaches) x (omega (arith, long, small.0)) (omega (arith, small.1)) (omega (arith, long)) (has_words_at S s h d (omega arith))
    (ends_used S s h d (omega arith) ed ∙ sym long) used
    (subst (λ i. HasBodiesAt S s (h + i) (h + i + count ts) ts) (sym long) (subst (λ i. HasBodiesAt S s (h + d) (h + d + i) ts) (sym len) all))

-- A list of pointers is canonical if it begins at the head, and its children are after it.
pub pointers_stand : (S : Segments) (s p h : ℕ) (a : Target) (n : ℕ) (ts : Trees) → HasSmallWords S s → IsPlace S s p → kind (word_at S s p) ≢ 2 → ListAt S s p a 6 n → a.start ≡ h → Claims S a n →
    count ts ≡ n → HasBodiesAt S s h (h + n) ts → HasCanonicalAt S s p h (Pointers ts)
pointers_stand S s p h a n ts w place other o start claim len all =
    let near = near_to S s p a other o.leads_to.1 in
    let small = list_small (word_at S s p) n (w p) (ap list_count (sym near.same_word) ∙ o.counts) in
    let l = laid_where_standing S s h 0 ts (subst (λ i. HasBodiesAt S s h i ts) (let e : h + n ≡ h + count ts + 0 = omega arith in e) all) in (
      place,
      (omega arith, l.values),
      ap Pointers l.trimmed,
      l.free,
      (l.offsets, l.encodable),
      (
        subst (Reaches p) start near.reaches,
        near_list_word S s p a 6 n other o ∙ ap (λ i. list_word (offset_to p i) 6 n) start ∙ ap (list_word (offset_to p h) 6) (sym len),
        has_words_joined S s h (pointers 0 ts) (bodies ts) l.heads (moved S s (h + count ts + 0) (h + length (pointers 0 ts)) (bodies ts) (omega (arith, length-pointers 0 ts)) l.behind),
      ),
    )

-- A list of numbers is canonical if it begins at the head, with zeros after its elements.
pub flat_stands : (S : Segments) (s p h : ℕ) (a : Target) (size n : ℕ) → HasSmallWords S s → IsPlace S s p → kind (word_at S s p) ≢ 2 → ListAt S s p a size n → size ≤ 5 → a.start ≡ h → Claims S a (words_for size n) →
    IsPadded S s h size n → HasCanonicalAt S s p h (Flat size (unpacked size n (words_at S s h (words_for size n))))
flat_stands S s p h a size n w place other o size_small start claim padded =
    let near = near_to S s p a other o.leads_to.1 in
    let small = list_small (word_at S s p) n (w p) (ap list_count (sym near.same_word) ∙ o.counts) in
    let same : length (segment S a.segment) ≡ length (segment S s) = ap (λ u. length (segment S u)) near.same_segment in
    let m = words_for size n in
    let ws = words_at S s h m in
    let room : h + m ≤ length (segment S s) = omega arith in
    let words = has_words_at S s h m room in
    let long : length (unpacked size n ws) ≡ n = length-digits (2 ^ element_bits size) n (from_digits (2 ^ 64) ws) in
    let again : packed size (unpacked size n ws) ≡ ws = packed-unpacked size n ws (words_small S s h ws w words) (length_words S s h m room) padded in (
      place,
      (size_small, omega (arith, long), digits_below (2 ^ element_bits size) n (from_digits (2 ^ 64) ws) (pow_pos (element_bits size))),
      refl,
      refl,
      tt,
      (
        subst (Reaches p) start near.reaches,
        near_list_word S s p a size n other o ∙ ap (λ i. list_word (offset_to p i) size n) start ∙ ap (list_word (offset_to p h) size) (sym long),
        subst (HasWords S s h) (sym again) words,
      ),
    )

-- A tag is made of the count and of the sections of an element.
tag_again : (g n d q : ℕ) → IsTag g n d q → g ≡ struct_word n d q
tag_again g n d q t = sym (struct_word_again g t.is_struct) ∙ ap (λ k. struct_word k (data_words g) (pointer_count g)) t.counts ∙ ap₂ (struct_word n) t.data_of t.pointers

-- The sections of an element have 16 bits each, and the count has 30 bits.
tag_small : (g n d q : ℕ) → g < 2 ^ 64 → IsTag g n d q → (d < 2 ^ 16) × (q < 2 ^ 16) × (n < 2 ^ 30)
tag_small g n d q l t = (omega (arith, t.data_of), omega (arith, t.pointers), omega (arith, t.counts))

-- A list of structs is canonical if its tag is at the head, it claims exactly its elements, their
-- widths are the least, and their children are after the elements.
pub structs_stand : (S : Segments) (s p h : ℕ) (a : Target) (m n d q : ℕ) (es : Elements) → HasSmallWords S s → IsPlace S s p → kind (word_at S s p) ≢ 2 → ListAt S s p a 7 m → a.start ≡ h → Claims S a (m + 1) →
    IsTag (word_at S s h) n d q → n * (d + q) ≡ m → element_count es ≡ n → data_width es ≡ d → pointer_width es ≡ q → ElementsStand S s (h + 1) d q (h + 1 + m) es → HasCanonicalAt S s p h (Structs d q es)
structs_stand S s p h a m n d q es w place other o start claim tag exact len dw pw all =
    let near = near_to S s p a other o.leads_to.1 in
    let small = list_small (word_at S s p) m (w p) (ap list_count (sym near.same_word) ∙ o.counts) in
    let same : length (segment S a.segment) ≡ length (segment S s) = ap (λ u. length (segment S u)) near.same_segment in
    let g = word_at S s h in
    let g_small = tag_small g n d q (w h) tag in
    let claims : element_count es * (d + q) ≡ m = ap (λ i. i * (d + q)) len ∙ exact in
    let r = rows_where_standing S s (h + 1) d q 0 es w (subst (λ i. ElementsStand S s (h + 1) d q i es) (let e : h + 1 + m ≡ h + 1 + element_count es * (d + q) + 0 = omega (arith, claims) in e) all) in
    let long : length (rows d q 0 es) ≡ element_count es * (d + q) = length-rows d q 0 es r.values in
    let tag_word : g ≡ struct_word (element_count es) d q = tag_again g n d q tag ∙ ap (λ i. struct_word i d q) (sym len) in
    let object = has_words_more S s h (struct_word (element_count es) d q) (rows d q 0 es) tag_word (omega arith) r.heads in
    let trimmed : trim (Structs d q es) ≡ Structs d q es =
    ap (λ fs. Structs (data_width fs) (pointer_width fs) (cut_to (data_width fs) (pointer_width fs) fs)) r.trimmed ∙ ap₂ (λ i j. Structs i j (cut_to i j es)) dw pw ∙ ap (Structs d q) (cut_to_all d q es r.values) in (
      place,
      (g_small.0, g_small.1, omega (arith, g_small.2), omega (arith, claims, small), r.values),
      trimmed,
      r.free,
      (r.offsets, r.encodable),
      (
        subst (Reaches p) start near.reaches,
        near_list_word S s p a 7 m other o ∙ ap (λ i. list_word (offset_to p i) 7 m) start ∙ ap (list_word (offset_to p h) 7) (sym claims),
        has_words_joined S s h (struct_word (element_count es) d q ∷ rows d q 0 es) (element_bodies es) object
            (moved S s (h + 1 + element_count es * (d + q) + 0) (h + length (struct_word (element_count es) d q ∷ rows d q 0 es)) (element_bodies es) (omega (arith, long)) r.behind),
      ),
    )
