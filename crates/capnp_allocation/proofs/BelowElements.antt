-- What is below the elements of a list of structs is zeroed, element by element.
use Rattle.std.proofs.Common.{◌≡◌, ℕ, zero, suc, ◌+◌, ◌*◌, ◌<◌, ◌≤◌, List, [], ◌∷◌, ◌++◌, length, refl, sym, ap, ap₂, ◌∙◌, subst, arith}
use Rattle.std.proofs.lemmas.Bool.Decides.{nat_tests}
use Rattle.capnp_format.specs.Segments.{Segments, segment, word_at}
use Rattle.capnp_format.specs.Tree.{Tree, Null, Capability, Struct, Flat, Pointers, Structs, Trees, no_trees, tree, count, Elements, no_elements, element, element_count}
use Rattle.capnp_format.specs.Word.{offset_bits, data_words, pointer_count}
use Rattle.capnp_format.specs.Means.{MeansAll, MeansElements, IsTag}
use Rattle.capnp_format.specs.Forest.{Interval, times, cover_all, cover_elements}
use Rattle.capnp_format.proofs.Frame.{times-append}
use Rattle.capnp_allocation.specs.Zeroed.{row, IsZeroed, AreApart, AreApartElements, IsStructListApart, element_extents, struct_list_cover}
use Rattle.capnp_words.specs.Sizes.{sized}
use Rattle.capnp_allocation.proofs.Zeros.{zeroed_again, nothing_zeroed}
use Rattle.capnp_allocation.proofs.Below.{split_row, all_kept}

-- The elements from the i-th on.
abbrev pub rest_elements : ℕ → Elements → Elements
rest_elements zero es = es
rest_elements (suc i) no_elements = no_elements
rest_elements (suc i) (element ws ts es) = rest_elements i es

-- The pointers of elements are within the elements' words.
pub extents_within : (S : Segments) (s p d q : ℕ) (es : Elements) (v r : ℕ) → times (element_extents S s p (sized d q) es) v r ≤ times (row s p (element_count es * (d + q)) ∷ cover_elements S s p d q es) v r
extents_within S s p d q no_elements v r = omega arith
extents_within S s p d q (element ws ts es) v r =
    let more = element_count es * (d + q) in
    let whole = ap (λ n. times (row s p n ∷ []) v r) (let e : suc (element_count es) * (d + q) ≡ d + (q + more) = omega arith in e) in
    omega (
      arith,
      times-append (row s (p + d) q ∷ cover_all S s (p + d) ts) (element_extents S s (p + d + q) (sized d q) es) v r,
      times-append (cover_all S s (p + d) ts) (cover_elements S s (p + d + q) d q es) v r,
      extents_within S s (p + d + q) d q es v r,
      split_row s p d (q + more) v r,
      split_row s (p + d) q more v r,
      whole,
    )

pub within_extents : (S : Segments) (s p d q : ℕ) (es : Elements) (v r : ℕ) → times (cover_elements S s p d q es) v r ≤ times (element_extents S s p (sized d q) es) v r
within_extents S s p d q no_elements v r = omega arith
within_extents S s p d q (element ws ts es) v r =
    omega (
      arith,
      times-append (row s (p + d) q ∷ cover_all S s (p + d) ts) (element_extents S s (p + d + q) (sized d q) es) v r,
      times-append (cover_all S s (p + d) ts) (cover_elements S s (p + d + q) d q es) v r,
      within_extents S s (p + d + q) d q es v r,
    )

-- The elements from one on: that one, with its children, and those after it.
pub another_element : (S : Segments) (n s p d q i : ℕ) (es : Elements) (c : ℕ) → i < element_count es → MeansElements S n s p d q es c →
    (ws : List ℕ) × (ts : Trees) × (k : ℕ) × (rest_elements i es ≡ element ws ts (rest_elements (i + 1) es)) × (count ts ≡ q) × MeansAll S n s (p + i * (d + q) + d) ts k
another_element S n s p d q i no_elements c l h = absurd (omega arith)
another_element S n s p d q zero (element ws ts es) c l (k, m, long, len, e, all, others, g) =
    (ws, ts, k, refl, len, subst (λ r. MeansAll S n s r ts k) (let f : p + d ≡ p + 0 * (d + q) + d = omega arith in f) all)
another_element S n s p d q (suc i) (element ws ts es) c l (k, m, long, len, e, all, others, g) =
    let (vs, us, j, is, n_us, mean) = another_element S n s (p + d + q) d q i es m (omega arith) others in
    (vs, us, j, is ∙ ap (λ x. element vs us (rest_elements x (element ws ts es))) (let f : suc (i + 1) ≡ suc i + 1 = omega arith in f), n_us, subst (λ r. MeansAll S n s r us j) (let f : p + d + q + i * (d + q) + d ≡ p + suc i * (d + q) + d = omega arith in f) mean)

pub no_element_left : (es : Elements) → rest_elements (element_count es) es ≡ no_elements
no_element_left no_elements = refl
no_element_left (element ws ts es) = no_element_left es

-- What is zero after the first i elements, while the others are still to come.
abbrev pub DoneElements : Segments → Segments → ℕ → ℕ → ℕ → ℕ → ℕ → Elements → ℕ → Type 0
DoneElements S K s p d q at es i = (is : List Interval) × IsZeroed S K is × ((v r : ℕ) → times is v r + times (element_extents S s at (sized d q) (rest_elements i es)) v r ≡ times (element_extents S s p (sized d q) es) v r)

pub next_element_done : (S K L : Segments) (s p d q at i : ℕ) (es : Elements) → i < element_count es → at ≡ p + i * (d + q) → AreApartElements S s p (sized d q) es → DoneElements S K s p d q at es i →
    ((ts : Trees) → count ts ≡ q → AreApart K s (at + d) ts → IsZeroed K L (row s (at + d) q ∷ cover_all K s (at + d) ts)) → DoneElements S L s p d q (at + d + q) es (i + 1)
next_element_done S K L s p d q at i es l place a (is, z, sum) h =
    let m = a.mean in
    let (ws, ts, k, step, len, mean) = another_element S m.0 s p d q i es m.1 l m.2 in
    let here : MeansAll S m.0 s (at + d) ts k = subst (λ x. MeansAll S m.0 s (x + d) ts k) (sym place) mean in
    let own = row s (at + d) q ∷ cover_all S s (at + d) ts in
    let same : (v r : ℕ) → times (row s (at + d) (count ts) ∷ cover_all S s (at + d) ts) v r ≡ times own v r = λ v r. ap (λ n. times (row s (at + d) n ∷ cover_all S s (at + d) ts) v r) len in
    let parts : (v r : ℕ) → times (element_extents S s at (sized d q) (rest_elements i es)) v r ≡ times own v r + times (element_extents S s (at + d + q) (sized d q) (rest_elements (i + 1) es)) v r =
    λ v r. ap (λ us. times (element_extents S s at (sized d q) us) v r) step ∙ times-append own (element_extents S s (at + d + q) (sized d q) (rest_elements (i + 1) es)) v r in
    let few : (v r : ℕ) → times is v r + times (row s (at + d) (count ts) ∷ cover_all S s (at + d) ts) v r ≤ 1 = λ v r. omega (arith, sum v r, parts v r, same v r, extents_within S s p d q es v r, a.apart v r) in
    let one : AreApart S s (at + d) ts = record { mean = (m.0, k, here); apart = λ v r. omega (arith, few v r) } in
    let kept = all_kept S K s (at + d) ts is z few one in
    let now : (v r : ℕ) → times (row s (at + d) q ∷ cover_all K s (at + d) ts) v r ≡ times own v r = λ v r. ap (λ js. times (row s (at + d) q ∷ js) v r) kept.1 in (
      is ++ own,
      zeroed_again S K L is (row s (at + d) q ∷ cover_all K s (at + d) ts) (is ++ own) (λ v r. let e = times-append is own v r in let f = now v r in (λ x. omega (arith, e, f), λ x. omega (arith, e, f))) z (h ts len kept.0),
      λ v r. omega (arith, times-append is own v r, parts v r, sum v r),
    )

pub elements_done : (S K : Segments) (s p d q at : ℕ) (es : Elements) → DoneElements S K s p d q at es (element_count es) → IsZeroed S K (element_extents S s p (sized d q) es)
elements_done S K s p d q at es (is, z, sum) =
    let none : (v r : ℕ) → times (element_extents S s at (sized d q) (rest_elements (element_count es) es)) v r ≡ 0 = λ v r. ap (λ us. times (element_extents S s at (sized d q) us) v r) (no_element_left es) in
    zeroed_again S S K [] is (element_extents S s p (sized d q) es) (λ v r. (λ x. omega (arith, sum v r, none v r), λ x. omega (arith, sum v r, none v r))) (nothing_zeroed S) z

-- Elements without pointers have nothing below them.
pub no_pointers : (S : Segments) (n s p d : ℕ) (es : Elements) (c : ℕ) → MeansElements S n s p d 0 es c → IsZeroed S S (element_extents S s p (sized d 0) es)
no_pointers S n s p d es c m = zeroed_again S S S [] [] (element_extents S s p (sized d 0) es) (λ v r. let e = none n p es c m v r in (λ x. omega (arith, e), λ x. omega arith)) (nothing_zeroed S) (nothing_zeroed S)
  where
    no_row : (p v r : ℕ) → times (row s p 0 ∷ []) v r ≡ 0
    no_row p v r = grind (arith, nat_tests)

    no_cover : (p : ℕ) (ts : Trees) → count ts ≡ 0 → cover_all S s p ts ≡ []
    no_cover p no_trees e = refl
    no_cover p (tree t ts) e = absurd (omega arith)

    none : (n p : ℕ) (es : Elements) (c : ℕ) → MeansElements S n s p d 0 es c → (v r : ℕ) → times (element_extents S s p (sized d 0) es) v r ≡ 0
    none n p no_elements c m v r = refl
    none n p (element ws ts es) c (k, j, long, len, e, all, others, g) v r =
        let own = row s (p + d) 0 ∷ cover_all S s (p + d) ts in
        let f : times own v r ≡ 0 = ap (λ js. times (row s (p + d) 0 ∷ js) v r) (no_cover (p + d) ts len) ∙ no_row (p + d) v r in
        omega (arith, times-append own (element_extents S s (p + d + 0) (sized d 0) es) v r, none n (p + d + 0) es j others v r, f)

-- Then the elements' words are zeroed as well, and the tag before them.
pub structs_done : (S K L : Segments) (s p d q : ℕ) (es : Elements) → IsZeroed S K (element_extents S s (p + 1) (sized d q) es) → IsZeroed K L (row s p (1 + element_count es * (d + q)) ∷ []) →
    IsZeroed S L (row s p (1 + element_count es * (d + q)) ∷ cover_elements S s (p + 1) d q es)
structs_done S K L s p d q es a b =
    let w = element_count es * (d + q) in
    zeroed_again S K L (element_extents S s (p + 1) (sized d q) es) (row s p (1 + w) ∷ []) (row s p (1 + w) ∷ cover_elements S s (p + 1) d q es)
    (λ v r. let e = extents_within S s (p + 1) d q es v r in let f = within_extents S s (p + 1) d q es v r in let g = split_row s p 1 w v r in (λ x. omega (arith, e, f, g), λ x. omega (arith, e, f, g))) a b

-- The words of element i are within those of all n elements.
pub element_within : (width n i : ℕ) → i < n → i * width + width ≤ n * width
element_within width n i l = grind arith

pub next_place : (width i : ℕ) → (i + 1) * width ≡ i * width + width
next_place width i = grind arith

-- A list of structs is zeroed, with the counts that its tag has.
pub structs_zeroed : (S K L : Segments) (s p g n d q w : ℕ) → n ≡ offset_bits g → d ≡ data_words g → q ≡ pointer_count g → w ≡ 1 + n * (d + q) → length (segment K s) ≡ length (segment S s) →
    ((es : Elements) → (element_count es ≡ n) × AreApartElements S s (p + 1) (sized d q) es → IsZeroed S K (element_extents S s (p + 1) (sized d q) es)) →
    (p + w ≤ length (segment K s) → IsZeroed K L (row s p w ∷ [])) → g ≡ word_at S s p → (t : Tree) → IsStructListApart S s p t → IsZeroed S L (struct_list_cover S s p t)
structs_zeroed S K L s p g n d q w is_n is_d is_q is_w long h k is_g Null a = absurd a
structs_zeroed S K L s p g n d q w is_n is_d is_q is_w long h k is_g (Capability i) a = absurd a
structs_zeroed S K L s p g n d q w is_n is_d is_q is_w long h k is_g (Struct ws ts) a = absurd a
structs_zeroed S K L s p g n d q w is_n is_d is_q is_w long h k is_g (Flat size ns) a = absurd a
structs_zeroed S K L s p g n d q w is_n is_d is_q is_w long h k is_g (Pointers ts) a = absurd a
structs_zeroed S K L s p g n d q w is_n is_d is_q is_w long h k is_g (Structs e f es) (here, fits, a) =
    let tag : IsTag g (element_count es) e f = rw is_g here in
    let same_n : n ≡ element_count es = is_n ∙ tag.counts in
    let same_d : d ≡ e = is_d ∙ tag.data_of in
    let same_q : q ≡ f = is_q ∙ tag.pointers in
    let same_w : w ≡ 1 + element_count es * (e + f) = is_w ∙ ap₂ (λ x y. 1 + x * y) same_n (ap₂ (λ x y. x + y) same_d same_q) in
    let apart : AreApartElements S s (p + 1) (sized d q) es = subst (λ x. AreApartElements S s (p + 1) (sized x q) es) (sym same_d) (subst (λ x. AreApartElements S s (p + 1) (sized e x) es) (sym same_q) a) in
    let below : IsZeroed S K (element_extents S s (p + 1) (sized e f) es) = subst (λ x. IsZeroed S K (element_extents S s (p + 1) (sized e x) es)) same_q (subst (λ x. IsZeroed S K (element_extents S s (p + 1) (sized x q) es)) same_d (h es (sym same_n, apart))) in
    structs_done S K L s p e f es below (subst (λ x. IsZeroed K L (row s p x ∷ [])) same_w (k (omega (arith, same_w, long))))

-- A list of structs doesn't exist if its words, by the tag, aren't inside their segment.
pub list_outside : (S : Segments) (s p g n d q w : ℕ) → n ≡ offset_bits g → d ≡ data_words g → q ≡ pointer_count g → w ≡ 1 + n * (d + q) → length (segment S s) < p + w → g ≡ word_at S s p → (t : Tree) → IsStructListApart S s p t → ⊥
list_outside S s p g n d q w is_n is_d is_q is_w out is_g Null a = a
list_outside S s p g n d q w is_n is_d is_q is_w out is_g (Capability i) a = a
list_outside S s p g n d q w is_n is_d is_q is_w out is_g (Struct ws ts) a = a
list_outside S s p g n d q w is_n is_d is_q is_w out is_g (Flat size ns) a = a
list_outside S s p g n d q w is_n is_d is_q is_w out is_g (Pointers ts) a = a
list_outside S s p g n d q w is_n is_d is_q is_w out is_g (Structs e f es) (here, fits, a) =
    let tag : IsTag g (element_count es) e f = rw is_g here in
    let same_w : w ≡ 1 + element_count es * (e + f) = is_w ∙ ap₂ (λ x y. 1 + x * y) (is_n ∙ tag.counts) (ap₂ (λ x y. x + y) (is_d ∙ tag.data_of) (is_q ∙ tag.pointers)) in
    omega (arith, same_w, out, fits)
