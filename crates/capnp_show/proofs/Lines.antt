-- The line of a value determines the value.
use Rattle.std.proofs.Common.{◌≡◌, ◌≢◌, ◌⊎◌, inl, inr, ℕ, zero, suc, ◌+◌, ◌^◌, ◌<◌, ◌≤◌, Bool, true, false, cond, List, [], ◌∷◌, ◌++◌, length, map, get_or, drop, refl, sym, ap, ap₂, ◌∙◌, arith, append_assoc}
use Rattle.std.specs.Prelude.{codes, nat_eq}
use Rattle.std.specs.List.{join_with_byte}
use Rattle.std.specs.Fmt.{decimal}
use Rattle.std.proofs.lemmas.Bool.{cases_eq, ne_eqb}
use Rattle.hex.specs.Hex.{encode_lower}
use Rattle.capnp_format.specs.Tree.{Tree, Null, Capability, Struct, Flat, Pointers, Structs, Trees, no_trees, tree, Elements, no_elements, element, element_count}
use Rattle.capnp_format.specs.Means.{Means}
use Rattle.capnp_format.specs.Segments.{AreWords, Segments}
use Rattle.capnp_format.specs.Value.{AreBelow, IsValue, AreValues, AreElements}
use Rattle.capnp_format.proofs.Bounds.{means_value}
use Rattle.capnp_framing.specs.Frames.{bytes_of_words}
use Rattle.capnp_show.specs.Line.{value_line, lines, element_lines, struct_object, in_quotes, array, object, member, escaped, reads_as_text, without_last}
use Rattle.capnp_show.proofs.LineParts.{numbers_alike, hex_alike, words_alike, texts_alike, text_and_zero, below_is_bytes}
use Rattle.capnp_show.proofs.Arrays.{more, joined_then, Told, told_plain, told_quoted, arrays_alike}

-- ---- lists of bits and numbers

-- The bytes of a line that tell values of different kinds apart.
abbrev kind : Tree → ℕ
kind Null = 0
kind (Capability i) = 1
kind (Struct ws ts) = 2
kind (Flat size ns) = 3
kind (Pointers ts) = 4
kind (Structs d q es) = 5

abbrev kind_at : List ℕ → ℕ
kind_at l =
    cond (nat_eq (get_or l 0 0) 110) 0
    (cond (nat_eq (get_or l 2 0) 99) 1
    (cond (nat_eq (get_or l 2 0) 100) (cond (nat_eq (get_or l 6 0) 34) 2 5)
    (cond (nat_eq (get_or l 2 0) 108) 4 3)))

abbrev size_at : List ℕ → ℕ
size_at l =
    cond (nat_eq (get_or l 2 0) 118) 0
    (cond (nat_eq (get_or l 2 0) 117) (cond (nat_eq (get_or l 3 0) 49) 3 (cond (nat_eq (get_or l 3 0) 51) 4 5))
    (cond (nat_eq (get_or l 3 0) 105) 1 2))

record ReadsFlat (size : ℕ) (l : List ℕ) : Type 0 where
  of_kind : kind_at l ≡ 3
  of_size : size_at l ≡ size

bytes_read : (ns r : List ℕ) (b : Bool) → reads_as_text ns ≡ b → ReadsFlat 2 (value_line (Flat 2 ns) ++ r)
bytes_read ns r true e = record { of_kind = rw e refl; of_size = rw e refl }
bytes_read ns r false e = record { of_kind = rw e refl; of_size = rw e refl }

flat_read : (size : ℕ) (ns r : List ℕ) → size ≤ 5 → ReadsFlat size (value_line (Flat size ns) ++ r)
flat_read zero ns r h = record { of_kind = refl; of_size = refl }
flat_read (suc zero) ns r h = record { of_kind = refl; of_size = refl }
flat_read (suc (suc zero)) ns r h = bytes_read ns r (reads_as_text ns) refl
flat_read (suc (suc (suc zero))) ns r h = record { of_kind = refl; of_size = refl }
flat_read (suc (suc (suc (suc zero)))) ns r h = record { of_kind = refl; of_size = refl }
flat_read (suc (suc (suc (suc (suc zero))))) ns r h = record { of_kind = refl; of_size = refl }
flat_read (suc (suc (suc (suc (suc (suc n)))))) ns r h = absurd (omega arith)

kind_read : (t : Tree) (r : List ℕ) → IsValue t → kind_at (value_line t ++ r) ≡ kind t
kind_read Null r h = refl
kind_read (Capability i) r h = refl
kind_read (Struct ws ts) r h = refl
kind_read (Flat size ns) r h = (flat_read size ns r h.0).of_kind
kind_read (Pointers ts) r h = refl
kind_read (Structs d q es) r h = refl

-- Without brackets: a piece x, then a, then b, then r.
regroup : (x a b r : List ℕ) → ((x ++ a) ++ b) ++ r ≡ x ++ (a ++ (b ++ r))
regroup x a b r = append_assoc (x ++ a) b r ∙ append_assoc x a (b ++ r)

below_more : (a b : ℕ) (xs : List ℕ) → a ≤ b → AreBelow a xs → AreBelow b xs
below_more a b [] le h = tt
below_more a b (x ∷ xs) le h = (omega (arith, h.0), below_more a b xs le h.1)

zeros_alike : (ms ns : List ℕ) → AreBelow 1 ms → AreBelow 1 ns → length ms ≡ length ns → ms ≡ ns
zeros_alike [] [] hm hn e = refl
zeros_alike [] (n ∷ ns) hm hn e = absurd (omega arith)
zeros_alike (m ∷ ms) [] hm hn e = absurd (omega arith)
zeros_alike (m ∷ ms) (n ∷ ns) hm hn e =
    let same : m ≡ n = omega (arith, hm.0, hn.0) in
    ap₂ (λ (z : ℕ) zs. z ∷ zs) same (zeros_alike ms ns hm.1 hn.1 (omega arith))

-- A list of bytes.
bytes_alike : (ms ns r s : List ℕ) (b : Bool) → reads_as_text ms ≡ b → reads_as_text ns ≡ b → AreBelow (2 ^ 8) ms → AreBelow (2 ^ 8) ns → value_line (Flat 2 ms) ++ r ≡ value_line (Flat 2 ns) ++ s → (ms ≡ ns) × (r ≡ s)
bytes_alike ms ns r s true tm tn hm hn e =
    let f : object (member (codes "text") (in_quotes (escaped (without_last ms))) ∷ []) ++ r ≡ object (member (codes "text") (in_quotes (escaped (without_last ns))) ∷ []) ++ s = rw (tm, tn) at e in
    let g : escaped (without_last ms) ++ (34 ∷ 125 ∷ r) ≡ escaped (without_last ns) ++ (34 ∷ 125 ∷ s) =
    sym (regroup (escaped (without_last ms)) (34 ∷ []) (125 ∷ []) r) ∙ ap (drop 9) f ∙ regroup (escaped (without_last ns)) (34 ∷ []) (125 ∷ []) s in
    let both = texts_alike (without_last ms) (without_last ns) (125 ∷ r) (125 ∷ s) g in
    (text_and_zero ms tm ∙ ap (λ xs. xs ++ (0 ∷ [])) both.0 ∙ sym (text_and_zero ns tn), ap (drop 1) both.1)
bytes_alike ms ns r s false tm tn hm hn e =
    let f : object (member (codes "bytes") (in_quotes (encode_lower ms)) ∷ []) ++ r ≡ object (member (codes "bytes") (in_quotes (encode_lower ns)) ∷ []) ++ s = rw (tm, tn) at e in
    let g : encode_lower ms ++ (34 ∷ 125 ∷ r) ≡ encode_lower ns ++ (34 ∷ 125 ∷ s) =
    sym (regroup (encode_lower ms) (34 ∷ []) (125 ∷ []) r) ∙ ap (drop 10) f ∙ regroup (encode_lower ns) (34 ∷ []) (125 ∷ []) s in
    let both = hex_alike ms ns (125 ∷ r) (125 ∷ s) (below_is_bytes ms hm) (below_is_bytes ns hn) g in
    (both.0, ap (drop 1) both.1)

-- The byte that tells a text from bytes: t.
abbrev is_text_at : List ℕ → Bool
is_text_at l = nat_eq (get_or l 2 0) 116

text_read : (ns r : List ℕ) (b : Bool) → reads_as_text ns ≡ b → is_text_at (value_line (Flat 2 ns) ++ r) ≡ b
text_read ns r true e = rw e refl
text_read ns r false e = rw e refl

-- A list of numbers that is the only member of its object, after k bytes.
numbers_list : (f : ℕ → List ℕ) → Told f → (limit : ℕ) (ms ns r s : List ℕ) → limit ≤ 2 ^ 64 → AreBelow limit ms → AreBelow limit ns →
    ((join_with_byte 44 (map f ms) ++ (93 ∷ [])) ++ (125 ∷ [])) ++ r ≡ ((join_with_byte 44 (map f ns) ++ (93 ∷ [])) ++ (125 ∷ [])) ++ s → (ms ≡ ns) × (r ≡ s)
numbers_list f told limit ms ns r s le hm hn e =
    let g = sym (regroup (join_with_byte 44 (map f ms)) (93 ∷ []) (125 ∷ []) r) ∙ e ∙ regroup (join_with_byte 44 (map f ns)) (93 ∷ []) (125 ∷ []) s in
    let both = arrays_alike f told ms ns (125 ∷ r) (125 ∷ s) (below_more limit (2 ^ 64) ms le hm) (below_more limit (2 ^ 64) ns le hn) g in
    (both.0, ap (drop 1) both.1)

flat_alike : (size : ℕ) (ms ns r s : List ℕ) → IsValue (Flat size ms) → IsValue (Flat size ns) → value_line (Flat size ms) ++ r ≡ value_line (Flat size ns) ++ s → (ms ≡ ns) × (r ≡ s)
flat_alike zero ms ns r s hm hn e =
    let g : decimal (length ms) ++ (125 ∷ r) ≡ decimal (length ns) ++ (125 ∷ s) =
    sym (append_assoc (decimal (length ms)) (125 ∷ []) r) ∙ ap (drop 8) e ∙ append_assoc (decimal (length ns)) (125 ∷ []) s in
    let both = numbers_alike (length ms) (length ns) r s 125 125 (omega (arith, hm.1)) (omega (arith, hn.1)) (inr (omega arith)) (inr (omega arith)) g in
    (zeros_alike ms ns hm.2 hn.2 both.0, ap (drop 1) both.1)
flat_alike (suc zero) ms ns r s hm hn e = numbers_list decimal told_plain 2 ms ns r s (omega arith) hm.2 hn.2 (ap (drop 9) e)
flat_alike (suc (suc zero)) ms ns r s hm hn e =
    let same : reads_as_text ns ≡ reads_as_text ms = sym (text_read ns s (reads_as_text ns) refl) ∙ ap is_text_at (sym e) ∙ text_read ms r (reads_as_text ms) refl in
    bytes_alike ms ns r s (reads_as_text ms) refl same hm.2 hn.2 e
flat_alike (suc (suc (suc zero))) ms ns r s hm hn e = numbers_list decimal told_plain (2 ^ 16) ms ns r s (omega arith) hm.2 hn.2 (ap (drop 8) e)
flat_alike (suc (suc (suc (suc zero)))) ms ns r s hm hn e = numbers_list decimal told_plain (2 ^ 32) ms ns r s (omega arith) hm.2 hn.2 (ap (drop 8) e)
flat_alike (suc (suc (suc (suc (suc zero))))) ms ns r s hm hn e = numbers_list (λ n. in_quotes (decimal n)) told_quoted (2 ^ 64) ms ns r s (omega arith) hm.2 hn.2 (ap (drop 8) e)
flat_alike (suc (suc (suc (suc (suc (suc n)))))) ms ns r s hm hn e = absurd (omega (arith, hm.0))

-- ---- values

-- The parts of a struct, and what comes after it.
struct_parts : (ws : List ℕ) (xs : List (List ℕ)) (r : List ℕ) →
    drop 9 (struct_object ws xs ++ r) ≡ encode_lower (bytes_of_words ws) ++ (34 ∷ 44 ∷ 34 ∷ codes "pointers\":[" ++ (join_with_byte 44 xs ++ (93 ∷ 125 ∷ r)))
struct_parts ws xs r =
    regroup (encode_lower (bytes_of_words ws) ++ (34 ∷ [])) (44 ∷ member (codes "pointers") (array xs)) (125 ∷ []) r
    ∙ append_assoc (encode_lower (bytes_of_words ws)) (34 ∷ []) _
    ∙ ap (λ zs. encode_lower (bytes_of_words ws) ++ (34 ∷ 44 ∷ 34 ∷ codes "pointers\":[" ++ zs)) (append_assoc (join_with_byte 44 xs) (93 ∷ []) (125 ∷ r))

structs_parts : (d q : ℕ) (m r : List ℕ) →
    drop 14 (object (member (codes "data_words") (decimal d) ∷ member (codes "pointer_count") (decimal q) ∷ m ∷ []) ++ r) ≡ decimal d ++ (44 ∷ codes "\"pointer_count\":" ++ (decimal q ++ (44 ∷ (m ++ (125 ∷ r)))))
structs_parts d q m r =
    regroup (decimal d) (44 ∷ (member (codes "pointer_count") (decimal q) ++ (44 ∷ m))) (125 ∷ []) r
    ∙ ap (λ zs. decimal d ++ (44 ∷ codes "\"pointer_count\":" ++ zs)) (append_assoc (decimal q) (44 ∷ m) (125 ∷ r))

-- A value's line doesn't begin with a bracket.
no_bracket_first : (t : Tree) (r s : List ℕ) → IsValue t → value_line t ++ r ≢ 93 ∷ s
no_bracket_first Null r s h e = omega (arith, ap (λ l. get_or l 0 0) e)
no_bracket_first (Capability i) r s h e = omega (arith, ap (λ l. get_or l 0 0) e)
no_bracket_first (Struct ws ts) r s h e = omega (arith, ap (λ l. get_or l 0 0) e)
no_bracket_first (Flat size ns) r s h e = omega (arith, ap (λ l. get_or l 0 0) e)
no_bracket_first (Pointers ts) r s h e = omega (arith, ap (λ l. get_or l 0 0) e)
no_bracket_first (Structs d q es) r s h e = omega (arith, ap (λ l. get_or l 0 0) e)

-- Elements without words are told by their number.
blanks_alike : (es fs : Elements) → AreElements 0 0 es → AreElements 0 0 fs → element_count es ≡ element_count fs → es ≡ fs
blanks_alike no_elements no_elements he hf e = refl
blanks_alike no_elements (element vs us fs) he hf e = absurd (omega arith)
blanks_alike (element ws ts es) no_elements he hf e = absurd (omega arith)
blanks_alike (element [] no_trees es) (element [] no_trees fs) he hf e = ap (element [] no_trees) (blanks_alike es fs he.4 hf.4 (omega arith))
blanks_alike (element (w ∷ ws) ts es) (element vs us fs) he hf e = absurd (omega (arith, he.0))
blanks_alike (element ws (tree t ts) es) (element vs us fs) he hf e = absurd (omega (arith, he.1))
blanks_alike (element ws ts es) (element (v ∷ vs) us fs) he hf e = absurd (omega (arith, hf.0))
blanks_alike (element ws ts es) (element vs (tree u us) fs) he hf e = absurd (omega (arith, hf.1))

-- The last member of a list of structs, if the sizes of its elements are the same.
abbrev elements_member : ℕ → Elements → List ℕ
elements_member width es = cond (nat_eq width 0) (member (codes "count") (decimal (element_count es))) (member (codes "structs") (array (element_lines es)))

no_words : (d q : ℕ) (es : Elements) → d + q ≡ 0 → AreElements d q es → AreElements 0 0 es
no_words d q es none h =
    let dz : d ≡ 0 = omega arith in
    let qz : q ≡ 0 = omega arith in
    rw (dz, qz) at h

-- Two structs with equal lines have equal words, and equal lines of their children follow.
struct_alike : (ws vs : List ℕ) (ts us : Trees) (r s : List ℕ) → AreBelow (2 ^ 64) ws → AreBelow (2 ^ 64) vs → struct_object ws (lines ts) ++ r ≡ struct_object vs (lines us) ++ s →
    (ws ≡ vs) × (join_with_byte 44 (lines ts) ++ (93 ∷ 125 ∷ r) ≡ join_with_byte 44 (lines us) ++ (93 ∷ 125 ∷ s))
struct_alike ws vs ts us r s hw hv e =
    let f = sym (struct_parts ws (lines ts) r) ∙ ap (drop 9) e ∙ struct_parts vs (lines us) s in
    let first = words_alike ws vs _ _ hw hv f in
    (first.0, ap (drop 13) first.1)

-- The elements of two lists of structs, if the sizes of their elements are the same.
abbrev RowsAlike : Elements → Elements → List ℕ → List ℕ → Type 0
RowsAlike es fs r s = join_with_byte 44 (element_lines es) ++ (93 ∷ 125 ∷ r) ≡ join_with_byte 44 (element_lines fs) ++ (93 ∷ 125 ∷ s) → (es ≡ fs) × (125 ∷ r ≡ 125 ∷ s)

elements_alike : (d q : ℕ) (es fs : Elements) (r s : List ℕ) → RowsAlike es fs r s → element_count es < 2 ^ 30 → element_count fs < 2 ^ 30 → AreElements d q es → AreElements d q fs → (d + q ≡ 0) ⊎ (d + q ≢ 0) → elements_member (d + q) es ++ (125 ∷ r) ≡ elements_member (d + q) fs ++ (125 ∷ s) → (es ≡ fs) × (r ≡ s)
elements_alike d q es fs r s rows me mf he hf (inl none) e =
    let f : member (codes "count") (decimal (element_count es)) ++ (125 ∷ r) ≡ member (codes "count") (decimal (element_count fs)) ++ (125 ∷ s) = rw none at e in
    let both = numbers_alike (element_count es) (element_count fs) r s 125 125 (omega (arith, me)) (omega (arith, mf)) (inr (omega arith)) (inr (omega arith)) (ap (drop 8) f) in
    (blanks_alike es fs (no_words d q es none he) (no_words d q fs none hf) both.0, ap (drop 1) both.1)
elements_alike d q es fs r s rows me mf he hf (inr some) e =
    let b : nat_eq (d + q) 0 ≡ false = ne_eqb (d + q) 0 some in
    let f : member (codes "structs") (array (element_lines es)) ++ (125 ∷ r) ≡ member (codes "structs") (array (element_lines fs)) ++ (125 ∷ s) = rw b at e in
    let g = sym (append_assoc (join_with_byte 44 (element_lines es)) (93 ∷ []) (125 ∷ r)) ∙ ap (drop 11) f ∙ append_assoc (join_with_byte 44 (element_lines fs)) (93 ∷ []) (125 ∷ s) in
    let both = rows g in
    (both.0, ap (drop 1) both.1)

mutual
  pub line_alike : (t u : Tree) (r s : List ℕ) → IsValue t → IsValue u → value_line t ++ r ≡ value_line u ++ s → (t ≡ u) × (r ≡ s)
  line_alike Null Null r s ht hu e = (refl, ap (drop 4) e)
  line_alike (Capability i) (Capability j) r s ht hu e =
      let g = sym (append_assoc (decimal i) (125 ∷ []) r) ∙ ap (drop 14) e ∙ append_assoc (decimal j) (125 ∷ []) s in
      let both = numbers_alike i j r s 125 125 (omega (arith, ht)) (omega (arith, hu)) (inr (omega arith)) (inr (omega arith)) g in
      (ap Capability both.0, ap (drop 1) both.1)
  line_alike (Struct ws ts) (Struct vs us) r s ht hu e =
      let first = struct_alike ws vs ts us r s ht.2 hu.2 e in
      let both = children_alike ts us (125 ∷ r) (125 ∷ s) ht.3 hu.3 first.1 in
      (ap₂ Struct first.0 both.0, ap (drop 1) both.1)
  line_alike (Flat size ns) (Flat tall ms) r s ht hu e =
      let same : size ≡ tall = sym (flat_read size ns r ht.0).of_size ∙ ap size_at e ∙ (flat_read tall ms s hu.0).of_size in
      let ht' = rw same at ht in
      let e' = rw same at e in
      let both = flat_alike tall ns ms r s ht' hu e' in
      (ap₂ Flat same both.0, both.1)
  line_alike (Pointers ts) (Pointers us) r s ht hu e =
      let g = sym (regroup (join_with_byte 44 (lines ts)) (93 ∷ []) (125 ∷ []) r) ∙ ap (drop 9) e ∙ regroup (join_with_byte 44 (lines us)) (93 ∷ []) (125 ∷ []) s in
      let both = children_alike ts us (125 ∷ r) (125 ∷ s) ht.1 hu.1 g in
      (ap Pointers both.0, ap (drop 1) both.1)
  line_alike (Structs d q es) (Structs b p fs) r s ht hu e =
      let f = sym (structs_parts d q (elements_member (d + q) es) r) ∙ ap (drop 14) e ∙ structs_parts b p (elements_member (b + p) fs) s in
      let first = numbers_alike d b _ _ 44 44 (omega (arith, ht.0)) (omega (arith, hu.0)) (inl (omega arith)) (inl (omega arith)) f in
      let second = numbers_alike q p (elements_member (d + q) es ++ (125 ∷ r)) (elements_member (b + p) fs ++ (125 ∷ s)) 44 44 (omega (arith, ht.1)) (omega (arith, hu.1)) (inl (omega arith)) (inl (omega arith)) (ap (drop 17) first.1) in
      let width : b + p ≡ d + q = omega (arith, first.0, second.0) in
      let hf = rw (sym first.0, sym second.0) at hu.4 in
      let g : elements_member (d + q) es ++ (125 ∷ r) ≡ elements_member (d + q) fs ++ (125 ∷ s) = ap (drop 1) second.1 ∙ ap (λ n. elements_member n fs ++ (125 ∷ s)) width in
      let both = elements_alike d q es fs r s (rows_alike d q es fs (125 ∷ r) (125 ∷ s) ht.4 hf) ht.2 hu.2 ht.4 hf (cases_eq (d + q) 0) g in
      (ap (λ (xs : Elements). Structs d q xs) both.0 ∙ ap₂ (λ (x : ℕ) (y : ℕ). Structs x y fs) first.0 second.0, both.1)
  line_alike t u r s ht hu e =
      let k : kind t ≡ kind u = sym (kind_read t r ht) ∙ ap kind_at e ∙ kind_read u s hu in
      absurd (omega (arith, k))

  children_alike : (ts us : Trees) (r s : List ℕ) → AreValues ts → AreValues us → join_with_byte 44 (lines ts) ++ (93 ∷ r) ≡ join_with_byte 44 (lines us) ++ (93 ∷ s) → (ts ≡ us) × (r ≡ s)
  children_alike no_trees no_trees r s ht hu e = (refl, ap (drop 1) e)
  children_alike no_trees (tree u us) r s ht hu e =
      absurd (no_bracket_first u (more (lines us) ++ (93 ∷ s)) r hu.0 (sym (e ∙ joined_then (value_line u) (lines us) (93 ∷ s))))
  children_alike (tree t ts) no_trees r s ht hu e =
      absurd (no_bracket_first t (more (lines ts) ++ (93 ∷ r)) s ht.0 (sym (joined_then (value_line t) (lines ts) (93 ∷ r)) ∙ e))
  children_alike (tree t ts) (tree u us) r s ht hu e =
      let first = line_alike t u _ _ ht.0 hu.0 (sym (joined_then (value_line t) (lines ts) (93 ∷ r)) ∙ e ∙ joined_then (value_line u) (lines us) (93 ∷ s)) in
      let rest = more_children ts us r s ht.1 hu.1 first.1 in
      (ap₂ tree first.0 rest.0, rest.1)

  more_children : (ts us : Trees) (r s : List ℕ) → AreValues ts → AreValues us → more (lines ts) ++ (93 ∷ r) ≡ more (lines us) ++ (93 ∷ s) → (ts ≡ us) × (r ≡ s)
  more_children no_trees no_trees r s ht hu e = (refl, ap (drop 1) e)
  more_children no_trees (tree u us) r s ht hu e = absurd (omega (arith, ap (λ l. get_or l 0 0) e))
  more_children (tree t ts) no_trees r s ht hu e = absurd (omega (arith, ap (λ l. get_or l 0 0) e))
  more_children (tree t ts) (tree u us) r s ht hu e =
      let f = sym (append_assoc (value_line t) (more (lines ts)) (93 ∷ r)) ∙ ap (drop 1) e ∙ append_assoc (value_line u) (more (lines us)) (93 ∷ s) in
      let first = line_alike t u _ _ ht.0 hu.0 f in
      let rest = more_children ts us r s ht.1 hu.1 first.1 in
      (ap₂ tree first.0 rest.0, rest.1)

  rows_alike : (d q : ℕ) (es fs : Elements) (r s : List ℕ) → AreElements d q es → AreElements d q fs → join_with_byte 44 (element_lines es) ++ (93 ∷ r) ≡ join_with_byte 44 (element_lines fs) ++ (93 ∷ s) → (es ≡ fs) × (r ≡ s)
  rows_alike d q no_elements no_elements r s he hf e = (refl, ap (drop 1) e)
  rows_alike d q no_elements (element vs us fs) r s he hf e =
      absurd (omega (arith, ap (λ l. get_or l 0 0) (e ∙ joined_then (struct_object vs (lines us)) (element_lines fs) (93 ∷ s))))
  rows_alike d q (element ws ts es) no_elements r s he hf e =
      absurd (omega (arith, ap (λ l. get_or l 0 0) (sym (joined_then (struct_object ws (lines ts)) (element_lines es) (93 ∷ r)) ∙ e)))
  rows_alike d q (element ws ts es) (element vs us fs) r s he hf e =
      let first = struct_alike ws vs ts us _ _ he.2 hf.2 (sym (joined_then (struct_object ws (lines ts)) (element_lines es) (93 ∷ r)) ∙ e ∙ joined_then (struct_object vs (lines us)) (element_lines fs) (93 ∷ s)) in
      let both = children_alike ts us _ _ he.3 hf.3 first.1 in
      let rest = more_rows d q es fs r s he.4 hf.4 (ap (drop 1) both.1) in
      (ap (λ (xs : Elements). element ws ts xs) rest.0 ∙ ap₂ (λ (x : List ℕ) (y : Trees). element x y fs) first.0 both.0, rest.1)

  more_rows : (d q : ℕ) (es fs : Elements) (r s : List ℕ) → AreElements d q es → AreElements d q fs → more (element_lines es) ++ (93 ∷ r) ≡ more (element_lines fs) ++ (93 ∷ s) → (es ≡ fs) × (r ≡ s)
  more_rows d q no_elements no_elements r s he hf e = (refl, ap (drop 1) e)
  more_rows d q no_elements (element vs us fs) r s he hf e = absurd (omega (arith, ap (λ l. get_or l 0 0) e))
  more_rows d q (element ws ts es) no_elements r s he hf e = absurd (omega (arith, ap (λ l. get_or l 0 0) e))
  more_rows d q (element ws ts es) (element vs us fs) r s he hf e =
      let f = sym (append_assoc (struct_object ws (lines ts)) (more (element_lines es)) (93 ∷ r)) ∙ ap (drop 1) e ∙ append_assoc (struct_object vs (lines us)) (more (element_lines fs)) (93 ∷ s) in
      let first = struct_alike ws vs ts us _ _ he.2 hf.2 f in
      let both = children_alike ts us _ _ he.3 hf.3 first.1 in
      let rest = more_rows d q es fs r s he.4 hf.4 (ap (drop 1) both.1) in
      (ap (λ (xs : Elements). element ws ts xs) rest.0 ∙ ap₂ (λ (x : List ℕ) (y : Trees). element x y fs) first.0 both.0, rest.1)

-- The line of a value determines the value.
pub one_line : (t u : Tree) → IsValue t → IsValue u → value_line t ≡ value_line u → t ≡ u
one_line t u ht hu e = (line_alike t u [] [] ht hu (ap (λ xs. xs ++ []) e)).0

-- The lines of two values that messages mean.
pub meant_line : (S R : Segments) (n m s p u q : ℕ) (t v : Tree) (c e : ℕ) → AreWords S → AreWords R → Means S n s p t c → Means R m u q v e → value_line t ≡ value_line v → t ≡ v
meant_line S R n m s p u q t v c e small less means says same = one_line t v (means_value S n s p t c small means) (means_value R m u q v e less says) same
