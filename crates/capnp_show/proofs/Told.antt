-- The line that is written of a value that can be read is the line of the value.
use Rattle.std.proofs.Common.{◌≡◌, inl, inr, ℕ, zero, suc, pred, ◌+◌, ◌<◌, ◌≤◌, Bool, true, false, nat_eq, List, [], ◌∷◌, ◌++◌, Result, Ok, Err, refl, sym, ap, ◌∙◌, subst, arith, append_assoc, append-nil, eq-eqb}
use Rattle.std.specs.Prelude.{⊤, codes, if◌then◌else◌}
use Rattle.std.specs.Fmt.{decimal}
use Rattle.std.specs.List.{join_with_byte}
use Rattle.std.proofs.lemmas.Bool.{ne_eqb}
use Rattle.capnp_words.specs.declared.error.ErrorKind.{ErrorKind}
use Rattle.capnp_words.specs.Meter.{Meter}
use Rattle.capnp_format.specs.Word.{kind, data_words, pointer_count, element_size, list_count, offset_bits, upper_half}
use Rattle.capnp_format.specs.Numbers.{words_for, unpacked}
use Rattle.capnp_format.specs.Segments.{Segments, Target}
use Rattle.capnp_format.specs.Tree.{Tree, Null, Capability, Struct, Pointers, Structs, Trees, no_trees, tree, Elements, no_elements, element, element_count, depth, depth_all, depth_elements}
use Rattle.capnp_pointers.specs.declared.object.Purpose.TheVariants.{Value}
use Rattle.capnp_pointers.specs.Demands.{tag}
use Rattle.capnp_pointers.specs.Enter.{Shape, nothing, capability, struct, flat, pointers, structs, shape, read}
use Rattle.capnp_pointers.specs.Metered.{Metered, answer, onward}
use Rattle.capnp_pointers.specs.Reading.{Reading, place_past, word_of, words_from}
use Rattle.capnp_pointers.specs.Spending.{after_charge}
use Rattle.capnp_pointers.specs.Values.{read_values, read_element_values, object_value, value_within, value}
use Rattle.capnp_pointers.specs.Wanted.{plain}
use Rattle.capnp_pointers.proofs.OneObject.ReadAsStated.{null_is, capability_is, entering_is, stopped_is}
use Rattle.capnp_pointers.proofs.Decided.{same_or_not}
use Rattle.capnp_pointers.proofs.OneObject.ReadInOneWay.{Ends, at_capability, at_object, refused, ends}
use Rattle.capnp_pointers.proofs.WholeValue.ValueAgrees.{leaf_is, refusal_is, value_is}
use Rattle.capnp_messages.specs.Parts.{inside}
use Rattle.capnp_show.specs.Line.{value_line, lines, element_lines, struct_object, object, member, array, data_member, flat_member}
use Rattle.capnp_show.specs.Shown.{Shown, add, comma, array_begin, array_within, sizes_members, show_array, show_each, show_elements, show_object, show_result, show_struct, show_structs, show_within}
use Rattle.capnp_show.proofs.Pieces.{pieces, no_pieces, next_piece}

abbrev Outcome : Type 0 → Type 0
Outcome A = Result A ErrorKind × Meter

-- The line with these bytes more, and this limiter.
abbrev with_text : Shown → List ℕ → Meter → Shown
with_text s xs m = record s { text = s.text ++ xs; lim = m }

-- What is written of what is read, if no more than d levels are nested in it: of a value,
-- consecutive ones, a struct, and elements.
abbrev pub Tells : ℕ → Shown → Outcome Tree → Shown → Type 0
Tells d s (Ok t, m) x = depth t ≤ d → x ≡ with_text s (value_line t) m
Tells d s (Err k, m) x = ⊤

abbrev AllTell : ℕ → ℕ → Shown → Outcome Trees → Shown → Type 0
AllTell d i s (Ok ts, m) x = depth_all ts ≤ d → x ≡ with_text s (pieces i (lines ts)) m
AllTell d i s (Err k, m) x = ⊤

abbrev StructTells : ℕ → List ℕ → Shown → Outcome Trees → Shown → Type 0
StructTells d ws s (Ok ts, m) x = depth_all ts ≤ d → x ≡ with_text s (struct_object ws (lines ts)) m
StructTells d ws s (Err k, m) x = ⊤

abbrev ElementsTell : ℕ → ℕ → Shown → Outcome Elements → Shown → Type 0
ElementsTell d i s (Ok es, m) x = depth_elements es ≤ d → x ≡ with_text s (pieces i (element_lines es)) m
ElementsTell d i s (Err k, m) x = ⊤

-- Elements without pointers are read without a charge.
abbrev BlankRead : (Reading → Metered Tree) → ℕ → ℕ → Reading → Meter → Type 0
BlankRead f n k r m = (es : Elements) × (element_count es ≡ k) × (read_element_values f n 0 k r m ≡ (Ok es, m))

blanks_read : (f : Reading → Metered Tree) (n k : ℕ) (r : Reading) (m : Meter) → BlankRead f n k r m
blanks_read f n zero r m = (no_elements, refl, refl)
blanks_read f n (suc k) r m =
    let (es, many, read) = blanks_read f n k (place_past r (n + 0)) m in
    (element (words_from r n) no_trees es, ap suc many, ap (onward (λ fs. answer (element (words_from r n) no_trees fs))) read)

nothing_more : (i : ℕ) (s : Shown) → s ≡ with_text s (pieces i []) s.lim
nothing_more i s = ap (λ xs. record s { text = xs }) (sym (ap (λ xs. s.text ++ xs) (no_pieces i) ∙ append-nil s.text))

piece_more : (i : ℕ) (s : Shown) (m1 m2 : Meter) (x : List ℕ) (xs : List (List ℕ)) → with_text (with_text (add (comma i) s) x m1) (pieces (suc i) xs) m2 ≡ with_text s (pieces i (x ∷ xs)) m2
piece_more i s m1 m2 x xs =
    ap (λ zs. record s { text = zs; lim = m2 })
    (append_assoc (s.text ++ comma i) x (pieces (suc i) xs) ∙ append_assoc s.text (comma i) (x ++ pieces (suc i) xs) ∙ ap (λ zs. s.text ++ zs) (sym (next_piece i x xs)))

trees_tell : (f : Reading → Metered Tree) (w : Reading → Shown → Shown) (d : ℕ) (r : Reading) → ((p : ℕ) (s : Shown) → Tells d s (f (record r { at = p }) s.lim) (w (record r { at = p }) s)) →
    (k p i : ℕ) (s : Shown) → AllTell d i s (read_values f k (record r { at = p }) s.lim) (show_each w i k (record r { at = p }) s)
trees_tell f w d r h zero p i s = λ deep. nothing_more i s
trees_tell f w d r h (suc k) p i s = go (f (record r { at = p }) s.lim) (h p (add (comma i) s)) (λ y. trees_tell f w d r h k (p + 1) (suc i) y)
  where
    next : (t : Tree) (m1 : Meter) (x : Shown) → (depth t ≤ d → x ≡ with_text (add (comma i) s) (value_line t) m1) → (o : Outcome Trees) →
        AllTell d (suc i) (with_text (add (comma i) s) (value_line t) m1) o (show_each w (suc i) k (record r { at = p + 1 }) (with_text (add (comma i) s) (value_line t) m1)) →
        AllTell d i s (onward (λ ts. answer (tree t ts)) o) (show_each w (suc i) k (record r { at = p + 1 }) x)
    next t m1 x e (Ok ts, m2) told = λ deep. ap (show_each w (suc i) k (record r { at = p + 1 })) (e (omega (arith, deep))) ∙ told (omega (arith, deep)) ∙ piece_more i s m1 m2 (value_line t) (lines ts)
    next t m1 x e (Err k2, m2) told = tt

    go : (o : Outcome Tree) → Tells d (add (comma i) s) o (w (record r { at = p }) (add (comma i) s)) → ((y : Shown) → AllTell d (suc i) y (read_values f k (record r { at = p + 1 }) y.lim) (show_each w (suc i) k (record r { at = p + 1 }) y)) →
        AllTell d i s (onward (λ t m1. onward (λ ts. answer (tree t ts)) (read_values f k (record r { at = p + 1 }) m1)) o) (show_each w (suc i) k (record r { at = p + 1 }) (w (record r { at = p }) (add (comma i) s)))
    go (Ok t, m1) e rest = next t m1 (w (record r { at = p }) (add (comma i) s)) e (read_values f k (record r { at = p + 1 }) m1) (rest (with_text (add (comma i) s) (value_line t) m1))
    go (Err k2, m1) e rest = tt

-- ---- the texts of objects

five : (t a b c d e : List ℕ) → ((((t ++ a) ++ b) ++ c) ++ d) ++ e ≡ t ++ (a ++ (b ++ (c ++ (d ++ e))))
five t a b c d e = simp append_assoc

array_text : (J : List ℕ) → (J ++ codes "]") ++ codes "}" ≡ J ++ codes "]}"
array_text J = append_assoc J (codes "]") (codes "}")

struct_text : (t D : List ℕ) (xs : List (List ℕ)) → ((((t ++ codes "{") ++ (D ++ codes ",")) ++ array_begin false) ++ join_with_byte 44 xs) ++ codes "]}" ≡ t ++ object (D ∷ member (codes "pointers") (array xs) ∷ [])
struct_text t D xs =
    let J : List ℕ = join_with_byte 44 xs in
    five t (codes "{") (D ++ codes ",") (array_begin false) J (codes "]}")
    ∙ ap (λ zs. t ++ (codes "{" ++ zs))
    (append_assoc D (codes ",") (array_begin false ++ (J ++ codes "]}"))
    ∙ ap (λ zs. D ++ (codes "," ++ (array_begin false ++ zs))) (sym (array_text J))
    ∙ sym (append_assoc D (44 ∷ member (codes "pointers") (array xs)) (codes "}")))

list_text : (t : List ℕ) (xs : List (List ℕ)) → (((t ++ codes "{") ++ array_begin true) ++ join_with_byte 44 xs) ++ codes "]}" ≡ t ++ object (member (codes "list") (array xs) ∷ [])
list_text t xs =
    let J : List ℕ = join_with_byte 44 xs in
    append_assoc ((t ++ codes "{") ++ array_begin true) J (codes "]}")
    ∙ append_assoc (t ++ codes "{") (array_begin true) (J ++ codes "]}")
    ∙ append_assoc t (codes "{") (array_begin true ++ (J ++ codes "]}"))
    ∙ ap (λ zs. t ++ (codes "{" ++ (array_begin true ++ zs))) (sym (array_text J))

one_text : (t M : List ℕ) → (t ++ codes "{") ++ (M ++ codes "}") ≡ t ++ object (M ∷ [])
one_text t M = append_assoc t (codes "{") (M ++ codes "}")

sizes_text : (t D Q M : List ℕ) → ((t ++ codes "{") ++ (D ++ codes "," ++ (Q ++ codes ","))) ++ (M ++ codes "}") ≡ t ++ object (D ∷ Q ∷ M ∷ [])
sizes_text t D Q M =
    append_assoc (t ++ codes "{") (D ++ codes "," ++ (Q ++ codes ",")) (M ++ codes "}")
    ∙ append_assoc t (codes "{") ((D ++ codes "," ++ (Q ++ codes ",")) ++ (M ++ codes "}"))
    ∙ ap (λ zs. t ++ (codes "{" ++ zs))
    (append_assoc (D ++ codes ",") (Q ++ codes ",") (M ++ codes "}")
    ∙ append_assoc D (codes ",") ((Q ++ codes ",") ++ (M ++ codes "}"))
    ∙ ap (λ zs. D ++ (codes "," ++ zs)) (append_assoc Q (codes ",") (M ++ codes "}") ∙ sym (append_assoc Q (44 ∷ M) (codes "}")))
    ∙ sym (append_assoc D (44 ∷ (Q ++ (44 ∷ M))) (codes "}")))

structs_text : (t D Q : List ℕ) (xs : List (List ℕ)) → ((((t ++ codes "{") ++ (D ++ codes "," ++ (Q ++ codes ","))) ++ codes "\"structs\":[") ++ join_with_byte 44 xs) ++ codes "]}" ≡ t ++ object (D ∷ Q ∷ member (codes "structs") (array xs) ∷ [])
structs_text t D Q xs =
    let J : List ℕ = join_with_byte 44 xs in
    let front : List ℕ = (t ++ codes "{") ++ (D ++ codes "," ++ (Q ++ codes ",")) in
    append_assoc (front ++ codes "\"structs\":[") J (codes "]}")
    ∙ append_assoc front (codes "\"structs\":[") (J ++ codes "]}")
    ∙ ap (λ zs. front ++ (codes "\"structs\":[" ++ zs)) (sym (array_text J))
    ∙ sizes_text t D Q (member (codes "structs") (array xs))

-- ---- structs and elements

struct_tells : (f : Reading → Metered Tree) (w : Reading → Shown → Shown) (d : ℕ) (r : Reading) → ((p : ℕ) (s : Shown) → Tells d s (f (record r { at = p }) s.lim) (w (record r { at = p }) s)) →
    (n q p : ℕ) (s : Shown) → StructTells d (words_from (record r { at = p }) n) s (read_values f q (record r { at = p + n }) s.lim) (show_struct (show_array w) n q (record r { at = p }) (add (codes "{") s))
struct_tells f w d r h n q p s = go (read_values f q (record r { at = p + n }) s.lim) (trees_tell f w d r h q (p + n) 0 begun)
  where
    ws : List ℕ
    ws = words_from (record r { at = p }) n

    begun : Shown
    begun = add (array_begin false) (add (data_member ws ++ codes ",") (add (codes "{") s))

    go : (o : Outcome Trees) → AllTell d 0 begun o (show_each w 0 q (record r { at = p + n }) begun) → StructTells d ws s o (add (codes "]}") (show_each w 0 q (record r { at = p + n }) begun))
    go (Ok ts, m) told = λ deep. ap (add (codes "]}")) (told deep) ∙ ap (λ xs. record s { text = xs; lim = m }) (struct_text s.text (data_member ws) (lines ts))
    go (Err k, m) told = tt

elements_tell : (f : Reading → Metered Tree) (w : Reading → Shown → Shown) (d : ℕ) (r : Reading) → ((p : ℕ) (s : Shown) → Tells d s (f (record r { at = p }) s.lim) (w (record r { at = p }) s)) →
    (n q k p i : ℕ) (s : Shown) → ElementsTell d i s (read_element_values f n q k (record r { at = p }) s.lim) (show_elements (show_array w) n q i k (record r { at = p }) s)
elements_tell f w d r h n q zero p i s = λ deep. nothing_more i s
elements_tell f w d r h n q (suc k) p i s = go (read_values f q (record r { at = p + n }) s.lim) (struct_tells f w d r h n q p (add (comma i) s)) (λ y. elements_tell f w d r h n q k (p + (n + q)) (suc i) y)
  where
    ws : List ℕ
    ws = words_from (record r { at = p }) n

    rest_of : Shown → Shown
    rest_of = show_elements (show_array w) n q (suc i) k (record r { at = p + (n + q) })

    next : (ts : Trees) (m1 : Meter) (x : Shown) → (depth_all ts ≤ d → x ≡ with_text (add (comma i) s) (struct_object ws (lines ts)) m1) → (o : Outcome Elements) →
        ElementsTell d (suc i) (with_text (add (comma i) s) (struct_object ws (lines ts)) m1) o (rest_of (with_text (add (comma i) s) (struct_object ws (lines ts)) m1)) →
        ElementsTell d i s (onward (λ es. answer (element ws ts es)) o) (rest_of x)
    next ts m1 x e (Ok es, m2) told = λ deep. ap (show_elements (show_array w) n q (suc i) k (record r { at = p + (n + q) })) (e (omega (arith, deep))) ∙ told (omega (arith, deep)) ∙ piece_more i s m1 m2 (struct_object ws (lines ts)) (element_lines es)
    next ts m1 x e (Err k2, m2) told = tt

    go : (o : Outcome Trees) → StructTells d ws (add (comma i) s) o (show_struct (show_array w) n q (record r { at = p }) (add (codes "{") (add (comma i) s))) → ((y : Shown) → ElementsTell d (suc i) y (read_element_values f n q k (record r { at = p + (n + q) }) y.lim) (rest_of y)) →
        ElementsTell d i s (onward (λ ts m1. onward (λ es. answer (element ws ts es)) (read_element_values f n q k (record r { at = p + (n + q) }) m1)) o) (rest_of (show_struct (show_array w) n q (record r { at = p }) (add (codes "{") (add (comma i) s))))
    go (Ok ts, m1) e rest = next ts m1 (show_struct (show_array w) n q (record r { at = p }) (add (codes "{") (add (comma i) s))) e (read_element_values f n q k (record r { at = p + (n + q) }) m1) (rest (with_text (add (comma i) s) (struct_object ws (lines ts)) m1))
    go (Err k2, m1) e rest = tt

-- ---- objects

-- What is written of the pointers of an object that was read from the place r.
abbrev Below : ℕ → Reading → Type 0
Below d r = (g p : ℕ) (s : Shown) → Tells d s (value_within plain (pred r.levels) (inside r g p) s.lim) (show_within d (inside r g p) s)

abbrev contents : Reading → Shape → Metered Tree
contents r = object_value (value_within plain (pred r.levels)) (inside r)

-- The beginning of an object, with this limiter.
abbrev begun : Shown → Meter → Shown
begun s m = with_text s (codes "{") m

deep_only : {A : Type 0} (d : ℕ) (s x : Shown) (f : A → Tree) → ((a : A) → 0 < depth (f a)) → d ≡ 0 → (o : Outcome A) → Tells d s (onward (λ a. answer (f a)) o) x
deep_only d s x f some none (Ok a, m) = λ deep. absurd (omega (arith, some a, deep, none))
deep_only d s x f some none (Err k, m) = tt

struct_object_tells : (d : ℕ) (r : Reading) (s : Shown) (m : Meter) (g p n q : ℕ) → ((e : ℕ) → d ≡ suc e → Below e r) → Tells d s (contents r (struct g p n q) m) (show_struct (array_within d) n q (inside r g p) (begun s m))
unfolding array_within
struct_object_tells zero r s m g p n q below = deep_only zero s _ (λ ts. Struct (words_from (inside r g p) n) ts) (λ ts. omega arith) refl (read_values (value_within plain (pred r.levels)) q (inside r g (p + n)) m)
struct_object_tells (suc e) r s m g p n q below = go (read_values (value_within plain (pred r.levels)) q (inside r g (p + n)) m) (struct_tells (value_within plain (pred r.levels)) (show_within e) e (inside r g p) (below e refl g) n q p (record s { lim = m }))
  where
    go : (o : Outcome Trees) → StructTells e (words_from (inside r g p) n) (record s { lim = m }) o (show_struct (show_array (show_within e)) n q (inside r g p) (begun s m)) →
        Tells (suc e) s (onward (λ ts. answer (Struct (words_from (inside r g p) n) ts)) o) (show_struct (show_array (show_within e)) n q (inside r g p) (begun s m))
    go (Ok ts, m1) told = λ deep. told (omega (arith, deep))
    go (Err k, m1) told = tt

pointers_object_tells : (d : ℕ) (r : Reading) (s : Shown) (m : Meter) (g p k : ℕ) → ((e : ℕ) → d ≡ suc e → Below e r) → Tells d s (contents r (pointers g p k) m) (array_within d true k (inside r g p) (begun s m))
unfolding array_within
pointers_object_tells zero r s m g p k below = deep_only zero s _ Pointers (λ ts. omega arith) refl (read_values (value_within plain (pred r.levels)) k (inside r g p) m)
pointers_object_tells (suc e) r s m g p k below = go (read_values (value_within plain (pred r.levels)) k (inside r g p) m) (trees_tell (value_within plain (pred r.levels)) (show_within e) e (inside r g p) (below e refl g) k p 0 (add (array_begin true) (begun s m)))
  where
    go : (o : Outcome Trees) → AllTell e 0 (add (array_begin true) (begun s m)) o (show_each (show_within e) 0 k (inside r g p) (add (array_begin true) (begun s m))) →
        Tells (suc e) s (onward (λ ts. answer (Pointers ts)) o) (show_array (show_within e) true k (inside r g p) (begun s m))
    go (Ok ts, m1) told = λ deep. ap (add (codes "]}")) (told (omega (arith, deep))) ∙ ap (λ xs. record s { text = xs; lim = m1 }) (list_text s.text (lines ts))
    go (Err k2, m1) told = tt

-- A list of structs without words, and one with words.
blank_tells : (d : ℕ) (r : Reading) (s : Shown) (m : Meter) (g p n q k : ℕ) → n + q ≡ 0 → Tells d s (contents r (structs g p n q k) m) (add (member (codes "count") (decimal k) ++ codes "}") (add (sizes_members n q) (begun s m)))
blank_tells d r s m g p n q k none =
    let nz : n ≡ 0 = omega arith in
    let qz : q ≡ 0 = omega arith in
    let (es, many, read) = blanks_read (value_within plain (pred r.levels)) 0 k (inside r g p) m in
    let whole : contents r (structs g p n q k) m ≡ (Ok (Structs n q es), m) = rw (nz, qz) (ap (onward (λ fs. answer (Structs 0 0 fs))) read) in
    let width : nat_eq (n + q) 0 ≡ true = eq-eqb _ _ none in
    subst (λ (o : Outcome Tree). Tells d s o (add (member (codes "count") (decimal k) ++ codes "}") (add (sizes_members n q) (begun s m)))) (sym whole)
    (λ deep. ap (λ xs. record s { text = xs; lim = m }) (sizes_text s.text (member (codes "data_words") (decimal n)) (member (codes "pointer_count") (decimal q)) (member (codes "count") (decimal k)) ∙ rw (width, many) refl))

rows_tell : (d : ℕ) (r : Reading) (s : Shown) (m : Meter) (g p n q k : ℕ) → ((e : ℕ) → d ≡ suc e → Below e r) → nat_eq (n + q) 0 ≡ false →
    Tells d s (contents r (structs g p n q k) m) (add (codes "]}") (show_elements (array_within d) n q 0 k (inside r g p) (add (codes "\"structs\":[") (add (sizes_members n q) (begun s m)))))
unfolding array_within
rows_tell zero r s m g p n q k below some = deep_only zero s _ (λ es. Structs n q es) (λ es. omega arith) refl (read_element_values (value_within plain (pred r.levels)) n q k (inside r g p) m)
rows_tell (suc e) r s m g p n q k below some = go (read_element_values (value_within plain (pred r.levels)) n q k (inside r g p) m) (elements_tell (value_within plain (pred r.levels)) (show_within e) e (inside r g p) (below e refl g) n q k p 0 (add (codes "\"structs\":[") (add (sizes_members n q) (begun s m))))
  where
    go : (o : Outcome Elements) → ElementsTell e 0 (add (codes "\"structs\":[") (add (sizes_members n q) (begun s m))) o (show_elements (show_array (show_within e)) n q 0 k (inside r g p) (add (codes "\"structs\":[") (add (sizes_members n q) (begun s m)))) →
        Tells (suc e) s (onward (λ es. answer (Structs n q es)) o) (add (codes "]}") (show_elements (show_array (show_within e)) n q 0 k (inside r g p) (add (codes "\"structs\":[") (add (sizes_members n q) (begun s m)))))
    go (Ok es, m1) told = λ deep. ap (add (codes "]}")) (told (omega (arith, deep)))
        ∙ ap (λ xs. record s { text = xs; lim = m1 }) (structs_text s.text (member (codes "data_words") (decimal n)) (member (codes "pointer_count") (decimal q)) (element_lines es) ∙ rw some refl)
    go (Err k2, m1) told = tt

structs_tell : (d : ℕ) (r : Reading) (s : Shown) (m : Meter) (g p n q k : ℕ) → ((e : ℕ) → d ≡ suc e → Below e r) → Tells d s (contents r (structs g p n q k) m) (show_structs (array_within d) n q k (inside r g p) (begun s m))
structs_tell d r s m g p n q k below = elim (same_or_not (n + q) 0) [
  | inl none ↦ let b : nat_eq (n + q) 0 ≡ true = eq-eqb _ _ none in rw b (blank_tells d r s m g p n q k none)
  | inr some ↦ let b : nat_eq (n + q) 0 ≡ false = ne_eqb _ _ some in rw b (rows_tell d r s m g p n q k below b)
]

-- The pointer isn't null.
abbrev IsThere : Shape → Type 0
IsThere nothing = ⊥
IsThere (capability i) = ⊤
IsThere (struct g p n q) = ⊤
IsThere (flat g p size n) = ⊤
IsThere (pointers g p n) = ⊤
IsThere (structs g p n q k) = ⊤

either_there : (b : Bool) (o x : Shape) → IsThere o → IsThere x → IsThere (if b then o else x)
either_there true o x first second = first
either_there false o x first second = second

shape_there : (S : Segments) (a : Target) → IsThere (shape S a)
shape_there S a =
    let last : Shape = flat a.segment a.start (element_size a.word) (list_count a.word) in
    let list : Shape = pointers a.segment a.start (list_count a.word) in
    let rows : Shape = structs a.segment (a.start + 1) (data_words (tag S a)) (pointer_count (tag S a)) (offset_bits (tag S a)) in
    let one = either_there (nat_eq (element_size a.word) 6) list last tt tt in
    let two = either_there (nat_eq (element_size a.word) 7) rows (if nat_eq (element_size a.word) 6 then list else last) tt one in
    either_there (nat_eq (kind a.word) 0) (struct a.segment a.start (data_words a.word) (pointer_count a.word)) (if nat_eq (element_size a.word) 7 then rows else if nat_eq (element_size a.word) 6 then list else last) tt two

object_tells : (d : ℕ) (r : Reading) (s : Shown) (m : Meter) (o : Shape) → IsThere o → ((e : ℕ) → d ≡ suc e → Below e r) → Tells d s (contents r o m) (show_object (array_within d) r o (begun s m))
object_tells d r s m nothing there below = absurd there
object_tells d r s m (capability i) there below = λ deep. ap (λ xs. record s { text = xs; lim = m }) (one_text s.text (member (codes "capability") (decimal i)))
object_tells d r s m (struct g p n q) there below = struct_object_tells d r s m g p n q below
object_tells d r s m (flat g p size n) there below = λ deep. ap (λ xs. record s { text = xs; lim = m }) (one_text s.text (flat_member size (unpacked size n (words_from (inside r g p) (words_for size n)))))
object_tells d r s m (pointers g p n) there below = pointers_object_tells d r s m g p n below
object_tells d r s m (structs g p n q k) there below = structs_tell d r s m g p n q k below

-- ---- a place

-- What is written of a place whose pointer isn't null.
read_shown : (d : ℕ) (r : Reading) (s : Shown) (o : Result Shape ErrorKind) (m : Meter) → nat_eq (word_of r) 0 ≡ false → read Value r s.lim ≡ (o, m) → show_within d r s ≡ show_result (array_within d) r (o, m) (add (codes "{") s)
read_shown d r s o m some e = ap (λ (c : Bool). if c then add (codes "null") s else show_result (array_within d) r (read Value r s.lim) (add (codes "{") s)) some ∙ ap (λ x. show_result (array_within d) r x (add (codes "{") s)) e

place_tells : (d : ℕ) (r : Reading) (s : Shown) → (0 < r.levels → (e : ℕ) → d ≡ suc e → Below e r) → Tells d s (value plain r s.lim) (show_within d r s)
place_tells d r s below = elim (same_or_not (word_of r) 0) [
  | inl none ↦
      let null : nat_eq (word_of r) 0 ≡ true = eq-eqb _ _ none in
      let read_null = leaf_is plain r.levels r s.lim s.lim nothing (Ok Null, s.lim) (null_is Value r s.lim none) (λ f at. refl) in
      subst (λ (o : Outcome Tree). Tells d s o (show_within d r s)) (sym read_null) (λ deep. rw null refl)
  | inr some ↦ go (ne_eqb _ _ some) (ends Value r s.lim some)
]
  where
    go : nat_eq (word_of r) 0 ≡ false → Ends Value r s.lim → Tells d s (value plain r s.lim) (show_within d r s)
    go some (at_capability a f low covered) =
        let o : Shape = capability (upper_half a.word) in
        let m1 : Meter = after_charge r.charging s.lim a.pads 1 in
        let e = capability_is Value r a s.lim (λ e. absurd (cc e)) f low covered in
        let whole = leaf_is plain r.levels r s.lim m1 o (Ok (Capability (upper_half a.word)), m1) e (λ f at. refl) in
        subst (λ (o : Outcome Tree). Tells d s o (show_within d r s)) (sym whole)
        (λ deep. read_shown d r s (Ok o) m1 some e ∙ ap (λ xs. record s { text = xs; lim = m1 }) (one_text s.text (member (codes "capability") (decimal (upper_half a.word)))))
    go some (at_object a m1 o) =
        let e = entering_is Value r s.lim m1 a o in
        let whole = value_is plain r.levels r s.lim m1 (shape r.segments a) e o.meets.levels in
        subst (λ (y : Outcome Tree). Tells d s y (show_within d r s)) (sym whole)
        (subst (Tells d s (contents r (shape r.segments a) m1)) (sym (read_shown d r s (Ok (shape r.segments a)) m1 some e)) (object_tells d r s m1 (shape r.segments a) (shape_there r.segments a) (below o.meets.levels)))
    go some (refused k m1 stopped) =
        let whole = refusal_is plain r.levels r s.lim m1 k (stopped_is Value r s.lim m1 k (λ e. absurd (cc e)) stopped) in
        subst (λ (y : Outcome Tree). Tells d s y (show_within d r s)) (sym whole) tt

tells : (n d : ℕ) (r : Reading) (s : Shown) → r.levels ≡ n → Tells d s (value plain r s.lim) (show_within d r s)
tells zero d r s e = place_tells d r s (λ some. absurd (omega (arith, some, e)))
tells (suc n) d r s e = place_tells d r s (λ some b is g p y. tells n b (inside r g p) y (ap pred e))

-- The element of a list of structs at a place is shown as the struct that it is.
pub element_told : (d : ℕ) (r : Reading) (n q : ℕ) (s : Shown) (m : Meter) (ts : Trees) → read_values (value_within plain r.levels) q (place_past r n) s.lim ≡ (Ok ts, m) → 1 + depth_all ts ≤ d →
    show_struct (array_within d) n q r (add (codes "{") s) ≡ record { text = s.text ++ value_line (Struct (words_from r n) ts); lim = m; sound = s.sound }
unfolding array_within
element_told zero r n q s m ts e deep = absurd (omega arith)
element_told (suc d) r n q s m ts e deep =
    subst (λ (o : Outcome Trees). StructTells d (words_from r n) s o (show_struct (show_array (show_within d)) n q r (add (codes "{") s))) e
    (struct_tells (value_within plain r.levels) (show_within d) d r (λ p y. tells r.levels d (record r { at = p }) y refl) n q r.at s) (omega (arith, deep))

-- The line that is written of a value that is read.
pub value_told : (d : ℕ) (r : Reading) (s : Shown) (m : Meter) (t : Tree) → value plain r s.lim ≡ (Ok t, m) → depth t ≤ d → show_within d r s ≡ record { text = s.text ++ value_line t; lim = m; sound = s.sound }
value_told d r s m t e deep = subst (λ (o : Outcome Tree). Tells d s o (show_within d r s)) e (tells r.levels d r s refl) deep
