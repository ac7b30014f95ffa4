-- Which list a value is, and what it becomes.
use Rattle.std.proofs.Common.{Err, IfErr, List, None, Ok, OnErr, Option, Result, Some, [], ap, ap₂, arith, cond, false, length, max, nat_le, nat_lt, refl, subst, suc, sym, true, zero, ℕ, ◌&&◌, ◌*◌, ◌+◌, ◌<◌, ◌^◌, ◌∙◌, ◌∷◌, ◌≡◌, ◌≤◌}
use Rattle.std.proofs.lemmas.Bool.Decides.{nat_tests}
use Rattle.capnp_words.specs.declared.error.ErrorKind.{ErrorKind}
use Rattle.capnp_words.specs.declared.error.ErrorKind.TheVariants.{MessageTooLarge}
use Rattle.capnp_format.specs.Segments.{Segments, Target}
use Rattle.capnp_format.specs.Tree.{Capability, Elements, Flat, Null, Pointers, Struct, Structs, Tree, Trees, count, element, element_count, no_elements, no_trees, tree}
use Rattle.capnp_format.specs.Means.{Means, MeansElements}
use Rattle.capnp_format.specs.Forest.{target}
use Rattle.capnp_words.specs.Sizes.{size_number}
use Rattle.capnp_words.specs.declared.wire_pointer.ElementSize.{ElementSize}
use Rattle.capnp_words.specs.declared.wire_pointer.ElementSize.TheVariants.{Bit, Byte, EightBytes, FourBytes, InlineComposite, Pointer, TwoBytes, Void}
use Rattle.capnp_in_place.specs.declared.existing.ExistingList.{ExistingList}
use Rattle.capnp_in_place.specs.Existing.{list_in, plain_list, plain_misfit, size_of, struct_list, unless}
use Rattle.capnp_allocation.specs.Stored.{IsStored}
use Rattle.capnp_in_place.specs.Widened.{fill_elements, fill_trees, fill_words, limited, list_widened, struct_for_each, struct_for_each_tree}
use Rattle.capnp_in_place.proofs.WiderObjects.FilledToSize.{greater_trees, greater_words}
use Rattle.capnp_in_place.specs.RowsRemade.{IsList, as_structs}
use Rattle.capnp_words.specs.declared.wire_pointer.StructSize.{StructSize}
use Rattle.capnp_allocation.specs.Made.{nulls, words_of_zero}

pub same_list : (x y : ExistingList) → ◌≡◌ {A = Result (Option ExistingList) ErrorKind} (Ok (Some x)) (Ok (Some y)) → x ≡ y
same_list x y e = cc

pub same_tree : (x y : Tree) → ◌≡◌ {A = Result Tree ErrorKind} (Ok x) (Ok y) → x ≡ y
same_tree x y e = cc

pub no_list : (y : ExistingList) → ◌≡◌ {A = Result (Option ExistingList) ErrorKind} (Ok None) (Ok (Some y)) → ⊥
no_list y e = cc

pub not_a_list : (k : ErrorKind) (y : ExistingList) → ◌≡◌ {A = Result (Option ExistingList) ErrorKind} (Err k) (Ok (Some y)) → ⊥
not_a_list k y e = cc

-- If elements without width are expected, each list that isn't one of structs is found.
pub void_fits : (s : ElementSize) → plain_misfit Void s ≡ None
void_fits Void = refl
void_fits Bit = refl
void_fits Byte = refl
void_fits TwoBytes = refl
void_fits FourBytes = refl
void_fits EightBytes = refl
void_fits Pointer = refl
void_fits InlineComposite = refl

pub flat_found : (a : Target) (w : ℕ) (ns : List ℕ) (l : ExistingList) → list_in a Void (Flat w ns) ≡ Ok (Some l) → plain_list a (size_of w) (length ns) ≡ l
flat_found a w ns l e = same_list _ l (sym (ap (λ o. unless o (plain_list a (size_of w) (length ns))) (void_fits (size_of w))) ∙ e)

pub number_of_size : (w : ℕ) → w ≤ 5 → size_number (size_of w) ≡ w
number_of_size zero l = refl
number_of_size (suc zero) l = refl
number_of_size (suc (suc zero)) l = refl
number_of_size (suc (suc (suc zero))) l = refl
number_of_size (suc (suc (suc (suc zero)))) l = refl
number_of_size (suc (suc (suc (suc (suc zero))))) l = refl
number_of_size (suc (suc (suc (suc (suc (suc w)))))) l = absurd (omega arith)

pub flat_width : (S : Segments) (s p w : ℕ) (ns : List ℕ) → IsStored S s p (Flat w ns) → w ≤ 5
flat_width S s p w ns x = at_level x.means.0 x.means.1 x.means.2
  where
    at_level : (n c : ℕ) → Means S n s p (Flat w ns) c → w ≤ 5
    at_level n c (a, some, small, o, claim, e, g) = small

-- What holds of each kind of list at its place holds of the list l that is found there.
pub by_list : (S : Segments) (s p : ℕ) (l : ExistingList) (P : Tree → ExistingList → Type 0) → ((w : ℕ) (ns : List ℕ) → IsStored S s p (Flat w ns) → P (Flat w ns) (plain_list (target S s p) (size_of w) (length ns))) →
    ((ts : Trees) → IsStored S s p (Pointers ts) → P (Pointers ts) (plain_list (target S s p) Pointer (count ts))) →
    ((d k : ℕ) (es : Elements) → IsStored S s p (Structs d k es) → P (Structs d k es) (struct_list (target S s p) d k (element_count es))) → (t : Tree) → IsList S s p l t → P t l
by_list S s p l P flat pointers structs t i = go t i.0 i.1
  where
    go : (u : Tree) → IsStored S s p u → list_in (target S s p) Void u ≡ Ok (Some l) → P u l
    go (Flat w ns) x e = subst (P (Flat w ns)) (flat_found (target S s p) w ns l e) (flat w ns x)
    go (Pointers ts) x e = subst (P (Pointers ts)) (same_list (plain_list (target S s p) Pointer (count ts)) l e) (pointers ts x)
    go (Structs d k es) x e = subst (P (Structs d k es)) (same_list (struct_list (target S s p) d k (element_count es)) l e) (structs d k es x)
    go Null x e = absurd (no_list l e)
    go (Capability n) x e = absurd (not_a_list _ l e)
    go (Struct ws ts) x e = absurd (not_a_list _ l e)

-- How many words the structs may take.

pub few_enough : (n : ℕ) (t : Tree) → n < 2 ^ 29 → limited n t ≡ Ok t
few_enough n t l = ap (λ b. cond b (Ok t) (Err (MessageTooLarge n))) (let e : nat_lt n (2 ^ 29) ≡ true = grind (arith, nat_tests) in e)

pub too_many : (n : ℕ) (t : Tree) → 2 ^ 29 ≤ n → limited n t ≡ Err (MessageTooLarge n)
too_many n t l = ap (λ b. cond b (Ok t) (Err (MessageTooLarge n))) (let e : nat_lt n (2 ^ 29) ≡ false = grind (arith, nat_tests) in e)

-- A list of structs.

filled_alike : (S : Segments) (n s p d k : ℕ) (es : Elements) (c e f : ℕ) → MeansElements S n s p d k es c → fill_elements (max d e) (max k f) es ≡ fill_elements e f es
filled_alike S n s p d k no_elements c e f m = refl
filled_alike S n s p d k (element ws ts es) c e f (a, b, long, len, words, all, rest, g) =
    ap (λ xs. element xs (fill_trees (max k f) ts) (fill_elements (max d e) (max k f) es)) (ap (λ i. fill_words (max i e) ws) (sym long) ∙ greater_words e ws)
    ∙ ap (λ us. element (fill_words e ws) us (fill_elements (max d e) (max k f) es)) (ap (λ i. fill_trees (max i f) ts) (sym len) ∙ greater_trees f ts)
    ∙ ap (λ fs. element (fill_words e ws) (fill_trees f ts) fs) (filled_alike S n s (p + d + k) d k es b e f rest)

pub filled_to_greater : (S : Segments) (s p d k : ℕ) (es : Elements) (e f : ℕ) → IsStored S s p (Structs d k es) → fill_elements (max d e) (max k f) es ≡ fill_elements e f es
filled_to_greater S s p d k es e f x = at_level x.means.0 x.means.1 x.means.2
  where
    at_level : (n c : ℕ) → Means S n s p (Structs d k es) c → fill_elements (max d e) (max k f) es ≡ fill_elements e f es
    at_level n c (a, m, l, some, o, claim, tag, fits, all, g) = filled_alike S _ a.segment (a.start + 1) d k es l e f all

wide_test : (d e q k : ℕ) → d ≤ e → q ≤ k → (nat_le d e && nat_le q k) ≡ true
wide_test d e q k l m = grind (arith, nat_tests)

narrow_test : (d e q k : ℕ) → (d ≤ e → q ≤ k → ⊥) → (nat_le d e && nat_le q k) ≡ false
narrow_test d e q k h = grind (arith, nat_tests)

pub structs_stay : (d q e k : ℕ) (es : Elements) → d ≤ e → q ≤ k → list_widened d q (Structs e k es) ≡ Ok (Structs e k es)
structs_stay d q e k es l m =
    ap (λ b. cond b (Ok (Structs e k es)) (limited (element_count es * (max e d + max k q)) (Structs (max e d) (max k q) (fill_elements d q es)))) (wide_test d e q k l m)

pub structs_widen : (d q e k : ℕ) (es : Elements) → (d ≤ e → q ≤ k → ⊥) → list_widened d q (Structs e k es) ≡ limited (element_count es * (max e d + max k q)) (Structs (max e d) (max k q) (fill_elements d q es))
structs_widen d q e k es h =
    ap (λ b. cond b (Ok (Structs e k es)) (limited (element_count es * (max e d + max k q)) (Structs (max e d) (max k q) (fill_elements d q es)))) (narrow_test d e q k h)

pub err_both : {A E : Type 0} (r : Result A E) (P : Type 0) (Q : E → Type 0) → OnErr r P → IfErr r Q → IfErr r (λ k. Q k × P)
err_both (Ok x) P Q h g = tt
err_both (Err k) P Q h g = (g, h)

pub if_err_both : {A E : Type 0} (r : Result A E) (P Q W : E → Type 0) → IfErr r P → IfErr r Q → ((k : E) → P k → Q k → W k) → IfErr r W
if_err_both (Ok x) P Q W h g f = tt
if_err_both (Err k) P Q W h g f = f k h g

pub same_refusal : (j k : ErrorKind) (r : Result Tree ErrorKind) → r ≡ Err j → r ≡ Err k → j ≡ k
same_refusal j k r e f = cc

pub never_refused : (u : Tree) (k : ErrorKind) (r : Result Tree ErrorKind) → r ≡ Ok u → r ≡ Err k → ⊥
never_refused u k r e f = cc

pub first_pointers : (d k : ℕ) (ts : Trees) → struct_for_each_tree d (max 1 k) ts ≡ struct_for_each_tree d k ts
first_pointers d k no_trees = refl
first_pointers d k (tree t ts) =
    ap₂ (λ us es. element (words_of_zero d) us es) (greater_trees k (tree t no_trees)) (first_pointers d k ts)

-- A list of numbers, or of void.

pub record AreNumbers (S : Segments) (s p : ℕ) (t : Tree) (l : ExistingList) : Type 0 where
  pub numbers : List ℕ
  pub tree_of : t ≡ Flat (size_number l.size) numbers
  pub list : l ≡ plain_list (target S s p) l.size (length numbers)

pub are_numbers : (S : Segments) (s p : ℕ) (t : Tree) (l : ExistingList) → size_number l.size ≤ 5 → IsList S s p l t → AreNumbers S s p t l
are_numbers S s p t l is i =
    by_list S s p l (λ u o. size_number o.size ≤ 5 → AreNumbers S s p u o)
    (λ w ns x five. record { numbers = ns; tree_of = ap (λ v. Flat v ns) (sym (number_of_size w (flat_width S s p w ns x))); list = refl }) (λ ts x five. absurd (omega arith)) (λ d k es x five. absurd (omega arith)) t i is

pub first_numbers : (d k : ℕ) (ns : List ℕ) → struct_for_each (max 1 d) k ns ≡ struct_for_each d k ns
first_numbers d k [] = refl
first_numbers d k (x ∷ xs) = ap₂ (λ ws es. element ws (nulls k) es) (greater_words d (x ∷ [])) (first_numbers d k xs)

-- Numbers that are as wide as bytes or wider.
pub numbers_limited : (d q w : ℕ) (ns : List ℕ) → 2 ≤ w → list_widened d q (Flat w ns) ≡ limited (length ns * (max 1 d + q)) (Structs (max 1 d) q (struct_for_each d q ns))
numbers_limited d q zero ns l = absurd (omega arith)
numbers_limited d q (suc zero) ns l = absurd (omega arith)
numbers_limited d q (suc (suc w)) ns l = refl

pub numbers_as_structs : (size : StructSize) (w : ℕ) (ns : List ℕ) → 2 ≤ w → as_structs size (Flat w ns) ≡ Structs size.data_words size.pointers (struct_for_each size.data_words size.pointers ns)
numbers_as_structs size zero ns l = absurd (omega arith)
numbers_as_structs size (suc w) ns l = refl
