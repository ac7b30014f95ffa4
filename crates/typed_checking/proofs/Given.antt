-- The kind that the members say is the one that is wanted.
use Rattle.std.proofs.Common.{◌≡◌, ◌↔◌, ℕ, zero, suc, ◌+◌, ◌*◌, ◌/◌, Bool, true, false, nat_eq, if◌then◌else◌, List, [], ◌∷◌, length, Option, Some, None, refl, ap, subst, ◌∙◌}
use Rattle.std.proofs.lemmas.Bool.{eqb-true}
use Rattle.std.specs.Prelude.{slice_index}
use Rattle.capnp_format.specs.Fields.{field_in}
use Rattle.typed_conforming.specs.declared.schema.Kind.{Kind}
use Rattle.typed_conforming.specs.Tables.{elements_wanted, is_set, kind_word, names_test, tested_kind, wanted, word_kind}
use Rattle.capnp_words.specs.declared.wire_pointer.ElementSize.{ElementSize}
use Rattle.typed_checking.specs.declared.schema.Member.{Member}
use Rattle.typed_checking.specs.Given.{AreSet, kind_if_set, given_elements, given_kind, given_number}

-- The first member, or a later one, has the tag at o.
number_of_first : (m : Member) (ws : List ℕ) (o number : ℕ) (rest : Option ℕ) → field_in ws (16 * m.0) 16 ≡ m.1 → (rest ≡ Some number → field_in ws (16 * o) 16 ≡ number) → (if nat_eq m.0 o then Some m.1 else rest) ≡ Some number → field_in ws (16 * o) 16 ≡ number
number_of_first m ws o number rest set later e = go (nat_eq m.0 o) refl e
  where
    go : (b : Bool) → nat_eq m.0 o ≡ b → (if b then Some m.1 else rest) ≡ Some number → field_in ws (16 * o) 16 ≡ number
    go true same e =
        let there : m.0 ≡ o = eqb-true _ _ same in
        let value : m.1 ≡ number = cc e in
        subst (λ x. field_in ws (16 * x) 16 ≡ number) there (set ∙ value)
    go false other e = later e

-- The tag at o has the number that the members say.
number_is : (ms : List Member) (ws : List ℕ) (o number : ℕ) → AreSet ms ws → given_number ms o ≡ Some number → field_in ws (16 * o) 16 ≡ number
number_is [] ws o number set e = absurd (cc e)
number_is (m ∷ []) ws o number set e = number_of_first m ws o number None set (λ e. absurd (cc e)) e
number_is (m ∷ n ∷ ms) ws o number set e = number_of_first m ws o number (given_number (n ∷ ms) o) set.0 (number_is (n ∷ ms) ws o number set.1) e

-- One test.
followed : (T : List ℕ) (ms : List Member) (ws : List ℕ) (p w : ℕ) (k : Kind) (gy gn : Option Kind) (ty tn : Kind) → AreSet ms ws → (gy ≡ Some k → ty ≡ k) → (gn ≡ Some k → tn ≡ k) → elim (names_test p w) [ false ↦ Some (word_kind w) | true ↦ elim (given_number ms (slice_index T (w / 16))) [ None ↦ None | Some number ↦ elim (nat_eq number (slice_index T (w / 16 + 1))) [ true ↦ gy | false ↦ gn ] ] ] ≡ Some k → elim (names_test p w) [ false ↦ word_kind w | true ↦ elim (is_set T ws (w / 16)) [ true ↦ ty | false ↦ tn ] ] ≡ k
followed T ms ws p w k gy gn ty tn set holds fails e = named (names_test p w) e
  where
    branch : (b : Bool) → elim b [ true ↦ gy | false ↦ gn ] ≡ Some k → elim b [ true ↦ ty | false ↦ tn ] ≡ k
    branch true e = holds e
    branch false e = fails e

    numbered : (x : Option ℕ) → given_number ms (slice_index T (w / 16)) ≡ x → elim x [ None ↦ None | Some number ↦ elim (nat_eq number (slice_index T (w / 16 + 1))) [ true ↦ gy | false ↦ gn ] ] ≡ Some k → elim (is_set T ws (w / 16)) [ true ↦ ty | false ↦ tn ] ≡ k
    numbered None is e = absurd (cc e)
    numbered (Some number) is e = rw (number_is ms ws (slice_index T (w / 16)) number set is) (branch (nat_eq number (slice_index T (w / 16 + 1))) e)

    named : (b : Bool) → elim b [ false ↦ Some (word_kind w) | true ↦ elim (given_number ms (slice_index T (w / 16))) [ None ↦ None | Some number ↦ elim (nat_eq number (slice_index T (w / 16 + 1))) [ true ↦ gy | false ↦ gn ] ] ] ≡ Some k → elim b [ false ↦ word_kind w | true ↦ elim (is_set T ws (w / 16)) [ true ↦ ty | false ↦ tn ] ] ≡ k
    named false e = cc e
    named true e = numbered (given_number ms (slice_index T (w / 16))) refl e

kind_is : (T : List ℕ) (ms : List Member) (ws : List ℕ) (n p w : ℕ) (k : Kind) → AreSet ms ws → given_kind T ms n p w ≡ Some k → tested_kind T ws n p w ≡ k
kind_is T ms ws zero p w k set e = cc e
kind_is T ms ws (suc n) p w k set e = followed T ms ws p w k _ _ _ _ set (kind_is T ms ws n (suc (w / 16)) (slice_index T (w / 16 + 2)) k set) (kind_is T ms ws n (suc (w / 16)) (slice_index T (w / 16 + 3)) k set) e

pub wanted_given : (T : List ℕ) (row : ℕ) (ms : List Member) (ws : List ℕ) (i : ℕ) (k : Kind) → AreSet ms ws → kind_if_set T row ms i ≡ Some k → wanted T row ws i ≡ k
wanted_given [] row ms ws i k set e = cc e
wanted_given (w ∷ T) row ms ws i k set e = kind_is (w ∷ T) ms ws (length (w ∷ T)) 0 (kind_word (w ∷ T) row i) k set e

-- The first of several members that are set, and the others.
pub first_set : (m : Member) (ms : List Member) (ws : List ℕ) → AreSet (m ∷ ms) ws → field_in ws (16 * m.0) 16 ≡ m.1
first_set m [] ws set = set
first_set m (n ∷ ms) ws set = set.0

pub rest_set : (m : Member) (ms : List Member) (ws : List ℕ) → field_in ws (16 * m.0) 16 ≡ m.1 → (AreSet ms ws ↔ AreSet (m ∷ ms) ws)
rest_set m [] ws first = (λ set. first, λ set. tt)
rest_set m (n ∷ ms) ws first = (λ set. (first, set), λ set. set.1)

pub elements_given : (T : List ℕ) (row : ℕ) (ms : List Member) (ws : List ℕ) (i : ℕ) (size : ElementSize) → AreSet ms ws → given_elements (kind_if_set T row ms i) ≡ Some size → elements_wanted (wanted T row ws i) ≡ Some size
elements_given T row ms ws i size set e = go (kind_if_set T row ms i) refl e
  where
    go : (x : Option Kind) → kind_if_set T row ms i ≡ x → given_elements x ≡ Some size → elements_wanted (wanted T row ws i) ≡ Some size
    go None is e = absurd (cc e)
    go (Some k) is e = ap elements_wanted (wanted_given T row ms ws i k set is) ∙ e
