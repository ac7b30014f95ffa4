-- Following the tests of a table: the kind doesn't change on the way.
use Rattle.std.proofs.Common.{◌≡◌, ℕ, zero, suc, ◌+◌, ◌/◌, ◌%◌, ◌<◌, ◌≤◌, Bool, true, false, nat_eq, nat_le, nat_lt, if◌then◌else◌, List, [], ◌∷◌, length, take, drop, refl, sym, ap, ◌∙◌, arith, eq-eqb, ltb-true}
use Rattle.std.proofs.lemmas.Bool.{le-leb, lt-leb, ltb-false, ne_eqb}
use Rattle.std.proofs.lemmas.List.{get_or_past, get_or-take, get_or-drop, length-take}
use Rattle.std.specs.Prelude.{slice_index}
use Rattle.typed_conforming.specs.declared.schema.Kind.{Kind}
use Rattle.typed_conforming.specs.declared.schema.Kind.TheVariants.{Any}
use Rattle.typed_conforming.specs.Tables.{is_set, kind_word, names_test, next_word, tested_kind, wanted, word_kind}

-- What the kind is if a word names a test, or doesn't.
abbrev by_name : List ℕ → List ℕ → ℕ → ℕ → Bool → Kind
by_name T ws n w false = word_kind w
by_name T ws n w true = elim (is_set T ws (w / 16)) [ true ↦ tested_kind T ws n (suc (w / 16)) (slice_index T (w / 16 + 2)) | false ↦ tested_kind T ws n (suc (w / 16)) (slice_index T (w / 16 + 3)) ]

named : (T ws : List ℕ) (n p w : ℕ) (b : Bool) → names_test p w ≡ b → tested_kind T ws (suc n) p w ≡ by_name T ws n w b
named T ws n p w b e = same (names_test p w) ∙ ap (by_name T ws n w) e
  where
    same : (c : Bool) → elim c [ false ↦ word_kind w | true ↦ elim (is_set T ws (w / 16)) [ true ↦ tested_kind T ws n (suc (w / 16)) (slice_index T (w / 16 + 2)) | false ↦ tested_kind T ws n (suc (w / 16)) (slice_index T (w / 16 + 3)) ] ] ≡ by_name T ws n w c
    same true = refl
    same false = refl

tests : (p w : ℕ) → w % 16 ≡ 7 → p ≤ w / 16 → names_test p w ≡ true
tests p w seven after = let tag : nat_eq (w % 16) 7 ≡ true = eq-eqb _ _ seven in let there : nat_le p (w / 16) ≡ true = le-leb _ _ after in rw (tag, there) refl

-- A word that names no test, or one that isn't followed.
stops : (T ws : List ℕ) (n p w : ℕ) → names_test p w ≡ false → word_kind w ≡ tested_kind T ws n p w
stops T ws zero p w h = refl
stops T ws (suc n) p w h = sym (named T ws n p w false h)

pub no_test : (T ws : List ℕ) (n p w : ℕ) → (w % 16 ≡ 7 → ⊥) → word_kind w ≡ tested_kind T ws n p w
no_test T ws n p w other = stops T ws n p w (let no : nat_eq (w % 16) 7 ≡ false = ne_eqb _ _ other in rw no refl)

-- A test that is further in front.
pub backward : (T ws : List ℕ) (n p w : ℕ) → w % 16 ≡ 7 → w / 16 < p → Any ≡ tested_kind T ws n p w
backward T ws n p w seven back =
    let tag : nat_eq (w % 16) 7 ≡ true = eq-eqb _ _ seven in
    let before : nat_le p (w / 16) ≡ false = lt-leb _ _ back in
    let any : Any ≡ word_kind w = rw seven refl in
    any ∙ stops T ws n p w (rw (tag, before) refl)

-- A test past the end of the table.
either : (b : Bool) (x y : Kind) → Any ≡ x → Any ≡ y → Any ≡ elim b [ true ↦ x | false ↦ y ]
either true x y f g = f
either false x y f g = g

past_word : (T ws : List ℕ) (n p i : ℕ) → length T ≤ i → Any ≡ tested_kind T ws n p (slice_index T i)
past_word T ws n p i past = stops T ws n p 0 refl ∙ ap (tested_kind T ws n p) (sym (get_or_past T i 0 past))

pub outside : (T ws : List ℕ) (n p w : ℕ) → w % 16 ≡ 7 → length T ≤ w / 16 → Any ≡ tested_kind T ws n p w
outside T ws zero p w seven past = rw seven refl
outside T ws (suc n) p w seven past = go (names_test p w) refl
  where
    go : (b : Bool) → names_test p w ≡ b → Any ≡ tested_kind T ws (suc n) p w
    go false e = (let any : Any ≡ word_kind w = rw seven refl in any) ∙ stops T ws (suc n) p w e
    go true e = either (is_set T ws (w / 16)) _ _ (past_word T ws n (suc (w / 16)) (w / 16 + 2) (omega arith)) (past_word T ws n (suc (w / 16)) (w / 16 + 3) (omega arith)) ∙ sym (named T ws n p w true e)

-- A test that is followed. There are as many tests left to follow as words of the table from
-- position p on, or more.
pub record IsFollowed (T ws : List ℕ) (start p w : ℕ) : Type 0 where
  pub tests : ℕ
  pub enough : length T ≤ p + tests
  pub same : tested_kind T ws (length T) 0 start ≡ tested_kind T ws tests p w

pick : (b : Bool) (f : ℕ → Kind) (x y : ℕ) → elim b [ true ↦ f x | false ↦ f y ] ≡ f (if b then x else y)
pick true f x y = refl
pick false f x y = refl

pub follow : (T ws : List ℕ) (start p w : ℕ) → w % 16 ≡ 7 → p ≤ w / 16 → w / 16 < length T → IsFollowed T ws start p w → IsFollowed T ws start (w / 16 + 1) (next_word T ws (w / 16))
follow T ws start p w seven after inside from = go from.tests from.enough from.same
  where
    go : (n : ℕ) → length T ≤ p + n → tested_kind T ws (length T) 0 start ≡ tested_kind T ws n p w → IsFollowed T ws start (w / 16 + 1) (next_word T ws (w / 16))
    go zero enough same = absurd (omega arith)
    go (suc n) enough same =
        let next : suc (w / 16) ≡ w / 16 + 1 = omega arith in
        let step : tested_kind T ws (suc n) p w ≡ tested_kind T ws n (suc (w / 16)) (next_word T ws (w / 16)) = named T ws n p w true (tests p w seven after) ∙ pick (is_set T ws (w / 16)) (tested_kind T ws n (suc (w / 16))) (slice_index T (w / 16 + 2)) (slice_index T (w / 16 + 3)) in
        record { tests = n; enough = omega arith; same = same ∙ step ∙ ap (λ q. tested_kind T ws n q (next_word T ws (w / 16))) next }

pub at_start : (T ws : List ℕ) (w : ℕ) → IsFollowed T ws w 0 w
at_start T ws w = record { tests = length T; enough = omega arith; same = refl }

-- What a pointer may lead to, in an empty table, too.
pub wanted_is : (T : List ℕ) (row : ℕ) (ws : List ℕ) (i : ℕ) → tested_kind T ws (length T) 0 (kind_word T row i) ≡ wanted T row ws i
wanted_is [] row ws i = go (nat_lt i 0)
  where
    go : (b : Bool) → word_kind (if b then 0 else 0) ≡ Any
    go true = refl
    go false = refl
wanted_is (w ∷ T) row ws i = refl

-- The kind words of a row: n words after its first. It has no more, or the table has no more.
pub kinds_are : (T : List ℕ) (row n : ℕ) → n ≤ slice_index T row → (n < slice_index T row → length T ≤ row + 1 + n) → (i : ℕ) → slice_index (take n (drop (row + 1) T)) i ≡ kind_word T row i
kinds_are T row n few all i = go (nat_lt i n) refl (nat_lt i (slice_index T row)) refl
  where
    go : (a : Bool) → nat_lt i n ≡ a → (b : Bool) → nat_lt i (slice_index T row) ≡ b → slice_index (take n (drop (row + 1) T)) i ≡ kind_word T row i
    go true a true b = rw b (get_or-take n (drop (row + 1) T) i 0 (ltb-true i n a) ∙ get_or-drop (row + 1) T i 0)
    go true a false b = let below = ltb-true i n a in let past = ltb-false i (slice_index T row) b in absurd (omega (arith, few))
    go false a true b =
        let past = ltb-false i n a in
        let below = ltb-true i (slice_index T row) b in
        let long = all (omega arith) in
        rw b (get_or_past (take n (drop (row + 1) T)) i 0 (omega (arith, length-take n (drop (row + 1) T))) ∙ sym (get_or_past T (row + 1 + i) 0 (omega arith)))
    go false a false b = let past = ltb-false i n a in rw b (get_or_past (take n (drop (row + 1) T)) i 0 (omega (arith, length-take n (drop (row + 1) T))))

-- A row past the table's end has none.
pub no_kinds : (T : List ℕ) (row : ℕ) → length T ≤ row → (i : ℕ) → 0 ≡ kind_word T row i
no_kinds T row past i = rw (get_or_past T row 0 past) (go (nat_lt i 0))
  where
    go : (b : Bool) → 0 ≡ (if b then slice_index T (row + 1 + i) else 0)
    go true = sym (get_or_past T (row + 1 + i) 0 (omega (arith, past)))
    go false = refl
