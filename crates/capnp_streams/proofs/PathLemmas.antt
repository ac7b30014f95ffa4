-- The text of a path, index by index.
use native.Mathlib.Numerals.{unary_clauses}
use Rattle.std.proofs.Common.{◌≡◌, ◌∙◌, ℕ, ◌+◌, ◌^◌, ◌<◌, ◌≤◌, min, List, [], ◌∷◌, ◌++◌, Bool, true, false, ◌&&◌, Option, Some, None, length, map, ap, ap₂, refl, sym, subst, arith, append-nil, append_assoc, take, drop, length-drop}
use Rattle.std.specs.List.{after_first, before_first, position_or_len}
use Rattle.std.specs.Prelude.{IfSome, IsNone, if◌then◌else◌, nat_lt, slice_set}
use Rattle.std.specs.Str.Parse.{digits_value}
use Rattle.std.proofs.lemmas.Bool.{lt-ltb, ltb-true}
use Rattle.std.proofs.lemmas.Grind.{take-set_at}
use Rattle.std.proofs.lemmas.List.{length-set}
use Rattle.capnp_streams.specs.Paths.{IsIndex, index_of, is_dot, is_numeral, longer_path, no_path, number_of_index, parts_between_dots, path_indexes, path_of, path_on, path_with, path_with_parts, with_byte_in_front}
use Rattle.capnp_streams.specs.declared.streams.path.Path.{Path}
use Rattle.capnp_streams.proofs.ArgumentLemmas.{both_true, chosen_none, is_numeral_true, numeral_by_test}

-- the first part of a text, and those after the first dot
at_dot_by : (b : ℕ) (text : List ℕ) →
    (position_or_len is_dot text < length text → parts_between_dots text ≡ before_first is_dot text ∷ parts_between_dots (after_first is_dot text)) →
    (d : Bool) → is_dot b ≡ d → position_or_len is_dot (b ∷ text) < length (b ∷ text) →
    parts_between_dots (b ∷ text) ≡ before_first is_dot (b ∷ text) ∷ parts_between_dots (after_first is_dot (b ∷ text))
at_dot_by b text rest true is less = rw is refl
at_dot_by b text rest false is less =
    let more : position_or_len is_dot text < length text = grind (arith, is, less) in
    let front : take (position_or_len is_dot text + 1) (b ∷ text) ≡ b ∷ before_first is_dot text = simp unary_clauses refl in
    let behind : drop (position_or_len is_dot text + 1 + 1) (b ∷ text) ≡ after_first is_dot text = simp unary_clauses refl in
    let one : position_or_len is_dot (b ∷ text) ≡ position_or_len is_dot text + 1 = grind (arith, is) in
    let parted : with_byte_in_front b (parts_between_dots text) ≡ (b ∷ before_first is_dot text) ∷ parts_between_dots (after_first is_dot text) =
    ap (with_byte_in_front b) (rest more) in
    let whole : parts_between_dots (b ∷ text) ≡ (b ∷ before_first is_dot text) ∷ parts_between_dots (after_first is_dot text) = rw is parted in
    let first : before_first is_dot (b ∷ text) ≡ b ∷ before_first is_dot text =
    ap (λ (n : ℕ). take n (b ∷ text)) one ∙ front in
    let last : after_first is_dot (b ∷ text) ≡ after_first is_dot text =
    ap (λ (n : ℕ). drop (n + 1) (b ∷ text)) one ∙ behind in
    whole ∙ sym (ap₂ (λ (x : List ℕ) (y : List ℕ). x ∷ parts_between_dots y) first last)

parts_at_dot : (text : List ℕ) → position_or_len is_dot text < length text →
    parts_between_dots text ≡ before_first is_dot text ∷ parts_between_dots (after_first is_dot text)
parts_at_dot [] less = absurd (omega (arith, less))
parts_at_dot (b ∷ text) less = at_dot_by b text (parts_at_dot text) (is_dot b) refl less

-- a text without a dot is one part
one_part_by : (b : ℕ) (text : List ℕ) → (position_or_len is_dot text ≡ length text → parts_between_dots text ≡ text ∷ []) →
    (d : Bool) → is_dot b ≡ d → position_or_len is_dot (b ∷ text) ≡ length (b ∷ text) → parts_between_dots (b ∷ text) ≡ (b ∷ text) ∷ []
one_part_by b text rest true is none = absurd (grind (arith, is, none))
one_part_by b text rest false is none =
    let more : position_or_len is_dot text ≡ length text = grind (arith, is, none) in
    rw is (ap (with_byte_in_front b) (rest more))

parts_of_one : (text : List ℕ) → position_or_len is_dot text ≡ length text → parts_between_dots text ≡ text ∷ []
parts_of_one [] none = refl
parts_of_one (b ∷ text) none = one_part_by b text (parts_of_one text) (is_dot b) refl none

-- the path of a text, part by part
pub parsed_on : (path : Path) (rest first more : List ℕ) {longer : Path} {whole : Option Path} →
    path_with_parts path (parts_between_dots rest) ≡ whole →
    (position_or_len is_dot rest < length rest) × (first ≡ before_first is_dot rest) × (more ≡ after_first is_dot rest) →
    Some longer ≡ path_with (index_of first) path → path_with_parts longer (parts_between_dots more) ≡ whole
parsed_on path rest first more {longer} {whole} all (less, front, behind) made =
    let parted : parts_between_dots rest ≡ first ∷ parts_between_dots more = parts_at_dot rest less ∙ rw (front, behind) refl in
    let step : path_with_parts path (first ∷ parts_between_dots more) ≡ whole = rw parted at all in
    rw (← made) at step

-- the rest behind a dot is shorter
pub shorter_behind : (rest more : List ℕ) → position_or_len is_dot rest < length rest → more ≡ after_first is_dot rest → length more < length rest
shorter_behind rest more less is = omega (arith, less, ap length is, length-drop (position_or_len is_dot rest + 1) rest)

pub parsed_off : (path : Path) (rest first more : List ℕ) {whole : Option Path} → path_with_parts path (parts_between_dots rest) ≡ whole →
    (position_or_len is_dot rest < length rest) × (first ≡ before_first is_dot rest) × (more ≡ after_first is_dot rest) →
    None ≡ path_with (index_of first) path → None ≡ whole
parsed_off path rest first more {whole} all (less, front, behind) none =
    let parted : parts_between_dots rest ≡ first ∷ parts_between_dots more = parts_at_dot rest less ∙ rw (front, behind) refl in
    let step : path_with_parts path (first ∷ parts_between_dots more) ≡ whole = rw parted at all in
    rw (← none) at step

last_one : (o : Option Path) → path_on o (λ longer. path_with_parts longer []) ≡ o
last_one (Some path) = refl
last_one None = refl

pub parsed_last : (path : Path) (rest : List ℕ) {whole : Option Path} → path_with_parts path (parts_between_dots rest) ≡ whole →
    position_or_len is_dot rest ≡ length rest → path_with (index_of rest) path ≡ whole
parsed_last path rest {whole} all none =
    let step : path_with_parts path (rest ∷ []) ≡ whole = rw (parts_of_one rest none) at all in
    sym (last_one (path_with (index_of rest) path)) ∙ step

-- what a path has after further texts
longer_indexes : (i : ℕ) (p q : Path) → length p.indexes ≡ 32 → p.count ≤ 32 → longer_path i p ≡ Some q →
    (path_indexes q ≡ path_indexes p ++ i ∷ []) × (length q.indexes ≡ 32) × (q.count ≤ 32)
longer_indexes i p q wide few is = go (nat_lt p.count 32) refl is
  where
    go : (b : Bool) → nat_lt p.count 32 ≡ b →
        (if b then Some (record { indexes = slice_set p.indexes p.count i; count = p.count + 1 }) else None) ≡ Some q →
        (path_indexes q ≡ path_indexes p ++ i ∷ []) × (length q.indexes ≡ 32) × (q.count ≤ 32)
    go true less same =
        let below : p.count < 32 = ltb-true p.count 32 less in
        let longer : Path = record { indexes = slice_set p.indexes p.count i; count = p.count + 1 } in
        let made : longer ≡ q = cc in
        let now : min (p.count + 1) 32 ≡ p.count + 1 = omega (arith, below) in
        let before : min p.count 32 ≡ p.count = omega (arith, below) in
        let there : p.count < length p.indexes = omega (arith, below, wide) in
        let taken : path_indexes longer ≡ path_indexes p ++ i ∷ [] = rw (now, before) (take-set_at p.indexes p.count (p.count + 1) i refl there) in
        subst (λ (x : Path). (path_indexes x ≡ path_indexes p ++ i ∷ []) × (length x.indexes ≡ 32) × (x.count ≤ 32)) made
        (taken, length-set p.indexes p.count i ∙ wide, omega (arith, below))
    go false less same = absurd cc

-- the indexes of q are those of p, and after them those that the parts write
abbrev Writes : Path → Path → List (List ℕ) → Type 0
Writes p q parts = (xs : List ℕ) × (map index_of parts ≡ map (λ (i : ℕ). Some i) xs) × (path_indexes q ≡ path_indexes p ++ xs)

writes_more : (p longer q : Path) (part : List ℕ) (parts : List (List ℕ)) (i : ℕ) → index_of part ≡ Some i →
    path_indexes longer ≡ path_indexes p ++ i ∷ [] → Writes longer q parts → Writes p q (part ∷ parts)
writes_more p longer q part parts i named grown (xs, all, rest) =
    (i ∷ xs, rw (named, all) refl, rest ∙ ap (λ (front : List ℕ). front ++ xs) grown ∙ append_assoc (path_indexes p) (i ∷ []) xs)

writes_by : (p q : Path) (part : List ℕ) (parts : List (List ℕ)) → length p.indexes ≡ 32 → p.count ≤ 32 →
    ((longer : Path) → length longer.indexes ≡ 32 → longer.count ≤ 32 → path_with_parts longer parts ≡ Some q → Writes longer q parts) →
    (o : Option ℕ) → index_of part ≡ o → (made : Option Path) → path_with o p ≡ made →
    path_on made (λ longer. path_with_parts longer parts) ≡ Some q → Writes p q (part ∷ parts)
writes_by p q part parts wide few rest (Some i) named (Some longer) made more =
    let (grown, wide', few') = longer_indexes i p longer wide few made in
    writes_more p longer q part parts i named grown (rest longer wide' few' more)
writes_by p q part parts wide few rest (Some i) named None made more = absurd cc
writes_by p q part parts wide few rest None named (Some longer) made more = absurd cc
writes_by p q part parts wide few rest None named None made more = absurd cc

indexes_after : (p q : Path) (parts : List (List ℕ)) → length p.indexes ≡ 32 → p.count ≤ 32 → path_with_parts p parts ≡ Some q → Writes p q parts
indexes_after p q [] wide few is =
    let same : p ≡ q = cc in
    ([], refl, ap path_indexes (sym same) ∙ sym (append-nil (path_indexes p)))
indexes_after p q (part ∷ parts) wide few is =
    writes_by p q part parts wide few (λ longer wide' few' more. indexes_after longer q parts wide' few' more)
    (index_of part) refl (path_with (index_of part) p) refl is

pub path_is_parsed : (text : List ℕ) (path : Path) → path_of text ≡ Some path →
    map index_of (parts_between_dots text) ≡ map (λ (i : ℕ). Some i) (path_indexes path)
path_is_parsed text path is =
    let (xs, all, rest) = indexes_after no_path path (parts_between_dots text) refl (omega arith) is in
    all ∙ ap (map (λ (i : ℕ). Some i)) (sym rest)

-- the index that is read from a text
index_read : (text : List ℕ) (n : ℕ) → IsIndex text n → number_of_index text ≡ Some n
index_read text n (numeral, is, small) =
    let digits : is_numeral text ≡ true = is_numeral_true text numeral in
    let below : nat_lt (digits_value 10 text) (2 ^ 32) ≡ true =
    lt-ltb (digits_value 10 text) (2 ^ 32) (subst (λ (k : ℕ). k < 2 ^ 32) is small) in
    rw (digits, below) (ap (λ (k : ℕ). Some k) (sym is))

index_unread : (text : List ℕ) → ((n : ℕ) → IsIndex text n → ⊥) → number_of_index text ≡ None
index_unread text none =
    chosen_none (is_numeral text && nat_lt (digits_value 10 text) (2 ^ 32)) (digits_value 10 text) (λ is.
    let tests = both_true (is_numeral text) (nat_lt (digits_value 10 text) (2 ^ 32)) is in
    none (digits_value 10 text) (numeral_by_test text tests.0, refl, ltb-true (digits_value 10 text) (2 ^ 32) tests.1))

pub index_same : (text : List ℕ) (r : Option ℕ) → IfSome r (λ n. IsIndex text n) →
    (IsNone r → (n : ℕ) → IsIndex text n → ⊥) → r ≡ number_of_index text
index_same text (Some n) is none = sym (index_read text n is)
index_same text None is none = sym (index_unread text (none refl))
