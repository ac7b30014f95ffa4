-- Adding to a text in steps.
use Rattle.std.proofs.Common.{◌≡◌, ◌≢◌, ℕ, ◌+◌, ◌-◌, ◌/◌, ◌%◌, ◌<◌, Bool, true, false, nat_eq, ◌||◌, List, [], ◌∷◌, ◌++◌, length, take, drop, get_or, Result, Ok, Err, refl, sym, ap, ◌∙◌, arith, append_assoc, append-nil, length-append, length-drop, take-append-drop, subst, eq-eqb}
use Rattle.std.specs.Prelude.{slice_index, slice_index_or, IsErrAnd}
use Rattle.std.specs.Str.{IsUtf8, is_utf8}
use Rattle.std.proofs.lemmas.Bool.{ne_eqb}
use Rattle.std.proofs.lemmas.Str.{IsUtf8-from_is_utf8}
use Rattle.std.proofs.lemmas.List.{drop_more, get_or_default, take_all, take_more}
use Rattle.std.proofs.lemmas.Result.{err_from_is_err_and}
use Rattle.hex.specs.Hex.{encode_lower, encode_with, lower_digits}
use Rattle.capnp_show.specs.Adding.{Adds, max_text}
use Rattle.capnp_show.specs.Line.{ends_control, escape, escaped, has_control_after, is_plain_text, reads_as_text, without_last}
use Rattle.capnp_show.specs.declared.show.text.Ended.{Ended}

-- What the exit of a `?` returns.
pub failed : {A E : Type 0} {k : E} (r : Result A E) → IsErrAnd r (λ y. y ≡ k) → r ≡ Err k
failed r h = let p = err_from_is_err_and r h in p.1 ∙ ap Err p.2

-- The same bytes under another name.
pub adds_as : {A : Type 0} {r : Result A Ended} {from to xs ys : List ℕ} → xs ≡ ys → Adds r from to xs → Adds r from to ys
adds_as {r} {from} {to} e h = rw e at h

-- Nothing is added.
pub adds_none : {A : Type 0} (x : A) (from : List ℕ) → Adds (Ok x) from from []
adds_none x from = record { added = sym (append-nil from); full = tt }

-- After xs were added, ys are added, or refused.
pub adds_then : {A B : Type 0} {x : B} {r : Result A Ended} {from mid to xs ys : List ℕ} → Adds (Ok x) from mid xs → Adds r mid to ys → Adds r from to (xs ++ ys)
adds_then {r = Ok y} {from} {xs = xs} {ys = ys} one two = record { added = two.added ∙ ap (λ zs. zs ++ ys) one.added ∙ append_assoc from xs ys; full = tt }
adds_then {r = Err k} {from} {xs = xs} {ys = ys} one two = record {
  added = tt;
  full = λ is. let over = two.full is in omega (arith, over, ap length (ap (λ zs. zs ++ ys) one.added ∙ append_assoc from xs ys));
}

-- xs are refused, and so are xs and then ys.
pub adds_stops : {A B : Type 0} {k : Ended} {from mid xs : List ℕ} (r : Result A Ended) (to ys : List ℕ) → IsErrAnd r (λ y. y ≡ k) → Adds {A = B} (Err k) from mid xs → Adds r from to (xs ++ ys)
adds_stops {k = k} {from} {xs = xs} r to ys h a = rw (failed r h) (let w : Adds (Err k) from to (xs ++ ys) = record {
  added = tt;
  full = λ is. let over = a.full is in omega (arith, over, length-append from xs, length-append xs ys, length-append from (xs ++ ys));
} in w)

pub escaped-append : (xs ys : List ℕ) → escaped (xs ++ ys) ≡ escaped xs ++ escaped ys
escaped-append [] ys = refl
escaped-append (x ∷ xs) ys = ap (λ zs. escape x ++ zs) (escaped-append xs ys) ∙ sym (append_assoc (escape x) (escaped xs) (escaped ys))

pub encode-append : (xs ys : List ℕ) → encode_lower (xs ++ ys) ≡ encode_lower xs ++ encode_lower ys
unfolding encode_with
encode-append [] ys = refl
encode-append (x ∷ xs) ys = ap (λ (zs : List ℕ). slice_index lower_digits (x / 16) ∷ slice_index lower_digits (x % 16) ∷ zs) (encode-append xs ys)

pub encode-nil : encode_lower [] ≡ []
unfolding encode_with
encode-nil = refl

pub encode-parts : (n : ℕ) (xs : List ℕ) → encode_lower (take n xs) ++ encode_lower (drop n xs) ≡ encode_lower xs
encode-parts n xs = sym (encode-append (take n xs) (drop n xs)) ∙ ap encode_lower (take-append-drop n xs)

-- A part of what is to be added was refused, or added; or all of it is added.
pub part_stops : {A B : Type 0} {k : Ended} {cur mid part : List ℕ} (r : Result A Ended) (old to all more : List ℕ) → IsErrAnd r (λ y. y ≡ k) → cur ++ (part ++ more) ≡ old ++ all → Adds {A = B} (Err k) cur mid part → Adds r old to all
part_stops {k = k} {cur} {part = part} r old to all more h e a = rw (failed r h) (let w : Adds (Err k) old to all = record {
  added = tt;
  full = λ is. let over = a.full is in omega (arith, over, ap length e, length-append cur part, length-append part more, length-append cur (part ++ more));
} in w)

pub part_added : {B : Type 0} {x : B} {cur mid part : List ℕ} (more whole : List ℕ) → cur ++ (part ++ more) ≡ whole → Adds (Ok x) cur mid part → mid ++ more ≡ whole
part_added {cur = cur} {part = part} more whole e a = ap (λ zs. zs ++ more) a.added ∙ append_assoc cur part more ∙ e

pub all_added : {A : Type 0} (x : A) (cur old all rest : List ℕ) → cur ++ rest ≡ old ++ all → rest ≡ [] → Adds (Ok x) old cur all
all_added x cur old all rest e none = record { added = sym (append-nil cur) ∙ ap (λ zs. cur ++ zs) (sym none) ∙ e; full = tt }

-- The bytes of a text before its first escape, its escape, and the bytes after it.
pub escape_next : (xs : List ℕ) (i : ℕ) → i < length xs → escaped (take i xs) ≡ take i xs → escaped xs ≡ take i xs ++ (escape (get_or xs i 0) ++ escaped (drop (i + 1) xs))
escape_next xs i inside plain =
    ap escaped (sym (take-append-drop i xs)) ∙ escaped-append (take i xs) (drop i xs)
    ∙ ap (λ zs. zs ++ escaped (drop i xs)) plain
    ∙ ap (λ zs. take i xs ++ zs) (ap escaped (drop_more xs i 0 inside))

pub escape_none : (xs : List ℕ) (i : ℕ) → i < length xs → escaped (take i xs) ≡ take i xs → escape (get_or xs i 0) ≡ get_or xs i 0 ∷ [] → escaped (take (i + 1) xs) ≡ take (i + 1) xs
escape_none xs i inside plain same =
    ap escaped (take_more xs i 0 inside) ∙ escaped-append (take i xs) (get_or xs i 0 ∷ [])
    ∙ ap (λ zs. zs ++ escaped (get_or xs i 0 ∷ [])) plain
    ∙ ap (λ zs. take i xs ++ zs) (append-nil (escape (get_or xs i 0)) ∙ same)
    ∙ sym (take_more xs i 0 inside)

-- What a slice from position n on is.
pub rest_of : (n : ℕ) (xs : List ℕ) → take (length xs - n) (drop n xs) ≡ drop n xs
rest_of n xs = take_all (length xs - n) (drop n xs) (omega (arith, length-drop n xs))

-- The rest is added, and with it all.
pub last_added : {A : Type 0} {cur to rest old all : List ℕ} (r : Result A Ended) → cur ++ rest ≡ old ++ all → Adds r cur to rest → Adds r old to all
last_added (Ok x) e a = record { added = a.added ∙ e; full = tt }
last_added (Err k) e a = record { added = tt; full = λ is. subst (λ (zs : List ℕ). max_text < length zs) e (a.full is) }

-- Three pieces.
pub adds_three : {A B C : Type 0} {x : A} {y : B} {r : Result C Ended} {from m1 m2 to xs ys zs : List ℕ} → Adds (Ok x) from m1 xs → Adds (Ok y) m1 m2 ys → Adds r m2 to zs → Adds r from to (xs ++ (ys ++ zs))
adds_three one two three = adds_then one (adds_then two three)

-- ---- what reads as text

-- The bytes after the first ones have a control character.
pub control_next : (before : ℕ) (bs : List ℕ) (i : ℕ) → i < length bs → has_control_after before (drop i bs) ≡ (ends_control before (get_or bs i 0) || has_control_after (get_or bs i 0) (drop (i + 1) bs))
control_next before bs i inside = ap (has_control_after before) (drop_more bs i 0 inside)

-- The last byte, and those before it.
pub text_begins : (bs : List ℕ) → 0 < length bs → get_or bs (length bs - 1) 0 ≡ 0 → reads_as_text bs ≡ is_plain_text (without_last bs)
text_begins bs some zero_last =
    let last : slice_index_or bs (length bs - 1) 255 ≡ 0 = get_or_default bs (length bs - 1) 255 0 (omega arith) ∙ zero_last in
    let test : nat_eq (slice_index_or bs (length bs - 1) 255) 0 ≡ true = eq-eqb _ _ last in
    rw test refl

pub no_text : (bs : List ℕ) → get_or bs (length bs - 1) 255 ≢ 0 → reads_as_text bs ≡ false
no_text bs other = let test : nat_eq (slice_index_or bs (length bs - 1) 255) 0 ≡ false = ne_eqb _ _ other in rw test refl

pub not_empty : (bs : List ℕ) → length bs ≡ 0 → get_or bs (length bs - 1) 255 ≢ 0
not_empty [] none e = absurd (omega (arith, e))
not_empty (b ∷ bs) none e = absurd (omega arith)

pub not_utf8 : (bs : List ℕ) → (IsUtf8 bs → ⊥) → is_plain_text bs ≡ false
not_utf8 bs other = go (is_utf8 bs) refl
  where
    go : (b : Bool) → is_utf8 bs ≡ b → is_plain_text bs ≡ false
    go true e = absurd (other (IsUtf8-from_is_utf8 bs e))
    go false e = rw e refl
