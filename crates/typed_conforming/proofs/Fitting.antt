-- An object is what a pointer of some kind may lead to exactly if the value that is read of it is.
use Rattle.std.proofs.Common.{◌≡◌, ℕ, ◌-◌, ◌<◌, Bool, true, false, ◌&&◌, if◌then◌else◌, nat_eq, nat_lt, List, [], length, take, get_or, Option, Some, None, refl, sym, ap, ◌∙◌, arith, eq-eqb, eqb-true, lt-ltb, ltb-true}
use Rattle.std.proofs.lemmas.Bool.{false≢true}
use Rattle.std.proofs.lemmas.Str.{is_utf8-from_IsUtf8}
use Rattle.std.specs.Option.{option_or}
use Rattle.std.specs.Str.{is_utf8}
use Rattle.capnp_words.specs.declared.error.ErrorKind.{ErrorKind}
use Rattle.capnp_format.specs.Numbers.{unpacked, words_for}
use Rattle.capnp_format.specs.Segments.{Segments, words_at}
use Rattle.capnp_format.specs.Tree.{Tree, Null, Flat, Capability, Struct, Pointers, Structs, Trees, Elements}
use Rattle.capnp_format.proofs.Digits.{length-digits}
use Rattle.capnp_readers.specs.Values.{IsText, text_bytes}
use Rattle.capnp_pointers.specs.Enter.{capability, struct, flat, pointers, structs}
use Rattle.typed_conforming.specs.declared.schema.Kind.{Kind}
use Rattle.typed_conforming.specs.declared.schema.Kind.TheVariants.{Any, AnyList, Capability as CapabilityKind, Text, Utf8, Data, Struct as StructKind, List as ListKind}
use Rattle.typed_conforming.specs.Conforms.{IsOfKind}
use Rattle.typed_conforming.specs.Misfits.{bytes_are_utf8, bytes_end_in_zero, data_misfit, kind_misfit, list_bytes, not_utf8, text_misfit, utf8_misfit}

-- Tests.
both : (a b : Bool) → (a && b) ≡ true → (a ≡ true) × (b ≡ true)
both true b e = (refl, e)
both false b e = absurd (false≢true e)

-- The value of a list of numbers.
abbrev pub numbers : Segments → ℕ → ℕ → ℕ → ℕ → Tree
numbers S s p size n = Flat size (unpacked size n (words_at S s p (words_for size n)))

text_bytes_end : (S : Segments) (s p size n : ℕ) → size ≡ 2 →
    get_or (unpacked size n (words_at S s p (words_for size n))) (length (unpacked size n (words_at S s p (words_for size n))) - 1) 0 ≡ get_or (list_bytes S s p n) (n - 1) 0
text_bytes_end S s p size n two =
    let long : length (unpacked size n (words_at S s p (words_for size n))) ≡ n = length-digits _ n _ in
    ap (λ k. get_or (unpacked size n (words_at S s p (words_for size n))) (k - 1) 0) long
    ∙ ap (λ z. get_or (unpacked z n (words_at S s p (words_for z n))) (n - 1) 0) two

-- A text.
bytes_only : (size : ℕ) (x : Option ErrorKind) (e : ErrorKind) → (if nat_eq size 2 then x else Some e) ≡ None → (size ≡ 2) × (x ≡ None)
bytes_only size x e h = go (nat_eq size 2) refl h
  where
    go : (b : Bool) → nat_eq size 2 ≡ b → (if b then x else Some e) ≡ None → (size ≡ 2) × (x ≡ None)
    go true is h = (eqb-true _ _ is, h)
    go false is h = absurd (cc h)

chosen : (b : Bool) (x : Option ErrorKind) (e : ErrorKind) → (if b then x else Some e) ≡ None → (b ≡ true) × (x ≡ None)
chosen true x e h = (refl, h)
chosen false x e h = absurd (cc h)

text_if : (S : Segments) (s p size n : ℕ) → size ≡ 2 → bytes_end_in_zero S s p n ≡ true → IsText (numbers S s p size n)
text_if S s p size n two h =
    let ends = both _ _ h in
    let some : 0 < n = ltb-true _ _ ends.0 in
    let long : length (unpacked size n (words_at S s p (words_for size n))) ≡ n = length-digits _ n _ in
    (two, omega (arith, some, long), text_bytes_end S s p size n two ∙ eqb-true _ _ ends.1)

if_text : (S : Segments) (s p size n : ℕ) → IsText (numbers S s p size n) → bytes_end_in_zero S s p n ≡ true
if_text S s p size n (two, some, last) =
    let long : length (unpacked size n (words_at S s p (words_for size n))) ≡ n = length-digits _ n _ in
    let more : 0 < n = omega (arith, some, long) in
    let a : nat_lt 0 n ≡ true = lt-ltb _ _ more in
    let b : nat_eq (get_or (list_bytes S s p n) (n - 1) 0) 0 ≡ true = eq-eqb _ _ (sym (text_bytes_end S s p size n two) ∙ last) in
    rw (a, b) refl

text_flat : (S : Segments) (s p size n : ℕ) → text_misfit S (flat s p size n) ≡ None → IsOfKind Text (numbers S s p size n)
text_flat S s p size n h =
    let bytes = bytes_only size _ _ h in
    text_if S s p size n bytes.0 (chosen (bytes_end_in_zero S s p n) None _ bytes.1).0

flat_text : (S : Segments) (s p size n : ℕ) → IsOfKind Text (numbers S s p size n) → text_misfit S (flat s p size n) ≡ None
flat_text S s p size n h =
    let a : nat_eq size 2 ≡ true = eq-eqb _ _ h.0 in
    let b = if_text S s p size n h in
    rw (a, b) refl

-- A text in UTF-8.
own_bytes : (S : Segments) (s p size n : ℕ) → size ≡ 2 → text_bytes (numbers S s p size n) ≡ take (n - 1) (list_bytes S s p n)
own_bytes S s p size n two =
    let long : length (unpacked size n (words_at S s p (words_for size n))) ≡ n = length-digits _ n _ in
    ap (λ k. take (k - 1) (unpacked size n (words_at S s p (words_for size n)))) long
    ∙ ap (λ z. take (n - 1) (unpacked z n (words_at S s p (words_for z n)))) two

neither : (x y : Option ErrorKind) → option_or x y ≡ None → (x ≡ None) × (y ≡ None)
neither None y h = (refl, h)
neither (Some e) y h = absurd (cc h)

utf8_flat : (S : Segments) (s p size n : ℕ) → kind_misfit Utf8 S (flat s p size n) ≡ None → IsOfKind Utf8 (numbers S s p size n)
utf8_flat S s p size n h =
    let (text, valid) = neither (text_misfit S (flat s p size n)) (utf8_misfit S (flat s p size n)) h in
    let is = text_flat S s p size n text in
    let two : nat_eq size 2 ≡ true = eq-eqb _ _ is.0 in
    let passed = chosen (bytes_are_utf8 S s p n) None not_utf8 (rw two at valid) in
    (is, ap is_utf8 (own_bytes S s p size n is.0) ∙ passed.0)

flat_utf8 : (S : Segments) (s p size n : ℕ) → IsOfKind Utf8 (numbers S s p size n) → kind_misfit Utf8 S (flat s p size n) ≡ None
flat_utf8 S s p size n (h, valid) =
    let a : nat_eq size 2 ≡ true = eq-eqb _ _ h.0 in
    let b = if_text S s p size n h in
    let c : bytes_are_utf8 S s p n ≡ true = sym (ap is_utf8 (own_bytes S s p size n h.0)) ∙ valid in
    rw (a, b, c) refl

-- Data.
data_flat : (S : Segments) (s p size n : ℕ) → IsOfKind Data (numbers S s p size n) → data_misfit (flat s p size n) ≡ None
data_flat S s p size n two = let a : nat_eq size 2 ≡ true = eq-eqb _ _ two in rw a refl

pub flat_fits : (k : Kind) (S : Segments) (s p size n : ℕ) → kind_misfit k S (flat s p size n) ≡ None → IsOfKind k (numbers S s p size n)
flat_fits Any S s p size n e = tt
flat_fits CapabilityKind S s p size n e = absurd (cc e)
flat_fits Text S s p size n e = text_flat S s p size n e
flat_fits Utf8 S s p size n e = utf8_flat S s p size n e
flat_fits Data S s p size n e = (bytes_only size None _ e).0
flat_fits (StructKind row) S s p size n e = absurd (cc e)
flat_fits AnyList S s p size n e = tt
flat_fits (ListKind wanted row) S s p size n e = e

pub fits_flat : (k : Kind) (S : Segments) (s p size n : ℕ) → IsOfKind k (numbers S s p size n) → kind_misfit k S (flat s p size n) ≡ None
fits_flat Any S s p size n h = refl
fits_flat CapabilityKind S s p size n h = absurd h
fits_flat Text S s p size n h = flat_text S s p size n h
fits_flat Utf8 S s p size n h = flat_utf8 S s p size n h
fits_flat Data S s p size n h = data_flat S s p size n h
fits_flat (StructKind row) S s p size n h = absurd h
fits_flat AnyList S s p size n h = refl
fits_flat (ListKind wanted row) S s p size n h = h

pub struct_fits : (k : Kind) (S : Segments) (s p d q : ℕ) (ws : List ℕ) (ts : Trees) → kind_misfit k S (struct s p d q) ≡ None → IsOfKind k (Struct ws ts)
struct_fits Any S s p d q ws ts e = tt
struct_fits CapabilityKind S s p d q ws ts e = absurd (cc e)
struct_fits Text S s p d q ws ts e = absurd (cc e)
struct_fits Utf8 S s p d q ws ts e = absurd (cc e)
struct_fits Data S s p d q ws ts e = absurd (cc e)
struct_fits (StructKind row) S s p d q ws ts e = tt
struct_fits AnyList S s p d q ws ts e = absurd (cc e)
struct_fits (ListKind wanted row) S s p d q ws ts e = absurd (cc e)

pub fits_struct : (k : Kind) (S : Segments) (s p d q : ℕ) (ws : List ℕ) (ts : Trees) → IsOfKind k (Struct ws ts) → kind_misfit k S (struct s p d q) ≡ None
fits_struct Any S s p d q ws ts h = refl
fits_struct CapabilityKind S s p d q ws ts h = absurd h
fits_struct Text S s p d q ws ts h = absurd h
fits_struct Utf8 S s p d q ws ts h = absurd h.0
fits_struct Data S s p d q ws ts h = absurd h
fits_struct (StructKind row) S s p d q ws ts h = refl
fits_struct AnyList S s p d q ws ts h = absurd h
fits_struct (ListKind wanted row) S s p d q ws ts h = absurd h

pub pointers_fit : (k : Kind) (S : Segments) (s p n : ℕ) (ts : Trees) → kind_misfit k S (pointers s p n) ≡ None → IsOfKind k (Pointers ts)
pointers_fit Any S s p n ts e = tt
pointers_fit CapabilityKind S s p n ts e = absurd (cc e)
pointers_fit Text S s p n ts e = absurd (cc e)
pointers_fit Utf8 S s p n ts e = absurd (cc e)
pointers_fit Data S s p n ts e = absurd (cc e)
pointers_fit (StructKind row) S s p n ts e = absurd (cc e)
pointers_fit AnyList S s p n ts e = tt
pointers_fit (ListKind wanted row) S s p n ts e = e

pub fits_pointers : (k : Kind) (S : Segments) (s p n : ℕ) (ts : Trees) → IsOfKind k (Pointers ts) → kind_misfit k S (pointers s p n) ≡ None
fits_pointers Any S s p n ts h = refl
fits_pointers CapabilityKind S s p n ts h = absurd h
fits_pointers Text S s p n ts h = absurd h
fits_pointers Utf8 S s p n ts h = absurd h.0
fits_pointers Data S s p n ts h = absurd h
fits_pointers (StructKind row) S s p n ts h = absurd h
fits_pointers AnyList S s p n ts h = refl
fits_pointers (ListKind wanted row) S s p n ts h = h

pub structs_fit : (k : Kind) (S : Segments) (s p d q n : ℕ) (es : Elements) → kind_misfit k S (structs s p d q n) ≡ None → IsOfKind k (Structs d q es)
structs_fit Any S s p d q n es e = tt
structs_fit CapabilityKind S s p d q n es e = absurd (cc e)
structs_fit Text S s p d q n es e = absurd (cc e)
structs_fit Utf8 S s p d q n es e = absurd (cc e)
structs_fit Data S s p d q n es e = absurd (cc e)
structs_fit (StructKind row) S s p d q n es e = absurd (cc e)
structs_fit AnyList S s p d q n es e = tt
structs_fit (ListKind wanted row) S s p d q n es e = e

pub fits_structs : (k : Kind) (S : Segments) (s p d q n : ℕ) (es : Elements) → IsOfKind k (Structs d q es) → kind_misfit k S (structs s p d q n) ≡ None
fits_structs Any S s p d q n es h = refl
fits_structs CapabilityKind S s p d q n es h = absurd h
fits_structs Text S s p d q n es h = absurd h
fits_structs Utf8 S s p d q n es h = absurd h.0
fits_structs Data S s p d q n es h = absurd h
fits_structs (StructKind row) S s p d q n es h = absurd h
fits_structs AnyList S s p d q n es h = refl
fits_structs (ListKind wanted row) S s p d q n es h = h

pub capability_fits : (k : Kind) (S : Segments) (i : ℕ) → kind_misfit k S (capability i) ≡ None → IsOfKind k (Capability i)
capability_fits Any S i e = tt
capability_fits CapabilityKind S i e = tt
capability_fits Text S i e = absurd (cc e)
capability_fits Utf8 S i e = absurd (cc e)
capability_fits Data S i e = absurd (cc e)
capability_fits (StructKind row) S i e = absurd (cc e)
capability_fits AnyList S i e = absurd (cc e)
capability_fits (ListKind wanted row) S i e = absurd (cc e)

pub fits_capability : (k : Kind) (S : Segments) (i : ℕ) → IsOfKind k (Capability i) → kind_misfit k S (capability i) ≡ None
fits_capability Any S i h = refl
fits_capability CapabilityKind S i h = refl
fits_capability Text S i h = absurd h
fits_capability Utf8 S i h = absurd h.0
fits_capability Data S i h = absurd h
fits_capability (StructKind row) S i h = absurd h
fits_capability AnyList S i h = absurd h
fits_capability (ListKind wanted row) S i h = absurd h

pub null_conforms_to : (k : Kind) → IsOfKind k Null
null_conforms_to Any = tt
null_conforms_to CapabilityKind = tt
null_conforms_to Text = tt
null_conforms_to Utf8 = (tt, is_utf8-from_IsUtf8 [] ([], (refl, refl)))
null_conforms_to Data = tt
null_conforms_to (StructKind row) = tt
null_conforms_to AnyList = tt
null_conforms_to (ListKind wanted row) = tt
