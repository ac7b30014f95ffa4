-- Bytes that overwrite those of a segment, as fields of one byte each; and such fields split into
-- consecutive parts.
use Rattle.std.proofs.Common.{◌≡◌, ℕ, zero, suc, ◌+◌, ◌-◌, ◌*◌, ◌/◌, ◌%◌, ◌^◌, ◌<◌, ◌≤◌, min, List, [], ◌∷◌, length, get_or, set, take, replicate, Some, slice_get, refl, sym, ap, ap₂, ◌∙◌, arith, take-append-drop, set-set, length-take}
use Rattle.std.proofs.Math.Nat.{mod-eq_of_lt}
use Rattle.std.proofs.lemmas.List.{length-set, get_or-take, length-replicate}
use Rattle.capnp_arena_traits.specs.View.{View}
use Rattle.capnp_arena_traits.specs.Written.{overwritten}
use Rattle.capnp_format.proofs.WordsOf.{words}
use Rattle.capnp_format.specs.Bytes.{words_of, message}
use Rattle.capnp_format.specs.Segments.{Segments, segment}
use Rattle.capnp_allocation.specs.Fields.{with_field}
use Rattle.capnp_in_place.proofs.Fields.BitWritten.{set_is_put}
use Rattle.capnp_allocation.proofs.FieldBytes.{message_written}
use Rattle.capnp_format.proofs.FieldBytes.{words_of-put_field}
use Rattle.capnp_copies.proofs.ElementsLaid.{get_or-zeros}
use Rattle.capnp_builders.specs.Content.{content_byte, with_fields, fields_from}
use Rattle.capnp_builders.proofs.ContentWritten.{fields_long}

-- the first of the fields by itself
fields_front : (S : Segments) (s b w : ℕ) (f : ℕ → ℕ) (n : ℕ) → with_fields S s (fields_from b w f) (suc n) ≡ with_fields (with_field S s b w (f 0)) s (fields_from (b + w) w (λ i. f (suc i))) n
fields_front S s b w f zero = ap (λ k. with_field S s k w (f 0)) (let e : b + 0 * w ≡ b = omega arith in e)
fields_front S s b w f (suc n) =
    ap (λ (T : Segments). with_field T s (b + suc n * w) w (f (suc n))) (fields_front S s b w f n)
    ∙ ap (λ k. with_field (with_fields (with_field S s b w (f 0)) s (fields_from (b + w) w (λ i. f (suc i))) n) s k w (f (suc n))) (let e : b + suc n * w ≡ b + w + n * w = omega arith in e)

-- fields with the same values leave the same message
pub fields_same : (S : Segments) (s b w : ℕ) (f h : ℕ → ℕ) (n : ℕ) → ((i : ℕ) → i < n → f i ≡ h i) → with_fields S s (fields_from b w f) n ≡ with_fields S s (fields_from b w h) n
fields_same S s b w f h zero e = refl
fields_same S s b w f h (suc n) e =
    ap₂ (λ (T : Segments) (x : ℕ). with_field T s (b + n * w) w x) (fields_same S s b w f h n (λ i l. e i (omega (arith, l)))) (e n (omega arith))

-- the fields in two parts
pub fields_then : (S : Segments) (s b w : ℕ) (f : ℕ → ℕ) (n m : ℕ) → with_fields S s (fields_from b w f) (n + m) ≡ with_fields (with_fields S s (fields_from b w f) n) s (fields_from (b + n * w) w (λ i. f (n + i))) m
fields_then S s b w f n zero = ap (λ k. with_fields S s (fields_from b w f) k) (let e : n + 0 ≡ n = omega arith in e)
fields_then S s b w f n (suc m) =
    ap (λ k. with_fields S s (fields_from b w f) k) (let e : n + suc m ≡ suc (n + m) = omega arith in e)
    ∙ ap (λ (T : Segments). with_field T s (b + (n + m) * w) w (f (n + m))) (fields_then S s b w f n m)
    ∙ ap (λ k. with_field (with_fields (with_fields S s (fields_from b w f) n) s (fields_from (b + n * w) w (λ i. f (n + i))) m) s k w (f (n + m))) (let e : b + (n + m) * w ≡ b + n * w + m * w = omega arith in e)

-- bytes that overwrite others: the first, and then the rest
over_first : (bs : List ℕ) (a x : ℕ) (xs : List ℕ) → a < length bs → overwritten bs a (x ∷ xs) ≡ overwritten (set bs a x) (suc a) xs
over_first [] a x xs l = absurd (omega arith)
over_first (b ∷ bs) zero x xs l = refl
over_first (b ∷ bs) (suc a) x xs l = ap (λ ys. b ∷ ys) (over_first bs a x xs (omega arith))

small_set : (bs : List ℕ) (a x : ℕ) → ((j : ℕ) → get_or bs j 0 < 256) → x < 256 → (j : ℕ) → get_or (set bs a x) j 0 < 256
small_set [] a x h l j = h j
small_set (b ∷ bs) zero x h l zero = l
small_set (b ∷ bs) zero x h l (suc j) = h (suc j)
small_set (b ∷ bs) (suc a) x h l zero = h zero
small_set (b ∷ bs) (suc a) x h l (suc j) = small_set bs a x (λ i. h (suc i)) l j

set_found : (B : List (List ℕ)) (s : ℕ) (bs : List ℕ) → slice_get B s ≡ Some bs → set B s bs ≡ B
set_found [] s bs e = refl
set_found (b ∷ B) zero bs e = let same : bs ≡ b = cc in ap (λ c. c ∷ B) same
set_found (b ∷ B) (suc s) bs e = ap (λ C. b ∷ C) (set_found B s bs e)

get_found : (B : List (List ℕ)) (s : ℕ) (bs cs : List ℕ) → slice_get B s ≡ Some bs → slice_get (set B s cs) s ≡ Some cs
get_found [] s bs cs e = cc
get_found (b ∷ B) zero bs cs e = refl
get_found (b ∷ B) (suc s) bs cs e = get_found B s bs cs e

-- one byte written
byte_written : (B : List (List ℕ)) (s a x : ℕ) (bs : List ℕ) → slice_get B s ≡ Some bs → ((j : ℕ) → get_or bs j 0 < 256) → a < 8 * (length bs / 8) → message (set B s (set bs a x)) ≡ with_field (message B) s (8 * a) 8 x
byte_written B s a x bs e small l =
    message_written B s bs (set bs a x) (8 * a) 8 x e (
    ap words_of (set_is_put bs a x (omega (arith, l)))
    ∙ words_of-put_field a 1 1 x bs (x ∷ []) refl (let q : x + 256 * 0 ≡ x = omega arith in q) small refl (omega arith) (omega (arith, l, words bs))
    )

-- bytes written
pub bytes_as_fields : (xs : List ℕ) (B : List (List ℕ)) (s a : ℕ) (bs : List ℕ) → slice_get B s ≡ Some bs → ((j : ℕ) → get_or bs j 0 < 256) → ((j : ℕ) → get_or xs j 0 < 256) → a + length xs ≤ 8 * (length bs / 8) →
    message (set B s (overwritten bs a xs)) ≡ with_fields (message B) s (fields_from (8 * a) 8 (λ i. get_or xs i 0)) (length xs)
bytes_as_fields [] B s a bs e small below l = ap (λ ys. message (set B s ys)) (take-append-drop a bs) ∙ ap message (set_found B s bs e)
bytes_as_fields (x ∷ xs) B s a bs e small below l =
    let C : List (List ℕ) = set B s (set bs a x) in
    let many : length (set bs a x) ≡ length bs = length-set bs a x in
    ap (λ ys. message (set B s ys)) (over_first bs a x xs (omega (arith, l)))
    ∙ ap message (sym (set-set B s (set bs a x) (overwritten (set bs a x) (suc a) xs)))
    ∙ bytes_as_fields xs C s (suc a) (set bs a x) (get_found B s bs (set bs a x) e) (small_set bs a x small (below zero)) (λ j. below (suc j)) (omega (arith, l, many))
    ∙ ap₂ (λ (T : Segments) (k : ℕ). with_fields T s (fields_from k 8 (λ i. get_or xs i 0)) (length xs)) (byte_written B s a x bs e small (omega (arith, l))) (let q : 8 * suc a ≡ 8 * a + 8 = omega arith in q)
    ∙ sym (fields_front (message B) s (8 * a) 8 (λ i. get_or (x ∷ xs) i 0) (length xs))

-- zero bytes
pub small_zeros : (n i : ℕ) → get_or (replicate {A = ℕ} n 0) i 0 < 256
small_zeros n i = omega (arith, get_or-zeros n i)

pub zeros_as_fields : (S : Segments) (s b n : ℕ) → with_fields S s (fields_from b 8 (λ i. get_or (replicate {A = ℕ} n 0) i 0)) (length (replicate {A = ℕ} n 0)) ≡ with_fields S s (fields_from b 8 (λ i. 0)) n
zeros_as_fields S s b n =
    ap (with_fields S s (fields_from b 8 (λ i. get_or (replicate {A = ℕ} n 0) i 0))) (length-replicate n 0)
    ∙ fields_same S s b 8 (λ i. get_or (replicate {A = ℕ} n 0) i 0) (λ i. 0) n (λ i l. get_or-zeros n i)

-- the bytes of content: the whole ones, the one in part, and zeros
pub whole_byte : (bits : ℕ) (bytes : List ℕ) (i : ℕ) → get_or bytes i 0 < 256 → i < bits / 8 → get_or bytes i 0 ≡ content_byte bits bytes i
whole_byte bits bytes i small l =
    sym (ap (λ k. get_or bytes i 0 % 2 ^ k) (let e : min 8 (bits - 8 * i) ≡ 8 = omega (arith, l) in e) ∙ mod-eq_of_lt small)

pub no_byte : (bits : ℕ) (bytes : List ℕ) (i : ℕ) → bits / 8 < i → 0 ≡ content_byte bits bytes i
no_byte bits bytes i l =
    sym (ap (λ k. get_or bytes i 0 % 2 ^ k) (let e : min 8 (bits - 8 * i) ≡ 0 = omega (arith, l) in e) ∙ (let e : get_or bytes i 0 % 1 ≡ 0 = omega arith in e))

pub front_as_content : (S : Segments) (s b bits n : ℕ) (bytes : List ℕ) → ((j : ℕ) → get_or bytes j 0 < 256) → n ≤ bits / 8 → n ≤ length bytes →
    with_fields S s (fields_from b 8 (λ i. get_or (take n bytes) i 0)) (length (take n bytes)) ≡ with_fields S s (fields_from b 8 (content_byte bits bytes)) n
front_as_content S s b bits n bytes small l long =
    ap (with_fields S s (fields_from b 8 (λ i. get_or (take n bytes) i 0))) (let e : length (take n bytes) ≡ n = omega (arith, length-take n bytes, long) in e)
    ∙ fields_same S s b 8 (λ i. get_or (take n bytes) i 0) (content_byte bits bytes) n (λ i m. get_or-take n bytes i 0 m ∙ whole_byte bits bytes i (small i) (omega (arith, l, m)))

-- The n bytes of segment id from word a on were written, with byte i as f i.
abbrev pub Wrote : View → View → ℕ → ℕ → (ℕ → ℕ) → ℕ → Type 0
Wrote old new id a f n = new ≡ record old { words = with_fields old.words id (fields_from (8 * a) 8 f) n }

pub wrote_long : (old new : View) (id a : ℕ) (f : ℕ → ℕ) (n : ℕ) → Wrote old new id a f n → length (segment new.words id) ≡ length (segment old.words id)
wrote_long old new id a f n e = ap (λ (v : View). length (segment v.words id)) e ∙ fields_long old.words id (8 * a) 8 f n id

pub wrote_front : (old new : View) (id a bits n : ℕ) (bytes : List ℕ) → Wrote old new id a (λ i. get_or (take n bytes) i 0) (length (take n bytes)) → ((j : ℕ) → get_or bytes j 0 < 256) → n ≤ bits / 8 → n ≤ length bytes → Wrote old new id a (content_byte bits bytes) n
wrote_front old new id a bits n bytes e small l long = e ∙ ap (λ (W : Segments). record old { words = W }) (front_as_content old.words id (8 * a) bits n bytes small l long)

pub wrote_next : (old one two : View) (id a : ℕ) (f : ℕ → ℕ) (n at x : ℕ) → Wrote old one id a f n → two ≡ record one { words = with_field one.words id (8 * (a + at)) 8 x } → at ≡ n → x ≡ f n → Wrote old two id a f (suc n)
wrote_next old one two id a f n at x e h same is =
    h
    ∙ ap (λ (v : View). record v { words = with_field v.words id (8 * (a + at)) 8 x }) e
    ∙ ap₂ (λ (k y : ℕ). record old { words = with_field (with_fields old.words id (fields_from (8 * a) 8 f) n) id k 8 y }) (let q : 8 * (a + at) ≡ 8 * a + n * 8 = omega (arith, same) in q) is

-- zeros after the bytes that hold something
pub wrote_rest : (old two new : View) (id a bits n m at : ℕ) (bytes : List ℕ) → Wrote old two id a (content_byte bits bytes) (suc n) → new ≡ record two { words = with_fields two.words id (fields_from (8 * (a + at + 1)) 8 (λ i. 0)) (m - n - 1) } → at ≡ n → n ≡ bits / 8 → n < m → Wrote old new id a (content_byte bits bytes) m
wrote_rest old two new id a bits n m at bytes e h same whole l =
    let f : ℕ → ℕ = content_byte bits bytes in
    let T : Segments = with_fields old.words id (fields_from (8 * a) 8 f) (suc n) in
    let k : ℕ = m - n - 1 in
    h
    ∙ ap (λ (v : View). record v { words = with_fields v.words id (fields_from (8 * (a + at + 1)) 8 (λ i. 0)) k }) e
    ∙ ap (λ (W : Segments). record old { words = W }) (
    ap (λ p. with_fields T id (fields_from p 8 (λ i. 0)) k) (let q : 8 * (a + at + 1) ≡ 8 * a + suc n * 8 = omega (arith, same) in q)
    ∙ fields_same T id (8 * a + suc n * 8) 8 (λ i. 0) (λ i. f (suc n + i)) k (λ i b. no_byte bits bytes (suc n + i) (omega (arith, whole)))
    ∙ sym (fields_then old.words id (8 * a) 8 f (suc n) k)
    ∙ ap (λ j. with_fields old.words id (fields_from (8 * a) 8 f) j) (let q : suc n + k ≡ m = omega (arith, l) in q)
    )
