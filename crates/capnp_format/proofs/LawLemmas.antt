-- The laws that are composed of other lemmas.
use Rattle.std.proofs.Common.{◌≡◌, ◌↔◌, ℕ, ◌*◌, get_or, ◌<◌, ◌≤◌, inl, inr, ◌^◌, List, [], ◌∷◌, ◌++◌, length, replicate, take, Bool, true, false, nat_eq, zero, suc, ◌/◌, ◌%◌, eqb-true, eq-eqb, Option, Some, None, refl, sym, ap, ◌∙◌, subst, arith, length-append, le_trans}
use Rattle.std.proofs.Math.ListN.{get_or-append, drop_of_length-le}
use Rattle.std.proofs.Math.Seq.{take-nil}
use Rattle.std.proofs.lemmas.List.{append-nil, length-replicate}
use Rattle.std.proofs.lemmas.Bool.{cases_lt}
use Rattle.capnp_format.specs.Segments.{Segments, segment, word_at, AreWords, HasWords}
use Rattle.capnp_format.specs.Numbers.{from_digits, element_bits, unpacked}
use Rattle.capnp_format.specs.Tree.{Tree, Null, Capability, Struct, Flat, Pointers, Structs, Trees, no_trees, tree, Elements, no_elements, element, HasElement, AreNullFrom, depth, capabilities}
use Rattle.capnp_format.specs.Value.{IsValue}
use Rattle.capnp_format.specs.Means.{Means}
use Rattle.capnp_format.specs.Decode.{decode}
use Rattle.capnp_format.specs.Canonical.{used_from, used_words, is_null, used_trees, data_width, pointer_width, trim, word_count, body, encoding, charge, IsEncodable, IsTrimmed, HasCanonicalAt}
use Rattle.capnp_format.specs.Forest.{IsForest, ArenaHolds}
use Rattle.capnp_format.proofs.Levels.{other_levels, depth_within, one_value}
use Rattle.capnp_format.proofs.Reading.{decode_finds}
use Rattle.capnp_format.proofs.Sound.{decode_means, at_some}
use Rattle.capnp_format.proofs.Nulls.{decode_none}
use Rattle.capnp_format.proofs.Bounds.{words_within_cost, means_value}
use Rattle.capnp_format.proofs.BytesLemmas.{digit_at}
use Rattle.capnp_format.proofs.Lengths.{length-body}
use Rattle.capnp_format.proofs.Lies.{pow_pow}
use Rattle.capnp_format.proofs.Unique.{encoding_means, BeginsWith, one_encoding, Standing, one_stands as only_one}
use Rattle.capnp_format.proofs.Trimming.{used_from-rest, used_from-past, trim-trim, trim-words}
use Rattle.capnp_format.proofs.Trimmed.{trim-value, trim-depth, trim-capabilities}
use Rattle.capnp_format.proofs.Charges.{trim-charge, charge_within}

pub levels_from_depth : (S : Segments) (n m s p : ℕ) (t : Tree) (c : ℕ) → Means S n s p t c → Means S m s p t c ↔ (depth t ≤ m)
levels_from_depth S n m s p t c h = (λ k. depth_within t (record { means = k }), λ l. other_levels m t l (record { means = h }))

pub decode_agrees : (S : Segments) (n s p : ℕ) (t : Tree) (c : ℕ) → (decode S n s p ≡ Some (t, c)) ↔ Means S n s p t c
decode_agrees S n s p t c = (λ e. at_some _ (decode S n s p) (t, c) e (decode_means S n s p), λ h. decode_finds S n s p t h)

-- an option without a value
no_value : {A : Type 0} (o : Option A) → ((x : A) → o ≡ Some x → ⊥) → o ≡ None
no_value (Some x) h = absurd (h x refl)
no_value None h = refl

pub decode_refuses : (S : Segments) (n s p : ℕ) → (decode S n s p ≡ None) ↔ ((t : Tree) (c : ℕ) → Means S n s p t c → ⊥)
decode_refuses S n s p = (
  λ e t c h. decode_none {S = S} {n = n} {s = s} {p = p} {c = c} {t = t} e (record { means = h }),
  λ h. no_value (decode S n s p) (λ x e. h x.0 x.1 (at_some _ (decode S n s p) x e (decode_means S n s p))),
)

pub body_length : (t : Tree) → IsValue t → length (body t) ≡ word_count t
body_length t v = length-body t v

pub canonical_words_mean : (t : Tree) (more : List ℕ) (n : ℕ) → IsValue t → IsEncodable t → depth t ≤ n → Means ((encoding t ++ more) ∷ []) n 0 0 t (charge t)
canonical_words_mean t more n v f l = other_levels n t l (record { means = encoding_means t more v f })

pub encodings_differ : (t u : Tree) → IsValue t → IsEncodable t → IsValue u → IsEncodable u → encoding t ≡ encoding u → t ≡ u
encodings_differ t u v f w g e =
    let a : BeginsWith (encoding u ++ []) t = record { is_value = v; encodable = f; more = []; begins = ap (λ ws. ws ++ []) e } in
    let b : BeginsWith (encoding u ++ []) u = record { is_value = w; encodable = g; more = []; begins = refl } in
    one_encoding a b

append_itself : (xs ys : List ℕ) → xs ++ ys ≡ xs → ys ≡ []
append_itself xs [] e = refl
append_itself xs (y ∷ ys) e = absurd (omega (arith, length-append xs (y ∷ ys), ap length e))

pub no_encoding_begins : (t u : Tree) (more : List ℕ) → IsValue t → IsEncodable t → IsValue u → IsEncodable u → encoding t ++ more ≡ encoding u → more ≡ []
no_encoding_begins t u more v f w g e =
    let nothing : encoding u ++ [] ≡ encoding u = append-nil (encoding u) in
    let a : BeginsWith (encoding u ++ []) t = record { is_value = v; encodable = f; more = more; begins = e ∙ sym nothing } in
    let b : BeginsWith (encoding u ++ []) u = record { is_value = w; encodable = g; more = []; begins = refl } in
    let same : t ≡ u = one_encoding a b in
    append_itself (encoding t) more (e ∙ ap encoding (sym same))

pub same_canonical_words : (S R : Segments) (n s p m u q c e : ℕ) (t v : Tree) → AreWords S → AreWords R → Means S n s p t c → Means R m u q v e → IsEncodable (trim t) → IsEncodable (trim v) → (encoding (trim t) ≡ encoding (trim v)) ↔ (trim t ≡ trim v)
same_canonical_words S R n s p m u q c e t v wS wR h k f g = (
  λ x. encodings_differ (trim t) (trim v) (trim-value t (means_value S n s p t c wS h)) f (trim-value v (means_value R m u q v e wR k)) g x,
  λ x. ap encoding x,
)

pub canonical_cost : (S : Segments) (n s p : ℕ) (t : Tree) (c : ℕ) → AreWords S → Means S n s p t c → charge (trim t) ≤ c
canonical_cost S n s p t c w h = le_trans (trim-charge t (means_value S n s p t c w h)) (charge_within t (record { means = h }))

pub canonical_length : (S : Segments) (n s p : ℕ) (t : Tree) (c : ℕ) → AreWords S → Means S n s p t c → length (body (trim t)) ≤ c
canonical_length S n s p t c w h =
    let v = means_value S n s p t c w h in
    omega (arith, length-body (trim t) (trim-value t v), trim-words t v, words_within_cost t (record { means = h }))

pub trim_twice : (t : Tree) → IsTrimmed (trim t)
trim_twice t = trim-trim t

pub trim_keeps : (t : Tree) → IsValue t → IsValue (trim t) × (word_count (trim t) ≤ word_count t) × (depth (trim t) ≡ depth t) × (capabilities (trim t) ≡ capabilities t)
trim_keeps t v = (trim-value t v, trim-words t v, trim-depth t, trim-capabilities t)

pub canonical_again : (t u : Tree) (more : List ℕ) (n c : ℕ) → IsValue t → IsEncodable (trim t) → Means ((encoding (trim t) ++ more) ∷ []) n 0 0 u c → encoding (trim u) ≡ encoding (trim t)
canonical_again t u more n c v f h =
    let l = one_value _ n (depth (trim t)) 0 0 u (trim t) c (charge (trim t)) h (encoding_means (trim t) more (trim-value t v) f) in
    ap (λ x. encoding (trim x)) l.0 ∙ ap encoding (trim-trim t)

-- after the end of a segment there is only an empty body
empty_past : (S : Segments) (s h : ℕ) (ws : List ℕ) → length (segment S s) ≤ h → HasWords S s h ws → ws ≡ []
empty_past S s h ws past e = sym e ∙ ap (take (length ws)) (drop_of_length-le (segment S s) past) ∙ take-nil (length ws)

-- canonical words of t with the body at or after the end of their segment are also canonical words
-- of t in a longer segment
longer : {S : Segments} {s p h : ℕ} {t : Tree} → length (segment S s) ≤ h → Standing S s p h t → HasCanonicalAt ((segment S s ++ replicate h 0) ∷ []) 0 p h t
longer {S = S} {s = s} {p = p} {h = h} {t = t} past standing =
    let a = standing.stands in
    let R : Segments = (segment S s ++ replicate h 0) ∷ [] in
    let nothing : body t ≡ [] = empty_past S s h (body t) past a.5.2 in
    let here : word_at R 0 p ≡ word_at S s p = get_or-append (segment S s) (replicate h 0) 0 p a.0 in (
      omega (arith, a.0, length-append (segment S s) (replicate h 0)),
      a.1,
      a.2,
      a.3,
      a.4,
      (a.5.0, here ∙ a.5.1, subst (λ ws. HasWords R 0 h ws) (sym nothing) refl),
    )

pub one_stands : (S : Segments) (s p h : ℕ) (t u : Tree) → HasCanonicalAt S s p h t → HasCanonicalAt S s p h u → t ≡ u
one_stands S s p h t u a b =
    let left : Standing S s p h t = record { stands = a } in
    let right : Standing S s p h u = record { stands = b } in
    elim (cases_lt h (length (segment S s))) [
      | inl l ↦ only_one (omega arith) left right
      | inr l ↦ only_one (omega (arith, length-append (segment S s) (replicate h 0), length-replicate {A = ℕ} h 0))
          (let r : Standing ((segment S s ++ replicate h 0) ∷ []) 0 p h t = record { stands = longer (omega arith) left } in r)
          (let r : Standing ((segment S s ++ replicate h 0) ∷ []) 0 p h u = record { stands = longer (omega arith) right } in r)
    ]

-- the least widths

used_from-within : (b : Bool) (k n : ℕ) → k ≤ n → used_from b k ≤ suc n
used_from-within true zero n l = omega arith
used_from-within true (suc k) n l = omega arith
used_from-within false k n l = omega arith

used_from-empty : (b : Bool) (k : ℕ) → b ≡ true → k ≤ 0 → used_from b k ≤ 0
used_from-empty b zero e l = rw e (omega arith)
used_from-empty b (suc k) e l = absurd (omega arith)

pub null_is : (t : Tree) → is_null t ≡ true → t ≡ Null
null_is Null e = refl
null_is (Capability i) e = absurd (cc e)
null_is (Struct ws ts) e = absurd (cc e)
null_is (Flat size ns) e = absurd (cc e)
null_is (Pointers ts) e = absurd (cc e)
null_is (Structs d q es) e = absurd (cc e)

zeros_past : (n : ℕ) (ws : List ℕ) → used_words ws ≤ n → (i : ℕ) → n ≤ i → get_or ws i 0 ≡ 0
zeros_past n [] l i m = refl
zeros_past zero (x ∷ xs) l zero m = eqb-true x 0 (used_from-past (nat_eq x 0) (used_words xs) l).0
zeros_past zero (x ∷ xs) l (suc i) m = zeros_past zero xs (omega (arith, (used_from-past (nat_eq x 0) (used_words xs) l).1)) i (omega arith)
zeros_past (suc n) (x ∷ xs) l zero m = absurd (omega arith)
zeros_past (suc n) (x ∷ xs) l (suc i) m = zeros_past n xs (used_from-rest (nat_eq x 0) (used_words xs) n l) i (omega arith)

words_within : (n : ℕ) (ws : List ℕ) → ((i : ℕ) → n ≤ i → get_or ws i 0 ≡ 0) → used_words ws ≤ n
words_within n [] h = omega arith
words_within zero (x ∷ xs) h = used_from-empty (nat_eq x 0) (used_words xs) (eq-eqb x 0 (h 0 (omega arith))) (words_within zero xs (λ i l. h (suc i) (omega arith)))
words_within (suc n) (x ∷ xs) h = used_from-within (nat_eq x 0) (used_words xs) n (words_within n xs (λ i l. h (suc i) (omega arith)))

nulls_past : (n : ℕ) (ts : Trees) → used_trees ts ≤ n → AreNullFrom n ts
nulls_past n no_trees l = tt
nulls_past zero (tree t ts) l =
    let e = used_from-past (is_null t) (used_trees ts) l in
    (null_is t e.0, nulls_past zero ts (omega (arith, e.1)))
nulls_past (suc n) (tree t ts) l = nulls_past n ts (used_from-rest (is_null t) (used_trees ts) n l)

children_within : (n : ℕ) (ts : Trees) → AreNullFrom n ts → used_trees ts ≤ n
children_within n no_trees h = omega arith
children_within zero (tree t ts) h = used_from-empty (is_null t) (used_trees ts) (ap is_null h.0) (children_within zero ts h.1)
children_within (suc n) (tree t ts) h = used_from-within (is_null t) (used_trees ts) n (children_within n ts h)

pub least_words : (n : ℕ) (ws : List ℕ) → (used_words ws ≤ n) ↔ ((i : ℕ) → n ≤ i → get_or ws i 0 ≡ 0)
least_words n ws = (zeros_past n ws, words_within n ws)

pub least_children : (n : ℕ) (ts : Trees) → (used_trees ts ≤ n) ↔ AreNullFrom n ts
least_children n ts = (nulls_past n ts, children_within n ts)

data_past : (d : ℕ) (es : Elements) → data_width es ≤ d → (ws : List ℕ) (ts : Trees) → HasElement es ws ts → used_words ws ≤ d
data_past d no_elements l vs us h = absurd h
data_past d (element ws ts es) l vs us (inl h) = omega (arith, ap used_words h.0)
data_past d (element ws ts es) l vs us (inr h) = data_past d es (omega arith) vs us h

data_within : (d : ℕ) (es : Elements) → ((ws : List ℕ) (ts : Trees) → HasElement es ws ts → used_words ws ≤ d) → data_width es ≤ d
data_within d no_elements h = omega arith
data_within d (element ws ts es) h = omega (arith, h ws ts (inl (refl, refl)), data_within d es (λ vs us k. h vs us (inr k)))

pointers_past : (q : ℕ) (es : Elements) → pointer_width es ≤ q → (ws : List ℕ) (ts : Trees) → HasElement es ws ts → used_trees ts ≤ q
pointers_past q no_elements l vs us h = absurd h
pointers_past q (element ws ts es) l vs us (inl h) = omega (arith, ap used_trees h.1)
pointers_past q (element ws ts es) l vs us (inr h) = pointers_past q es (omega arith) vs us h

pointers_within : (q : ℕ) (es : Elements) → ((ws : List ℕ) (ts : Trees) → HasElement es ws ts → used_trees ts ≤ q) → pointer_width es ≤ q
pointers_within q no_elements h = omega arith
pointers_within q (element ws ts es) h = omega (arith, h ws ts (inl (refl, refl)), pointers_within q es (λ vs us k. h vs us (inr k)))

pub least_data_width : (d : ℕ) (es : Elements) → (data_width es ≤ d) ↔ ((ws : List ℕ) (ts : Trees) → HasElement es ws ts → (i : ℕ) → d ≤ i → get_or ws i 0 ≡ 0)
least_data_width d es = (λ l ws ts h. zeros_past d ws (data_past d es l ws ts h), λ h. data_within d es (λ ws ts k. words_within d ws (h ws ts k)))

pub least_pointer_width : (q : ℕ) (es : Elements) → (pointer_width es ≤ q) ↔ ((ws : List ℕ) (ts : Trees) → HasElement es ws ts → AreNullFrom q ts)
least_pointer_width q es = (λ l ws ts h. nulls_past q ts (pointers_past q es l ws ts h), λ h. pointers_within q es (λ ws ts k. children_within q ts (h ws ts k)))

pub element_is_bits : (size n i : ℕ) (words : List ℕ) → i < n → get_or (unpacked size n words) i 0 ≡ from_digits (2 ^ 64) words / 2 ^ (element_bits size * i) % 2 ^ element_bits size
element_is_bits size n i words l =
    digit_at (2 ^ element_bits size) n (from_digits (2 ^ 64) words) i l
    ∙ ap (λ m. from_digits (2 ^ 64) words / m % 2 ^ element_bits size) (pow_pow (element_bits size) i)

-- a forest has its root word
root_there : (S : Segments) (t : Tree) → IsForest S t → 0 < length (segment S 0)
root_there S t h = h.inside 0 0 (omega arith)

pub one_arena_value : (S : Segments) (t u : Tree) → ArenaHolds S t → ArenaHolds S u → t ≡ u
one_arena_value S t u (inl h) (inl k) = (one_value S h.means.0 k.means.0 0 0 t u h.means.1 k.means.1 h.means.2 k.means.2).0
one_arena_value S t u (inl h) (inr k) = absurd (omega (arith, root_there S t h, k.0))
one_arena_value S t u (inr h) (inl k) = absurd (omega (arith, root_there S u k, h.0))
one_arena_value S t u (inr h) (inr k) = h.1 ∙ sym k.1
