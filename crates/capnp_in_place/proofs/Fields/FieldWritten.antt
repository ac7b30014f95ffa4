-- Data words, numbers and bits written in their places: the value is replaced by the one that holds
-- them.
use Rattle.std.proofs.Common.{◌≡◌, ℕ, zero, suc, pred, ◌+◌, ◌*◌, ◌/◌, ◌%◌, ◌^◌, ◌<◌, ◌≤◌, List, [], ◌∷◌, length, get_or, set, take, drop, sym, ap, ap₂, ◌∙◌, subst, arith}
use Rattle.std.proofs.lemmas.Bool.Decides.{nat_tests}
use Rattle.std.proofs.lemmas.List.{length-set, drop-set-add, get_or-take, get_or-drop}
use Rattle.std.proofs.lemmas.Nat.{pow_pos}
use Rattle.std.proofs.Math.Seq.{take-set-lt}
use Rattle.capnp_format.specs.Numbers.{words_for, packed, element_bits, from_digits, digits}
use Rattle.capnp_format.specs.Value.{AreBelow}
use Rattle.capnp_format.specs.Segments.{Segments, segment, word_at, words_at, HasWords, Target}
use Rattle.capnp_format.specs.Tree.{Struct, Flat, Structs, Trees, Elements, no_elements, element, element_count}
use Rattle.capnp_format.specs.Means.{Means, MeansElements}
use Rattle.capnp_format.specs.Forest.{Interval, times, object_of, target, target_in}
use Rattle.capnp_format.proofs.Bounds.{digits_below}
use Rattle.capnp_arena_traits.specs.Written.{with_word}
use Rattle.capnp_allocation.specs.Fields.{with_field}
use Rattle.capnp_format.specs.Fields.{with_bits, put_field}
use Rattle.capnp_format.specs.Path.{struct_at, put_struct, word_interval}
use Rattle.capnp_allocation.specs.Stored.{IsStored, IsReplaced}
use Rattle.capnp_in_place.proofs.Fields.DigitReplaced.{field_in_words, from_digits-set, from_digits-part}
use Rattle.capnp_in_place.proofs.Fields.BitsReplaced.{with_bits-below}
use Rattle.capnp_allocation.proofs.MadeWords.{IsPut, word_put}
use Rattle.capnp_allocation.proofs.Written.{SameLengths, SameBut, with_data, data_written, flat_target, flat_written, element_words, element_data_written}
use Rattle.capnp_allocation.proofs.Zeros.{there, segment_here}

-- Writing one word leaves the lengths of all segments.
put_lengths : {S R : Segments} {s p x : ℕ} → IsPut S R s p x → SameLengths S R
put_lengths w = record { segments = w.segments; words = w.words }

in_interval : (i : Interval) (p v r : ℕ) → i.start ≤ p → p < i.start + i.words → times (word_interval i.segment p ∷ []) v r ≤ times (i ∷ []) v r
in_interval i p v r l m = grind (arith, nat_tests)

put_same_but : (S R : Segments) (i : Interval) (p x : ℕ) → i.start ≤ p → p < i.start + i.words → IsPut S R i.segment p x → SameBut S R i
put_same_but S R i p x l m w = λ v r h. w.kept v r (omega (arith, in_interval i p v r l m))

put_words : (S R : Segments) (s p j n x : ℕ) → R ≡ with_word S s (p + j) x → s < length S → j < n → words_at R s p n ≡ set (words_at S s p n) j x
put_words S R s p j n x e l m =
    ap (λ T. words_at T s p n) e
    ∙ ap (λ xs. take n (drop p xs)) (segment_here S s (set (segment S s) (p + j) x) l)
    ∙ ap (take n) (drop-set-add p (segment S s) j x)
    ∙ take-set-lt n (drop p (segment S s)) j x m

put_has_words : (S R : Segments) (s p j x : ℕ) (ws : List ℕ) → R ≡ with_word S s (p + j) x → s < length S → j < length ws → HasWords S s p ws → HasWords R s p (set ws j x)
put_has_words S R s p j x ws e l m h =
    ap (words_at R s p) (length-set ws j x) ∙ put_words S R s p j (length ws) x e l m ∙ ap (λ xs. set xs j x) h

-- Data word j of a struct is written.
pub data_word_written : (S R : Segments) (s p : ℕ) (ws : List ℕ) (ts : Trees) (j x : ℕ) → IsStored S s p (Struct ws ts) → j < length ws → R ≡ with_word S (target S s p).segment ((target S s p).start + j) x →
    IsReplaced S R s p (Struct ws ts) (Struct (set ws j x) ts)
data_word_written S R s p ws ts j x a l e =
    let m = a.means in
    data_word_written_at m.0 m.1 m.2
  where
    data_word_written_at : (n c : ℕ) → Means S n s p (Struct ws ts) c → IsReplaced S R s p (Struct ws ts) (Struct (set ws j x) ts)
    data_word_written_at n c (b, k, some, o, claim, words, all, g) =
        let to_b = ap target_in o.leads_to.1 in
        let made : R ≡ with_word S b.segment (b.start + j) x = e ∙ ap (λ (t : Target). with_word S t.segment (t.start + j) x) to_b in
        let place : b.start + j < length (segment S b.segment) = omega (arith, claim, l) in
        let w = word_put S R b.segment (b.start + j) x place made in
        data_written S R s p ws (set ws j x) ts (put_lengths w) a (length-set ws j x)
        (subst (λ (t : Target). SameBut S R (object_of t (length ws))) (sym to_b) (put_same_but S R (object_of b (length ws)) (b.start + j) x (omega arith) (omega (arith, l)) w))
        (subst (λ (t : Target). HasWords R t.segment t.start (set ws j x)) (sym to_b) (put_has_words S R b.segment b.start j x ws made (there S b.segment (b.start + j) place) l words))

-- Writing bits in n words that are in a segment is writing one word.
field_as_word : (S : Segments) (s p n b w v : ℕ) (ws : List ℕ) → words_at S s p n ≡ ws → b < 64 * n →
    with_field S s (64 * p + b) w v ≡ with_word S s (p + b / 64) (with_bits (get_or ws (b / 64) 0) (b % 64) w v)
field_as_word S s p n b w v ws h l =
    let j : ℕ = b / 64 in
    let at : (64 * p + b) / 64 ≡ p + j = omega arith in
    let low : (64 * p + b) % 64 ≡ b % 64 = omega arith in
    let here : get_or (segment S s) (p + j) 0 ≡ get_or ws j 0 =
    sym (get_or-drop p (segment S s) j 0) ∙ sym (get_or-take n (drop p (segment S s)) j 0 (omega arith)) ∙ ap (λ xs. get_or xs j 0) h in
    ap₂ (λ i o. with_word S s i (with_bits (word_at S s i) o w v)) at low ∙ ap (λ y. with_word S s (p + j) (with_bits y (b % 64) w v)) here

-- Bits of a struct's data are written, counted from its first word on.
pub data_field_written : (S R : Segments) (s p : ℕ) (ws : List ℕ) (ts : Trees) (b w v : ℕ) → IsStored S s p (Struct ws ts) → b < 64 * length ws → R ≡ with_field S (target S s p).segment (64 * (target S s p).start + b) w v →
    IsReplaced S R s p (Struct ws ts) (Struct (put_field ws b w v) ts)
data_field_written S R s p ws ts b w v a l e =
    let m = a.means in
    data_word_written S R s p ws ts (b / 64) (with_bits (get_or ws (b / 64) 0) (b % 64) w v) a (omega arith)
    (e ∙ field_as_word S (target S s p).segment (target S s p).start (length ws) b w v ws (words_there m.0 m.1 m.2) l)
  where
    words_there : (n c : ℕ) → Means S n s p (Struct ws ts) c → HasWords S (target S s p).segment (target S s p).start ws
    words_there n c (b, k, some, o, claim, words, all, g) = subst (λ (t : Target). HasWords S t.segment t.start ws) (sym (ap target_in o.leads_to.1)) words

-- The data words of element i of a list of structs.
pub element_has_words : (S : Segments) (n s p d q : ℕ) (es : Elements) (c i : ℕ) (ws : List ℕ) (ts : Trees) → MeansElements S n s p d q es c → i < element_count es → struct_at es i ≡ Struct ws ts → (length ws ≡ d) × HasWords S s (p + i * (d + q)) ws
element_has_words S n s p d q no_elements c i ws ts m l e = absurd (omega arith)
element_has_words S n s p d q (element vs us es) c zero ws ts (a, b, long, number, words, all, rest, g) l e =
    let same : vs ≡ ws = cc in (ap length (sym same) ∙ long, subst (λ z. HasWords S s z ws) (let f : p ≡ p + 0 * (d + q) = omega arith in f) (subst (HasWords S s p) same words))
element_has_words S n s p d q (element vs us es) c (suc i) ws ts (a, b, long, number, words, all, rest, g) l e =
    let r = element_has_words S n s (p + d + q) d q es b i ws ts rest (omega arith) e in
    (r.0, subst (λ z. HasWords S s z ws) (let f : p + d + q + i * (d + q) ≡ p + suc i * (d + q) = omega arith in f) r.1)

row_within : (i n d q m : ℕ) → i < n → n * (d + q) ≤ m → i * (d + q) + d ≤ m
row_within i n d q m l f = grind arith

-- Data word j of element i of a list of structs is written.
pub element_word_written : (S R : Segments) (s p d q : ℕ) (es : Elements) (i : ℕ) (ws : List ℕ) (ts : Trees) (j x : ℕ) → IsStored S s p (Structs d q es) → i < element_count es → struct_at es i ≡ Struct ws ts → j < length ws →
    R ≡ with_word S (target S s p).segment ((target S s p).start + 1 + i * (d + q) + j) x → IsReplaced S R s p (Structs d q es) (Structs d q (put_struct es i (Struct (set ws j x) ts)))
element_word_written S R s p d q es i ws ts j x a l is f e =
    let m = a.means in
    element_word_written_at m.0 m.1 m.2
  where
    element_word_written_at : (n c : ℕ) → Means S n s p (Structs d q es) c → IsReplaced S R s p (Structs d q es) (Structs d q (put_struct es i (Struct (set ws j x) ts)))
    element_word_written_at n c (b, m, k, some, o, claim, tag, fits, all, g) =
        let to_b = ap target_in o.leads_to.1 in
        let first : ℕ = b.start + 1 + i * (d + q) in
        let words = element_has_words S (pred n) b.segment (b.start + 1) d q es k i ws ts all l is in
        let made : R ≡ with_word S b.segment (first + j) x = e ∙ ap (λ (t : Target). with_word S t.segment (t.start + 1 + i * (d + q) + j) x) to_b in
        let place : first + j < length (segment S b.segment) = omega (arith, claim, f, words.0, row_within i (element_count es) d q m l fits) in
        let w = word_put S R b.segment (first + j) x place made in
        subst (λ u. IsReplaced S R s p (Structs d q es) (Structs d q (put_struct es i u))) (ap (λ u. with_data u (set ws j x)) is)
        (element_data_written S R s p d q es i (set ws j x) (put_lengths w) a l (length-set ws j x ∙ words.0)
        (subst (λ (t : Target). SameBut S R (element_words t d q i)) (sym to_b) (put_same_but S R (element_words b d q i) (first + j) x (omega arith) (omega (arith, f, words.0)) w))
        (subst (λ (t : Target). HasWords R t.segment (t.start + 1 + i * (d + q)) (set ws j x)) (sym to_b) (put_has_words S R b.segment first j x ws made (there S b.segment (first + j) place) f words.1)))

-- Bits of element i's data are written, counted from the element's first word on.
pub element_field_written : (S R : Segments) (s p d q : ℕ) (es : Elements) (i : ℕ) (ws : List ℕ) (ts : Trees) (b w v : ℕ) → IsStored S s p (Structs d q es) → i < element_count es → struct_at es i ≡ Struct ws ts → b < 64 * length ws →
    R ≡ with_field S (target S s p).segment (64 * ((target S s p).start + 1 + i * (d + q)) + b) w v → IsReplaced S R s p (Structs d q es) (Structs d q (put_struct es i (Struct (put_field ws b w v) ts)))
element_field_written S R s p d q es i ws ts b w v a l is f e =
    let m = a.means in
    element_word_written S R s p d q es i ws ts (b / 64) (with_bits (get_or ws (b / 64) 0) (b % 64) w v) a l is (omega arith)
    (e ∙ field_as_word S (target S s p).segment ((target S s p).start + 1 + i * (d + q)) (length ws) b w v ws (words_there m.0 m.1 m.2) f)
  where
    words_there : (n c : ℕ) → Means S n s p (Structs d q es) c → HasWords S (target S s p).segment ((target S s p).start + 1 + i * (d + q)) ws
    words_there n c (b, m, k, some, o, claim, tag, fits, all, g) =
        subst (λ (t : Target). HasWords S t.segment (t.start + 1 + i * (d + q)) ws) (sym (ap target_in o.leads_to.1)) (element_has_words S (pred n) b.segment (b.start + 1) d q es k i ws ts all l is).1

-- Element i of a list of n numbers or bits is inside one word, and inside the words of the list.
record StandsInWord (size i n : ℕ) : Type 0 where
  alone : i * element_bits size % 64 + element_bits size ≤ 64
  inside : i * element_bits size < 64 * words_for size n

stands_in_word : (size i n : ℕ) → 0 < size → size ≤ 5 → i < n → StandsInWord size i n
stands_in_word zero i n some few l = absurd (omega arith)
stands_in_word (suc zero) i n some few l = record { alone = omega arith; inside = omega arith }
stands_in_word (suc (suc zero)) i n some few l = record { alone = omega arith; inside = omega arith }
stands_in_word (suc (suc (suc zero))) i n some few l = record { alone = omega arith; inside = omega arith }
stands_in_word (suc (suc (suc (suc zero)))) i n some few l = record { alone = omega arith; inside = omega arith }
stands_in_word (suc (suc (suc (suc (suc zero))))) i n some few l = record { alone = omega arith; inside = omega arith }
stands_in_word (suc (suc (suc (suc (suc (suc k)))))) i n some few l = absurd (omega arith)

below_set : (limit : ℕ) (ns : List ℕ) (i v : ℕ) → AreBelow limit ns → v < limit → AreBelow limit (set ns i v)
below_set limit [] i v h l = tt
below_set limit (n ∷ ns) zero v h l = (l, h.1)
below_set limit (n ∷ ns) (suc i) v h l = (h.0, below_set limit ns i v h.1 l)

packed-set : (size : ℕ) (ns : List ℕ) (i v : ℕ) → AreBelow (2 ^ element_bits size) ns → i < length ns → v < 2 ^ element_bits size → StandsInWord size i (length ns) → packed size (set ns i v) ≡ put_field (packed size ns) (i * element_bits size) (element_bits size) v
packed-set size ns i v h l small at =
    let w : ℕ = element_bits size in
    ap₂ (λ n x. digits (2 ^ 64) (words_for size n) x) (length-set ns i v) (from_digits-set w i v ns h l small)
    ∙ field_in_words (words_for size (length ns)) (from_digits (2 ^ w) ns) (i * w) w v (omega (arith, at.inside)) at.alone small

packed-part : (size : ℕ) (ns : List ℕ) (i u v : ℕ) → AreBelow (2 ^ element_bits size) ns → i < length ns → u ≤ element_bits size → v < 2 ^ u → StandsInWord size i (length ns) →
    packed size (set ns i (with_bits (get_or ns i 0) 0 u v)) ≡ put_field (packed size ns) (i * element_bits size) u v
packed-part size ns i u v h l m small at =
    let w : ℕ = element_bits size in
    ap₂ (λ n x. digits (2 ^ 64) (words_for size n) x) (length-set ns i (with_bits (get_or ns i 0) 0 u v)) (from_digits-part w i u v ns h l m small)
    ∙ field_in_words (words_for size (length ns)) (from_digits (2 ^ w) ns) (i * w) u v (omega (arith, at.inside)) (omega (arith, at.alone)) small

-- Each element of a stored list has no more bits than its width.
flat_below : (S : Segments) (s p size : ℕ) (ns : List ℕ) → IsStored S s p (Flat size ns) → (size ≤ 5) × AreBelow (2 ^ element_bits size) ns
flat_below S s p size ns x =
    let m = x.means in
    below m.0 m.1 m.2
  where
    below : (n c : ℕ) → Means S n s p (Flat size ns) c → (size ≤ 5) × AreBelow (2 ^ element_bits size) ns
    below n c (a, some, few, o, claim, is, g) =
        let w : ℕ = element_bits size in
        (few, subst (AreBelow (2 ^ w)) (sym is) (digits_below (2 ^ w) (length ns) (from_digits (2 ^ 64) (words_at S a.segment a.start (words_for size (length ns)))) (pow_pos w)))

-- Bits are written in the words of a list of numbers or bits, which has the elements ms afterwards.
flat_bits_written : (S R : Segments) (s p size : ℕ) (ns ms : List ℕ) (b u v : ℕ) → IsStored S s p (Flat size ns) → b < 64 * words_for size (length ns) → length ms ≡ length ns → AreBelow (2 ^ element_bits size) ms →
    packed size ms ≡ put_field (packed size ns) b u v → R ≡ with_field S (target S s p).segment (64 * (target S s p).start + b) u v → IsReplaced S R s p (Flat size ns) (Flat size ms) × (target R s p ≡ target S s p)
flat_bits_written S R s p size ns ms b u v x inside long below same e =
    let m = x.means in
    flat_bits_written_at m.0 m.1 m.2
  where
    flat_bits_written_at : (n c : ℕ) → Means S n s p (Flat size ns) c → IsReplaced S R s p (Flat size ns) (Flat size ms) × (target R s p ≡ target S s p)
    flat_bits_written_at n c (a, some, few, o, claim, is, g) =
        let k : ℕ = words_for size (length ns) in
        let j : ℕ = b / 64 in
        let to_a = ap target_in o.leads_to.1 in
        let here : words_at S a.segment a.start k ≡ packed size ns = subst (λ (t : Target). words_at S t.segment t.start k ≡ packed size ns) to_a x.tidy in
        let y : ℕ = with_bits (get_or (packed size ns) j 0) (b % 64) u v in
        let made : R ≡ with_word S a.segment (a.start + j) y =
        e ∙ ap (λ (t : Target). with_field S t.segment (64 * t.start + b) u v) to_a ∙ field_as_word S a.segment a.start k b u v (packed size ns) here inside in
        let within : j < k = omega (arith, inside) in
        let place : a.start + j < length (segment S a.segment) = omega (arith, claim, within) in
        let put = word_put S R a.segment (a.start + j) y place made in
        let there_now : words_at R a.segment a.start k ≡ packed size ms =
        put_words S R a.segment a.start j k y made (there S a.segment (a.start + j) place) within ∙ ap (λ xs. set xs j y) here ∙ sym same in
        let but = subst (λ (t : Target). SameBut S R (object_of t k)) (sym to_a) (put_same_but S R (object_of a k) (a.start + j) y (omega arith) (omega (arith, within)) put) in (
          flat_written S R s p size ns ms (put_lengths put) x long below but (subst (λ (t : Target). words_at R t.segment t.start k ≡ packed size ms) (sym to_a) there_now),
          flat_target S R s p size ns (put_lengths put) x but,
        )

-- Element i of a list of numbers or bits is written. The list stays where it is.
flat_element_put : (S R : Segments) (s p size : ℕ) (ns : List ℕ) (i v : ℕ) → IsStored S s p (Flat size ns) → 0 < size → i < length ns → v < 2 ^ element_bits size →
    R ≡ with_field S (target S s p).segment (64 * (target S s p).start + i * element_bits size) (element_bits size) v → IsReplaced S R s p (Flat size ns) (Flat size (set ns i v)) × (target R s p ≡ target S s p)
flat_element_put S R s p size ns i v x wide l small e =
    let (few, below) = flat_below S s p size ns x in
    let at = stands_in_word size i (length ns) wide few l in
    flat_bits_written S R s p size ns (set ns i v) (i * element_bits size) (element_bits size) v x at.inside (length-set ns i v) (below_set (2 ^ element_bits size) ns i v below small) (packed-set size ns i v below l small at) e

pub flat_element_written : (S R : Segments) (s p size : ℕ) (ns : List ℕ) (i v : ℕ) → IsStored S s p (Flat size ns) → 0 < size → i < length ns → v < 2 ^ element_bits size →
    R ≡ with_field S (target S s p).segment (64 * (target S s p).start + i * element_bits size) (element_bits size) v → IsReplaced S R s p (Flat size ns) (Flat size (set ns i v))
flat_element_written S R s p size ns i v x wide l small e = (flat_element_put S R s p size ns i v x wide l small e).0

pub flat_element_stays : (S R : Segments) (s p size : ℕ) (ns : List ℕ) (i v : ℕ) → IsStored S s p (Flat size ns) → 0 < size → i < length ns → v < 2 ^ element_bits size →
    R ≡ with_field S (target S s p).segment (64 * (target S s p).start + i * element_bits size) (element_bits size) v → target R s p ≡ target S s p
flat_element_stays S R s p size ns i v x wide l small e = (flat_element_put S R s p size ns i v x wide l small e).1

-- The lowest u bits of element i of a list of numbers or bits are written.
pub flat_part_written : (S R : Segments) (s p size : ℕ) (ns : List ℕ) (i u v : ℕ) → IsStored S s p (Flat size ns) → 0 < size → i < length ns → u ≤ element_bits size → v < 2 ^ u →
    R ≡ with_field S (target S s p).segment (64 * (target S s p).start + i * element_bits size) u v → IsReplaced S R s p (Flat size ns) (Flat size (set ns i (with_bits (get_or ns i 0) 0 u v)))
flat_part_written S R s p size ns i u v x wide l part small e =
    let (few, below) = flat_below S s p size ns x in
    let at = stands_in_word size i (length ns) wide few l in
    let y : ℕ = with_bits (get_or ns i 0) 0 u v in
    let fits : y < 2 ^ element_bits size = with_bits-below (get_or ns i 0) 0 u v (element_bits size) small (omega (arith, part)) (each_below (2 ^ element_bits size) ns i below l) in
    (flat_bits_written S R s p size ns (set ns i y) (i * element_bits size) u v x at.inside (length-set ns i y) (below_set (2 ^ element_bits size) ns i y below fits) (packed-part size ns i u v below l part small at) e).0
  where
    each_below : (limit : ℕ) (ns : List ℕ) (i : ℕ) → AreBelow limit ns → i < length ns → get_or ns i 0 < limit
    each_below limit [] i h l = absurd (omega arith)
    each_below limit (n ∷ ns) zero h l = h.0
    each_below limit (n ∷ ns) (suc i) h l = each_below limit ns i h.1 (omega arith)
