-- One object is marked: what is counted with it before is what is counted without it afterwards; or
-- nothing can be counted.
use Rattle.std.proofs.Common.{◌≡◌, ◌≢◌, ◌↔◌, ℕ, zero, suc, length-append, ◌+◌, ◌*◌, ◌^◌, ◌<◌, ◌≤◌, List, [], ◌∷◌, ◌++◌, length, Some, None, refl, sym, ap, ap₂, ◌∙◌, subst, arith, pow_pos}
use Rattle.capnp_format.specs.Word.{kind, lower_half, upper_half, data_words, pointer_count, element_size, list_count, capability_word}
use Rattle.capnp_format.specs.Numbers.{words_for, unpacked, packed, element_bits, from_digits}
use Rattle.capnp_format.specs.Value.{AreBelow}
use Rattle.capnp_format.specs.Segments.{Segments, segment, word_at, words_at, Target, leads}
use Rattle.capnp_format.specs.Tree.{Tree, Null, Capability, Struct, Flat, Pointers, Structs, count, element_count}
use Rattle.capnp_format.specs.Means.{Claims, IsTag}
use Rattle.capnp_format.specs.Forest.{times, pads_of, object_of, cover, cover_all, cover_elements}
use Rattle.capnp_format.proofs.Frame.{times-append}
use Rattle.capnp_format.proofs.Fields.{capability_again}
use Rattle.capnp_format.proofs.Bounds.{HasSmallWords, digits_below, words_below}
use Rattle.capnp_format.proofs.Digits.{length-digits}
use Rattle.capnp_format.proofs.Slices.{length_words}
use Rattle.capnp_format.specs.Padding.{IsPadded}
use Rattle.capnp_format.proofs.Frame.{of_row}
use Rattle.capnp_format.proofs.LandingPads.{pads_inside}
use Rattle.capnp_format.proofs.Padding.{packed-unpacked, packed_below}
use Rattle.capnp_format.proofs.ZeroWords.{zero_is_null}
use Rattle.capnp_format.specs.Forest.{row, object_cover, PadsInside}
use Rattle.layout_vectors.specs.Counts.{Counting, plus, Counts, MeansTidily, AreRead, IsTidyObject, ObjectCounts}
use Rattle.layout_vectors.specs.Marks.{IsMarkedWithin, TakesRow, TakesEach}
use Rattle.layout_vectors.specs.Spots.{spots, element_spots}
use Rattle.layout_vectors.specs.Walks.{Walk, FitsRows, Proceeds, TakesTarget, HasNoObject, TakesObject, Goes, FailsWalk}
use Rattle.capnp_arena_traits.specs.declared.arena.WordPlace.{WordPlace}
use Rattle.layout_vectors.proofs.Counting.{counts_same, counts_least, pushed_read, read_pushed, elements_pushed_read, elements_read_pushed}
use Rattle.layout_vectors.proofs.Taken.{keeps_itself, keeps_again}
use Rattle.std.specs.Prelude.{Result, Ok, Err, IfOk, Bool, true, false}
use Rattle.layout_vectors.proofs.Leading.{there_is, object_of_read, read_of_object}

-- one of the words is marked already
abbrev pub IsTakenAlready : Segments → (ℕ → ℕ → ℕ) → Type 0
IsTakenAlready M is = (u : ℕ) × (q : ℕ) × (0 < is u q) × (0 < word_at M u q)

capability_kind : (w i : ℕ) → w ≡ capability_word i → kind w ≡ 3
capability_kind w i e = ap kind e ∙ omega arith

-- a struct
pub struct_goes : (S : Segments) (a : Target) (M N : Counting) (J : List WordPlace) (d q : ℕ) → d ≡ data_words a.word → q ≡ pointer_count a.word → kind a.word ≡ 0 → Claims S a (d + q) →
    ((u v : ℕ) → N u v ≡ M u v + times (row a.segment a.start (d + q) ∷ []) u v) → (F : Counting) → ObjectCounts S a M J F ↔ Counts S N (J ++ spots a.segment (a.start + d) q) F
struct_goes S a M N J d q ed eq x claim is F = (λ h. to h.0 h.1 h.2, from)
  where
    same : (m : ℕ) (u v : ℕ) → m ≡ d + q → N u v ≡ M u v + times (row a.segment a.start m ∷ []) u v
    same m u v e = is u v ∙ ap (λ k. M u v + times (row a.segment a.start k ∷ []) u v) (sym e)

    to : (t : Tree) → IsTidyObject S a t → Counts S (plus M (times (object_cover S a t))) J F → Counts S N (J ++ spots a.segment (a.start + d) q) F
    to Null o h = absurd o
    to (Capability i) o h = absurd (omega (arith, x, capability_kind a.word i o))
    to (Struct ws ts) (y, fd, fq, inside, e, ks) h =
        let long : d ≡ length ws = ed ∙ fd in
        let len : q ≡ count ts = eq ∙ fq in
        let below = cover_all S a.segment (a.start + length ws) ts in
        subst (λ n. Counts S N (J ++ spots a.segment (a.start + n) q) F) (sym long) (subst (λ n. Counts S N (J ++ spots a.segment (a.start + length ws) n) F) (sym len)
        (read_pushed S N J a.segment (a.start + length ws) F ts ks
        (counts_same S (plus M (times (object_of a (length ws + count ts) ∷ below))) (plus N (times below)) J F (λ u v. omega (arith, same (length ws + count ts) u v (omega (arith, long, len)))) h)))
    to (Flat size ns) o h = absurd (omega (arith, x, o.1))
    to (Pointers ts) o h = absurd (omega (arith, x, o.0))
    to (Structs e f es) o h = absurd (omega (arith, x, o.0))

    from : Counts S N (J ++ spots a.segment (a.start + d) q) F → ObjectCounts S a M J F
    from h =
        let c = pushed_read S N J a.segment (a.start + d) q F h in
        let ws : List ℕ = words_at S a.segment a.start d in
        let long : length ws ≡ d = length_words S a.segment a.start d (omega (arith, claim)) in
        let below = cover_all S a.segment (a.start + length ws) c.children in
        let moved : cover_all S a.segment (a.start + d) c.children ≡ below = ap (λ n. cover_all S a.segment (a.start + n) c.children) (sym long) in (
          Struct ws c.children,
          (x, sym ed ∙ sym long, sym eq ∙ sym c.number, omega (arith, claim, long, c.number), ap (words_at S a.segment a.start) long, subst (λ n. AreRead S a.segment (a.start + n) c.children) (sym long) c.are_read),
          counts_same S (plus N (times (cover_all S a.segment (a.start + d) c.children))) (plus M (times (object_of a (length ws + count c.children) ∷ below))) J F
              (λ u v. omega (arith, same (length ws + count c.children) u v (omega (arith, long, c.number)), ap (λ is. times is u v) moved)) c.counts,
        )

-- a list of pointers
pub pointers_goes : (S : Segments) (a : Target) (M N : Counting) (J : List WordPlace) (n : ℕ) → n ≡ list_count a.word → kind a.word ≡ 1 → element_size a.word ≡ 6 → Claims S a n →
    ((u v : ℕ) → N u v ≡ M u v + times (row a.segment a.start n ∷ []) u v) → (F : Counting) → ObjectCounts S a M J F ↔ Counts S N (J ++ spots a.segment a.start n) F
pointers_goes S a M N J n en x six claim is F = (λ h. to h.0 h.1 h.2, from)
  where
    same : (m : ℕ) (u v : ℕ) → m ≡ n → N u v ≡ M u v + times (row a.segment a.start m ∷ []) u v
    same m u v e = is u v ∙ ap (λ k. M u v + times (row a.segment a.start k ∷ []) u v) (sym e)

    to : (t : Tree) → IsTidyObject S a t → Counts S (plus M (times (object_cover S a t))) J F → Counts S N (J ++ spots a.segment a.start n) F
    to Null o h = absurd o
    to (Capability i) o h = absurd (omega (arith, x, capability_kind a.word i o))
    to (Struct ws ts) o h = absurd (omega (arith, x, o.0))
    to (Flat size ns) o h = absurd (omega (arith, six, o.0, o.2))
    to (Pointers ts) (y, z, fn, inside, ks) h =
        let len : n ≡ count ts = en ∙ fn in
        let below = cover_all S a.segment a.start ts in
        subst (λ m. Counts S N (J ++ spots a.segment a.start m) F) (sym len)
        (read_pushed S N J a.segment a.start F ts ks (counts_same S (plus M (times (object_of a (count ts) ∷ below))) (plus N (times below)) J F (λ u v. omega (arith, same (count ts) u v (sym len))) h))
    to (Structs e f es) o h = absurd (omega (arith, six, o.1))

    from : Counts S N (J ++ spots a.segment a.start n) F → ObjectCounts S a M J F
    from h =
        let c = pushed_read S N J a.segment a.start n F h in
        let below = cover_all S a.segment a.start c.children in (
          Pointers c.children,
          (x, six, sym en ∙ sym c.number, omega (arith, claim, c.number), c.are_read),
          counts_same S (plus N (times below)) (plus M (times (object_of a (count c.children) ∷ below))) J F (λ u v. omega (arith, same (count c.children) u v c.number)) c.counts,
        )

-- a list of structs, which claims exactly its elements
pub structs_goes : (S : Segments) (a : Target) (M N : Counting) (J : List WordPlace) (n d q : ℕ) → kind a.word ≡ 1 → element_size a.word ≡ 7 → IsTag (word_at S a.segment a.start) n d q → n * (d + q) ≡ list_count a.word →
    Claims S a (list_count a.word + 1) → ((u v : ℕ) → N u v ≡ M u v + times (row a.segment a.start (list_count a.word + 1) ∷ []) u v) → (F : Counting) →
    ObjectCounts S a M J F ↔ Counts S N (J ++ element_spots a.segment (a.start + 1) d q n) F
structs_goes S a M N J n d q x seven tag exact claim is F = (λ h. to h.0 h.1 h.2, from)
  where
    same : (m : ℕ) (u v : ℕ) → m ≡ list_count a.word + 1 → N u v ≡ M u v + times (row a.segment a.start m ∷ []) u v
    same m u v e = is u v ∙ ap (λ k. M u v + times (row a.segment a.start k ∷ []) u v) (sym e)

    to : (t : Tree) → IsTidyObject S a t → Counts S (plus M (times (object_cover S a t))) J F → Counts S N (J ++ element_spots a.segment (a.start + 1) d q n) F
    to Null o h = absurd o
    to (Capability i) o h = absurd (omega (arith, x, capability_kind a.word i o))
    to (Struct ws ts) o h = absurd (omega (arith, x, o.0))
    to (Flat size ns) o h = absurd (omega (arith, seven, o.0, o.2))
    to (Pointers ts) o h = absurd (omega (arith, seven, o.1))
    to (Structs e f es) (y, z, c, inside, g, ks) h =
        let len : n ≡ element_count es = sym tag.counts ∙ g.counts in
        let wide : d ≡ e = sym tag.data_of ∙ g.data_of in
        let many : q ≡ f = sym tag.pointers ∙ g.pointers in
        let below = cover_elements S a.segment (a.start + 1) e f es in
        subst (λ m. Counts S N (J ++ element_spots a.segment (a.start + 1) m q n) F) (sym wide) (subst (λ m. Counts S N (J ++ element_spots a.segment (a.start + 1) e m n) F) (sym many)
        (subst (λ m. Counts S N (J ++ element_spots a.segment (a.start + 1) e f m) F) (sym len)
        (elements_read_pushed S N J a.segment (a.start + 1) e f F es ks
        (counts_same S (plus M (times (object_of a (1 + element_count es * (e + f)) ∷ below))) (plus N (times below)) J F (λ u v. omega (arith, same (1 + element_count es * (e + f)) u v (omega (arith, c)))) h))))

    from : Counts S N (J ++ element_spots a.segment (a.start + 1) d q n) F → ObjectCounts S a M J F
    from h =
        let c = elements_pushed_read S N J a.segment (a.start + 1) d q n F (omega (arith, claim, exact)) h in
        let count_is : element_count c.elements * (d + q) ≡ list_count a.word = ap (λ m. m * (d + q)) c.number ∙ exact in
        let below = cover_elements S a.segment (a.start + 1) d q c.elements in (
          Structs d q c.elements,
          (x, seven, sym count_is, omega (arith, claim, count_is), record { is_struct = tag.is_struct; counts = tag.counts ∙ sym c.number; data_of = tag.data_of; pointers = tag.pointers }, c.are_read),
          counts_same S (plus N (times below)) (plus M (times (object_of a (1 + element_count c.elements * (d + q)) ∷ below))) J F (λ u v. omega (arith, same (1 + element_count c.elements * (d + q)) u v (omega (arith, count_is)))) c.counts,
        )

tidy_padded : (S : Segments) (s p size : ℕ) (ns : List ℕ) → ns ≡ unpacked size (length ns) (words_at S s p (words_for size (length ns))) → words_at S s p (words_for size (length ns)) ≡ packed size ns → IsPadded S s p size (length ns)
tidy_padded S s p size ns e y =
    let below : AreBelow (2 ^ element_bits size) ns = subst (AreBelow (2 ^ element_bits size)) (sym e) (digits_below (2 ^ element_bits size) (length ns) (from_digits (2 ^ 64) (words_at S s p (words_for size (length ns)))) (pow_pos (element_bits size))) in
    subst (λ ws. from_digits (2 ^ 64) ws < 2 ^ (element_bits size * length ns)) (sym y) (packed_below size ns below)

-- a list of numbers
pub flat_goes : (S : Segments) (a : Target) (M N : Counting) (J : List WordPlace) (size n : ℕ) → size ≡ element_size a.word → n ≡ list_count a.word → kind a.word ≡ 1 → size ≤ 5 → Claims S a (words_for size n) →
    HasSmallWords S a.segment → IsPadded S a.segment a.start size n → ((u v : ℕ) → N u v ≡ M u v + times (row a.segment a.start (words_for size n) ∷ []) u v) → (F : Counting) → ObjectCounts S a M J F ↔ Counts S N J F
flat_goes S a M N J size n es en x small claim narrow padded is F = (λ h. to h.0 h.1 h.2, from)
  where
    same : (m : ℕ) (u v : ℕ) → m ≡ words_for size n → N u v ≡ M u v + times (row a.segment a.start m ∷ []) u v
    same m u v e = is u v ∙ ap (λ k. M u v + times (row a.segment a.start k ∷ []) u v) (sym e)

    to : (t : Tree) → IsTidyObject S a t → Counts S (plus M (times (object_cover S a t))) J F → Counts S N J F
    to Null o h = absurd o
    to (Capability i) o h = absurd (omega (arith, x, capability_kind a.word i o))
    to (Struct ws ts) o h = absurd (omega (arith, x, o.0))
    to (Flat z ns) (l, y, fs, fn, inside, e, p) h =
        let same_size : z ≡ size = sym fs ∙ sym es in
        let same_count : length ns ≡ n = sym fn ∙ sym en in
        counts_same S (plus M (times (object_of a (words_for z (length ns)) ∷ []))) N J F (λ u v. omega (arith, same (words_for z (length ns)) u v (ap₂ words_for same_size same_count))) h
    to (Pointers ts) o h = absurd (omega (arith, es, small, o.1))
    to (Structs e f gs) o h = absurd (omega (arith, es, small, o.1))

    from : Counts S N J F → ObjectCounts S a M J F
    from h =
        let ws : List ℕ = words_at S a.segment a.start (words_for size n) in
        let ns : List ℕ = unpacked size n ws in
        let long : length ns ≡ n = length-digits (2 ^ element_bits size) n (from_digits (2 ^ 64) ws) in
        let again : packed size ns ≡ ws = packed-unpacked size n ws (words_below S a.segment a.start (words_for size n) narrow) (length_words S a.segment a.start (words_for size n) claim) padded in
        let here : words_at S a.segment a.start (words_for size (length ns)) ≡ ws = ap (λ k. words_at S a.segment a.start (words_for size k)) long in (
          Flat size ns,
          (small, x, sym es, sym en ∙ sym long, subst (λ k. Claims S a (words_for size k)) (sym long) claim, sym (ap₂ (unpacked size) long here), here ∙ sym again),
          counts_same S N (plus M (times (object_of a (words_for size (length ns)) ∷ []))) J F (λ u v. omega (arith, same (words_for size (length ns)) u v (ap (words_for size) long))) h,
        )

pub not_padded : (S : Segments) (a : Target) (M : Counting) (J : List WordPlace) (size n : ℕ) → size ≡ element_size a.word → n ≡ list_count a.word → kind a.word ≡ 1 → size ≤ 5 → (IsPadded S a.segment a.start size n → ⊥) → (F : Counting) → ObjectCounts S a M J F → ⊥
not_padded S a M J size n es en x small fails F h = to h.0 h.1
  where
    to : (t : Tree) → IsTidyObject S a t → ⊥
    to Null o = o
    to (Capability i) o = omega (arith, x, capability_kind a.word i o)
    to (Struct ws ts) o = omega (arith, x, o.0)
    to (Flat z ns) (l, y, fs, fn, inside, e, p) =
        let same_size : z ≡ size = sym fs ∙ sym es in
        let same_count : length ns ≡ n = sym fn ∙ sym en in
        fails (subst (λ k. IsPadded S a.segment a.start k n) same_size (subst (λ k. IsPadded S a.segment a.start z k) same_count (tidy_padded S a.segment a.start z ns e p)))
    to (Pointers ts) o = omega (arith, es, small, o.1)
    to (Structs e f gs) o = omega (arith, es, small, o.1)

-- a capability, and a word that isn't one
pub capability_goes : (S : Segments) (a : Target) (M : Counting) (J : List WordPlace) → lower_half a.word ≡ 3 → (F : Counting) → ObjectCounts S a M J F ↔ Counts S M J F
capability_goes S a M J x F = (λ h. to h.0 h.1 h.2, λ h. (Capability (upper_half a.word), sym (capability_again a.word x), counts_same S M (plus M (times [])) J F (λ u v. omega arith) h))
  where
    to : (t : Tree) → IsTidyObject S a t → Counts S (plus M (times (object_cover S a t))) J F → Counts S M J F
    to Null o h = absurd o
    to (Capability i) o h = counts_same S (plus M (times [])) M J F (λ u v. omega arith) h
    to (Struct ws ts) o h = absurd (omega (arith, x, o.0))
    to (Flat size ns) o h = absurd (omega (arith, x, o.1))
    to (Pointers ts) o h = absurd (omega (arith, x, o.0))
    to (Structs e f es) o h = absurd (omega (arith, x, o.0))

-- the number of words that an object has by itself
abbrev pub own_words : Tree → ℕ
own_words Null = 0
own_words (Capability i) = 0
own_words (Struct ws ts) = length ws + count ts
own_words (Flat size ns) = words_for size (length ns)
own_words (Pointers ts) = count ts
own_words (Structs d q es) = 1 + element_count es * (d + q)

own_claim : (S : Segments) (a : Target) (t : Tree) → kind a.word < 2 → IsTidyObject S a t → Claims S a (own_words t)
own_claim S a Null k o = absurd o
own_claim S a (Capability i) k o = absurd (omega (arith, k, capability_kind a.word i o))
own_claim S a (Struct ws ts) k o = o.3
own_claim S a (Flat size ns) k o = o.4
own_claim S a (Pointers ts) k o = o.3
own_claim S a (Structs d q es) k o = o.3

own_held : (S : Segments) (a : Target) (t : Tree) (u v : ℕ) → kind a.word < 2 → IsTidyObject S a t → times (row a.segment a.start (own_words t) ∷ []) u v ≤ times (object_cover S a t) u v
own_held S a Null u v k o = absurd o
own_held S a (Capability i) u v k o = absurd (omega (arith, k, capability_kind a.word i o))
own_held S a (Struct ws ts) u v k o = omega arith
own_held S a (Flat size ns) u v k o = omega arith
own_held S a (Pointers ts) u v k o = omega arith
own_held S a (Structs d q es) u v k o = omega arith

-- one of its words is marked already, or it isn't inside its segment
pub object_refused : (S : Segments) (a : Target) (w : Walk) (n : ℕ) → FitsRows S w.marks → kind a.word < 2 → ((t : Tree) → IsTidyObject S a t → own_words t ≡ n) →
    (a.start + n ≤ length (segment w.marks a.segment) → IsMarkedWithin (segment w.marks a.segment) a.start n) → HasNoObject S a w
object_refused S a w n fits k size marked F (t, o, h) once =
    let e : own_words t ≡ n = size t o in
    let inside : a.start + n ≤ length (segment w.marks a.segment) = omega (arith, own_claim S a t k o, e, fits.words a.segment) in
    let (q, low, high, some) = marked inside in
    let one : times (row a.segment a.start n ∷ []) a.segment q ≡ 1 = of_row a.segment a.start n q low high in
    let held : times (row a.segment a.start n ∷ []) a.segment q ≤ times (object_cover S a t) a.segment q = subst (λ m. times (row a.segment a.start m ∷ []) a.segment q ≤ times (object_cover S a t) a.segment q) e (own_held S a t a.segment q k o) in
    omega (arith, one, held, some, once a.segment q, counts_least S (plus (word_at w.marks) (times (object_cover S a t))) w.pending F a.segment q h)

pub struct_words : (S : Segments) (a : Target) (t : Tree) → kind a.word ≡ 0 → IsTidyObject S a t → own_words t ≡ data_words a.word + pointer_count a.word
struct_words S a Null x o = absurd o
struct_words S a (Capability i) x o = absurd (omega (arith, x, capability_kind a.word i o))
struct_words S a (Struct ws ts) x o = omega (arith, o.1, o.2)
struct_words S a (Flat size ns) x o = absurd (omega (arith, x, o.1))
struct_words S a (Pointers ts) x o = absurd (omega (arith, x, o.0))
struct_words S a (Structs d q es) x o = absurd (omega (arith, x, o.0))

pub pointers_words : (S : Segments) (a : Target) (t : Tree) → kind a.word ≡ 1 → element_size a.word ≡ 6 → IsTidyObject S a t → own_words t ≡ list_count a.word
pointers_words S a Null x z o = absurd o
pointers_words S a (Capability i) x z o = absurd (omega (arith, x, capability_kind a.word i o))
pointers_words S a (Struct ws ts) x z o = absurd (omega (arith, x, o.0))
pointers_words S a (Flat size ns) x z o = absurd (omega (arith, z, o.0, o.2))
pointers_words S a (Pointers ts) x z o = sym o.2
pointers_words S a (Structs d q es) x z o = absurd (omega (arith, z, o.1))

pub structs_words : (S : Segments) (a : Target) (t : Tree) → kind a.word ≡ 1 → element_size a.word ≡ 7 → IsTidyObject S a t → own_words t ≡ list_count a.word + 1
structs_words S a Null x z o = absurd o
structs_words S a (Capability i) x z o = absurd (omega (arith, x, capability_kind a.word i o))
structs_words S a (Struct ws ts) x z o = absurd (omega (arith, x, o.0))
structs_words S a (Flat size ns) x z o = absurd (omega (arith, z, o.0, o.2))
structs_words S a (Pointers ts) x z o = absurd (omega (arith, z, o.1))
structs_words S a (Structs d q es) x z o = omega (arith, o.2)

pub flat_words : (S : Segments) (a : Target) (size n : ℕ) (t : Tree) → size ≡ element_size a.word → n ≡ list_count a.word → kind a.word ≡ 1 → size ≤ 5 → IsTidyObject S a t → own_words t ≡ words_for size n
flat_words S a size n Null es en x small o = absurd o
flat_words S a size n (Capability i) es en x small o = absurd (omega (arith, x, capability_kind a.word i o))
flat_words S a size n (Struct ws ts) es en x small o = absurd (omega (arith, x, o.0))
flat_words S a size n (Flat z ns) es en x small o = ap₂ words_for (sym o.2 ∙ sym es) (sym o.3 ∙ sym en)
flat_words S a size n (Pointers ts) es en x small o = absurd (omega (arith, es, small, o.1))
flat_words S a size n (Structs d q gs) es en x small o = absurd (omega (arith, es, small, o.1))

-- the pointer itself: null
pub null_goes : (S : Segments) (M : Counting) (j : WordPlace) (J : List WordPlace) → word_at S j.segment j.at ≡ 0 → (F : Counting) → Counts S M (j ∷ J) F ↔ Counts S M J F
null_goes S M j J e F = (to, from)
  where
    to : Counts S M (j ∷ J) F → Counts S M J F
    to (t, k, h) =
        let m = k.means in
        let is : t ≡ Null = zero_is_null S j.segment j.at t m.0 m.1 e m.2 in
        counts_same S (plus M (times (cover S j.segment j.at t))) M J F (λ u v. omega (arith, ap (λ x. times (cover S j.segment j.at x) u v) is)) h

    from : Counts S M J F → Counts S M (j ∷ J) F
    from h = (Null, record { means = (0, 0, (e, refl)); tidy = tt }, counts_same S M (plus M (times [])) J F (λ u v. omega arith) h)

-- the landing pads of a pointer are marked first
pub pointer_goes : (S : Segments) (M N : Counting) (j : WordPlace) (J : List WordPlace) (a : Target) → word_at S j.segment j.at ≢ 0 → leads S j.segment j.at ≡ Some a →
    ((u v : ℕ) → N u v ≡ M u v + times (pads_of (word_at S j.segment j.at)) u v) → (F : Counting) → Counts S M (j ∷ J) F ↔ ObjectCounts S a N J F
pointer_goes S M N j J a some l is F = (to, from)
  where
    parts : (t : Tree) (u v : ℕ) → MeansTidily S j.segment j.at t → times (cover S j.segment j.at t) u v ≡ times (pads_of (word_at S j.segment j.at)) u v + times (object_cover S a t) u v
    parts t u v k = ap (λ is. times is u v) (object_of_read S j.segment j.at a t some l k).1 ∙ times-append (pads_of (word_at S j.segment j.at)) (object_cover S a t) u v

    to : Counts S M (j ∷ J) F → ObjectCounts S a N J F
    to (t, k, h) = (
      t,
      (object_of_read S j.segment j.at a t some l k).0,
      counts_same S (plus M (times (cover S j.segment j.at t))) (plus N (times (object_cover S a t))) J F (λ u v. omega (arith, is u v, parts t u v k)) h,
    )

    from : ObjectCounts S a N J F → Counts S M (j ∷ J) F
    from (t, o, h) =
        let k = read_of_object S j.segment j.at a t some l o in
        (t, k, counts_same S (plus N (times (object_cover S a t))) (plus M (times (cover S j.segment j.at t))) J F (λ u v. omega (arith, is u v, parts t u v k)) h)

-- a pointer that leads nowhere
pub nowhere_fails : (S : Segments) (w : Walk) (j : WordPlace) → word_at S j.segment j.at ≢ 0 → leads S j.segment j.at ≡ None → FailsWalk S j w
nowhere_fails S w j some l F (t, k, h) once =
    let m = k.means in
    let x = there_is S m.0 j.segment j.at t m.1 some m.2 k.tidy in
    let e : Some x.0 ≡ None = sym x.1 ∙ l in cc

-- a pointer whose landing pads are marked already
pub pads_refused : (S : Segments) (w : Walk) (j : WordPlace) (a : Target) → FitsRows S w.marks → word_at S j.segment j.at ≢ 0 → leads S j.segment j.at ≡ Some a →
    (PadsInside w.marks (word_at S j.segment j.at) → IsTakenAlready w.marks (times (pads_of (word_at S j.segment j.at)))) → FailsWalk S j w
pads_refused S w j a fits some l already F (t, k, h) once =
    let x = word_at S j.segment j.at in
    let there : PadsInside w.marks x = λ is_far. omega (arith, pads_inside S j.segment j.at a l is_far, fits.words (upper_half x)) in
    let (u, v, held, marked) = already there in
    let parts : times (cover S j.segment j.at t) u v ≡ times (pads_of x) u v + times (object_cover S a t) u v =
    ap (λ is. times is u v) (object_of_read S j.segment j.at a t some l k).1 ∙ times-append (pads_of x) (object_cover S a t) u v in
    omega (arith, parts, held, marked, once u v, counts_least S (plus (word_at w.marks) (times (cover S j.segment j.at t))) w.pending F u v h)

-- the steps of the walk

length-spots : (s p n : ℕ) → length (spots s p n) ≡ n
length-spots s p zero = refl
length-spots s p (suc n) = ap suc (length-spots s (p + 1) n)

length-element_spots : (s p d q n : ℕ) → length (element_spots s p d q n) ≡ n * q
length-element_spots s p d q zero = omega arith
length-element_spots s p d q (suc n) = length-append (spots s (p + d) q) (element_spots s (p + d + q) d q n) ∙ omega (arith, length-spots s (p + d) q, length-element_spots s (p + d + q) d q n)

few_pointers : (n d q : ℕ) → n * q ≤ n * (d + q)
few_pointers n d q = grind arith

-- words are marked, and at most as many places are added after the others
proceeds_so : (w v : Walk) (s p n : ℕ) (K : List WordPlace) → TakesRow w.marks v.marks s p n → v.pending ≡ w.pending ++ K → length K ≤ n → Proceeds w v
proceeds_so w v s p n K t e few = record { keeps = t.keeps; fewer = omega (arith, t.fewer, few, ap length e, length-append w.pending K) }

then_counts : (S : Segments) (N : Counting) (J K : List WordPlace) (F : Counting) (P : Type 0) → K ≡ J → P ↔ Counts S N J F → P ↔ Counts S N K F
then_counts S N J K F P e h = subst (λ L. P ↔ Counts S N L F) (sym e) h

pub struct_taken : (S : Segments) (a : Target) (w v : Walk) (d q : ℕ) → FitsRows S w.marks → kind a.word ≡ 0 → d ≡ data_words a.word → q ≡ pointer_count a.word → a.start + (d + q) ≤ length (segment w.marks a.segment) →
    TakesRow w.marks v.marks a.segment a.start (d + q) → v.pending ≡ w.pending ++ spots a.segment (a.start + d) q → TakesTarget S a w v
struct_taken S a w v d q fits x ed eq inside t e = record {
  proceeds = proceeds_so w v a.segment a.start (d + q) (spots a.segment (a.start + d) q) t e (omega (arith, length-spots a.segment (a.start + d) q));
  same = λ F. then_counts S (word_at v.marks) (w.pending ++ spots a.segment (a.start + d) q) v.pending F _ e (struct_goes S a (word_at w.marks) (word_at v.marks) w.pending d q ed eq x (omega (arith, inside, fits.words a.segment)) t.marks F);
}

pub pointers_taken : (S : Segments) (a : Target) (w v : Walk) (n : ℕ) → FitsRows S w.marks → kind a.word ≡ 1 → element_size a.word ≡ 6 → n ≡ list_count a.word → a.start + n ≤ length (segment w.marks a.segment) →
    TakesRow w.marks v.marks a.segment a.start n → v.pending ≡ w.pending ++ spots a.segment a.start n → TakesTarget S a w v
pointers_taken S a w v n fits x six en inside t e = record {
  proceeds = proceeds_so w v a.segment a.start n (spots a.segment a.start n) t e (omega (arith, length-spots a.segment a.start n));
  same = λ F. then_counts S (word_at v.marks) (w.pending ++ spots a.segment a.start n) v.pending F _ e (pointers_goes S a (word_at w.marks) (word_at v.marks) w.pending n en x six (omega (arith, inside, fits.words a.segment)) t.marks F);
}

pub structs_taken : (S : Segments) (a : Target) (w v : Walk) (n d q : ℕ) → FitsRows S w.marks → kind a.word ≡ 1 → element_size a.word ≡ 7 → IsTag (word_at S a.segment a.start) n d q → n * (d + q) ≡ list_count a.word →
    a.start + (list_count a.word + 1) ≤ length (segment w.marks a.segment) → TakesRow w.marks v.marks a.segment a.start (list_count a.word + 1) → v.pending ≡ w.pending ++ element_spots a.segment (a.start + 1) d q n → TakesTarget S a w v
structs_taken S a w v n d q fits x seven tag exact inside t e = record {
  proceeds = proceeds_so w v a.segment a.start (list_count a.word + 1) (element_spots a.segment (a.start + 1) d q n) t e (omega (arith, length-element_spots a.segment (a.start + 1) d q n, few_pointers n d q, exact));
  same = λ F. then_counts S (word_at v.marks) (w.pending ++ element_spots a.segment (a.start + 1) d q n) v.pending F _ e
      (structs_goes S a (word_at w.marks) (word_at v.marks) w.pending n d q x seven tag exact (omega (arith, inside, fits.words a.segment)) t.marks F);
}

pub flat_taken : (S : Segments) (a : Target) (w v : Walk) (size n : ℕ) → FitsRows S w.marks → kind a.word ≡ 1 → size ≡ element_size a.word → n ≡ list_count a.word → size ≤ 5 → a.start + words_for size n ≤ length (segment w.marks a.segment) →
    HasSmallWords S a.segment → IsPadded S a.segment a.start size n → TakesRow w.marks v.marks a.segment a.start (words_for size n) → v.pending ≡ w.pending → TakesTarget S a w v
flat_taken S a w v size n fits x es en small inside narrow padded t e = record {
  proceeds = record { keeps = t.keeps; fewer = omega (arith, t.fewer, ap length e) };
  same = λ F. then_counts S (word_at v.marks) w.pending v.pending F _ e (flat_goes S a (word_at w.marks) (word_at v.marks) w.pending size n es en x small (omega (arith, inside, fits.words a.segment)) narrow padded t.marks F);
}

pub capability_taken : (S : Segments) (a : Target) (w : Walk) → lower_half a.word ≡ 3 → TakesTarget S a w w
capability_taken S a w x = record { proceeds = record { keeps = keeps_itself w.marks; fewer = omega arith }; same = λ F. capability_goes S a (word_at w.marks) w.pending x F }

pub null_walked : (S : Segments) (j : WordPlace) (w : Walk) → word_at S j.segment j.at ≡ 0 → Goes S j w w
null_walked S j w e = record { proceeds = record { keeps = keeps_itself w.marks; fewer = omega arith }; same = λ F. null_goes S (word_at w.marks) j w.pending e F }

-- the walk with other marks
abbrev pub with_marks : Walk → Segments → Walk
with_marks w N = record { marks = N; pending = w.pending }

pub pointer_walked : (S : Segments) (j : WordPlace) (w v : Walk) (N : Segments) (a : Target) → word_at S j.segment j.at ≢ 0 → leads S j.segment j.at ≡ Some a → TakesEach w.marks N (times (pads_of (word_at S j.segment j.at))) →
    TakesTarget S a (with_marks w N) v → Goes S j w v
pointer_walked S j w v N a some l pads o = record {
  proceeds = record { keeps = keeps_again w.marks N v.marks pads.keeps o.proceeds.keeps; fewer = omega (arith, pads.fewer, o.proceeds.fewer) };
  same = λ F. let h = pointer_goes S (word_at w.marks) (word_at N) j w.pending a some l pads.marks F in let k = o.same F in (λ x. k.0 (h.0 x), λ x. h.1 (k.1 x));
}

pub pointer_unwalked : (S : Segments) (j : WordPlace) (w : Walk) (N : Segments) (a : Target) → word_at S j.segment j.at ≢ 0 → leads S j.segment j.at ≡ Some a → TakesEach w.marks N (times (pads_of (word_at S j.segment j.at))) →
    HasNoObject S a (with_marks w N) → FailsWalk S j w
pointer_unwalked S j w N a some l pads never F h once = never F ((pointer_goes S (word_at w.marks) (word_at N) j w.pending a some l pads.marks F).0 h) once

pub ok_map : {E : Type 0} (r : Result Bool E) (P Q : Bool → Type 0) → ((b : Bool) → P b → Q b) → IfOk r P → IfOk r Q
ok_map (Ok b) P Q f h = f b h
ok_map (Err e) P Q f h = h

-- an object is marked, or there is none, by the answer
pub takes_by : {S : Segments} {a : Target} {w v : Walk} (b : Bool) → (b ≡ true → TakesTarget S a w v) → (b ≡ false → HasNoObject S a w) → TakesObject S a w v b
takes_by true if_so if_not = if_so refl
takes_by false if_so if_not = if_not refl
