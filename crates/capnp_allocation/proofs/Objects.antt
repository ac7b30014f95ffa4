-- The object that a pointer leads to is zeroed, with all below it, and its pads.
use Rattle.std.proofs.Common.{◌≡◌, ◌≢◌, ℕ, pred, ◌+◌, ◌*◌, ◌<◌, ◌≤◌, [], ◌∷◌, length, Some, None, refl, sym, ap, ◌∙◌, subst, le_trans, arith}
use Rattle.std.proofs.lemmas.Bool.Decides.{nat_tests}
use Rattle.capnp_format.specs.Word.{kind, upper_half, data_words, pointer_count, element_size, list_count}
use Rattle.capnp_format.specs.Segments.{Segments, segment, word_at, Target, Grows, leads}
use Rattle.capnp_format.specs.Tree.{Tree, Null, Capability, Struct, Flat, Pointers, Structs, Trees, count, element_count}
use Rattle.capnp_format.specs.Means.{MeansAll, IsTag}
use Rattle.capnp_format.specs.Forest.{times, pads_of, object_of, cover_all, cover_elements}
use Rattle.capnp_format.proofs.Frame.{Agree, times-append, agree_here, agree_rest, frame_all, frame_elements}
use Rattle.capnp_format.specs.Path.{word_interval, extent}
use Rattle.capnp_allocation.specs.Zeroed.{row, IsZeroed, PadsInside, IsApart, AreApart, IsObjectAt, object_cover, IsObjectApart, IsStructListApart, struct_list_cover}
use Rattle.capnp_allocation.proofs.Zeros.{zeroed_again}
use Rattle.capnp_format.proofs.ZeroWords.{zero_is_null}
use Rattle.capnp_allocation.proofs.Below.{split_row, zeroed_grows, pads_inside, place_object}

-- An object stays the same if its words and all below it do.
pub object_kept : (S R : Segments) (n : ℕ) (a : Target) (t : Tree) → Grows S R → Agree S R (object_cover S a t) → IsObjectAt S n a t → IsObjectAt R n a t × (object_cover R a t ≡ object_cover S a t)
object_kept S R n a Null grows h o = absurd o
object_kept S R n a (Capability i) grows h o = (o, refl)
object_kept S R n a (Struct ws ts) grows h (k, x, d, q, claim, all) =
    let own = object_of a (length ws + count ts) in
    let below = cover_all S a.segment (a.start + length ws) ts in
    let same = agree_here S R own below h in
    let f = frame_all ts grows (λ r l m. same r (omega arith) (omega arith)) (agree_rest S R own below h) (record { means = all }) in
    ((k, x, d, q, le_trans claim (grows.words a.segment), f.0), ap (λ js. own ∷ js) f.1)
object_kept S R n a (Flat size ns) grows h (x, small, e, c, claim) = ((x, small, e, c, le_trans claim (grows.words a.segment)), refl)
object_kept S R n a (Pointers ts) grows h (k, x, e, c, claim, all) =
    let own = object_of a (count ts) in
    let below = cover_all S a.segment a.start ts in
    let f = frame_all ts grows (agree_here S R own below h) (agree_rest S R own below h) (record { means = all }) in
    ((k, x, e, c, le_trans claim (grows.words a.segment), f.0), ap (λ js. own ∷ js) f.1)
object_kept S R n a (Structs d q es) grows h (k, x, e, tag, claim, all) =
    let own = object_of a (1 + element_count es * (d + q)) in
    let below = cover_elements S a.segment (a.start + 1) d q es in
    let same = agree_here S R own below h in
    let f = frame_elements es grows (omega arith) (λ r l m. same r (omega arith) (omega arith)) (agree_rest S R own below h) (record { means = all }) in
    let first : word_at R a.segment a.start ≡ word_at S a.segment a.start = same a.start (omega arith) (omega arith) in
    ((k, x, e, subst (λ y. IsTag y (element_count es) d q) (sym first) tag, le_trans claim (grows.words a.segment), f.0), ap (λ js. own ∷ js) f.1)

-- The pointer is zeroed, then its object and all below it, then its pads.
pub object_done : (S R K L : Segments) (s p : ℕ) (t : Tree) (b : Target) → word_at S s p ≢ 0 → ((a : Target) → leads S s p ≡ Some a → Some b ≡ Some a) → IsZeroed S R (word_interval s p ∷ []) →
    ((u : Tree) → IsObjectApart R b u → IsZeroed R K (object_cover R b u)) → (PadsInside K (word_at S s p) → IsZeroed K L (pads_of (word_at S s p))) → IsApart S s p t → IsZeroed S L (extent S s p t)
object_done S R K L s p t b some goes z object pads a =
    let m = a.means in
    let (c, e, o, covers) = place_object S m.0 s p t m.1 some m.2 in
    let same : b ≡ c = let f = goes c e in cc in
    let O = object_cover S c t in
    let P = pads_of (word_at S s p) in
    let all : (v r : ℕ) → times (extent S s p t) v r ≡ times (word_interval s p ∷ []) v r + (times P v r + times O v r) =
    λ v r. let f = ap (λ js. times (word_interval s p ∷ js) v r) covers in let g = times-append P O v r in omega (arith, f, g) in
    let agree : Agree S R O = λ v r l. z.kept v r (omega (arith, all v r, a.apart v r)) in
    let k = object_kept S R (pred m.0) c t (zeroed_grows S R (word_interval s p ∷ []) z) agree o in
    let apart : IsObjectApart R c t = record { stands = (pred m.0, k.0); apart = λ v r. let f = ap (λ js. times js v r) k.1 in omega (arith, f, all v r, a.apart v r) } in
    let gone : IsZeroed R K O = subst (λ js. IsZeroed R K js) k.1 (subst (λ x. IsZeroed R K (object_cover R x t)) same (object t (subst (λ x. IsObjectApart R x t) (sym same) apart))) in
    let inside : PadsInside K (word_at S s p) = λ f. let l = pads_inside S s p c e f in omega (arith, l, z.words (upper_half (word_at S s p)), gone.words (upper_half (word_at S s p))) in
    let first : IsZeroed S K (word_interval s p ∷ O) = zeroed_again S R K (word_interval s p ∷ []) O (word_interval s p ∷ O) (λ v r. (λ x. omega arith, λ x. omega arith)) z gone in
    zeroed_again S K L (word_interval s p ∷ O) P (extent S s p t) (λ v r. let f = all v r in (λ x. omega (arith, f), λ x. omega (arith, f))) first (pads inside)

-- A pointer that leads nowhere means nothing.
pub nowhere_apart : (S : Segments) (s p : ℕ) (t : Tree) → word_at S s p ≢ 0 → ((a : Target) → leads S s p ≡ Some a → None ≡ Some a) → IsApart S s p t → ⊥
nowhere_apart S s p t some goes a = let m = a.means in let (c, e, o, covers) = place_object S m.0 s p t m.1 some m.2 in let f = goes c e in cc

pub null_done : (S : Segments) (s p : ℕ) (t : Tree) → word_at S s p ≡ 0 → IsApart S s p t → IsZeroed S S (extent S s p t)
null_done S s p t e a = let n = zero_is_null S s p t a.means.0 a.means.1 e a.means.2 in
    record { segments = refl; words = λ v. refl; zero = λ v r l. let i = place v r (subst (λ u. 0 < times (extent S s p u) v r) n l) in ap (λ x. word_at S x r) i.0 ∙ ap (λ x. word_at S s x) i.1 ∙ e; kept = λ v r l. refl }
  where
    place : (v r : ℕ) → 0 < times (word_interval s p ∷ []) v r → (v ≡ s) × (r ≡ p)
    place v r l = (grind (arith, nat_tests), grind (arith, nat_tests))

-- The object of each kind.
pub landed_struct : (S L : Segments) (a : Target) (d q : ℕ) (t : Tree) → kind a.word ≡ 0 → d ≡ data_words a.word → q ≡ pointer_count a.word →
    ((ts : Trees) → (count ts ≡ q) × (a.start + (d + q) ≤ length (segment S a.segment)) × AreApart S a.segment (a.start + d) ts → IsZeroed S L (row a.segment a.start (d + q) ∷ cover_all S a.segment (a.start + d) ts)) →
    IsObjectApart S a t → IsZeroed S L (object_cover S a t)
landed_struct S L a d q t x ed eq h o = go t o.stands.0 o.stands.1 o.apart
  where
    go : (t : Tree) (n : ℕ) → IsObjectAt S n a t → ((v r : ℕ) → times (object_cover S a t) v r ≤ 1) → IsZeroed S L (object_cover S a t)
    go Null n o apart = absurd o
    go (Capability i) n o apart = absurd (omega arith)
    go (Struct ws ts) n (k, y, fd, fq, claim, all) apart =
        let e : d ≡ length ws = ed ∙ fd in
        let f : q ≡ count ts = eq ∙ fq in
        let same : (v r : ℕ) → times (row a.segment (a.start + d) (count ts) ∷ cover_all S a.segment (a.start + d) ts) v r ≤ times (object_cover S a (Struct ws ts)) v r = λ v r.
        let i = split_row a.segment a.start (length ws) (count ts) v r in rw e (omega (arith, i)) in
        subst (λ m. IsZeroed S L (row a.segment a.start (m + count ts) ∷ cover_all S a.segment (a.start + m) ts)) e (subst (λ m. IsZeroed S L (row a.segment a.start (d + m) ∷ cover_all S a.segment (a.start + d) ts)) f
        (h ts (sym f, omega arith, record { mean = (n, k, subst (λ m. MeansAll S n a.segment (a.start + m) ts k) (sym e) all); apart = λ v r. le_trans (same v r) (apart v r) })))
    go (Flat size ns) n o apart = absurd (omega (arith, o.0))
    go (Pointers ts) n o apart = absurd (omega (arith, o.1, o.2))
    go (Structs d q es) n o apart = absurd (omega (arith, o.1, o.2))

pub landed_pointers : (S L : Segments) (a : Target) (c : ℕ) (t : Tree) → kind a.word ≡ 1 → element_size a.word ≡ 6 → c ≡ list_count a.word →
    ((ts : Trees) → (count ts ≡ c) × (a.start + c ≤ length (segment S a.segment)) × AreApart S a.segment a.start ts → IsZeroed S L (row a.segment a.start c ∷ cover_all S a.segment a.start ts)) →
    IsObjectApart S a t → IsZeroed S L (object_cover S a t)
landed_pointers S L a c t x six ec h o = go t o.stands.0 o.stands.1 o.apart
  where
    go : (t : Tree) (n : ℕ) → IsObjectAt S n a t → ((v r : ℕ) → times (object_cover S a t) v r ≤ 1) → IsZeroed S L (object_cover S a t)
    go Null n o apart = absurd o
    go (Capability i) n o apart = absurd (omega arith)
    go (Struct ws ts) n o apart = absurd (omega (arith, o.1))
    go (Flat size ns) n o apart = absurd (omega (arith, o.1, o.2))
    go (Pointers ts) n (k, y, e, counts, claim, all) apart =
        let f : c ≡ count ts = ec ∙ counts in
        subst (λ m. IsZeroed S L (row a.segment a.start m ∷ cover_all S a.segment a.start ts)) f (h ts (sym f, omega arith, record { mean = (n, k, all); apart = apart }))
    go (Structs d q es) n o apart = absurd (omega (arith, o.1, o.2))

pub landed_structs : (S L : Segments) (a : Target) (t : Tree) → kind a.word ≡ 1 → element_size a.word ≡ 7 →
    ((u : Tree) → IsStructListApart S a.segment a.start u → IsZeroed S L (struct_list_cover S a.segment a.start u)) → IsObjectApart S a t → IsZeroed S L (object_cover S a t)
landed_structs S L a t x seven h o = go t o.stands.0 o.stands.1 o.apart
  where
    go : (t : Tree) (n : ℕ) → IsObjectAt S n a t → ((v r : ℕ) → times (object_cover S a t) v r ≤ 1) → IsZeroed S L (object_cover S a t)
    go Null n o apart = absurd o
    go (Capability i) n o apart = absurd (omega arith)
    go (Struct ws ts) n o apart = absurd (omega (arith, o.1))
    go (Flat size ns) n o apart = absurd (omega (arith, o.1, o.2))
    go (Pointers ts) n o apart = absurd (omega (arith, o.1, o.2))
    go (Structs d q es) n (k, y, e, tag, claim, all) apart =
        h (Structs d q es) (tag, claim, record { mean = (n, k, all); apart = λ v r. let i = split_row a.segment a.start 1 (element_count es * (d + q)) v r in let f = apart v r in omega (arith, i, f) })
