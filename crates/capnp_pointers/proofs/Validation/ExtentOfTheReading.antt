-- The walk that validates a value computes the extent of the value that a reading of it returns, or
-- is refused as that reading is.
use Rattle.std.proofs.Common.{◌≡◌, inl, inr, ℕ, zero, suc, pred, ◌+◌, ◌*◌, ◌-◌, ◌^◌, ◌<◌, ◌≤◌, min, max, Result, Ok, Err, true, false, nat_eq, List, length, refl, sym, ap, ap₂, ◌∙◌, subst, arith, add-zero, eq-eqb}
use Rattle.std.proofs.lemmas.Bool.{ne_eqb}
use Rattle.capnp_words.specs.declared.error.ErrorKind.{ErrorKind}
use Rattle.capnp_words.specs.Meter.{Meter}
use Rattle.capnp_format.specs.Word.{kind, data_words, pointer_count, element_size, list_count, offset_bits, upper_half}
use Rattle.capnp_format.specs.Numbers.{words_for}
use Rattle.capnp_format.specs.Segments.{Target}
use Rattle.capnp_format.specs.Tree.{Tree, Null, Capability, Struct, Pointers, Structs, Trees, tree, Elements, element, count, element_count, depth, depth_all, depth_elements, capabilities, capabilities_all, capabilities_elements}
use Rattle.capnp_format.specs.Canonical.{word_count, word_count_all, word_count_elements}
use Rattle.capnp_format.proofs.Digits.{length-digits}
use Rattle.capnp_format.proofs.Slices.{length_words}
use Rattle.capnp_pointers.specs.declared.object.Purpose.TheVariants.{Value}
use Rattle.capnp_pointers.specs.Demands.{tag}
use Rattle.capnp_pointers.specs.Enter.{Shape, nothing, capability, struct, flat, pointers, structs, shape}
use Rattle.capnp_pointers.specs.Metered.{Metered, answer, onward}
use Rattle.capnp_pointers.specs.Outcomes.{Entered}
use Rattle.capnp_pointers.specs.Reading.{Reading, word_of, words_from}
use Rattle.capnp_pointers.specs.Spending.{after_charge}
use Rattle.capnp_pointers.specs.Values.{read_values, read_element_values, object_value, value_within, value}
use Rattle.capnp_pointers.specs.Wanted.{plain}
use Rattle.capnp_pointers.proofs.OneObject.ReadAsStated.{null_is, capability_is, entering_is, stopped_is}
use Rattle.capnp_pointers.proofs.Decided.{same_or_not}
use Rattle.capnp_pointers.proofs.OneObject.ReadInOneWay.{Ends, at_capability, at_object, refused, ends, not_both, same_refusal}
use Rattle.capnp_pointers.proofs.OneObject.PartsMeant.{claim_struct}
use Rattle.capnp_pointers.proofs.WholeValue.ValueAgrees.{leaf_is, refusal_is, value_is}
use Rattle.capnp_pointers.specs.Extents.{capped, value_extent, read_extent}
use Rattle.capnp_pointers.specs.Measure.{fold_children, fold_elements, fold_pointers}
use Rattle.capnp_pointers.specs.Validation.{tally_shape, tally_words, validate_place, validate_within}
use Rattle.capnp_pointers.specs.declared.pointers.validate.Extent.{Extent}
use Rattle.capnp_pointers.specs.declared.pointers.validate.Tally.{Tally}
use Rattle.capnp_pointers.proofs.Validation.ValidatedBySteps.{leaf, opened, unread}

-- The tally z, and what n levels, this depth and these numbers add to it.
abbrev plus : ℕ → Tally → (depth words caps : ℕ) → Tally
plus n z deep words caps = record { lowest = min z.lowest (n - deep); words = capped (z.words + words); capabilities = capped (z.capabilities + caps) }

-- A tally that no level below n has reached, and whose numbers fit.
record Fits (n : ℕ) (z : Tally) : Type 0 where
  lowest : z.lowest ≤ n
  words : z.words ≤ 2 ^ 64 - 1
  caps : z.capabilities ≤ 2 ^ 64 - 1

abbrev Outcome : Type 0 → Type 0
Outcome A = Result A ErrorKind × Meter

-- What a walk makes of what is read: a value, consecutive ones, and elements.
abbrev Follows : ℕ → Tally → Outcome Tree → Outcome Tally → Type 0
Follows n z (Ok t, m) o = (depth t ≤ n) × (o ≡ (Ok (plus n z (depth t) (word_count t) (capabilities t)), m))
Follows n z (Err k, m) o = o ≡ (Err k, m)

abbrev AllFollow : ℕ → Tally → ℕ → Outcome Trees → Outcome Tally → Type 0
AllFollow n z i (Ok ts, m) o = (count ts ≡ i) × (depth_all ts ≤ n) × (o ≡ (Ok (plus n z (depth_all ts) (word_count_all ts) (capabilities_all ts)), m))
AllFollow n z i (Err k, m) o = o ≡ (Err k, m)

abbrev ElementsFollow : ℕ → Tally → ℕ → Outcome Elements → Outcome Tally → Type 0
ElementsFollow n z i (Ok es, m) o = (element_count es ≡ i) × (depth_elements es ≤ n) × (o ≡ (Ok (plus n z (depth_elements es) (word_count_elements es) (capabilities_elements es)), m))
ElementsFollow n z i (Err k, m) o = o ≡ (Err k, m)

same_tally : {y z : Tally} → y.lowest ≡ z.lowest → y.words ≡ z.words → y.capabilities ≡ z.capabilities → y ≡ z
same_tally {y} {z} low words caps = rw (low, words, caps) refl

none_added : (n : ℕ) (z : Tally) → Fits n z → z ≡ plus n z 0 0 0
none_added n z fits = same_tally (omega (arith, fits.lowest)) (omega (arith, fits.words)) (omega (arith, fits.caps))

both_added : (n : ℕ) (z : Tally) (a b c d e f : ℕ) → plus n (plus n z a b c) d e f ≡ plus n z (max a d) (b + e) (c + f)
both_added n z a b c d e f = same_tally (omega arith) (omega arith) (omega arith)

-- An object of these words at level n, and its children.
inside_added : (n : ℕ) (z : Tally) (own deep words caps : ℕ) → 0 < n → plus (pred n) (tally_words (pred n) own z) deep words caps ≡ plus n z (1 + deep) (own + words) caps
inside_added n z own deep words caps some = same_tally (omega (arith, some)) (omega arith) refl

plus_fits : (n : ℕ) (z : Tally) (deep words caps : ℕ) → Fits n (plus n z deep words caps)
plus_fits n z deep words caps = record { lowest = omega arith; words = omega arith; caps = omega arith }

words_fit : (n own : ℕ) (z : Tally) → z.capabilities ≤ 2 ^ 64 - 1 → Fits n (tally_words n own z)
words_fit n own z caps = record { lowest = omega arith; words = omega arith; caps = caps }

-- Consecutive pointers, and elements.
trees_follow : (f : Reading → Metered Tree) (w : Reading → Tally → Metered Tally) (n : ℕ) (r : Reading) → ((p : ℕ) (z : Tally) (m : Meter) → Fits n z → Follows n z (f (record r { at = p }) m) (w (record r { at = p }) z m)) →
    (i p : ℕ) (z : Tally) (m : Meter) → Fits n z → AllFollow n z i (read_values f i (record r { at = p }) m) (fold_pointers w i (record r { at = p }) z m)
trees_follow f w n r h zero p z m fits = (refl, omega arith, ap (λ y. (Ok y, m)) (none_added n z fits))
trees_follow f w n r h (suc i) p z m fits = go (f (record r { at = p }) m) (h p z m fits) (λ y m1 more. trees_follow f w n r h i (p + 1) y m1 more)
  where
    next : (t : Tree) → depth t ≤ n → (o : Outcome Trees) (x : Outcome Tally) → AllFollow n (plus n z (depth t) (word_count t) (capabilities t)) i o x → AllFollow n z (suc i) (onward (λ ts. answer (tree t ts)) o) x
    next t deep (Ok ts, m2) x (len, deeper, e) = (ap suc len, omega (arith, deep, deeper), e ∙ ap (λ y. (Ok y, m2)) (both_added n z (depth t) (word_count t) (capabilities t) (depth_all ts) (word_count_all ts) (capabilities_all ts)))
    next t deep (Err k, m2) x e = e

    go : (o : Outcome Tree) → Follows n z o (w (record r { at = p }) z m) → ((y : Tally) (m1 : Meter) → Fits n y → AllFollow n y i (read_values f i (record r { at = p + 1 }) m1) (fold_pointers w i (record r { at = p + 1 }) y m1)) →
        AllFollow n z (suc i) (onward (λ t m1. onward (λ ts. answer (tree t ts)) (read_values f i (record r { at = p + 1 }) m1)) o) (onward (fold_pointers w i (record r { at = p + 1 })) (w (record r { at = p }) z m))
    go (Ok t, m1) (deep, e) later =
        let y : Tally = plus n z (depth t) (word_count t) (capabilities t) in
        rw e (next t deep (read_values f i (record r { at = p + 1 }) m1) (fold_pointers w i (record r { at = p + 1 }) y m1) (later y m1 (plus_fits n z (depth t) (word_count t) (capabilities t))))
    go (Err k, m1) e later = ap (onward _) e

elements_follow : (f : Reading → Metered Tree) (w : Reading → Tally → Metered Tally) (n : ℕ) (r : Reading) → ((p : ℕ) (z : Tally) (m : Meter) → Fits n z → Follows n z (f (record r { at = p }) m) (w (record r { at = p }) z m)) →
    (d q i p : ℕ) (z : Tally) (m : Meter) → Fits n z → ElementsFollow n z i (read_element_values f d q i (record r { at = p }) m) (fold_elements w d q i (record r { at = p }) z m)
elements_follow f w n r h d q zero p z m fits = (refl, omega arith, ap (λ y. (Ok y, m)) (none_added n z fits))
elements_follow f w n r h d q (suc i) p z m fits = go (read_values f q (record r { at = p + d }) m) (fold_pointers w q (record r { at = p + d }) z m) (trees_follow f w n r h q (p + d) z m fits) (λ y m1 more. elements_follow f w n r h d q i (p + (d + q)) y m1 more)
  where
    next : (ws : List ℕ) (ts : Trees) → depth_all ts ≤ n → (o : Outcome Elements) (x : Outcome Tally) → ElementsFollow n (plus n z (depth_all ts) (word_count_all ts) (capabilities_all ts)) i o x → ElementsFollow n z (suc i) (onward (λ es. answer (element ws ts es)) o) x
    next ws ts deep (Ok es, m2) x (len, deeper, e) = (ap suc len, omega (arith, deep, deeper), e ∙ ap (λ y. (Ok y, m2)) (both_added n z (depth_all ts) (word_count_all ts) (capabilities_all ts) (depth_elements es) (word_count_elements es) (capabilities_elements es)))
    next ws ts deep (Err k, m2) x e = e

    go : (o : Outcome Trees) (x : Outcome Tally) → AllFollow n z q o x → ((y : Tally) (m1 : Meter) → Fits n y → ElementsFollow n y i (read_element_values f d q i (record r { at = p + (d + q) }) m1) (fold_elements w d q i (record r { at = p + (d + q) }) y m1)) →
        ElementsFollow n z (suc i) (onward (λ ts m1. onward (λ es. answer (element (words_from (record r { at = p }) d) ts es)) (read_element_values f d q i (record r { at = p + (d + q) }) m1)) o) (onward (fold_elements w d q i (record r { at = p + (d + q) })) x)
    go (Ok ts, m1) x (len, deep, e) later =
        let y : Tally = plus n z (depth_all ts) (word_count_all ts) (capabilities_all ts) in
        rw e (next (words_from (record r { at = p }) d) ts deep (read_element_values f d q i (record r { at = p + (d + q) }) m1) (fold_elements w d q i (record r { at = p + (d + q) }) y m1) (later y m1 (plus_fits n z (depth_all ts) (word_count_all ts) (capabilities_all ts))))
    go (Err k, m1) x e later = ap (onward _) e

-- An object that is entered, by its kind.
abbrev at_level : Reading → ℕ → Reading
at_level r n = record r { levels = n }

abbrev Below : Reading → Type 0
Below r = (s p : ℕ) (z : Tally) (m : Meter) → Fits (pred r.levels) z → Follows (pred r.levels) z (value_within plain (pred r.levels) (record r { levels = pred r.levels; segment = s; at = p }) m) (validate_within (pred r.levels) (record r { levels = pred r.levels; segment = s; at = p }) z m)

abbrev contents : Reading → Shape → Metered Tree
contents r = object_value (value_within plain (pred r.levels)) (λ s p. record r { levels = pred r.levels; segment = s; at = p })

abbrev walked : Reading → Tally → Shape → Meter → Outcome Tally
walked r z o m = fold_children (validate_within (pred r.levels)) (record r { levels = pred r.levels }) o (tally_shape (pred r.levels) o z) m

struct_follows : (r : Reading) (z : Tally) (m : Meter) (s p d q : ℕ) → 0 < r.levels → Fits r.levels z → length (words_from (record r { segment = s; at = p }) d) ≡ d → Below r → Follows r.levels z (contents r (struct s p d q) m) (walked r z (struct s p d q) m)
struct_follows r z m s p d q some fits long h =
    go (read_values (value_within plain (pred r.levels)) q (record r { levels = pred r.levels; segment = s; at = p + d }) m)
    (fold_pointers (validate_within (pred r.levels)) q (record r { levels = pred r.levels; segment = s; at = p + d }) (tally_words (pred r.levels) (d + q) z) m)
    (trees_follow (value_within plain (pred r.levels)) (validate_within (pred r.levels)) (pred r.levels) (record r { levels = pred r.levels; segment = s }) (λ p1 z1 m1 f. h s p1 z1 m1 f) q (p + d) (tally_words (pred r.levels) (d + q) z) m (words_fit (pred r.levels) (d + q) z fits.caps))
  where
    go : (o : Outcome Trees) (x : Outcome Tally) → AllFollow (pred r.levels) (tally_words (pred r.levels) (d + q) z) q o x → Follows r.levels z (onward (λ ts. answer (Struct (words_from (record r { levels = pred r.levels; segment = s; at = p }) d) ts)) o) x
    go (Ok ts, m1) x (len, deep, e) = (omega (arith, deep, some), e ∙ ap (λ y. (Ok y, m1)) (inside_added r.levels z (d + q) (depth_all ts) (word_count_all ts) (capabilities_all ts) some ∙ ap₂ (λ i j. plus r.levels z (1 + depth_all ts) (i + j + word_count_all ts) (capabilities_all ts)) (sym long) (sym len)))
    go (Err k, m1) x e = e

pointers_follow : (r : Reading) (z : Tally) (m : Meter) (s p q : ℕ) → 0 < r.levels → Fits r.levels z → Below r → Follows r.levels z (contents r (pointers s p q) m) (walked r z (pointers s p q) m)
pointers_follow r z m s p q some fits h =
    go (read_values (value_within plain (pred r.levels)) q (record r { levels = pred r.levels; segment = s; at = p }) m)
    (fold_pointers (validate_within (pred r.levels)) q (record r { levels = pred r.levels; segment = s; at = p }) (tally_words (pred r.levels) q z) m)
    (trees_follow (value_within plain (pred r.levels)) (validate_within (pred r.levels)) (pred r.levels) (record r { levels = pred r.levels; segment = s }) (λ p1 z1 m1 f. h s p1 z1 m1 f) q p (tally_words (pred r.levels) q z) m (words_fit (pred r.levels) q z fits.caps))
  where
    go : (o : Outcome Trees) (x : Outcome Tally) → AllFollow (pred r.levels) (tally_words (pred r.levels) q z) q o x → Follows r.levels z (onward (λ ts. answer (Pointers ts)) o) x
    go (Ok ts, m1) x (len, deep, e) = (omega (arith, deep, some), e ∙ ap (λ y. (Ok y, m1)) (inside_added r.levels z q (depth_all ts) (word_count_all ts) (capabilities_all ts) some ∙ ap (λ j. plus r.levels z (1 + depth_all ts) (j + word_count_all ts) (capabilities_all ts)) (sym len)))
    go (Err k, m1) x e = e

structs_follow : (r : Reading) (z : Tally) (m : Meter) (s p d q i : ℕ) → 0 < r.levels → Fits r.levels z → Below r → Follows r.levels z (contents r (structs s p d q i) m) (walked r z (structs s p d q i) m)
structs_follow r z m s p d q i some fits h =
    go (read_element_values (value_within plain (pred r.levels)) d q i (record r { levels = pred r.levels; segment = s; at = p }) m)
    (fold_elements (validate_within (pred r.levels)) d q i (record r { levels = pred r.levels; segment = s; at = p }) (tally_words (pred r.levels) (1 + i * (d + q)) z) m)
    (elements_follow (value_within plain (pred r.levels)) (validate_within (pred r.levels)) (pred r.levels) (record r { levels = pred r.levels; segment = s }) (λ p1 z1 m1 f. h s p1 z1 m1 f) d q i p (tally_words (pred r.levels) (1 + i * (d + q)) z) m (words_fit (pred r.levels) (1 + i * (d + q)) z fits.caps))
  where
    go : (o : Outcome Elements) (x : Outcome Tally) → ElementsFollow (pred r.levels) (tally_words (pred r.levels) (1 + i * (d + q)) z) i o x → Follows r.levels z (onward (λ es. answer (Structs d q es)) o) x
    go (Ok es, m1) x (len, deep, e) = (omega (arith, deep, some), e ∙ ap (λ y. (Ok y, m1)) (inside_added r.levels z (1 + i * (d + q)) (depth_elements es) (word_count_elements es) (capabilities_elements es) some ∙ ap (λ j. plus r.levels z (1 + depth_elements es) (1 + j * (d + q) + word_count_elements es) (capabilities_elements es)) (sym len)))
    go (Err k, m1) x e = e

flat_follows : (r : Reading) (z : Tally) (m : Meter) (s p size i : ℕ) → 0 < r.levels → Fits r.levels z → Follows r.levels z (contents r (flat s p size i) m) (walked r z (flat s p size i) m)
flat_follows r z m s p size i some fits = (
  omega (arith, some),
  ap (λ y. (Ok y, m)) (none_added (pred r.levels) (tally_words (pred r.levels) (words_for size i) z) (words_fit (pred r.levels) (words_for size i) z fits.caps) ∙ inside_added r.levels z (words_for size i) 0 0 0 some
      ∙ ap (λ w. plus r.levels z 1 w 0) (add-zero (words_for size i) ∙ ap (words_for size) (sym (length-digits _ i _)))),
)

object_follows : (r : Reading) (z : Tally) (m m' : Meter) (a : Target) → Fits r.levels z → Entered Value r m m' a → Below r → Follows r.levels z (contents r (shape r.segments a) m') (walked r z (shape r.segments a) m')
object_follows r z m m' a fits o h = elim (same_or_not (kind a.word) 0) [
  | inl k ↦
      let is_struct : nat_eq (kind a.word) 0 ≡ true = eq-eqb _ _ k in
      let claims = o.meets.claims in
      rw is_struct (struct_follows r z m' a.segment a.start (data_words a.word) (pointer_count a.word) o.meets.levels fits (length_words r.segments a.segment a.start (data_words a.word) (omega (arith, claims, claim_struct a.word k))) h)
  | inr other ↦
      let list : nat_eq (kind a.word) 0 ≡ false = ne_eqb _ _ other in
      elim (same_or_not (element_size a.word) 7) [
        | inl seven ↦ let is_seven : nat_eq (element_size a.word) 7 ≡ true = eq-eqb _ _ seven in rw (list, is_seven) (structs_follow r z m' a.segment (a.start + 1) (data_words (tag r.segments a)) (pointer_count (tag r.segments a)) (offset_bits (tag r.segments a)) o.meets.levels fits h)
        | inr no_structs ↦
            let not_seven : nat_eq (element_size a.word) 7 ≡ false = ne_eqb _ _ no_structs in
            elim (same_or_not (element_size a.word) 6) [
              | inl six ↦ let is_six : nat_eq (element_size a.word) 6 ≡ true = eq-eqb _ _ six in rw (list, not_seven, is_six) (pointers_follow r z m' a.segment a.start (list_count a.word) o.meets.levels fits h)
              | inr no_pointers ↦ let not_six : nat_eq (element_size a.word) 6 ≡ false = ne_eqb _ _ no_pointers in rw (list, not_seven, not_six) (flat_follows r z m' a.segment a.start (element_size a.word) (list_count a.word) o.meets.levels fits)
            ]
      ]
]

place_follows : (r : Reading) (z : Tally) (m : Meter) → Fits r.levels z → (0 < r.levels → Below r) → Follows r.levels z (value plain r m) (validate_place r z m)
place_follows r z m fits h = elim (same_or_not (word_of r) 0) [
  | inl none ↦ rw (leaf_is plain r.levels r m m nothing (Ok Null, m) (null_is Value r m none) (λ f at. refl), leaf r z m m nothing (λ f s y. refl) (null_is Value r m none)) (omega arith, ap (λ y. (Ok y, m)) (none_added r.levels z fits))
  | inr some ↦ go (ends Value r m some)
]
  where
    go : Ends Value r m → Follows r.levels z (value plain r m) (validate_place r z m)
    go (at_capability a f low covered) =
        let o : Shape = capability (upper_half a.word) in
        let e = capability_is Value r a m (λ e. absurd (cc e)) f low covered in
        rw (leaf_is plain r.levels r m (after_charge r.charging m a.pads 1) o (Ok (Capability (upper_half a.word)), after_charge r.charging m a.pads 1) e (λ f at. refl), leaf r z m (after_charge r.charging m a.pads 1) o (λ f s y. refl) e)
        (omega arith, ap (λ y. (Ok y, after_charge r.charging m a.pads 1)) (same_tally (omega (arith, fits.lowest)) (omega (arith, fits.words)) refl))
    go (at_object a m' o) =
        let e = entering_is Value r m m' a o in
        rw (value_is plain r.levels r m m' (shape r.segments a) e o.meets.levels, opened r z m m' (shape r.segments a) o.meets.levels e) (object_follows r z m m' a fits o (h o.meets.levels))
    go (refused k m' stopped) =
        rw (refusal_is plain r.levels r m m' k (stopped_is Value r m m' k (λ e. absurd (cc e)) stopped)) (unread z stopped)

follows : (n : ℕ) (r : Reading) (z : Tally) (m : Meter) → r.levels ≡ n → Fits r.levels z → Follows r.levels z (value plain r m) (validate_place r z m)
follows zero r z m e fits = place_follows r z m fits (λ some. absurd (omega (arith, some, e)))
follows (suc n) r z m e fits = place_follows r z m fits (λ some s p z1 m1 fits1. follows n (record r { levels = pred r.levels; segment = s; at = p }) z1 m1 (omega (arith, e)) fits1)

-- The extent that a walk has found from this place on, and its refusal.
abbrev pub start : ℕ → Tally
start n = record { lowest = n; words = 0; capabilities = 0 }

started : (n : ℕ) → Fits n (start n)
started n = record { lowest = omega arith; words = omega arith; caps = omega arith }

same_extent : {x y : Extent} → x.depth ≡ y.depth → x.words ≡ y.words → x.capabilities ≡ y.capabilities → x ≡ y
same_extent {x} {y} deep words caps = rw (deep, words, caps) refl

answers_same : {A : Type 0} {x : Outcome A} {y z : A} {m n : Meter} → x ≡ (Ok y, m) → x ≡ (Ok z, n) → (y ≡ z) × (m ≡ n)
answers_same e f =
    let both = sym e ∙ f in
    let results = ap (λ p. p.0) both in
    (cc results, ap (λ p. p.1) both)

-- What the walk leaves, and what the reading returns.
pub record Found (r : Reading) (m m' : Meter) (z : Tally) : Type 0 where
  pub lowest : z.lowest ≤ r.levels
  pub is : read_extent r m ≡ (Ok (record { depth = r.levels - z.lowest; words = z.words; capabilities = z.capabilities }), m')

pub found : (r : Reading) (m m' : Meter) (z : Tally) → validate_place r (start r.levels) m ≡ (Ok z, m') → Found r m m' z
found r m m' z e = go (value plain r m) refl (follows r.levels r (start r.levels) m refl (started r.levels))
  where
    go : (o : Outcome Tree) → value plain r m ≡ o → Follows r.levels (start r.levels) o (validate_place r (start r.levels) m) → Found r m m' z
    go (Ok t, m1) v (deep, f) =
        let same = answers_same e f in
        let is : z ≡ plus r.levels (start r.levels) (depth t) (word_count t) (capabilities t) = same.0 in
        let low : z.lowest ≡ min r.levels (r.levels - depth t) = ap (λ y. y.lowest) is in
        let words : z.words ≡ min (0 + word_count t) (2 ^ 64 - 1) = ap (λ y. y.words) is in
        let caps : z.capabilities ≡ min (0 + capabilities t) (2 ^ 64 - 1) = ap (λ y. y.capabilities) is in
        record {
          lowest = omega (arith, low);
          is = ap (onward (λ t. answer (value_extent t))) v ∙ ap₂ (λ x y. (Ok x, y)) (same_extent (omega (arith, low, deep)) (omega (arith, words)) (omega (arith, caps))) (sym same.1);
        }
    go (Err k, m1) v f = absurd (not_both e f)

pub stopped : (r : Reading) (m m' : Meter) (k : ErrorKind) → validate_place r (start r.levels) m ≡ (Err k, m') → read_extent r m ≡ (Err k, m')
stopped r m m' k e = go (value plain r m) refl (follows r.levels r (start r.levels) m refl (started r.levels))
  where
    go : (o : Outcome Tree) → value plain r m ≡ o → Follows r.levels (start r.levels) o (validate_place r (start r.levels) m) → read_extent r m ≡ (Err k, m')
    go (Ok t, m1) v (deep, f) = absurd (not_both f e)
    go (Err l, m1) v f = let same = same_refusal f e in ap (onward (λ t. answer (value_extent t))) v ∙ ap₂ (λ x y. (Err x, y)) same.0 same.1

pub depth_within : (r : Reading) (m m' : Meter) (t : Tree) → value plain r m ≡ (Ok t, m') → depth t ≤ r.levels
depth_within r m m' t e = (subst (λ (o : Outcome Tree). Follows r.levels (start r.levels) o (validate_place r (start r.levels) m)) e (follows r.levels r (start r.levels) m refl (started r.levels))).0
