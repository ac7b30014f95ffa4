-- If the value of a place is read, a walk collects what its objects are, in order.
use Rattle.std.proofs.Common.{◌≡◌, inl, inr, ℕ, zero, suc, pred, ◌+◌, ◌<◌, Some, None, Result, Ok, Err, true, false, nat_eq, List, [], ◌∷◌, ◌++◌, length, map, refl, sym, ap, ap₂, ◌∙◌, subst, arith, eq-eqb, append_assoc, append-nil}
use Rattle.std.proofs.lemmas.Bool.{ne_eqb}
use Rattle.std.proofs.lemmas.List.{map-append, length-map}
use Rattle.capnp_words.specs.declared.error.ErrorKind.{ErrorKind}
use Rattle.capnp_words.specs.Meter.{Meter}
use Rattle.capnp_format.specs.Word.{kind, data_words, pointer_count, element_size, list_count, offset_bits, upper_half}
use Rattle.capnp_format.specs.Segments.{Target}
use Rattle.capnp_format.specs.Tree.{Tree, Null, Capability, Struct, Pointers, Structs, Trees, tree, Elements, element, count, element_count}
use Rattle.capnp_format.proofs.Digits.{length-digits}
use Rattle.capnp_format.proofs.Slices.{length_words}
use Rattle.capnp_pointers.specs.declared.object.Purpose.TheVariants.{Value}
use Rattle.capnp_pointers.specs.Demands.{tag}
use Rattle.capnp_pointers.specs.Enter.{Shape, nothing, capability, struct, flat, pointers, structs, shape}
use Rattle.capnp_pointers.specs.Metered.{Metered, answer, onward}
use Rattle.capnp_pointers.specs.Outcomes.{Entered}
use Rattle.capnp_pointers.specs.Reading.{Reading, word_of, words_from}
use Rattle.capnp_pointers.specs.Spending.{after_charge}
use Rattle.capnp_pointers.specs.Values.{read_values, read_element_values, object_value, value_within, value}
use Rattle.capnp_pointers.specs.Wanted.{plain}
use Rattle.capnp_pointers.proofs.OneObject.ReadAsStated.{null_is, capability_is, entering_is, stopped_is}
use Rattle.capnp_pointers.proofs.Decided.{same_or_not}
use Rattle.capnp_pointers.proofs.OneObject.ReadInOneWay.{Ends, at_capability, at_object, refused, ends}
use Rattle.capnp_pointers.proofs.OneObject.PartsMeant.{claim_struct}
use Rattle.capnp_pointers.proofs.WholeValue.ValueAgrees.{leaf_is, refusal_is, value_is}
use Rattle.capnp_pointers.specs.Extents.{capped}
use Rattle.capnp_pointers.specs.Measure.{fold_children, fold_elements, fold_pointers}
use Rattle.capnp_walks.specs.Figures.{Figures, figures, objects_of, objects_of_all, objects_of_elements}
use Rattle.capnp_walks.specs.Listing.{Collector, into_list}
use Rattle.capnp_walks.specs.Walks.{Walking, added, unless_stopped, walk_place, walk_within}
use Rattle.capnp_walks.specs.declared.walks.listing.WalkedObject.{WalkedObject}
use Rattle.capnp_walks.proofs.Mapped.{Maps, answered, kept, through, walk_mapped}
use Rattle.capnp_walks.proofs.Stepped.{leaf, opened}

-- Collects the figures of the entries' objects.
abbrev pub into_figures : Collector (List Figures)
into_figures = record { collect = λ o xs. xs ++ figures o ∷ []; next = λ xs. capped (length xs) }

maps_figures : Maps into_list into_figures (map figures)
maps_figures = record {
  collects = λ o xs. sym (map-append figures xs (o ∷ []));
  nexts = λ xs. ap capped (length-map xs figures);
}

abbrev Outcome : Type 0 → Type 0
Outcome A = Result A ErrorKind × Meter

abbrev Collected : Type 0
Collected = Walking (List Figures)

-- What a walk makes of what is read: a value, consecutive ones, and elements.
abbrev Lists : List Figures → Outcome Tree → Outcome Collected → Type 0
Lists xs (Ok t, m) o = o ≡ (Ok (xs ++ objects_of t, None), m)
Lists xs (Err k, m) o = Unit {0}

abbrev AllListed : List Figures → ℕ → Outcome Trees → Outcome Collected → Type 0
AllListed xs i (Ok ts, m) o = (count ts ≡ i) × (o ≡ (Ok (xs ++ objects_of_all ts, None), m))
AllListed xs i (Err k, m) o = Unit {0}

abbrev ElementsListed : List Figures → ℕ → Outcome Elements → Outcome Collected → Type 0
ElementsListed xs i (Ok es, m) o = (element_count es ≡ i) × (o ≡ (Ok (xs ++ objects_of_elements es, None), m))
ElementsListed xs i (Err k, m) o = Unit {0}

-- Consecutive pointers, and elements.
module _ (f : Reading → Metered Tree) (w : Reading → List Figures → Metered Collected) (n : ℕ) (r : Reading)
    (h : (p : ℕ) (xs : List Figures) (m : Meter) → Lists xs (f (record r { at = p }) m) (w (record r { at = p }) xs m)) where
  trees_listed : (i p : ℕ) (xs : List Figures) (m : Meter) → AllListed xs i (read_values f i (record r { at = p }) m) (fold_pointers (unless_stopped w) i (record r { at = p }) (xs, None) m)
  trees_listed zero p xs m = (refl, ap (λ y. (Ok (y, None), m)) (sym (append-nil xs)))
  trees_listed (suc i) p xs m = go (f (record r { at = p }) m) (h p xs m) (λ ys m1. trees_listed i (p + 1) ys m1)
    where
      later : (t : Tree) (o : Outcome Trees) (x : Outcome Collected) → AllListed (xs ++ objects_of t) i o x → AllListed xs (suc i) (onward (λ ts. answer (tree t ts)) o) x
      later t (Ok ts, m2) x (len, e) = (ap suc len, e ∙ ap (λ y. (Ok (y, None), m2)) (append_assoc xs (objects_of t) (objects_of_all ts)))
      later t (Err k, m2) x e = tt

      go : (o : Outcome Tree) → Lists xs o (w (record r { at = p }) xs m) → ((ys : List Figures) (m1 : Meter) → AllListed ys i (read_values f i (record r { at = p + 1 }) m1) (fold_pointers (unless_stopped w) i (record r { at = p + 1 }) (ys, None) m1)) →
          AllListed xs (suc i) (onward (λ t m1. onward (λ ts. answer (tree t ts)) (read_values f i (record r { at = p + 1 }) m1)) o) (onward (fold_pointers (unless_stopped w) i (record r { at = p + 1 })) (w (record r { at = p }) xs m))
      go (Ok t, m1) e rest = rw e (later t (read_values f i (record r { at = p + 1 }) m1) (fold_pointers (unless_stopped w) i (record r { at = p + 1 }) (xs ++ objects_of t, None) m1) (rest (xs ++ objects_of t) m1))
      go (Err k, m1) e rest = tt

  elements_listed : (d q i p : ℕ) (xs : List Figures) (m : Meter) → ElementsListed xs i (read_element_values f d q i (record r { at = p }) m) (fold_elements (unless_stopped w) d q i (record r { at = p }) (xs, None) m)
  elements_listed d q zero p xs m = (refl, ap (λ y. (Ok (y, None), m)) (sym (append-nil xs)))
  elements_listed d q (suc i) p xs m =
      go (read_values f q (record r { at = p + d }) m) (fold_pointers (unless_stopped w) q (record r { at = p + d }) (xs, None) m) (trees_listed q (p + d) xs m) (λ ys m1. elements_listed d q i (p + (d + q)) ys m1)
    where
      later : (ws : List ℕ) (ts : Trees) (o : Outcome Elements) (x : Outcome Collected) → ElementsListed (xs ++ objects_of_all ts) i o x → ElementsListed xs (suc i) (onward (λ es. answer (element ws ts es)) o) x
      later ws ts (Ok es, m2) x (len, e) = (ap suc len, e ∙ ap (λ y. (Ok (y, None), m2)) (append_assoc xs (objects_of_all ts) (objects_of_elements es)))
      later ws ts (Err k, m2) x e = tt

      go : (o : Outcome Trees) (x : Outcome Collected) → AllListed xs q o x → ((ys : List Figures) (m1 : Meter) → ElementsListed ys i (read_element_values f d q i (record r { at = p + (d + q) }) m1) (fold_elements (unless_stopped w) d q i (record r { at = p + (d + q) }) (ys, None) m1)) →
          ElementsListed xs (suc i) (onward (λ ts m1. onward (λ es. answer (element (words_from (record r { at = p }) d) ts es)) (read_element_values f d q i (record r { at = p + (d + q) }) m1)) o) (onward (fold_elements (unless_stopped w) d q i (record r { at = p + (d + q) })) x)
      go (Ok ts, m1) x (len, e) rest =
          rw e (later (words_from (record r { at = p }) d) ts (read_element_values f d q i (record r { at = p + (d + q) }) m1) (fold_elements (unless_stopped w) d q i (record r { at = p + (d + q) }) (xs ++ objects_of_all ts, None) m1) (rest (xs ++ objects_of_all ts) m1))
      go (Err k, m1) x e rest = tt

-- An object that is entered, by its kind. The walk of its children begins with the index of the
-- object.
abbrev Below : Reading → Type 0
Below r = (parent s p : ℕ) (xs : List Figures) (m : Meter) → Lists xs (value_within plain (pred r.levels) (record r { levels = pred r.levels; segment = s; at = p }) m) (walk_within into_figures (pred r.levels) parent (record r { levels = pred r.levels; segment = s; at = p }) xs m)

abbrev contents : Reading → Shape → Metered Tree
contents r = object_value (value_within plain (pred r.levels)) (λ s p. record r { levels = pred r.levels; segment = s; at = p })

abbrev walked : (parent index : ℕ) → Reading → List Figures → Shape → Meter → Outcome Collected
walked parent index r xs o m = fold_children (unless_stopped (walk_within into_figures (pred r.levels) index)) (record r { levels = pred r.levels }) o (added into_figures parent r o xs, None) m

struct_listed : (parent index : ℕ) (r : Reading) (xs : List Figures) (m : Meter) (s p d q : ℕ) → length (words_from (record r { segment = s; at = p }) d) ≡ d → Below r → Lists xs (contents r (struct s p d q) m) (walked parent index r xs (struct s p d q) m)
struct_listed parent index r xs m s p d q long h =
    go (read_values (value_within plain (pred r.levels)) q (record r { levels = pred r.levels; segment = s; at = p + d }) m) (walked parent index r xs (struct s p d q) m)
    (trees_listed (value_within plain (pred r.levels)) (walk_within into_figures (pred r.levels) index) (pred r.levels) (record r { levels = pred r.levels; segment = s }) (λ p1 ys m1. h index s p1 ys m1) q (p + d) (added into_figures parent r (struct s p d q) xs) m)
  where
    go : (o : Outcome Trees) (x : Outcome Collected) → AllListed (added into_figures parent r (struct s p d q) xs) q o x → Lists xs (onward (λ ts. answer (Struct (words_from (record r { levels = pred r.levels; segment = s; at = p }) d) ts)) o) x
    go (Ok ts, m1) x (len, e) =
        e ∙ ap (λ y. (Ok (y, None), m1)) (append_assoc xs _ (objects_of_all ts) ∙ ap₂ (λ i j. xs ++ record { kind = 8; elements = 0; index = 0; data_words = i; pointers = j } ∷ objects_of_all ts) (sym long) (sym len))
    go (Err k, m1) x e = tt

pointers_listed : (parent index : ℕ) (r : Reading) (xs : List Figures) (m : Meter) (s p q : ℕ) → Below r → Lists xs (contents r (pointers s p q) m) (walked parent index r xs (pointers s p q) m)
pointers_listed parent index r xs m s p q h =
    go (read_values (value_within plain (pred r.levels)) q (record r { levels = pred r.levels; segment = s; at = p }) m) (walked parent index r xs (pointers s p q) m)
    (trees_listed (value_within plain (pred r.levels)) (walk_within into_figures (pred r.levels) index) (pred r.levels) (record r { levels = pred r.levels; segment = s }) (λ p1 ys m1. h index s p1 ys m1) q p (added into_figures parent r (pointers s p q) xs) m)
  where
    go : (o : Outcome Trees) (x : Outcome Collected) → AllListed (added into_figures parent r (pointers s p q) xs) q o x → Lists xs (onward (λ ts. answer (Pointers ts)) o) x
    go (Ok ts, m1) x (len, e) =
        e ∙ ap (λ y. (Ok (y, None), m1)) (append_assoc xs _ (objects_of_all ts) ∙ ap (λ i. xs ++ record { kind = 6; elements = i; index = 0; data_words = 0; pointers = 0 } ∷ objects_of_all ts) (sym len))
    go (Err k, m1) x e = tt

structs_listed : (parent index : ℕ) (r : Reading) (xs : List Figures) (m : Meter) (s p d q i : ℕ) → Below r → Lists xs (contents r (structs s p d q i) m) (walked parent index r xs (structs s p d q i) m)
structs_listed parent index r xs m s p d q i h =
    go (read_element_values (value_within plain (pred r.levels)) d q i (record r { levels = pred r.levels; segment = s; at = p }) m) (walked parent index r xs (structs s p d q i) m)
    (elements_listed (value_within plain (pred r.levels)) (walk_within into_figures (pred r.levels) index) (pred r.levels) (record r { levels = pred r.levels; segment = s }) (λ p1 ys m1. h index s p1 ys m1) d q i p (added into_figures parent r (structs s p d q i) xs) m)
  where
    go : (o : Outcome Elements) (x : Outcome Collected) → ElementsListed (added into_figures parent r (structs s p d q i) xs) i o x → Lists xs (onward (λ es. answer (Structs d q es)) o) x
    go (Ok es, m1) x (len, e) =
        e ∙ ap (λ y. (Ok (y, None), m1)) (append_assoc xs _ (objects_of_elements es) ∙ ap (λ j. xs ++ record { kind = 7; elements = j; index = 0; data_words = d; pointers = q } ∷ objects_of_elements es) (sym len))
    go (Err k, m1) x e = tt

flat_listed : (parent index : ℕ) (r : Reading) (xs : List Figures) (m : Meter) (s p size i : ℕ) → Lists xs (contents r (flat s p size i) m) (walked parent index r xs (flat s p size i) m)
flat_listed parent index r xs m s p size i = ap (λ j. (Ok (xs ++ record { kind = size; elements = j; index = 0; data_words = 0; pointers = 0 } ∷ [], None), m)) (sym (length-digits _ i _))

object_listed : (parent index : ℕ) (r : Reading) (xs : List Figures) (m m' : Meter) (a : Target) → Entered Value r m m' a → Below r → Lists xs (contents r (shape r.segments a) m') (walked parent index r xs (shape r.segments a) m')
object_listed parent index r xs m m' a o h = elim (same_or_not (kind a.word) 0) [
  | inl k ↦
      let is_struct : nat_eq (kind a.word) 0 ≡ true = eq-eqb _ _ k in
      let claims = o.meets.claims in
      rw is_struct (struct_listed parent index r xs m' a.segment a.start (data_words a.word) (pointer_count a.word) (length_words r.segments a.segment a.start (data_words a.word) (omega (arith, claims, claim_struct a.word k))) h)
  | inr other ↦
      let list : nat_eq (kind a.word) 0 ≡ false = ne_eqb _ _ other in
      elim (same_or_not (element_size a.word) 7) [
        | inl seven ↦ let is_seven : nat_eq (element_size a.word) 7 ≡ true = eq-eqb _ _ seven in rw (list, is_seven) (structs_listed parent index r xs m' a.segment (a.start + 1) (data_words (tag r.segments a)) (pointer_count (tag r.segments a)) (offset_bits (tag r.segments a)) h)
        | inr no_structs ↦
            let not_seven : nat_eq (element_size a.word) 7 ≡ false = ne_eqb _ _ no_structs in
            elim (same_or_not (element_size a.word) 6) [
              | inl six ↦ let is_six : nat_eq (element_size a.word) 6 ≡ true = eq-eqb _ _ six in rw (list, not_seven, is_six) (pointers_listed parent index r xs m' a.segment a.start (list_count a.word) h)
              | inr no_pointers ↦ let not_six : nat_eq (element_size a.word) 6 ≡ false = ne_eqb _ _ no_pointers in rw (list, not_seven, not_six) (flat_listed parent index r xs m' a.segment a.start (element_size a.word) (list_count a.word))
            ]
      ]
]

place_listed : (parent : ℕ) (r : Reading) (xs : List Figures) (m : Meter) → (0 < r.levels → Below r) → Lists xs (value plain r m) (walk_place into_figures parent r xs m)
place_listed parent r xs m h = elim (same_or_not (word_of r) 0) [
  | inl none ↦ rw (leaf_is plain r.levels r m m nothing (Ok Null, m) (null_is Value r m none) (λ f at. refl), leaf into_figures parent r xs m m nothing (λ f s y. refl) (null_is Value r m none)) (ap (λ y. (Ok (y, None), m)) (sym (append-nil xs)))
  | inr some ↦ go (ends Value r m some)
]
  where
    go : Ends Value r m → Lists xs (value plain r m) (walk_place into_figures parent r xs m)
    go (at_capability a f low covered) =
        let o : Shape = capability (upper_half a.word) in
        let e = capability_is Value r a m (λ e. absurd (cc e)) f low covered in
        rw (leaf_is plain r.levels r m (after_charge r.charging m a.pads 1) o (Ok (Capability (upper_half a.word)), after_charge r.charging m a.pads 1) e (λ f at. refl), leaf into_figures parent r xs m (after_charge r.charging m a.pads 1) o (λ f s y. refl) e)
        refl
    go (at_object a m' o) =
        let e = entering_is Value r m m' a o in
        rw (value_is plain r.levels r m m' (shape r.segments a) e o.meets.levels, opened into_figures parent r xs m m' (shape r.segments a) o.meets.levels e) (object_listed parent (capped (length xs)) r xs m m' a o (h o.meets.levels))
    go (refused k m' stopped) =
        rw (refusal_is plain r.levels r m m' k (stopped_is Value r m m' k (λ e. absurd (cc e)) stopped)) tt

value_listed : (n parent : ℕ) (r : Reading) (xs : List Figures) (m : Meter) → r.levels ≡ n → Lists xs (value plain r m) (walk_place into_figures parent r xs m)
value_listed zero parent r xs m e = place_listed parent r xs m (λ some. absurd (omega (arith, some, e)))
value_listed (suc n) parent r xs m e = place_listed parent r xs m (λ some index s p ys m1. value_listed n index (record r { levels = pred r.levels; segment = s; at = p }) ys m1 (omega (arith, e)))

-- A walk into a list, at its end.
pub record ListsAll (t : Tree) (m' : Meter) (o : Result (Walking (List WalkedObject)) ErrorKind × Meter) : Type 0 where
  pub entries : List WalkedObject
  pub is : o ≡ (Ok (entries, None), m')
  pub told : map figures entries ≡ objects_of t

pub objects_listed : (parent : ℕ) (r : Reading) (m m' : Meter) (t : Tree) → value plain r m ≡ (Ok t, m') → ListsAll t m' (walk_place into_list parent r [] m)
objects_listed parent r m m' t e =
    go (walk_place into_list parent r [] m)
    (sym (walk_mapped (map figures) maps_figures r.levels parent r [] m) ∙ subst (λ (o : Outcome Tree). Lists [] o (walk_place into_figures parent r [] m)) e (value_listed r.levels parent r [] m refl))
  where
    go : (o : Result (Walking (List WalkedObject)) ErrorKind × Meter) → kept (through (map figures)) o ≡ (Ok (objects_of t, None), m') → ListsAll t m' o
    go (Ok (ys, None), m1) f =
        let left : m1 ≡ m' = ap (λ x. x.1) f in
        record { entries = ys; is = ap (λ x. (Ok (ys, None), x)) left; told = ap (λ (x : Outcome Collected). (answered {S = Collected} (objects_of t, None) x.0).0) f }
    go (Ok (ys, Some p), m1) f = let stops : Some p ≡ None = ap (λ (x : Outcome Collected). (answered {S = Collected} (objects_of t, None) x.0).1) f in absurd (cc stops)
    go (Err k, m1) f = let results : ◌≡◌ {A = Result Collected ErrorKind} (Err k) (Ok (objects_of t, None)) = ap (λ x. x.0) f in absurd (cc results)
