-- The test answers if there are canonical words within the limits; and if it is refused, the place
-- has no value within the limits.
use Rattle.std.proofs.Common.{◌≡◌, ℕ, ◌+◌, ◌≤◌, Ok, Err, IsOk, length, refl, sym, ap, ap₂, ◌∙◌, subst, arith, Result}
use Rattle.capnp_words.specs.declared.error.ErrorKind.{ErrorKind}
use Rattle.capnp_words.specs.Meter.{Meter, Affords}
use Rattle.capnp_format.specs.Segments.{HasSmallWords, segment}
use Rattle.capnp_format.specs.Tree.{Tree, Trees, no_trees, tree, count, depth, depth_all}
use Rattle.capnp_format.specs.Canonical.{ForOffset, HasCanonicalAt, charge, charge_all, word_count}
use Rattle.capnp_format.proofs.LawLemmas.{one_stands}
use Rattle.capnp_pointers.specs.Metered.{answer, onward}
use Rattle.capnp_pointers.specs.Outcomes.{MeansThere}
use Rattle.capnp_pointers.specs.Reading.{Reading, segment_read}
use Rattle.capnp_pointers.specs.Spending.{Paid, after_charge, pointers_in}
use Rattle.capnp_pointers.specs.Values.{read_values, value, value_within}
use Rattle.capnp_pointers.specs.Wanted.{plain}
use Rattle.capnp_pointers.proofs.Budget.PaidAndLeft.{affords_rest}
use Rattle.capnp_pointers.proofs.OneObject.ReadInOneWay.{no_answer, not_both}
use Rattle.capnp_pointers.proofs.WholeValue.ValueAsStated.{reads_is, refused_if}
use Rattle.capnp_pointers.proofs.WholeValue.UnreadableIfRefused.{affords_less, unreadable}
use Rattle.capnp_pointers.specs.Checking.{CanAllBeFound, CanBeFound, Finds, IsFound, progress}
use Rattle.capnp_pointers.specs.Standing.{HasBodiesAt, ForOffsets}
use Rattle.capnp_pointers.specs.Testing.{test_value, test_values}
use Rattle.capnp_pointers.proofs.CanonicalForm.Consecutive.{for_offset_map, stands_within}
use Rattle.capnp_pointers.proofs.CanonicalTest.VerdictOfObject.{test_says}
use Rattle.capnp_pointers.proofs.CanonicalTest.ReadsAsReading.{Along, Outcome, refused_along, value_along, values_along}
use Rattle.capnp_pointers.proofs.CanonicalForm.MeansWhatStands.{stands_means_at}
use Rattle.capnp_pointers.proofs.CanonicalTest.VerdictsOfParts.{Says}

-- A value that is found is read.
pub found_read : {r : Reading} {h e : ℕ} {m m' : Meter} {t : Tree} → Finds r (progress h m) (progress e m') t → value plain r m ≡ (Ok t, m')
found_read {r} {h} {e} {m} {m'} {t} f = reads_is plain r m m' t (record {
  cost = charge t;
  means = stands_means_at r.segments r.levels r.segment r.at h t f.levels f.inside f.stands;
  takes = λ other. absurd (other refl);
  covers = f.paid.covers;
  spent = f.paid.spent;
})

not_refused : {r : Reading} {h e : ℕ} {m m' m2 : Meter} {t : Tree} {k : ErrorKind} → Finds r (progress h m) (progress e m') t → Along (value plain r m) (Err k, m2) → ⊥
not_refused f along = let (l, named, read) = refused_along along in not_both (found_read f) read

-- What can be found is found.
found_with : {r : Reading} {h e : ℕ} {m m' : Meter} {t : Tree} → HasSmallWords r.segments r.segment → Finds r (progress h m) (progress e m') t → test_value r h m ≡ (Ok (Ok e), m')
found_with {r} {h} {e} {m} {m'} {t} small f = go (test_value r h m) (test_says r small h m) (value_along r h m)
  where
    go : (x : Outcome) → Says r h m x → Along (value plain r m) x → x ≡ (Ok (Ok e), m')
    go (Ok (Ok e2), m2) (u, g) along =
        let same : u ≡ t = one_stands r.segments r.segment r.at h u t g.stands f.stands in
        ap₂ (λ i y. (Ok (Ok i), y)) (g.head_is ∙ ap (λ v. h + word_count v) same ∙ sym f.head_is) (g.paid.spent ∙ ap₂ (λ c n. after_charge r.charging m c n) (ap charge same) (ap pointers_in same) ∙ sym f.paid.spent)
    go (Ok (Err fault), m2) never along = absurd (never (t, f.stands))
    go (Err k, m2) says along = absurd (not_refused f along)

pub found_is : (r : Reading) (h e : ℕ) (m m' : Meter) → HasSmallWords r.segments r.segment → IsFound r (progress h m) (progress e m') → test_value r h m ≡ (Ok (Ok e), m')
found_is r h e m m' small (t, f) = found_with small f

pub found_if : (r : Reading) (h e : ℕ) (m m' : Meter) → HasSmallWords r.segments r.segment → test_value r h m ≡ (Ok (Ok e), m') → IsFound r (progress h m) (progress e m')
found_if r h e m m' small is = subst (Says r h m) is (test_says r small h m)

-- The canonical words of t at a place, within the limits.
can_find : (r : Reading) (h : ℕ) (m : Meter) (t : Tree) → HasCanonicalAt r.segments r.segment r.at h t → ForOffset t (h ≤ length (segment_read r)) → depth t ≤ r.levels → Affords r.charging m (charge t) →
    Finds r (progress h m) (progress (h + word_count t) (after_charge r.charging m (charge t) (pointers_in t))) t
can_find r h m t stands inside deep covers = record { stands = stands; inside = inside; levels = deep; paid = record { covers = covers; spent = refl }; head_is = refl }

pub can_answers : (r : Reading) (h : ℕ) (m : Meter) → CanBeFound r (progress h m) → IsOk (test_value r h m).0
can_answers r h m (t, stands, inside, deep, covers) = go (test_value r h m) (value_along r h m)
  where
    go : (x : Outcome) → Along (value plain r m) x → IsOk x.0
    go (Ok v, m2) along = refl
    go (Err k, m2) along = absurd (not_refused (can_find r h m t stands inside deep covers) along)

-- The same for consecutive pointers.
offsets_within : (ts : Trees) {P Q : Type 0} → (P → Q) → ForOffsets ts P → ForOffsets ts Q
offsets_within no_trees f h = tt
offsets_within (tree t ts) {P} {Q} f h = (for_offset_map t P Q f h.0, offsets_within ts f h.1)

abbrev ReadTrees : Type 0
ReadTrees = Result Trees ErrorKind × Meter

joined : (t : Tree) (y : ReadTrees) → IsOk y.0 → IsOk (onward (λ ts. answer (tree t ts)) y).0
joined t (Ok ts, m2) is = refl
joined t (Err k, m2) is = is

all_read : (r : Reading) (ts : Trees) (p h : ℕ) (m : Meter) → HasBodiesAt r.segments r.segment p h ts → ForOffsets ts (h ≤ length (segment_read r)) → depth_all ts ≤ r.levels → Affords r.charging m (charge_all ts) →
    IsOk (read_values (value_within plain r.levels) (count ts) (record r { at = p }) m).0
all_read r no_trees p h m stand inside deep covers = refl
all_read r (tree t ts) p h m stand inside deep covers =
    let g = value_within plain r.levels in
    let paid : Paid r.charging m (after_charge r.charging m (charge t) (pointers_in t)) (charge t) (pointers_in t) = record { covers = affords_less r.charging m (charge t) (charge_all (tree t ts)) (omega arith) covers; spent = refl } in
    let first = found_read (can_find (record r { at = p }) h m t stand.0 inside.0 (omega (arith, deep)) paid.covers) in
    let rest = all_read r ts (p + 1) (h + word_count t) (after_charge r.charging m (charge t) (pointers_in t)) stand.1 (offsets_within ts (λ there. stands_within r.segments r.segment p h t there stand.0) inside.1) (omega (arith, deep))
    (affords_rest (charge_all ts) (charge_all (tree t ts)) paid (omega arith) covers) in
    subst (λ (y : ReadTrees). IsOk y.0) (sym (ap (onward (λ u m1. onward (λ us. answer (tree u us)) (read_values g (count ts) (record r { at = p + 1 }) m1))) first)) (joined t (read_values g (count ts) (record r { at = p + 1 }) (after_charge r.charging m (charge t) (pointers_in t))) rest)

pub all_can_answer : (r : Reading) (i h : ℕ) (m : Meter) → CanAllBeFound r i (progress h m) → IsOk (test_values i r h m).0
all_can_answer r i h m (ts, len, stand, inside, deep, covers) = go (test_values i r h m) (values_along i r h m)
  where
    read : IsOk (read_values (value_within plain r.levels) i r m).0
    read = subst (λ j. IsOk (read_values (value_within plain r.levels) j r m).0) len (all_read r ts r.at h m stand inside deep covers)

    go : (x : Outcome) → Along (read_values (value_within plain r.levels) i r m) x → IsOk x.0
    go (Ok v, m2) along = refl
    go (Err k, m2) along = let (l, named, refused) = refused_along along in absurd (no_answer refused read)

-- A place whose test is refused has no value within the limits.
pub refused_no_value : (r : Reading) (h : ℕ) (m m' : Meter) (k : ErrorKind) → test_value r h m ≡ (Err k, m') → (t : Tree) (c : ℕ) → MeansThere r t c → Affords r.charging m c → ⊥
refused_no_value r h m m' k is t c means covers =
    let (l, named, read) = refused_along (subst (Along (value plain r m)) is (value_along r h m)) in
    (unreadable (refused_if plain r m m' l read)).only t c means (λ other. absurd (other refl)) covers
