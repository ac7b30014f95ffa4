-- The test reads what a reading of the plain value reads, in the same order and with the same
-- charges. So as far as the test finds canonical words, the value is read; and if the test is
-- refused, so is the reading.
use Rattle.std.proofs.Common.{◌≡◌, ℕ, zero, suc, ◌+◌, ◌*◌, ◌-◌, ◌||◌, Bool, true, false, cond, nat_eq, nat_lt, List, length, Result, Ok, Err, refl, sym, ap, ◌∙◌, subst, arith, eqb-true}
use Rattle.capnp_words.specs.declared.error.ErrorKind.{ErrorKind}
use Rattle.capnp_words.specs.Meter.{Meter}
use Rattle.capnp_words.specs.Sizes.{sized}
use Rattle.capnp_format.specs.Numbers.{unpacked, words_for}
use Rattle.capnp_format.specs.Tree.{Tree, Null, Capability, Struct, Flat, Pointers, Structs, Trees, no_trees, tree, Elements, no_elements, element}
use Rattle.capnp_format.specs.Word.{kind, list_count}
use Rattle.capnp_pointers.specs.declared.object.Purpose.TheVariants.{Value}
use Rattle.capnp_pointers.specs.Enter.{Shape, nothing, capability, struct, flat, pointers, structs, read}
use Rattle.capnp_pointers.specs.Metered.{Metered, answer, onward}
use Rattle.capnp_pointers.specs.Reading.{Reading, place_past, segment_read, word_of, words_from}
use Rattle.capnp_pointers.specs.Values.{object_value, permit, read_element_values, read_values, value, value_within}
use Rattle.capnp_pointers.specs.Wanted.{plain}
use Rattle.capnp_pointers.specs.CanonicalFaults.{other_reason}
use Rattle.capnp_pointers.specs.Measure.{fold_elements, fold_pointers}
use Rattle.capnp_pointers.specs.Testing.{IsTestName, TestStep, Verdict, elements_tested, fault_unless, flat_tested, is_padded, is_used, near_tested, rows_tested, some_used, structs_tested, object_tested, pointers_tested, renamed, struct_tested, test_value, test_values, test_within, unless_fault}
use Rattle.capnp_pointers.specs.declared.pointers.canonical_fault.CanonicalFault.{CanonicalFault}
use Rattle.capnp_pointers.specs.declared.pointers.canonical_fault.CanonicalFaultReason.{CanonicalFaultReason}
use Rattle.capnp_pointers.specs.declared.pointers.canonical_fault.CanonicalFaultReason.TheVariants.{DataSection, ElementData, ElementPointers, ElementWords, EmptyStructPlace, NoPointer, ObjectPlace, Padding, PointerSection}
use Rattle.capnp_pointers.proofs.CanonicalTest.TestedBySteps.{faults_stay, fault_rows_stay}

abbrev pub Outcome : Type 0
Outcome = Result Verdict ErrorKind × Meter

-- The outcome of a reading, beside that of the test of the same place.
pub data Along {A : Type 0} (y : Result A ErrorKind × Meter) : Outcome → Type 0 where
  passes : {head : ℕ} {m' : Meter} (t : A) → y ≡ (Ok t, m') → Along y (Ok (Ok head), m')
  fails : {fault : CanonicalFault} {m' : Meter} → Along y (Ok (Err fault), m')
  refuses : {k : ErrorKind} {m' : Meter} (l : ErrorKind) → IsTestName l k → y ≡ (Err l, m') → Along y (Err k, m')

pub refused_along : {A : Type 0} {y : Result A ErrorKind × Meter} {k : ErrorKind} {m' : Meter} → Along y (Err k, m') → (l : ErrorKind) × IsTestName l k × (y ≡ (Err l, m'))
refused_along (refuses l named is) = (l, named, is)

-- What is made of a value that is read.
made : {A B : Type 0} {y : Result A ErrorKind × Meter} {x : Outcome} (f : A → B) → Along y x → Along (onward (λ t. answer (f t)) y) x
made f (passes t is) = passes (f t) (ap (onward (λ u. answer (f u))) is)
made f fails = fails
made f (refuses l named is) = refuses l named (ap (onward (λ u. answer (f u))) is)

-- A check of the test after what it has read, and one before.
checked : {A : Type 0} {y : Result A ErrorKind × Meter} {x : Outcome} (b : Bool) (reason : CanonicalFaultReason) (r : Reading) (p : ℕ) → Along y x → Along y (onward (unless_fault (fault_unless b reason r p)) x)
checked true reason r p (passes t is) = passes t is
checked false reason r p (passes t is) = fails
checked b reason r p fails = fails
checked b reason r p (refuses l named is) = refuses l named is

once_checked : {A : Type 0} {y : Result A ErrorKind × Meter} (b : Bool) (reason : CanonicalFaultReason) (r : Reading) (p head : ℕ) (m : Meter) (f : TestStep) → Along y (f head m) → Along y (onward (unless_fault f) (fault_unless b reason r p head m))
once_checked true reason r p head m f along = along
once_checked false reason r p head m f along = fails

last_checked : {A : Type 0} {y : Result A ErrorKind × Meter} (b : Bool) (reason : CanonicalFaultReason) (r : Reading) (p head : ℕ) (m : Meter) (t : A) → y ≡ (Ok t, m) → Along y (fault_unless b reason r p head m)
last_checked true reason r p head m t is = passes t is
last_checked false reason r p head m t is = fails

-- Consecutive pointers and elements, from a place of r on.
abbrev AllAlong : (Reading → Metered Tree) → (Reading → TestStep) → Reading → Type 0
AllAlong g f r = (p head : ℕ) (m : Meter) → Along (g (record r { at = p }) m) (f (record r { at = p }) head m)

pointers_along : (g : Reading → Metered Tree) (f : Reading → TestStep) (r : Reading) → AllAlong g f r → (i p head : ℕ) (m : Meter) → Along (read_values g i (record r { at = p }) m) (pointers_tested f i (record r { at = p }) head m)
pointers_along g f r h zero p head m = passes no_trees refl
pointers_along g f r h (suc i) p head m = go (f (record r { at = p }) head m) (h p head m) (pointers_along g f r h i (p + 1))
  where
    s : Reading
    s = record r { at = p }

    go : (x : Outcome) → Along (g s m) x → ((e : ℕ) (m1 : Meter) → Along (read_values g i (place_past s 1) m1) (pointers_tested f i (place_past s 1) e m1)) →
        Along (onward (λ t m1. onward (λ ts. answer (tree t ts)) (read_values g i (place_past s 1) m1)) (g s m)) (onward (fold_pointers (λ v. unless_fault (f v)) i (place_past s 1)) x)
    go (Ok (Ok e), m1) (passes t is) rest =
        subst (λ (y : Result Tree ErrorKind × Meter). Along (onward (λ u m2. onward (λ ts. answer (tree u ts)) (read_values g i (place_past s 1) m2)) y) (pointers_tested f i (place_past s 1) e m1)) (sym is)
        (made (tree t) (rest e m1))
    go (Ok (Err fault), m1) along rest = subst (Along (onward (λ t m2. onward (λ ts. answer (tree t ts)) (read_values g i (place_past s 1) m2)) (g s m))) (sym (faults_stay f i (place_past s 1) fault m1)) fails
    go (Err k, m1) (refuses l named is) rest = refuses l named (ap (onward (λ t m2. onward (λ ts. answer (tree t ts)) (read_values g i (place_past s 1) m2))) is)

elements_along : (g : Reading → Metered Tree) (f : Reading → TestStep) (r : Reading) → AllAlong g f r → (d q n p head : ℕ) (m : Meter) → Along (read_element_values g d q n (record r { at = p }) m) (elements_tested f d q n (record r { at = p }) head m)
elements_along g f r h d q zero p head m = passes no_elements refl
elements_along g f r h d q (suc n) p head m = go (pointers_tested f q (record r { at = p + d }) head m) (pointers_along g f r h q (p + d) head m) (elements_along g f r h d q n (p + (d + q)))
  where
    s : Reading
    s = record r { at = p }

    go : (x : Outcome) → Along (read_values g q (place_past s d) m) x → ((e : ℕ) (m1 : Meter) → Along (read_element_values g d q n (place_past s (d + q)) m1) (elements_tested f d q n (place_past s (d + q)) e m1)) →
        Along (onward (λ ts m1. onward (λ es. answer (element (words_from s d) ts es)) (read_element_values g d q n (place_past s (d + q)) m1)) (read_values g q (place_past s d) m)) (onward (fold_elements (λ v. unless_fault (f v)) d q n (place_past s (d + q))) x)
    go (Ok (Ok e), m1) (passes ts is) rest =
        subst (λ (y : Result Trees ErrorKind × Meter). Along (onward (λ us m2. onward (λ es. answer (element (words_from s d) us es)) (read_element_values g d q n (place_past s (d + q)) m2)) y) (elements_tested f d q n (place_past s (d + q)) e m1)) (sym is)
        (made (element (words_from s d) ts) (rest e m1))
    go (Ok (Err fault), m1) along rest = subst (Along (onward (λ ts m2. onward (λ es. answer (element (words_from s d) ts es)) (read_element_values g d q n (place_past s (d + q)) m2)) (read_values g q (place_past s d) m))) (sym (fault_rows_stay f d q n (place_past s (d + q)) fault m1)) fails
    go (Err k, m1) (refuses l named is) rest = refuses l named (ap (onward (λ ts m2. onward (λ es. answer (element (words_from s d) ts es)) (read_element_values g d q n (place_past s (d + q)) m2))) is)

-- Objects.
abbrev inner : ℕ → Reading → ℕ → ℕ → Reading
inner n r s p = record r { levels = n; segment = s; at = p }

object_along : (n : ℕ) (g : Reading → Metered Tree) (f : Reading → TestStep) (r : Reading) → ((s : ℕ) → AllAlong g f (inner n r s 0)) → (o : Shape) (head : ℕ) (m : Meter) → Along (object_value g (inner n r) o m) (object_tested f (inner n r) r o head m)
object_along n g f r h nothing head m = passes Null refl
object_along n g f r h (capability i) head m = passes (Capability i) refl
object_along n g f r h (flat s p size i) head m =
    once_checked (nat_eq p head) ObjectPlace r r.at head m (λ e. flat_tested size i (inner n r s p))
    (last_checked (is_padded (inner n r s p) size i) Padding (inner n r s p) (p + words_for size i - 1) (p + words_for size i) m (Flat size (unpacked size i (words_from (inner n r s p) (words_for size i)))) refl)
object_along n g f r h (pointers s p i) head m =
    once_checked (nat_eq p head) ObjectPlace r r.at head m (λ e. pointers_tested f i (inner n r s p) (p + i)) (made Pointers (pointers_along g f (inner n r s 0) (h s) i p (p + i) m))
object_along n g f r h (structs s p d q i) head m =
    once_checked (nat_eq p (head + 1)) ObjectPlace r r.at head m (λ e. structs_tested f (list_count (word_of r)) (sized d q) i (inner n r s p))
    (once_checked (nat_eq (i * (d + q)) (list_count (word_of r))) ElementWords (inner n r s p) (p - 1) p m (λ e. rows_tested f d q i (inner n r s p))
    (checked (nat_eq q 0 || some_used (place_past (inner n r s p) d) q (d + q) i) ElementPointers (inner n r s p) (p - 1)
    (checked (nat_eq d 0 || some_used (inner n r s p) d (d + q) i) ElementData (inner n r s p) (p - 1) (made (Structs d q) (elements_along g f (inner n r s 0) (h s) d q i p (p + i * (d + q)) m)))))
object_along n g f r h (struct s p d q) head m = go (nat_eq (d + q) 0) refl
  where
    c : Reading
    c = inner n r s (p + d)

    ws : List ℕ
    ws = words_from (inner n r s p) d

    empty : (b : Bool) → q ≡ 0 → Along (onward (λ ts. answer (Struct ws ts)) (read_values g q c m)) (fault_unless b EmptyStructPlace r r.at head m)
    empty true e = passes (Struct ws no_trees) (ap (λ i. onward (λ ts. answer (Struct ws ts)) (read_values g i c m)) e)
    empty false e = fails

    full : Along (onward (λ ts. answer (Struct ws ts)) (read_values g q c m)) (onward (unless_fault (λ e. struct_tested f d q (inner n r s p))) (fault_unless (nat_eq p head) ObjectPlace r r.at head m))
    full = once_checked (nat_eq p head) ObjectPlace r r.at head m (λ e. struct_tested f d q (inner n r s p)) (checked (is_used c q) PointerSection (inner n r s p) (p + d + q - 1) (checked (is_used (inner n r s p) d) DataSection (inner n r s p) (p + d - 1) (made (Struct ws) (pointers_along g f (inner n r s 0) (h s) q (p + d) (p + d + q) m))))

    go : (b : Bool) → nat_eq (d + q) 0 ≡ b → Along (onward (λ ts. answer (Struct ws ts)) (read_values g q c m)) (cond b (fault_unless (nat_eq p r.at) EmptyStructPlace r r.at head) (λ m1. onward (unless_fault (λ e. struct_tested f d q (inner n r s p))) (fault_unless (nat_eq p head) ObjectPlace r r.at head m1)) m)
    go true is =
        let none : d + q ≡ 0 = eqb-true (d + q) 0 is in
        empty (nat_eq p r.at) (omega (arith, none))
    go false is = full

-- Without a level, every pointer below is taken to be null.
nulls : (i : ℕ) (r : Reading) (m : Meter) → (ts : Trees) × (read_values (λ s. answer Null) i r m ≡ (Ok ts, m))
nulls zero r m = (no_trees, refl)
nulls (suc i) r m = let (ts, is) = nulls i (place_past r 1) m in (tree Null ts, ap (onward (λ us. answer (tree Null us))) is)

element_nulls : (d q n : ℕ) (r : Reading) (m : Meter) → (es : Elements) × (read_element_values (λ s. answer Null) d q n r m ≡ (Ok es, m))
element_nulls d q zero r m = (no_elements, refl)
element_nulls d q (suc n) r m =
    let (ts, is) = nulls q (place_past r d) m in
    let (es, are) = element_nulls d q n (place_past r (d + q)) m in
    (element (words_from r d) ts es, ap (onward (λ us m1. onward (λ fs. answer (element (words_from r d) us fs)) (read_element_values (λ s. answer Null) d q n (place_past r (d + q)) m1))) is ∙ ap (onward (λ fs. answer (element (words_from r d) ts fs))) are)

leaf : (r : Reading) (o : Shape) (m : Meter) → (t : Tree) × (object_value (λ s. answer Null) (λ s p. r) o m ≡ (Ok t, m))
leaf r nothing m = (Null, refl)
leaf r (capability i) m = (Capability i, refl)
leaf r (struct s p d q) m = let (ts, is) = nulls q r m in (Struct (words_from r d) ts, ap (onward (λ us. answer (Struct (words_from r d) us))) is)
leaf r (flat s p size i) m = (Flat size (unpacked size i (words_from r (words_for size i))), refl)
leaf r (pointers s p i) m = let (ts, is) = nulls i r m in (Pointers ts, ap (onward (λ us. answer (Pointers us))) is)
leaf r (structs s p d q i) m = let (es, are) = element_nulls d q i r m in (Structs d q es, ap (onward (λ fs. answer (Structs d q fs))) are)

-- A place.
abbrev Read : Type 0
Read = Result Shape ErrorKind × Meter

near_along : (g : Shape → Metered Tree) (f : Shape → TestStep) (r : Reading) → ((o : Shape) (head : ℕ) (m : Meter) → Along (g o m) (f o head m)) → (head : ℕ) (m : Meter) → Along (onward g (onward (permit plain) (read Value r m))) (near_tested f r head m)
near_along g f r h head m = go (nat_lt r.at (length (segment_read r))) (nat_lt (kind (word_of r)) 2)
  where
    ends : (y : Read) → Along (onward g (onward (permit plain) y)) (onward (λ o. f o head) (renamed (word_of r) y))
    ends (Ok o, m1) = h o head m1
    ends (Err k, m1) = refuses k (word_of r, refl) refl

    go : (b c : Bool) → Along (onward g (onward (permit plain) (read Value r m)))
        (onward (unless_fault (λ e m1. onward (λ o. f o e) (renamed (word_of r) (read Value r m1)))) (onward (unless_fault (fault_unless c (other_reason (word_of r)) r r.at)) (fault_unless b NoPointer r r.at head m)))
    go true true = ends (read Value r m)
    go true false = fails
    go false c = fails

within_along : (n : ℕ) (r : Reading) (head : ℕ) (m : Meter) → Along (value_within plain n r m) (test_within n r head m)
unfolding test_within value_within
within_along zero r head m = near_along (object_value (λ s. answer Null) (λ s p. r)) (λ o e. answer (Ok e)) (record r { levels = zero }) (λ o e m1. (let (t, is) = leaf r o m1 in passes t is)) head m
within_along (suc n) r head m = near_along (object_value (value_within plain n) (inner n r)) (object_tested (test_within n) (inner n r) r) (record r { levels = suc n }) (object_along n (value_within plain n) (test_within n) r (λ s p. within_along n (inner n r s p))) head m

-- The test of a place and a reading of its value; and the same for consecutive pointers.
pub value_along : (r : Reading) (head : ℕ) (m : Meter) → Along (value plain r m) (test_value r head m)
value_along r head m = within_along r.levels r head m

pub values_along : (i : ℕ) (r : Reading) (head : ℕ) (m : Meter) → Along (read_values (value_within plain r.levels) i r m) (test_values i r head m)
values_along i r head m = pointers_along (value_within plain r.levels) (test_within r.levels) r (λ p. within_along r.levels (record r { at = p })) i r.at head m
