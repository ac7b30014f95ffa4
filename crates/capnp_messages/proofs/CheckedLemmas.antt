-- The test of a whole message: how it goes, and what its outcome means.
use Rattle.std.specs.Prelude.{IsNone, IsTrue, IfErr, IfNone, IfOk, IfSome, is_some, not}
use Rattle.std.specs.Bool.{OnTrue}
use Rattle.std.proofs.Common.{◌↔◌, Bool, ◌≡◌, ◌≢◌, inl, inr, ℕ, ◌+◌, ◌≤◌, true, false, nat_lt, min, Option, Some, None, Result, Ok, Err, IsOk, length, refl, sym, ap, ap₂, ◌∙◌, subst, arith, eq-eqb, lt-ltb}
use Rattle.std.proofs.lemmas.Bool.{ne_eqb, false≢true}
use Rattle.capnp_words.specs.declared.error.ErrorKind.{ErrorKind}
use Rattle.capnp_words.specs.Meter.{Meter, FitsIn, spent, unused}
use Rattle.capnp_arena.specs.declared.arena.reader_arena_impl.ReaderOptions.{ReaderOptions}
use Rattle.capnp_pointers.specs.CanonicalFaults.{FaultIs}
use Rattle.capnp_format.specs.Segments.{HasSmallWords, Segments, segment}
use Rattle.capnp_format.specs.Tree.{Tree, depth}
use Rattle.capnp_format.specs.Canonical.{charge}
use Rattle.capnp_format.specs.Means.{Means}
use Rattle.capnp_format.proofs.Unique.{for_offset}
use Rattle.capnp_pointers.specs.Reading.{Reading}
use Rattle.capnp_pointers.specs.Source.{levels}
use Rattle.capnp_pointers.specs.Metered.{answer, fits, onward}
use Rattle.capnp_pointers.specs.Spending.{Paid, pointers_in}
use Rattle.capnp_pointers.proofs.Decided.{same_or_not}
use Rattle.capnp_pointers.proofs.OneObject.ReadInOneWay.{no_answer, not_both, same_refusal}
use Rattle.capnp_pointers.specs.declared.pointers.canonical_fault.CanonicalFault.{CanonicalFault}
use Rattle.capnp_pointers.specs.declared.pointers.canonical_fault.CanonicalFaultReason.TheVariants.{SegmentCount, WordsBehind}
use Rattle.capnp_pointers.specs.Testing.{Verdict, fault_verdict, test_value}
use Rattle.capnp_pointers.proofs.CanonicalTest.AnswersWithinLimits.{can_answers, refused_no_value}
use Rattle.capnp_pointers.proofs.CanonicalTest.VerdictOfObject.{test_says}
use Rattle.capnp_pointers.proofs.CanonicalTest.VerdictsOfParts.{Says}
use Rattle.capnp_pointers.specs.Checking.{HasSmallSegment}
use Rattle.capnp_messages.specs.CanonicalMessages.{CanBeTested, IsCanonicalMessage, IsCanonicalOf, IsPaid, IsWithinLevels}
use Rattle.capnp_messages.specs.Check.{check, is_whole, message_tested, whole_fault, whole_result}
use Rattle.capnp_messages.specs.Messages.{IsFaultOf, RefusesCheck}
use Rattle.capnp_messages.specs.Roots.{CoversRoot, RefusesRoot, message_root, read_message_root}
use Rattle.capnp_messages.specs.Roots.RefusesRoot.{no_root, no_budget}
use Rattle.capnp_messages.proofs.CanonLemmas.{covers_rest}
use Rattle.capnp_messages.proofs.SizeLemmas.{fits_one, root_or_not}
use Rattle.capnp_messages.proofs.CanonicalMessageLemmas.{IsRootRead, moved, canonical_stands, found_more, has_root, one_canonical_value, paid_both, stands_alone}

abbrev pub Outcome : Type 0
Outcome = Result (Option CanonicalFault) ErrorKind × Meter

abbrev Found : Type 0
Found = Result Verdict ErrorKind × Meter

-- What is made of what the test at the root has found.
abbrev pub whole_outcome : Segments → Found → Outcome
whole_outcome S x = onward (λ v m'. (Ok (whole_fault S v), m')) x

-- The root is read, or isn't.
pub root_read : (S : Segments) (n : ℕ) (m : Meter) → CoversRoot S m.left → read_message_root S n m ≡ (Ok (message_root S n), spent m 1)
root_read S n m covers =
    let root = covers.root in
    let there : nat_lt 0 (length (segment S 0)) ≡ true = lt-ltb _ _ root in
    rw (there, fits_one m.left covers.covered) refl

pub root_unread : (S : Segments) (n : ℕ) (m : Meter) (k : ErrorKind) → RefusesRoot S m.left k → read_message_root S n m ≡ (Err k, m)
root_unread S n m k (no_root named none) =
    let empty : length (segment S 0) ≤ 0 = omega (arith, none) in
    let absent : nat_lt 0 (length (segment S 0)) ≡ false = grind (arith, empty) in
    rw absent (ap (λ e. (Err e, m)) (sym named))
root_unread S n m k (no_budget named root none) =
    let there : nat_lt 0 (length (segment S 0)) ≡ true = lt-ltb _ _ root in
    let short : fits m.left 1 ≡ false = ap (λ left. fits left 1) none in
    rw (there, short) (ap (λ e. (Err e, m)) (sym named))

-- How the test goes.
pub several_tested : (S : Segments) (n : ℕ) (m : Meter) → length S ≢ 1 → message_tested S n m ≡ (Ok (Some (record { segment = min 1 (length S); word = 0; reason = SegmentCount })), m)
several_tested S n m other = rw (ne_eqb _ _ other) refl

pub unread_tested : (S : Segments) (n : ℕ) (m : Meter) (k : ErrorKind) → length S ≡ 1 → RefusesRoot S m.left k → message_tested S n m ≡ (Err k, m)
unread_tested S n m k one refused = rw (eq-eqb _ _ one) (ap (λ x. whole_outcome S (onward (λ r. test_value r 1) x)) (root_unread S n m k refused))

pub root_tested : (S : Segments) (n : ℕ) (m : Meter) → length S ≡ 1 → CoversRoot S m.left → message_tested S n m ≡ whole_outcome S (test_value (message_root S n) 1 (spent m 1))
root_tested S n m one covers = rw (eq-eqb _ _ one) (ap (λ x. whole_outcome S (onward (λ r. test_value r 1) x)) (root_read S n m covers))

-- What its outcome means.
abbrev pub Tells : Segments → ℕ → Meter → Outcome → Type 0
Tells S n m (Ok None, m') = (t : Tree) × IsCanonicalOf S t × (depth t ≤ n) × Paid true m m' (1 + charge t) (pointers_in t)
Tells S n m (Ok (Some f), m') = IsCanonicalMessage S → ⊥
Tells S n m (Err k, m') = length S ≡ 1

pub tells : (S : Segments) (n : ℕ) (m : Meter) → (length S ≡ 1 → HasSmallWords S 0) → Tells S n m (message_tested S n m)
tells S n m small = elim (same_or_not (length S) 1) [
  | inr other ↦ subst (Tells S n m) (sym (several_tested S n m other)) (λ (t, canonical). other (ap length canonical.is))
  | inl one ↦ elim (root_or_not S m.left) [
    | inr refused ↦ subst (Tells S n m) (sym (unread_tested S n m refused.0 one refused.1)) one
    | inl covers ↦ subst (Tells S n m) (sym (root_tested S n m one covers)) (go one covers (test_value (message_root S n) 1 (spent m 1)) (test_says (message_root S n) (small one) 1 (spent m 1)))
  ]
]
  where
    go : length S ≡ 1 → CoversRoot S m.left → (x : Found) → Says (message_root S n) 1 (spent m 1) x → Tells S n m (whole_outcome S x)
    go one covers (Err k, m') says = one
    go one covers (Ok (Err f), m') never = λ (t, canonical). never (t, canonical_stands canonical)
    go one covers (Ok (Ok h), m') (t, finds) = elim (same_or_not h (length (segment S 0))) [
      | inl full ↦ rw (eq-eqb _ _ full) (t, stands_alone one finds.stands (sym finds.head_is ∙ full), finds.levels, paid_both covers.covered finds.paid)
      | inr more ↦ rw (ne_eqb _ _ more) (found_more {S = S} {n = n} (t, finds) more)
    ]

-- The same where the root's words are known to have 64 bits.
told : {S : Segments} {n : ℕ} {old : Meter} {r : Reading} {m : Meter} {x : Outcome} → IsRootRead S n old r m → HasSmallSegment r → message_tested S n old ≡ x → Tells S n old x
told {S} {n} {old} root small is = subst (Tells S n old) is (tells S n old (λ one. moved (λ r m. HasSmallSegment r) root small))

-- A message without a fault is canonical, paid for, and within the levels; one with a fault isn't
-- canonical.
pub none_paid : {S : Segments} {n : ℕ} {old : Meter} {r : Reading} {m m' : Meter} → IsRootRead S n old r m → HasSmallSegment r → message_tested S n old ≡ (Ok None, m') → IsPaid S old m'
none_paid root small is = let (t, canonical, deep, paid) = told root small is in (t, canonical, paid)

pub none_within : {S : Segments} {n : ℕ} {old : Meter} {r : Reading} {m m' : Meter} → IsRootRead S n old r m → HasSmallSegment r → message_tested S n old ≡ (Ok None, m') → IsWithinLevels S n
none_within {S} {n} root small is u other =
    let (t, canonical, deep, paid) = told root small is in
    subst (λ (v : Tree). depth v ≤ n) (one_canonical_value S t u canonical other) deep

pub some_exactly : {S : Segments} {n : ℕ} {old : Meter} {r : Reading} {m m' : Meter} {f : CanonicalFault} → IsRootRead S n old r m → HasSmallSegment r → message_tested S n old ≡ (Ok (Some f), m') → IsNone (Some f) ↔ IsCanonicalMessage S
some_exactly root small is =
    let never = told root small is in
    (λ wrong. absurd (let same : true ≡ false = wrong in cc), λ canonical. absurd (never canonical))

-- A canonical message within the limits is tested without a refusal, and a message with a value
-- within the limits, too.
fits_less : (left : Option ℕ) (c : ℕ) → FitsIn left (1 + c) → FitsIn left 1
fits_less None c h = tt
fits_less (Some x) c h = omega (arith, h)

whole_ok : (S : Segments) (x : Found) → IsOk x.0 → IsOk (whole_outcome S x).0
whole_ok S (Ok v, m') is = refl
whole_ok S (Err k, m') is = is

pub answers : (S : Segments) (n : ℕ) (m : Meter) → CanBeTested S n m → IsOk (message_tested S n m).0
answers S n m (t, canonical, levels, fits) =
    let covers : CoversRoot S m.left = record { root = omega (arith, has_root canonical); covered = fits_less m.left (charge t) fits } in
    subst (λ (x : Outcome). IsOk x.0) (sym (root_tested S n m (ap length canonical.is) covers))
    (whole_ok S (test_value (message_root S n) 1 (spent m 1)) (can_answers (message_root S n) 1 (spent m 1) (t, canonical_stands canonical, for_offset t (1 ≤ length (segment S 0)) (has_root canonical), levels, covers_rest m.left (charge t) fits)))

pub refused_alone : (S : Segments) (n : ℕ) (m m' : Meter) (k : ErrorKind) → message_tested S n m ≡ (Err k, m') → length S ≡ 1
refused_alone S n m m' k is = elim (same_or_not (length S) 1) [
  | inl one ↦ one
  | inr other ↦ absurd (not_both (several_tested S n m other) is)
]

pub refused_inside : (S : Segments) (n : ℕ) (m m' : Meter) (k : ErrorKind) → message_tested S n m ≡ (Err k, m') → CoversRoot S m.left → test_value (message_root S n) 1 (spent m 1) ≡ (Err k, m')
refused_inside S n m m' k is covers = go (test_value (message_root S n) 1 (spent m 1)) (sym (root_tested S n m (refused_alone S n m m' k is) covers) ∙ is)
  where
    go : (x : Found) → whole_outcome S x ≡ (Err k, m') → x ≡ (Err k, m')
    go (Ok v, m1) e = absurd (not_both refl e)
    go (Err l, m1) e = let same = same_refusal refl e in ap₂ (λ y z. (Err y, z)) same.0 same.1

pub readable_answered : (S : Segments) (n : ℕ) (m m' : Meter) (k : ErrorKind) → message_tested S n m ≡ (Err k, m') → CoversRoot S m.left → (t : Tree) (c : ℕ) → Means S n 0 0 t c → FitsIn m.left (1 + c) → ⊥
readable_answered S n m m' k is covers t c means fits = refused_no_value (message_root S n) 1 (spent m 1) m' k (refused_inside S n m m' k is covers) t c means (covers_rest m.left c fits)

-- What the program's calls return.
at_whole : {S : Segments} {n : ℕ} {old : Meter} {r : Reading} {m : Meter} (x : Found) → length S ≡ 1 → IsRootRead S n old r m → test_value r 1 m ≡ x → message_tested S n old ≡ whole_outcome S x
at_whole {S} {n} {old} x one root is = root_tested S n old one root.covers ∙ ap (whole_outcome S) (moved (λ r m. test_value r 1 m ≡ x) root is)

pub whole_some : {S : Segments} {n : ℕ} {old : Meter} {r : Reading} {m m' : Meter} {f : CanonicalFault} (h : ℕ) (o : Option CanonicalFault) → length S ≡ 1 → IsRootRead S n old r m → o ≡ Some f → test_value r 1 m ≡ (fault_verdict (Ok o) h, m') → message_tested S n old ≡ (Ok (Some f), m')
whole_some {m' = m'} {f = f} h o one root same is = at_whole (Ok (Err f), m') one root (is ∙ ap (λ (e : Option CanonicalFault). (fault_verdict (Ok e) h, m')) same)

pub whole_none : {S : Segments} {n h : ℕ} {old : Meter} {r : Reading} {m m' : Meter} (o : Option CanonicalFault) → length S ≡ 1 → IsRootRead S n old r m → o ≡ None → test_value r 1 m ≡ (fault_verdict (Ok o) h, m') → h ≡ length (segment S 0) → message_tested S n old ≡ (Ok None, m')
whole_none {S} {h = h} {m' = m'} o one root same is full = at_whole (Ok (Ok h), m') one root (is ∙ ap (λ (e : Option CanonicalFault). (fault_verdict (Ok e) h, m')) same) ∙ rw (eq-eqb _ _ full) refl

pub whole_more : {S : Segments} {n h : ℕ} {old : Meter} {r : Reading} {m m' : Meter} (o : Option CanonicalFault) → length S ≡ 1 → IsRootRead S n old r m → o ≡ None → test_value r 1 m ≡ (fault_verdict (Ok o) h, m') → h ≢ length (segment S 0) →
    message_tested S n old ≡ (Ok (Some (record { segment = 0; word = h; reason = WordsBehind })), m')
whole_more {S} {h = h} {m' = m'} o one root same is more = at_whole (Ok (Ok h), m') one root (is ∙ ap (λ (e : Option CanonicalFault). (fault_verdict (Ok e) h, m')) same) ∙ rw (ne_eqb _ _ more) refl

pub whole_err : {S : Segments} {n : ℕ} {old : Meter} {r : Reading} {m m' : Meter} (k : ErrorKind) → length S ≡ 1 → IsRootRead S n old r m → test_value r 1 m ≡ (Err k, m') → message_tested S n old ≡ (Err k, m')
whole_err {m' = m'} k one root is = at_whole (Err k, m') one root is

pub other_count : (S : Segments) (n c : ℕ) (m : Meter) (o : Option CanonicalFault) → length S ≡ c → IfSome o (λ f. (c ≢ 1) × FaultIs f SegmentCount (min 1 c) 0) → is_some o ≡ true → message_tested S n m ≡ (Ok o, m)
other_count S n c m None many other is = absurd (false≢true is)
other_count S n c m (Some f) many (other, (reason, seg, word)) is =
    several_tested S n m (λ one. other (sym many ∙ one))
    ∙ ap (λ (e : CanonicalFault). (Ok (Some e), m))
    (ap (λ i. record { segment = i; word = 0; reason = SegmentCount }) (ap (λ i. min 1 i) many ∙ sym seg)
    ∙ ap (λ i. record { segment = f.segment; word = i; reason = SegmentCount }) (sym word)
    ∙ ap (λ y. record { segment = f.segment; word = f.word; reason = y }) (sym reason))

-- Within the limits of a reader's options.
pub within_limits : (S : Segments) (limits : ReaderOptions) {old m' : Meter} {x : Result (Option CanonicalFault) ErrorKind} → old ≡ unused limits.traversal_limit_in_words → message_tested S (levels limits.nesting_limit) old ≡ (x, m') → check S limits ≡ x
within_limits S limits {m' = m'} {x = x} begun is = ap (λ p. p.0) (subst (λ (m : Meter). message_tested S (levels limits.nesting_limit) m ≡ (x, m')) begun is)

pub fault_if : (S : Segments) (limits : ReaderOptions) (result : Result (Option CanonicalFault) ErrorKind) → check S limits ≡ result → IfOk result (λ o. IfSome o (IsFaultOf S limits))
fault_if S limits (Ok None) is = tt
fault_if S limits (Ok (Some f)) is = is
fault_if S limits (Err k) is = tt

pub refused_if : (S : Segments) (limits : ReaderOptions) (result : Result (Option CanonicalFault) ErrorKind) → check S limits ≡ result → IfErr result (RefusesCheck S limits)
refused_if S limits (Ok o) is = tt
refused_if S limits (Err k) is = is

pub whole_if : (S : Segments) (limits : ReaderOptions) (o : Option CanonicalFault) (b : Bool) → check S limits ≡ Ok o → is_some o ≡ not b → whole_result (check S limits) ≡ Ok b
whole_if S limits None true is none = ap whole_result is
whole_if S limits (Some f) false is none = ap whole_result is
whole_if S limits None false is none = absurd (false≢true none)
whole_if S limits (Some f) true is none = absurd (false≢true (sym none))

-- Whether there is no fault, as a Bool: what that says, and that it is within the limits.
pub whole_tells : (C W : Type 0) (o : Option CanonicalFault) (b : Bool) → is_some o ≡ not b → (IsNone o ↔ C) → IfNone o W → (IsTrue b ↔ C) × OnTrue b W
whole_tells C W None true none exactly within = ((λ yes. exactly.0 refl, λ holds. refl), within)
whole_tells C W (Some f) false none exactly within = ((λ yes. absurd (false≢true yes), λ holds. absurd (false≢true (sym (exactly.1 holds)))), tt)
whole_tells C W None false none exactly within = absurd (false≢true none)
whole_tells C W (Some f) true none exactly within = absurd (false≢true (sym none))

pub whole_is : (o : Option CanonicalFault) (b : Bool) (m : Meter) → is_some o ≡ not b → onward (λ (e : Option CanonicalFault). answer (is_whole e)) (Ok o, m) ≡ (Ok b, m)
whole_is None true m none = refl
whole_is (Some f) false m none = refl
whole_is None false m none = absurd (false≢true none)
whole_is (Some f) true m none = absurd (false≢true (sym none))

-- A canonical message within the limits has no other result than no fault.
pub only_none : {S : Segments} {m' : Meter} (n : ℕ) (old : Meter) (r : Result (Option CanonicalFault) ErrorKind) → IfOk r (λ o. IsNone o ↔ IsCanonicalMessage S) → message_tested S n old ≡ (r, m') → CanBeTested S n old → r ≡ Ok None
only_none n old (Ok None) exactly is can = refl
only_none n old (Ok (Some f)) exactly is (t, canonical, deep, covered) = absurd (false≢true (sym (exactly.1 (t, canonical))))
only_none {S} n old (Err k) exactly is can = absurd (no_answer is (answers S n old can))
