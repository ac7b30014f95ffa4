-- What a call that follows a pointer returns and leaves of the limiter, from the contract of the reader.
use Rattle.std.proofs.Common.{◌≡◌, ◌≢◌, ◌⊎◌, inl, inr, ℕ, ◌<◌, ◌≤◌, Bool, false, List, [], ◌∷◌, length, Option, Some, None, Result, Ok, Err, IsOk, IfOk, IfErr, ◌↔◌, eq-eqb, refl, sym, ap, ap₂, ◌∙◌, subst, arith}
use Rattle.std.proofs.lemmas.Bool.{le-leb, lt-leb, ne_eqb}
use Rattle.std.specs.Borrow.{Bor}
use Rattle.std.specs.Result.{result_err}
use Rattle.capnp_words.specs.declared.error.ErrorKind.{ErrorKind}
use Rattle.capnp_words.specs.declared.error.ErrorKind.TheVariants.{MessageContainsNonCapabilityPointerWhereCapabilityPointerWasExpected, MessageContainsNullCapabilityPointer, MessageContainsOutOfBoundsPointer, ReadLimitExceeded}
use Rattle.capnp_words.specs.Meter.{Meter, Affords, charged}
use Rattle.capnp_words.specs.declared.wire_pointer.ElementSize.{ElementSize}
use Rattle.capnp_format.specs.Bytes.{message}
use Rattle.capnp_format.specs.Segments.{Segments, Target, segment}
use Rattle.capnp_format.specs.Word.{lower_half, upper_half}
use Rattle.capnp_arena_traits.specs.Checks.{Holds, misplaced}
use Rattle.capnp_arena_traits.specs.declared.arena.reader_arena.ReaderArena.{Ghosts}
use Rattle.capnp_pointers.specs.Demands.{own_charge}
use Rattle.capnp_pointers.specs.Enter.{nothing, shape}
use Rattle.capnp_pointers.specs.Expected.{Expectation, HasExpected, null_pointer, fitting, RefusesExpected, no_level, unfollowed, of_another_kind, stopped, misfits, expectation, list_expected, struct_expected}
use Rattle.capnp_pointers.specs.Refusals.{Unfollowed, exceeding, leading_nowhere, Stopped, no_target, broken, claim_exceeds, count_exceeds}
use Rattle.capnp_pointers.specs.Reading.{Reading, word_of}
use Rattle.capnp_pointers.specs.Spending.{after_charge}
use Rattle.capnp_pointers.specs.Values.{expect}
use Rattle.capnp_pointers.specs.Wanted.{FollowsTo, plain}
use Rattle.capnp_pointers.specs.declared.object.Expected.{Expected}
use Rattle.capnp_pointers.specs.declared.object.Purpose.TheVariants.{Value}
use Rattle.capnp_pointers.specs.declared.source.Source.TheVariants.{Arena}
use Rattle.capnp_pointers.proofs.Budget.ChargedAsStated.{covers_true, covers_false}
use Rattle.capnp_pointers.proofs.Decided.{same_or_not, within_or_not}
use Rattle.capnp_pointers.proofs.OneObject.ExpectedAsStated.{fitting_is, given_if, withheld_if, withheld_is}
use Rattle.capnp_pointers.proofs.OneObject.ExpectedBySteps.{kind_below_two}
use Rattle.capnp_readers.specs.Calls.{Call, WhereRead, IsRefused, of_pointer, of_default, short_default, of_null_default, IsStructRead, IsListRead, AreBytesRead}
use Rattle.capnp_readers.specs.Readers.{read_by}
use Rattle.capnp_readers.specs.declared.readers.PointerReader.{PointerReader}
use Rattle.capnp_readers.specs.declared.readers.list_reader.ListReader.{ListReader}
use Rattle.capnp_readers.specs.declared.readers.struct_reader.StructReader.{StructReader}
use Rattle.capnp_readers.proofs.Answering.{read_at}
use Rattle.typed_reading.specs.Outcomes.{capability_index, default_outcome, reading_outcome, root_outcome, root_place}
use Rattle.typed_reading.specs.Values.{default_place}

-- The limiter after a call that succeeds: unchanged for a null pointer; otherwise without the words of
-- the landing pads and of the object.
abbrev pub IsGranted : Reading → Meter → Meter → Type 0
IsGranted r m m' =
    ((word_of r ≡ 0) × (m' ≡ m))
    ⊎ ((a : Target) × FollowsTo r a × (m' ≡ after_charge r.charging m (own_charge Value r.segments a) 1))

-- a call that succeeds
given_outcome : (e : Expectation) (r : Reading) (m m' : Meter) → HasExpected e r m → IsGranted r m m' → reading_outcome e r m ≡ (None, m')
unfolding reading_outcome
given_outcome e r m m' (null_pointer z) (inl (null, same)) =
    let there : expect e r m ≡ (Ok nothing, m) = rw z refl in
    ap (λ x. (result_err x.0, x.1)) there ∙ ap (λ n. (None, n)) (sym same)
given_outcome e r m m' (null_pointer z) (inr (a, f, same)) = absurd (f.0 z)
given_outcome e r m m' (fitting {m' = n} a level kind o fits) (inl (z, same)) = absurd (o.follows.0 z)
given_outcome e r m m' (fitting {m' = n} a level kind o fits) (inr (b, f, same)) =
    let is : expect e r m ≡ (Ok (shape r.segments a), n) = fitting_is e r m n a level kind o fits in
    let there = o.follows.1 in
    let also = f.1 in
    let one : a ≡ b = cc (there, also) in
    let spent : n ≡ m' = o.spent ∙ ap (λ (y : Target). after_charge r.charging m (own_charge Value r.segments y) 1) one ∙ sym same in
    ap (λ x. (result_err x.0, x.1)) is ∙ ap (λ n. (None, n)) spent

-- one that is refused
withheld_outcome : (e : Expectation) (r : Reading) (m m' : Meter) (k : ErrorKind) → expect e r m ≡ (Err k, m') → reading_outcome e r m ≡ (Some k, m')
unfolding reading_outcome
withheld_outcome e r m m' k is = ap (λ x. (result_err x.0, x.1)) is

module _ {A : Type 0} (g : Ghosts A) where
  -- The call on a pointer that has no default.
  abbrev pub plain_call : PointerReader A g → Expectation → Call g
  plain_call p e = record { from = p; expected = e; default = None }

  refused_outcome : (e : Expectation) (p : PointerReader A g) (m m' : Meter) (k : ErrorKind) → IsRefused g (plain_call p e) m m' k → reading_outcome e (read_by g p) m ≡ (Some k, m')
  refused_outcome e p m m' k (inl (of_pointer w is, same)) = absurd (cc is)
  refused_outcome e p m m' k (inl (of_default null has whole source segment first nesting may is, same)) = absurd (cc has)
  refused_outcome e p m m' k (inl (short_default null has less is, same)) = absurd (cc has)
  refused_outcome e p m m' k (inl (of_null_default null has whole none named is, same)) = absurd (cc has)
  refused_outcome e p m m' k (inr (q, is, withheld)) =
      withheld_outcome e (read_by g p) m m' k (subst (λ x. expect e x m ≡ (Err k, m')) (read_at g is) (withheld_is e (read_by g q) m m' k withheld))

  -- the pointer that a call without a default reads
  granted_there : (e : Expectation) (p q : PointerReader A g) (m m' : Meter) → read_by g q ≡ read_by g p → IsGranted (read_by g q) m m' → IsGranted (read_by g p) m m'
  granted_there e p q m m' same granted = subst (λ x. IsGranted x m m') same granted

  pub struct_granted : (e : Expectation) (p : PointerReader A g) (m m' : Meter) (r : StructReader A g) → WhereRead g (plain_call p e) (λ q. IsStructRead g q m m' r) → IsGranted (read_by g p) m m'
  struct_granted e p m m' r (q, is, inl h) = granted_there e p q m m' (read_at g is) (inl (h.0, h.1))
  struct_granted e p m m' r (q, is, inr (a, o, k, shows, source, nesting)) = granted_there e p q m m' (read_at g is) (inr (a, o.follows, o.spent))

  pub list_granted : (e : Expectation) (size : ElementSize) (p : PointerReader A g) (m m' : Meter) (r : ListReader A g) → WhereRead g (plain_call p e) (λ q. IsListRead g size q m m' r) → IsGranted (read_by g p) m m'
  list_granted e size p m m' r (q, is, inl h) = granted_there e p q m m' (read_at g is) (inl (h.0, h.1))
  list_granted e size p m m' r (q, is, inr ((a, o, k, shows, source, nesting), wide)) = granted_there e p q m m' (read_at g is) (inr (a, o.follows, o.spent))

  pub bytes_granted : (e : Expectation) (but : ℕ) (p : PointerReader A g) (m m' : Meter) (bytes : List ℕ) → WhereRead g (plain_call p e) (λ q. AreBytesRead g but q m m' bytes) → IsGranted (read_by g p) m m'
  bytes_granted e but p m m' bytes (q, is, inl h) = granted_there e p q m m' (read_at g is) (inl (h.0, h.1))
  bytes_granted e but p m m' bytes (q, is, inr (a, o, k, size, are)) = granted_there e p q m m' (read_at g is) (inr (a, o.follows, o.spent))

  -- what a call returned, and left of the limiter
  pub outcome_is : {X : Type 0} (result : Result X ErrorKind) (e : Expectation) (p : PointerReader A g) (m m' : Meter) → (IsOk result ↔ WhereRead g (plain_call p e) (λ q. HasExpected e (read_by g q) m)) → IfOk result (λ x. IsGranted (read_by g p) m m') →
      IfErr result (IsRefused g (plain_call p e) m m') → reading_outcome e (read_by g p) m ≡ (result_err result, m')
  outcome_is (Ok x) e p m m' exactly granted refused =
      let (q, is, has) = exactly.0 refl in
      given_outcome e (read_by g p) m m' (subst (λ y. HasExpected e y m) (read_at g is) has) granted
  outcome_is (Err k) e p m m' exactly granted refused = refused_outcome e p m m' k refused

-- a call with a default
pub default_unread : (e : Expectation) (bytes : List ℕ) (r : Reading) (m : Meter) → word_of r ≢ 0 → default_outcome e bytes r m ≡ reading_outcome e r m
unfolding default_outcome
default_unread e bytes r m some = rw (ne_eqb (word_of r) 0 some) refl

pub default_read : (e : Expectation) (bytes : List ℕ) (r : Reading) (m : Meter) → word_of r ≡ 0 → 8 ≤ length bytes → default_outcome e bytes r m ≡ reading_outcome e (default_place bytes) m
unfolding default_outcome
default_read e bytes r m null whole = rw (null, le-leb 8 (length bytes) whole) refl

default_short : (e : Expectation) (bytes : List ℕ) (r : Reading) (m : Meter) → word_of r ≡ 0 → length bytes < 8 → default_outcome e bytes r m ≡ (Some MessageContainsOutOfBoundsPointer, m)
unfolding default_outcome
default_short e bytes r m null short = rw (null, lt-leb 8 (length bytes) short) refl

pub unread_default : (e : Expectation) (bytes : List ℕ) (r : Reading) (m : Meter) (k : ErrorKind) → word_of r ≡ 0 → (8 ≤ length bytes → ⊥) → k ≡ MessageContainsOutOfBoundsPointer → default_outcome e bytes r m ≡ (Some k, m)
unread_default e bytes r m k null short named = elim (within_or_not 8 (length bytes)) [
  | inl whole ↦ absurd (short whole)
  | inr less ↦ rw named (default_short e bytes r m null less)
]

-- a null pointer, which is free of charge
pub null_outcome : (e : Expectation) (r : Reading) (m : Meter) → word_of r ≡ 0 → reading_outcome e r m ≡ (None, m)
null_outcome e r m null = given_outcome e r m m (null_pointer null) (inl (null, refl))

-- what the outcome says

outcome_parts : (e : Expectation) (r : Reading) (m : Meter) → ((reading_outcome e r m).0 ≡ result_err (expect e r m).0) × ((reading_outcome e r m).1 ≡ (expect e r m).1)
unfolding reading_outcome
outcome_parts e r m = (refl, refl)

is_answered : {X : Type 0} (x : Result X ErrorKind) → result_err x ≡ None → IsOk x
is_answered (Ok o) e = refl
is_answered (Err k) e = absurd (cc e)

pub answered_if : (e : Expected) (r : Reading) (m m' : Meter) → reading_outcome (expectation e) r m ≡ (None, m') → HasExpected (expectation e) r m
answered_if e r m m' is = given_if (expectation e) r m (kind_below_two e) (is_answered (expect (expectation e) r m).0 (sym (outcome_parts (expectation e) r m).0 ∙ ap (λ x. x.0) is))

is_refused : {X : Type 0} (x : Result X ErrorKind × Meter) (m' : Meter) (k : ErrorKind) → result_err x.0 ≡ Some k → x.1 ≡ m' → x ≡ (Err k, m')
is_refused (Ok o, m) m' k e same = absurd (cc e)
is_refused (Err j, m) m' k e same = let one : j ≡ k = cc e in ap₂ (λ i n. (Err i, n)) one same

pub refused_if : (e : Expected) (r : Reading) (m m' : Meter) (k : ErrorKind) → RefusesExpected (expectation e) r m m' k ↔ (reading_outcome (expectation e) r m ≡ (Some k, m'))
refused_if e r m m' k = (
  (λ h. withheld_outcome (expectation e) r m m' k (withheld_is (expectation e) r m m' k h)),
  (λ is.
      let parts = outcome_parts (expectation e) r m in
      withheld_if (expectation e) r m m' k (kind_below_two e) (is_refused (expect (expectation e) r m) m' k (sym parts.0 ∙ ap (λ x. x.0) is) (sym parts.1 ∙ ap (λ x. x.1) is))),
)

pub charged_if : (e : Expected) (r : Reading) (m m' : Meter) (a : Target) → FollowsTo r a → reading_outcome (expectation e) r m ≡ (None, m') → m' ≡ after_charge r.charging m (own_charge Value r.segments a) 1
charged_if e r m m' a f is = go (answered_if e r m m' is)
  where
    go : HasExpected (expectation e) r m → m' ≡ after_charge r.charging m (own_charge Value r.segments a) 1
    go (null_pointer z) = absurd (f.0 z)
    go (fitting {m' = n} b level kind o fits) =
        let also = given_outcome (expectation e) r m n (fitting {m' = n} b level kind o fits) (inr (b, o.follows, o.spent)) in
        let there = o.follows.1 in
        let here = f.1 in
        let one : b ≡ a = cc (there, here) in
        let same : m' ≡ n = ap (λ x. x.1) (sym is ∙ also) in
        same ∙ o.spent ∙ ap (λ (y : Target). after_charge r.charging m (own_charge Value r.segments y) 1) one

-- what isn't charged leaves the limiter
uncharged : {charging : Bool} {m m' : Meter} (g i : ℕ) → charging ≡ false → m' ≡ after_charge charging m g i → m' ≡ m
uncharged {charging} {m} {m'} g i off e = e ∙ ap (λ b. after_charge b m g i) off

unfollowed_free : {r : Reading} {m m' : Meter} {k : ErrorKind} → r.charging ≡ false → Unfollowed r m m' k → m' ≡ m
unfollowed_free off (exceeding some short paid named) = uncharged _ _ off paid.spent
unfollowed_free off (leading_nowhere some leads paid) = uncharged _ _ off paid.spent

stopped_free : {r : Reading} {m m' : Meter} {k : ErrorKind} → r.charging ≡ false → Stopped Value plain r m m' k → m' ≡ m
stopped_free off (no_target u) = unfollowed_free off u
stopped_free off (broken a f breaks paid) = uncharged _ _ off paid.spent
stopped_free off (claim_exceeds a f some object claims short paid named) = uncharged _ _ off paid.spent
stopped_free off (count_exceeds a f meets short paid named) = uncharged _ _ off paid.spent

withheld_free : {e : Expectation} {r : Reading} {m m' : Meter} {k : ErrorKind} → r.charging ≡ false → RefusesExpected e r m m' k → m' ≡ m
withheld_free off (no_level some deep same) = same
withheld_free off (unfollowed level u) = unfollowed_free off u
withheld_free off (of_another_kind a level f other paid) = uncharged _ _ off paid.spent
withheld_free off (stopped level kinds h) = stopped_free off h
withheld_free off (misfits a level kind o unfit) = uncharged _ _ off o.spent

given_free : (e : Expectation) (r : Reading) (m m' : Meter) → r.charging ≡ false → HasExpected e r m → reading_outcome e r m ≡ (None, m') → m' ≡ m
given_free e r m m' off (null_pointer z) is = let null = given_outcome e r m m (null_pointer z) (inl (z, refl)) in ap (λ x. x.1) (sym is ∙ null)
given_free e r m m' off (fitting {m' = n} a level kind o fits) is =
    let also = given_outcome e r m n (fitting {m' = n} a level kind o fits) (inr (a, o.follows, o.spent)) in
    let same : m' ≡ n = ap (λ x. x.1) (sym is ∙ also) in
    same ∙ uncharged _ _ off o.spent

pub free_if : (e : Expected) (r : Reading) (m : Meter) → r.charging ≡ false → (reading_outcome (expectation e) r m).1 ≡ m
free_if e r m off = go (reading_outcome (expectation e) r m) refl
  where
    go : (x : Option ErrorKind × Meter) → reading_outcome (expectation e) r m ≡ x → x.1 ≡ m
    go (None, m') is = given_free (expectation e) r m m' off (answered_if e r m m' is) is
    go (Some k, m') is = withheld_free off ((refused_if e r m m' k).1 is)

pub default_free : (e : Expected) (bytes : List ℕ) (r : Reading) (m : Meter) → word_of r ≡ 0 → (default_outcome (expectation e) bytes r m).1 ≡ m
default_free e bytes r m null = elim (within_or_not 8 (length bytes)) [
  | inl whole ↦ ap (λ x. x.1) (default_read (expectation e) bytes r m null whole) ∙ free_if e (default_place bytes) m refl
  | inr less ↦ ap (λ x. x.1) (default_short (expectation e) bytes r m null less)
]

-- a capability
no_half : (word : ℕ) → lower_half word ≡ 3 → word ≢ 0
no_half word three zero = let e : 0 ≡ 3 = ap lower_half (sym zero) ∙ three in absurd (cc e)

pub capability_is : (word : ℕ) (result : Result ℕ ErrorKind) → (IsOk result ↔ (lower_half word ≡ 3)) → IfOk result (λ i. i ≡ upper_half word) → IfErr result (λ k. word ≡ 0 → k ≡ MessageContainsNullCapabilityPointer) →
    IfErr result (λ k. word ≢ 0 → k ≡ MessageContainsNonCapabilityPointerWhereCapabilityPointerWasExpected) → result ≡ capability_index word
capability_is word (Ok i) exactly index null other =
    let three : lower_half word ≡ 3 = exactly.0 refl in
    rw (ne_eqb word 0 (no_half word three), eq-eqb (lower_half word) 3 three) (ap Ok index)
capability_is word (Err k) exactly index null other = elim (same_or_not word 0) [
  | inl zero ↦ rw (eq-eqb word 0 zero) (ap Err (null zero))
  | inr some ↦ elim (same_or_not (lower_half word) 3) [
    | inl three ↦ absurd (let yes = exactly.1 three in cc yes)
    | inr differs ↦ rw (ne_eqb word 0 some, ne_eqb (lower_half word) 3 differs) (ap Err (other some))
  ]
]

-- the root
some_segment : (S : Segments) → 0 < length (segment S 0) → 0 < length S
some_segment [] some = absurd (omega arith)
some_segment (ws ∷ S) some = omega arith

module _ {A : Type 0} (g : Ghosts A) where
  pub root_granted : (arena : Bor A) (m : Meter) → Holds (message (g.segments arena.now)) 0 0 1 → Affords (g.charging arena.now) m 1 → root_outcome g arena m ≡ reading_outcome struct_expected (root_place g arena) (charged (g.charging arena.now) m 1)
  unfolding root_outcome
  root_granted arena m there covered = rw (ne_eqb (length (segment (message (g.segments arena.now)) 0)) 0 (λ e. omega (arith, e, there.1)), covers_true (g.charging arena.now) m 1 covered) refl

  pub root_refused : (arena : Bor A) (m m' : Meter) (k : ErrorKind) → (Holds (message (g.segments arena.now)) 0 0 1 → Affords (g.charging arena.now) m 1 → ⊥) → m' ≡ m → ((Holds (message (g.segments arena.now)) 0 0 1 → ⊥) → k ≡ misplaced (message (g.segments arena.now)) 0 (g.absent arena.now 0)) →
      (Holds (message (g.segments arena.now)) 0 0 1 → k ≡ ReadLimitExceeded) → root_outcome g arena m ≡ (Some k, m')
  unfolding root_outcome
  root_refused arena m m' k not same outside budget =
      let S : Segments = message (g.segments arena.now) in
      elim (same_or_not (length (segment S 0)) 0) [
        | inl none ↦ rw (eq-eqb (length (segment S 0)) 0 none, outside (λ there. omega (arith, none, there.1)), same) refl
        | inr some ↦ (
            let there : Holds S 0 0 1 = (some_segment S (omega (arith, some)), omega (arith, some)) in
            rw (ne_eqb (length (segment S 0)) 0 some, covers_false (g.charging arena.now) m 1 (not there), budget there, same) refl)
      ]

  pub root_read : (arena : Bor A) (p : PointerReader A g) → p.source ≡ Arena arena → (p.place.segment ≡ 0) × (p.place.at ≡ 0) → p.nesting_limit ≡ g.nesting arena.now → read_by g p ≡ root_place g arena
  root_read arena p source place nesting = rw (source, place.0, place.1, nesting) refl

  pub bytes_outcome : (e : Expectation) (but : ℕ) (p : PointerReader A g) (x : Reading) → read_by g p ≡ x → (m m' : Meter) (result : Result (Bor (List ℕ)) ErrorKind) → (IsOk result ↔ WhereRead g (plain_call g p e) (λ q. HasExpected e (read_by g q) m)) →
      IfOk result (λ bytes. WhereRead g (plain_call g p e) (λ q. AreBytesRead g but q m m' bytes.now)) → IfErr result (IsRefused g (plain_call g p e) m m') → reading_outcome e x m ≡ (result_err result, m')
  bytes_outcome e but p x at m m' (Ok bytes) exactly read refused = rw (← at) (outcome_is g (Ok bytes) e p m m' exactly (bytes_granted g e but p m m' bytes.now read) refused)
  bytes_outcome e but p x at m m' (Err k) exactly read refused = rw (← at) (refused_outcome g e p m m' k refused)

  pub struct_outcome : (p : PointerReader A g) (x : Reading) → read_by g p ≡ x → (m m' : Meter) (result : Result (StructReader A g) ErrorKind) → (IsOk result ↔ WhereRead g (plain_call g p struct_expected) (λ q. HasExpected struct_expected (read_by g q) m)) →
      IfOk result (λ r. WhereRead g (plain_call g p struct_expected) (λ q. IsStructRead g q m m' r)) → IfErr result (IsRefused g (plain_call g p struct_expected) m m') → reading_outcome struct_expected x m ≡ (result_err result, m')
  struct_outcome p x at m m' (Ok r) exactly read refused = rw (← at) (outcome_is g (Ok r) struct_expected p m m' exactly (struct_granted g struct_expected p m m' r read) refused)
  struct_outcome p x at m m' (Err k) exactly read refused = rw (← at) (refused_outcome g struct_expected p m m' k refused)

  pub list_outcome : (size : ElementSize) (p : PointerReader A g) (x : Reading) → read_by g p ≡ x → (m m' : Meter) (result : Result (ListReader A g) ErrorKind) → (IsOk result ↔ WhereRead g (plain_call g p (list_expected size)) (λ q. HasExpected (list_expected size) (read_by g q) m)) →
      IfOk result (λ r. WhereRead g (plain_call g p (list_expected size)) (λ q. IsListRead g size q m m' r)) → IfErr result (IsRefused g (plain_call g p (list_expected size)) m m') → reading_outcome (list_expected size) x m ≡ (result_err result, m')
  list_outcome size p x at m m' (Ok r) exactly read refused = rw (← at) (outcome_is g (Ok r) (list_expected size) p m m' exactly (list_granted g (list_expected size) size p m m' r read) refused)
  list_outcome size p x at m m' (Err k) exactly read refused = rw (← at) (refused_outcome g (list_expected size) p m m' k refused)
