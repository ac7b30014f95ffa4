-- What the result of a test of a pointer means for its place and head.
use Rattle.std.proofs.Common.{◌≡◌, ◌↔◌, ℕ, Bool, true, false, IsTrue, Option, Some, None, Result, Ok, Err, IsOk, IfOk, refl, ap, ap₂, subst}
use Rattle.std.proofs.lemmas.Bool.{false≢true}
use Rattle.capnp_words.specs.declared.error.ErrorKind.{ErrorKind}
use Rattle.capnp_words.specs.Meter.{Meter}
use Rattle.capnp_pointers.specs.Metered.{answer, onward, ◌>>>◌}
use Rattle.capnp_pointers.specs.Reading.{Reading}
use Rattle.capnp_pointers.proofs.OneObject.ReadInOneWay.{no_answer, not_both, same_refusal}
use Rattle.capnp_pointers.specs.declared.pointers.canonical_fault.CanonicalFault.{CanonicalFault}
use Rattle.capnp_pointers.specs.Checking.{CanBeFound, HasSmallSegment, IsCanonicalAt, IsFound, progress}
use Rattle.capnp_pointers.specs.Testing.{Verdict, head_found, head_moved, test_value}
use Rattle.capnp_pointers.proofs.CanonicalTest.AnswersWithinLimits.{can_answers, found_if}
use Rattle.capnp_pointers.proofs.CanonicalTest.VerdictOfObject.{test_says}
use Rattle.capnp_pointers.proofs.CanonicalTest.VerdictsOfParts.{Says}

-- The test of the place r from the head h on has this result, and the head e after it.
abbrev pub IsTestOf : Reading → ℕ → Meter → Result Bool ErrorKind → ℕ → Meter → Type 0
IsTestOf r h m result e m' = (test_value r h >>> λ v. answer (head_found v)) m ≡ (head_moved result e, m')

abbrev Found : Type 0
Found = Result Verdict ErrorKind × Meter

abbrev moved_head : Found → Result (Option ℕ) ErrorKind × Meter
moved_head x = onward (λ v. answer (head_found v)) x

-- Each result, and the verdict that it stands for.
head_of : {e : ℕ} {m' : Meter} (x : Found) → moved_head x ≡ (Ok (Some e), m') → x ≡ (Ok (Ok e), m')
head_of {e} {m'} (Ok (Ok d), m1) is =
    let results = ap (λ p. p.0) is in
    ap₂ (λ i y. (Ok (Ok i), y)) (let same : d ≡ e = cc results in same) (ap (λ p. p.1) is)
head_of {e} (Ok (Err f), m1) is =
    let results = ap (λ p. p.0) is in
    absurd (cc results)
head_of (Err k, m1) is = absurd (not_both is refl)

no_head : {m' : Meter} (x : Found) → moved_head x ≡ (Ok None, m') → (f : CanonicalFault) × (x ≡ (Ok (Err f), m'))
no_head (Ok (Ok d), m1) is =
    let results = ap (λ p. p.0) is in
    absurd (cc results)
no_head (Ok (Err f), m1) is = (f, ap (λ y. (Ok (Err f), y)) (ap (λ p. p.1) is))
no_head (Err k, m1) is = absurd (not_both is refl)

refusal_of : {k : ErrorKind} {m' : Meter} (x : Found) → moved_head x ≡ (Err k, m') → x ≡ (Err k, m')
refusal_of (Ok (Ok d), m1) is = absurd (not_both refl is)
refusal_of (Ok (Err f), m1) is = absurd (not_both refl is)
refusal_of (Err l, m1) is = let same = same_refusal refl is in ap₂ (λ y z. (Err y, z)) same.0 same.1

pub head_tested : (r : Reading) (h e : ℕ) (m m' : Meter) → IsTestOf r h m (Ok true) e m' → test_value r h m ≡ (Ok (Ok e), m')
head_tested r h e m m' is = head_of (test_value r h m) is

pub fault_tested : (r : Reading) (h e : ℕ) (m m' : Meter) → IsTestOf r h m (Ok false) e m' → (f : CanonicalFault) × (test_value r h m ≡ (Ok (Err f), m'))
fault_tested r h e m m' is = no_head (test_value r h m) is

pub refusal_tested : (r : Reading) (h e : ℕ) (m m' : Meter) (k : ErrorKind) → IsTestOf r h m (Err k) e m' → test_value r h m ≡ (Err k, m')
refusal_tested r h e m m' k is = refusal_of (test_value r h m) is

-- `true` is returned exactly for canonical words, and then they are found; canonical words within
-- the limits aren't refused.
pub result_exactly : (r : Reading) (h e : ℕ) (m m' : Meter) (result : Result Bool ErrorKind) → HasSmallSegment r → IsTestOf r h m result e m' → IfOk result (λ b. IsTrue b ↔ IsCanonicalAt r h)
result_exactly r h e m m' (Ok true) small is =
    let (t, finds) = found_if r h e m m' small (head_tested r h e m m' is) in
    (λ yes. (t, finds.stands), λ canonical. refl)
result_exactly r h e m m' (Ok false) small is =
    let (f, fails) = fault_tested r h e m m' is in
    let never : IsCanonicalAt r h → ⊥ = subst (Says r h m) fails (test_says r small h m) in
    (λ yes. absurd (false≢true yes), λ canonical. absurd (never canonical))
result_exactly r h e m m' (Err k) small is = tt

pub result_found : (r : Reading) (h e : ℕ) (m m' : Meter) (result : Result Bool ErrorKind) → HasSmallSegment r → IsTestOf r h m result e m' → IfOk result (λ b. IsTrue b → IsFound r (progress h m) (progress e m'))
result_found r h e m m' (Ok true) small is = λ yes. found_if r h e m m' small (head_tested r h e m m' is)
result_found r h e m m' (Ok false) small is = λ yes. absurd (false≢true yes)
result_found r h e m m' (Err k) small is = tt

pub result_answered : (r : Reading) (h e : ℕ) (m m' : Meter) (result : Result Bool ErrorKind) → CanBeFound r (progress h m) → IsTestOf r h m result e m' → IsOk result
result_answered r h e m m' (Ok b) can is = refl
result_answered r h e m m' (Err k) can is = absurd (no_answer (refusal_tested r h e m m' k is) (can_answers r h m can))
