-- The test at a pointer has an answer if there are canonical words, and says what these mean.
use Rattle.std.proofs.Common.{◌≡◌, ◌↔◌, Bool, IsTrue, ℕ, ◌+◌, true, Result, Ok, Err, IsOk, IfOk, subst}
use Rattle.capnp_words.specs.declared.error.ErrorKind.{ErrorKind}
use Rattle.capnp_words.specs.Meter.{Meter}
use Rattle.capnp_format.specs.Canonical.{HasCanonicalAt, charge, word_count}
use Rattle.capnp_format.specs.Means.{Means}
use Rattle.capnp_format.specs.Segments.{Segments}
use Rattle.capnp_format.specs.Tree.{Tree}
use Rattle.capnp_pointers.specs.Reading.{Reading}
use Rattle.capnp_pointers.specs.Spending.{Paid, pointers_in}
use Rattle.capnp_pointers.specs.Checking.{CanBeFound, HasSmallSegment, IsFound, Progress, progress}
use Rattle.capnp_readers.proofs.Same.{found_is_meant}
use Rattle.capnp_readers.proofs.TestResults.{IsTestOf, result_answered, result_exactly, result_found}
use Rattle.callers.specs.Truly.{read_at}

-- The test of the place p of segment s of S, by a call whose place is r.
pub tested_there : {r : Reading} {S : Segments} {n s p : ℕ} (head end : ℕ) (m after : Meter) (result : Result Bool ErrorKind) → r ≡ read_at S n s p → IsTestOf r head m result end after →
    IsTestOf (read_at S n s p) head m result end after
tested_there head end m after result same is = subst (λ (x : Reading). IsTestOf x head m result end after) same is

pub exactly_there : {r : Reading} {S : Segments} {n s p : ℕ} (head end : ℕ) (m after : Meter) (result : Result Bool ErrorKind) → r ≡ read_at S n s p → HasSmallSegment r → IsTestOf r head m result end after →
    IfOk result (λ yes. IsTrue yes ↔ ((t : Tree) × HasCanonicalAt S s p head t))
exactly_there {r} {S} {n} {s} {p} head end m after result same small is =
    result_exactly (read_at S n s p) head end m after result (subst (λ (x : Reading). HasSmallSegment x) same small) (tested_there head end m after result same is)

pub answered_there : {r : Reading} {S : Segments} {n s p : ℕ} (head end : ℕ) (m after : Meter) (result : Result Bool ErrorKind) → r ≡ read_at S n s p → CanBeFound (read_at S n s p) (progress head m) → IsTestOf r head m result end after →
    IsOk result
answered_there {r} {S} {n} {s} {p} head end m after result same can is = result_answered (read_at S n s p) head end m after result can (tested_there head end m after result same is)

-- What the test finds there: its value, which the place means within the levels, and what that costs.
abbrev FoundAt : Segments → ℕ → ℕ → ℕ → Progress → Progress → Type 0
FoundAt S n s p from to =
    (t : Tree) × HasCanonicalAt S s p from.head t × Means S n s p t (charge t) × (to.head ≡ from.head + word_count t) ×
    Paid true from.meter to.meter (charge t) (pointers_in t)

found_at : (S : Segments) (n s p : ℕ) (from to : Progress) → IsFound (read_at S n s p) from to → FoundAt S n s p from to
found_at S n s p from to (t, finds) = (t, finds.stands, found_is_meant (read_at S n s p) from to t finds, finds.head_is, finds.paid)

found_if_true : (S : Segments) (n s p : ℕ) (from to : Progress) (result : Result Bool ErrorKind) →
    IfOk result (λ yes. IsTrue yes → IsFound (read_at S n s p) from to) → IfOk result (λ yes. IsTrue yes → FoundAt S n s p from to)
found_if_true S n s p from to (Ok b) found = λ is. found_at S n s p from to (found is)
found_if_true S n s p from to (Err k) found = tt

pub found_there : {r : Reading} {S : Segments} {n s p : ℕ} (head end : ℕ) (m after : Meter) (result : Result Bool ErrorKind) → r ≡ read_at S n s p → HasSmallSegment r → IsTestOf r head m result end after →
    IfOk result (λ yes. IsTrue yes → (t : Tree) × HasCanonicalAt S s p head t × Means S n s p t (charge t) × (end ≡ head + word_count t) ×
    Paid true m after (charge t) (pointers_in t))
found_there {r} {S} {n} {s} {p} head end m after result same small is =
    found_if_true S n s p (progress head m) (progress end after) result
    (result_found (read_at S n s p) head end m after result (subst (λ (x : Reading). HasSmallSegment x) same small) (tested_there head end m after result same is))
