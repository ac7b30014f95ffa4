-- What the test at the root states about the message that was read.
use Rattle.std.proofs.Common.{ℕ, ◌≡◌, ◌≤◌, ◌↔◌, inr, Result, Ok, Err, IfOk, IfErr, IsOk, Bool, true, false, IsTrue, length, refl, subst, arith}
use Rattle.capnp_words.specs.declared.error.ErrorKind.{ErrorKind}
use Rattle.capnp_words.specs.Meter.{Meter, unused}
use Rattle.capnp_format.specs.Segments.{Segments, segment}
use Rattle.capnp_format.specs.Canonical.{charge}
use Rattle.capnp_format.proofs.Unique.{for_offset}
use Rattle.capnp_arena.specs.declared.arena.reader_arena_impl.ReaderOptions.{ReaderOptions}
use Rattle.capnp_pointers.specs.Reading.{Reading}
use Rattle.capnp_pointers.specs.Checking.{HasSmallSegment, IsCanonicalAt, IsFound, Progress, progress}
use Rattle.capnp_pointers.specs.Testing.{test_value}
use Rattle.capnp_readers.proofs.TestResults.{IsTestOf, refusal_tested, result_answered, result_exactly, result_found}
use Rattle.capnp_layout.specs.declared.tool.args.Args.TheVariants.{Check}
use Rattle.capnp_layout.specs.Answers.{CheckOf, RefusesCommand}
use Rattle.capnp_messages.specs.Messages.{left_of, root_within}
use Rattle.capnp_messages.proofs.CanonLemmas.{covers_rest, covers_root}
use Rattle.capnp_messages.proofs.MessageLemmas.{AtRoot}

-- what holds for the place and limiter of a root that is read holds at the root
moved : {S : Segments} {options : ReaderOptions} {r : Reading} {m : Meter} (P : Reading → Meter → Type 0) → AtRoot S options r m → P r m
    → P (root_within S options) (unused (left_of options))
moved {S = S} {options = options} {m = m} P root held =
    subst (P (root_within S options)) root.left (subst (λ (x : Reading). P x m) root.place held)

-- the answer of the test is true
check_read : {S : Segments} {options : ReaderOptions} {r : Reading} {m : Meter} {to : Progress} (b : Bool) → AtRoot S options r m
    → (IsTrue b ↔ IsCanonicalAt r 1) → (IsTrue b → IsFound r (progress 1 m) to) → CheckOf S options b
check_read {options = options} {to = to} true root same found =
    let (t, finds) = moved (λ r m. IsFound r (progress 1 m) to) root (found refl) in
    (t, finds.stands, finds.levels, covers_root options.traversal_limit_in_words (charge t) root.covers.covered finds.paid.covers)
check_read {S = S} {options = options} false root same found =
    let never : IsCanonicalAt (root_within S options) 1 → false ≡ true = moved (λ r m. IsCanonicalAt r 1 → false ≡ true) root same.1 in
    (root.covers, λ t stands. (let wrong : false ≡ true = never (t, stands) in cc))

check_ok : {S : Segments} {options : ReaderOptions} {r : Reading} {m : Meter} (to : Progress) (result : Result Bool ErrorKind) → AtRoot S options r m
    → IfOk result (λ b. IsTrue b ↔ IsCanonicalAt r 1) → IfOk result (λ b. IsTrue b → IsFound r (progress 1 m) to) → IfOk result (CheckOf S options)
check_ok to (Ok b) root same found = check_read b root same found
check_ok to (Err k) root same found = tt

pub check_answers : {S : Segments} {options : ReaderOptions} {r : Reading} {m : Meter} (result : Result Bool ErrorKind) (head : ℕ) (after : Meter) → AtRoot S options r m
    → HasSmallSegment r → IsTestOf r 1 m result head after → IfOk result (CheckOf S options)
check_answers {r = r} {m = m} result head after root small is =
    check_ok (progress head after) result root (result_exactly r 1 head m after result small is) (result_found r 1 head m after result small is)

-- if the test is refused, so is the message
pub check_refused : {S : Segments} {options : ReaderOptions} {r : Reading} {m : Meter} (result : Result Bool ErrorKind) (head : ℕ) (after : Meter) → AtRoot S options r m
    → IsTestOf r 1 m result head after → IfErr result (RefusesCommand (Check options) S)
check_refused (Ok b) head after root is = tt
check_refused {r = r} {m = m} (Err k) head after root is =
    inr (root.covers, (after, moved (λ r m. test_value r 1 m ≡ (Err k, after)) root (refusal_tested r 1 head m after k is)))

-- the test of a canonical message is answered
pub check_answered : {S : Segments} {options : ReaderOptions} {r : Reading} {m : Meter} (result : Result Bool ErrorKind) (head : ℕ) (after : Meter) → AtRoot S options r m
    → IsTestOf r 1 m result head after → CheckOf S options true → IsOk result
check_answered {S = S} {options = options} result head after root is (t, stands, levels, covered) =
    let there : 1 ≤ length (segment S 0) = omega (arith, stands.0) in
    let tested = moved (λ r m. IsTestOf r 1 m result head after) root is in
    result_answered (root_within S options) 1 head (unused (left_of options)) after result
    (t, stands, for_offset t (1 ≤ length (segment S 0)) there, levels, covers_rest options.traversal_limit_in_words (charge t) covered) tested
