-- The test of a whole message for canonical form as a function ("Canonicalization").
use Rattle.std.specs.Prelude.{ℕ, Bool, true, false, Option, Some, None, Result, Ok, Err, if◌then◌else◌, nat_eq, min, length}
use Rattle.capnp_words.specs.declared.error.ErrorKind.{ErrorKind}
use Rattle.capnp_words.specs.Meter.{unused}
use Rattle.capnp_format.specs.Segments.{Segments, segment}
use Rattle.capnp_format.specs.Tree.{Tree}
use Rattle.capnp_arena.specs.declared.arena.reader_arena_impl.ReaderOptions.{ReaderOptions}
use Rattle.capnp_pointers.specs.Metered.{Metered, answer, ◌>>>◌}
use Rattle.capnp_pointers.specs.Source.{levels}
use Rattle.capnp_pointers.specs.Values.{value}
use Rattle.capnp_pointers.specs.Wanted.{plain}
use Rattle.capnp_pointers.specs.declared.pointers.canonical_fault.CanonicalFault.{CanonicalFault}
use Rattle.capnp_pointers.specs.declared.pointers.canonical_fault.CanonicalFaultReason.TheVariants.{SegmentCount}
use Rattle.capnp_pointers.specs.declared.pointers.canonical_fault.CanonicalFaultReason.TheVariants.{WordsBehind}
use Rattle.capnp_pointers.specs.Testing.{Verdict, test_value}
use Rattle.capnp_messages.specs.Roots.{read_message_root}

-- The fault of S, a message of one segment, by what the test at its root has found: words may not
-- follow the canonical words.
abbrev pub whole_fault : Segments → Verdict → Option CanonicalFault
whole_fault S (Ok head) =
    if nat_eq head (length (segment S 0)) then None else
    Some (record { segment = 0; word = head; reason = WordsBehind })
whole_fault S (Err fault) = Some fault

-- Tests S within n levels: the root pointer is read, and then what it leads to is tested. Nothing is
-- read if S doesn't have exactly one segment.
abbrev pub message_tested : Segments → ℕ → Metered (Option CanonicalFault)
message_tested S n =
    if nat_eq (length S) 1 then
    (read_message_root S n >>> (λ r. test_value r 1) >>> λ v. answer (whole_fault S v)) else
    answer (Some (record { segment = min 1 (length S); word = 0; reason = SegmentCount }))

-- The fault of S within the limits, None if S is canonical as a whole, or the refusal.
abbrev pub check : Segments → ReaderOptions → Result (Option CanonicalFault) ErrorKind
check S limits =
    (message_tested S (levels limits.nesting_limit) (unused limits.traversal_limit_in_words)).0

-- The plain value of S within the limits, or the refusal: the root pointer is read, and then the
-- value that it leads to.
abbrev pub plain_value : Segments → ReaderOptions → Result Tree ErrorKind
plain_value S limits =
    ((read_message_root S (levels limits.nesting_limit) >>> value plain)
    (unused limits.traversal_limit_in_words)).0

-- Whether there is no fault; and that for the result of a call.
abbrev pub is_whole : Option CanonicalFault → Bool
is_whole None = true
is_whole (Some fault) = false

abbrev pub whole_result : Result (Option CanonicalFault) ErrorKind → Result Bool ErrorKind
whole_result (Ok fault) = Ok (is_whole fault)
whole_result (Err k) = Err k
