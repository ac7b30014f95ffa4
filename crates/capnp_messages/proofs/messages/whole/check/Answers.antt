use Rattle.std.proofs.Common.{◌≡◌, ◌+◌, Option, Some, None, Result, Ok, Err, map, subst}
use Rattle.std.specs.Prelude.{IfOk, IfNone}
use Rattle.capnp_words.specs.Meter.{Meter, FitsIn, unused}
use Rattle.capnp_words.specs.declared.error.ErrorKind.{ErrorKind}
use Rattle.capnp_format.specs.Canonical.{charge}
use Rattle.capnp_format.specs.Bytes.{message}
use Rattle.capnp_format.specs.Segments.{Segments}
use Rattle.capnp_arena_traits.specs.Limits.{whole}
use Rattle.capnp_arena.specs.declared.arena.reader_arena_impl.ReaderOptions.{ReaderOptions}
use Rattle.capnp_pointers.specs.Source.{levels}
use Rattle.capnp_pointers.specs.declared.pointers.canonical_fault.CanonicalFault.{CanonicalFault}
use Rattle.capnp_messages.specs.CanonicalMessages.{IsPaid, IsWithinLevels}
use Rattle.capnp_messages.specs.Messages.{IsCanonicalWithin, arena_limits}
use Rattle.capnp_messages.proofs.CheckedLemmas.{fault_if, refused_if, within_limits}
use Rattle.capnp_messages.proofs.messages.whole.check.Goals as goal

pub returns-clause-computed : goal.returns-clause-computed
returns-clause-computed g c =
    let S : Segments = message (map whole (g.S.ReaderSegments.segments c.args.source.now.segments)) in
    within_limits S (arena_limits c.args.source.now.nesting_limit c.args.traversal_limit_in_words) c.new-lim.ensures c.canonical_fault.ensures.computed

pub returns-clause-fault : goal.returns-clause-fault
returns-clause-fault g c =
    let S : Segments = message (map whole (g.S.ReaderSegments.segments c.args.source.now.segments)) in
    fault_if S (arena_limits c.args.source.now.nesting_limit c.args.traversal_limit_in_words) c.canonical_fault.result (returns-clause-computed g c)

pub returns-clause-refused : goal.returns-clause-refused
returns-clause-refused g c =
    let S : Segments = message (map whole (g.S.ReaderSegments.segments c.args.source.now.segments)) in
    refused_if S (arena_limits c.args.source.now.nesting_limit c.args.traversal_limit_in_words) c.canonical_fault.result (returns-clause-computed g c)

-- what the test of a canonical message has found and paid is within the limits
test_within : (S : Segments) (limits : ReaderOptions) {old : Meter} (r : Result (Option CanonicalFault) ErrorKind) (new : Meter) →
    old ≡ unused limits.traversal_limit_in_words →
    IfOk r (λ o. IfNone o (IsWithinLevels S (levels limits.nesting_limit))) → IfOk r (λ o. IfNone o (IsPaid S old new)) →
    IfOk r (λ o. IfNone o (IsCanonicalWithin S limits))
test_within S limits {old} (Ok None) new begun within (t, canonical, paid) =
    (t, canonical, within t canonical, subst (λ (x : Meter). FitsIn x.left (1 + charge t)) begun paid.covers)
test_within S limits (Ok (Some f)) new begun within paid = tt
test_within S limits (Err k) new begun within paid = tt

pub returns-clause-within : goal.returns-clause-within
returns-clause-within g c =
    let S : Segments = message (map whole (g.S.ReaderSegments.segments c.args.source.now.segments)) in
    test_within S (arena_limits c.args.source.now.nesting_limit c.args.traversal_limit_in_words) c.canonical_fault.result c.canonical_fault.new.lim
    c.new-lim.ensures c.canonical_fault.ensures.within c.canonical_fault.ensures.paid
