-- A message that has an answer is refused only for lack of memory.
use Rattle.std.proofs.Common.{◌≡◌, inl, inr, ℕ, Result, Err, IsOk, length, ap, subst}
use Rattle.std.proofs.lemmas.Bool.{false≢true}
use Rattle.capnp_words.specs.Meter.{Meter, unused}
use Rattle.capnp_pointers.specs.Source.{levels}
use Rattle.capnp_words.specs.declared.error.ErrorKind.{ErrorKind}
use Rattle.capnp_words.specs.declared.error.ErrorKind.TheVariants.{AllocationFailed}
use Rattle.capnp_format.specs.Segments.{Segments}
use Rattle.capnp_arena_traits.specs.Allocations.{one_more}
use Rattle.capnp_arena.specs.declared.arena.reader_arena_impl.ReaderOptions.{ReaderOptions}
use Rattle.capnp_pointers.specs.declared.pointers.sizes.MessageSize.{MessageSize}
use Rattle.capnp_messages.specs.Commands.{HasAnswerWithin, RefusesAnswer}
use Rattle.capnp_messages.specs.Copies.{LacksMemoryOr}
use Rattle.capnp_messages.specs.Extents.{validate}
use Rattle.capnp_messages.specs.Messages.{HasCanonicalCopy, HasSizeWithin, IsReadable, RefusesCanon}
use Rattle.capnp_messages.specs.Messages.{RefusesCheck, RefusesSize}
use Rattle.capnp_messages.specs.declared.messages.command.Command.{Command}
use Rattle.capnp_messages.specs.declared.messages.command.Command.TheVariants.{Canon, Check, Size, Digest, Validate}
use Rattle.capnp_messages.proofs.CanonicalizeLemmas.{canon_refused}
use Rattle.capnp_messages.proofs.ExtentLemmas.{readable_if}
use Rattle.capnp_messages.proofs.CheckedLemmas.{readable_answered, refused_alone}
use Rattle.capnp_messages.specs.Check.{message_tested}

-- if there is a canonical copy, a refusal is for lack of memory, which was counted
pub copy_lacks_memory : (S : Segments) (limits : ReaderOptions) {old new : ℕ} {k : ErrorKind} →
    HasCanonicalCopy S limits → LacksMemoryOr old new k (RefusesCanon S limits k) → (k ≡ AllocationFailed) × (new ≡ one_more old)
copy_lacks_memory S limits has (inl memory) = memory
copy_lacks_memory S limits {k = k} (t, value, fits) (inr (refused, same)) = absurd (canon_refused S limits t k value fits refused)

-- a refusal of the test, with what the limiter has left
pub refusal : (S : Segments) (limits : ReaderOptions) {k : ErrorKind} → RefusesCheck S limits k → (m : Meter) × (message_tested S (levels limits.nesting_limit) (unused limits.traversal_limit_in_words) ≡ (Err k, m))
refusal S limits refused =
    let left : Meter = (message_tested S (levels limits.nesting_limit) (unused limits.traversal_limit_in_words)).1 in
    (left, ap (λ x. (x, left)) refused)

-- the test of a message that can be read isn't refused
pub check_refused : (S : Segments) (limits : ReaderOptions) {k : ErrorKind} → IsReadable S limits → RefusesCheck S limits k → ⊥
check_refused S limits {k} read refused =
    let (m, is) = refusal S limits refused in
    readable_answered S (levels limits.nesting_limit) (unused limits.traversal_limit_in_words) m k is read.root read.value read.cost read.means read.covered

-- and only a message of one segment is refused
pub check_alone : (S : Segments) (limits : ReaderOptions) {k : ErrorKind} → RefusesCheck S limits k → length S ≡ 1
check_alone S limits {k} refused =
    let (m, is) = refusal S limits refused in
    refused_alone S (levels limits.nesting_limit) (unused limits.traversal_limit_in_words) m k is

pub size_refused : (S : Segments) (limits : ReaderOptions) {k : ErrorKind} →
    HasSizeWithin S limits → RefusesSize S limits k → ⊥
size_refused S limits has refused = false≢true (subst (λ (r : Result MessageSize ErrorKind). IsOk r) refused has)

pub validate_refused : (S : Segments) (limits : ReaderOptions) {k : ErrorKind} →
    IsReadable S limits → validate S limits ≡ Err k → ⊥
validate_refused S limits {k} read refused = false≢true ((readable_if S limits (Err k) refused).1 read)

-- if there is an answer, the only refusal is AllocationFailed
pub answer_refused : (command : Command) (limits : ReaderOptions) (S : Segments) {k : ErrorKind} →
    HasAnswerWithin command limits S → RefusesAnswer command limits S k → k ≡ AllocationFailed
answer_refused (Canon form) limits S (t, value, fits) (inl memory) = memory
answer_refused (Canon form) limits S {k} (t, value, fits) (inr refused) =
    absurd (canon_refused S limits t k value fits refused)
answer_refused Check limits S can refused = absurd (check_refused S limits (can (check_alone S limits refused)) refused)
answer_refused Size limits S has refused = absurd (size_refused S limits has refused)
answer_refused Validate limits S read refused = absurd (validate_refused S limits read refused)
answer_refused Digest limits S (t, value, fits) (inl memory) = memory
answer_refused Digest limits S {k} (t, value, fits) (inr refused) =
    absurd (canon_refused S limits t k value fits refused)
