-- What a task asks of a message: of its whole value, or of the part to which a path leads. A path
-- without indexes leads to the whole.
use Rattle.std.specs.Prelude.{◌≡◌, ◌⊎◌, ℕ, ◌+◌, ◌≤◌, List, [], ◌∷◌, Ok, Err, IsOk}
use Rattle.std.specs.Prelude.{Option, None, if◌then◌else◌}
use Rattle.capnp_words.specs.declared.error.ErrorKind.{ErrorKind}
use Rattle.capnp_words.specs.declared.error.ErrorKind.TheVariants.{AllocationFailed}
use Rattle.capnp_format.specs.Canonical.{trim, word_count}
use Rattle.capnp_format.specs.Segments.{Segments}
use Rattle.capnp_format.specs.Tree.{Tree}
use Rattle.capnp_arena_traits.specs.Allocations.{max_segment_words}
use Rattle.capnp_arena.specs.declared.arena.reader_arena_impl.ReaderOptions.{ReaderOptions}
use Rattle.capnp_messages.specs.Commands.{HasAnswerWithin, RefusesAnswer}
use Rattle.capnp_messages.specs.Digests.{IsDigestOf}
use Rattle.capnp_messages.specs.MessageParts.{IsDigestOfPart, IsPartOf, RefusesPart, part_size}
use Rattle.capnp_messages.specs.Messages.{HasCanonicalCopy, HasSizeOf, HasSizeWithin, IsValueOf, RefusesCanon, RefusesSize}
use Rattle.capnp_messages.specs.declared.messages.command.Command.{Command}
use Rattle.capnp_messages.specs.declared.messages.command.Command.TheVariants.{Canon, Check, Size, Digest, Validate}
use Rattle.capnp_refusals.specs.RefusedPointers.{pointer_of_refusal}
use Rattle.capnp_refusals.specs.declared.refusals.search.RefusedPointer.{RefusedPointer}
use Rattle.capnp_streams.specs.Paths.{is_whole_path, path_indexes}
use Rattle.capnp_streams.specs.declared.streams.task.Task.{Task}

-- The whole value of S, or the value of its part, is t, without capabilities and within the limits.
abbrev pub IsValueAt : Segments → ReaderOptions → List ℕ → Tree → Type 0
IsValueAt S limits [] t = IsValueOf S limits t
IsValueAt S limits (i ∷ path) t = IsPartOf S limits (i ∷ path) t

-- The digest is that of the whole of S, or of its part.
abbrev pub IsDigestAt : Segments → ReaderOptions → List ℕ → List ℕ → Type 0
IsDigestAt S limits [] digest = IsDigestOf S limits digest
IsDigestAt S limits (i ∷ path) digest = IsDigestOfPart S limits (i ∷ path) digest

-- The whole of S, or its part, has this many words and capabilities.
abbrev pub HasSizeAt : Segments → ReaderOptions → List ℕ → ℕ → ℕ → Type 0
HasSizeAt S limits [] words caps = HasSizeOf S limits words caps
HasSizeAt S limits (i ∷ path) words caps =
    part_size S limits (i ∷ path) ≡ Ok (record { word_count = words; cap_count = caps })

-- The canonical copy of the whole of S, or of its part, is refused with k.
abbrev pub RefusesCopyAt : Segments → ReaderOptions → List ℕ → ErrorKind → Type 0
RefusesCopyAt S limits [] k = RefusesCanon S limits k
RefusesCopyAt S limits (i ∷ path) k = RefusesPart S limits (i ∷ path) k

-- The size of the whole of S, or of its part, is refused with k.
abbrev pub RefusesSizeAt : Segments → ReaderOptions → List ℕ → ErrorKind → Type 0
RefusesSizeAt S limits [] k = RefusesSize S limits k
RefusesSizeAt S limits (i ∷ path) k = part_size S limits (i ∷ path) ≡ Err k

-- The whole of S, or its part, has a canonical copy: a value without capabilities within the
-- limits, whose canonical words fit a segment.
abbrev pub HasCopyAt : Segments → ReaderOptions → List ℕ → Type 0
HasCopyAt S limits [] = HasCanonicalCopy S limits
HasCopyAt S limits (i ∷ path) =
    (t : Tree) × IsPartOf S limits (i ∷ path) t × (1 + word_count (trim t) ≤ max_segment_words)

-- The whole of S, or its part, has a size within the limits.
abbrev pub HasSomeSizeAt : Segments → ReaderOptions → List ℕ → Type 0
HasSomeSizeAt S limits [] = HasSizeWithin S limits
HasSomeSizeAt S limits (i ∷ path) = IsOk (part_size S limits (i ∷ path))

-- A command on S, with the limits and the path of a task, is refused with k.
abbrev pub RefusesAsked : Command → Task → Segments → ErrorKind → Type 0
RefusesAsked (Canon form) task S k =
    (k ≡ AllocationFailed) ⊎ RefusesCopyAt S task.limits (path_indexes task.path) k
RefusesAsked Check task S k = RefusesAnswer Check task.limits S k
RefusesAsked Size task S k = RefusesSizeAt S task.limits (path_indexes task.path) k
RefusesAsked Digest task S k =
    (k ≡ AllocationFailed) ⊎ RefusesCopyAt S task.limits (path_indexes task.path) k
RefusesAsked Validate task S k = RefusesAnswer Validate task.limits S k

-- A command on S, with the limits and the path of a task, has an answer if this holds.
abbrev pub HasAskedAnswer : Command → Task → Segments → Type 0
HasAskedAnswer (Canon form) task S = HasCopyAt S task.limits (path_indexes task.path)
HasAskedAnswer Check task S = HasAnswerWithin Check task.limits S
HasAskedAnswer Size task S = HasSomeSizeAt S task.limits (path_indexes task.path)
HasAskedAnswer Digest task S = HasCopyAt S task.limits (path_indexes task.path)
HasAskedAnswer Validate task S = HasAnswerWithin Validate task.limits S

-- The pointer at which S was refused with k, if k is the refusal of a pointer. With a path, none is
-- told: the refusal may be of a pointer on the way to the part.
abbrev pub pointer_asked : ErrorKind → Task → Segments → Option RefusedPointer
pointer_asked k task S =
    if is_whole_path task.path then pointer_of_refusal k task.command S task.limits else None
