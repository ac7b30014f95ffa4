-- A task about the whole message or about a part of it: what its path leads to, and when it isn't refused.
use Rattle.std.proofs.Common.{◌≡◌, inl, inr, ℕ, ◌<◌, List, [], ◌∷◌, length, Result, Ok, Err, IsOk, IfErr, IfOk, arith, subst}
use Rattle.std.proofs.lemmas.Bool.{false≢true}
use Rattle.capnp_words.specs.declared.error.ErrorKind.{ErrorKind}
use Rattle.capnp_words.specs.declared.error.ErrorKind.TheVariants.{AllocationFailed}
use Rattle.capnp_format.specs.Segments.{Segments}
use Rattle.capnp_format.specs.Tree.{Tree}
use Rattle.capnp_arena.specs.declared.arena.reader_arena_impl.ReaderOptions.{ReaderOptions}
use Rattle.capnp_pointers.specs.declared.pointers.sizes.MessageSize.{MessageSize}
use Rattle.capnp_messages.specs.Copies.{LacksMemoryOr}
use Rattle.capnp_messages.specs.MessageParts.{RefusesPart, part_size}
use Rattle.capnp_messages.specs.Messages.{IsValueOf, RefusesCanon}
use Rattle.capnp_messages.specs.declared.messages.command.Command.{Command}
use Rattle.capnp_messages.specs.declared.messages.command.Command.TheVariants.{Canon, Check, Size, Digest, Validate}
use Rattle.capnp_messages.proofs.AnsweredLemmas.{answer_refused, size_refused}
use Rattle.capnp_messages.proofs.CanonicalizeLemmas.{canon_refused}
use Rattle.capnp_messages.proofs.MessagePartLemmas.{part_granted}
use Rattle.capnp_streams.specs.Asked.{HasAskedAnswer, HasCopyAt, HasSizeAt, HasSomeSizeAt, IsValueAt, RefusesAsked, RefusesCopyAt, RefusesSizeAt}
use Rattle.capnp_streams.specs.Paths.{path_indexes}
use Rattle.capnp_streams.specs.declared.streams.task.Task.{Task}

-- what holds for the path without indexes
pub of_whole : (F : List ℕ → Type 0) (path : List ℕ) → length path ≡ 0 → F [] → F path
of_whole F [] none holds = holds
of_whole F (i ∷ path) none holds = absurd (omega (arith, none))

-- what holds for each path with indexes
pub of_part : (F G : List ℕ → Type 0) (path : List ℕ) → ((i : ℕ) (rest : List ℕ) → G (i ∷ rest) → F (i ∷ rest)) → 0 < length path → G path → F path
of_part F G [] same some holds = absurd (omega (arith, some))
of_part F G (i ∷ path) same some holds = same i path holds

-- the value of the whole
pub value_whole : (S : Segments) (limits : ReaderOptions) (path : List ℕ) (t : Tree) → length path ≡ 0 → IsValueOf S limits t → IsValueAt S limits path t
value_whole S limits path t none = of_whole (λ p. IsValueOf S limits t → IsValueAt S limits p t) path none (λ h. h)

-- why a copy of the whole wasn't made
pub refused_whole : (S : Segments) (limits : ReaderOptions) (path : List ℕ) (old new : ℕ) (k : ErrorKind) → length path ≡ 0 →
    LacksMemoryOr old new k (RefusesCanon S limits k) → LacksMemoryOr old new k (RefusesCopyAt S limits path k)
refused_whole S limits path old new k none = of_whole (λ p. LacksMemoryOr old new k (RefusesCanon S limits k) → LacksMemoryOr old new k (RefusesCopyAt S limits p k)) path none (λ h. h)

-- why a copy of the part wasn't made
pub refused_part : (S : Segments) (limits : ReaderOptions) (path : List ℕ) (old new : ℕ) (k : ErrorKind) → 0 < length path →
    LacksMemoryOr old new k (RefusesPart S limits path k) → LacksMemoryOr old new k (RefusesCopyAt S limits path k)
refused_part S limits path old new k some (inl memory) = inl memory
refused_part S limits path old new k some (inr (refused, same)) =
    inr (of_part (λ p. RefusesCopyAt S limits p k) (λ p. RefusesPart S limits p k) path (λ i rest h. h) some refused, same)

-- the size of the part, and why it wasn't measured
pub size_of_part_is : (S : Segments) (limits : ReaderOptions) (path : List ℕ) (result : Result MessageSize ErrorKind) → 0 < length path →
    part_size S limits path ≡ result → IfOk result (λ z. HasSizeAt S limits path z.word_count z.cap_count)
size_of_part_is S limits [] result some is = absurd (omega (arith, some))
size_of_part_is S limits (i ∷ path) (Ok z) some is = is
size_of_part_is S limits (i ∷ path) (Err k) some is = tt

pub refused_size_of_part : (S : Segments) (limits : ReaderOptions) (path : List ℕ) (result : Result MessageSize ErrorKind) → 0 < length path →
    part_size S limits path ≡ result → IfErr result (RefusesSizeAt S limits path)
refused_size_of_part S limits [] result some is = absurd (omega (arith, some))
refused_size_of_part S limits (i ∷ path) (Ok z) some is = tt
refused_size_of_part S limits (i ∷ path) (Err k) some is = is

-- a copy that is asked for isn't refused if there is one
copy_answered : (S : Segments) (limits : ReaderOptions) (path : List ℕ) (k : ErrorKind) → HasCopyAt S limits path → RefusesCopyAt S limits path k → ⊥
copy_answered S limits [] k (t, value, fits) refused = canon_refused S limits t k value fits refused
copy_answered S limits (i ∷ path) k (t, value, fits) refused = part_granted S limits (i ∷ path) t k value fits refused

-- nor is a size
size_answered : (S : Segments) (limits : ReaderOptions) (path : List ℕ) (k : ErrorKind) → HasSomeSizeAt S limits path → RefusesSizeAt S limits path k → ⊥
size_answered S limits [] k has refused = size_refused S limits has refused
size_answered S limits (i ∷ path) k has refused = false≢true (subst (λ (r : Result MessageSize ErrorKind). IsOk r) refused has)

-- if there is an answer, the only refusal is AllocationFailed
pub asked_refused : (command : Command) (task : Task) (S : Segments) {k : ErrorKind} →
    HasAskedAnswer command task S → RefusesAsked command task S k → k ≡ AllocationFailed
asked_refused (Canon form) task S has (inl memory) = memory
asked_refused (Canon form) task S {k} has (inr refused) = absurd (copy_answered S task.limits (path_indexes task.path) k has refused)
asked_refused Check task S has refused = answer_refused Check task.limits S has refused
asked_refused Size task S {k} has refused = absurd (size_answered S task.limits (path_indexes task.path) k has refused)
asked_refused Digest task S has (inl memory) = memory
asked_refused Digest task S {k} has (inr refused) = absurd (copy_answered S task.limits (path_indexes task.path) k has refused)
asked_refused Validate task S has refused = answer_refused Validate task.limits S has refused
