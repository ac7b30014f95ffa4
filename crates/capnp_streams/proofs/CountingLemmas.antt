-- A copy that isn't made is counted if memory ran out, and otherwise not.
use Rattle.std.proofs.Common.{◌≡◌, ◌∙◌, inl, inr, ℕ, List, [], ◌∷◌, Bool, ap, refl, sym, subst}
use Rattle.std.proofs.Common.{Option, IsSome, Result, Ok, Err, OnOk, OnErr, IfErr}
use Rattle.std.specs.Option.{option_map_or}
use Rattle.capnp_words.specs.declared.error.ErrorKind.{ErrorKind}
use Rattle.capnp_words.specs.declared.error.ErrorKind.TheVariants.{AllocationFailed}
use Rattle.capnp_format.specs.Segments.{Segments}
use Rattle.capnp_arena.specs.declared.arena.reader_arena_impl.ReaderOptions.{ReaderOptions}
use Rattle.capnp_allocation.specs.Memory.{refusals_for}
use Rattle.capnp_allocation.proofs.Memory.{not_the_allocator}
use Rattle.capnp_framing.specs.declared.framing.frame_error.FrameError.TheVariants.{WriteFailed}
use Rattle.capnp_messages.specs.Copies.{LacksMemoryOr}
use Rattle.capnp_messages.specs.declared.messages.command.Command.{Command}
use Rattle.capnp_messages.specs.Messages.{RefusesCanon}
use Rattle.capnp_streams.specs.Asked.{RefusesCopyAt}
use Rattle.capnp_streams.specs.Streams.{CountsRefusals, refusals_behind}
use Rattle.capnp_streams.proofs.PartLemmas.{never_part}
use Rattle.capnp_streams.specs.declared.streams.stream_error.StreamError.{StreamError}
use Rattle.capnp_streams.specs.declared.streams.stream_error.StreamError.TheVariants.{Frame}

-- a message isn't refused with AllocationFailed for what it holds
never_canon : (S : Segments) (limits : ReaderOptions) → RefusesCanon S limits AllocationFailed → ⊥
never_canon S limits refused = never_part S limits [] refused

never_asked : (S : Segments) (limits : ReaderOptions) (path : List ℕ) → RefusesCopyAt S limits path AllocationFailed → ⊥
never_asked S limits [] refused = never_canon S limits refused
never_asked S limits (i ∷ path) refused = never_part S limits (i ∷ path) refused

pub copy_counted : (S : Segments) (limits : ReaderOptions) (path : List ℕ) {old new : ℕ} {k : ErrorKind} →
    LacksMemoryOr old new k (RefusesCopyAt S limits path k) → new ≡ refusals_for k old
copy_counted S limits path {old} {k = k} (inl (named, risen)) = risen ∙ sym (ap (λ (x : ErrorKind). refusals_for x old) named)
copy_counted S limits path {old} {k = k} (inr (refused, same)) =
    same ∙ sym (not_the_allocator k (λ named. never_asked S limits path (subst (λ (x : ErrorKind). RefusesCopyAt S limits path x) named refused)) old)

-- an output that fails counts nothing
pub written_uncounted : {A E : Type 0} (command : Command) (result : Result Bool StreamError) (written : Result A E) (holds : Bool) →
    OnOk written (result ≡ Ok holds) → OnErr written (result ≡ Err (Frame WriteFailed)) →
    IfErr result (λ fault. (n : ℕ) → refusals_behind command fault n ≡ n)
written_uncounted command result (Ok x) holds is failed =
    subst (λ (r : Result Bool StreamError). IfErr r (λ fault. (n : ℕ) → refusals_behind command fault n ≡ n)) (sym is) tt
written_uncounted command result (Err e) holds is failed =
    subst (λ (r : Result Bool StreamError). IfErr r (λ fault. (n : ℕ) → refusals_behind command fault n ≡ n)) (sym failed) (λ n. refl)

-- a command after which as many refusals are counted as before, for a fault that isn't a lack of
-- memory
pub memory_counted : {A : Type 0} (refusals : A → ℕ) (old new : Option A) (command : Command) (result : Result Bool StreamError) →
    IsSome new → option_map_or refusals new 0 ≡ option_map_or refusals old 0 →
    IfErr result (λ fault. (n : ℕ) → refusals_behind command fault n ≡ n) → CountsRefusals refusals old new (refusals_behind command) result
memory_counted refusals old new command (Ok holds) there same uncounted = record { there = there; kept = same; counted = tt }
memory_counted refusals old new command (Err fault) there same uncounted =
    record { there = there; kept = tt; counted = same ∙ sym (uncounted (option_map_or refusals old 0)) }
