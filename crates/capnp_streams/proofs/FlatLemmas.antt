-- An input that is one message without a frame is answered, or is not.
use Rattle.std.proofs.Common.{◌≡◌, ◌⊎◌, inl, inr, ℕ, List, [], ◌∷◌, Bool, Option, Some, None, IfSome, IsSomeAnd, Result, Ok, Err, IfOk, refl, sym, subst}
use Rattle.std.specs.Io.KnownBytes.{Appends, Consumes, IsAtEnd}
use Rattle.capnp_format.specs.Bytes.{message}
use Rattle.capnp_framing.proofs.BareLemmas.{all_so, bare_words_are_read}
use Rattle.capnp_framing.specs.Bare.{AreBareWords}
use Rattle.capnp_framing.specs.declared.framing.frame_error.FrameError.TheVariants.{WriteFailed}
use Rattle.capnp_streams.proofs.AnsweredLemmas.{job_refused}
use Rattle.capnp_streams.specs.Flat.{CanFlatBeAnswered, IsFlatDone, StopsFlat}
use Rattle.capnp_streams.specs.Jobs.{most_of}
use Rattle.capnp_streams.specs.declared.streams.task.Job.{Job}
use Rattle.capnp_streams.specs.Streams.{IsOfDevices, JobAnswerIs, JobRefuses, RefusesJob}
use Rattle.capnp_streams.specs.declared.streams.stream_error.StreamError.{StreamError}
use Rattle.capnp_streams.specs.declared.streams.stream_error.StreamError.TheVariants.{Frame, Layout, TooManyMessages}

-- the message is answered
pub flat_done : {E : Type 0} (job : Job) (result : Result Bool E) (from to before after : Option (List ℕ)) (segments : List (List ℕ)) (bytes : List ℕ) →
    AreBareWords bytes (most_of job) → Consumes from to bytes → segments ≡ bytes ∷ [] →
    IfOk result (λ holds. (answer : List ℕ) × JobAnswerIs job (message segments) holds answer × Appends before after answer) →
    IfOk result (IsFlatDone job (record { input = from; output = before }) (record { input = to; output = after }))
flat_done job (Err e) from to before after segments bytes bare consumed only answered = tt
flat_done job (Ok holds) from to before after segments bytes bare consumed only (answer, is, written) = record {
  bytes = bytes;
  answer = answer;
  bare = bare;
  consumed = consumed;
  answered = subst (λ (B : List (List ℕ)). JobAnswerIs job (message B) holds answer) only is;
  written = written;
}

-- the message is refused
pub flat_refused : {P Q : Type 0} (job : Job) (from to : Option (List ℕ)) (segments : List (List ℕ)) (bytes : List ℕ) (failed : Bool) (fault : StreamError) →
    AreBareWords bytes (most_of job) → Consumes from to bytes → IsAtEnd to → segments ≡ bytes ∷ [] →
    P ⊎ (RefusesJob job (message segments) fault × Q) → P ⊎ (StopsFlat job from failed fault × Q)
flat_refused job from to segments bytes failed fault bare consumed end only (inl written) = inl written
flat_refused job from to segments bytes failed (Frame e) bare consumed end only (inr (refused, kept)) = absurd refused
flat_refused job from to segments bytes failed (Layout k p) bare consumed end only (inr (refused, kept)) =
    let all : IfSome from (λ all. all ≡ bytes) = all_so from to bytes (λ all. all ≡ bytes) consumed end refl in
    inr ((bytes, all, bare, subst (λ (B : List (List ℕ)). JobRefuses job (message B) k p) only refused), kept)
flat_refused job from to segments bytes failed TooManyMessages bare consumed end only (inr (refused, kept)) = absurd refused

-- a message that has an answer is never refused for what it holds
answerable_so : (job : Job) (bytes : List ℕ) (failed : Bool) (fault : StreamError) → CanFlatBeAnswered job bytes →
    StopsFlat job (Some bytes) failed fault → IsOfDevices fault
answerable_so job bytes failed (Frame e) can (inl memory) = inl memory
answerable_so job bytes failed (Frame e) can (inr (inl (named, device))) = inr (inl named)
answerable_so job bytes failed (Frame e) (bare, has) (inr (inr none)) =
    absurd (bare_words_are_read bytes (most_of job) e bare none)
answerable_so job bytes failed (Layout k p) (bare, has) (all, same, are, refused) =
    job_refused job (message (bytes ∷ [])) k p has
    (subst (λ (bs : List ℕ). JobRefuses job (message (bs ∷ [])) k p) (sym same) refused)
answerable_so job bytes failed TooManyMessages can stops = absurd stops

pub flat_answerable : {P Q : Type 0} (job : Job) (input : Option (List ℕ)) (failed : Bool) (fault : StreamError) →
    ((fault ≡ Frame WriteFailed) × P) ⊎ (StopsFlat job input failed fault × Q) →
    IsSomeAnd input (CanFlatBeAnswered job) → IsOfDevices fault
flat_answerable job input failed fault (inl (named, device)) = λ can. subst IsOfDevices (sym named) (inr (inr refl))
flat_answerable job None failed fault (inr (stops, kept)) = λ can. absurd can
flat_answerable job (Some bytes) failed fault (inr (stops, kept)) = λ can. answerable_so job bytes failed fault can stops
