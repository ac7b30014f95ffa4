-- What a run over unpacked bytes states about the packed bytes that they come from.
use Rattle.std.proofs.Common.{◌≡◌, ◌∙◌, ◌⊎◌, inl, inr, ℕ, List, [], Bool, true, false, ◌&&◌, Option, Some, None, IfSome, ap, refl, sym, subst}
use Rattle.std.specs.Option.{option_map}
use Rattle.capnp_framing.specs.Wholeness.{KeepsWhole}
use Rattle.capnp_packing.specs.Packing.{IsWhole, is_tag, place_at_end, unpacked_bytes, whole_behind}
use Rattle.capnp_packing.specs.declared.packing.place.Place.TheVariants.{Tag}
use Rattle.capnp_framing.proofs.WholenessLemmas.{keeps_whole_both}
use Rattle.capnp_framing.specs.declared.framing.frame_error.FrameError.TheVariants.{ReadFailed, Truncated, WriteFailed}
use Rattle.capnp_streams.proofs.FramesLemmas.{known_are_read, left_known}
use Rattle.capnp_streams.proofs.StreamLemmas.{keeps_same}
use Rattle.capnp_streams.specs.declared.streams.task.Job.{Job}
use Rattle.capnp_streams.specs.Packed.{IsCutAfter}
use Rattle.capnp_streams.specs.Streams.{AreDone, EndsAfter, Stage, StopsAt, WereAnswered}
use Rattle.capnp_streams.specs.declared.streams.stream_error.StreamError.{StreamError}
use Rattle.capnp_streams.specs.declared.streams.stream_error.StreamError.TheVariants.{Frame, Layout, TooManyMessages}
use Rattle.capnp_streams.specs.declared.streams.runs.Stop.{Stop}
use Rattle.capnp_streams.specs.declared.streams.runs.Summary.{Summary}

pub are_cut : (packed : Option (List ℕ)) → KeepsWhole (whole_behind Tag packed) (Some false) →
    IfSome packed (λ bytes. IsWhole Tag bytes → ⊥)
are_cut None kept = tt
are_cut (Some bytes) kept = λ whole.
    let same : false ≡ is_tag (place_at_end Tag bytes) = cc in
    let wrong : false ≡ true = same ∙ ap is_tag whole in
    cc

-- all messages that a packed input unpacks to are answered
packed_answered : {job : Job} (packed given output after : Option (List ℕ)) (summary : Summary) (stop : Stop) →
    given ≡ option_map (unpacked_bytes Tag) packed →
    AreDone job (record { input = given; output = output }) (record { input = Some []; output = after }) summary →
    stop.answered ≡ summary.messages → stop.byte ≡ summary.bytes →
    WereAnswered job (record { input = option_map (unpacked_bytes Tag) packed; output = output })
    (record { input = Some []; output = after }) stop
packed_answered {job} packed given output after summary stop same done answered byte =
    let end : Stage = record { input = Some []; output = after } in
    let there : AreDone job (record { input = option_map (unpacked_bytes Tag) packed; output = output }) end
    (record { messages = summary.messages; bytes = summary.bytes; holds = summary.holds }) =
    subst (λ (i : Option (List ℕ)). AreDone job (record { input = i; output = output }) end summary) same done in
    (summary.holds, rw (answered, byte) there)

-- the input is cut short after these
pub cut_behind : {P : Type 0} {Q : Stage → Type 0} {job : Job} (packed given output after : Option (List ℕ)) (before behind : Option Bool)
    (summary : Summary) (stop : Stop) → given ≡ option_map (unpacked_bytes Tag) packed → before ≡ whole_behind Tag packed →
    KeepsWhole before behind → KeepsWhole behind (Some false) →
    AreDone job (record { input = given; output = output }) (record { input = Some []; output = after }) summary →
    stop.answered ≡ summary.messages → stop.byte ≡ summary.bytes → stop.fault ≡ Frame Truncated →
    (end : Stage)
    × WereAnswered job (record { input = option_map (unpacked_bytes Tag) packed; output = output }) end stop
    × (P ⊎ IsCutAfter packed end after stop.fault ⊎ Q end)
cut_behind packed given output after before behind summary stop same whole kept last done answered byte fault =
    let both = keeps_whole_both before behind (Some false) kept last in
    let cut = are_cut packed (subst (λ (o : Option Bool). KeepsWhole o (Some false)) whole both) in
    (record { input = Some []; output = after }, packed_answered packed given output after summary stop same done answered byte, inr (inl (fault, cut, refl, keeps_same after)))

-- or it can't be read after these
pub fails_behind : {P : Type 0} {Q : Stage → Type 0} {job : Job} (packed given output after : Option (List ℕ))
    (summary : Summary) (stop : Stop) → given ≡ option_map (unpacked_bytes Tag) packed →
    AreDone job (record { input = given; output = output }) (record { input = Some []; output = after }) summary →
    stop.answered ≡ summary.messages → stop.byte ≡ summary.bytes → stop.fault ≡ Frame ReadFailed →
    (end : Stage)
    × WereAnswered job (record { input = option_map (unpacked_bytes Tag) packed; output = output }) end stop
    × (P ⊎ Q end ⊎ ((rest : Option (List ℕ)) × EndsAfter job end (record { input = rest; output = after }) true stop))
fails_behind {job = job} packed given output after summary stop same done answered byte fault =
    let stops : StopsAt job (Some []) None true stop.fault =
    subst (λ (f : StreamError). StopsAt job (Some []) None true f) (sym fault) (inr (inl (refl, refl))) in
    (record { input = Some []; output = after }, packed_answered packed given output after summary stop same done answered byte, inr (inr (None, (keeps_same after, inl stops))))

-- a run over what a packed input unpacks to ends if a frame isn't read, or a message isn't answered
stops_failed : (job : Job) (left after : Option (List ℕ)) (failed : Bool) (fault : StreamError) →
    StopsAt job left after failed fault → StopsAt job left after true fault
stops_failed job left after failed (Frame e) (inl memory) = inl memory
stops_failed job left after failed (Frame e) (inr (inl (named, device))) = inr (inl (named, refl))
stops_failed job left after failed (Frame e) (inr (inr none)) = inr (inr none)
stops_failed job left after failed (Layout k p) stops = stops
stops_failed job left after failed TooManyMessages stops = absurd stops

pub ends_packed : {P : Type 0} {Q : Stage → Type 0} {job : Job} (packed given output left after : Option (List ℕ)) (failed : Bool) (stop : Stop) →
    given ≡ option_map (unpacked_bytes Tag) packed →
    ((end : Stage) × WereAnswered job (record { input = given; output = output }) end stop
    × (P ⊎ EndsAfter job end (record { input = left; output = after }) failed stop)) →
    (end : Stage)
    × WereAnswered job (record { input = option_map (unpacked_bytes Tag) packed; output = output }) end stop
    × (P ⊎ Q end ⊎ ((rest : Option (List ℕ)) × EndsAfter job end (record { input = rest; output = after }) true stop))
ends_packed {P} {Q} {job} packed given output left after failed stop same (end, were, ended) =
    (end, subst (λ (i : Option (List ℕ)). WereAnswered job (record { input = i; output = output }) end stop) same were, go ended)
  where
    go : P ⊎ EndsAfter job end (record { input = left; output = after }) failed stop →
        P ⊎ Q end ⊎ ((rest : Option (List ℕ)) × EndsAfter job end (record { input = rest; output = after }) true stop)
    go (inl written) = inl written
    go (inr (kept, inl stops)) = inr (inr (left, (kept, inl (stops_failed job end.input left failed stop.fault stops))))
    go (inr (kept, inr many)) = inr (inr (left, (kept, inr many)))

stop_failed : (job : Job) (left after : Option (List ℕ)) (failed : Bool) → (left ≡ None → ⊥) →
    StopsAt job left after failed (Frame ReadFailed) → failed ≡ true
stop_failed job left after failed known (inl memory) = cc
stop_failed job left after failed known (inr (inl (same, is))) = is
stop_failed job None after failed known (inr (inr none)) = absurd (known refl)
stop_failed job (Some bytes) after failed known (inr (inr none)) = absurd (known_are_read none)

-- an input over packed bytes has failed only if the packed input has
failed_below : (told failed : Bool) → (told && failed) ≡ true → failed ≡ true
failed_below true failed is = is
failed_below false failed is = cc

pub device_failed : {R : Type 0} (has_failed : R → Bool) (told : Bool) (device : R) (packed : Option (List ℕ)) →
    (told && has_failed device) ≡ true → IfSome packed (λ bytes. (d : R) × (has_failed d ≡ true))
device_failed has_failed told device None is = tt
device_failed has_failed told device (Some bytes) is = (device, failed_below told (has_failed device) is)

-- if a run over known packed bytes stops with ReadFailed, the packed input has failed
pub read_failed : {P R : Type 0} {job : Job} (has_failed : R → Bool) (told : Bool) (device : R)
    (packed given output left after : Option (List ℕ)) (stop : Stop) → given ≡ option_map (unpacked_bytes Tag) packed →
    ((end : Stage) × WereAnswered job (record { input = given; output = output }) end stop
    × (((stop.fault ≡ Frame WriteFailed) × P)
    ⊎ EndsAfter job end (record { input = left; output = after }) (told && has_failed device) stop)) →
    stop.fault ≡ Frame ReadFailed → IfSome packed (λ bytes. (d : R) × (has_failed d ≡ true))
read_failed has_failed told device packed given output left after stop same (end, were, inl (written, such)) is =
    let wrong : Frame WriteFailed ≡ Frame ReadFailed = sym written ∙ is in absurd (cc)
read_failed has_failed told device packed given output left after stop same (end, were, inr (kept, inr (many, count))) is =
    let wrong : TooManyMessages ≡ Frame ReadFailed = sym many ∙ is in absurd (cc)
read_failed has_failed told device None given output left after stop same (end, were, inr (kept, inl stops)) is = tt
read_failed {job = job} has_failed told device (Some bytes) given output left after stop same (end, (holds, done), inr (kept, inl stops)) is =
    let known = left_known given end.input (unpacked_bytes Tag bytes) done.bytes same done.consumed in
    let failed = stop_failed job end.input left (told && has_failed device) known
    (subst (λ (f : StreamError). StopsAt job end.input left (told && has_failed device) f) is stops) in
    device_failed has_failed told device (Some bytes) failed

-- a cut isn't a failed read
pub cut_not_failed : {f : StreamError} → f ≡ Frame Truncated → f ≡ Frame ReadFailed → ⊥
cut_not_failed cut failed = let wrong : Frame Truncated ≡ Frame ReadFailed = sym cut ∙ failed in cc
