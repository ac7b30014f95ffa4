-- What a test of unpacked bytes states about the packed bytes that they come from.
use Rattle.std.proofs.Common.{◌≡◌, ◌∙◌, ◌⊎◌, inl, inr, ℕ, List, [], Bool, true, false, ◌&&◌, Option, Some, None, IfSome, IsSomeAnd, refl, sym, subst}
use Rattle.capnp_framing.specs.Wholeness.{KeepsWhole}
use Rattle.capnp_framing.proofs.WholenessLemmas.{keeps_whole_both}
use Rattle.capnp_framing.specs.declared.framing.frame_error.FrameError.TheVariants.{ReadFailed, Truncated, WriteFailed}
use Rattle.capnp_packing.specs.Packing.{IsWhole, unpacked_bytes, whole_behind}
use Rattle.capnp_packing.specs.declared.packing.place.Place.TheVariants.{Tag}
use Rattle.capnp_streams.specs.Packed.{unpacked_known_input}
use Rattle.capnp_streams.specs.Streams.{Stage}
use Rattle.capnp_streams.proofs.PackedLemmas.{are_cut, device_failed}
use Rattle.capnp_streams.proofs.FramesLemmas.{known_are_read, left_known}
use Rattle.capnp_streams.proofs.StreamLemmas.{keeps_same}
use Rattle.typed_streams.specs.Conforming.{AreTested, CutsTest, EndsTest, StopsTest, Wanted}
use Rattle.typed_streams.specs.declared.conforming.ConformingFault.{ConformingFault}
use Rattle.typed_streams.specs.declared.conforming.ConformingFault.TheVariants.{Frame, Misfit, TooManyMessages}
use Rattle.typed_streams.specs.declared.conforming.ConformingStop.{ConformingStop}

-- From an input that packed bytes unpack to, these messages were tested.
abbrev unpacked_tested : Wanted → Option (List ℕ) → Option (List ℕ) → Stage → ℕ → ℕ → Type 0
unpacked_tested w packed output end count size =
    AreTested w (record { input = unpacked_known_input packed; output = output }) end count size

-- The stop comes after the messages of these many, in this many bytes, with this fault.
abbrev IsStop : ConformingStop → ℕ → ℕ → ConformingFault → Type 0
IsStop stop count size fault = (stop.tested ≡ count) × (stop.byte ≡ size) × (stop.fault ≡ fault)

-- an input over packed bytes may have failed
stops_failed : (w : Wanted) (left after : Option (List ℕ)) (failed : Bool) (fault : ConformingFault) → StopsTest w left after failed fault → StopsTest w left after true fault
stops_failed w left after failed (Frame e) (inl memory) = inl memory
stops_failed w left after failed (Frame e) (inr (inl (named, device))) = inr (inl (named, refl))
stops_failed w left after failed (Frame e) (inr (inr none)) = inr (inr none)
stops_failed w left after failed (Misfit x) stops = stops
stops_failed w left after failed TooManyMessages stops = absurd stops

module _ {w : Wanted} (packed given output : Option (List ℕ)) (same : given ≡ unpacked_known_input packed) where
  tested_of : {end : Stage} {count size : ℕ} → AreTested w (record { input = given; output = output }) end count size →
      unpacked_tested w packed output end count size
  tested_of {end} {count} {size} tested = subst (λ (i : Option (List ℕ)). AreTested w (record { input = i; output = output }) end count size) same tested

  -- the input is cut short after these messages
  pub cut_after : {P : Type 0} {Q : Stage → Type 0} (after : Option (List ℕ)) (before behind : Option Bool) (count size : ℕ) (stop : ConformingStop) →
      before ≡ whole_behind Tag packed → KeepsWhole before behind → KeepsWhole behind (Some false) →
      AreTested w (record { input = given; output = output }) (record { input = Some []; output = after }) count size →
      IsStop stop count size (Frame Truncated) →
      (end : Stage) × unpacked_tested w packed output end stop.tested stop.byte × (P ⊎ CutsTest packed end after stop.fault ⊎ Q end)
  cut_after after before behind count size stop whole kept last tested (number, byte, fault) =
      let both = keeps_whole_both before behind (Some false) kept last in
      let cut = are_cut packed (subst (λ (o : Option Bool). KeepsWhole o (Some false)) whole both) in
      let were : unpacked_tested w packed output (record { input = Some []; output = after }) stop.tested stop.byte = rw (number, byte) (tested_of tested) in
      (record { input = Some []; output = after }, were, inr (inl (fault, cut, refl, keeps_same after)))

  -- or it can't be read after them
  pub fails_after : {P : Type 0} {Q : Stage → Type 0} (after : Option (List ℕ)) (count size : ℕ) (stop : ConformingStop) →
      AreTested w (record { input = given; output = output }) (record { input = Some []; output = after }) count size →
      IsStop stop count size (Frame ReadFailed) →
      (end : Stage) × unpacked_tested w packed output end stop.tested stop.byte
      × (P ⊎ Q end ⊎ ((rest : Option (List ℕ)) × EndsTest w end (record { input = rest; output = after }) true stop))
  fails_after after count size stop tested (number, byte, fault) =
      let stops : StopsTest w (Some []) None true stop.fault = subst (λ (f : ConformingFault). StopsTest w (Some []) None true f) (sym fault) (inr (inl (refl, refl))) in
      let were : unpacked_tested w packed output (record { input = Some []; output = after }) stop.tested stop.byte = rw (number, byte) (tested_of tested) in
      (record { input = Some []; output = after }, were, inr (inr (None, (keeps_same after, inl stops))))

  -- the test of what a packed input unpacks to ends if a frame isn't read, or a message doesn't conform
  pub ends_packed : {P : Type 0} {Q : Stage → Type 0} (left after : Option (List ℕ)) (failed : Bool) (stop : ConformingStop) →
      ((end : Stage) × AreTested w (record { input = given; output = output }) end stop.tested stop.byte
      × (P ⊎ EndsTest w end (record { input = left; output = after }) failed stop)) →
      (end : Stage) × unpacked_tested w packed output end stop.tested stop.byte
      × (P ⊎ Q end ⊎ ((rest : Option (List ℕ)) × EndsTest w end (record { input = rest; output = after }) true stop))
  ends_packed {P} {Q} left after failed stop (end, tested, ended) = (end, tested_of tested, go ended)
    where
      go : P ⊎ EndsTest w end (record { input = left; output = after }) failed stop →
          P ⊎ Q end ⊎ ((rest : Option (List ℕ)) × EndsTest w end (record { input = rest; output = after }) true stop)
      go (inl written) = inl written
      go (inr (kept, inl stops)) = inr (inr (left, (kept, inl (stops_failed w end.input left failed stop.fault stops))))
      go (inr (kept, inr many)) = inr (inr (left, (kept, inr many)))

-- packed bytes that are cut short aren't whole
pub cut_or_whole : (C : List ℕ → Type 0) (packed : Option (List ℕ)) (before behind : Option Bool) → before ≡ whole_behind Tag packed →
    KeepsWhole before behind → KeepsWhole behind (Some false) → IsSomeAnd packed (λ bytes. IsWhole Tag bytes × C bytes) → ⊥
cut_or_whole C None before behind whole kept last given = absurd given
cut_or_whole C (Some bytes) before behind whole kept last (is, more) =
    let both = keeps_whole_both before behind (Some false) kept last in
    are_cut (Some bytes) (subst (λ (o : Option Bool). KeepsWhole o (Some false)) whole both) is

-- a cut isn't a failed read
pub cut_is_no_failure : {f : ConformingFault} → f ≡ Frame Truncated → f ≡ Frame ReadFailed → ⊥
cut_is_no_failure cut failed = let wrong : Frame Truncated ≡ Frame ReadFailed = sym cut ∙ failed in cc

-- known bytes are never refused with ReadFailed
stop_failed : (w : Wanted) (left after : Option (List ℕ)) (failed : Bool) → (left ≡ None → ⊥) →
    StopsTest w left after failed (Frame ReadFailed) → failed ≡ true
stop_failed w left after failed known (inl memory) = cc
stop_failed w left after failed known (inr (inl (same, is))) = is
stop_failed w None after failed known (inr (inr none)) = absurd (known refl)
stop_failed w (Some bytes) after failed known (inr (inr none)) = absurd (known_are_read none)

-- if the test of known packed bytes stops with ReadFailed, the packed input has failed
pub read_failed : {P R : Type 0} {w : Wanted} (has_failed : R → Bool) (told : Bool) (device : R)
    (packed given output left after : Option (List ℕ)) (stop : ConformingStop) → given ≡ unpacked_known_input packed →
    ((end : Stage) × AreTested w (record { input = given; output = output }) end stop.tested stop.byte
    × (((stop.fault ≡ Frame WriteFailed) × P)
    ⊎ EndsTest w end (record { input = left; output = after }) (told && has_failed device) stop)) →
    stop.fault ≡ Frame ReadFailed → IfSome packed (λ bytes. (d : R) × (has_failed d ≡ true))
read_failed has_failed told device packed given output left after stop same (end, tested, inl (written, such)) is =
    let wrong : Frame WriteFailed ≡ Frame ReadFailed = sym written ∙ is in absurd (cc)
read_failed has_failed told device packed given output left after stop same (end, tested, inr (kept, inr (many, count))) is =
    let wrong : TooManyMessages ≡ Frame ReadFailed = sym many ∙ is in absurd (cc)
read_failed has_failed told device None given output left after stop same (end, tested, inr (kept, inl stops)) is = tt
read_failed {w = w} has_failed told device (Some bytes) given output left after stop same (end, tested, inr (kept, inl stops)) is =
    let known = left_known given end.input (unpacked_bytes Tag bytes) tested.bytes same tested.consumed in
    let failed = stop_failed w end.input left (told && has_failed device) known
    (subst (λ (f : ConformingFault). StopsTest w end.input left (told && has_failed device) f) is stops) in
    device_failed has_failed told device (Some bytes) failed
