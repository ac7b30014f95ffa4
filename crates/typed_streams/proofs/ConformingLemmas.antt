-- A stream is read and tested message by message.
use Rattle.std.proofs.Common.{◌≡◌, ◌⊎◌, inl, inr, ◌<◌, ◌≤◌, ℕ, ◌+◌, ◌-◌, ◌^◌, min, Bool, List, [], ◌∷◌, ◌++◌, All, Option, Some, None, IsSomeAnd, length}
use Rattle.std.proofs.Common.{refl, sym, ap, subst, ◌∙◌, append_assoc, append-nil, arith, length-append}
use Rattle.std.specs.Io.KnownBytes.{Appends, Consumes, IsAtEnd, Keeps}
use Rattle.std.proofs.lemmas.List.Elements.{All-append, All-cons, All-nil}
use Rattle.capnp_format.specs.Segments.{Segments}
use Rattle.capnp_framing.specs.Frames.{IsFrameOf, frame}
use Rattle.capnp_framing.specs.Limits.{most_words}
use Rattle.capnp_framing.specs.Reading.{total}
use Rattle.capnp_framing.proofs.ReadingLemmas.{consumes_both}
use Rattle.capnp_framing.proofs.WritingLemmas.{appends_both}
use Rattle.capnp_framing.specs.declared.framing.frame_error.FrameError.TheVariants.{WriteFailed}
use Rattle.capnp_packing.proofs.PackingLemmas.{kept_appends}
use Rattle.capnp_streams.specs.Streams.{AreFrames, Stage}
use Rattle.capnp_streams.proofs.FramesLemmas.{all_left, frame_is_there, frames_behind, front_has}
use Rattle.capnp_streams.proofs.StreamLemmas.{appends_keeps, appends_none, begins, consumes_none, frames_both, length_framed}
use Rattle.typed_streams.specs.Conforming.{AreConforming, AreTested, IsConforming, IsNoMisfit, StopsTest, Wanted, yes_line, yes_lines}
use Rattle.typed_streams.specs.declared.conforming.ConformingFault.{ConformingFault}
use Rattle.typed_streams.specs.declared.conforming.ConformingFault.TheVariants.{Frame, Misfit, TooManyMessages}

-- lines after others
lines_both : (Ss Ts : List Segments) → yes_lines (Ss ++ Ts) ≡ yes_lines Ss ++ yes_lines Ts
lines_both [] Ts = refl
lines_both (S ∷ Ss) Ts =
    ap (λ (x : List ℕ). yes_line ++ x) (lines_both Ss Ts) ∙ sym (append_assoc yes_line (yes_lines Ss) (yes_lines Ts))

-- nothing is tested yet
pub none_tested : (w : Wanted) (from : Stage) → AreTested w from from 0 0
none_tested w from = record {
  messages = [];
  bytes = [];
  many = refl;
  sized = omega arith;
  framed = refl;
  consumed = consumes_none from.input;
  conform = All-nil (IsConforming w);
  written = appends_none from.output;
}

-- one message is tested
pub one_tested : {w : Wanted} {S : Segments} (old new : Stage) (bytes : List ℕ) (size : ℕ) →
    size < 2 ^ 64 → size ≡ length (frame S) → IsFrameOf S bytes → total S ≤ most_words w.limits →
    Consumes old.input new.input bytes → IsConforming w S → Appends old.output new.output yes_line →
    AreTested w old new 1 size
one_tested {w} {S} old new bytes size few sized framed short consumed conforms written = record {
  messages = S ∷ [];
  bytes = bytes;
  many = refl;
  sized = omega (arith, few, sized, length_framed S bytes framed);
  framed = (bytes, [], sym (append-nil bytes), framed, short, refl);
  consumed = consumed;
  conform = All-cons (IsConforming w) S [] conforms (All-nil (IsConforming w));
  written = subst (λ (x : List ℕ). Appends old.output new.output x) (sym (append-nil yes_line)) written;
}

-- more messages are tested
pub more_tested : {w : Wanted} {old mid new : Stage} {count size more_size : ℕ} →
    AreTested w old mid count size → AreTested w mid new 1 more_size →
    AreTested w old new (count + 1) (min (size + more_size) (2 ^ 64 - 1))
more_tested {w} {old} {mid} {new} {count} {size} {more_size} done more = record {
  messages = done.messages ++ more.messages;
  bytes = done.bytes ++ more.bytes;
  many = omega (arith, length-append done.messages more.messages, done.many, more.many);
  sized = omega (arith, length-append done.bytes more.bytes, done.sized, more.sized);
  framed = frames_both _ done.messages more.messages done.bytes more.bytes done.framed more.framed;
  consumed = consumes_both old.input mid.input new.input done.bytes more.bytes done.consumed more.consumed;
  conform = All-append (IsConforming w) done.messages more.messages done.conform more.conform;
  written = subst (λ (x : List ℕ). Appends old.output new.output x) (sym (lines_both done.messages more.messages))
      (appends_both old.output mid.output new.output (yes_lines done.messages) (yes_lines more.messages) done.written more.written);
}

consumes_all : (a b : Option (List ℕ)) (bytes : List ℕ) → Consumes a b bytes → IsAtEnd b → Consumes a (Some []) bytes
consumes_all None b bytes consumed end = tt
consumes_all (Some x) None bytes consumed end = absurd consumed
consumes_all (Some x) (Some y) bytes consumed end = consumed ∙ ap (λ (bs : List ℕ). bytes ++ bs) end

-- all are tested at the end of the input
pub all_tested : {w : Wanted} {old : Stage} {count size : ℕ} (left between after : Option (List ℕ)) → IsAtEnd left →
    Keeps between after → AreTested w old (record { input = left; output = between }) count size →
    AreTested w old (record { input = Some []; output = after }) count size
all_tested {old = old} left between after end kept done = record {
  messages = done.messages;
  bytes = done.bytes;
  many = done.many;
  sized = done.sized;
  framed = done.framed;
  consumed = consumes_all old.input left done.bytes done.consumed end;
  conform = done.conform;
  written = appends_keeps old.output between after (yes_lines done.messages) done.written kept;
}

-- what is tested after an output has kept what it had
pub tested_after : {w : Wanted} (input a b : Option (List ℕ)) {new : Stage} {count size : ℕ} → Keeps a b →
    AreTested w (record { input = input; output = b }) new count size → AreTested w (record { input = input; output = a }) new count size
tested_after input a b {new = new} kept done = record {
  messages = done.messages;
  bytes = done.bytes;
  many = done.many;
  sized = done.sized;
  framed = done.framed;
  consumed = done.consumed;
  conform = done.conform;
  written = kept_appends a b new.output (yes_lines done.messages) kept done.written;
}

-- why a test stops after messages that conform
pub ends_test : {P Q K U : Type 0} → P ⊎ (Q × K) → P ⊎ (K × (Q ⊎ U))
ends_test (inl p) = inl p
ends_test (inr (stops, kept)) = inr (kept, inl stops)

-- the test of messages that conform stops only for memory or a device
stops_so : (w : Wanted) (more : List Segments) (left : List ℕ) (after : Option (List ℕ)) (failed : Bool) (fault : ConformingFault) →
    AreFrames (most_words w.limits) more left → All (IsConforming w) more → StopsTest w (Some left) after failed fault → IsNoMisfit fault
stops_so w more left after failed (Frame e) framed all (inl memory) = inl memory
stops_so w more left after failed (Frame e) framed all (inr (inl (named, device))) = inr (inl named)
stops_so w more left after failed (Frame e) framed all (inr (inr none)) =
    absurd (frame_is_there (most_words w.limits) more left e framed none)
stops_so w more left after failed (Misfit x) framed all (S, bytes, is, short, consumed, differs, blamed) =
    absurd (differs (front_has (IsConforming w) (most_words w.limits) more left S framed all (begins (Some left) after consumed is short)))
stops_so w more left after failed TooManyMessages framed all stops = absurd stops

pub step_conforming : {w : Wanted} {count size : ℕ} {P Q : Type 0} (old : Stage) (left between after : Option (List ℕ))
    (failed : Bool) (fault : ConformingFault) → AreTested w old (record { input = left; output = between }) count size →
    ((fault ≡ Frame WriteFailed) × P) ⊎ (StopsTest w left after failed fault × Q) →
    IsSomeAnd old.input (AreConforming w) → IsNoMisfit fault
step_conforming old left between after failed fault tested (inl (named, device)) = λ can. subst IsNoMisfit (sym named) (inr (inr refl))
step_conforming {w} old left between after failed fault tested (inr (stops, same)) = λ can. go old.input left tested.consumed can stops
  where
    go : (a b : Option (List ℕ)) → Consumes a b tested.bytes → IsSomeAnd a (AreConforming w) → StopsTest w b after failed fault → IsNoMisfit fault
    go None b consumed given stopped = absurd given
    go (Some x) None consumed given stopped = absurd consumed
    go (Some x) (Some y) consumed (messages, framed, all) stopped =
        let (more, is, others) = frames_behind (most_words w.limits) tested.messages messages tested.bytes y x tested.framed framed consumed in
        let rest = all_left (IsConforming w) tested.messages more (subst (All (IsConforming w)) is all) in
        stops_so w more y after failed fault others rest stopped
