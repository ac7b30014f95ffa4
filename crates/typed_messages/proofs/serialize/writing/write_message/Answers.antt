use Rattle.std.proofs.Common.{◌≡◌, ◌⊎◌, inl, inr, length, Result, Ok, Err, IfErr, OnOk, refl, subst}
use Rattle.capnp_format.specs.Bytes.{message}
use Rattle.capnp_framing.specs.Frames.{CanBeFramed, frame}
use Rattle.capnp_framing.specs.Reading.{IsRefusedNumber}
use Rattle.capnp_framing.specs.Writing.{IsUnwritten, Prints}
use Rattle.capnp_framing.specs.declared.framing.frame_error.FrameError.{FrameError}
use Rattle.capnp_framing.specs.declared.framing.frame_error.FrameError.TheVariants.{AllocationFailed, WriteFailed}
use Rattle.typed_messages.proofs.serialize.writing.write_message.Goals as goal

-- One more reason for which nothing is written.
or_no_memory : {X : Type 0} (r : Result X FrameError) (A B C D : FrameError → Type 0) → IfErr r (λ e. A e ⊎ (C e × D e)) → IfErr r (λ e. A e ⊎ ((B e ⊎ C e) × D e))
or_no_memory (Ok x) A B C D refused = tt
or_no_memory (Err k) A B C D (inl a) = inl a
or_no_memory (Err k) A B C D (inr (c, d)) = inr (inr c, d)

no_failure : {X P : Type 0} → ◌≡◌ {A = Result X FrameError} (Err AllocationFailed) (Err WriteFailed) → P
no_failure e = absurd (cc)

pub write-requires-clause-works : goal.write-requires-clause-works
write-requires-clause-works g c = c.requires

pub write-requires-clause-small : goal.write-requires-clause-small
write-requires-clause-small g c = c.in-Ok.ensures.small

pub returns-in-Ok : goal.returns-in-Ok
returns-in-Ok g c =
    let old = c.args.output.now in
    let new = c.write.new.output in
    record {
      written = subst (λ S. OnOk c.write.result (Prints g.W.Output old new (frame (message S)))) c.in-Ok.ensures.bytes c.write.ensures.written;
      framed = subst (λ S. OnOk c.write.result (CanBeFramed (message S))) c.in-Ok.ensures.bytes c.write.ensures.framed;
      works = c.write.ensures.works;
      refused = subst (λ S. IfErr c.write.result (λ e. (e ≡ WriteFailed) ⊎ (((e ≡ AllocationFailed) ⊎ IsRefusedNumber (length S) e) × IsUnwritten g.W.Output old new))) c.in-Ok.ensures.bytes
          (or_no_memory c.write.result (λ e. e ≡ WriteFailed) (λ e. e ≡ AllocationFailed) (λ e. IsRefusedNumber _ e) (λ e. IsUnwritten g.W.Output old new) c.write.ensures.refused);
      failed = c.write.ensures.failed;
    }

pub returns-in-Err : goal.returns-in-Err
returns-in-Err g c = record {
  written = tt;
  framed = tt;
  works = tt;
  refused = inr (inl refl, (refl, refl));
  failed = λ e. no_failure e;
}
