use Rattle.std.proofs.Common.{◌≡◌, inl, inr, Option, None, Some, Result, Ok, Err, IfErr, IfOk, IfSome, refl, subst, sym}
use Rattle.std.specs.Io.KnownBytes.{IsAtEnd}
use Rattle.std.specs.Result.{result_transpose}
use Rattle.capnp_arena.specs.declared.arena.reader_arena_impl.ReaderOptions.{ReaderOptions}
use Rattle.capnp_arena.specs.declared.arena.reader_segments.ReaderSegments as segments
use Rattle.capnp_framing.specs.Limits.{most_words}
use Rattle.capnp_framing.specs.Reading.{NoFrameRead}
use Rattle.capnp_framing.specs.declared.devices.Input as input
use Rattle.capnp_framing.specs.declared.framing.frame_error.FrameError.{FrameError}
use Rattle.typed_messages.specs.Reading.{IsMessageRead}
use Rattle.typed_messages.specs.Steps.{ReadsNext}
use Rattle.typed_messages.specs.declared.message.MessageReader.{MessageReader}
use Rattle.typed_messages.proofs.serialize.stream.next_message.Goals as goal

reads_next : {R S : Type 0} (g : input.Ghosts R) (s : segments.Ghosts S) (options : ReaderOptions) (from to : R) (r : Result (Option (MessageReader S s)) FrameError) → (r ≡ Ok None → IsAtEnd (g.remaining from) × IsAtEnd (g.remaining to)) → IfOk r (λ m. IfSome m (IsMessageRead g s from to options)) → IfErr r (NoFrameRead g from to (most_words options)) → ReadsNext g s options from to (result_transpose r)
reads_next g s options from to (Ok None) ends read refused = ends refl
reads_next g s options from to (Ok (Some m)) ends read refused = read
reads_next g s options from to (Err e) ends read refused = refused

pub returns-then-failed : goal.returns-then-failed
returns-then-failed g c = record {
  why = inr (inl (refl, sym c.if-failed.ensures));
  failed = λ h. refl;
  taken = tt;
}

pub try_read_message-requires : goal.try_read_message-requires
try_read_message-requires g c = sym c.if-failed.ensures

pub returns : goal.returns
returns g c =
    let from = c.args.input.now in
    let to = c.try_read_message.new.input in
    let r = c.try_read_message.result in
    let e = c.try_read_message.ensures in
    subst (ReadsNext g.R.Input _ c.args.options from to) (sym c.transpose.ensures) (reads_next g.R.Input _ c.args.options from to r e.end e.read e.refused)
