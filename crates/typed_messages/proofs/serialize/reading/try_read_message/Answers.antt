use Rattle.std.proofs.Common.{◌≡◌, ◌≤◌, ℕ, Option, Result, None, Some, Ok, Err, ap, subst, sym}
use Rattle.capnp_format.specs.Segments.{Segments}
use Rattle.capnp_arena.specs.declared.arena.reader_arena_impl.ReaderOptions.{ReaderOptions}
use Rattle.capnp_arena.specs.declared.arena.reader_segments.ReaderSegments as segments
use Rattle.capnp_framing.specs.Limits.{most_words}
use Rattle.capnp_framing.specs.Reading.{IsFrameRead, NoFrameRead, total}
use Rattle.capnp_framing.specs.declared.devices.Input as input
use Rattle.typed_messages.specs.Reading.{HasLimits, IsMessageRead, words_of_message}
use Rattle.typed_messages.specs.declared.message.MessageReader.{MessageReader}
use Rattle.typed_messages.proofs.serialize.reading.try_read_message.Goals as goal

-- A message made of the segments of a frame is the message that was read.
is_read : {R S : Type 0} (g : input.Ghosts R) (s : segments.Ghosts S) (from to : R) (options : ReaderOptions) (m : MessageReader S s) (W : Segments) (n : ℕ) → words_of_message s m ≡ W → n ≡ most_words options → IsFrameRead g from to W → total W ≤ n → HasLimits s m options → IsMessageRead g s from to options m
is_read g s from to options m W n words most frame short limits = record {
  frame = subst (IsFrameRead g from to) (sym words) frame;
  short = subst (λ k. k ≤ most_words options) (sym (ap total words)) (subst (λ k. total W ≤ k) most short);
  limits = limits;
}

some_not_none : {A E : Type 0} {P : Type 0} (a : A) → ◌≡◌ {A = Result (Option A) E} (Ok (Some a)) (Ok None) → P
some_not_none a e = absurd (cc)

err_not_none : {A E : Type 0} {P : Type 0} (k : E) → ◌≡◌ {A = Result (Option A) E} (Err k) (Ok None) → P
err_not_none k e = absurd (cc)

pub read-requires : goal.read-requires
read-requires g c = c.requires

pub new-requires : goal.new-requires
new-requires g c = rw c.in-Ok-Some.field-0-is at c.in-Ok-Some.ensures.small

pub returns-in-Ok-Some : goal.returns-in-Ok-Some
returns-in-Ok-Some g c = record {
  end = λ e. some_not_none _ e;
  read = is_read g.R.Input _ _ _ _ _ _ _ c.new.ensures.words c.most_words.ensures (rw c.in-Ok-Some.field-0-is at c.in-Ok-Some.ensures.read) (rw c.in-Ok-Some.field-0-is at c.in-Ok-Some.ensures.most) c.new.ensures.limits;
  input = record { whole = c.in-Ok-Some.ensures.input.whole; works = c.in-Ok-Some.ensures.input.works };
  refused = tt;
}

pub returns-in-Ok-None : goal.returns-in-Ok-None
returns-in-Ok-None g c = record {
  end = λ e. c.in-Ok-None.ensures.end (ap Ok c.in-Ok-None.field-0-is);
  read = tt;
  input = record { whole = c.in-Ok-None.ensures.input.whole; works = c.in-Ok-None.ensures.input.works };
  refused = tt;
}

pub returns-in-Err : goal.returns-in-Err
returns-in-Err g c = record {
  end = λ e. err_not_none _ e;
  read = tt;
  input = record { whole = tt; works = tt };
  refused = subst (λ n. NoFrameRead g.R.Input c.args.input.now c.read.new.input n c.in-Err.error) c.most_words.ensures c.in-Err.ensures.refused;
}
